use Rattle.wasi_calls.proofs.CallWords.{address_values, answer_reply_of, asks_answered, datagram_values, family_fields, given_answered}
use Rattle.wasi_calls.proofs.CallWords.{no_values, number_fields, pair_values, reply_of}
use Rattle.wasi_calls.proofs.socket_calls.udp_call.Goals as goal

pub returns-in-Create-clause-asked : goal.returns-in-Create-clause-asked
returns-in-Create-clause-asked g c = rw c.in-Create.is (asks_answered (answer_reply_of number_fields c.args.ids.now.line) _ _ (rw c.requires.first at c.create_udp_socket-answer.ensures.asked) (rw c.create_udp_socket-answer.ensures.kept.ids at c.answer_reply.ensures))

pub returns-in-StartBind-clause-asked : goal.returns-in-StartBind-clause-asked
returns-in-StartBind-clause-asked g c = rw c.in-StartBind.is (asks_answered (answer_reply_of no_values c.args.ids.now.line) _ _ (rw c.requires.first at c.start_bind-answer.ensures.asked) (rw c.start_bind-answer.ensures.kept.ids at c.answer_reply-in-StartBind.ensures))

pub returns-in-FinishBind-clause-asked : goal.returns-in-FinishBind-clause-asked
returns-in-FinishBind-clause-asked g c = rw (c.in-FinishBind.is, c.finish_bind-done.ensures.state) (given_answered (reply_of no_values) _ _ _ c.finish_bind-done.ensures.answer c.reply_of.ensures)

pub returns-in-LocalAddress-clause-asked : goal.returns-in-LocalAddress-clause-asked
returns-in-LocalAddress-clause-asked g c = rw c.in-LocalAddress.is (asks_answered (reply_of address_values) _ _ c.local_address-told.ensures.asked c.reply_of-in-LocalAddress.ensures)

pub returns-in-RemoteAddress-clause-asked : goal.returns-in-RemoteAddress-clause-asked
returns-in-RemoteAddress-clause-asked g c = rw c.in-RemoteAddress.is (given_answered (reply_of address_values) _ _ _ c.remote_address-told.ensures c.reply_of-in-RemoteAddress.ensures)

pub returns-in-AddressFamily-clause-asked : goal.returns-in-AddressFamily-clause-asked
returns-in-AddressFamily-clause-asked g c = rw c.in-AddressFamily.is (given_answered (reply_of family_fields) _ _ _ c.address_family-told.ensures c.reply_of-in-AddressFamily.ensures)

pub returns-in-Get-clause-asked : goal.returns-in-Get-clause-asked
returns-in-Get-clause-asked g c = rw (c.in-Get.is, ← c.udp_opt.ensures) (asks_answered (reply_of number_fields) _ _ c.get_option-told.ensures.asked c.reply_of-in-Get.ensures)

pub returns-in-Set-clause-asked : goal.returns-in-Set-clause-asked
returns-in-Set-clause-asked g c = rw c.in-Set.is (asks_answered (reply_of no_values) _ _ (rw (c.udp_setting.ensures.option, c.udp_setting.ensures.value) at c.set_option-done.ensures.asked) c.reply_of-in-Set.ensures)

pub returns-in-Stream-clause-asked : goal.returns-in-Stream-clause-asked
returns-in-Stream-clause-asked g c = rw c.in-Stream.is (asks_answered (answer_reply_of pair_values c.args.ids.now.line) _ _ (rw c.requires.first at c.stream-answer.ensures.asked) (rw c.stream-answer.ensures.kept.ids at c.answer_reply-in-Stream.ensures))

pub returns-in-Receive-clause-asked : goal.returns-in-Receive-clause-asked
returns-in-Receive-clause-asked g c = rw c.in-Receive.is (asks_answered (reply_of datagram_values) _ _ (rw c.requires.first at c.receive-received.ensures.asked) c.reply_of-in-Receive.ensures)

pub returns-in-CheckSend-clause-asked : goal.returns-in-CheckSend-clause-asked
returns-in-CheckSend-clause-asked g c = rw (c.in-CheckSend.is, c.check_send-permit.ensures.state) (given_answered (reply_of number_fields) _ _ _ c.check_send-permit.ensures.answer c.reply_of-in-CheckSend.ensures)

pub returns-in-Send-clause-asked : goal.returns-in-Send-clause-asked
returns-in-Send-clause-asked g c = rw (c.in-Send.is, ← c.into_vec.ensures) (asks_answered (reply_of number_fields) _ _ (rw c.requires.first at c.send-sent.ensures.asked) c.reply_of-in-Send.ensures)
