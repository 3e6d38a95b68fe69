use Rattle.wasi_calls.proofs.CallWords.{address_values, answer_reply, asks_answered, family_fields, given_answered}
use Rattle.wasi_calls.proofs.CallWords.{no_values, number_fields, pair_values, reply_of, triple_values}
use Rattle.wasi_calls.proofs.CallWords.{truth_fields}
use Rattle.wasi_calls.proofs.socket_calls.tcp_call.Goals as goal

pub returns-in-Create-clause-asked : goal.returns-in-Create-clause-asked
returns-in-Create-clause-asked g c = rw c.in-Create.is (asks_answered (reply_of number_fields) _ _ c.create_tcp_socket-made.ensures.asked c.reply_of.ensures)

pub returns-in-StartBind-clause-asked : goal.returns-in-StartBind-clause-asked
returns-in-StartBind-clause-asked g c = rw c.in-StartBind.is (asks_answered (answer_reply c.args.ids.now.line) _ _ (rw c.requires.first at c.start_bind-answer.ensures.asked) (rw c.start_bind-answer.ensures.kept.ids at c.answer_reply.ensures))

pub returns-in-FinishBind-clause-asked : goal.returns-in-FinishBind-clause-asked
returns-in-FinishBind-clause-asked g c = rw (c.in-FinishBind.is, c.finish_bind-done.ensures.state) (given_answered (reply_of no_values) _ _ _ c.finish_bind-done.ensures.answer c.reply_of-in-FinishBind.ensures)

pub returns-in-StartConnect-clause-asked : goal.returns-in-StartConnect-clause-asked
returns-in-StartConnect-clause-asked g c = rw c.in-StartConnect.is (asks_answered (reply_of no_values) _ _ c.start_connect-done.ensures.asked c.reply_of-in-StartConnect.ensures)

pub returns-in-FinishConnect-clause-asked : goal.returns-in-FinishConnect-clause-asked
returns-in-FinishConnect-clause-asked g c = rw c.in-FinishConnect.is (asks_answered (reply_of pair_values) _ _ c.finish_connect-made.ensures.asked c.reply_of-in-FinishConnect.ensures)

pub returns-in-StartListen-clause-asked : goal.returns-in-StartListen-clause-asked
returns-in-StartListen-clause-asked g c = rw c.in-StartListen.is (asks_answered (answer_reply c.args.ids.now.line) _ _ (rw c.requires.first at c.start_listen-answer.ensures.asked) (rw c.start_listen-answer.ensures.kept.ids at c.answer_reply-in-StartListen.ensures))

pub returns-in-FinishListen-clause-asked : goal.returns-in-FinishListen-clause-asked
returns-in-FinishListen-clause-asked g c = rw (c.in-FinishListen.is, c.finish_listen-done.ensures.state) (given_answered (reply_of no_values) _ _ _ c.finish_listen-done.ensures.answer c.reply_of-in-FinishListen.ensures)

pub returns-in-Accept-clause-asked : goal.returns-in-Accept-clause-asked
returns-in-Accept-clause-asked g c = rw c.in-Accept.is (asks_answered (reply_of triple_values) _ _ (rw c.requires.first at c.accept-made.ensures.asked) c.reply_of-in-Accept.ensures)

pub returns-in-LocalAddress-clause-asked : goal.returns-in-LocalAddress-clause-asked
returns-in-LocalAddress-clause-asked g c = rw c.in-LocalAddress.is (asks_answered (reply_of address_values) _ _ c.local_address-told.ensures.asked c.reply_of-in-LocalAddress.ensures)

pub returns-in-RemoteAddress-clause-asked : goal.returns-in-RemoteAddress-clause-asked
returns-in-RemoteAddress-clause-asked g c = rw c.in-RemoteAddress.is (asks_answered (reply_of address_values) _ _ c.remote_address-told.ensures.asked c.reply_of-in-RemoteAddress.ensures)

pub returns-in-IsListening-clause-asked : goal.returns-in-IsListening-clause-asked
returns-in-IsListening-clause-asked g c = rw (c.in-IsListening.is, c.is_listening-told.ensures.state) (given_answered (reply_of truth_fields) _ _ _ c.is_listening-told.ensures.answer c.reply_of-in-IsListening.ensures)

pub returns-in-AddressFamily-clause-asked : goal.returns-in-AddressFamily-clause-asked
returns-in-AddressFamily-clause-asked g c = rw (c.in-AddressFamily.is, c.address_family-told.ensures.state) (given_answered (reply_of family_fields) _ _ _ c.address_family-told.ensures.answer c.reply_of-in-AddressFamily.ensures)

pub returns-in-Get-clause-asked : goal.returns-in-Get-clause-asked
returns-in-Get-clause-asked g c = rw c.in-Get.is (asks_answered (reply_of number_fields) _ _ c.get_option-told.ensures.asked c.reply_of-in-Get.ensures)

pub returns-in-Set-clause-asked : goal.returns-in-Set-clause-asked
returns-in-Set-clause-asked g c = rw c.in-Set.is (asks_answered (reply_of no_values) _ _ c.set-done.ensures.asked c.reply_of-in-Set.ensures)

pub returns-in-Shutdown-clause-asked : goal.returns-in-Shutdown-clause-asked
returns-in-Shutdown-clause-asked g c = rw c.in-Shutdown.is (asks_answered (reply_of no_values) _ _ c.shutdown-done.ensures.asked c.reply_of-in-Shutdown.ensures)
