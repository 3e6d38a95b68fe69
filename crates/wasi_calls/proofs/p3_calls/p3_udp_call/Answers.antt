use Rattle.wasi_calls.proofs.CallWords.{address_values, asks_answered, family_fields, given_answered}
use Rattle.wasi_calls.proofs.CallWords.{no_values, number_fields, received_values}
use Rattle.wasi_machine.specs.Machine.{p3_answer_reply, p3_reply}
use Rattle.wasi_calls.proofs.p3_calls.p3_udp_call.Goals as goal

pub returns-in-Create-clause-asked : goal.returns-in-Create-clause-asked
returns-in-Create-clause-asked g c = rw c.in-Create.is (asks_answered (p3_answer_reply number_fields c.args.ids.now.line) _ _ (rw c.requires.first at c.create-answer.ensures.asked) (rw c.create-answer.ensures.kept.ids at c.p3_answer_reply.ensures))

pub returns-in-Bind-clause-asked : goal.returns-in-Bind-clause-asked
returns-in-Bind-clause-asked g c = rw c.in-Bind.is (asks_answered (p3_answer_reply no_values c.args.ids.now.line) _ _ (rw c.requires.first at c.bind-answer.ensures.asked) (rw c.bind-answer.ensures.kept.ids at c.p3_answer_reply-in-Bind.ensures))

pub returns-in-Connect-clause-asked : goal.returns-in-Connect-clause-asked
returns-in-Connect-clause-asked g c = rw c.in-Connect.is (asks_answered (p3_answer_reply no_values c.args.ids.now.line) _ _ (rw c.requires.first at c.connect-answer.ensures.asked) (rw c.connect-answer.ensures.kept.ids at c.p3_answer_reply-in-Connect.ensures))

pub returns-in-Disconnect-clause-asked : goal.returns-in-Disconnect-clause-asked
returns-in-Disconnect-clause-asked g c = rw c.in-Disconnect.is (asks_answered (p3_reply no_values) _ _ c.disconnect-done.ensures.asked c.p3_reply.ensures)

pub returns-in-Send-clause-asked : goal.returns-in-Send-clause-asked
returns-in-Send-clause-asked g c = rw c.in-Send.is (asks_answered (p3_answer_reply no_values c.args.ids.now.line) _ _ (rw c.requires.first at c.send-answer.ensures.asked) (rw c.send-answer.ensures.kept.ids at c.p3_answer_reply-in-Send.ensures))

pub returns-in-Receive-clause-asked : goal.returns-in-Receive-clause-asked
returns-in-Receive-clause-asked g c = rw c.in-Receive.is (asks_answered (p3_answer_reply received_values c.args.ids.now.line) _ _ (rw c.requires.first at c.receive-answer.ensures.asked) (rw c.receive-answer.ensures.kept.ids at c.p3_answer_reply-in-Receive.ensures))

pub returns-in-LocalAddress-clause-asked : goal.returns-in-LocalAddress-clause-asked
returns-in-LocalAddress-clause-asked g c = rw c.in-LocalAddress.is (asks_answered (p3_reply address_values) _ _ c.get_local_address-told.ensures.asked c.p3_reply-in-LocalAddress.ensures)

pub returns-in-RemoteAddress-clause-asked : goal.returns-in-RemoteAddress-clause-asked
returns-in-RemoteAddress-clause-asked g c = rw c.in-RemoteAddress.is (given_answered (p3_reply address_values) _ _ _ c.get_remote_address-told.ensures c.p3_reply-in-RemoteAddress.ensures)

pub returns-in-AddressFamily-clause-asked : goal.returns-in-AddressFamily-clause-asked
returns-in-AddressFamily-clause-asked g c = rw c.in-AddressFamily.is (given_answered (p3_reply family_fields) _ _ _ c.get_address_family-told.ensures c.p3_reply-in-AddressFamily.ensures)

pub returns-in-Get-clause-asked : goal.returns-in-Get-clause-asked
returns-in-Get-clause-asked g c = rw (c.in-Get.is, ← c.udp_opt.ensures) (asks_answered (p3_reply number_fields) _ _ c.get_option-told.ensures.asked c.p3_reply-in-Get.ensures)

pub returns-in-Set-clause-asked : goal.returns-in-Set-clause-asked
returns-in-Set-clause-asked g c = rw c.in-Set.is (asks_answered (p3_reply no_values) _ _ (rw (c.udp_setting.ensures.option, c.udp_setting.ensures.value) at c.set_option-done.ensures.asked) c.p3_reply-in-Set.ensures)
