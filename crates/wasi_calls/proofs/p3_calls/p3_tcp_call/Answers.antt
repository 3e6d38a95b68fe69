use Rattle.wasi_calls.proofs.CallWords.{address_values, asks_answered, bytes_fields, family_fields, given_answered}
use Rattle.wasi_calls.proofs.CallWords.{no_values, number_fields, pair_values}
use Rattle.wasi_calls.proofs.CallWords.{truth_fields}
use Rattle.wasi_steps.specs.Reply.{handed_fields}
use Rattle.wasi_machine.specs.Machine.{p3_answer_reply, p3_reply, stream_result_reply, slot_reply}
use Rattle.wasi_calls.proofs.p3_calls.p3_tcp_call.Goals as goal

pub returns-in-Create-clause-asked : goal.returns-in-Create-clause-asked
returns-in-Create-clause-asked g c = rw c.in-Create.is (asks_answered (p3_reply number_fields) _ _ c.create-made.ensures.asked c.p3_reply.ensures)

pub returns-in-Bind-clause-asked : goal.returns-in-Bind-clause-asked
returns-in-Bind-clause-asked g c = rw c.in-Bind.is (asks_answered (p3_answer_reply no_values c.args.ids.now.line) _ _ (rw c.requires.first at c.bind-answer.ensures.asked) (rw c.bind-answer.ensures.kept.ids at c.p3_answer_reply.ensures))

pub returns-in-Connect-clause-asked : goal.returns-in-Connect-clause-asked
returns-in-Connect-clause-asked g c = rw c.in-Connect.is (asks_answered (p3_answer_reply no_values c.args.ids.now.line) _ _ c.connect-answer.ensures.asked (rw c.connect-answer.ensures.kept.ids at c.p3_answer_reply-in-Connect.ensures))

pub returns-in-Listen-clause-asked : goal.returns-in-Listen-clause-asked
returns-in-Listen-clause-asked g c = rw c.in-Listen.is (asks_answered (p3_answer_reply number_fields c.args.ids.now.line) _ _ (rw c.requires.first at c.listen-answer.ensures.asked) (rw c.listen-answer.ensures.kept.ids at c.p3_answer_reply-in-Listen.ensures))

pub returns-in-Accept-clause-asked : goal.returns-in-Accept-clause-asked
returns-in-Accept-clause-asked g c = rw c.in-Accept.is (asks_answered (stream_result_reply handed_fields) _ _ (rw c.requires.first at c.poll_produce-polled.ensures.asked) c.stream_result_reply.ensures)

pub returns-in-LocalAddress-clause-asked : goal.returns-in-LocalAddress-clause-asked
returns-in-LocalAddress-clause-asked g c = rw c.in-LocalAddress.is (asks_answered (p3_reply address_values) _ _ c.get_local_address-told.ensures.asked c.p3_reply-in-LocalAddress.ensures)

pub returns-in-RemoteAddress-clause-asked : goal.returns-in-RemoteAddress-clause-asked
returns-in-RemoteAddress-clause-asked g c = rw c.in-RemoteAddress.is (asks_answered (p3_reply address_values) _ _ c.get_remote_address-told.ensures.asked c.p3_reply-in-RemoteAddress.ensures)

pub returns-in-IsListening-clause-asked : goal.returns-in-IsListening-clause-asked
returns-in-IsListening-clause-asked g c = rw c.in-IsListening.is (given_answered (p3_reply truth_fields) _ _ _ c.get_is_listening-told.ensures c.p3_reply-in-IsListening.ensures)

pub returns-in-AddressFamily-clause-asked : goal.returns-in-AddressFamily-clause-asked
returns-in-AddressFamily-clause-asked g c = rw c.in-AddressFamily.is (given_answered (p3_reply family_fields) _ _ _ c.get_address_family-told.ensures c.p3_reply-in-AddressFamily.ensures)

pub returns-in-Get-clause-asked : goal.returns-in-Get-clause-asked
returns-in-Get-clause-asked g c = rw c.in-Get.is (asks_answered (p3_reply number_fields) _ _ c.get_option-told.ensures.asked c.p3_reply-in-Get.ensures)

pub returns-in-Set-clause-asked : goal.returns-in-Set-clause-asked
returns-in-Set-clause-asked g c = rw c.in-Set.is (asks_answered (p3_reply no_values) _ _ c.set_p3-done.ensures.asked c.p3_reply-in-Set.ensures)

pub returns-in-Send-clause-asked : goal.returns-in-Send-clause-asked
returns-in-Send-clause-asked g c = rw c.in-Send.is (asks_answered (p3_reply pair_values) _ _ c.send-made.ensures.asked c.p3_reply-in-Send.ensures)

pub returns-in-Write-clause-asked : goal.returns-in-Write-clause-asked
returns-in-Write-clause-asked g c = rw c.in-Write.is (asks_answered (stream_result_reply number_fields) _ _ (rw c.as_slice.ensures at c.poll_consume-written.ensures.asked) c.stream_result_reply-in-Write.ensures)

pub returns-in-Receive-clause-asked : goal.returns-in-Receive-clause-asked
returns-in-Receive-clause-asked g c = rw c.in-Receive.is (asks_answered (p3_reply pair_values) _ _ c.receive-made.ensures.asked c.p3_reply-in-Receive.ensures)

pub returns-in-Read-clause-asked : goal.returns-in-Read-clause-asked
returns-in-Read-clause-asked g c = rw c.in-Read.is (asks_answered (stream_result_reply bytes_fields) _ _ c.poll_produce-read.ensures.asked c.stream_result_reply-in-Read.ensures)

pub returns-in-Result-clause-asked : goal.returns-in-Result-clause-asked
returns-in-Result-clause-asked g c = rw (c.in-Result.is, c.take_result-taken.ensures.state) (given_answered slot_reply _ _ _ c.take_result-taken.ensures.answer c.slot_reply.ensures)
