use Rattle.wasi_calls.proofs.CallWords.{asks_answered, bytes_fields}
use Rattle.wasi_calls.proofs.CallWords.{number_fields, reply_of}
use Rattle.wasi_calls.proofs.Contents.{given_if}
use Rattle.wasi_calls.proofs.stream_calls.pipe_call.Goals as goal

pub returns-in-In-clause-asked : goal.returns-in-In-clause-asked
returns-in-In-clause-asked g c = rw c.in-In.is (asks_answered (reply_of number_fields) _ _ (rw (← c.socket_result.ensures) at c.make_input_pipe-made.ensures.asked) c.reply_of.ensures)

pub returns-in-Out-clause-asked : goal.returns-in-Out-clause-asked
returns-in-Out-clause-asked g c = rw c.in-Out.is (asks_answered (reply_of number_fields) _ _ (rw (← c.socket_result-in-Out.ensures) at c.make_output_pipe-made.ensures.asked) c.reply_of-in-Out.ensures)

pub returns-in-Contents-clause-asked : goal.returns-in-Contents-clause-asked
returns-in-Contents-clause-asked g c = rw c.in-Contents.is (given_if (reply_of bytes_fields) _ _ _ (rw (← c.socket_result-in-Contents.ensures) at c.pipe_contents-contents.ensures) c.reply_of-in-Contents.ensures)

pub returns-in-Sink-clause-asked : goal.returns-in-Sink-clause-asked
returns-in-Sink-clause-asked g c = rw c.in-Sink.is (asks_answered (reply_of number_fields) _ _ (rw (← c.socket_result-in-Sink.ensures) at c.make_sink-made.ensures.asked) c.reply_of-in-Sink.ensures)

pub returns-in-ClosedIn-clause-asked : goal.returns-in-ClosedIn-clause-asked
returns-in-ClosedIn-clause-asked g c = rw c.in-ClosedIn.is (asks_answered (reply_of number_fields) _ _ (rw (← c.socket_result-in-ClosedIn.ensures) at c.make_closed_input-made.ensures.asked) c.reply_of-in-ClosedIn.ensures)

pub returns-in-ClosedOut-clause-asked : goal.returns-in-ClosedOut-clause-asked
returns-in-ClosedOut-clause-asked g c = rw c.in-ClosedOut.is (asks_answered (reply_of number_fields) _ _ (rw (← c.socket_result-in-ClosedOut.ensures) at c.make_closed_output-made.ensures.asked) c.reply_of-in-ClosedOut.ensures)
