use Rattle.wasi_calls.proofs.CallWords.{asks_answered, bytes_fields}
use Rattle.wasi_calls.proofs.CallWords.{no_values, number_fields, stream_reply_of}
use Rattle.wasi_machine.specs.Machine.{blocked_reply_of}
use Rattle.wasi_calls.proofs.stream_calls.stream_call.Goals as goal

pub returns-in-Read-clause-asked : goal.returns-in-Read-clause-asked
returns-in-Read-clause-asked g c = rw c.in-Read.is (asks_answered (stream_reply_of bytes_fields) _ _ c.read-read.ensures.asked c.stream_reply_of.ensures)

pub returns-in-CheckWrite-clause-asked : goal.returns-in-CheckWrite-clause-asked
returns-in-CheckWrite-clause-asked g c = rw c.in-CheckWrite.is (asks_answered (stream_reply_of number_fields) _ _ c.check_write-permit.ensures.asked c.stream_reply_of-in-CheckWrite.ensures)

pub returns-in-Write-clause-asked : goal.returns-in-Write-clause-asked
returns-in-Write-clause-asked g c = rw c.in-Write.is (asks_answered (stream_reply_of no_values) _ _ c.write-written.ensures.asked c.stream_reply_of-in-Write.ensures)

pub returns-in-Flush-clause-asked : goal.returns-in-Flush-clause-asked
returns-in-Flush-clause-asked g c = rw c.in-Flush.is (asks_answered (stream_reply_of no_values) _ _ c.flush-flushed.ensures.asked c.stream_reply_of-in-Flush.ensures)

pub returns-in-Skip-clause-asked : goal.returns-in-Skip-clause-asked
returns-in-Skip-clause-asked g c = rw c.in-Skip.is (asks_answered (stream_reply_of number_fields) _ _ c.skip-skipped.ensures.asked c.stream_reply_of-in-Skip.ensures)

pub returns-in-WriteZeroes-clause-asked : goal.returns-in-WriteZeroes-clause-asked
returns-in-WriteZeroes-clause-asked g c = rw c.in-WriteZeroes.is (asks_answered (stream_reply_of no_values) _ _ c.write_zeroes-written.ensures.asked c.stream_reply_of-in-WriteZeroes.ensures)

pub returns-in-Splice-clause-asked : goal.returns-in-Splice-clause-asked
returns-in-Splice-clause-asked g c = rw c.in-Splice.is (asks_answered (stream_reply_of number_fields) _ _ c.splice-spliced.ensures.asked c.stream_reply_of-in-Splice.ensures)

pub returns-in-BlockingRead-clause-asked : goal.returns-in-BlockingRead-clause-asked
returns-in-BlockingRead-clause-asked g c = rw c.in-BlockingRead.is (asks_answered (blocked_reply_of bytes_fields c.args.ids.now.line) _ _ (rw c.requires.first at c.blocking_read-read.ensures.asked) (rw c.blocking_read-read.ensures.kept.ids at c.blocked_reply.ensures))

pub returns-in-BlockingSkip-clause-asked : goal.returns-in-BlockingSkip-clause-asked
returns-in-BlockingSkip-clause-asked g c = rw c.in-BlockingSkip.is (asks_answered (blocked_reply_of number_fields c.args.ids.now.line) _ _ (rw c.requires.first at c.blocking_skip-skipped.ensures.asked) (rw c.blocking_skip-skipped.ensures.kept.ids at c.blocked_reply-in-BlockingSkip.ensures))

pub returns-in-BlockingWrite-clause-asked : goal.returns-in-BlockingWrite-clause-asked
returns-in-BlockingWrite-clause-asked g c = rw c.in-BlockingWrite.is (asks_answered (blocked_reply_of no_values c.args.ids.now.line) _ _ (rw c.requires.first at c.blocking_write_and_flush-written.ensures.asked) (rw c.blocking_write_and_flush-written.ensures.kept.ids at c.blocked_reply-in-BlockingWrite.ensures))

pub returns-in-BlockingZeroes-clause-asked : goal.returns-in-BlockingZeroes-clause-asked
returns-in-BlockingZeroes-clause-asked g c = rw c.in-BlockingZeroes.is (asks_answered (blocked_reply_of no_values c.args.ids.now.line) _ _ (rw c.requires.first at c.blocking_write_zeroes_and_flush-written.ensures.asked) (rw c.blocking_write_zeroes_and_flush-written.ensures.kept.ids at c.blocked_reply-in-BlockingZeroes.ensures))

pub returns-in-BlockingFlush-clause-asked : goal.returns-in-BlockingFlush-clause-asked
returns-in-BlockingFlush-clause-asked g c = rw c.in-BlockingFlush.is (asks_answered (blocked_reply_of no_values c.args.ids.now.line) _ _ (rw c.requires.first at c.blocking_flush-flushed.ensures.asked) (rw c.blocking_flush-flushed.ensures.kept.ids at c.blocked_reply-in-BlockingFlush.ensures))

pub returns-in-BlockingSplice-clause-asked : goal.returns-in-BlockingSplice-clause-asked
returns-in-BlockingSplice-clause-asked g c = rw c.in-BlockingSplice.is (asks_answered (blocked_reply_of number_fields c.args.ids.now.line) _ _ (rw c.requires.first at c.blocking_splice-spliced.ensures.asked) (rw c.blocking_splice-spliced.ensures.kept.ids at c.blocked_reply-in-BlockingSplice.ensures))
