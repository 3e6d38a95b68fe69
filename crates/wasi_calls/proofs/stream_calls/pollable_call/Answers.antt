use Rattle.wasi_calls.proofs.CallWords.{answer_reply, answer_reply_of, asks_answered}
use Rattle.wasi_calls.proofs.CallWords.{no_values, number_fields, reply_of}
use Rattle.wasi_calls.proofs.CallWords.{truth_fields}
use Rattle.std.proofs.Common.{sym}
use Rattle.wasi_steps.specs.Reply.{numbers_fields}
use Rattle.wasi_world.specs.declared.ids.Ids.{Ids}
use Rattle.wasi_world.proofs.Walks.{asks_at}
use Rattle.wasi_host.specs.HandleDrops.{drop_asks}
use Rattle.host_store.specs.Views.{state_of}
use Rattle.wasi_calls.proofs.stream_calls.pollable_call.Goals as goal

pub returns-in-Subscribe-clause-asked : goal.returns-in-Subscribe-clause-asked
returns-in-Subscribe-clause-asked g c = rw c.in-Subscribe.is (asks_answered (reply_of number_fields) _ _ (rw (← c.socket_result.ensures) at c.subscribe-made.ensures.asked) c.reply_of.ensures)

pub returns-in-Ready-clause-asked : goal.returns-in-Ready-clause-asked
returns-in-Ready-clause-asked g c = rw c.in-Ready.is (asks_answered (reply_of truth_fields) _ _ (rw (← c.socket_result-in-Ready.ensures, c.requires.first) at c.ready-ready.ensures.asked) c.reply_of-in-Ready.ensures)

pub returns-in-Block-clause-asked : goal.returns-in-Block-clause-asked
returns-in-Block-clause-asked g c = rw c.in-Block.is (asks_answered (answer_reply_of no_values c.args.ids.now.line) _ _ (rw (← c.socket_result-in-Block.ensures, c.requires.first) at c.block-answer.ensures.asked) (rw c.block-answer.ensures.line at c.answer_reply.ensures))

pub returns-in-Drop-clause-asked : goal.returns-in-Drop-clause-asked
returns-in-Drop-clause-asked g c = rw c.in-Drop.is (asks_answered (answer_reply c.args.ids.now.line) _ _ (asks_at (λ (i : Ids). drop_asks (state_of c.args.view.now) i c.in-Drop.handle) (sym c.requires.first) (rw (← c.socket_result-in-Drop.ensures) at c.drop_handle-answer.ensures.asked)) (rw c.drop_handle-answer.ensures.kept.ids at c.answer_reply-in-Drop.ensures))

pub returns-in-PollList-clause-asked : goal.returns-in-PollList-clause-asked
returns-in-PollList-clause-asked g c = rw c.in-PollList.is (asks_answered (answer_reply_of numbers_fields c.args.ids.now.line) _ _ (rw (← c.socket_result-in-PollList.ensures, c.requires.first) at c.poll-answer.ensures.asked) (rw c.poll-answer.ensures.line at c.answer_reply-in-PollList.ensures))
