use Rattle.wasi_calls.proofs.CallWords.{asks_answered}
use Rattle.wasi_machine.specs.Machine.{lookup_reply}
use Rattle.wasi_calls.proofs.p3_calls.p3_resolve.Goals as goal

pub returns-clause-asked : goal.returns-clause-asked
returns-clause-asked g c = asks_answered (lookup_reply c.args.ids.now.line) _ _ (rw c.requires.first at c.resolve_addresses-answer.ensures.asked) (rw c.resolve_addresses-answer.ensures.kept.ids at c.lookup_reply.ensures)
