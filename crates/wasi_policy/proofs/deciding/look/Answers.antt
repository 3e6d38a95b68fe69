use Rattle.wasi_policy.proofs.DecidingLaws.{look_number, look_port, look_taken, look_first}
use Rattle.wasi_policy.proofs.deciding.look.Goals as goal

pub returns-clause-number : goal.returns-clause-number
returns-clause-number c = rw c.last_of.ensures (look_number c.args.policy.now c.args.usage c.args.family c.args.number c.args.port c.address_at.result c.explain-explained.result c.address_at.ensures c.explain-explained.ensures.rule)

pub returns-clause-port : goal.returns-clause-port
returns-clause-port c = look_port c.args.policy.now c.args.usage c.args.family c.args.number c.args.port c.address_at.result c.explain-explained.result c.address_at.ensures c.explain-explained.ensures.rule

pub returns-clause-taken : goal.returns-clause-taken
returns-clause-taken c = rw c.last_of.ensures (look_taken c.args.policy.now c.args.usage c.args.family c.args.number c.args.port c.address_at.result c.explain-explained.result c.address_at.ensures c.explain-explained.ensures.rule)

pub returns-clause-first : goal.returns-clause-first
returns-clause-first c = look_first c.args.policy.now c.args.usage c.args.family c.args.number c.args.port c.address_at.result c.explain-explained.result c.address_at.ensures c.explain-explained.ensures.rule c.explain-explained.ensures.line
