use Rattle.std.proofs.Common.{◌<◌, arith}
use Rattle.wasi_policy.proofs.DecidingLaws.{there_is, taken_more}
use Rattle.wasi_policy.proofs.deciding.taken_from.Goals as goal

pub ports-preserved : goal.ports-preserved
ports-preserved c =
    let matched = there_is c.args.rule.now c.args.usage c.args.family c.args.number c.ports.port c.requires.about c.requires.within c.ports.invariant.begun (omega (arith, c.ports-test.true, c.from.ensures)) in
    let first = c.look-corner.ensures.first c.args.line c.args.rule.now c.requires.begins c.requires.rule matched in
    let before : c.look-corner.result.line < c.args.line = omega (arith, first.1, c.if-corner-line.false) in
    rw (c.min-last.ensures, c.from-port-in-ports.ensures) (taken_more c.args.policy.now c.args.line c.args.usage c.args.family c.args.number c.ports.last c.args.rule.now.low c.ports.port c.look-corner.result.number c.look-corner.result.port c.ports.invariant c.look-corner.ensures.number c.look-corner.ensures.port (omega arith) (c.look-corner.ensures.taken first.0 c.args.line before))
