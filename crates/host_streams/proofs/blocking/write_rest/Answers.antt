use Rattle.std.proofs.Common.{arith}
use Rattle.host_store.specs.Views.{state_of}
use Rattle.host_streams.proofs.WriteRests.{rounds_on, rounds_none}
use Rattle.host_streams.proofs.blocking.write_rest.Goals as goal

pub returns-in_err-to-clause-asked : goal.returns-in_err-to-clause-asked
returns-in_err-to-clause-asked g c =
    rounds_none c.args.ids.now 4096 (state_of c.args.view.now) c.args.rest c.args.output _ c.from_residual.result
    (λ e. omega (arith, e)) c.in_err-to.ensures.none c.from_residual.ensures.1 c.in_err-to.ensures.err

pub returns-clause-asked : goal.returns-clause-asked
returns-clause-asked g c =
    rounds_on c.args.ids.now 4096 (state_of c.args.view.now) c.args.rest c.write_rounds.result
    c.in_ok-to.ensures.named.0 c.write_rounds.ensures.asked
