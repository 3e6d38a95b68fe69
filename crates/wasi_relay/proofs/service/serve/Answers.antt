use Rattle.wasi_relay.proofs.Relaying.{set_up_then, not_set_up}
use Rattle.wasi_relay.proofs.service.serve.Goals as goal

pub returns-in-Ok : goal.returns-in-Ok
returns-in-Ok g c = set_up_then c.args.order c.in-Ok.listener c.in-Ok.ensures (rw c.requires at c.make_turns.ensures)

pub returns-in-Err : goal.returns-in-Err
returns-in-Err g c = rw (c.end.ensures, c.requires) (not_set_up c.args.order c.in-Err.stop c.in-Err.ensures)
