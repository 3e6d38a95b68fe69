use Rattle.std.proofs.Common.{rules, ◌-◌}
use Rattle.log_picture.proofs.Makers.{was_local}
use Rattle.log_picture.proofs.yes.last_local.Goals as goal

pub returns-then-eq : goal.returns-then-eq
returns-then-eq c =
    was_local c.args.before.now (c.loop-place.place - 1) c.in_ok-found.found.now c.args.side c.in-Local-Addr.sock c.in-Local-Addr.addr (search rules) c.in_ok-found.ensures.lookup.1 (search rules) c.in-Local-Addr.is-0 c.in-Local-Addr.is-1
