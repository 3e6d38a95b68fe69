use Rattle.std.proofs.Common.{refl}
use Rattle.host_tcp.proofs.creating.make_room.Goals as goal

pub returns-clause-room : goal.returns-clause-room
returns-clause-room c = rw (← c.store.view_is, c.reserve_total.ensures, c.in_ok-keep_limit.ensures.kept) refl
