use Rattle.std.proofs.Common.{refl}
use Rattle.wasi_world.proofs.Walks.{asks_given}
use Rattle.host_tcp.proofs.connection_ends.drop_end.Goals as goal

pub returns-in_default-clause-asked : goal.returns-in_default-clause-asked
returns-in_default-clause-asked g c = rw (← c.open_socket.ensures, c.in_default.is) (asks_given _ _ refl refl)

pub returns-clause-asked : goal.returns-clause-asked
returns-clause-asked g c = rw (← c.open_socket.ensures, c.in-Some.is) c.close_end.ensures.asked
