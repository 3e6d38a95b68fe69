use Rattle.wasi_world.proofs.Walks.{asks_then, asks_exit}
use Rattle.tcp_records.proofs.socket.Streams.shutdown.Goals as goal

pub returns-in_err-shut_receive-in-Both : goal.returns-in_err-shut_receive-in-Both
returns-in_err-shut_receive-in-Both g c = record { asked = rw c.in-Both.is (asks_exit _ _ c.from_residual.ensures.1 c.in_err-shut_receive-in-Both.ensures.asked.err) }

pub returns-in_ok-shut_receive-in-Both : goal.returns-in_ok-shut_receive-in-Both
returns-in_ok-shut_receive-in-Both g c = record { asked = rw c.in-Both.is (asks_then _ c.in_ok-shut_receive-in-Both.ensures.asked.ok c.shut_send-in-Both.ensures.asked) }
