use Rattle.wasi_tcp.proofs.listener.TcpListenStream.give_up.Goals as goal

pub returns-in-Asking-clause-asked : goal.returns-in-Asking-clause-asked
returns-in-Asking-clause-asked g c = rw (← c.self.view_is, c.in-Asking.is) c.give_up.ensures.asked

pub returns-in-Arrived-clause-asked : goal.returns-in-Arrived-clause-asked
returns-in-Arrived-clause-asked g c = rw (← c.self.view_is, c.in-Arrived.is) c.close.ensures.asked
