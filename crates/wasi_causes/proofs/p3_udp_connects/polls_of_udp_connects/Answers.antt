use Rattle.wasi_causes.proofs.p3_udp_connects.polls_of_udp_connects.Goals as goal
use Rattle.wasi_causes.proofs.sockets.P3UdpPolls.{polled_so}

pub returns : goal.returns
returns c = λ contexts m line place ids o op entries reply after stands at is its w. polled_so contexts m line ids place stands o at op is its entries reply after w
