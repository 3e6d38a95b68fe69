use Rattle.wasi_causes.proofs.p3_datagrams.polls_of_receives.Goals as goal
use Rattle.wasi_causes.proofs.sockets.P3DatagramLaws.{given_up_so, receive_polled}

pub returns : goal.returns
returns c = record {
  polled = λ contexts m line n place o op entries said after beside is at rest free w.
      receive_polled contexts m line n place o op beside is at rest entries said after free w;
  cancelled = λ contexts m line n place o op entries fields after beside is at w.
      given_up_so contexts m line n entries fields after beside is w o at;
}
