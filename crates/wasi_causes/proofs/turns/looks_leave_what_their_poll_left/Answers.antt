use Rattle.wasi_causes.proofs.pollables.Leaves.{accept_looks, connect_looks, receive_looks}
use Rattle.wasi_causes.proofs.turns.looks_leave_what_their_poll_left.Goals as goal

pub returns : goal.returns
returns c = record {
  connect = λ m ids p place entries ready after r op found w at connects state. connect_looks m ids p place entries
      ready after r op found w at connects state;
  accept = λ m ids p place entries ready after r l found w at idle accepts holds. accept_looks m ids p place entries
      ready after r l found w at idle accepts holds;
  receive = λ m ids p place entries ready after o incoming found w at has. receive_looks m ids p place entries ready
      after o incoming found w at has;
}
