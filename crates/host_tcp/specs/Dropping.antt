-- What goes with a handle: a socket releases its network socket, and an output waits for its writer.
use Rattle.std.specs.Prelude.{ℕ, Bool, true, false, Option, Some, None}
use Rattle.wasi_world.specs.declared.ids.OpId.{OpId}
use Rattle.wasi_world.specs.declared.ids.Ids.{Ids}
use Rattle.wasi_world.specs.declared.outcome.Answer.{Answer}
use Rattle.wasi_world.specs.declared.outcome.Answer.TheVariants.{Ready}
use Rattle.wasi_world.specs.Asks.{Asks, Give, bind}
use Rattle.tcp_records.specs.declared.socket.TcpRecord.{TcpRecord}
use Rattle.host_store.specs.declared.store.StandingCall.TheVariants.{DropOutput}
use Rattle.record_common.specs.Names.{own_of}
use Rattle.host_store.specs.Store.{Records, with_socket}
use Rattle.host_store.specs.Standing.{stood}
use Rattle.host_store.specs.GivingBack.{given_back}
use Rattle.tcp_records.specs.Releasing.{release_asks}
use Rattle.tcp_records.specs.Looks.{wait_writer}

-- and is given back then
abbrev pub released : Records → ℕ → TcpRecord → Records
released store place r = given_back place (with_socket store place r)

abbrev pub release_at : Records → OpId → ℕ → Option TcpRecord → Asks (Unit {0} × Records)
release_at store op place None = Give (tt, store)
release_at store op place (Some r) = bind (release_asks op r) (λ done. Give (tt, released store place done.1))

-- the record of a socket of 0.3 stays for its other holders
abbrev pub left_so : Records → ℕ → Bool × TcpRecord → Unit {0} × Records
left_so store place (true, r) = (tt, released store place r)
left_so store place (false, r) = (tt, with_socket store place r)

abbrev pub let_go_at : Records → ℕ → (TcpRecord → Asks (Bool × TcpRecord)) → Option TcpRecord → Asks (Unit {0} × Records)
let_go_at store place goes None = Give (tt, store)
let_go_at store place goes (Some r) = bind (goes r) (λ done. Give (left_so store place done))

abbrev pub wait_put : Records → ℕ → Answer (Unit {0}) × TcpRecord → Answer (Unit {0}) × Records
wait_put store place done = (done.0, with_socket store place done.1)

-- whether the writer is ready, by one look
abbrev pub wait_at : Records → OpId → ℕ → Option TcpRecord → Asks (Answer (Unit {0}) × Records)
wait_at store op place None = Give (Ready tt, store)
wait_at store op place (Some r) = bind (wait_writer op r r.streams) (λ done. Give (wait_put store place done))

abbrev pub drop_waits : Ids → ℕ → Answer (Unit {0}) × Records → Answer (Unit {0}) × Records
drop_waits ids place done = stood done.1 ids (DropOutput place) done.0

-- while it waits, the drop stands
abbrev pub drop_output_at : Records → Ids → ℕ → Option TcpRecord → Asks (Answer (Unit {0}) × Records)
drop_output_at store ids place found = bind (wait_at store (own_of ids.line) place found) (λ done. Give (drop_waits ids place done))
