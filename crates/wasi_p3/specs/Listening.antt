-- Listens of 0.3, and the polls of their listeners: what each asks, returns and leaves.
use Rattle.std.specs.Prelude.{ℕ, ◌==◌, Bool, true, false, Option, Some, None}
use Rattle.wasi_addr.specs.declared.p3.ErrorCode.{ErrorCode as P3Code}
use Rattle.wasi_world.specs.declared.ids.Ids.{Ids}
use Rattle.wasi_world.specs.declared.ids.OpId.{OpId}
use Rattle.wasi_world.specs.declared.outcome.Answer.{Answer}
use Rattle.wasi_world.specs.declared.outcome.Answer.TheVariants.{Ready, Pending}
use Rattle.tcp_records.specs.declared.slot.StreamResult.{StreamResult}
use Rattle.tcp_records.specs.declared.slot.StreamResult.TheVariants.{Completed}
use Rattle.record_common.specs.Names.{own_of}
use Rattle.wasi_records.specs.Records.{tcp2_at}
use Rattle.host_store.specs.declared.kind.Kind.TheVariants.{Tcp3}
use Rattle.host_store.specs.declared.machine.Machine.{Machine}
use Rattle.host_store.specs.Block.{Does, Look, Read, Call, give, last, ◌>>=◌}
use Rattle.host_tcp.specs.EndPolls.{not_yet}
use Rattle.host_store.specs.Kinds.{make_asks}
use Rattle.host_store.specs.Lines.{tabling}
use Rattle.host_tcp.specs.Listens.{accept_in, listen_of, look_accept}
use Rattle.host_store.specs.Machine.{listen3_at, side_at}
use Rattle.host_tcp.specs.TcpCalls.{accept_ids_at}
use Rattle.wasi_p3.specs.Lines.{in_base, in_host, tcp_named}
use Rattle.wasi_p3.specs.Stops.{trap_of}

-- == a listen
abbrev pub listen_to : Ids → ℕ → Does P3Code Machine (Answer ℕ)
listen_to ids socket = do
  place ← tcp_named socket
  last (in_host (listen_of ids socket place))

-- == a poll of a listener
-- what it gives: a socket, or no more than that one has come
abbrev pub Polled : Type 0
Polled = Answer (StreamResult (Option ℕ))

abbrev pub looked : Bool → Answer (Unit {0}) → Polled
looked finish (Ready done) = Ready (Completed None)
looked finish Pending = not_yet finish

-- the socket gets a handle, whose mark names the listener's as the parent
abbrev pub hand_over : OpId → ℕ → ℕ → Does P3Code Machine Polled
hand_over own listener place = do
  side ← Read (λ m. side_at (tcp2_at m.store.records place))
  socket ← Call trap_of (λ m. m.table) tabling (λ t. make_asks t own (Tcp3 place) (Some listener) side)
  give (Ready (Completed (Some socket)))

abbrev pub handed : OpId → Bool → ℕ → Answer ℕ → Does P3Code Machine Polled
handed own finish listener (Ready place) m = hand_over own listener place m
handed own finish listener Pending m = give (not_yet finish) m

-- by whether nothing remains
abbrev pub accept_by : Ids → Bool → ℕ → ℕ → Bool → Does P3Code Machine Polled
accept_by ids finish listener place true = do
  answer ← in_base (look_accept ids place)
  give (looked finish answer)
accept_by ids finish listener place false = do
  answer ← in_base (accept_in ids place)
  handed (own_of ids.line) finish listener answer

abbrev pub accept : Ids → Bool → ℕ → ℕ → Does P3Code Machine Polled
accept ids finish remaining listener = do
  place ← Look (λ m. listen3_at m listener)
  accept_by ids finish listener place (remaining == 0)

-- the names that are left to the line then
abbrev pub accept_ids_on : Machine → Ids → Option ℕ → Ids
accept_ids_on m ids None = ids
accept_ids_on m ids (Some place) = accept_ids_at ids (tcp2_at m.store.records place)

abbrev pub ids_after_accept : Machine → Ids → ℕ → Ids
ids_after_accept m ids listener = accept_ids_on m ids (listen3_at m listener)
