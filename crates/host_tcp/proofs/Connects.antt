-- Connects of 0.3: what the code answers, and what it keeps of them.
use Rattle.std.specs.Prelude.{◌≡◌, ℕ, List, OnErr, Result, Ok, Err, refl}
use Rattle.wasi_addr.specs.declared.address.IpSocketAddress.{IpSocketAddress}
use Rattle.wasi_world.specs.declared.ids.OpId.{OpId}
use Rattle.wasi_world.specs.declared.outcome.Answer.{Answer}
use Rattle.wasi_world.specs.declared.outcome.Answer.TheVariants.{Ready, Pending}
use Rattle.wasi_world.specs.declared.outcome.Refusal.{Refusal}
use Rattle.wasi_world.specs.declared.outcome.Refusal.TheVariants as refusal
use Rattle.wasi_world.specs.Seen.{Seen}
use Rattle.wasi_world.specs.Asks.{Asks, Give, bind, AsksFor, outcome}
use Rattle.wasi_world.proofs.Walks.{asks_end, asks_err, reaches_in, reaches_on}
use Rattle.wasi_tcp.specs.declared.socket.TcpState.{TcpState}
use Rattle.wasi_tcp.specs.declared.socket.TcpState.TheVariants as state
use Rattle.wasi_tcp.specs.Connecting.{start_connect_in}
use Rattle.wasi_tcp.specs.Shape.{Socket}
use Rattle.wasi_tcp.specs.Socket.{bound_asks}
use Rattle.tcp_records.specs.declared.socket.TcpRecord.{TcpRecord}
use Rattle.record_common.specs.Stops.{Code}
use Rattle.record_common.proofs.SideCounts.{Any, Calm, calm_then}
use Rattle.tcp_records.proofs.SideCounts.{calm_bound}
use Rattle.host_store.specs.declared.beside.Beside.{Beside}
use Rattle.host_store.specs.BaseStops.{BaseStop, base_outcome}
use Rattle.host_store.specs.Beside.{begun_beside, beside_polled, besided, polled_beside}
use Rattle.host_store.specs.Lines.{Answered}
use Rattle.host_store.specs.Block.{after_call, give}
use Rattle.host_store.specs.Store.{Records, with_socket}

-- the start of a connect makes no network socket and closes none
pub calm_start_connect : (op : OpId) (s : Socket) (a : IpSocketAddress) (st : TcpState) → Calm Any (start_connect_in op s a st)
calm_start_connect op s a (state.Default side) = calm_then Any Any (bound_asks op s) _ (calm_bound op s) (λ b k. tt)
calm_start_connect op s a _ = tt

-- a call on the record of a number
abbrev pub on_record : Records → ℕ → Asks (Answered × TcpRecord) → Asks (Result (Answer (Unit {0})) BaseStop × Records)
on_record store place asks = bind asks (after_call Code (λ s now. with_socket s place now) give store)

-- what is left of the records
abbrev pub left_with : Records → ℕ → TcpRecord → List Beside → Records
left_with store place now calls = record (with_socket store place now) { beside = calls }

-- what the code was told of a call that leaves this record
abbrev pub Told : TcpRecord → Asks (Answered × TcpRecord) → Seen → Seen → Result (Answer (Unit {0})) Refusal → Type 0
Told now asks s t connected = AsksFor asks s t (λ (answer : Answered). (answer, now)) (outcome connected)

-- out of memory it stands beside others still
pub polled_stays : (calls : List Beside) (line : ℕ) (connected : Result (Answer (Unit {0})) Refusal) → OnErr (base_outcome connected) (polled_beside calls line connected ≡ calls)
polled_stays calls line (Ok Pending) = tt
polled_stays calls line (Ok (Ready done)) = tt
polled_stays calls line (Err (refusal.Code c)) = tt
polled_stays calls line (Err (refusal.Memory e)) = refl

module _ (store : Records) (place : ℕ) (now : TcpRecord) {asks : Asks (Answered × TcpRecord)} {s t : Seen} where
  -- it begins
  pub begun_asked : (b : Beside) (connected : Result (Answer (Unit {0})) Refusal) → Told now asks s t connected
      → AsksFor (bind (on_record store place asks) (λ done. Give (besided b done))) s t (λ (answer : Result (Answer (Unit {0})) BaseStop). (answer, left_with store place now (begun_beside store.beside b connected))) (base_outcome connected)
  begun_asked b (Ok Pending) h = asks_end _ (reaches_on _ h.ok) refl
  begun_asked b (Ok (Ready done)) h = asks_end _ (reaches_on _ h.ok) refl
  begun_asked b (Err (refusal.Code c)) h = asks_end _ (reaches_on _ h.ok) refl
  begun_asked b (Err (refusal.Memory e)) h = asks_err _ (reaches_in _ (reaches_in _ h.err.reached))

  -- it is polled again
  pub polled_asked : (line : ℕ) (connected : Result (Answer (Unit {0})) Refusal) → Told now asks s t connected
      → AsksFor (bind (on_record store place asks) (λ done. Give (beside_polled line done))) s t (λ (answer : Result (Answer (Unit {0})) BaseStop). (answer, left_with store place now (polled_beside store.beside line connected))) (base_outcome connected)
  polled_asked line (Ok Pending) h = asks_end _ (reaches_on _ h.ok) refl
  polled_asked line (Ok (Ready done)) h = asks_end _ (reaches_on _ h.ok) refl
  polled_asked line (Err (refusal.Code c)) h = asks_end _ (reaches_on _ h.ok) refl
  polled_asked line (Err (refusal.Memory e)) h = asks_err _ (reaches_in _ (reaches_in _ h.err.reached))
