-- A list of datagrams that isn't empty, and of which there are no more than are permitted, is sent.
use Rattle.std.proofs.Common.{◌≡◌, ℕ, ◌==◌, ◌≤◌, false, nat_lt, List, [], ◌∷◌, length, Some, refl, arith}
use Rattle.std.specs.Prelude.{Result, Ok, Err, IsErrAnd}
use Rattle.std.proofs.lemmas.Bool.{le-ltb}
use Rattle.std.specs.declared.alloc.AllocError.{AllocError}
use Rattle.wasi_world.specs.declared.datagram.OutgoingDatagram.{OutgoingDatagram}
use Rattle.wasi_world.specs.declared.ids.Ids.{Ids}
use Rattle.wasi_world.specs.Seen.{Seen}
use Rattle.wasi_world.specs.Asks.{Give, bind, Reaches, AsksFor, outcome}
use Rattle.wasi_world.specs.declared.outcome.Refusal.{Refusal}
use Rattle.wasi_world.proofs.Walks.{asks_at, asks_end}
use Rattle.wasi_addr.specs.declared.code.ErrorCode.{ErrorCode}
use Rattle.wasi_streams.specs.HostError.{of_refusal as error_of}
use Rattle.wasi_udp.specs.Shape.{Socket}
use Rattle.udp_records.specs.declared.datagrams.Outgoing.{Outgoing}
use Rattle.udp_records.specs.declared.udp.OpenUdp.{OpenUdp}
use Rattle.udp_records.specs.Datagrams.{send_all, all_sent, send_some, send_datagrams_asks}
use Rattle.record_common.specs.Stops.{Stop, SocketError, host_outcome}
use Rattle.record_common.proofs.Hosts.{host_refused}

-- how a stream that is there sends them; nothing is permitted any more
sends_some : {T : Type 0} (ids : Ids) (o : OpenUdp) (out : Outgoing) (ds : List OutgoingDatagram) {s t : Seen} {view : T → Result ℕ Stop × OpenUdp} {r : Result T AllocError} → false ≡ (length ds == 0) → length ds ≤ out.permit
    → AsksFor (bind (send_all 0 ids ds (o.inner, record out { permit = 0 })) (λ done. Give (all_sent o done))) s t view r → AsksFor (send_some ids o out ds) s t view r
sends_some ids o out [] h q asked = absurd (cc)
sends_some ids o out (d ∷ more) h q asked = let small : nat_lt out.permit (length (d ∷ more)) ≡ false = le-ltb out.permit (length (d ∷ more)) q in rw small asked

-- the list isn't empty, and no longer than what is permitted
pub record IsPermitted (o : OpenUdp) (out : Outgoing) (ds : List OutgoingDatagram) : Type 0 where
  pub found : o.outgoing ≡ Some out
  pub some : false ≡ (length ds == 0)
  pub few : length ds ≤ out.permit

pub is_permitted : (o : OpenUdp) (out : Outgoing) (ds : List OutgoingDatagram) (n m p : ℕ) → o.outgoing ≡ Some out → false ≡ (n == 0) → n ≡ length ds → m ≡ n → p ≡ out.permit → m ≤ p → IsPermitted o out ds
is_permitted o out ds n m p f h e k l q = record { found = f; some = rw e at h; few = omega arith }

-- they were sent
pub list_sent : (ids : Ids) (o : OpenUdp) (out : Outgoing) (ds : List OutgoingDatagram) (count : ℕ) (left : Socket × Outgoing) {s t : Seen} → IsPermitted o out ds → Reaches (send_all 0 ids ds (o.inner, record out { permit = 0 })) (Give (Ok count, left)) s t
    → AsksFor (send_datagrams_asks ids o o.outgoing ds) s t (λ (sent : Result ℕ Stop). (sent, record o { inner = left.0; outgoing = Some left.1 })) (Ok (Ok count))
list_sent ids o out ds count left h k = asks_at (λ found. send_datagrams_asks ids o found ds) h.found (sends_some ids o out ds h.some h.few (asks_end _ k refl))

-- the first of them was refused, or memory was wanted
pub list_stopped : (ids : Ids) (o : OpenUdp) (out : Outgoing) (ds : List OutgoingDatagram) (left : Socket × Outgoing) (x : Refusal) (r : Result ℕ SocketError) {s t : Seen} → IsPermitted o out ds → IsErrAnd r (λ y. y ≡ error_of x) → AsksFor (send_all 0 ids ds (o.inner, record out { permit = 0 })) s t (λ (sent : Result ℕ ErrorCode). (sent, left)) (outcome {T = ℕ} (Err x))
    → AsksFor (send_datagrams_asks ids o o.outgoing ds) s t (λ (sent : Result ℕ Stop). (sent, record o { inner = left.0; outgoing = Some left.1 })) (host_outcome r)
list_stopped ids o out ds left x r h e k = asks_at (λ found. send_datagrams_asks ids o found ds) h.found (sends_some ids o out ds h.some h.few (host_refused _ x r e k (λ code. refl)))
