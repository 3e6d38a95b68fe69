-- Datagrams that are sent in turn: how one of them that was sent leaves the others, and how the list ends.
use Rattle.std.proofs.Common.{◌≡◌, ℕ, zero, suc, ◌+◌, ◌<◌, ◌≤◌, List, ◌∷◌, length, refl, arith}
use Rattle.std.specs.Prelude.{Result, Ok, Err}
use Rattle.std.proofs.lemmas.List.{nil_from_length}
use Rattle.std.specs.declared.alloc.AllocError.{AllocError}
use Rattle.wasi_addr.specs.declared.code.ErrorCode.{ErrorCode}
use Rattle.wasi_world.specs.declared.datagram.OutgoingDatagram.{OutgoingDatagram}
use Rattle.wasi_world.specs.declared.ids.Ids.{Ids}
use Rattle.wasi_world.specs.declared.outcome.Answer.{Answer}
use Rattle.wasi_world.specs.declared.outcome.Answer.TheVariants.{Ready, Pending}
use Rattle.wasi_world.specs.declared.outcome.Refusal.{Refusal}
use Rattle.wasi_world.specs.declared.outcome.Refusal.TheVariants as refusal
use Rattle.wasi_world.specs.Seen.{Seen}
use Rattle.wasi_world.specs.Asks.{Asks, bind, Reaches, AsksFor, outcome}
use Rattle.wasi_world.proofs.Walks.{asks_end, reaches_in, reaches_on, reaches_then, asks_err, asks_ok}
use Rattle.wasi_udp.specs.Shape.{Socket}
use Rattle.udp_records.specs.declared.datagrams.Outgoing.{Outgoing}
use Rattle.udp_records.specs.Datagrams.{send_after, send_all, send_next_asks, refusal_told}
use Rattle.record_common.specs.Names.{RoseUpTo, next_name, names_after}

-- what is asked after the first of the asks were made
asks_after : {A T : Type 0} {first mid : Asks A} {o p q : Seen} {view : T → A} {r : Result T AllocError} → Reaches first mid o p → AsksFor mid p q view r → AsksFor first o q view r
asks_after {r = Ok x} h k = asks_ok (reaches_then h k.ok)
asks_after {r = Err d} h k = asks_err k.err.rest (reaches_then h k.err.reached)

-- one was sent: the others are left, by the names after its own
pub list_goes : {first : Asks (Result ℕ ErrorCode × (Socket × Outgoing))} (count : ℕ) (ids after : Ids) (d : OutgoingDatagram) (rest more : List OutgoingDatagram) (s t : Socket × Outgoing) (r : Result (Answer (Unit {0})) Refusal) {o p q : Seen} → rest ≡ d ∷ more → r ≡ Ok (Ready tt) → after ≡ names_after ids
    → Reaches first (send_all count ids rest s) o p → AsksFor (send_next_asks (next_name ids) s.0 s.1 d s.1.sending) p q (λ (answer : Result (Answer (Unit {0})) ErrorCode). (answer, t)) (outcome r)
    → Reaches first (send_all (count + 1) after more t) o q
list_goes {first} count ids after d rest more s t r {o} {p} {q} e k n before h =
    let sent : AsksFor (send_next_asks (next_name ids) s.0 s.1 d s.1.sending) p q (λ (answer : Result (Answer (Unit {0})) ErrorCode). (answer, t)) (outcome {T = Answer (Unit {0})} (Ok (Ready tt))) = rw k at h in
    rw n (reaches_then (rw e at before) (reaches_on (send_after count (λ u. send_all (count + 1) (names_after ids) more u)) sent.ok))

-- one isn't sent yet, and none was begun
pub list_waits : {first : Asks (Result ℕ ErrorCode × (Socket × Outgoing))} (count : ℕ) (ids : Ids) (d : OutgoingDatagram) (rest more : List OutgoingDatagram) (s t : Socket × Outgoing) (r : Result (Answer (Unit {0})) Refusal) {o p q : Seen} → rest ≡ d ∷ more → r ≡ Ok Pending
    → Reaches first (send_all count ids rest s) o p → AsksFor (send_next_asks (next_name ids) s.0 s.1 d s.1.sending) p q (λ (answer : Result (Answer (Unit {0})) ErrorCode). (answer, t)) (outcome r)
    → AsksFor first o q (λ (sent : Result ℕ ErrorCode). (sent, t)) (Ok (Ok count))
list_waits count ids d rest more s t r {o} {p} {q} e k before h =
    let waits : AsksFor (send_next_asks (next_name ids) s.0 s.1 d s.1.sending) p q (λ (answer : Result (Answer (Unit {0})) ErrorCode). (answer, t)) (outcome {T = Answer (Unit {0})} (Ok Pending)) = rw k at h in
    asks_after (rw e at before) (asks_end (send_after count (λ u. send_all (count + 1) (names_after ids) more u)) waits.ok refl)

-- one was refused, or memory was wanted
refused_so : {asks : Asks (Result (Answer (Unit {0})) ErrorCode × (Socket × Outgoing))} (count : ℕ) (more : Socket × Outgoing → Asks (Result ℕ ErrorCode × (Socket × Outgoing))) (t : Socket × Outgoing) (why : Refusal) {p q : Seen} → AsksFor asks p q (λ (answer : Result (Answer (Unit {0})) ErrorCode). (answer, t)) (outcome {T = Answer (Unit {0})} (Err why))
    → AsksFor (bind asks (send_after count more)) p q (λ (sent : Result ℕ ErrorCode). (sent, t)) (outcome (refusal_told count why))
refused_so zero more t (refusal.Code c) h = asks_end _ h.ok refl
refused_so (suc n) more t (refusal.Code c) h = asks_end _ h.ok refl
refused_so zero more t (refusal.Memory e) h = asks_err (bind h.err.rest (send_after zero more)) (reaches_in _ h.err.reached)
refused_so (suc n) more t (refusal.Memory e) h = asks_err (bind h.err.rest (send_after (suc n) more)) (reaches_in _ h.err.reached)

pub list_refused : {first : Asks (Result ℕ ErrorCode × (Socket × Outgoing))} (count : ℕ) (ids : Ids) (d : OutgoingDatagram) (rest more : List OutgoingDatagram) (s t : Socket × Outgoing) (r : Result (Answer (Unit {0})) Refusal) (why : Refusal) {o p q : Seen} → rest ≡ d ∷ more → r ≡ Err why
    → Reaches first (send_all count ids rest s) o p → AsksFor (send_next_asks (next_name ids) s.0 s.1 d s.1.sending) p q (λ (answer : Result (Answer (Unit {0})) ErrorCode). (answer, t)) (outcome r)
    → AsksFor first o q (λ (sent : Result ℕ ErrorCode). (sent, t)) (outcome (refusal_told count why))
list_refused count ids d rest more s t r why e k before h = asks_after (rw e at before) (refused_so count _ t why (rw k at h))

-- none is left
pub list_ends : {first : Asks (Result ℕ ErrorCode × (Socket × Outgoing))} (count : ℕ) (ids : Ids) (rest : List OutgoingDatagram) (s : Socket × Outgoing) {o p : Seen} → length rest ≡ 0
    → Reaches first (send_all count ids rest s) o p → AsksFor first o p (λ (sent : Result ℕ ErrorCode). (sent, s)) (Ok (Ok count))
list_ends count ids rest s e before = asks_ok (rw (nil_from_length rest e) at before)

-- the names and the counts that are left
pub one_taken : (n : ℕ) (d : OutgoingDatagram) (rest more : List OutgoingDatagram) → rest ≡ d ∷ more → n + length rest < 18446744073709551616 → (n + 1) + length more < 18446744073709551616
one_taken n d rest more e h = let k = rw e at h in omega arith

pub one_wanted : (n : ℕ) (d : OutgoingDatagram) (rest more : List OutgoingDatagram) → rest ≡ d ∷ more → n + length rest < 18446744073709551616 → n + 1 < 18446744073709551616
one_wanted n d rest more e h = let k = rw e at h in omega arith

-- the parts of a line that one more datagram took
pub parts_more : {first now next : Ids} {most left more : ℕ} → first.next_part ≤ now.next_part → now.next_part + left ≤ first.next_part + most → RoseUpTo 1 now next → left ≡ suc more → RoseUpTo most first next
parts_more forth few one less = let p = one.kept in let q = one.few in record { kept = omega arith; few = omega arith }
