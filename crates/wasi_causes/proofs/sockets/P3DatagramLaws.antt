-- What is read off for a reader of datagrams of 0.3 that are pending.
use Rattle.wasi_causes.proofs.Words.{◌≡◌, ◌++◌, ℕ, Bool, true, false, List, [], ◌∷◌, Option, Some, refl, subst, sym, ap}
use Rattle.wasi_causes.proofs.Words.{Answered, Done, End, Entry, Field, InvalidState, IpSocketAddress, IsSomeAnd, Item, Machine, Nothing, Operation, Refused, Reply, Waits, WasiSocketsCtx, Who, is_now}
use Rattle.std.specs.Prelude.{◌≢◌}
use Rattle.wasi_world.specs.Operation as item
use Rattle.wasi_udp.specs.Send.{at_remote}
use Rattle.udp_records.specs.declared.udp.OpenUdp.{OpenUdp}
use Rattle.wasi_records.specs.Records.{open_at}
use Rattle.host_store.specs.declared.beside.Beside.{Beside}
use Rattle.host_store.specs.declared.beside.BesideCall.{BesideCall}
use Rattle.host_store.specs.declared.beside.BesideCall.TheVariants.{Receive, Send}
use Rattle.host_store.specs.Beside.{beside_as, beside_of}
use Rattle.wasi_steps.specs.declared.reply.CodeWord.TheVariants as word
use Rattle.wasi_steps.specs.declared.reply.Reply.TheVariants as reply
use Rattle.wasi_steps.specs.declared.step.Step.TheVariants as step
use Rattle.wasi_causes.proofs.tables.Steps.{its_own, other_free, unheld}
use Rattle.wasi_causes.specs.P3Connects.{GoesOnBeside, IsBeside, LeavesBeside}
use Rattle.wasi_causes.specs.P3Datagrams.{DatagramOver, IsNotSent, IsRestOfReceive, IsRestOfSend, IsSent, ReceivePolled, SendCheckWaits, SendCode, SendDone, SendNo, SendPolled, SendPolls, SendRefused, SendsStill, SendTooLate, SendWaits, SendYes, comes_late}

-- a poll of it
module _ (contexts : List WasiSocketsCtx) (m : Machine) (line n place : ℕ) (o : OpenUdp) (op : Operation) (beside : IsBeside m n) where
  goes_on : (its : BesideCall) → beside_of m.store n ≡ Some (beside_as n its) → (es : List Entry) (r : Reply) (after : Machine) → r ≢ reply.Busy → Answered contexts m line (step.Poll n) es r after → GoesOnBeside m n es r after its
  goes_on its is es r after free w =
      subst (λ (x : Option Beside). IsSomeAnd x (λ b. GoesOnBeside m n es r after b.call)) is
      ((its_own contexts m line (step.Poll n) es r after w free).0.3 beside).why

  pub send_polled : beside_of m.store n ≡ Some (beside_as n (Send place op)) → open_at m.store.records place ≡ Some o → IsRestOfSend op → (es : List Entry) (r : Reply) (after : Machine) → r ≢ reply.Busy → Answered contexts m line (step.Poll n) es r after → SendPolled m n place o op es r after
  send_polled is at rest es r after free w = (goes_on (Send place op) is es r after free w).1 o at rest

  pub receive_polled : beside_of m.store n ≡ Some (beside_as n (Receive place op)) → open_at m.store.records place ≡ Some o → IsRestOfReceive op → (es : List Entry) (r : Reply) (after : Machine) → r ≢ reply.Busy → Answered contexts m line (step.Poll n) es r after → ReceivePolled m n place o op es r after
  receive_polled is at rest es r after free w = (goes_on (Receive place op) is es r after free w).1 o at rest

-- a cancel of it
pub given_up_so : (contexts : List WasiSocketsCtx) (m : Machine) (line n : ℕ) (es : List Entry) (fields : List Field) (after : Machine) → IsBeside m n → {its : BesideCall} → beside_of m.store n ≡ Some (beside_as n its)
    → Answered contexts m line (step.Cancel n) es (reply.Ok fields) after → LeavesBeside m n es after its
given_up_so contexts m line n es fields after beside {its} is w =
    let left = (unheld contexts m line (step.Cancel n) (other_free contexts m line (step.Cancel n) refl refl) es (reply.Ok fields) after w).0.2 beside in
    subst (λ (x : Option Beside). IsSomeAnd x (λ b. LeavesBeside m n es after b.call)) is left.1

-- == one that comes late
-- it asks nothing, and ends with a code
not_now : (who : Who) (kept : Bool) (a b : IpSocketAddress) (its bytes : List ℕ) → comes_late who kept b ≡ false → item.Send kept b its ∷ [] ≡ item.Send true a bytes ∷ [] → is_now who.remote a ≡ false → ⊥
not_now who kept a b its bytes now e late =
    let same : b ≡ a = cc in
    let yes : kept ≡ true = cc in
    let on : comes_late who true a ≡ false = subst (λ (k : Bool). comes_late who k a ≡ false) yes (subst (λ (x : IpSocketAddress). comes_late who kept x ≡ false) same now) in
    let off : comes_late who true a ≡ true = rw late refl in
    absurd (cc)

late_ends : {who : Who} {items : List Item} {es : List Entry} {end : End × List Item} (a : IpSocketAddress) (bytes : List ℕ) → SendPolls who items es end → items ≡ item.Send true a bytes ∷ [] → is_now who.remote a ≡ false → (es ≡ []) × (end ≡ (Refused InvalidState Nothing, []))
late_ends a bytes (SendRefused c) e late = absurd (cc)
late_ends a bytes (SendYes b usage items es end k) e late = absurd (cc)
late_ends a bytes (SendNo b usage items) e late = absurd (cc)
late_ends a bytes (SendCheckWaits b usage items) e late = absurd (cc)
late_ends a bytes (SendTooLate kept b its is) e late = (refl, refl)
late_ends {who} a bytes (SendDone kept b its now) e late = absurd (not_now who kept a b its bytes now e late)
late_ends {who} a bytes (SendCode kept b its c now) e late = absurd (not_now who kept a b its bytes now e late)
late_ends {who} a bytes (SendWaits kept b its now) e late = absurd (not_now who kept a b its bytes now e late)

pub late_so : (m : Machine) (n place : ℕ) (o : OpenUdp) (op : Operation) (a : IpSocketAddress) (bytes : List ℕ) → op.left ≡ item.Send true a bytes ∷ [] → is_now o.inner.remote a ≡ false → {es : List Entry} {r : Reply} {after : Machine} → SendPolled m n place o op es r after → (r ≡ reply.Err word.InvalidState) × DatagramOver m n place o es after
late_so m n place o op a bytes left late (SendsStill es items k) = let never : Waits ≡ Refused InvalidState Nothing = ap (λ (x : End × List Item). x.0) (late_ends a bytes k left late).1 in absurd (cc)
late_so m n place o op a bytes left late (IsSent polled closing given items after k over) = let never : Done given ≡ Refused InvalidState Nothing = ap (λ (x : End × List Item). x.0) (late_ends a bytes k left late).1 in absurd (cc)
late_so m n place o op a bytes left late (IsNotSent polled closing c given items after k over) =
    let its = late_ends a bytes k left late in
    let code : c ≡ InvalidState = (let e : Refused c given ≡ Refused InvalidState Nothing = ap (λ (x : End × List Item). x.0) its.1 in cc) in
    rw (code, its.0) (refl, over)
