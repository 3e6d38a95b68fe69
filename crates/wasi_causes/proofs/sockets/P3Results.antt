-- The results of the streams of 0.3.
use Rattle.wasi_causes.proofs.Words.{◌≡◌, ◌∙◌, ◌↔◌, ℕ, Bool, true, false, List, [], Option, Some, None, Ok, Err, refl, ap, subst, sym, if◌then◌else◌}
use Rattle.wasi_causes.proofs.Words.{taken_out, Give, HasChildren, Kind, Machine, NoSuchHandle, Trap, WasiSocketsCtx, has_no_child, kind_at, without_handle}
use Rattle.wasi_causes.proofs.GivenBack.{no_job}
use Rattle.wasi_causes.proofs.tables.Meets.{Meets, Rows, ends}
use Rattle.wasi_causes.proofs.tables.Routes.{Replied, Says, apart}
use Rattle.wasi_causes.specs.GivenUp.{without}
use Rattle.wasi_causes.specs.P3Streams.{IsLetGo, IsUnfilled, OfSlot}
use Rattle.host_store.specs.Kinds.{none_in, result3_of}
use Rattle.host_store.specs.Machine.{result3_at}
use Rattle.host_store.specs.declared.kind.Kind.TheVariants.{Result3}
use Rattle.wasi_machine.specs.Machine.{slot_reply}
use Rattle.host_tcp.specs.ConnectionEnds.{drop_slot_in}
use Rattle.host_store.specs.GivingBack.{given_back}
use Rattle.wasi_p3.specs.Streams.{Taken, named_end, result_at, result_in, result_on, result_out, slot_in, take_result}
use Rattle.tcp_records.specs.Slots.{StreamEnd, result_of}
use Rattle.wasi_records.specs.Records.{slot_at}
use Rattle.tcp_records.specs.declared.slot.Slot.{Slot}
use Rattle.tcp_records.specs.declared.slot.Slot.TheVariants.{Filled, Unfilled}
use Rattle.wasi_steps.specs.declared.guest_call.GuestCall.TheVariants as guest
use Rattle.wasi_steps.specs.declared.guest_call.P3TcpCall.TheVariants as p3_tcp_call
use Rattle.wasi_steps.specs.declared.reply.Reply.{Reply}
use Rattle.wasi_steps.specs.declared.reply.Reply.TheVariants as reply
use Rattle.wasi_steps.specs.declared.step.Step.TheVariants as step

-- what such a handle stands for
pub its_kind : (o : Option Kind) (place : ℕ) → result3_of o ≡ Some place → o ≡ Some (Result3 place)
its_kind (Some (Result3 slot)) place e = let same : slot ≡ place = cc in ap (λ (n : ℕ). Some (Result3 n)) same
its_kind _ place e = absurd (cc)

module _ (contexts : List WasiSocketsCtx) (m : Machine) (line c handle : ℕ) where
  abbrev Said : Rows (Taken × Machine)
  Said = Replied contexts m line (step.Call c (guest.P3Tcp (p3_tcp_call.Result handle))) slot_reply

  abbrev IsItsUnfilled : Reply → Type 0
  IsItsUnfilled r = (r ≡ reply.Unfilled) ↔ IsUnfilled m handle

  -- another slot than one that is unfilled
  no_slot : slot_in m (result3_at m handle) ≡ None → IsUnfilled m handle → ⊥
  no_slot none k = let there : slot_in m (result3_at m handle) ≡ Some k.found = ap (slot_in m) k.names ∙ k.at in absurd (cc)

  missing : slot_in m (result3_at m handle) ≡ None → Said [] (Err (Trap NoSuchHandle), m)
  missing none = ((refl, apart (λ e. cc) (no_slot none), λ e. absurd (cc)), (none, (refl, refl)))

  module _ (place : ℕ) (names : result3_at m handle ≡ Some place) (s : Slot) (at : slot_at m.store.records place ≡ Some s) where
    of_slot : {P : ℕ → Slot → Type 0} → P place s → OfSlot m handle P
    of_slot h = record { place = place; found = s; names = names; at = at; holds = h }

    filled_not : (ended : StreamEnd) → s ≡ Filled ended → IsUnfilled m handle → ⊥
    filled_not ended is k =
        let same : place ≡ k.place = (let p : Some place ≡ Some k.place = sym names ∙ k.names in cc) in
        let found : Some s ≡ Some k.found = sym at ∙ (ap (λ (n : ℕ). slot_at m.store.records n) same ∙ k.at) in
        let unfilled : k.found ≡ Unfilled = k.holds in
        absurd (cc)

    abbrev gone : StreamEnd → Option Slot → Taken × Machine
    gone ended o = (Ok (Some (named_end ended)), record { table = without_handle m.table handle; store = drop_slot_in place m.store o })

    let_go : IsLetGo (without m handle) place (record (without m handle) { store = given_back place m.store })
    let_go = record { left = refl; job = no_job place m.store.jobs }

    out : (ended : StreamEnd) → s ≡ Filled ended → (b : Bool) → has_no_child m.table handle ≡ b
        → Said [] (result_out m place ended (if b then (Ok (Result3 place), without_handle m.table handle) else (Err (Trap HasChildren), m.table)))
    out (Ok done) is true e = subst (λ (o : Option Slot). Said [] (gone (Ok done) o)) (sym at) ((refl, apart (λ e. cc) (filled_not (Ok done) is), λ e. absurd (cc)), (tt, of_slot (is, (refl, let_go))))
    out (Err code) is true e = subst (λ (o : Option Slot). Said [] (gone (Err code) o)) (sym at) ((refl, apart (λ e. cc) (filled_not (Err code) is), λ e. absurd (cc)), (record { code = code; is = refl }, of_slot (record { code = code; is = refl; cause = is }, (refl, let_go))))
    out ended is false e = ((refl, apart (λ e. cc) (filled_not ended is), λ same. (record { live = rw (its_kind (kind_at m.table handle) place names) refl; children = λ none. let k : has_no_child m.table handle ≡ true = ap none_in none in cc }, rw names refl)), (tt, (refl, refl)))

    by_slot : (said : Slot) → s ≡ said → Said [] (result_in m handle place (result_of said))
    by_slot Unfilled is = ((refl, ((λ e. of_slot is), λ k. refl), λ e. absurd (cc)), (tt, (refl, refl)))
    by_slot (Filled ended) is =
        subst (λ (o : Option Kind). Said [] (result_out m place ended (taken_out m.table handle o))) (sym (its_kind (kind_at m.table handle) place names)) (out ended is (has_no_child m.table handle) refl)

  by_found : (place : ℕ) → result3_at m handle ≡ Some place → (o : Option Slot) → slot_at m.store.records place ≡ o → Said [] (result_at m handle place o)
  by_found place names None at = missing (ap (slot_in m) names ∙ at)
  by_found place names (Some s) at = by_slot place names s at s refl

  by_number : (o : Option ℕ) → result3_at m handle ≡ o → Said [] (result_on m handle o)
  by_number None names = missing (ap (slot_in m) names)
  by_number (Some place) names = by_found place names (slot_at m.store.records place) refl

  pub p3_result : Meets (Says contexts m line (step.Call c (guest.P3Tcp (p3_tcp_call.Result handle)))) [] (let done = take_result m handle in Give (slot_reply done.0, done.1))
  p3_result = ends (by_number (result3_at m handle) refl)
