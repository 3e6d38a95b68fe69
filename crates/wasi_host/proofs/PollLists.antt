-- Looks at pollables in turn: how one of them leaves the others, and how they end.
use Rattle.std.proofs.Common.{◌≡◌, ℕ, ◌+◌, ◌<◌, ◌≤◌, List, [], ◌∷◌, ◌++◌, Bool, true, false, Option, Some, None, is_some, not, length, drop, get_or, refl, sym, ap, ◌∙◌}
use Rattle.std.proofs.lemmas.List.{drop_more, drop_all}
use Rattle.std.specs.Prelude.{IsErrAnd, Result, Ok, Err}
use Rattle.std.specs.declared.alloc.AllocError.{AllocError}
use Rattle.wasi_streams.specs.declared.fault.Fault.{Fault}
use Rattle.wasi_world.specs.declared.ids.Ids.{Ids}
use Rattle.wasi_world.specs.Seen.{Seen}
use Rattle.wasi_world.specs.Asks.{Asks, Give, Reaches, AsksFor}
use Rattle.wasi_world.proofs.Walks.{reaches_on, reaches_then, asks_err, asks_ok}
use Rattle.wasi_world.specs.declared.outcome.Answer.TheVariants.{Ready, Pending}
use Rattle.host_store.specs.declared.store.BlockingCall.TheVariants as blocking
use Rattle.host_store.specs.declared.machine.Machine.{Machine}
use Rattle.host_store.specs.declared.store.StandingCall.TheVariants.{Blocking}
use Rattle.host_store.specs.Standing.{standing_as}
use Rattle.wasi_host.specs.declared.polling.Look.{Look}
use Rattle.record_common.specs.Stops.{Stop, fault_outcome}
use Rattle.wasi_host.specs.Polling.{Found, found_of, look_at_pollable, ids_after_look, look_each, looked_at, ready_places, places_given, polled_each}
use Rattle.host_store.specs.Views.{SameView}
use Rattle.host_store.specs.declared.view.WasiSocketsCtxView.{WasiSocketsCtxView}
use Rattle.record_common.proofs.Hosts.{fault_passed}

-- what is asked after the first of the asks were made
asks_after : {A T : Type 0} {first mid : Asks A} {o p q : Seen} {view : T → A} {r : Result T AllocError} → Reaches first mid o p → AsksFor mid p q view r → AsksFor first o q view r
asks_after {r = Ok x} h k = asks_ok (reaches_then h k.ok)
asks_after {r = Err d} h k = asks_err k.err.rest (reaches_then h k.err.reached)

-- it wasn't looked at, where that was tested
pub none_of : {A : Type 0} (o : Option A) (b : Bool) → is_some o ≡ not b → b ≡ true → o ≡ None
none_of None b e t = refl
none_of (Some a) true e t = absurd (cc)
none_of (Some a) false e t = absurd (cc)

-- or it was
pub some_of : {A : Type 0} (o : Option A) (b : Bool) → is_some o ≡ not b → b ≡ false → (a : A) × (o ≡ Some a)
some_of (Some a) b e f = (a, refl)
some_of None true e f = absurd (cc)
some_of None false e f = absurd (cc)

-- a view that is the same as one that is the same
pub view_then : {a b c : WasiSocketsCtxView} → SameView a b → SameView b c → SameView a c
view_then h k = record { context = k.context ∙ h.context; same_context = k.same_context ∙ h.same_context; same_table = k.same_table ∙ h.same_table; same_store = k.same_store ∙ h.same_store }

module _ {first : Asks (Result Found Stop × Machine)} (look : Look) (pollables : List ℕ) (i : ℕ) (m : Machine) (ids : Ids) (found : Found) {o s : Seen} (within : i < length pollables) (before : Reaches first (look_each look (drop i pollables) m ids found) o s) where
  -- those from the place on begin with the one at the place
  here : Reaches first (look_each look (get_or pollables i 0 ∷ drop (i + 1) pollables) m ids found) o s
  here = rw (drop_more pollables i 0 within) at before

  -- it was looked at before
  pub look_skips : (ready : Bool) → found_of found (get_or pollables i 0) ≡ Some ready → Reaches first (look_each look (drop (i + 1) pollables) m ids found) o s
  look_skips ready f = rw f at here

  -- it wasn't, and is looked at now
  pub look_goes : (n : Machine) (after : Ids) (ready : Bool) {t : Seen} → found_of found (get_or pollables i 0) ≡ None → after ≡ ids_after_look look m ids (get_or pollables i 0) → Reaches (look_at_pollable look m ids (get_or pollables i 0)) (Give (Ok ready, n)) s t
      → Reaches first (look_each look (drop (i + 1) pollables) n after (found ++ (get_or pollables i 0, ready) ∷ [])) o t
  look_goes n after ready f a now = rw a (reaches_then (rw f at here) (reaches_on (looked_at (ids_after_look look m ids (get_or pollables i 0)) found (get_or pollables i 0) (look_each look (drop (i + 1) pollables))) now))

  -- or the look stops it
  pub look_stops : (n : Machine) (x : Fault) (r : Result Found Fault) {t : Seen} → found_of found (get_or pollables i 0) ≡ None → IsErrAnd r (λ y. y ≡ x) → AsksFor (look_at_pollable look m ids (get_or pollables i 0)) s t (λ (ready : Result Bool Stop). (ready, n)) (fault_outcome {T = Bool} (Err x))
      → AsksFor first o t (λ (done : Result Found Stop). (done, n)) (fault_outcome r)
  look_stops n x r f h asked = asks_after (rw f at here) (fault_passed (looked_at (ids_after_look look m ids (get_or pollables i 0)) found (get_or pollables i 0) (look_each look (drop (i + 1) pollables))) x r h asked (λ stop. refl))

-- none is left
pub looks_end : {first : Asks (Result Found Stop × Machine)} (look : Look) (pollables : List ℕ) (i : ℕ) (m : Machine) (ids : Ids) (found : Found) {o s : Seen} → length pollables ≤ i → Reaches first (look_each look (drop i pollables) m ids found) o s → AsksFor first o s (λ (done : Result Found Stop). (done, m)) (Ok (Ok found))
looks_end look pollables i m ids found l before = asks_ok (rw (drop_all i pollables l) at before)

-- none is ready, and the call is pending
pub none_ready : (ids : Ids) (pollables places : List ℕ) (m : Machine) (found : Found) → places ≡ ready_places found 0 pollables → places ≡ [] → polled_each ids pollables (Ok found, m) ≡ (Ok Pending, record m { store = record m.store { standing = Some (standing_as ids (Blocking (blocking.Poll pollables))) } })
none_ready ids pollables places m found e n = ap (places_given ids pollables m) (sym e ∙ n)

-- or one is
pub some_ready : (ids : Ids) (pollables places : List ℕ) (m : Machine) (found : Found) → places ≡ ready_places found 0 pollables → (places ≡ [] → ⊥) → polled_each ids pollables (Ok found, m) ≡ (Ok (Ready places), m)
some_ready ids pollables [] m found e n = absurd (n refl)
some_ready ids pollables (k ∷ places) m found e n = ap (places_given ids pollables m) (sym e)
