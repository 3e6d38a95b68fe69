-- Whether a call stands beside others, and what a poll and a cancel of one leave.
use Rattle.std.specs.Prelude.{◌||◌, ◌&&◌, not, position}
use Rattle.wasi_causes.proofs.Words.{◌≡◌, ℕ, ◌==◌, ◌++◌, ◌∷◌, Bool, true, false, List, [], Option, Some, None, refl}
use Rattle.wasi_causes.proofs.Words.{IsSome, is_some, Machine, ap, eq-eqb, eqb-true, inl, inr, slice_get, slice_set, suc, sym, zero, ◌∙◌}
use Rattle.wasi_walks.specs.Licence.{Has}
use Rattle.host_store.specs.Beside.{has_datagram, is_datagram_of}
use Rattle.host_store.specs.declared.beside.Beside.{Beside}
use Rattle.host_store.proofs.BesidePlaces.{at_place, found_at}
use Rattle.host_store.specs.declared.beside.BesideCall.{BesideCall}
use Rattle.host_store.specs.Beside.{beside_as, beside_in, beside_of, beside_put, beside_with, stands_under}
use Rattle.host_store.specs.Standing.{call_of, standing_as, stands_as}
use Rattle.host_store.specs.declared.store.Standing.{Standing}
use Rattle.host_store.specs.declared.store.StandingCall.{StandingCall}
use Rattle.wasi_world.specs.declared.ids.Ids.{Ids}
use Rattle.wasi_causes.specs.P3Connects.{IsBeside}

pub is_there : (o : Option Beside) → is_some o ≡ true → IsSome o
is_there None e = absurd (cc)
is_there (Some b) e = refl

pub there_is : (o : Option Beside) → IsSome o → is_some o ≡ true
there_is None h = absurd (cc)
there_is (Some b) h = refl

-- no call of either kind, or one of either
pub none_stands : (a b : Bool) → a ≡ false → b ≡ false → (a || b) ≡ false
none_stands true b x y = absurd (cc)
none_stands false b x y = y

pub one_stands : (a b : Bool) → a ≡ true → (a || b) ≡ true
one_stands true b x = refl
one_stands false b x = absurd (cc)

pub other_stands : (a b : Bool) → b ≡ true → (a || b) ≡ true
other_stands true b x = refl
other_stands false b x = x

pub not_both : (b : Bool) → b ≡ true → b ≡ false → ⊥
not_both b x y = cc

-- an exclusive call of another number isn't found under this one
pub none_of : (o : Option Standing) (n : ℕ) → stands_as o n ≡ false → call_of o n ≡ None
none_of None n e = refl
none_of (Some s) n e = rw e refl

module _ (m : Machine) (n : ℕ) where
  pub no_call : stands_as m.store.standing n ≡ false → beside_of m.store n ≡ None → stands_under m.store n ≡ false
  no_call other none = none_stands (stands_as m.store.standing n) (is_some (beside_of m.store n)) other (rw none refl)

  pub exclusive_call : stands_as m.store.standing n ≡ true → stands_under m.store n ≡ true
  exclusive_call stands = one_stands (stands_as m.store.standing n) (is_some (beside_of m.store n)) stands

  pub beside_call : {b : Beside} → beside_of m.store n ≡ Some b → stands_under m.store n ≡ true
  beside_call is = other_stands (stands_as m.store.standing n) (is_some (beside_of m.store n)) (rw is refl)

  pub is_beside : {b : Beside} → stands_as m.store.standing n ≡ false → beside_of m.store n ≡ Some b → IsBeside m n
  is_beside other is = (other, rw is refl)

  -- so its poll is one beside the exclusive call
  pub polled_beside : IsBeside m n → (not (stands_as m.store.standing n) && is_some (beside_of m.store n)) ≡ true
  polled_beside beside = rw beside.0 (there_is (beside_of m.store n) beside.1)

  -- which of the three it is
  pub one_of_three : {P : Type 0} → (stands_as m.store.standing n ≡ true → P) → (stands_under m.store n ≡ false → P) → (IsBeside m n → P) → P
  one_of_three {P} exclusive none beside = by (stands_as m.store.standing n) refl
    where
      by_beside : stands_as m.store.standing n ≡ false → (o : Option Beside) → beside_of m.store n ≡ o → P
      by_beside other None e = none (no_call other e)
      by_beside other (Some b) e = beside (is_beside other e)

      by : (b : Bool) → stands_as m.store.standing n ≡ b → P
      by true e = exclusive e
      by false e = by_beside e (beside_of m.store n) refl

  -- the exclusive call has this number, so none that is polled stands beside it
  pub not_beside : stands_as m.store.standing n ≡ true → IsBeside m n → ⊥
  not_beside stands beside = let other = beside.0 in cc

-- a poll of the exclusive call is none beside it
pub polls_itself : (m : Machine) (ids : Ids) (call : StandingCall) → m.store.standing ≡ Some (standing_as ids call)
    → (not (stands_as m.store.standing ids.line) && is_some (beside_of m.store ids.line)) ≡ false
polls_itself m ids call stands = rw (stands, eq-eqb ids.line ids.line refl) refl

-- the call that was appended is found
pub found_last : (calls : List Beside) (b : Beside) → IsSome (beside_in (calls ++ b ∷ []) b.line)
found_last [] b = rw (eq-eqb b.line b.line refl) refl
found_last (c ∷ calls) b = by (c.line == b.line) refl (found_last calls b)
  where
    by : (same : Bool) → (c.line == b.line) ≡ same → IsSome (beside_in (calls ++ b ∷ []) b.line) → IsSome (beside_in ((c ∷ calls) ++ b ∷ []) b.line)
    by true e later = rw e refl
    by false e later = rw e later

-- == a call in the place of another of its number
found_set : (n : ℕ) (calls : List Beside) (i : ℕ) (b : Beside) → b.line ≡ n → IsSome (slice_get calls i) → IsSome (beside_in (slice_set calls i b) n)
found_set n [] i b e some = absurd (cc)
found_set n (c ∷ calls) zero b e some = rw (e, eq-eqb n n refl) refl
found_set n (c ∷ calls) (suc i) b e some = by_line (c.line == n) refl (found_set n calls i b e some)
  where
    by_line : (same : Bool) → (c.line == n) ≡ same → IsSome (beside_in (slice_set calls i b) n) → IsSome (beside_in (c ∷ slice_set calls i b) n)
    by_line true k later = rw k refl
    by_line false k later = rw k later

-- it is found there
pub found_there : (calls : List Beside) (n : ℕ) (its : BesideCall) → IsSome (beside_in calls n) → IsSome (beside_in (beside_with calls n its) n)
found_there calls n its some = by_place (position (λ b. b.line == n) calls) (found_at (λ b. b.line == n) calls)
  where
    by_place : (o : Option ℕ) → at_place calls o ≡ beside_in calls n → IsSome (beside_in (beside_put calls n its o) n)
    by_place None e = some
    by_place (Some i) e = found_set n calls i (beside_as n its) refl (rw e some)

-- one that is found is among them, by its number
pub find_has : (calls : List Beside) (n : ℕ) (b : Beside) → beside_in calls n ≡ Some b → Has calls b × (b.line ≡ n)
find_has [] n b e = absurd (cc)
find_has (c ∷ calls) n b e = by_line (c.line == n) refl (find_has calls n b) e
  where
    by_line : (same : Bool) → (c.line == n) ≡ same → (beside_in calls n ≡ Some b → Has calls b × (b.line ≡ n)) → beside_in (c ∷ calls) n ≡ Some b → Has (c ∷ calls) b × (b.line ≡ n)
    by_line true k later e = let its : c ≡ b = (let p : Some c ≡ Some b = (rw k at e) in cc) in (inl its, ap (λ (x : Beside). x.line) (sym its) ∙ eqb-true c.line n k)
    by_line false k later e = let found = later (rw k at e) in (inr found.0, found.1)

-- so is a datagram, among those of its socket
pub datagram_has : (calls : List Beside) (place : ℕ) (b : Beside) → Has calls b → is_datagram_of place b.call ≡ true → has_datagram calls place ≡ true
datagram_has [] place b has is = absurd has
datagram_has (c ∷ calls) place b (inl same) is = one_stands (is_datagram_of place c.call) (has_datagram calls place) (ap (λ (x : Beside). is_datagram_of place x.call) same ∙ is)
datagram_has (c ∷ calls) place b (inr later) is = other_stands (is_datagram_of place c.call) (has_datagram calls place) (datagram_has calls place b later is)
