-- A search of the checks from the first on.
use Rattle.std.proofs.Common.{◌≡◌, ◌==◌, ◌<◌, ◌≤◌, ℕ, ◌+◌, List, length, Option, Some, None, is_some, remove, rules, slice_get, slice_index_or, slice_set, refl, sym, subst, ap, ◌∙◌, Bool, true, false, IsTrue, ◌⊎◌, inl, inr, arith}
use Rattle.std.proofs.lemmas.Option.{slice_get_read}
use Rattle.std.proofs.lemmas.Bool.{false≢true}
use Rattle.wasi_asking.specs.declared.asks.Asked.{Asked}
use Rattle.wasi_asking.specs.declared.asks.Question.{Question}
use Rattle.wasi_asking.specs.declared.asks.Verdict.{Verdict}
use Rattle.wasi_asking.specs.Asks.{Answers, AsksThis, First, IsTold, NoneIs, WaitsAs, kept_for, left_after, verdict_of, waiting}

here_or_before : (j place : ℕ) (same : Bool) → (j == place) ≡ same → j < place + 1 → (j < place) ⊎ (j ≡ place)
here_or_before j place true e h = inr (grind (arith, e))
here_or_before j place false e h = inl (grind (arith, e, h))

some_is : {A : Type 0} {a b : A} → Some a ≡ Some b → a ≡ b
some_is e = search e

module _ (Is : Asked → Type 0) (asked : List Asked) where
  pub none_at_first : NoneIs Is 0 asked
  none_at_first j other h at is = grind (arith, h)

  -- the check at this place is such a one
  unfoldable pub found : {place : ℕ} (it : Asked) → place < length asked → it ≡ slice_index_or asked place it → Is it → NoneIs Is place asked → First Is asked place
  found {place} it h at is before = record {
    it = it;
    there = slice_get_read asked (length asked) place it refl h at;
    is = is;
    none_before = before;
  }

  -- it isn't
  not_here : {place : ℕ} (it : Asked) → slice_get asked place ≡ Some it → (Is it → ⊥) → NoneIs Is place asked → (j : ℕ) (other : Asked) → (j < place) ⊎ (j ≡ place) → slice_get asked j ≡ Some other → Is other → ⊥
  not_here it at isnt before j other (inl h) there is = before j other h there is
  not_here {place} it at isnt before j other (inr h) there is = isnt (subst Is (some_is (sym there ∙ (ap (slice_get asked) h ∙ at))) is)

  pub none_after : {place : ℕ} (it : Asked) → place < length asked → it ≡ slice_index_or asked place it → (Is it → ⊥) → NoneIs Is place asked → NoneIs Is (place + 1) asked
  none_after {place} it h at isnt before j other below there is =
      not_here it (slice_get_read asked (length asked) place it refl h at) isnt before j other (here_or_before j place (j == place) refl below) there is

-- what a test that is false says
pub isnt : {A : Type 0} {b : Bool} → (IsTrue b → A) × (A → IsTrue b) → b ≡ false → A → ⊥
isnt h e a = false≢true (sym e ∙ h.1 a)

pub is_so : {A : Type 0} {b : Bool} → (IsTrue b → A) × (A → IsTrue b) → b ≡ true → A
is_so h e = h.0 e

-- == what was found
pub same_at : (asked : List Asked) {place : ℕ} (it other : Asked) → place < length asked → slice_get asked place ≡ Some it → other ≡ slice_index_or asked place other → other ≡ it
same_at asked {place} it other h there at = some_is (sym (slice_get_read asked (length asked) place other refl h at) ∙ there)

pub did_answer : (number : ℕ) (said : Bool) (asked : List Asked) {place : ℕ} (other : Asked) → place < length asked → First (WaitsAs number) asked place → other ≡ slice_index_or asked place other → Answers number said asked (slice_set asked place (record { ask = other.ask; answer = Some said }))
did_answer number said asked {place} other h first at = record {
  place = place;
  found = first;
  set = ap (λ it. slice_set asked place (record { ask = it.ask; answer = Some said })) (same_at asked first.it other h first.there at);
}

pub is_gone : (answer : Option Bool) (asked : List Asked) (place : ℕ) → is_some answer ≡ true → remove asked place ≡ left_after answer asked place
is_gone (Some a) asked place e = refl
is_gone None asked place e = absurd (false≢true e)

pub is_kept : (answer : Option Bool) (asked : List Asked) (place : ℕ) → is_some answer ≡ false → asked ≡ left_after answer asked place
is_kept (Some a) asked place e = absurd (false≢true (sym e))
is_kept None asked place e = refl

pub told_before : (question : Question) (most next : ℕ) (asked new : List Asked) {place : ℕ} (other : Asked) (verdict : Verdict) → place < length asked → First (AsksThis question) asked place → other ≡ slice_index_or asked place other → verdict ≡ verdict_of other.answer → new ≡ left_after other.answer asked place → IsTold question most next asked verdict new
told_before question most next asked new {place} other verdict h first at told left =
    let same = same_at asked first.it other h first.there at in
    inl (record {
      place = place;
      found = first;
      told = told ∙ ap (λ it. verdict_of it.answer) same;
      left = left ∙ ap (λ it. left_after it.answer asked place) same;
    })

-- == room
pub gave_way : (most : ℕ) (old new : List Asked) → most ≤ length old → new ≡ waiting old → new ≡ kept_for most old
gave_way most old new h is = search (rules, h, is)
