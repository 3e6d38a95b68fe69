-- What stays over a list of events, and what is answered once.
use Rattle.std.proofs.Common.{◌≡◌, ℕ, ◌+◌, ◌≤◌, Bool, true, false, cond, List, [], ◌∷◌, ◌++◌, count_by, refl, sym, ap, append_assoc, append-nil, ◌∙◌, zero-add, arith}
use Rattle.std.specs.List.{fold, flat_map}
use Rattle.std.proofs.lemmas.List.Sums.{sum_by-append}
use Rattle.wasi_pipes.specs.Run.{AllMay, steps_of}

-- what each event keeps is so after the events
pub kept_over : {R E : Type 0} (may : R → E → Type 0) (happens : R → E → R) (P : R → Type 0) → ((r : R) (e : E) → may r e → P r → P (happens r e)) → (r : R) (events : List E) → AllMay may happens r events → P r → P (fold happens r events)
kept_over may happens P keeps r [] all h = h
kept_over may happens P keeps r (e ∷ events) all h = kept_over may happens P keeps (happens r e) events all.1 (keeps r e all.0 h)

-- What an event gives comes from the front of what is held, and what it brings goes to the end. So what was given, followed
-- by what is held, is what was held at first, followed by what was brought.
module _ {R E A X : Type 0} (may : R → E → Type 0) (happens : R → E → R) (answer : R → E → A) (P : R → Type 0) (held : R → List X) (given : A → List X) (brought : E → A → List X)
    (keeps : (r : R) (e : E) → may r e → P r → P (happens r e))
    (moves : (r : R) (e : E) → may r e → P r → given (answer r e) ++ held (happens r e) ≡ held r ++ brought e (answer r e))
  where
    pub in_order : (r : R) (events : List E) → AllMay may happens r events → P r → flat_map (λ step. given step.answer) (steps_of answer happens r events) ++ held (fold happens r events) ≡ held r ++ flat_map (λ step. brought step.event step.answer) (steps_of answer happens r events)
    in_order r [] all h = sym (append-nil (held r))
    in_order r (e ∷ events) all h =
        rw (append_assoc, in_order (happens r e) events all.1 (keeps r e all.0 h), ← append_assoc (given (answer r e)), moves r e all.0 h, append_assoc)

count_by-cons : {S : Type 0} (test : S → Bool) (x : S) (xs : List S) → count_by test (x ∷ xs) ≡ cond (test x) 1 0 + count_by test xs
count_by-cons test x xs = sum_by-append (λ y. cond (test y) 1 0) (x ∷ []) xs ∙ ap (λ n. n + count_by test xs) (zero-add (cond (test x) 1 0))

at_most_once : (now : Bool) (later : ℕ) → (now ≡ true → later ≡ 0) → later ≤ 1 → cond now 1 0 + later ≤ 1
at_most_once true later none most = omega (arith, none refl)
at_most_once false later none most = omega arith

-- Answers that pass a test come at most once: an event that is answered so leaves the record over, over it stays, and
-- then no event is answered so.
module _ {R E A : Type 0} (may : R → E → Type 0) (happens : R → E → R) (answer : R → E → A) (test : A → Bool) (over : R → Bool)
    (ends : (r : R) (e : E) → test (answer r e) ≡ true → over (happens r e) ≡ true)
    (stays : (r : R) (e : E) → may r e → over r ≡ true → over (happens r e) ≡ true)
    (silent : (r : R) (e : E) → over r ≡ true → test (answer r e) ≡ false)
  where
    pub none_over : (r : R) (events : List E) → AllMay may happens r events → over r ≡ true → count_by (λ step. test step.answer) (steps_of answer happens r events) ≡ 0
    none_over r [] all h = refl
    none_over r (e ∷ events) all h =
        count_by-cons (λ step. test step.answer) (record { event = e; answer = answer r e }) (steps_of answer happens (happens r e) events) ∙ rw (silent r e h, none_over (happens r e) events all.1 (stays r e all.0 h))

    pub one_at_most : (r : R) (events : List E) → AllMay may happens r events → count_by (λ step. test step.answer) (steps_of answer happens r events) ≤ 1
    one_at_most r [] all = omega arith
    one_at_most r (e ∷ events) all =
        rw (count_by-cons (λ step. test step.answer) (record { event = e; answer = answer r e }) (steps_of answer happens (happens r e) events))
        (at_most_once (test (answer r e)) _ (λ h. none_over (happens r e) events all.1 (ends r e h)) (one_at_most (happens r e) events all.1))
