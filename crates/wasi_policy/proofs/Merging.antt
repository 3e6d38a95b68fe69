-- Laws of a log with denied checks put in.
use Rattle.std.specs.Prelude.{filter}
use Rattle.std.specs.List.{list_all, AllByRecursion}
use Rattle.std.proofs.Common.{◌≡◌, ℕ, ◌+◌, ◌-◌, ◌≤◌, Bool, true, false, not, List, [], ◌∷◌, ◌++◌, take, drop, length, map, arith, ap, sym, ◌∙◌, refl, append_assoc}
use Rattle.std.specs.Prelude.{nat_le}
use Rattle.std.proofs.lemmas.Bool.{and_parts, false≢true}
use Rattle.std.proofs.lemmas.Bool.Decides.{nat_tests}
use Rattle.std.proofs.lemmas.List.{take-append-le, drop-append-le, take-append-drop, take_all, length-drop}
use Rattle.std.proofs.lemmas.List.Elements.{filter-append}
use Rattle.wasi_world.specs.declared.call.Entry.{Entry}
use Rattle.wasi_policy.specs.declared.denied.Denied.{Denied}
use Rattle.wasi_policy.specs.Policed.{merged_from, rises}

-- == places
at_most : (m n : ℕ) → nat_le m n ≡ true → m ≤ n
at_most m n h = grind (arith, nat_tests)

is_at_most : (m n : ℕ) → m ≤ n → nat_le m n ≡ true
is_at_most m n h = grind (arith, nat_tests)

pub rises_top : (at : ℕ) (ds : List Denied) (top : ℕ) → rises at ds top ≡ true → at ≤ top
rises_top at [] top h = at_most at top h
rises_top at (d ∷ ds) top h =
    let both = and_parts (nat_le at d.place) _ h in
    omega (arith, at_most at d.place both.0, rises_top d.place ds top both.1)

pub rises_more : (at : ℕ) (ds : List Denied) (top more : ℕ) → rises at ds top ≡ true → top ≤ more → rises at ds more ≡ true
rises_more at [] top more h le = is_at_most at more (omega (arith, at_most at top h))
rises_more at (d ∷ ds) top more h le =
    let both = and_parts (nat_le at d.place) _ h in
    rw (both.0, rises_more d.place ds top more both.1 le) refl

pub rises_and : (at : ℕ) (ds : List Denied) (d : Denied) (top : ℕ) → rises at ds top ≡ true → d.place ≡ top → rises at (ds ++ d ∷ []) top ≡ true
rises_and at [] d top h is = rw (is_at_most at d.place (omega (arith, at_most at top h)), is_at_most d.place top (omega arith)) refl
rises_and at (x ∷ ds) d top h is =
    let both = and_parts (nat_le at x.place) _ h in
    rw (both.0, rises_and x.place ds d top both.1 is) refl

-- == one more
module _ (at : ℕ) (d : Denied) (ds : List Denied) (log : List Entry) (h : rises at (d ∷ ds) (at + length log) ≡ true) where
  within : (at ≤ d.place) × (d.place ≤ at + length log)
  within =
      let both = and_parts (nat_le at d.place) _ h in
      (at_most at d.place both.0, rises_top d.place ds (at + length log) both.1)

  after : rises d.place ds (d.place + length (drop (d.place - at) log)) ≡ true
  after =
      let both = and_parts (nat_le at d.place) _ h in
      let same : d.place + length (drop (d.place - at) log) ≡ at + length log = omega (arith, length-drop (d.place - at) log, within.0, within.1) in
      rw same both.1

-- a call that is handed on comes behind all denied checks
pub merged_more : (at : ℕ) (ds : List Denied) (log more : List Entry) → rises at ds (at + length log) ≡ true → merged_from at ds (log ++ more) ≡ merged_from at ds log ++ more
merged_more at [] log more h = refl
merged_more at (d ∷ ds) log more h =
    let k = d.place - at in
    let le : d.place - at ≤ length log = omega (arith, (within at d ds log h).0, (within at d ds log h).1) in
    let front = take-append-le (d.place - at) log more le in
    let back = drop-append-le (d.place - at) log more le in
    let next = merged_more d.place ds (drop (d.place - at) log) more (after at d ds log h) in
    rw (front, back, next) (sym (append_assoc (take (d.place - at) log) (d.entry ∷ merged_from d.place ds (drop (d.place - at) log)) more))

drop_all : (n : ℕ) (log : List Entry) → length log ≤ n → drop n log ≡ []
drop_all n log h = nothing (drop n log) (omega (arith, length-drop n log)) where
  nothing : (xs : List Entry) → length xs ≤ 0 → xs ≡ []
  nothing [] e = refl
  nothing (x ∷ xs) e = absurd (omega arith)

-- and so does a check that is denied
pub merged_and : (at : ℕ) (ds : List Denied) (d : Denied) (log : List Entry) → rises at ds (at + length log) ≡ true → d.place ≡ at + length log → merged_from at (ds ++ d ∷ []) log ≡ merged_from at ds log ++ d.entry ∷ []
merged_and at [] d log h is =
    let le : length log ≤ d.place - at = omega arith in
    rw (take_all (d.place - at) log le, drop_all (d.place - at) log le) refl
merged_and at (x ∷ ds) d log h is =
    let same : d.place ≡ x.place + length (drop (x.place - at) log) = omega (arith, length-drop (x.place - at) log, (within at x ds log h).0, (within at x ds log h).1) in
    let next = merged_and x.place ds d (drop (x.place - at) log) (after at x ds log h) same in
    rw next (sym (append_assoc (take (x.place - at) log) (x.entry ∷ merged_from x.place ds (drop (x.place - at) log)) (d.entry ∷ [])))

-- == what a test picks
filter_all : (p : Entry → Bool) (log : List Entry) → list_all p log ≡ true → filter p log ≡ log
filter_all p [] h = refl
filter_all p (e ∷ log) h = let both = and_parts (p e) _ h in rw (both.0, filter_all p log both.1) refl

filter_one : (p : Entry → Bool) (e : Entry) (log : List Entry) → p e ≡ true → filter p (e ∷ log) ≡ e ∷ filter p log
filter_one p e log h = rw h refl

filter_other : (p : Entry → Bool) (e : Entry) (log : List Entry) → p e ≡ false → filter p (e ∷ log) ≡ filter p log
filter_other p e log h = rw h refl

-- the entries of the log alone
pub filter_merged : (p : Entry → Bool) (at : ℕ) (ds : List Denied) (log : List Entry) → AllByRecursion (λ (d : Denied). p d.entry ≡ false) ds → filter p (merged_from at ds log) ≡ filter p log
filter_merged p at [] log none = refl
filter_merged p at (d ∷ ds) log none =
    filter-append p (take (d.place - at) log) (d.entry ∷ merged_from d.place ds (drop (d.place - at) log))
    ∙ (ap (λ xs. filter p (take (d.place - at) log) ++ xs) (filter_other p d.entry _ none.0 ∙ filter_merged p d.place ds (drop (d.place - at) log) none.1)
    ∙ (sym (filter-append p (take (d.place - at) log) (drop (d.place - at) log)) ∙ ap (filter p) (take-append-drop (d.place - at) log)))

-- the denied checks alone
pub filter_denied : (p : Entry → Bool) (at : ℕ) (ds : List Denied) (log : List Entry) → AllByRecursion (λ (d : Denied). p d.entry ≡ true) ds → filter p log ≡ [] → filter p (merged_from at ds log) ≡ map (λ (d : Denied). d.entry) ds
filter_denied p at [] log all none = none
filter_denied p at (d ∷ ds) log all none =
    let k = d.place - at in
    let parts : filter p (take (d.place - at) log) ++ filter p (drop (d.place - at) log) ≡ [] = sym (filter-append p (take (d.place - at) log) (drop (d.place - at) log)) ∙ (ap (filter p) (take-append-drop (d.place - at) log) ∙ none) in
    let both = no_parts (filter p (take (d.place - at) log)) (filter p (drop (d.place - at) log)) parts in
    filter-append p (take (d.place - at) log) (d.entry ∷ merged_from d.place ds (drop (d.place - at) log))
    ∙ (rw both.0 (filter_one p d.entry _ all.0 ∙ ap (λ xs. d.entry ∷ xs) (filter_denied p d.place ds (drop (d.place - at) log) all.1 both.1)))
  where
    no_parts : (xs ys : List Entry) → xs ++ ys ≡ [] → (xs ≡ []) × (ys ≡ [])
    no_parts [] ys h = (refl, h)
    no_parts (x ∷ xs) ys h = cc

-- == what holds of each entry
all_both : (P : Entry → Type 0) (xs ys : List Entry) → AllByRecursion P xs → AllByRecursion P ys → AllByRecursion P (xs ++ ys)
all_both P [] ys h k = k
all_both P (x ∷ xs) ys h k = (h.0, all_both P xs ys h.1 k)

all_parts : (P : Entry → Type 0) (xs ys : List Entry) → AllByRecursion P (xs ++ ys) → AllByRecursion P xs × AllByRecursion P ys
all_parts P [] ys h = (tt, h)
all_parts P (x ∷ xs) ys h = let parts = all_parts P xs ys h.1 in ((h.0, parts.0), parts.1)

pub all_merged : (P : Entry → Type 0) (at : ℕ) (ds : List Denied) (log : List Entry) → AllByRecursion (λ (d : Denied). P d.entry) ds → AllByRecursion P log → AllByRecursion P (merged_from at ds log)
all_merged P at [] log denied all = all
all_merged P at (d ∷ ds) log denied all =
    let same : log ≡ take (d.place - at) log ++ drop (d.place - at) log = sym (take-append-drop (d.place - at) log) in
    let parts = all_parts P (take (d.place - at) log) (drop (d.place - at) log) (rw same at all) in
    all_both P (take (d.place - at) log) (d.entry ∷ merged_from d.place ds (drop (d.place - at) log)) parts.0 (denied.0, all_merged P d.place ds (drop (d.place - at) log) denied.1 parts.1)

-- a test that all pass is a fact of each
pub all_from : {A : Type 0} (p : A → Bool) (P : A → Type 0) (xs : List A) → ((x : A) → p x ≡ true → P x) → list_all p xs ≡ true → AllByRecursion P xs
all_from p P [] from h = tt
all_from p P (x ∷ xs) from h = let both = and_parts (p x) _ h in (from x both.0, all_from p P xs from both.1)

pub none_of : (p : Entry → Bool) (log : List Entry) → list_all (λ e. not (p e)) log ≡ true → filter p log ≡ []
none_of p [] h = refl
none_of p (e ∷ log) h =
    let both = and_parts (not (p e)) _ h in
    filter_other p e log (no (p e) both.0) ∙ none_of p log both.1
  where
    no : (b : Bool) → not b ≡ true → b ≡ false
    no true h = absurd (false≢true h)
    no false h = refl

pub all_of : (p : Entry → Bool) (log : List Entry) → list_all p log ≡ true → filter p log ≡ log
all_of p log h = filter_all p log h
