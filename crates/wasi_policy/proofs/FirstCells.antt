-- Cells have the least place of the rules of each port.
use Rattle.std.specs.Prelude.{nat_le, min, IfOk, Result, Ok, Err}
use Rattle.std.proofs.Common.{◌≡◌, ℕ, ◌+◌, ◌≤◌, ◌<◌, Bool, true, false, List, [], ◌∷◌, ◌++◌, zero, suc, ◌-◌, ◌⊎◌, inl, inr, length, take, drop, get_or, arith, ap, sym, ◌∙◌, refl}
use Rattle.std.specs.List.Sorted.{IsNonDecreasingBy}
use Rattle.std.proofs.lemmas.List.{append-nil, append_assoc, drop_all, drop_more, take_rest}
use Rattle.std.proofs.lemmas.List.Sorted.{IsNonDecreasingBy-from_all_adjacent}
use Rattle.std.proofs.lemmas.Bool.{and_parts, false≢true, cases_lt}
use Rattle.std.proofs.lemmas.Bool.Decides.{nat_tests}
use Rattle.wasi_policy.specs.declared.cells.Cell.{Cell}
use Rattle.wasi_policy.specs.declared.reach.Reach.{Reach}
use Rattle.wasi_policy.specs.Reach.{no_rule, first_by_port}
use Rattle.wasi_policy.specs.Cells.{at_port, cells_of_one, cell_of, least_with, among, is_next, merged_cells, rises_from}

-- == the lesser of two lists of cells
least_with_at : (first other : ℕ) (cells : List Cell) (port : ℕ) → at_port (min first other) (least_with first cells) port ≡ min first (at_port other cells port)
least_with_at first other [] port = refl
least_with_at first other (cell ∷ cells) port = step (nat_le cell.start port) refl (least_with_at first cell.first cells port) where
  step : (b : Bool) → nat_le cell.start port ≡ b → at_port (min first cell.first) (least_with first cells) port ≡ min first (at_port cell.first cells port) → at_port (min first other) (least_with first (cell ∷ cells)) port ≡ min first (at_port other (cell ∷ cells) port)
  step true h rest = rw h rest
  step false h rest = rw h refl

among_at : (first : ℕ) (cell : Cell) (cells : List Cell) (more : ℕ → List Cell → List Cell) (port : ℕ) → ((other : ℕ) (others : List Cell) → at_port (min cell.first other) (more other others) port ≡ min (at_port cell.first cells port) (at_port other others port)) → (other : ℕ) (others : List Cell) → at_port (min first other) (among first cell more other others) port ≡ min (at_port first (cell ∷ cells) port) (at_port other others port)
among_at first cell cells more port rest other [] = step (nat_le cell.start port) refl where
  step : (b : Bool) → nat_le cell.start port ≡ b → at_port (min first other) (among first cell more other []) port ≡ min (at_port first (cell ∷ cells) port) (at_port other [] port)
  step true h = rw h (rest other [])
  step false h = rw h refl
among_at first cell cells more port rest other (beside ∷ others) = step (nat_le cell.start beside.start) (nat_le cell.start port) (nat_le beside.start port) refl refl refl (among_at first cell cells more port rest beside.first others) where
  step : (b c d : Bool) → nat_le cell.start beside.start ≡ b → nat_le cell.start port ≡ c → nat_le beside.start port ≡ d → at_port (min first beside.first) (among first cell more beside.first others) port ≡ min (at_port first (cell ∷ cells) port) (at_port beside.first others port) → at_port (min first other) (among first cell more other (beside ∷ others)) port ≡ min (at_port first (cell ∷ cells) port) (at_port other (beside ∷ others) port)
  step true true true e f g more' = rw (e, f) (rest other (beside ∷ others) ∙ ap (min (at_port cell.first cells port)) (rw g refl))
  step true true false e f g more' = rw (e, f) (rest other (beside ∷ others) ∙ ap (min (at_port cell.first cells port)) (rw g refl))
  step true false false e f g more' = rw (e, f, g) refl
  step true false true e f g more' = absurd (grind (arith, nat_tests))
  step false c true e f g more' = rw (e, g) more'
  step false true false e f g more' = absurd (grind (arith, nat_tests))
  step false false false e f g more' = rw (e, f, g) refl

pub merged_at : (first other : ℕ) (these those : List Cell) (port : ℕ) → at_port (min first other) (merged_cells first other these those) port ≡ min (at_port first these port) (at_port other those port)
merged_at first other [] those port = least_with_at first other those port
merged_at first other (cell ∷ these) those port = among_at first cell these (λ next more. merged_cells cell.first next these more) port (λ next more. merged_at cell.first next these more port) other those

-- == one step of it
next_this : (first other : ℕ) (cell : Cell) (these those : List Cell) → is_next (cell ∷ these) those ≡ true → merged_cells first other (cell ∷ these) those ≡ cell_of cell.start (min cell.first other) ∷ merged_cells cell.first other these those
next_this first other cell these [] h = refl
next_this first other cell these (that ∷ those) h = rw h refl

next_that : (first other : ℕ) (these : List Cell) (cell : Cell) (those : List Cell) → is_next these (cell ∷ those) ≡ false → merged_cells first other these (cell ∷ those) ≡ cell_of cell.start (min first cell.first) ∷ merged_cells first cell.first these those
next_that first other [] cell those h = refl
next_that first other (this ∷ these) cell those h = rw h refl

-- these cells are done, and this is what follows them
module _ (these those : List Cell) (at beside first other : ℕ) (cells : List Cell) (h : cells ++ merged_cells first other (drop at these) (drop beside those) ≡ merged_cells no_rule no_rule these those) where
  pub step_this : (d : Cell) → at < length these → is_next (drop at these) (drop beside those) ≡ true → (cells ++ cell_of (get_or these at d).start (min (get_or these at d).first other) ∷ []) ++ merged_cells (get_or these at d).first other (drop (at + 1) these) (drop beside those) ≡ merged_cells no_rule no_rule these those
  step_this d below is =
      let here : drop at these ≡ get_or these at d ∷ drop (at + 1) these = drop_more these at d below in
      let is' : is_next (get_or these at d ∷ drop (at + 1) these) (drop beside those) ≡ true = ap (λ xs. is_next xs (drop beside those)) (sym here) ∙ is in
      append_assoc cells _ _ ∙ (ap (λ xs. cells ++ xs) (sym (ap (λ xs. merged_cells first other xs (drop beside those)) here ∙ next_this first other (get_or these at d) (drop (at + 1) these) (drop beside those) is')) ∙ h)

  pub step_that : (d : Cell) → beside < length those → is_next (drop at these) (drop beside those) ≡ false → (cells ++ cell_of (get_or those beside d).start (min first (get_or those beside d).first) ∷ []) ++ merged_cells first (get_or those beside d).first (drop at these) (drop (beside + 1) those) ≡ merged_cells no_rule no_rule these those
  step_that d below is =
      let here : drop beside those ≡ get_or those beside d ∷ drop (beside + 1) those = drop_more those beside d below in
      let is' : is_next (drop at these) (get_or those beside d ∷ drop (beside + 1) those) ≡ false = ap (λ xs. is_next (drop at these) xs) (sym here) ∙ is in
      append_assoc cells _ _ ∙ (ap (λ xs. cells ++ xs) (sym (ap (λ xs. merged_cells first other (drop at these) xs) here ∙ next_that first other (drop at these) (get_or those beside d) (drop (beside + 1) those) is')) ∙ h)

  pub step_end : length these ≤ at → length those ≤ beside → cells ≡ merged_cells no_rule no_rule these those
  step_end e f = sym (append-nil cells) ∙ (ap (λ xs. cells ++ xs) (sym (rw (drop_all at these e, drop_all beside those f) refl)) ∙ h)

-- the tests of two slices are those of the rests of the lists
pub next_is : (these those : List Cell) (at beside : ℕ) → is_next (take (length these - at) (drop at these)) (take (length those - beside) (drop beside those)) ≡ is_next (drop at these) (drop beside those)
next_is these those at beside = ap (λ xs. is_next xs (take (length those - beside) (drop beside those))) (take_rest these at) ∙ ap (λ xs. is_next (drop at these) xs) (take_rest those beside)

-- if these come next there are some, and else there are some of those
pub has_this : (these those : List Cell) (at beside : ℕ) → is_next (drop at these) (drop beside those) ≡ true → at < length these
has_this these those at beside h = by_place (cases_lt at (length these)) where
  by_place : (at < length these) ⊎ (length these ≤ at) → at < length these
  by_place (inl e) = e
  by_place (inr e) = absurd (false≢true (ap (λ xs. is_next xs (drop beside those)) (sym (drop_all at these e)) ∙ h))

pub has_that : (these those : List Cell) (at beside : ℕ) → (at < length these) ⊎ (beside < length those) → is_next (drop at these) (drop beside those) ≡ false → beside < length those
has_that these those at beside (inr e) h = e
has_that these those at beside (inl e) h = by_place (cases_lt beside (length those)) where
  this : Cell
  this = cell_of 0 0

  by_place : (beside < length those) ⊎ (length those ≤ beside) → beside < length those
  by_place (inl f) = f
  by_place (inr f) =
      let some : is_next (drop at these) (drop beside those) ≡ true = ap (λ xs. is_next (drop at these) xs) (drop_all beside those f) ∙ ap (λ xs. is_next xs []) (drop_more these at this e) in
      absurd (false≢true (sym h ∙ some))

-- == the order of cells
le_true : (m n : ℕ) → m ≤ n → nat_le m n ≡ true
le_true m n h = grind (arith, nat_tests)

true_le : (m n : ℕ) → nat_le m n ≡ true → m ≤ n
true_le m n h = grind (arith, nat_tests)

false_lt : (m n : ℕ) → nat_le m n ≡ false → n < m
false_lt m n h = grind (arith, nat_tests)

least_with_rises : (first start : ℕ) (cells : List Cell) → rises_from start cells ≡ true → rises_from start (least_with first cells) ≡ true
least_with_rises first start [] h = refl
least_with_rises first start (cell ∷ cells) h =
    let both = and_parts (nat_le start cell.start) _ h in
    rw (both.0, least_with_rises first cell.start cells both.1) refl

among_rises : (first : ℕ) (cell : Cell) (more : ℕ → List Cell → List Cell) → ((other : ℕ) (others : List Cell) → rises_from cell.start others ≡ true → rises_from cell.start (more other others) ≡ true) → (start other : ℕ) (others : List Cell) → start ≤ cell.start → rises_from start others ≡ true → rises_from start (among first cell more other others) ≡ true
among_rises first cell more rest start other [] below h = rw (le_true start cell.start below, rest other [] refl) refl
among_rises first cell more rest start other (beside ∷ others) below h =
    let both = and_parts (nat_le start beside.start) _ h in
    step (nat_le cell.start beside.start) refl both.0 both.1 (λ e. among_rises first cell more rest beside.start beside.first others e both.1)
  where
    step : (b : Bool) → nat_le cell.start beside.start ≡ b → nat_le start beside.start ≡ true → rises_from beside.start others ≡ true → (beside.start ≤ cell.start → rises_from beside.start (among first cell more beside.first others) ≡ true) → rises_from start (among first cell more other (beside ∷ others)) ≡ true
    step true e here more' next =
        let others' : rises_from cell.start (beside ∷ others) ≡ true = rw (e, more') refl in
        rw (e, le_true start cell.start below, rest other (beside ∷ others) others') refl
    step false e here more' next =
        let later : beside.start ≤ cell.start = omega (arith, false_lt cell.start beside.start e) in
        rw (e, here, next later) refl

pub merged_rises : (first other start : ℕ) (these those : List Cell) → rises_from start these ≡ true → rises_from start those ≡ true → rises_from start (merged_cells first other these those) ≡ true
merged_rises first other start [] those h k = least_with_rises first start those k
merged_rises first other start (cell ∷ these) those h k =
    let both = and_parts (nat_le start cell.start) _ h in
    among_rises first cell (λ next more. merged_cells cell.first next these more) (λ next more e. merged_rises cell.first next cell.start these more both.1 e) start other those (true_le start cell.start both.0) k

-- == where a port lies among cells
adjacent : (start : ℕ) (cells : List Cell) → rises_from start cells ≡ true → (k : ℕ) (d : Cell) → suc k < length cells → (get_or cells k d).start ≤ (get_or cells (suc k) d).start
adjacent start [] h k d below = absurd (omega (arith, below))
adjacent start (cell ∷ []) h k d below = absurd (omega (arith, below))
adjacent start (cell ∷ next ∷ cells) h zero d below =
    let both = and_parts (nat_le start cell.start) _ h in
    let more = and_parts (nat_le cell.start next.start) _ both.1 in
    true_le cell.start next.start more.0
adjacent start (cell ∷ next ∷ cells) h (suc k) d below =
    let both = and_parts (nat_le start cell.start) _ h in
    adjacent cell.start (next ∷ cells) both.1 k d (omega (arith, below))

adjacent_at : (cells : List Cell) → rises_from 0 cells ≡ true → (k : ℕ) (d : Cell) → k + 1 < length cells → (get_or cells k d).start ≤ (get_or cells (k + 1) d).start
adjacent_at cells h k d below =
    let next : k + 1 ≡ suc k = omega arith in
    rw next (adjacent 0 cells h k d (omega (arith, below)))

pub rising : (cells : List Cell) → rises_from 0 cells ≡ true → IsNonDecreasingBy (λ (cell : Cell). cell.start) cells
rising cells h = IsNonDecreasingBy-from_all_adjacent (λ (cell : Cell). cell.start) cells (adjacent_at cells h)

-- so many cells start at the port or before it, and the others behind it
abbrev pub last_before : ℕ → List Cell → ℕ → ℕ
last_before first cells zero = first
last_before first [] (suc count) = first
last_before first (cell ∷ cells) (suc count) = last_before cell.first cells count

pub at_count : (first : ℕ) (cells : List Cell) (port count : ℕ) → ((k : ℕ) (d : Cell) → k < count → (get_or cells k d).start ≤ port) → ((k : ℕ) (d : Cell) → count ≤ k → k < length cells → port < (get_or cells k d).start) → at_port first cells port ≡ last_before first cells count
at_count first [] port zero begun later = refl
at_count first [] port (suc count) begun later = refl
at_count first (cell ∷ cells) port zero begun later =
    let behind : nat_le cell.start port ≡ false = let more : port < cell.start = later 0 cell (omega arith) (omega arith) in grind (arith, nat_tests) in
    rw behind refl
at_count first (cell ∷ cells) port (suc count) begun later =
    let here : nat_le cell.start port ≡ true = le_true cell.start port (begun 0 cell (omega arith)) in
    rw here (at_count cell.first cells port count (λ k d h. begun (suc k) d (omega (arith, h))) (λ k d h e. later (suc k) d (omega (arith, h)) (omega (arith, e))))

pub last_is : (first : ℕ) (cells : List Cell) (count : ℕ) (d : Cell) → count < length cells → last_before first cells (suc count) ≡ (get_or cells count d).first
last_is first [] count d h = absurd (omega (arith, h))
last_is first (cell ∷ cells) zero d h = refl
last_is first (cell ∷ cells) (suc count) d h = last_is cell.first cells count d (omega (arith, h))

-- == the rules of a list
pub first_by_port-append : (xs ys : List Reach) (port : ℕ) → first_by_port (xs ++ ys) port ≡ min (first_by_port xs port) (first_by_port ys port)
first_by_port-append [] ys port = sym (within ys) where
  within : (ys : List Reach) → min no_rule (first_by_port ys port) ≡ first_by_port ys port
  within [] = refl
  within (y ∷ ys) = let rest = within ys in omega (arith, rest)
first_by_port-append (x ∷ xs) ys port = let rest = first_by_port-append xs ys port in rw rest (omega arith)

one_at : (reach : Reach) (port : ℕ) → reach.place ≤ no_rule → at_port no_rule (cells_of_one reach) port ≡ first_by_port (reach ∷ []) port
one_at reach port h = step (nat_le reach.least reach.greatest) (nat_le reach.least port) (nat_le port reach.greatest) (nat_le (reach.greatest + 1) port) refl refl refl refl where
  step : (a b c d : Bool) → nat_le reach.least reach.greatest ≡ a → nat_le reach.least port ≡ b → nat_le port reach.greatest ≡ c → nat_le (reach.greatest + 1) port ≡ d → at_port no_rule (cells_of_one reach) port ≡ first_by_port (reach ∷ []) port
  step true true true true x e f g = absurd (grind (arith, nat_tests))
  step true true true false x e f g = rw (x, e, f, g) (omega (arith, h))
  step true true false true x e f g = rw (x, e, f, g) refl
  step true true false false x e f g = absurd (grind (arith, nat_tests))
  step true false c d x e f g = rw (x, e) refl
  step false true true d x e f g = absurd (grind (arith, nat_tests))
  step false true false d x e f g = rw (x, e, f) refl
  step false false c d x e f g = rw (x, e) refl

one_rise : (reach : Reach) → rises_from 0 (cells_of_one reach) ≡ true
one_rise reach = step (nat_le reach.least reach.greatest) refl where
  step : (b : Bool) → nat_le reach.least reach.greatest ≡ b → rises_from 0 (cells_of_one reach) ≡ true
  step true e =
      let here : nat_le 0 reach.least ≡ true = grind (arith, nat_tests) in
      let next : nat_le reach.least (reach.greatest + 1) ≡ true = grind (arith, nat_tests) in
      rw (e, here, next) refl
  step false e = rw e refl

pub one_rises : (reaches : List Reach) (d : Reach) (cells : List Cell) → cells ≡ cells_of_one (get_or reaches 0 d) → rises_from 0 cells ≡ true
one_rises reaches d cells is = rw is (one_rise (get_or reaches 0 d))

pub one_first : (reaches : List Reach) (d : Reach) (cells : List Cell) (port : ℕ) → 1 ≤ length reaches → length reaches < 2 → (get_or reaches 0 d).place ≤ no_rule → cells ≡ cells_of_one (get_or reaches 0 d) → at_port no_rule cells port ≡ first_by_port reaches port
one_first [] d cells port some few fits is = absurd (omega (arith, some))
one_first (reach ∷ []) d cells port some few fits is = rw is (one_at reach port fits)
one_first (reach ∷ next ∷ reaches) d cells port some few fits is = absurd (omega (arith, few))

pub both_first : (reaches front back : List Reach) (these those cells : List Cell) (port : ℕ) → front ++ back ≡ reaches → cells ≡ merged_cells no_rule no_rule these those → at_port no_rule these port ≡ first_by_port front port → at_port no_rule those port ≡ first_by_port back port → at_port no_rule cells port ≡ first_by_port reaches port
both_first reaches front back these those cells port whole is e f =
    ap (λ xs. at_port no_rule xs port) is
    ∙ (merged_at no_rule no_rule these those port
    ∙ (ap (λ x. min x (at_port no_rule those port)) e
    ∙ (ap (min (first_by_port front port)) f
    ∙ (sym (first_by_port-append front back port) ∙ ap (λ xs. first_by_port xs port) whole))))

-- what follows from the fact of an Ok
pub then_ok : {T E : Type 0} (r : Result T E) {P : T → Type 0} {Q : T → Type 0} → IfOk r P → ((x : T) → P x → Q x) → IfOk r Q
then_ok (Ok x) h f = f x h
then_ok (Err e) h f = tt
