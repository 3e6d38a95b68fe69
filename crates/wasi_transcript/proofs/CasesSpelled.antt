-- The lines of a case are read as that case, and lines that are read as a case are that case's.
use Rattle.std.proofs.Common.{arith, if◌then◌else◌, ◌≡◌, ◌≢◌, ◌∙◌, ap, sym, refl, subst, ℕ, Bool, true, false, List, [], ◌∷◌, ◌++◌, map, length, take, drop, bytes_eq, codes, Option, Some, None, append_assoc}
use Rattle.std.specs.Prelude.{option_map, option_and_then}
use Rattle.std.specs.List.{AllByRecursion}
use Rattle.std.specs.Option.{unwrap_or}
use Rattle.std.proofs.Math.Seq.{take-append_seam, drop-append_seam}
use Rattle.std.proofs.lemmas.Option.{none-some}
use Rattle.std.proofs.lemmas.List.{take-append-drop}
use Rattle.std.proofs.lemmas.Slice.Eq.{bytes_eq-Decides}
use Rattle.wasi_transcript.specs.Cases.{CaseText, IsCase, NotFirst, case_lines, after, next_planned, planned_at, shown_at, titled, case_at}
use Rattle.wasi_transcript.proofs.CasesRead.{case_whole}

-- == what is in front
some_is : {A : Type 0} (x y : A) → Some x ≡ Some y → x ≡ y
some_is x y e = ap (λ o. unwrap_or o x) e

same_bytes : (xs ys : List ℕ) → xs ≡ ys → bytes_eq xs ys ≡ true
same_bytes xs ys e = (bytes_eq-Decides xs ys).1 e

pub after_front : (front rest : List ℕ) → after front (front ++ rest) ≡ Some rest
unfolding after
after_front front rest =
    ap (λ b. if b then Some (drop (length front) (front ++ rest)) else None) (same_bytes (take (length front) (front ++ rest)) front (take-append_seam front rest)) ∙ ap Some (drop-append_seam front rest)

after_by : (front line rest : List ℕ) (b : Bool) → bytes_eq (take (length front) line) front ≡ b → (if b then Some (drop (length front) line) else None) ≡ Some rest → line ≡ front ++ rest
after_by front line rest true e k =
    sym (take-append-drop (length front) line) ∙ ap (λ f. f ++ drop (length front) line) ((bytes_eq-Decides (take (length front) line) front).0 e) ∙ ap (λ r. front ++ r) (some_is (drop (length front) line) rest k)
after_by front line rest false e k = absurd (none-some rest k)

pub after_is : (front line rest : List ℕ) → after front line ≡ Some rest → line ≡ front ++ rest
unfolding after
after_is front line rest h = after_by front line rest (bytes_eq (take (length front) line) front) refl h

-- == the lines of a scenario
abbrev given : List ℕ → List ℕ
given line = codes "given " ++ line

not_planned : (lines : List (List ℕ)) → NotFirst (codes "given ") lines → planned_at lines ≡ ([], lines)
not_planned [] h = refl
not_planned (line ∷ lines) h = ap (λ o. next_planned o line lines (planned_at lines)) h

planned_spelled : (planned lines : List (List ℕ)) → NotFirst (codes "given ") lines → planned_at (map given planned ++ lines) ≡ (planned, lines)
planned_spelled [] lines h = not_planned lines h
planned_spelled (plan ∷ planned) lines h =
    let more = map given planned ++ lines in
    ap (λ o. next_planned o (given plan) more (planned_at more)) (after_front (codes "given ") plan) ∙ ap (λ p. (plan ∷ p.0, p.1)) (planned_spelled planned lines h)

-- the lines of a scenario, and behind them none
record PlannedIs (lines : List (List ℕ)) (found : List (List ℕ) × List (List ℕ)) : Type 0 where
  pub all : lines ≡ map given found.0 ++ found.1
  pub none : NotFirst (codes "given ") found.1

planned_by : (line : List ℕ) (lines : List (List ℕ)) (o : Option (List ℕ)) → after (codes "given ") line ≡ o → PlannedIs lines (planned_at lines) → PlannedIs (line ∷ lines) (next_planned o line lines (planned_at lines))
planned_by line lines None e h = record { all = refl; none = e }
planned_by line lines (Some plan) e h = record { all = ap (λ l. l ∷ lines) (after_is (codes "given ") line plan e) ∙ ap (λ ls. given plan ∷ ls) h.all; none = h.none }

planned_is : (lines : List (List ℕ)) → PlannedIs lines (planned_at lines)
planned_is [] = record { all = refl; none = tt }
planned_is (line ∷ lines) = planned_by line lines (after (codes "given ") line) refl (planned_is lines)

-- == the transcript
not_nil : (b : ℕ) (bytes : List ℕ) → (b ∷ bytes) ≢ []
not_nil b bytes e = let l = ap length e in omega (arith, l)

shown_spelled : (shown rest : List (List ℕ)) → AllByRecursion (λ line. line ≢ []) shown → shown_at (shown ++ [] ∷ rest) ≡ Some (shown, rest)
shown_spelled [] rest h = refl
shown_spelled ([] ∷ shown) rest h = absurd (h.0 refl)
shown_spelled ((b ∷ bytes) ∷ shown) rest h = ap (option_map (λ found. ((b ∷ bytes) ∷ found.0, found.1))) (shown_spelled shown rest h.1)

-- the lines up to an empty one
record ShownIs (lines : List (List ℕ)) (found : List (List ℕ) × List (List ℕ)) : Type 0 where
  pub all : lines ≡ found.0 ++ [] ∷ found.1
  pub some : AllByRecursion (λ line. line ≢ []) found.0

shown_by : (b : ℕ) (bytes : List ℕ) (lines : List (List ℕ)) (found : List (List ℕ) × List (List ℕ)) (o : Option (List (List ℕ) × List (List ℕ))) → ((more : List (List ℕ) × List (List ℕ)) → o ≡ Some more → ShownIs lines more) → option_map {U = List (List ℕ) × List (List ℕ)} (λ found. ((b ∷ bytes) ∷ found.0, found.1)) o ≡ Some found → ShownIs ((b ∷ bytes) ∷ lines) found
shown_by b bytes lines found None h k = absurd (none-some found k)
shown_by b bytes lines found (Some more) h k =
    let rest = h more refl in
    subst (ShownIs ((b ∷ bytes) ∷ lines)) (some_is ((b ∷ bytes) ∷ more.0, more.1) found k) (record { all = ap (λ ls. (b ∷ bytes) ∷ ls) rest.all; some = (not_nil b bytes, rest.some) })

shown_is : (lines : List (List ℕ)) (found : List (List ℕ) × List (List ℕ)) → shown_at lines ≡ Some found → ShownIs lines found
shown_is [] found h = absurd (none-some found h)
shown_is ([] ∷ lines) found h = subst (ShownIs ([] ∷ lines)) (some_is ([], lines) found h) (record { all = refl; some = tt })
shown_is ((b ∷ bytes) ∷ lines) found h = shown_by b bytes lines found (shown_at lines) (λ more e. shown_is lines more e) h

-- == the case
not_first_on : (shown rest : List (List ℕ)) → NotFirst (codes "given ") shown → NotFirst (codes "given ") (shown ++ [] ∷ rest)
unfolding after
not_first_on [] rest h = refl
not_first_on (line ∷ shown) rest h = h

not_first_of : (shown rest : List (List ℕ)) → NotFirst (codes "given ") (shown ++ rest) → NotFirst (codes "given ") shown
not_first_of [] rest h = tt
not_first_of (line ∷ shown) rest h = h

-- the lines behind the title
lines_behind : (c : CaseText) (rest : List (List ℕ)) → (map given c.planned ++ (c.shown ++ [] ∷ [])) ++ rest ≡ map given c.planned ++ (c.shown ++ [] ∷ rest)
lines_behind c rest = append_assoc (map given c.planned) (c.shown ++ [] ∷ []) rest ∙ ap (λ ls. map given c.planned ++ ls) (append_assoc c.shown ([] ∷ []) rest)

pub case_spelled : (c : CaseText) (rest : List (List ℕ)) → IsCase c → case_at (case_lines c ++ rest) ≡ Some (c, rest)
case_spelled c rest h =
    let lines = (map given c.planned ++ (c.shown ++ [] ∷ [])) ++ rest in
    let planned = ap planned_at (lines_behind c rest) ∙ planned_spelled c.planned (c.shown ++ [] ∷ rest) (not_first_on c.shown rest h.first) in
    case_whole (codes "# " ++ c.title) c.title lines (c.shown ++ [] ∷ rest) c.shown rest (after_front (codes "# ") c.title) (ap (λ p. p.1) planned) (shown_spelled c.shown rest h.some)
    ∙ ap (λ p. Some (record { title = c.title; planned = p.0; shown = c.shown }, rest)) planned

-- a case, and what follows it
record CaseIs (lines : List (List ℕ)) (found : CaseText × List (List ℕ)) : Type 0 where
  pub case : IsCase found.0
  pub all : lines ≡ case_lines found.0 ++ found.1

case_of : (line title : List ℕ) (lines : List (List ℕ)) (shown : List (List ℕ) × List (List ℕ)) → after (codes "# ") line ≡ Some title → shown_at (planned_at lines).1 ≡ Some shown → CaseIs (line ∷ lines) (record { title = title; planned = (planned_at lines).0; shown = shown.0 }, shown.1)
case_of line title lines shown t s =
    let plan = planned_is lines in
    let show = shown_is (planned_at lines).1 shown s in
    let c : CaseText = record { title = title; planned = (planned_at lines).0; shown = shown.0 } in record {
      case = record { some = show.some; first = not_first_of shown.0 ([] ∷ shown.1) (subst (NotFirst (codes "given ")) show.all plan.none) };
      all = ap (λ l. l ∷ lines) (after_is (codes "# ") line title t) ∙ ap (λ ls. (codes "# " ++ title) ∷ ls) (plan.all ∙ ap (λ ls. map given (planned_at lines).0 ++ ls) show.all ∙ sym (lines_behind c shown.1));
    }

case_by_shown : (line title : List ℕ) (lines : List (List ℕ)) (found : CaseText × List (List ℕ)) (o : Option (List (List ℕ) × List (List ℕ))) → after (codes "# ") line ≡ Some title → shown_at (planned_at lines).1 ≡ o → option_map {U = CaseText × List (List ℕ)} (λ shown. (record { title = title; planned = (planned_at lines).0; shown = shown.0 }, shown.1)) o ≡ Some found → CaseIs (line ∷ lines) found
case_by_shown line title lines found None t s h = absurd (none-some found h)
case_by_shown line title lines found (Some shown) t s h = subst (CaseIs (line ∷ lines)) (some_is (record { title = title; planned = (planned_at lines).0; shown = shown.0 }, shown.1) found h) (case_of line title lines shown t s)

case_by_title : (line : List ℕ) (lines : List (List ℕ)) (found : CaseText × List (List ℕ)) (o : Option (List ℕ)) → after (codes "# ") line ≡ o → option_and_then (titled lines) o ≡ Some found → CaseIs (line ∷ lines) found
case_by_title line lines found None t h = absurd (none-some found h)
case_by_title line lines found (Some title) t h = case_by_shown line title lines found (shown_at (planned_at lines).1) t refl h

case_is : (lines : List (List ℕ)) (found : CaseText × List (List ℕ)) → case_at lines ≡ Some found → CaseIs lines found
case_is [] found h = absurd (none-some found h)
case_is (line ∷ lines) found h = case_by_title line lines found (after (codes "# ") line) refl h

pub only_cases : (lines rest : List (List ℕ)) (c : CaseText) → case_at lines ≡ Some (c, rest) → IsCase c × (lines ≡ case_lines c ++ rest)
only_cases lines rest c h = let k = case_is lines (c, rest) h in (k.case, k.all)
