-- How the lines of a case are read, one after another.
use Rattle.std.proofs.Common.{◌==◌, arith, false, ◌<◌, ◌≤◌, length, subst, ◌≡◌, ◌≢◌, ◌∙◌, ap, sym, refl, ℕ, List, [], ◌∷◌, ◌++◌, codes, Option, Some, None, append_assoc, append-nil}
use Rattle.std.proofs.lemmas.Bool.Decides.{nat_tests}
use Rattle.std.specs.Prelude.{option_map, option_and_then}
use Rattle.std.specs.List.{cons_option}
use Rattle.std.proofs.lemmas.List.{flat_map_more}
use Rattle.std.proofs.lemmas.List.Elements.{filter_map-append}
use Rattle.world_text.specs.Lines.{lines_of, rest_of}
use Rattle.wasi_transcript.specs.Cases.{after, unlines, script_of, planned_at, next_planned, shown_at, titled, case_at}
use Rattle.wasi_transcript.specs.declared.cases.Shown.{Shown}
use Rattle.wasi_transcript.specs.CaseRead.{TakesAfter, ReadsPlanned, ReadsShown, PushesStep}

-- one line more of a text
pub unlines_more : (lines : List (List ℕ)) (line : List ℕ) → unlines lines ++ (line ++ codes "\n") ≡ unlines (lines ++ line ∷ [])
unlines_more lines line = flat_map_more (λ line. line ++ codes "\n") [] lines line

-- == the scenario
-- These lines of the scenario were read since the start, and what follows is read as before.
pub record Planning (old now scenario : List ℕ) : Type 0 where
  pub done : List (List ℕ)
  pub planned : (planned_at (lines_of old)).0 ≡ done ++ (planned_at (lines_of now)).0
  pub left : (planned_at (lines_of old)).1 ≡ (planned_at (lines_of now)).1
  pub rest : rest_of old ≡ rest_of now
  pub text : scenario ≡ unlines done
  pub shorter : length now ≤ length old

pub planning_start : (old scenario : List ℕ) → scenario ≡ [] → Planning old old scenario
planning_start old scenario e = record { done = []; planned = refl; left = refl; rest = refl; text = e; shorter = omega arith }

planned_next : (lines : List (List ℕ)) (line plan : List ℕ) (more : List (List ℕ)) → lines ≡ line ∷ more → after (codes "given ") line ≡ Some plan → planned_at lines ≡ (plan ∷ (planned_at more).0, (planned_at more).1)
planned_next lines line plan more e h = ap planned_at e ∙ ap (λ o. next_planned o line more (planned_at more)) h

pub planning_on : {old now new scenario grown : List ℕ} {plan : List ℕ} → Planning old now scenario → TakesAfter (codes "given ") now new (Some plan) → grown ≡ scenario ++ (plan ++ codes "\n") → Planning old new grown
planning_on {now = now} {new = new} {scenario = scenario} {plan = plan} h k e =
    let next = planned_next (lines_of now) k.0 plan (lines_of new) k.2 k.1 in record {
      done = h.done ++ plan ∷ [];
      planned = h.planned ∙ ap (λ p. h.done ++ p.0) next ∙ sym (append_assoc h.done (plan ∷ []) (planned_at (lines_of new)).0);
      left = h.left ∙ ap (λ p. p.1) next;
      rest = h.rest ∙ k.3;
      text = e ∙ ap (λ t. t ++ (plan ++ codes "\n")) h.text ∙ unlines_more h.done plan;
      shorter = omega (arith, h.shorter, k.4);
    }

none_planned : (lines : List (List ℕ)) → ((line : List ℕ) → (more : List (List ℕ)) → lines ≡ line ∷ more → after (codes "given ") line ≡ None) → planned_at lines ≡ ([], lines)
none_planned [] h = refl
none_planned (line ∷ lines) h = ap (λ o. next_planned o line lines (planned_at lines)) (h line lines refl)

pub planning_over : {old now new scenario : List ℕ} → Planning old now scenario → TakesAfter (codes "given ") now new None → ReadsPlanned old new scenario
planning_over {now = now} h k =
    let none = none_planned (lines_of now) k.0 in record {
      left = h.left ∙ ap (λ p. p.1) none ∙ ap lines_of (sym k.1);
      rest = h.rest ∙ ap rest_of (sym k.1);
      text = h.text ∙ ap unlines (sym (h.planned ∙ ap (λ p. h.done ++ p.0) none ∙ append-nil h.done));
      shorter = omega (arith, h.shorter, ap length k.1);
    }

-- == the transcript
-- the lines before those that were found
abbrev pub before : List (List ℕ) → List (List ℕ) × List (List ℕ) → List (List ℕ) × List (List ℕ)
before done found = (done ++ found.0, found.1)

-- These lines of the transcript were read since the start, and what follows is read as before.
pub record Showing (old now script wanted : List ℕ) : Type 0 where
  pub done : List (List ℕ)
  pub shown : shown_at (lines_of old) ≡ option_map (before done) (shown_at (lines_of now))
  pub rest : rest_of old ≡ rest_of now
  pub script_is : script ≡ unlines (script_of done)
  pub wanted_is : wanted ≡ unlines done
  pub shorter : length now ≤ length old

same_found : (o : Option (List (List ℕ) × List (List ℕ))) → o ≡ option_map (before []) o
same_found None = refl
same_found (Some found) = refl

pub showing_start : (old script wanted : List ℕ) → script ≡ [] → wanted ≡ [] → Showing old old script wanted
showing_start old script wanted s w = record { done = []; shown = same_found (shown_at (lines_of old)); rest = refl; script_is = s; wanted_is = w; shorter = omega arith }

-- the script of one line more
script_more : (done : List (List ℕ)) (line : List ℕ) → script_of (done ++ line ∷ []) ≡ script_of done ++ cons_option (after (codes "> ") line) []
script_more done line = filter_map-append (after (codes "> ")) done (line ∷ [])

-- its text
script_with : (done : List (List ℕ)) (line script grown : List ℕ) (step : List ℕ) → after (codes "> ") line ≡ Some step → script ≡ unlines (script_of done) → grown ≡ script ++ (step ++ codes "\n") → grown ≡ unlines (script_of (done ++ line ∷ []))
script_with done line script grown step h e g =
    g ∙ ap (λ t. t ++ (step ++ codes "\n")) e ∙ unlines_more (script_of done) step ∙ ap unlines (sym (script_more done line ∙ ap (λ o. script_of done ++ cons_option o []) h))

script_without : (done : List (List ℕ)) (line script : List ℕ) → after (codes "> ") line ≡ None → script ≡ unlines (script_of done) → script ≡ unlines (script_of (done ++ line ∷ []))
script_without done line script h e = e ∙ ap unlines (sym (script_more done line ∙ ap (λ o. script_of done ++ cons_option o []) h ∙ append-nil (script_of done)))

pub script_on : (done : List (List ℕ)) (line script grown : List ℕ) (o : Option (List ℕ)) → after (codes "> ") line ≡ o → PushesStep line script grown o → script ≡ unlines (script_of done) → grown ≡ unlines (script_of (done ++ line ∷ []))
script_on done line script grown (Some step) h p e = script_with done line script grown step h e p
script_on done line script grown None h p e = p ∙ script_without done line script h e

isnt_zero : (n : ℕ) → false ≡ (n == 0) → 0 < n
isnt_zero n e = grind (arith, nat_tests)

pub not_empty : (line : List ℕ) → false ≡ (length line == 0) → line ≢ []
not_empty line h e = let z = isnt_zero (length line) h in let l = ap length e in omega (arith, z, l)

shown_next : (line : List ℕ) (lines : List (List ℕ)) → line ≢ [] → shown_at (line ∷ lines) ≡ option_map (before (line ∷ [])) (shown_at lines)
shown_next [] lines h = absurd (h refl)
shown_next (b ∷ bytes) lines h = refl

twice_found : (done : List (List ℕ)) (line : List ℕ) (o : Option (List (List ℕ) × List (List ℕ))) → option_map (before done) (option_map (before (line ∷ [])) o) ≡ option_map (before (done ++ line ∷ [])) o
twice_found done line None = refl
twice_found done line (Some found) = ap (λ ls. Some (ls, found.1)) (sym (append_assoc done (line ∷ []) found.0))

-- a line more of the transcript
pub showing_on : {old now new script wanted grown_script grown : List ℕ} (line : List ℕ) → (h : Showing old now script wanted) → line ≢ [] → lines_of now ≡ line ∷ lines_of new → rest_of now ≡ rest_of new → length new < length now → grown_script ≡ unlines (script_of (h.done ++ line ∷ [])) → grown ≡ wanted ++ (line ++ codes "\n") → Showing old new grown_script grown
showing_on {new = new} line h some lines rest less script e = record {
  done = h.done ++ line ∷ [];
  shown = h.shown ∙ ap (option_map (before h.done)) (ap shown_at lines ∙ shown_next line (lines_of new) some) ∙ twice_found h.done line (shown_at (lines_of new));
  rest = h.rest ∙ rest;
  script_is = script;
  wanted_is = e ∙ ap (λ t. t ++ (line ++ codes "\n")) h.wanted_is ∙ unlines_more h.done line;
  shorter = omega (arith, h.shorter, less);
}

-- == the case
pub as_shown : (old new : List ℕ) (o : Option Shown) (code : Shown) → o ≡ Some code → ReadsShown old new o → ReadsShown old new (Some code)
as_shown old new o code e h = subst (λ (s : Option Shown). ReadsShown old new s) e h

-- a title, a scenario and a transcript
pub case_whole : (line title : List ℕ) (lines left shown more : List (List ℕ)) → after (codes "# ") line ≡ Some title → (planned_at lines).1 ≡ left → shown_at left ≡ Some (shown, more) → case_at (line ∷ lines) ≡ Some (record { title = title; planned = (planned_at lines).0; shown = shown }, more)
case_whole line title lines left shown more h p s =
    ap (option_and_then (titled lines)) h ∙ ap (option_map (λ found. (record { title = title; planned = (planned_at lines).0; shown = found.0 }, found.1))) (ap shown_at p ∙ s)

pub case_unfinished : (line title : List ℕ) (lines left : List (List ℕ)) → after (codes "# ") line ≡ Some title → (planned_at lines).1 ≡ left → shown_at left ≡ None → case_at (line ∷ lines) ≡ None
case_unfinished line title lines left h p s =
    ap (option_and_then (titled lines)) h ∙ ap (option_map (λ found. (record { title = title; planned = (planned_at lines).0; shown = found.0 }, found.1))) (ap shown_at p ∙ s)

pub case_untitled : (lines : List (List ℕ)) → ((line : List ℕ) → (more : List (List ℕ)) → lines ≡ line ∷ more → after (codes "# ") line ≡ None) → case_at lines ≡ None
case_untitled [] h = refl
case_untitled (line ∷ lines) h = ap (option_and_then (titled lines)) (h line lines refl)
