-- The steps that the lines of a text spell where so many contexts are there.
use Rattle.std.specs.Prelude.{◌≡◌, ℕ, zero, suc, List, [], ◌∷◌, if◌then◌else◌, ◌==◌, ◌+◌, ◌≤◌, Some, None, length, drop}
use Rattle.world_text.specs.Lines.{lines_of, rest_of, lines_from, rest_from}
use Rattle.wasi_steps.specs.declared.step.Step.{Step}
use Rattle.wasi_steps.specs.Steps.{step_of}

-- what follows so many newlines
abbrev pub after_lines : ℕ → List ℕ → List ℕ
after_lines zero text = text
after_lines (suc n) [] = []
after_lines (suc n) (b ∷ text) = if b == 10 then after_lines n text else after_lines (suc n) text

-- the first lines spell these steps
abbrev pub StartWith : ℕ → List (List ℕ) → List Step → Type 0
StartWith contexts lines [] = Unit {0}
StartWith contexts [] (s ∷ steps) = ⊥
StartWith contexts (line ∷ lines) (s ∷ steps) = (step_of contexts line ≡ Some s) × StartWith contexts lines steps

-- the line after as many isn't a step
abbrev pub BadAfter : ℕ → List (List ℕ) → List Step → Type 0
BadAfter contexts [] steps = ⊥
BadAfter contexts (line ∷ lines) [] = step_of contexts line ≡ None
BadAfter contexts (line ∷ lines) (s ∷ steps) = BadAfter contexts lines steps

-- each line is a step
abbrev pub AllSteps : ℕ → List (List ℕ) → Type 0
AllSteps contexts [] = Unit {0}
AllSteps contexts (line ∷ lines) = ((s : Step) × (step_of contexts line ≡ Some s)) × AllSteps contexts lines

-- All whole lines from one place of the bytes to another were counted, and what is left has none.
pub record LeftAt (number_old at_old : ℕ) (bytes : List ℕ) (number_new at_new : ℕ) : Type 0 where
  pub within : at_new ≤ length bytes
  pub left : drop at_new bytes ≡ rest_of (drop at_old bytes)
  pub count : number_new ≡ number_old + length (lines_of (drop at_old bytes))

-- All whole lines of the bytes were counted, and the unfinished one is kept.
pub record KeptOf (number_old : ℕ) (front bytes : List ℕ) (number_new : ℕ) (kept : List ℕ) : Type 0 where
  pub rest : kept ≡ rest_from front bytes
  pub count : number_new ≡ number_old + length (lines_from front bytes)
