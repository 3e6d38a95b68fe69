-- The checks that wait for the embedder's answer, and what they are told.
use Rattle.std.specs.Prelude.{◌≡◌, ◌⊎◌, ◌<◌, ℕ, nat_le, if◌then◌else◌, Bool, true, false, List, [], ◌∷◌, ◌++◌, length, Option, Some, None, is_none, filter, slice_get, slice_set, remove}
use Rattle.wasi_asking.specs.declared.asks.Question.{Question}
use Rattle.wasi_asking.specs.declared.asks.Ask.{Ask}
use Rattle.wasi_asking.specs.declared.asks.Asked.{Asked}
use Rattle.wasi_asking.specs.declared.asks.Verdict.{Verdict}
use Rattle.wasi_asking.specs.declared.asks.Verdict.TheVariants.{Yes, No, Later}

-- what a check is told by the embedder's answer; nothing yet where there is none
abbrev pub verdict_of : Option Bool → Verdict
verdict_of (Some true) = Yes
verdict_of (Some false) = No
verdict_of None = Later

-- == the first of these checks that is such a one
abbrev pub NoneIs : (Asked → Type 0) → ℕ → List Asked → Type 0
NoneIs Is upto asked = (j : ℕ) (other : Asked) → j < upto → slice_get asked j ≡ Some other → Is other → ⊥

pub record First (Is : Asked → Type 0) (asked : List Asked) (place : ℕ) : Type 0 where
  pub it : Asked
  pub there : slice_get asked place ≡ Some it
  pub is : Is it
  pub none_before : NoneIs Is place asked

-- what a search for it gives: its place, or that none is
abbrev pub Found : (Asked → Type 0) → List Asked → Option ℕ → Type 0
Found Is asked (Some place) = First Is asked place
Found Is asked None = NoneIs Is (length asked) asked

-- it asks this
abbrev pub AsksThis : Question → Asked → Type 0
AsksThis question it = it.ask.question ≡ question

-- it has this number and waits for its answer
abbrev pub WaitsAs : ℕ → Asked → Type 0
WaitsAs number it = (it.ask.number ≡ number) × (it.answer ≡ None)

-- == what a check is told
-- those that wait
abbrev pub waiting : List Asked → List Asked
waiting asked = filter (λ it. is_none it.answer) asked

-- one that was answered is gone
abbrev pub left_after : Option Bool → List Asked → ℕ → List Asked
left_after (Some answer) asked place = remove asked place
left_after None asked place = asked

-- A check that was asked before is told what the embedder answered to it, once; nothing while there is no answer.
pub record Before (question : Question) (old : List Asked) (verdict : Verdict) (new : List Asked) : Type 0 where
  pub place : ℕ
  pub found : First (AsksThis question) old place
  pub told : verdict ≡ verdict_of found.it.answer
  pub left : new ≡ left_after found.it.answer old place

-- A new one waits, unless as many wait as may: then it is told no. Where the room is short, answers that nobody took give way.
abbrev pub kept_for : ℕ → List Asked → List Asked
kept_for most old = if nat_le most (length old) then waiting old else old

abbrev pub new_check : Question → ℕ → Asked
new_check question number = record { ask = record { number = number; question = question }; answer = None }

abbrev pub told_new : Question → ℕ → ℕ → List Asked → Verdict × List Asked
told_new question most number kept = if nat_le most (length kept) then (No, kept) else (Later, kept ++ new_check question number ∷ [])

abbrev pub IsNew : Question → ℕ → ℕ → List Asked → Verdict → List Asked → Type 0
IsNew question most number old verdict new = (verdict, new) ≡ told_new question most number (kept_for most old)

abbrev pub IsTold : Question → ℕ → ℕ → List Asked → Verdict → List Asked → Type 0
IsTold question most number old verdict new = Before question old verdict new ⊎ (NoneIs (AsksThis question) (length old) old × IsNew question most number old verdict new)

-- == what the embedder answers
-- The first that waits under this number has the answer now, and no other is touched.
pub record Answers (number : ℕ) (yes : Bool) (old new : List Asked) : Type 0 where
  pub place : ℕ
  pub found : First (WaitsAs number) old place
  pub set : new ≡ slice_set old place (record { ask = found.it.ask; answer = Some yes })

abbrev pub DidAnswer : ℕ → Bool → List Asked → Bool → List Asked → Type 0
DidAnswer number said old true new = Answers number said old new
DidAnswer number said old false new = NoneIs (WaitsAs number) (length old) old × (new ≡ old)

-- it has a later number and waits for its answer
abbrev pub WaitsAfter : ℕ → Asked → Type 0
WaitsAfter number it = (number < it.ask.number) × (it.answer ≡ None)

-- The first that waits after this number.
pub record ShowsFirst (number : ℕ) (asked : List Asked) (ask : Ask) : Type 0 where
  pub place : ℕ
  pub found : First (WaitsAfter number) asked place
  pub shown : ask ≡ found.it.ask

abbrev pub Shows : ℕ → List Asked → Option Ask → Type 0
Shows number asked (Some ask) = ShowsFirst number asked ask
Shows number asked None = NoneIs (WaitsAfter number) (length asked) asked
