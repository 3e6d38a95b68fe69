-- What is read ahead, as jobs come and go.
use Rattle.std.proofs.Common.{◌≡◌, ℕ, ◌<◌, List, [], ◌∷◌, ◌++◌, drop, length, refl, ap, ◌∙◌, sym, subst, arith}
use Rattle.std.proofs.lemmas.List.{append_assoc, length-drop}
use Rattle.std.proofs.lemmas.List.Elements.{filter-append}
use Rattle.wasi_jobs.specs.declared.ahead.Hinted.{Hinted}
use Rattle.wasi_jobs.specs.Entries.{inside, without, entries_from}
use Rattle.wasi_jobs.specs.Ahead.{Begins, AreRead}
use Rattle.wasi_jobs.specs.Keys.{Rise}
use Rattle.wasi_jobs.proofs.Rising.{IsFirst, first_from, from_but}

-- nothing is first anywhere
pub nothing_first : (number : ℕ) (jobs first : List (ℕ × Hinted)) → first ≡ [] → Begins number jobs first
nothing_first number jobs first none = subst (Begins number jobs) (sym none) (record { rest = _; are = refl })

-- a job comes, as the last
pub last_behind : (number : ℕ) (jobs first : List (ℕ × Hinted)) (e : ℕ × Hinted) → Begins number jobs first → Begins number (jobs ++ e ∷ []) first
last_behind number jobs first e it =
    let last = entries_from number (e ∷ []) in
    record {
      rest = it.rest ++ last;
      are = filter-append (inside number) jobs (e ∷ []) ∙ ap (λ (l : List (ℕ × Hinted)). l ++ last) it.are ∙ append_assoc first it.rest last;
    }

-- one goes that comes before what is read
pub earlier_out : (number : ℕ) (jobs first : List (ℕ × Hinted)) (n : ℕ) → n < number → Begins number jobs first → Begins number (without n jobs) first
earlier_out number jobs first n lt it = record { rest = it.rest; are = from_but jobs n number lt ∙ it.are }

-- some is left
pub some_left : (from number : ℕ) (jobs read : List (ℕ × Hinted)) (given : ℕ) → Begins from jobs (drop given read) → from ≡ number → given < length read → AreRead number jobs (drop given read)
some_left from number jobs read given it same lt =
    record {
      begins = subst (λ (n : ℕ). Begins n jobs (drop given read)) same it;
      none = λ none. absurd (omega (arith, lt, sym (length-drop given read) ∙ ap length none));
    }

-- the first of what is read is the first in the map
pub first_read : (jobs : List (ℕ × Hinted)) (low next number : ℕ) (first : List (ℕ × Hinted)) (e : ℕ × Hinted) (rest : List (ℕ × Hinted)) → Rise jobs low next
    → (it : Begins number jobs first) → first ≡ e ∷ rest → IsFirst jobs next number e (rest ++ it.rest)
first_read jobs low next number first e rest rise it is = first_from jobs low next number e (rest ++ it.rest) rise (it.are ∙ ap (λ (l : List (ℕ × Hinted)). l ++ it.rest) is)
