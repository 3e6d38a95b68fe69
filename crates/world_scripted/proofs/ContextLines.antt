-- The lines of contexts, and their numbers.
use Rattle.std.specs.Prelude.{IfSome, slice_get}
use Rattle.std.specs.List.{AllByRecursion}
use Rattle.std.proofs.Common.{◌≡◌, ℕ, zero, suc, List, [], ◌∷◌, ◌++◌, length, Some, None, ap, sym, ◌∙◌}
use Rattle.wasi_world.specs.declared.outcome.WasiSocketsCtx.{WasiSocketsCtx}
use Rattle.world_text.specs.Fields.{read_then, fields_of, whole, word_at}
use Rattle.world_scripted.specs.Scenario.{yes_or_no, yes_or_no_at, context_word, context_at, context_in}
use Rattle.wasi_world.specs.Contexts.{AreNumbered}
use Rattle.world_text.proofs.Words.{no_word}

-- a word that is neither yes nor no
pub no_yes_or_no : (old fields : List (List ℕ)) (word : List ℕ) → word_at old ≡ Some (word, fields) → AllByRecursion (λ r. word ≡ r.word → ⊥) yes_or_no → yes_or_no_at old ≡ None
unfolding yes_or_no_at read_then
no_yes_or_no old fields word e others = rw e (no_word yes_or_no word fields others)

no_context_at : (number : ℕ) (old fields : List (List ℕ)) (word : List ℕ) → word_at old ≡ Some (word, fields) → AllByRecursion (λ r. word ≡ r.word → ⊥) (context_word number) → context_at number old ≡ None
unfolding context_at read_then
no_context_at number old fields word e others = rw e (no_word (context_word number) word fields others)

-- a line that begins with another word
pub no_context : (number : ℕ) (line : List ℕ) (all fields : List (List ℕ)) (word : List ℕ) → all ≡ fields_of line → word_at all ≡ Some (word, fields) → AllByRecursion (λ r. word ≡ r.word → ⊥) (context_word number) → None ≡ context_in number line
unfolding context_in
no_context number line all fields word same e others = sym (ap whole (ap (context_at number) (sym same) ∙ no_context_at number all fields word e others))

-- what holds of each element and its place holds with one more
each_and : {A : Type 0} (P : ℕ → A → Type 0) (xs : List A) (x : A) → ((i : ℕ) → IfSome (slice_get xs i) (P i)) → P (length xs) x → (i : ℕ) → IfSome (slice_get (xs ++ x ∷ []) i) (P i)
each_and P [] x each last zero = last
each_and P [] x each last (suc i) = tt
each_and P (y ∷ xs) x each last zero = each 0
each_and P (y ∷ xs) x each last (suc i) = each_and (λ i. P (suc i)) xs x (λ i. each (suc i)) last i

pub numbered_and : (contexts : List WasiSocketsCtx) (context : WasiSocketsCtx) → context.name ≡ length contexts → AreNumbered contexts → AreNumbered (contexts ++ context ∷ [])
numbered_and contexts context named each = each_and (λ i ctx. ctx.name ≡ i) contexts context each named
