-- The lines of contexts.
use Rattle.std.specs.List.{AllByRecursion}
use Rattle.std.proofs.Common.{◌≡◌, ℕ, List, Some, None, ap, sym, ◌∙◌}
use Rattle.world_text.specs.Fields.{read_then, fields_of, whole, word_at}
use Rattle.world_text.proofs.Words.{no_word}
use Rattle.wasi_replay.specs.Log.{context_word, context_at, context_in}

no_context_at : (number : ℕ) (old fields : List (List ℕ)) (word : List ℕ) → word_at old ≡ Some (word, fields) → AllByRecursion (λ r. word ≡ r.word → ⊥) (context_word number) → context_at number old ≡ None
unfolding context_at read_then
no_context_at number old fields word e others = rw e (no_word (context_word number) word fields others)

-- a line that begins with another word
pub no_context : (number : ℕ) (line : List ℕ) (all fields : List (List ℕ)) (word : List ℕ) → all ≡ fields_of line → word_at all ≡ Some (word, fields) → AllByRecursion (λ r. word ≡ r.word → ⊥) (context_word number) → None ≡ context_in number line
unfolding context_in
no_context number line all fields word same e others = sym (ap whole (ap (context_at number) (sym same) ∙ no_context_at number all fields word e others))
