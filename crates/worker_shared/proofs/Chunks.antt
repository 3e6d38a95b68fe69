-- The bytes of chunks in order.
use Rattle.std.proofs.Common.{◌≡◌, ◌∙◌, ℕ, List, [], ◌∷◌, ◌++◌, ap, sym, append_assoc, append-nil}
use Rattle.std.specs.List.{concat}

pub concat_end : (chunks : List (List ℕ)) (chunk : List ℕ) → concat (chunks ++ chunk ∷ []) ≡ concat chunks ++ chunk
concat_end [] chunk = append-nil chunk
concat_end (c ∷ chunks) chunk = ap (λ r. c ++ r) (concat_end chunks chunk) ∙ sym (append_assoc c (concat chunks) chunk)
