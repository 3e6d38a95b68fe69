-- Laws of what reads from the front of the fields.
use Rattle.std.proofs.Common.{◌≡◌, ℕ, Bool, true, false, List, ◌∷◌, Some, None, IsUtf8, refl}
use Rattle.std.specs.Str.{is_utf8}
use Rattle.std.proofs.lemmas.Str.{IsUtf8-from_is_utf8, is_utf8-from_IsUtf8}
use Rattle.world_text.specs.Fields.{read_then, give_some, field_at, word_at}

-- a field that is text is a word
pub word_found : (fields rest : List (List ℕ)) (field text : List ℕ) → fields ≡ field ∷ rest → text ≡ field → IsUtf8 field → word_at fields ≡ Some (text, rest)
unfolding word_at read_then field_at give_some
word_found fields rest field text e same utf8 = rw (e, same, is_utf8-from_IsUtf8 field utf8)

no_utf8 : (b : Bool) (field : List ℕ) → is_utf8 field ≡ b → (IsUtf8 field → ⊥) → b ≡ false
no_utf8 true field h other = absurd (other (IsUtf8-from_is_utf8 field h))
no_utf8 false field h other = refl

-- and one that isn't is none
pub word_none : (fields rest : List (List ℕ)) (field : List ℕ) → fields ≡ field ∷ rest → (IsUtf8 field → ⊥) → word_at fields ≡ None
unfolding word_at read_then field_at give_some
word_none fields rest field e other = rw (e, no_utf8 (is_utf8 field) field refl other)
