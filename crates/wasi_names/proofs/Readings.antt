-- Laws of the names that bytes are.
use Rattle.std.proofs.Common.{◌≡◌, ℕ, Bool, true, false, List, None, IsUtf8, refl}
use Rattle.std.specs.Str.{is_utf8}
use Rattle.std.proofs.lemmas.Str.{IsUtf8-from_is_utf8, is_utf8-from_IsUtf8}
use Rattle.wasi_names.specs.Names.{host_named, name_is}

-- text is read
pub text_is : (name text : List ℕ) → text ≡ name → IsUtf8 name → name_is name ≡ host_named text
unfolding name_is
text_is name text same utf8 = rw (same, is_utf8-from_IsUtf8 name utf8)

no_utf8 : (b : Bool) (name : List ℕ) → is_utf8 name ≡ b → (IsUtf8 name → ⊥) → b ≡ false
no_utf8 true name h other = absurd (other (IsUtf8-from_is_utf8 name h))
no_utf8 false name h other = refl

-- and what isn't text is refused
pub no_text_is : (name : List ℕ) → (IsUtf8 name → ⊥) → name_is name ≡ None
unfolding name_is
no_text_is name other = rw (no_utf8 (is_utf8 name) name refl other)
