-- What handles of inputs and outputs of no connection aren't.
use Rattle.std.proofs.Common.{◌≡◌, ℕ, zero, suc, List, [], ◌∷◌, Option, Some, None, false, refl, take}
use Rattle.host_store.specs.declared.kind.Kind.{Kind}
use Rattle.host_store.specs.declared.kind.Kind.TheVariants as kind
use Rattle.host_store.specs.declared.kind.PlainInput.{PlainInput}
use Rattle.host_store.specs.declared.kind.PlainOutput.{PlainOutput}
use Rattle.host_store.specs.Kinds.{input_of, is_readable, is_writable, output_of, plain_input_of, plain_output_of}

-- == its handle is no connection's
pub plain_no_input : (k : Option Kind) (i : PlainInput) → plain_input_of k ≡ Some i → input_of k ≡ None
plain_no_input (Some (kind.PlainInput j)) i is = refl
plain_no_input _ i is = absurd (cc)

pub plain_no_output : (k : Option Kind) (o : PlainOutput) → plain_output_of k ≡ Some o → output_of k ≡ None
plain_no_output (Some (kind.PlainOutput j)) o is = refl
plain_no_output _ o is = absurd (cc)

-- it is no input, or no output, of either kind
pub unreadable : (k : Option Kind) → is_readable k ≡ false → (input_of k ≡ None) × (plain_input_of k ≡ None)
unreadable (Some (kind.Input place)) other = absurd (cc)
unreadable (Some (kind.PlainInput i)) other = absurd (cc)
unreadable _ other = (refl, refl)

pub unwritable : (k : Option Kind) → is_writable k ≡ false → (output_of k ≡ None) × (plain_output_of k ≡ None)
unwritable (Some (kind.Output place)) other = absurd (cc)
unwritable (Some (kind.PlainOutput o)) other = absurd (cc)
unwritable _ other = (refl, refl)

-- == lists
-- of some bytes none are the first of so many where that is 0
pub take_none : (n b : ℕ) (bytes : List ℕ) → take n (b ∷ bytes) ≡ [] → n ≡ 0
take_none zero b bytes e = refl
take_none (suc n) b bytes e = absurd (cc)
