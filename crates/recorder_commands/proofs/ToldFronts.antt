-- Of a front that a sink took it is enough to know that there is one: how long it is, is seen by what the sink tells.
use Rattle.std.specs.Prelude.{option_map, is_some}
use Rattle.std.proofs.Common.{◌≡◌, ◌==◌, ℕ, ◌<◌, ◌≤◌, ◌-◌, Bool, true, false, List, ◌++◌, ◌⊎◌, inl, inr, take, drop, length, length-append, Option, Some, None, ap, sym, subst, ◌∙◌, refl, arith}
use Rattle.std.proofs.Props.{props}
use Rattle.std.proofs.Math.Logic.{∥∥₁_elim, ∥∥₁_prop}
use Rattle.std.proofs.lemmas.Bool.Decides.{Decides-eqb}
use Rattle.std.proofs.lemmas.Bool.{false≢true}
use Rattle.std.proofs.lemmas.List.{take-append-drop, length-take-le}
use Rattle.std.proofs.Math.Seq.{take-append_seam}
use Rattle.world_io.specs.Io.{Writing, CountRose}
use Rattle.world_io.specs.Written.{TookAll, TookPart, TookFront}

-- == how many bytes it took
abbrev more_told : Option (List ℕ) → Option (List ℕ) → ℕ
more_told None after = 0
more_told (Some w) None = 0
more_told (Some w) (Some v) = length v - length w

abbrev Told : Option (List ℕ) → List ℕ → Option (List ℕ) → Type 0
Told before bytes after = after ≡ option_map (λ w. w ++ take (more_told before after) bytes) before

told : (before after : Option (List ℕ)) (bytes : List ℕ) (cut : ℕ) → cut ≤ length bytes → after ≡ option_map (λ w. w ++ take cut bytes) before → (more_told before after ≤ cut) × Told before bytes after
told None after bytes cut within is = (omega arith, is)
told (Some w) after bytes cut within is =
    let n : length (w ++ take cut bytes) - length w ≡ cut = omega (arith, length-append w (take cut bytes), length-take-le cut bytes within) in
    let P : Option (List ℕ) → Type 0 = λ o. (more_told (Some w) o ≤ cut) × (o ≡ Some (w ++ take (more_told (Some w) o) bytes)) in
    subst P (sym is) (omega (arith, n), ap (λ k. Some (w ++ take k bytes)) (sym n))

-- == one of two counts that rose
either : (a b c d : ℕ) (test : Bool) → (a == b) ≡ test → ∥ (a ≡ b) ⊎ (c ≡ d) ∥₁ → (a ≡ b) ⊎ (c ≡ d)
either a b c d true is some = inl ((Decides-eqb a b).0 is)
either a b c d false is some = inr (∥∥₁_elim some (hlevel props) (λ x. second x)) where
  second : (a ≡ b) ⊎ (c ≡ d) → c ≡ d
  second (inl e) = absurd (false≢true (sym is ∙ (Decides-eqb a b).1 e))
  second (inr e) = e

-- == fronts
TookAll-prop : (old new : Writing) (bytes : List ℕ) → IsProp (TookAll old bytes new)
TookAll-prop old new bytes = hlevel props

pub all_told : {old new : Writing} {bytes : List ℕ} → ∥ TookAll old bytes new ∥₁ → TookAll old bytes new
all_told {old} {new} {bytes} some = ∥∥₁_elim some (TookAll-prop old new bytes) (λ all. all)

record IsPart (old : Writing) (bytes : List ℕ) (new : Writing) : Type 0 where
  short : more_told old.written new.written < length bytes
  took : Told old.written bytes new.written
  counts : ∥ CountRose old new ∥₁
  tells : is_some new.flushed ≡ is_some old.flushed

is_part : {old new : Writing} {bytes : List ℕ} → TookPart old bytes new → IsPart old bytes new
is_part {old} {new} {bytes} part =
    let is = told old.written new.written bytes part.cut (omega (arith, part.short)) part.took.written in
    record { short = omega (arith, is.0, part.short); took = is.1; counts = ∣ part.counts ∣₁; tells = part.tells }

IsPart-prop : (old new : Writing) (bytes : List ℕ) → IsProp (IsPart old bytes new)
IsPart-prop old new bytes = hlevel (props, ∥∥₁_prop)

pub part_told : {old new : Writing} {bytes : List ℕ} → ∥ TookPart old bytes new ∥₁ → TookPart old bytes new
part_told {old} {new} {bytes} some =
    let is = ∥∥₁_elim some (IsPart-prop old new bytes) (λ part. is_part part) in
    record {
      cut = more_told old.written new.written;
      short = is.short;
      took = record { written = is.took };
      counts = record { rose = either _ _ _ _ _ refl (∥∥₁_elim is.counts ∥∥₁_prop (λ c. ∣ c.rose ∣₁)) };
      tells = is.tells;
    }

is_front : {old new : Writing} {bytes : List ℕ} → TookFront old bytes new → Told old.written bytes new.written
is_front {old} {new} {bytes} front =
    let within : length front.taken ≤ length bytes = omega (arith, ap length front.split, length-append front.taken front.rest) in
    let taken : take (length front.taken) bytes ≡ front.taken = ap (take (length front.taken)) front.split ∙ take-append_seam front.taken front.rest in
    (told old.written new.written bytes (length front.taken) within (front.took.written ∙ ap (λ t. option_map (λ w. w ++ t) old.written) (sym taken))).1

pub front_told : {old new : Writing} {bytes : List ℕ} → ∥ TookFront old bytes new ∥₁ → TookFront old bytes new
front_told {old} {new} {bytes} some =
    let count = more_told old.written new.written in
    record {
      taken = take count bytes;
      rest = drop count bytes;
      split = sym (take-append-drop count bytes);
      took = record { written = ∥∥₁_elim some (hlevel props) (λ front. is_front front) };
    }
