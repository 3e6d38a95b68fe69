-- What stays where slots change nothing but their children.
use Rattle.std.proofs.Common.{◌≡◌, ℕ, ◌+◌, ◌≤◌, Option, None, Some, List, [], ◌∷◌, false, refl, ap, ◌∙◌, sym, arith, inl, inr}
use Rattle.std.specs.Option.{option_map}
use Rattle.std.proofs.lemmas.Bool.{cases_eq, eq-eqb, ne_eqb}
use Rattle.slab.specs.Slab.{Slab, get, Updates, SameValues, with_value as slab_with}
use Rattle.slab.proofs.SlabLemmas.{Updates-with_value}
use Rattle.wasi_table.specs.declared.slot.Slot.{Slot}
use Rattle.wasi_table.specs.Slots.{live_in}
use Rattle.wasi_table.specs.Table.{Live, is_child, children_of}
use Rattle.wasi_table.specs.Keys.{live_of, Matches, IsLed, AreSound, IsKept, relisted}
use Rattle.wasi_table.proofs.Leads.{one_key}

module _ {K : Type 0} where
  -- slots that are changed in their children at most are what they were to the keys
  pub aside : (keys : List (ℕ × ℕ)) (low next : ℕ) (s t : Slab (Slot K)) (change : List ℕ → List ℕ) (p : Option ℕ) → ((k : ℕ) (x : Slot K) → get s k ≡ Some x → low ≤ x.handle → get t k ≡ Some (relisted change p x))
      → Matches keys low next s → Matches keys low next t × (live_of keys t ≡ live_of keys s)
  aside [] low next s t change p stays m = (m, refl)
  aside (e ∷ keys) low next s t change p stays m =
      let kept : get t e.1 ≡ Some (relisted change p m.0) = stays e.1 m.0 m.1 (omega (arith, m.2, m.4)) in
      let later = aside keys (e.0 + 1) next s t change p (λ k x f l. stays k x f (omega (arith, l, m.4))) m.5 in
      ((relisted change p m.0, kept, m.2, m.3, m.4, later.0), rw (kept, m.1) (ap (λ (r : List (Live K)). live_in m.0 ∷ r) later.1))

  -- a slot that isn't the parent's stays
  pub unlisted : (change : List ℕ → List ℕ) (p : Option ℕ) (o : Option (Slot K)) → ((x : Slot K) → o ≡ Some x → is_child p x.handle ≡ false) → o ≡ option_map (relisted change p) o
  unlisted change p None other = refl
  unlisted change p (Some x) other = rw (other x refl) refl

  -- what a slot was before
  pub was : (change : List ℕ → List ℕ) (p : Option ℕ) (o : Option (Slot K)) (x : Slot K) → option_map (relisted change p) o ≡ Some x → (y : Slot K) × (o ≡ Some y) × (x ≡ relisted change p y)
  was change p None x e = absurd (cc)
  was change p (Some y) x e = let z : Some (relisted change p y) ≡ Some x = e in (y, refl, cc)

  -- so a write at the parent's key is a change of the parent's slot alone
  pub relisted_at : (keys : List (ℕ × ℕ)) (s : Slab (Slot K)) (at parent : ℕ) (slot : Slot K) (ids : List ℕ) (change : List ℕ → List ℕ) → IsLed keys s → get s at ≡ Some slot → slot.handle ≡ parent → ids ≡ change slot.children
      → (k : ℕ) → get (slab_with s at (record slot { children = ids })) k ≡ option_map (relisted change (Some parent)) (get s k)
  relisted_at keys s at parent slot ids change led found named listed k =
      elim (cases_eq k at) [
        | inl same ↦
            let here : get t k ≡ Some (record slot { children = ids }) = ap (get t) same ∙ u.changed in
            let there : get s k ≡ Some slot = ap (get s) same ∙ found in
            rw (here, there, eq-eqb slot.handle parent named) (ap (λ (l : List ℕ). Some (record slot { children = l })) listed)
        | inr other ↦
            u.others k other ∙ unlisted change (Some parent) (get s k) (λ x f. ne_eqb x.handle parent (λ same. other (one_key keys x.handle slot.handle k at (same ∙ sym named) (led k x f) (led at slot found))))
      ]
    where
      t : Slab (Slot K)
      t = slab_with s at (record slot { children = ids })

      u : Updates s t at (Some (record slot { children = ids }))
      u = Updates-with_value s at (record slot { children = ids }) (rw found refl)

  -- a write of the same children changes nothing
  pub same_children : (s : Slab (Slot K)) (at : ℕ) (slot : Slot K) (ids : List ℕ) → get s at ≡ Some slot → ids ≡ slot.children → SameValues s (slab_with s at (record slot { children = ids }))
  same_children s at slot ids found same k =
      elim (cases_eq k at) [
        | inl here ↦ ap (get t) here ∙ u.changed ∙ ap (λ (l : List ℕ). Some (record slot { children = l })) same ∙ sym found ∙ ap (get s) (sym here)
        | inr other ↦ u.others k other
      ]
    where
      t : Slab (Slot K)
      t = slab_with s at (record slot { children = ids })

      u : Updates s t at (Some (record slot { children = ids }))
      u = Updates-with_value s at (record slot { children = ids }) (rw found refl)

  -- what is kept is sound, and shown the same
  pub kept : (keys fs : List (ℕ × ℕ)) (next : ℕ) (s t : Slab (Slot K)) → IsKept s t keys fs → AreSound keys next s → AreSound fs next t × (live_of fs t ≡ live_of keys s)
  kept keys fs next s t same sound =
      let stay = aside keys 0 next s t (λ ids. ids) None (λ k x f l. same.slots k ∙ f) sound.matches in
      rw same.entries (
        record {
          matches = stay.0;
          led = λ k x f. sound.led k x (sym (same.slots k) ∙ f);
          listed = λ k x f. sound.listed k x (sym (same.slots k) ∙ f) ∙ ap (λ (l : List (Live K)). children_of l x.handle) (sym stay.1);
        },
        stay.1,
      )
