-- Another value in a slot: the table stays sound, and is shown with that value.
use Rattle.std.proofs.Common.{◌≡◌, ◌≢◌, ℕ, ◌+◌, ◌==◌, Bool, true, false, cond, None, Some, List, [], ◌∷◌, refl, ap, ◌∙◌, sym, arith, inl, inr}
use Rattle.std.proofs.lemmas.Bool.{cases_eq, eqb-true, eq-eqb}
use Rattle.slab.specs.Slab.{Slab, get, Updates, with_value as slab_with}
use Rattle.slab.proofs.SlabLemmas.{Updates-with_value}
use Rattle.wasi_table.specs.declared.slot.Slot.{Slot}
use Rattle.wasi_table.specs.Slots.{live_in}
use Rattle.wasi_table.specs.Table.{Live, children_of, with_value}
use Rattle.slab_keys.specs.Keys.{key_at}
use Rattle.wasi_table.specs.Keys.{live_of, Matches, AreSound}
use Rattle.wasi_table.proofs.Orders.{at_is}
use Rattle.wasi_table.proofs.Leads.{named_found, one_slot}
use Rattle.wasi_table.proofs.Stays.{aside}
use Rattle.wasi_table.proofs.Tables.{children_with}

module _ {K : Type 0} where
  module _ (s t : Slab (Slot K)) (key : ℕ) (slot : Slot K) (w : K) (stood : get s key ≡ Some slot) (write : Updates s t key (Some (record slot { value = w }))) where
    -- slots of other handles stay
    stays : (k : ℕ) (x : Slot K) → get s k ≡ Some x → x.handle ≢ slot.handle → get t k ≡ Some x
    stays k x found differs = write.others k (λ same. differs (ap (λ (z : Slot K). z.handle) (one_slot s key x slot (ap (get s) (sym same) ∙ found) stood))) ∙ found

    rewritten : (keys : List (ℕ × ℕ)) (low next : ℕ) → key_at keys slot.handle ≡ Some key → Matches keys low next s → Matches keys low next t × (live_of keys t ≡ with_value (live_of keys s) slot.handle w)
    rewritten [] low next at m = absurd (cc)
    rewritten (e ∷ keys) low next at m = by (λ led. rewritten keys (e.0 + 1) next led m.5) (e.0 == slot.handle) refl
      where
        here : (b : Bool) → (e.0 == slot.handle) ≡ b → cond b (Some e.1) (key_at keys slot.handle) ≡ Some key
        here b same = let first = at_is slot.handle e.0 ∙ same in rw first at at

        by : (key_at keys slot.handle ≡ Some key → Matches keys (e.0 + 1) next t × (live_of keys t ≡ with_value (live_of keys s) slot.handle w))
            → (b : Bool) → (e.0 == slot.handle) ≡ b → Matches (e ∷ keys) low next t × (live_of (e ∷ keys) t ≡ with_value (live_of (e ∷ keys) s) slot.handle w)
        by later true same =
            let l : Some e.1 ≡ Some key = here true same in
            let j : e.1 ≡ key = cc in
            let it : m.0 ≡ slot = one_slot s key m.0 slot (ap (get s) (sym j) ∙ m.1) stood in
            let n : (m.0.handle == slot.handle) ≡ true = ap (λ (z : ℕ). z == slot.handle) m.2 ∙ same in
            let lower : e.0 ≡ slot.handle = eqb-true _ _ same in
            let now : get t e.1 ≡ Some (record m.0 { value = w }) = ap (get t) j ∙ write.changed ∙ ap (λ (z : Slot K). Some (record z { value = w })) (sym it) in
            let off = aside keys (e.0 + 1) next s t (λ ids. ids) None (λ k x f l. stays k x f (λ z. omega arith)) m.5 in
            ((record m.0 { value = w }, now, m.2, m.3, m.4, off.0), rw (now, m.1, n) (ap (λ (r : List (Live K)). (record (live_in m.0) { value = w }) ∷ r) off.1))
        by later false same =
            let n : (m.0.handle == slot.handle) ≡ false = ap (λ (z : ℕ). z == slot.handle) m.2 ∙ same in
            let kept = stays e.1 m.0 m.1 (λ z. (let y : (m.0.handle == slot.handle) ≡ true = eq-eqb _ _ z in let x : false ≡ true = sym n ∙ y in cc)) in
            let more = later (here false same) in
            ((m.0, kept, m.2, m.3, m.4, more.0), rw (kept, m.1, n) (ap (λ (r : List (Live K)). live_in m.0 ∷ r) more.1))

  pub written : (keys : List (ℕ × ℕ)) (next : ℕ) (s : Slab (Slot K)) (h key : ℕ) (slot : Slot K) (w : K) → AreSound keys next s → key_at keys h ≡ Some key → get s key ≡ Some slot
      → AreSound keys next (slab_with s key (record slot { value = w })) × (live_of keys (slab_with s key (record slot { value = w })) ≡ with_value (live_of keys s) h w)
  written keys next s h key slot w sound at stood = (
    record {
      matches = r.0;
      led = λ k x f. (let old = before k x f in ap (key_at keys) old.2 ∙ sound.led k old.0 old.1);
      listed = λ k x f. (let old = before k x f in
          old.3 ∙ sound.listed k old.0 old.1 ∙ ap (children_of (live_of keys s)) (sym old.2)
          ∙ sym (children_with (live_of keys s) slot.handle x.handle w) ∙ ap (λ (l : List (Live K)). children_of l x.handle) (sym r.1));
    },
    r.1 ∙ ap (λ (n : ℕ). with_value (live_of keys s) n w) named,
  )
    where
      t : Slab (Slot K)
      t = slab_with s key (record slot { value = w })

      u : Updates s t key (Some (record slot { value = w }))
      u = Updates-with_value s key (record slot { value = w }) (rw stood refl)

      named : slot.handle ≡ h
      named = named_found keys next s h key slot sound at stood

      r : Matches keys 0 next t × (live_of keys t ≡ with_value (live_of keys s) slot.handle w)
      r = rewritten s t key slot w stood u keys 0 next (sound.led key slot stood) sound.matches

      -- what a slot was before
      before : (k : ℕ) (x : Slot K) → get t k ≡ Some x → (y : Slot K) × (get s k ≡ Some y) × (x.handle ≡ y.handle) × (x.children ≡ y.children)
      before k x f =
          elim (cases_eq k key) [
            | inl same ↦
                let it : x ≡ record slot { value = w } = one_slot t key x (record slot { value = w }) (ap (get t) (sym same) ∙ f) u.changed in
                (slot, ap (get s) same ∙ stood, ap (λ (z : Slot K). z.handle) it, ap (λ (z : Slot K). z.children) it)
            | inr other ↦ (x, sym (u.others k other) ∙ f, refl, refl)
          ]
