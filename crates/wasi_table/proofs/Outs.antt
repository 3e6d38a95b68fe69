-- A slot that goes: the table stays sound, and is shown without its handle.
use Rattle.std.proofs.Common.{◌≡◌, ◌≢◌, ℕ, ◌+◌, ◌<◌, ◌≤◌, ◌==◌, Bool, true, false, cond, Option, None, Some, List, [], ◌∷◌, refl, ap, ◌∙◌, sym, arith}
use Rattle.std.specs.Option.{option_map}
use Rattle.std.specs.Ordering.{nat_cmp}
use Rattle.std.specs.BTreeMap.{is_at}
use Rattle.std.specs.Map.{remove_entry}
use Rattle.std.specs.Set.{remove_key}
use Rattle.std.proofs.lemmas.Bool.{eqb-true, eqb-false, eq-eqb, ne_eqb}
use Rattle.slab.specs.Slab.{Slab, get, Updates}
use Rattle.wasi_table.specs.declared.slot.Slot.{Slot}
use Rattle.wasi_table.specs.Slots.{live_in}
use Rattle.wasi_table.specs.Table.{Live, is_child, children_of, without}
use Rattle.slab_keys.specs.Keys.{key_at}
use Rattle.wasi_table.specs.Keys.{live_of, Matches, IsLed, IsFilled, IsListed, AreSound, IsOut, relisted}
use Rattle.wasi_table.proofs.Orders.{at_is, at_another}
use Rattle.wasi_table.proofs.Leads.{one_key, one_slot}
use Rattle.wasi_table.proofs.Stays.{aside, was}
use Rattle.wasi_table.proofs.Tables.{one_more}

-- a list with this handle in front or without it
dropped : (b c : Bool) (h x : ℕ) (ids : List ℕ) → b ≡ c → x ≡ h → ids ≡ cond b (remove_key (is_at (nat_cmp h)) (cond c (x ∷ ids) ids)) (cond c (x ∷ ids) ids)
dropped true true h x ids e same = let t : is_at (nat_cmp h) x ≡ true = at_is h x ∙ eq-eqb x h same in rw t refl
dropped true false h x ids e same = absurd (cc)
dropped false true h x ids e same = absurd (cc)
dropped false false h x ids e same = refl

-- another handle leads where it did
still_leads : (keys fs : List (ℕ × ℕ)) (h key n k : ℕ) → ((m : ℕ) → key_at fs m ≡ cond (is_at (nat_cmp h) m) None (key_at keys m)) → key_at keys h ≡ Some key → key_at keys n ≡ Some k → k ≢ key → key_at fs n ≡ Some k
still_leads keys fs h key n k found at led other =
    found n ∙ ap (λ (b : Bool). cond b None (key_at keys n)) (at_another h n (λ same. other (one_key keys n h k key same led at))) ∙ led

module _ {K : Type 0} where
  matches_lower : (keys : List (ℕ × ℕ)) (low lower next : ℕ) (s : Slab (Slot K)) → lower ≤ low → Matches keys low next s → Matches keys lower next s
  matches_lower [] low lower next s under m = omega arith
  matches_lower (e ∷ keys) low lower next s under m = (m.0, m.1, m.2, m.3, omega (arith, m.4), m.5)

  without_above : (keys : List (ℕ × ℕ)) (low next : ℕ) (s : Slab (Slot K)) (h : ℕ) → h < low → Matches keys low next s → without (live_of keys s) h ≡ live_of keys s
  without_above [] low next s h under m = refl
  without_above (e ∷ keys) low next s h under m =
      let other : (m.0.handle == h) ≡ false = ne_eqb m.0.handle h (λ same. omega (arith, m.2, m.4)) in
      rw (m.1, other) (ap (λ (r : List (Live K)). live_in m.0 ∷ r) (without_above keys _ next s h (omega (arith, m.4)) m.5))

  module _ (s t : Slab (Slot K)) (key : ℕ) (slot : Slot K) (change : List ℕ → List ℕ) (p : Option ℕ) (stood : get s key ≡ Some slot) (others : (k : ℕ) → k ≢ key → get t k ≡ option_map (relisted change p) (get s k)) where
    -- slots of other handles stay
    stays : (k : ℕ) (x : Slot K) → get s k ≡ Some x → x.handle ≢ slot.handle → get t k ≡ Some (relisted change p x)
    stays k x found differs =
        others k (λ same. differs (ap (λ (z : Slot K). z.handle) (one_slot s key x slot (ap (get s) (sym same) ∙ found) stood))) ∙ ap (option_map (relisted change p)) found

    removed : (keys : List (ℕ × ℕ)) (low next : ℕ) → Matches keys low next s
        → Matches (remove_entry (is_at (nat_cmp slot.handle)) keys) low next t × (live_of (remove_entry (is_at (nat_cmp slot.handle)) keys) t ≡ without (live_of keys s) slot.handle)
    removed [] low next m = (m, refl)
    removed (e ∷ keys) low next m = by (removed keys (e.0 + 1) next m.5) (e.0 == slot.handle) refl
      where
        by : Matches (remove_entry (is_at (nat_cmp slot.handle)) keys) (e.0 + 1) next t × (live_of (remove_entry (is_at (nat_cmp slot.handle)) keys) t ≡ without (live_of keys s) slot.handle)
            → (b : Bool) → (e.0 == slot.handle) ≡ b
            → Matches (remove_entry (is_at (nat_cmp slot.handle)) (e ∷ keys)) low next t × (live_of (remove_entry (is_at (nat_cmp slot.handle)) (e ∷ keys)) t ≡ without (live_of (e ∷ keys) s) slot.handle)
        by later true same =
            let here : e.0 ≡ slot.handle = eqb-true _ _ same in
            let n : (m.0.handle == slot.handle) ≡ true = ap (λ (z : ℕ). z == slot.handle) m.2 ∙ same in
            let first : is_at (nat_cmp slot.handle) e.0 ≡ true = at_is slot.handle e.0 ∙ same in
            let off = aside keys (e.0 + 1) next s t change p (λ k x f l. stays k x f (λ z. omega arith)) m.5 in
            rw (first, m.1, n) (matches_lower keys (e.0 + 1) low next t (omega (arith, m.4)) off.0, off.1 ∙ sym (without_above keys (e.0 + 1) next s slot.handle (omega arith) m.5))
        by later false same =
            let n : (m.0.handle == slot.handle) ≡ false = ap (λ (z : ℕ). z == slot.handle) m.2 ∙ same in
            let first : is_at (nat_cmp slot.handle) e.0 ≡ false = at_is slot.handle e.0 ∙ same in
            let kept = stays e.1 m.0 m.1 (λ z. (let y : (m.0.handle == slot.handle) ≡ true = eq-eqb _ _ z in let x : false ≡ true = sym n ∙ y in cc)) in
            rw (first, m.1, n) ((relisted change p m.0, kept, m.2, m.3, m.4, later.0), rw kept (ap (λ (r : List (Live K)). live_in m.0 ∷ r) later.1))

  -- a child that goes leaves the children of its parent, and of no other
  children_without : (keys : List (ℕ × ℕ)) (low next : ℕ) (s : Slab (Slot K)) (key : ℕ) (slot : Slot K) (k : ℕ) → get s key ≡ Some slot → key_at keys slot.handle ≡ Some key → Matches keys low next s
      → children_of (without (live_of keys s) slot.handle) k ≡ cond (is_child slot.parent k) (remove_key (is_at (nat_cmp slot.handle)) (children_of (live_of keys s) k)) (children_of (live_of keys s) k)
  children_without [] low next s key slot k stood at m = absurd (cc)
  children_without (e ∷ keys) low next s key slot k stood at m = by (λ led. children_without keys _ next s key slot k stood led m.5) (e.0 == slot.handle) refl
    where
      here : (b : Bool) → (e.0 == slot.handle) ≡ b → cond b (Some e.1) (key_at keys slot.handle) ≡ Some key
      here b same = let t = at_is slot.handle e.0 ∙ same in rw t at at

      by : (key_at keys slot.handle ≡ Some key → children_of (without (live_of keys s) slot.handle) k ≡ cond (is_child slot.parent k) (remove_key (is_at (nat_cmp slot.handle)) (children_of (live_of keys s) k)) (children_of (live_of keys s) k))
          → (b : Bool) → (e.0 == slot.handle) ≡ b
          → children_of (without (live_of (e ∷ keys) s) slot.handle) k ≡ cond (is_child slot.parent k) (remove_key (is_at (nat_cmp slot.handle)) (children_of (live_of (e ∷ keys) s) k)) (children_of (live_of (e ∷ keys) s) k)
      by later true same =
          let l : Some e.1 ≡ Some key = here true same in
          let j : e.1 ≡ key = cc in
          let it : m.0 ≡ slot = one_slot s key m.0 slot (ap (get s) (sym j) ∙ m.1) stood in
          let n : (m.0.handle == slot.handle) ≡ true = ap (λ (z : ℕ). z == slot.handle) m.2 ∙ same in
          let lower : e.0 ≡ slot.handle = eqb-true _ _ same in
          let same_rest = without_above keys (e.0 + 1) next s slot.handle (omega arith) m.5 in
          rw (m.1, n, same_rest) (dropped (is_child slot.parent k) (is_child m.0.parent k) slot.handle m.0.handle _ (ap (λ (z : Slot K). is_child z.parent k) (sym it)) (ap (λ (z : Slot K). z.handle) it))
      by later false same =
          let n : (m.0.handle == slot.handle) ≡ false = ap (λ (z : ℕ). z == slot.handle) m.2 ∙ same in
          let test : is_at (nat_cmp slot.handle) m.0.handle ≡ false = at_is slot.handle m.0.handle ∙ n in
          let past : remove_key (is_at (nat_cmp slot.handle)) (m.0.handle ∷ children_of (live_of keys s) k) ≡ m.0.handle ∷ remove_key (is_at (nat_cmp slot.handle)) (children_of (live_of keys s) k) = rw test refl in
          rw (m.1, n) (one_more (is_child m.0.parent k) (is_child slot.parent k) m.0.handle _ _ (remove_key (is_at (nat_cmp slot.handle))) past (later (here false same)))

  -- the handles that are left lead to their slots
  pub filled_out : (keys fs : List (ℕ × ℕ)) (s u : Slab (Slot K)) (key : ℕ) (slot : Slot K) → IsFilled keys s → get s key ≡ Some slot → Updates s u key None → ((m : ℕ) → key_at fs m ≡ cond (is_at (nat_cmp slot.handle) m) None (key_at keys m)) → IsFilled fs u
  filled_out keys fs s u key slot filled stood taken found h k at = by (slot.handle == h) refl
    where
      by : (b : Bool) → (slot.handle == h) ≡ b → (x : Slot K) × (get u k ≡ Some x) × (x.handle ≡ h)
      by true same =
          let gone : key_at fs h ≡ None = found h ∙ ap (λ (b : Bool). cond b None (key_at keys h)) (at_is slot.handle h ∙ eq-eqb h slot.handle (sym (eqb-true _ _ same))) in
          let e : Some k ≡ None = sym at ∙ gone in absurd (cc)
      by false same =
          let apart : slot.handle ≢ h = eqb-false _ _ same in
          let led : key_at keys h ≡ Some k = sym (found h ∙ ap (λ (b : Bool). cond b None (key_at keys h)) (at_another slot.handle h (λ z. apart (sym z)))) ∙ at in
          let there = filled h k led in
          let other : k ≢ key = λ z. apart (ap (λ (x : Slot K). x.handle) (one_slot s key slot there.0 stood (ap (get s) (sym z) ∙ there.1)) ∙ there.2) in
          (there.0, taken.others k other ∙ there.1, there.2)

  module _ (keys fs : List (ℕ × ℕ)) (s t : Slab (Slot K)) (key next : ℕ) (value : K) (out : IsOut s t keys fs key value) (sound : AreSound keys next s) where
    abbrev change : List ℕ → List ℕ
    change = remove_key (is_at (nat_cmp out.slot.handle))

    left : Matches (remove_entry (is_at (nat_cmp out.slot.handle)) keys) 0 next t × (live_of (remove_entry (is_at (nat_cmp out.slot.handle)) keys) t ≡ without (live_of keys s) out.slot.handle)
    left = removed s t key out.slot change out.slot.parent out.was out.others keys 0 next sound.matches

    pub out_live : live_of fs t ≡ without (live_of keys s) out.slot.handle
    out_live = ap (λ (l : List (ℕ × ℕ)). live_of l t) out.entries ∙ left.1

    -- what is left was there before
    apart : (k : ℕ) (x : Slot K) → get t k ≡ Some x → k ≢ key
    apart k x found same = let e : Some x ≡ None = sym found ∙ ap (get t) same ∙ out.gone in cc

    out_led : IsLed fs t
    out_led k x found =
        let other = apart k x found in
        let old = was change out.slot.parent (get s k) x (sym (out.others k other) ∙ found) in
        ap (λ (z : Slot K). key_at fs z.handle) old.2 ∙ still_leads keys fs out.slot.handle key old.0.handle k out.found (sound.led key out.slot out.was) (sound.led k old.0 old.1) other

    out_listed : IsListed (live_of fs t) t
    out_listed k x found =
        let old = was change out.slot.parent (get s k) x (sym (out.others k (apart k x found)) ∙ found) in
        ap (λ (z : Slot K). z.children) old.2
        ∙ ap (λ (l : List ℕ). cond (is_child out.slot.parent old.0.handle) (change l) l) (sound.listed k old.0 old.1)
        ∙ sym (children_without keys 0 next s key out.slot old.0.handle out.was (sound.led key out.slot out.was) sound.matches)
        ∙ ap (λ (l : List (Live K)). children_of l old.0.handle) (sym out_live)
        ∙ ap (λ (z : Slot K). children_of (live_of fs t) z.handle) (sym old.2)

    pub out_sound : AreSound fs next t
    out_sound = record { matches = rw out.entries left.0; led = out_led; listed = out_listed }
