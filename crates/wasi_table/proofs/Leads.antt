-- What a handle leads to: the key that the map has for it, and the slot that stands there.
use Rattle.std.proofs.Common.{◌≡◌, ℕ, suc, ◌+◌, ◌<◌, ◌≤◌, ◌==◌, Bool, true, false, cond, Option, None, Some, List, [], ◌∷◌, length, refl, ap, ◌∙◌, sym, arith, Contains, IsSome}
use Rattle.std.proofs.lemmas.Bool.{eqb-true}
use Rattle.slab.specs.Slab.{Slab, get}
use Rattle.slab.proofs.SlabLemmas.{Contains-cons}
use Rattle.wasi_table.specs.declared.slot.Slot.{Slot}
use Rattle.wasi_table.specs.Slots.{live_in, HasSlot, AreOfLive, HasEach, HasOnce}
use Rattle.wasi_table.specs.Table.{value_at, children_of}
use Rattle.slab_keys.specs.Keys.{key_at}
use Rattle.wasi_table.specs.Keys.{live_of, Matches, IsFilled, AreSound}
use Rattle.wasi_table.proofs.Orders.{at_is, at_another}

-- a handle has one key
pub one_key : (keys : List (ℕ × ℕ)) (h k a b : ℕ) → h ≡ k → key_at keys h ≡ Some a → key_at keys k ≡ Some b → a ≡ b
one_key keys h k a b same first second = let e : Some a ≡ Some b = sym first ∙ ap (key_at keys) same ∙ second in cc

-- whether the first entry is a handle's tells where it leads
first_key : (e : ℕ × ℕ) (keys : List (ℕ × ℕ)) (h : ℕ) (b : Bool) → (e.0 == h) ≡ b → key_at (e ∷ keys) h ≡ cond b (Some e.1) (key_at keys h)
first_key e keys h b same = ap (λ (c : Bool). cond c (Some e.1) (key_at keys h)) (at_is h e.0 ∙ same)

module _ {K : Type 0} where
  -- a key has one slot
  pub one_slot : (s : Slab (Slot K)) (key : ℕ) (a b : Slot K) → get s key ≡ Some a → get s key ≡ Some b → a ≡ b
  one_slot s key a b first second = let e : Some a ≡ Some b = sym first ∙ second in cc

  pub low_bound : (keys : List (ℕ × ℕ)) (low next : ℕ) (s : Slab (Slot K)) → Matches keys low next s → low ≤ next
  low_bound [] low next s m = m
  low_bound (e ∷ keys) low next s m = omega (arith, low_bound keys _ next s m.5, m.4)

  -- there are as many live handles as keys
  pub live_length : (keys : List (ℕ × ℕ)) (low next : ℕ) (s : Slab (Slot K)) → Matches keys low next s → length (live_of keys s) ≡ length keys
  live_length [] low next s m = refl
  live_length (e ∷ keys) low next s m = rw m.1 (ap suc (live_length keys _ next s m.5))

  -- the next handle leads nowhere yet
  pub none_next : (keys : List (ℕ × ℕ)) (low next : ℕ) (s : Slab (Slot K)) → Matches keys low next s → key_at keys next ≡ None
  none_next [] low next s m = refl
  none_next (e ∷ keys) low next s m =
      let under : e.0 + 1 ≤ next = low_bound keys _ next s m.5 in
      rw (at_another next e.0 (λ same. omega arith)) (none_next keys _ next s m.5)

  pub key_below : (keys : List (ℕ × ℕ)) (low next : ℕ) (s : Slab (Slot K)) (h key : ℕ) → Matches keys low next s → key_at keys h ≡ Some key → h < next
  key_below [] low next s h key m found = absurd (cc)
  key_below (e ∷ keys) low next s h key m found = by (key_below keys _ next s h key m.5) (e.0 == h) refl
    where
      by : (key_at keys h ≡ Some key → h < next) → (b : Bool) → (e.0 == h) ≡ b → h < next
      by later true same =
          let under : e.0 + 1 ≤ next = low_bound keys _ next s m.5 in
          let here : e.0 ≡ h = eqb-true _ _ same in omega arith
      by later false same = later (sym (first_key e keys h false same) ∙ found)

  -- what stands at a handle's key
  pub record Leads (keys : List (ℕ × ℕ)) (s : Slab (Slot K)) (h key : ℕ) : Type 0 where
    pub slot : Slot K
    pub stands : get s key ≡ Some slot
    pub named : slot.handle ≡ h
    pub value : value_at (live_of keys s) h ≡ Some slot.value
    pub among : Contains (live_of keys s) (live_in slot)

  pub leads : (keys : List (ℕ × ℕ)) (low next : ℕ) (s : Slab (Slot K)) (h key : ℕ) → Matches keys low next s → key_at keys h ≡ Some key → Leads keys s h key
  leads [] low next s h key m found = absurd (cc)
  leads (e ∷ keys) low next s h key m found = by (leads keys _ next s h key m.5) (e.0 == h) refl
    where
      by : (key_at keys h ≡ Some key → Leads keys s h key) → (b : Bool) → (e.0 == h) ≡ b → Leads (e ∷ keys) s h key
      by later true same =
          let here : Some e.1 ≡ Some key = sym (first_key e keys h true same) ∙ found in
          let k : e.1 ≡ key = cc in
          let n : (m.0.handle == h) ≡ true = ap (λ (z : ℕ). z == h) m.2 ∙ same in
          record {
            slot = m.0;
            stands = ap (get s) (sym k) ∙ m.1;
            named = m.2 ∙ eqb-true _ _ same;
            value = rw (m.1, n) refl;
            among = rw m.1 (0, omega arith, refl);
          }
      by later false same =
          let more = later (sym (first_key e keys h false same) ∙ found) in
          let n : (m.0.handle == h) ≡ false = ap (λ (z : ℕ). z == h) m.2 ∙ same in
          record {
            slot = more.slot;
            stands = more.stands;
            named = more.named;
            value = rw (m.1, n) more.value;
            among = rw m.1 (Contains-cons _ _ _ more.among);
          }

  pub leads_nowhere : (keys : List (ℕ × ℕ)) (low next : ℕ) (s : Slab (Slot K)) (h : ℕ) → Matches keys low next s → key_at keys h ≡ None → value_at (live_of keys s) h ≡ None
  leads_nowhere [] low next s h m found = refl
  leads_nowhere (e ∷ keys) low next s h m found = by (leads_nowhere keys _ next s h m.5) (e.0 == h) refl
    where
      by : (key_at keys h ≡ None → value_at (live_of keys s) h ≡ None) → (b : Bool) → (e.0 == h) ≡ b → value_at (live_of (e ∷ keys) s) h ≡ None
      by later true same = let here : Some e.1 ≡ None = sym (first_key e keys h true same) ∙ found in absurd (cc)
      by later false same =
          let n : (m.0.handle == h) ≡ false = ap (λ (z : ℕ). z == h) m.2 ∙ same in
          rw (m.1, n) (later (sym (first_key e keys h false same) ∙ found))

  -- what is live has a key
  pub has_key : (keys : List (ℕ × ℕ)) (next : ℕ) (s : Slab (Slot K)) (h : ℕ) → AreSound keys next s → IsSome (value_at (live_of keys s) h) → IsSome (key_at keys h)
  has_key keys next s h sound live = by (key_at keys h) refl
    where
      by : (o : Option ℕ) → key_at keys h ≡ o → IsSome o
      by None e = let n = leads_nowhere keys 0 next s h sound.matches e in let k = rw n at live in cc
      by (Some k) e = refl

  pub is_live : (keys : List (ℕ × ℕ)) (next : ℕ) (s : Slab (Slot K)) (h key : ℕ) → AreSound keys next s → key_at keys h ≡ Some key → IsSome (value_at (live_of keys s) h)
  is_live keys next s h key sound at = let l = leads keys 0 next s h key sound.matches at in rw l.value refl

  pub not_dead : (keys : List (ℕ × ℕ)) (next : ℕ) (s : Slab (Slot K)) (h key : ℕ) → AreSound keys next s → key_at keys h ≡ Some key → value_at (live_of keys s) h ≡ None → ⊥
  not_dead keys next s h key sound at none = let l = is_live keys next s h key sound at in let k = rw none at l in cc

  pub is_dead : (keys : List (ℕ × ℕ)) (next : ℕ) (s : Slab (Slot K)) (h : ℕ) → AreSound keys next s → key_at keys h ≡ None → value_at (live_of keys s) h ≡ None
  is_dead keys next s h sound at = leads_nowhere keys 0 next s h sound.matches at

  pub has_slot : (keys : List (ℕ × ℕ)) (next : ℕ) (s : Slab (Slot K)) (h key : ℕ) → AreSound keys next s → key_at keys h ≡ Some key → IsSome (get s key)
  has_slot keys next s h key sound at = let l = leads keys 0 next s h key sound.matches at in rw l.stands refl

  pub is_filled : (keys : List (ℕ × ℕ)) (next : ℕ) (s : Slab (Slot K)) → AreSound keys next s → IsFilled keys s
  is_filled keys next s sound h key at = let l = leads keys 0 next s h key sound.matches at in (l.slot, l.stands, l.named)

  -- what is read from the slot of a handle
  pub named_found : (keys : List (ℕ × ℕ)) (next : ℕ) (s : Slab (Slot K)) (h key : ℕ) (slot : Slot K) → AreSound keys next s → key_at keys h ≡ Some key → get s key ≡ Some slot → slot.handle ≡ h
  named_found keys next s h key slot sound at found =
      let l = leads keys 0 next s h key sound.matches at in
      ap (λ (z : Slot K). z.handle) (one_slot s key slot l.slot found l.stands) ∙ l.named

  pub value_found : (keys : List (ℕ × ℕ)) (next : ℕ) (s : Slab (Slot K)) (h key : ℕ) (slot : Slot K) → AreSound keys next s → key_at keys h ≡ Some key → get s key ≡ Some slot → value_at (live_of keys s) h ≡ Some slot.value
  value_found keys next s h key slot sound at found =
      let l = leads keys 0 next s h key sound.matches at in
      l.value ∙ ap (λ (z : Slot K). Some z.value) (one_slot s key l.slot slot l.stands found)

  pub children_found : (keys : List (ℕ × ℕ)) (next : ℕ) (s : Slab (Slot K)) (h key : ℕ) (slot : Slot K) → AreSound keys next s → key_at keys h ≡ Some key → get s key ≡ Some slot → slot.children ≡ children_of (live_of keys s) h
  children_found keys next s h key slot sound at found =
      sound.listed key slot found ∙ ap (children_of (live_of keys s)) (named_found keys next s h key slot sound at found)

  -- what the slots are to what is live
  pub are_of_live : (keys : List (ℕ × ℕ)) (next : ℕ) (s : Slab (Slot K)) → AreSound keys next s → AreOfLive (live_of keys s) s
  are_of_live keys next s sound key slot found =
      let l = leads keys 0 next s slot.handle key sound.matches (sound.led key slot found) in
      let same : l.slot ≡ slot = one_slot s key l.slot slot l.stands found in
      record { among = rw same at l.among; value = rw same at l.value; children = sound.listed key slot found }

  pub has_each : (keys : List (ℕ × ℕ)) (next : ℕ) (s : Slab (Slot K)) → AreSound keys next s → HasEach (live_of keys s) s
  has_each keys next s sound h live = by (key_at keys h) refl
    where
      by : (o : Option ℕ) → key_at keys h ≡ o → HasSlot s h
      by None e = let n = leads_nowhere keys 0 next s h sound.matches e in let k = rw n at live in absurd (cc)
      by (Some key) e =
          let l = leads keys 0 next s h key sound.matches e in
          record { key = key; slot = l.slot; there = l.stands; named = l.named }

  pub has_once : (keys : List (ℕ × ℕ)) (next : ℕ) (s : Slab (Slot K)) → AreSound keys next s → HasOnce s
  has_once keys next s sound one other a b first second same =
      one_key keys a.handle b.handle one other same (sound.led one a first) (sound.led other b second)
