-- A slot that comes: the table stays sound, and is shown with one more at the end.
use Rattle.std.proofs.Common.{◌≡◌, ◌≢◌, ℕ, ◌+◌, ◌≤◌, Bool, true, false, cond, None, Some, List, [], ◌∷◌, ◌++◌, refl, ap, ◌∙◌, sym, arith, inl, inr}
use Rattle.std.specs.Option.{option_map}
use Rattle.std.specs.Ordering.{nat_cmp}
use Rattle.std.specs.BTreeMap.{is_at, insert_entry}
use Rattle.std.specs.BTreeSet.{insert_key}
use Rattle.std.specs.Map.{remove_entry}
use Rattle.std.specs.declared.cmp.Ordering.{Ordering}
use Rattle.std.specs.declared.cmp.Ordering.TheVariants.{Less, Equal, Greater}
use Rattle.std.proofs.lemmas.Bool.{cases_eq}
use Rattle.slab.specs.Slab.{Slab, get}
use Rattle.wasi_table.specs.declared.slot.Slot.{Slot}
use Rattle.wasi_table.specs.Slots.{live_in}
use Rattle.wasi_table.specs.Table.{Live, is_child, children_of}
use Rattle.slab_keys.specs.Keys.{key_at}
use Rattle.wasi_table.specs.Keys.{live_of, Matches, IsBelow, IsLed, IsListed, AreSound, IsPut, relisted}
use Rattle.wasi_table.proofs.Orders.{above, at_itself, at_another, no_child}
use Rattle.wasi_table.proofs.Leads.{low_bound, none_next, one_slot}
use Rattle.wasi_table.proofs.Stays.{aside, was}
use Rattle.wasi_table.proofs.Tables.{children_push}

module _ {K : Type 0} where
  -- the next handle goes to the end of the keys
  insert_end : (keys : List (ℕ × ℕ)) (low next : ℕ) (s : Slab (Slot K)) (key : ℕ) → Matches keys low next s → insert_entry nat_cmp keys next key ≡ keys ++ (next, key) ∷ []
  insert_end [] low next s key m = refl
  insert_end (e ∷ keys) low next s key m =
      let under : e.0 + 1 ≤ next = low_bound keys _ next s m.5 in
      rw (above next e.0 (omega arith)) (ap (λ (r : List (ℕ × ℕ)). e ∷ r) (insert_end keys _ next s key m.5))

  matches_end : (keys : List (ℕ × ℕ)) (low key : ℕ) (t : Slab (Slot K)) (slot : Slot K) → get t key ≡ Some slot → IsBelow slot.parent slot.handle → Matches keys low slot.handle t → Matches (keys ++ (slot.handle, key) ∷ []) low (slot.handle + 1) t
  matches_end [] low key t slot there below m = (slot, there, refl, below, m, omega arith)
  matches_end (e ∷ keys) low key t slot there below m = (m.0, m.1, m.2, m.3, m.4, matches_end keys _ key t slot there below m.5)

  live_end : (keys : List (ℕ × ℕ)) (low next key : ℕ) (t : Slab (Slot K)) (slot : Slot K) → get t key ≡ Some slot → Matches keys low next t → live_of (keys ++ (slot.handle, key) ∷ []) t ≡ live_of keys t ++ live_in slot ∷ []
  live_end [] low next key t slot there m = rw there refl
  live_end (e ∷ keys) low next key t slot there m = rw m.1 (ap (λ (r : List (Live K)). live_in m.0 ∷ r) (live_end keys _ next key t slot there m.5))

  -- the next handle has no child yet, and comes last among its parent's children
  childless : (keys : List (ℕ × ℕ)) (low next : ℕ) (s : Slab (Slot K)) → Matches keys low next s → children_of (live_of keys s) next ≡ []
  childless [] low next s m = refl
  childless (e ∷ keys) low next s m =
      let under : e.0 + 1 ≤ next = low_bound keys _ next s m.5 in
      rw (m.1, no_child m.0.parent e.0 next m.3 (omega arith)) (childless keys _ next s m.5)

  insert_last : (keys : List (ℕ × ℕ)) (low next : ℕ) (s : Slab (Slot K)) (k : ℕ) → Matches keys low next s → insert_key nat_cmp (children_of (live_of keys s) k) next ≡ children_of (live_of keys s) k ++ next ∷ []
  insert_last [] low next s k m = refl
  insert_last (e ∷ keys) low next s k m = rw m.1 (by (insert_last keys _ next s k m.5) (is_child m.0.parent k))
    where
      by : insert_key nat_cmp (children_of (live_of keys s) k) next ≡ children_of (live_of keys s) k ++ next ∷ []
          → (b : Bool) → insert_key nat_cmp (cond b (m.0.handle ∷ children_of (live_of keys s) k) (children_of (live_of keys s) k)) next ≡ cond b (m.0.handle ∷ children_of (live_of keys s) k) (children_of (live_of keys s) k) ++ next ∷ []
      by later true =
          let under : e.0 + 1 ≤ next = low_bound keys _ next s m.5 in
          rw (above next m.0.handle (omega (arith, under, m.2))) (ap (λ (r : List ℕ). m.0.handle ∷ r) later)
      by later false = later

  module _ (keys fs : List (ℕ × ℕ)) (s t : Slab (Slot K)) (slot : Slot K) (put : IsPut s t keys fs slot) (sound : AreSound keys slot.handle s) (none : slot.children ≡ []) (below : IsBelow slot.parent slot.handle) where
    abbrev change : List ℕ → List ℕ
    change ids = insert_key nat_cmp ids slot.handle

    stays : (k : ℕ) (x : Slot K) → get s k ≡ Some x → get t k ≡ Some (relisted change slot.parent x)
    stays k x found =
        put.others k (λ same. (let e : Some x ≡ None = sym found ∙ ap (get s) same ∙ put.vacant in cc)) ∙ ap (option_map (relisted change slot.parent)) found

    kept_matches : Matches keys 0 slot.handle t × (live_of keys t ≡ live_of keys s)
    kept_matches = aside keys 0 slot.handle s t change slot.parent (λ k x f l. stays k x f) sound.matches

    at_end : fs ≡ keys ++ (slot.handle, put.key) ∷ []
    at_end = put.entries ∙ insert_end keys 0 slot.handle s put.key sound.matches

    pub put_live : live_of fs t ≡ live_of keys s ++ live_in slot ∷ []
    put_live =
        ap (λ (l : List (ℕ × ℕ)). live_of l t) at_end ∙ live_end keys 0 slot.handle put.key t slot put.there kept_matches.0
        ∙ ap (λ (l : List (Live K)). l ++ live_in slot ∷ []) kept_matches.1

    -- a slot is the one that came, or was there before
    put_led : IsLed fs t
    put_led k x found =
        elim (cases_eq k put.key) [
          | inl same ↦
              let it : x ≡ slot = one_slot t put.key x slot (ap (get t) (sym same) ∙ found) put.there in
              ap (λ (z : Slot K). key_at fs z.handle) it ∙ put.found slot.handle
              ∙ ap (λ (b : Bool). cond b (Some put.key) (key_at keys slot.handle)) (at_itself slot.handle) ∙ ap (λ (n : ℕ). Some n) (sym same)
          | inr other ↦
              let old = was change slot.parent (get s k) x (sym (put.others k other) ∙ found) in
              let led : key_at keys old.0.handle ≡ Some k = sound.led k old.0 old.1 in
              let apart : old.0.handle ≢ slot.handle = λ same. (let e : Some k ≡ None = sym led ∙ ap (key_at keys) same ∙ none_next keys 0 slot.handle s sound.matches in cc) in
              ap (λ (z : Slot K). key_at fs z.handle) old.2 ∙ put.found old.0.handle
              ∙ ap (λ (b : Bool). cond b (Some put.key) (key_at keys old.0.handle)) (at_another slot.handle old.0.handle apart) ∙ led
        ]

    put_listed : IsListed (live_of fs t) t
    put_listed k x found =
        elim (cases_eq k put.key) [
          | inl same ↦
              let it : x ≡ slot = one_slot t put.key x slot (ap (get t) (sym same) ∙ found) put.there in
              let last : children_of (live_of keys s ++ live_in slot ∷ []) slot.handle ≡ [] =
              children_push (live_of keys s) (live_in slot) slot.handle
              ∙ ap (λ (b : Bool). cond b (children_of (live_of keys s) slot.handle ++ slot.handle ∷ []) (children_of (live_of keys s) slot.handle)) (no_child slot.parent slot.handle slot.handle below (omega arith))
              ∙ childless keys 0 slot.handle s sound.matches in
              ap (λ (z : Slot K). z.children) it ∙ none ∙ sym last ∙ ap (λ (l : List (Live K)). children_of l slot.handle) (sym put_live)
              ∙ ap (λ (z : Slot K). children_of (live_of fs t) z.handle) (sym it)
          | inr other ↦
              let old = was change slot.parent (get s k) x (sym (put.others k other) ∙ found) in
              let y = old.0 in
              let b = is_child slot.parent y.handle in
              let all = children_of (live_of keys s) y.handle in
              ap (λ (z : Slot K). z.children) old.2
              ∙ ap (λ (l : List ℕ). cond b (change l) l) (sound.listed k y old.1)
              ∙ ap (λ (l : List ℕ). cond b l all) (insert_last keys 0 slot.handle s y.handle sound.matches)
              ∙ sym (children_push (live_of keys s) (live_in slot) y.handle)
              ∙ ap (λ (l : List (Live K)). children_of l y.handle) (sym put_live)
              ∙ ap (λ (z : Slot K). children_of (live_of fs t) z.handle) (sym old.2)
        ]

    pub put_sound : AreSound fs (slot.handle + 1) t
    put_sound = record {
      matches = rw at_end (matches_end keys 0 put.key t slot put.there below kept_matches.0);
      led = put_led;
      listed = put_listed;
    }

-- a handle that came to the keys and was taken out again leaves them as they were
pub undone : (keys : List (ℕ × ℕ)) (h key : ℕ) → key_at keys h ≡ None → remove_entry (is_at (nat_cmp h)) (insert_entry nat_cmp keys h key) ≡ keys
undone [] h key none = rw (at_itself h) refl
undone (e ∷ keys) h key none = by (undone keys h key) (nat_cmp h e.0) refl
  where
    by : (key_at keys h ≡ None → remove_entry (is_at (nat_cmp h)) (insert_entry nat_cmp keys h key) ≡ keys) → (r : Ordering) → nat_cmp h e.0 ≡ r → remove_entry (is_at (nat_cmp h)) (insert_entry nat_cmp (e ∷ keys) h key) ≡ e ∷ keys
    by later Less r = rw (r, at_itself h) refl
    by later Equal r = let f : Some e.1 ≡ None = rw r at none in absurd (cc)
    by later Greater r = rw (r, r) (ap (λ (l : List (ℕ × ℕ)). e ∷ l) (later (rw r at none)))
