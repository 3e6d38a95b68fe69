-- Live handles: the slot that a handle has, what is under it, and which slots are left where one is made or taken out.
use Rattle.wasi_walks.proofs.Words.{Bool, HandleTable, Kind, List, Option, Some, [], ap, eqb-true, false, if◌then◌else◌, inl, inr, refl, subst, sym, table_parent, true, with_handle, ℕ, ◌==◌, ◌∷◌, ◌∙◌, ◌≡◌, ◌⊎◌}
use Rattle.std.proofs.lemmas.Bool.{eq-eqb}
use Rattle.wasi_table.specs.Table.{Live, children_of, is_child, value_at, without}
use Rattle.host_store.specs.Kinds.{none_in}
use Rattle.wasi_walks.specs.Licence.{Has}
use Rattle.wasi_walks.proofs.Lists.{has_split}

-- == what a handle is of
-- The handle's slot, which has this value.
pub record SlotOf (live : List (Live Kind)) (handle : ℕ) (kind : Kind) : Type 0 where
  pub slot : Live Kind
  pub live_one : Has live slot
  pub its : slot.handle ≡ handle
  pub value : slot.value ≡ kind

pub slot_of : (live : List (Live Kind)) (handle : ℕ) (kind : Kind) → value_at live handle ≡ Some kind → SlotOf live handle kind
slot_of [] handle kind e = absurd (cc)
slot_of (s ∷ live) handle kind e = by_test (s.handle == handle) refl (slot_of live handle kind) e
  where
    by_test : (b : Bool) → (s.handle == handle) ≡ b → (value_at live handle ≡ Some kind → SlotOf live handle kind) → (if b then Some s.value else value_at live handle) ≡ Some kind → SlotOf (s ∷ live) handle kind
    by_test true q more e = record { slot = s; live_one = inl refl; its = eqb-true s.handle handle q; value = cc }
    by_test false q more e = let k = more e in record { slot = k.slot; live_one = inr k.live_one; its = k.its; value = k.value }

-- what is under a handle is one of its children
pub no_child : (live : List (Live Kind)) (handle : ℕ) (a : Live Kind) → Has live a → a.parent ≡ Some handle → none_in (children_of live handle) ≡ true → ⊥
no_child [] handle a l p none = l
no_child (s ∷ live) handle a (inl e) p none =
    let its : is_child s.parent handle ≡ true = ap (λ (o : Option ℕ). is_child o handle) (ap (λ (x : Live Kind). x.parent) e ∙ p) ∙ eq-eqb handle handle refl in
    let all : none_in (if true then s.handle ∷ children_of live handle else children_of live handle) ≡ true = subst (λ (b : Bool). none_in (if b then s.handle ∷ children_of live handle else children_of live handle) ≡ true) its none in
    absurd (cc)
no_child (s ∷ live) handle a (inr l) p none = by_test (is_child s.parent handle) (no_child live handle a l p) none
  where
    by_test : (b : Bool) → (none_in (children_of live handle) ≡ true → ⊥) → none_in (if b then s.handle ∷ children_of live handle else children_of live handle) ≡ true → ⊥
    by_test true more none = absurd (cc)
    by_test false more none = more none

-- == a handle is taken out
-- what is left was there, and is another handle
pub has_without : (live : List (Live Kind)) (handle : ℕ) (a : Live Kind) → Has (without live handle) a → Has live a
has_without [] handle a l = l
has_without (s ∷ live) handle a l = by_test (s.handle == handle) (has_without live handle a) l
  where
    by_test : (b : Bool) → (Has (without live handle) a → Has live a) → Has (if b then without live handle else s ∷ without live handle) a → (s ≡ a) ⊎ Has live a
    by_test true more k = inr (more k)
    by_test false more (inl e) = inl e
    by_test false more (inr k) = inr (more k)

pub is_another : (live : List (Live Kind)) (handle : ℕ) (a : Live Kind) → Has (without live handle) a → a.handle ≡ handle → ⊥
is_another [] handle a l same = l
is_another (s ∷ live) handle a l same = by_test (s.handle == handle) refl (is_another live handle a) l
  where
    by_test : (b : Bool) → (s.handle == handle) ≡ b → (Has (without live handle) a → a.handle ≡ handle → ⊥) → Has (if b then without live handle else s ∷ without live handle) a → ⊥
    by_test true q more k = more k same
    by_test false q more (inl e) = absurd (let p : (s.handle == handle) ≡ true = eq-eqb s.handle handle (ap (λ (x : Live Kind). x.handle) e ∙ same) in cc)
    by_test false q more (inr k) = more k same

-- and all others are left
pub has_still : (live : List (Live Kind)) (handle : ℕ) (a : Live Kind) → Has live a → (a.handle ≡ handle → ⊥) → Has (without live handle) a
has_still [] handle a l other = l
has_still (s ∷ live) handle a l other = by_test (s.handle == handle) refl (has_still live handle a) l
  where
    by_test : (b : Bool) → (s.handle == handle) ≡ b → (Has live a → (a.handle ≡ handle → ⊥) → Has (without live handle) a) → (s ≡ a) ⊎ Has live a → Has (if b then without live handle else s ∷ without live handle) a
    by_test true q more (inl e) = absurd (other (ap (λ (x : Live Kind). x.handle) (sym e) ∙ eqb-true s.handle handle q))
    by_test true q more (inr k) = more k other
    by_test false q more (inl e) = inl e
    by_test false q more (inr k) = inr (more k other)

-- == a handle is made
module _ (t : HandleTable) (kind : Kind) (parent : Option ℕ) where
  abbrev pub new_slot : Live Kind
  new_slot = record { handle = t.next; value = kind; parent = table_parent kind parent }

  -- a handle is one of before, or the new one
  pub one_of : (a : Live Kind) → Has (with_handle t kind parent).live a → Has t.live a ⊎ (new_slot ≡ a)
  one_of a l = has_split t.live new_slot a l

  pub value_of : (a : Live Kind) (k : Kind) → new_slot ≡ a → a.value ≡ k → kind ≡ k
  value_of a k n e = ap (λ (s : Live Kind). s.value) n ∙ e
