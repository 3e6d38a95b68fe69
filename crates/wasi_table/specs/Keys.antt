-- What the code keeps of a table: a slot for each live handle in a slab, and a map in order from the handle to the slot's key.
use Rattle.std.specs.Prelude.{◌≡◌, ◌≢◌, ℕ, ◌+◌, ◌<◌, ◌≤◌, if◌then◌else◌, List, [], ◌∷◌, Option, Some, None}
use Rattle.std.specs.Option.{option_map}
use Rattle.std.specs.Ordering.{nat_cmp}
use Rattle.std.specs.BTreeMap.{is_at, insert_entry}
use Rattle.std.specs.BTreeSet.{insert_key}
use Rattle.std.specs.Map.{remove_entry}
use Rattle.std.specs.Set.{remove_key}
use Rattle.slab.specs.Slab.{Slab, get, SameValues}
use Rattle.slab_keys.specs.Keys.{key_at}
use Rattle.wasi_table.specs.declared.slot.Slot.{Slot}
use Rattle.wasi_table.specs.Slots.{live_in}
use Rattle.wasi_table.specs.Table.{Live, is_child, children_of}

-- nothing, or a lower handle
abbrev pub IsBelow : Option ℕ → ℕ → Type 0
IsBelow None handle = Unit {0}
IsBelow (Some parent) handle = parent < handle

module _ {K : Type 0} where
  -- a slot's live handle, if there is a slot, and the rest
  abbrev pub with_slot : Option (Slot K) → List (Live K) → List (Live K)
  with_slot None rest = rest
  with_slot (Some slot) rest = live_in slot ∷ rest

  -- what is live: the slots at these keys, in order
  abbrev pub live_of : List (ℕ × ℕ) → Slab (Slot K) → List (Live K)
  live_of [] slots = []
  live_of (e ∷ keys) slots = with_slot (get slots e.1) (live_of keys slots)

  -- the handles rise strictly from `low` on and are below `next`, each has its slot at its key, and its parent is lower
  abbrev pub Matches : List (ℕ × ℕ) → ℕ → ℕ → Slab (Slot K) → Type 0
  Matches [] low next slots = low ≤ next
  Matches (e ∷ keys) low next slots =
      (slot : Slot K) × (get slots e.1 ≡ Some slot) × (slot.handle ≡ e.0) × IsBelow slot.parent e.0 × (low ≤ e.0) × Matches keys (e.0 + 1) next slots

  -- each slot is where its handle leads
  abbrev pub IsLed : List (ℕ × ℕ) → Slab (Slot K) → Type 0
  IsLed keys slots = (key : ℕ) (slot : Slot K) → get slots key ≡ Some slot → key_at keys slot.handle ≡ Some key

  -- each handle that leads somewhere has its slot there
  abbrev pub IsFilled : List (ℕ × ℕ) → Slab (Slot K) → Type 0
  IsFilled keys slots = (handle key : ℕ) → key_at keys handle ≡ Some key → (slot : Slot K) × (get slots key ≡ Some slot) × (slot.handle ≡ handle)

  -- each slot has the live children of its handle
  abbrev pub IsListed : List (Live K) → Slab (Slot K) → Type 0
  IsListed live slots = (key : ℕ) (slot : Slot K) → get slots key ≡ Some slot → slot.children ≡ children_of live slot.handle

  -- what is true of the keys and the slots of every table
  pub record AreSound (keys : List (ℕ × ℕ)) (next : ℕ) (slots : Slab (Slot K)) : Type 0 where
    pub matches : Matches keys 0 next slots
    pub led : IsLed keys slots
    pub listed : IsListed (live_of keys slots) slots

  -- a slot after a change of its children, if it is the parent's
  abbrev pub relisted : (List ℕ → List ℕ) → Option ℕ → Slot K → Slot K
  relisted change parent slot = record slot { children = if is_child parent slot.handle then change slot.children else slot.children }

  -- there is a parent, and its slot is here
  abbrev pub IsParentAt : Slab (Slot K) → ℕ → Option ℕ → Type 0
  IsParentAt slots at parent = (slot : Slot K) × (get slots at ≡ Some slot) × (parent ≡ Some slot.handle)

  -- a slot came under a vacant key, its handle leads there, and its parent's slot lists it
  pub record IsPut (old new : Slab (Slot K)) (keys rekeyed : List (ℕ × ℕ)) (slot : Slot K) : Type 0 where
    pub key : ℕ
    pub vacant : get old key ≡ None
    pub there : get new key ≡ Some slot
    pub others : (other : ℕ) → other ≢ key → get new other ≡ option_map (relisted (λ ids. insert_key nat_cmp ids slot.handle) slot.parent) (get old other)
    pub entries : rekeyed ≡ insert_entry nat_cmp keys slot.handle key
    pub found : (handle : ℕ) → key_at rekeyed handle ≡ (if is_at (nat_cmp slot.handle) handle then Some key else key_at keys handle)

  -- the slots are as they were but for the parent's, which no longer lists the child
  abbrev pub IsWithoutChild : Slab (Slot K) → Slab (Slot K) → Option ℕ → ℕ → Type 0
  IsWithoutChild old new parent child = (key : ℕ) → get new key ≡ option_map (relisted (remove_key (is_at (nat_cmp child))) parent) (get old key)

  -- the slot with this value left its key, its handle leads nowhere, and its parent's slot no longer lists it
  pub record IsOut (old new : Slab (Slot K)) (keys rekeyed : List (ℕ × ℕ)) (key : ℕ) (value : K) : Type 0 where
    pub slot : Slot K
    pub was : get old key ≡ Some slot
    pub held : slot.value ≡ value
    pub gone : get new key ≡ None
    pub others : (other : ℕ) → other ≢ key → get new other ≡ option_map (relisted (remove_key (is_at (nat_cmp slot.handle))) slot.parent) (get old other)
    pub entries : rekeyed ≡ remove_entry (is_at (nat_cmp slot.handle)) keys
    pub found : (handle : ℕ) → key_at rekeyed handle ≡ (if is_at (nat_cmp slot.handle) handle then None else key_at keys handle)

  -- slots and keys are as they were
  pub record IsKept (old new : Slab (Slot K)) (keys rekeyed : List (ℕ × ℕ)) : Type 0 where
    pub slots : SameValues old new
    pub entries : rekeyed ≡ keys
