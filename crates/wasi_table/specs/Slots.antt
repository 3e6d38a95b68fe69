-- What the slots of a table are to what is live.
use Rattle.std.specs.Prelude.{◌≡◌, ℕ, List, Some, IsSome, Contains}
use Rattle.slab.specs.Slab.{Slab, get}
use Rattle.wasi_table.specs.declared.slot.Slot.{Slot}
use Rattle.wasi_table.specs.Table.{Live, value_at, children_of}

module _ {K : Type 0} where
  -- the live handle of a slot
  abbrev pub live_in : Slot K → Live K
  live_in slot = record { handle = slot.handle; value = slot.value; parent = slot.parent }

  -- a slot is that of a live handle, with its value, its parent, and its live children in the order of their making
  pub record IsOfLive (live : List (Live K)) (slot : Slot K) : Type 0 where
    pub among : Contains live (live_in slot)
    pub value : value_at live slot.handle ≡ Some slot.value
    pub children : slot.children ≡ children_of live slot.handle

  -- a handle has a slot under a key
  pub record HasSlot (slots : Slab (Slot K)) (handle : ℕ) : Type 0 where
    pub key : ℕ
    pub slot : Slot K
    pub there : get slots key ≡ Some slot
    pub named : slot.handle ≡ handle

  -- each key's slot is that of a live handle
  abbrev pub AreOfLive : List (Live K) → Slab (Slot K) → Type 0
  AreOfLive live slots = (key : ℕ) (slot : Slot K) → get slots key ≡ Some slot → IsOfLive live slot

  -- each live handle has a slot
  abbrev pub HasEach : List (Live K) → Slab (Slot K) → Type 0
  HasEach live slots = (handle : ℕ) → IsSome (value_at live handle) → HasSlot slots handle

  -- no two keys have the same handle
  abbrev pub HasOnce : Slab (Slot K) → Type 0
  HasOnce slots = (one other : ℕ) (a b : Slot K) → get slots one ≡ Some a → get slots other ≡ Some b → a.handle ≡ b.handle → one ≡ other
