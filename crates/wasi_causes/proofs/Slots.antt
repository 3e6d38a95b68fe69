-- Live handles, as the walks speak of them.
pub use Rattle.wasi_walks.proofs.Slots.{SlotOf, slot_of, no_child, has_without, is_another, has_still, new_slot, one_of, value_of}
