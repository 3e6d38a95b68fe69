-- The type of a store as the logic holds it, for the clauses on what a `&mut` lends.
use denote.RattleType.{RattleType}
use Rattle.host_store.specs.contracts.store.Store as store

abbrev pub store_row : RattleType
store_row = store.the_row
