-- The network sockets that a store knows.
use Rattle.std.specs.Prelude.{◌≡◌, ◌+◌, IfSome}
use Rattle.wasi_world.specs.Seen.{Seen}
use Rattle.host_store.specs.Store.{Records}
use Rattle.record_common.specs.Sides.{Weight, closed_in, made_in}
use Rattle.wasi_records.specs.Sides.{held_in}

-- The records hold just the network sockets that were made and not closed, where the log is reported.
pub record KnowsSides (seen : Seen) (records : Records) : Type 0 where
  pub count : IfSome seen.log (λ log. (w : Weight) → closed_in log w + held_in records.records w ≡ made_in log w)
