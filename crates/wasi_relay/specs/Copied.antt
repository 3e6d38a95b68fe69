-- What a relay copied, by the log.
use Rattle.std.specs.Prelude.{◌≡◌, ◌-◌, ◌^◌, min, length, List, [], ◌∷◌}
use Rattle.wasi_world.specs.declared.ids.OpId.{OpId}
use Rattle.wasi_world.specs.declared.call.Entry.{Entry}
use Rattle.wasi_tcp.specs.Taken.{taken_in, IsFrontOf}
use Rattle.wasi_walks.specs.Allowed.{IsSide}
use Rattle.wasi_causes.specs.ToldBytes.{told_in}
use Rattle.wasi_relay.specs.declared.pair.DirEnd.TheVariants.{Clean}
use Rattle.wasi_relay.specs.declared.pair.Flow.{Flow}
use Rattle.wasi_relay.specs.declared.pair.Pair.{Pair}

-- What the second network socket took is a prefix of what the first told to reads. Where the direction ended clean it is all of it,
-- and the bytes that are counted are so many, up to the largest number.
pub record IsCopied (log : List Entry) (from to : OpId) (flow : Flow) : Type 0 where
  pub front : IsFrontOf (taken_in to log) (told_in from log)
  pub clean : flow.end ≡ Clean → taken_in to log ≡ told_in from log
  pub count : flow.end ≡ Clean → flow.bytes ≡ min (length (taken_in to log)) (2 ^ 64 - 1)

-- The handles of the pair's sockets were marked with these two network sockets, and between them it is so both ways.
pub record PairIsCopied (log : List Entry) (pair : Pair) : Type 0 where
  pub client : OpId
  pub target : OpId
  pub of_client : IsSide log pair.client.socket client
  pub of_target : IsSide log pair.target target
  pub up : IsCopied log client target pair.up
  pub down : IsCopied log target client pair.down

abbrev pub AllCopied : List Entry → List Pair → Type 0
AllCopied log [] = Unit {0}
AllCopied log (pair ∷ pairs) = PairIsCopied log pair × AllCopied log pairs
