-- Which bytes reads hand out, by the log.
use Rattle.std.specs.Prelude.{◌≡◌, ℕ, List, [], ◌∷◌, ◌++◌, None}
use Rattle.wasi_world.specs.declared.call.Call.TheVariants.{Read}
use Rattle.wasi_world.specs.declared.call.Entry.{Entry}
use Rattle.wasi_world.specs.declared.call.Told.TheVariants.{Bytes}
use Rattle.wasi_world.specs.declared.ids.OpId.{OpId}
use Rattle.wasi_walks.specs.Allowed.{IsSide, entry}
use Rattle.wasi_walks.specs.Licence.{IsMarkedWith}

-- The last entry of the line is a read of the handle's network socket by this operation, and it was answered with these
-- bytes.
pub record LastReadTold (log : List Entry) (own : OpId) (handle : ℕ) (bytes : List ℕ) (entries : List Entry) : Type 0
  where
    pub side : OpId
    pub of_handle : IsSide log handle side
    pub size : ℕ
    pub front : List Entry
    pub cut : entries ≡ front ++ entry own (Read side size) (Bytes bytes) ∷ []

-- Bytes that are handed out of an input after this log were told so; or the input is of no connection: its mark has no
-- network socket.
pub data HandsOutBytes (log : List Entry) (own : OpId) (handle : ℕ) (bytes : List ℕ) (entries : List Entry) : Type 0
  where
    OfConnection : LastReadTold log own handle bytes entries → HandsOutBytes log own handle bytes entries
    OfNoConnection : IsMarkedWith log handle None → HandsOutBytes log own handle bytes entries
