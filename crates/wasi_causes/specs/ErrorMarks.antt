-- The mark of the error of a call of a stream that failed.
use Rattle.std.specs.Prelude.{◌≡◌, ℕ, List, [], ◌∷◌, ◌++◌, Option, Some}
use Rattle.wasi_world.specs.declared.call.Call.TheVariants.{Made}
use Rattle.wasi_world.specs.declared.call.Entry.{Entry}
use Rattle.wasi_world.specs.declared.call.HandleKind.TheVariants.{ErrorValue}
use Rattle.wasi_world.specs.declared.call.Told.TheVariants.{Done}
use Rattle.wasi_world.specs.declared.ids.OpId.{OpId}
use Rattle.wasi_records.specs.Records.{tcp2_at}
use Rattle.tcp_records.specs.declared.socket.TcpRecord.{TcpRecord}
use Rattle.host_store.specs.declared.machine.Machine.{Machine}
use Rattle.wasi_walks.specs.Licence.{entry}

-- The last of the entries marks the next handle as that of an error, under this stream's handle, and with the network
-- socket that the stream's record was made with.
pub record MarksItsSocket (m : Machine) (own : OpId) (stream : ℕ) (number : Option ℕ) (entries : List Entry)
    : Type 0 where
  pub place : ℕ
  pub found : TcpRecord
  pub names : number ≡ Some place
  pub at : tcp2_at m.store.records place ≡ Some found
  pub before : List Entry
  pub cut : entries ≡ before ++ entry own (Made m.table.next ErrorValue (Some stream) found.side) Done ∷ []
