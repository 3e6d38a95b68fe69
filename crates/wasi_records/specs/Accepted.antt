-- The record of a socket that was accepted, among the records.
use Rattle.std.specs.Prelude.{ℕ, List, length, Result, Ok, Err}
use Rattle.wasi_tcp.specs.Shape.{Socket}
use Rattle.wasi_records.specs.Records.{tcp2_pushed}
use Rattle.wasi_records.specs.declared.records.Record.{Record}
use Rattle.tcp_records.specs.declared.socket.TcpRecord.{TcpRecord}
use Rattle.record_common.specs.Stops.{Stop}
use Rattle.tcp_records.specs.Listening.{accepted_record}

abbrev pub kept_accepted : List Record → Result (Unit {0}) Stop × TcpRecord → Result ℕ Stop × List Record
kept_accepted records (Ok done, r) = (Ok (length records), tcp2_pushed records r)
kept_accepted records (Err stop, r) = (Err stop, records)

-- the number of the new record, with the records
abbrev pub with_accepted_in : List Record → Socket → Result ℕ Stop × List Record
with_accepted_in records socket = kept_accepted records (accepted_record socket)
