-- The result slots of the ends of a 0.3 connection's streams.
use Rattle.std.specs.Prelude.{Option, Some, None, Result, Ok, Err}
use Rattle.wasi_addr.specs.declared.code.ErrorCode.{ErrorCode}
use Rattle.tcp_records.specs.declared.slot.Slot.{Slot}
use Rattle.tcp_records.specs.declared.slot.Slot.TheVariants.{Unfilled, Filled}

-- what became of a stream
abbrev pub StreamEnd : Type 0
StreamEnd = Result (Unit {0}) ErrorCode

-- the slot of an end that is made: where its half couldn't be taken the end is closed, and the slot has the code
abbrev pub slot_for : StreamEnd → Slot
slot_for (Ok done) = Unfilled
slot_for (Err c) = Filled (Err c)

-- its end is closed, and this became of the stream; it is filled once
abbrev pub filled : StreamEnd → Slot → Slot
filled ended Unfilled = Filled ended
filled ended (Filled before) = Filled before

-- what became of the stream, once the end is closed
abbrev pub result_of : Slot → Option StreamEnd
result_of Unfilled = None
result_of (Filled ended) = Some ended
