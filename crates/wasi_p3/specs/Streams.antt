-- The 0.3 calls of the ends of a connection's streams, and of their result slots: what each asks, returns and leaves.
use Rattle.std.specs.Prelude.{ℕ, Bool, List, Option, Some, None, Result, Ok, Err}
use Rattle.wasi_addr.specs.declared.p3.ErrorCode.{ErrorCode as P3Code}
use Rattle.wasi_addr.specs.Code.{p3_of_code}
use Rattle.wasi_world.specs.declared.ids.OpId.{OpId}
use Rattle.wasi_world.specs.declared.outcome.Answer.{Answer}
use Rattle.wasi_world.specs.declared.outcome.TrapKind.TheVariants.{NoSuchHandle}
use Rattle.wasi_world.specs.Asks.{Give}
use Rattle.tcp_records.specs.declared.slot.Slot.{Slot}
use Rattle.tcp_records.specs.declared.slot.StreamResult.{StreamResult}
use Rattle.tcp_records.specs.declared.socket.TcpRecord.{TcpRecord}
use Rattle.tcp_records.specs.Ends.{take_receive_end, take_send_end}
use Rattle.wasi_records.specs.Records.{tcp2_at}
use Rattle.tcp_records.specs.Slots.{StreamEnd, result_of}
use Rattle.wasi_records.specs.Records.{slot_at}
use Rattle.record_common.specs.Stops.{Stop, Trap}
use Rattle.host_store.specs.declared.kind.ConnectionEnd.{ConnectionEnd}
use Rattle.host_store.specs.declared.kind.Kind.{Kind}
use Rattle.host_store.specs.declared.kind.Kind.TheVariants.{Receive3, Send3, Result3}
use Rattle.host_store.specs.declared.machine.Machine.{Machine}
use Rattle.host_store.specs.Block.{Does, Line, Read, Look, Call, give, last, ◌>>=◌}
use Rattle.host_tcp.specs.ConnectionEnds.{take_end, drop_slot}
use Rattle.host_tcp.specs.EndPolls.{read_end, write_end}
use Rattle.host_store.specs.Kinds.{HandleTable, kind_at, make_asks, taken_out}
use Rattle.host_store.specs.Lines.{tabling}
use Rattle.host_store.specs.Machine.{side_at, receive3_at, send3_at, result3_at}
use Rattle.wasi_p3.specs.Lines.{in_base, tcp_named}
use Rattle.wasi_p3.specs.Stops.{P3Stop, trap_of}

-- == an end is made, with its slot
-- a handle is made
abbrev pub makes : OpId → Kind → Option ℕ → Option OpId → Line P3Code Machine ℕ
makes own kind parent side = Call trap_of (λ m. m.table) tabling (λ t. make_asks t own kind parent side)

-- their handles, whose marks name the socket's handle as the parent, and its network socket
abbrev pub make_ends : OpId → ℕ → Kind → ℕ → Option OpId → Does P3Code Machine (ℕ × ℕ)
make_ends own socket kind slot side = do
  end ← makes own kind (Some socket) side
  result ← makes own (Result3 slot) (Some socket) side
  give (end, result)

abbrev pub take_by : (TcpRecord → StreamEnd × TcpRecord) → (ConnectionEnd → Kind) → OpId → ℕ → Does P3Code Machine (ℕ × ℕ)
take_by takes kind own socket = do
  place ← tcp_named socket
  end ← in_base (λ store. Give (take_end takes place store))
  side ← Read (λ m. side_at (tcp2_at m.store.records place))
  make_ends own socket (kind end) end.slot side

abbrev pub receive : OpId → ℕ → Does P3Code Machine (ℕ × ℕ)
receive own socket = take_by take_receive_end Receive3 own socket

abbrev pub send : OpId → ℕ → Does P3Code Machine (ℕ × ℕ)
send own socket = take_by take_send_end Send3 own socket

-- == a poll of an end
abbrev pub read : OpId → Bool → ℕ → ℕ → Does P3Code Machine (Answer (StreamResult (List ℕ)))
read own finish len handle = do
  end ← Look (λ m. receive3_at m handle)
  last (in_base (read_end own finish len end))

abbrev pub write : OpId → Bool → List ℕ → ℕ → Does P3Code Machine (Answer (StreamResult ℕ))
write own finish bytes handle = do
  end ← Look (λ m. send3_at m handle)
  last (in_base (write_end own finish bytes end))

-- == a result is taken
-- the slot that a handle names
abbrev pub slot_in : Machine → Option ℕ → Option Slot
slot_in m None = None
slot_in m (Some place) = slot_at m.store.records place

abbrev pub named_end : StreamEnd → Result (Unit {0}) P3Code
named_end (Ok done) = Ok done
named_end (Err c) = Err (p3_of_code c)

abbrev pub Taken : Type 0
Taken = Result (Option (Result (Unit {0}) P3Code)) P3Stop

-- with it the handle goes
abbrev pub result_out : Machine → ℕ → StreamEnd → Result Kind Stop × HandleTable → Taken × Machine
result_out m place ended (Ok kind, t) = (Ok (Some (named_end ended)), record { table = t; store = drop_slot place m.store })
result_out m place ended (Err stop, t) = (Err (trap_of stop), tabling m t)

abbrev pub result_in : Machine → ℕ → ℕ → Option StreamEnd → Taken × Machine
result_in m handle place None = (Ok None, m)
result_in m handle place (Some ended) = result_out m place ended (taken_out m.table handle (kind_at m.table handle))

abbrev pub result_at : Machine → ℕ → ℕ → Option Slot → Taken × Machine
result_at m handle place None = (Err (Trap NoSuchHandle), m)
result_at m handle place (Some s) = result_in m handle place (result_of s)

abbrev pub result_on : Machine → ℕ → Option ℕ → Taken × Machine
result_on m handle None = (Err (Trap NoSuchHandle), m)
result_on m handle (Some place) = result_at m handle place (slot_at m.store.records place)

abbrev pub take_result : Machine → ℕ → Taken × Machine
take_result m handle = result_on m handle (result3_at m handle)
