-- The ends of the streams of 0.3 connections, and their result slots: how they are made, what a poll of an end asks, gives and leaves,
-- what goes with a handle, and what a slot says.
use Rattle.std.specs.Prelude.{◌≡◌, ◌≢◌, ⊤, ℕ, ◌+◌, ◌≤◌, min, take, length, Bool, true, false, List, [], ◌∷◌, Option, Some, None, Ok, Err, ◌↔◌}
use Rattle.wasi_addr.specs.declared.address.ShutdownType.{ShutdownType}
use Rattle.wasi_addr.specs.declared.address.ShutdownType.TheVariants.{Receive, Send}
use Rattle.wasi_addr.specs.declared.code.ErrorCode.{ErrorCode}
use Rattle.wasi_addr.specs.declared.code.ErrorCode.TheVariants.{InvalidState}
use Rattle.wasi_world.specs.declared.call.Call.TheVariants as call
use Rattle.wasi_world.specs.declared.call.Entry.{Entry}
use Rattle.wasi_world.specs.declared.call.HandleKind.{HandleKind}
use Rattle.wasi_world.specs.declared.call.HandleKind.TheVariants as name
use Rattle.wasi_world.specs.declared.call.Told.{Told}
use Rattle.wasi_world.specs.declared.call.Told.TheVariants as told
use Rattle.wasi_world.specs.declared.ids.OpId.{OpId}
use Rattle.wasi_jobs.specs.declared.job.HostJob.{HostJob}
use Rattle.wasi_table.specs.Table.{is_full}
use Rattle.wasi_tcp.specs.declared.halves.TcpReceiveStream.{TcpReceiveStream}
use Rattle.wasi_tcp.specs.declared.halves.TcpSendStream.{TcpSendStream}
use Rattle.wasi_tcp.specs.declared.reader.ReadState.TheVariants as reading
use Rattle.wasi_tcp.specs.declared.socket.Connection.{Connection}
use Rattle.wasi_tcp.specs.declared.socket.TcpState.{TcpState}
use Rattle.wasi_tcp.specs.declared.socket.TcpState.TheVariants as state
use Rattle.wasi_tcp.specs.declared.writer.WriteState.TheVariants as writing
use Rattle.wasi_tcp.specs.Connecting.{with_state}
use Rattle.tcp_records.specs.declared.slot.Slot.{Slot}
use Rattle.tcp_records.specs.declared.slot.Slot.TheVariants.{Filled, Unfilled}
use Rattle.tcp_records.specs.declared.socket.TcpRecord.{TcpRecord}
use Rattle.tcp_records.specs.Ends.{ends_of, half_of, receive_half, send_half}
use Rattle.tcp_records.specs.Halves.{with_reader, with_writer}
use Rattle.tcp_records.specs.Holding.{is_held}
use Rattle.wasi_records.specs.Records.{tcp2_at}
use Rattle.tcp_records.specs.Shutdowns.{with_streams}
use Rattle.tcp_records.specs.Slots.{StreamEnd}
use Rattle.wasi_records.specs.Records.{slot_at}
use Rattle.tcp_records.specs.Sockets.{with_inner}
use Rattle.host_store.specs.declared.kind.ConnectionEnd.{ConnectionEnd}
use Rattle.host_store.specs.declared.kind.Kind.{Kind}
use Rattle.host_store.specs.declared.kind.Kind.TheVariants as kind
use Rattle.host_store.specs.declared.machine.Machine.{Machine}
use Rattle.host_tcp.specs.ConnectionEnds.{end_of, fill, with_end}
use Rattle.host_store.specs.Jobs.{is_on}
use Rattle.host_store.specs.Kinds.{with_handle}
use Rattle.host_store.specs.Lines.{tcp_in}
use Rattle.host_store.specs.Machine.{result3_at}
use Rattle.wasi_steps.specs.declared.guest_call.GuestCall.TheVariants as guest
use Rattle.wasi_steps.specs.declared.guest_call.PollableCall.TheVariants as pollable_call
use Rattle.wasi_steps.specs.declared.guest_call.P3TcpCall.TheVariants as p3_tcp_call
use Rattle.wasi_steps.specs.declared.reply.CodeWord.{CodeWord}
use Rattle.wasi_steps.specs.declared.reply.Field.{Field}
use Rattle.wasi_steps.specs.declared.reply.Reply.{Reply}
use Rattle.wasi_steps.specs.declared.reply.Reply.TheVariants as reply
use Rattle.wasi_steps.specs.declared.step.Step.{Step}
use Rattle.wasi_steps.specs.declared.step.Step.TheVariants as step
use Rattle.wasi_steps.specs.Reply.{bytes_fields, number_fields, pair_fields}
use Rattle.wasi_walks.specs.Answered.{putting}
use Rattle.wasi_walks.specs.Licence.{Has, entry}
use Rattle.wasi_causes.specs.GivenUp.{giving_back, shut_down, socket_given_up, without}
use Rattle.wasi_causes.specs.Refusals.{SaidBy, p3_word}

-- == steps
-- a poll of an end
abbrev pub IsEndPoll : Step → Type 0
IsEndPoll (step.Call ctx (guest.P3Tcp (p3_tcp_call.Read end len))) = ⊤
IsEndPoll (step.Call ctx (guest.P3Tcp (p3_tcp_call.Write end bytes))) = ⊤
IsEndPoll _ = ⊥

-- a poll that gives up where nothing can be done yet: of an end, or of a listener
abbrev pub GivesUp : Step → Type 0
GivesUp (step.Call ctx (guest.P3Tcp (p3_tcp_call.Accept listener remaining))) = ⊤
GivesUp s = IsEndPoll s

-- the take of a result
abbrev pub IsResultStep : Step → Type 0
IsResultStep (step.Call ctx (guest.P3Tcp (p3_tcp_call.Result slot))) = ⊤
IsResultStep _ = ⊥

-- it takes a handle out of the table: a drop, and a result that is taken
abbrev pub TakesOut : Step → Type 0
TakesOut (step.Call ctx (guest.Pollable (pollable_call.Drop handle))) = ⊤
TakesOut s = IsResultStep s

-- == an end is made
-- the socket's record has the half of its connection from now on
abbrev pub receiving : TcpRecord → Connection → TcpRecord
receiving r c =
    let taken : Connection = record c { receive_taken = true } in
    with_reader (with_inner r (with_state r.inner (state.Connected taken))) (ends_of r.streams) (reading.Open (record { side = c.side }))

abbrev pub sending : TcpRecord → Connection → TcpRecord
sending r c =
    let taken : Connection = record c { send_taken = true } in
    with_writer (with_inner r (with_state r.inner (state.Connected taken))) (ends_of r.streams) (writing.Ready (record { side = c.side }) 0)

-- it isn't connected, nor closed
abbrev pub IsUnconnected : TcpState → Type 0
IsUnconnected (state.Connected c) = ⊥
IsUnconnected (state.Closed c) = ⊥
IsUnconnected _ = ⊤

-- What comes of taking this half of a socket, and what is left of the socket: of a connection whose half wasn't taken before the record
-- has it; else there is a code, which is `invalid-state` unless the socket is closed with one.
pub data HalfTaken (r : TcpRecord) : ShutdownType → StreamEnd → TcpRecord → Type 0 where
  IsReceiving : (c : Connection) → r.inner.state ≡ state.Connected c → c.receive_taken ≡ false
      → HalfTaken r Receive (Ok tt) (receiving r c)
  IsSending : (c : Connection) → r.inner.state ≡ state.Connected c → c.send_taken ≡ false → HalfTaken r Send (Ok tt) (sending r c)
  ReceivedBefore : (c : Connection) → r.inner.state ≡ state.Connected c → c.receive_taken ≡ true
      → HalfTaken r Receive (Err InvalidState) r
  SentBefore : (c : Connection) → r.inner.state ≡ state.Connected c → c.send_taken ≡ true → HalfTaken r Send (Err InvalidState) r
  NotConnected : (how : ShutdownType) → IsUnconnected r.inner.state → HalfTaken r how (Err InvalidState) r
  WasClosed : (how : ShutdownType) (c : ErrorCode) → r.inner.state ≡ state.Closed c → HalfTaken r how (Err c) r

-- the socket is so afterwards, and the last of the records is the slot of the end: unfilled, or with the code
abbrev pub with_half : Machine → ℕ → StreamEnd → TcpRecord → Machine
with_half m place taken now = record m { store = with_end place (taken, now) m.store }

-- the end: it is its socket's where the half was taken, and names the record of its slot
abbrev pub new_end : Machine → ℕ → StreamEnd → ConnectionEnd
new_end m place taken = end_of place (length m.store.records) taken

abbrev pub end_kind : ShutdownType → ConnectionEnd → Kind
end_kind Receive end = kind.Receive3 end
end_kind _ end = kind.Send3 end

abbrev pub end_name : ShutdownType → HandleKind
end_name Receive = name.Receive3
end_name _ = name.Send3

-- the machine with the handle of the end, and then with that of its slot
abbrev pub with_end_handle : Machine → ShutdownType → ℕ → ℕ → StreamEnd → TcpRecord → Machine
with_end_handle m how handle place taken now =
    let left = with_half m place taken now in
    record left { table = with_handle m.table (end_kind how (new_end m place taken)) (Some handle) }

abbrev pub with_both_handles : Machine → ShutdownType → ℕ → ℕ → StreamEnd → TcpRecord → Machine
with_both_handles m how handle place taken now =
    let left = with_end_handle m how handle place taken now in
    record left { table = with_handle left.table (kind.Result3 (length m.store.records)) (Some handle) }

-- their marks name the socket's handle as the parent, and its network socket
abbrev pub end_mark : Machine → OpId → ShutdownType → ℕ → TcpRecord → Entry
end_mark m own how handle r = entry own (call.Made m.table.next (end_name how) (Some handle) r.side) told.Done

abbrev pub result_mark : Machine → OpId → ℕ → TcpRecord → Entry
result_mark m own handle r = entry own (call.Made (m.table.next + 1) name.Result3 (Some handle) r.side) told.Done

-- The end has the next handle, and its slot the one after it.
pub record MakesEnd (m : Machine) (own : OpId) (how : ShutdownType) (handle place : ℕ) (r : TcpRecord) (entries : List Entry)
    (fields : List Field) (after : Machine) : Type 0 where
  pub taken : StreamEnd
  pub now : TcpRecord
  pub takes : HalfTaken r how taken now
  pub numbers : fields ≡ pair_fields m.table.next (m.table.next + 1)
  pub asked : entries ≡ end_mark m own how handle r ∷ result_mark m own handle r ∷ []
  pub left : after ≡ with_both_handles m how handle place taken now

-- There is no room for the handle of the end, or none for that of its slot: the half was taken all the same, and the slot has its record.
pub data LacksRoomForEnd (m : Machine) (own : OpId) (how : ShutdownType) (handle place : ℕ) (r : TcpRecord)
    : List Entry → Machine → Type 0 where
  NoRoomForEnd : (taken : StreamEnd) (now : TcpRecord) → HalfTaken r how taken now → is_full m.table ≡ true
      → LacksRoomForEnd m own how handle place r [] (with_half m place taken now)
  NoRoomForSlot : (taken : StreamEnd) (now : TcpRecord) → HalfTaken r how taken now → is_full m.table ≡ false
      → is_full (with_end_handle m how handle place taken now).table ≡ true
      → LacksRoomForEnd m own how handle place r (end_mark m own how handle r ∷ []) (with_end_handle m how handle place taken now)

-- == whether an end is open
-- The handle names an end, of which this holds.
pub record OfEnd (named : Option ConnectionEnd) (P : ConnectionEnd → Type 0) : Type 0 where
  pub end : ConnectionEnd
  pub names : named ≡ Some end
  pub holds : P end

-- The socket of an open end, and its half.
pub record Opens {H : Type 0} (m : Machine) (half : TcpRecord → Option H) (end : ConnectionEnd) (P : ℕ → TcpRecord → H → Type 0)
    : Type 0 where
  pub place : ℕ
  pub found : TcpRecord
  pub its : H
  pub socket : end.socket ≡ Some place
  pub at : tcp2_at m.store.records place ≡ Some found
  pub has : half found ≡ Some its
  pub holds : P place found its

-- == how an end is closed
-- the socket without that half
abbrev pub without_half : ShutdownType → TcpRecord → TcpRecord
without_half how r = with_streams r (shut_down how (ends_of r.streams))

-- and the slot, if it is there, says what became of the stream, unless it says so already
abbrev pub closing : Machine → ShutdownType → ℕ → ℕ → TcpRecord → StreamEnd → Machine
closing m how slot place r ended = let left = putting m place (without_half how r) in record left { store = fill ended slot left.store }

abbrev pub shut : OpId → OpId → ShutdownType → Entry
shut own side how = entry own (call.Shutdown side how) told.Done

-- Nothing is left of the socket, nor a job of it.
pub record IsLetGo (m : Machine) (place : ℕ) (after : Machine) : Type 0 where
  pub left : after ≡ giving_back m place
  pub job : (job : HostJob) → Has after.store.jobs job → is_on place job ≡ true → ⊥

-- The half is released. While something else holds the network socket the record stays; else what the socket has is released, its
-- network socket last, and nothing is left of it.
abbrev pub ClosesBy : Machine → OpId → OpId → ShutdownType → ℕ → ℕ → TcpRecord → StreamEnd → List Entry → Machine → Bool → Type 0
ClosesBy m own side how slot place r ended es after true = (es ≡ shut own side how ∷ []) × (after ≡ closing m how slot place r ended)
ClosesBy m own side how slot place r ended es after false =
    (es ≡ shut own side how ∷ socket_given_up own (without_half how r)) × IsLetGo (closing m how slot place r ended) place after

abbrev pub ClosesEnd : Machine → OpId → OpId → ShutdownType → ℕ → ℕ → TcpRecord → StreamEnd → List Entry → Machine → Type 0
ClosesEnd m own side how slot place r ended es after = ClosesBy m own side how slot place r ended es after (is_held (without_half how r))

-- == a poll of an end
-- a read asks for no more than this at once, and a write offers no more
abbrev pub read_size : ℕ → ℕ
read_size len = min len 8192

abbrev pub offered : List ℕ → List ℕ
offered bytes = take 4294967295 bytes

abbrev pub read_entry : OpId → ℕ → TcpReceiveStream → Told → Entry
read_entry own len half told = entry own (call.Read half.side (read_size len)) told

abbrev pub write_entry : OpId → List ℕ → TcpSendStream → Told → Entry
write_entry own bytes half told = entry own (call.Write half.side (length (offered bytes))) told

-- What it gives, and the one entry: with room for nothing it is only looked whether there is something; else these bytes were read.
pub data ReadGives (own : OpId) (half : TcpReceiveStream) : ℕ → List Entry → List ℕ → Type 0 where
  LooksToRead : ReadGives own half 0 (entry own (call.ReadReady half.side) told.Done ∷ []) []
  GivesBytes : (len b : ℕ) (bytes : List ℕ) → len ≢ 0 → length (b ∷ bytes) ≤ read_size len
      → ReadGives own half len (read_entry own len half (told.Bytes (b ∷ bytes)) ∷ []) (b ∷ bytes)

-- the one entry was answered pending
pub data ReadWaits (own : OpId) (half : TcpReceiveStream) : ℕ → List Entry → Type 0 where
  LookToReadWaits : ReadWaits own half 0 (entry own (call.ReadReady half.side) told.Pending ∷ [])
  ReadIsPending : (len : ℕ) → len ≢ 0 → ReadWaits own half len (read_entry own len half told.Pending ∷ [])

-- The read was told that the stream is over: it has no more bytes, or there is a fault.
pub data ReadMeets (own : OpId) (len : ℕ) (half : TcpReceiveStream) : Entry → StreamEnd → Type 0 where
  ReadMeetsEnd : len ≢ 0 → ReadMeets own len half (read_entry own len half (told.Bytes [])) (Ok tt)
  ReadMeetsFault : (c : ErrorCode) → len ≢ 0 → ReadMeets own len half (read_entry own len half (told.Code c)) (Err c)

-- the same of a write: so many of the bytes were taken, from their front, one at least
pub data WriteGives (own : OpId) (half : TcpSendStream) : List ℕ → List Entry → ℕ → Type 0 where
  LooksToWrite : WriteGives own half [] (entry own (call.WriteReady half.side) told.Done ∷ []) 0
  TakesBytes : (bytes taken : List ℕ) → bytes ≢ [] → 1 ≤ length taken → length taken ≤ length (offered bytes)
      → taken ≡ take (length taken) (offered bytes)
      → WriteGives own half bytes (write_entry own bytes half (told.Took taken) ∷ []) (length taken)

pub data WriteWaits (own : OpId) (half : TcpSendStream) : List ℕ → List Entry → Type 0 where
  LookToWriteWaits : WriteWaits own half [] (entry own (call.WriteReady half.side) told.Pending ∷ [])
  WriteIsPending : (bytes : List ℕ) → bytes ≢ [] → WriteWaits own half bytes (write_entry own bytes half told.Pending ∷ [])

pub data WriteMeets (own : OpId) (bytes : List ℕ) (half : TcpSendStream) : Entry → StreamEnd → Type 0 where
  WriteMeetsFault : (c : ErrorCode) → bytes ≢ [] → WriteMeets own bytes half (write_entry own bytes half (told.Code c)) (Err c)

-- Of an open end: what it gives, with the machine unchanged.
abbrev pub EndReads : Machine → OpId → ℕ → ConnectionEnd → List Entry → List Field → Machine → Type 0
EndReads m own len end es fields after =
    Opens m receive_half end (λ place r half.
    (bytes : List ℕ) × ReadGives own half len es bytes × (fields ≡ bytes_fields bytes) × (after ≡ m))

abbrev pub EndWrites : Machine → OpId → List ℕ → ConnectionEnd → List Entry → List Field → Machine → Type 0
EndWrites m own bytes end es fields after =
    Opens m send_half end (λ place r half. (count : ℕ) × WriteGives own half bytes es count × (fields ≡ number_fields count) × (after ≡ m))

-- it gave up, since the one entry was answered pending
abbrev pub ReadGivesUp : Machine → OpId → ℕ → ConnectionEnd → List Entry → Machine → Type 0
ReadGivesUp m own len end es after = Opens m receive_half end (λ place r half. ReadWaits own half len es × (after ≡ m))

abbrev pub WriteGivesUp : Machine → OpId → List ℕ → ConnectionEnd → List Entry → Machine → Type 0
WriteGivesUp m own bytes end es after = Opens m send_half end (λ place r half. WriteWaits own half bytes es × (after ≡ m))

-- == what closes an end
abbrev pub receive_side : TcpReceiveStream → OpId
receive_side half = half.side

abbrev pub send_side : TcpSendStream → OpId
send_side half = half.side

-- The stream of a polled end is over: the end was closed before, and nothing is asked; or the one entry told so, and it is closed now.
pub data EndIsOver {H : Type 0} (m : Machine) (own : OpId) (how : ShutdownType) (half : TcpRecord → Option H) (side : H → OpId)
    (Meets : H → Entry → StreamEnd → Type 0) (end : ConnectionEnd) : List Entry → Machine → Type 0 where
  WasOver : half_of half (tcp_in m end.socket) ≡ None → EndIsOver m own how half side Meets end [] m
  IsOverNow : (e : Entry) (rest : List Entry) (ended : StreamEnd) (after : Machine)
      → Opens m half end (λ place r its. Meets its e ended × ClosesEnd m own (side its) how end.slot place r ended rest after)
      → EndIsOver m own how half side Meets end (e ∷ rest) after

abbrev pub ReadEnds : Machine → OpId → ℕ → ConnectionEnd → List Entry → Machine → Type 0
ReadEnds m own len end es after = EndIsOver m own Receive receive_half receive_side (ReadMeets own len) end es after

abbrev pub WriteEnds : Machine → OpId → List ℕ → ConnectionEnd → List Entry → Machine → Type 0
WriteEnds m own bytes end es after = EndIsOver m own Send send_half send_side (WriteMeets own bytes) end es after

-- The handle of an end goes: a closed one asks nothing; an open one is closed, and its slot says that the stream went well.
pub data EndGoes {H : Type 0} (m : Machine) (own : OpId) (how : ShutdownType) (half : TcpRecord → Option H) (side : H → OpId)
    (end : ConnectionEnd) : List Entry → Machine → Type 0 where
  ClosedGoes : half_of half (tcp_in m end.socket) ≡ None → EndGoes m own how half side end [] m
  OpenGoes : (es : List Entry) (after : Machine)
      → Opens m half end (λ place r its. ClosesEnd m own (side its) how end.slot place r (Ok tt) es after)
      → EndGoes m own how half side end es after

abbrev pub ReadEndGoes : Machine → OpId → ConnectionEnd → List Entry → Machine → Type 0
ReadEndGoes m own end es after = EndGoes m own Receive receive_half receive_side end es after

abbrev pub WriteEndGoes : Machine → OpId → ConnectionEnd → List Entry → Machine → Type 0
WriteEndGoes m own end es after = EndGoes m own Send send_half send_side end es after

-- == which of the three it is, by the first entry
-- it was answered pending
abbrev pub BeginsPending : List Entry → Type 0
BeginsPending [] = ⊥
BeginsPending (e ∷ es) = e.answer ≡ told.Pending

-- it told of the end or of a fault
abbrev pub TellsOver : Told → Type 0
TellsOver (told.Bytes []) = ⊤
TellsOver (told.Code c) = ⊤
TellsOver _ = ⊥

-- or there is none
abbrev pub BeginsOver : List Entry → Type 0
BeginsOver [] = ⊤
BeginsOver (e ∷ es) = TellsOver e.answer

-- A poll of an end gives something, or gives up, or its stream is over.
pub record EndAnswers (entries : List Entry) (said : Reply) (IsClosed : Type 0) : Type 0 where
  pub cancelled : (said ≡ reply.Cancelled) ↔ BeginsPending entries
  pub dropped : (said ≡ reply.Dropped) ↔ BeginsOver entries
  pub closed : (entries ≡ []) ↔ IsClosed

-- the end is closed: its socket has that half no more, or is gone, or never had it
abbrev pub ReadIsClosed : Machine → ConnectionEnd → Type 0
ReadIsClosed m end = half_of receive_half (tcp_in m end.socket) ≡ None

abbrev pub WriteIsClosed : Machine → ConnectionEnd → Type 0
WriteIsClosed m end = half_of send_half (tcp_in m end.socket) ≡ None

-- == a result slot
-- The handle names a slot, which says this.
pub record OfSlot (m : Machine) (handle : ℕ) (P : ℕ → Slot → Type 0) : Type 0 where
  pub place : ℕ
  pub found : Slot
  pub names : result3_at m handle ≡ Some place
  pub at : slot_at m.store.records place ≡ Some found
  pub holds : P place found

-- it says that the stream went well, or why it didn't, and goes with its handle; nothing is asked
abbrev pub SlotGoes : Machine → ℕ → ℕ → List Entry → Machine → Type 0
SlotGoes m handle place es after = (es ≡ []) × IsLetGo (without m handle) place after

abbrev pub WentWell : Machine → ℕ → List Entry → Machine → Type 0
WentWell m handle es after = OfSlot m handle (λ place s. (s ≡ Filled (Ok tt)) × SlotGoes m handle place es after)

abbrev pub WentIll : Machine → ℕ → List Entry → CodeWord → Machine → Type 0
WentIll m handle es w after =
    OfSlot m handle (λ place s. SaidBy p3_word (λ c. s ≡ Filled (Err c)) w × SlotGoes m handle place es after)

-- it says nothing yet
abbrev pub IsUnfilled : Machine → ℕ → Type 0
IsUnfilled m handle = OfSlot m handle (λ place s. s ≡ Unfilled)
