-- Calls of streams that block: each is made of others, and is pending where one of these gives nothing yet. The parts are steps of the
-- line that began it, also where a poll continues it. How a poll continues a wait for pollables is said with these.
pub use Rattle.wasi_causes.specs.PollableCalls.{waiting}
use Rattle.std.specs.Prelude.{◌≡◌, ◌≢◌, ◌⊎◌, ◌≤◌, ◌<◌, ℕ, suc, min, Bool, true, false, List, [], ◌∷◌, ◌++◌, length, take, drop, IsSome, IsSomeAnd}
use Rattle.wasi_world.specs.declared.call.Call.TheVariants as call
use Rattle.wasi_world.specs.declared.call.Entry.{Entry}
use Rattle.wasi_world.specs.declared.call.Told.TheVariants as told
use Rattle.wasi_world.specs.declared.ids.Ids.{Ids}
use Rattle.wasi_world.specs.declared.ids.OpId.{OpId}
use Rattle.wasi_world.specs.declared.outcome.TrapKind.TheVariants.{NoSuchHandle, TooLong}
use Rattle.wasi_world.specs.declared.outcome.WasiSocketsCtx.{WasiSocketsCtx}
use Rattle.wasi_tcp.specs.declared.halves.TcpReceiveStream.{TcpReceiveStream}
use Rattle.wasi_tcp.specs.declared.reader.ReadState.TheVariants as reading
use Rattle.host_store.specs.declared.store.BlockingCall.{BlockingCall}
use Rattle.host_store.specs.declared.store.BlockingCall.TheVariants.{Read, Skip, Write, Finish, Flush, Splice, Block, Poll}
use Rattle.host_store.specs.declared.machine.Machine.{Machine}
use Rattle.wasi_host.specs.declared.polling.Look.TheVariants.{Later}
use Rattle.host_store.specs.declared.store.StandingCall.{StandingCall}
use Rattle.host_store.specs.declared.store.StandingCall.TheVariants.{Blocking}
use Rattle.host_store.specs.Kinds.{kind_at, is_writable}
use Rattle.host_store.specs.Machine.{input_at, own_of}
use Rattle.record_common.specs.Names.{first_ids}
use Rattle.host_streams.specs.StreamCalls.{plain_input_at}
use Rattle.wasi_steps.specs.declared.reply.Field.{Field}
use Rattle.wasi_steps.specs.declared.reply.Reply.{Reply}
use Rattle.wasi_steps.specs.declared.reply.Reply.TheVariants as reply
use Rattle.wasi_steps.specs.declared.step.Step.{Step}
use Rattle.wasi_steps.specs.declared.guest_call.GuestCall.TheVariants as guest
use Rattle.wasi_steps.specs.declared.guest_call.StreamCall.TheVariants as stream_call
use Rattle.wasi_steps.specs.declared.step.Step.TheVariants as step
use Rattle.wasi_steps.specs.Reply.{bytes_fields, no_fields, number_fields, numbers_fields}
use Rattle.wasi_walks.specs.Answered.{Answered, OfStreams, ReadsTold}
use Rattle.wasi_walks.specs.Licence.{entry}
use Rattle.wasi_walks.specs.Missing.{MissesInput, MissesStream}
use Rattle.wasi_causes.specs.Plain.{TakesFront}
use Rattle.wasi_causes.specs.Parts.{GivesNone, LacksStream, spliced_reply}
use Rattle.wasi_causes.specs.PollableCalls.{BlocksOn, WaitsOn, waiting}

-- == a look at an input
-- Whether there is something to read, and what was asked: an input of no connection is always ready, and so is one that is closed; of
-- an open one the network is asked.
pub data LooksInto (m : Machine) (own : OpId) (h : ℕ) : Bool → List Entry → Type 0 where
  OfNoConnection : IsSome (plain_input_at m h) → LooksInto m own h true []
  OfClosed : OfStreams m (input_at m h) (λ place r s. s.reader ≡ reading.Closed) → LooksInto m own h true []
  ToldReady : (half : TcpReceiveStream) → OfStreams m (input_at m h) (λ place r s. s.reader ≡ reading.Open half) → LooksInto m own h true (entry own (call.ReadReady half.side) told.Done ∷ [])
  ToldToWait : (half : TcpReceiveStream) → OfStreams m (input_at m h) (λ place r s. s.reader ≡ reading.Open half) → LooksInto m own h false (entry own (call.ReadReady half.side) told.Pending ∷ [])

-- == a read, and a skip
-- How a call that reads by this step comes out, which answers so where it gives nothing: its input isn't there; or it isn't ready, or
-- gives nothing though something was wanted, and the call is pending; else it is answered as the step is.
pub data ReadsOn (contexts : List WasiSocketsCtx) (m : Machine) (ids : Ids) (call : BlockingCall) (input len : ℕ) (s : Step) (none : Reply) : List Entry → Reply → Machine → Type 0 where
  NoInput : MissesInput m input → ReadsOn contexts m ids call input len s none [] (reply.Trap NoSuchHandle) m
  NotReady : (es : List Entry) → LooksInto m (own_of ids.line) input false es → ReadsOn contexts m ids call input len s none es (reply.Pending ids.line) (waiting m ids call)
  NoneCame : (es fs : List Entry) → LooksInto m (own_of ids.line) input true es → Answered contexts m ids.line s fs none m → len ≢ 0 → ReadsOn contexts m ids call input len s none (es ++ fs) (reply.Pending ids.line) (waiting m ids call)
  AsRead : (es fs : List Entry) (r : Reply) (after : Machine) → LooksInto m (own_of ids.line) input true es → Answered contexts m ids.line s fs r after → (r ≡ none → len ≡ 0) → ReadsOn contexts m ids call input len s none (es ++ fs) r after

-- It ends by a read that gave these bytes: the look found something to read, and what follows is the read of a connection's open half,
-- or nothing, where they stood first in a pipe.
pub record EndsByRead (m : Machine) (line input len : ℕ) (bytes : List ℕ) (es : List Entry) (after : Machine) : Type 0 where
  pub front : List Entry
  pub rest : List Entry
  pub cut : es ≡ front ++ rest
  pub looked : LooksInto m (own_of line) input true front
  pub told : (OfStreams m (input_at m input) (λ place r s. ReadsTold (own_of line) len s.reader bytes rest) × (after ≡ m)) ⊎ TakesFront m input len bytes rest after

-- == a flush
-- How a flush comes out: the flush of the stream gives nothing; or the look at what may be written that follows it does; or nothing
-- may be written, and the call is pending; else it is done.
pub data FlushesOn (contexts : List WasiSocketsCtx) (m : Machine) (c : ℕ) (ids : Ids) (output : ℕ) : List Entry → Reply → Machine → Type 0 where
  FlushGivesNone : (es : List Entry) (r : Reply) (after : Machine) → Answered contexts m ids.line (step.Call c (guest.Stream (stream_call.Flush output))) es r after → GivesNone r → FlushesOn contexts m c ids output es r after
  LookGivesNone : (es : List Entry) (r : Reply) (after : Machine) → Answered contexts m ids.line (step.Call c (guest.Stream (stream_call.Flush output))) [] (reply.Ok no_fields) m → Answered contexts m ids.line (step.Call c (guest.Stream (stream_call.CheckWrite output))) es r after → GivesNone r → FlushesOn contexts m c ids output es r after
  StillWrites : (es : List Entry) (after : Machine) → Answered contexts m ids.line (step.Call c (guest.Stream (stream_call.Flush output))) [] (reply.Ok no_fields) m → Answered contexts m ids.line (step.Call c (guest.Stream (stream_call.CheckWrite output))) es (reply.Ok (number_fields 0)) after → FlushesOn contexts m c ids output es (reply.Pending ids.line) (waiting after ids (Flush output))
  IsFlushed : (es : List Entry) (n : ℕ) (after : Machine) → Answered contexts m ids.line (step.Call c (guest.Stream (stream_call.Flush output))) [] (reply.Ok no_fields) m → Answered contexts m ids.line (step.Call c (guest.Stream (stream_call.CheckWrite output))) es (reply.Ok (number_fields (suc n))) after → FlushesOn contexts m c ids output es (reply.Ok no_fields) after

-- == a write
-- once all is written, a stream that is closed has taken it
abbrev pub ended_reply : Reply → Reply
ended_reply reply.Closed = reply.Ok no_fields
ended_reply r = r

-- How the end of a write comes out, where all is written and flushed: it looks once more at what may be written.
pub data LooksLast (contexts : List WasiSocketsCtx) (m : Machine) (c : ℕ) (ids : Ids) (output : ℕ) : List Entry → Reply → Machine → Type 0 where
  LastGivesNone : (es : List Entry) (r : Reply) (after : Machine) → Answered contexts m ids.line (step.Call c (guest.Stream (stream_call.CheckWrite output))) es r after → GivesNone r → LooksLast contexts m c ids output es (ended_reply r) after
  LastWaits : (es : List Entry) (after : Machine) → Answered contexts m ids.line (step.Call c (guest.Stream (stream_call.CheckWrite output))) es (reply.Ok (number_fields 0)) after → LooksLast contexts m c ids output es (reply.Pending ids.line) (waiting after ids (Finish output))
  AllTaken : (es : List Entry) (n : ℕ) (after : Machine) → Answered contexts m ids.line (step.Call c (guest.Stream (stream_call.CheckWrite output))) es (reply.Ok (number_fields (suc n))) after → LooksLast contexts m c ids output es (reply.Ok no_fields) after

-- And where all is written: it is flushed first.
pub data Finishes (contexts : List WasiSocketsCtx) (m : Machine) (c : ℕ) (ids : Ids) (output : ℕ) : List Entry → Reply → Machine → Type 0 where
  EndsByFlush : (es : List Entry) (r : Reply) (after : Machine) → Answered contexts m ids.line (step.Call c (guest.Stream (stream_call.Flush output))) es r after → GivesNone r → Finishes contexts m c ids output es (ended_reply r) after
  EndsByLook : (es : List Entry) (r : Reply) (after : Machine) → Answered contexts m ids.line (step.Call c (guest.Stream (stream_call.Flush output))) [] (reply.Ok no_fields) m → LooksLast contexts m c ids output es r after → Finishes contexts m c ids output es r after

-- How a write comes out, round for round: as much is written as may be; where nothing may be, the call is pending, for what isn't
-- written yet; and where nothing is left, it finishes.
pub data WritesOn (contexts : List WasiSocketsCtx) (c : ℕ) (ids : Ids) (output : ℕ) : Machine → List ℕ → List Entry → Reply → Machine → Type 0 where
  NonePermitted : (m : Machine) (rest : List ℕ) (es : List Entry) (r : Reply) (after : Machine) → Answered contexts m ids.line (step.Call c (guest.Stream (stream_call.CheckWrite output))) es r after → GivesNone r → WritesOn contexts c ids output m rest es r after
  NotYet : (m : Machine) (rest : List ℕ) (es : List Entry) (after : Machine) → Answered contexts m ids.line (step.Call c (guest.Stream (stream_call.CheckWrite output))) es (reply.Ok (number_fields 0)) after → WritesOn contexts c ids output m rest es (reply.Pending ids.line) (waiting after ids (Write output rest))
  NoneTaken : (m mid : Machine) (rest : List ℕ) (n : ℕ) (es fs : List Entry) (r : Reply) (after : Machine) → Answered contexts m ids.line (step.Call c (guest.Stream (stream_call.CheckWrite output))) es (reply.Ok (number_fields (suc n))) mid
      → Answered contexts mid ids.line (step.Call c (guest.Stream (stream_call.Write output (take (suc n) rest)))) fs r after → GivesNone r → WritesOn contexts c ids output m rest (es ++ fs) r after
  AnotherRound : (m mid next : Machine) (rest : List ℕ) (n b : ℕ) (more : List ℕ) (es fs gs : List Entry) (r : Reply) (after : Machine) → Answered contexts m ids.line (step.Call c (guest.Stream (stream_call.CheckWrite output))) es (reply.Ok (number_fields (suc n))) mid
      → Answered contexts mid ids.line (step.Call c (guest.Stream (stream_call.Write output (take (suc n) rest)))) fs (reply.Ok no_fields) next → drop (suc n) rest ≡ b ∷ more → WritesOn contexts c ids output next (b ∷ more) gs r after → WritesOn contexts c ids output m rest (es ++ (fs ++ gs)) r after
  LastRound : (m mid next : Machine) (rest : List ℕ) (n : ℕ) (es fs gs : List Entry) (r : Reply) (after : Machine) → Answered contexts m ids.line (step.Call c (guest.Stream (stream_call.CheckWrite output))) es (reply.Ok (number_fields (suc n))) mid
      → Answered contexts mid ids.line (step.Call c (guest.Stream (stream_call.Write output (take (suc n) rest)))) fs (reply.Ok no_fields) next → drop (suc n) rest ≡ [] → Finishes contexts next c ids output gs r after → WritesOn contexts c ids output m rest (es ++ (fs ++ gs)) r after

-- How a step that writes this, so many bytes, comes out: its handle is tested, and how much it writes, and nothing is asked before.
pub data BeginsToWrite (contexts : List WasiSocketsCtx) (m : Machine) (c : ℕ) (ids : Ids) (output count : ℕ) (bytes : List ℕ) : List Entry → Reply → Machine → Type 0 where
  NoOutput : is_writable (kind_at m.table output) ≡ false → BeginsToWrite contexts m c ids output count bytes [] (reply.Trap NoSuchHandle) m
  TooMany : is_writable (kind_at m.table output) ≡ true → 4096 < count → BeginsToWrite contexts m c ids output count bytes [] (reply.Trap TooLong) m
  Begins : (es : List Entry) (r : Reply) (after : Machine) → is_writable (kind_at m.table output) ≡ true → count ≤ 4096 → WritesOn contexts c ids output m bytes es r after → BeginsToWrite contexts m c ids output count bytes es r after

-- == a splice
-- How a splice comes out: as one that doesn't block, but that it looks first whether there is something to read, and is pending where
-- nothing may be written, or nothing is there to be read.
pub data SplicesOn (contexts : List WasiSocketsCtx) (m : Machine) (c : ℕ) (ids : Ids) (to from len : ℕ) : List Entry → Reply → Machine → Type 0 where
  NoStreams : LacksStream m to from → SplicesOn contexts m c ids to from len [] (reply.Trap NoSuchHandle) m
  CheckGivesNone : (es : List Entry) (r : Reply) (after : Machine) → Answered contexts m ids.line (step.Call c (guest.Stream (stream_call.CheckWrite to))) es r after → GivesNone r → SplicesOn contexts m c ids to from len es r after
  NoRoomYet : (es : List Entry) (after : Machine) → Answered contexts m ids.line (step.Call c (guest.Stream (stream_call.CheckWrite to))) es (reply.Ok (number_fields 0)) after → SplicesOn contexts m c ids to from len es (reply.Pending ids.line) (waiting after ids (Splice to from len))
  NoneToRead : (es : List Entry) (n : ℕ) (after : Machine) → Answered contexts m ids.line (step.Call c (guest.Stream (stream_call.CheckWrite to))) es (reply.Ok (number_fields (suc n))) after → len ≡ 0 → SplicesOn contexts m c ids to from len es (reply.Ok (number_fields 0)) after
  InputIsMissing : (es : List Entry) (n : ℕ) (mid : Machine) → Answered contexts m ids.line (step.Call c (guest.Stream (stream_call.CheckWrite to))) es (reply.Ok (number_fields (suc n))) mid → len ≢ 0 → MissesInput mid from → SplicesOn contexts m c ids to from len es (reply.Trap NoSuchHandle) mid
  InputWaits : (es ls : List Entry) (n : ℕ) (mid : Machine) → Answered contexts m ids.line (step.Call c (guest.Stream (stream_call.CheckWrite to))) es (reply.Ok (number_fields (suc n))) mid → len ≢ 0 → LooksInto mid (own_of ids.line) from false ls → SplicesOn contexts m c ids to from len (es ++ ls) (reply.Pending ids.line) (waiting mid ids (Splice to from len))
  NoneRead : (es ls fs : List Entry) (n count : ℕ) (mid : Machine) → Answered contexts m ids.line (step.Call c (guest.Stream (stream_call.CheckWrite to))) es (reply.Ok (number_fields (suc n))) mid → min (suc n) len ≡ suc count → LooksInto mid (own_of ids.line) from true ls
      → Answered contexts mid ids.line (step.Call c (guest.Stream (stream_call.Read from (suc count)))) fs (reply.Ok (bytes_fields [])) mid → SplicesOn contexts m c ids to from len (es ++ (ls ++ fs)) (reply.Pending ids.line) (waiting mid ids (Splice to from len))
  ReadGivesNone : (es ls fs : List Entry) (n count : ℕ) (mid : Machine) (r : Reply) (after : Machine) → Answered contexts m ids.line (step.Call c (guest.Stream (stream_call.CheckWrite to))) es (reply.Ok (number_fields (suc n))) mid → min (suc n) len ≡ suc count → LooksInto mid (own_of ids.line) from true ls
      → Answered contexts mid ids.line (step.Call c (guest.Stream (stream_call.Read from (suc count)))) fs r after → GivesNone r → SplicesOn contexts m c ids to from len (es ++ (ls ++ fs)) r after
  WritesRead : (es ls fs gs : List Entry) (n count b : ℕ) (bytes : List ℕ) (mid read : Machine) (r : Reply) (after : Machine) → Answered contexts m ids.line (step.Call c (guest.Stream (stream_call.CheckWrite to))) es (reply.Ok (number_fields (suc n))) mid → min (suc n) len ≡ suc count → LooksInto mid (own_of ids.line) from true ls
      → Answered contexts mid ids.line (step.Call c (guest.Stream (stream_call.Read from (suc count)))) fs (reply.Ok (bytes_fields (b ∷ bytes))) read → Answered contexts read ids.line (step.Call c (guest.Stream (stream_call.Write to (b ∷ bytes)))) gs r after
      → SplicesOn contexts m c ids to from len (es ++ (ls ++ (fs ++ gs))) (spliced_reply (length (b ∷ bytes)) r) after

-- == each call
-- what isn't written yet of a call was no more than one call may write
abbrev pub IsShort : BlockingCall → Type 0
IsShort (Write output rest) = length rest ≤ 4096
IsShort _ = Unit {0}

-- how the call comes out, by the names of its line
abbrev pub BlocksAs : List WasiSocketsCtx → Machine → ℕ → Ids → BlockingCall → List Entry → Reply → Machine → Type 0
BlocksAs contexts m c ids (Read input len) es r after = ReadsOn contexts m ids (Read input len) input len (step.Call c (guest.Stream (stream_call.Read input len))) (reply.Ok (bytes_fields [])) es r after
BlocksAs contexts m c ids (Skip input len) es r after = ReadsOn contexts m ids (Skip input len) input len (step.Call c (guest.Stream (stream_call.Skip input len))) (reply.Ok (number_fields 0)) es r after
BlocksAs contexts m c ids (Write output rest) es r after = WritesOn contexts c ids output m rest es r after
BlocksAs contexts m c ids (Finish output) es r after = LooksLast contexts m c ids output es r after
BlocksAs contexts m c ids (Flush output) es r after = FlushesOn contexts m c ids output es r after
BlocksAs contexts m c ids (Splice to from len) es r after = SplicesOn contexts m c ids to from len es r after
BlocksAs contexts m c ids (Block pollable) es r after = BlocksOn contexts m c ids pollable Later es r after
BlocksAs contexts m c ids (Poll pollables) es r after = WaitsOn m (first_ids ids.line) pollables Later es r after

-- what it gives where it is done
abbrev pub GivesOf : BlockingCall → List Field → Type 0
GivesOf (Read input len) fields = (bytes : List ℕ) × (fields ≡ bytes_fields bytes)
GivesOf (Skip input len) fields = (n : ℕ) × (fields ≡ number_fields n)
GivesOf (Splice to from len) fields = (n : ℕ) × (fields ≡ number_fields n)
GivesOf (Poll pollables) fields = (first : ℕ) × (others : List ℕ) × (fields ≡ numbers_fields (first ∷ others))
GivesOf _ fields = fields ≡ no_fields

-- what it is on is there
abbrev pub HasItsStreams : Machine → BlockingCall → Type 0
HasItsStreams m call = MissesStream m call → ⊥

-- it is no wait for pollables
abbrev pub IsCallOfStream : BlockingCall → Type 0
IsCallOfStream (Block pollable) = ⊥
IsCallOfStream (Poll pollables) = ⊥
IsCallOfStream _ = Unit {0}

-- a call that blocks is pending
abbrev pub IsBlocking : StandingCall → Type 0
IsBlocking (Blocking call) = Unit {0}
IsBlocking _ = ⊥

abbrev pub BlockingCallStands : Machine → Type 0
BlockingCallStands m = IsSomeAnd m.store.standing (λ s. IsBlocking s.call)

-- one of a stream is
abbrev pub IsOfStream : StandingCall → Type 0
IsOfStream (Blocking call) = IsCallOfStream call
IsOfStream _ = ⊥

abbrev pub StreamCallStands : Machine → Type 0
StreamCallStands m = IsSomeAnd m.store.standing (λ s. IsOfStream s.call)
