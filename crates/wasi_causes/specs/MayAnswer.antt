-- What each step may reply: fields of its kinds, the words that may refuse it, an end or a failure of a stream, what ends of 0.3
-- answer, its traps, pending, busy, and `no-such-call`.
use Rattle.std.specs.Prelude.{◌≡◌, ◌⊎◌, ⊤, ℕ, ◌+◌, true, List, [], ◌∷◌, Option}
use Rattle.wasi_addr.specs.declared.address.IpAddress.{IpAddress}
use Rattle.wasi_addr.specs.declared.address.IpSocketAddress.{IpSocketAddress}
use Rattle.wasi_addr.specs.declared.code.ErrorCode.{ErrorCode}
use Rattle.wasi_world.specs.declared.datagram.IncomingDatagram.{IncomingDatagram}
use Rattle.wasi_world.specs.declared.outcome.TrapKind.{TrapKind}
use Rattle.wasi_world.specs.declared.outcome.TrapKind.TheVariants.{NoSuchHandle, HasChildren, Full, EmptyList, NotPermitted, StreamsAlive, Capacity, TooLong}
use Rattle.wasi_machine.specs.Machine.{is_guest_call}
use Rattle.wasi_steps.specs.declared.reply.CodeWord.{CodeWord}
use Rattle.wasi_steps.specs.declared.reply.CodeWord.TheVariants as word
use Rattle.wasi_steps.specs.declared.reply.Field.{Field}
use Rattle.wasi_steps.specs.declared.reply.Field.TheVariants as field
use Rattle.wasi_steps.specs.declared.reply.Reply.{Reply}
use Rattle.wasi_steps.specs.declared.reply.Reply.TheVariants as reply
use Rattle.wasi_steps.specs.declared.step.Step.{Step}
use Rattle.wasi_steps.specs.declared.guest_call.GuestCall.TheVariants as guest
use Rattle.wasi_steps.specs.declared.guest_call.TcpCall.TheVariants as tcp_call
use Rattle.wasi_steps.specs.declared.guest_call.UdpCall.TheVariants as udp_call
use Rattle.wasi_steps.specs.declared.guest_call.NameCall.TheVariants as name_call
use Rattle.wasi_steps.specs.declared.guest_call.StreamCall.TheVariants as stream_call
use Rattle.wasi_steps.specs.declared.guest_call.PipeCall.TheVariants as pipe_call
use Rattle.wasi_steps.specs.declared.guest_call.PollableCall.TheVariants as pollable_call
use Rattle.wasi_steps.specs.declared.guest_call.P3TcpCall.TheVariants as p3_tcp_call
use Rattle.wasi_steps.specs.declared.guest_call.P3UdpCall.TheVariants as p3_udp_call
use Rattle.wasi_steps.specs.declared.guest_call.P3NameCall.TheVariants as p3_name_call
use Rattle.wasi_steps.specs.declared.step.Step.TheVariants as step
use Rattle.wasi_steps.specs.Replies.{FieldKind, ANumber, SomeBytes, Truth, Nothing, FieldKinds, Each, AnAddress, AnIpOrNone, ADatagramList, SomeNumbers, SomeIps, OneDatagram, OfAPolledCall, polled_kinds, kinds_of}
use Rattle.wasi_steps.specs.Reply.{address_values, datagram_values, found_values, ips_values, numbers_fields, received_values}
use Rattle.wasi_walks.specs.Answered.{word_of_code}
use Rattle.wasi_walks.specs.Missing.{IsWrite, MakesHandle}
use Rattle.wasi_walks.specs.Waiting.{IsPoll}
use Rattle.wasi_causes.specs.Cancelled.{IsCancel}
use Rattle.wasi_causes.specs.Datagrams.{IsUdpSend, IsUdpStream}
use Rattle.wasi_causes.specs.PollableCalls.{IsEmptyWait}
use Rattle.wasi_causes.specs.P3Streams.{GivesUp, IsEndPoll, IsResultStep, TakesOut}
use Rattle.wasi_causes.specs.Refusals.{p3_word}

-- == the fields of a reply that is done
abbrev pub IsLike : FieldKind → Field → Type 0
IsLike ANumber (field.Number n) = ⊤
IsLike SomeBytes (field.Bytes bytes) = ⊤
IsLike Truth field.True = ⊤
IsLike Truth field.False = ⊤
IsLike Nothing field.Absent = ⊤
IsLike _ _ = ⊥

abbrev pub EachLike : List FieldKind → List Field → Type 0
EachLike [] [] = ⊤
EachLike (kind ∷ kinds) (f ∷ fields) = IsLike kind f × EachLike kinds fields
EachLike _ _ = ⊥

abbrev pub LikeOneOf : List (List FieldKind) → List Field → Type 0
LikeOneOf [] fields = ⊥
LikeOneOf (kinds ∷ lists) fields = EachLike kinds fields ⊎ LikeOneOf lists fields

-- numbers, one at least
abbrev pub LikeNumbers : List Field → Type 0
LikeNumbers fields = (first : ℕ) × (others : List ℕ) × (fields ≡ numbers_fields (first ∷ others))

-- those of some addresses with no port
abbrev pub LikeIps : List Field → Type 0
LikeIps fields = (addresses : List IpAddress) × (fields ≡ ips_values addresses)

-- those of a datagram
abbrev pub LikeADatagram : List Field → Type 0
LikeADatagram fields = (d : IncomingDatagram) × (fields ≡ received_values d)

-- one of each of these kinds, or the numbers of an address, or those of one with no port, or none, or the fields of datagrams, or
-- numbers, or those of some addresses, or those of one datagram, or those of a call that can be pending; nothing is said of widths
abbrev pub AreLike : FieldKinds → List Field → Type 0
AreLike (Each kinds) fields = EachLike kinds fields
AreLike AnAddress fields = (a : IpSocketAddress) × (fields ≡ address_values a)
AreLike AnIpOrNone fields = (found : Option IpAddress) × (fields ≡ found_values found)
AreLike ADatagramList fields = (ds : List IncomingDatagram) × (fields ≡ datagram_values ds)
AreLike SomeNumbers fields = LikeNumbers fields
AreLike SomeIps fields = LikeIps fields
AreLike OneDatagram fields = LikeADatagram fields
AreLike OfAPolledCall fields = LikeOneOf polled_kinds fields ⊎ (LikeNumbers fields ⊎ (LikeIps fields ⊎ LikeADatagram fields))

-- == the words of refusals
-- The word of a code that the network may tell, or a test of the host's own answers.
pub record IsCodeWord (w : CodeWord) : Type 0 where
  pub code : ErrorCode
  pub is : w ≡ word_of_code code

-- The 0.3 word of such a code.
pub record IsP3Word (w : CodeWord) : Type 0 where
  pub code : ErrorCode
  pub is : w ≡ p3_word code

-- by which word a step may be refused; beside codes the host has three words of its own, and lookups have theirs
abbrev pub MayRefuse : Step → CodeWord → Type 0
MayRefuse (step.Call ctx (guest.Tcp (tcp_call.Create family))) w = IsCodeWord w
MayRefuse (step.Call ctx (guest.Tcp (tcp_call.StartBind socket network a))) w = (w ≡ word.ConcurrencyConflict) ⊎ IsCodeWord w
MayRefuse (step.Call ctx (guest.Tcp (tcp_call.FinishBind socket))) w = w ≡ word.NotInProgress
MayRefuse (step.Call ctx (guest.Tcp (tcp_call.StartConnect socket network a))) w = (w ≡ word.ConcurrencyConflict) ⊎ IsCodeWord w
MayRefuse (step.Call ctx (guest.Tcp (tcp_call.FinishConnect socket))) w = (w ≡ word.NotInProgress) ⊎ ((w ≡ word.WouldBlock) ⊎ IsCodeWord w)
MayRefuse (step.Call ctx (guest.Tcp (tcp_call.StartListen socket))) w = (w ≡ word.ConcurrencyConflict) ⊎ IsCodeWord w
MayRefuse (step.Call ctx (guest.Tcp (tcp_call.FinishListen socket))) w = w ≡ word.NotInProgress
MayRefuse (step.Call ctx (guest.Tcp (tcp_call.Accept socket))) w = (w ≡ word.WouldBlock) ⊎ IsCodeWord w
MayRefuse (step.Call ctx (guest.Tcp (tcp_call.LocalAddress socket))) w = IsCodeWord w
MayRefuse (step.Call ctx (guest.Tcp (tcp_call.RemoteAddress socket))) w = IsCodeWord w
MayRefuse (step.Call ctx (guest.Tcp (tcp_call.Get socket option))) w = IsCodeWord w
MayRefuse (step.Call ctx (guest.Tcp (tcp_call.Set socket setting))) w = IsCodeWord w
MayRefuse (step.Call ctx (guest.Tcp (tcp_call.Shutdown socket how))) w = w ≡ word.InvalidState
MayRefuse (step.Call ctx (guest.Udp (udp_call.Create family))) w = IsCodeWord w
MayRefuse (step.Call ctx (guest.Udp (udp_call.StartBind socket network a))) w = (w ≡ word.ConcurrencyConflict) ⊎ IsCodeWord w
MayRefuse (step.Call ctx (guest.Udp (udp_call.FinishBind socket))) w = w ≡ word.NotInProgress
MayRefuse (step.Call ctx (guest.Udp (udp_call.LocalAddress socket))) w = IsCodeWord w
MayRefuse (step.Call ctx (guest.Udp (udp_call.RemoteAddress socket))) w = w ≡ word.InvalidState
MayRefuse (step.Call ctx (guest.Udp (udp_call.Get socket option))) w = IsCodeWord w
MayRefuse (step.Call ctx (guest.Udp (udp_call.Set socket setting))) w = IsCodeWord w
MayRefuse (step.Call ctx (guest.Udp (udp_call.Stream socket remote))) w = IsCodeWord w
MayRefuse (step.Call ctx (guest.Udp (udp_call.Receive incoming most))) w = IsCodeWord w
MayRefuse (step.Call ctx (guest.Udp (udp_call.Send outgoing datagrams))) w = IsCodeWord w
MayRefuse (step.Call ctx (guest.Names (name_call.Resolve network name))) w = (w ≡ word.PermanentResolverFailure) ⊎ ((w ≡ word.InvalidArgument) ⊎ (w ≡ word.NameUnresolvable))
MayRefuse (step.Call ctx (guest.Names (name_call.ResolveNext lookup))) w = (w ≡ word.WouldBlock) ⊎ (w ≡ word.NameUnresolvable)
MayRefuse (step.Call ctx (guest.P3Tcp (p3_tcp_call.Create family))) w = IsP3Word w
MayRefuse (step.Call ctx (guest.P3Tcp (p3_tcp_call.Bind socket a))) w = IsP3Word w
MayRefuse (step.Call ctx (guest.P3Tcp (p3_tcp_call.Connect socket a))) w = IsP3Word w
MayRefuse (step.Call ctx (guest.P3Tcp (p3_tcp_call.LocalAddress socket))) w = IsP3Word w
MayRefuse (step.Call ctx (guest.P3Tcp (p3_tcp_call.RemoteAddress socket))) w = IsP3Word w
MayRefuse (step.Call ctx (guest.P3Tcp (p3_tcp_call.Get socket option))) w = IsP3Word w
MayRefuse (step.Call ctx (guest.P3Tcp (p3_tcp_call.Set socket setting))) w = IsP3Word w
MayRefuse (step.Call ctx (guest.P3Udp (p3_udp_call.Create family))) w = IsP3Word w
MayRefuse (step.Call ctx (guest.P3Udp (p3_udp_call.Bind socket a))) w = IsP3Word w
MayRefuse (step.Call ctx (guest.P3Tcp (p3_tcp_call.Listen socket))) w = IsP3Word w
MayRefuse (step.Call ctx (guest.P3Tcp (p3_tcp_call.Accept listener remaining))) w = w ≡ word.InvalidState
MayRefuse (step.Call ctx (guest.P3Tcp (p3_tcp_call.Result slot))) w = IsP3Word w
MayRefuse (step.Call ctx (guest.P3Udp (p3_udp_call.Connect socket a))) w = IsP3Word w
MayRefuse (step.Call ctx (guest.P3Udp (p3_udp_call.Send socket d))) w = IsP3Word w
MayRefuse (step.Call ctx (guest.P3Udp (p3_udp_call.Receive socket))) w = IsP3Word w
MayRefuse (step.Call ctx (guest.P3Udp (p3_udp_call.Disconnect socket))) w = IsP3Word w
MayRefuse (step.Call ctx (guest.P3Udp (p3_udp_call.LocalAddress socket))) w = IsP3Word w
MayRefuse (step.Call ctx (guest.P3Udp (p3_udp_call.RemoteAddress socket))) w = w ≡ word.InvalidState
MayRefuse (step.Call ctx (guest.P3Udp (p3_udp_call.Get socket option))) w = IsP3Word w
MayRefuse (step.Call ctx (guest.P3Udp (p3_udp_call.Set socket setting))) w = IsP3Word w
MayRefuse (step.Call ctx (guest.P3Names (p3_name_call.Resolve name))) w = (w ≡ word.PermanentResolverFailure) ⊎ ((w ≡ word.InvalidArgument) ⊎ (w ≡ word.NameUnresolvable))
MayRefuse (step.Poll n) w = IsCodeWord w ⊎ (IsP3Word w ⊎ (w ≡ word.NameUnresolvable))
MayRefuse _ w = ⊥

-- == the other replies
-- a call of a stream, which may end, or fail and hand an error out; and a poll, of one that blocks
abbrev pub IsStreamCall : Step → Type 0
IsStreamCall (step.Call ctx (guest.Stream (stream_call.Read input len))) = ⊤
IsStreamCall (step.Call ctx (guest.Stream (stream_call.Skip input len))) = ⊤
IsStreamCall (step.Call ctx (guest.Stream (stream_call.CheckWrite output))) = ⊤
IsStreamCall (step.Call ctx (guest.Stream (stream_call.Write output bytes))) = ⊤
IsStreamCall (step.Call ctx (guest.Stream (stream_call.WriteZeroes output len))) = ⊤
IsStreamCall (step.Call ctx (guest.Stream (stream_call.Flush output))) = ⊤
IsStreamCall (step.Call ctx (guest.Stream (stream_call.Splice to from len))) = ⊤
IsStreamCall (step.Call ctx (guest.Stream (stream_call.BlockingRead input len))) = ⊤
IsStreamCall (step.Call ctx (guest.Stream (stream_call.BlockingSkip input len))) = ⊤
IsStreamCall (step.Call ctx (guest.Stream (stream_call.BlockingWrite output bytes))) = ⊤
IsStreamCall (step.Call ctx (guest.Stream (stream_call.BlockingZeroes output len))) = ⊤
IsStreamCall (step.Call ctx (guest.Stream (stream_call.BlockingFlush output))) = ⊤
IsStreamCall (step.Call ctx (guest.Stream (stream_call.BlockingSplice to from len))) = ⊤
IsStreamCall (step.Poll n) = ⊤
IsStreamCall _ = ⊥

-- a step that names no handle misses none
abbrev pub MayMiss : Step → Type 0
MayMiss (step.Call ctx (guest.Names name_call.Network)) = ⊥
MayMiss (step.Call ctx (guest.Tcp (tcp_call.Create family))) = ⊥
MayMiss (step.Call ctx (guest.Udp (udp_call.Create family))) = ⊥
MayMiss (step.Call ctx (guest.P3Udp (p3_udp_call.Create family))) = ⊥
MayMiss (step.Call ctx (guest.P3Tcp (p3_tcp_call.Create family))) = ⊥
MayMiss (step.Call ctx (guest.P3Names (p3_name_call.Resolve name))) = ⊥
MayMiss (step.Call ctx (guest.Pipe (pipe_call.In bytes))) = ⊥
MayMiss (step.Call ctx (guest.Pipe (pipe_call.Out capacity))) = ⊥
MayMiss (step.Call ctx (guest.Pipe pipe_call.Sink)) = ⊥
MayMiss (step.Call ctx (guest.Pipe pipe_call.ClosedIn)) = ⊥
MayMiss (step.Call ctx (guest.Pipe pipe_call.ClosedOut)) = ⊥
MayMiss step.Turn = ⊥
MayMiss (step.Cancel n) = ⊥
MayMiss _ = ⊤

-- it may be of more bytes than one call may write
abbrev pub IsBlockingWrite : Step → Type 0
IsBlockingWrite (step.Call ctx (guest.Stream (stream_call.BlockingWrite output bytes))) = ⊤
IsBlockingWrite (step.Call ctx (guest.Stream (stream_call.BlockingZeroes output len))) = ⊤
IsBlockingWrite _ = ⊥

abbrev pub MayTrap : Step → TrapKind → Type 0
MayTrap s NoSuchHandle = MayMiss s
MayTrap s HasChildren = TakesOut s
MayTrap s Full = MakesHandle s
MayTrap s NotPermitted = IsWrite s ⊎ IsUdpSend s
MayTrap s StreamsAlive = IsUdpStream s
MayTrap s Capacity = IsWrite s
MayTrap s TooLong = IsBlockingWrite s
MayTrap s EmptyList = IsEmptyWait s
MayTrap s _ = ⊥

-- under which number it may be pending
abbrev pub MayWait : ℕ → Step → ℕ → Type 0
MayWait line (step.Call ctx (guest.Tcp (tcp_call.StartBind socket network a))) n = n ≡ line
MayWait line (step.Call ctx (guest.Tcp (tcp_call.StartListen socket))) n = n ≡ line
MayWait line (step.Call ctx (guest.Udp (udp_call.Create family))) n = n ≡ line
MayWait line (step.Call ctx (guest.P3Tcp (p3_tcp_call.Bind socket a))) n = n ≡ line
MayWait line (step.Call ctx (guest.P3Tcp (p3_tcp_call.Connect socket a))) n = n ≡ line
MayWait line (step.Call ctx (guest.P3Udp (p3_udp_call.Create family))) n = n ≡ line
MayWait line (step.Call ctx (guest.P3Udp (p3_udp_call.Bind socket a))) n = n ≡ line
MayWait line (step.Call ctx (guest.P3Tcp (p3_tcp_call.Listen socket))) n = n ≡ line
MayWait line (step.Call ctx (guest.P3Udp (p3_udp_call.Connect socket a))) n = n ≡ line
MayWait line (step.Call ctx (guest.P3Udp (p3_udp_call.Send socket d))) n = n ≡ line
MayWait line (step.Call ctx (guest.P3Udp (p3_udp_call.Receive socket))) n = n ≡ line
MayWait line (step.Call ctx (guest.P3Names (p3_name_call.Resolve name))) n = n ≡ line
MayWait line (step.Call ctx (guest.Udp (udp_call.StartBind socket network a))) n = n ≡ line
MayWait line (step.Call ctx (guest.Udp (udp_call.Stream socket remote))) n = n ≡ line
MayWait line (step.Call ctx (guest.Pollable (pollable_call.Drop handle))) n = n ≡ line
MayWait line (step.Call ctx (guest.Stream (stream_call.BlockingRead input len))) n = n ≡ line
MayWait line (step.Call ctx (guest.Stream (stream_call.BlockingSkip input len))) n = n ≡ line
MayWait line (step.Call ctx (guest.Stream (stream_call.BlockingWrite output bytes))) n = n ≡ line
MayWait line (step.Call ctx (guest.Stream (stream_call.BlockingZeroes output len))) n = n ≡ line
MayWait line (step.Call ctx (guest.Stream (stream_call.BlockingFlush output))) n = n ≡ line
MayWait line (step.Call ctx (guest.Stream (stream_call.BlockingSplice to from len))) n = n ≡ line
MayWait line (step.Call ctx (guest.Pollable (pollable_call.Block pollable))) n = n ≡ line
MayWait line (step.Call ctx (guest.Pollable (pollable_call.PollList pollables))) n = n ≡ line
MayWait line (step.Poll call) n = n ≡ call
MayWait line _ n = ⊥

-- what the step of this line may reply
abbrev pub may_answer : ℕ → Step → Reply → Type 0
may_answer line s (reply.Ok fields) = AreLike (kinds_of s) fields
may_answer line s (reply.Err w) = MayRefuse s w
may_answer line s reply.Closed = IsStreamCall s
may_answer line s (reply.Failed w handle) = IsStreamCall s × IsCodeWord w
may_answer line s reply.Cancelled = GivesUp s
may_answer line s reply.Dropped = IsEndPoll s
may_answer line s reply.Unfilled = IsResultStep s
may_answer line s (reply.Trap kind) = MayTrap s kind
may_answer line s (reply.Pending n) = MayWait line s n
may_answer line s reply.Busy = (is_guest_call s ≡ true) ⊎ IsPoll s
may_answer line s reply.NoSuchCall = IsPoll s ⊎ IsCancel s

-- these are replies of the first of these steps, one each, from this line on
abbrev pub EachMayAnswer : ℕ → List Step → List Reply → Type 0
EachMayAnswer line steps [] = ⊤
EachMayAnswer line (s ∷ steps) (r ∷ replies) = may_answer line s r × EachMayAnswer (line + 1) steps replies
EachMayAnswer line [] (r ∷ replies) = ⊥
