-- Which datagrams an incoming stream received: a function along the log. And which of them the replies of a run handed out on its
-- handle: a function along the steps and the replies.
use Rattle.std.specs.Prelude.{◌≡◌, ⊤, ℕ, ◌==◌, false, ◌&&◌, if◌then◌else◌, List, [], ◌∷◌, ◌++◌, flat_map, Option, Some, None, IfSome}
use Rattle.wasi_addr.specs.declared.address.IpSocketAddress.{IpSocketAddress}
use Rattle.wasi_addr.specs.declared.address.SocketAddrUse.TheVariants.{UdpReceive}
use Rattle.wasi_addr.specs.Address.{same_address}
use Rattle.wasi_world.specs.declared.asks.Verdict.{Verdict}
use Rattle.wasi_world.specs.declared.asks.Verdict.TheVariants.{Yes, Pending}
use Rattle.wasi_world.specs.declared.call.Call.{Call}
use Rattle.wasi_world.specs.declared.call.Call.TheVariants.{Check, Made, Recv}
use Rattle.wasi_world.specs.declared.call.Entry.{Entry}
use Rattle.wasi_world.specs.declared.call.HandleKind.TheVariants.{Incoming}
use Rattle.wasi_world.specs.declared.call.Told.{Told}
use Rattle.wasi_world.specs.declared.call.Told.TheVariants as told
use Rattle.wasi_world.specs.declared.datagram.IncomingDatagram.{IncomingDatagram}
use Rattle.wasi_world.specs.declared.ids.OpId.{OpId}
use Rattle.wasi_world.specs.Operation.{is_wanted}
use Rattle.wasi_world.specs.Sides.{is_same}
use Rattle.wasi_world.specs.Typed.{told_verdict}
use Rattle.udp_records.specs.Receiving.{is_receiving}
use Rattle.udp_records.specs.declared.datagrams.Incoming.{Incoming as IncomingStream}
use Rattle.udp_records.specs.declared.datagrams.Receiving.{Receiving}
use Rattle.udp_records.specs.declared.datagrams.Receiving.TheVariants.{Came}
use Rattle.wasi_steps.specs.declared.reply.Field.{Field}
use Rattle.wasi_steps.specs.declared.reply.Reply.{Reply}
use Rattle.wasi_steps.specs.declared.reply.Reply.TheVariants as reply
use Rattle.wasi_steps.specs.declared.step.Step.{Step}
use Rattle.wasi_steps.specs.declared.guest_call.GuestCall.TheVariants as guest
use Rattle.wasi_steps.specs.declared.guest_call.UdpCall.TheVariants as udp_call
use Rattle.wasi_steps.specs.declared.step.Step.TheVariants as step
use Rattle.wasi_steps.specs.Reply.{received_values}
use Rattle.wasi_walks.specs.Allowed.{Has, entry}
use Rattle.wasi_addr.specs.declared.address.SocketAddressFamily.{SocketAddressFamily}
use Rattle.wasi_walks.specs.Licence.{IsRemote}
use Rattle.wasi_walks.specs.Remotes.{HasRemote}

-- == in hand
-- A datagram that the network socket was told, by this operation, and about whose sender the check hasn't answered yet.
pub record InHand : Type 0 where
  pub op : OpId
  pub datagram : IncomingDatagram

-- the network socket was told a datagram
abbrev pub told_by : OpId → OpId → Call → Told → Option InHand
told_by side op (Recv sock) (told.Datagram bytes a) = if is_same side sock then Some (record { op = op; datagram = record { bytes = bytes; remote_address = a } }) else None
told_by side op _ _ = None

-- what the check answers the same operation about its sender
abbrev pub verdict_on : InHand → OpId → Call → Told → Verdict
verdict_on d op (Check ctx a UdpReceive) answer = if is_same d.op op && same_address d.datagram.remote_address a then told_verdict answer else Pending
verdict_on d op _ _ = Pending

-- a yes or a no ends it
abbrev pub unless_answered : InHand → Verdict → Option InHand
unless_answered d Pending = Some d
unless_answered d _ = None

abbrev pub still_in_hand : Option InHand → Entry → Option InHand
still_in_hand None e = None
still_in_hand (Some d) e = unless_answered d (verdict_on d e.op e.call e.answer)

abbrev pub in_hand_or : Option InHand → Option InHand → Option InHand
in_hand_or (Some d) was = Some d
in_hand_or None was = was

-- what is in hand after an entry, and after more of them
abbrev pub then_in_hand : OpId → Option InHand → Entry → Option InHand
then_in_hand side hand e = in_hand_or (told_by side e.op e.call e.answer) (still_in_hand hand e)

abbrev pub left_in_hand : OpId → Option InHand → List Entry → Option InHand
left_in_hand side hand [] = hand
left_in_hand side hand (e ∷ es) = left_in_hand side (then_in_hand side hand e) es

-- none of these entries tells a datagram while another one is in hand
abbrev pub NoneIsReplaced : OpId → Option InHand → List Entry → Type 0
NoneIsReplaced side hand [] = ⊤
NoneIsReplaced side hand (e ∷ es) = IfSome (told_by side e.op e.call e.answer) (λ d. hand ≡ None) × NoneIsReplaced side (then_in_hand side hand e) es

-- == received
-- a yes about the sender: the datagram is received where it is from the address that the stream keeps, and else it is dropped
abbrev pub received_if : Option IpSocketAddress → IncomingDatagram → Verdict → List IncomingDatagram
received_if kept d Yes = if is_wanted kept d.remote_address then d ∷ [] else []
received_if kept d _ = []

abbrev pub received_at : Option IpSocketAddress → Option InHand → Entry → List IncomingDatagram
received_at kept None e = []
received_at kept (Some d) e = received_if kept d.datagram (verdict_on d e.op e.call e.answer)

-- THE RULE: what a stream of this network socket receives that keeps this address, along the entries, with this in hand before them
abbrev pub received : OpId → Option IpSocketAddress → Option InHand → List Entry → List IncomingDatagram
received side kept hand [] = []
received side kept hand (e ∷ es) = received_at kept hand e ++ received side kept (then_in_hand side hand e) es

-- since a place of the log, where nothing was in hand
abbrev pub received_since : OpId → Option IpSocketAddress → List Entry → List IncomingDatagram
received_since side kept entries = received side kept None entries

-- == by which operations
-- the operation whose datagram is received here
abbrev pub served_if : Option IpSocketAddress → InHand → Verdict → List OpId
served_if kept d Yes = if is_wanted kept d.datagram.remote_address then d.op ∷ [] else []
served_if kept d _ = []

abbrev pub served_at : Option IpSocketAddress → Option InHand → Entry → List OpId
served_at kept None e = []
served_at kept (Some d) e = served_if kept d (verdict_on d e.op e.call e.answer)

-- one for each datagram that is received along the entries, in order
abbrev pub served : OpId → Option IpSocketAddress → Option InHand → List Entry → List OpId
served side kept hand [] = []
served side kept hand (e ∷ es) = served_at kept hand e ++ served side kept (then_in_hand side hand e) es

-- the operation asks the network socket for no datagram in these entries
abbrev pub AsksNoMore : OpId → List Entry → OpId → Type 0
AsksNoMore side [] op = ⊤
AsksNoMore side (e ∷ es) op = (e.op ≡ op → e.call ≡ Recv side → ⊥) × AsksNoMore side es op

-- What was told last is what is received: while a datagram is in hand the network socket is asked for no other one, and
-- the operation that it was received by never asks again.
abbrev pub EachByItsOwn : OpId → Option IpSocketAddress → Option InHand → List Entry → Type 0
EachByItsOwn side kept hand [] = ⊤
EachByItsOwn side kept hand (e ∷ es) =
    (e.call ≡ Recv side → hand ≡ None) × ((op : OpId) → Has (served_at kept hand e) op → AsksNoMore side es op)
    × EachByItsOwn side kept (then_in_hand side hand e) es

-- none of them is there twice
abbrev pub AreApart : List OpId → Type 0
AreApart [] = ⊤
AreApart (op ∷ ops) = (Has ops op → ⊥) × AreApart ops

-- == handed out
-- the fields of the datagrams, without the number of them
abbrev pub without_count : List Field → List Field
without_count [] = []
without_count (count ∷ fields) = fields

-- what the reply to a step hands out on the stream of a handle
abbrev pub handed_by : ℕ → Step → Reply → List Field
handed_by handle (step.Call ctx (guest.Udp (udp_call.Receive incoming most))) (reply.Ok fields) = if handle == incoming then without_count fields else []
handed_by handle _ _ = []

-- what all of the replies do, each to the step of its line
abbrev pub handed_out : ℕ → List Step → List Reply → List Field
handed_out handle (s ∷ steps) (r ∷ replies) = handed_by handle s r ++ handed_out handle steps replies
handed_out handle _ _ = []

-- the replies handed out these datagrams
abbrev pub HandedOut : ℕ → List Step → List Reply → List IncomingDatagram → Type 0
HandedOut handle steps replies datagrams = handed_out handle steps replies ≡ flat_map received_values datagrams

-- These datagrams are the first that a stream received along a front of the entries, each by an operation of its own.
pub record FrontByItsOwn (side : OpId) (kept : Option IpSocketAddress) (entries : List Entry)
    (datagrams : List IncomingDatagram) : Type 0 where
  pub during : List Entry
  pub after : List Entry
  pub cut : entries ≡ during ++ after
  pub more : List IncomingDatagram
  pub gave : received_since side kept during ≡ datagrams ++ more
  pub each : EachByItsOwn side kept None during

-- == a stream
-- the one that has come, and waits to be taken
abbrev pub waiting : Receiving → List IncomingDatagram
waiting (Came d) = d ∷ []
waiting _ = []

-- The handle was marked as that of an incoming stream of this network socket, and these entries are later.
pub record MarkedBefore (log : List Entry) (handle : ℕ) (side : OpId) (later : List Entry) : Type 0 where
  pub front : List Entry
  pub op : OpId
  pub parent : Option ℕ
  pub told : Told
  pub cut : log ≡ front ++ entry op (Made handle Incoming parent (Some side)) told ∷ later

-- the address that is kept was the network socket's remote address there
abbrev pub KeptThere : List Entry → OpId → Option IpSocketAddress → Type 0
KeptThere front side kept = IfSome kept (λ a. IsRemote front side a)

-- What the stream of the handle, which is of this network socket, received since its handle was marked is what the replies handed out on
-- it, and then what waits. Each datagram that was told was in hand until its sender was answered for, and none is while no receive is in
-- progress. Each is what the last `recv` of its operation reported, and no two are of one operation.
pub record HasAllReceived (log : List Entry) (steps : List Step) (replies : List Reply) (handle : ℕ) (side : OpId) (stream : IncomingStream) : Type 0 where
  pub later : List Entry
  pub marked : MarkedBefore log handle side later
  pub kept : KeptThere marked.front side stream.remote
  pub handed : List IncomingDatagram
  pub gives : HandedOut handle steps replies handed
  pub all : received_since side stream.remote later ≡ handed ++ waiting stream.receiving
  pub one : NoneIsReplaced side None later
  pub each : EachByItsOwn side stream.remote None later
  pub apart : AreApart (served side stream.remote None later)
  pub over : is_receiving stream.receiving ≡ false → left_in_hand side None later ≡ None

-- What the replies handed out on the handle is a front of what a stream of its network socket received since its handle was marked,
-- which kept the remote address of then, or none: of what it received while it was live, each by an operation of its own.
pub record HandsOutFront (log : List Entry) (steps : List Step) (replies : List Reply) (handle : ℕ) : Type 0 where
  pub side : OpId
  pub remote : Option IpSocketAddress
  pub later : List Entry
  pub marked : MarkedBefore log handle side later
  pub kept : KeptThere marked.front side remote
  pub handed : List IncomingDatagram
  pub gives : HandedOut handle steps replies handed
  pub more : List IncomingDatagram
  pub front_of : received_since side remote later ≡ handed ++ more
  pub while_live : FrontByItsOwn side remote later handed

-- == which address it keeps
-- the network socket's remote address: what was reported last since its create, of its family
abbrev pub LastRemote : List Entry → OpId → Option IpSocketAddress → Type 0
LastRemote log side remote = (family : SocketAddressFamily) × HasRemote log side family remote

-- The stream of the handle keeps the remote address that its network socket had where the handle was marked.
pub record KeepsLastRemote (log : List Entry) (handle : ℕ) (side : OpId) (kept : Option IpSocketAddress) : Type 0 where
  pub later : List Entry
  pub marked : MarkedBefore log handle side later
  pub last : LastRemote marked.front side kept
