-- How the steps of datagram streams are answered: where each answer comes from, and what is left afterwards.
use Rattle.wasi_causes.specs.Blocking.{HasItsStreams, IsShort}
use Rattle.std.specs.Prelude.{◌≡◌, ◌⊎◌, ⊤, ℕ, ◌+◌, true, false, List, [], Option, Some, None, IsSomeAnd, IfSome}
use Rattle.wasi_world.specs.declared.call.Entry.{Entry}
use Rattle.udp_records.specs.declared.datagrams.Incoming.{Incoming}
use Rattle.udp_records.specs.declared.datagrams.Outgoing.{Outgoing}
use Rattle.host_store.specs.declared.kind.Kind.TheVariants as kind
use Rattle.host_store.specs.declared.kind.Watched.{Watched}
use Rattle.host_store.specs.declared.kind.Watched.TheVariants as watched
use Rattle.host_store.specs.declared.machine.Machine.{Machine}
use Rattle.host_store.specs.declared.store.StandingCall.{StandingCall}
use Rattle.host_store.specs.declared.store.StandingCall.TheVariants as standing
use Rattle.udp_records.specs.declared.udp.OpenUdp.{OpenUdp}
use Rattle.host_udp.specs.DatagramCalls.{without_receives}
use Rattle.udp_records.specs.Datagrams.{has_streams, permit_of, permitted, sends}
use Rattle.host_store.specs.Kinds.{HandleTable, kind_at, watch_of, with_handle, without_handle}
use Rattle.host_store.specs.Machine.{tcp3_at, udp_socket_at}
use Rattle.udp_records.specs.Receiving.{receives}
use Rattle.wasi_records.specs.Records.{open_at}
use Rattle.host_store.specs.Standing.{standing_as}
use Rattle.host_store.specs.Store.{with_open_udp}
use Rattle.wasi_machine.specs.Machine.{first_ids}
use Rattle.wasi_steps.specs.declared.reply.Field.{Field}
use Rattle.wasi_steps.specs.declared.step.Step.{Step}
use Rattle.wasi_steps.specs.declared.guest_call.GuestCall.TheVariants as guest
use Rattle.wasi_steps.specs.declared.guest_call.UdpCall.TheVariants as udp_call
use Rattle.wasi_steps.specs.declared.step.Step.TheVariants as step
use Rattle.wasi_steps.specs.Reply.{number_fields, pair_fields}
use Rattle.wasi_table.specs.Table.{is_full}
use Rattle.wasi_walks.specs.Answered.{open_in, outgoing_in}

-- == the steps
abbrev pub IsUdpSend : Step → Type 0
IsUdpSend (step.Call ctx (guest.Udp (udp_call.Send outgoing datagrams))) = ⊤
IsUdpSend _ = ⊥

abbrev pub IsUdpStream : Step → Type 0
IsUdpStream (step.Call ctx (guest.Udp (udp_call.Stream socket remote))) = ⊤
IsUdpStream _ = ⊥

-- == the streams that handles name
-- The number names a UDP socket that is made and not closed, at this place, with this incoming stream, and of all this holds.
pub record OfIncoming (m : Machine) (number : Option ℕ) (P : ℕ → OpenUdp → Incoming → Type 0) : Type 0 where
  pub place : ℕ
  pub found : OpenUdp
  pub stream : Incoming
  pub names : number ≡ Some place
  pub at : open_at m.store.records place ≡ Some found
  pub has : found.incoming ≡ Some stream
  pub holds : P place found stream

-- The same of an outgoing stream.
pub record OfOutgoing (m : Machine) (number : Option ℕ) (P : ℕ → OpenUdp → Outgoing → Type 0) : Type 0 where
  pub place : ℕ
  pub found : OpenUdp
  pub stream : Outgoing
  pub names : number ≡ Some place
  pub at : open_at m.store.records place ≡ Some found
  pub has : found.outgoing ≡ Some stream
  pub holds : P place found stream

-- it is a socket of which a stream is live
abbrev pub HasUdpStreams : Option OpenUdp → Type 0
HasUdpStreams found = IsSomeAnd found (λ o. has_streams o ≡ true)

-- nothing is permitted to be sent on the stream of this handle
abbrev pub IsSpent : Machine → ℕ → Type 0
IsSpent m handle = IsSomeAnd (outgoing_in m handle) (λ out. out.permit ≡ 0)

-- == the two handles that are made
-- the incoming stream's comes first; both are under the socket's
abbrev pub with_incoming : HandleTable → ℕ → ℕ → HandleTable
with_incoming t place handle = with_handle t (kind.Incoming place) (Some handle)

abbrev pub with_both : HandleTable → ℕ → ℕ → HandleTable
with_both t place handle = with_handle (with_incoming t place handle) (kind.Outgoing place) (Some handle)

-- there is no room for the first of them, or none for the second
abbrev pub LacksRoomForBoth : HandleTable → ℕ → ℕ → Type 0
LacksRoomForBoth t place handle = (is_full t ≡ true) ⊎ (is_full (with_incoming t place handle) ≡ true)

-- what is pending is a call that makes datagram streams, and there is no room for their handles
abbrev pub LacksRoomForStreams : Machine → StandingCall → Type 0
LacksRoomForStreams m (standing.UdpConnect place handle) = IsSomeAnd (udp_socket_at m handle) (λ its. LacksRoomForBoth m.table its handle)
LacksRoomForStreams m _ = ⊥

-- where datagram streams, or a listen of 0.3, are pending, the handle that they were asked of is that of their socket; and where a call that blocks is, what
-- it is on is there, and what isn't written yet is no more than one call may write
abbrev pub HasItsHandle : Machine → StandingCall → Type 0
HasItsHandle m (standing.UdpConnect place handle) = udp_socket_at m handle ≡ Some place
HasItsHandle m (standing.Listen place (Some handle)) = tcp3_at m handle ≡ Some place
HasItsHandle m (standing.Blocking call) = HasItsStreams m call × IsShort call
HasItsHandle m _ = ⊤

-- of datagram streams alone
abbrev pub HasItsSocket : Machine → StandingCall → Type 0
HasItsSocket m (standing.UdpConnect place handle) = udp_socket_at m handle ≡ Some place
HasItsSocket m _ = ⊤

abbrev pub PendingHandleIsLive : Machine → Type 0
PendingHandleIsLive m = IfSome m.store.standing (λ s. HasItsHandle m s.call)

-- where they are done, these are the two handles
abbrev pub MadeBoth : Machine → ℕ → List Field → Machine → Type 0
MadeBoth m handle fields after = (fields ≡ pair_fields m.table.next (m.table.next + 1)) × IsSomeAnd (udp_socket_at m handle) (λ its. after.table ≡ with_both m.table its handle)

-- == pollables
-- it is a datagram stream that is watched
abbrev pub IsOfDatagrams : Option Watched → Type 0
IsOfDatagrams (Some (watched.Incoming place)) = ⊤
IsOfDatagrams (Some (watched.Outgoing place)) = ⊤
IsOfDatagrams _ = ⊥

abbrev pub WatchesDatagrams : Machine → ℕ → Type 0
WatchesDatagrams m pollable = IsOfDatagrams (watch_of (kind_at m.table pollable))

abbrev pub WatchesOutgoing : Machine → ℕ → ℕ → Type 0
WatchesOutgoing m pollable place = watch_of (kind_at m.table pollable) ≡ Some (watched.Outgoing place)

abbrev pub WatchesIncoming : Machine → ℕ → ℕ → Type 0
WatchesIncoming m pollable place = watch_of (kind_at m.table pollable) ≡ Some (watched.Incoming place)

-- a receive is in progress on the incoming stream
abbrev pub IsReceiving : Option OpenUdp → Type 0
IsReceiving found = IsSomeAnd found (λ o. receives o.incoming ≡ true)

-- == drops
-- a datagram of the outgoing stream isn't sent yet; nothing is asked
abbrev pub OutgoingWaits : Machine → Option ℕ → List Entry → Type 0
OutgoingWaits m number entries = IsSomeAnd (open_in m number) (λ o. (sends o.outgoing ≡ true) × (entries ≡ []))

-- An incoming stream goes at once, and gives its receive up; nothing is asked.
pub record IncomingGone (m : Machine) (handle place : ℕ) (o : OpenUdp) (entries : List Entry) (after : Machine) : Type 0 where
  pub quiet : entries ≡ []
  pub left : after ≡ record m { table = without_handle m.table handle; store = without_receives place (with_open_udp m.store place (record o { incoming = None })) }

-- An outgoing stream goes where each of its datagrams is sent; nothing is asked.
pub record OutgoingGone (m : Machine) (handle place : ℕ) (o : OpenUdp) (entries : List Entry) (after : Machine) : Type 0 where
  pub sent : sends o.outgoing ≡ false
  pub quiet : entries ≡ []
  pub left : after ≡ record m { table = without_handle m.table handle; store = with_open_udp m.store place (record o { outgoing = None }) }

-- == the calls
-- So many datagrams may be sent, by what the stream sends; that is the permit from then on.
pub record PermitsSend (m : Machine) (place : ℕ) (o : OpenUdp) (out : Outgoing) (fields : List Field) (after : Machine) : Type 0 where
  pub gives : fields ≡ number_fields (permit_of out.sending)
  pub left : after ≡ record m { store = with_open_udp m.store place (record o { outgoing = Some (permitted out) }) }

-- the connect is pending, under its line's number and for its socket's handle
abbrev pub StandsAsStreams : ℕ → ℕ → ℕ → Machine → Type 0
StandsAsStreams line handle place after = after.store.standing ≡ Some (standing_as (first_ids line) (standing.UdpConnect place handle))
