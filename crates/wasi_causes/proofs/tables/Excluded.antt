-- What the definitions of sends, of receives and of failed calls exclude, and what follows of a create that failed.
use Rattle.wasi_causes.proofs.Words.{Call, List, Machine, Entry, ErrorCode, OpId, Option, StandingCall, Some, [], arith, inl, inr, refl, slice_get, subst, ℕ, ⊤, ◌++◌, ◌∷◌, ◌≡◌}
use Rattle.wasi_world.specs.declared.call.Call.TheVariants as call
use Rattle.wasi_world.specs.declared.datagram.IncomingDatagram.{IncomingDatagram}
use Rattle.wasi_world.specs.declared.datagram.OutgoingDatagram.{OutgoingDatagram}
use Rattle.wasi_udp.specs.Shape.{Socket}
use Rattle.wasi_records.specs.declared.records.Record.TheVariants.{Gone}
use Rattle.udp_records.specs.declared.datagrams.Receiving.TheVariants as receiving
use Rattle.udp_records.specs.declared.udp.UdpRecord.TheVariants as udp
use Rattle.wasi_walks.specs.Waiting.{BindFailed, CallFails, CreateFailed, ListenFailed, UdpBindFailed, UdpConnect3Failed, UdpConnectFailed}
use Rattle.wasi_walks.specs.Answered.{EndsPending}
use Rattle.wasi_causes.specs.DatagramAsks.{AreHandedOut, AreSent, AsksForDatagram, AsksToReceive, AsksToSend, CameInTurn, ChecksDestination, ChecksSender, ChecksWildcard, HandsOutHeld, HandsOutNew, HandsOutNone, ReceiveAsksIfBound, SendAsksIfBound, SendsIt, part_of}
use Rattle.wasi_causes.specs.Failed.{left_failed}
use Rattle.wasi_causes.proofs.GivenBack.{gone_at}

-- an entry that isn't there wasn't answered pending
none_pending : (own : OpId) → EndsPending own [] → ⊥
none_pending own k = by_front k.front k.cut
  where
    by_front : (front : List Entry) → [] ≡ front ++ k.last ∷ [] → ⊥
    by_front [] e = absurd (cc)
    by_front (x ∷ front) e = absurd (cc)

-- a datagram of which nothing is asked isn't counted
no_unsent : (line : ℕ) (socket : Socket) (d : OutgoingDatagram) (background : Option OpId) → AreSent line socket (d ∷ []) 1 [] background → ⊥
no_unsent line socket d background k = elim (k 1 d refl (omega arith)) [ inl sent ↦ sent.told | inr waits ↦ none_pending (part_of line 1) waits.1 ]

-- one that no entry reports isn't handed out
none_reported : (line : ℕ) (socket : Socket) (d : IncomingDatagram) (ds : List IncomingDatagram) → AreHandedOut line socket receiving.Nothing [] ds → ds ≡ d ∷ [] → ⊥
none_reported line socket d _ HandsOutNone e = absurd (cc)
none_reported line socket d _ (HandsOutNew ds none came) e = (subst (CameInTurn line socket [] 1) e came).0.came
none_reported line socket d _ (HandsOutHeld x ds held came) e = absurd (cc)

no_unreceived : (line : ℕ) (socket : Socket) (d : IncomingDatagram) → AreHandedOut line socket receiving.Nothing [] (d ∷ []) → ⊥
no_unreceived line socket d k = none_reported line socket d (d ∷ []) k refl

-- a send asks for no datagram, and a receive sends none
abbrev IsRecv : Call → Type 0
IsRecv (call.Recv sock) = ⊤
IsRecv _ = ⊥

abbrev IsSending : Call → Type 0
IsSending (call.Send sock to bytes) = ⊤
IsSending _ = ⊥

no_receive : (own : OpId) (socket : Socket) (d : OutgoingDatagram) (before : List Entry) (c : Call) → AsksToSend own socket d before c → IsRecv c → ⊥
no_receive own socket d before _ (SendAsksIfBound unknown) is = is
no_receive own socket d before _ (ChecksWildcard local free said) is = is
no_receive own socket d before _ (ChecksDestination to goes out) is = is
no_receive own socket d before _ (SendsIt to goes checked) is = is

no_send : (own : OpId) (socket : Socket) (before : List Entry) (c : Call) → AsksToReceive own socket before c → IsSending c → ⊥
no_send own socket before _ (ReceiveAsksIfBound unknown) is = is
no_send own socket before _ (AsksForDatagram bound) is = is
no_send own socket before _ (ChecksSender bytes a came) is = is

-- of a create that failed nothing is left: its record was given back
abbrev ClosesBy : Machine → StandingCall → Type 0
ClosesBy after (StandingCall.UdpCreate place face) = slice_get after.store.records place ≡ Some Gone
ClosesBy after _ = ⊤

closes : (m : Machine) (es : List Entry) (pending : StandingCall) (c : ErrorCode) → (why : CallFails m es pending c) → ClosesBy (left_failed m why) pending
closes m es _ _ (CreateFailed place face create c at why) = gone_at m.store.records place (udp.Creating create) at
closes m es _ _ (UdpConnectFailed place handle o op c at is why) = tt
closes m es _ _ (UdpConnect3Failed place o op c at is why) = tt
closes m es _ _ (UdpBindFailed place face o op c at is why) = tt
closes m es _ _ (BindFailed place face r op c at is why) = tt
closes m es _ _ (ListenFailed place handle r op c at is why) = tt
