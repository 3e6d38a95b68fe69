-- The definitions on logs of datagrams that are not licensed.
use Rattle.wasi_walks.proofs.Words.{Call, Entry, Has, IsLicensed, List, OpId, Reply, SocketAddrUse, SocketAddressFamily, Some, None, GuestCall, Step, Told}
use Rattle.wasi_walks.proofs.Words.{[], ap, entry, inl, length, length-append, no_fields, number_fields, own_of, refl, subst, sym, ⊤, ◌++◌, ◌∙◌, ◌∷◌, ◌≡◌, ◌≤◌, ℕ}
use Rattle.std.proofs.Common.{arith}
use Rattle.wasi_world.specs.declared.call.HandleKind.TheVariants as kind
use Rattle.wasi_world.specs.declared.datagram.IncomingDatagram.{IncomingDatagram}
use Rattle.wasi_world.specs.declared.datagram.OutgoingDatagram.{OutgoingDatagram}
use Rattle.wasi_steps.specs.Reply.{datagram_values, pair_fields}
use Rattle.wasi_walks.specs.Licence.{HandsOut, SendsItem}
use Rattle.wasi_walks.specs.Received.{InOrder, IsAllowed, NoMore, OneMore}
use Rattle.wasi_walks.proofs.Lists.{has_back}
use Rattle.wasi_walks.proofs.licence.Rows.{allowed, local_80}
use Rattle.wasi_walks.proofs.licence.Refused.{Each, NotYes, of_each, at_line, local_81}
use Rattle.wasi_walks.proofs.licence.UdpRows.{udp_log}
use Rattle.wasi_steps.specs.declared.guest_call.UdpCall.{UdpCall}
use Rattle.wasi_steps.specs.declared.guest_call.NameCall.{NameCall}

-- a datagram of one byte
abbrev sent : OutgoingDatagram
sent = record { bytes = 1 ∷ []; remote_address = Some local_81 }

-- a socket is made, bound, gets its streams, sends a datagram and receives
abbrev datagram_script : List Step
datagram_script = Step.Call 0 (GuestCall.Names NameCall.Network) ∷ Step.Call 0 (GuestCall.Udp (UdpCall.Create SocketAddressFamily.Ipv4)) ∷ Step.Call 0 (GuestCall.Udp (UdpCall.StartBind 2 1 local_80)) ∷ Step.Call 0 (GuestCall.Udp (UdpCall.FinishBind 2)) ∷ Step.Call 0 (GuestCall.Udp (UdpCall.Stream 2 None)) ∷ Step.Call 0 (GuestCall.Udp (UdpCall.Send 4 (sent ∷ []))) ∷ Step.Call 0 (GuestCall.Udp (UdpCall.Receive 3 1)) ∷ []

-- the first datagram of the sixth line
abbrev first : OpId
first = record { step = 6; part = 1 }

-- until it has its streams
abbrev streams : List Entry
streams = udp_log ++ (entry (own_of 5) (Call.Local (own_of 2)) (Told.Addr local_80) ∷ entry (own_of 5) (Call.Made 3 kind.Incoming (Some 2) (Some (own_of 2))) Told.Done ∷ entry (own_of 5) (Call.Made 4 kind.Outgoing (Some 2) (Some (own_of 2))) Told.Done ∷ [])

-- == the check of a datagram's address was answered no
abbrev told_no : List Entry
told_no = streams ++ entry first (Call.Check 0 local_81 SocketAddrUse.UdpSend) Told.No ∷ []

-- the use of a check, and whether it is for sending
abbrev NoSendYes : Call → Told → Type 0
NoSendYes (Call.Check ctx addr SocketAddrUse.UdpSend) told = NotYes told
NoSendYes _ told = ⊤

abbrev sends : List ℕ → Entry
sends bytes = entry first (Call.Send (own_of 2) local_81 bytes) Told.Done

refused_send : IsLicensed allowed datagram_script (told_no ++ sends (1 ∷ []) ∷ []) [] → ⊥
refused_send h =
    let may = h.each told_no (sends (1 ∷ [])) [] refl in
    of_each (λ e. NoSendYes e.call e.answer) told_no _ (tt, (tt, (tt, (tt, (tt, (tt, (tt, (tt, (tt, (tt, (tt, tt))))))))))) may.2.checked

-- == other bytes are sent than the line's
abbrev told_yes : List Entry
told_yes = streams ++ entry first (Call.Check 0 local_81 SocketAddrUse.UdpSend) Told.Yes ∷ []

abbrev first_byte : List ℕ → ℕ
first_byte [] = 0
first_byte (x ∷ xs) = x

other_bytes : IsLicensed allowed datagram_script (told_yes ++ sends (2 ∷ []) ∷ []) [] → ⊥
other_bytes h =
    let may = h.each told_yes (sends (2 ∷ [])) [] refl in
    let its = at_line (SendsItem told_yes first (own_of 2) local_81 (2 ∷ [])) (Step.Call 0 (GuestCall.Udp (UdpCall.Send 4 (sent ∷ [])))) may.1.origin may.1.at may.1.holds in
    let one : List ℕ = 1 ∷ [] in
    let two : List ℕ = 2 ∷ [] in
    let bytes : one ≡ two = ap (λ (d : OutgoingDatagram). d.bytes) its.item ∙ its.bytes_are in
    let byte = ap first_byte bytes in
    omega arith

-- == a datagram is handed out that was never received
abbrev came : IncomingDatagram
came = record { bytes = 1 ∷ []; remote_address = local_81 }

abbrev NoRecv : Call → Type 0
NoRecv (Call.Recv side) = ⊥
NoRecv _ = ⊤

-- none is allowed here
none_allowed : (side : OpId) (from upto : ℕ) (d : IncomingDatagram) → IsAllowed streams side from upto d → ⊥
none_allowed side from upto d a = of_each (λ e. NoRecv e.call) streams _ (tt, (tt, (tt, (tt, (tt, (tt, (tt, (tt, (tt, (tt, tt)))))))))) (subst (λ (es : List Entry). Has es (entry a.op (Call.Recv side) (Told.Datagram d.bytes d.remote_address))) (sym a.cut) (has_back a.front _ _ (inl refl)))

unreceived : (side : OpId) (upto : ℕ) (ds : List IncomingDatagram) → datagram_values (came ∷ []) ≡ datagram_values ds → InOrder streams side 0 ds upto → ⊥
unreceived side upto [] e k = absurd (cc)
unreceived side _ _ e (OneMore from mid upto d ds a rest) = none_allowed side from mid d a

abbrev replies : List Reply
replies = Reply.Ok (number_fields 1) ∷ Reply.Ok (number_fields 2) ∷ Reply.Ok no_fields ∷ Reply.Ok no_fields ∷ Reply.Ok (pair_fields 3 4) ∷ Reply.Ok (number_fields 1) ∷ Reply.Ok (datagram_values (came ∷ [])) ∷ []

handed_unreceived : IsLicensed allowed datagram_script streams replies → ⊥
handed_unreceived h =
    let hands : HandsOut streams 3 (datagram_values (came ∷ [])) = h.replied.1.1.1.1.1.1.0 in
    unreceived hands.side hands.upto hands.datagrams hands.values hands.order

-- == a datagram that came once is handed out twice
-- it came, and its sender was allowed
abbrev asks : OpId
asks = record { step = 7; part = 1 }

abbrev once : List Entry
once = streams ++ (entry asks (Call.Recv (own_of 2)) (Told.Datagram (1 ∷ []) local_81) ∷ entry asks (Call.Check 0 local_81 SocketAddrUse.UdpReceive) Told.Yes ∷ [])

-- what is received comes after those that receive nothing
after : (xs ys front back : List Entry) (x : Entry) → Each (λ e. NoRecv e.call) xs → (NoRecv x.call → ⊥) → xs ++ ys ≡ front ++ x ∷ back → length xs ≤ length front
after [] ys front back x n k e = omega arith
after (y ∷ xs) ys [] back x n k e = let p : y ≡ x = cc in absurd (k (subst (λ (z : Entry). NoRecv z.call) p n.0))
after (y ∷ xs) ys (z ∷ front) back x n k e = let r = after xs ys front back x n.1 k (cc) in omega arith

-- so there is no room for two
one_place : (side : OpId) (from mid later upto : ℕ) (d x : IncomingDatagram) → mid ≤ later → IsAllowed once side from mid d → IsAllowed once side later upto x → ⊥
one_place side from mid later upto d x l a b =
    let first = after streams _ a.front _ _ (tt, (tt, (tt, (tt, (tt, (tt, (tt, (tt, (tt, (tt, tt)))))))))) (λ n. n) a.cut in
    let whole = ap length b.cut in
    omega (arith, a.past, b.late, length-append b.front (entry b.op (Call.Recv side) (Told.Datagram x.bytes x.remote_address) ∷ (b.between ++ entry b.op (Call.Check b.ctx x.remote_address SocketAddrUse.UdpReceive) Told.Yes ∷ b.back)))

twice : (side : OpId) (upto : ℕ) (ds : List IncomingDatagram) → datagram_values (came ∷ came ∷ []) ≡ datagram_values ds → InOrder once side 0 ds upto → ⊥
twice side upto [] e k = absurd (cc)
twice side _ _ e (OneMore from mid upto d _ a (OneMore next later last x ds b rest)) = one_place side from mid next later d x (omega arith) a b
twice side _ _ e (OneMore from mid upto d _ a (NoMore last)) = absurd (cc)

abbrev two_replies : List Reply
two_replies = Reply.Ok (number_fields 1) ∷ Reply.Ok (number_fields 2) ∷ Reply.Ok no_fields ∷ Reply.Ok no_fields ∷ Reply.Ok (pair_fields 3 4) ∷ Reply.Ok (number_fields 1) ∷ Reply.Ok (datagram_values (came ∷ came ∷ [])) ∷ []

handed_twice : IsLicensed allowed datagram_script once two_replies → ⊥
handed_twice h =
    let hands : HandsOut once 3 (datagram_values (came ∷ came ∷ [])) = h.replied.1.1.1.1.1.1.0 in
    twice hands.side hands.upto hands.datagrams hands.values hands.order
