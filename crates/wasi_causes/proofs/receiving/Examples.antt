-- A small log: of five datagrams the first is refused, the second comes from elsewhere, the third is checked twice, and the last waits
-- for its check. So two are received.
use Rattle.wasi_causes.proofs.Words.{Call, Entry, List, None, OpId, Some, Told, [], ap, arith, entry, inl, inr, length, refl, sym, ℕ, ◌≡◌, ◌∙◌, ◌∷◌, ◌++◌}
use Rattle.wasi_addr.specs.declared.address.IpSocketAddress.{IpSocketAddress}
use Rattle.wasi_addr.specs.declared.address.IpSocketAddress.TheVariants.{Ipv4}
use Rattle.wasi_addr.specs.declared.address.SocketAddrUse.TheVariants.{UdpReceive}
use Rattle.wasi_world.specs.declared.datagram.IncomingDatagram.{IncomingDatagram}
use Rattle.wasi_walks.specs.Allowed.{Has}
use Rattle.wasi_steps.specs.declared.reply.Field.{Field}
use Rattle.wasi_steps.specs.Reply.{datagram_values, received_values}
use Rattle.wasi_steps.specs.declared.reply.Reply.{Reply}
use Rattle.wasi_steps.specs.declared.guest_call.GuestCall.{GuestCall}
use Rattle.wasi_steps.specs.declared.guest_call.UdpCall.{UdpCall}
use Rattle.wasi_steps.specs.declared.step.Step.{Step}
use Rattle.std.specs.Prelude.{flat_map}
use Rattle.wasi_causes.specs.ReceivedApart.{NoneInBoth}
use Rattle.wasi_causes.specs.ReceivedList.{AreApart, AsksNoMore, EachByItsOwn, HandedOut, NoneIsReplaced, handed_out, left_in_hand, received_since, served}

abbrev at_port : ℕ → IpSocketAddress
at_port port = Ipv4 (record { port = port; address = (192, 0, 2, 1) })

abbrev of_line : ℕ → OpId
of_line step = record { step = step; part = 1 }

-- the network socket, and another one
abbrev ours : OpId
ours = record { step = 1; part = 0 }

abbrev theirs : OpId
theirs = record { step = 2; part = 0 }

abbrev told : OpId → OpId → ℕ → ℕ → Entry
told side op byte port = entry op (Call.Recv side) (Told.Datagram (byte ∷ []) (at_port port))

abbrev checked : OpId → ℕ → Told → Entry
checked op port answer = entry op (Call.Check 0 (at_port port) UdpReceive) answer

abbrev datagram : ℕ → ℕ → IncomingDatagram
datagram byte port = record { bytes = byte ∷ []; remote_address = at_port port }

-- a no, and a yes about one from another port than the stream keeps
abbrev refused : List Entry
refused = told ours (of_line 4) 1 70 ∷ checked (of_line 4) 70 Told.No ∷ told ours (of_line 4) 2 90 ∷ checked (of_line 4) 90 Told.Yes ∷ []

-- a check that is pending first, while another network socket receives from the same sender
abbrev pending : List Entry
pending = told ours (of_line 4) 3 70 ∷ checked (of_line 4) 70 Told.Pending ∷ told theirs (of_line 5) 9 70 ∷ checked (of_line 5) 70 Told.Yes ∷ checked (of_line 4) 70 Told.Yes ∷ []

abbrev log : List Entry
log = refused ++ pending ++ told ours (of_line 6) 4 70 ∷ checked (of_line 6) 70 Told.Yes ∷ told ours (of_line 7) 5 70 ∷ []

-- a stream that keeps the address received two of them
abbrev both : List IncomingDatagram
both = datagram 3 70 ∷ datagram 4 70 ∷ []

pub two_are_received : received_since ours (Some (at_port 70)) log ≡ both
two_are_received = refl

-- one that keeps none also what came from elsewhere
pub three_are_received : received_since ours None log ≡ datagram 2 90 ∷ both
three_are_received = refl

-- the last one is in hand, and none was replaced
pub one_is_in_hand : left_in_hand ours None log ≡ Some (record { op = of_line 7; datagram = datagram 5 70 })
one_is_in_hand = refl

pub none_is_replaced : NoneIsReplaced ours None log
none_is_replaced = (refl, (tt, (refl, (tt, (refl, (tt, (tt, (tt, (tt, (refl, (tt, (refl, tt))))))))))))

-- the other network socket received its own
pub theirs_are_theirs : received_since theirs None log ≡ datagram 9 70 ∷ []
theirs_are_theirs = refl

-- == wrong lists
-- one is left out, one is handed out twice, they are in the other order
pub not_one_less : received_since ours (Some (at_port 70)) log ≡ datagram 4 70 ∷ [] → ⊥
not_one_less e = absurd (cc)

pub not_twice : received_since ours (Some (at_port 70)) log ≡ datagram 3 70 ∷ both → ⊥
not_twice e = absurd (cc)

abbrev first_bytes : List IncomingDatagram → List ℕ
first_bytes [] = []
first_bytes (d ∷ ds) = d.bytes

differ : (a b : List ℕ) → a ≡ b → a ≡ 3 ∷ [] → b ≡ 4 ∷ [] → ⊥
differ a b e f g = absurd (cc)

pub not_turned : received_since ours (Some (at_port 70)) log ≡ datagram 4 70 ∷ datagram 3 70 ∷ [] → ⊥
not_turned e = differ (first_bytes (received_since ours (Some (at_port 70)) log)) (first_bytes (datagram 4 70 ∷ datagram 3 70 ∷ [])) (ap (λ (ds : List IncomingDatagram). first_bytes ds) e) refl refl

-- where one was told again before its check, one was replaced
pub is_replaced : NoneIsReplaced ours None (told ours (of_line 4) 1 70 ∷ told ours (of_line 4) 2 70 ∷ []) → ⊥
is_replaced k = let p : Some _ ≡ None = k.1.0 in absurd (cc)

-- == replies
-- on handle 3, among those of another stream: one, then none yet, then the other
abbrev steps : List Step
steps = Step.Call 0 (GuestCall.Udp (UdpCall.Receive 3 8)) ∷ Step.Call 0 (GuestCall.Udp (UdpCall.Receive 5 8)) ∷ Step.Call 0 (GuestCall.Udp (UdpCall.Receive 3 8)) ∷ Step.Turn ∷ Step.Call 0 (GuestCall.Udp (UdpCall.Receive 3 8)) ∷ []

abbrev replies : List Reply
replies = Reply.Ok (datagram_values (datagram 3 70 ∷ [])) ∷ Reply.Ok (datagram_values (datagram 9 70 ∷ [])) ∷ Reply.Ok (datagram_values []) ∷ Reply.Ok [] ∷ Reply.Ok (datagram_values (datagram 4 70 ∷ [])) ∷ []

pub both_are_handed_out : HandedOut 3 steps replies both
both_are_handed_out = refl

-- with a script that goes on, so far
pub so_far : handed_out 3 steps (Reply.Ok (datagram_values (datagram 3 70 ∷ [])) ∷ []) ≡ flat_map received_values (datagram 3 70 ∷ [])
so_far = refl

-- == by which operations
-- each of the two was received by an operation of its own, and each is what that was told last
pub by_two : served ours (Some (at_port 70)) None log ≡ of_line 4 ∷ of_line 6 ∷ []
by_two = refl

pub two_are_apart : AreApart (of_line 4 ∷ of_line 6 ∷ [])
two_are_apart = ((λ h. elim h [ inl e ↦ (let p : 6 ≡ 4 = ap (λ (x : OpId). x.step) e in absurd (omega (arith, p))) | inr none ↦ none ]), ((λ h. h), tt))

-- one operation that is told two, both allowed
abbrev two_of_one : List Entry
two_of_one = told ours (of_line 4) 1 70 ∷ checked (of_line 4) 70 Told.Yes ∷ told ours (of_line 4) 2 70 ∷ checked (of_line 4) 70 Told.Yes ∷ []

pub both_are_received : received_since ours (Some (at_port 70)) two_of_one ≡ datagram 1 70 ∷ datagram 2 70 ∷ []
both_are_received = refl

pub not_two_of_one : EachByItsOwn ours (Some (at_port 70)) None two_of_one → ⊥
not_two_of_one k = (k.2.1 (of_line 4) (inl refl)).0 refl refl

pub not_apart : AreApart (served ours (Some (at_port 70)) None two_of_one) → ⊥
not_apart k = k.0 (inl refl)

-- two operations, one for each
abbrev one_each : List Entry
one_each = told ours (of_line 4) 1 70 ∷ checked (of_line 4) 70 Told.Yes ∷ told ours (of_line 5) 2 70 ∷ checked (of_line 5) 70 Told.Yes ∷ []

none_of : (op : OpId) → of_line 4 ≡ op → of_line 5 ≡ op → ⊥
none_of op e f = let p : 4 ≡ 5 = ap (λ (x : OpId). x.step) (e ∙ sym f) in absurd (omega (arith, p))

by_four : (op : OpId) → Has (of_line 4 ∷ []) op → AsksNoMore ours (told ours (of_line 5) 2 70 ∷ checked (of_line 5) 70 Told.Yes ∷ []) op
by_four op h = elim h [ inl e ↦ ((λ f c. none_of op e f), ((λ f c. absurd (cc)), tt)) | inr none ↦ absurd none ]

pub each_by_its_own : EachByItsOwn ours (Some (at_port 70)) None one_each
each_by_its_own = ((λ c. refl), (λ op h. absurd h), ((λ c. absurd (cc)), by_four, ((λ c. refl), (λ op h. absurd h), ((λ c. absurd (cc)), (λ op h. tt), tt))))

-- one that is asked again by the same operation, whose first datagram is in hand
pub not_asked_in_hand : EachByItsOwn ours (Some (at_port 70)) None (told ours (of_line 4) 1 70 ∷ entry (of_line 4) (Call.Recv ours) Told.Pending ∷ checked (of_line 4) 70 Told.Yes ∷ []) → ⊥
not_asked_in_hand k = let p : Some _ ≡ None = k.2.0 refl in absurd (cc)

-- a datagram that was refused, and another one of the same operation
pub after_a_no : EachByItsOwn ours (Some (at_port 70)) None (told ours (of_line 4) 1 70 ∷ checked (of_line 4) 70 Told.No ∷ told ours (of_line 4) 2 70 ∷ checked (of_line 4) 70 Told.Yes ∷ [])
after_a_no = ((λ c. refl), (λ op h. absurd h), ((λ c. absurd (cc)), (λ op h. absurd h), ((λ c. refl), (λ op h. absurd h), ((λ c. absurd (cc)), (λ op h. tt), tt))))

-- == of two streams
-- a stream's datagram, and one of a later stream of the network socket, by the same operation or by another one
abbrev of_first : List Entry
of_first = told ours (of_line 4) 1 70 ∷ checked (of_line 4) 70 Told.Yes ∷ []

abbrev of_second : OpId → List Entry
of_second op = told ours op 2 70 ∷ checked op 70 Told.Yes ∷ []

pub not_by_one : NoneInBoth (served ours None None of_first) (served ours None None (of_second (of_line 4))) → ⊥
not_by_one k = k (of_line 4) (inl refl) (inl refl)

pub by_two_apart : NoneInBoth (served ours None None of_first) (served ours None None (of_second (of_line 5)))
by_two_apart op h l = elim h [ inl e ↦ elim l [ inl f ↦ none_of op e f | inr none ↦ none ] | inr none ↦ none ]

-- == wrong replies
-- the one datagram twice in a reply, where one was received
pub not_handed_out_twice : (ds : List IncomingDatagram) → HandedOut 3 (Step.Call 0 (GuestCall.Udp (UdpCall.Receive 3 8)) ∷ []) (Reply.Ok (datagram_values (datagram 3 70 ∷ datagram 3 70 ∷ [])) ∷ []) ds → ds ≡ datagram 3 70 ∷ [] → ⊥
not_handed_out_twice ds k e =
    let p : flat_map received_values (datagram 3 70 ∷ datagram 3 70 ∷ []) ≡ flat_map received_values (datagram 3 70 ∷ []) = k ∙ ap (λ (xs : List IncomingDatagram). flat_map received_values xs) e in
    absurd (let q = ap (λ (fields : List Field). length fields) p in omega (arith, q))
