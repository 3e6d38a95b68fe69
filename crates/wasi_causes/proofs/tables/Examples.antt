-- The table of replies on replies that no step gives.
use Rattle.wasi_causes.proofs.Words.{List, None, ◌≡◌, ◌++◌, inl, inr, ℕ, [], ◌∷◌, IpSocketAddress, SocketAddressFamily, NoSuchHandle, HasChildren, Full, NotPermitted, Reply, Step}
use Rattle.wasi_addr.specs.declared.address.IpAddress.{IpAddress}
use Rattle.wasi_addr.specs.declared.address.IpSocketAddress.TheVariants as address
use Rattle.wasi_world.specs.declared.datagram.IncomingDatagram.{IncomingDatagram}
use Rattle.wasi_steps.specs.Reply.{address_values, received_values}
use Rattle.wasi_addr.specs.declared.address.IpAddress.TheVariants as ip
use Rattle.wasi_steps.specs.Reply.{ips_values}
use Rattle.wasi_steps.specs.declared.reply.CodeWord.TheVariants as word
use Rattle.wasi_world.specs.declared.datagram.OutgoingDatagram.{OutgoingDatagram}
use Rattle.wasi_world.specs.declared.outcome.TrapKind.TheVariants.{Capacity, EmptyList, StreamsAlive, TooLong}
use Rattle.wasi_steps.specs.declared.reply.Field.TheVariants as field
use Rattle.wasi_steps.specs.declared.reply.Reply.TheVariants as reply
use Rattle.wasi_steps.specs.declared.guest_call.GuestCall.TheVariants as guest
use Rattle.wasi_steps.specs.declared.guest_call.TcpCall.TheVariants as tcp_call
use Rattle.wasi_steps.specs.declared.guest_call.UdpCall.TheVariants as udp_call
use Rattle.wasi_steps.specs.declared.guest_call.NameCall.TheVariants as name_call
use Rattle.wasi_steps.specs.declared.guest_call.StreamCall.TheVariants as stream_call
use Rattle.wasi_steps.specs.declared.guest_call.PipeCall.TheVariants as pipe_call
use Rattle.wasi_steps.specs.declared.guest_call.PollableCall.TheVariants as pollable_call
use Rattle.wasi_steps.specs.declared.guest_call.P3TcpCall.TheVariants as p3_tcp_call
use Rattle.wasi_steps.specs.declared.guest_call.P3UdpCall.TheVariants as p3_udp_call
use Rattle.wasi_steps.specs.declared.step.Step.TheVariants as step
use Rattle.wasi_causes.specs.Outcomes.{may_answer}
use Rattle.wasi_causes.proofs.Words.{AccessDenied, CodeWord, ErrorCode, p3_word, subst, sym, word_of_code}
use Rattle.wasi_world.specs.declared.call.Opt.{Opt}

abbrev Never : ℕ → Step → Reply → Type 0
Never line s r = may_answer line s r → ⊥

-- only a poll of an end tells that its stream is over, and only the take of a result that it isn't
of_no_end : (c h n : ℕ) → Never 7 (step.Call c (guest.Stream (stream_call.Read h n))) reply.Dropped × Never 7 (step.Call c (guest.P3Tcp (p3_tcp_call.Accept h n))) reply.Dropped × Never 7 (step.Call c (guest.P3Tcp (p3_tcp_call.Result h))) reply.Dropped × Never 7 (step.Call c (guest.P3Tcp (p3_tcp_call.Read h n))) reply.Unfilled
of_no_end c h n = (λ k. k, λ k. k, λ k. k, λ k. k)

-- an end is never pending, nor refused
of_no_poll_of_end : (c h n : ℕ) (bytes : List ℕ) → Never 7 (step.Call c (guest.P3Tcp (p3_tcp_call.Read h n))) (reply.Pending n) × Never 7 (step.Call c (guest.P3Tcp (p3_tcp_call.Write h bytes))) (reply.Err word.InvalidState)
of_no_poll_of_end c h n bytes = (λ k. k, λ k. k)

-- an accept of 0.3 may be cancelled, and not a listen, and it is never pending
of_no_accept : (c h n : ℕ) → Never 7 (step.Call c (guest.Tcp (tcp_call.Accept h))) reply.Cancelled × Never 7 (step.Call c (guest.P3Tcp (p3_tcp_call.Listen h))) reply.Cancelled × Never 7 (step.Call c (guest.P3Tcp (p3_tcp_call.Accept h n))) (reply.Pending n)
of_no_accept c h n = (λ k. k, λ k. k, λ k. k)

-- the fields of addresses are numbers
no_addresses : (addresses : List IpAddress) → field.True ∷ [] ≡ ips_values addresses → ⊥
no_addresses [] e = cc
no_addresses (ip.Ipv4 a ∷ addresses) e = cc
no_addresses (ip.Ipv6 a ∷ addresses) e = cc

-- and so is the first field of a datagram
no_datagram : (d : IncomingDatagram) → field.True ∷ [] ≡ received_values d → ⊥
no_datagram d e = by_address d.remote_address e
  where
    by_address : (a : IpSocketAddress) → field.True ∷ [] ≡ address_values a ++ field.Bytes d.bytes ∷ [] → ⊥
    by_address (address.Ipv4 a) e = cc
    by_address (address.Ipv6 a) e = cc

-- a poll answers for the call that it polls
of_no_poll : Never 7 (step.Poll 3) (reply.Pending 7) × Never 7 (step.Poll 3) (reply.Ok (field.True ∷ [])) × Never 7 (step.Poll 3) (reply.Trap NotPermitted)
of_no_poll = (λ h. absurd (let e : 7 ≡ 3 = h in cc), λ h. elim h [ inl g ↦ elim g [ inl k ↦ k | inr k ↦ elim k [ inl j ↦ j.0 | inr j ↦ elim j [ inl i ↦ i.0 | inr i ↦ elim i [ inl l ↦ l.0 | inr l ↦ l ] ] ] ] | inr g ↦ elim g [ inl k ↦ absurd (let e = k.2 in cc) | inr k ↦ elim k [ inl ips ↦ no_addresses ips.0 ips.1 | inr d ↦ no_datagram d.0 d.1 ] ] ], λ h. elim h [ inl w ↦ w | inr s ↦ s ])

-- a cancel is never pending, traps for nothing, gives nothing but that it is done, and ends no stream
of_no_cancel : (n : ℕ) → Never 7 (step.Cancel 3) (reply.Pending n) × Never 7 (step.Cancel 3) (reply.Trap NoSuchHandle) × Never 7 (step.Cancel 3) (reply.Ok (field.Number n ∷ [])) × Never 7 (step.Cancel 3) reply.Closed
of_no_cancel n = (λ h. h, λ h. h, λ h. h, λ h. h)

-- a read isn't pending, one that blocks is so under its own line, is never refused and never past a permit, and gives bytes; only a
-- write has too many bytes for a pipe, and only one that blocks too many for a call
of_no_call : (c h len n : ℕ) (bytes : List ℕ) → Never 7 (step.Call c (guest.Stream (stream_call.Read h len))) (reply.Pending n) × Never 7 (step.Call c (guest.Stream (stream_call.BlockingRead h len))) (reply.Pending 6) × Never 7 (step.Call c (guest.Stream (stream_call.BlockingRead h len))) (reply.Err word.WouldBlock) × Never 7 (step.Call c (guest.Stream (stream_call.BlockingRead h len))) (reply.Ok (field.Number n ∷ []))
    × Never 7 (step.Call c (guest.Stream (stream_call.BlockingWrite h bytes))) (reply.Trap Capacity) × Never 7 (step.Call c (guest.Stream (stream_call.Write h bytes))) (reply.Trap TooLong) × Never 7 (step.Call c (guest.Pipe (pipe_call.In bytes))) (reply.Trap NoSuchHandle)
of_no_call c h len n bytes = (λ k. k, λ k. absurd (let e : 6 ≡ 7 = k in cc), λ k. k, λ k. k.0, λ k. k, λ k. k, λ k. k)

-- a finish of a bind waits for nothing, a start of a connect isn't pending, and that of a bind is so under its own line
of_no_start : (c s network n : ℕ) (a : IpSocketAddress) → Never 7 (step.Call c (guest.Tcp (tcp_call.FinishBind s))) (reply.Err word.WouldBlock) × Never 7 (step.Call c (guest.Tcp (tcp_call.StartConnect s network a))) (reply.Pending n) × Never 7 (step.Call c (guest.Tcp (tcp_call.StartBind s network a))) (reply.Pending 6)
of_no_start c s network n a = (λ h. absurd (cc), λ h. h, λ h. absurd (let e : 6 ≡ 7 = h in cc))

traps_of_others : Never 1 (step.Call 0 (guest.Names name_call.Network)) (reply.Trap NoSuchHandle) × Never 7 (step.Call 0 (guest.Stream (stream_call.Read 1 10))) (reply.Trap HasChildren) × Never 7 (step.Call 0 (guest.Pollable (pollable_call.Drop 1))) (reply.Trap Full) × Never 7 (step.Call 0 (guest.Stream (stream_call.Read 1 10))) (reply.Trap NotPermitted)
traps_of_others = (λ h. h, λ h. h, λ h. h, λ h. elim h [ inl w ↦ w | inr s ↦ s ])

-- a look at a pollable answers with one truth value
of_no_look : Never 7 (step.Call 0 (guest.Pollable (pollable_call.Ready 1))) (reply.Ok (field.True ∷ field.True ∷ [])) × Never 7 (step.Call 0 (guest.Pollable (pollable_call.Ready 1))) (reply.Ok (field.Number 1 ∷ []))
of_no_look = (λ h. h.1, λ h. h.0)

-- a wait is pending under its own line, is never refused, and one for some gives places, one at least, and isn't for none
of_no_wait : (c p n : ℕ) (ps : List ℕ) → Never 7 (step.Call c (guest.Pollable (pollable_call.Block p))) (reply.Pending 6) × Never 7 (step.Call c (guest.Pollable (pollable_call.Block p))) (reply.Ok (field.True ∷ [])) × Never 7 (step.Call c (guest.Pollable (pollable_call.Block p))) (reply.Trap EmptyList) × Never 7 (step.Call c (guest.Pollable (pollable_call.PollList ps))) (reply.Err word.WouldBlock) × Never 7 (step.Call c (guest.Pollable (pollable_call.PollList ps))) (reply.Ok [])
    × Never 7 (step.Call c (guest.Pollable (pollable_call.PollList ps))) (reply.Trap Full) × Never 7 (step.Call c (guest.Pollable (pollable_call.PollList (p ∷ ps)))) (reply.Trap EmptyList)
of_no_wait c p n ps = (λ k. absurd (let e : 6 ≡ 7 = k in cc), λ k. k, λ k. k, λ k. k, λ k. absurd (let e = k.2 in cc), λ k. k, λ k. absurd (let e : p ∷ ps ≡ [] = k in cc))

-- a finish of a bind of a UDP socket waits for nothing, its family is never refused, a create names no handle and is pending under
-- its own line, and a look at its remote address is refused in one way
of_no_udp : (c s n : ℕ) (f : SocketAddressFamily) → Never 7 (step.Call c (guest.Udp (udp_call.FinishBind s))) (reply.Pending 7) × Never 7 (step.Call c (guest.Udp (udp_call.AddressFamily s))) (reply.Err word.InvalidState) × Never 7 (step.Call c (guest.Udp (udp_call.Create f))) (reply.Trap NoSuchHandle) × Never 7 (step.Call c (guest.Udp (udp_call.Create f))) (reply.Pending 6) × Never 7 (step.Call c (guest.Udp (udp_call.RemoteAddress s))) (reply.Err word.AccessDenied)
of_no_udp c s n f = (λ h. h, λ h. h, λ h. h, λ h. absurd (let e : 6 ≡ 7 = h in cc), λ h. absurd (let e : word.AccessDenied ≡ word.InvalidState = h in cc))

-- a look at what may be sent is never refused and traps for no room, a send and a receive aren't pending, a receive is always
-- permitted, streams are pending under their own line, and a live stream is no matter of a drop
of_no_stream : (c h most n : ℕ) (ds : List OutgoingDatagram) → Never 7 (step.Call c (guest.Udp (udp_call.CheckSend h))) (reply.Err word.InvalidState) × Never 7 (step.Call c (guest.Udp (udp_call.CheckSend h))) (reply.Trap Full) × Never 7 (step.Call c (guest.Udp (udp_call.Send h ds))) (reply.Pending n) × Never 7 (step.Call c (guest.Udp (udp_call.Receive h most))) (reply.Pending n)
    × Never 7 (step.Call c (guest.Udp (udp_call.Stream h None))) (reply.Pending 6) × Never 7 (step.Call c (guest.Pollable (pollable_call.Drop h))) (reply.Trap StreamsAlive)
of_no_stream c h most n ds = (λ k. k, λ k. k, λ k. k, λ k. k, λ k. absurd (let e : 6 ≡ 7 = k in cc), λ k. k)

-- a lookup isn't pending, and is refused by its own words; one that hands addresses out is refused by others, and makes no handle; and
-- an error's code is never refused, and is no number
of_no_lookup : (c h n : ℕ) (name : List ℕ) → Never 7 (step.Call c (guest.Names (name_call.Resolve h name))) (reply.Pending 7) × Never 7 (step.Call c (guest.Names (name_call.Resolve h name))) (reply.Err word.WouldBlock) × Never 7 (step.Call c (guest.Names (name_call.ResolveNext h))) (reply.Err word.InvalidArgument) × Never 7 (step.Call c (guest.Names (name_call.ResolveNext h))) (reply.Trap Full)
    × Never 7 (step.Call c (guest.Names (name_call.NetworkErrorCode h))) (reply.Err word.NameUnresolvable) × Never 7 (step.Call c (guest.Names (name_call.NetworkErrorCode h))) (reply.Ok (field.Number n ∷ []))
of_no_lookup c h n name = (λ k. k, λ k. elim k [ inl e ↦ absurd (cc) | inr f ↦ elim f [ inl e ↦ absurd (cc) | inr e ↦ absurd (cc) ] ], λ k. elim k [ inl e ↦ absurd (cc) | inr e ↦ absurd (cc) ], λ k. k, λ k. k, λ k. k.0)

-- == 0.3 sockets
abbrev IsKnown : CodeWord → Type 0
IsKnown word.Unknown = ⊥
IsKnown _ = Unit {0}

known : (c : ErrorCode) → IsKnown (p3_word c)
known AccessDenied = tt
known _ = tt

abbrev IsNotBroken : CodeWord → Type 0
IsNotBroken word.ConnectionBroken = ⊥
IsNotBroken _ = Unit {0}

not_broken : (c : ErrorCode) → IsNotBroken (word_of_code c)
not_broken AccessDenied = tt
not_broken _ = tt

-- a create of a 0.3 socket names no handle and isn't pending, its family is never refused, its address needs no room, and `unknown` is
-- no word of 0.3, as `connection-broken` is none of 0.2
of_no_p3 : (c s n : ℕ) (f : SocketAddressFamily) (o : Opt) → Never 7 (step.Call c (guest.P3Tcp (p3_tcp_call.Create f))) (reply.Trap NoSuchHandle) × Never 7 (step.Call c (guest.P3Tcp (p3_tcp_call.Create f))) (reply.Pending n) × Never 7 (step.Call c (guest.P3Tcp (p3_tcp_call.AddressFamily s))) (reply.Err word.InvalidState) × Never 7 (step.Call c (guest.P3Tcp (p3_tcp_call.LocalAddress s))) (reply.Trap Full)
    × Never 7 (step.Call c (guest.P3Tcp (p3_tcp_call.Get s o))) (reply.Err word.Unknown) × Never 7 (step.Call c (guest.Tcp (tcp_call.Get s o))) (reply.Err word.ConnectionBroken)
of_no_p3 c s n f o = (λ h. h, λ h. h, λ h. h, λ h. h, λ h. subst IsKnown (sym h.is) (known h.code), λ h. subst IsNotBroken (sym h.is) (not_broken h.code))

-- a create of a 0.3 UDP socket names no handle, is pending under its own line alone and refused by no word of 0.2 alone, a disconnect
-- isn't pending, a look at a remote address is refused in one way, and at a family never
of_no_p3_udp : (c s n : ℕ) (f : SocketAddressFamily) → Never 7 (step.Call c (guest.P3Udp (p3_udp_call.Create f))) (reply.Trap NoSuchHandle) × Never 7 (step.Call c (guest.P3Udp (p3_udp_call.Create f))) (reply.Pending 6) × Never 7 (step.Call c (guest.P3Udp (p3_udp_call.Create f))) (reply.Err word.Unknown)
    × Never 7 (step.Call c (guest.P3Udp (p3_udp_call.Disconnect s))) (reply.Pending n) × Never 7 (step.Call c (guest.P3Udp (p3_udp_call.RemoteAddress s))) (reply.Err word.AccessDenied) × Never 7 (step.Call c (guest.P3Udp (p3_udp_call.AddressFamily s))) (reply.Err word.InvalidState)
of_no_p3_udp c s n f = (λ h. h, λ h. absurd (let e : 6 ≡ 7 = h in cc), λ h. subst IsKnown (sym h.is) (known h.code), λ h. h, λ h. absurd (let e : word.AccessDenied ≡ word.InvalidState = h in cc), λ h. h)
