-- Worked cases, computed on the definitions that contracts cite: which calls are asked where these are the answers, and what is
-- given then.
use Rattle.std.specs.Prelude.{◌≡◌, refl, ℕ, true, List, [], ◌∷◌, length, Option, Some, None, Ok, Err}
use Rattle.wasi_addr.specs.declared.address.SocketAddrUse.TheVariants as use_of
use Rattle.wasi_addr.specs.declared.address.SocketAddressFamily.TheVariants as family
use Rattle.wasi_addr.specs.declared.address.IpSocketAddress.{IpSocketAddress}
use Rattle.wasi_addr.specs.declared.address.IpSocketAddress.TheVariants as socket
use Rattle.wasi_addr.specs.declared.code.ErrorCode.TheVariants.{AccessDenied, InvalidArgument, InvalidState}
use Rattle.wasi_addr.specs.Address.{wildcard}
use Rattle.wasi_world.specs.declared.ids.OpId.{OpId}
use Rattle.wasi_world.specs.declared.call.Call.{Call}
use Rattle.wasi_world.specs.declared.call.Call.TheVariants as call
use Rattle.wasi_world.specs.declared.call.Told.{Told}
use Rattle.wasi_world.specs.declared.call.Told.TheVariants as told
use Rattle.wasi_world.specs.declared.outcome.Answer.TheVariants.{Ready}
use Rattle.wasi_world.specs.Asks.{Asks, Give, Ask, AskWrite, bind}
use Rattle.wasi_world.specs.Operation.{Operation, Done, Refused, Nothing, Datagram, polls, poll_asks, Send}
use Rattle.wasi_udp.specs.declared.connect.UdpConnectStage.TheVariants as connecting
use Rattle.wasi_udp.specs.Shape.{Socket}
use Rattle.wasi_udp.specs.Socket.{asker_of, new_socket}
use Rattle.wasi_udp.specs.Connect.{connect_operation, connect_asks, connect_poll_asks}
use Rattle.wasi_udp.specs.Send.{send_start, at_remote}
use Rattle.wasi_udp.specs.Receive.{receive_start, wanting}

-- == the calls that are asked, in order, and what is given where these answers suffice
abbrev asked_first : {A : Type 0} → Call → List Call × Option A → List Call × Option A
asked_first c (calls, given) = (c ∷ calls, given)

abbrev answered : {A : Type 0} → Asks A → List Told → List Call × Option A
answered (Give a) tolds = ([], Some a)
answered (Ask op c next) [] = (c ∷ [], None)
answered (Ask op c next) (t ∷ tolds) = asked_first c (answered (next t) tolds)
answered (AskWrite op sock bytes next) [] = (call.Write sock (length bytes) ∷ [], None)
answered (AskWrite op sock bytes next) (t ∷ tolds) = asked_first (call.Write sock (length bytes)) (answered (next t) tolds)

-- == a socket of context 7, which isn't bound, and addresses
abbrev side : OpId
side = record { step = 2; part = 0 }

abbrev op : OpId
op = record { step = 3; part = 0 }

abbrev s : Socket
s = new_socket side 7 family.Ipv4

abbrev loopback : ℕ → IpSocketAddress
loopback port = socket.Ipv4 (record { port = port; address = (127, 0, 0, 1) })

abbrev any : IpSocketAddress
any = wildcard family.Ipv4

-- the socket once it is bound, with this remote address
abbrev at : Option IpSocketAddress → Socket
at remote = record s { bound = true; remote = remote }

-- == a connect of a socket that isn't bound: a check of the wildcard, two of the address, the connect, the remote address
connect_begins : answered (connect_asks op s (loopback 9)) (told.Addr any ∷ [])
    ≡ (call.Local side ∷ [], Some (Ok (connect_operation (asker_of op s) family.Ipv4 (loopback 9) connecting.CheckWildcard), s))
unfolding bind
connect_begins = refl

connects : answered (connect_poll_asks (connect_operation (asker_of op s) family.Ipv4 (loopback 9) connecting.CheckWildcard) s) (told.Yes ∷ told.Yes ∷ told.Yes ∷ told.Done ∷ told.Addr (loopback 9) ∷ [])
    ≡ (
      call.Check 7 any use_of.UdpBind ∷ call.Check 7 (loopback 9) use_of.UdpSend ∷ call.Check 7 (loopback 9) use_of.UdpReceive ∷ call.UdpConnect side (loopback 9) ∷ call.Peer side ∷ [],
      Some (Ok (Ready tt), (connect_operation (asker_of op s) family.Ipv4 (loopback 9) connecting.Over, record s { remote = Some (loopback 9) })),
    )
unfolding bind polls
connects = refl

-- the first check says no: nothing else is asked, and the socket is as it was
connect_refused : answered (connect_poll_asks (connect_operation (asker_of op s) family.Ipv4 (loopback 9) connecting.CheckWildcard) s) (told.No ∷ told.Yes ∷ [])
    ≡ (call.Check 7 any use_of.UdpBind ∷ [], Some (Err AccessDenied, (connect_operation (asker_of op s) family.Ipv4 (loopback 9) connecting.Over, s)))
unfolding bind polls
connect_refused = refl

-- == a send to an address of the other family is refused, and nothing is asked
abbrev six : IpSocketAddress
six = socket.Ipv6 (record { port = 9; flow_info = 0; address = (0, 0, 0, 0, 0, 0, 0, 1); scope_id = 0 })

send_to_six : answered (poll_asks (at_remote None (send_start op (at None) (1 ∷ []) (Some six) true))) (told.Yes ∷ told.Done ∷ [])
    ≡ ([], Some (Refused InvalidArgument Nothing, []))
unfolding bind polls
send_to_six = refl

-- == a send to the remote address, whose check is pending
abbrev to_remote : Operation
to_remote = send_start op (at (Some (loopback 9))) (1 ∷ []) None true

-- the remote address is still the same: it is sent
sends : answered (poll_asks (at_remote (Some (loopback 9)) to_remote)) (told.Yes ∷ told.Done ∷ [])
    ≡ (call.Check 7 (loopback 9) use_of.UdpSend ∷ call.Send side (loopback 9) (1 ∷ []) ∷ [], Some (Done Nothing, []))
unfolding bind polls
sends = refl

-- it is another now: the check is asked, and no send
sends_nowhere : answered (poll_asks (at_remote (Some (loopback 8)) to_remote)) (told.Yes ∷ told.Done ∷ [])
    ≡ (call.Check 7 (loopback 9) use_of.UdpSend ∷ [], Some (Refused InvalidState Nothing, []))
unfolding bind polls
sends_nowhere = refl

-- there is none now
sends_no_more : answered (poll_asks (at_remote None to_remote)) (told.Yes ∷ told.Done ∷ [])
    ≡ (call.Check 7 (loopback 9) use_of.UdpSend ∷ [], Some (Refused InvalidState Nothing, []))
unfolding bind polls
sends_no_more = refl

-- the send itself was pending when the remote address became another: nothing is asked
late_send : answered (poll_asks (at_remote (Some (loopback 8)) (record to_remote { left = Send true (loopback 9) (1 ∷ []) ∷ [] }))) (told.Done ∷ [])
    ≡ ([], Some (Refused InvalidState Nothing, []))
unfolding bind polls
late_send = refl

-- == a receive that wants one sender drops a datagram after a no, and one of another sender, and takes the third
receives : answered (poll_asks (wanting (Some (loopback 9)) (receive_start op (at None) true))) (told.Datagram (1 ∷ []) (loopback 9) ∷ told.No ∷ told.Datagram (2 ∷ []) (loopback 8) ∷ told.Yes ∷ told.Datagram (3 ∷ []) (loopback 9) ∷ told.Yes ∷ [])
    ≡ (
      call.Recv side ∷ call.Check 7 (loopback 9) use_of.UdpReceive ∷ call.Recv side ∷ call.Check 7 (loopback 8) use_of.UdpReceive ∷ call.Recv side ∷ call.Check 7 (loopback 9) use_of.UdpReceive ∷ [],
      Some (Done (Datagram (3 ∷ []) (loopback 9)), []),
    )
unfolding bind polls
receives = refl
