-- Runs in which sockets of 0.3 send and receive datagrams, by computing: the replies and the log that each gives with these answers.
use Rattle.std.specs.Prelude.{◌≡◌, refl, ℕ, zero, suc, List, [], ◌∷◌, ◌++◌, length, true, Option, Some, None}
use Rattle.wasi_addr.specs.declared.address.IpSocketAddress.{IpSocketAddress}
use Rattle.wasi_addr.specs.declared.address.IpSocketAddress.TheVariants.{Ipv4}
use Rattle.wasi_addr.specs.declared.address.SocketAddressFamily.TheVariants as family
use Rattle.wasi_addr.specs.declared.address.SocketAddrUse.TheVariants.{UdpBind, UdpSend, UdpReceive}
use Rattle.wasi_addr.specs.declared.code.ErrorCode.TheVariants as code
use Rattle.wasi_addr.specs.declared.p3.ErrorCode.TheVariants.{DatagramTooLarge, InvalidState}
use Rattle.wasi_world.specs.declared.call.Call.{Call}
use Rattle.wasi_world.specs.declared.call.Call.TheVariants as call
use Rattle.wasi_world.specs.declared.call.Entry.{Entry}
use Rattle.wasi_world.specs.declared.call.HandleKind.TheVariants.{Udp3}
use Rattle.wasi_world.specs.declared.call.Opt.TheVariants.{HopLimit}
use Rattle.wasi_world.specs.declared.call.Told.{Told}
use Rattle.wasi_world.specs.declared.call.Told.TheVariants as told
use Rattle.wasi_world.specs.declared.datagram.OutgoingDatagram.{OutgoingDatagram}
use Rattle.wasi_world.specs.declared.ids.OpId.{OpId}
use Rattle.wasi_world.specs.declared.outcome.WasiSocketsCtx.{WasiSocketsCtx}
use Rattle.wasi_world.specs.Asks.{Asks, Give, Ask, AskWrite, bind}
use Rattle.wasi_world.specs.Operation.{polls}
use Rattle.host_store.specs.declared.machine.Machine.{Machine}
use Rattle.host_store.specs.Machine.{first_state, own_of}
use Rattle.wasi_steps.specs.declared.guest_call.GuestCall.TheVariants as guest
use Rattle.wasi_steps.specs.declared.guest_call.PollableCall.TheVariants as pollable_call
use Rattle.wasi_steps.specs.declared.guest_call.P3UdpCall.TheVariants as p3_udp_call
use Rattle.wasi_steps.specs.declared.reply.Reply.{Reply}
use Rattle.wasi_steps.specs.declared.reply.Reply.TheVariants as reply
use Rattle.wasi_steps.specs.declared.setting.UdpSetting.TheVariants as setting
use Rattle.wasi_steps.specs.declared.step.Step.{Step}
use Rattle.wasi_steps.specs.declared.step.Step.TheVariants as step
use Rattle.wasi_steps.specs.Reply.{address_values, no_fields, number_fields, received_values, word_of_p3}
use Rattle.wasi_machine.specs.Machine.{run}

-- == what a run asks with these answers, and its replies where it is over then
abbrev entry : OpId → Call → Told → Entry
entry op asked answer = record { op = op; call = asked; answer = answer }

abbrev before : {A : Type 0} → Entry → List Entry × A → List Entry × A
before e (es, a) = (e ∷ es, a)

abbrev plays : {A : Type 0} → List Told → Asks A → List Entry × Option A
plays [] (Give a) = ([], Some a)
plays [] _ = ([], None)
plays (t ∷ ts) (Give a) = ([], None)
plays (t ∷ ts) (Ask op asked next) = before (entry op asked t) (plays ts (next t))
plays (t ∷ ts) (AskWrite op sock bytes next) = ([], None)

abbrev replied : Option (List Reply × Machine) → List Reply
replied None = []
replied (Some done) = done.0

abbrev calls : Option (List Reply × Machine) → ℕ
calls None = 9
calls (Some done) = length done.1.store.beside

abbrev ctx : WasiSocketsCtx
ctx = record { name = 0; ip_name_lookup = true; udp = true; tcp = true; write_limit = 0 }

abbrev runs : List Step → Asks (List Reply × Machine)
runs steps = run (ctx ∷ []) [] first_state 1 steps

abbrev port : ℕ → IpSocketAddress
port n = Ipv4 (record { port = n; address = (127, 0, 0, 1) })

abbrev anywhere : IpSocketAddress
anywhere = Ipv4 (record { port = 0; address = (0, 0, 0, 0) })

abbrev to_peer : List ℕ → OutgoingDatagram
to_peer bytes = record { bytes = bytes; remote_address = None }

abbrev to : IpSocketAddress → List ℕ → OutgoingDatagram
to a bytes = record { bytes = bytes; remote_address = Some a }

-- == created
abbrev creates : List Step
creates = step.Call 0 (guest.P3Udp (p3_udp_call.Create family.Ipv4)) ∷ []

abbrev created : List Entry
created = entry (own_of 1) (call.UdpCreate 0 family.Ipv4) told.Done ∷ entry (own_of 1) (call.UdpWritable (own_of 1)) told.Done ∷ entry (own_of 1) (call.Made 1 Udp3 None (Some (own_of 1))) told.Done ∷ []

abbrev answers : List Entry → List Told
answers [] = []
answers (e ∷ es) = e.answer ∷ answers es

-- == one that is too large
abbrev zeroes : ℕ → List ℕ
zeroes zero = []
zeroes (suc n) = 0 ∷ zeroes n

abbrev large : List Step
large = creates ++ step.Call 0 (guest.P3Udp (p3_udp_call.Send 1 (to_peer (zeroes 65536)))) ∷ []

abbrev large_log : List Entry
large_log = created ++ entry (own_of 2) (call.Local (own_of 1)) (told.Addr anywhere) ∷ []

large_asks : (plays (answers large_log) (runs large)).0 ≡ large_log
unfolding bind polls
large_asks = refl

large_replies : replied (plays (answers large_log) (runs large)).1 ≡ reply.Ok (number_fields 1) ∷ reply.Err (word_of_p3 DatagramTooLarge) ∷ []
unfolding bind polls
large_replies = refl

-- == one that is late
abbrev late : List Step
late = creates
    ++ (step.Call 0 (guest.P3Udp (p3_udp_call.Connect 1 (port 7)))
    ∷ step.Call 0 (guest.P3Udp (p3_udp_call.Send 1 (to_peer (1 ∷ []))))
    ∷ step.Call 0 (guest.P3Udp (p3_udp_call.Connect 1 (port 8)))
    ∷ step.Poll 3
    ∷ [])

abbrev late_log : List Entry
late_log = created
    ++ (entry (own_of 2) (call.Local (own_of 1)) (told.Addr anywhere)
    ∷ entry (own_of 2) (call.Check 0 anywhere UdpBind) told.Yes
    ∷ entry (own_of 2) (call.Check 0 (port 7) UdpSend) told.Yes
    ∷ entry (own_of 2) (call.Check 0 (port 7) UdpReceive) told.Yes
    ∷ entry (own_of 2) (call.UdpConnect (own_of 1) (port 7)) told.Done
    ∷ entry (own_of 2) (call.Peer (own_of 1)) (told.Addr (port 7))
    ∷ entry (own_of 3) (call.Local (own_of 1)) (told.Addr (port 53))
    ∷ entry (own_of 3) (call.Check 0 (port 7) UdpSend) told.Yes
    ∷ entry (own_of 3) (call.Send (own_of 1) (port 7) (1 ∷ [])) told.Pending
    ∷ entry (own_of 4) (call.Check 0 (port 8) UdpSend) told.Yes
    ∷ entry (own_of 4) (call.Check 0 (port 8) UdpReceive) told.Yes
    ∷ entry (own_of 4) (call.UdpConnect (own_of 1) (port 8)) told.Done
    ∷ entry (own_of 4) (call.Peer (own_of 1)) (told.Addr (port 8))
    ∷ [])

late_asks : (plays (answers late_log) (runs late)).0 ≡ late_log
unfolding bind polls
late_asks = refl

late_replies : replied (plays (answers late_log) (runs late)).1
    ≡ reply.Ok (number_fields 1) ∷ reply.Ok no_fields ∷ reply.Pending 3 ∷ reply.Ok no_fields ∷ reply.Err (word_of_p3 InvalidState) ∷ []
unfolding bind polls
late_replies = refl

-- == a receive
abbrev comes : List Step
comes = creates
    ++ (step.Call 0 (guest.P3Udp (p3_udp_call.Disconnect 1))
    ∷ step.Call 0 (guest.P3Udp (p3_udp_call.Receive 1))
    ∷ step.Call 0 (guest.P3Udp (p3_udp_call.Bind 1 (port 53)))
    ∷ step.Call 0 (guest.P3Udp (p3_udp_call.Receive 1))
    ∷ step.Poll 5
    ∷ step.Call 0 (guest.P3Udp (p3_udp_call.Connect 1 (port 9)))
    ∷ step.Call 0 (guest.P3Udp (p3_udp_call.RemoteAddress 1))
    ∷ step.Call 0 (guest.P3Udp (p3_udp_call.Disconnect 1))
    ∷ step.Call 0 (guest.P3Udp (p3_udp_call.RemoteAddress 1))
    ∷ step.Call 0 (guest.P3Udp (p3_udp_call.Send 1 (to (port 9) (5 ∷ []))))
    ∷ step.Call 0 (guest.P3Udp (p3_udp_call.Set 1 (setting.HopLimit 9)))
    ∷ [])

abbrev comes_log : List Entry
comes_log = created
    ++ (entry (own_of 3) (call.Local (own_of 1)) (told.Addr anywhere)
    ∷ entry (own_of 4) (call.Local (own_of 1)) (told.Addr anywhere)
    ∷ entry (own_of 4) (call.Check 0 (port 53) UdpBind) told.Yes
    ∷ entry (own_of 4) (call.UdpBind (own_of 1) (port 53)) told.Done
    ∷ entry (own_of 5) (call.Local (own_of 1)) (told.Addr (port 53))
    ∷ entry (own_of 5) (call.Recv (own_of 1)) told.Pending
    ∷ entry (own_of 5) (call.Recv (own_of 1)) (told.Datagram [] (port 9))
    ∷ entry (own_of 5) (call.Check 0 (port 9) UdpReceive) told.Yes
    ∷ entry (own_of 7) (call.Check 0 (port 9) UdpSend) told.Yes
    ∷ entry (own_of 7) (call.Check 0 (port 9) UdpReceive) told.Yes
    ∷ entry (own_of 7) (call.UdpConnect (own_of 1) (port 9)) told.Done
    ∷ entry (own_of 7) (call.Peer (own_of 1)) (told.Addr (port 9))
    ∷ entry (own_of 9) (call.UdpDisconnect (own_of 1)) told.Done
    ∷ entry (own_of 9) (call.Peer (own_of 1)) (told.Code code.InvalidArgument)
    ∷ entry (own_of 11) (call.Check 0 (port 9) UdpSend) told.Yes
    ∷ entry (own_of 11) (call.Send (own_of 1) (port 9) (5 ∷ [])) told.Done
    ∷ entry (own_of 12) (call.SetOption (own_of 1) HopLimit 9) told.Done
    ∷ [])

abbrev refused : Reply
refused = reply.Err (word_of_p3 InvalidState)

comes_asks : (plays (answers comes_log) (runs comes)).0 ≡ comes_log
unfolding bind polls
comes_asks = refl

comes_replies : replied (plays (answers comes_log) (runs comes)).1
    ≡ reply.Ok (number_fields 1) ∷ refused ∷ refused ∷ reply.Ok no_fields ∷ reply.Pending 5
    ∷ reply.Ok (received_values (record { bytes = []; remote_address = port 9 })) ∷ reply.Ok no_fields ∷ reply.Ok (address_values (port 9)) ∷ reply.Ok no_fields
    ∷ refused ∷ reply.Ok no_fields ∷ reply.Ok no_fields ∷ []
unfolding bind polls
comes_replies = refl

-- == the last one closes
abbrev holds : List Step
holds = creates
    ++ (step.Call 0 (guest.P3Udp (p3_udp_call.Bind 1 (port 53)))
    ∷ step.Call 0 (guest.P3Udp (p3_udp_call.Send 1 (to (port 9) (1 ∷ []))))
    ∷ step.Call 0 (guest.P3Udp (p3_udp_call.Receive 1))
    ∷ step.Call 0 (guest.Pollable (pollable_call.Drop 1))
    ∷ step.Poll 3
    ∷ step.Cancel 4
    ∷ [])

abbrev holds_log : List Entry
holds_log = created
    ++ (entry (own_of 2) (call.Local (own_of 1)) (told.Addr anywhere)
    ∷ entry (own_of 2) (call.Check 0 (port 53) UdpBind) told.Yes
    ∷ entry (own_of 2) (call.UdpBind (own_of 1) (port 53)) told.Done
    ∷ entry (own_of 3) (call.Local (own_of 1)) (told.Addr (port 53))
    ∷ entry (own_of 3) (call.Check 0 (port 9) UdpSend) told.Yes
    ∷ entry (own_of 3) (call.Send (own_of 1) (port 9) (1 ∷ [])) told.Pending
    ∷ entry (own_of 4) (call.Recv (own_of 1)) told.Pending
    ∷ entry (own_of 3) (call.Send (own_of 1) (port 9) (1 ∷ [])) told.Done
    ∷ entry (own_of 4) (call.Close (own_of 1)) told.Done
    ∷ [])

holds_asks : (plays (answers holds_log) (runs holds)).0 ≡ holds_log
unfolding bind polls
holds_asks = refl

holds_replies : replied (plays (answers holds_log) (runs holds)).1
    ≡ reply.Ok (number_fields 1) ∷ reply.Ok no_fields ∷ reply.Pending 3 ∷ reply.Pending 4 ∷ reply.Ok no_fields ∷ reply.Ok no_fields ∷ reply.Ok no_fields ∷ []
unfolding bind polls
holds_replies = refl

-- no call stands any more
holds_none : calls (plays (answers holds_log) (runs holds)).1 ≡ 0
unfolding bind polls
holds_none = refl
