-- Small logs, computed: what the definitions of scripted answers say of them.
use Rattle.std.proofs.Common.{◌≡◌, ℕ, List, [], ◌∷◌, refl}
use Rattle.wasi_addr.specs.declared.address.IpSocketAddress.{IpSocketAddress}
use Rattle.wasi_addr.specs.declared.address.IpSocketAddress.TheVariants as socket
use Rattle.wasi_addr.specs.declared.address.SocketAddressFamily.TheVariants as family
use Rattle.wasi_addr.specs.declared.address.SocketAddrUse.TheVariants.{TcpBind}
use Rattle.wasi_addr.specs.declared.code.ErrorCode.TheVariants as code
use Rattle.wasi_world.specs.declared.ids.OpId.{OpId}
use Rattle.wasi_world.specs.declared.call.Call.{Call}
use Rattle.wasi_world.specs.declared.call.Call.TheVariants as call
use Rattle.wasi_world.specs.declared.call.Told.{Told}
use Rattle.wasi_world.specs.declared.call.Told.TheVariants as told
use Rattle.wasi_world.specs.declared.call.Opt.TheVariants as option
use Rattle.wasi_world.specs.declared.call.Entry.{Entry}
use Rattle.wasi_world.specs.declared.plan.Kind.TheVariants as kind
use Rattle.wasi_world.specs.declared.plan.Planned.{Planned}
use Rattle.wasi_world.specs.declared.plan.Planned.TheVariants.{Pending, No, Code, Addr, Bytes, Took, Value}
use Rattle.wasi_world.specs.Seen.{Plan}
use Rattle.world_scripted.specs.Queued.{no_answers, with_answer}
use Rattle.wasi_world.specs.Script.{given, left_after, answer, progress, IsScripted}

-- line n's own operation, and a network socket that line 1 made
abbrev op : ℕ → OpId
op n = record { step = n; part = 0 }

abbrev side : OpId
side = op 1

abbrev entry : ℕ → Call → Told → Entry
entry n c t = record { op = op n; call = c; answer = t }

abbrev local : ℕ → IpSocketAddress
local port = socket.Ipv4 (record { port = port; address = (127, 0, 0, 1) })

abbrev any : ℕ → IpSocketAddress
any port = socket.Ipv4 (record { port = port; address = (0, 0, 0, 0) })

-- bytes that a read didn't ask for are the next answer
a_read_gets_the_front : given (call.Read side 2) (Bytes (1 ∷ 2 ∷ 3 ∷ [])) ≡ Bytes (1 ∷ 2 ∷ [])
a_read_gets_the_front = refl

the_rest_is_left : left_after (call.Read side 2) (Bytes (1 ∷ 2 ∷ 3 ∷ []) ∷ Pending ∷ []) ≡ Bytes (3 ∷ []) ∷ Pending ∷ []
the_rest_is_left = refl

nothing_is_left_of_all : left_after (call.Read side 3) (Bytes (1 ∷ 2 ∷ 3 ∷ []) ∷ Pending ∷ []) ≡ Pending ∷ []
nothing_is_left_of_all = refl

the_end_is_used_up : left_after (call.Read side 0) (Bytes [] ∷ Pending ∷ []) ≡ Pending ∷ []
the_end_is_used_up = refl

no_more_is_taken_than_offered : given (call.Write side 5) (Took 9) ≡ Took 5
no_more_is_taken_than_offered = refl

no_more_is_taken_than_planned : given (call.Write side 5) (Took 3) ≡ Took 3
no_more_is_taken_than_planned = refl

-- what the defaults tell after a log
after_log : Plan → List Entry → Call → Planned
after_log plan log c = answer (progress plan log) c

made : Entry
made = entry 1 (call.TcpCreate 0 family.Ipv4) told.Done

told_by_default : List Entry → Call → Planned
told_by_default log c = answer (progress no_answers log) c

unbound : told_by_default (made ∷ []) (call.Local side) ≡ Addr (any 0)
unfolding told_by_default made
unbound = refl

bound_to_a_port : told_by_default (made ∷ entry 2 (call.Bind side (local 80)) told.Done ∷ []) (call.Local side) ≡ Addr (local 80)
unfolding told_by_default made
bound_to_a_port = refl

bound_to_any_port : told_by_default (made ∷ entry 2 (call.Bind side (local 0)) told.Done ∷ []) (call.Local side) ≡ Addr (local 50000)
unfolding told_by_default made
bound_to_any_port = refl

a_refused_bind_changes_nothing : told_by_default (made ∷ entry 2 (call.Bind side (local 80)) (told.Code code.Other) ∷ []) (call.Local side) ≡ Addr (any 0)
unfolding told_by_default made
a_refused_bind_changes_nothing = refl

bound_by_a_connect : told_by_default (made ∷ entry 2 (call.Connect side (local 80)) told.Done ∷ []) (call.Local side) ≡ Addr (any 50000)
unfolding told_by_default made
bound_by_a_connect = refl

still_bound_after_a_connect : told_by_default (made ∷ entry 2 (call.Bind side (local 7)) told.Done ∷ entry 3 (call.Connect side (local 80)) told.Done ∷ []) (call.Local side) ≡ Addr (local 7)
unfolding told_by_default made
still_bound_after_a_connect = refl

the_peer_of_a_connect : told_by_default (made ∷ entry 2 (call.Connect side (local 80)) told.Done ∷ []) (call.Peer side) ≡ Addr (local 80)
unfolding told_by_default made
the_peer_of_a_connect = refl

no_peer_after_a_disconnect : told_by_default (made ∷ entry 2 (call.UdpConnect side (local 80)) told.Done ∷ entry 3 (call.UdpDisconnect side) told.Done ∷ []) (call.Peer side) ≡ Code code.InvalidState
unfolding told_by_default made
no_peer_after_a_disconnect = refl

handed_over : List Entry
handed_over = made ∷ entry 2 (call.Bind side (local 80)) told.Done ∷ entry 3 (call.Hand side (local 9)) told.Done ∷ []

a_connection_is_bound_as_its_listener : told_by_default handed_over (call.Local (op 3)) ≡ Addr (local 80)
unfolding told_by_default handed_over made
a_connection_is_bound_as_its_listener = refl

the_peer_of_a_connection : told_by_default handed_over (call.Peer (op 3)) ≡ Addr (local 9)
unfolding told_by_default handed_over made
the_peer_of_a_connection = refl

an_option_that_was_set : told_by_default (made ∷ entry 2 (call.SetOption side option.HopLimit 9) told.Done ∷ []) (call.GetOption side option.HopLimit) ≡ Value 9
unfolding told_by_default made
an_option_that_was_set = refl

another_option : told_by_default (made ∷ entry 2 (call.SetOption side option.HopLimit 9) told.Done ∷ []) (call.GetOption side option.KeepAliveCount) ≡ Value 64
unfolding told_by_default made
another_option = refl

-- a plan of two verdicts, the second of which is no
verdicts : Plan
verdicts = with_answer (with_answer no_answers kind.Check Pending) kind.Check No

check : Call
check = call.Check 0 (local 80) TcpBind

in_order_and_then_by_default : IsScripted verdicts (entry 1 check told.Pending ∷ entry 2 check told.No ∷ entry 3 check told.Yes ∷ [])
unfolding verdicts check
in_order_and_then_by_default = refl

out_of_order : IsScripted verdicts (entry 1 check told.No ∷ []) → ⊥
unfolding verdicts check
out_of_order h = cc

used_twice : IsScripted verdicts (entry 1 check told.Pending ∷ entry 2 check told.Pending ∷ []) → ⊥
unfolding verdicts check
used_twice h = cc

a_default_too_early : IsScripted verdicts (entry 1 check told.Yes ∷ []) → ⊥
unfolding verdicts check
a_default_too_early h = cc

-- of a write the number alone is planned
which_bytes_are_taken_is_left_open : IsScripted no_answers (entry 1 (call.Write side 2) (told.Took (7 ∷ 8 ∷ [])) ∷ [])
which_bytes_are_taken_is_left_open = refl

all_are_taken : IsScripted no_answers (entry 1 (call.Write side 2) (told.Took (7 ∷ [])) ∷ []) → ⊥
all_are_taken h = cc
