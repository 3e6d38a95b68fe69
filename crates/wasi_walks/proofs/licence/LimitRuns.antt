-- Runs in which the writers of a context share its limit, by computing: the replies that each gets on a network that answers so.
use Rattle.std.specs.Prelude.{◌≡◌, refl, true, ℕ, List, [], ◌∷◌, replicate}
use Rattle.wasi_addr.specs.declared.address.IpSocketAddress.{IpSocketAddress}
use Rattle.wasi_addr.specs.declared.address.IpSocketAddress.TheVariants.{Ipv4}
use Rattle.wasi_addr.specs.declared.address.SocketAddressFamily.TheVariants as family
use Rattle.wasi_world.specs.declared.call.Call.{Call}
use Rattle.wasi_world.specs.declared.call.Call.TheVariants as call
use Rattle.wasi_world.specs.declared.call.Told.{Told}
use Rattle.wasi_world.specs.declared.call.Told.TheVariants as told
use Rattle.wasi_world.specs.declared.outcome.TrapKind.TheVariants.{NotPermitted}
use Rattle.wasi_world.specs.declared.outcome.WasiSocketsCtx.{WasiSocketsCtx}
use Rattle.wasi_world.specs.Asks.{Asks, Give, Ask, AskWrite, bind}
use Rattle.wasi_world.specs.Operation.{polls}
use Rattle.host_store.specs.Machine.{first_state}
use Rattle.wasi_steps.specs.declared.guest_call.GuestCall.{GuestCall}
use Rattle.wasi_steps.specs.declared.guest_call.GuestCall.TheVariants as guest
use Rattle.wasi_steps.specs.declared.guest_call.TcpCall.TheVariants as tcp_call
use Rattle.wasi_steps.specs.declared.guest_call.NameCall.TheVariants as name_call
use Rattle.wasi_steps.specs.declared.guest_call.StreamCall.TheVariants as stream_call
use Rattle.wasi_steps.specs.declared.guest_call.PollableCall.TheVariants as pollable_call
use Rattle.wasi_steps.specs.declared.reply.Reply.{Reply}
use Rattle.wasi_steps.specs.declared.reply.Reply.TheVariants as reply
use Rattle.wasi_steps.specs.declared.step.Step.{Step}
use Rattle.wasi_steps.specs.declared.step.Step.TheVariants as step
use Rattle.wasi_steps.specs.Reply.{no_fields, number_fields, pair_fields}
use Rattle.wasi_machine.specs.Machine.{run}

-- == the network
abbrev anywhere : IpSocketAddress
anywhere = Ipv4 (record { port = 0; address = (0, 0, 0, 0) })

-- a check says yes, an address is the wildcard, and anything else is done
plain : Call → Told
plain (call.Check ctx a usage) = told.Yes
plain (call.Local side) = told.Addr anywhere
plain _ = told.Done

abbrev next_of : Told → List Told → Told
next_of other [] = other
next_of other (t ∷ ts) = t

abbrev later : List Told → List Told
later [] = []
later (t ∷ ts) = ts

-- what a tree gives where these are the first answers of writes, and of whether a writer is ready
plays : {A : Type 0} → List Told → List Told → Asks A → A
plays writes readies (Give a) = a
plays writes readies (Ask op (call.WriteReady side) next) = plays writes (later readies) (next (next_of told.Done readies))
plays writes readies (Ask op c next) = plays writes readies (next (plain c))
plays writes readies (AskWrite op sock bytes next) = plays (later writes) readies (next (next_of (told.Took bytes) writes))

-- == the runs
abbrev limited : ℕ → ℕ → WasiSocketsCtx
limited name most = record { name = name; ip_name_lookup = true; udp = true; tcp = true; write_limit = most }

abbrev to : ℕ → IpSocketAddress
to port = Ipv4 (record { port = port; address = (127, 0, 0, 1) })

abbrev by : GuestCall → Step
by c = step.Call 0 c

-- a connection, and a second one
abbrev one : List Step → List Step
one more = by (guest.Names name_call.Network) ∷ by (guest.Tcp (tcp_call.Create family.Ipv4)) ∷ by (guest.Tcp (tcp_call.StartConnect 2 1 (to 80))) ∷ by (guest.Tcp (tcp_call.FinishConnect 2)) ∷ more

abbrev two_of : ℕ → List Step → List Step
two_of c more = one (step.Call c (guest.Tcp (tcp_call.Create family.Ipv4)) ∷ step.Call c (guest.Tcp (tcp_call.StartConnect 5 1 (to 81))) ∷ step.Call c (guest.Tcp (tcp_call.FinishConnect 5)) ∷ more)

abbrev two : List Step → List Step
two more = two_of 0 more

abbrev count : ℕ → Reply
count n = reply.Ok (number_fields n)

abbrev done : Reply
done = reply.Ok no_fields

abbrev one_replies : List Reply → List Reply
one_replies more = count 1 ∷ count 2 ∷ done ∷ reply.Ok (pair_fields 3 4) ∷ more

abbrev two_replies : List Reply → List Reply
two_replies more = one_replies (count 5 ∷ done ∷ reply.Ok (pair_fields 6 7) ∷ more)

abbrev runs : ℕ → List Told → List Told → List Step → List Reply
runs most writes readies steps = (plays writes readies (run (limited 0 most ∷ []) [] first_state 1 steps)).0

abbrev sixty : List ℕ
sixty = replicate 60 97

-- what one of the writers holds isn't left to the other: a permit, and then the bytes that are to be written
shared_limit : runs 100 [] []
    (two (by (guest.Stream (stream_call.CheckWrite 4)) ∷ by (guest.Stream (stream_call.CheckWrite 7)) ∷ by (guest.Stream (stream_call.Write 4 sixty)) ∷ by (guest.Stream (stream_call.CheckWrite 7)) ∷ by (guest.Stream (stream_call.CheckWrite 4)) ∷ by (guest.Stream (stream_call.CheckWrite 7)) ∷ by (guest.Pollable (pollable_call.Drop 7)) ∷ by (guest.Stream (stream_call.CheckWrite 4)) ∷ []))
    ≡ two_replies (count 100 ∷ count 0 ∷ done ∷ count 100 ∷ count 0 ∷ count 100 ∷ done ∷ count 100 ∷ [])
unfolding bind polls plays plain
shared_limit = refl

-- bytes of a write in progress are held until they are taken
held_until_taken : runs 100 (told.Took (replicate 10 97) ∷ told.Pending ∷ []) []
    (two (by (guest.Stream (stream_call.CheckWrite 4)) ∷ by (guest.Stream (stream_call.Write 4 sixty)) ∷ by (guest.Stream (stream_call.CheckWrite 7)) ∷ step.Turn ∷ by (guest.Stream (stream_call.CheckWrite 7)) ∷ []))
    ≡ two_replies (count 100 ∷ done ∷ count 50 ∷ done ∷ count 100 ∷ [])
unfolding bind polls plays plain
held_until_taken = refl

-- where the limit is 0 nothing can be written
no_limit_left : runs 0 [] [] (one (by (guest.Stream (stream_call.CheckWrite 4)) ∷ by (guest.Stream (stream_call.Write 4 [])) ∷ by (guest.Stream (stream_call.Write 4 (1 ∷ []))) ∷ []))
    ≡ one_replies (count 0 ∷ done ∷ reply.Trap NotPermitted ∷ [])
unfolding bind polls plays plain
no_limit_left = refl

-- a permit ends with its handle, also where the drop waits
ends_with_handle : runs 100 [] (told.Done ∷ told.Done ∷ told.Pending ∷ [])
    (two (by (guest.Stream (stream_call.CheckWrite 4)) ∷ by (guest.Stream (stream_call.CheckWrite 7)) ∷ by (guest.Pollable (pollable_call.Drop 4)) ∷ step.Cancel 10 ∷ by (guest.Stream (stream_call.CheckWrite 7)) ∷ []))
    ≡ two_replies (count 100 ∷ count 0 ∷ reply.Pending 10 ∷ done ∷ count 100 ∷ [])
unfolding bind polls plays plain
ends_with_handle = refl

-- a writer is of the context that made its socket, whichever line checks it; and one that is full leaves another its limit
by_maker : (plays [] [] (run (limited 0 100 ∷ limited 1 50 ∷ []) [] first_state 1 (two_of 1 (by (guest.Stream (stream_call.CheckWrite 4)) ∷ by (guest.Stream (stream_call.CheckWrite 7)) ∷ step.Call 1 (guest.Stream (stream_call.CheckWrite 4)) ∷ step.Call 1 (guest.Stream (stream_call.CheckWrite 7)) ∷ [])))).0
    ≡ two_replies (count 100 ∷ count 50 ∷ count 100 ∷ count 50 ∷ [])
unfolding bind polls plays plain
by_maker = refl
