-- The definitions on a log of a call for several pollables: one line begins several accepts, and the log is licensed.
use Rattle.wasi_walks.proofs.Words.{Call, Entry, Give, IpSocketAddress, IsLicensed, Left, List, Machine, None, Reply, SocketAddrUse, SocketAddressFamily, Some, GuestCall, Step, Told, []}
use Rattle.wasi_walks.proofs.Words.{bind, entry, first_state, no_fields, number_fields, own_of, polls, refl, run, triple_fields, wildcard, ◌++◌, ◌∷◌}
use Rattle.wasi_world.specs.Asks.{Asks, Ask}
use Rattle.wasi_steps.specs.Reply.{numbers_fields}
use Rattle.wasi_walks.proofs.licence.ListenRows.{listens_by}
use Rattle.wasi_walks.proofs.licence.Refused.{local_81}
use Rattle.wasi_walks.proofs.licence.Rows.{allowed, bind_log, bind_script}
use Rattle.wasi_walks.proofs.licence.Runs.{whole_licensed}
use Rattle.wasi_walks.proofs.walks.Moves.{part_of}
use Rattle.wasi_world.specs.declared.call.HandleKind.TheVariants as kind
use Rattle.wasi_steps.specs.declared.guest_call.TcpCall.{TcpCall}
use Rattle.wasi_steps.specs.declared.guest_call.PollableCall.{PollableCall}

-- two listeners, with a pollable each; the call names the first of these twice
abbrev script : List Step
script = bind_script
    ++ (Step.Call 0 (GuestCall.Tcp (TcpCall.StartListen 2))
    ∷ Step.Call 0 (GuestCall.Tcp (TcpCall.FinishListen 2))
    ∷ Step.Call 0 (GuestCall.Pollable (PollableCall.Subscribe 2))
    ∷ Step.Call 0 (GuestCall.Tcp (TcpCall.Create SocketAddressFamily.Ipv4))
    ∷ Step.Call 0 (GuestCall.Tcp (TcpCall.StartBind 4 1 local_81))
    ∷ Step.Call 0 (GuestCall.Tcp (TcpCall.FinishBind 4))
    ∷ Step.Call 0 (GuestCall.Tcp (TcpCall.StartListen 4))
    ∷ Step.Call 0 (GuestCall.Tcp (TcpCall.FinishListen 4))
    ∷ Step.Call 0 (GuestCall.Pollable (PollableCall.Subscribe 4))
    ∷ Step.Call 0 (GuestCall.Pollable (PollableCall.PollList (3 ∷ 5 ∷ 3 ∷ [])))
    ∷ Step.Poll 14
    ∷ Step.Call 0 (GuestCall.Tcp (TcpCall.Accept 4))
    ∷ [])

abbrev peer : IpSocketAddress
peer = IpSocketAddress.Ipv4 (record { port = 7; address = (127, 0, 0, 1) })

-- the second listener
abbrev second : List Entry
second = entry (own_of 8) (Call.TcpCreate 0 SocketAddressFamily.Ipv4) Told.Done
    ∷ entry (own_of 8) (Call.Made 4 kind.Tcp2 None (Some (own_of 8))) Told.Done
    ∷ entry (own_of 9) (Call.Local (own_of 8)) (Told.Addr (wildcard SocketAddressFamily.Ipv4))
    ∷ entry (own_of 9) (Call.Check 0 local_81 SocketAddrUse.TcpBind) Told.Yes
    ∷ entry (own_of 9) (Call.Bind (own_of 8) local_81) Told.Done
    ∷ entry (own_of 11) (Call.Local (own_of 8)) (Told.Addr local_81)
    ∷ entry (own_of 11) (Call.Local (own_of 8)) (Told.Addr local_81)
    ∷ entry (own_of 11) (Call.Check 0 local_81 SocketAddrUse.TcpListen) Told.Yes
    ∷ entry (own_of 11) (Call.Listen (own_of 8) 128) Told.Done
    ∷ []

-- the call begins an accept on each, by two names of its line; the poll of it asks by these again
abbrev accepts : List Entry
accepts = entry (part_of 14 1) (Call.Accept (own_of 2)) Told.Pending
    ∷ entry (part_of 14 2) (Call.Accept (own_of 8)) Told.Pending
    ∷ entry (part_of 14 1) (Call.Accept (own_of 2)) Told.Pending
    ∷ entry (part_of 14 2) (Call.Accept (own_of 8)) (Told.Arrived peer)
    ∷ entry (part_of 14 2) (Call.Check 0 peer SocketAddrUse.TcpAccept) Told.Yes
    ∷ entry (part_of 14 2) (Call.Hand (own_of 8) peer) Told.Done
    ∷ entry (own_of 16) (Call.Made 6 kind.Tcp2 (Some 4) (Some (part_of 14 2))) Told.Done
    ∷ entry (own_of 16) (Call.Made 7 kind.Input (Some 6) (Some (part_of 14 2))) Told.Done
    ∷ entry (own_of 16) (Call.Made 8 kind.Output (Some 6) (Some (part_of 14 2))) Told.Done
    ∷ []

abbrev log : List Entry
log = bind_log
    ++ (listens_by (own_of 5) 128 Told.Done
    ++ (entry (own_of 7) (Call.Made 3 kind.Pollable (Some 2) (Some (own_of 2))) Told.Done ∷ second
    ++ (entry (own_of 13) (Call.Made 5 kind.Pollable (Some 4) (Some (own_of 8))) Told.Done ∷ accepts)))

-- the poll finds the second place ready
abbrev replies : List Reply
replies = Reply.Ok (number_fields 1)
    ∷ Reply.Ok (number_fields 2)
    ∷ Reply.Ok no_fields
    ∷ Reply.Ok no_fields
    ∷ Reply.Ok no_fields
    ∷ Reply.Ok no_fields
    ∷ Reply.Ok (number_fields 3)
    ∷ Reply.Ok (number_fields 4)
    ∷ Reply.Ok no_fields
    ∷ Reply.Ok no_fields
    ∷ Reply.Ok no_fields
    ∷ Reply.Ok no_fields
    ∷ Reply.Ok (number_fields 5)
    ∷ Reply.Pending 14
    ∷ Reply.Ok (numbers_fields (1 ∷ []))
    ∷ Reply.Ok (triple_fields 6 7 8)
    ∷ []

-- what a tree leaves of the machine by these answers
abbrev left_by : Asks (List Reply × Machine) → List Entry → Machine
left_by (Ask op call next) (e ∷ es) = left_by (next e.answer) es
left_by (Give done) [] = done.1
left_by _ _ = first_state

abbrev end : Machine
end = left_by (run allowed [] first_state 1 script) log

poll_run : (m : Machine) × Left (run allowed [] first_state 1 script) log (Give (replies, m))
unfolding bind polls
poll_run = (end, ((refl, refl, tt), ((refl, refl, tt), ((refl, refl, tt), ((refl, refl, tt), ((refl, refl, tt), ((refl, refl, tt), ((refl, refl, tt), ((refl, refl, tt), ((refl, refl, tt), ((refl, refl, tt), ((refl, refl, tt), ((refl, refl, tt), ((refl, refl, tt), ((refl, refl, tt), ((refl, refl, tt), ((refl, refl, tt), ((refl, refl, tt), ((refl, refl, tt), ((refl, refl, tt), ((refl, refl, tt), ((refl, refl, tt), ((refl, refl, tt), ((refl, refl, tt), ((refl, refl, tt), ((refl, refl, tt), ((refl, refl, tt), ((refl, refl, tt), ((refl, refl, tt), ((refl, refl, tt), ((refl, refl, tt), refl {a = Give (replies, end)})))))))))))))))))))))))))))))))

poll_licensed : IsLicensed allowed script log replies
poll_licensed = whole_licensed allowed script log replies poll_run.0 refl poll_run.1
