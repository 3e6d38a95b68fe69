-- The definitions on logs of streams of no connection, and of a splice and a read that blocks which fail: those of runs, which are
-- licensed, and others, which are not.
use Rattle.wasi_walks.proofs.Words.{Call, Entry, Give, HandleKind, IsLicensed, IsMarkOf, Left, List, Machine, None, OpId, Option, Reply, SocketAddressFamily, Some, GuestCall, Step, Told, [], bind, entry, first_state}
use Rattle.wasi_walks.proofs.Words.{IpSocketAddress, ReadState, Socket, SocketAddrUse, TcpState, WriteState, inl, inr, new_record, new_socket, no_fields, number_fields, own_of, polls, refl, run, true, wildcard, with_state, ℕ, ⊤, ◌++◌, ◌∷◌, ◌≡◌, ◌⊎◌}
use Rattle.wasi_addr.specs.declared.address.ShutdownType.TheVariants.{Receive}
use Rattle.wasi_addr.specs.declared.code.ErrorCode.TheVariants.{ConnectionReset}
use Rattle.host_store.specs.declared.kind.Kind.TheVariants as slot
use Rattle.host_store.specs.declared.kind.PlainInput.TheVariants as plain_input
use Rattle.host_store.specs.declared.kind.PlainOutput.TheVariants as plain_output
use Rattle.host_store.specs.declared.kind.Watched.TheVariants as watched
use Rattle.wasi_records.specs.declared.records.Record.TheVariants as rec
use Rattle.wasi_steps.specs.Reply.{bytes_fields, pair_fields}
use Rattle.wasi_steps.specs.declared.reply.CodeWord.TheVariants as word
use Rattle.wasi_world.specs.declared.call.HandleKind.TheVariants as kind
use Rattle.wasi_walks.specs.Licence.{HasFailed, InputFailed, OutputFailed}
use Rattle.wasi_walks.proofs.licence.Runs.{whole_licensed}
use Rattle.wasi_walks.proofs.licence.Rows.{allowed, creates}
use Rattle.wasi_walks.proofs.licence.Refused.{Each, at_line, of_each}
use Rattle.wasi_steps.specs.declared.guest_call.TcpCall.{TcpCall}
use Rattle.wasi_steps.specs.declared.guest_call.NameCall.{NameCall}
use Rattle.wasi_steps.specs.declared.guest_call.StreamCall.{StreamCall}
use Rattle.wasi_steps.specs.declared.guest_call.PipeCall.{PipeCall}
use Rattle.wasi_steps.specs.declared.guest_call.PollableCall.{PollableCall}

-- == pipes, a splice from one to the other, a pollable, and what has no end
abbrev pipe_script : List Step
pipe_script = Step.Call 0 (GuestCall.Pipe (PipeCall.In (1 ∷ 2 ∷ [])))
    ∷ Step.Call 0 (GuestCall.Pipe (PipeCall.Out 16))
    ∷ Step.Call 0 (GuestCall.Stream (StreamCall.Splice 2 1 8))
    ∷ Step.Call 0 (GuestCall.Pipe (PipeCall.Contents 2))
    ∷ Step.Call 0 (GuestCall.Pollable (PollableCall.Subscribe 1))
    ∷ Step.Call 0 (GuestCall.Pipe PipeCall.Sink)
    ∷ Step.Call 0 (GuestCall.Pipe PipeCall.ClosedIn)
    ∷ Step.Call 0 (GuestCall.Pipe PipeCall.ClosedOut)
    ∷ []

-- a handle of no network socket
abbrev plain : ℕ → ℕ → HandleKind → Option ℕ → Entry
plain line handle kind parent = entry (own_of line) (Call.Made handle kind parent None) Told.Done

abbrev pipe_log : List Entry
pipe_log = plain 1 1 kind.Input None ∷ plain 2 2 kind.Output None ∷ plain 5 3 kind.Pollable (Some 1) ∷ plain 6 4 kind.Output None ∷ plain 7 5 kind.Input None ∷ plain 8 6 kind.Output None ∷ []

abbrev pipe_replies : List Reply
pipe_replies = Reply.Ok (number_fields 1)
    ∷ Reply.Ok (number_fields 2)
    ∷ Reply.Ok (number_fields 2)
    ∷ Reply.Ok (bytes_fields (1 ∷ 2 ∷ []))
    ∷ Reply.Ok (number_fields 3)
    ∷ Reply.Ok (number_fields 4)
    ∷ Reply.Ok (number_fields 5)
    ∷ Reply.Ok (number_fields 6)
    ∷ []

abbrev piped : Machine
piped = record {
  table = record {
    next = 7;
    live = record { handle = 1; value = slot.PlainInput (plain_input.Pipe 0); parent = None }
        ∷ record { handle = 2; value = slot.PlainOutput (plain_output.Pipe 1); parent = None }
        ∷ record { handle = 3; value = slot.Pollable watched.Plain; parent = Some 1 }
        ∷ record { handle = 4; value = slot.PlainOutput plain_output.Sink; parent = None }
        ∷ record { handle = 5; value = slot.PlainInput plain_input.Closed; parent = None }
        ∷ record { handle = 6; value = slot.PlainOutput plain_output.Closed; parent = None }
        ∷ [];
  };
  store = record { records = rec.InputPipe [] ∷ rec.OutputPipe (record { held = 1 ∷ 2 ∷ []; capacity = 16 }) ∷ []; jobs = []; standing = None; beside = []; limits = [] };
}

pipe_run : Left (run allowed [] first_state 1 pipe_script) pipe_log (Give (pipe_replies, piped))
unfolding bind polls
pipe_run = ((refl, refl, tt), ((refl, refl, tt), ((refl, refl, tt), ((refl, refl, tt), ((refl, refl, tt), ((refl, refl, tt), refl))))))

pipe_licensed : IsLicensed allowed pipe_script pipe_log pipe_replies
pipe_licensed = whole_licensed allowed pipe_script pipe_log pipe_replies piped refl pipe_run

-- a pipe is marked with a network socket
with_socket : IsLicensed allowed pipe_script (entry (own_of 1) (Call.Made 1 kind.Input None (Some (own_of 1))) Told.Done ∷ []) [] → ⊥
with_socket h =
    let may = h.each [] _ [] refl in
    let m = at_line (IsMarkOf [] (own_of 1) kind.Input None (Some (own_of 1))) (Step.Call 0 (GuestCall.Pipe (PipeCall.In (1 ∷ 2 ∷ [])))) may.1.origin may.1.at may.1.holds in
    let none = m.2 in
    cc

-- == a splice from a connection to itself, whose read is answered with a code
abbrev remote : IpSocketAddress
remote = IpSocketAddress.Ipv4 (record { port = 80; address = (127, 0, 0, 1) })

abbrev connect_script : List Step
connect_script = Step.Call 0 (GuestCall.Names NameCall.Network) ∷ Step.Call 0 (GuestCall.Tcp (TcpCall.Create SocketAddressFamily.Ipv4)) ∷ Step.Call 0 (GuestCall.Tcp (TcpCall.StartConnect 2 1 remote)) ∷ Step.Call 0 (GuestCall.Tcp (TcpCall.FinishConnect 2)) ∷ []

abbrev splice_script : List Step
splice_script = connect_script ++ Step.Call 0 (GuestCall.Stream (StreamCall.Splice 4 3 8)) ∷ []

-- the network socket of the second line
abbrev its : OpId
its = own_of 2

abbrev connects : List Entry
connects = creates 0 SocketAddressFamily.Ipv4
    ++ (entry (own_of 3) (Call.Local its) (Told.Addr (wildcard SocketAddressFamily.Ipv4))
    ∷ entry (own_of 3) (Call.Check 0 (wildcard SocketAddressFamily.Ipv4) SocketAddrUse.TcpBind) Told.Yes
    ∷ entry (own_of 3) (Call.Check 0 remote SocketAddrUse.TcpConnect) Told.Yes
    ∷ entry (own_of 3) (Call.Connect its remote) Told.Done
    ∷ entry (own_of 4) (Call.Made 3 kind.Input (Some 2) (Some its)) Told.Done
    ∷ entry (own_of 4) (Call.Made 4 kind.Output (Some 2) (Some its)) Told.Done
    ∷ [])

-- it may write, and reads
abbrev reads : Told → List Entry
reads t = connects
    ++ (entry (own_of 5) (Call.WriteReady its) Told.Done
    ∷ entry (own_of 5) (Call.Read its 8) t
    ∷ entry (own_of 5) (Call.Shutdown its Receive) Told.Done
    ∷ [])

-- an error of this stream
abbrev error_of : ℕ → Entry
error_of stream = entry (own_of 5) (Call.Made 5 kind.ErrorValue (Some stream) (Some its)) Told.Done

abbrev failed : List Entry
failed = reads (Told.Code ConnectionReset) ++ error_of 3 ∷ []

abbrev connection : Socket
connection = with_state (new_socket its 0 SocketAddressFamily.Ipv4) (TcpState.Connected (record { side = its; peer = None; receive_taken = true; send_taken = true }))

-- the connection's reader is closed, and its writer has this permit
abbrev closed : ℕ → Machine
closed permit = record {
  table = record {
    next = 6;
    live = record { handle = 1; value = slot.Network; parent = None }
        ∷ record { handle = 2; value = slot.Tcp2 0; parent = None }
        ∷ record { handle = 3; value = slot.Input 0; parent = Some 2 }
        ∷ record { handle = 4; value = slot.Output 0; parent = Some 2 }
        ∷ record { handle = 5; value = slot.ErrorValue; parent = None }
        ∷ [];
  };
  store = record {
    records = rec.Tcp (record (new_record (new_socket its 0 SocketAddressFamily.Ipv4)) { inner = connection; streams = Some (record { reader = ReadState.Closed; writer = WriteState.Ready (record { side = its }) permit }) }) ∷ [];
    jobs = [];
    standing = None;
    beside = [];
    limits = record { context = 0; most = 18446744073709551615 } ∷ [];
  };
}

abbrev connect_replies : List Reply
connect_replies = Reply.Ok (number_fields 1) ∷ Reply.Ok (number_fields 2) ∷ Reply.Ok no_fields ∷ Reply.Ok (pair_fields 3 4) ∷ []

abbrev splice_replies : List Reply
splice_replies = connect_replies ++ Reply.Failed word.ConnectionReset 5 ∷ []

splice_run : Left (run allowed [] first_state 1 splice_script) failed (Give (splice_replies, closed 65536))
unfolding bind polls
splice_run = ((refl, refl, tt), ((refl, refl, tt), ((refl, refl, tt), ((refl, refl, tt), ((refl, refl, tt), ((refl, refl, tt), ((refl, refl, tt), ((refl, refl, tt), ((refl, refl, tt), ((refl, refl, tt), ((refl, refl, tt), ((refl, refl, tt), ((refl, refl, tt), refl)))))))))))))

splice_licensed : IsLicensed allowed splice_script failed splice_replies
splice_licensed = whole_licensed allowed splice_script failed splice_replies (closed 65536) refl splice_run

-- == what is looked for in a log
-- the one input is handle 3, and the one output handle 4
abbrev TheStreams : Call → Type 0
TheStreams (Call.Made handle kind.Input parent sock) = handle ≡ 3
TheStreams (Call.Made handle kind.Output parent sock) = handle ≡ 4
TheStreams _ = ⊤

-- nothing is written
abbrev NoWrite : Call → Type 0
NoWrite (Call.Write sock offered) = ⊥
NoWrite _ = ⊤

-- no read is answered with a code
abbrev NotCode : Told → Type 0
NotCode (Told.Code c) = ⊥
NotCode _ = ⊤

abbrev ReadsWell : Call → Told → Type 0
ReadsWell (Call.Read sock size) t = NotCode t
ReadsWell _ t = ⊤

-- each entry of a log of the splice is so, and where its read is
streams_of : (t : Told) → Each (λ e. TheStreams e.call) (reads t)
streams_of t = (tt, (tt, (tt, (tt, (tt, (tt, (tt, (refl, (refl, (tt, (tt, (tt, tt))))))))))))

no_write : (t : Told) → Each (λ e. NoWrite e.call) (reads t)
no_write t = (tt, (tt, (tt, (tt, (tt, (tt, (tt, (tt, (tt, (tt, (tt, (tt, tt))))))))))))

reads_well : (t : Told) → NotCode t → Each (λ e. ReadsWell e.call e.answer) (reads t)
reads_well t k = (tt, (tt, (tt, (tt, (tt, (tt, (tt, (tt, (tt, (tt, (k, (tt, tt))))))))))))

-- the call of the output didn't fail, nor did that of the input where its read was answered with no code
no_output : (t : Told) → HasFailed (reads t) (own_of 5) 4 (Some its) → ⊥
no_output t (InputFailed m f) = let same : ◌≡◌ {A = ℕ} 4 3 = of_each (λ e. TheStreams e.call) (reads t) _ (streams_of t) m.mark in absurd (cc)
no_output t (OutputFailed side m e f) = of_each (λ e. NoWrite e.call) (reads t) _ (no_write t) f.told

no_input : (t : Told) → NotCode t → HasFailed (reads t) (own_of 5) 3 (Some its) → ⊥
no_input t k (InputFailed m f) = of_each (λ e. ReadsWell e.call e.answer) (reads t) _ (reads_well t k) f.told
no_input t k (OutputFailed side m e f) = of_each (λ e. NoWrite e.call) (reads t) _ (no_write t) f.told

-- an error of the splice is of one of its ends, whose call failed
abbrev IsOfEnd : Told → ℕ → ℕ → Type 0
IsOfEnd t stream end = ◌≡◌ {A = Option ℕ} (Some stream) (Some end) × HasFailed (reads t) (own_of 5) end (Some its)

splice_error : (t : Told) (stream : ℕ) → IsLicensed allowed splice_script (reads t ++ error_of stream ∷ []) [] → IsOfEnd t stream 4 ⊎ IsOfEnd t stream 3
splice_error t stream h =
    let may = h.each (reads t) (error_of stream) [] refl in
    elim (at_line (IsMarkOf (reads t) (own_of 5) kind.ErrorValue (Some stream) (Some its)) (Step.Call 0 (GuestCall.Stream (StreamCall.Splice 4 3 8))) may.1.origin may.1.at may.1.holds) [
      | inl m ↦ inl (m.1.0, m.2)
      | inr m ↦ inr (m.1.0, m.2)
    ]

-- == the error is marked as of the other end
of_output : IsLicensed allowed splice_script (reads (Told.Code ConnectionReset) ++ error_of 4 ∷ []) [] → ⊥
of_output h = elim (splice_error (Told.Code ConnectionReset) 4 h) [ inl m ↦ no_output (Told.Code ConnectionReset) m.1 | inr m ↦ absurd (let same = m.0 in cc) ]

-- == an error is marked, and no call failed
of_none : IsLicensed allowed splice_script (reads (Told.Bytes []) ++ error_of 3 ∷ []) [] → ⊥
of_none h = elim (splice_error (Told.Bytes []) 3 h) [ inl m ↦ absurd (let same = m.0 in cc) | inr m ↦ no_input (Told.Bytes []) tt m.1 ]

-- == a read that blocks, and fails once it is polled: its error is of the line that began it
abbrev blocks_script : List Step
blocks_script = connect_script ++ (Step.Call 0 (GuestCall.Stream (StreamCall.BlockingRead 3 8)) ∷ Step.Poll 5 ∷ [])

abbrev blocks : List Entry
blocks = connects
    ++ (entry (own_of 5) (Call.ReadReady its) Told.Pending
    ∷ entry (own_of 5) (Call.ReadReady its) Told.Done
    ∷ entry (own_of 5) (Call.Read its 8) (Told.Code ConnectionReset)
    ∷ entry (own_of 5) (Call.Shutdown its Receive) Told.Done
    ∷ [])

-- an error by this line
abbrev error_by : ℕ → Entry
error_by line = entry (own_of line) (Call.Made 5 kind.ErrorValue (Some 3) (Some its)) Told.Done

abbrev blocks_replies : List Reply
blocks_replies = connect_replies ++ (Reply.Pending 5 ∷ Reply.Failed word.ConnectionReset 5 ∷ [])

blocks_run : Left (run allowed [] first_state 1 blocks_script) (blocks ++ error_by 5 ∷ []) (Give (blocks_replies, closed 0))
unfolding bind polls
blocks_run = ((refl, refl, tt), ((refl, refl, tt), ((refl, refl, tt), ((refl, refl, tt), ((refl, refl, tt), ((refl, refl, tt), ((refl, refl, tt), ((refl, refl, tt), ((refl, refl, tt), ((refl, refl, tt), ((refl, refl, tt), ((refl, refl, tt), ((refl, refl, tt), ((refl, refl, tt), refl))))))))))))))

blocks_licensed : IsLicensed allowed blocks_script (blocks ++ error_by 5 ∷ []) blocks_replies
blocks_licensed = whole_licensed allowed blocks_script (blocks ++ error_by 5 ∷ []) blocks_replies (closed 0) refl blocks_run

-- the line of the poll marks none
by_the_poll : IsLicensed allowed blocks_script (blocks ++ error_by 6 ∷ []) [] → ⊥
by_the_poll h =
    let may = h.each blocks (error_by 6) [] refl in
    at_line (IsMarkOf blocks (own_of 6) kind.ErrorValue (Some 3) (Some its)) (Step.Poll 5) may.1.origin may.1.at may.1.holds
