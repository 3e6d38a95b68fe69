-- The machine that does a script's steps: what each asks, returns and leaves, and the run of the steps.
use Rattle.std.specs.Prelude.{◌≡◌, ℕ, ◌+◌, ◌&&◌, ◌||◌, not, length, Bool, true, false, if◌then◌else◌, List, [], ◌∷◌, ◌++◌, Option, Some, None, is_some, Result, Ok, Err, slice_get}
use Rattle.wasi_addr.specs.declared.address.IpSocketAddress.{IpSocketAddress}
use Rattle.wasi_addr.specs.declared.address.SocketAddressFamily.{SocketAddressFamily}
use Rattle.wasi_addr.specs.declared.p2.ErrorCode.{ErrorCode as P2Code}
use Rattle.wasi_addr.specs.declared.p3.ErrorCode.{ErrorCode as P3Code}
use Rattle.wasi_addr.specs.Code.{p2_of_code}
use Rattle.wasi_world.specs.declared.ids.OpId.{OpId}
use Rattle.wasi_world.specs.declared.outcome.Answer.{Answer}
use Rattle.wasi_world.specs.declared.outcome.Answer.TheVariants.{Ready, Pending}
use Rattle.wasi_world.specs.declared.outcome.WasiSocketsCtx.{WasiSocketsCtx}
use Rattle.wasi_world.specs.declared.call.Entry.{Entry}
use Rattle.wasi_world.specs.Contexts.{default_context}
use Rattle.wasi_world.specs.Asks.{Asks, Give, bind, Left}
use Rattle.host_store.specs.declared.machine.Machine.{Machine}
use Rattle.wasi_host.specs.declared.pending.Outcome.{Outcome}
use Rattle.wasi_host.specs.declared.pending.Outcome.TheVariants.{Nothing, One, Two, Count, Bytes, Places}
use Rattle.wasi_host.specs.declared.pending.Outcome.TheVariants as outcome
use Rattle.host_store.specs.declared.store.Standing.{Standing}
use Rattle.record_common.specs.Stops.{Stop, StopOf, Code, Trap}
use Rattle.tcp_records.specs.declared.slot.StreamResult.{StreamResult}
use Rattle.tcp_records.specs.declared.slot.StreamResult.TheVariants.{Completed, Dropped, Cancelled}
use Rattle.host_store.specs.CallStops.{CallStop, Failed, Closed, Traps}
use Rattle.host_store.specs.Machine.{first_state, own_of, socket_at, udp_socket_at, incoming_at, outgoing_at, lookup_number}
use Rattle.host_tcp.specs.Creates.{create_asks}
use Rattle.wasi_host.specs.Pollables.{subscribe_asks, ready_asks}
use Rattle.wasi_host.specs.HandleDrops.{drop_asks}
use Rattle.wasi_host.specs.Turns.{turn_machine_asks}
use Rattle.host_store.specs.declared.kind.Kind.TheVariants.{PlainInput, PlainOutput}
use Rattle.host_store.specs.declared.kind.PlainInput.TheVariants as plain_input
use Rattle.host_store.specs.declared.kind.PlainOutput.TheVariants as plain_output
use Rattle.host_streams.specs.PlainStreams.{input_pipe_asks, output_pipe_asks, plain_asks, contents_asks}
use Rattle.host_streams.specs.StreamCalls.{read_asks, skip_asks, check_asks, write_asks, write_zeroes_asks, flushed_asks, splice_asks}
use Rattle.host_streams.specs.Blocking.{blocking_read_asks, blocking_skip_asks, blocking_write_asks, blocking_zeroes_asks, blocking_flush_asks, blocking_splice_asks}
use Rattle.wasi_host.specs.Cancel.{cancel_asks}
pub use Rattle.record_common.specs.Names.{first_ids}
use Rattle.tcp_records.specs.InProgress.{is_bind, is_listen}
use Rattle.wasi_host.specs.Pending.{resume_asks}
use Rattle.wasi_host.specs.Polling.{block_by, poll_asks}
use Rattle.host_store.specs.Standing.{stands_as}
use Rattle.host_store.specs.Store.{Records}
use Rattle.wasi_host.specs.declared.polling.Look.TheVariants.{First}
use Rattle.host_udp.specs.UdpCreates.{create_udp_asks}
use Rattle.wasi_p2.specs.Tcp.{network_asks, start_bind_asks, finish_on, start_connect_asks, finish_connect, local_address, remote_address, is_listening, address_family, shutdown_on, start_listen_on, accept_asks}
use Rattle.wasi_p2.specs.Options.{get_option_on, set_option_on, set_backlog_on}
use Rattle.wasi_p2.specs.Lookup.{resolve_asks, next_address_on, error_code_on}
use Rattle.wasi_p2.specs.Udp.{start_udp_bind_asks, finish_udp_bind_on, udp_local_on, udp_remote_on, udp_family_on, get_udp_option_on, set_udp_option_on, udp_stream_asks, check_send_on, send_datagrams_on, receive_datagrams_on}
use Rattle.host_store.specs.Beside.{beside_of}
use Rattle.host_store.specs.Block.{Does}
use Rattle.host_lookups.specs.Resolves.{Resolved}
use Rattle.wasi_p3.specs.Stops.{P3Stop}
use Rattle.wasi_p3.specs.Listening as listening3
use Rattle.wasi_p3.specs.Lookup as lookup3
use Rattle.wasi_p3.specs.Tcp as p3
use Rattle.wasi_p3.specs.Udp as udp3
use Rattle.wasi_p3.specs.Streams as streams3
use Rattle.wasi_steps.specs.declared.fields.NoCode.{NoCode}
use Rattle.wasi_steps.specs.declared.reply.CodeWord.{CodeWord}
use Rattle.wasi_steps.specs.declared.reply.Field.{Field}
use Rattle.wasi_steps.specs.declared.reply.Reply.{Reply}
use Rattle.wasi_steps.specs.declared.reply.Reply.TheVariants as reply
use Rattle.wasi_steps.specs.declared.guest_call.GuestCall.{GuestCall}
use Rattle.wasi_steps.specs.declared.step.Step.{Step}
use Rattle.wasi_steps.specs.declared.guest_call.GuestCall.TheVariants as guest
use Rattle.wasi_steps.specs.declared.guest_call.TcpCall.TheVariants as tcp_call
use Rattle.wasi_steps.specs.declared.guest_call.UdpCall.TheVariants as udp_call
use Rattle.wasi_steps.specs.declared.guest_call.NameCall.TheVariants as name_call
use Rattle.wasi_steps.specs.declared.guest_call.StreamCall.TheVariants as stream_call
use Rattle.wasi_steps.specs.declared.guest_call.PipeCall.TheVariants as pipe_call
use Rattle.wasi_steps.specs.declared.guest_call.PollableCall.TheVariants as pollable_call
use Rattle.wasi_steps.specs.declared.guest_call.P3TcpCall.TheVariants as p3_tcp_call
use Rattle.wasi_steps.specs.declared.guest_call.P3UdpCall.TheVariants as p3_udp_call
use Rattle.wasi_steps.specs.declared.guest_call.P3NameCall.TheVariants as p3_name_call
use Rattle.wasi_steps.specs.declared.step.Step.TheVariants as step
use Rattle.wasi_steps.specs.Reply.{word_of_p2, word_of_p3, word_of_lookup, is_trap, no_fields, no_values, number_fields, numbers_fields, handed_fields, pair_fields, pair_values, datagram_values, received_values, triple_values, bytes_fields, truth_fields, family_fields, address_values, found_values, ips_values, absent_values}
use Rattle.wasi_steps.specs.Settings.{Chosen, AnOption, TheBacklog, chosen, udp_opt, udp_chosen}
use Rattle.wasi_steps.specs.Steps.{context_of}

-- == replies
-- of a call with codes of this type, by the words of its codes
abbrev pub stop_as : {C : Type 0} → (C → CodeWord) → StopOf C → Reply
stop_as word (Code c) = reply.Err (word c)
stop_as word (Trap kind) = reply.Trap kind

abbrev pub stop_reply : Stop → Reply
stop_reply stop = stop_as word_of_p2 stop

-- and by the fields that say what it gives
abbrev pub reply_as : {A C : Type 0} → (C → CodeWord) → (A → List Field) → Result A (StopOf C) → Reply
reply_as word fields (Ok value) = reply.Ok (fields value)
reply_as word fields (Err stop) = stop_as word stop

abbrev pub reply_of : {A : Type 0} → (A → List Field) → Result A Stop → Reply
reply_of fields told = reply_as word_of_p2 fields told

-- of a call of 0.3
abbrev pub p3_reply : {A : Type 0} → (A → List Field) → Result A P3Stop → Reply
p3_reply fields told = reply_as word_of_p3 fields told

abbrev pub handle_reply : Result ℕ Stop → Reply
handle_reply = reply_of number_fields

abbrev pub value_reply : Result ℕ Stop → Reply
value_reply = reply_of number_fields

abbrev pub done_reply : Result (Unit {0}) Stop → Reply
done_reply = reply_of no_values

abbrev pub pair_reply : Result (ℕ × ℕ) Stop → Reply
pair_reply = reply_of pair_values

abbrev pub triple_reply : Result (ℕ × ℕ × ℕ) Stop → Reply
triple_reply = reply_of triple_values

abbrev pub address_reply : Result IpSocketAddress Stop → Reply
address_reply = reply_of address_values

abbrev pub truth_reply : Result Bool Stop → Reply
truth_reply = reply_of truth_fields

abbrev pub family_reply : Result SocketAddressFamily Stop → Reply
family_reply = reply_of family_fields

-- of a call that never gives a code
abbrev pub without_code : Result (Option P2Code) Stop → Result NoCode Stop
without_code (Ok code) = Ok (record {})
without_code (Err stop) = Err stop

-- of a call of a stream
abbrev pub call_stop_reply : CallStop → Reply
call_stop_reply (Failed c e) = reply.Failed (word_of_p2 (p2_of_code c)) e
call_stop_reply Closed = reply.Closed
call_stop_reply (Traps kind) = reply.Trap kind

abbrev pub stream_reply_of : {A : Type 0} → (A → List Field) → Result A CallStop → Reply
stream_reply_of fields (Ok value) = reply.Ok (fields value)
stream_reply_of fields (Err stop) = call_stop_reply stop

abbrev pub bytes_reply : Result (List ℕ) CallStop → Reply
bytes_reply = stream_reply_of bytes_fields

abbrev pub permit_reply : Result ℕ CallStop → Reply
permit_reply = stream_reply_of number_fields

abbrev pub taken_reply : Result (Unit {0}) CallStop → Reply
taken_reply = stream_reply_of no_values

-- of one that may be pending under its line's number
abbrev pub blocked_reply_of : {A : Type 0} → (A → List Field) → ℕ → Result (Answer A) CallStop → Reply
blocked_reply_of fields line (Ok (Ready value)) = reply.Ok (fields value)
blocked_reply_of fields line (Ok Pending) = reply.Pending line
blocked_reply_of fields line (Err stop) = call_stop_reply stop

-- a call that is pending is kept under its line's number
abbrev pub answer_reply_of : {A : Type 0} → (A → List Field) → ℕ → Result (Answer A) Stop → Reply
answer_reply_of fields line (Ok (Ready value)) = reply.Ok (fields value)
answer_reply_of fields line (Ok Pending) = reply.Pending line
answer_reply_of fields line (Err stop) = stop_reply stop

-- the same of a call of 0.3
abbrev pub p3_answer_reply : {A : Type 0} → (A → List Field) → ℕ → Result (Answer A) P3Stop → Reply
p3_answer_reply fields line (Ok (Ready value)) = reply.Ok (fields value)
p3_answer_reply fields line (Ok Pending) = reply.Pending line
p3_answer_reply fields line (Err stop) = stop_as word_of_p3 stop

-- of one poll of an end of 0.3; one that is the last is never pending
abbrev pub stream_result_reply : {A : Type 0} → (A → List Field) → Result (Answer (StreamResult A)) P3Stop → Reply
stream_result_reply fields (Ok (Ready (Completed value))) = reply.Ok (fields value)
stream_result_reply fields (Ok (Ready Dropped)) = reply.Dropped
stream_result_reply fields (Ok (Ready Cancelled)) = reply.Cancelled
stream_result_reply fields (Ok Pending) = reply.Cancelled
stream_result_reply fields (Err stop) = stop_as word_of_p3 stop

-- of a result slot
abbrev pub slot_reply : Result (Option (Result (Unit {0}) P3Code)) P3Stop → Reply
slot_reply (Ok None) = reply.Unfilled
slot_reply (Ok (Some (Ok done))) = reply.Ok no_fields
slot_reply (Ok (Some (Err c))) = reply.Err (word_of_p3 c)
slot_reply (Err stop) = stop_as word_of_p3 stop

-- of a lookup of 0.3, which has codes of its own
abbrev pub lookup_reply : ℕ → Resolved → Reply
lookup_reply line (Ok (Ready addresses)) = reply.Ok (ips_values addresses)
lookup_reply line (Ok Pending) = reply.Pending line
lookup_reply line (Err stop) = stop_as word_of_lookup stop

abbrev pub answer_reply : ℕ → Result (Answer (Unit {0})) Stop → Reply
answer_reply = answer_reply_of no_values

-- of a call that was resumed
abbrev pub outcome_reply : ℕ → Answer Outcome → Reply
outcome_reply line (Ready Nothing) = reply.Ok no_fields
outcome_reply line (Ready (One handle)) = reply.Ok (number_fields handle)
outcome_reply line (Ready (Two first second)) = reply.Ok (pair_fields first second)
outcome_reply line (Ready (Count n)) = reply.Ok (number_fields n)
outcome_reply line (Ready (Bytes bytes)) = reply.Ok (bytes_fields bytes)
outcome_reply line (Ready (outcome.Failed c e)) = call_stop_reply (Failed c e)
outcome_reply line (Ready outcome.Closed) = reply.Closed
outcome_reply line (Ready (Places places)) = reply.Ok (numbers_fields places)
outcome_reply line (Ready (outcome.Refused c)) = reply.Err (word_of_p3 c)
outcome_reply line (Ready (outcome.Addresses addresses)) = reply.Ok (ips_values addresses)
outcome_reply line (Ready (outcome.Unresolved c)) = reply.Err (word_of_lookup c)
outcome_reply line (Ready (outcome.Datagram d)) = reply.Ok (received_values d)
outcome_reply line Pending = reply.Pending line

abbrev pub resumed_reply : ℕ → Result (Option (Answer Outcome)) Stop → Reply
resumed_reply line (Ok None) = reply.NoSuchCall
resumed_reply line (Ok (Some answer)) = outcome_reply line answer
resumed_reply line (Err stop) = stop_reply stop

-- of a cancel, by whether there was such a call
abbrev pub cancelled_reply : Bool → Reply
cancelled_reply true = reply.Ok no_fields
cancelled_reply false = reply.NoSuchCall

-- == settings
-- sets the option or the backlog that was chosen
abbrev pub set_chosen : Machine → OpId → Option ℕ → Chosen → Asks (Result (Unit {0}) Stop × Machine)
set_chosen m own found (AnOption option value) = set_option_on m own option value found
set_chosen m own found (TheBacklog value) = set_backlog_on m own value found

-- of a socket of 0.3
abbrev pub set_p3 : OpId → ℕ → Chosen → Does P3Code Machine (Unit {0})
set_p3 own socket (AnOption option value) = p3.set_option own socket option value
set_p3 own socket (TheBacklog value) = p3.set_backlog own socket value

-- == steps
-- a context that isn't there is allowed nothing
abbrev pub context_in : Option WasiSocketsCtx → WasiSocketsCtx
context_in (Some ctx) = ctx
context_in None = default_context

abbrev pub context_at : List WasiSocketsCtx → ℕ → WasiSocketsCtx
context_at contexts n = context_in (slice_get contexts n)

abbrev pub call_asks : WasiSocketsCtx → Machine → ℕ → GuestCall → Asks (Reply × Machine)
call_asks ctx m line (guest.Names name_call.Network) = bind (network_asks m (own_of line)) (λ done. Give (reply_of number_fields done.0, done.1))
call_asks ctx m line (guest.Tcp (tcp_call.Create family)) = bind (create_asks m (own_of line) ctx family) (λ done. Give (reply_of number_fields done.0, done.1))
call_asks ctx m line (guest.Tcp (tcp_call.StartBind s n a)) = bind (start_bind_asks m (first_ids line) s n a) (λ done. Give (answer_reply_of no_values line done.0, done.1))
call_asks ctx m line (guest.Tcp (tcp_call.FinishBind s)) = let done = finish_on is_bind m (socket_at m s) in Give (reply_of no_values done.0, done.1)
call_asks ctx m line (guest.Tcp (tcp_call.StartConnect s n a)) = bind (start_connect_asks m (own_of line) s n a) (λ done. Give (reply_of no_values done.0, done.1))
call_asks ctx m line (guest.Tcp (tcp_call.FinishConnect s)) = bind (finish_connect (own_of line) s m) (λ done. Give (reply_of pair_values done.0, done.1))
call_asks ctx m line (guest.Tcp (tcp_call.StartListen s)) = bind (start_listen_on m (first_ids line) (socket_at m s)) (λ done. Give (answer_reply_of no_values line done.0, done.1))
call_asks ctx m line (guest.Tcp (tcp_call.FinishListen s)) = let done = finish_on is_listen m (socket_at m s) in Give (reply_of no_values done.0, done.1)
call_asks ctx m line (guest.Tcp (tcp_call.Accept s)) = bind (accept_asks m (first_ids line) s) (λ done. Give (reply_of triple_values done.0, done.1))
call_asks ctx m line (guest.Tcp (tcp_call.LocalAddress s)) = bind (local_address (own_of line) s m) (λ done. Give (reply_of address_values done.0, done.1))
call_asks ctx m line (guest.Tcp (tcp_call.RemoteAddress s)) = bind (remote_address (own_of line) s m) (λ done. Give (reply_of address_values done.0, done.1))
call_asks ctx m line (guest.Tcp (tcp_call.IsListening s)) = Give (reply_of truth_fields (is_listening m s), m)
call_asks ctx m line (guest.Tcp (tcp_call.AddressFamily s)) = Give (reply_of family_fields (address_family m s), m)
call_asks ctx m line (guest.Tcp (tcp_call.Get s option)) = bind (get_option_on m (own_of line) option (socket_at m s)) (λ done. Give (reply_of number_fields done.0, done.1))
call_asks ctx m line (guest.Tcp (tcp_call.Set s setting)) = bind (set_chosen m (own_of line) (socket_at m s) (chosen setting)) (λ done. Give (reply_of no_values done.0, done.1))
call_asks ctx m line (guest.Udp (udp_call.Create family)) = bind (create_udp_asks m (first_ids line) ctx family) (λ done. Give (answer_reply_of number_fields line done.0, done.1))
call_asks ctx m line (guest.Udp (udp_call.StartBind s n a)) = bind (start_udp_bind_asks m (first_ids line) s n a) (λ done. Give (answer_reply_of no_values line done.0, done.1))
call_asks ctx m line (guest.Udp (udp_call.FinishBind s)) = let done = finish_udp_bind_on m (udp_socket_at m s) in Give (reply_of no_values done.0, done.1)
call_asks ctx m line (guest.Udp (udp_call.LocalAddress s)) = bind (udp_local_on m (own_of line) (udp_socket_at m s)) (λ done. Give (reply_of address_values done.0, done.1))
call_asks ctx m line (guest.Udp (udp_call.RemoteAddress s)) = Give (reply_of address_values (udp_remote_on m (udp_socket_at m s)), m)
call_asks ctx m line (guest.Udp (udp_call.AddressFamily s)) = Give (reply_of family_fields (udp_family_on m (udp_socket_at m s)), m)
call_asks ctx m line (guest.Udp (udp_call.Get s option)) = bind (get_udp_option_on m (own_of line) (udp_opt option) (udp_socket_at m s)) (λ done. Give (reply_of number_fields done.0, done.1))
call_asks ctx m line (guest.Udp (udp_call.Set s setting)) = bind (set_udp_option_on m (own_of line) (udp_chosen setting).0 (udp_chosen setting).1 (udp_socket_at m s)) (λ done. Give (reply_of no_values done.0, done.1))
call_asks ctx m line (guest.Udp (udp_call.Stream s remote)) = bind (udp_stream_asks m (first_ids line) s remote) (λ done. Give (answer_reply_of pair_values line done.0, done.1))
call_asks ctx m line (guest.Udp (udp_call.Receive incoming most)) = bind (receive_datagrams_on m (first_ids line) most (incoming_at m incoming)) (λ done. Give (reply_of datagram_values done.0, done.1))
call_asks ctx m line (guest.Udp (udp_call.CheckSend outgoing)) = let done = check_send_on m (outgoing_at m outgoing) in Give (reply_of number_fields done.0, done.1)
call_asks ctx m line (guest.Udp (udp_call.Send outgoing datagrams)) = bind (send_datagrams_on m (first_ids line) datagrams (outgoing_at m outgoing)) (λ done. Give (reply_of number_fields done.0, done.1))
call_asks ctx m line (guest.Names (name_call.Resolve n name)) = bind (resolve_asks m (own_of line) ctx n name) (λ done. Give (reply_of number_fields done.0, done.1))
call_asks ctx m line (guest.Names (name_call.ResolveNext lookup)) = let done = next_address_on m (lookup_number m lookup) in Give (reply_of found_values done.0, done.1)
call_asks ctx m line (guest.Names (name_call.NetworkErrorCode e)) = Give (reply_of absent_values (without_code (error_code_on m e)), m)
call_asks ctx m line (guest.Stream (stream_call.Read input len)) = bind (read_asks m (own_of line) input len) (λ done. Give (stream_reply_of bytes_fields done.0, done.1))
call_asks ctx m line (guest.Stream (stream_call.CheckWrite output)) = bind (check_asks m (own_of line) output) (λ done. Give (stream_reply_of number_fields done.0, done.1))
call_asks ctx m line (guest.Stream (stream_call.Write output bytes)) = bind (write_asks m (own_of line) output bytes) (λ done. Give (stream_reply_of no_values done.0, done.1))
call_asks ctx m line (guest.Stream (stream_call.Flush output)) = bind (flushed_asks m (own_of line) output) (λ done. Give (stream_reply_of no_values done.0, done.1))
call_asks ctx m line (guest.Pollable (pollable_call.Subscribe h)) = bind (subscribe_asks m (own_of line) h) (λ done. Give (reply_of number_fields done.0, done.1))
call_asks ctx m line (guest.Pollable (pollable_call.Ready p)) = bind (ready_asks m (first_ids line) p) (λ done. Give (reply_of truth_fields done.0, done.1))
call_asks ctx m line (guest.Pollable (pollable_call.Block p)) = bind (block_by First m (first_ids line) p) (λ done. Give (answer_reply_of no_values line done.0, done.1))
call_asks ctx m line (guest.Pollable (pollable_call.PollList ps)) = bind (poll_asks m (first_ids line) ps) (λ done. Give (answer_reply_of numbers_fields line done.0, done.1))
call_asks ctx m line (guest.Pollable (pollable_call.Drop h)) = bind (drop_asks m (first_ids line) h) (λ done. Give (answer_reply_of no_values line done.0, done.1))
call_asks ctx m line (guest.Tcp (tcp_call.Shutdown s how)) = bind (shutdown_on m (own_of line) how (socket_at m s)) (λ done. Give (reply_of no_values done.0, done.1))
call_asks ctx m line (guest.Pipe (pipe_call.In bytes)) = bind (input_pipe_asks m (own_of line) bytes) (λ done. Give (reply_of number_fields done.0, done.1))
call_asks ctx m line (guest.Pipe (pipe_call.Out capacity)) = bind (output_pipe_asks m (own_of line) capacity) (λ done. Give (reply_of number_fields done.0, done.1))
call_asks ctx m line (guest.Pipe (pipe_call.Contents output)) = Give (reply_of bytes_fields (contents_asks m output), m)
call_asks ctx m line (guest.Pipe pipe_call.Sink) = bind (plain_asks m (own_of line) (PlainOutput plain_output.Sink)) (λ done. Give (reply_of number_fields done.0, done.1))
call_asks ctx m line (guest.Pipe pipe_call.ClosedIn) = bind (plain_asks m (own_of line) (PlainInput plain_input.Closed)) (λ done. Give (reply_of number_fields done.0, done.1))
call_asks ctx m line (guest.Pipe pipe_call.ClosedOut) = bind (plain_asks m (own_of line) (PlainOutput plain_output.Closed)) (λ done. Give (reply_of number_fields done.0, done.1))
call_asks ctx m line (guest.Stream (stream_call.Skip input len)) = bind (skip_asks m (own_of line) input len) (λ done. Give (stream_reply_of number_fields done.0, done.1))
call_asks ctx m line (guest.Stream (stream_call.WriteZeroes output len)) = bind (write_zeroes_asks m (own_of line) output len) (λ done. Give (stream_reply_of no_values done.0, done.1))
call_asks ctx m line (guest.Stream (stream_call.Splice output input len)) = bind (splice_asks m (own_of line) output input len) (λ done. Give (stream_reply_of number_fields done.0, done.1))
call_asks ctx m line (guest.Stream (stream_call.BlockingRead input len)) = bind (blocking_read_asks m (first_ids line) input len) (λ done. Give (blocked_reply_of bytes_fields line done.0, done.1))
call_asks ctx m line (guest.Stream (stream_call.BlockingSkip input len)) = bind (blocking_skip_asks m (first_ids line) input len) (λ done. Give (blocked_reply_of number_fields line done.0, done.1))
call_asks ctx m line (guest.Stream (stream_call.BlockingWrite output bytes)) = bind (blocking_write_asks m (first_ids line) output bytes) (λ done. Give (blocked_reply_of no_values line done.0, done.1))
call_asks ctx m line (guest.Stream (stream_call.BlockingZeroes output len)) = bind (blocking_zeroes_asks m (first_ids line) output len) (λ done. Give (blocked_reply_of no_values line done.0, done.1))
call_asks ctx m line (guest.Stream (stream_call.BlockingFlush output)) = bind (blocking_flush_asks m (first_ids line) output) (λ done. Give (blocked_reply_of no_values line done.0, done.1))
call_asks ctx m line (guest.Stream (stream_call.BlockingSplice output input len)) = bind (blocking_splice_asks m (first_ids line) output input len) (λ done. Give (blocked_reply_of number_fields line done.0, done.1))
call_asks ctx m line (guest.P3Tcp (p3_tcp_call.Create family)) = bind (p3.create (own_of line) ctx family m) (λ done. Give (p3_reply number_fields done.0, done.1))
call_asks ctx m line (guest.P3Tcp (p3_tcp_call.Bind s a)) = bind (p3.bind_to (first_ids line) s a m) (λ done. Give (p3_answer_reply no_values line done.0, done.1))
call_asks ctx m line (guest.P3Tcp (p3_tcp_call.Connect s a)) = bind (p3.connect_to line s a m) (λ done. Give (p3_answer_reply no_values line done.0, done.1))
call_asks ctx m line (guest.P3Tcp (p3_tcp_call.Listen s)) = bind (listening3.listen_to (first_ids line) s m) (λ done. Give (p3_answer_reply number_fields line done.0, done.1))
call_asks ctx m line (guest.P3Tcp (p3_tcp_call.Accept listener remaining)) = bind (listening3.accept (first_ids line) true remaining listener m) (λ done. Give (stream_result_reply handed_fields done.0, done.1))
call_asks ctx m line (guest.P3Tcp (p3_tcp_call.LocalAddress s)) = bind (p3.local_address (own_of line) s m) (λ done. Give (p3_reply address_values done.0, done.1))
call_asks ctx m line (guest.P3Tcp (p3_tcp_call.RemoteAddress s)) = bind (p3.remote_address (own_of line) s m) (λ done. Give (p3_reply address_values done.0, done.1))
call_asks ctx m line (guest.P3Tcp (p3_tcp_call.IsListening s)) = Give (p3_reply truth_fields (p3.is_listening m s), m)
call_asks ctx m line (guest.P3Tcp (p3_tcp_call.AddressFamily s)) = Give (p3_reply family_fields (p3.address_family m s), m)
call_asks ctx m line (guest.P3Tcp (p3_tcp_call.Get s option)) = bind (p3.get_option (own_of line) s option m) (λ done. Give (p3_reply number_fields done.0, done.1))
call_asks ctx m line (guest.P3Tcp (p3_tcp_call.Set s setting)) = bind (set_p3 (own_of line) s (chosen setting) m) (λ done. Give (p3_reply no_values done.0, done.1))
call_asks ctx m line (guest.P3Tcp (p3_tcp_call.Send s)) = bind (streams3.send (own_of line) s m) (λ done. Give (p3_reply pair_values done.0, done.1))
call_asks ctx m line (guest.P3Tcp (p3_tcp_call.Write end bytes)) = bind (streams3.write (own_of line) true bytes end m) (λ done. Give (stream_result_reply number_fields done.0, done.1))
call_asks ctx m line (guest.P3Tcp (p3_tcp_call.Receive s)) = bind (streams3.receive (own_of line) s m) (λ done. Give (p3_reply pair_values done.0, done.1))
call_asks ctx m line (guest.P3Tcp (p3_tcp_call.Read end len)) = bind (streams3.read (own_of line) true len end m) (λ done. Give (stream_result_reply bytes_fields done.0, done.1))
call_asks ctx m line (guest.P3Tcp (p3_tcp_call.Result slot)) = let done = streams3.take_result m slot in Give (slot_reply done.0, done.1)
call_asks ctx m line (guest.P3Udp (p3_udp_call.Create family)) = bind (udp3.create (first_ids line) ctx family m) (λ done. Give (p3_answer_reply number_fields line done.0, done.1))
call_asks ctx m line (guest.P3Udp (p3_udp_call.Bind s a)) = bind (udp3.bind_to (first_ids line) s a m) (λ done. Give (p3_answer_reply no_values line done.0, done.1))
call_asks ctx m line (guest.P3Udp (p3_udp_call.Connect s a)) = bind (udp3.connect_to (first_ids line) s a m) (λ done. Give (p3_answer_reply no_values line done.0, done.1))
call_asks ctx m line (guest.P3Udp (p3_udp_call.Disconnect s)) = bind (udp3.disconnect (own_of line) s m) (λ done. Give (p3_reply no_values done.0, done.1))
call_asks ctx m line (guest.P3Udp (p3_udp_call.Send s d)) = bind (udp3.send line s d m) (λ done. Give (p3_answer_reply no_values line done.0, done.1))
call_asks ctx m line (guest.P3Udp (p3_udp_call.Receive s)) = bind (udp3.receive line s m) (λ done. Give (p3_answer_reply received_values line done.0, done.1))
call_asks ctx m line (guest.P3Udp (p3_udp_call.LocalAddress s)) = bind (udp3.local_address (own_of line) s m) (λ done. Give (p3_reply address_values done.0, done.1))
call_asks ctx m line (guest.P3Udp (p3_udp_call.RemoteAddress s)) = Give (p3_reply address_values (udp3.remote_address m s), m)
call_asks ctx m line (guest.P3Udp (p3_udp_call.AddressFamily s)) = Give (p3_reply family_fields (udp3.address_family m s), m)
call_asks ctx m line (guest.P3Udp (p3_udp_call.Get s option)) = bind (udp3.get_option (own_of line) s (udp_opt option) m) (λ done. Give (p3_reply number_fields done.0, done.1))
call_asks ctx m line (guest.P3Udp (p3_udp_call.Set s setting)) = bind (udp3.set_option (own_of line) s (udp_chosen setting).0 (udp_chosen setting).1 m) (λ done. Give (p3_reply no_values done.0, done.1))
call_asks ctx m line (guest.P3Names (p3_name_call.Resolve name)) = bind (lookup3.resolve line ctx name m) (λ done. Give (lookup_reply line done.0, done.1))

-- what a step asks, its reply, and the machine afterwards, where this is the context of its guest
abbrev pub asks_in : WasiSocketsCtx → Machine → ℕ → Step → Asks (Reply × Machine)
asks_in ctx m line (step.Call c call) = call_asks ctx m line call
asks_in ctx m line step.Turn = bind (turn_machine_asks m) (λ done. Give (reply.Ok no_fields, done.1))
asks_in ctx m line (step.Poll n) = bind (resume_asks m n) (λ done. Give (resumed_reply n done.0, done.1))
asks_in ctx m line (step.Cancel n) = bind (cancel_asks m n) (λ done. Give (cancelled_reply done.0, done.1))

-- the context of the guest that makes the call; a step that no guest makes has one that is allowed nothing
abbrev pub context_for : List WasiSocketsCtx → Option ℕ → WasiSocketsCtx
context_for contexts (Some n) = context_at contexts n
context_for contexts None = context_in None

abbrev pub step_asks : List WasiSocketsCtx → Machine → ℕ → Step → Asks (Reply × Machine)
step_asks contexts m line s = asks_in (context_for contexts (context_of s)) m line s

-- a turn, a poll and a cancel are no calls of a guest
abbrev pub is_guest_call : Step → Bool
is_guest_call s = is_some (context_of s)

-- a poll of a call that stands beside the exclusive one
abbrev pub polls_beside : Records → Step → Bool
polls_beside store (step.Poll n) = not (stands_as store.standing n) && is_some (beside_of store n)
polls_beside store _ = false

-- what has to wait for the exclusive call that is pending
abbrev pub is_held_up : Records → Step → Bool
is_held_up store s = is_guest_call s || polls_beside store s

-- while it is pending every guest call is busy, and so is a poll of a call beside it
abbrev pub asks_while : List WasiSocketsCtx → Machine → ℕ → Step → Option Standing → Asks (Reply × Machine)
asks_while contexts m line s None = step_asks contexts m line s
asks_while contexts m line s (Some standing) = if is_held_up m.store s then Give (reply.Busy, m) else step_asks contexts m line s

-- what a line asks, its reply, and the machine afterwards
abbrev pub machine_asks : List WasiSocketsCtx → Machine → ℕ → Step → Asks (Reply × Machine)
machine_asks contexts m line s = asks_while contexts m line s m.store.standing

-- the lines from this one on, up to a trap; the replies so far come first
abbrev pub run : List WasiSocketsCtx → List Reply → Machine → ℕ → List Step → Asks (List Reply × Machine)
run contexts replies m line [] = Give (replies, m)
run contexts replies m line (s ∷ steps) =
    bind (machine_asks contexts m line s) (λ done.
    if is_trap done.0
    then Give (replies ++ done.0 ∷ [], done.1)
    else run contexts (replies ++ done.0 ∷ []) done.1 (line + 1) steps)

-- How far a run of the steps has come: the log is a prefix of what it asks; and its front is what the first of them asked, each
-- of which was done whole, one after another, and answered so.
pub record HasRun (contexts : List WasiSocketsCtx) (steps : List Step) (log : List Entry) (replies : List Reply) : Type 0 where
  pub rest : Asks (List Reply × Machine)
  pub begun : Left (run contexts [] first_state 1 steps) log rest
  pub done : List Step
  pub more : List Step
  pub first : steps ≡ done ++ more
  pub answered : length replies ≡ length done
  pub front : List Entry
  pub back : List Entry
  pub cut : log ≡ front ++ back
  pub state : Machine
  pub ran : Left (run contexts [] first_state 1 done) front (Give (replies, state))
