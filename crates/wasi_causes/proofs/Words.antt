-- The words that the proofs speak, passed on from the crates below.
pub use Rattle.wasi_walks.proofs.Words.{Accept, Accepting, AccessDenied, Allows, AnOption, Answer, Ask, AskWrite, Asks, Bind, Bool, Call, Check}
pub use Rattle.wasi_walks.proofs.Words.{CheckArrival, CheckLocal, Chosen, CloseLast, Connect, Connection, Done, End, Entry, Err, ErrorCode}
pub use Rattle.wasi_walks.proofs.Words.{ErrorValue, Fits, Front, FrontKeeps, Full, Give, Given, HandleTable, Has, HasChildren, HoldsAccept, HoldsConnect}
pub use Rattle.wasi_walks.proofs.Words.{InProgress, Input, InvalidArgument, InvalidState, IpSocketAddress, IsAccept, IsAcceptOn, IsAddr, IsArrival}
pub use Rattle.wasi_walks.proofs.Words.{IsConnect, IsDoneOrCode, IsLeftOfAccept, IsLeftOfBind, IsLeftOfConnect, IsLeftOfListen, IsRestOfBind}
pub use Rattle.wasi_walks.proofs.Words.{IsVerdict, Item, Job, Kind, Last, LastAsk, Left, List, Listen, Listener, Listening, Machine, Network, None}
pub use Rattle.wasi_walks.proofs.Words.{NotPermitted, Nothing, NothingLast, Ok, OpId, Operation, Option, Other, Output, Pending, Pollable, ReadState}
pub use Rattle.wasi_walks.proofs.Words.{Ready, Records, Refuse, Refused, Reply, Result, ShutdownLast, ShutdownSend, ShutdownType, Socket}
pub use Rattle.wasi_walks.proofs.Words.{SocketAddrUse, SocketAddressFamily, Some, Standing, StandingCall, GuestCall, Step, Stop, StreamStop, Streams, Tcp2}
pub use Rattle.wasi_walks.proofs.Words.{TcpRecord, TcpAccept, TcpBind, TcpReceiveStream, TcpSendStream, TcpSetting, TcpState, TheBacklog, Told, Trap}
pub use Rattle.wasi_walks.proofs.Words.{Verdict, Waits, WasiSocketsCtx, Watched, Who, Write, WriteState, [], accept_answered, accept_asks, accept_at}
pub use Rattle.wasi_walks.proofs.Words.{accept_end, accept_ended, accept_front, accept_listening, accept_on, accept_operation, accepted_asks}
pub use Rattle.wasi_walks.proofs.Words.{accepted_record, accepted_socket, accepted_state, accepted_streams, admitted_front, after_backlog}
pub use Rattle.wasi_walks.proofs.Words.{after_create, after_local, after_read, allows_if, allows_keep, allows_polls, allows_then, ap, append-nil}
pub use Rattle.wasi_walks.proofs.Words.{append_assoc, arith, arrival_front, arrived, ask_bound, ask_close, ask_read, asks_while, begin_bind_asks}
pub use Rattle.wasi_walks.proofs.Words.{begin_connect_asks, begin_listen_asks, begun, bind_allowed, bind_begun, bind_ended, bind_operation}
pub use Rattle.wasi_walks.proofs.Words.{bind_progress, bound_asks, call_answered, call_of, call_place, check_write_asks, chosen, closed_listening}
pub use Rattle.wasi_walks.proofs.Words.{collected, connect_begun, connect_ended, connect_polled, connect_start, context_at}
pub use Rattle.wasi_walks.proofs.Words.{create_asks, create_to, created_asks, made_to, done_front, drop_output_at, drop_taken, drop_waits, entry, false, finish_at}
pub use Rattle.wasi_walks.proofs.Words.{finish_by, finish_in, finish_on, first_ids}
pub use Rattle.wasi_walks.proofs.Words.{first_state, flush_asks, front, get_where, give_streams_up, give_up_asks, give_up_in, go_on, gone}
pub use Rattle.wasi_walks.proofs.Words.{has_no_child, idle, if◌then◌else◌, in_hand, in_socket, inl, inner_answered, input_at, inr, is_bind}
pub use Rattle.wasi_walks.proofs.Words.{is_connect, is_connectable, is_full, is_guest_call, is_listen, is_network, is_nothing, is_over, is_trap}
pub use Rattle.wasi_walks.proofs.Words.{is_wildcard, job_asks, job_in, kind_at, last_ask, left_of, length, less_one, listen_begun, listen_bound}
pub use Rattle.wasi_walks.proofs.Words.{listen_ended, listen_once, listen_operation, listen_polled, listen_start, local_front}
pub use Rattle.wasi_walks.proofs.Words.{look_asks, look_in, machine_asks, make_asks, marked_by, marks_in, min, name_of, nat_lt, new_asks, new_job}
pub use Rattle.wasi_walks.proofs.Words.{new_record, new_socket, no_fields, number_fields, opened_receive, opened_send, output_at}
pub use Rattle.wasi_walks.proofs.Words.{output_of, own_of, permitted, place_in, place_of, poll_asks, poll_begun, poll_binding, poll_listening}
pub use Rattle.wasi_walks.proofs.Words.{polled_answer, polled_front, read_state_asks, reader_of, reader_ready_asks, reader_shutdown_asks, ready_end}
pub use Rattle.wasi_walks.proofs.Words.{ready_on, refl, refuse_in, refused_after, refused_before, release_asks, release_at, relisten_at}
pub use Rattle.wasi_walks.proofs.Words.{resume_call, resumed, resumed_reply, run, set_backlog_asks, set_backlog_in, set_chosen}
pub use Rattle.wasi_walks.proofs.Words.{set_option_asks, set_where, shut_record, shut_streams, shutdown_at, side_at, side_of, side_up_asks, slice_get}
pub use Rattle.wasi_walks.proofs.Words.{slice_set, socket_at, standing_as, start_bind_asks, start_bind_at, start_bind_by, start_bind_on}
pub use Rattle.wasi_walks.proofs.Words.{start_connect_asks, start_connect_at, start_connect_by, start_connect_in, start_connect_on, start_listen_at}
pub use Rattle.wasi_walks.proofs.Words.{start_listen_by, step_asks, stream_at, subscribe_on, subst, suc, sym, table_parent, taken_front}
pub use Rattle.wasi_walks.proofs.Words.{taken_out, taken_receive, taken_send, told_addr, told_arrival, told_done, told_polled, told_verdict}
pub use Rattle.wasi_walks.proofs.Words.{triple_fields, true, turn_asks, turn_machine_asks, unstood, value_set, verdict_front, wait_put, wait_writer}
pub use Rattle.wasi_walks.proofs.Words.{watch_of, watched_by, wildcard, with_backlog, with_handle, with_inner, with_listening, with_progress}
pub use Rattle.wasi_walks.proofs.Words.{with_reader, with_record, with_socket, with_state, with_store, socket_with_streams, with_writer, without_handle}
pub use Rattle.wasi_walks.proofs.Words.{write_front, write_on_asks, write_state_asks, writer_of, writer_shutdown_asks, writer_side, zero, zero_test}
pub use Rattle.wasi_walks.proofs.Words.{ℕ, ⊤, ◌&&◌, ◌++◌, ◌+◌, ◌<◌, ◌==◌, ◌∙◌, ◌∷◌, ◌≡◌, ◌⊎◌}
unfoldable pub use Rattle.wasi_walks.proofs.Words.{bind, polls}
pub use Rattle.std.proofs.Common.{nat_le, not, ◌≢◌}
pub use Rattle.std.proofs.lemmas.Bool.{eq-eqb, eqb-false, eqb-true, leb-false, leb-true, ltb-false, ltb-true}
pub use Rattle.std.specs.Prelude.{IfSome, IsSome, IsSomeAnd, is_some, ◌↔◌}
pub use Rattle.wasi_addr.specs.declared.address.ShutdownType.TheVariants.{Both, Receive, Send}
pub use Rattle.wasi_world.specs.Fits.{IsDone, IsPolled, IsRead, IsReady, IsValue}
pub use Rattle.wasi_world.specs.Operation.{Again, AskPeer, CheckPeer, Ends, Hand, UdpConnect, after, ask_peer_front, check_peer_front, is_now}
pub use Rattle.wasi_world.specs.Operation.{receive_front, round, send_front}
pub use Rattle.wasi_world.specs.Typed.{told_bytes, told_datagram, told_ready, told_taken, told_value}
pub use Rattle.wasi_world.specs.declared.outcome.TrapKind.{TrapKind}
pub use Rattle.wasi_world.specs.declared.outcome.TrapKind.TheVariants.{NoSuchHandle}
pub use Rattle.wasi_table.proofs.Tables.{value_without, value_without_it}
pub use Rattle.wasi_tcp.specs.Addresses.{after_peer, local_asks, local_from, local_where, peer_known, remote_in, still_connected}
pub use Rattle.wasi_tcp.specs.Addresses.{usable_side}
pub use Rattle.wasi_tcp.specs.Listen.{IsListen, held_side}
pub use Rattle.host_tcp.specs.Dropping.{released, wait_at}
pub use Rattle.tcp_records.specs.Looks.{wait_answer}
pub use Rattle.host_store.specs.CallStops.{CallStop}
pub use Rattle.record_common.specs.Stops.{Code, code_stop}
pub use Rattle.tcp_records.specs.Halves.{begins_job, has_job, turn_record, turned}
pub use Rattle.host_store.specs.Jobs.{is_on, other_jobs, turn_at, turn_job, turn_jobs, turn_store_asks, with_job}
pub use Rattle.wasi_host.specs.HandleDrops.{answered, at_once, drop_asks, drop_kind}
pub use Rattle.host_store.specs.Machine.{no_such_handle}
pub use Rattle.wasi_host.specs.Pollables.{ready_asks, subscribe_asks}
pub use Rattle.wasi_host.specs.Pending.{resume_asks}
pub use Rattle.host_store.specs.Standing.{allowed_answer, stands_as}
pub use Rattle.host_store.specs.Store.{with_record_put}
pub use Rattle.host_streams.specs.StreamCalls.{check_asks, converted, flushed_asks, read_asks, stream_on, write_asks, write_on}
pub use Rattle.wasi_p2.specs.Tcp.{accepted_handles, network_asks}
pub use Rattle.wasi_p2.specs.Tcp.{shutdown_on, start_listen_on}
pub use Rattle.wasi_steps.specs.Replies.{Each, Truth}
pub use Rattle.wasi_steps.specs.Reply.{bytes_fields, truth_fields}
pub use Rattle.wasi_steps.specs.declared.reply.CodeWord.{CodeWord}
pub use Rattle.wasi_steps.specs.declared.reply.Field.{Field}
pub use Rattle.wasi_machine.specs.Machine.{address_reply, answer_reply, bytes_reply, done_reply, family_reply, handle_reply, pair_reply, permit_reply}
pub use Rattle.wasi_machine.specs.Machine.{taken_reply, triple_reply, truth_reply, value_reply}
pub use Rattle.wasi_walks.proofs.Gives.{Gives, allows_ask, given, gives_any, gives_both, gives_more, gives_then, gives_where}
pub use Rattle.wasi_walks.proofs.Lists.{get_front, get_seam, has_split, marks_in-push, value_split}
pub use Rattle.wasi_walks.specs.Answered.{AlreadyBound, AlreadyClosed, Answered, Begins, BindRefusal, BoundElsewhere, CheckFails, ClosedBy, Closes}
pub use Rattle.wasi_walks.specs.Answered.{CodeTold, ConnectRefusal, ConnectsAt, Denied, Elsewhere, EndsClosing, EndsPending}
pub use Rattle.wasi_walks.specs.Answered.{ErrorKept, Failed, FailsWith, FinishRefusal, HasNoConnectInProgress, IsBound, IsFoundUnbound}
pub use Rattle.wasi_walks.specs.Answered.{IsPastDefault, IsQuiet, IsUnpermitted, Known, KnowsBound, LengthZero}
pub use Rattle.wasi_causes.specs.Refusals.{Connects, CreateFails, CreateRefusal, LocalClosed, LocalFails, LocalRefusal, NotAllowed, OfTcp3}
pub use Rattle.wasi_causes.specs.Refusals.{RemoteClosed, RemoteConnecting, RemoteDefault, RemoteFails, RemoteListening, RemoteRefusal}
pub use Rattle.wasi_causes.specs.Refusals.{RemoteTold, SaidBy, ToldCode, p3_word}
pub use Rattle.wasi_walks.specs.Missing.{IsOnNothing}
pub use Rattle.wasi_walks.specs.Answered.{NoConnect, NotDefault}
pub use Rattle.wasi_walks.specs.Missing.{MissesHandle, MissesRecord}
pub use Rattle.wasi_walks.specs.Answered.{NotReady, OfRecord, OfStreams, PastDefault, Permits, ReadFails, ReadsEnd, ReadsNone, ReadsTold}
pub use Rattle.wasi_walks.specs.Answered.{RefusedOf}
pub use Rattle.wasi_walks.specs.Answered.{ToldBound, ToldNone, WriteFails, WrongAddress}
pub use Rattle.wasi_walks.specs.Missing.{StandsOnNothing}
pub use Rattle.wasi_walks.specs.Answered.{closing_writer, knowing_bound, may_bind_to, output_streams, putting, read_entry, record_at, record_in}
pub use Rattle.wasi_walks.specs.Answered.{streams_in, with_error, word_of_code}
pub use Rattle.wasi_walks.specs.Listens.{AcceptFailed, AcceptFails, AcceptGives, AcceptWaits, AcceptsAt, AcceptsIn, HasNoListener, IsHanded}
pub use Rattle.wasi_walks.specs.Listens.{IsTold, LastWaits, ListenDenied, ListenFails, ListenRefusal, ListenRefused, ListenTold, LocalTold}
pub use Rattle.wasi_walks.specs.Listens.{NoListener, NotBound, RefusedMost, StillAccepts, WasHanded, WasTold, accept_name, accepted_marks}
pub use Rattle.wasi_walks.specs.Listens.{accepting_now, closed_by_listen, refused_by, refused_in}
pub use Rattle.wasi_walks.specs.Waiting.{AcceptWaitsOn, BindFailed, BindFails, BindWaits, CallFails, CallWaits, Checked, ConnectWaits, Ended}
pub use Rattle.wasi_walks.specs.Waiting.{EndsWith, HoldsCall, InputWaits, IsBinding, IsFailure, IsIdleSocket, IsListening, IsUnready}
pub use Rattle.wasi_walks.specs.Waiting.{ListenEnds, ListenFailed, ListenWaits, MayStand, OfWatched, OutputWaits, PendingCallsFit, ToldToWait}
pub use Rattle.wasi_walks.specs.Waiting.{Unchecked, WatchesAccept, WatchesConnect, WatchesIdle, WriteWaits, WriterWaits, WritesOn, nothing_stands}
pub use Rattle.wasi_walks.specs.Waiting.{watched_in}
