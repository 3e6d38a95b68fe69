-- The words that the proofs speak, passed on from the crates below.
pub use Rattle.std.proofs.Common.{Bool, Err, List, None, Ok, Option, Result, Some, [], add-one, ap, append-nil, append_assoc, arith, eqb-true, false}
pub use Rattle.std.proofs.Common.{if◌then◌else◌, inl, inr, length, length-append, refl, slice_get, slice_set, subst, suc, sym, true, zero, ℕ, ◌++◌}
pub use Rattle.std.proofs.Common.{◌+◌, ◌<◌, ◌==◌, ◌∙◌, ◌∷◌, ◌≡◌, ◌≤◌, ◌⊎◌}
pub use Rattle.std.specs.Prelude.{min, nat_lt, ⊤, ◌&&◌}
pub use Rattle.wasi_addr.specs.Address.{ip_of, is_of_family, is_unicast, is_wildcard, port_of, wildcard}
pub use Rattle.wasi_addr.specs.declared.address.IpSocketAddress.{IpSocketAddress}
pub use Rattle.wasi_addr.specs.declared.address.ShutdownType.{ShutdownType}
pub use Rattle.wasi_addr.specs.declared.address.SocketAddrUse.{SocketAddrUse}
pub use Rattle.wasi_addr.specs.declared.address.SocketAddrUse.TheVariants.{TcpAccept, TcpBind, TcpConnect, TcpListen}
pub use Rattle.wasi_addr.specs.declared.address.SocketAddressFamily.{SocketAddressFamily}
pub use Rattle.wasi_addr.specs.declared.code.ErrorCode.{ErrorCode}
pub use Rattle.wasi_addr.specs.declared.code.ErrorCode.TheVariants.{AccessDenied, InvalidArgument, InvalidState, Other}
pub use Rattle.wasi_world.proofs.Allowed.{Allows, FrontKeeps, allows_at, allows_if, allows_keep, allows_polls, allows_then, allows_weaker, reached}
unfoldable pub use Rattle.wasi_world.specs.Asks.{bind}
unfoldable pub use Rattle.wasi_world.specs.Operation.{polls}
pub use Rattle.wasi_world.specs.Asks.{Ask, AskWrite, Asks, Give, Left}
pub use Rattle.wasi_world.specs.Fits.{Fits, IsAddr, IsArrival, IsDoneOrCode, IsVerdict}
pub use Rattle.wasi_world.specs.Operation.{Accept, Bind, Check, CheckArrival, CheckLocal, CloseLast, Connect, Done, End, Front, Given, Item, Last}
pub use Rattle.wasi_world.specs.Operation.{LastAsk, Listen, Nothing, NothingLast, Operation, Refuse, Refused, ShutdownLast, ShutdownSend, Waits, Who}
pub use Rattle.wasi_world.specs.Operation.{Write, accept_front, admitted_front, arrival_front, check_front, done_front, front, hand_front, last_ask}
pub use Rattle.wasi_world.specs.Operation.{less_one, local_front, poll_asks, polled_front, refuse_front, taken_front, verdict_front, write_front}
pub use Rattle.wasi_world.specs.Typed.{ask_close, ask_made, ask_read, ask_set_option, told_addr, told_arrival, told_done, told_polled, told_verdict}
pub use Rattle.wasi_world.specs.declared.asks.Polled.{Polled}
pub use Rattle.wasi_world.specs.declared.asks.Verdict.{Verdict}
pub use Rattle.wasi_world.specs.declared.call.Call.{Call}
pub use Rattle.wasi_world.specs.declared.call.Call.TheVariants.{Hand, Made, TcpCreate}
pub use Rattle.wasi_world.specs.declared.call.Entry.{Entry}
pub use Rattle.wasi_world.specs.declared.call.HandleKind.{HandleKind}
pub use Rattle.wasi_world.specs.declared.call.Told.{Told}
pub use Rattle.wasi_world.specs.declared.call.Told.TheVariants.{Arrived, Yes}
pub use Rattle.wasi_world.specs.declared.ids.OpId.{OpId}
pub use Rattle.wasi_world.specs.declared.outcome.Answer.{Answer}
pub use Rattle.wasi_world.specs.declared.outcome.Answer.TheVariants.{Pending, Ready}
pub use Rattle.wasi_world.specs.declared.outcome.TrapKind.TheVariants.{Full, HasChildren, NotPermitted}
pub use Rattle.wasi_world.specs.declared.outcome.WasiSocketsCtx.{WasiSocketsCtx}
pub use Rattle.wasi_streams.specs.StreamStop.{StreamStop}
pub use Rattle.wasi_table.specs.Table.{is_full}
pub use Rattle.wasi_tcp.specs.Accept.{IsAccept, IsLeftOfAccept, accept_operation, in_hand, refuse_in}
pub use Rattle.wasi_tcp.specs.Bind.{bind_operation}
pub use Rattle.wasi_tcp.specs.Connect.{IsConnect, IsLeftOfConnect, connect_first, connect_operation}
pub use Rattle.wasi_tcp.specs.Connecting.{HoldsConnect, connect_ended, connect_start, finish_connect_asks, finish_in, in_socket, is_connectable}
pub use Rattle.wasi_tcp.specs.Connecting.{new_connection, start_connect_in, with_state}
pub use Rattle.wasi_tcp.specs.Halves.{polled_answer, take_receive, taken_receive, taken_send}
pub use Rattle.wasi_tcp.specs.Job.{Job, closing_job, job_asks, job_in, new_job, then_closed}
pub use Rattle.wasi_tcp.specs.Listen.{IsLeftOfListen, is_over, listen_first, listen_operation}
pub use Rattle.wasi_tcp.specs.Listener.{HoldsAccept, IsAcceptOn, Listener, accept_asks, accept_end, accept_ended, accepted_socket, accepted_state}
pub use Rattle.wasi_tcp.specs.Listener.{arrived, give_up_in, new_listener, ready_end, with_accept}
pub use Rattle.wasi_tcp.specs.Listening.{listen_ended, listen_start}
pub use Rattle.socket_common.specs.Options.{refused_after, refused_before}
pub use Rattle.wasi_tcp.specs.Options.{after_backlog, get_option_asks, get_where, set_backlog_asks, set_backlog_in}
pub use Rattle.socket_common.specs.Options.{value_set, zero_test}
pub use Rattle.wasi_tcp.specs.Options.{set_option_asks, set_where, with_backlog}
pub use Rattle.wasi_tcp.specs.Reader.{after_read, read_state_asks, reader_ready_asks, reader_shutdown_asks}
pub use Rattle.wasi_tcp.specs.Shape.{Socket}
pub use Rattle.wasi_tcp.specs.Socket.{after_create, after_local, ask_bound, bind_allowed, bind_asks, bound_asks, new_asks, new_socket, side_in}
pub use Rattle.wasi_tcp.specs.Socket.{side_of}
pub use Rattle.wasi_tcp.specs.Writer.{begun, check_write_asks, closed_by, closing_side, collected, look_asks, look_in, permitted, side_up_asks}
pub use Rattle.wasi_tcp.specs.Writer.{turn_asks, with_permit, write_on_asks, write_state_asks, writer_give_up_asks, writer_shutdown_asks, writer_side}
pub use Rattle.wasi_tcp.specs.Writer.{writing_side, written_by}
pub use Rattle.wasi_tcp.specs.declared.halves.TcpReceiveStream.{TcpReceiveStream}
pub use Rattle.wasi_tcp.specs.declared.halves.TcpSendStream.{TcpSendStream}
pub use Rattle.wasi_tcp.specs.declared.listener.Accepting.{Accepting}
pub use Rattle.wasi_tcp.specs.declared.reader.ReadState.{ReadState}
pub use Rattle.wasi_tcp.specs.declared.socket.Connection.{Connection}
pub use Rattle.wasi_tcp.specs.declared.socket.TcpState.{TcpState}
pub use Rattle.wasi_tcp.specs.declared.writer.WriteState.{WriteState}
pub use Rattle.host_tcp.specs.Dropping.{drop_output_at, release_at, drop_waits, wait_put}
pub use Rattle.tcp_records.specs.Releasing.{give_streams_up, gone, release_asks}
pub use Rattle.tcp_records.specs.Looks.{wait_writer}
pub use Rattle.record_common.specs.Stops.{Stop, Trap}
pub use Rattle.host_store.specs.Kinds.{HandleTable, has_no_child, input_of, is_network, is_readable, is_writable, kind_at, make_asks, name_of, output_of, place_in, place_of, table_parent, taken_out, watch_of, watched_by, with_handle, without_handle}
pub use Rattle.host_tcp.specs.TcpCalls.{accept_answered, accept_at, start_listen_at, start_listen_by, with_records, shutdown_at, start_bind_at, start_bind_by, finish_at, finish_by, start_connect_at, start_connect_by}
pub use Rattle.tcp_records.specs.Listening.{accept_listening, accept_record_asks, accepted_record, begin_listen_asks, closed_listening, give_up_asks, listen_begun, listen_bound, listen_once, listen_polled, poll_begun, poll_listen_asks, poll_listening, with_listening}
pub use Rattle.wasi_records.specs.Accepted.{kept_accepted}
pub use Rattle.host_tcp.specs.Creates.{create_asks, create_handle, create_to, created_asks, handle_to, made_to}
pub use Rattle.wasi_host.specs.HandleDrops.{drop_taken}
pub use Rattle.host_store.specs.Machine.{first_state, input_at, output_at, own_of, side_at, socket_at, with_store, with_table}
pub use Rattle.wasi_host.specs.Pollables.{ready_on, subscribe_on}
pub use Rattle.wasi_host.specs.Turns.{turn_machine_asks}
pub use Rattle.wasi_host.specs.Pending.{go_on, resume_call, resumed}
pub use Rattle.host_tcp.specs.TcpCalls.{relisten_at}
pub use Rattle.tcp_records.specs.Shutdowns.{shut_record, shut_streams}
pub use Rattle.tcp_records.specs.Binding.{begin_bind_asks, bind_begun, bind_ended, bind_progress, poll_bind_asks, poll_binding}
pub use Rattle.record_common.specs.Binding.{bind_answer, left_of}
pub use Rattle.tcp_records.specs.InProgress.{is_bind, is_connect, is_listen, is_nothing}
pub use Rattle.host_store.specs.Standing.{call_answered, call_of, call_place, standing_as, stood, unstood}
pub use Rattle.host_store.specs.Store.{Records, put_back, stream_at, with_record, with_socket}
pub use Rattle.tcp_records.specs.Sockets.{begin_connect_asks, connect_begun, connect_polled, idle, inner_answered, new_record, new_streams, opened_receive, opened_send, poll_connect_asks, tell_local_asks, tell_remote_asks, with_inner, with_progress}
pub use Rattle.tcp_records.specs.Halves.{flush_asks, reader_asks, reader_of, with_reader, with_writer, writer_asks, writer_of}
pub use Rattle.tcp_records.specs.declared.tcp_binding.AsyncOperation.{AsyncOperation}
pub use Rattle.tcp_records.specs.declared.tcp_binding.InProgress.{InProgress}
pub use Rattle.host_store.specs.declared.kind.Kind.{Kind}
pub use Rattle.host_store.specs.declared.kind.Kind.TheVariants.{ErrorValue, Input, Network, Output, Pollable, Tcp2}
pub use Rattle.host_store.specs.declared.kind.Watched.{Watched}
pub use Rattle.tcp_records.specs.declared.tcp_listening.Listening.{Listening}
pub use Rattle.tcp_records.specs.declared.tcp_listening.Listening.TheVariants.{Accepts, Begins, Not, Unclosed}
pub use Rattle.host_store.specs.declared.machine.Machine.{Machine}
pub use Rattle.tcp_records.specs.declared.socket.Streams.{Streams}
pub use Rattle.tcp_records.specs.declared.socket.TcpRecord.{TcpRecord}
pub use Rattle.host_store.specs.declared.store.Standing.{Standing}
pub use Rattle.host_store.specs.declared.store.StandingCall.{StandingCall}
pub use Rattle.wasi_p2.specs.Tcp.{accept_on, accepted_asks, accepted_streams, finish_on}
pub use Rattle.wasi_p2.specs.Tcp.{start_bind_asks, start_bind_on, start_connect_asks, start_connect_on, socket_with_streams}
pub use Rattle.wasi_steps.specs.Reply.{is_trap, no_fields, number_fields, triple_fields}
pub use Rattle.wasi_steps.specs.Settings.{AnOption, Chosen, TheBacklog, chosen}
pub use Rattle.wasi_steps.specs.declared.reply.Reply.{Reply}
pub use Rattle.wasi_steps.specs.declared.setting.TcpSetting.{TcpSetting}
pub use Rattle.wasi_steps.specs.declared.guest_call.GuestCall.{GuestCall}
pub use Rattle.wasi_steps.specs.declared.step.Step.{Step}
pub use Rattle.wasi_machine.specs.Machine.{HasRun, asks_while, context_at, context_in, first_ids, is_guest_call, is_held_up, machine_asks, resumed_reply, run}
pub use Rattle.wasi_machine.specs.Machine.{set_chosen, step_asks}
pub use Rattle.wasi_walks.specs.Licence.{BeganBy, Created, Handed, HandedNone, Has, HasWildcardYes, IsAdmitted, IsBacklogSet, IsBindTo, IsBoundSide}
pub use Rattle.wasi_walks.specs.Licence.{IsConnectTo, IsLastLocal, IsLicensed, IsListenStep, IsMaker, IsMarkOf, IsMarkedWith, IsSide, IsTcpCreate}
pub use Rattle.wasi_walks.specs.Licence.{Listens, MarksNoSocket, MayAsk, MayGoOut, MayListen, MayUseTcp, NamesSide, ReachesSide, entry, handles_of}
pub use Rattle.wasi_walks.specs.Licence.{marked_by, marks_in, step_at}
pub use Rattle.wasi_walks.specs.Waiting.{IsBinding, IsLeftOfBind, IsRestOfBind}
