-- The words that the laws speak, passed on from the crates below.
pub use Rattle.wasi_walks.proofs.Words.{Accept, Accepting, Accepts, Allows, Ask, AskWrite, Asks, Begins, Bind, Bool, Call, Check, CheckArrival}
pub use Rattle.wasi_walks.proofs.Words.{CheckLocal, CloseLast, Connect, Done, End, Entry, Err, ErrorCode, ErrorValue, Fits, Front, FrontKeeps, Give}
pub use Rattle.wasi_walks.proofs.Words.{Given, HandleTable, Has, HoldsAccept, HoldsConnect, InProgress, IpSocketAddress, IsAcceptOn, IsConnect}
pub use Rattle.wasi_walks.proofs.Words.{IsDoneOrCode, IsLeftOfConnect, IsLeftOfListen, Item, Job, Kind, Last, LastAsk, Left, List, Listen, Listener}
pub use Rattle.wasi_walks.proofs.Words.{Listening, Machine, None, Not, Nothing, NothingLast, Ok, OpId, Operation, Option, Refuse, Refused, Reply}
pub use Rattle.wasi_walks.proofs.Words.{Result, ShutdownLast, ShutdownSend, Socket, SocketAddressFamily, Some, Standing, GuestCall, Step, StreamStop, Streams}
pub use Rattle.wasi_walks.proofs.Words.{Tcp2, TcpRecord, TcpState, Told, Unclosed, Waits, WasiSocketsCtx, Who, Write, WriteState, [], accept_ended}
pub use Rattle.wasi_walks.proofs.Words.{accept_front, accept_operation, admitted_front, after_create, allows_at, allows_if, allows_keep, allows_polls}
pub use Rattle.wasi_walks.proofs.Words.{allows_then, allows_weaker, ap, append-nil, append_assoc, arith, arrival_front, arrived, asks_while}
pub use Rattle.wasi_walks.proofs.Words.{bind_operation, bind_progress, check_front, check_write_asks, closed_by, closing_side, collected}
pub use Rattle.wasi_walks.proofs.Words.{connect_ended, connect_first, connect_operation, create_asks, create_to, made_to, created_asks, done_front, entry, false}
pub use Rattle.wasi_walks.proofs.Words.{first_state, front, give_up_asks, give_up_in, hand_front, if◌then◌else◌, in_hand, inl, inr, is_full, is_over}
pub use Rattle.wasi_walks.proofs.Words.{is_trap, job_asks, job_in, last_ask, left_of, length, less_one, local_front, look_asks, look_in, machine_asks}
pub use Rattle.wasi_walks.proofs.Words.{make_asks, name_of, nat_lt, new_asks, new_job, new_record, new_socket, number_fields, output_at, own_of}
pub use Rattle.wasi_walks.proofs.Words.{permitted, poll_asks, polled_front, reached, refl, refuse_front, refuse_in, run, side_at, side_in, side_of}
pub use Rattle.wasi_walks.proofs.Words.{slice_get, slice_set, stream_at, subst, suc, sym, taken_front, then_closed, told_addr, told_arrival}
pub use Rattle.wasi_walks.proofs.Words.{told_done, told_polled, told_verdict, true, turn_asks, verdict_front, with_inner, with_listening}
pub use Rattle.wasi_walks.proofs.Words.{with_progress, with_reader, with_record, with_state, with_store, with_writer, write_front, writer_asks}
pub use Rattle.wasi_walks.proofs.Words.{writer_of, writer_side, writing_side, written_by, zero, ℕ, ⊤, ◌&&◌, ◌++◌, ◌+◌, ◌<◌, ◌==◌, ◌∙◌, ◌∷◌, ◌≡◌, ◌≤◌}
pub use Rattle.wasi_walks.proofs.Words.{◌⊎◌}
unfoldable pub use Rattle.wasi_walks.proofs.Words.{bind}
pub use Rattle.std.specs.Prelude.{IsSomeAnd, not}
pub use Rattle.std.proofs.Common.{drop, rules, take}
pub use Rattle.wasi_world.proofs.Allowed.{holds}
pub use Rattle.wasi_world.specs.Asks.{IsFront}
pub use Rattle.wasi_world.specs.Operation.{AskPeer, CheckPeer, Connection, Ends, Hand, Lookup, Receive, Send, UdpBind, UdpConnect, UdpWritable}
pub use Rattle.wasi_world.specs.Operation.{ask_peer_front, check_peer_front, is_now, is_wanted, lookup_front, peer_front, receive_front}
pub use Rattle.wasi_world.specs.Operation.{received_front, remote_told, send_front}
pub use Rattle.wasi_world.specs.Sides.{is_same}
pub use Rattle.wasi_world.specs.Typed.{told_datagram, told_names, told_ready, told_taken}
pub use Rattle.wasi_tcp.specs.Bind.{bind_left}
pub use Rattle.wasi_tcp.specs.Connect.{connect_left}
pub use Rattle.wasi_tcp.specs.Job.{job_after}
pub use Rattle.wasi_tcp.specs.Listen.{IsListen}
pub use Rattle.wasi_tcp.specs.Taken.{IsFrontOf, bytes_left, taken_by, taken_in}
pub use Rattle.wasi_walks.proofs.Lists.{cut_of, get_front, has_back, has_front, has_last, has_split}
pub use Rattle.wasi_walks.proofs.claims.Law.{Base, Claims, Named, accept_plain, fresh, no_some, on_along, on_names, taken_fresh}
pub use Rattle.wasi_walks.proofs.claims.Lines.{BaseBetween, base_over, base_starts, first_base}
pub use Rattle.wasi_walks.proofs.claims.Polls.{ArePlain, NoWrite, Quiet, none_taken, plain_poll, quiet_if, quiet_then}
pub use Rattle.wasi_walks.proofs.fits.Law.{Fit, told_same, whatever}
pub use Rattle.wasi_walks.proofs.fits.Records.{FitListening, FitProgress}
pub use Rattle.wasi_walks.proofs.licence.State.{accept_name, name_in}
pub use Rattle.wasi_walks.proofs.walks.Law.{BeginsIn, BeginsWrites, InCall, Law, Rests, Walks}
pub use Rattle.wasi_walks.proofs.walks.Moves.{Awaits, BeginsAccept, BeginsBind, BeginsConnect, BeginsListen, BeginsWrite, BindsOn, Changes, Closes}
pub use Rattle.wasi_walks.proofs.walks.Moves.{ClosesReader, Collects, Connects, Forgets, Found, Held, Here, IsGone, IsOn, IsQuestionOf, Joins}
pub use Rattle.wasi_walks.proofs.walks.Moves.{KeepsBinding, Lasts, LastsAfter, Listens, Made, Move, OfReader, OfSocket, OfWriter, Opens, Own, Permits}
pub use Rattle.wasi_walks.proofs.walks.Moves.{Plain, Reconnects, Spends, ToConnect, ToWrite, Unlistens, Unused, Used, WriterMoves, Writes, accepting_now}
pub use Rattle.wasi_walks.proofs.walks.Moves.{beginning_listen, begun_bind, begun_listen, closed_record, joined, joining, listen_after, made_so}
pub use Rattle.wasi_walks.proofs.walks.Moves.{new_accept, opened_by, part_of, put}
pub use Rattle.wasi_walks.proofs.walks.Layers.{both, layer}
pub use Rattle.wasi_walks.proofs.walks.States.{Over, Starts}
pub use Rattle.wasi_walks.proofs.walks.Steps.{machine_walks, may_while}
pub use Rattle.wasi_walks.specs.Answered.{Answered, record_in}
pub use Rattle.wasi_machine.specs.Machine.{permit_reply}
pub use Rattle.wasi_laws.specs.Opened.{AsksOpenSockets, Created, HandedOver, IsAskedOpen, IsClosed, IsMade, IsOpen, socket_of}
pub use Rattle.wasi_laws.specs.Order.{Binds, ChecksFirst, ChecksNone, GoesOut, HasGone, IsCheck, IsOutward, NoCheckLeft, asked_by, operation_polled}
pub use Rattle.wasi_laws.specs.Permitted.{Begun, Did, IsOfSteps, Then, permitted_by, permitted_in, permitted_when}
pub use Rattle.wasi_laws.specs.Writes.{WritesTo, let_begin, writer_in, writer_of_record}
