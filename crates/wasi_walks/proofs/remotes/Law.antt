-- The law that the remote address that an open UDP socket keeps is what the network reported last.
use Rattle.std.specs.Prelude.{take}
use Rattle.wasi_tcp.specs.Halves.{write_asks}
use Rattle.tcp_records.specs.Ends.{ends_of}
use Rattle.wasi_walks.proofs.PipeLists.{slot_push_same}
use Rattle.wasi_walks.proofs.walks.Asked.{MarksResult, WritesOnce}
use Rattle.host_store.specs.declared.kind.Kind.TheVariants.{Result3}
use Rattle.wasi_walks.proofs.remotes.State.{StreamsBy}
use Rattle.wasi_walks.proofs.walks.Law.{BeginsWrites, Rests, begins_by}
use Rattle.wasi_walks.proofs.walks.Asked.{Asked, Questions, SetsBacklog, Learns, Closes, MarksOne, AsksCreate, MarksAccepted, MarksListener, MarksPlain, Polls, Turns, GivesUp, UdpQuestions, UdpDisconnects, UdpLearns, UdpPeers, UdpCloses, UdpBegins, MarksUdp, MarksStream, MarksError, UdpGivesUp, Resolves, Looks}
use Rattle.wasi_walks.proofs.walks.Asked.{BeginsDatagram, PollsBeside, ResolvesBeside, LooksBeside}
use Rattle.wasi_udp.specs.Receive.{receive_start, wanting}
use Rattle.wasi_udp.specs.Send.{at_remote, send_start}
use Rattle.host_store.specs.declared.beside.BesideCall.{BesideCall}
use Rattle.wasi_walks.proofs.BesideLists.{found_has}
use Rattle.wasi_walks.proofs.fits.DatagramPolls.{wanted_left}
use Rattle.wasi_walks.proofs.fits.Datagrams.{FitBeside}
use Rattle.wasi_walks.proofs.fits.UdpFits.{begun_receive, begun_send}
use Rattle.wasi_walks.proofs.remotes.Held.{polled_alone, receive_silent, send_silent}
use Rattle.wasi_walks.proofs.walks.Moves.{PollsDatagram, PollsReceive, PollsSend, StartsDatagram, StartsReceive, StartsSend}
use Rattle.wasi_walks.proofs.Words.{made_to, create_to, Stop, Asks, Operation}
use Rattle.wasi_walks.proofs.Words.{Accepting, Accepts, Allows, Begins, Bool, Call, Done, End, Entry, Err, ErrorCode, Give, HandleTable}
use Rattle.wasi_walks.proofs.Words.{ErrorValue, IpSocketAddress, IsDoneOrCode, Job, Kind, List, Listening, Machine, None, Not, Ok, OpId, Option}
use Rattle.wasi_walks.proofs.Words.{ReadState, Refused, Result, Socket, SocketAddressFamily, Some, Step, Streams, Tcp2, TcpRecord, TcpSendStream, Told, Unclosed}
use Rattle.wasi_walks.proofs.Words.{Waits, WasiSocketsCtx, Who, WriteState, [], allows_if, allows_then, allows_weaker, ap, ask_close, bind}
use Rattle.wasi_walks.proofs.Words.{closing_side, entry, false, give_up_asks, give_up_in, gone, if◌then◌else◌, in_hand}
use Rattle.wasi_walks.proofs.Words.{inl, is_full, is_over, is_wildcard, job_asks, job_in, length, make_asks, new_asks, new_job, new_record}
use Rattle.wasi_walks.proofs.Words.{own_of, poll_asks, refl, refuse_in, side_in, side_of, subst, told_addr, told_done, true, turn_asks}
use Rattle.wasi_walks.proofs.Words.{with_listening, with_reader, with_writer, writer_side, writing_side, ℕ, ⊤, ◌++◌, ◌∙◌, ◌∷◌, ◌≡◌}
use Rattle.socket_common.specs.Rounds.{is_going}
use Rattle.wasi_udp.specs.Create.{Create, create_cancel_asks, new_create, after_create as udp_after_create}
use Rattle.wasi_udp.specs.Shape.{Socket as UdpSocket}
use Rattle.wasi_udp.specs.Socket.{after_local as udp_after_local}
use Rattle.wasi_records.specs.Records.{tcp2_put, udp2_put}
use Rattle.host_store.specs.Kinds.{udp_kind}
use Rattle.udp_records.specs.Udp.{udp_side, with_udp_inner}
use Rattle.wasi_records.specs.declared.records.Record.{Record}
use Rattle.udp_records.specs.declared.udp.OpenUdp.{OpenUdp}
use Rattle.udp_records.specs.declared.udp.UdpRecord.{UdpRecord}
use Rattle.wasi_walks.proofs.Lists.{has_last}
use Rattle.wasi_walks.proofs.claims.Law.{Named, Base}
use Rattle.wasi_walks.proofs.fits.Polls.{Anything}
use Rattle.wasi_walks.proofs.fits.UdpFits.{kept_op}
use Rattle.wasi_walks.proofs.walks.Moves as walk
use Rattle.host_store.specs.declared.kind.Kind.TheVariants.{Listen3, Tcp3}
use Rattle.wasi_walks.proofs.walks.Moves.{Interface, tcp_kind, closed_record, udp_begun, opened_by, part_of, Found, Here, IsOn, IsQuestionOf, IsUdpQuestionOf, Move, OfReader, OfSocket, OfWriter, UdpPlain, faulted, joined, joined_plain, receiving_in}
use Rattle.wasi_walks.proofs.remotes.Held.{peer_keeps, polls_keep}
use Rattle.wasi_walks.proofs.remotes.Polls.{AreSilent, NoPeer, Unpeered, silent_poll}
use Rattle.wasi_walks.proofs.remotes.Along.{has_made}
use Rattle.wasi_walks.proofs.remotes.ConnectPolls.{connects_whole}
use Rattle.wasi_walks.proofs.remotes.State.{JobBy, Keeps, OpenKeeps, ReadsBy, ReceivesFor, TcpKeeps, WritesBy, asked, kept, push_tcp, push_udps, put_tcp, put_udps, quiet, records_keep, fewer_keep, same_streams, spares_none, with_none, with_these, writer_moves, Spares}

-- == what is asked of a network socket of TCP is asked of none of UDP
-- a writer is on the network socket that its record was made with
writes_on : (made : Option OpId) (side : OpId) (w : WriteState) → WritesBy made w → writer_side w ≡ Some side → made ≡ Some side
writes_on made side (WriteState.Ready half permit) k e = k ∙ e
writes_on made side (WriteState.Writing job) k e = by_end job.end e
  where
    by_end : (x : End) → writing_side job x ≡ Some side → made ≡ Some side
    by_end Waits p = k.0 ∙ p
    by_end (Done given) p = k.0 ∙ p
    by_end (Refused c given) p = absurd (cc)
writes_on made side (WriteState.Closing job) k e = by_end job.end e
  where
    by_end : (x : End) → closing_side job x ≡ Some side → made ≡ Some side
    by_end Waits p = k.0 ∙ p
    by_end (Done given) p = absurd (cc)
    by_end (Refused c given) p = absurd (cc)
writes_on made side (WriteState.Closed e) k p = absurd (cc)

-- what is asked of a UDP socket is no remote address
pub udp_question_quiet : (line : ℕ) (origin : Step) (n : ℕ) (side : OpId) (c : Call) → IsUdpQuestionOf line origin n side c → NoPeer c
udp_question_quiet line origin n side (Call.Peer s) q = q
udp_question_quiet line origin n side _ q = tt

-- what a record asks of is the network socket that it was made with
made_with : (line : ℕ) (h : Here) (place : ℕ) (r : TcpRecord) (side : OpId) → Found h place r → IsOn r side → Named line h → TcpKeeps r → r.side ≡ Some side
made_with line h place r side g (OfSocket e) n k = n.named side place r g e
made_with line h place r side g (OfReader s half e w p) n k = subst (ReadsBy r.side) w (k s e).0 ∙ ap (λ (x : OpId). Some x) p
made_with line h place r side g (OfWriter s e w) n k = writes_on r.side side s.writer (k s e).1 w

-- a question of a TCP socket is of no UDP socket
pub tcp_spares : (line : ℕ) (origin : Step) (n : ℕ) (es : List Entry) (h : Here) (place : ℕ) (r : TcpRecord) (side : OpId) (c : Call) → Found h place r → IsOn r side → IsQuestionOf line origin n side c → Named line h → Keeps es h.machine.store.records → Spares h.machine.store.records c
tcp_spares line origin n es h place r side c g on q names i k u f = spares_none u c apart
  where
    apart : c ≡ Call.Peer (udp_side u) → ⊥
    apart e =
        let is : udp_side u ≡ side = subst (IsQuestionOf line origin n side) e q in
        absurd (names.udps.apart side place k r u g f
        (inl (made_with line h place r side g on names (i.tcps place r g))) is)

-- == marks and creates
-- a mark asks for no remote address
made_quiet : (es : List Entry) (t : HandleTable) (op : OpId) (kind : Kind) (parent : Option ℕ) (sock : Option OpId) → Allows Unpeered (λ fs made. ⊤) es (make_asks t op kind parent sock)
unfolding bind
made_quiet es t op kind parent sock = allows_if Unpeered (λ fs made. ⊤) es (is_full t) _ _ (λ full. tt) (λ free. (tt, λ told f. tt))

-- it leaves the records
pub marks_keep : (es : List Entry) (records : List Record) (t : HandleTable) (op : OpId) (kind : Kind) (parent : Option ℕ) (sock : Option OpId) → Keeps es records → Allows Anything (λ fs made. Keeps fs records) es (make_asks t op kind parent sock)
marks_keep es records t op kind parent sock i =
    allows_weaker Anything (λ fs made. Keeps fs records × ⊤) (λ fs made. Keeps fs records) (λ fs made k. k.0) es _ (kept records (λ fs made. ⊤) es (make_asks t op kind parent sock) i (made_quiet es t op kind parent sock))

-- whatever the log says, the records of the one keep what those of the other do
abbrev Adds : Machine → Machine → Type 0
Adds m now = (es : List Entry) → Keeps es m.store.records → Keeps es now.store.records

-- a write that is offered once asks for none, and leaves the records
write_once : (es : List Entry) (records : List Record) (op side : OpId) (bytes : List ℕ) → Keeps es records → Allows Anything (λ fs told. Keeps fs records) es (write_asks op side bytes)
unfolding bind
write_once es records op side bytes i = (tt, λ told f front. asked es records op _ told (quiet _ _ tt) i)

-- a create of a TCP socket asks for no remote address
new_quiet : (es : List Entry) (own : OpId) (ctx : WasiSocketsCtx) (family : SocketAddressFamily) → Allows Unpeered (λ fs made. ⊤) es (new_asks own ctx family)
unfolding bind
new_quiet es own ctx family = allows_if Unpeered (λ fs made. ⊤) es ctx.tcp _ _ (λ may. (tt, λ told f. tt)) (λ other. tt)

-- the socket that is created joins the records
socket_adds : {T : Type 0} (tells : Result ℕ Stop → T) (fails : ErrorCode → T) (face : Interface) (es : List Entry) (m : Machine) (own : OpId) (made : Result Socket ErrorCode) → Allows Unpeered (λ fs done. Adds m done.1) es (made_to tells fails (tcp_kind face) m own made)
socket_adds tells fails face es m own (Err c) = λ gs k. k
socket_adds tells fails face es m own (Ok socket) =
    allows_then Unpeered (λ fs made. ⊤) (λ fs done. Adds m done.1) es (make_asks m.table own (tcp_kind face (length m.store.records)) None (side_of socket)) _ (made_quiet es m.table own (tcp_kind face (length m.store.records)) None (side_of socket))
    (λ fs made t. λ gs k. push_tcp gs m.store.records (new_record socket) (with_none (new_record socket) refl) k)

-- a create keeps what is known
pub creates_keep : {T : Type 0} (tells : Result ℕ Stop → T) (fails : ErrorCode → T) (face : Interface) (es : List Entry) (m : Machine) (own : OpId) (ctx : WasiSocketsCtx) (family : SocketAddressFamily) → Keeps es m.store.records → Allows Anything (λ fs done. Keeps fs done.1.store.records) es (create_to tells fails (tcp_kind face) m own ctx family)
creates_keep tells fails face es m own ctx family i =
    allows_weaker Anything (λ fs done. Keeps fs m.store.records × Adds m done.1) (λ fs done. Keeps fs done.1.store.records) (λ fs done k. k.1 fs k.0) es _
    (kept m.store.records (λ fs done. Adds m done.1) es (create_to tells fails (tcp_kind face) m own ctx family) i (allows_then Unpeered (λ fs made. ⊤) (λ fs done. Adds m done.1) es (new_asks own ctx family) (made_to tells fails (tcp_kind face) m own) (new_quiet es own ctx family) (λ fs made t. socket_adds tells fails face fs m own made)))

-- a create of a UDP socket was answered
pub begun_keeps : (es : List Entry) (h : Here) (own : OpId) (maker : ℕ) (family : SocketAddressFamily) (told : Told) → IsDoneOrCode told → Keeps es h.machine.store.records
    → Keeps (es ++ entry own (Call.UdpCreate maker family) told ∷ []) (udp_begun h (udp_after_create own maker family (told_done told))).machine.store.records
begun_keeps es h own maker family Told.Done f i = push_udps _ h.machine.store.records
    (UdpRecord.Creating (new_create own maker family)) (has_last es _, has_made es own maker family)
    (asked es h.machine.store.records own (Call.UdpCreate maker family) Told.Done (quiet _ _ tt) i)
begun_keeps es h own maker family (Told.Code c) f i = asked es h.machine.store.records own (Call.UdpCreate maker family) (Told.Code c) (quiet _ _ tt) i
begun_keeps es h own maker family _ f i = absurd f

-- what is learnt of whether it is bound leaves the rest
bound_keeps : (fs : List Entry) (o : OpenUdp) → OpenKeeps fs o → OpenKeeps fs (with_udp_inner o (record o.inner { bound = true }))
bound_keeps fs o k = record { created = k.created; remote = k.remote; told = k.told; connects = k.connects; receiver = k.receiver }

pub learnt_keeps : (fs : List Entry) (o : OpenUdp) (told : Result IpSocketAddress ErrorCode) → OpenKeeps fs o → OpenKeeps fs (with_udp_inner o (udp_after_local o.inner told).1)
learnt_keeps fs o (Ok a) k = by_test (is_wildcard o.inner.family a)
  where
    by_test : (b : Bool) → (let answer : Bool × UdpSocket = if b then (false, o.inner) else (true, record o.inner { bound = true }) in OpenKeeps fs (with_udp_inner o answer.1))
    by_test true = record
        { created = k.created; remote = k.remote; told = k.told; connects = k.connects; receiver = k.receiver }
    by_test false = bound_keeps fs o k
learnt_keeps fs o (Err c) k = record
    { created = k.created; remote = k.remote; told = k.told; connects = k.connects; receiver = k.receiver }

-- == a turn of a writer, and what is released
-- one poll of a write
job_keeps : (es : List Entry) (made : Option OpId) (job : Job) (end : End) → JobBy made job → Allows Unpeered (λ fs j. JobBy made j) es (job_in job end)
job_keeps es made job Waits k = allows_then Unpeered (λ fs ended. AreSilent ended.1) (λ fs j. JobBy made j) es (poll_asks job.write) _ (silent_poll job.write es k.1) (λ fs ended s. (k.0, s))
job_keeps es made job _ k = k

-- a turn of a writer
turn_keeps : (es : List Entry) (made : Option OpId) (w : WriteState) → WritesBy made w → Allows Unpeered (λ fs done. WritesBy made done.1) es (turn_asks w)
turn_keeps es made (WriteState.Writing job) k = allows_then Unpeered (λ fs j. JobBy made j) (λ fs done. WritesBy made done.1) es (job_asks job) _ (job_keeps es made job job.end k) (λ fs j m. m)
turn_keeps es made (WriteState.Closing job) k = allows_then Unpeered (λ fs j. JobBy made j) (λ fs done. WritesBy made done.1) es (job_asks job) _ (job_keeps es made job job.end k) (λ fs j m. m)
turn_keeps es made _ k = k

-- a turn keeps what is known
pub turned_keeps : (es : List Entry) (h : Here) (place : ℕ) (r : TcpRecord) (s : Streams) → Found h place r → r.streams ≡ Some s → Keeps es h.machine.store.records → Allows Anything (λ fs done. Keeps fs (tcp2_put h.machine.store.records place (with_writer r s done.1))) es (turn_asks s.writer)
turned_keeps es h place r s g e i =
    let k = i.tcps place r g s e in
    allows_weaker Anything (λ fs done. Keeps fs h.machine.store.records × WritesBy r.side done.1) (λ fs done. Keeps fs (tcp2_put h.machine.store.records place (with_writer r s done.1)))
    (λ fs done m. put_tcp fs h.machine.store.records place (with_writer r s done.1) (with_these (with_writer r s done.1) (record s { writer = done.1 }) refl (k.0, m.1)) m.0) es (turn_asks s.writer)
    (kept h.machine.store.records (λ fs done. WritesBy r.side done.1) es (turn_asks s.writer) i (turn_keeps es r.side s.writer k.1))

-- what is released asks for no remote address
pub given_up : (es : List Entry) (l : Listening) → Allows Unpeered (λ fs done. ⊤) es (give_up_asks l)
given_up es Not = tt
given_up es (Begins op) = cancels (is_over op)
  where
    cancels : (over : Bool) → Allows Unpeered (λ fs done. ⊤) es (if over then Give tt else ask_close op.who.id op.who.side)
    cancels true = tt
    cancels false = (tt, λ told f. tt)
given_up es (Accepts l) = by_accept l.accept
  where
    refuses : (who : Who) (o : Option IpSocketAddress) → Allows Unpeered (λ fs done. ⊤) es (refuse_in who o)
    refuses who None = tt
    refuses who (Some peer) = (tt, λ told f. tt)

    by_accept : (a : Accepting) → Allows Unpeered (λ fs done. ⊤) es (give_up_in a)
    by_accept Accepting.Idle = tt
    by_accept (Accepting.Asking op) = refuses op.who (in_hand op.left)
    by_accept (Accepting.Arrived new peer) = (tt, λ told f. tt)
    by_accept (Accepting.Failed c) = tt
given_up es (Unclosed side) = (tt, λ told f. tt)

-- == moves
-- a UDP socket that changes plainly
plain_keeps : (es : List Entry) (o now : OpenUdp) → UdpPlain o now → OpenKeeps es o → OpenKeeps es now
plain_keeps es o now p k = record {
  created = rw (p.side, p.maker, p.family) k.created;
  remote = rw (p.side, p.remote) k.remote;
  told = rw (p.side, p.family, p.remote) k.told;
  connects = rw (p.family, p.connects) k.connects;
  receiver = rw p.maker (kept_op (ReceivesFor o.inner.maker) tt (receiving_in o.incoming) (receiving_in now.incoming) p.receives k.receiver);
}

-- a write that begins is on the network socket, and asks for no remote address
pub write_keeps : (es : List Entry) (h : Here) (place n : ℕ) (r : TcpRecord) (s : Streams) (half : TcpSendStream) (permit : ℕ) (bytes : List ℕ) → Found h place r → r.streams ≡ Some s → s.writer ≡ WriteState.Ready half permit → Keeps es h.machine.store.records
    → Keeps es (tcp2_put h.machine.store.records place (with_writer r s (WriteState.Writing (new_job (own_of n) half.side bytes))))
write_keeps es h place n r s half permit bytes g e w i =
    let k = i.tcps place r g s e in
    let made : r.side ≡ Some half.side = subst (WritesBy r.side) w k.1 in
    put_tcp es _ place _ (with_these (with_writer r s (WriteState.Writing (new_job (own_of n) half.side bytes))) _ refl (k.0, (made, (tt, tt)))) i

-- a create that is given up asks for no remote address
pub cancelled_quiet : (es : List Entry) (create : Create) → Allows Unpeered (λ fs done. ⊤) es (create_cancel_asks create)
unfolding bind
cancelled_quiet es create = allows_if Unpeered (λ fs done. ⊤) es (is_going create.operation) _ _ (λ going. (tt, λ told f. tt)) (λ over. tt)

-- the halves of a connection of 0.3, as far as they are there
ends_by : (r : TcpRecord) → TcpKeeps r → StreamsBy r.side (ends_of r.streams)
ends_by r k = by_streams r.streams (λ s e. e)
  where
    by_streams : (o : Option Streams) → ((s : Streams) → o ≡ Some s → r.streams ≡ Some s) → StreamsBy r.side (ends_of o)
    by_streams None f = (tt, tt)
    by_streams (Some s) f = k s (f s refl)

module _ (contexts : List WasiSocketsCtx) (line : ℕ) (origin : Step) where
  -- each move keeps what is known of the records
  pub moves_keep : (es : List Entry) (h now : Here) → Move line origin h now → Base contexts line origin h → Keeps es h.machine.store.records → Keeps es now.machine.store.records
  moves_keep es _ _ (walk.Changes h place r now g p) b i = put_tcp es _ place now (same_streams r now p.side p.streams (i.tcps place r g)) i
  moves_keep es _ _ (walk.ClosesReader h place r s g e) b i = put_tcp es _ place _ (with_these (with_reader r s ReadState.Closed) _ refl (tt, (i.tcps place r g s e).1)) i
  moves_keep es _ _ (walk.Writes h place r s w g e m) b i = let k = i.tcps place r g s e in put_tcp es _ place _ (with_these (with_writer r s w) _ refl (k.0, writer_moves r.side s.writer w m k.1)) i
  moves_keep es _ _ (walk.IsGone h place r q g e) b i = put_tcp es _ place _ (with_none (gone r r.inner) refl) i
  moves_keep es _ _ (walk.Reconnects h place r c now g e s t u) b i = put_tcp es _ place _ (i.tcps place r g) i
  moves_keep es _ _ (walk.Opens h place r c d g e k) b i = let made : r.side ≡ Some c.side = b.1.named c.side place r g (ap side_in e) in put_tcp es _ place _ (with_these (opened_by r c) _ refl (made, made)) i
  moves_keep es _ _ (walk.BeginsConnect h place r side a bound at g d to known idle own) b i = put_tcp es _ place _ (i.tcps place r g) i
  moves_keep es _ _ (walk.BeginsBind h place r side a at g d to own) b i = put_tcp es _ place _ (i.tcps place r g) i
  moves_keep es _ _ (walk.BeginsWrite h place n r s half permit bytes at g e w within own) b i = write_keeps es h place n r s half permit bytes g e w i
  moves_keep es _ _ (walk.BeginsListen h place r side bound at g d known un none to idle own) b i = put_tcp es _ place _ (i.tcps place r g) i
  moves_keep es _ _ (walk.BeginsAccept h place part r l at g e a own) b i = put_tcp es _ place _ (i.tcps place r g) i
  moves_keep es _ _ (walk.Unlistens h place r op q g e c o) b i = put_tcp es _ place _ (i.tcps place r g) i
  moves_keep es _ _ (walk.Forgets h place r l c g e a) b i = put_tcp es _ place _ (i.tcps place r g) i
  moves_keep es _ _ (walk.Joins h c handle place r l new peer is of u g e a) b i = push_tcp es _ (joined l new peer) (with_these (joined l new peer) _ refl (refl, refl)) (put_tcp es _ place _ (i.tcps place r g) i)
  moves_keep es _ _ (walk.JoinsPlain h c listener remaining place r l new peer is of u g e a) b i = push_tcp es _ (joined_plain l new peer) (with_none (joined_plain l new peer) refl) (put_tcp es _ place _ (i.tcps place r g) i)
  moves_keep es _ _ (walk.JoinsFault h place r l c u g e a) b i = push_tcp es _ (faulted l c) (with_none (faulted l c) refl) (put_tcp es _ place _ (i.tcps place r g) i)
  moves_keep es _ _ (walk.UdpChanges h place o now g p keeps) b i = put_udps es _ place (UdpRecord.Open now) (plain_keeps es o now p (i.udps place (UdpRecord.Open o) g)) i
  moves_keep es _ _ (walk.BeginsUdpBind h place o a at g to own) b i = let k = i.udps place (UdpRecord.Open o) g in
      put_udps es _ place (UdpRecord.Open _)
      (record { created = k.created; remote = k.remote; told = k.told; connects = k.connects; receiver = k.receiver }) i
  moves_keep es _ _ (walk.BeginsUdpConnect h place o a bound at g to known none own) b i = let k = i.udps place
      (UdpRecord.Open o) g in put_udps es _ place (UdpRecord.Open _)
      (record { created = k.created; remote = k.remote; told = k.told; connects = connects_whole o.inner.family a bound; receiver = k.receiver }) i
  moves_keep es _ _ (walk.BeginsSend h place n o out d bound at g e is known own) b i = let k = i.udps place
      (UdpRecord.Open o) g in put_udps es _ place (UdpRecord.Open _)
      (record { created = k.created; remote = k.remote; told = k.told; connects = k.connects; receiver = k.receiver }) i
  moves_keep es _ _ (walk.BeginsReceive h place n o inc bound at g e is own) b i =
      let k = i.udps place (UdpRecord.Open o) g in
      put_udps es _ place (UdpRecord.Open _)
      (record { created = k.created; remote = k.remote; told = k.told; connects = k.connects; receiver = refl }) i
  moves_keep es _ _ (walk.CancelsBind h place r op q g e) b i = put_tcp es _ place _ (i.tcps place r g) i
  moves_keep es _ _ (walk.CancelsUdpBind h place o op q g e) b i = let k = i.udps place (UdpRecord.Open o) g in put_udps
      es _ place (UdpRecord.Open _)
      (record { created = k.created; remote = k.remote; told = k.told; connects = k.connects; receiver = k.receiver }) i
  moves_keep es _ _ (walk.CancelsUdpConnect h place o q g) b i = let k = i.udps place (UdpRecord.Open o) g in put_udps
      es _ place (UdpRecord.Open _)
      (record { created = k.created; remote = k.remote; told = k.told; connects = tt; receiver = k.receiver }) i
  moves_keep es _ _ (walk.TakesEnd h handle place r _ of g (walk.OfReceive c e free)) b i =
      let its : r.side ≡ Some c.side = b.1.named c.side place r g (ap side_in e) in
      put_tcp es _ place (walk.with_receive r c) (with_these (walk.with_receive r c) _ refl (its, (ends_by r (i.tcps place r g)).1)) i
  moves_keep es _ _ (walk.TakesEnd h handle place r _ of g (walk.OfSend c e free)) b i =
      let its : r.side ≡ Some c.side = b.1.named c.side place r g (ap side_in e) in
      put_tcp es _ place (walk.with_send r c) (with_these (walk.with_send r c) _ refl ((ends_by r (i.tcps place r g)).0, its)) i
  moves_keep es _ _ (walk.AddsSlot h s) b i = records_keep {new = λ op. ⊥} es h.machine.store.records _ (slot_push_same h.machine.store.records s) i
  moves_keep es _ _ (walk.Finds h records s) b i = records_keep es h.machine.store.records records s i
  moves_keep es _ _ (walk.DropsUdp h place o idle made g) b i = let k = i.udps place (UdpRecord.Open o) g in put_udps
      es _ place (UdpRecord.Open _)
      (record { created = k.created; remote = k.remote; told = k.told; connects = k.connects; receiver = k.receiver }) i
  moves_keep es _ _ (walk.GivesBack h place idle left) b i = fewer_keep es h.machine.store.records place i
  moves_keep es _ _ _ b i = i

  -- a datagram of 0.3
  begins_keep : (es : List Entry) (h : Here) (place : ℕ) (o : OpenUdp) (call : Operation → BesideCall) (op polled : Operation) → StartsDatagram line origin h.machine.table place o call op polled → Keeps es h.machine.store.records → Allows Anything (λ fs ended. Keeps fs h.machine.store.records) es (poll_asks polled)
  begins_keep es h place o call _ _ (StartsSend c s d bound is of known) i =
      let op : Operation = send_start (own_of line) o.inner d.bytes d.remote_address bound in
      polled_alone es h (at_remote o.inner.remote op) (send_silent op.left (begun_send (own_of line) o.inner d.bytes d.remote_address bound).send.left) i
  begins_keep es h place o call _ _ (StartsReceive c s bound is of known) i =
      let op : Operation = receive_start (own_of line) o.inner bound in
      polled_alone es h (wanting None op) (receive_silent (wanting None op).left (wanted_left None op.left (begun_receive (own_of line) o.inner bound).receive.left)) i

  polls_beside : (es : List Entry) (h : Here) (place : ℕ) (o : OpenUdp) (was : BesideCall) (call : Operation → BesideCall) (op polled : Operation) (n : ℕ) → PollsDatagram place o was call op polled → FitBeside h.machine.store.records n was → Keeps es h.machine.store.records
      → Allows Anything (λ fs ended. Keeps fs h.machine.store.records) es (poll_asks polled)
  polls_beside es h place o _ _ _ _ n (PollsSend op) f i = polled_alone es h (at_remote o.inner.remote op) (send_silent op.left f.1.left) i
  polls_beside es h place o _ _ _ _ n (PollsReceive op) f i = polled_alone es h (wanting None op) (receive_silent (wanting None op).left (wanted_left None op.left f.1.left)) i

  -- the law: the calls may be any
  pub remotes_asks : (es : List Entry) (h : Here) (A : Type 0) (tree : Asks A) (end : A → Here)
      → Asked contexts line origin es h A tree end → Base contexts line origin h → Keeps es h.machine.store.records
      → Allows (Anything) (λ fs x. (λ (es : List Entry) (h : Here). Keeps es h.machine.store.records) fs (end x)) es
      tree
  remotes_asks es h _ _ _ (Questions place n r side c at g o q) b i = (tt, λ told f. asked es _ (own_of n) c told (tcp_spares line origin n es h place r side c g o q.0 b.1 i) i)
  remotes_asks es h _ _ _ (SetsBacklog place r side backlog at g s is) b i = (tt, λ told f. asked es _ (own_of line) _ told (quiet _ _ tt) i)
  remotes_asks es h _ _ _ (Learns place r side at g e) b i = (tt, λ told f. put_tcp _ _ place _ (i.tcps place r g) (asked es _ (own_of line) _ told (quiet _ _ tt) i))
  remotes_asks es h _ _ _ (Closes place r side q g e) b i = (tt, λ told f. put_tcp _ _ place (closed_record r) (with_none (closed_record r) refl) (asked es _ (own_of line) _ told (quiet _ _ tt) i))
  remotes_asks es h _ _ _ (MarksOne kind parent sock m) b i = marks_keep es _ h.machine.table (own_of line) kind parent sock i
  remotes_asks es h _ _ _ (AsksCreate tells fails face ctx family c a o m) b i = creates_keep tells fails face es h.machine (own_of line) ctx family i
  remotes_asks es h _ _ _ (MarksAccepted c s place r is e o g) b i = marks_keep es _ h.machine.table (own_of line) (Tcp2 place) (Some s) _ i
  remotes_asks es h _ _ _ (MarksPlain c s remaining place r is e o g) b i = marks_keep es _ h.machine.table (own_of line) (Tcp3 place) (Some s) _ i
  remotes_asks es h _ _ _ (MarksListener n handle reached place r q m g has e) b i = marks_keep es _ h.machine.table (own_of n) (Listen3 place) (Some handle) _ i
  remotes_asks es h _ _ _ (MarksResult socket place slot r m made e g) b i = marks_keep es _ h.machine.table (own_of line) (Result3 slot) (Some socket) _ i
  remotes_asks es h _ _ _ (WritesOnce c handle place given end r s half permit is e f at g q w own) b i = write_once es h.machine.store.records (own_of line) half.side (take 4294967295 given) i
  remotes_asks es h _ _ _ (Polls op after k) b i = polls_keep contexts line origin es h op after k b i
  remotes_asks es h _ _ _ (BeginsDatagram place o call op polled at g starts made own) b i = begins_keep es h place o call op polled starts i
  remotes_asks es h _ _ _ (PollsBeside n c place o call op polled is at g polls) b i = polls_beside es h place o c.call call op polled c.line polls (b.3.besides c (found_has h.machine.store.beside n c at).0) i
  remotes_asks es h _ _ _ (Turns place r s g e) b i = turned_keeps es h place r s g e i
  remotes_asks es h _ _ _ (GivesUp place r q goes g) b i =
      allows_weaker Anything (λ fs done. Keeps fs h.machine.store.records × ⊤) (λ fs done. Keeps fs (tcp2_put h.machine.store.records place (with_listening r Not)))
      (λ fs done k. put_tcp fs _ place (with_listening r Not) (i.tcps place r g) k.0) es _ (kept h.machine.store.records (λ fs done. ⊤) es (give_up_asks r.listening) i (given_up es r.listening))
  remotes_asks es h _ _ _ (UdpQuestions place n o c at g q) b i = (tt, λ told f. asked es _ (own_of n) c told (quiet _ c (udp_question_quiet line origin n o.inner.side c q)) i)
  remotes_asks es h _ _ _ (UdpLearns place part o at g) b i = (tt, λ told f. (let k = asked es h.machine.store.records (part_of line part) (Call.Local o.inner.side) told (quiet _ _ tt) i in put_udps _ _ place (UdpRecord.Open _) (learnt_keeps _ o (told_addr told) (k.udps place (UdpRecord.Open o) g)) k))
  remotes_asks es h _ _ _ (UdpDisconnects place o at g is) b i = (tt, λ told f. (let k = asked es h.machine.store.records (own_of line) (Call.UdpDisconnect o.inner.side) told (quiet _ _ tt) i in put_udps _ _ place (UdpRecord.Open _) (bound_keeps _ o (k.udps place (UdpRecord.Open o) g)) k))
  remotes_asks es h _ _ _ (UdpPeers place o at g) b i = (tt, λ told f. peer_keeps line es h place o (own_of line) told g b.1 i)
  remotes_asks es h _ _ _ (UdpCloses place n o q g) b i = (tt, λ told f. put_udps _ _ place (UdpRecord.Closed o.inner.side) tt (asked es _ (own_of n) _ told (quiet _ _ tt) i))
  remotes_asks es h _ _ _ (UdpBegins face ctx family c may a o m) b i = (tt, λ told f. begun_keeps es h (own_of line) ctx.name family told f i)
  remotes_asks es h _ _ _ (MarksUdp face place u g) b i = marks_keep es _ h.machine.table (udp_side u) (udp_kind face place) None (Some (udp_side u)) i
  remotes_asks es h _ _ _ (MarksStream place n handle reached kind m new e) b i = marks_keep es _ h.machine.table (own_of n) kind (Some handle) _ i
  remotes_asks es h _ _ _ (MarksError n handle place handles m k e f) b i = marks_keep es _ h.machine.table (own_of n) ErrorValue (Some handle) _ i
  remotes_asks es h _ _ _ (UdpGivesUp place create q g) b i =
      allows_weaker Anything (λ fs done. Keeps fs h.machine.store.records × ⊤) (λ fs done. Keeps fs (udp2_put h.machine.store.records place (UdpRecord.Closed create.operation.who.side)))
      (λ fs done k. put_udps fs _ place (UdpRecord.Closed create.operation.who.side) tt k.0) es _ (kept h.machine.store.records (λ fs done. ⊤) es (create_cancel_asks create) i (cancelled_quiet es create))
  remotes_asks es h _ _ _ (Resolves host records l same) b i = (tt, λ told f. records_keep _ _ (records told) (same told) (asked es _ (own_of line) _ told (quiet _ _ tt) i))
  remotes_asks es h _ _ _ (Looks place op g) b i = (tt, λ told f. asked es _ op.id _ told (quiet _ _ tt) i)
  remotes_asks es h _ _ _ (ResolvesBeside host l) b i = (tt, λ told f. asked es _ (own_of line) _ told (quiet _ _ tt) i)
  remotes_asks es h _ _ _ (LooksBeside n call host g e) b i = (tt, λ told f. asked es _ (own_of n) _ told (quiet _ _ tt) i)

  unfoldable pub remotes : Rests contexts line origin (λ es h. Base contexts line origin h)
  remotes = record {
    P = Anything;
    Inv = λ es h. Keeps es h.machine.store.records;
    moves = moves_keep;
    asks = remotes_asks;
  }

  -- a write that begins in a call of streams
  pub begins_kept : BeginsWrites remotes
  unfolding remotes
  begins_kept = begins_by remotes (λ es h place n r s half permit bytes at g e w within used b i. write_keeps es h place n r s half permit bytes g e w i)
