-- What is released: what a socket listens by, its halves, and its network socket, by a drop or a shutdown.
use Rattle.wasi_causes.proofs.Words.{◌≡◌, Bool, true, false, if◌then◌else◌, List, [], ◌++◌, Option, Some, None, refl, sym, ap, ◌∙◌, append-nil, append_assoc, IpSocketAddress, ShutdownType, Receive, Send, Both, give_streams_up, gone, release_asks, give_up_asks, shut_streams, Listening, Streams, TcpRecord, in_hand, refuse_in, Job, is_over, held_side, give_up_in, reader_shutdown_asks, Socket, side_of, writer_side, writer_shutdown_asks, side_up_asks, Accepting, ReadState, WriteState, Give, bind, End, Done, Who, Operation, ask_close, Entry, OpId}
use Rattle.wasi_causes.proofs.tables.Meets.{Rows, Meets, ends, asks, chain, onto, told_so, widen}
use Rattle.wasi_causes.specs.GivenUp.{receive_given_up, send_given_up, streams_given_up, side_closed, arrival_given_up, accept_given_up, listen_given_up, listening_given_up, socket_given_up, ended_side, shut_at_once, last_write, shut_writer, shutdown_entries, shut_down}
use Rattle.tcp_records.specs.Shutdowns.{shut_receive, shut_send}
use Rattle.tcp_records.specs.declared.tcp_listening.Listening.TheVariants as listening
use Rattle.wasi_tcp.specs.Closing.{close_in}
use Rattle.wasi_tcp.specs.Job.{finish_in}
use Rattle.wasi_tcp.specs.declared.listener.Accepting.TheVariants as accepting
use Rattle.wasi_tcp.specs.declared.reader.ReadState.TheVariants as reading
use Rattle.wasi_tcp.specs.declared.writer.WriteState.TheVariants as writing
use Rattle.wasi_world.specs.declared.call.Call.TheVariants as call

abbrev Adds : {A : Type 0} → List Entry → List Entry → Rows A
Adds es more fs done = fs ≡ es ++ more

then_so : (es one two fs gs : List Entry) → fs ≡ es ++ one → gs ≡ fs ++ two → gs ≡ es ++ (one ++ two)
then_so es one two fs gs e h = h ∙ (ap (λ (xs : List Entry). xs ++ two) e ∙ append_assoc es one two)

-- == what a socket listens by
refuses : (who : Who) (o : Option IpSocketAddress) → Meets (λ es done. es ≡ arrival_given_up who o) [] (refuse_in who o)
unfolding bind
refuses who (Some peer) = asks (λ t fits. ends (told_so who.id [] (call.Refuse who.side peer) t fits))
refuses who None = ends refl

accept_up : (a : Accepting) → Meets (λ es done. es ≡ accept_given_up a) [] (give_up_in a)
unfolding bind
accept_up (accepting.Asking op) = refuses op.who (in_hand op.left)
accept_up (accepting.Arrived new peer) = asks (λ t fits. ends (told_so new [] (call.Close new) t fits))
accept_up _ = ends refl

cancels : (op : Operation) (over : Bool) → is_over op ≡ over → Meets (λ es done. es ≡ listen_given_up op (held_side op)) [] (if over then Give tt else ask_close op.who.id op.who.side)
unfolding bind
cancels op true e = ends (rw e refl)
cancels op false e = asks (λ t fits. ends (rw e (told_so op.who.id [] (call.Close op.who.side) t fits)))

pub listening_up : (l : Listening) → Meets (λ es done. es ≡ listening_given_up l) [] (give_up_asks l)
unfolding bind
listening_up listening.Not = ends refl
listening_up (listening.Begins op) = cancels op (is_over op) refl
listening_up (listening.Accepts l) = accept_up l.accept
listening_up (listening.Unclosed side) = asks (λ t fits. ends (told_so side [] (call.Close side) t fits))

module _ (own : OpId) where
  -- == the halves
  reader_up : (es : List Entry) (reader : ReadState) → Meets (λ fs done. Adds es (receive_given_up own reader) fs done × (done.1 ≡ reading.Closed)) es (reader_shutdown_asks own reader)
  unfolding bind
  reader_up es (reading.Open half) = asks (λ t fits. ends (told_so own es (call.Shutdown half.side Receive) t fits, refl))
  reader_up es reading.Closed = ends (sym (append-nil es), refl)

  side_up : (es : List Entry) (side : Option OpId) → Meets (Adds es (send_given_up own side)) es (side_up_asks own side)
  side_up es (Some side) = asks (λ t fits. ends (told_so own es (call.Shutdown side Send) t fits))
  side_up es None = ends (sym (append-nil es))

  -- == a socket that goes
  streams_up : (es : List Entry) (o : Option Streams) → Meets (Adds es (streams_given_up own o)) es (give_streams_up own o)
  streams_up es None = ends (sym (append-nil es))
  streams_up es (Some s) = chain (reader_up es s.reader) (λ fs done k. widen (λ gs done h. then_so es (receive_given_up own s.reader) (send_given_up own (writer_side s.writer)) fs gs k.0 h) (side_up fs (writer_side s.writer)))

  closes : (es : List Entry) (socket : Socket) (side : Option OpId) → side_of socket ≡ side → Meets (λ fs done. Adds es (side_closed own side) fs done × (side_of done.1 ≡ None)) es (close_in own socket side)
  unfolding bind
  closes es socket None e = ends (sym (append-nil es), e)
  closes es socket (Some side) e = asks (λ t fits. ends (told_so own es (call.Close side) t fits, refl))

  -- of the record only its place is left, with a socket that has no network socket
  pub record Released (r : TcpRecord) (es : List Entry) (now : TcpRecord) : Type 0 where
    pub socket : Socket
    pub asked : es ≡ socket_given_up own r
    pub no_side : side_of socket ≡ None
    pub is : now ≡ gone r socket

  pub releases : (r : TcpRecord) → Meets (λ es done. Released r es done.1) [] (release_asks own r)
  releases r =
      chain (listening_up r.listening) (λ es done first. chain (streams_up es r.streams) (λ fs done second. onto _ (widen (λ gs closed third. record {
        socket = closed.1;
        asked = third.0 ∙ (ap (λ (xs : List Entry). xs ++ side_closed own (side_of r.inner)) second ∙ ap (λ (xs : List Entry). xs ++ streams_given_up own r.streams ++ side_closed own (side_of r.inner)) first);
        no_side = third.1;
        is = refl;
      }) (closes fs r.inner (side_of r.inner) refl))))

  -- == a shutdown
  finishes : (es : List Entry) (job : Job) (end : End) → Meets (λ fs done. Adds es (send_given_up own (ended_side job end)) fs done × (done.1 ≡ last_write job end)) es (finish_in own job end)
  unfolding bind
  finishes es job (Done given) = asks (λ t fits. ends (told_so own es (call.Shutdown job.write.who.side Send) t fits, refl))
  finishes es job _ = ends (sym (append-nil es), refl)

  writer_up : (es : List Entry) (writer : WriteState) → Meets (λ fs done. Adds es (send_given_up own (shut_at_once writer)) fs done × (done.1 ≡ shut_writer writer)) es (writer_shutdown_asks own writer)
  unfolding bind
  writer_up es (writing.Ready half permit) = asks (λ t fits. ends (told_so own es (call.Shutdown half.side Send) t fits, refl))
  writer_up es (writing.Writing job) = onto _ (widen (λ fs done k. (k.0, ap writing.Closing k.1)) (finishes es job job.end))
  writer_up es _ = ends (sym (append-nil es), refl)

  abbrev pub ShutSo : ShutdownType → Streams → Rows (Unit {0} × Streams)
  ShutSo how s es done = (es ≡ shutdown_entries own how s) × (done.1 ≡ shut_down how s)

  receives : (s : Streams) → Meets (ShutSo Receive s) [] (shut_receive own s)
  receives s = onto _ (widen (λ es done k. (k.0, ap (λ (reader : ReadState). let now : Streams = record s { reader = reader } in now) k.1)) (reader_up [] s.reader))

  sends : (s : Streams) (es : List Entry) → Meets (λ fs done. Adds es (send_given_up own (shut_at_once s.writer)) fs done × (done.1 ≡ shut_down Send s)) es (shut_send own s)
  sends s es = onto _ (widen (λ fs done k. (k.0, ap (λ (writer : WriteState). let now : Streams = record s { writer = writer } in now) k.1)) (writer_up es s.writer))

  -- the sending half of streams that are those of s but for the reader
  then_sends : (s : Streams) (es : List Entry) (done : Unit {0} × Streams) → ShutSo Receive s es done → Meets (ShutSo Both s) es (shut_send own done.1)
  then_sends s es (done, now) k =
      let same : now ≡ shut_down Receive s = k.1 in
      rw same (widen (λ fs done h. (h.0 ∙ ap (λ (gs : List Entry). gs ++ send_given_up own (shut_at_once s.writer)) k.0, h.1)) (sends (shut_down Receive s) es))

  pub shuts : (how : ShutdownType) (s : Streams) → Meets (ShutSo how s) [] (shut_streams own how s)
  shuts Receive s = receives s
  shuts Send s = sends s []
  shuts Both s = chain {Mid = ShutSo Receive s} (receives s) (then_sends s)
