-- What is in progress is licensed: a bind, a connect, a listen, an accept, a write; and what is released.
use Rattle.wasi_walks.proofs.Words.{Accepting, Accepts, Allows, BeganBy, Begins, Bool, Call, Done, End, Entry, Give, HoldsAccept, HoldsConnect}
use Rattle.wasi_walks.proofs.Words.{InProgress, IpSocketAddress, IsAcceptOn, IsConnect, IsLeftOfBind, IsLeftOfConnect, IsLeftOfListen, IsMaker, Item}
use Rattle.wasi_walks.proofs.Words.{List, Listener, Listening, None, Not, OpId, Operation, Option, Refused, Some, Step, Streams, TcpRecord}
use Rattle.wasi_walks.proofs.Words.{TcpState, Unclosed, Waits, WasiSocketsCtx, Who, WriteState, accept_ended, allows_keep, allows_then, allows_weaker}
use Rattle.wasi_walks.proofs.Words.{ap, arith, ask_close, bind_progress, connect_ended, false, give_up_asks, give_up_in, if◌then◌else◌, in_hand, inl}
use Rattle.wasi_walks.proofs.Words.{inr, is_over, job_asks, left_of, marked_by, poll_asks, refl, refuse_in, side_of, step_at}
use Rattle.wasi_walks.proofs.Words.{subst, sym, true, turn_asks, with_inner, with_listening, with_progress, with_state, with_writer, ℕ, ⊤, ◌∙◌, ◌≡◌}
use Rattle.wasi_tcp.specs.Listen.{IsListen}
use Rattle.wasi_walks.proofs.licence.AcceptAsks.{MayAs, StandsAfter, polled as polled_accept}
use Rattle.wasi_walks.proofs.licence.ListenAsks.{ended as listen_ended_fine, ListenEnds, fine_poll_listen, also}
use Rattle.wasi_walks.proofs.fits.Law.{Fit}
use Rattle.wasi_walks.proofs.fits.Records.{FitListening, FitProgress}
use Rattle.wasi_walks.proofs.licence.Fresh.{spared_as}
use Rattle.wasi_walks.proofs.claims.Polls.{AllAskBut, IsPlainCall, poll_plainly}
use Rattle.wasi_walks.proofs.claims.Law.{accept_plain, Named, Base, same_begun, fresh_to_come, taken_fresh, Fresh}
use Rattle.wasi_walks.proofs.walks.Moves.{Held, BindsOn, Connects, Here, put, Found, Listens, Awaits, UdpCreates, UdpBindsOn, UdpConnectsOn, UdpReconnectsOn, SendsOn, ReceivesOn, listen_after, accepting_now}
use Rattle.wasi_walks.specs.Licence.{MakesTcp}
use Rattle.wasi_walks.proofs.licence.State.{ConnectIsFine, accept_name, Names, BindIsFine, JobIsFine, WritesOn, StreamsAreFine, AcceptingIsFine, ListeningIsFine, ProgressIsFine, RecordIsFine, AcceptStands, AcceptingStands, ListeningStands, name_in, AcceptLeft, AcceptIsFine}
use Rattle.wasi_walks.proofs.licence.Frames.{Touches, same_listening, listening_gone, same_record, record_kept, maker_more}
use Rattle.wasi_walks.proofs.licence.States.{state_put, state_renewed}
use Rattle.wasi_walks.proofs.licence.Binds.{no_local, May, MayQuietly, NoLocal, fine_poll}
use Rattle.wasi_walks.proofs.licence.Connects.{fine_poll_connect, ended}
use Rattle.wasi_walks.proofs.licence.WriteJobs.{fine_job}
use Rattle.wasi_walks.proofs.walks.Law.{put_put}
use Rattle.wasi_walks.proofs.licence.Line.{put_with, some_same, no_listen, local_side, ListenGoesOn, Licensed, put_fine}
use Rattle.wasi_walks.proofs.licence.Moves.{streams_fine, held_side, same_listen, listener_fine}
use Rattle.wasi_walks.proofs.licence.Asked.{Spares, spares, asked_by, asked_fine, kept}
use Rattle.wasi_walks.proofs.licence.UdpGoesOn.{udp_created_on, udp_bound_on, udp_connected_on, udp_reconnected_on, udp_sent_on, udp_received_on}
use Rattle.wasi_walks.proofs.remotes.State.{Keeps, remotes_in}
use Rattle.wasi_tcp.specs.Listen as listen
use Rattle.wasi_tcp.specs.Connect as connecting
use Rattle.wasi_walks.specs.Waiting as binding
use Rattle.wasi_records.specs.Records.{tcp2_at, tcp2_put}
use Rattle.wasi_walks.proofs.Places.{put_finds, put_found, tcp_sort}
use Rattle.wasi_walks.proofs.licence.Unbound.{MayAskSo}

module _ (contexts : List WasiSocketsCtx) (steps : List Step) (line : ℕ) (origin : Step) (is_line : step_at steps line ≡ Some origin) where
  -- == what is in progress
  -- a poll that asks for no local address
  quietly : (Q : List Entry → End × List Item → Type 0) (es : List Entry) (op : Operation) → AllAskBut ⊥ op.left → Allows (May contexts steps) Q es (poll_asks op) → Allows (MayQuietly contexts steps) Q es (poll_asks op)
  quietly Q es op k a = also (May contexts steps) (λ fs o c. NoLocal c) Q _ es (poll_asks op) a (poll_plainly NoLocal no_local op.who op.left es k)

  pub bind_quiet : (items : List Item) → IsLeftOfBind items → AllAskBut ⊥ items
  bind_quiet _ (binding.Unchecked a) = (tt, (tt, tt))
  bind_quiet _ (binding.Checked a) = (tt, tt)
  bind_quiet _ binding.Ended = tt

  pub connect_quiet : (items : List Item) → IsLeftOfConnect items → AllAskBut ⊥ items
  connect_quiet _ (connecting.Unbound w a) = (tt, (tt, (tt, tt)))
  connect_quiet _ (connecting.Unchecked a) = (tt, (tt, tt))
  connect_quiet _ (connecting.Checked a) = (tt, tt)
  connect_quiet _ (connecting.ToClose c) = (tt, tt)
  connect_quiet _ connecting.Ended = tt

  -- the local address of its own network socket alone
  abbrev pub Its : OpId → Call → Type 0
  Its side c = (x : OpId) → c ≡ Call.Local x → side ≡ x

  pub its_quiet : (side : OpId) (c : Call) → IsPlainCall c → Its side c
  its_quiet side c n x e = absurd (subst IsPlainCall e n)

  its_own : (side : OpId) → Its side (Call.Local side)
  its_own side x e = local_side side x e

  pub listen_quiet : (who : Who) (items : List Item) → IsLeftOfListen items → AllAskBut (Its who.side (Call.Local who.side)) items
  listen_quiet who _ (listen.BoundBefore b) = (its_own who.side, (tt, tt))
  listen_quiet who _ (listen.AddressTold a b) = (tt, (tt, tt))
  listen_quiet who _ (listen.Unbound w b) = (tt, (tt, (tt, (tt, tt))))
  listen_quiet who _ (listen.BindChecked w b) = (tt, (tt, (tt, tt)))
  listen_quiet who _ (listen.Checked w b) = (tt, (tt, tt))
  listen_quiet who _ (listen.Bound b) = (tt, tt)
  listen_quiet who _ (listen.ToClose c) = (tt, tt)
  listen_quiet who _ listen.Ended = tt

  bound_after : (fs : List Entry) (op : Operation) (end : End × List Item) → BindIsFine steps fs (left_of op end.1) → ProgressIsFine steps fs (bind_progress op end)
  bound_after fs op (Waits, items) k = k
  bound_after fs op (Done given, items) k = tt
  bound_after fs op (Refused c given, items) k = tt

  bound_on : (es : List Entry) (h : Here) (place : ℕ) (r : TcpRecord) (op : Operation) → Found h place r → r.in_progress ≡ InProgress.Binding op → Fit h → Licensed contexts steps line origin es h
      → Allows (MayAskSo contexts steps) (λ fs ended. Licensed contexts steps line origin fs (put h place (with_progress r (bind_progress op ended)))) es (poll_asks op)
  bound_on es h place r op g e b i =
      let its = subst (FitProgress r.inner.state) e (b.records place r g).2 in
      let f : BindIsFine steps es op = subst (ProgressIsFine steps es) e (i.fine.records place r g).progress in
      allows_weaker (MayAskSo contexts steps) (λ fs ended. Licensed contexts steps line origin fs h × BindIsFine steps fs (left_of op ended.1)) (λ fs ended. Licensed contexts steps line origin fs (put h place (with_progress r (bind_progress op ended))))
      (λ fs ended k. let x = k.0.fine.records place r g in let now = with_progress r (bind_progress op ended) in
      put_fine fs h place r now g refl (same_listening r.listening) (same_listen contexts steps line origin is_line r now refl refl refl) (record { socket = x.socket; named = x.named; streams = x.streams; listening = x.listening; progress = bound_after fs op ended k.1 }) k.0) es (poll_asks op)
      (kept contexts steps line origin is_line h (λ fs ended. BindIsFine steps fs (left_of op ended.1)) es (poll_asks op) i (quietly (λ fs ended. BindIsFine steps fs (left_of op ended.1)) es op (bind_quiet op.left its.1.left) (fine_poll contexts steps op es f)))

  connected_on : (es : List Entry) (h : Here) (place : ℕ) (r : TcpRecord) (op : Operation) → Found h place r → r.inner.state ≡ TcpState.Connecting op → Fit h → Licensed contexts steps line origin es h
      → Allows (MayAskSo contexts steps) (λ fs ended. Licensed contexts steps line origin fs (put h place (with_inner r (with_state r.inner (connect_ended op.who ended).1)))) es (poll_asks op)
  connected_on es h place r op g e b i =
      let its : IsConnect op = subst HoldsConnect e (b.records place r g).0 in
      allows_weaker (MayAskSo contexts steps) (λ fs ended. Licensed contexts steps line origin fs h × ConnectIsFine steps fs (left_of op ended.1)) (λ fs ended. Licensed contexts steps line origin fs (put h place (with_inner r (with_state r.inner (connect_ended op.who ended).1))))
      (λ fs end k. let x = k.0.fine.records place r g in let d = ended contexts steps fs r.inner op end e x.socket k.1 in let now = with_inner r (with_state r.inner (connect_ended op.who end).1) in
      put_fine fs h place r now g refl (same_listening r.listening) (same_listen contexts steps line origin is_line r now refl refl refl) (record_kept steps fs r now (record { keeps = d.keeps; side = refl; streams = refl; listening = refl; binds = inl refl }) d.fine x) k.0) es (poll_asks op)
      (kept contexts steps line origin is_line h (λ fs ended. ConnectIsFine steps fs (left_of op ended.1)) es (poll_asks op) i (quietly (λ fs ended. ConnectIsFine steps fs (left_of op ended.1)) es op (connect_quiet op.left its.left) (fine_poll_connect contexts steps op es ((i.fine.records place r g).socket.connect op e))))

  -- == a listen and an accept are taken out of their record, polled, and put back
  pub taken_out : (es : List Entry) (h : Here) (place : ℕ) (r : TcpRecord) → Found h place r → Licensed contexts steps line origin es h → Licensed contexts steps line origin es (put h place (with_listening r Not))
  taken_out es h place r g i = let f = i.fine.records place r g in put_fine es h place r (with_listening r Not) g refl (listening_gone r.listening) (λ op p. absurd (cc)) (record { socket = f.socket; named = f.named; streams = f.streams; listening = tt; progress = f.progress }) i

  there : (h : Here) (place : ℕ) (r now : TcpRecord) → Found h place r → Found (put h place now) place now
  there h place r now g = put_finds tcp_sort h.machine.store.records place r now g

  -- the record that a listen leaves has one that is in progress only where it waits
  still_goes : (fs : List Entry) (r : TcpRecord) (op : Operation) (end : End × List Item) → op.who.context ≡ r.inner.maker → IsMaker fs r.inner.maker r.inner.family op.who.side → BeganBy steps op.who.side MakesTcp → ListenEnds steps fs op.who end.0 end.1 → (o : Operation) → (listen_after op r end).listening ≡ Begins o → ListenGoesOn steps fs (listen_after op r end) o
  still_goes fs r op (Waits, items) a m t k o e = subst (ListenGoesOn steps fs (listen_after op r (Waits, items))) (same_begun (record { who = op.who; left = items }) o e) (record { fine = k; asks = a; made = m; tcp = t })
  still_goes fs r op _ a m t k o e = absurd (cc)

  listened_on : (es : List Entry) (h : Here) (place : ℕ) (r : TcpRecord) (op : Operation) → Found h place r → r.listening ≡ Begins op → side_of r.inner ≡ None → Fit h → Named line h → Licensed contexts steps line origin es h
      → Allows (MayAskSo contexts steps) (λ fs ended. Licensed contexts steps line origin fs (put h place (listen_after op r ended))) es (poll_asks op)
  listened_on es h place r op g e closed b n i =
      let l = i.listens place r op g e in
      let its : IsListen op = subst FitListening e (b.records place r g).1 in
      let d = n.held op place r g e in
      let out = put h place (with_listening r Not) in
      let M : List Entry → Type 0 = λ fs. Licensed contexts steps line origin fs out × IsMaker fs r.inner.maker r.inner.family op.who.side in
      let Q : List Entry → End × List Item → Type 0 = λ fs end. ListenEnds steps fs op.who end.0 end.1 in
      allows_weaker (MayAskSo contexts steps) (λ fs end. M fs × Q fs end) (λ fs end. Licensed contexts steps line origin fs (put h place (listen_after op r end)))
      (λ fs end k. put_after fs end k.0.0 k.0.1 k.1 l.asks d.0 l.tcp) es (poll_asks op)
      (allows_keep (λ fs o c. May contexts steps fs o c × Its op.who.side c) (MayAskSo contexts steps) M Q
      (λ fs o c t fits k m. (asked_fine contexts steps line origin is_line fs out o c t m.0.1 (others c m.1 d.0) k.0, maker_more fs _ r.inner.maker r.inner.family op.who.side k.1)) (λ fs o c m. m.0.0) es (poll_asks op)
      (taken_out es h place r g i, l.made)
      (also (May contexts steps) (λ fs o c. Its op.who.side c) Q _ es (poll_asks op) (fine_poll_listen contexts steps op es l.fine) (poll_plainly (Its op.who.side) (its_quiet op.who.side) op.who op.left es (listen_quiet op.who op.left its.left))))
    where
      -- the other listens are on other network sockets
      others : (c : Call) → Its op.who.side c → r.side ≡ Some op.who.side → Spares contexts steps line origin is_line (put h place (with_listening r Not)) c
      others c m d k q o f x p = elim (put_found tcp_sort h.machine.store.records place (with_listening r Not) k q f) [
        | inl v ↦ no_listen o (ap (λ (y : TcpRecord). y.listening) v.1 ∙ x)
        | inr v ↦ (
            let side : op.who.side ≡ o.who.side = m o.who.side p in
            let at : place ≡ k = n.one op.who.side place k r q g v (inl d) (inl ((n.held o k q v x).0 ∙ ap (λ (y : OpId). Some y) (sym side))) in
            let same : with_listening r Not ≡ q = same_record (with_listening r Not) q (sym (there h place r (with_listening r Not) g) ∙ (ap (tcp2_at (tcp2_put h.machine.store.records place (with_listening r Not))) at ∙ f)) in
            no_listen o (ap (λ (y : TcpRecord). y.listening) same ∙ x))
      ]

      put_after : (fs : List Entry) (end : End × List Item) → Licensed contexts steps line origin fs (put h place (with_listening r Not)) → IsMaker fs r.inner.maker r.inner.family op.who.side → ListenEnds steps fs op.who end.0 end.1 → op.who.context ≡ r.inner.maker → r.side ≡ Some op.who.side → BeganBy steps op.who.side MakesTcp → Licensed contexts steps line origin fs (put h place (listen_after op r end))
      put_after fs end k m q a s t =
          let out = put h place (with_listening r Not) in
          let f = k.fine.records place (with_listening r Not) (there h place r (with_listening r Not) g) in
          let whole : RecordIsFine steps fs r = record { socket = f.socket; named = f.named; streams = f.streams; listening = subst (ListeningIsFine steps fs r.side) (sym e) tt; progress = f.progress } in
          let x = listen_ended_fine contexts steps fs (with_listening r Not) r op end refl s closed a m whole q in
          let now = listen_after op r end in
          subst (Licensed contexts steps line origin fs) (put_put h place (with_listening r Not) now)
          (put_with fs out place (with_listening r Not) now (there h place r (with_listening r Not) g) x.leaves.side k (state_put contexts steps fs out.machine place (with_listening r Not) now (there h place r (with_listening r Not) g) x.leaves.side x.leaves.listening x.leaves.fine k.fine) (still_goes fs r op end a m t q))

  -- an accept asks by its own name, and marks nothing
  touch_as : (op x : OpId) (c : Call) → marked_by c ≡ 0 → Touches op c x → op ≡ x
  touch_as op x (Call.Made handle kind parent sock) z t = absurd (omega (arith, z))
  touch_as op x (Call.Accept s) z t = t
  touch_as op x (Call.Hand s p) z t = t
  touch_as op x _ z t = absurd t

  awaited_on : (es : List Entry) (h : Here) (place : ℕ) (r : TcpRecord) (l : Listener) (op : Operation) → Found h place r → r.listening ≡ Accepts l → l.accept ≡ Accepting.Asking op → Fit h → Named line h → Licensed contexts steps line origin es h
      → Allows (MayAskSo contexts steps) (λ fs ended. Licensed contexts steps line origin fs (put h place (accepting_now r l (accept_ended op.who ended)))) es (poll_asks op)
  awaited_on es h place r l op g e a b n i =
      let x = i.fine.records place r g in let lf = listener_fine contexts steps line origin is_line es r l e x in
      let f : AcceptIsFine steps es l.side l.maker op = subst (AcceptingIsFine steps es l.side l.maker) a lf.accept in
      let st : AcceptStands es op.who.id l.side op.left = subst (AcceptingStands es l.side) a (subst (ListeningStands es) e (i.fine.accepts place r g)) in
      let its : IsAcceptOn l.side l.maker op = subst (HoldsAccept l.side l.maker) a (subst FitListening e (b.records place r g).1) in
      let out = put h place (with_listening r Not) in
      let name : accept_name r.listening ≡ Some op.who.id = ap accept_name e ∙ ap name_in a in
      let free = taken_fresh contexts line origin h place r (with_listening r Not) op.who.id g name refl refl n in
      let M : List Entry → Type 0 = λ fs. Licensed contexts steps line origin fs out × IsMaker fs l.maker l.family l.side in
      let Q : List Entry → End × List Item → Type 0 = λ fs end. StandsAfter contexts steps op.who fs end in
      allows_weaker (MayAskSo contexts steps) (λ fs end. M fs × Q fs end) (λ fs end. Licensed contexts steps line origin fs (put h place (accepting_now r l (accept_ended op.who end))))
      (λ fs end k. put_after fs end k.0.0 k.0.1 k.1 f.on f.asks lf.side free) es (poll_asks op)
      (allows_keep (λ fs o c. MayAs contexts steps op.who.id fs o c × NoLocal c) (MayAskSo contexts steps) M Q
      (λ fs o c t fits k m. (asked_by contexts steps line origin is_line fs out o c t m.0.2 (spared_as out.machine.store.records o op.who.id c m.0.1 m.0.2 (λ p q y z. free p q y (inr z))) (λ x u t. fresh_to_come contexts line origin h n x u place r g (inr (name ∙ ap (λ (y : OpId). Some y) (sym m.0.1 ∙ touch_as o x c m.0.2 t)))) (spares contexts steps line origin is_line out c m.1) k.0, maker_more fs _ l.maker l.family l.side k.1)) (λ fs o c m. m.0.0) es (poll_asks op)
      (taken_out es h place r g i, lf.maker)
      (also (MayAs contexts steps op.who.id) (λ fs o c. NoLocal c) Q _ es (poll_asks op)
      (polled_accept contexts steps op.who f.last es op.left (record { family = l.family; made = subst (λ (y : OpId). IsMaker es op.who.context l.family y) (sym f.on) (subst (λ (m : ℕ). IsMaker es m l.family l.side) (sym f.asks) lf.maker); named = subst (Names steps es op.who.id) (sym f.on) f.named }) st.handed st.marked (subst (λ (y : OpId). AcceptLeft es op.who.id y op.left) (sym f.on) st.so_far))
      (poll_plainly NoLocal no_local op.who op.left es (accept_plain ⊥ op.left its.accept.left))))
    where
      put_after : (fs : List Entry) (end : End × List Item) → Licensed contexts steps line origin fs (put h place (with_listening r Not)) → IsMaker fs l.maker l.family l.side → StandsAfter contexts steps op.who fs end → op.who.side ≡ l.side → op.who.context ≡ l.maker → r.side ≡ Some l.side → Fresh (put h place (with_listening r Not)) op.who.id
          → Licensed contexts steps line origin fs (put h place (accepting_now r l (accept_ended op.who end)))
      put_after fs end k m q on asks s free =
          let out = put h place (with_listening r Not) in
          let now = accepting_now r l (accept_ended op.who end) in
          let f = k.fine.records place (with_listening r Not) (there h place r (with_listening r Not) g) in
          let its : AcceptingIsFine steps fs l.side l.maker (accept_ended op.who end) = subst (λ (y : OpId). AcceptingIsFine steps fs y l.maker (accept_ended op.who end)) on (subst (λ (y : ℕ). AcceptingIsFine steps fs op.who.side y (accept_ended op.who end)) asks q.fine) in
          let stands : AcceptingStands fs l.side (accept_ended op.who end) = subst (λ (y : OpId). AcceptingStands fs y (accept_ended op.who end)) on q.stands in
          subst (Licensed contexts steps line origin fs) (put_put h place (with_listening r Not) now)
          (put_with fs out place (with_listening r Not) now (there h place r (with_listening r Not) g) refl k
          (state_renewed contexts steps fs out.machine place (with_listening r Not) now (there h place r (with_listening r Not) g) refl (record { socket = f.socket; named = f.named; streams = f.streams; listening = record { side = s; maker = m; accept = its }; progress = f.progress }) stands
          (λ y z p v w u. absurd (free p v w (inr (u ∙ ap (λ (o : OpId). Some o) (q.name y z))))) k.fine) (λ o p. absurd (cc)))

  pub turn_on : (es : List Entry) (side : OpId) (w : WriteState) → WritesOn steps es side w → Allows (MayQuietly contexts steps) (λ fs done. WritesOn steps fs side done.1) es (turn_asks w)
  turn_on es side (WriteState.Writing job) on = allows_then (MayQuietly contexts steps) (λ fs j. JobIsFine steps fs side j) (λ fs done. WritesOn steps fs side done.1) es (job_asks job) _ (fine_job contexts steps es side job on) (λ fs j k. k)
  turn_on es side (WriteState.Closing job) on = allows_then (MayQuietly contexts steps) (λ fs j. JobIsFine steps fs side j) (λ fs done. WritesOn steps fs side done.1) es (job_asks job) _ (fine_job contexts steps es side job on) (λ fs j k. k)
  turn_on es side _ on = on

  -- the connection has one network socket
  one_side : (fs es : List Entry) (r : TcpRecord) (s : Streams) (f : StreamsAreFine steps es r.inner s) (x : StreamsAreFine steps fs r.inner s) → f.side ≡ x.side
  one_side fs es r s f x = some_same f.side x.side (sym (held_side contexts steps line origin is_line fs r s x) ∙ held_side contexts steps line origin is_line es r s f)

  pub turned_fine : (es : List Entry) (h : Here) (place : ℕ) (r : TcpRecord) (s : Streams) → Found h place r → r.streams ≡ Some s → Licensed contexts steps line origin es h → Allows (MayAskSo contexts steps) (λ fs done. Licensed contexts steps line origin fs (put h place (with_writer r s done.1))) es (turn_asks s.writer)
  turned_fine es h place r s g e i =
      let f = (i.fine.records place r g).streams s e in
      let Q : List Entry → Unit {0} × WriteState → Type 0 = λ fs done. WritesOn steps fs f.side done.1 in
      allows_weaker (MayAskSo contexts steps) (λ fs done. Licensed contexts steps line origin fs h × Q fs done) (λ fs done. Licensed contexts steps line origin fs (put h place (with_writer r s done.1)))
      (λ fs done k. streams_fine contexts steps line origin is_line fs h place r s (record s { writer = done.1 }) g e (λ x. (x.reads, subst (λ (o : OpId). WritesOn steps fs o done.1) (one_side fs es r s f x) k.1)) k.0) es (turn_asks s.writer)
      (kept contexts steps line origin is_line h Q es (turn_asks s.writer) i (turn_on es f.side s.writer f.writes))

  pub given_up : (es : List Entry) (made : Option OpId) (l : Listening) → ListeningIsFine steps es made l → Allows (MayQuietly contexts steps) (λ fs done. ⊤) es (give_up_asks l)
  given_up es made Not f = tt
  given_up es made (Begins op) f = cancels (is_over op)
    where
      cancels : (over : Bool) → Allows (MayQuietly contexts steps) (λ fs done. ⊤) es (if over then Give tt else ask_close op.who.id op.who.side)
      cancels true = tt
      cancels false = (((tt, tt), tt), λ t fits. tt)
  given_up es made (Accepts l) f = by_accept l.accept f.accept
    where
      refuses : (who : Who) (o : Option IpSocketAddress) → Names steps es who.id who.side → Allows (MayQuietly contexts steps) (λ fs done. ⊤) es (refuse_in who o)
      refuses who None n = tt
      refuses who (Some peer) n = (((inl n, tt), tt), λ t fits. tt)

      by_accept : (a : Accepting) → AcceptingIsFine steps es l.side l.maker a → Allows (MayQuietly contexts steps) (λ fs done. ⊤) es (give_up_in a)
      by_accept Accepting.Idle k = tt
      by_accept (Accepting.Asking op) k = refuses op.who (in_hand op.left) (subst (Names steps es op.who.id) (sym k.on) k.named)
      by_accept (Accepting.Arrived new peer) k = (((tt, tt), tt), λ t fits. tt)
      by_accept (Accepting.Failed c) k = tt
  given_up es made (Unclosed side) f = (((tt, tt), tt), λ t fits. tt)

  pub polls_fine : (es : List Entry) (h : Here) (op : Operation) (after : End × List Item → Here) → Held h op after → Base contexts line origin h × Keeps es h.machine.store.records → Licensed contexts steps line origin es h → Allows (MayAskSo contexts steps) (λ fs ended. Licensed contexts steps line origin fs (after ended)) es (poll_asks op)
  polls_fine es h _ _ (BindsOn place r op q g e) b i = bound_on es h place r op g e b.0.0 i
  polls_fine es h _ _ (Connects place r op g e) b i = connected_on es h place r op g e b.0.0 i
  polls_fine es h _ _ (Listens place r op q g e c) b i = listened_on es h place r op g e c b.0.0 b.0.1 i
  polls_fine es h _ _ (Awaits place r l op g e a) b i = awaited_on es h place r l op g e a b.0.0 b.0.1 i
  polls_fine es h _ _ (UdpCreates place create q g) b i = udp_created_on contexts steps line origin is_line es h place create g i
  polls_fine es h _ _ (UdpBindsOn place o op q g e) b i = udp_bound_on contexts steps line origin is_line es h place o op g e i
  polls_fine es h _ _ (UdpConnectsOn place o op q g e) b i = udp_connected_on contexts steps line origin is_line es h place o op g e i
  polls_fine es h _ _ (UdpReconnectsOn place o op q g e) b i = udp_reconnected_on contexts steps line origin is_line es h place o op g e i
  polls_fine es h _ _ (SendsOn place o out op left g e s settles) b i = udp_sent_on contexts steps line origin is_line es h place o out op left g e s settles (remotes_in es h b.1 place o g) b.0.0 i
  polls_fine es h _ _ (ReceivesOn place o inc op g e s) b i = udp_received_on contexts steps line origin is_line es h place o inc op g e s i
