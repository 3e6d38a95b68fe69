-- The reply to each line hands out, on the handle of an incoming stream, what the line takes from that: nothing, or what a receive gives.
use Rattle.std.specs.Prelude.{flat_map}
use Rattle.wasi_causes.proofs.Words.{Allows, Bool, Entry, Err, HandleTable, IpSocketAddress, List, Machine, None, Ok, OpId, Option, Reply, Result, Some, Standing, Step, Stop, Trap, WasiSocketsCtx, [], allows_keep, allows_then, ap, append-nil, append_assoc, arith, asks_while, entry, eq-eqb, false, first_ids, if◌then◌else◌, inl, inr, kind_at, machine_asks, refl, subst, sym, true, ℕ, ◌+◌, ◌++◌, ◌==◌, ◌∙◌, ◌∷◌, ◌≡◌, ◌⊎◌}
use Rattle.std.proofs.lemmas.Bool.{eqb-true}
use Rattle.wasi_world.specs.declared.datagram.IncomingDatagram.{IncomingDatagram}
use Rattle.host_udp.specs.DatagramCalls.{begins_receive, receive_datagrams_at, with_receive}
use Rattle.wasi_world.specs.declared.outcome.TrapKind.TheVariants.{NoSuchHandle}
use Rattle.record_common.specs.Stops.{Code}
use Rattle.host_store.specs.Jobs.{with_job}
use Rattle.host_store.specs.Machine.{incoming_at}
use Rattle.udp_records.specs.Receiving.{receive_datagrams_asks}
use Rattle.wasi_records.specs.Records.{open_at, udp2_at, udp2_put}
use Rattle.host_store.specs.Store.{Records}
use Rattle.host_store.specs.Store.{with_open_udp}
use Rattle.udp_records.specs.declared.datagrams.Incoming.{Incoming as IncomingStream}
use Rattle.udp_records.specs.declared.datagrams.Receiving.{Receiving}
use Rattle.wasi_jobs.specs.declared.job.HostJob.TheVariants.{Receive}
use Rattle.host_store.specs.declared.kind.Kind.TheVariants.{Incoming}
use Rattle.udp_records.specs.declared.udp.OpenUdp.{OpenUdp}
use Rattle.udp_records.specs.declared.udp.UdpRecord.{UdpRecord}
use Rattle.wasi_p2.specs.Udp.{receive_datagrams_on}
use Rattle.wasi_machine.specs.Machine.{reply_of}
use Rattle.wasi_steps.specs.Reply.{datagram_values, received_values}
use Rattle.wasi_steps.specs.declared.guest_call.GuestCall.TheVariants as guest
use Rattle.wasi_steps.specs.declared.guest_call.UdpCall.TheVariants as udp_call
use Rattle.wasi_steps.specs.declared.step.Step.TheVariants as step
use Rattle.wasi_walks.proofs.Words.{allows_weaker}
use Rattle.wasi_walks.proofs.Lists.{cut_more}
use Rattle.wasi_walks.proofs.fits.Polls.{Anything}
use Rattle.wasi_walks.proofs.licence.Replies.{allows_both}
use Rattle.wasi_walks.proofs.licence.State.{RemoteIs}
use Rattle.wasi_walks.proofs.walks.States.{incoming_kind}
use Rattle.wasi_walks.proofs.walks.Udp.{open_is}
use Rattle.wasi_walks.proofs.walks.Here.{older_unused}
use Rattle.wasi_walks.proofs.walks.Moves.{Names, Unused}
use Rattle.wasi_causes.proofs.receiving.Older.{all_grow}
use Rattle.wasi_causes.specs.ReceivedList.{FrontByItsOwn, MarkedBefore, handed_by, left_in_hand, received, waiting, without_count}
use Rattle.wasi_causes.proofs.receiving.Along.{IsOfOne, received_more}
use Rattle.wasi_causes.proofs.receiving.Handed.{IsGiven, Leaves, receives_exact}
use Rattle.wasi_causes.proofs.receiving.Lines.{RestBetween, line_exact, line_rest}
use Rattle.wasi_causes.proofs.receiving.Polled.{Exact, with_waiting}
use Rattle.wasi_causes.proofs.receiving.Streams.{IsFresh, StreamAt, StreamIs, same_place}
use Rattle.wasi_walks.proofs.Places.{put_finds, udp_sort}

-- == what was handed out on a handle
pub waiting_is : (list : List IncomingDatagram) (r : Receiving) → with_waiting list r ≡ list ++ waiting r
waiting_is list (Receiving.Came d) = refl
waiting_is list (Receiving.Nothing) = sym (append-nil list)
waiting_is list (Receiving.InProgress op) = sym (append-nil list)
waiting_is list (Receiving.Failed c) = sym (append-nil list)

module _ (handle : ℕ) where
  -- These are a front of what a stream received since the mark of the handle.
  pub record Front (list : List IncomingDatagram) (es : List Entry) : Type 0 where
    pub side : OpId
    pub kept : Option IpSocketAddress
    pub later : List Entry
    pub marked : MarkedBefore es handle side later
    pub reported : RemoteIs marked.front side kept
    pub more : List IncomingDatagram
    pub all : received side kept None later ≡ list ++ more
    pub while_live : FrontByItsOwn side kept later list
    pub mine : IsOfOne side marked.front while_live.during

  -- they are, or there are none
  abbrev pub Fronts : List IncomingDatagram → List Entry → Type 0
  Fronts list es = (list ≡ []) ⊎ Front list es

  fronts_more : (list : List IncomingDatagram) (es fs : List Entry) → Fronts list es → Fronts list (es ++ fs)
  fronts_more list es fs (inl none) = inl none
  fronts_more list es fs (inr k) =
      let m = k.marked in
      inr (record {
        side = k.side;
        kept = k.kept;
        later = k.later ++ fs;
        marked = record { front = m.front; op = m.op; parent = m.parent; told = m.told; cut = cut_more es fs m.front k.later _ m.cut };
        reported = k.reported;
        while_live = (let w = k.while_live in record { during = w.during; after = w.after ++ fs; cut = ap (λ (xs : List Entry). xs ++ fs) w.cut ∙ append_assoc w.during w.after fs; more = w.more; gave = w.gave; each = w.each });
        mine = k.mine;
        more = k.more ++ received k.side k.kept (left_in_hand k.side None k.later) fs;
        all = received_more k.side k.kept None k.later fs ∙ (ap (λ (ds : List IncomingDatagram). ds ++ received k.side k.kept (left_in_hand k.side None k.later) fs) k.all ∙ append_assoc list k.more (received k.side k.kept (left_in_hand k.side None k.later) fs));
      })

  -- what is known of a live stream says it
  front_of : (list : List IncomingDatagram) (es : List Entry) (side : OpId) (kept : Option IpSocketAddress) (r : Receiving) → Exact handle side kept es list r → Front list es
  front_of list es side kept r k = record { side = side; kept = kept; later = k.later; marked = k.marked; reported = k.reported; more = waiting r; all = k.all ∙ waiting_is list r; while_live = record { during = k.later; after = []; cut = sym (append-nil k.later); more = waiting r; gave = k.all ∙ waiting_is list r; each = k.each }; mine = k.mine }

  -- Before the line of this number.
  pub record StreamBetween (list : List IncomingDatagram) (line : ℕ) (es : List Entry) (m : Machine) : Type 0 where
    pub rest : RestBetween line es m
    pub stream : StreamIs handle list es m.table m.store.records
    pub fresh : IsFresh handle list m.table
    pub fronts : Fronts list es

  -- Afterwards: the reply handed out what was taken.
  pub record Takes (list : List IncomingDatagram) (line : ℕ) (s : Step) (es : List Entry) (done : Reply × Machine) : Type 0 where
    pub new : List IncomingDatagram
    pub gives : handed_by handle s done.0 ≡ flat_map received_values new
    pub between : StreamBetween (list ++ new) (line + 1) es done.1

  -- nothing more was taken
  none_more : (list : List IncomingDatagram) (line : ℕ) (es : List Entry) (m : Machine) → StreamBetween list line es m → StreamBetween (list ++ []) line es m
  none_more list line es m k = subst (λ (ds : List IncomingDatagram). StreamBetween ds line es m) (sym (append-nil list)) k

  -- == a line that doesn't receive on the handle
  none_by : (s : Step) (r : Reply) → ((ctx most : ℕ) → s ≡ Step.Call ctx (guest.Udp (udp_call.Receive handle most)) → ⊥) → handed_by handle s r ≡ []
  none_by (step.Call ctx (guest.Udp (udp_call.Receive incoming most))) (Reply.Ok fields) other = by_test (handle == incoming) refl
    where
      by_test : (b : Bool) → (handle == incoming) ≡ b → (if b then without_count fields else []) ≡ []
      by_test true e = absurd (other ctx most (ap (λ (n : ℕ). Step.Call ctx (guest.Udp (udp_call.Receive n most))) (sym (eqb-true handle incoming e))))
      by_test false e = refl
  none_by (step.Call ctx (guest.Udp (udp_call.Receive incoming most))) _ other = refl
  none_by _ r other = refl

  line_other : (contexts : List WasiSocketsCtx) (list : List IncomingDatagram) (line : ℕ) (s : Step) (m : Machine) (es : List Entry) → ((ctx most : ℕ) → s ≡ Step.Call ctx (guest.Udp (udp_call.Receive handle most)) → ⊥) → StreamBetween list line es m → Allows Anything (λ fs done. Takes list line s fs done) es (machine_asks contexts m line s)
  line_other contexts list line s m es other k =
      allows_weaker Anything (λ fs done. Fronts list fs × (RestBetween (line + 1) fs done.1 × (StreamIs handle list fs done.1.table done.1.store.records × IsFresh handle list done.1.table))) (λ fs done. Takes list line s fs done)
      (λ fs done x. record { new = []; gives = none_by s done.0 other; between = none_more list (line + 1) fs done.1 (record { rest = x.1.0; stream = x.1.1.0; fresh = x.1.1.1; fronts = x.0 }) }) es (machine_asks contexts m line s)
      (allows_keep Anything Anything (λ fs. Fronts list fs) (λ fs done. RestBetween (line + 1) fs done.1 × (StreamIs handle list fs done.1.table done.1.store.records × IsFresh handle list done.1.table)) (λ fs op c t fits n a. fronts_more list fs (entry op c t ∷ []) n) (λ fs op c a. tt) es (machine_asks contexts m line s) k.fronts
      (line_exact contexts line s handle list other m es k.rest k.stream k.fresh))

  -- == a line that does
  module _ (ctx most line : ℕ) (list : List IncomingDatagram) where
    -- What its call leaves of the stream.
    record Says (t : HandleTable) (es : List Entry) (done : Result (List IncomingDatagram) Stop × Records) : Type 0 where
      pub new : List IncomingDatagram
      pub gives : handed_by handle (step.Call ctx (guest.Udp (udp_call.Receive handle most))) (reply_of datagram_values done.0) ≡ flat_map received_values new
      pub stream : StreamIs handle (list ++ new) es t done.1.records
      pub fresh : IsFresh handle (list ++ new) t
      pub fronts : Fronts (list ++ new) es

    gives_so : (r : Result (List IncomingDatagram) Stop) (new : List IncomingDatagram) (side : OpId) (kept : Option IpSocketAddress) → IsGiven handle side kept r new → handed_by handle (step.Call ctx (guest.Udp (udp_call.Receive handle most))) (reply_of datagram_values r) ≡ flat_map received_values new
    gives_so (Ok ds) new side kept e = ap (λ (b : Bool). if b then flat_map received_values ds else []) (eq-eqb handle handle refl) ∙ ap (λ (xs : List IncomingDatagram). flat_map received_values xs) e
    gives_so (Err (Code c)) new side kept e = sym (ap (λ (xs : List IncomingDatagram). flat_map received_values xs) e)
    gives_so (Err (Trap kind)) new side kept e = sym (ap (λ (xs : List IncomingDatagram). flat_map received_values xs) e)

    -- a job more leaves the records
    jobbed : (store : Records) (place : ℕ) (o now : OpenUdp) → (with_receive store place o now).records ≡ udp2_put store.records place (UdpRecord.Open now)
    jobbed store place o now = by_test (begins_receive o now)
      where
        by_test : (b : Bool) → (with_job (with_open_udp store place now) (Receive place) b).records ≡ udp2_put store.records place (UdpRecord.Open now)
        by_test true = refl
        by_test false = refl

    module _ (m : Machine) (es : List Entry) (k : StreamBetween list line es m) where
      -- nothing is asked, and nothing changes
      nothing : (r : Result (List IncomingDatagram) Stop) → handed_by handle (step.Call ctx (guest.Udp (udp_call.Receive handle most))) (reply_of datagram_values r) ≡ [] → Says m.table es (r, m.store)
      nothing r e = let n = none_more list line es m k in record { new = []; gives = e; stream = n.stream; fresh = n.fresh; fronts = n.fronts }

      open_says : (place : ℕ) (live : kind_at m.table handle ≡ Some (Incoming place)) (s : StreamAt handle list es m.store.records place) (o : OpenUdp) → o ≡ s.socket → (inc : Option IncomingStream) → o.incoming ≡ inc
          → Allows Anything (λ fs done. Says m.table fs (done.0, with_receive m.store place o done.1)) es (receive_datagrams_asks (first_ids line) most o inc)
      open_says place live s o same None e = absurd (let p : None ≡ Some s.stream = sym e ∙ (ap (λ (x : OpenUdp). x.incoming) same ∙ s.has) in cc)
      open_says place live s o same (Some inc) e =
          let stream : s.stream ≡ inc = (let p : Some s.stream ≡ Some inc = sym s.has ∙ (ap (λ (x : OpenUdp). x.incoming) (sym same) ∙ e) in cc) in
          let first : Exact handle o.inner.side s.stream.remote es list s.stream.receiving = subst (λ (x : OpenUdp). Exact handle x.inner.side s.stream.remote es list s.stream.receiving) (sym same) s.knows in
          let knows : Exact handle o.inner.side inc.remote es list inc.receiving = subst (λ (x : IncomingStream). Exact handle o.inner.side x.remote es list x.receiving) stream first in
          allows_weaker Anything (λ fs done. Leaves handle list o inc fs done) (λ fs done. Says m.table fs (done.0, with_receive m.store place o done.1)) (λ fs done x. after fs done x) es (receive_datagrams_asks (first_ids line) most o (Some inc)) (receives_exact handle list o inc es (first_ids line) most knows (all_grow line Unused (Names 1) es (older_unused line (Names 1)) k.rest.older, omega arith))
        where
          at : udp2_at m.store.records place ≡ Some (UdpRecord.Open o)
          at = s.at ∙ ap (λ (x : OpenUdp). Some (UdpRecord.Open x)) (sym same)

          after : (fs : List Entry) (done : Result (List IncomingDatagram) Stop × OpenUdp) → Leaves handle list o inc fs done → Says m.table fs (done.0, with_receive m.store place o done.1)
          after fs done x = record {
            new = x.new;
            gives = gives_so done.0 x.new o.inner.side inc.remote x.gives;
            stream = λ other d. subst (StreamAt handle (list ++ x.new) fs (with_receive m.store place o done.1).records) (let p : Some (Incoming place) ≡ Some (Incoming other) = sym live ∙ d in cc)
                (record { socket = done.1; at = ap (λ rs. udp2_at rs place) (jobbed m.store place o done.1) ∙ put_finds udp_sort m.store.records place (UdpRecord.Open o) (UdpRecord.Open done.1) at; stream = x.stream; has = x.has; knows = x.knows });
            fresh = λ l. (let older = k.rest.streams.1.1.older handle (Incoming place) live in absurd (omega (arith, l, older)));
            fronts = inr (front_of (list ++ x.new) fs done.1.inner.side x.stream.remote x.stream.receiving x.knows);
          }

      socket_says : (place : ℕ) (live : kind_at m.table handle ≡ Some (Incoming place)) (o : Option OpenUdp) → open_at m.store.records place ≡ o → Allows Anything (λ fs done. Says m.table fs done) es (receive_datagrams_at m.store (first_ids line) place most o)
      socket_says place live None e = nothing _ refl
      socket_says place live (Some o) e =
          let s : StreamAt handle list es m.store.records place = k.stream place live in
          let at : udp2_at m.store.records place ≡ Some (UdpRecord.Open o) = open_is (udp2_at m.store.records place) o e in
          allows_then Anything (λ fs done. Says m.table fs (done.0, with_receive m.store place o done.1)) (λ fs done. Says m.table fs done) es (receive_datagrams_asks (first_ids line) most o o.incoming) _
          (open_says place live s o (let p : Some (UdpRecord.Open o) ≡ Some (UdpRecord.Open s.socket) = sym at ∙ s.at in cc) o.incoming refl) (λ fs done x. x)

      -- the line, but for what it keeps of the rest
      abbrev Leaving : List Entry → Reply × Machine → Type 0
      Leaving es done = (new : List IncomingDatagram) × ((handed_by handle (step.Call ctx (guest.Udp (udp_call.Receive handle most))) done.0 ≡ flat_map received_values new) × (StreamIs handle (list ++ new) es done.1.table done.1.store.records × (IsFresh handle (list ++ new) done.1.table × Fronts (list ++ new) es)))

      leaving_none : (r : Reply) → handed_by handle (step.Call ctx (guest.Udp (udp_call.Receive handle most))) r ≡ [] → Leaving es (r, m)
      leaving_none r e = let n = none_more list line es m k in ([], (e, (n.stream, (n.fresh, n.fronts))))

      handle_says : (o : Option ℕ) → incoming_at m handle ≡ o → Allows Anything (λ fs done. Leaving fs (reply_of datagram_values done.0, done.1)) es (receive_datagrams_on m (first_ids line) most o)
      handle_says None e = leaving_none (reply_of {A = List IncomingDatagram} datagram_values (Err (Trap NoSuchHandle))) refl
      handle_says (Some place) e =
          allows_then Anything (λ fs done. Says m.table fs done) (λ fs done. Leaving fs (reply_of datagram_values done.0, done.1)) es (receive_datagrams_at m.store (first_ids line) place most (open_at m.store.records place)) _
          (socket_says place (incoming_kind (kind_at m.table handle) place e) (open_at m.store.records place) refl) (λ fs done x. (x.new, (x.gives, (x.stream, (x.fresh, x.fronts)))))

      call_says : (contexts : List WasiSocketsCtx) (standing : Option Standing) → Allows Anything (λ fs done. Leaving fs done) es (asks_while contexts m line (step.Call ctx (guest.Udp (udp_call.Receive handle most))) standing)
      call_says contexts (Some c) = leaving_none Reply.Busy refl
      call_says contexts None =
          allows_then Anything (λ fs done. Leaving fs (reply_of datagram_values done.0, done.1)) (λ fs done. Leaving fs done) es (receive_datagrams_on m (first_ids line) most (incoming_at m handle)) _
          (handle_says (incoming_at m handle) refl) (λ fs done x. x)

      line_receives : (contexts : List WasiSocketsCtx) → Allows Anything (λ fs done. Takes list line (step.Call ctx (guest.Udp (udp_call.Receive handle most))) fs done) es (machine_asks contexts m line (step.Call ctx (guest.Udp (udp_call.Receive handle most))))
      line_receives contexts =
          allows_weaker Anything (λ fs done. RestBetween (line + 1) fs done.1 × Leaving fs done) (λ fs done. Takes list line (step.Call ctx (guest.Udp (udp_call.Receive handle most))) fs done)
          (λ fs done x. record { new = x.1.0; gives = x.1.1.0; between = record { rest = x.0; stream = x.1.1.1.0; fresh = x.1.1.1.1.0; fronts = x.1.1.1.1.1 } }) es (machine_asks contexts m line (step.Call ctx (guest.Udp (udp_call.Receive handle most))))
          (allows_both Anything Anything (λ fs done. RestBetween (line + 1) fs done.1) (λ fs done. Leaving fs done) es (machine_asks contexts m line (step.Call ctx (guest.Udp (udp_call.Receive handle most)))) (line_rest contexts line (step.Call ctx (guest.Udp (udp_call.Receive handle most))) m es k.rest) (call_says contexts m.store.standing))

  -- == any line
  -- it receives on the handle, or doesn't
  abbrev IsReceive : Step → Type 0
  IsReceive s = (ctx : ℕ) × ((most : ℕ) × (s ≡ Step.Call ctx (guest.Udp (udp_call.Receive handle most))))

  receives_or_not : (s : Step) → IsReceive s ⊎ ((ctx most : ℕ) → s ≡ Step.Call ctx (guest.Udp (udp_call.Receive handle most)) → ⊥)
  receives_or_not (step.Call ctx (guest.Udp (udp_call.Receive incoming most))) = elim (same_place incoming handle) [ inl same ↦ inl (ctx, (most, ap (λ (n : ℕ). Step.Call ctx (guest.Udp (udp_call.Receive n most))) same)) | inr not ↦ inr (λ c k e. not (handles ctx incoming most c k e)) ]
    where
      handles : (ctx incoming most c k : ℕ) → Step.Call ctx (guest.Udp (udp_call.Receive incoming most)) ≡ Step.Call c (guest.Udp (udp_call.Receive handle k)) → incoming ≡ handle
      handles ctx incoming most c k e = cc
  receives_or_not _ = inr (λ c k e. absurd (cc))

  pub line_takes : (contexts : List WasiSocketsCtx) (list : List IncomingDatagram) (line : ℕ) (s : Step) (m : Machine) (es : List Entry) → StreamBetween list line es m → Allows Anything (λ fs done. Takes list line s fs done) es (machine_asks contexts m line s)
  line_takes contexts list line s m es k = by_step (receives_or_not s)
    where
      by_step : IsReceive s ⊎ ((ctx most : ℕ) → s ≡ Step.Call ctx (guest.Udp (udp_call.Receive handle most)) → ⊥) → Allows Anything (λ fs done. Takes list line s fs done) es (machine_asks contexts m line s)
      by_step (inl is) = subst (λ (x : Step). Allows Anything (λ fs done. Takes list line x fs done) es (machine_asks contexts m line x)) (sym is.1.1) (line_receives is.0 is.1.0 line list m es k contexts)
      by_step (inr not) = line_other contexts list line s m es not k
