-- Each line's reply takes what was received on a network socket from the one place to the other, and what comes later is from there on.
use Rattle.wasi_walks.proofs.Words.{⊤, Allows, Bool, Entry, Err, IsMarkedWith, IsSide, List, Machine, None, Ok, OpId, Option, Reply, Result, Some, Standing}
use Rattle.wasi_walks.proofs.Words.{GuestCall, Step, Stop, Trap, WasiSocketsCtx, allows_keep, allows_then, allows_weaker, arith, asks_while, length, true, false}
use Rattle.wasi_walks.proofs.Words.{first_ids, inl, inr, kind_at, machine_asks, refl, subst, sym, ℕ, ◌∙◌, ◌≡◌, ◌≤◌, ◌⊎◌}
use Rattle.wasi_world.specs.declared.datagram.IncomingDatagram.{IncomingDatagram}
use Rattle.host_udp.specs.DatagramCalls.{begins_receive, receive_datagrams_at, with_receive}
use Rattle.record_common.specs.Stops.{Code}
use Rattle.host_store.specs.Machine.{incoming_at}
use Rattle.host_store.specs.Jobs.{with_job}
use Rattle.host_store.specs.Store.{with_open_udp}
use Rattle.wasi_jobs.specs.declared.job.HostJob.TheVariants.{Receive}
use Rattle.udp_records.specs.Receiving.{receive_datagrams_asks}
use Rattle.wasi_records.specs.Records.{open_at, udp2_at, udp2_put}
use Rattle.host_store.specs.Store.{Records}
use Rattle.udp_records.specs.Udp.{udp_side}
use Rattle.wasi_records.specs.declared.records.Record.{Record}
use Rattle.udp_records.specs.declared.udp.OpenUdp.{OpenUdp}
use Rattle.udp_records.specs.declared.udp.UdpRecord.{UdpRecord}
use Rattle.wasi_p2.specs.Udp.{receive_datagrams_on}
use Rattle.wasi_machine.specs.Machine.{reply_of}
use Rattle.wasi_steps.specs.Reply.{datagram_values}
use Rattle.wasi_walks.specs.Received.{InOrder, NoMore, OneMore, ReplyTakes}
use Rattle.wasi_walks.proofs.claims.Lines.{BaseBetween, base_starts}
use Rattle.wasi_walks.proofs.fits.Polls.{Anything}
use Rattle.wasi_walks.proofs.licence.Frames.{side_more}
use Rattle.wasi_walks.proofs.licence.Line.{names_udp}
use Rattle.wasi_walks.proofs.licence.State.{NamesUdp, StateIsFine}
use Rattle.wasi_walks.proofs.remotes.State.{Keeps, OpenKeeps, maker_of}
use Rattle.wasi_walks.proofs.walks.States.{Over, incoming_kind, incoming_record}
use Rattle.wasi_walks.proofs.walks.Steps.{machine_walks, may_while}
use Rattle.wasi_walks.proofs.walks.Udp.{open_is}
use Rattle.wasi_walks.proofs.received.Late.{OnlyOf, only_other, IncomingLate}
use Rattle.wasi_walks.proofs.received.State.{OneEach, one_late, put_later, Late, put_udps, same_or_not}
use Rattle.wasi_walks.proofs.received.Handed.{GivesUpto, Leaves, receives}
use Rattle.wasi_walks.proofs.received.Law.{begins_later, later_along}
use Rattle.wasi_walks.proofs.received.Handles.{AreUnder}
use Rattle.wasi_walks.proofs.received.Marks.{AreEarly, Early, Since, are_early_later, are_early_more, early_more}
use Rattle.wasi_walks.proofs.received.Since.{Inv, begins_since, since_along}
use Rattle.wasi_walks.proofs.walks.Moves.{Past}
use Rattle.host_store.specs.declared.kind.Kind.TheVariants.{Incoming}
use Rattle.wasi_steps.specs.declared.guest_call.UdpCall.{UdpCall}

one_each : (line : ℕ) (m : Machine) → BaseBetween line m → OneEach m.store.records
one_each line m b i k o p e f s = b.named.udps.one p.inner.side i k (UdpRecord.Open o) (UdpRecord.Open p) e f s refl

-- the handle's network socket is that of its UDP socket
pub side_is : (es : List Entry) (records : List Record) (handle place : ℕ) (o : OpenUdp) → NamesUdp es records handle place → udp2_at records place ≡ Some (UdpRecord.Open o) → IsSide es handle o.inner.side
side_is es records handle place o n e =
    let p : Some n.found ≡ Some (UdpRecord.Open o) = sym n.at ∙ e in
    let q : n.found ≡ UdpRecord.Open o = cc in
    let k : IsMarkedWith es handle (Some o.inner.side) = subst (λ (u : UdpRecord). IsMarkedWith es handle (Some (udp_side u))) q n.marked in
    record { op = k.op; kind = k.kind; parent = k.parent; told = k.told; mark = k.mark }

-- what a receive of the socket leaves, where it is known what its stream holds
pub open_leaves : (from handle most line : ℕ) (es : List Entry) (o : OpenUdp) → OpenKeeps es o → from ≤ length es → IncomingLate from es o.inner.side o.incoming → IsSide es handle o.inner.side
    → Allows Anything (λ fs done. IsSide fs handle o.inner.side × Leaves ⊤ from fs o done.0 done.1) es (receive_datagrams_asks (first_ids line) most o o.incoming)
open_leaves from handle most line es o k long l i =
    allows_keep (OnlyOf o.inner.side) Anything (λ fs. IsSide fs handle o.inner.side) (λ fs done. Leaves ⊤ from fs o done.0 done.1) (λ fs op c t fits x n. side_more fs _ handle o.inner.side x) (λ fs op c n. tt) es _ i
    (receives ⊤ from es (first_ids line) most o o.incoming refl (maker_of es o k) long (λ x. l))

-- the places rise
order_rises : (es : List Entry) (side : OpId) (from upto : ℕ) (ds : List IncomingDatagram) → InOrder es side from ds upto → from ≤ upto
order_rises es side _ _ _ (NoMore from) = omega arith
order_rises es side _ _ _ (OneMore from mid upto d ds a rest) = let p = order_rises es side mid upto ds rest in let late = a.late in let past = a.past in omega (arith, p, late, past)

given_rises : (es : List Entry) (side : OpId) (from upto : ℕ) (r : Result (List IncomingDatagram) Stop) → GivesUpto ⊤ side from es upto r → from ≤ upto
given_rises es side from upto (Ok ds) g = order_rises es side from upto ds (g tt)
given_rises es side from upto (Err why) g = let p = g tt in omega arith

module _ (side : OpId) (from : ℕ) where
  -- between two lines: what the network socket's streams hold was received after the marks of their handles
  abbrev pub Between : List Entry → Machine → Type 0
  Between es m = Inv side from es (Over m)

module _ (side : OpId) (from : ℕ) where
  -- the reply takes them up to some place, from which on what comes later is
  abbrev pub Takes : List Entry → Step → Reply × Machine → Type 0
  Takes es s done = (upto : ℕ) × (ReplyTakes es side from upto s done.0 × Between side upto es done.1)

  -- a job more leaves the records and the pending call
  jobbed : (P : List Record → Option Standing → Type 0) (store : Records) (place : ℕ) (o now : OpenUdp) → P (udp2_put store.records place (UdpRecord.Open now)) store.standing → P (with_receive store place o now).records (with_receive store place o now).standing
  jobbed P store place o now k = by_test (begins_receive o now)
    where
      by_test : (b : Bool) → P (with_job (with_open_udp store place now) (Receive place) b).records (with_job (with_open_udp store place now) (Receive place) b).standing
      by_test true = k
      by_test false = k

  module _ (ctx handle most : ℕ) where
    -- of this network socket
    says_ours : (es : List Entry) (o : OpenUdp) (start upto : ℕ) (r : Result (List IncomingDatagram) Stop) → from ≤ start → IsSide es handle o.inner.side → o.inner.side ≡ side → Early start es side handle → GivesUpto ⊤ o.inner.side start es upto r
        → (told : ℕ) × ((told ≤ upto) × ReplyTakes es side from told (Step.Call ctx (GuestCall.Udp (UdpCall.Receive handle most))) (reply_of datagram_values r))
    says_ours es o start upto (Ok ds) l i is e g = (
      upto,
      (
        omega arith,
        record {
          its = o.inner.side;
          of_handle = i;
          datagrams = ds;
          values = refl;
          order = inl (is, record { front = e.front; back = e.back; cut = e.cut; marked = e.marked; start = start; on = l; since = e.before; order = subst (λ (x : OpId). InOrder es x start ds upto) is (g tt) });
        },
      ),
    )
    says_ours es o start upto (Err (Code c)) l i is e g = (from, ((let p = g tt in omega arith), refl))
    says_ours es o start upto (Err (Trap kind)) l i is e g = (from, ((let p = g tt in omega arith), refl))

    -- of another one
    says_other : (es : List Entry) (o : OpenUdp) (r : Result (List IncomingDatagram) Stop) → IsSide es handle o.inner.side → (o.inner.side ≡ side → ⊥) → ReplyTakes es side from from (Step.Call ctx (GuestCall.Udp (UdpCall.Receive handle most))) (reply_of datagram_values r)
    says_other es o (Ok ds) i not = record { its = o.inner.side; of_handle = i; datagrams = ds; values = refl; order = inr (not, refl) }
    says_other es o (Err (Code c)) i not = refl
    says_other es o (Err (Trap kind)) i not = refl

    module _ (line : ℕ) (m : Machine) (es : List Entry) (keeps : Keeps es m.store.records) (one : OneEach m.store.records) (marks : (a b : OpId) → IsSide es handle a → IsSide es handle b → a ≡ b) (was : Between side from es m) where
      abbrev start : ℕ
      start = was.0.start

      -- the records and the pending call afterwards
      abbrev After : ℕ → List Entry → List Record → Option Standing → Type 0
      After upto es records standing = Since side upto es records m.table × AreUnder m.table Past standing

      abbrev Says : List Entry → Result (List IncomingDatagram) Stop × Records → Type 0
      Says es done = (upto : ℕ) × (ReplyTakes es side from upto (Step.Call ctx (GuestCall.Udp (UdpCall.Receive handle most))) (reply_of datagram_values done.0) × After upto es done.1.records done.1.standing)

      -- the handle's mark is early
      its_early : (place : ℕ) (o : OpenUdp) → kind_at m.table handle ≡ Some (Incoming place) → IsSide es handle o.inner.side → o.inner.side ≡ side → Early start es side handle
      its_early place o kind i is = let k = was.0.early handle place kind in k.early (marks k.its o.inner.side k.marked i ∙ is)

      open_takes : (place : ℕ) (o : OpenUdp) → kind_at m.table handle ≡ Some (Incoming place) → udp2_at m.store.records place ≡ Some (UdpRecord.Open o) → IsSide es handle o.inner.side → (o.inner.side ≡ side) ⊎ (o.inner.side ≡ side → ⊥) → Allows Anything (λ fs done. Says fs done) es (receive_datagrams_at m.store (first_ids line) place most (Some o))
      open_takes place o kind at i (inl is) =
          let k : OpenKeeps es o = keeps.udps place (UdpRecord.Open o) at in
          let l : IncomingLate start es o.inner.side o.incoming = subst (λ (x : OpId). IncomingLate start es x o.incoming) (sym is) (was.0.late.udps place (UdpRecord.Open o) at is) in
          let M : List Entry → Type 0 = λ fs. Early start fs side handle × AreEarly side start fs m.table in
          allows_then Anything (λ fs done. M fs × (IsSide fs handle o.inner.side × Leaves ⊤ start fs o done.0 done.1)) (λ fs done. Says fs done) es (receive_datagrams_asks (first_ids line) most o o.incoming) _
          (allows_keep Anything Anything M (λ fs done. IsSide fs handle o.inner.side × Leaves ⊤ start fs o done.0 done.1) (λ fs op c t fits x n. (early_more side start start fs _ handle (omega arith) x.0, are_early_more side start start fs _ m.table (omega arith) x.1)) (λ fs op c n. tt) es _ (its_early place o kind i is, was.0.early) (open_leaves start handle most line es o k was.0.late.long l i))
          (λ fs done x.
          let left : Leaves ⊤ start fs o done.0 done.1 = x.1.1 in
          let said = says_ours fs o start left.upto done.0 was.0.on x.1.0 is x.0.0 left.gives in
          let late : Late side left.upto fs (udp2_put m.store.records place (UdpRecord.Open done.1)) = put_later side left.upto fs m.store.records place o done.1 one at is left.long (λ q. subst (λ (y : OpId). IncomingLate left.upto fs y done.1.incoming) is (left.later tt)) in (
            said.0,
            (
              said.1.1,
              jobbed (After said.0 fs) m.store place o done.1
                  (record { start = left.upto; on = said.1.0; late = late; early = are_early_later side start left.upto fs m.table (given_rises fs o.inner.side start left.upto done.0 left.gives) x.0.1 }, was.1),
            ),
          ))
      open_takes place o kind at i (inr not) =
          let k : OpenKeeps es o = keeps.udps place (UdpRecord.Open o) at in
          let M : List Entry → Type 0 = λ fs. IsSide fs handle o.inner.side × (Late side start fs m.store.records × AreEarly side start fs m.table) in
          allows_then Anything (λ fs done. M fs × Leaves ⊥ 0 fs o done.0 done.1) (λ fs done. Says fs done) es (receive_datagrams_asks (first_ids line) most o o.incoming) _
          (allows_keep (OnlyOf o.inner.side) Anything M (λ fs done. Leaves ⊥ 0 fs o done.0 done.1)
          (λ fs op c t fits x n. (side_more fs _ handle o.inner.side x.0, (one_late side start fs op c t m.store.records (λ y. only_other o.inner.side side fs op c not n) x.1.0, are_early_more side start start fs _ m.table (omega arith) x.1.1))) (λ fs op c n. tt) es _
          (i, (was.0.late, was.0.early)) (receives ⊥ 0 es (first_ids line) most o o.incoming refl (maker_of es o k) (omega arith) (λ x. absurd x)))
          (λ fs done x. (
            from,
            (
              says_other fs o done.0 x.0.0 not,
              jobbed (After from fs) m.store place o done.1
                  (record { start = start; on = was.0.on; late = put_udps side start fs m.store.records place (UdpRecord.Open done.1) (λ q. absurd (not (sym x.1.on ∙ q))) x.0.1.0; early = x.0.1.1 }, was.1),
            ),
          ))

      socket_takes : (place : ℕ) (found : Option OpenUdp) → kind_at m.table handle ≡ Some (Incoming place) → open_at m.store.records place ≡ found → NamesUdp es m.store.records handle place → Allows Anything (λ fs done. Says fs done) es (receive_datagrams_at m.store (first_ids line) place most found)
      socket_takes place None kind e n = (from, (refl, was))
      socket_takes place (Some o) kind e n =
          let at : udp2_at m.store.records place ≡ Some (UdpRecord.Open o) = open_is (udp2_at m.store.records place) o e in
          open_takes place o kind at (side_is es m.store.records handle place o n at) (same_or_not o.inner.side side)

      handle_takes : (found : Option ℕ) → ((place : ℕ) → found ≡ Some place → (kind_at m.table handle ≡ Some (Incoming place)) × NamesUdp es m.store.records handle place) → Allows Anything (λ fs done. Takes fs (Step.Call ctx (GuestCall.Udp (UdpCall.Receive handle most))) (reply_of datagram_values done.0, done.1)) es (receive_datagrams_on m (first_ids line) most found)
      handle_takes None n = (from, (refl, was))
      handle_takes (Some place) n =
          allows_then Anything (λ fs done. Says fs done) (λ fs done. Takes fs (Step.Call ctx (GuestCall.Udp (UdpCall.Receive handle most))) (reply_of datagram_values done.0, done.1)) es (receive_datagrams_at m.store (first_ids line) place most (open_at m.store.records place)) _
          (socket_takes place (open_at m.store.records place) (n place refl).0 refl (n place refl).1) (λ fs done k. k)

      -- a call that is made; while another is pending it is busy
      receive_takes : (contexts : List WasiSocketsCtx) (standing : Option Standing) → ((place : ℕ) → incoming_at m handle ≡ Some place → (kind_at m.table handle ≡ Some (Incoming place)) × NamesUdp es m.store.records handle place) → Allows Anything (λ fs done. Takes fs (Step.Call ctx (GuestCall.Udp (UdpCall.Receive handle most))) done) es (asks_while contexts m line (Step.Call ctx (GuestCall.Udp (UdpCall.Receive handle most))) standing)
      receive_takes contexts (Some c) n = (from, (refl, was))
      receive_takes contexts None n =
          allows_then Anything (λ fs done. Takes fs (Step.Call ctx (GuestCall.Udp (UdpCall.Receive handle most))) (reply_of datagram_values done.0, done.1)) (λ fs done. Takes fs (Step.Call ctx (GuestCall.Udp (UdpCall.Receive handle most))) done) es (receive_datagrams_on m (first_ids line) most (incoming_at m handle)) _
          (handle_takes (incoming_at m handle) n) (λ fs done k. k)

  -- what any line leaves of what comes from the place on
  pub line_later : (contexts : List WasiSocketsCtx) (line : ℕ) (s : Step) (m : Machine) (es : List Entry) → BaseBetween line m → Keeps es m.store.records → Late side from es m.store.records → Allows Anything (λ fs done. Late side from fs done.1.store.records) es (machine_asks contexts m line s)
  line_later contexts line s m es b k late =
      allows_weaker Anything _ (λ fs done. Late side from fs done.1.store.records) (λ fs done x. x.1) es (machine_asks contexts m line s)
      (later_along side from contexts line s (machine_walks line s (begins_later side from contexts line s) m m.store.standing refl) es (base_starts contexts line s m (may_while m s m.store.standing) b) k late)

  -- and of the marks of handles
  line_since : (contexts : List WasiSocketsCtx) (line : ℕ) (s : Step) (m : Machine) (es : List Entry) → BaseBetween line m → Keeps es m.store.records → Between side from es m → Allows Anything (λ fs done. Between side from fs done.1) es (machine_asks contexts m line s)
  line_since contexts line s m es b k was =
      allows_weaker Anything _ (λ fs done. Between side from fs done.1) (λ fs done x. x.1) es (machine_asks contexts m line s)
      (since_along side from contexts line s (machine_walks line s (begins_since side from contexts line s) m m.store.standing refl) es (base_starts contexts line s m (may_while m s m.store.standing) b) k was)

  -- the reply to a step
  pub step_takes : (contexts : List WasiSocketsCtx) (steps : List Step) (line : ℕ) (s : Step) (m : Machine) (es : List Entry) → ((handle : ℕ) (a b : OpId) → IsSide es handle a → IsSide es handle b → a ≡ b) → StateIsFine contexts steps es m → BaseBetween line m → Keeps es m.store.records → Between side from es m → Allows Anything (λ fs done. Takes fs s done) es (machine_asks contexts m line s)
  step_takes contexts steps line (Step.Call ctx (GuestCall.Udp (UdpCall.Receive handle most))) m es marks f b k was =
      receive_takes ctx handle most line m es k (one_each line m b) (marks handle) was contexts m.store.standing
      (λ place e. (incoming_kind (kind_at m.table handle) place e, names_udp es m.store.records handle place (kind_at m.table handle) (incoming_record (kind_at m.table handle) place e) (f.handles handle)))
  step_takes contexts steps line s m es marks f b k was =
      allows_weaker Anything (λ fs done. Between side from fs done.1) (λ fs done. Takes fs s done) (λ fs done x. (from, (refl, x))) es (machine_asks contexts m line s) (line_since contexts line s m es b k was)
