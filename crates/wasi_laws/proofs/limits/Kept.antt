-- The limits that are kept are those of the contexts, so the writers of a context stay within its own.
use Rattle.std.proofs.Common.{cond}
use Rattle.std.proofs.lemmas.Bool.{eqb-true}
use Rattle.wasi_udp.specs.Create.{Create}
use Rattle.host_store.specs.Kinds.{make_asks}
use Rattle.host_store.specs.Limits.{limit_in, limit_or, with_limit, with_limit_by}
use Rattle.host_tcp.specs.Creates.{code_told, same_told, with_room}
use Rattle.host_store.specs.Store.{Records}
use Rattle.host_store.specs.declared.limits.Limit.{Limit}
use Rattle.wasi_machine.specs.Machine.{asks_while, context_at, context_in}
use Rattle.wasi_records.specs.Used.{used}
use Rattle.wasi_steps.specs.Steps.{context_of}
use Rattle.wasi_world.specs.Contexts.{AreNumbered}
use Rattle.std.specs.Prelude.{IfSome}
use Rattle.wasi_walks.proofs.fits.Law.{whatever}
use Rattle.wasi_walks.proofs.fits.Polls.{Anything}
use Rattle.wasi_walks.proofs.walks.Moves as walk
use Rattle.wasi_walks.proofs.walks.OfState as left
use Rattle.wasi_walks.proofs.walks.OfState.{OfState, begins_state, of_state}
use Rattle.wasi_world.specs.Asks.{Give}
use Rattle.wasi_laws.proofs.Words.{Allows, Bool, End, Entry, Err, ErrorCode, GuestCall, Held, Here, InCall, Item, Left, List, Machine, Move, None, Ok, Operation, Option, Reply, Result, Socket, SocketAddressFamily, Some, Standing, Step, Tcp2, WasiSocketsCtx, [], allows_if, allows_then, allows_weaker, ap, arith, create_asks, false, first_state, inl, inr, is_trap, length, machine_asks, machine_walks, made_to, new_asks, own_of, poll_asks, put, reached, refl, run, side_of, slice_get, subst, suc, sym, true, turn_asks, with_writer, zero, ℕ, ⊤, ◌++◌, ◌+◌, ◌<◌, ◌==◌, ◌∙◌, ◌∷◌, ◌≡◌, ◌≤◌, ◌⊎◌}
use Rattle.wasi_laws.specs.Limits.{AreOf}
use Rattle.wasi_laws.proofs.limits.Law.{runs_within}
use Rattle.wasi_laws.proofs.shapes.Shape.{some_same}
use Rattle.wasi_steps.specs.declared.guest_call.TcpCall.{TcpCall}

-- == one more limit
kept_is : (limits : List Limit) (l : Limit) (name most : ℕ) → limit_in (limits ++ l ∷ []) name ≡ Some most → (limit_in limits name ≡ Some most) ⊎ ((l.context ≡ name) × (l.most ≡ most))
kept_is [] l name most = by_test (l.context == name) refl
  where
    by_test : (b : Bool) → (l.context == name) ≡ b → cond b (Some l.most) None ≡ Some most → (None ≡ Some most) ⊎ ((l.context ≡ name) × (l.most ≡ most))
    by_test true same e = inr (eqb-true l.context name same, (let is : l.most ≡ most = cc in is))
    by_test false other e = inl e
kept_is (k ∷ limits) l name most = by_test (k.context == name) (kept_is limits l name most)
  where
    by_test : (b : Bool) → (limit_in (limits ++ l ∷ []) name ≡ Some most → (limit_in limits name ≡ Some most) ⊎ ((l.context ≡ name) × (l.most ≡ most))) → cond b (Some k.most) (limit_in (limits ++ l ∷ []) name) ≡ Some most → (cond b (Some k.most) (limit_in limits name) ≡ Some most) ⊎ ((l.context ≡ name) × (l.most ≡ most))
    by_test true later e = inl e
    by_test false later e = later e

-- One of the contexts has this name, and this is its limit.
record IsKept (contexts : List WasiSocketsCtx) (name most : ℕ) : Type 0 where
  number : ℕ
  there : number < length contexts
  named : (context_at contexts number).name ≡ name
  limit : (context_at contexts number).write_limit ≡ most

abbrev AreKept : List WasiSocketsCtx → Records → Type 0
AreKept contexts store = (name most : ℕ) → limit_in store.limits name ≡ Some most → IsKept contexts name most

module _ (contexts : List WasiSocketsCtx) where
  room_kept : (store : Records) (c : ℕ) → c < length contexts → AreKept contexts store → AreKept contexts (with_limit store (context_at contexts c))
  room_kept store c may i = by_limit (limit_in store.limits (context_at contexts c).name)
    where
      by_limit : (o : Option ℕ) (name most : ℕ) → limit_in (with_limit_by store.limits (context_at contexts c) o) name ≡ Some most → IsKept contexts name most
      by_limit None name most e = elim (kept_is store.limits (record { context = (context_at contexts c).name; most = (context_at contexts c).write_limit }) name most e) [ inl was ↦ i name most was | inr its ↦ record { number = c; there = may; named = its.0; limit = its.1 } ]
      by_limit (Some was) name most e = i name most e

  -- == a line that creates a TCP socket
  module _ (m : Machine) (line c : ℕ) where
    abbrev Kept : {A : Type 0} → A × Machine → Type 0
    Kept done = AreKept contexts done.1.store

    abbrev now : Machine
    now = with_room m (context_at contexts c)

    module _ (may : c < length contexts) (i : AreKept contexts m.store) where
      roomy : AreKept contexts now.store
      roomy = room_kept m.store c may i

      made_kept : (es : List Entry) (made : Result Socket ErrorCode) → Allows Anything (λ fs done. Kept done) es (made_to same_told code_told Tcp2 now (own_of line) made)
      made_kept es (Err e) = roomy
      made_kept es (Ok socket) =
          let tree = make_asks now.table (own_of line) (Tcp2 (length now.store.records)) None (side_of socket) in
          allows_then Anything (λ fs made. ⊤) (λ fs done. Kept done) es tree _ (whatever (λ made. ⊤) (λ made. tt) es tree) (λ fs made k. roomy)

      created_kept : (family : SocketAddressFamily) (es : List Entry) → Allows Anything (λ fs done. Kept done) es (create_asks m (own_of line) (context_at contexts c) family)
      created_kept family es =
          let tree = new_asks (own_of line) (context_at contexts c) family in
          allows_then Anything (λ fs made. ⊤) (λ fs done. Kept done) es tree (made_to same_told code_told Tcp2 now (own_of line)) (whatever (λ made. ⊤) (λ made. tt) es tree) (λ fs made k. made_kept fs made)

      create_kept : (family : SocketAddressFamily) (es : List Entry) → Allows Anything (λ fs done. Kept done) es (machine_asks contexts m line (Step.Call c (GuestCall.Tcp (TcpCall.Create family))))
      create_kept family es = by_standing m.store.standing
        where
          by_standing : (o : Option Standing) → Allows Anything (λ fs done. Kept done) es (asks_while contexts m line (Step.Call c (GuestCall.Tcp (TcpCall.Create family))) o)
          by_standing None = allows_then Anything (λ fs done. Kept done) (λ fs done. Kept done) es (create_asks m (own_of line) (context_at contexts c) family) _ (created_kept family es) (λ fs done k. k)
          by_standing (Some s) = i

-- == any other line
abbrev CreatesNone : Step → Type 0
CreatesNone (Step.Call c (GuestCall.Tcp (TcpCall.Create family))) = ⊥
CreatesNone _ = ⊤

module _ (contexts : List WasiSocketsCtx) (line : ℕ) (origin : Step) (none : CreatesNone origin) (limits : List Limit) where
  abbrev Stay : Here → Type 0
  Stay h = h.machine.store.limits ≡ limits

  moves : (h now : Here) → Move line origin h now → Stay h → Stay now
  moves _ _ (walk.MakesRoom h c family ctx is) i = absurd (subst CreatesNone is none)
  moves _ _ _ i = i

  begun : (h : Here) (made : Result Create ErrorCode) → Stay h → Stay (walk.udp_begun h made)
  begun h (Ok create) i = i
  begun h (Err c) i = i

  becomes : (h now : Here) → left.Becomes contexts line origin h now → Stay h → Stay now
  becomes h _ (left.UdpBegun face ctx family r c u m) i = begun h _ i
  becomes h _ (left.Writing _ (InCall place n r s half permit bytes at g e w fits used)) i = i
  becomes h _ _ i = i

  polls : (es : List Entry) (h : Here) (op : Operation) (after : End × List Item → Here) → Held h op after → Stay h → Allows Anything (λ fs ended. Stay (after ended)) es (poll_asks op)
  polls es h op _ (walk.BindsOn place r _ q g e) i = whatever _ (λ ended. i) es (poll_asks op)
  polls es h op _ (walk.Connects place r _ g e) i = whatever _ (λ ended. i) es (poll_asks op)
  polls es h op _ (walk.Listens place r _ q g e c) i = whatever _ (λ ended. i) es (poll_asks op)
  polls es h op _ (walk.Awaits place r l _ g e a) i = whatever _ (λ ended. i) es (poll_asks op)
  polls es h _ _ (walk.UdpCreates place create q g) i = whatever _ (λ ended. i) es (poll_asks create.operation)
  polls es h op _ (walk.UdpBindsOn place o _ q g e) i = whatever _ (λ ended. i) es (poll_asks op)
  polls es h op _ (walk.UdpConnectsOn place o _ q g e) i = whatever _ (λ ended. i) es (poll_asks op)
  polls es h op _ (walk.UdpReconnectsOn place o _ q g e) i = whatever _ (λ ended. i) es (poll_asks op)
  polls es h op _ (walk.SendsOn place o out _ sent g e s settles) i = whatever _ (λ ended. i) es (poll_asks op)
  polls es h op _ (walk.ReceivesOn place o inc _ g e r) i = whatever _ (λ ended. i) es (poll_asks op)

  abbrev stay : OfState contexts line origin (λ es h. ⊤)
  stay = record {
    Holds = Stay;
    moves = λ es h now m b i. moves h now m i;
    becomes = λ es h now k b i. becomes h now k i;
    polls = λ es h op after held b i. polls es h op after held i;
    turns = λ es h place r s g e b i. whatever (λ done. Stay (put h place (with_writer r s done.1))) (λ done. i) es (turn_asks s.writer);
  }

  stay_same : (m : Machine) (es : List Entry) → m.store.limits ≡ limits → Allows Anything (λ fs done. done.1.store.limits ≡ limits) es (machine_asks contexts m line origin)
  stay_same m es i = (machine_walks line origin {law = of_state stay} (begins_state stay) m m.store.standing refl).along es i

-- == of a run
module _ (contexts : List WasiSocketsCtx) where
  others_kept : (line : ℕ) (s : Step) → CreatesNone s → (m : Machine) (es : List Entry) → AreKept contexts m.store → Allows Anything (λ fs done. AreKept contexts done.1.store) es (machine_asks contexts m line s)
  others_kept line s none m es i =
      allows_weaker Anything (λ fs done. done.1.store.limits ≡ m.store.limits) (λ fs done. AreKept contexts done.1.store)
      (λ fs done same name most e. i name most (ap (λ (limits : List Limit). limit_in limits name) (sym same) ∙ e)) es (machine_asks contexts m line s) (stay_same contexts line s none m.store.limits m es refl)

  line_kept : (line : ℕ) (s : Step) → IfSome (context_of s) (λ n. n < length contexts) → (m : Machine) (es : List Entry) → AreKept contexts m.store → Allows Anything (λ fs done. AreKept contexts done.1.store) es (machine_asks contexts m line s)
  line_kept line (Step.Call c (GuestCall.Tcp (TcpCall.Create family))) may m es i = create_kept contexts m line c may i family es
  line_kept line s may m es i = others_kept line s tt m es i

  run_kept : (todo : List Step) → AreOf (length contexts) todo → (replies : List Reply) (line : ℕ) (m : Machine) (es : List Entry) → AreKept contexts m.store → Allows Anything (λ fs done. AreKept contexts done.1.store) es (run contexts replies m line todo)
  run_kept [] may replies line m es i = i
  run_kept (s ∷ todo) may replies line m es i =
      allows_then Anything (λ fs done. AreKept contexts done.1.store) (λ fs done. AreKept contexts done.1.store) es (machine_asks contexts m line s) _ (line_kept line s may.0 m es i)
      (λ fs done k. allows_if Anything (λ gs over. AreKept contexts over.1.store) fs (is_trap done.0) _ _ (λ trap. k) (λ on. run_kept todo may.1 (replies ++ done.0 ∷ []) (line + 1) done.1 fs k))

  -- the context that has this limit
  there_is : (xs : List WasiSocketsCtx) (i : ℕ) → i < length xs → (x : WasiSocketsCtx) × (slice_get xs i ≡ Some x)
  there_is [] i below = absurd (omega (arith, below))
  there_is (x ∷ xs) zero below = (x, refl)
  there_is (x ∷ xs) (suc i) below = there_is xs i (omega (arith, below))

  own_limit : AreNumbered contexts → (n : ℕ) (ctx : WasiSocketsCtx) → slice_get contexts n ≡ Some ctx → (most : ℕ) → IsKept contexts n most → most ≡ ctx.write_limit
  own_limit numbered n ctx at most k =
      let x = there_is contexts k.number k.there in
      let is : context_at contexts k.number ≡ x.0 = ap context_in x.1 in
      let name : x.0.name ≡ k.number = subst (λ (o : Option WasiSocketsCtx). IfSome o (λ c. c.name ≡ k.number)) x.1 (numbered k.number) in
      let same : k.number ≡ n = sym name ∙ (ap (λ (c : WasiSocketsCtx). c.name) (sym is) ∙ k.named) in
      let one : Some x.0 ≡ Some ctx = sym x.1 ∙ (ap (slice_get contexts) same ∙ at) in
      let its : x.0 ≡ ctx = some_same x.0 ctx one in
      sym k.limit ∙ (ap (λ (c : WasiSocketsCtx). c.write_limit) is ∙ ap (λ (c : WasiSocketsCtx). c.write_limit) its)

  within_own : AreNumbered contexts → (n : ℕ) (ctx : WasiSocketsCtx) → slice_get contexts n ≡ Some ctx → (store : Records) → AreKept contexts store → (o : Option ℕ) → limit_in store.limits n ≡ o → used n store.records ≤ limit_or o → used n store.records ≤ ctx.write_limit
  within_own numbered n ctx at store kept None e within = omega (arith, within)
  within_own numbered n ctx at store kept (Some most) e within = let its = own_limit numbered n ctx at most (kept n most e) in omega (arith, within, its)

  pub runs_within_own : AreNumbered contexts → (steps : List Step) → AreOf (length contexts) steps → (log : List Entry) (replies : List Reply) (m : Machine) → Left (run contexts [] first_state 1 steps) log (Give (replies, m)) → (n : ℕ) (ctx : WasiSocketsCtx) → slice_get contexts n ≡ Some ctx → used n m.store.records ≤ ctx.write_limit
  runs_within_own numbered steps may log replies m w n ctx at =
      let kept = reached Anything (λ fs done. AreKept contexts done.1.store) [] (run contexts [] first_state 1 steps) log (Give (replies, m)) (run_kept steps may [] 1 first_state [] (λ name most e. absurd (cc))) w in
      within_own numbered n ctx at m.store kept (limit_in m.store.limits n) refl (runs_within contexts steps log replies m w n)
