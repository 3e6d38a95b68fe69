-- What a line is let write: what its step may write at once, or what its calls of streams let begin.
use Rattle.wasi_laws.proofs.permits.Ends.{end_lets}
use Rattle.wasi_laws.specs.Writes.{let_end}
use Rattle.wasi_machine.specs.Machine.{stream_result_reply}
use Rattle.wasi_laws.proofs.permits.Law.{NotOffer}
use Rattle.wasi_world.specs.declared.ids.Ids.{Ids}
use Rattle.wasi_streams.specs.Streams.{zeros}
use Rattle.host_store.specs.Beside.{beside_of}
use Rattle.host_streams.specs.Blocking.{Blocked}
use Rattle.host_store.specs.CallStops.{Closed, Failed, Traps}
use Rattle.wasi_host.specs.Pending.{blocked_outcome, nothing_given, resume_call, resumed}
use Rattle.host_store.specs.Standing.{call_of, standing_as, unstood}
use Rattle.host_store.specs.declared.store.BlockingCall.{BlockingCall}
use Rattle.host_store.specs.declared.store.BlockingCall.TheVariants as blocking
use Rattle.wasi_host.specs.declared.pending.Outcome.{Outcome}
use Rattle.wasi_host.specs.declared.pending.Outcome.TheVariants as outcome
use Rattle.host_store.specs.declared.store.StandingCall.{StandingCall}
use Rattle.host_store.specs.declared.store.StandingCall.TheVariants.{Blocking}
use Rattle.wasi_world.specs.declared.outcome.Answer.TheVariants.{Pending, Ready}
use Rattle.wasi_steps.specs.declared.guest_call.GuestCall.TheVariants as guest
use Rattle.wasi_steps.specs.declared.guest_call.StreamCall.TheVariants as stream_call
use Rattle.wasi_steps.specs.declared.guest_call.P3TcpCall.TheVariants as p3_tcp_call
use Rattle.wasi_steps.specs.declared.step.Step.TheVariants as step
use Rattle.wasi_steps.specs.Reply.{no_values}
use Rattle.wasi_steps.specs.declared.reply.Reply.TheVariants as reply
use Rattle.wasi_machine.specs.Machine.{blocked_reply_of, first_ids, is_held_up, resumed_reply, step_asks, stream_reply_of}
use Rattle.wasi_walks.proofs.Words.{handles_of}
use Rattle.wasi_walks.proofs.walks.Blocking.{Recalled}
use Rattle.wasi_walks.proofs.walks.Calls.{Calling}
use Rattle.wasi_walks.proofs.walks.Beside.{resume_beside_walks}
use Rattle.wasi_walks.proofs.walks.Law.{give, gives, move}
use Rattle.wasi_walks.proofs.walks.Moves.{IsStreamCall, Names, RecallsCall, Unstands}
use Rattle.wasi_walks.proofs.walks.States.{stands_so}
use Rattle.wasi_walks.proofs.walks.Here.{NoStartStands, takes_none}
use Rattle.wasi_walks.proofs.walks.Steps.{IsSimple, begun_calls, simple_walks}
use Rattle.wasi_walks.proofs.walks.Writes.{let_write as let_own}
use Rattle.wasi_laws.proofs.Words.{base_over, ◌+◌, permitted_by, permitted_when, true, false, if◌then◌else◌, ◌==◌, Asks, BaseBetween, Bool, Entry, Err, Give, List, Machine, None, Ok, OpId, Option, Over, Own, Reply, Some, Spends, Standing, Starts, Step, ToConnect, ToWrite, Unused, Used, WasiSocketsCtx, [], ap, append-nil, asks_while, base_starts, bind, inl, inr, length, machine_asks, may_while, nat_lt, number_fields, own_of, permitted_in, refl, subst, sym, taken_in, ℕ, ◌++◌, ◌∙◌, ◌≡◌, arith}
use Rattle.wasi_laws.proofs.shapes.Law.{Shaped}
use Rattle.wasi_laws.proofs.shapes.Shape.{some_same}
use Rattle.wasi_laws.proofs.permits.Agreeing.{Agreeing, agrees_over}
use Rattle.wasi_laws.proofs.permits.Spent.{Spent, spent_own}
use Rattle.wasi_walks.proofs.walks.Here.{older_unused}
use Rattle.wasi_laws.proofs.permits.Blocking.{all_lets, blocking_splice_lets, blocking_write_lets, blocking_zeroes_lets}
use Rattle.wasi_laws.proofs.permits.Calls.{Ends, Gives, Holds, So, along, over, same_given, write_is}
use Rattle.wasi_laws.proofs.permits.Law.{Owes}
use Rattle.wasi_laws.proofs.permits.Lets.{lets_all, lets_given, lets_same}
use Rattle.wasi_laws.proofs.permits.Splices.{splice_lets}
use Rattle.wasi_laws.specs.Writes.{let_all, let_blocking_splice, let_blocking_write, let_on, let_resumed, let_splice}

module _ (contexts : List WasiSocketsCtx) (side : OpId) where
  -- Before the line of this number: so much was let write.
  pub record LetSo (line : ℕ) (given : List ℕ) (es : List Entry) (m : Machine) : Type 0 where
    pub base : BaseBetween line m
    pub shaped : Shaped (Over m)
    pub stands : Agreeing side (Spent side line Unused m.store.records) (taken_in side es) given m.store.records

  -- == a line
  module _ (line : ℕ) (s : Step) (given : List ℕ) (es : List Entry) (m : Machine) (i : LetSo line given es m) where
    -- so much is let write along the line, and then it is over
    abbrev Along : (List Entry → List ℕ) → Asks (Reply × Machine) → Type 0
    Along more asks = Gives contexts side line s given es more asks

    owes : (own : Own) → Owes side (given ++ let_own side own) own given
    owes Used = sym (append-nil given)
    owes Unused = sym (append-nil given)
    owes (Names part) = sym (append-nil given)
    owes (ToConnect place) = sym (append-nil given)
    owes (ToWrite at bytes) = refl

    starts : (own : Own) → Holds contexts side line s (given ++ let_own side own) es (Starts m own)
    starts own = (base_starts contexts line s m own i.base, (i.shaped, record { held = given; stands = agrees_over side (taken_in side es) given m.store.records (spent_own side line Unused own m.store.records (older_unused line own)) i.stands; owes = owes own }))

    begins : Holds contexts side line s given es (Starts m Unused)
    begins = same_given contexts side line s (given ++ []) given es (Starts m Unused) (append-nil given) (starts Unused)

    -- the reply says what the call gave
    replied : {A : Type 0} (reply : A → Reply) (more : List Entry → List ℕ) (asks : Asks (A × Machine)) → Gives contexts side line s given es more asks → Along more (bind asks (λ done. Give (reply done.0, done.1)))
    replied reply more asks h = lets_given side (Ends contexts side line s) (Ends contexts side line s) (λ done. (reply done.0, done.1)) (λ bytes fs done k. k) (λ gs. given ++ more gs) es asks h

    -- == a poll
    resumed_so : {A : Type 0} (gives : A → Outcome) (done : Blocked A) → (resumed (blocked_outcome gives done)).1 ≡ done.1
    resumed_so gives (Ok (Ready value), now) = refl
    resumed_so gives (Ok Pending, now) = refl
    resumed_so gives (Err (Failed c e), now) = refl
    resumed_so gives (Err Closed, now) = refl
    resumed_so gives (Err (Traps kind), now) = refl

    -- a call that blocks is continued
    unblocked : {A : Type 0} (gives : A → Outcome) (more : List Entry → List ℕ) (asks : Asks (Blocked A)) → Gives contexts side line s given es more asks → Gives contexts side line s given es more (bind (bind asks (λ done. Give (blocked_outcome gives done))) (λ done. Give (resumed done)))
    unblocked gives more asks h =
        let all : List Entry → List ℕ = λ gs. given ++ more gs in
        lets_given side (Ends contexts side line s) (λ bytes fs done. Ends contexts side line s bytes fs (resumed done)) resumed (λ bytes fs done k. k) all es (bind asks (λ done. Give (blocked_outcome gives done)))
        (lets_given side (λ bytes fs done. Ends contexts side line s bytes fs (resumed done)) (Ends contexts side line s) (blocked_outcome gives) (λ bytes fs done k. subst (λ (x : Machine). Holds contexts side line s bytes fs (Over x)) (sym (resumed_so gives done)) k) all es asks h)

    -- a pending call that writes after it asked
    abbrev Resumes : ℕ → Option Standing → Type 0
    Resumes n o = Gives contexts side line s given es (let_resumed side m o) (resume_call m n o)

    module _ (no_offer : NotOffer s) where
      -- what writes nothing after it asked is let write at once
      simple : (o : Option Standing) → m.store.standing ≡ o → IsSimple o s → ((gs : List Entry) → let_own side (may_while m s o) ≡ permitted_in m side line o s gs) → Along (permitted_in m side line o s) (asks_while contexts m line s o)
      simple o e k is =
          let own = may_while m s o in
          let all = given ++ let_own side own in
          lets_same side (Ends contexts side line s) (λ gs. all) (λ gs. given ++ permitted_in m side line o s gs) (λ gs. ap (λ (more : List ℕ). given ++ more) (is gs)) es (asks_while contexts m line s o)
          (lets_all side (Ends contexts side line s) all es (asks_while contexts m line s o) (along contexts side line s no_offer all (simple_walks line s m o k e) es (starts own)))

      -- the calls of streams of the line begin
      calls : IsStreamCall s → m.store.standing ≡ None → So contexts side line s line (handles_of s) given es None m
      calls is e = let done : Unit {0} × Machine = (tt, m) in along contexts side line s no_offer given {end = λ x. Calling line (handles_of s) None Used x.1} {asks = Give done} (begun_calls is (subst NoStartStands (sym e) tt) (give _)) es begins

      -- or those that a poll continues
      recalls : (ids : Ids) (call : BlockingCall) → m.store.standing ≡ Some (standing_as ids (Blocking call)) → Holds contexts side line s given es (Recalled ids.line call None (record m { store = unstood m.store }))
      recalls ids call e =
          let now : Machine = record m { store = unstood m.store } in
          let done : Unit {0} × Machine = (tt, now) in
          along contexts side line s no_offer given {end = λ x. Recalled ids.line call None x.1} {asks = Give done} (move (RecallsCall _ ids call e) (move (Unstands _ (takes_none m.store.standing ids (Blocking call) Unused e tt)) (gives _ (Spends _ refl)))) es begins

      -- one beside others, or none
      missing : (n : ℕ) → s ≡ step.Poll n → Resumes n None
      missing n is = over contexts side line s no_offer given (resume_beside_walks m n is (beside_of m.store n) refl) es begins

      -- it is resumed, where it has that number
      found : (n : ℕ) (c : Standing) → s ≡ step.Poll n → m.store.standing ≡ Some c → Resumes n (Some c) → Along (let_resumed side m (call_of m.store.standing n)) (bind (resume_call m n (call_of m.store.standing n)) (λ done. Give (resumed_reply n done.0, done.1)))
      found n c is e h = replied (resumed_reply n) (let_resumed side m (call_of m.store.standing n)) (resume_call m n (call_of m.store.standing n)) (by_number (call_of m.store.standing n) refl)
        where
          by_number : (o : Option Standing) → call_of m.store.standing n ≡ o → Resumes n o
          by_number None q = missing n is
          by_number (Some x) q = let its : c ≡ x = some_same c x (sym e ∙ (stands_so m.store.standing n x q).0) in subst (λ (y : Standing). Resumes n (Some y)) its h

  module _ (line : ℕ) (given : List ℕ) (es : List Entry) (m : Machine) (i : LetSo line given es m) where
    -- a call that writes nothing is let write nothing
    none_resumed : (n : ℕ) (ids : Ids) (call : StandingCall) (gs : List Entry) → [] ≡ let_on side (own_of ids.line) (record m { store = unstood m.store }) call gs → [] ≡ let_resumed side m (call_of (Some (standing_as ids call)) n) gs
    none_resumed n ids call gs e = by_number (ids.line == n)
      where
        by_number : (same : Bool) → [] ≡ let_resumed side m (if same then Some (standing_as ids call) else None) gs
        by_number true = e
        by_number false = refl

    none_polled : (n : ℕ) (o : Option Standing) (gs : List Entry) → m.store.standing ≡ o → [] ≡ let_resumed side m (call_of o n) gs → [] ≡ let_resumed side m (call_of m.store.standing n) gs
    none_polled n o gs e h = subst (λ (x : Option Standing). [] ≡ let_resumed side m (call_of x n) gs) (sym e) h

    -- it is busy, where it polls a call beside others; else it goes on
    poll_held : (n : ℕ) (c : Standing) → Along line (step.Poll n) given es m i (permitted_when m side line (step.Poll n)) (step_asks contexts m line (step.Poll n)) → Along line (step.Poll n) given es m i (permitted_in m side line (Some c) (step.Poll n)) (asks_while contexts m line (step.Poll n) (Some c))
    poll_held n c goes = by_test (is_held_up m.store (step.Poll n))
      where
        busy : Reply × Machine
        busy = (reply.Busy, m)

        by_test : (b : Bool) → Along line (step.Poll n) given es m i (λ gs. if b then [] else permitted_when m side line (step.Poll n) gs) (if b then Give busy else step_asks contexts m line (step.Poll n))
        by_test true = over contexts side line (step.Poll n) tt given {asks = Give busy} (gives _ (Spends _ refl)) es (begins line (step.Poll n) given es m i)
        by_test false = goes

    none_held : (n : ℕ) (gs : List Entry) → [] ≡ let_resumed side m (call_of m.store.standing n) gs → (b : Bool) → [] ≡ (if b then [] else permitted_when m side line (step.Poll n) gs)
    none_held n gs e true = refl
    none_held n gs e false = e

    poll_lets : (n : ℕ) (ids : Ids) (call : StandingCall) → (let o = Some (standing_as ids call) in m.store.standing ≡ o → Along line (step.Poll n) given es m i (permitted_in m side line o (step.Poll n)) (asks_while contexts m line (step.Poll n) o))
    poll_lets n ids (Blocking (blocking.Write output rest)) e =
        let now : Machine = record m { store = unstood m.store } in
        poll_held n (standing_as ids (Blocking (blocking.Write output rest))) (found line (step.Poll n) given es m i tt n _ refl e (unblocked line (step.Poll n) given es m i nothing_given (let_all side (own_of ids.line) output now rest) _ (all_lets contexts side line (step.Poll n) tt ids output given es None now rest (recalls line (step.Poll n) given es m i tt ids (blocking.Write output rest) e))))
    poll_lets n ids (Blocking (blocking.Splice to from len)) e =
        let now : Machine = record m { store = unstood m.store } in
        poll_held n (standing_as ids (Blocking (blocking.Splice to from len))) (found line (step.Poll n) given es m i tt n _ refl e (unblocked line (step.Poll n) given es m i outcome.Count (let_blocking_splice side now (own_of ids.line) to from len) _ (blocking_splice_lets contexts side line (step.Poll n) tt ids to from len given es None now (recalls line (step.Poll n) given es m i tt ids (blocking.Splice to from len) e))))
    poll_lets n ids call e = simple line (step.Poll n) given es m i tt (Some (standing_as ids call)) e tt (λ gs. none_held n gs (none_polled n (Some (standing_as ids call)) gs e (none_resumed n ids call gs refl)) (is_held_up m.store (step.Poll n)))

    -- while an exclusive call is pending every guest call is busy
    busy_lets : (s : Step) (c : Standing) → m.store.standing ≡ Some c → Along line s given es m i (permitted_in m side line (Some c) s) (asks_while contexts m line s (Some c))
    busy_lets (step.Poll n) c e = poll_lets n c.ids c.call e
    busy_lets (step.Call ctx call) c e = let busy : Reply × Machine = (reply.Busy, m) in over contexts side line step.Turn tt given {asks = Give busy} (gives _ (Spends _ refl)) es (begins line (step.Call ctx call) given es m i)
    busy_lets s c e = simple line s given es m i tt (Some c) e tt (λ gs. refl)

    step_lets : (s : Step) → m.store.standing ≡ None → Along line s given es m i (permitted_in m side line None s) (asks_while contexts m line s None)
    step_lets (step.Call ctx (guest.Stream (stream_call.Write output bytes))) e = simple line (step.Call ctx (guest.Stream (stream_call.Write output bytes))) given es m i tt None e tt (λ gs. write_is side m output bytes)
    step_lets (step.Call ctx (guest.Stream (stream_call.WriteZeroes output len))) e = simple line (step.Call ctx (guest.Stream (stream_call.WriteZeroes output len))) given es m i tt None e tt (λ gs. write_is side m output (zeros len))
    step_lets (step.Call ctx (guest.Stream (stream_call.Splice to from len))) e =
        let s = step.Call ctx (guest.Stream (stream_call.Splice to from len)) in
        replied line s given es m i (stream_reply_of number_fields) (let_splice side m (own_of line) to from len) _ (splice_lets contexts side line s tt line (handles_of s) to from (inl refl) (inr (inl refl)) given es None m len (calls line s given es m i tt tt e))
    step_lets (step.Call ctx (guest.Stream (stream_call.BlockingWrite output bytes))) e =
        let s = step.Call ctx (guest.Stream (stream_call.BlockingWrite output bytes)) in
        replied line s given es m i (blocked_reply_of no_values line) (let_blocking_write side m (own_of line) output bytes (nat_lt 4096 (length bytes))) _ (blocking_write_lets contexts side line s tt (first_ids line) output given es None m bytes (calls line s given es m i tt tt e))
    step_lets (step.Call ctx (guest.Stream (stream_call.BlockingZeroes output len))) e =
        let s = step.Call ctx (guest.Stream (stream_call.BlockingZeroes output len)) in
        replied line s given es m i (blocked_reply_of no_values line) (let_blocking_write side m (own_of line) output (zeros len) (nat_lt 4096 len)) _ (blocking_zeroes_lets contexts side line s tt (first_ids line) output given es None m len (calls line s given es m i tt tt e))
    step_lets (step.Call ctx (guest.Stream (stream_call.BlockingSplice to from len))) e =
        let s = step.Call ctx (guest.Stream (stream_call.BlockingSplice to from len)) in
        replied line s given es m i (blocked_reply_of number_fields line) (let_blocking_splice side m (own_of line) to from len) _ (blocking_splice_lets contexts side line s tt (first_ids line) to from len given es None m (calls line s given es m i tt tt e))
    step_lets (step.Call ctx (guest.P3Tcp (p3_tcp_call.Write end bytes))) e =
        let s = step.Call ctx (guest.P3Tcp (p3_tcp_call.Write end bytes)) in
        replied line s given es m i (stream_result_reply number_fields) (let_end side m end bytes) _ (end_lets contexts side line s given es m end bytes e (begins line s given es m i))
    step_lets (step.Poll n) e = simple line (step.Poll n) given es m i tt None e tt (λ gs. none_polled n None gs e refl)
    step_lets s e = simple line s given es m i tt None e tt (λ gs. refl)

    by_standing : (s : Step) (o : Option Standing) → m.store.standing ≡ o → Along line s given es m i (permitted_in m side line o s) (asks_while contexts m line s o)
    by_standing s None e = step_lets s e
    by_standing s (Some c) e = busy_lets s c e

    pub line_lets : (s : Step) → Gives contexts side line s given es (permitted_by m side line s) (machine_asks contexts m line s)
    line_lets s = by_standing s m.store.standing refl

  -- the line is over
  pub line_over : (line : ℕ) (s : Step) (given : List ℕ) (es : List Entry) (next : Machine) → Holds contexts side line s given es (Over next) → LetSo (line + 1) given es next
  line_over line s given es next k =
      record { base = base_over contexts line s next k.0; shaped = k.1.0; stands = agrees_over side (taken_in side es) given next.store.records (λ o. (let was = o.older in record { older = omega (arith, was); none = o.none })) (subst (λ (bytes : List ℕ). Agreeing side (Spent side line Used next.store.records) (taken_in side es) bytes next.store.records) k.1.1.owes k.1.1.stands) }
