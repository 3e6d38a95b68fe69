-- A line, and which lines were served a datagram: what it asks, replies and leaves.
use Rattle.std.specs.Prelude.{Bool, IsSome, true, false}
use Rattle.std.proofs.lemmas.Bool.{eqb-true, eqb-false}
use Rattle.wasi_walks.proofs.Words.{Fits, allows_if, allows_then, asks_while, ◌==◌}
use Rattle.wasi_host.specs.Pending.{resume_beside, resume_call}
use Rattle.host_store.specs.Standing.{call_of}
use Rattle.wasi_machine.specs.Machine.{is_held_up, resumed_reply, step_asks}
use Rattle.wasi_steps.specs.declared.reply.Field.{Field}
use Rattle.wasi_walks.specs.Licence.{HandsAs, IsNone, IsSendOf}
use Rattle.wasi_walks.proofs.fits.Datagrams.{FitBeside}
use Rattle.wasi_walks.proofs.walks.Moves.{Own}
use Rattle.wasi_walks.proofs.received.Parted.{IsCounted}
use Rattle.wasi_walks.proofs.received.OneDone.{call_is_other}
use Rattle.wasi_walks.proofs.received.Replies.{IsQuietAt, Lates, step_replies}
use Rattle.wasi_walks.proofs.Words.{Allows, BeganBy, Call, Entry, Has, List, Machine, None, OpId, Option, Reply, Some, Standing, GuestCall, Step, Told, WasiSocketsCtx, [], allows_keep, allows_weaker, ap, arith, entry, inl, inr, machine_asks, own_of, refl, step_at, subst, sym, ℕ, ⊤, ◌+◌, ◌++◌, ◌<◌, ◌∙◌, ◌∷◌, ◌≡◌, ◌⊎◌}
use Rattle.host_store.specs.declared.beside.Beside.{Beside}
use Rattle.host_store.specs.declared.beside.BesideCall.{BesideCall}
use Rattle.host_store.specs.declared.beside.BesideCall.TheVariants.{Connect, Receive, Resolve, Send}
use Rattle.host_store.specs.Beside.{beside_in, beside_of}
use Rattle.wasi_walks.specs.Licence.{HandsOne, IsReceive, MayReply, served_by, serves}
use Rattle.wasi_walks.proofs.BesideLists.{found_has}
use Rattle.wasi_walks.proofs.claims.Law.{Base, begins_on_two, on_two, on_two_along}
use Rattle.wasi_walks.proofs.fits.Polls.{Anything}
use Rattle.wasi_walks.proofs.licence.Besides.{CallIsFine, beside_fine}
use Rattle.wasi_walks.proofs.licence.Frames.{Goes, began_more}
use Rattle.wasi_walks.proofs.licence.Law.{begins_licences, licences}
use Rattle.wasi_walks.proofs.licence.Line.{Licensed}
use Rattle.wasi_walks.proofs.licence.Replies.{allows_both, is_none}
use Rattle.wasi_walks.proofs.licence.State.{StateIsFine}
use Rattle.wasi_walks.proofs.licence.Wilds.{Wilds}
use Rattle.wasi_walks.proofs.remotes.Law.{begins_kept, remotes}
use Rattle.wasi_walks.proofs.remotes.State.{Keeps}
use Rattle.wasi_walks.proofs.walks.Law.{BeginsWrites, Law, Walks}
use Rattle.wasi_walks.proofs.walks.Layers.{begins_layer, layer}
use Rattle.wasi_walks.proofs.walks.Moves.{Here}
use Rattle.wasi_walks.proofs.walks.States.{Over, Starts}
use Rattle.wasi_walks.proofs.received.Askers.{Asks3, CallStays, IsOver, IsOwn, IsPolled, IsSame, MayRecv, NoReceive, askers, begins_askers}
use Rattle.wasi_walks.proofs.received.OneDone.{CallHands, FoundHands, HandsOver, OneDone, Says, poll_done, receive_done, step_of}
use Rattle.wasi_walks.proofs.received.Parted.{AllParted}
use Rattle.wasi_walks.proofs.received.Single.{RecvsNone, in_hand_more}
use Rattle.wasi_steps.specs.declared.guest_call.P3UdpCall.{P3UdpCall}

-- == the law of who asks, above the licence
module _ (contexts : List WasiSocketsCtx) (steps : List Step) (line : ℕ) (origin : Step) (is_line : step_at steps line ≡ Some origin) (old : List Beside) where
  pub asked : Law contexts line origin
  unfolding remotes licences askers
  asked = on_two contexts line origin (remotes contexts line origin) (layer (licences contexts steps line origin is_line) (askers contexts steps line origin is_line old))

  pub begins_asked : BeginsWrites asked
  unfolding asked remotes licences askers
  begins_asked =
      begins_on_two contexts line origin (remotes contexts line origin) (layer (licences contexts steps line origin is_line) (askers contexts steps line origin is_line old)) (begins_kept contexts line origin)
      (begins_layer (licences contexts steps line origin is_line) (askers contexts steps line origin is_line old) (begins_licences contexts steps line origin is_line) (begins_askers contexts steps line origin is_line old))

  pub asked_along : {A : Type 0} {h : Here} {end : A → Here} {asks : _} → Walks asked h end asks → (es : List Entry) → Base contexts line origin h → Keeps es h.machine.store.records → Wilds line es h × Licensed contexts steps line origin es h → Asks3 contexts steps line origin is_line old h
      → Allows (MayRecv contexts steps line origin is_line old) (λ fs a. Asks3 contexts steps line origin is_line old (end a)) es asks
  unfolding asked remotes licences askers
  asked_along {end = end} {asks = asks} w es b k i a =
      allows_weaker (MayRecv contexts steps line origin is_line old) _ (λ fs x. Asks3 contexts steps line origin is_line old (end x)) (λ fs x q. q.1.1) es asks
      (on_two_along contexts line origin (remotes contexts line origin) (layer (licences contexts steps line origin is_line) (askers contexts steps line origin is_line old)) w es b k (i, a))

-- == between two lines
-- Before the line of this number, where these lines were served: the calls beside others are of earlier lines and have in hand what they
-- were told last, and those of lines that were served are over.
pub record Serves (steps : List Step) (line : ℕ) (es : List Entry) (m : Machine) (served : List ℕ) : Type 0 where
  pub parted : AllParted m.store.records
  pub quiet : (s : Standing) → m.store.standing ≡ Some s → BeganBy steps (own_of s.ids.line) NoReceive
  pub below : (n : ℕ) (b : Beside) → beside_of m.store n ≡ Some b → n < line
  pub hands : (n : ℕ) → FoundHands es (beside_of m.store n)
  pub over : (n : ℕ) → Has served n → (n < line) × (beside_of m.store n ≡ None)

pub serves_more : {steps now : List Step} (goes : Goes steps now) (line : ℕ) (es : List Entry) (m : Machine) (served : List ℕ) → Serves steps line es m served → Serves now line es m served
serves_more goes line es m served k = record { parted = k.parted; quiet = λ s e. began_more goes (own_of s.ids.line) NoReceive (k.quiet s e); below = k.below; hands = k.hands; over = k.over }

-- no call of the line stands yet
none_yet : {steps : List Step} {es : List Entry} {served : List ℕ} (line : ℕ) (m : Machine) → Serves steps line es m served → beside_in m.store.beside line ≡ None
none_yet line m k = by_found (beside_in m.store.beside line) refl
  where
    by_found : (o : Option Beside) → beside_in m.store.beside line ≡ o → o ≡ None
    by_found None e = refl
    by_found (Some b) e = absurd (let p = k.below line b e in omega (arith, p))

-- == what is asked by others
-- an entry that asks for a datagram, by what is known of such
module _ (contexts : List WasiSocketsCtx) (steps : List Step) (line : ℕ) (s : Step) (is_line : step_at steps line ≡ Some s) (old : List Beside) where
  abbrev May : List Entry → OpId → Call → Type 0
  May = MayRecv contexts steps line s is_line old

  pub asks_by : (fs : List Entry) (op : OpId) (c : Call) (t told : Told) (n : ℕ) (side : OpId) → May fs op c → Has (entry op c t ∷ []) (entry (own_of n) (Call.Recv side) told) → (n ≡ line) ⊎ ((s ≡ Step.Poll n) × IsSome (beside_in old n))
  asks_by fs op c t told n side may (inl e) =
      let by : op ≡ own_of n = ap (λ (x : Entry). x.op) e in
      let call : c ≡ Call.Recv side = ap (λ (x : Entry). x.call) e in
      let its : May fs (own_of n) (Call.Recv side) = subst (λ (x : OpId). May fs x (Call.Recv side)) by (subst (λ (x : Call). May fs op x) call may) in
      its refl
  asks_by fs op c t told n side may (inr h) = absurd h

  -- the operations of other lines ask for none
  others_ask : (fs : List Entry) (op : OpId) (c : Call) (t : Told) (n : ℕ) (side : OpId) → May fs op c → (n ≡ line → ⊥) → (s ≡ Step.Poll n → ⊥) → RecvsNone (own_of n) side (entry op c t ∷ [])
  others_ask fs op c t n side may not away told h = elim (asks_by fs op c t told n side may h) [ inl e ↦ not e | inr e ↦ away e.0 ]

  call_kept : (gs fs : List Entry) (op : OpId) (c : Call) (t : Told) (n : ℕ) (call : BesideCall) → CallIsFine contexts steps gs n call → May fs op c → (n ≡ line → ⊥) → (s ≡ Step.Poll n → ⊥) → CallHands fs call → CallHands (fs ++ entry op c t ∷ []) call
  call_kept gs fs op c t n (Receive place o) f may not away k = in_hand_more fs _ o.who.id o.who.side o.left (subst (λ (x : OpId). RecvsNone x o.who.side (entry op c t ∷ [])) (sym f.0) (others_ask fs op c t n o.who.side may not away)) k
  call_kept gs fs op c t n (Connect place) f may not away k = tt
  call_kept gs fs op c t n (Resolve host) f may not away k = tt
  call_kept gs fs op c t n (Send place o) f may not away k = tt

-- == a poll of no call
abbrev NotOk : Reply → Type 0
NotOk (Reply.Ok fields) = ⊥
NotOk _ = ⊤

module _ (contexts : List WasiSocketsCtx) (m : Machine) (es : List Entry) (line n : ℕ) (other : (s : Standing) → m.store.standing ≡ Some s → s.ids.line ≡ n → ⊥) (free : beside_of m.store n ≡ None) where
  abbrev Idle : List Entry → Reply × Machine → Type 0
  Idle fs done = NotOk done.0 × (done.1 ≡ m)

  idle_poll : Allows Anything Idle es (step_asks contexts m line (Step.Poll n))
  idle_poll =
      allows_then Anything (λ fs done. NotOk (resumed_reply n done.0) × (done.1 ≡ m)) Idle es (resume_call m n (call_of m.store.standing n)) _
      (subst (λ (o : Option Standing). Allows Anything (λ fs done. NotOk (resumed_reply n done.0) × (done.1 ≡ m)) es (resume_call m n o)) (sym (call_is_other n m.store.standing other))
      (subst (λ (o : Option Beside). Allows Anything (λ fs done. NotOk (resumed_reply n done.0) × (done.1 ≡ m)) es (resume_beside m n o)) (sym free) (tt, refl)))
      (λ fs done k. k)

  idle_while : (standing : Option Standing) → Allows Anything Idle es (asks_while contexts m line (Step.Poll n) standing)
  idle_while None = idle_poll
  idle_while (Some s) = allows_if Anything Idle es (is_held_up m.store (Step.Poll n)) _ _ (λ held. (tt, refl)) (λ go. idle_poll)

-- == what is known of each call by its step
began_some : {steps : List Step} {n : ℕ} {P : Step → Type 0} → BeganBy steps (own_of n) P → IsSome (step_at steps n)
began_some k = subst (λ (o : Option Step). IsSome o) (sym k.at) refl

call_began : (contexts : List WasiSocketsCtx) (steps : List Step) (es : List Entry) (n : ℕ) (call : BesideCall) → CallIsFine contexts steps es n call → IsSome (step_at steps n)
call_began contexts steps es n (Connect place) f = began_some f
call_began contexts steps es n (Resolve host) f = began_some f
call_began contexts steps es n (Send place op) f = began_some (subst (λ (x : OpId). BeganBy steps x (IsSendOf op.who.id.part f.1.datagram)) f.0 f.1.item)
call_began contexts steps es n (Receive place op) f = began_some f.2

-- what none of a receive has in hand
quiet_call : (contexts : List WasiSocketsCtx) (steps : List Step) (es fs : List Entry) (n : ℕ) (call : BesideCall) → BeganBy steps (own_of n) NoReceive → CallIsFine contexts steps es n call → CallHands fs call
quiet_call contexts steps es fs n (Connect place) q f = tt
quiet_call contexts steps es fs n (Resolve host) q f = tt
quiet_call contexts steps es fs n (Send place op) q f = tt
quiet_call contexts steps es fs n (Receive place op) q f = absurd (step_of q f.2.at f.2.holds)

quiet_found : (contexts : List WasiSocketsCtx) (steps : List Step) (es fs : List Entry) (m : Machine) (n : ℕ) → BeganBy steps (own_of n) NoReceive → StateIsFine contexts steps es m → FoundHands fs (beside_of m.store n)
quiet_found contexts steps es fs m n q f = by_found (beside_of m.store n) refl
  where
    by_found : (o : Option Beside) → beside_of m.store n ≡ o → FoundHands fs o
    by_found None e = tt
    by_found (Some b) e = quiet_call contexts steps es fs n b.call q (beside_fine contexts steps es m.store.beside n b e f.besides)

-- what is served by a line that replies to no receive, or with no fields
served_quiet : (steps : List Step) (n : ℕ) (o : Option Step) (served : List ℕ) → step_at steps n ≡ o → BeganBy steps (own_of n) NoReceive → served_by n o served ≡ served
served_quiet steps n (Some (Step.Call ctx (GuestCall.P3Udp (P3UdpCall.Receive socket)))) served e q = absurd (step_of q e tt)
served_quiet steps n _ served e q = refl

serves_quiet : (steps : List Step) (line : ℕ) (s : Step) (r : Reply) (served : List ℕ) → IsQuietAt steps s → serves steps line s r served ≡ served
serves_quiet steps line (Step.Call ctx (GuestCall.P3Udp (P3UdpCall.Receive socket))) r served q = absurd (q.0 tt)
serves_quiet steps line (Step.Poll n) (Reply.Ok fields) served q = served_quiet steps n (step_at steps n) served refl (q.1 n refl)
serves_quiet steps line s (Reply.Ok fields) served q = refl
serves_quiet steps line s r served q = refl

serves_not : (steps : List Step) (line : ℕ) (s : Step) (r : Reply) (served : List ℕ) → NotOk r → serves steps line s r served ≡ served
serves_not steps line s (Reply.Ok fields) served h = absurd h
serves_not steps line (Step.Poll n) _ served h = refl
serves_not steps line s _ served h = refl

may_not : (steps : List Step) (es : List Entry) (served : List ℕ) (line n : ℕ) (r : Reply) → NotOk r → MayReply steps es served line (Step.Poll n) r
may_not steps es served line n (Reply.Ok fields) h = absurd h
may_not steps es served line n _ h = tt

-- whether a step polls this line
same_number : (n k : ℕ) → (n ≡ k) ⊎ (n ≡ k → ⊥)
same_number n k = by_test (n == k) refl
  where
    by_test : (b : Bool) → (n == k) ≡ b → (n ≡ k) ⊎ (n ≡ k → ⊥)
    by_test true e = inl (eqb-true n k e)
    by_test false e = inr (eqb-false n k e)

polls_or_not : (s : Step) (n : ℕ) → (s ≡ Step.Poll n) ⊎ (s ≡ Step.Poll n → ⊥)
polls_or_not (Step.Poll k) n = elim (same_number k n) [ inl e ↦ inl (ap (λ (x : ℕ). Step.Poll x) e) | inr d ↦ inr (λ e. d (let its : Step.Poll k ≡ Step.Poll n = e in cc)) ]
polls_or_not _ n = inr (λ e. absurd (cc))

no_some : (A : Type 0) → IsSome (let o : Option A = None in o) → ⊥
no_some A e = cc

some_or_not : (o : Option Beside) → (o ≡ None) ⊎ IsSome o
some_or_not None = inl refl
some_or_not (Some b) = inr refl

-- == one line
module _ (contexts : List WasiSocketsCtx) (steps : List Step) (line : ℕ) (s : Step) (is_line : step_at steps line ≡ Some s) (m : Machine) (es : List Entry) (served : List ℕ) (fine : StateIsFine contexts steps es m) (k : Serves steps line es m served) where
  abbrev Asked3 : List Entry → Reply × Machine → Type 0
  Asked3 fs done = Asks3 contexts steps line s is_line m.store.beside (Over done.1)

  abbrev Its : List Entry → OpId → Call → Type 0
  Its = MayRecv contexts steps line s is_line m.store.beside

  abbrev Kept : List Entry → Type 0
  Kept fs = (n : ℕ) → (n ≡ line → ⊥) → (s ≡ Step.Poll n → ⊥) → FoundHands fs (beside_of m.store n)

  kept_more : (fs : List Entry) (op : OpId) (c : Call) (t : Told) → Fits c t → Kept fs → Its fs op c → Kept (fs ++ entry op c t ∷ [])
  kept_more fs op c t fits old may n a b = by_found (beside_of m.store n) refl (old n a b)
    where
      by_found : (o : Option Beside) → beside_of m.store n ≡ o → FoundHands fs o → FoundHands (fs ++ entry op c t ∷ []) o
      by_found None e h = tt
      by_found (Some x) e h = call_kept contexts steps line s is_line m.store.beside es fs op c t n x.call (beside_fine contexts steps es m.store.beside n x e fine.besides) may a b h

  -- What is found of the line's own call, and of that which it polls.
  record Direct (fs : List Entry) (done : Reply × Machine) : Type 0 where
    says : MayReply steps fs served line s done.0
    over : (n : ℕ) → Has (serves steps line s done.0 served) n → Has served n ⊎ ((n < line + 1) × (beside_of done.1.store n ≡ None))
    hands : (n : ℕ) → (n ≡ line) ⊎ ((s ≡ Step.Poll n) × IsSome (beside_of m.store n)) → FoundHands fs (beside_of done.1.store n)
    quiet : (x : Standing) → done.1.store.standing ≡ Some x → BeganBy steps (own_of x.ids.line) NoReceive

  abbrev Final : List Entry → Reply × Machine → Type 0
  Final fs done = MayReply steps fs served line s done.0 × Serves steps (line + 1) fs done.1 (serves steps line s done.0 served)

  module _ (fs : List Entry) (done : Reply × Machine) (a : Asked3 fs done) (kept : Kept fs) (d : Direct fs done) where
    abbrev Stays : ℕ → Type 0
    Stays n = CallStays line s m.store.beside done.1.store.beside n

    below_some : (n : ℕ) (o : Option Beside) → beside_of m.store n ≡ o → IsSome o → n < line + 1
    below_some n None e some = absurd (no_some Beside some)
    below_some n (Some b) e some = let p = k.below n b e in omega (arith, p)

    below_by : (n : ℕ) (b : Beside) → beside_of done.1.store n ≡ Some b → Stays n → n < line + 1
    below_by n b e (IsOver over) = absurd (let p : None ≡ Some b = sym over ∙ e in cc)
    below_by n b e (IsSame same) = let p = k.below n b (sym same ∙ e) in omega (arith, p)
    below_by n b e (IsOwn own) = omega (arith, own)
    below_by n b e (IsPolled is some) = below_some n (beside_of m.store n) refl some

    same_hands : (n : ℕ) → beside_of done.1.store n ≡ beside_of m.store n → FoundHands fs (beside_of done.1.store n)
    same_hands n same = elim (same_number n line) [
      | inl own ↦ d.hands n (inl own)
      | inr not ↦ elim (polls_or_not s n) [
        | inl polls ↦ elim (some_or_not (beside_of m.store n)) [
          | inl none ↦ subst (FoundHands fs) (sym (same ∙ none)) tt
          | inr some ↦ d.hands n (inr (polls, some))
        ]
        | inr away ↦ subst (FoundHands fs) (sym same) (kept n not away)
      ]
    ]

    hands_by : (n : ℕ) → Stays n → FoundHands fs (beside_of done.1.store n)
    hands_by n (IsOver over) = subst (FoundHands fs) (sym over) tt
    hands_by n (IsSame same) = same_hands n same
    hands_by n (IsOwn own) = d.hands n (inl own)
    hands_by n (IsPolled is some) = d.hands n (inr (is, some))

    over_by : (n : ℕ) → (n < line) × (beside_of m.store n ≡ None) → Stays n → (n < line + 1) × (beside_of done.1.store n ≡ None)
    over_by n q (IsOver over) = (let p = q.0 in omega (arith, p), over)
    over_by n q (IsSame same) = (let p = q.0 in omega (arith, p), same ∙ q.1)
    over_by n q (IsOwn own) = absurd (let p = q.0 in omega (arith, p, own))
    over_by n q (IsPolled is some) = absurd (no_some Beside (subst (λ (o : Option Beside). IsSome o) q.1 some))

    finish : Final fs done
    finish = (
      d.says,
      record {
        parted = a.parted.0;
        quiet = d.quiet;
        below = λ n b e. below_by n b e (a.stays n);
        hands = λ n. hands_by n (a.stays n);
        over = λ n h. elim (d.over n h) [ inl old ↦ over_by n (k.over n old) (a.stays n) | inr q ↦ q ];
      },
    )

  abbrev pub Finally : List Entry → Reply × Machine → Type 0
  Finally fs done = StateIsFine contexts steps fs done.1 → Final fs done

  all_done : (Q : List Entry → Reply × Machine → Type 0) → Allows Its Asked3 es (machine_asks contexts m line s) → Allows Anything Q es (machine_asks contexts m line s)
      → ((fs : List Entry) (done : Reply × Machine) → StateIsFine contexts steps fs done.1 → Asked3 fs done → Q fs done → Direct fs done) → Allows Its Finally es (machine_asks contexts m line s)
  all_done Q along direct conv =
      allows_weaker Its (λ fs done. Kept fs × (Asked3 fs done × Q fs done)) Finally (λ fs done q f. finish fs done q.1.0 q.0 (conv fs done f q.1.0 q.1.1)) es (machine_asks contexts m line s)
      (allows_keep Its Its Kept (λ fs done. Asked3 fs done × Q fs done) kept_more (λ fs op c q. q) es (machine_asks contexts m line s) (λ n a b. k.hands n)
      (allows_both Its Anything Asked3 Q es (machine_asks contexts m line s) along direct))

  -- == a line that replies to no receive
  module _ (q : IsQuietAt steps s) where
    quiet_target : (n : ℕ) → (n ≡ line) ⊎ ((s ≡ Step.Poll n) × IsSome (beside_of m.store n)) → BeganBy steps (own_of n) NoReceive
    quiet_target n (inl own) = record { origin = s; at = subst (λ (x : ℕ). step_at steps x ≡ Some s) (sym own) is_line; holds = q.0 }
    quiet_target n (inr p) = q.1 n p.0

    quiet_direct : (fs : List Entry) (done : Reply × Machine) → StateIsFine contexts steps fs done.1 → Asked3 fs done → MayReply steps fs served line s done.0 → Direct fs done
    quiet_direct fs done f a says = record {
      says = says;
      over = λ n h. inl (subst (λ (ns : List ℕ). Has ns n) (serves_quiet steps line s done.0 served q) h);
      hands = λ n p. quiet_found contexts steps fs fs done.1 n (quiet_target n p) f;
      quiet = (a.quiet q).stands;
    }

-- == the reply to a receive
hands_one : {steps : List Step} {n : ℕ} {fs : List Entry} {fields : List Field} {left : Option Beside} {served : List ℕ} → HandsOver steps n fs fields left → BeganBy steps (own_of n) IsReceive → IsNone n served → HandsOne steps fs served n fields
hands_one h began once = record {
  began = began;
  side = h.side;
  reached = h.reached;
  bytes = h.bytes;
  peer = h.peer;
  front = h.one.told.cut.front;
  back = h.one.told.cut.back;
  cut = h.one.told.cut.is;
  last = λ told i. h.one.told.last told i;
  yes = h.one.yes;
  values = h.values;
  once = once;
}

-- == every line
-- what is known where it begins
pub first_asks : (contexts : List WasiSocketsCtx) (steps : List Step) (line : ℕ) (s : Step) (is_line : step_at steps line ≡ Some s) (m : Machine) (es : List Entry) (served : List ℕ) (own : Own) → IsCounted own → Serves steps line es m served → Asks3 contexts steps line s is_line m.store.beside (Starts m own)
first_asks contexts steps line s is_line m es served own counted k = record {
  parted = (k.parted, counted);
  stays = λ n. IsSame refl;
  quiet = λ c. (record { stands = k.quiet; at = λ place n e. absurd (cc); made = tt });
}

module _ (contexts : List WasiSocketsCtx) (steps : List Step) (line : ℕ) (m : Machine) (es : List Entry) (served : List ℕ) (fine : StateIsFine contexts steps es m) (keeps : Keeps es m.store.records) (late : Lates es m) (fits : (b : Beside) → Has m.store.beside b → FitBeside m.store.records b.line b.call) (k : Serves steps line es m served) where
  abbrev Along : (s : Step) → step_at steps line ≡ Some s → Type 0
  Along s is_line = Allows (MayRecv contexts steps line s is_line m.store.beside) (λ fs done. Asks3 contexts steps line s is_line m.store.beside (Over done.1)) es (machine_asks contexts m line s)

  abbrev Ends : (s : Step) → step_at steps line ≡ Some s → Type 0
  Ends s is_line = Allows (MayRecv contexts steps line s is_line m.store.beside) (Finally contexts steps line s is_line m es served fine k) es (machine_asks contexts m line s)

  -- of any quiet step
  quiet_line : (s : Step) (is_line : step_at steps line ≡ Some s) → IsQuietAt steps s → Along s is_line → Ends s is_line
  quiet_line s is_line q along = all_done contexts steps line s is_line m es served fine k (λ fs done. MayReply steps fs served line s done.0) along (step_replies contexts steps served line s m es q fine keeps late) (quiet_direct contexts steps line s is_line m es served fine k q)

  -- of a receive
  module _ (ctx socket : ℕ) (is_line : step_at steps line ≡ Some (Step.Call ctx (GuestCall.P3Udp (P3UdpCall.Receive socket)))) where
    its_receive : BeganBy steps (own_of line) IsReceive
    its_receive = record { origin = _; at = is_line; holds = tt }

    own_says : (fs : List Entry) (r : Reply) (left : Option Beside) → Says steps line fs r left → MayReply steps fs served line (Step.Call ctx (GuestCall.P3Udp (P3UdpCall.Receive socket))) r
    own_says fs (Reply.Ok fields) left h = hands_one h its_receive (is_none line served (λ n i e. let p = (k.over n i).0 in omega (arith, p, e)))
    own_says fs _ left h = tt

    own_over : (fs : List Entry) (r : Reply) (left : Option Beside) → Says steps line fs r left → (n : ℕ) → Has (serves steps line (Step.Call ctx (GuestCall.P3Udp (P3UdpCall.Receive socket))) r served) n → Has served n ⊎ ((n ≡ line) × (left ≡ None))
    own_over fs (Reply.Ok fields) left h n (inl e) = inr (sym e, h.over)
    own_over fs (Reply.Ok fields) left h n (inr i) = inl i
    own_over fs _ left h n i = inl i

    own_direct : (fs : List Entry) (done : Reply × Machine) → StateIsFine contexts steps fs done.1 → Asks3 contexts steps line (Step.Call ctx (GuestCall.P3Udp (P3UdpCall.Receive socket))) is_line m.store.beside (Over done.1) → OneDone steps line m.store.standing fs done → Direct contexts steps line (Step.Call ctx (GuestCall.P3Udp (P3UdpCall.Receive socket))) is_line m es served fine k fs done
    own_direct fs done f a o = record {
      says = own_says fs done.0 _ o.says;
      over = λ n h. elim (own_over fs done.0 _ o.says n h) [ inl i ↦ inl i | inr p ↦ inr (let e = p.0 in omega (arith, e), subst (λ (x : ℕ). beside_of done.1.store x ≡ None) (sym p.0) p.1) ];
      hands = λ n p. elim p [ inl e ↦ subst (λ (x : ℕ). FoundHands fs (beside_of done.1.store x)) (sym e) o.hands | inr polls ↦ absurd (let its = polls.0 in cc) ];
      quiet = λ x e. k.quiet x (sym o.stands ∙ e);
    }

    own_line : Along (Step.Call ctx (GuestCall.P3Udp (P3UdpCall.Receive socket))) is_line → Ends (Step.Call ctx (GuestCall.P3Udp (P3UdpCall.Receive socket))) is_line
    own_line along = all_done contexts steps line _ is_line m es served fine k (OneDone steps line m.store.standing) along (receive_done contexts steps m es fine keeps ctx socket line is_line (none_yet line m k)) own_direct

  -- of a poll
  module _ (n : ℕ) (is_line : step_at steps line ≡ Some (Step.Poll n)) where
    abbrev DirectPoll : List Entry → Reply × Machine → Type 0
    DirectPoll fs done = Direct contexts steps line (Step.Poll n) is_line m es served fine k fs done

    same_line : (x : ℕ) → Step.Poll n ≡ Step.Poll x → x ≡ n
    same_line x e = cc

    poll_quiet : BeganBy steps (own_of line) NoReceive
    poll_quiet = record { origin = _; at = is_line; holds = λ h. h }

    -- of no call
    idle_direct : beside_of m.store n ≡ None → (fs : List Entry) (done : Reply × Machine) → StateIsFine contexts steps fs done.1 → Asks3 contexts steps line (Step.Poll n) is_line m.store.beside (Over done.1) → NotOk done.0 × (done.1 ≡ m) → DirectPoll fs done
    idle_direct free fs done f a o = record {
      says = may_not steps fs served line n done.0 o.0;
      over = λ x h. inl (subst (λ (ns : List ℕ). Has ns x) (serves_not steps line (Step.Poll n) done.0 served o.0) h);
      hands = λ x p. elim p [
        | inl e ↦ quiet_found contexts steps fs fs done.1 x (subst (λ (y : ℕ). BeganBy steps (own_of y) NoReceive) (sym e) poll_quiet) f
        | inr polls ↦ absurd (no_some Beside (subst (λ (y : Option Beside). IsSome y) (subst (λ (y : ℕ). beside_of m.store y ≡ None) (sym (same_line x polls.0)) free) polls.1))
      ];
      quiet = λ x e. k.quiet x (ap (λ (y : Machine). y.store.standing) (sym o.1) ∙ e);
    }

    idle_line : ((x : Standing) → m.store.standing ≡ Some x → x.ids.line ≡ n → ⊥) → beside_of m.store n ≡ None → Along (Step.Poll n) is_line → Ends (Step.Poll n) is_line
    idle_line other free along = all_done contexts steps line (Step.Poll n) is_line m es served fine k (λ fs done. NotOk done.0 × (done.1 ≡ m)) along (idle_while contexts m es line n other free m.store.standing) (idle_direct free)

    -- of a receive that stands
    module _ (ctx socket : ℕ) (is : step_at steps n ≡ Some (Step.Call ctx (GuestCall.P3Udp (P3UdpCall.Receive socket)))) (b : Beside) (stands : beside_of m.store n ≡ Some b) where
      it_receives : BeganBy steps (own_of n) IsReceive
      it_receives = record { origin = _; at = is; holds = tt }

      not_yet : (x : ℕ) → Has served x → n ≡ x → ⊥
      not_yet x i e = let p : None ≡ Some b = sym (subst (λ (y : ℕ). beside_of m.store y ≡ None) (sym e) (k.over x i).1) ∙ stands in cc

      poll_says : (fs : List Entry) (r : Reply) (left : Option Beside) → Says steps n fs r left → MayReply steps fs served line (Step.Poll n) r
      poll_says fs (Reply.Ok fields) left h = subst (λ (o : Option Step). HandsAs steps fs served n o fields) (sym is) (hands_one h it_receives (is_none n served not_yet))
      poll_says fs _ left h = tt

      poll_over : (fs : List Entry) (r : Reply) (left : Option Beside) → Says steps n fs r left → (x : ℕ) → Has (serves steps line (Step.Poll n) r served) x → Has served x ⊎ ((x ≡ n) × (left ≡ None))
      poll_over fs (Reply.Ok fields) left h x i =
          let its : Has (n ∷ served) x = subst (λ (o : Option Step). Has (served_by n o served) x) is i in
          elim its [ inl e ↦ inr (sym e, h.over) | inr j ↦ inl j ]
      poll_over fs _ left h x i = inl i

      poll_direct : (fs : List Entry) (done : Reply × Machine) → StateIsFine contexts steps fs done.1 → Asks3 contexts steps line (Step.Poll n) is_line m.store.beside (Over done.1) → OneDone steps n m.store.standing fs done → DirectPoll fs done
      poll_direct fs done f a o = record {
        says = poll_says fs done.0 _ o.says;
        over = λ x h. elim (poll_over fs done.0 _ o.says x h) [ inl i ↦ inl i | inr p ↦ inr (let e = p.0 in let q = k.below n b stands in omega (arith, e, q), subst (λ (y : ℕ). beside_of done.1.store y ≡ None) (sym p.0) p.1) ];
        hands = λ x p. elim p [
          | inl e ↦ quiet_found contexts steps fs fs done.1 x (subst (λ (y : ℕ). BeganBy steps (own_of y) NoReceive) (sym e) poll_quiet) f
          | inr polls ↦ subst (λ (y : ℕ). FoundHands fs (beside_of done.1.store y)) (sym (same_line x polls.0)) o.hands
        ];
        quiet = λ x e. k.quiet x (sym o.stands ∙ e);
      }

      fits_at : (c : Beside) → beside_of m.store n ≡ Some c → FitBeside m.store.records n c.call
      fits_at c e = let h = found_has m.store.beside n c e in subst (λ (y : ℕ). FitBeside m.store.records y c.call) h.1 (fits c h.0)

      poll_line : ((x : Standing) → m.store.standing ≡ Some x → x.ids.line ≡ n → ⊥) → Along (Step.Poll n) is_line → Ends (Step.Poll n) is_line
      poll_line other along = all_done contexts steps line (Step.Poll n) is_line m es served fine k (OneDone steps n m.store.standing) along (poll_done contexts steps m es fine keeps n line other ctx socket is fits_at (k.hands n)) poll_direct

    -- of a receive
    receive_line : (ctx socket : ℕ) → step_at steps n ≡ Some (Step.Call ctx (GuestCall.P3Udp (P3UdpCall.Receive socket))) → (found : Option Beside) → beside_of m.store n ≡ found → Along (Step.Poll n) is_line → Ends (Step.Poll n) is_line
    receive_line ctx socket is found e along = by_found found e
      where
        other : (x : Standing) → m.store.standing ≡ Some x → x.ids.line ≡ n → ⊥
        other x e its = step_of (subst (λ (y : ℕ). BeganBy steps (own_of y) NoReceive) its (k.quiet x e)) is tt

        by_found : (found : Option Beside) → beside_of m.store n ≡ found → Ends (Step.Poll n) is_line
        by_found None e = idle_line other e along
        by_found (Some b) e = poll_line ctx socket is b e other along

    -- of no line
    none_line : step_at steps n ≡ None → Along (Step.Poll n) is_line → Ends (Step.Poll n) is_line
    none_line is along = idle_line other (by_found (beside_of m.store n) refl) along
      where
        gone : IsSome (step_at steps n) → ⊥
        gone some = no_some Step (subst (λ (o : Option Step). IsSome o) is some)

        other : (x : Standing) → m.store.standing ≡ Some x → x.ids.line ≡ n → ⊥
        other x e its = gone (began_some (subst (λ (y : ℕ). BeganBy steps (own_of y) NoReceive) its (k.quiet x e)))

        by_found : (o : Option Beside) → beside_of m.store n ≡ o → beside_of m.store n ≡ None
        by_found None e = e
        by_found (Some b) e = absurd (gone (call_began contexts steps es n b.call (beside_fine contexts steps es m.store.beside n b e fine.besides)))

    -- of any
    quiet_poll : (t : Step) → step_at steps n ≡ Some t → NoReceive t → IsQuietAt steps (Step.Poll n)
    quiet_poll t is none = (λ h. h, λ x e. subst (λ (y : ℕ). BeganBy steps (own_of y) NoReceive) (sym (same_line x e)) (record { origin = t; at = is; holds = none }))

    any_poll : (o : Option Step) → step_at steps n ≡ o → Along (Step.Poll n) is_line → Ends (Step.Poll n) is_line
    any_poll None is along = none_line is along
    any_poll (Some (Step.Call ctx (GuestCall.P3Udp (P3UdpCall.Receive socket)))) is along = receive_line ctx socket is (beside_of m.store n) refl along
    any_poll (Some t) is along = quiet_line (Step.Poll n) is_line (quiet_poll t is (λ h. h)) along

  pub serves_line : (s : Step) (is_line : step_at steps line ≡ Some s) → Along s is_line → Ends s is_line
  serves_line (Step.Call ctx (GuestCall.P3Udp (P3UdpCall.Receive socket))) is_line along = own_line ctx socket is_line along
  serves_line (Step.Poll n) is_line along = any_poll n is_line (step_at steps n) refl along
  serves_line s is_line along = quiet_line s is_line (λ h. h, λ n e. absurd (cc)) along
