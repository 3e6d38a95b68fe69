-- One poll of an operation: its checks come first, and once it went out none is left.
use Rattle.wasi_world.specs.declared.call.Call.TheVariants as call
use Rattle.wasi_tcp.specs.declared.bind.BindStage.{BindStage}
use Rattle.wasi_tcp.specs.declared.bind.BindStage.TheVariants as stage
use Rattle.wasi_tcp.specs.Connect as connect
use Rattle.wasi_tcp.specs.Listen as listen
use Rattle.wasi_laws.proofs.Words.{◌≡◌, ℕ, zero, suc, ◌+◌, ◌≤◌, Bool, true, false, List, [], ◌∷◌, ◌++◌, length, refl, sym, subst, ◌∙◌, arith, ErrorCode, OpId, Call, Told, Entry, bind, Given, Item, Check, Bind, Connect, Listen, CheckArrival, CheckPeer, Write, Who, Operation, LastAsk, NothingLast, CloseLast, ShutdownLast, End, last_ask, poll_asks, Allows, entry, Asks, Give, Left, CheckLocal, allows_at, reached, bind_left, IsLeftOfConnect, IsLeftOfListen, IsOutward, Binds, ChecksFirst, HasGone, NoCheckLeft, operation_polled}
use Rattle.wasi_world.specs.Operation.{UdpBind, UdpConnect, Send}
use Rattle.wasi_udp.specs.Bind as udp
use Rattle.wasi_udp.specs.Connect as udp_connect
use Rattle.wasi_udp.specs.Send as send
use Rattle.wasi_laws.specs.Order.{Sends, UdpBinds, UdpConnects}
use Rattle.wasi_laws.proofs.asks.Fronts.{is_calm, IsToCheck, IsToGo, AsksBy, Checks, Goes, Calmly, Becomes, IsAdmitted, PollLaw, polls_by, IsConnected}
use Rattle.wasi_laws.proofs.shapes.Shape.{AreOfWrite, IsOfWrite, end_write}
use Rattle.wasi_laws.proofs.shapes.Law.{never}
use Rattle.wasi_laws.proofs.order.Ordered.{out_by, gone_after, gone_along, gone_push, Asked, calm_may, out_may, asked_all, asked_first, gone_out}
use Rattle.wasi_laws.proofs.order.Weights.{Kind, ToCheck, ToGo, kind_of, and_then, checks_of, drop_weighs, if_ours, op_weight, Plain}
use Rattle.wasi_laws.specs.Order.{Connects, Listens}

-- With what the others weigh, and room kept for one more, there is one of ours at most; and where one went out none has a check left.
abbrev pub Within : (others : Bool → ℕ) (room g : ℕ) (weight : Bool → ℕ) → Type 0
Within others room g weight = (others false + weight false + room ≤ 1) × (others true + weight true + room + g ≤ 1)

to_check : (i : Item) → IsToCheck i → kind_of i ≡ ToCheck
to_check (Check a usage) k = refl
to_check (CheckArrival peer) k = refl
to_check (CheckPeer wanted bytes a) k = refl
to_check _ k = absurd k

to_go : (i : Item) → IsToGo i → kind_of i ≡ ToGo
to_go (Bind a) k = refl
to_go (Connect a) k = refl
to_go (Listen backlog) k = refl
to_go (UdpBind a) k = refl
to_go (UdpConnect family a) k = refl
to_go (Send kept a bytes) k = refl
to_go _ k = absurd k

becomes_less : (i j : Item) (items : List Item) → Becomes i j → checks_of (j ∷ items) ≤ checks_of (i ∷ items)
becomes_less _ _ items (IsAdmitted peer) = drop_weighs (CheckArrival peer) items
becomes_less _ _ items (IsConnected family a outcome) = drop_weighs (UdpConnect family a) items
becomes_less _ _ items _ = omega arith

module _ (ours : OpId → Bool) (others : Bool → ℕ) (below : others true ≤ others false + others false) (room : ℕ) where
  -- the same of numbers: whether it is ours, and what counts for the checks that are left
  abbrev Numbers : Bool → ℕ → ℕ → Type 0
  Numbers mine g d = (others false + if_ours mine 1 + room ≤ 1) × (others true + if_ours mine d + room + g ≤ 1)

  -- a check of ours is asked while nothing of ours is out
  check_may : (mine : Bool) (g d : ℕ) → Numbers mine g (and_then ToCheck d) → mine ≡ true → g ≡ 0
  check_may true g zero h e = let k = h.1 in omega (arith, k)
  check_may true g (suc d) h e = let k = h.1 in omega (arith, k)
  check_may false g d h e = absurd (cc)

  -- what goes out leaves no check
  out_next : (mine : Bool) (g d : ℕ) → Numbers mine g (and_then ToGo d) → Numbers mine (out_by ours mine g) (and_then ToGo d)
  out_next true g zero h = let i = h.0 in (i, omega (arith, below, i))
  out_next true g (suc d) h = let k = h.1 in absurd (omega (arith, k))
  out_next false g d h = h

  fewer : (mine : Bool) (g d c : ℕ) → c ≤ d → Numbers mine g d → Numbers mine g c
  fewer true g d c l h = let k = h.1 in (h.0, omega (arith, l, k))
  fewer false g d c l h = h

  module _ (who : Who) where
    abbrev Weighs : List Entry → List Item → Type 0
    Weighs es items = Within others room (gone_along ours 0 es) (op_weight ours who.id items)

    abbrev After : List Entry → End × List Item → Type 0
    After es ended = Weighs es ended.1

    less : (es : List Entry) (items now : List Item) → checks_of now ≤ checks_of items → Weighs es items → Weighs es now
    less es items now l k = fewer (ours who.id) (gone_along ours 0 es) (checks_of items) (checks_of now) l k

    -- so many are out after one more entry
    then_out : (es : List Entry) (c : Call) (told : Told) (g : ℕ) (items : List Item) → gone_after ours (gone_along ours 0 es) who.id c ≡ g → Within others room g (op_weight ours who.id items) → Weighs (es ++ entry who.id c told ∷ []) items
    then_out es c told g items e k = subst (λ (n : ℕ). Within others room n (op_weight ours who.id items)) (sym (gone_push ours 0 es (entry who.id c told) ∙ e)) k

    asks : (es : List Entry) (i : Item) (items : List Item) (c : Call) → AsksBy who i c → Weighs es (i ∷ items) → Asked ours es who.id c × ((told : Told) → Weighs (es ++ entry who.id c told ∷ []) (i ∷ items))
    asks es i items _ (Checks a usage t) k =
        let n : Numbers (ours who.id) (gone_along ours 0 es) (and_then ToCheck (checks_of items)) = subst (λ (x : Kind). Numbers (ours who.id) (gone_along ours 0 es) (and_then x (checks_of items))) (to_check i t) k in
        (check_may (ours who.id) (gone_along ours 0 es) (checks_of items) n, λ told. then_out es _ told (gone_along ours 0 es) (i ∷ items) refl k)
    asks es i items _ (Goes c t o s) k =
        let g = gone_along ours 0 es in
        let m = out_may ours g who.id c o in
        let N : ℕ → Kind → Type 0 = λ n x. Numbers (ours who.id) n (and_then x (checks_of items)) in
        (m.0, λ told. then_out es c told (out_by ours (ours who.id) g) (i ∷ items) m.1 (subst (N (out_by ours (ours who.id) g)) (sym (to_go i t)) (out_next (ours who.id) g (checks_of items) (subst (N g) (to_go i t) k))))
    asks es i items _ (Calmly c t s) k = let m = calm_may ours (gone_along ours 0 es) who.id c t in (m.0, λ told. then_out es c told (gone_along ours 0 es) (i ∷ items) m.1 k)

    last : (es : List Entry) (items : List Item) (a : LastAsk) (c : ErrorCode) (given : Given) → Weighs es items → Allows (Asked ours) After es (last_ask who a c given)
    unfolding bind
    last es items NothingLast c given k = less es items [] (omega arith) k
    last es items CloseLast c given k = (tt, λ told fits. then_out es _ told (gone_along ours 0 es) [] refl (less es items [] (omega arith) k))
    last es items ShutdownLast c given k = (tt, λ told fits. then_out es _ told (gone_along ours 0 es) [] refl (less es items [] (omega arith) k))

    poll_law : PollLaw (Asked ours) who Weighs After
    poll_law = record {
      asks = λ es i items c a k. let x = asks es i items c a k in (x.0, λ told fits. x.1 told);
      writes = λ es b bytes items k. (tt, λ told fits front. then_out es (call.Write who.side (length (b ∷ bytes))) told (gone_along ours 0 es) (Write (b ∷ bytes) ∷ items) refl k);
      becomes = λ es i j items b k. less es (i ∷ items) (j ∷ items) (becomes_less i j items b) k;
      drops = λ es i items s k. less es (i ∷ items) items (drop_weighs i items) k;
      ends = λ es i items c given k. last es (i ∷ items) who.last c given k;
      waits = λ es items k. k;
      done = λ es given m k. k;
    }

  -- the poll keeps to its room
  pub poll_kept : (op : Operation) (es : List Entry) → Within others room (gone_along ours 0 es) (op_weight ours op.who.id op.left) → Allows (Asked ours) (λ fs ended. Within others room (gone_along ours 0 fs) (op_weight ours op.who.id ended.1)) es (poll_asks op)
  poll_kept op es k = polls_by (poll_law op.who) op.left es k

-- a write asks no checks, and doesn't go out
no_check : (i : Item) → IsToCheck i → IsOfWrite i → ⊥
no_check (Check a usage) t k = k
no_check (CheckArrival peer) t k = k
no_check (CheckPeer wanted bytes a) t k = k
no_check _ t k = t

stays_in : (i : Item) → IsToGo i → IsOfWrite i → ⊥
stays_in (Bind a) t k = k
stays_in (Connect a) t k = k
stays_in (Listen backlog) t k = k
stays_in (UdpBind a) t k = k
stays_in (UdpConnect family a) t k = k
stays_in (Send kept a bytes) t k = k
stays_in _ t k = t

write_calm : (who : Who) (i : Item) (c : Call) → AsksBy who i c → IsOfWrite i → is_calm c ≡ true
write_calm who i _ (Checks a usage t) k = absurd (no_check i t k)
write_calm who i _ (Goes c t o s) k = absurd (stays_in i t k)
write_calm who i _ (Calmly c e s) k = e

module _ (ours : OpId → Bool) (who : Who) (g : ℕ) where
  abbrev AsMany : List Entry → Type 0
  AsMany es = gone_along ours 0 es ≡ g

  as_many : (es : List Entry) (c : Call) (told : Told) → gone_after ours (gone_along ours 0 es) who.id c ≡ gone_along ours 0 es → AsMany es → AsMany (es ++ entry who.id c told ∷ [])
  as_many es c told e k = gone_push ours 0 es (entry who.id c told) ∙ (e ∙ k)

  write_last : (es : List Entry) (a : LastAsk) (c : ErrorCode) (given : Given) → AsMany es → Allows (Asked ours) (λ fs ended. AsMany fs) es (last_ask who a c given)
  unfolding bind
  write_last es NothingLast c given k = k
  write_last es CloseLast c given k = (tt, λ told fits. as_many es _ told refl k)
  write_last es ShutdownLast c given k = (tt, λ told fits. as_many es _ told refl k)

  write_law : PollLaw (Asked ours) who (λ es items. AreOfWrite items × AsMany es) (λ es ended. AsMany es)
  write_law = record {
    asks = λ es i items c a k. let m = calm_may ours (gone_along ours 0 es) who.id c (write_calm who i c a k.0.0) in (m.0, λ told fits. (k.0, as_many es c told m.1 k.1));
    writes = λ es b bytes items k. (tt, λ told fits front. (k.0, as_many es (call.Write who.side (length (b ∷ bytes))) told refl k.1));
    becomes = λ es i j items b k. absurd (never i j b k.0.0);
    drops = λ es i items s k. (end_write items k.0.1, k.1);
    ends = λ es i items c given k. write_last es who.last c given k.1;
    waits = λ es items k. k.1;
    done = λ es given m k. k.1;
  }

pub write_asks_calmly : (ours : OpId → Bool) (op : Operation) (es : List Entry) → AreOfWrite op.left → Allows (Asked ours) (λ fs ended. gone_along ours 0 fs ≡ gone_along ours 0 es) es (poll_asks op)
write_asks_calmly ours op es k = polls_by (write_law ours op.who (gone_along ours 0 es)) op.left es (k, refl)

-- its checks are the first that is left
begins : (op : Operation) → IsOutward op → checks_of op.left ≤ 1
begins op (Binds k) = subst (λ (o : Operation). checks_of o.left ≤ 1) (sym k.is) (by_stage k.stage)
  where
    by_stage : (s : BindStage) → checks_of (bind_left k.addr s) ≤ 1
    by_stage stage.Over = omega arith
    by_stage _ = omega arith
begins op (Connects k) = by_left op.left k.left
  where
    by_left : (items : List Item) → IsLeftOfConnect items → checks_of items ≤ 1
    by_left _ connect.Ended = omega arith
    by_left _ _ = omega arith
begins op (Listens k) = by_left op.left k.left
  where
    by_left : (items : List Item) → IsLeftOfListen items → checks_of items ≤ 1
    by_left _ listen.Ended = omega arith
    by_left _ _ = omega arith
begins op (UdpConnects k) = by_left op.left k.left
  where
    by_left : (items : List Item) → udp_connect.IsLeftOfConnect items → checks_of items ≤ 1
    by_left _ (udp_connect.Connected family told) = omega arith
    by_left _ udp_connect.Ended = omega arith
    by_left _ _ = omega arith
begins op (Sends k) = by_left op.left k.left
  where
    by_left : (items : List Item) → send.IsLeftOfSend items → checks_of items ≤ 1
    by_left _ (send.ToRefuse c) = omega arith
    by_left _ send.Ended = omega arith
    by_left _ _ = omega arith
begins op (UdpBinds k) = by_left op.left k.left
  where
    by_left : (items : List Item) → udp.IsLeftOfBind items → checks_of items ≤ 1
    by_left _ udp.Ended = omega arith
    by_left _ _ = omega arith

-- nothing that checks is left
none_kind : (k : Kind) (n : ℕ) → and_then k n ≡ 0 → (n ≡ 0) × (k ≡ ToCheck → ⊥)
none_kind ToCheck zero h = absurd (cc)
none_kind ToCheck (suc n) h = absurd (cc)
none_kind ToGo zero h = (refl, λ e. absurd (cc))
none_kind ToGo (suc n) h = absurd (cc)
none_kind Plain n h = (h, λ e. absurd (cc))

none_left : (items : List Item) → checks_of items ≡ 0 → NoCheckLeft items
none_left [] h = tt
none_left (Check a usage ∷ items) h = (none_kind ToCheck (checks_of items) h).1 refl
none_left (CheckLocal usage ∷ items) h = (none_kind ToCheck (checks_of items) h).1 refl
none_left (item ∷ items) h = none_left items (none_kind (kind_of item) (checks_of items) h).0

module _ (op : Operation) (out : IsOutward op) where
  abbrev all : OpId → Bool
  all id = true

  abbrev Ended : List Entry → End × List Item → Type 0
  Ended es ended = Within (λ i. 0) 0 (gone_along all 0 es) (op_weight all op.who.id ended.1)

  of_poll : Allows (Asked all) Ended [] (poll_asks op)
  of_poll = let k = begins op out in poll_kept all (λ i. 0) (omega arith) 0 op [] (omega arith, omega (arith, k))

  first : (entries : List Entry) (rest : Asks (End × List Item)) → Left (operation_polled op) entries rest → ChecksFirst entries
  first entries rest w = subst (λ (es : List Entry). ChecksFirst es) (asked_all entries) (asked_first all entries (λ before e after cut. allows_at (Asked all) Ended [] (poll_asks op) rest before e after of_poll (subst (λ (es : List Entry). Left (poll_asks op) es rest) cut w)))

  none_later : (entries : List Entry) (ended : End × List Item) → Left (operation_polled op) entries (Give ended) → HasGone entries → NoCheckLeft ended.1
  none_later entries ended w gone =
      let k = reached (Asked all) Ended [] (poll_asks op) entries (Give ended) of_poll w in
      let one = gone_out all (λ id. refl) 0 entries gone in
      let c = k.1 in
      none_left ended.1 (omega (arith, c, one))

pub operation_checks_first : (op : Operation) (entries : List Entry) (rest : Asks (End × List Item)) → IsOutward op → Left (operation_polled op) entries rest → ChecksFirst entries
operation_checks_first op entries rest out w = first op out entries rest w

pub operation_leaves_none : (op : Operation) (entries : List Entry) (ended : End × List Item) → IsOutward op → Left (operation_polled op) entries (Give ended) → HasGone entries → NoCheckLeft ended.1
operation_leaves_none op entries ended out w gone = none_later op out entries ended w gone
