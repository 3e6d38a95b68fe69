-- A turn keeps what is copied, whatever its steps are answered; and so does turn after turn.
use Rattle.std.proofs.Common.{◌≡◌, ◌∙◌, ℕ, zero, suc, ◌+◌, ◌^◌, ◌<◌, refl, sym, ap, subst, List, [], ◌∷◌, ◌++◌, length, Bool, true, false, if◌then◌else◌, Option, Some, None, inl, inr, arith}
use Rattle.wasi_world.specs.declared.ids.OpId.{OpId}
use Rattle.wasi_world.specs.declared.call.Call.TheVariants.{Made}
use Rattle.wasi_world.specs.declared.call.Entry.{Entry}
use Rattle.wasi_world.specs.declared.call.HandleKind.TheVariants.{Tcp2, Input, Output}
use Rattle.wasi_world.specs.declared.call.Told.TheVariants.{Done}
use Rattle.wasi_world.specs.declared.outcome.WasiSocketsCtx.{WasiSocketsCtx}
use Rattle.host_store.specs.declared.machine.Machine.{Machine}
use Rattle.record_common.specs.Names.{own_of}
use Rattle.wasi_steps.specs.declared.guest_call.GuestCall.TheVariants as guest
use Rattle.wasi_steps.specs.declared.guest_call.TcpCall.TheVariants as tcp_call
use Rattle.wasi_steps.specs.declared.reply.Field.{Field}
use Rattle.wasi_steps.specs.declared.reply.Reply.{Reply}
use Rattle.wasi_steps.specs.declared.reply.Reply.TheVariants as replied
use Rattle.wasi_steps.specs.declared.step.Step.{Step}
use Rattle.wasi_steps.specs.declared.step.Step.TheVariants.{Call, Turn}
use Rattle.wasi_walks.proofs.Lists.{has_back}
use Rattle.wasi_walks.specs.Licence.{Has, IsSide, MarksNoSocket, entry, marks_in}
use Rattle.wasi_walks.specs.Listens.{accepted_marks}
use Rattle.wasi_causes.specs.ToldBytes.{told_in}
use Rattle.wasi_causes.proofs.Runs.{runs_accept}
use Rattle.wasi_causes.proofs.sockets.NewHandles.{accept_gives, create_gives}
use Rattle.wasi_causes.proofs.streams.MarksInRuns.{accept_so}
use Rattle.wasi_relay.specs.declared.order.Order.{Order}
use Rattle.wasi_relay.specs.declared.pair.Pair.{Pair}
use Rattle.wasi_relay.specs.declared.pair.Peer.{Peer}
use Rattle.wasi_relay.specs.declared.setup.Listener.{Listener}
use Rattle.wasi_relay.specs.Guest.{Guest, call, give, ◌>>=◌, ◌>>◌}
use Rattle.wasi_relay.specs.Order.{family_of}
use Rattle.wasi_relay.specs.Pair.{first_pair}
use Rattle.wasi_relay.specs.Replies.{handle_at, number_at}
use Rattle.wasi_relay.specs.Serving.{closed, served_each}
use Rattle.wasi_relay.specs.Turns.{Course, Finish, accepted, accepted_beside, after_accept, after_create, finish, is_served, last_end, may_accept, may_wait, paired, rounds, served_end, taken_after, turned, unpaired, with_pairs, with_taken, with_waiting}
use Rattle.wasi_relay.proofs.Past.{Copies, Goes, Past, Replies, push}
use Rattle.wasi_relay.proofs.Grown.{Any, Away, Distinct, Fresh, Grows, IsTcp, PairIs, PairsAre, capped, fresh_grows, pairs_stay, side_grows, tcp_grows, tcp_marked}
use Rattle.wasi_relay.proofs.Copies.{quiet_grows}
use Rattle.wasi_relay.proofs.Marks.{accepted_fresh, created_side, next_fresh, small_handle}
use Rattle.wasi_relay.proofs.Serves.{All, Alone, all_stays, closes, join, none_waits, serve_from, still}

away_more : (s : OpId) (xs : List (OpId × OpId)) (x : OpId × OpId) → Away s xs → (x.0 ≡ s → ⊥) → (x.1 ≡ s → ⊥) → Away s (xs ++ x ∷ [])
away_more s [] x a p q = (p, q, tt)
away_more s (y ∷ xs) x a p q = (a.0, a.1, away_more s xs x a.2 p q)

distinct_more : (xs : List (OpId × OpId)) (x : OpId × OpId) → Distinct xs → Away x.0 xs → Away x.1 xs → (x.0 ≡ x.1 → ⊥) → Distinct (xs ++ x ∷ [])
distinct_more [] x d a b apart = (apart, tt, tt, tt)
distinct_more (y ∷ xs) x d a b apart = (d.0, away_more y.0 xs x d.1 (λ e. a.0 (sym e)) (λ e. b.0 (sym e)), away_more y.1 xs x d.2 (λ e. a.1 (sym e)) (λ e. b.1 (sym e)), distinct_more xs x d.3 a.2 b.2 apart)

at_place : (fields : List Field) (place n k : ℕ) → number_at fields place ≡ n → number_at fields place ≡ k → k < 2 ^ 32 → handle_at fields place ≡ n
at_place fields place n k e f small = small_handle (number_at fields place) (omega (arith, f, small)) ∙ e

none_counted : 0 ≡ capped 0
none_counted = omega arith

module _ (contexts : List WasiSocketsCtx) where
  fresh_away : (past : Past contexts) (s : OpId) → MarksNoSocket past.log s → (pairs : List Pair) (xs : List (OpId × OpId)) → PairsAre contexts past pairs xs → Away s xs
  fresh_away past s n [] [] h = tt
  fresh_away past s n (pair ∷ pairs) (x ∷ xs) h = (λ e. tcp_marked past.log pair.client.socket x.0 h.0.client_socket (subst (MarksNoSocket past.log) (sym e) n), λ e. tcp_marked past.log pair.target x.1 h.0.target_socket (subst (MarksNoSocket past.log) (sym e) n), fresh_away past s n pairs xs h.1)
  fresh_away past s n [] (x ∷ xs) h = absurd h
  fresh_away past s n (pair ∷ pairs) [] h = absurd h

  -- == an arrival
  abbrev client_of : List Field → Peer
  client_of fields = record { socket = handle_at fields 0; input = handle_at fields 1; output = handle_at fields 2 }

  accepted_new : (pairs : List Pair) (listener : ℕ) (past : Past contexts) → All contexts past pairs None → (g : Goes past.replies) (entries : List Entry) (fields : List Field) (m : Machine) (a : Replies contexts past (Call 0 (guest.Tcp (tcp_call.Accept listener))) entries (replied.Ok fields) m) → All contexts (push contexts past g (Call 0 (guest.Tcp (tcp_call.Accept listener))) entries (replied.Ok fields) m a) pairs (Some (client_of fields))
  accepted_new pairs listener past h g entries fields m a =
      let s : Step = Call 0 (guest.Tcp (tcp_call.Accept listener)) in
      let own = own_of (1 + length past.steps) in
      let n = marks_in past.log in
      let q : Grows contexts past (push contexts past g s entries (replied.Ok fields) m a) (Any contexts) (Any contexts) = quiet_grows contexts past g s entries (replied.Ok fields) m a tt in
      let three = accept_so contexts past.steps past.log past.replies past.state past.ran (1 + length past.steps) 0 listener fields entries m (runs_accept contexts past.steps past.log past.replies past.state past.ran listener) a in
      let gives = accept_gives contexts past.state (1 + length past.steps) 0 listener entries fields m a in
      let side = three.side in
      let none : MarksNoSocket past.log side = accepted_fresh contexts past g s entries (replied.Ok fields) m a 0 listener listener (n + 1) three.front _ side refl three.cut in
      let at0 : handle_at fields 0 ≡ n + 1 = at_place fields 0 (n + 1) gives.socket (ap (λ (f : List Field). number_at f 0) three.gives) (ap (λ (f : List Field). number_at f 0) gives.gives) gives.socket_made.small in
      let at1 : handle_at fields 1 ≡ n + 2 = at_place fields 1 (n + 2) gives.input (ap (λ (f : List Field). number_at f 1) three.gives) (ap (λ (f : List Field). number_at f 1) gives.gives) gives.input_made.small in
      let at2 : handle_at fields 2 ≡ n + 3 = at_place fields 2 (n + 3) gives.output (ap (λ (f : List Field). number_at f 2) three.gives) (ap (λ (f : List Field). number_at f 2) gives.gives) gives.output_made.small in
      let is1 : n + 1 + 1 ≡ handle_at fields 1 = omega (arith, at1) in
      let is2 : n + 1 + 2 ≡ handle_at fields 2 = omega (arith, at2) in
      let has : (e : Entry) → Has (accepted_marks own listener (n + 1) side) e → Has (past.log ++ entries) e = λ e i. has_back past.log entries e (subst (λ (es : List Entry). Has es e) (sym three.cut) (has_back three.front (accepted_marks own listener (n + 1) side) e i)) in
      record {
        sides = h.sides;
        fresh = fresh_grows contexts q (λ x y. (tt, tt)) h.fresh;
        are = pairs_stay contexts q pairs h.sides h.are;
        distinct = h.distinct;
        aside = record {
          side = side;
          socket = subst (λ (x : ℕ). IsTcp (past.log ++ entries) x side) (sym at0) (record { op = own; parent = Some listener; told = Done; mark = has (entry own (Made (n + 1) Tcp2 (Some listener) (Some side)) Done) (inl refl) });
          input = subst (λ (x : ℕ). IsSide (past.log ++ entries) x side) is1 (record { op = own; kind = Input; parent = Some (n + 1); told = Done; mark = has (entry own (Made (n + 1 + 1) Input (Some (n + 1)) (Some side)) Done) (inr (inl refl)) });
          output = subst (λ (x : ℕ). IsSide (past.log ++ entries) x side) is2 (record { op = own; kind = Output; parent = Some (n + 1); told = Done; mark = has (entry own (Made (n + 1 + 2) Output (Some (n + 1)) (Some side)) Done) (inr (inr (inl refl))) });
          away = fresh_away past side none pairs h.sides h.are;
          told = q.told side tt ∙ (h.fresh side none).0;
          may = q.may side tt ∙ (h.fresh side none).1;
        };
      }

  -- == it gets a target
  created_all : (pairs : List Pair) (client : Peer) (order : Order) (past : Past contexts) → All contexts past pairs (Some client) → (g : Goes past.replies) (entries : List Entry) (fields : List Field) (m : Machine) (a : Replies contexts past (Call 0 (guest.Tcp (tcp_call.Create (family_of order.target)))) entries (replied.Ok fields) m) → All contexts (push contexts past g (Call 0 (guest.Tcp (tcp_call.Create (family_of order.target)))) entries (replied.Ok fields) m a) (pairs ++ first_pair client (handle_at fields 0) ∷ []) None
  created_all pairs client order past h g entries fields m a =
      let s : Step = Call 0 (guest.Tcp (tcp_call.Create (family_of order.target))) in
      let now : Past contexts = push contexts past g s entries (replied.Ok fields) m a in
      let t = own_of (1 + length past.steps) in
      let q : Grows contexts past (push contexts past g s entries (replied.Ok fields) m a) (Any contexts) (Any contexts) = quiet_grows contexts past g s entries (replied.Ok fields) m a tt in
      let w : Alone contexts past client h.sides = h.aside in
      let gives = create_gives contexts past.state (1 + length past.steps) 0 (family_of order.target) entries fields m a in
      let handle_is : handle_at fields 0 ≡ gives.handle = ap (λ (f : List Field). handle_at f 0) gives.gives ∙ small_handle gives.handle gives.made.small in
      let target : IsTcp (past.log ++ entries) (handle_at fields 0) t = subst (λ (x : ℕ). IsTcp (past.log ++ entries) x t) (sym handle_is) (created_side contexts past g s entries (replied.Ok fields) m a 0 gives.handle (family_of order.target) refl gives.made) in
      let none : MarksNoSocket past.log t = next_fresh contexts past in
      let apart : w.side ≡ t → ⊥ = λ e. tcp_marked past.log client.socket w.side w.socket (subst (MarksNoSocket past.log) (sym e) none) in
      let c_told : told_in w.side (past.log ++ entries) ≡ [] = q.told w.side tt ∙ w.told in
      let c_may = q.may w.side tt ∙ w.may in
      let t_told : told_in t (past.log ++ entries) ≡ [] = q.told t tt ∙ (h.fresh t none).0 in
      let t_may = q.may t tt ∙ (h.fresh t none).1 in
      let its : PairIs contexts (push contexts past g s entries (replied.Ok fields) m a) (first_pair client (handle_at fields 0)) w.side t = record {
        client_socket = tcp_grows contexts q client.socket w.side w.socket;
        target_socket = target;
        input = side_grows contexts q client.input w.side w.input;
        output = side_grows contexts q client.output w.side w.output;
        stage = tt;
        up = (t_may ∙ sym c_told, none_counted ∙ ap (λ (x : List ℕ). capped (length x)) (sym c_told));
        down = (c_may ∙ sym t_told, none_counted ∙ ap (λ (x : List ℕ). capped (length x)) (sym t_told));
      } in
      record {
        sides = h.sides ++ (w.side, t) ∷ [];
        fresh = fresh_grows contexts q (λ x y. (tt, tt)) h.fresh;
        are = join contexts (push contexts past g s entries (replied.Ok fields) m a) pairs (first_pair client (handle_at fields 0) ∷ []) h.sides ((w.side, t) ∷ []) (pairs_stay contexts q pairs h.sides h.are) (its, tt);
        distinct = distinct_more h.sides (w.side, t) h.distinct w.away (fresh_away past t none pairs h.sides h.are) apart;
        aside = tt;
      }

  module _ (order : Order) (listener : Listener) where
    abbrev pub ThenAt : (Course → Guest) → Type 0
    ThenAt next = (at : Course) (now : Past contexts) → All contexts now at.pairs at.waiting → Copies contexts (next at) now

    module _ (client : Peer) (at : Course) (next : Course → Guest) (k : ThenAt next) (past : Past contexts) (h : All contexts past at.pairs (Some client)) where
      abbrev creates : Step
      creates = Call 0 (guest.Tcp (tcp_call.Create (family_of order.target)))

      -- without a target it waits, or is closed
      unpaired_copies : (reply : Reply) (now : Past contexts) → All contexts now at.pairs (Some client) → Copies contexts (unpaired client at reply next) now
      unpaired_copies reply now i = by_test (may_wait at reply)
        where
          by_test : (b : Bool) → Copies contexts ((if b then give (with_waiting client at) else (closed client >> give (with_pairs at.pairs at))) next) now
          by_test true = k (with_waiting client at) now i
          by_test false = closes contexts (λ p. All contexts p at.pairs None) (all_stays contexts at.pairs None) client (λ x. next (with_pairs at.pairs at)) now (none_waits contexts at.pairs (Some client) now i) (λ x last j. k (with_pairs at.pairs at) last j)

      by_create : (g : Goes past.replies) (entries : List Entry) (r : Reply) (m : Machine) (a : Replies contexts past creates entries r m) → Copies contexts (after_create order listener client at r next) (push contexts past g creates entries r m a)
      by_create g entries (replied.Ok fields) m a =
          let more = at.pairs ++ first_pair client (handle_at fields 0) ∷ [] in
          still contexts (λ p. All contexts p more None) (all_stays contexts more None) (Call 0 (guest.Tcp (tcp_call.StartConnect (handle_at fields 0) listener.network order.target))) tt (λ x. next (with_pairs more at)) (push contexts past g creates entries (replied.Ok fields) m a) (created_all at.pairs client order past h g entries fields m a) (λ x now i. k (with_pairs more at) now i)
      by_create g entries r m a = unpaired_copies r (push contexts past g creates entries r m a) (all_stays contexts at.pairs (Some client) past (push contexts past g creates entries r m a) (quiet_grows contexts past g creates entries r m a tt) h)

      pair_copies : Copies contexts (paired order listener client at next) past
      pair_copies = by_create

    module _ (at : Course) (next : Course → Guest) (k : ThenAt next) (past : Past contexts) where
      abbrev accepts : Step
      accepts = Call 0 (guest.Tcp (tcp_call.Accept listener.socket))

      by_accept : (h : All contexts past at.pairs None) → All contexts past at.pairs at.waiting → (g : Goes past.replies) (entries : List Entry) (r : Reply) (m : Machine) (a : Replies contexts past accepts entries r m) → Copies contexts (after_accept order listener at r next) (push contexts past g accepts entries r m a)
      by_accept h i g entries (replied.Ok fields) m a =
          pair_copies (client_of fields) (with_taken (at.taken + 1) at) next k (push contexts past g accepts entries (replied.Ok fields) m a) (accepted_new at.pairs listener.socket past h g entries fields m a)
      by_accept h i g entries r m a = k (with_taken (taken_after order at r) at) _ (all_stays contexts at.pairs at.waiting past (push contexts past g accepts entries r m a) (quiet_grows contexts past g accepts entries r m a tt) i)

      accept_copies : All contexts past at.pairs at.waiting → Copies contexts (accepted order listener at next) past
      accept_copies h = by_waiting at.waiting h
        where
          by_room : (b : Bool) → Copies contexts ((if b then (call (guest.Tcp (tcp_call.Accept listener.socket)) >>= after_accept order listener at) else give at) next) past
          by_room true = by_accept (none_waits contexts at.pairs at.waiting past h) h
          by_room false = k at past h

          by_waiting : (waiting : Option Peer) → All contexts past at.pairs waiting → Copies contexts (accepted_beside waiting order listener at next) past
          by_waiting (Some client) i = pair_copies client at next k past i
          by_waiting None i = by_room (may_accept order at)

    abbrev served_on : Course → List Pair → Course
    served_on new pairs = record { taken = new.taken; pairs = pairs; waiting = new.waiting }

    turn_copies : (at : Course) (next : Course → Guest) (past : Past contexts) → All contexts past at.pairs at.waiting → ThenAt next → Copies contexts (turned order listener at next) past
    turn_copies at next past h k =
        still contexts (λ p. All contexts p at.pairs at.waiting) (all_stays contexts at.pairs at.waiting) Turn tt (λ x. (accepted order listener at >>= λ new. (served_each new.pairs >>= λ pairs. give (served_on new pairs))) next) past h (λ x now i.
        accept_copies at (λ new. (served_each new.pairs >>= λ pairs. give (served_on new pairs)) next) (λ new then_ j. serve_from contexts [] new.pairs new.waiting (λ pairs. next (served_on new pairs)) then_ j (λ pairs last l. k (served_on new pairs) last l)) now i)

    -- the pairs at the end; an arrival that still waits has none
    pub rounds_copy : (left : ℕ) (at : Course) (next : Finish → Guest) (past : Past contexts) → All contexts past at.pairs at.waiting → ((done : Finish) (now : Past contexts) → All contexts now done.pairs None → Copies contexts (next done) now) → Copies contexts (rounds order listener left at next) past
    rounds_copy zero at next past h k = k (finish (last_end order at) at) past (none_waits contexts at.pairs at.waiting past h)
    rounds_copy (suc left) at next past h k = by_served (is_served order at) (turn_copies at (λ new. rounds order listener left new next) past h (λ new now i. rounds_copy left new next now i k))
      where
        by_served : (b : Bool) → Copies contexts (turned order listener at (λ new. rounds order listener left new next)) past → Copies contexts ((if b then give (finish (served_end order at) at) else (turned order listener at >>= rounds order listener left)) next) past
        by_served true more = k (finish (served_end order at) at) past (none_waits contexts at.pairs at.waiting past h)
        by_served false more = more
