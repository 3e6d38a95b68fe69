-- How a poll of an accept ends: it waits, or a connection was handed over, or it was answered with a code.
use Rattle.wasi_causes.proofs.Words.{◌≡◌, ◌∙◌, ℕ, zero, suc, ◌+◌, List, [], ◌∷◌, ◌++◌, refl, sym, subst, arith, true, IpSocketAddress, TcpAccept, ErrorCode, Gives, marks_in, entry, accept_name, AcceptFails, WasTold, IsTold, AcceptGives, WasHanded, IsHanded, refused_by, refused_in, AcceptWaits, LastWaits, RefusedMost, first_ids, IsAccept, IsLeftOfAccept, accept_operation, Listener, arrived, accept_ended, accept_asks, IsAcceptOn, HoldsAccept, Accepting, Asks, bind, IsVerdict, IsArrival, IsDone, Given, Nothing, Item, Accept, LastAsk, NothingLast, Who, Operation, End, Waits, Done, Refused, last_ask, after, round, polls, poll_asks, admitted_front, arrival_front, accept_front, told_verdict, told_arrival, Entry, Told, OpId}
use Rattle.wasi_causes.proofs.operations.Marks.{poll_marks_none}
use Rattle.wasi_causes.proofs.tables.Meets.{Rows, Meets, ends, onto, widen, both, granted}
use Rattle.wasi_tcp.specs.Accept.{Unarrived, Arrived, Admitted, Unwanted, Ended}
use Rattle.wasi_tcp.specs.Listener.{begun, listener_asks}
use Rattle.socket_common.specs.Rounds.{some_left, is_going}
use Rattle.wasi_tcp.specs.declared.accept.AcceptStage.TheVariants as stage
use Rattle.wasi_tcp.specs.declared.listener.Accepting.TheVariants as accepting
use Rattle.wasi_world.specs.Operation.{Connection}
use Rattle.wasi_world.specs.declared.call.Call.TheVariants as call
use Rattle.wasi_world.specs.declared.call.Told.TheVariants as told

pub refused_in-push : (es : List Entry) (e : Entry) → refused_in (es ++ e ∷ []) ≡ refused_in es + refused_by e.call
refused_in-push [] e = omega arith
refused_in-push (x ∷ es) e = let k = refused_in-push es e in omega arith

module _ (who : Who) where
  -- The last of the entries handed this connection over.
  pub record HandsOver (es : List Entry) (new : OpId) (peer : IpSocketAddress) : Type 0 where
    pub front : List Entry
    pub is : es ≡ front ++ entry who.id (call.Hand who.side peer) told.Done ∷ []
    pub its : new ≡ who.id

  -- The last of the entries was an accept, and it was answered with the code.
  pub record TellsCode (es : List Entry) (c : ErrorCode) : Type 0 where
    pub front : List Entry
    pub is : es ≡ front ++ entry who.id (call.Accept who.side) (told.Code c) ∷ []

  abbrev pub IsGivenOver : List Entry → Given → Type 0
  IsGivenOver es (Connection new peer) = HandsOver es new peer
  IsGivenOver es _ = ⊥

  -- it waits, gave a connection, or was answered with a code
  abbrev pub AcceptEnds : List Entry → End × List Item → Type 0
  AcceptEnds es (Waits, items) = AcceptWaits who.id es
  AcceptEnds es (Done given, items) = IsGivenOver es given
  AcceptEnds es (Refused c given, items) = TellsCode es c

  module _ (last : who.last ≡ NothingLast) where
    code_ends : (es : List Entry) (c : ErrorCode) → TellsCode es c → Gives AcceptEnds es (last_ask who who.last c Nothing)
    code_ends es c cause = subst (λ (l : LastAsk). Gives AcceptEnds es (last_ask who l c Nothing)) (sym last) cause

    -- with so many refused, so many rounds follow this one
    module _ (again : List Item → Asks (End × List Item)) (n : ℕ)
        (more : (es : List Entry) → refused_in es + n ≡ 64 → Gives AcceptEnds es (again (Accept ∷ []))) where
      abbrev next : Given → Asks (End × List Item)
      next g = round again who g []

      hands : (es : List Entry) (peer : IpSocketAddress) (t : Told) → IsDone t → AcceptEnds (es ++ entry who.id (call.Hand who.side peer) t ∷ []) (Done (Connection who.id peer), [])
      hands es peer told.Done fits = record { front = es; is = refl; its = refl }
      hands es peer _ fits = absurd fits

      refuses : (es : List Entry) (peer : IpSocketAddress) (t : Told) → refused_in es + suc n ≡ 64 → Gives AcceptEnds (es ++ entry who.id (call.Refuse who.side peer) t ∷ []) (again (Accept ∷ []))
      refuses es peer t count = more _ (let p = refused_in-push es (entry who.id (call.Refuse who.side peer) t) in omega (arith, p, count))

      told_check : (es : List Entry) (peer : IpSocketAddress) (t : Told) → IsVerdict t → refused_in es + suc n ≡ 64
          → Gives AcceptEnds (es ++ entry who.id (call.Check who.context peer TcpAccept) t ∷ []) (bind (admitted_front who peer (told_verdict t)) (after again who [] next))
      unfolding bind
      told_check es peer told.Yes fits count = (tt, λ t fits. hands _ peer t fits)
      told_check es peer told.No fits count = (tt, λ t fits. refuses _ peer t (let p = refused_in-push es (entry who.id (call.Check who.context peer TcpAccept) told.No) in omega (arith, p, count)))
      told_check es peer told.Pending fits count = LastWaits (record { front = es; last = _; cut = refl; op = refl; told = refl })
      told_check es peer _ fits count = absurd fits

      arrives : (es : List Entry) (peer : IpSocketAddress) → refused_in es + suc n ≡ 64 → Gives AcceptEnds es (bind (arrival_front who peer) (after again who [] next))
      unfolding bind
      arrives es peer count = (tt, λ t fits. told_check es peer t fits count)

      told_accept : (es : List Entry) (t : Told) → IsArrival t → refused_in es + suc n ≡ 64
          → Gives AcceptEnds (es ++ entry who.id (call.Accept who.side) t ∷ []) (bind (accept_front who (told_arrival t)) (after again who [] next))
      unfolding bind
      told_accept es (told.Arrived peer) fits count = arrives _ peer (let p = refused_in-push es (entry who.id (call.Accept who.side) (told.Arrived peer)) in omega (arith, p, count))
      told_accept es told.Pending fits count = LastWaits (record { front = es; last = _; cut = refl; op = refl; told = refl })
      told_accept es (told.Code c) fits count = code_ends _ c (record { front = es; is = refl })
      told_accept es _ fits count = absurd fits

      round_accepts : (es : List Entry) → refused_in es + suc n ≡ 64 → Gives AcceptEnds es (round again who Nothing (Accept ∷ []))
      unfolding bind
      round_accepts es count = (tt, λ t fits. told_accept es t fits count)

      by_left : (items : List Item) → IsLeftOfAccept items → some_left items ≡ true → (es : List Entry) → refused_in es + suc n ≡ 64 → Gives AcceptEnds es (round again who Nothing items)
      unfolding bind
      by_left _ Unarrived some es count = round_accepts es count
      by_left _ (Arrived peer) some es count = arrives es peer count
      by_left _ (Admitted peer) some es count = (tt, λ t fits. hands es peer t fits)
      by_left _ (Unwanted peer) some es count = (tt, λ t fits. refuses es peer t count)
      by_left _ Ended some es count = absurd (cc)

    by_rounds : (n : ℕ) (es : List Entry) → refused_in es + n ≡ 64 → Gives AcceptEnds es (polls n who (Accept ∷ []))
    unfolding polls
    by_rounds zero es count = RefusedMost (omega (arith, count))
    by_rounds (suc n) es count = round_accepts (polls n who) n (by_rounds n) es count

pub poll_accept_ends : (op : Operation) → IsAccept op → is_going op ≡ true → Gives (AcceptEnds op.who) [] (poll_asks op)
unfolding polls
poll_accept_ends op its going = by_left op.who its.last (polls 63 op.who) 63 (by_rounds op.who its.last 63) op.left its.left going [] refl

-- == the accept that a listener polls
module _ (line : ℕ) (l : Listener) where
  abbrev pub ItsOwn : Type 0
  ItsOwn = HoldsAccept l.side l.maker l.accept

  abbrev name : OpId
  name = accept_name line l.accept

  -- what it is after the poll, where it is an accept: it waits, or has its result
  abbrev pub AcceptRow : Rows Accepting
  AcceptRow es accepting.Idle = ItsOwn → ⊥
  AcceptRow es (accepting.Asking op) = (op.who.id ≡ name) × (ItsOwn → AcceptWaits name es)
  AcceptRow es (accepting.Arrived new peer) = ItsOwn → AcceptGives name l.side l.accept new peer es
  AcceptRow es (accepting.Failed c) = ItsOwn → AcceptFails name l.side l.accept c es

  module _ (op : Operation) (named : op.who.id ≡ name) (its : ItsOwn → IsAcceptOn l.side l.maker op) where
    gave : (es : List Entry) (given : Given) (items : List Item) → (ItsOwn → AcceptEnds op.who es (Done given, items)) → AcceptRow es (arrived given)
    gave es (Connection new peer) items h = λ own. let k = h own in rw (k.is, named, (its own).of_side) (IsHanded k.front (k.its ∙ named))
    gave es _ items h = h

    ended : (es : List Entry) (end : End × List Item) → (ItsOwn → AcceptEnds op.who es end) → AcceptRow es (accept_ended op.who end)
    ended es (Waits, items) h = (named, λ own. subst (λ (id : OpId). AcceptWaits id es) named (h own))
    ended es (Done given, items) h = gave es given items h
    ended es (Refused c given, items) h = λ own. let k = h own in rw (k.is, named, (its own).of_side) (IsTold k.front)

  -- what a call makes of it; no handle was marked
  pub accepts : {A : Type 0} {Row : Rows A} (of : Accepting → A) → ((es : List Entry) (a : Accepting) → marks_in es ≡ 0 → AcceptRow es a → Row es (of a)) → Meets Row [] (listener_asks of l (first_ids line))
  accepts {A} {Row} of so = by_accept l.accept refl
    where
      asked : (op : Operation) → op.who.id ≡ name → (ItsOwn → IsAcceptOn l.side l.maker op) → Meets Row [] (accept_asks of (accepting.Asking op))
      asked op named its =
          onto _ (widen (λ es end k. so es (accept_ended op.who end) k.0 (ended op named its es end k.1)) (both (record { along = poll_marks_none op }) (granted (λ own. let k = its own in record { along = poll_accept_ends op k.accept k.going }))))

      by_accept : (a : Accepting) → l.accept ≡ a → Meets Row [] (accept_asks of (begun l.side l.maker (first_ids line) a))
      by_accept accepting.Idle e =
          asked (accept_operation (record { op = record { step = line; part = 1 }; side = l.side; maker = l.maker }) stage.Accept) (rw e refl) (λ own. record { accept = record { last = refl; left = Unarrived }; of_side = refl; of_maker = refl; going = refl })
      by_accept (accepting.Asking op) e = asked op (rw e refl) (λ own. rw e at own)
      by_accept (accepting.Arrived new peer) e = ends (so [] (accepting.Arrived new peer) refl (λ own. WasHanded e))
      by_accept (accepting.Failed c) e = ends (so [] (accepting.Failed c) refl (λ own. WasTold e))
