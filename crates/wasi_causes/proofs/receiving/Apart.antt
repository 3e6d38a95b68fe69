-- Two incoming streams of one network socket receive by different operations: the one was marked after all that the other received.
use Rattle.wasi_causes.proofs.Words.{Call, Entry, Give, Has, Left, List, Machine, None, OpId, Reply, Some, Step, Told, WasiSocketsCtx, [], ap, entry, first_state, inl, inr, run, subst, sym, ℕ, ◌++◌, ◌∙◌, ◌∷◌, ◌≡◌, ◌⊎◌}
use Rattle.wasi_world.specs.declared.call.HandleKind.TheVariants.{Incoming}
use Rattle.wasi_walks.proofs.Lists.{has_back, has_front}
use Rattle.wasi_causes.specs.ReceivedApart.{NoneInBoth, ReceivedApart}
use Rattle.wasi_causes.specs.ReceivedList.{AsksNoMore, HandsOutFront, handed_out, served}
use Rattle.wasi_causes.proofs.receiving.Along.{AsksIt, served_asked}
use Rattle.wasi_causes.proofs.receiving.Runs.{OfOne, runs_hand_out_of_one}

-- == lists
module _ {A : Type 0} where
  -- The one is ahead of the other.
  record IsAhead (front : List A) (a : A) (back before : List A) (b : A) (after : List A) : Type 0 where
    pub between : List A
    pub ahead : before ≡ front ++ a ∷ between
    pub behind : back ≡ between ++ b ∷ after

  one_ahead : (front : List A) (a : A) (back before : List A) (b : A) (after : List A) → front ++ a ∷ back ≡ before ++ b ∷ after → (a ≡ b → ⊥)
      → IsAhead front a back before b after ⊎ IsAhead before b after front a back
  one_ahead [] a back [] b after e not = absurd (not (cc))
  one_ahead [] a back (x ∷ before) b after e not = inl (record { between = before; ahead = cc; behind = cc })
  one_ahead (x ∷ front) a back [] b after e not = inr (record { between = front; ahead = cc; behind = cc })
  one_ahead (x ∷ front) a back (y ∷ before) b after e not = elim (one_ahead front a back before b after (cc) not) [
    | inl k ↦ inl (record { between = k.between; ahead = (let p = k.ahead in cc); behind = k.behind })
    | inr k ↦ inr (record { between = k.between; ahead = (let p = k.ahead in cc); behind = k.behind })
  ]

  -- what is before anything else is before that
  all_before : (xs ys front : List A) (a : A) (back : List A) → xs ++ ys ≡ front ++ a ∷ back → (Has xs a → ⊥) → (x : A) → Has xs x → Has front x
  all_before [] ys front a back e not x h = absurd h
  all_before (y ∷ xs) ys [] a back e not x h = absurd (not (inl (cc)))
  all_before (y ∷ xs) ys (z ∷ front) a back e not x (inl it) = inl (cc)
  all_before (y ∷ xs) ys (z ∷ front) a back e not x (inr h) = inr (all_before xs ys front a back (cc) (λ k. not (inr k)) x h)

-- == of entries
none_asked : (side op : OpId) (es : List Entry) → AsksNoMore side es op → (e : Entry) → Has es e → e.op ≡ op → e.call ≡ Call.Recv side → ⊥
none_asked side op [] k e h p q = absurd h
none_asked side op (d ∷ es) k e (inl it) p q = k.0 (ap (λ (x : Entry). x.op) it ∙ p) (ap (λ (x : Entry). x.call) it ∙ q)
none_asked side op (d ∷ es) k e (inr h) p q = none_asked side op es k.1 e h p q

-- == of two streams
module _ (log : List Entry) (steps : List Step) (replies : List Reply) where
  abbrev mark : (handle : ℕ) → HandsOutFront log steps replies handle → Entry
  mark handle k = entry k.marked.op (Call.Made handle Incoming k.marked.parent (Some k.side)) k.marked.told

  abbrev by_which : (handle : ℕ) → HandsOutFront log steps replies handle → List OpId
  by_which handle k = served k.side k.remote None k.while_live.during

  -- the network socket was asked by it
  asked : (handle : ℕ) (k : HandsOutFront log steps replies handle) (op : OpId) → Has (by_which handle k) op → AsksIt k.side k.while_live.during op
  asked handle k op h = elim (served_asked k.side k.remote None k.while_live.during op h) [ inl none ↦ absurd none | inr a ↦ a ]

  -- so in the log
  pub asked_in_log : (handle : ℕ) (k : HandsOutFront log steps replies handle) (op : OpId) → Has (by_which handle k) op → (told : Told) × Has log (entry op (Call.Recv k.side) told)
  asked_in_log handle k op h =
      let a = asked handle k op h in
      let live = k.while_live in
      let is : a.asked ≡ entry op (Call.Recv k.side) a.asked.answer = ap (λ (x : OpId). entry x a.asked.call a.asked.answer) a.by ∙ ap (λ (c : Call). entry op c a.asked.answer) a.on in
      let later : Has k.later a.asked = subst (λ (es : List Entry). Has es a.asked) (sym live.cut) (has_front live.during live.after a.asked a.has) in
      let whole : Has log a.asked = subst (λ (es : List Entry). Has es a.asked) (sym k.marked.cut) (has_back k.marked.front (mark handle k ∷ k.later) a.asked (inr later)) in
      (a.asked.answer, subst (λ (e : Entry). Has log e) is whole)

  -- the one was marked before the other
  earlier : (first second : ℕ) (one : OfOne first log steps replies) (two : OfOne second log steps replies) → one.front.side ≡ two.front.side
      → IsAhead one.front.marked.front (mark first one.front) one.front.later two.front.marked.front (mark second two.front) two.front.later
      → NoneInBoth (by_which first one.front) (by_which second two.front)
  earlier first second one two same k op h l =
      let live = one.front.while_live in
      let a : AsksIt one.front.side live.during op = asked first one.front op h in
      let b : AsksIt two.front.side two.front.while_live.during op = asked second two.front op l in
      let between : Has k.between a.asked = all_before live.during live.after k.between (mark second two.front) two.front.later (sym live.cut ∙ k.behind) (λ m. one.mine.alone (mark second two.front) m (sym same)) a.asked a.has in
      let before : Has two.front.marked.front a.asked = subst (λ (es : List Entry). Has es a.asked) (sym k.ahead) (has_back one.front.marked.front (mark first one.front ∷ k.between) a.asked (inr between)) in
      none_asked two.front.side b.asked.op two.front.marked.front (two.mine.begun b.asked b.has b.on) a.asked before (a.by ∙ sym b.by) (a.on ∙ ap (λ (x : OpId). Call.Recv x) same)

  two_apart : (first second : ℕ) → (first ≡ second → ⊥) → OfOne first log steps replies → OfOne second log steps replies → ReceivedApart log steps replies first second
  two_apart first second not one two = record {
    one = one.front;
    two = two.front;
    apart = λ same. elim (one_ahead one.front.marked.front (mark first one.front) one.front.later two.front.marked.front (mark second two.front) two.front.later (sym one.front.marked.cut ∙ two.front.marked.cut) others) [
      | inl k ↦ earlier first second one two same k
      | inr k ↦ (λ op h l. earlier second first two one (sym same) k op l h)
    ];
  }
    where
      others : mark first one.front ≡ mark second two.front → ⊥
      others e = not (let p : Call.Made first Incoming one.front.marked.parent (Some one.front.side) ≡ Call.Made second Incoming two.front.marked.parent (Some two.front.side) = ap (λ (x : Entry). x.call) e in cc)

-- == in a run
pub runs_receive_apart : (contexts : List WasiSocketsCtx) (steps : List Step) (log : List Entry) (replies : List Reply) (m : Machine) (first second : ℕ) → Left (run contexts [] first_state 1 steps) log (Give (replies, m)) → (first ≡ second → ⊥)
    → (handed_out first steps replies ≡ []) ⊎ ((handed_out second steps replies ≡ []) ⊎ ReceivedApart log steps replies first second)
runs_receive_apart contexts steps log replies m first second w not = elim (runs_hand_out_of_one first contexts steps log replies m w) [
  | inl none ↦ inl none
  | inr one ↦ elim (runs_hand_out_of_one second contexts steps log replies m w) [
    | inl none ↦ inr (inl none)
    | inr two ↦ inr (inr (two_apart log steps replies first second not one two))
  ]
]
