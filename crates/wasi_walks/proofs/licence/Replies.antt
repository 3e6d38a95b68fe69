-- Of replies that a log may go with: which lines they served, and that they may still be given under more entries and by more steps;
-- and so may fewer of them, and one more.
use Rattle.wasi_walks.proofs.Words.{Allows, Ask, AskWrite, Asks, Call, Entry, Give, Has, List, OpId, Option, Reply, Some, None, GuestCall, Step, Told, [], append-nil, entry, inl, inr, length, own_of, refl, step_at, subst, sym}
use Rattle.wasi_walks.proofs.Words.{ap, ℕ, ◌+◌, ◌++◌, ◌∷◌, ◌≡◌}
use Rattle.std.proofs.Common.{arith}
use Rattle.wasi_steps.specs.declared.reply.Field.{Field}
use Rattle.wasi_walks.specs.Licence.{HandsAs, HandsOne, HandsOut, IsNone, IsReceive, MayReply, EachMayReply, ReachesSide, served_by, serves}
use Rattle.wasi_walks.proofs.Lists.{cut_more, has_parts, has_front}
use Rattle.wasi_walks.proofs.licence.Frames.{Goes, began_more, maker_more, names_on, side_more}
use Rattle.wasi_walks.proofs.received.Handed.{order_more}
use Rattle.wasi_steps.specs.declared.guest_call.UdpCall.{UdpCall}
use Rattle.wasi_steps.specs.declared.guest_call.P3UdpCall.{P3UdpCall}

-- == the lines that were served
-- none of these entries asks for a datagram by the own operation of this line
abbrev pub AsksNoMore : ℕ → List Entry → Type 0
AsksNoMore line fs = (side : OpId) (told : Told) → Has fs (entry (own_of line) (Call.Recv side) told) → ⊥

-- nor by that of any of these lines
abbrev pub AskNoMore : List ℕ → List Entry → Type 0
AskNoMore served fs = (n : ℕ) → Has served n → AsksNoMore n fs

pub none_no_more : (served : List ℕ) → AskNoMore served []
none_no_more served n s side told h = h

-- a line is none of those that differ from it
pub is_none : (line : ℕ) (served : List ℕ) → ((n : ℕ) → Has served n → line ≡ n → ⊥) → IsNone line served
is_none line [] k = tt
is_none line (n ∷ ns) k = (k n (inl refl), is_none line ns (λ x h. k x (inr h)))

-- those that were served stay so
by_keeps : (n : ℕ) (o : Option Step) (served : List ℕ) (x : ℕ) → Has served x → Has (served_by n o served) x
by_keeps n (Some (Step.Call ctx (GuestCall.P3Udp (P3UdpCall.Receive socket)))) served x h = inr h
by_keeps n _ served x h = h

pub serves_keeps : (steps : List Step) (line : ℕ) (s : Step) (r : Reply) (served : List ℕ) (x : ℕ) → Has served x → Has (serves steps line s r served) x
serves_keeps steps line (Step.Poll n) (Reply.Ok fields) served x h = by_keeps n (step_at steps n) served x h
serves_keeps steps line s (Reply.Ok fields) served x h = by_keeps line (Some s) served x h
serves_keeps steps line s _ served x h = h

-- the replies to these steps may be given, and leave these lines served
abbrev pub Replied : List Step → List Entry → List ℕ → ℕ → List Step → List Reply → List ℕ → Type 0
Replied steps log served line more [] last = served ≡ last
Replied steps log served line [] (r ∷ replies) last = ⊥
Replied steps log served line (s ∷ more) (r ∷ replies) last = MayReply steps log served line s r × Replied steps log (serves steps line s r served) (line + 1) more replies last

pub each_may : (steps : List Step) (log : List Entry) (served : List ℕ) (line : ℕ) (more : List Step) (replies : List Reply) (last : List ℕ) → Replied steps log served line more replies last → EachMayReply steps log served line more replies
each_may steps log served line more [] last h = tt
each_may steps log served line [] (r ∷ replies) last h = h
each_may steps log served line (s ∷ more) (r ∷ replies) last h = (h.0, each_may steps log (serves steps line s r served) (line + 1) more replies last h.1)

last_keeps : (steps : List Step) (log : List Entry) (served : List ℕ) (line : ℕ) (more : List Step) (replies : List Reply) (last : List ℕ) (x : ℕ) → Replied steps log served line more replies last → Has served x → Has last x
last_keeps steps log served line more [] last x e h = subst (λ (ns : List ℕ). Has ns x) e h
last_keeps steps log served line [] (r ∷ replies) last x e h = absurd e
last_keeps steps log served line (s ∷ more) (r ∷ replies) last x e h = last_keeps steps log (serves steps line s r served) (line + 1) more replies last x e.1 (serves_keeps steps line s r served x h)

-- == more entries, and more steps
-- what a receive hands out
hands_more : (es fs : List Entry) (handle : ℕ) (fields : List Field) → HandsOut es handle fields → HandsOut (es ++ fs) handle fields
hands_more es fs handle fields h = record {
  side = h.side;
  of_handle = side_more es fs handle h.side h.of_handle;
  datagrams = h.datagrams;
  values = h.values;
  upto = h.upto;
  order = order_more es fs h.side 0 h.upto h.datagrams h.order;
}

-- nothing of its own operation among these
more_none : (n : ℕ) (es fs : List Entry) → AsksNoMore n es → AsksNoMore n fs → AsksNoMore n (es ++ fs)
more_none n es fs a b side told h = elim (has_parts es fs _ h) [ inl i ↦ a side told i | inr i ↦ b side told i ]

module _ {steps now : List Step} (goes : Goes steps now) (es fs : List Entry) where
  pub reaches_more : (op side : OpId) → ReachesSide steps es op side → ReachesSide now (es ++ fs) op side
  reaches_more op side (inl n) = inl (names_on goes es fs op side n)
  reaches_more op side (inr e) = inr e

  -- what a receive of 0.3 hands out: its operation asks for no other datagram
  pub one_more : (served : List ℕ) (n : ℕ) (fields : List Field) → AsksNoMore n fs → HandsOne steps es served n fields → HandsOne now (es ++ fs) served n fields
  one_more served n fields none h = record {
    began = began_more goes (own_of n) IsReceive h.began;
    side = h.side;
    reached = reaches_more (own_of n) h.side h.reached;
    bytes = h.bytes;
    peer = h.peer;
    front = h.front;
    back = h.back ++ fs;
    cut = cut_more es fs h.front h.back _ h.cut;
    last = λ told i. elim (has_parts h.back fs _ i) [ inl j ↦ h.last told j | inr j ↦ none h.side told j ];
    yes = record { ctx = h.yes.ctx; family = h.yes.family; maker = maker_more es fs h.yes.ctx h.yes.family h.side h.yes.maker; checked = has_front h.back fs _ h.yes.checked };
    values = h.values;
    once = h.once;
  }

  -- the reply to the call of this step, which its line polls or makes
  as_more : (served : List ℕ) (n : ℕ) (o : Option Step) (fields : List Field) → step_at steps n ≡ o → AskNoMore (served_by n o served) fs → HandsAs steps es served n o fields → HandsAs now (es ++ fs) served n (step_at now n) fields
  as_more served n None fields e none h = absurd h
  as_more served n (Some s) fields e none h = subst (λ (o : Option Step). HandsAs now (es ++ fs) served n o fields) (sym (goes.at n s e)) (of s none h)
    where
      of : (s : Step) → AskNoMore (served_by n (Some s) served) fs → HandsAs steps es served n (Some s) fields → HandsAs now (es ++ fs) served n (Some s) fields
      of (Step.Call ctx (GuestCall.P3Udp (P3UdpCall.Receive socket))) none h = one_more served n fields (none n (inl refl)) h
      of _ none h = h

  may_more : (served : List ℕ) (line : ℕ) (s : Step) (r : Reply) → AskNoMore (serves steps line s r served) fs → MayReply steps es served line s r → MayReply now (es ++ fs) served line s r
  may_more served line (Step.Call ctx (GuestCall.Udp (UdpCall.Receive handle most))) (Reply.Ok fields) none h = hands_more es fs handle fields h
  may_more served line (Step.Call ctx (GuestCall.P3Udp (P3UdpCall.Receive socket))) (Reply.Ok fields) none h = one_more served line fields (none line (inl refl)) h
  may_more served line (Step.Poll n) (Reply.Ok fields) none h = as_more served n (step_at steps n) fields refl none h
  may_more served line _ _ none h = h

  -- it serves the same line
  serves_same : (served : List ℕ) (line : ℕ) (s : Step) (r : Reply) → MayReply steps es served line s r → serves steps line s r served ≡ serves now line s r served
  serves_same served line (Step.Poll n) (Reply.Ok fields) h = same (step_at steps n) refl h
    where
      same : (o : Option Step) → step_at steps n ≡ o → HandsAs steps es served n o fields → served_by n o served ≡ served_by n (step_at now n) served
      same None e h = absurd h
      same (Some s) e h = ap (λ (o : Option Step). served_by n o served) (sym (goes.at n s e))
  serves_same served line _ _ h = refl

  -- all of them
  pub replied_more : (served : List ℕ) (line : ℕ) (more : List Step) (replies : List Reply) (last : List ℕ) → AskNoMore last fs → Replied steps es served line more replies last → Replied now (es ++ fs) served line more replies last
  replied_more served line more [] last none h = h
  replied_more served line [] (r ∷ replies) last none h = h
  replied_more served line (s ∷ more) (r ∷ replies) last none h =
      let next : List ℕ = serves steps line s r served in (
        may_more served line s r (λ n i. none n (last_keeps steps es next (line + 1) more replies last n h.1 i)) h.0,
        subst (λ (ns : List ℕ). Replied now (es ++ fs) ns (line + 1) more replies last) (serves_same served line s r h.0) (replied_more next (line + 1) more replies last none h.1),
      )

-- the log is the same
pub replied_by : {steps now : List Step} (goes : Goes steps now) (es : List Entry) (served : List ℕ) (line : ℕ) (more : List Step) (replies : List Reply) (last : List ℕ) → Replied steps es served line more replies last → Replied now es served line more replies last
replied_by {now = now} goes es served line more replies last h = subst (λ (fs : List Entry). Replied now fs served line more replies last) (append-nil es) (replied_more goes es [] served line more replies last (none_no_more last) h)

-- which lines are served is said by the replies
pub which_served : (steps : List Step) (log : List Entry) (served : List ℕ) (line : ℕ) (more : List Step) (replies : List Reply) → EachMayReply steps log served line more replies → (last : List ℕ) × Replied steps log served line more replies last
which_served steps log served line more [] h = (served, refl)
which_served steps log served line [] (r ∷ replies) h = absurd h
which_served steps log served line (s ∷ more) (r ∷ replies) h = let k = which_served steps log (serves steps line s r served) (line + 1) more replies h.1 in (k.0, (h.0, k.1))

-- == more lines, and fewer replies
pub replied_longer : (steps : List Step) (es : List Entry) (served : List ℕ) (line : ℕ) (before more : List Step) (replies : List Reply) (last : List ℕ) → Replied steps es served line before replies last → Replied steps es served line (before ++ more) replies last
replied_longer steps es served line before more [] last h = h
replied_longer steps es served line [] more (r ∷ replies) last h = absurd h
replied_longer steps es served line (s ∷ before) more (r ∷ replies) last h = (h.0, replied_longer steps es (serves steps line s r served) (line + 1) before more replies last h.1)

pub replies_fewer : (steps : List Step) (es : List Entry) (served : List ℕ) (line : ℕ) (before : List Step) (replies more : List Reply) → EachMayReply steps es served line before (replies ++ more) → EachMayReply steps es served line before replies
replies_fewer steps es served line before [] more h = tt
replies_fewer steps es served line [] (r ∷ replies) more h = h
replies_fewer steps es served line (s ∷ before) (r ∷ replies) more h = (h.0, replies_fewer steps es (serves steps line s r served) (line + 1) before replies more h.1)

-- by a longer script
pub replies_longer : (es : List Entry) (steps more : List Step) (replies : List Reply) → Goes steps (steps ++ more) → EachMayReply steps es [] 1 steps replies → EachMayReply (steps ++ more) es [] 1 (steps ++ more) replies
replies_longer es steps more replies goes h =
    let k = which_served steps es [] 1 steps replies h in
    each_may (steps ++ more) es [] 1 (steps ++ more) replies k.0 (replied_longer (steps ++ more) es [] 1 steps more replies k.0 (replied_by goes es [] 1 steps replies k.0 k.1))

-- == one more step and its reply
pub replied_push : (steps : List Step) (es : List Entry) (served : List ℕ) (line at : ℕ) (before : List Step) (replies : List Reply) (s : Step) (r : Reply) (last : List ℕ) → length replies ≡ length before → at ≡ line + length before → Replied steps es served line before replies last → MayReply steps es last at s r
    → Replied steps es served line (before ++ s ∷ []) (replies ++ r ∷ []) (serves steps at s r last)
replied_push steps es served line at [] [] s r last e a h m =
    let here : at ≡ line = omega (arith, a) in
    subst (λ (n : ℕ). MayReply steps es served n s r × (serves steps n s r served ≡ serves steps at s r last)) here (subst (λ (ns : List ℕ). MayReply steps es ns at s r) (sym h) m, ap (λ (ns : List ℕ). serves steps at s r ns) h)
replied_push steps es served line at [] (x ∷ replies) s r last e a h m = absurd h
replied_push steps es served line at (y ∷ before) [] s r last e a h m = absurd (omega (arith, e))
replied_push steps es served line at (y ∷ before) (x ∷ replies) s r last e a h m = (h.0, replied_push steps es (serves steps line y x served) (line + 1) at before replies s r last (omega (arith, e)) (omega (arith, a)) h.1 m)

-- == two things of one tree
pub allows_both : {A : Type 0} (P R : List Entry → OpId → Call → Type 0) (Q S : List Entry → A → Type 0) (es : List Entry) (asks : Asks A) → Allows P Q es asks → Allows R S es asks → Allows P (λ fs a. Q fs a × S fs a) es asks
allows_both P R Q S es (Give a) h k = (h, k)
allows_both P R Q S es (Ask op c next) h k = (h.0, λ told fits. allows_both P R Q S _ (next told) (h.1 told fits) (k.1 told fits))
allows_both P R Q S es (AskWrite op sock bytes next) h k = (h.0, λ told fits front. allows_both P R Q S _ (next told) (h.1 told fits front) (k.1 told fits front))

-- and of its asks
pub allows_each : {A : Type 0} (P R : List Entry → OpId → Call → Type 0) (Q S : List Entry → A → Type 0) (es : List Entry) (asks : Asks A) → Allows P Q es asks → Allows R S es asks → Allows (λ fs op c. P fs op c × R fs op c) (λ fs a. Q fs a × S fs a) es asks
allows_each P R Q S es (Give a) h k = (h, k)
allows_each P R Q S es (Ask op c next) h k = ((h.0, k.0), λ told fits. allows_each P R Q S _ (next told) (h.1 told fits) (k.1 told fits))
allows_each P R Q S es (AskWrite op sock bytes next) h k = ((h.0, k.0), λ told fits front. allows_each P R Q S _ (next told) (h.1 told fits front) (k.1 told fits front))
