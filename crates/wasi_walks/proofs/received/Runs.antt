-- Along a run the replies hand out what a network socket received in order, and each datagram once.
use Rattle.wasi_walks.proofs.Words.{Allows, Entry, Give, HasRun, List, Machine, MayAsk, OpId, Reply, GuestCall, Step, WasiSocketsCtx, []}
use Rattle.wasi_walks.proofs.Words.{allows_if, allows_keep, allows_then, ap, append_assoc, arith, first_state, is_trap, length, length-append, machine_asks, refl}
use Rattle.wasi_walks.proofs.Words.{run, subst, sym, ℕ, ◌+◌, ◌++◌, ◌∙◌, ◌∷◌, ◌≡◌, inl, inr}
use Rattle.wasi_steps.specs.declared.reply.Field.{Field}
use Rattle.wasi_world.proofs.Allowed.{reached}
use Rattle.wasi_walks.specs.Received.{HandsOutFrom, InOrderSince, HandsOutInOrder, ReplyTakes, RepliesTake}
use Rattle.wasi_walks.proofs.fits.Polls.{Anything}
use Rattle.wasi_walks.proofs.licence.Frames.{side_more}
use Rattle.wasi_walks.proofs.licence.Fresh.{IsNew, next_is_new}
use Rattle.wasi_walks.proofs.licence.Longer.{EachMayCome, come_longer, licensed, may_come, may_more}
use Rattle.wasi_walks.proofs.licence.Meanings.{one_side}
use Rattle.wasi_walks.proofs.licence.Replies.{allows_both}
use Rattle.wasi_world.specs.declared.datagram.IncomingDatagram.{IncomingDatagram}
use Rattle.wasi_walks.proofs.licence.Runs.{Fine, fine_more, first_fine, last_line, line_licensed, next_line}
use Rattle.wasi_walks.proofs.received.Handed.{order_more}
use Rattle.wasi_walks.proofs.received.State.{first_late}
use Rattle.wasi_walks.proofs.received.Lines.{Between, Takes, step_takes}
use Rattle.wasi_steps.specs.declared.guest_call.UdpCall.{UdpCall}

-- == what replies take, under more entries, with more steps, and with one more
module _ (side : OpId) where
  since_more : (es fs : List Entry) (from upto handle : ℕ) (ds : List IncomingDatagram) → InOrderSince es side from upto handle ds → InOrderSince (es ++ fs) side from upto handle ds
  since_more es fs from upto handle ds k = record { front = k.front; back = k.back ++ fs; cut = ap (λ (xs : List Entry). xs ++ fs) k.cut ∙ append_assoc k.front k.back fs; marked = k.marked; start = k.start; on = k.on; since = k.since; order = order_more es fs side k.start upto ds k.order }

  hands_more : (es fs : List Entry) (from upto handle : ℕ) (fields : List Field) → HandsOutFrom es side from upto handle fields → HandsOutFrom (es ++ fs) side from upto handle fields
  hands_more es fs from upto handle fields h = record {
    its = h.its;
    of_handle = side_more es fs handle h.its h.of_handle;
    datagrams = h.datagrams;
    values = h.values;
    order = elim h.order [ inl k ↦ inl (k.0, since_more es fs from upto handle h.datagrams k.1) | inr k ↦ inr k ];
  }

  reply_more : (es fs : List Entry) (from upto : ℕ) (s : Step) (r : Reply) → ReplyTakes es side from upto s r → ReplyTakes (es ++ fs) side from upto s r
  reply_more es fs from upto (Step.Call ctx (GuestCall.Udp (UdpCall.Receive handle most))) (Reply.Ok fields) h = hands_more es fs from upto handle fields h
  reply_more es fs from upto (Step.Call ctx (GuestCall.Udp (UdpCall.Receive handle most))) _ h = h
  reply_more es fs from upto _ r h = h

  pub takes_more : (es fs : List Entry) (from upto : ℕ) (steps : List Step) (replies : List Reply) → RepliesTake es side from upto steps replies → RepliesTake (es ++ fs) side from upto steps replies
  takes_more es fs from upto steps [] h = h
  takes_more es fs from upto [] (r ∷ replies) h = h
  takes_more es fs from upto (s ∷ steps) (r ∷ replies) h = (h.0, (reply_more es fs from h.0 s r h.1.0, takes_more es fs h.0 upto steps replies h.1.1))

  pub takes_longer : (es : List Entry) (from upto : ℕ) (steps more : List Step) (replies : List Reply) → RepliesTake es side from upto steps replies → RepliesTake es side from upto (steps ++ more) replies
  takes_longer es from upto steps more [] h = h
  takes_longer es from upto [] more (r ∷ replies) h = absurd h
  takes_longer es from upto (s ∷ steps) more (r ∷ replies) h = (h.0, (h.1.0, takes_longer es h.0 upto steps more replies h.1.1))

  pub takes_push : (es : List Entry) (from mid upto : ℕ) (steps : List Step) (replies : List Reply) (s : Step) (r : Reply) → length replies ≡ length steps → RepliesTake es side from mid steps replies → ReplyTakes es side mid upto s r → RepliesTake es side from upto (steps ++ s ∷ []) (replies ++ r ∷ [])
  takes_push es from mid upto [] [] s r e h t = (upto, (subst (λ (n : ℕ). ReplyTakes es side n upto s r) h t, refl))
  takes_push es from mid upto [] (x ∷ replies) s r e h t = absurd h
  takes_push es from mid upto (y ∷ steps) [] s r e h t = absurd (omega (arith, e))
  takes_push es from mid upto (y ∷ steps) (x ∷ replies) s r e h t = (h.0, (h.1.0, takes_push es h.0 mid upto steps replies s r (omega (arith, e)) h.1.1 t))

-- at first there is no handle
first_between : (side : OpId) → Between side 0 [] first_state
first_between side = (record { start = 0; on = omega arith; late = first_late side; early = λ handle place e. absurd (cc) }, record { older = λ handle kind e. absurd (cc); makes = tt; stands = tt })

module _ (contexts : List WasiSocketsCtx) (side : OpId) where
  same_length : (replies : List Reply) (before : List Step) (r : Reply) (s : Step) → length replies ≡ length before → length (replies ++ r ∷ []) ≡ length (before ++ s ∷ [])
  same_length replies before r s n = let p = length-append replies (r ∷ []) in let q = length-append before (s ∷ []) in omega arith

  -- each line takes up where the ones before it ended
  lines : (all : List Step) (replies : List Reply) (m : Machine) (line : ℕ) (before rest : List Step) (es : List Entry) (at : ℕ) → all ≡ before ++ rest → line ≡ length before + 1 → EachMayCome contexts before [] es → length replies ≡ length before → RepliesTake es side 0 at before replies → Between side at es m → Fine contexts before line es m
      → Allows (MayAsk contexts all) (λ fs done. HandsOutInOrder fs side all done.0) es (run contexts replies m line rest)
  lines all replies m line before [] es at a e c n r late h = (at, subst (λ (steps : List Step). RepliesTake es side 0 at steps replies) (sym a) (takes_longer side es 0 at before [] replies r))
  lines all replies m line before (s ∷ rest) es at a e c n r late h =
      let now = before ++ s ∷ [] in
      let b : all ≡ now ++ rest = a ∙ sym (append_assoc before (s ∷ []) rest) in
      let new : IsNew es m.store.records line = subst (IsNew es m.store.records) (sym e) (next_is_new contexts before es (licensed contexts before es c) m h.fine) in
      let M : List Entry → Type 0 = λ fs. EachMayCome contexts now [] fs × RepliesTake fs side 0 at before replies in
      allows_then (MayAsk contexts all) (λ fs done. M fs × (Fine contexts now (line + 1) fs done.1 × Takes side at fs s done)) (λ fs done. HandsOutInOrder fs side all done.0) es (machine_asks contexts m line s) _
      (allows_keep (MayAsk contexts now) (MayAsk contexts all) M (λ fs done. Fine contexts now (line + 1) fs done.1 × Takes side at fs s done)
      (λ fs op c t fits k q. (may_come contexts now fs _ k.0 q, takes_more side fs _ 0 at before replies k.1))
      (λ fs op c q. subst (λ (steps : List Step). MayAsk contexts steps fs op c) (sym b) (may_more now rest contexts fs op c q)) es _ (come_longer contexts before (s ∷ []) [] es c, r)
      (allows_both (MayAsk contexts now) Anything (λ fs done. Fine contexts now (line + 1) fs done.1) (λ fs done. Takes side at fs s done) es (machine_asks contexts m line s)
      (line_licensed contexts now line s (last_line before s line e) m es (come_longer contexts before (s ∷ []) [] es c) new (fine_more contexts before (s ∷ []) line es m h))
      (step_takes side at contexts before line s m es (one_side contexts before es (licensed contexts before es c)) h.fine h.base h.keeps late)))
      (λ fs done k.
      let upto : ℕ = k.1.1.0 in
      let said : RepliesTake fs side 0 upto now (replies ++ done.0 ∷ []) = takes_push side fs 0 at upto before replies s done.0 n k.0.1 k.1.1.1.0 in
      allows_if (MayAsk contexts all) (λ fs done. HandsOutInOrder fs side all done.0) fs (is_trap done.0) _ _
      (λ trap. (upto, subst (λ (steps : List Step). RepliesTake fs side 0 upto steps (replies ++ done.0 ∷ [])) (sym b) (takes_longer side fs 0 upto now rest (replies ++ done.0 ∷ []) said)))
      (λ on. lines all (replies ++ done.0 ∷ []) done.1 (line + 1) now rest fs upto b (next_line before s line e) k.0.0 (same_length replies before done.0 s n) said k.1.1.1.1 k.1.0))

  -- from the beginning
  from_first : (steps : List Step) → Allows (MayAsk contexts steps) (λ fs done. HandsOutInOrder fs side steps done.0) [] (run contexts [] first_state 1 steps)
  from_first steps = lines steps [] first_state 1 [] steps [] 0 refl refl tt refl refl (first_between side) (first_fine contexts)

  -- with the replies that were given by some point of the run
  pub runs_in_order : (steps : List Step) (log : List Entry) (replies : List Reply) → HasRun contexts steps log replies → HandsOutInOrder log side steps replies
  runs_in_order steps log replies h =
      let at_front : HandsOutInOrder h.front side h.done replies = reached (MayAsk contexts h.done) (λ fs done. HandsOutInOrder fs side h.done done.0) [] (run contexts [] first_state 1 h.done) h.front (Give (replies, h.state)) (from_first h.done) h.ran in
      let upto : ℕ = at_front.0 in
      let in_log : RepliesTake log side 0 upto h.done replies = subst (λ (es : List Entry). RepliesTake es side 0 upto h.done replies) (sym h.cut) (takes_more side h.front h.back 0 upto h.done replies at_front.1) in
      (upto, subst (λ (steps : List Step). RepliesTake log side 0 upto steps replies) (sym h.first) (takes_longer side log 0 upto h.done h.more replies in_log))
