-- Each move keeps the rule of the line.
use Rattle.std.proofs.Common.{◌≡◌, ◌≢◌, ◌<◌, ℕ, zero, suc, true, false, true≢false, List, [], ◌∷◌, ◌++◌, length, set, sym, refl, ap, ◌∙◌, subst, ⊎_elim, append_assoc}
use mathlib.Core.Option.{some, some-ne-none}
use lib.ListN.{get_elem?}
use Rattle.crossbeam_queue.specs.Fifo.{Pushes, Pops, Forks, Merges, Learns}
use Rattle.crossbeam_queue.proofs.Lists.{at_set, at_snoc}
use Rattle.worker_shared.specs.declared.rule.Log.{Log}
use Rattle.worker_shared.specs.Relay.{log, Fits, AllFilled, Relayed}

at_end : (l : List Log) (a b : Log) (j : ℕ) → get_elem? l j ≢ some b → get_elem? (l ++ a ∷ []) j ≡ some b → j ≡ length l
at_end [] a b zero n e = refl
at_end [] a b (suc j) n e = absurd (some-ne-none b (sym e))
at_end (x ∷ xs) a b zero n e = absurd (n e)
at_end (x ∷ xs) a b (suc j) n e = ap suc (at_end xs a b j n e)

abbrev All : (ℕ → Log → Type 0) → List Log → Type 0
All F views = (port : ℕ) (v : Log) → get_elem? views port ≡ some v → F port v

all_set : (F : ℕ → Log → Type 0) (views : List Log) (port : ℕ) (w : Log) → F port w → ((j : ℕ) (u : Log) → j ≢ port → get_elem? views j ≡ some u → F j u) → All F (set views port w)
all_set F views port w mine others j u e = ⊎_elim (λ (x : (j ≡ port) × (w ≡ u)). subst (λ (y : ℕ × Log). F y.0 y.1) (λ i. (sym x.0 i, x.1 i)) mine)
    (λ (x : (j ≢ port) × (get_elem? views j ≡ some u)). others j u x.0 x.1) (at_set views port j w u e)

filled_end : (items : List (List ℕ)) (x : List ℕ) → AllFilled items → 0 < length x → AllFilled (items ++ x ∷ [])
filled_end [] x all has = (has, tt)
filled_end (y ∷ items) x all has = (all.0, filled_end items x all.1 has)

-- a new line, with one pass for both
pub begins : Relayed [] (log true true [] [] ∷ [])
begins = record {
  pusher = 0;
  popper = 0;
  pushed = [];
  popped = [];
  in_order = refl;
  filled = tt;
  fits = all_set (Fits 0 0 [] []) (log true true [] [] ∷ []) 0 (log true true [] []) (record { pushes = λ _. (refl, refl); pops = λ _. (refl, refl) })
      (λ j u other e. absurd (other (at_end [] _ u j (λ x. some-ne-none u (sym x)) e)));
}

pub sends : (n port : ℕ) (v : Log) (x : List ℕ) → v.pushes ≡ true → 0 < length x → Pushes Relayed n port v x (λ w. w ≡ log v.pushes v.pops (v.pushed ++ x ∷ []) v.popped)
sends n port v x may has items views _ h at = let w : Log = log v.pushes v.pops (v.pushed ++ x ∷ []) v.popped in let mine = h.fits port v at in let pushed = h.pushed ++ x ∷ [] in (
  w,
  record {
    pusher = h.pusher;
    popper = h.popper;
    pushed = pushed;
    popped = h.popped;
    in_order = ap (λ l. l ++ x ∷ []) h.in_order ∙ append_assoc h.popped items (x ∷ []);
    filled = filled_end items x h.filled has;
    fits = all_set (Fits h.pusher h.popper pushed h.popped) views port w (record { pushes = λ _. ((mine.pushes may).0, ap (λ l. l ++ x ∷ []) (mine.pushes may).1); pops = mine.pops })
        (λ j u other e. record { pushes = λ p. absurd (other (((h.fits j u e).pushes p).0 ∙ sym (mine.pushes may).0)); pops = (h.fits j u e).pops });
  },
  refl,
)

pub gets : (port : ℕ) (v : Log) → v.pops ≡ true → Pops Relayed port v (λ x w. (w ≡ log v.pushes v.pops v.pushed (v.popped ++ x ∷ [])) × (0 < length x))
gets port v may x items views h at = let w : Log = log v.pushes v.pops v.pushed (v.popped ++ x ∷ []) in let mine = h.fits port v at in let popped = h.popped ++ x ∷ [] in (
  w,
  record {
    pusher = h.pusher;
    popper = h.popper;
    pushed = h.pushed;
    popped = popped;
    in_order = h.in_order ∙ sym (append_assoc h.popped (x ∷ []) items);
    filled = h.filled.1;
    fits = all_set (Fits h.pusher h.popper h.pushed popped) views port w (record { pushes = mine.pushes; pops = λ _. ((mine.pops may).0, ap (λ l. l ++ x ∷ []) (mine.pops may).1) })
        (λ j u other e. record { pushes = (h.fits j u e).pushes; pops = λ p. absurd (other (((h.fits j u e).pops p).0 ∙ sym (mine.pops may).0)) });
  },
  (refl, h.filled.0),
)

pub forks : (port : ℕ) (v : Log) → v.pushes ≡ true → v.pops ≡ true → Forks Relayed port v (log true false v.pushed []) (log false true [] v.popped)
forks port v a b items views h at = let l : Log = log true false v.pushed [] in let r : Log = log false true [] v.popped in let mine = h.fits port v at in let vs : List Log = set views port l in
    let Old : ℕ → Log → Type 0 = λ j u. (u.pushes ≡ true → (j ≡ h.pusher) × (u.pushed ≡ h.pushed)) × (u.pops ≢ true) in
    let old : All Old vs = all_set Old views port l ((λ _. mine.pushes a), λ p. true≢false (sym p)) (λ j u other e. ((h.fits j u e).pushes, λ p. other (((h.fits j u e).pops p).0 ∙ sym (mine.pops b).0))) in record {
      pusher = h.pusher;
      popper = length vs;
      pushed = h.pushed;
      popped = h.popped;
      in_order = h.in_order;
      filled = h.filled;
      fits = λ j u e. ⊎_elim (λ x. record { pushes = (old j u x).0; pops = λ p. absurd ((old j u x).1 p) })
          (λ (is : r ≡ u). record {
            pushes = λ p. absurd (true≢false (sym (ap (λ (y : Log). y.pushes) is ∙ p)));
            pops = λ p. (at_end vs r u j (λ x. (old j u x).1 p) e, ap (λ (y : Log). y.popped) (sym is) ∙ (mine.pops b).1);
          }) (at_snoc vs r u j e);
    }

pub merges : (port : ℕ) (v : Log) (other : ℕ) (u : Log) → v.pushes ≡ true → u.pops ≡ true → Merges Relayed port v other u (log true true v.pushed u.popped) (log false false [] [])
merges port v other u a b items views h at two at' = let both : Log = log true true v.pushed u.popped in let mine = h.fits port v at in let vs : List Log = set views port both in
    let was : get_elem? views other ≡ some u = ⊎_elim (λ x. absurd (two x.0)) (λ x. x.1) (at_set views port other both u at') in let theirs = (h.fits other u was).pops b in
    let Now : ℕ → Log → Type 0 = λ j y. j ≢ other → Fits h.pusher port h.pushed h.popped j y in
    let now : All Now vs = all_set Now views port both (λ _. record { pushes = λ _. mine.pushes a; pops = λ _. (refl, theirs.1) })
    (λ j y _ e apart. record { pushes = (h.fits j y e).pushes; pops = λ p. absurd (apart (((h.fits j y e).pops p).0 ∙ sym theirs.0)) }) in record {
      pusher = h.pusher;
      popper = port;
      pushed = h.pushed;
      popped = h.popped;
      in_order = h.in_order;
      filled = h.filled;
      fits = all_set (Fits h.pusher port h.pushed h.popped) vs other (log false false [] []) (record { pushes = λ p. absurd (true≢false (sym p)); pops = λ p. absurd (true≢false (sym p)) })
          (λ j y apart e. now j y e apart);
    }

pub totals : (port : ℕ) (v : Log) → v.pushes ≡ true → v.pops ≡ true → Learns Relayed port v (λ items. v.pushed ≡ v.popped ++ items)
totals port v a b items views h at = let mine = h.fits port v at in (mine.pushes a).1 ∙ h.in_order ∙ ap (λ l. l ++ items) (sym (mine.pops b).1)
