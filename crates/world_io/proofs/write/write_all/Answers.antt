use Rattle.std.proofs.Common.{◌≡◌, ◌<◌, ◌≤◌, ◌-◌, ◌+◌, ◌∙◌, ℕ, false, List, length, take, drop, sym, ap, Result, Ok, Err, OnErr, subst, arith, length-drop, append-nil, inl, inr}
use Rattle.std.proofs.lemmas.List.{take_all, take_rest}
use Rattle.std.proofs.Math.Seq.{take-add}
use Rattle.world_io.specs.Io.{Writing, Took, TookSome, TookNone}
use Rattle.world_io.specs.Written.{TookAll, TookPart}
use Rattle.world_io.proofs.Took.{took_again, rose_again, tells_mapped, all_none, all_again, all_some}
use Rattle.world_io.proofs.write.write_all.Goals as goal

piece_length : (bytes : List ℕ) (at : ℕ) → at ≤ length bytes → length (take (length bytes - at) (drop at bytes)) ≡ length bytes - at
piece_length bytes at within = ap length (take_rest bytes at) ∙ length-drop at bytes

module _ {a b c : Writing} (bytes : List ℕ) (at : ℕ) where
  goes_on : {count : ℕ} → TookAll a (take at bytes) b → TookSome b c (take (length bytes - at) (drop at bytes)) count → 0 < count → TookAll a (take (at + count) bytes) c
  goes_on {count} had some more = let F : List ℕ → Type 0 = λ l. TookSome b c l count in
      subst (λ l. TookAll a l c) (sym (take-add at count bytes)) (all_again had (all_some (subst F (take_rest bytes at) some) more))

  -- a write that failed
  fails : at < length bytes → TookAll a (take at bytes) b → TookNone b c → TookPart a bytes c
  fails short had none = record {
    cut = at;
    short = short;
    took = record { written = none.written ∙ had.took.written };
    counts = rose_again had.counts (record { rose = inl none.rose });
    tells = tells_mapped b.flushed c.flushed false none.flushed ∙ had.tells;
  }

  -- a write that took nothing
  refuses : {piece : List ℕ} {count : ℕ} → at < length bytes → TookAll a (take at bytes) b → TookSome b c piece count → 0 < length piece → count ≡ 0 → TookPart a bytes c
  refuses {piece} short had some filled none = let F : ℕ → Type 0 = λ n. Took b (take n piece) c in
      let G : List ℕ → Type 0 = λ l. Took a l c in record {
        cut = at;
        short = short;
        took = subst G (append-nil (take at bytes)) (took_again had.took (subst F none some.took));
        counts = rose_again had.counts (record { rose = inr (some.refused filled none) });
        tells = tells_mapped b.flushed c.flushed false some.flushed ∙ had.tells;
      }

on_err : {A E : Type 0} (r : Result A E) (P : Type 0) → P → OnErr r P
on_err (Ok x) P p = tt
on_err (Err e) P p = p

pub loop-at-init : goal.loop-at-init
loop-at-init g c = record { took = all_none (g.K.Sink.writing c.args.sink.now); within = omega arith }

pub loop-at-preserved : goal.loop-at-preserved
loop-at-preserved g c = record {
  took = goes_on _ _ c.loop-at.invariant.took c.in_ok-count.ensures (omega (arith, c.if-count-eq0.false));
  within = omega (arith, piece_length c.args.bytes.now c.loop-at.at c.loop-at.invariant.within, c.in_ok-count.ensures.fits);
}

pub returns-in_err-count-clause-front : goal.returns-in_err-count-clause-front
returns-in_err-count-clause-front g c = on_err c.from_residual.result _ (fails _ _ c.loop-at-test.true c.loop-at.invariant.took c.in_err-count.ensures)

pub returns-then-count-eq0-clause-front : goal.returns-then-count-eq0-clause-front
returns-then-count-eq0-clause-front g c = refuses _ _ c.loop-at-test.true c.loop-at.invariant.took c.in_ok-count.ensures (omega (arith, piece_length c.args.bytes.now c.loop-at.at c.loop-at.invariant.within, c.loop-at-test.true)) c.if-count-eq0.true

pub returns-clause-all : goal.returns-clause-all
returns-clause-all g c = let F : List ℕ → Type 0 = λ l. TookAll (g.K.Sink.writing c.args.sink.now) l (g.K.Sink.writing c.loop-at.sink) in
    subst F (take_all c.loop-at.at c.args.bytes.now (omega arith)) c.loop-at.invariant.took
