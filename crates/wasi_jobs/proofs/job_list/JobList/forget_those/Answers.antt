use Rattle.std.proofs.Common.{◌≡◌, ◌+◌, ap, ◌∙◌, sym, subst, arith}
use Rattle.wasi_jobs.specs.declared.job_list.JobList.TheInside.{Inside}
use Rattle.wasi_jobs.proofs.Forgets.{IsForgetting, stays, leaves, ends, in_bounds}
use Rattle.wasi_jobs.proofs.Reading.{nothing_first}
use Rattle.wasi_jobs.proofs.job_list.JobList.forget_those.Goals as goal
use Rattle.wasi_jobs.proofs.job_list.JobList.forget_those.Goals.{then-has, else-has}

pub overflow_add-from : goal.overflow_add-from
overflow_add-from c = let under = in_bounds _ _ _ _ _ _ _ c.loop-number.invariant _ c.in-Some.ensures.some in omega (arith, under, c.loop-number.invariant.sound.fits)

pub loop-number-smaller : goal.loop-number-smaller
loop-number-smaller c =
    let under = in_bounds _ _ _ _ _ _ _ c.loop-number.invariant _ c.in-Some.ensures.some in
    let kept : c.if-has.self-inside.next ≡ c.loop-number.self-inside.next =
    elim c.if-has.branch [
      | then-has w ↦ ap (λ (i : Inside). i.next) w.self-inside-is
      | else-has w ↦ ap (λ (i : Inside). i.next) w.self-inside-is
    ] in
    omega (arith, kept, under, c.in-Some.ensures.some.after)

pub loop-number-preserved : goal.loop-number-preserved
loop-number-preserved c =
    let so = λ (i : Inside). IsForgetting c.args.which c.args.place (c.in-Some.number + 1) c.args.self.now.items i.jobs.entries i.by_record.keys i.next in
    elim c.if-has.branch [
      | then-has w ↦ subst so (sym w.self-inside-is) (leaves _ _ _ _ _ _ _ c.loop-number.invariant _ c.in-Some.ensures.some c.index.result.now c.index.ensures _ _ (sym c.has.ensures ∙ w.if-has.true) w.take_out.ensures.out w.take_out.ensures.keyed)
      | else-has w ↦ subst so (sym w.self-inside-is) (stays _ _ _ _ _ _ _ c.loop-number.invariant _ c.in-Some.ensures.some c.index.result.now c.index.ensures (sym c.has.ensures ∙ w.if-has.false))
    ]

pub returns : goal.returns
returns c = ends _ _ _ _ _ _ _ c.loop-number.invariant c.in_default.ensures.none

pub invariant_of-self : goal.invariant_of-self
invariant_of-self c = record { sound = c.loop-number.invariant.sound; coming = nothing_first _ _ _ c.clear.ensures }
