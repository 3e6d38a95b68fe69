use Rattle.std.proofs.Common.{ap, ◌∙◌, arith}
use Rattle.wasi_jobs.specs.Entries.{entries_from}
use Rattle.wasi_jobs.proofs.Rising.{whole, none_from}
use Rattle.wasi_jobs.proofs.Reading.{first_read}
use Rattle.wasi_jobs.proofs.job_list.JobList.first_from.Goals as goal

pub next-requires : goal.next-requires
next-requires c = λ e rest is.
    (let f = first_read _ _ _ c.args.number _ e rest c.self.invariant.sound.rise c.reach.ensures.read.begins is in
    omega (arith, f.under, c.self.invariant.sound.fits))

pub returns-in_err-number-clause-whole : goal.returns-in_err-number-clause-whole
returns-in_err-number-clause-whole c = rw (← c.self.view_is) (whole _ _ _ c.args.number c.self.invariant.sound.rise)

pub returns-in_err-number-clause-none : goal.returns-in_err-number-clause-none
returns-in_err-number-clause-none c = λ _. rw (← c.self.view_is) (none_from _ c.args.number (c.reach.ensures.read.none c.in_err-number.ensures.none))

pub invariant_of-self-2 : goal.invariant_of-self-2
invariant_of-self-2 c =
    let f = first_read _ _ _ c.args.number _ _ _ c.self.invariant.sound.rise c.reach.ensures.read.begins c.in_ok-number.ensures.some in
    record {
      sound = c.self.invariant.sound;
      coming = record {
        rest = c.reach.ensures.read.begins.rest;
        are = ap (λ n. entries_from n c.self.inside.jobs.entries) c.in_ok-number.ensures.from ∙ f.later;
      };
    }

pub returns-clause-whole : goal.returns-clause-whole
returns-clause-whole c = rw (← c.self.view_is) (whole _ _ _ c.args.number c.self.invariant.sound.rise)

pub returns-clause-some : goal.returns-clause-some
returns-clause-some c =
    let f = first_read _ _ _ c.args.number _ _ _ c.self.invariant.sound.rise c.reach.ensures.read.begins c.in_ok-number.ensures.some in
    rw (← c.self.view_is) (f.here, f.more, f.same)

pub returns-clause-fits : goal.returns-clause-fits
returns-clause-fits c =
    let f = first_read _ _ _ c.args.number _ _ _ c.self.invariant.sound.rise c.reach.ensures.read.begins c.in_ok-number.ensures.some in
    omega (arith, f.under, c.self.invariant.sound.fits)

pub returns-clause-after : goal.returns-clause-after
returns-clause-after c =
    let f = first_read _ _ _ c.args.number _ _ _ c.self.invariant.sound.rise c.reach.ensures.read.begins c.in_ok-number.ensures.some in
    f.after
