-- The looks of the jobs of a turn, job by job.
use Rattle.std.specs.Prelude.{map, if◌then◌else◌}
use Rattle.std.specs.List.{list_any}
use Rattle.std.proofs.Common.{◌≡◌, Bool, true, false, List, [], ◌∷◌, ◌++◌, Some, None, refl, ap, sym, subst, ◌∙◌, ◌||◌}
use Rattle.std.proofs.lemmas.List.{map-append}
use Rattle.std.proofs.lemmas.List.Folds.{list_any-append}
use Rattle.wasi_jobs.specs.declared.job.HostJob.{HostJob}
use Rattle.wasi_looks.specs.declared.look.Look.{Look}
use Rattle.wasi_records.specs.declared.records.Record.{Record}
use Rattle.step_looks.specs.Jobs.{job_outlook, jobs_looks, is_receive}
use Rattle.step_looks.specs.Outlooks.{looks_in, added_to, awaited}
use Rattle.step_looks.proofs.Looks.{looks_push, looks_stop}

or-false : (b : Bool) → (b || false) ≡ b
or-false true = refl
or-false false = refl

module _ (records : List Record) (kept : List HostJob) where
  -- one more job
  pub next_looks : (behind : List HostJob) (job : HostJob) (looks now : List Look) → behind ≡ kept ++ job ∷ [] → looks_in (map (job_outlook records) kept) ≡ Some looks → added_to (job_outlook records job) looks ≡ Some now → looks_in (map (job_outlook records) behind) ≡ Some now
  next_looks behind job looks now e h a =
      let P : List HostJob → Type 0 = λ jobs. looks_in (map (job_outlook records) jobs) ≡ Some now in
      subst P (sym e) (ap looks_in (map-append (job_outlook records) kept (job ∷ [])) ∙ looks_push (map (job_outlook records) kept) (job_outlook records job) looks now h a)

  pub next_receives : (behind : List HostJob) (job : HostJob) (before now : Bool) → behind ≡ kept ++ job ∷ [] → before ≡ list_any is_receive kept → now ≡ (before || is_receive job) → now ≡ list_any is_receive behind
  next_receives behind job before now e h n =
      n ∙ ap (λ b. b || is_receive job) h ∙ sym (ap (λ jobs. list_any is_receive jobs) e ∙ list_any-append is_receive kept (job ∷ []) ∙ ap (λ b. list_any is_receive kept || b) (or-false (is_receive job)))

  -- a job that is ready
  pub stopped_looks : (jobs rest : List HostJob) (job : HostJob) (looks : List Look) → jobs ≡ kept ++ job ∷ rest → looks_in (map (job_outlook records) kept) ≡ Some looks → added_to (job_outlook records job) looks ≡ None → [] ≡ jobs_looks records jobs
  stopped_looks jobs rest job looks e h a = by_any (list_any is_receive jobs)
      (ap (λ jobs. looks_in (map (job_outlook records) jobs)) e ∙ (ap looks_in (map-append (job_outlook records) kept (job ∷ rest)) ∙ looks_stop (map (job_outlook records) kept) (map (job_outlook records) rest) (job_outlook records job) looks h a))
    where
      by_any : (b : Bool) → looks_in (map (job_outlook records) jobs) ≡ None → [] ≡ (if b then awaited (looks_in (map (job_outlook records) jobs)) else [])
      by_any true none = sym (ap awaited none)
      by_any false none = refl
