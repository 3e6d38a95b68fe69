-- The jobs of a record, as they go one after another.
use Rattle.std.proofs.Common.{◌≡◌, ℕ, ◌+◌, ◌<◌, ◌&&◌, Bool, true, false, cond, Option, None, Some, List, [], ◌∷◌, refl, ap, ◌∙◌, sym, subst, arith, inl, inr}
use Rattle.std.specs.Ordering.{nat_cmp}
use Rattle.std.specs.BTreeMap.{is_at}
use Rattle.std.proofs.lemmas.Bool.{cases_lt, cases_eq, and_from, and_left, and_right, eq-eqb, ne_eqb, false≢true}
use Rattle.wasi_jobs.specs.declared.job.HostJob.{HostJob}
use Rattle.wasi_jobs.specs.declared.job.HostJob.TheVariants.{Write, Datagram, Receive, Lookup}
use Rattle.wasi_jobs.specs.declared.job_list.Key.{Key}
use Rattle.wasi_jobs.specs.declared.job_list.Which.{Which}
use Rattle.wasi_jobs.specs.declared.job_list.Which.TheVariants.{All, Receives, Datagrams}
use Rattle.wasi_jobs.specs.declared.ahead.Hinted.{Hinted}
use Rattle.wasi_jobs.specs.Jobs.{is_on}
use Rattle.wasi_jobs.specs.Entries.{jobs_of, without}
use Rattle.wasi_jobs.specs.Keys.{job_at, has_key, is_one_on, is_of_kind, left_of, Rise, AreKeyed, AreSound, IsWithout, HasNoneFrom, IsNextOn}
use Rattle.wasi_jobs.proofs.Orders.{at_is, at_itself, at_another}
use Rattle.wasi_jobs.proofs.Rising.{rise_but, below_next}

-- whether a job is to go
abbrev pub goes : Which → ℕ → HostJob → Bool
goes which place job = is_of_kind which job && is_on place job

-- those that are left are those that don't go
left_more : (which : Which) (place : ℕ) (job : HostJob) (jobs : List HostJob) → left_of which place (job ∷ jobs) ≡ cond (goes which place job) (left_of which place jobs) (job ∷ left_of which place jobs)
left_more All place job jobs = refl
left_more Receives place (Write p) jobs = refl
left_more Receives place (Datagram p) jobs = refl
left_more Receives place (Receive p) jobs = refl
left_more Receives place (Lookup p) jobs = refl
left_more Datagrams place (Write p) jobs = refl
left_more Datagrams place (Datagram p) jobs = refl
left_more Datagrams place (Receive p) jobs = refl
left_more Datagrams place (Lookup p) jobs = refl

left_none : (which : Which) (place : ℕ) → left_of which place [] ≡ []
left_none All place = refl
left_none Receives place = refl
left_none Datagrams place = refl

left_at : (which : Which) (place : ℕ) (job : HostJob) (jobs : List HostJob) (b : Bool) → goes which place job ≡ b → left_of which place (job ∷ jobs) ≡ cond b (left_of which place jobs) (job ∷ left_of which place jobs)
left_at which place job jobs b is = left_more which place job jobs ∙ ap (λ (z : Bool). cond z (left_of which place jobs) (job ∷ left_of which place jobs)) is

-- where none goes, all are left
left_all : (which : Which) (place : ℕ) (jobs : List (ℕ × Hinted)) (low next : ℕ) → Rise jobs low next → ((n : ℕ) (job : Hinted) → job_at jobs n ≡ Some job → goes which place job.job ≡ false) → left_of which place (jobs_of jobs) ≡ jobs_of jobs
left_all which place [] low next rise none = left_none which place
left_all which place (e ∷ jobs) low next rise none =
    let here : goes which place e.1.job ≡ false = none e.0 e.1 (ap (λ (b : Bool). cond b (Some e.1) (job_at jobs e.0)) (at_itself e.0)) in
    left_at which place e.1.job (jobs_of jobs) false here
    ∙ ap (λ (js : List HostJob). e.1.job ∷ js) (left_all which place jobs _ next rise.1 (λ n job found. (
    let past = below_next jobs _ next n job rise.1 found in
    none n job (ap (λ (b : Bool). cond b (Some e.1) (job_at jobs n)) (at_another n e.0 (λ same. omega (arith, same, past.0))) ∙ found))))

-- one that goes is not missed
left_but : (which : Which) (place : ℕ) (jobs : List (ℕ × Hinted)) (n : ℕ) (job : Hinted) → job_at jobs n ≡ Some job → goes which place job.job ≡ true → left_of which place (jobs_of (without n jobs)) ≡ left_of which place (jobs_of jobs)
left_but which place [] n job found it = absurd (cc)
left_but which place (e ∷ jobs) n job found it = by (left_but which place jobs n job) (is_at (nat_cmp n) e.0) refl
  where
    by : (job_at jobs n ≡ Some job → goes which place job.job ≡ true → left_of which place (jobs_of (without n jobs)) ≡ left_of which place (jobs_of jobs))
        → (b : Bool) → is_at (nat_cmp n) e.0 ≡ b → left_of which place (jobs_of (without n (e ∷ jobs))) ≡ left_of which place (jobs_of (e ∷ jobs))
    by later true at =
        let one : Some e.1 ≡ Some job = sym (ap (λ (b : Bool). cond b (Some e.1) (job_at jobs n)) at) ∙ found in
        let same : e.1 ≡ job = cc in
        ap (λ (b : Bool). left_of which place (jobs_of (cond b jobs (e ∷ without n jobs)))) at
        ∙ sym (left_at which place e.1.job (jobs_of jobs) true (ap (λ (h : Hinted). goes which place h.job) same ∙ it))
    by later false at =
        let more : left_of which place (jobs_of (without n jobs)) ≡ left_of which place (jobs_of jobs) = later (sym (ap (λ (b : Bool). cond b (Some e.1) (job_at jobs n)) at) ∙ found) it in
        ap (λ (b : Bool). left_of which place (jobs_of (cond b jobs (e ∷ without n jobs)))) at
        ∙ left_more which place e.1.job (jobs_of (without n jobs))
        ∙ ap (λ (js : List HostJob). cond (goes which place e.1.job) js (e.1.job ∷ js)) more
        ∙ sym (left_more which place e.1.job (jobs_of jobs))

-- the jobs of a record are gone over as far as `from`: those of `start` that are to be left are still there
pub record IsForgetting (which : Which) (place from : ℕ) (start : List HostJob) (jobs : List (ℕ × Hinted)) (keys : List Key) (next : ℕ) : Type 0 where
  pub sound : AreSound jobs keys next
  pub same : left_of which place (jobs_of jobs) ≡ left_of which place start
  pub done : (n : ℕ) (job : Hinted) → n < from → job_at jobs n ≡ Some job → goes which place job.job ≡ false

-- the job of a key
pub record IsJobOn (jobs : List (ℕ × Hinted)) (place n : ℕ) : Type 0 where
  pub job : Hinted
  pub there : job_at jobs n ≡ Some job
  pub of_it : is_on place job.job ≡ true

pub job_of : (jobs : List (ℕ × Hinted)) (keys : List Key) (place n : ℕ) → AreKeyed jobs keys → has_key keys place n ≡ true → IsJobOn jobs place n
job_of jobs keys place n keyed has = by (job_at jobs n) refl
  where
    by : (o : Option Hinted) → job_at jobs n ≡ o → IsJobOn jobs place n
    by None is = absurd (false≢true (sym (ap (is_one_on place) is) ∙ sym (keyed place n) ∙ has))
    by (Some job) is = record { job = job; there = is; of_it = sym (ap (is_one_on place) is) ∙ sym (keyed place n) ∙ has }

pub begins : (which : Which) (place : ℕ) (jobs : List (ℕ × Hinted)) (keys : List Key) (next : ℕ) → AreSound jobs keys next → IsForgetting which place 0 (jobs_of jobs) jobs keys next
begins which place jobs keys next sound = record { sound = sound; same = refl; done = λ n job under found. absurd (omega (arith, under)) }

module _ (which : Which) (place from : ℕ) (start : List HostJob) (jobs : List (ℕ × Hinted)) (keys : List Key) (next : ℕ) (so : IsForgetting which place from start jobs keys next) where
  -- a job without a key doesn't go
  spared : (n : ℕ) (job : Hinted) → job_at jobs n ≡ Some job → has_key keys place n ≡ false → goes which place job.job ≡ false
  spared n job found none = and_right _ _ (sym (ap (is_one_on place) found) ∙ sym (so.sound.keyed place n) ∙ none)

  -- where the record has no more jobs, it is done
  pub ends : HasNoneFrom keys place from → jobs_of jobs ≡ left_of which place start
  ends none = sym (left_all which place jobs 0 next so.sound.rise (λ n job found.
      elim (cases_lt n from) [
        | inl under ↦ so.done n job under found
        | inr past ↦ spared n job found (none n past)
      ])) ∙ so.same

  module _ (number : ℕ) (it : IsNextOn keys place from number) where
    -- the next job, and that no number comes after the next of all
    pub next_job : IsJobOn jobs place number
    next_job = job_of jobs keys place number so.sound.keyed it.here

    pub in_bounds : number < next
    in_bounds = let j = next_job in let l = below_next jobs 0 next number j.job so.sound.rise j.there in l.1

    passed : (n : ℕ) (job : Hinted) → n < number → job_at jobs n ≡ Some job → goes which place job.job ≡ false
    passed n job under found =
        elim (cases_lt n from) [
          | inl before ↦ so.done n job before found
          | inr after ↦ spared n job found (it.none n after under)
        ]

    module _ (job : Hinted) (there : job_at jobs number ≡ Some job) where
      -- it stays
      pub stays : is_of_kind which job.job ≡ false → IsForgetting which place (number + 1) start jobs keys next
      stays none = record {
        sound = so.sound;
        same = so.same;
        done = λ n other under found.
            elim (cases_eq n number) [
              | inl last ↦
                  let one : Some other ≡ Some job = sym found ∙ ap (job_at jobs) last ∙ there in
                  let same : other ≡ job = cc in
                  and_left _ _ (ap (λ (h : Hinted). is_of_kind which h.job) same ∙ none)
              | inr apart ↦ passed n other (omega (arith, under, apart)) found
            ];
      }

      -- it goes
      pub leaves : (left : List (ℕ × Hinted)) (unkeyed : List Key) → is_of_kind which job.job ≡ true → IsWithout jobs left number → AreKeyed left unkeyed → IsForgetting which place (number + 1) start left unkeyed next
      leaves left unkeyed one out keyed =
          let j = next_job in
          let is : Some j.job ≡ Some job = sym j.there ∙ there in
          let same : j.job ≡ job = cc in
          record {
            sound = record { rise = subst (λ (l : List (ℕ × Hinted)). Rise l 0 next) (sym out.entries) (rise_but jobs 0 next number so.sound.rise); fits = so.sound.fits; keyed = keyed };
            same = ap (λ (l : List (ℕ × Hinted)). left_of which place (jobs_of l)) out.entries
                ∙ left_but which place jobs number job there (and_from _ _ one (ap (λ (h : Hinted). is_on place h.job) (sym same) ∙ j.of_it)) ∙ so.same;
            done = λ n other under found.
                elim (cases_eq n number) [
                  | inl last ↦
                      let none : None ≡ Some other = sym (out.found n ∙ ap (λ (b : Bool). cond b None (job_at jobs n)) (at_is number n ∙ eq-eqb n number last)) ∙ found in
                      absurd (cc)
                  | inr apart ↦
                      let was : job_at jobs n ≡ Some other = sym (out.found n ∙ ap (λ (b : Bool). cond b None (job_at jobs n)) (at_is number n ∙ ne_eqb n number apart)) ∙ found in
                      passed n other (omega (arith, under, apart)) was
                ];
          }
