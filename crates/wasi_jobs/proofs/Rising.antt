-- The jobs by number, as they come and go.
use Rattle.std.proofs.Common.{◌≡◌, ◌≢◌, ℕ, ◌+◌, ◌<◌, ◌≤◌, leb, Bool, true, false, ◌&&◌, None, Some, List, [], ◌∷◌, ◌++◌, refl, ap, ◌∙◌, sym, subst, arith, inl, inr}
use Rattle.std.specs.Cmp.{ranked}
use Rattle.std.specs.Ordering.{nat_cmp, is_le, MatchOrdering}
use Rattle.std.specs.declared.cmp.Ordering.{Ordering}
use Rattle.std.specs.declared.cmp.Ordering.TheVariants.{Less, Equal, Greater}
use Rattle.std.specs.BTreeMap.{is_at, insert_entry}
use Rattle.std.specs.Map.{keys_of}
use Rattle.std.proofs.lemmas.Bool.{eqb-true, eq-eqb, lt-ltb, le-ltb, le-leb, lt-leb, cases_lt, cases_eq}
use Rattle.wasi_jobs.specs.declared.job.HostJob.{HostJob}
use Rattle.wasi_jobs.specs.JobList.{items_below, items_from}
use Rattle.wasi_jobs.specs.declared.ahead.Hinted.{Hinted}
use Rattle.wasi_jobs.specs.Entries.{jobs_of, without, inside, entries_from}
use Rattle.wasi_jobs.specs.Keys.{job_at, Rise}
use Rattle.wasi_jobs.proofs.Orders.{above, at_is, at_another}

-- the jobs below a number, and those from it on
abbrev pub lower : ℕ → List (ℕ × Hinted) → List HostJob
lower n jobs = items_below n (keys_of jobs) (jobs_of jobs)

abbrev pub upper : ℕ → List (ℕ × Hinted) → List HostJob
upper n jobs = items_from n (keys_of jobs) (jobs_of jobs)

-- the first job is below a number, or from it on
lower_first : (e : ℕ × Hinted) (jobs : List (ℕ × Hinted)) (n : ℕ) → e.0 < n → lower n (e ∷ jobs) ≡ e.1.job ∷ lower n jobs
lower_first e jobs n lt = rw (lt-ltb e.0 n lt) refl

lower_later : (e : ℕ × Hinted) (jobs : List (ℕ × Hinted)) (n : ℕ) → n ≤ e.0 → lower n (e ∷ jobs) ≡ lower n jobs
lower_later e jobs n le = rw (le-ltb e.0 n le) refl

upper_first : (e : ℕ × Hinted) (jobs : List (ℕ × Hinted)) (n : ℕ) → n ≤ e.0 → upper n (e ∷ jobs) ≡ e.1.job ∷ upper n jobs
upper_first e jobs n le = rw (le-leb n e.0 le) refl

upper_later : (e : ℕ × Hinted) (jobs : List (ℕ × Hinted)) (n : ℕ) → e.0 < n → upper n (e ∷ jobs) ≡ upper n jobs
upper_later e jobs n lt = rw (lt-leb n e.0 lt) refl

-- none is below a number that all are from on
lower_none : (jobs : List (ℕ × Hinted)) (low next n : ℕ) → Rise jobs low next → n ≤ low → lower n jobs ≡ []
lower_none [] low next n rise le = refl
lower_none (e ∷ jobs) low next n rise le = lower_later e jobs n (omega (arith, rise.0, le)) ∙ lower_none jobs _ next n rise.1 (omega (arith, rise.0, le))

upper_all : (jobs : List (ℕ × Hinted)) (low next n : ℕ) → Rise jobs low next → n ≤ low → upper n jobs ≡ jobs_of jobs
upper_all [] low next n rise le = refl
upper_all (e ∷ jobs) low next n rise le = upper_first e jobs n (omega (arith, rise.0, le)) ∙ ap (λ (js : List HostJob). e.1.job ∷ js) (upper_all jobs _ next n rise.1 (omega (arith, rise.0, le)))

-- those below a number and those from it on are all
pub whole : (jobs : List (ℕ × Hinted)) (low next n : ℕ) → Rise jobs low next → jobs_of jobs ≡ lower n jobs ++ upper n jobs
whole [] low next n rise = refl
whole (e ∷ jobs) low next n rise =
    elim (cases_lt e.0 n) [
      | inl lt ↦ rw (lower_first e jobs n lt, upper_later e jobs n lt) (ap (λ (js : List HostJob). e.1.job ∷ js) (whole jobs _ next n rise.1))
      | inr le ↦ rw (lower_later e jobs n le, lower_none jobs _ next n rise.1 (omega (arith, le)), upper_first e jobs n le, upper_all jobs _ next n rise.1 (omega (arith, le))) refl
    ]

-- the next number has no job, and a job's number is below the next
pub risen : (jobs : List (ℕ × Hinted)) (low next : ℕ) → Rise jobs low next → low ≤ next
risen [] low next rise = rise
risen (e ∷ jobs) low next rise = omega (arith, risen jobs _ next rise.1, rise.0)

pub below_next : (jobs : List (ℕ × Hinted)) (low next n : ℕ) (job : Hinted) → Rise jobs low next → job_at jobs n ≡ Some job → (low ≤ n) × (n < next)
below_next [] low next n job rise found = absurd (cc)
below_next (e ∷ jobs) low next n job rise found = by (below_next jobs _ next n job rise.1) (is_at (nat_cmp n) e.0) refl
  where
    by : (job_at jobs n ≡ Some job → (e.0 + 1 ≤ n) × (n < next)) → (b : Bool) → is_at (nat_cmp n) e.0 ≡ b → (low ≤ n) × (n < next)
    by later true at =
        let same : e.0 ≡ n = eqb-true _ _ (sym (at_is n e.0) ∙ at) in
        let under : e.0 + 1 ≤ next = risen jobs _ next rise.1 in (omega (arith, rise.0, same), omega (arith, under, same))
    by later false at = let l = later (rw at at found) in (omega (arith, l.0, rise.0), l.1)

pub none_next : (jobs : List (ℕ × Hinted)) (low next : ℕ) → Rise jobs low next → job_at jobs next ≡ None
none_next [] low next rise = refl
none_next (e ∷ jobs) low next rise =
    let under : e.0 + 1 ≤ next = risen jobs _ next rise.1 in
    rw (at_another next e.0 (λ same. omega (arith, same, under))) (none_next jobs _ next rise.1)

-- == the first from a number on
is_inside : (n : ℕ) (e : ℕ × Hinted) → inside n e ≡ leb n e.0
is_inside n e = by (nat_cmp n e.0) (ranked n e.0 _ refl)
  where
    by : (r : Ordering) → MatchOrdering r (n < e.0) (n ≡ e.0) (e.0 < n) → (is_le r && true) ≡ leb n e.0
    by Less lt = sym (le-leb n e.0 (omega (arith, lt)))
    by Equal same = sym (le-leb n e.0 (omega (arith, same)))
    by Greater gt = sym (lt-leb n e.0 gt)

from_first : (e : ℕ × Hinted) (jobs : List (ℕ × Hinted)) (n : ℕ) → n ≤ e.0 → entries_from n (e ∷ jobs) ≡ e ∷ entries_from n jobs
from_first e jobs n le = rw (is_inside n e ∙ le-leb n e.0 le) refl

from_later : (e : ℕ × Hinted) (jobs : List (ℕ × Hinted)) (n : ℕ) → e.0 < n → entries_from n (e ∷ jobs) ≡ entries_from n jobs
from_later e jobs n lt = rw (is_inside n e ∙ lt-leb n e.0 lt) refl

from_all : (jobs : List (ℕ × Hinted)) (low next n : ℕ) → Rise jobs low next → n ≤ low → entries_from n jobs ≡ jobs
from_all [] low next n rise le = refl
from_all (e ∷ jobs) low next n rise le = from_first e jobs n (omega (arith, rise.0, le)) ∙ ap (λ (l : List (ℕ × Hinted)). e ∷ l) (from_all jobs _ next n rise.1 (omega (arith, rise.0, le)))

-- where there is none
pub none_from : (jobs : List (ℕ × Hinted)) (n : ℕ) → entries_from n jobs ≡ [] → upper n jobs ≡ []
none_from [] n none = refl
none_from (e ∷ jobs) n none =
    elim (cases_lt e.0 n) [
      | inl lt ↦ upper_later e jobs n lt ∙ none_from jobs n (sym (from_later e jobs n lt) ∙ none)
      | inr le ↦ let bad : e ∷ entries_from n jobs ≡ [] = sym (from_first e jobs n le) ∙ none in absurd (cc)
    ]

-- and where there is one
pub record IsFirst (jobs : List (ℕ × Hinted)) (next n : ℕ) (e : ℕ × Hinted) (rest : List (ℕ × Hinted)) : Type 0 where
  pub after : n ≤ e.0
  pub under : e.0 < next
  pub here : upper n jobs ≡ e.1.job ∷ upper (e.0 + 1) jobs
  pub more : lower (e.0 + 1) jobs ≡ lower n jobs ++ e.1.job ∷ []
  pub same : lower e.0 jobs ≡ lower n jobs
  pub later : entries_from (e.0 + 1) jobs ≡ rest

pub first_from : (jobs : List (ℕ × Hinted)) (low next n : ℕ) (e : ℕ × Hinted) (rest : List (ℕ × Hinted)) → Rise jobs low next → entries_from n jobs ≡ e ∷ rest → IsFirst jobs next n e rest
first_from [] low next n e rest rise found = absurd (cc)
first_from (d ∷ jobs) low next n e rest rise found =
    elim (cases_lt d.0 n) [
      | inl lt ↦
          let f = first_from jobs _ next n e rest rise.1 (sym (from_later d jobs n lt) ∙ found) in
          let past : d.0 < e.0 = omega (arith, lt, f.after) in
          let past_it : d.0 < e.0 + 1 = omega (arith, past) in
          record {
            after = f.after;
            under = f.under;
            here = rw (upper_later d jobs n lt, upper_later d jobs (e.0 + 1) past_it) f.here;
            more = rw (lower_first d jobs n lt, lower_first d jobs (e.0 + 1) past_it) (ap (λ (js : List HostJob). d.1.job ∷ js) f.more);
            same = rw (lower_first d jobs n lt, lower_first d jobs e.0 past) (ap (λ (js : List HostJob). d.1.job ∷ js) f.same);
            later = from_later d jobs (e.0 + 1) past_it ∙ f.later;
          }
      | inr le ↦
          let it : d ∷ entries_from n jobs ≡ e ∷ rest = sym (from_first d jobs n le) ∙ found in
          let is : d ≡ e = cc in
          let others : entries_from n jobs ≡ rest = cc in
          subst (λ (z : ℕ × Hinted). IsFirst (d ∷ jobs) next n z rest) is (record {
            after = le;
            under = (let under : d.0 + 1 ≤ next = risen jobs _ next rise.1 in omega (arith, under));
            here = rw (upper_first d jobs n le, upper_later d jobs (d.0 + 1) (omega arith), upper_all jobs _ next n rise.1 (omega (arith, le)), upper_all jobs _ next (d.0 + 1) rise.1 (omega arith)) refl;
            more = rw (lower_first d jobs (d.0 + 1) (omega arith), lower_later d jobs n le, lower_none jobs _ next (d.0 + 1) rise.1 (omega arith), lower_none jobs _ next n rise.1 (omega (arith, le))) refl;
            same = rw (lower_later d jobs d.0 (omega arith), lower_later d jobs n le, lower_none jobs _ next d.0 rise.1 (omega arith), lower_none jobs _ next n rise.1 (omega (arith, le))) refl;
            later = from_later d jobs (d.0 + 1) (omega arith) ∙ from_all jobs _ next (d.0 + 1) rise.1 (omega arith) ∙ sym (from_all jobs _ next n rise.1 (omega (arith, le))) ∙ others;
          })
    ]

-- == a job comes, as the last
pub insert_last : (jobs : List (ℕ × Hinted)) (low next : ℕ) (job : Hinted) → Rise jobs low next → insert_entry nat_cmp jobs next job ≡ jobs ++ (next, job) ∷ []
insert_last [] low next job rise = refl
insert_last (e ∷ jobs) low next job rise =
    let under : e.0 + 1 ≤ next = risen jobs _ next rise.1 in
    rw (above next e.0 (omega (arith, under))) (ap (λ (r : List (ℕ × Hinted)). e ∷ r) (insert_last jobs _ next job rise.1))

pub rise_last : (jobs : List (ℕ × Hinted)) (low next : ℕ) (job : Hinted) → Rise jobs low next → Rise (jobs ++ (next, job) ∷ []) low (next + 1)
rise_last [] low next job rise = (rise, omega arith)
rise_last (e ∷ jobs) low next job rise = (rise.0, rise_last jobs _ next job rise.1)

-- == a job goes
pub rise_longer : (jobs : List (ℕ × Hinted)) (low from next : ℕ) → Rise jobs from next → low ≤ from → Rise jobs low next
rise_longer [] low from next rise le = omega (arith, rise, le)
rise_longer (e ∷ jobs) low from next rise le = (omega (arith, rise.0, le), rise.1)

-- the last one
pub rise_before : (jobs : List (ℕ × Hinted)) (low next : ℕ) (e : ℕ × Hinted) → Rise (jobs ++ e ∷ []) low next → Rise jobs low next
rise_before [] low next e rise = omega (arith, rise.0, rise.1)
rise_before (d ∷ jobs) low next e rise = (rise.0, rise_before jobs _ next e rise.1)

-- that of a number
but_first : (e : ℕ × Hinted) (jobs : List (ℕ × Hinted)) (n : ℕ) → e.0 ≡ n → without n (e ∷ jobs) ≡ jobs
but_first e jobs n same = rw (at_is n e.0 ∙ eq-eqb e.0 n same) refl

but_later : (e : ℕ × Hinted) (jobs : List (ℕ × Hinted)) (n : ℕ) → e.0 ≢ n → without n (e ∷ jobs) ≡ e ∷ without n jobs
but_later e jobs n other = rw (at_another n e.0 other) refl

pub rise_but : (jobs : List (ℕ × Hinted)) (low next n : ℕ) → Rise jobs low next → Rise (without n jobs) low next
rise_but [] low next n rise = rise
rise_but (e ∷ jobs) low next n rise =
    elim (cases_eq e.0 n) [
      | inl same ↦ rw (but_first e jobs n same) (rise_longer jobs low _ next rise.1 (omega (arith, rise.0)))
      | inr other ↦ rw (but_later e jobs n other) (rise.0, rise_but jobs _ next n rise.1)
    ]

pub lower_but : (jobs : List (ℕ × Hinted)) (low next n : ℕ) → Rise jobs low next → lower (n + 1) (without n jobs) ≡ lower n jobs
lower_but [] low next n rise = refl
lower_but (e ∷ jobs) low next n rise =
    elim (cases_eq e.0 n) [
      | inl same ↦ rw (but_first e jobs n same, lower_later e jobs n (omega (arith, same)), lower_none jobs _ next (n + 1) rise.1 (omega (arith, same)), lower_none jobs _ next n rise.1 (omega (arith, same))) refl
      | inr other ↦
          rw (but_later e jobs n other) (elim (cases_lt e.0 n) [
            | inl lt ↦ rw (lower_first e (without n jobs) (n + 1) (omega (arith, lt)), lower_first e jobs n lt) (ap (λ (js : List HostJob). e.1.job ∷ js) (lower_but jobs _ next n rise.1))
            | inr le ↦
                let past : n + 1 ≤ e.0 = omega (arith, le, other) in
                rw (lower_later e (without n jobs) (n + 1) past, lower_later e jobs n le) (lower_but jobs _ next n rise.1)
          ])
    ]

pub upper_but : (jobs : List (ℕ × Hinted)) (n : ℕ) → upper (n + 1) (without n jobs) ≡ upper (n + 1) jobs
upper_but [] n = refl
upper_but (e ∷ jobs) n =
    elim (cases_eq e.0 n) [
      | inl same ↦ rw (but_first e jobs n same, upper_later e jobs (n + 1) (omega (arith, same))) refl
      | inr other ↦
          rw (but_later e jobs n other) (elim (cases_lt e.0 (n + 1)) [
            | inl lt ↦ rw (upper_later e (without n jobs) (n + 1) lt, upper_later e jobs (n + 1) lt) (upper_but jobs n)
            | inr le ↦ rw (upper_first e (without n jobs) (n + 1) le, upper_first e jobs (n + 1) le) (ap (λ (js : List HostJob). e.1.job ∷ js) (upper_but jobs n))
          ])
    ]

pub from_but : (jobs : List (ℕ × Hinted)) (n from : ℕ) → n < from → entries_from from (without n jobs) ≡ entries_from from jobs
from_but [] n from lt = refl
from_but (e ∷ jobs) n from lt =
    elim (cases_eq e.0 n) [
      | inl same ↦ rw (but_first e jobs n same) (sym (from_later e jobs from (omega (arith, same, lt))))
      | inr other ↦
          rw (but_later e jobs n other) (elim (cases_lt e.0 from) [
            | inl below ↦ rw (from_later e (without n jobs) from below, from_later e jobs from below) (from_but jobs n from lt)
            | inr le ↦ rw (from_first e (without n jobs) from le, from_first e jobs from le) (ap (λ (l : List (ℕ × Hinted)). e ∷ l) (from_but jobs n from lt))
          ])
    ]
