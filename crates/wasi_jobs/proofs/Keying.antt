-- The keys of the jobs, as jobs come and go, and as a record's next job is looked for.
use Rattle.std.proofs.Common.{◌≡◌, ◌≢◌, ℕ, ◌≤◌, ◌==◌, ◌&&◌, Bool, true, false, cond, Option, None, Some, List, [], ◌∷◌, refl, ap, ◌∙◌, sym, subst, arith, inl, inr}
use Rattle.std.specs.List.{list_any}
use Rattle.std.specs.Ordering.{nat_cmp}
use Rattle.std.specs.BTreeMap.{is_at}
use Rattle.std.specs.BTreeSet.{BTreeSet, IsKeyRangeOf}
use Rattle.std.specs.declared.ops.Bound.TheVariants.{Included, Unbounded}
use Rattle.std.proofs.lemmas.Bool.{eqb-true, eq-eqb, ne_eqb, and_parts, and_from, and_left, and_right, cases_eq, cases_Bool, false_from_ne_true}
use Rattle.wasi_jobs.specs.declared.job.HostJob.{HostJob}
use Rattle.wasi_jobs.specs.declared.ahead.Hinted.{Hinted}
use Rattle.wasi_jobs.specs.declared.job_list.Key.{Key}
use Rattle.wasi_jobs.specs.Jobs.{job_place, is_on}
use Rattle.wasi_jobs.specs.Keys.{job_at, key_cmp, has_key, is_one_on, AreKeyed, HasNoneFrom, IsNextOn}
use Rattle.wasi_jobs.proofs.Jobs.{on_place}
use Rattle.wasi_jobs.proofs.Orders.{at_is, key_is, places_rise, numbers_rise, keys_rise}

abbrev key : ℕ → ℕ → Key
key place number = record { place = place; number = number }

on_own : (job : HostJob) → is_on (job_place job) job ≡ true
on_own job = on_place _ job ∙ eq-eqb _ _ refl

on_other : (place : ℕ) (job : HostJob) → place ≢ job_place job → is_on place job ≡ false
on_other place job other = on_place place job ∙ ne_eqb _ _ (λ same. other (sym same))

-- a number's job becomes `w`, and its key is there or not; no other changes
abbrev Reaches : List (ℕ × Hinted) → List (ℕ × Hinted) → ℕ → Option Hinted → Type 0
Reaches old new number w = (q : ℕ) → job_at new q ≡ cond (is_at (nat_cmp number) q) w (job_at old q)

abbrev Turns : List Key → List Key → Key → Bool → Type 0
Turns old new m b = (q : Key) → list_any (is_at (key_cmp q)) new ≡ cond (is_at (key_cmp m) q) b (list_any (is_at (key_cmp q)) old)

module _ (old new : List (ℕ × Hinted)) (keys rekeyed : List Key) (place number : ℕ) where
  turned : (b : Bool) (p n : ℕ) (c : Bool) → Turns keys rekeyed (key place number) b → (p == place && n == number) ≡ c → has_key rekeyed p n ≡ cond c b (has_key keys p n)
  turned b p n c turn is = turn (key p n) ∙ ap (λ (z : Bool). cond z b (has_key keys p n)) (key_is (key place number) (key p n) ∙ is)

  reached : (w : Option Hinted) (n : ℕ) (c : Bool) → Reaches old new number w → (n == number) ≡ c → job_at new n ≡ cond c w (job_at old n)
  reached w n c reach is = reach n ∙ ap (λ (z : Bool). cond z w (job_at old n)) (at_is number n ∙ is)

  keyed : (w : Option Hinted) (b : Bool) → Reaches old new number w → Turns keys rekeyed (key place number) b → AreKeyed old keys
      → is_one_on place w ≡ b → ((p : ℕ) → p ≢ place → is_one_on p w ≡ is_one_on p (job_at old number)) → AreKeyed new rekeyed
  keyed w b reach turn before own others p n =
      elim (cases_eq n number) [
        | inl same ↦
            let now : job_at new n ≡ w = reached w n true reach (eq-eqb n number same) in
            elim (cases_eq p place) [
              | inl here ↦
                  turned b p n true turn (and_from _ _ (eq-eqb p place here) (eq-eqb n number same))
                  ∙ sym own ∙ ap (λ (z : ℕ). is_one_on z w) (sym here) ∙ ap (is_one_on p) (sym now)
              | inr other ↦
                  turned b p n false turn (and_left _ _ (ne_eqb p place other))
                  ∙ before p n ∙ ap (λ (k : ℕ). is_one_on p (job_at old k)) same ∙ sym (others p other) ∙ ap (is_one_on p) (sym now)
            ]
        | inr apart ↦
            turned b p n false turn (and_right _ _ (ne_eqb n number apart)) ∙ before p n ∙ ap (is_one_on p) (sym (reached w n false reach (ne_eqb n number apart)))
      ]

-- a job came with its key
pub keyed_put : (old new : List (ℕ × Hinted)) (keys rekeyed : List Key) (number : ℕ) (hinted : Hinted) (m : Key) → m ≡ key (job_place hinted.job) number
    → job_at old number ≡ None → Reaches old new number (Some hinted) → Turns keys rekeyed m true → AreKeyed old keys → AreKeyed new rekeyed
keyed_put old new keys rekeyed number hinted m is fresh reach turn before =
    keyed old new keys rekeyed (job_place hinted.job) number (Some hinted) true reach (subst (λ (z : Key). Turns keys rekeyed z true) is turn) before (on_own hinted.job)
    (λ p other. on_other p hinted.job other ∙ ap (is_one_on p) (sym fresh))

-- a job went with its key
pub keyed_out : (old new : List (ℕ × Hinted)) (keys rekeyed : List Key) (number : ℕ) (hinted : Hinted) (m : Key) → m ≡ key (job_place hinted.job) number
    → job_at old number ≡ Some hinted → Reaches old new number None → Turns keys rekeyed m false → AreKeyed old keys → AreKeyed new rekeyed
keyed_out old new keys rekeyed number hinted m is was reach turn before =
    keyed old new keys rekeyed (job_place hinted.job) number None false reach (subst (λ (z : Key). Turns keys rekeyed z false) is turn) before refl
    (λ p other. sym (ap (is_one_on p) was ∙ on_other p hinted.job other))

-- a key that came and went again leaves the keys as they were
pub keyed_undone : (jobs : List (ℕ × Hinted)) (keys more again : List Key) (number : ℕ) (m : Key) → m.number ≡ number → job_at jobs number ≡ None → Turns keys more m true → Turns more again m false → AreKeyed jobs keys → AreKeyed jobs again
keyed_undone jobs keys more again number m its fresh came went before p n =
    elim (cases_Bool (p == m.place && n == m.number)) [
      | inl here ↦
          let same : n ≡ number = eqb-true _ _ (and_parts _ _ here).1 ∙ its in
          turned jobs jobs more again m.place m.number false p n true went here ∙ ap (is_one_on p) (sym fresh) ∙ ap (λ (k : ℕ). is_one_on p (job_at jobs k)) (sym same)
      | inr other ↦ turned jobs jobs more again m.place m.number false p n false went other ∙ turned jobs jobs keys more m.place m.number true p n false came other ∙ before p n
    ]

-- == the next job of a record
abbrev pub Ranges : BTreeSet Key → ℕ → ℕ → List Key → Type 0
Ranges s place from r = IsKeyRangeOf key_cmp (Included (key place from)) Unbounded s r

pub next_found : (s : BTreeSet Key) (place from : ℕ) (r : List Key) (k : Key) (rest : List Key) → Ranges s place from r → r ≡ k ∷ rest → k.place ≡ place → IsNextOn s.keys place from k.number
next_found s place from r k rest range is same =
    let q = subst (Ranges s place from) is range in
    record {
      after = numbers_rise (key place from) k (sym same) q.1.0.0;
      here = ap (λ (p : ℕ). has_key s.keys p k.number) (sym same) ∙ q.1.1;
      none = λ other after under. false_from_ne_true _ (λ has. (
          let le = q.2 (key place other) (keys_rise (key place from) (key place other) refl after, tt) has in
          let up : k.number ≤ other = numbers_rise k (key place other) same le in
          omega (arith, up, under)));
    }

pub next_other : (s : BTreeSet Key) (place from : ℕ) (r : List Key) (k : Key) (rest : List Key) → Ranges s place from r → r ≡ k ∷ rest → k.place ≢ place → HasNoneFrom s.keys place from
next_other s place from r k rest range is apart number after =
    let q = subst (Ranges s place from) is range in
    false_from_ne_true _ (λ has. (
    let le = q.2 (key place number) (keys_rise (key place from) (key place number) refl after, tt) has in
    let low : place ≤ k.place = places_rise (key place from) k q.1.0.0 in
    let high : k.place ≤ place = places_rise k (key place number) le in
    apart (omega (arith, low, high))))

pub next_none : (s : BTreeSet Key) (place from : ℕ) (r : List Key) → Ranges s place from r → r ≡ [] → HasNoneFrom s.keys place from
next_none s place from r range is number after = range.5 is (key place number) (keys_rise (key place from) (key place number) refl after, tt)
