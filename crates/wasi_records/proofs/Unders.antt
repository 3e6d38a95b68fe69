-- What the records count for a context, by number and in the map of those that are there.
use Rattle.std.proofs.Common.{◌≡◌, ◌≢◌, ◌⊎◌, ℕ, zero, suc, ◌+◌, ◌-◌, ◌≤◌, Bool, cond, Option, None, Some, List, [], ◌∷◌, refl, ap, ◌∙◌, sym, arith, inl, inr}
use Rattle.std.specs.Prelude.{slice_set, slice_index_or}
use Rattle.std.specs.List.Sorted.{IsStrictlySortedBy}
use Rattle.std.specs.Option.{unwrap_or}
use Rattle.std.specs.Ordering.{nat_cmp}
use Rattle.std.specs.BTreeMap.{is_at}
use Rattle.std.specs.Map.{lookup, keys_of}
use Rattle.std.proofs.lemmas.Bool.{cases_eq, cases_lt, eq-eqb, ne_eqb}
use Rattle.std.proofs.lemmas.List.{set_past}
use Rattle.slab.specs.Slab.{Slab}
use Rattle.wasi_records.specs.declared.records.Record.{Record}
use Rattle.wasi_records.specs.declared.records.Record.TheVariants.{Gone}
use Rattle.wasi_records.specs.declared.record_list.NumberedRecord.{NumberedRecord}
use Rattle.wasi_records.specs.RecordMap.{record_under, record_in, numbered, IsSound}
use Rattle.wasi_records.specs.Numbered.{item_at}
use Rattle.wasi_records.specs.Totals.{used_under}
use Rattle.wasi_records.specs.Used.{used_in, used}
use Rattle.wasi_records.proofs.HeldMaps.{fresh, led_to, record_led}
use Rattle.wasi_records.proofs.Numbers.{at_itself, at_another}
use Rattle.wasi_records.proofs.RecordMaps.{item, length_numbered, read_numbered, numbered_same, set_numbered, none_led, none_given}
use Rattle.wasi_records.proofs.Sums.{used_put, used_more}

-- where no record is, none counts
used_none : (context : ℕ) (f : ℕ → Record) (n : ℕ) → ((k : ℕ) → f k ≡ Gone) → used context (numbered f n) ≡ 0
used_none context f zero none = refl
used_none context f (suc n) none =
    let more = used_more context (numbered f n) (f n) in
    let last = ap (used_in context) (none n) in
    let before = used_none context f n none in omega (arith, more, last, before)

-- as much in the map as by number, but for one record
used_led : (context place : ℕ) (s : Slab NumberedRecord) (es : List (ℕ × ℕ)) (n : ℕ) → IsStrictlySortedBy nat_cmp (keys_of es) → ((q : ℕ) → n ≤ q → record_led s es q ≡ Gone)
    → used_under s place context es + used_in context (record_led s es place) ≡ used context (numbered (record_led s es) n)
unfolding IsStrictlySortedBy
used_led context place s [] n sorted none = sym (used_none context (record_led s []) n (λ k. refl))
used_led context place s (e ∷ es) n sorted none = by_place (used_led context place s es n sorted.1 rest) (cases_eq e.0 place)
  where
    value : Record
    value = record_under s e.1 e.0

    first : lookup (is_at (nat_cmp e.0)) es ≡ None
    first = fresh e.0 es sorted.0

    here : record_led s (e ∷ es) e.0 ≡ value
    here = ap (λ (b : Bool). led_to s e.0 (cond b (Some e.1) (lookup (is_at (nat_cmp e.0)) es))) (at_itself e.0)

    others : (k : ℕ) → k ≢ e.0 → record_led s (e ∷ es) k ≡ record_led s es k
    others k other = ap (λ (b : Bool). led_to s k (cond b (Some e.1) (lookup (is_at (nat_cmp k)) es))) (at_another k e.0 (λ same. other (sym same)))

    rest : (q : ℕ) → n ≤ q → record_led s es q ≡ Gone
    rest q from =
        elim (cases_eq q e.0) [
          | inl same ↦ ap (record_led s es) same ∙ ap (led_to s e.0) first
          | inr other ↦ sym (others q other) ∙ none q from
        ]

    written : numbered (record_led s (e ∷ es)) n ≡ slice_set (numbered (record_led s es) n) e.0 value
    written = set_numbered (record_led s es) (record_led s (e ∷ es)) n e.0 value (λ b. here) others

    -- the record joins the sum
    joins : used context (numbered (record_led s (e ∷ es)) n) ≡ used context (numbered (record_led s es) n) + used_in context value
    joins =
        let now = ap (used context) written in
        elim (cases_lt e.0 n) [
          | inl lower ↦
              let put = used_put context (numbered (record_led s es) n) e.0 value (rw (length_numbered (record_led s es) n) lower) in
              let was : used_in context (slice_index_or (numbered (record_led s es) n) e.0 Gone) ≡ 0 = ap (used_in context) (read_numbered (record_led s es) n e.0 Gone lower ∙ ap (led_to s e.0) first) in
              omega (arith, now, put, was)
          | inr upper ↦
              let nothing : used_in context value ≡ 0 = ap (used_in context) (sym here ∙ none e.0 upper) in
              let same = ap (used context) (set_past (numbered (record_led s es) n) e.0 value (rw (length_numbered (record_led s es) n) upper)) in
              omega (arith, now, nothing, same)
        ]

    by_place : used_under s place context es + used_in context (record_led s es place) ≡ used context (numbered (record_led s es) n) → (e.0 ≡ place) ⊎ (e.0 ≢ place)
        → used_under s place context (e ∷ es) + used_in context (record_led s (e ∷ es) place) ≡ used context (numbered (record_led s (e ∷ es)) n)
    by_place l (inl at) =
        let left : used_under s place context (e ∷ es) ≡ 0 + used_under s place context es = ap (λ (b : Bool). cond b 0 (used_in context value) + used_under s place context es) (eq-eqb e.0 place at) in
        let it : used_in context (record_led s (e ∷ es) place) ≡ used_in context value = ap (λ (q : ℕ). used_in context (record_led s (e ∷ es) q)) (sym at) ∙ ap (used_in context) here in
        let was : used_in context (record_led s es place) ≡ 0 = ap (λ (q : ℕ). used_in context (record_led s es q)) (sym at) ∙ ap (λ o. used_in context (led_to s e.0 o)) first in
        let j = joins in omega (arith, left, it, was, l, j)
    by_place l (inr apart) =
        let left : used_under s place context (e ∷ es) ≡ used_in context value + used_under s place context es = ap (λ (b : Bool). cond b 0 (used_in context value) + used_under s place context es) (ne_eqb e.0 place apart) in
        let it = ap (used_in context) (others place (λ same. apart (sym same))) in
        let j = joins in omega (arith, left, it, l, j)

pub used_map : (context place : ℕ) (s : Slab NumberedRecord) (keys : List (ℕ × ℕ)) (n : ℕ) → IsStrictlySortedBy nat_cmp (keys_of keys) → IsSound s keys n
    → used_under s place context keys + used_in context (record_in s keys place) ≡ used context (numbered (record_in s keys) n)
used_map context place s keys n sorted sound =
    let led = used_led context place s keys n sorted (λ q from. same q ∙ none_given s keys n sound q from) in
    let all = ap (used context) (numbered_same (record_in s keys) (record_led s keys) n (λ k below. same k)) in
    let one = ap (used_in context) (same place) in omega (arith, led, all, one)
  where
    same : (k : ℕ) → record_led s keys k ≡ record_in s keys k
    same k = by (lookup (is_at (nat_cmp k)) keys) refl
      where
        by : (o : Option ℕ) → lookup (is_at (nat_cmp k)) keys ≡ o → record_led s keys k ≡ record_in s keys k
        by None e = ap (led_to s k) e ∙ sym (none_led s keys n sound k e)
        by (Some key) e = ap (led_to s k) e ∙ sym (ap (λ (o : Option ℕ). record_under s (unwrap_or o 0) k) e)

-- what all others count
pub under_is : (context place : ℕ) (s : Slab NumberedRecord) (keys : List (ℕ × ℕ)) (n : ℕ) → IsStrictlySortedBy nat_cmp (keys_of keys) → IsSound s keys n
    → used_under s place context keys ≡ used context (numbered (record_in s keys) n) - used_in context (item_at (numbered (record_in s keys) n) place)
under_is context place s keys n sorted sound =
    let all = used_map context place s keys n sorted sound in
    let it = ap (used_in context) (item s keys n sound place) in omega (arith, all, it)
