-- What the records hold, by number and in the map of those that are there.
use Rattle.std.proofs.Common.{◌≡◌, ◌≢◌, ℕ, zero, suc, ◌+◌, ◌<◌, ◌≤◌, Bool, cond, Option, None, Some, List, [], ◌∷◌, length, refl, ap, ◌∙◌, sym, arith, inl, inr}
use Rattle.std.specs.Prelude.{slice_set, slice_index_or}
use Rattle.std.specs.List.{AllByRecursion}
use Rattle.std.specs.List.Sorted.{IsStrictlySortedBy}
use Rattle.std.specs.Option.{unwrap_or}
use Rattle.std.specs.Ordering.{nat_cmp}
use Rattle.std.specs.declared.cmp.Ordering.TheVariants.{Less}
use Rattle.std.specs.BTreeMap.{is_at}
use Rattle.std.specs.Map.{lookup, keys_of}
use Rattle.std.proofs.lemmas.Bool.{cases_eq, cases_lt}
use Rattle.std.proofs.lemmas.List.{set_past}
use Rattle.slab.specs.Slab.{Slab}
use Rattle.wasi_records.specs.declared.records.Record.{Record}
use Rattle.wasi_records.specs.declared.records.Record.TheVariants.{Gone}
use Rattle.wasi_records.specs.declared.record_list.NumberedRecord.{NumberedRecord}
use Rattle.record_common.specs.Sides.{Weight}
use Rattle.wasi_records.specs.Sides.{held_by, held_in}
use Rattle.wasi_records.specs.RecordMap.{record_under, record_in, records_of, numbered, IsSound}
use Rattle.wasi_records.proofs.Numbers.{at_itself, at_another}
use Rattle.wasi_records.proofs.PipeCounts.{more_in}
use Rattle.record_common.proofs.SideCounts.{same_tally}
use Rattle.wasi_records.proofs.RecordMaps.{length_numbered, read_numbered, numbered_same, set_numbered, none_led, none_given}

pub length_records_of : (s : Slab NumberedRecord) (es : List (ℕ × ℕ)) → length (records_of s es) ≡ length es
length_records_of s [] = refl
length_records_of s (e ∷ es) = ap suc (length_records_of s es)

-- a record comes in the place of another
pub held_put : (weight : Weight) (rs : List Record) (i : ℕ) (w : Record) → i < length rs → held_in (slice_set rs i w) weight + held_by (slice_index_or rs i Gone) weight ≡ held_in rs weight + held_by w weight
held_put weight [] i w below = absurd (omega (arith, below))
held_put weight (x ∷ rs) zero w below = omega arith
held_put weight (x ∷ rs) (suc i) w below = let later = held_put weight rs i w (omega (arith, below)) in omega arith

-- keys that are above this number have nothing at it
pub fresh : (h : ℕ) (es : List (ℕ × ℕ)) → AllByRecursion (λ y. nat_cmp h y ≡ Less) (keys_of es) → lookup (is_at (nat_cmp h)) es ≡ None
fresh h [] all = refl
fresh h (e ∷ es) all = rw all.0 (fresh h es all.1)

-- where no record is, none holds anything
held_none : (w : Weight) (f : ℕ → Record) (n : ℕ) → ((k : ℕ) → f k ≡ Gone) → held_in (numbered f n) w ≡ 0
held_none w f zero none = refl
held_none w f (suc n) none = more_in w (numbered f n) (f n) (ap (λ r. held_by r w) (none n)) ∙ held_none w f n none

-- the record of a number that leads here, or nowhere
abbrev pub led_to : Slab NumberedRecord → ℕ → Option ℕ → Record
led_to s k None = Gone
led_to s k (Some key) = record_under s key k

abbrev pub record_led : Slab NumberedRecord → List (ℕ × ℕ) → ℕ → Record
record_led s es k = led_to s k (lookup (is_at (nat_cmp k)) es)

-- as many by number as in the map
held_led : (w : Weight) (s : Slab NumberedRecord) (es : List (ℕ × ℕ)) (n : ℕ) → IsStrictlySortedBy nat_cmp (keys_of es) → ((q : ℕ) → n ≤ q → record_led s es q ≡ Gone) → held_in (records_of s es) w ≡ held_in (numbered (record_led s es) n) w
unfolding IsStrictlySortedBy
held_led w s [] n sorted none = sym (held_none w (record_led s []) n (λ k. refl))
held_led w s (e ∷ es) n sorted none =
    let later = held_led w s es n sorted.1 rest in
    elim (cases_lt e.0 n) [
      | inl lower ↦
          let put = held_put w (numbered (record_led s es) n) e.0 value (rw (length_numbered (record_led s es) n) lower) in
          let was : held_by (slice_index_or (numbered (record_led s es) n) e.0 Gone) w ≡ 0 = ap (λ r. held_by r w) (read_numbered (record_led s es) n e.0 Gone lower ∙ ap (led_to s e.0) first) in
          let now : held_in (numbered (record_led s (e ∷ es)) n) w ≡ held_in (slice_set (numbered (record_led s es) n) e.0 value) w = ap (λ rs. held_in rs w) written in omega arith
      | inr upper ↦
          let nothing : held_by value w ≡ 0 = ap (λ r. held_by r w) (sym here ∙ none e.0 upper) in
          let now : held_in (numbered (record_led s (e ∷ es)) n) w ≡ held_in (numbered (record_led s es) n) w = ap (λ rs. held_in rs w) (written ∙ set_past (numbered (record_led s es) n) e.0 value (rw (length_numbered (record_led s es) n) upper)) in omega arith
    ]
  where
    value : Record
    value = record_under s e.1 e.0

    first : lookup (is_at (nat_cmp e.0)) es ≡ None
    first = fresh e.0 es sorted.0

    here : record_led s (e ∷ es) e.0 ≡ value
    here = ap (λ (b : Bool). led_to s e.0 (cond b (Some e.1) (lookup (is_at (nat_cmp e.0)) es))) (at_itself e.0)

    others : (k : ℕ) → k ≢ e.0 → record_led s (e ∷ es) k ≡ record_led s es k
    others k other = ap (λ (b : Bool). led_to s k (cond b (Some e.1) (lookup (is_at (nat_cmp k)) es))) (at_another k e.0 (λ same. other (sym same)))

    rest : (q : ℕ) → n ≤ q → record_led s es q ≡ Gone
    rest q from =
        elim (cases_eq q e.0) [
          | inl same ↦ ap (record_led s es) same ∙ ap (led_to s e.0) first
          | inr other ↦ sym (others q other) ∙ none q from
        ]

    written : numbered (record_led s (e ∷ es)) n ≡ slice_set (numbered (record_led s es) n) e.0 value
    written = set_numbered (record_led s es) (record_led s (e ∷ es)) n e.0 value (λ b. here) others

records_held : (w : Weight) (s : Slab NumberedRecord) (keys : List (ℕ × ℕ)) (n : ℕ) → IsStrictlySortedBy nat_cmp (keys_of keys) → IsSound s keys n → held_in (records_of s keys) w ≡ held_in (numbered (record_in s keys) n) w
records_held w s keys n sorted sound =
    held_led w s keys n sorted (λ q from. same q ∙ none_given s keys n sound q from) ∙ ap (λ rs. held_in rs w) (numbered_same (record_in s keys) (record_led s keys) n (λ k below. same k))
  where
    same : (k : ℕ) → record_led s keys k ≡ record_in s keys k
    same k = by (lookup (is_at (nat_cmp k)) keys) refl
      where
        by : (o : Option ℕ) → lookup (is_at (nat_cmp k)) keys ≡ o → record_led s keys k ≡ record_in s keys k
        by None e = ap (led_to s k) e ∙ sym (none_led s keys n sound k e)
        by (Some key) e = ap (led_to s k) e ∙ sym (ap (λ (o : Option ℕ). record_under s (unwrap_or o 0) k) e)

pub held_records : (s : Slab NumberedRecord) (keys : List (ℕ × ℕ)) (n : ℕ) → IsStrictlySortedBy nat_cmp (keys_of keys) → IsSound s keys n → held_in (records_of s keys) ≡ held_in (numbered (record_in s keys) n)
held_records s keys n sorted sound = same_tally (λ w. records_held w s keys n sorted sound)
