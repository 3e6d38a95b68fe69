-- The records by number, as the slots and the map to their keys change.
use Rattle.std.proofs.Common.{◌≡◌, ◌≢◌, ◌⊎◌, ℕ, zero, suc, ◌+◌, ◌-◌, ◌<◌, ◌≤◌, ◌^◌, ◌==◌, Bool, true, false, cond, ◌&&◌, is_some, nat_lt, Option, None, Some, IsSome, List, [], ◌∷◌, ◌++◌, length, length-append, get_or, refl, ap, ◌∙◌, sym, arith, inl, inr}
use Rattle.std.specs.Prelude.{slice_set, slice_index_or}
use Rattle.std.specs.Option.{unwrap_or}
use Rattle.std.specs.Ordering.{nat_cmp}
use Rattle.std.specs.BTreeMap.{is_at}
use Rattle.std.specs.Map.{lookup}
use Rattle.std.proofs.lemmas.Bool.{cases_eq, cases_lt, and_parts, eqb-true, eq-eqb, ne_eqb}
use Rattle.std.proofs.lemmas.List.{get_or_append_left, get_or-append_right, get_or_past, set-append_left, set-append_right}
use Rattle.std.proofs.lemmas.List.Sums.{sum_by-set}
use Rattle.slab.specs.Slab.{Slab, get, slab_len, Updates, with_value}
use Rattle.slab.proofs.SlabLemmas.{ContainsKey-within, Updates-with_value}
use Rattle.wasi_records.specs.declared.records.Record.{Record}
use Rattle.wasi_records.specs.declared.records.Record.TheVariants.{Gone}
use Rattle.wasi_records.specs.declared.record_list.NumberedRecord.{NumberedRecord}
use Rattle.wasi_records.specs.Numbered.{Numbered, or_gone, item_at, with_item}
use Rattle.wasi_records.specs.RecordMap.{key_at, of_number, record_under, record_in, numbered, has_room, IsSound}
use Rattle.wasi_records.proofs.Numbers.{at_itself, at_another}

-- == the records by number
pub length_numbered : (f : ℕ → Record) (n : ℕ) → length (numbered f n) ≡ n
length_numbered f zero = refl
length_numbered f (suc n) = let l = length-append (numbered f n) (f n ∷ []) in let k = length_numbered f n in omega arith

pub numbered_same : (f g : ℕ → Record) (n : ℕ) → ((k : ℕ) → k < n → g k ≡ f k) → numbered g n ≡ numbered f n
numbered_same f g zero same = refl
numbered_same f g (suc n) same = rw (numbered_same f g n (λ k l. same k (omega (arith, l))), same n (omega arith)) refl

pub read_numbered : (f : ℕ → Record) (n p : ℕ) (d : Record) → p < n → slice_index_or (numbered f n) p d ≡ f p
read_numbered f zero p d below = absurd (omega (arith, below))
read_numbered f (suc n) p d below =
    let l = length_numbered f n in
    elim (cases_lt p n) [
      | inl lower ↦ get_or_append_left (numbered f n) (f n ∷ []) d p (rw l lower) ∙ read_numbered f n p d lower
      | inr last ↦
          let here : p ≡ n = omega (arith, below, last) in
          let first : p - n ≡ 0 = omega (arith, here) in
          get_or-append_right (numbered f n) (f n ∷ []) n p d l last ∙ ap (λ (i : ℕ). get_or (f n ∷ []) i d) first ∙ ap f (sym here)
    ]

-- a record is put in the place of the only one of a list, or beyond it
put_last : (x y w : Record) (i : ℕ) → (i ≡ 0 → y ≡ w) → (i ≢ 0 → y ≡ x) → y ∷ [] ≡ slice_set (x ∷ []) i w
put_last x y w zero here other = ap (λ (r : Record). r ∷ []) (here refl)
put_last x y w (suc i) here other = ap (λ (r : Record). r ∷ []) (other (λ e. omega (arith, e)))

pub set_numbered : (f g : ℕ → Record) (n p : ℕ) (w : Record) → (p < n → g p ≡ w) → ((k : ℕ) → k ≢ p → g k ≡ f k) → numbered g n ≡ slice_set (numbered f n) p w
set_numbered f g zero p w here others = refl
set_numbered f g (suc n) p w here others =
    let l = length_numbered f n in
    elim (cases_lt p n) [
      | inl lower ↦
          let apart : n ≢ p = λ e. omega (arith, e, lower) in
          rw (set_numbered f g n p w (λ b. here (omega (arith, b))) others, others n apart) (sym (set-append_left (numbered f n) (f n ∷ []) p w (rw l lower)))
      | inr upper ↦
          let below : numbered g n ≡ numbered f n = numbered_same f g n (λ k b. others k (λ e. omega (arith, e, b, upper))) in
          let last : g n ∷ [] ≡ slice_set (f n ∷ []) (p - n) w =
          put_last (f n) (g n) w (p - n) (λ e. (let at : p ≡ n = omega (arith, e, upper) in ap g (sym at) ∙ here (omega (arith, at)))) (λ e. others n (λ same. e (omega (arith, same)))) in
          rw (below, last) (sym (set-append_right (numbered f n) (f n ∷ []) n p w l upper))
    ]

-- the record of a number that wasn't given is none
pub at_numbered : (f : ℕ → Record) (n p : ℕ) → (n ≤ p → f p ≡ Gone) → f p ≡ item_at (numbered f n) p
at_numbered f n p none =
    let l = length_numbered f n in
    elim (cases_lt p n) [
      | inl lower ↦ sym (read_numbered f n p Gone lower)
      | inr upper ↦ none upper ∙ sym (get_or_past (numbered f n) p Gone (rw l upper))
    ]

-- == what is in a slot
-- a record of another number isn't in it
pub not_in : (number : ℕ) (o : Option NumberedRecord) → ((x : NumberedRecord) → o ≡ Some x → x.number ≢ number) → of_number number o ≡ None
not_in number None other = refl
not_in number (Some x) other = rw (ne_eqb x.number number (other x refl)) refl

pub in_itself : (number : ℕ) (x : NumberedRecord) → x.number ≡ number → of_number number (Some x) ≡ Some x.value
in_itself number x same = rw (eq-eqb x.number number same) refl

-- a record of this number is in it
pub record In (o : Option NumberedRecord) (number : ℕ) : Type 0 where
  pub slot : NumberedRecord
  pub stands : o ≡ Some slot
  pub named : slot.number ≡ number

pub is_in : (number : ℕ) (o : Option NumberedRecord) → is_some (of_number number o) ≡ true → In o number
is_in number None some = absurd (cc)
is_in number (Some x) some = by (x.number == number) refl
  where
    by : (b : Bool) → (x.number == number) ≡ b → In (Some x) number
    by true same = record { slot = x; stands = refl; named = eqb-true _ _ same }
    by false other = absurd (let no = rw other at some in cc)

pub none_in : (number : ℕ) (o : Option NumberedRecord) → is_some (of_number number o) ≡ false → of_number number o ≡ None
none_in number o none = by (of_number number o) refl
  where
    by : (r : Option Record) → of_number number o ≡ r → of_number number o ≡ None
    by None e = e
    by (Some x) e = absurd (let no = rw e at none in cc)

pub one_slot : (s : Slab NumberedRecord) (key : ℕ) (a b : NumberedRecord) → get s key ≡ Some a → get s key ≡ Some b → a ≡ b
one_slot s key a b first second = let e : Some a ≡ Some b = sym first ∙ second in cc

-- the slot that has the record of this number
pub named_in : (s : Slab NumberedRecord) (key number : ℕ) (x : NumberedRecord) → is_some (of_number number (get s key)) ≡ true → get s key ≡ Some x → x.number ≡ number
named_in s key number x some stood =
    let it = is_in number (get s key) some in
    ap (λ (z : NumberedRecord). z.number) (one_slot s key x it.slot stood it.stands) ∙ it.named

-- == the map, which leads somewhere else at one number
abbrev pub Changes : List (ℕ × ℕ) → List (ℕ × ℕ) → ℕ → Option ℕ → Type 0
Changes old new p w = (q : ℕ) → lookup (is_at (nat_cmp q)) new ≡ cond (is_at (nat_cmp p) q) w (lookup (is_at (nat_cmp q)) old)

module _ (old new : List (ℕ × ℕ)) (p : ℕ) (w : Option ℕ) (change : Changes old new p w) where
  pub led_here : lookup (is_at (nat_cmp p)) new ≡ w
  led_here = change p ∙ ap (λ (b : Bool). cond b w (lookup (is_at (nat_cmp p)) old)) (at_itself p)

  pub led_other : (q : ℕ) → q ≢ p → lookup (is_at (nat_cmp q)) new ≡ lookup (is_at (nat_cmp q)) old
  led_other q other = change q ∙ ap (λ (b : Bool). cond b w (lookup (is_at (nat_cmp q)) old)) (at_another p q other)

  pub key_other : (q : ℕ) → q ≢ p → key_at new q ≡ key_at old q
  key_other q other = ap (λ (o : Option ℕ). unwrap_or o 0) (led_other q other)

-- two lends are the same where they write the same
pub same_lend : {N D E : Type 0} (name : N) (F G : E → D) → ((w : E) → F w ≡ G w) → ◌≡◌ {A = (N × (E → D)) ⊎ D} (inl (name, F)) (inl (name, G))
same_lend {N} {D} {E} name F G writes = ap (λ (H : E → D). inl (name, H)) (λ i w. writes w i)

abbrev numbered_of : List Record → Bool → Numbered
numbered_of items room = record { items = items; room = room }

-- what contracts see
abbrev pub shown : Slab NumberedRecord → List (ℕ × ℕ) → ℕ → Numbered
shown s keys n = numbered_of (numbered (record_in s keys) n) (has_room s keys n)

-- the slots are as they were, but for one of this number
pub record IsWithout (s t : Slab NumberedRecord) (p : ℕ) : Type 0 where
  pub was : (k : ℕ) (y : NumberedRecord) → get t k ≡ Some y → (get s k ≡ Some y) × (y.number ≢ p)
  pub stays : (k : ℕ) (y : NumberedRecord) → get s k ≡ Some y → y.number ≢ p → get t k ≡ Some y

-- == the slots and the keys of all records
module _ (s : Slab NumberedRecord) (keys : List (ℕ × ℕ)) (n : ℕ) (sound : IsSound s keys n) where
  -- a number that leads nowhere has no record
  pub none_led : (p : ℕ) → lookup (is_at (nat_cmp p)) keys ≡ None → record_in s keys p ≡ Gone
  none_led p nowhere = ap or_gone (not_in p (get s (key_at keys p)) (λ x found same. (let led = sound.led _ x found in
      let e : None ≡ Some (key_at keys p) = sym nowhere ∙ ap (λ (q : ℕ). lookup (is_at (nat_cmp q)) keys) (sym same) ∙ led in cc)))

  -- nor has one that wasn't given
  pub none_given : (p : ℕ) → n ≤ p → record_in s keys p ≡ Gone
  none_given p from = ap or_gone (not_in p (get s (key_at keys p)) (λ x found same. (let below = sound.given _ x found in omega (arith, below, same, from))))

  -- the record of a number is in the slot to which it leads, and in no other
  pub key_of_slot : (key : ℕ) (x : NumberedRecord) → get s key ≡ Some x → key_at keys x.number ≡ key
  key_of_slot key x found = ap (λ (o : Option ℕ). unwrap_or o 0) (sound.led key x found)

  pub item_in : (key p : ℕ) (x : NumberedRecord) → get s key ≡ Some x → x.number ≡ p → Some x.value ≡ of_number p (get s (key_at keys p))
  item_in key p x found named =
      let led : key_at keys p ≡ key = ap (key_at keys) (sym named) ∙ key_of_slot key x found in
      sym (ap (λ (q : ℕ). of_number p (get s q)) led ∙ ap (of_number p) found ∙ in_itself p x named)

  pub item : (p : ℕ) → record_in s keys p ≡ item_at (numbered (record_in s keys) n) p
  item p = at_numbered (record_in s keys) n p (none_given p)

  -- == a record is written in its slot
  module _ (key : ℕ) (x : NumberedRecord) (w : Record) (stood : get s key ≡ Some x) where
    abbrev written_slot : NumberedRecord
    written_slot = record x { value = w }

    abbrev pub written_slots : Slab NumberedRecord
    written_slots = with_value s key written_slot

    write : Updates s written_slots key (Some written_slot)
    write = Updates-with_value s key written_slot (rw stood refl)

    -- what a slot was before
    before : (k : ℕ) (y : NumberedRecord) → get written_slots k ≡ Some y → (z : NumberedRecord) × (get s k ≡ Some z) × (y.number ≡ z.number)
    before k y found =
        elim (cases_eq k key) [
          | inl same ↦
              let it : y ≡ written_slot = one_slot written_slots key y written_slot (ap (get written_slots) (sym same) ∙ found) write.changed in
              (x, ap (get s) same ∙ stood, ap (λ (z : NumberedRecord). z.number) it)
          | inr other ↦ (y, sym (write.others k other) ∙ found, refl)
        ]

    pub sound_written : IsSound written_slots keys n
    sound_written = record {
      led = λ k y found. (let was = before k y found in ap (λ (q : ℕ). lookup (is_at (nat_cmp q)) keys) was.2 ∙ sound.led k was.0 was.1);
      given = λ k y found. (let was = before k y found in let below = sound.given k was.0 was.1 in omega (arith, below, was.2));
    }

    written_here : record_in written_slots keys x.number ≡ w
    written_here =
        ap (λ (q : ℕ). record_under written_slots q x.number) (key_of_slot key x stood) ∙ ap (λ (o : Option NumberedRecord). or_gone (of_number x.number o)) write.changed ∙ ap or_gone (in_itself x.number written_slot refl)

    written_other : (k : ℕ) → k ≢ x.number → record_in written_slots keys k ≡ record_in s keys k
    written_other k apart =
        elim (cases_eq (key_at keys k) key) [
          | inl same ↦
              let now : of_number k (get written_slots (key_at keys k)) ≡ None = ap (λ (q : ℕ). of_number k (get written_slots q)) same ∙ ap (of_number k) write.changed ∙ not_in k (Some written_slot) (λ y e l. apart (sym l ∙ ap (λ (o : NumberedRecord). o.number) (let it : Some y ≡ Some written_slot = sym e in let i : y ≡ written_slot = cc in i))) in
              let was : of_number k (get s (key_at keys k)) ≡ None = ap (λ (q : ℕ). of_number k (get s q)) same ∙ ap (of_number k) stood ∙ not_in k (Some x) (λ y e l. apart (sym l ∙ ap (λ (o : NumberedRecord). o.number) (let it : Some y ≡ Some x = sym e in let i : y ≡ x = cc in i))) in
              ap or_gone (now ∙ sym was)
          | inr other ↦ ap (λ (o : Option NumberedRecord). or_gone (of_number k o)) (write.others (key_at keys k) other)
        ]

    pub written : (p : ℕ) → x.number ≡ p → numbered (record_in written_slots keys) n ≡ slice_set (numbered (record_in s keys) n) p w
    written p named = set_numbered (record_in s keys) (record_in written_slots keys) n p w (λ b. ap (record_in written_slots keys) (sym named) ∙ written_here) (λ k other. written_other k (λ e. other (e ∙ named)))

    pub room_written : has_room written_slots keys n ≡ has_room s keys n
    room_written =
        let counted = sum_by-set (λ (o : Option NumberedRecord). cond (is_some o) 1 0) s.slots key (Some written_slot) None (ContainsKey-within s key (rw stood refl)) in
        let stands : ◌≡◌ {A = ℕ} (cond (is_some (get s key)) 1 0) 1 = rw stood refl in
        let len : slab_len written_slots ≡ slab_len s = omega (arith, counted, stands) in
        ap (λ (l : ℕ). is_some (lookup (is_at (nat_cmp n)) keys) && nat_lt l s.capacity && nat_lt (n + 1) (2 ^ 64)) len

    pub lent : (p : ℕ) → x.number ≡ p → shown written_slots keys n ≡ with_item (shown s keys n) p w
    lent p named =
        ap (λ (l : List Record). numbered_of l (has_room written_slots keys n)) (written p named)
        ∙ ap (λ (b : Bool). numbered_of (slice_set (numbered (record_in s keys) n) p w) b) room_written

  -- == slots with more room, and a map that may lead somewhere else at the next number
  module _ (t : Slab NumberedRecord) (fs : List (ℕ × ℕ)) (same : (k : ℕ) → get t k ≡ get s k) (stays : (q : ℕ) → q < n → lookup (is_at (nat_cmp q)) fs ≡ lookup (is_at (nat_cmp q)) keys) where
    pub sound_reserved : IsSound t fs n
    sound_reserved = record {
      led = λ k y found. (let was = sym (same k) ∙ found in stays y.number (sound.given k y was) ∙ sound.led k y was);
      given = λ k y found. sound.given k y (sym (same k) ∙ found);
    }

    pub reserved : numbered (record_in t fs) n ≡ numbered (record_in s keys) n
    reserved = numbered_same (record_in s keys) (record_in t fs) n (λ k below. ap (λ (o : Option ℕ). record_under t (unwrap_or o 0) k) (stays k below) ∙ ap (λ (o : Option NumberedRecord). or_gone (of_number k o)) (same (key_at keys k)))

  -- == the record of the next number comes
  module _ (t : Slab NumberedRecord) (fs : List (ℕ × ℕ)) (key : ℕ) (w : Record) (vacant : get s key ≡ None) (put : Updates s t key (Some (record { number = n; value = w }))) (change : Changes keys fs n (Some key)) where
    abbrev pushed_slot : NumberedRecord
    pushed_slot = record { number = n; value = w }

    pub sound_pushed : IsSound t fs (n + 1)
    sound_pushed = record {
      led = λ k y found. (elim (cases_eq k key) [
        | inl here ↦
            let it : y ≡ pushed_slot = one_slot t key y pushed_slot (ap (get t) (sym here) ∙ found) put.changed in
            ap (λ (z : NumberedRecord). lookup (is_at (nat_cmp z.number)) fs) it ∙ led_here keys fs n (Some key) change ∙ ap (λ (q : ℕ). Some q) (sym here)
        | inr other ↦
            let was = sym (put.others k other) ∙ found in
            let below = sound.given k y was in
            led_other keys fs n (Some key) change y.number (λ e. omega (arith, e, below)) ∙ sound.led k y was
      ]);
      given = λ k y found. (elim (cases_eq k key) [
        | inl here ↦
            let it : y ≡ pushed_slot = one_slot t key y pushed_slot (ap (get t) (sym here) ∙ found) put.changed in
            let named = ap (λ (z : NumberedRecord). z.number) it in omega (arith, named)
        | inr other ↦ let below = sound.given k y (sym (put.others k other) ∙ found) in omega (arith, below)
      ]);
    }

    pushed_here : record_in t fs n ≡ w
    pushed_here =
        ap (λ (o : Option ℕ). record_under t (unwrap_or o 0) n) (led_here keys fs n (Some key) change) ∙ ap (λ (o : Option NumberedRecord). or_gone (of_number n o)) put.changed ∙ ap or_gone (in_itself n pushed_slot refl)

    pushed_other : (k : ℕ) → k < n → record_in t fs k ≡ record_in s keys k
    pushed_other k below =
        ap (λ (q : ℕ). record_under t q k) (key_other keys fs n (Some key) change k (λ e. omega (arith, e, below)))
        ∙ elim (cases_eq (key_at keys k) key) [
          | inl here ↦
              let now : of_number k (get t (key_at keys k)) ≡ None = ap (λ (q : ℕ). of_number k (get t q)) here ∙ ap (of_number k) put.changed ∙ not_in k (Some pushed_slot) (λ y e l. (let it : Some y ≡ Some pushed_slot = sym e in let i : y ≡ pushed_slot = cc in let m = ap (λ (o : NumberedRecord). o.number) i in omega (arith, m, l, below))) in
              let was : of_number k (get s (key_at keys k)) ≡ None = ap (λ (q : ℕ). of_number k (get s q)) here ∙ ap (of_number k) vacant in
              ap or_gone (now ∙ sym was)
          | inr other ↦ ap (λ (o : Option NumberedRecord). or_gone (of_number k o)) (put.others (key_at keys k) other)
        ]

    pub pushed : numbered (record_in t fs) (n + 1) ≡ numbered (record_in s keys) n ++ w ∷ []
    pushed =
        let next : n + 1 ≡ suc n = omega arith in
        let before = numbered_same (record_in s keys) (record_in t fs) n pushed_other in
        ap (numbered (record_in t fs)) next ∙ ap (λ (l : List Record). l ++ record_in t fs n ∷ []) before ∙ ap (λ (r : Record). numbered (record_in s keys) n ++ r ∷ []) pushed_here

  -- == the record of a number goes
  module _ (t : Slab NumberedRecord) (fs : List (ℕ × ℕ)) (p : ℕ) (change : Changes keys fs p None) (without : IsWithout s t p) where
    pub sound_gone : IsSound t fs n
    sound_gone = record {
      led = λ k y found. (let was = without.was k y found in led_other keys fs p None change y.number was.1 ∙ sound.led k y was.0);
      given = λ k y found. (let was = without.was k y found in sound.given k y was.0);
    }

    kept : (k q : ℕ) → k ≢ p → of_number k (get t q) ≡ of_number k (get s q)
    kept k q apart = by (get t q) refl
      where
        by : (o : Option NumberedRecord) → get t q ≡ o → of_number k (get t q) ≡ of_number k (get s q)
        by (Some y) found = let was = without.was q y found in ap (of_number k) found ∙ ap (of_number k) (sym was.0)
        by None found = ap (of_number k) found ∙ sym (not_in k (get s q) (λ y stood named. (let now = without.stays q y stood (λ e. apart (sym named ∙ e)) in let e : None ≡ Some y = sym found ∙ now in cc)))

  -- its slot was taken
  pub taken_without : (t : Slab NumberedRecord) (key p : ℕ) → In (get s key) p → Updates s t key None → IsWithout s t p
  taken_without t key p there taken = record {
    was = λ k y found. (let other : k ≢ key = λ here. (let e : Some y ≡ None = sym found ∙ ap (get t) here ∙ taken.changed in cc) in
        let old = sym (taken.others k other) ∙ found in
        (old, λ named. other (sym (key_of_slot k y old) ∙ ap (key_at keys) (named ∙ sym there.named) ∙ key_of_slot key there.slot there.stands)));
    stays = λ k y stood apart. taken.others k (λ here. apart (ap (λ (z : NumberedRecord). z.number) (one_slot s key y there.slot (ap (get s) (sym here) ∙ stood) there.stands) ∙ there.named)) ∙ stood;
  }

  -- or it had none
  pub none_without : (p : ℕ) → is_some (of_number p (get s (key_at keys p))) ≡ false → IsWithout s s p
  none_without p none = record {
    was = λ k y found. (found, λ named. (let e : Some y.value ≡ None = item_in k p y found named ∙ none_in p (get s (key_at keys p)) none in cc));
    stays = λ k y stood apart. stood;
  }

pub gone : (s t : Slab NumberedRecord) (keys fs : List (ℕ × ℕ)) (n p : ℕ) → IsSound s keys n → Changes keys fs p None → IsWithout s t p → numbered (record_in t fs) n ≡ slice_set (numbered (record_in s keys) n) p Gone
gone s t keys fs n p sound change without =
    set_numbered (record_in s keys) (record_in t fs) n p Gone
    (λ b. none_led t fs n (sound_gone s keys n sound t fs p change without) p (led_here keys fs p None change))
    (λ k apart. ap (λ (q : ℕ). record_under t q k) (key_other keys fs p None change k apart) ∙ ap or_gone (kept s keys n sound t fs p change without k (key_at keys k) apart))

-- where there is room, the next number leads somewhere, and one more slot fits
pub room_found : (s : Slab NumberedRecord) (keys : List (ℕ × ℕ)) (n : ℕ) → has_room s keys n ≡ true → IsSome (lookup (is_at (nat_cmp n)) keys)
room_found s keys n room = let both = and_parts _ _ room in let first = and_parts _ _ both.0 in first.0
