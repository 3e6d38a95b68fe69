-- Places of a store: the records of one kind by number. What holds of one kind holds of each, so there is one theory of lists.
use Rattle.std.proofs.Common.{◌≡◌, ◌⊎◌, inl, inr, ℕ, zero, suc, List, [], ◌∷◌, ◌++◌, Option, Some, None, true, length, refl, sym, ap, slice_get, slice_set, subst, ◌∙◌}
use Rattle.std.specs.Prelude.{IsSome, is_some}
use Rattle.wasi_records.specs.Records.{slot_of}
use Rattle.tcp_records.specs.declared.slot.Slot.{Slot}
use Rattle.wasi_walks.proofs.Lists.{get_seam}
use Rattle.memory_streams.specs.Plain.{Contents}
use Rattle.wasi_records.specs.Records.{tcp2_of, udp2_of, lookup_of, input_pipe_of, output_pipe_of}
use Rattle.lookup_records.specs.declared.name_lookup.Lookup.{Lookup}
use Rattle.wasi_records.specs.declared.records.Record.{Record}
use Rattle.wasi_records.specs.declared.records.Record.TheVariants.{Tcp, Udp, Lookup as LookupRecord, InputPipe, OutputPipe, Slot as SlotRecord}
use Rattle.tcp_records.specs.declared.socket.TcpRecord.{TcpRecord}
use Rattle.udp_records.specs.declared.udp.UdpRecord.{UdpRecord}

-- == of any list
-- at a place a list is as it was, or this is the place that was replaced, where something was
pub set_at : {A : Type 0} (xs : List A) (i : ℕ) (now : A) (k : ℕ)
    → (slice_get (slice_set xs i now) k ≡ slice_get xs k)
    ⊎ ((k ≡ i) × (slice_get (slice_set xs i now) k ≡ Some now) × ((slice_get xs k ≡ None) → ⊥))
set_at [] i now k = inl refl
set_at (z ∷ xs) zero now zero = inr (refl, refl, λ e. absurd (cc))
set_at (z ∷ xs) zero now (suc k) = inl refl
set_at (z ∷ xs) (suc i) now zero = inl refl
set_at (z ∷ xs) (suc i) now (suc k) = elim (set_at xs i now k) [ inl e ↦ inl e | inr e ↦ inr (ap suc e.0, e.1, e.2) ]

set_there : {A : Type 0} (xs : List A) (i : ℕ) (old now : A) → slice_get xs i ≡ Some old
    → slice_get (slice_set xs i now) i ≡ Some now
set_there [] i old now e = absurd (cc)
set_there (z ∷ xs) zero old now e = refl
set_there (z ∷ xs) (suc i) old now e = set_there xs i old now e

set_set : {A : Type 0} (xs : List A) (i : ℕ) (a b : A) → slice_set (slice_set xs i a) i b ≡ slice_set xs i b
set_set [] i a b = refl
set_set (z ∷ xs) zero a b = refl
set_set (z ∷ xs) (suc i) a b = ap (λ (l : List _). z ∷ l) (set_set xs i a b)

set_same : {A : Type 0} (xs : List A) (i : ℕ) (a : A) → slice_get xs i ≡ Some a → slice_set xs i a ≡ xs
set_same [] i a e = refl
set_same (z ∷ xs) zero a e = (let p : z ≡ a = cc in ap (λ y. y ∷ xs) (sym p))
set_same (z ∷ xs) (suc i) a e = ap (λ (l : List _). z ∷ l) (set_same xs i a e)

-- and one that joins is at the end, where nothing was
pub push_at : {A : Type 0} (xs : List A) (now : A) (k : ℕ)
    → (slice_get (xs ++ now ∷ []) k ≡ slice_get xs k)
    ⊎ ((k ≡ length xs) × (slice_get (xs ++ now ∷ []) k ≡ Some now) × (slice_get xs k ≡ None))
push_at [] now zero = inr (refl, refl, refl)
push_at [] now (suc k) = inl refl
push_at (z ∷ xs) now zero = inl refl
push_at (z ∷ xs) now (suc k) = elim (push_at xs now k) [ inl e ↦ inl e | inr e ↦ inr (ap suc e.0, e.1, e.2) ]

-- == kinds of records
-- A kind of record: what is one as a record, and the records that are of the kind.
pub record Sort (T : Type 0) : Type 0 where
  pub into : T → Record
  pub of : Option Record → Option T
  pub is : (t : T) → of (Some (into t)) ≡ Some t
  pub none : of None ≡ None
  pub it : (o : Option Record) (t : T) → of o ≡ Some t → o ≡ Some (into t)

abbrev pub at : {T : Type 0} → Sort T → List Record → ℕ → Option T
at s xs k = s.of (slice_get xs k)

abbrev pub put : {T : Type 0} → Sort T → List Record → ℕ → T → List Record
put s xs k t = slice_set xs k (s.into t)

abbrev pub pushed : {T : Type 0} → Sort T → List Record → T → List Record
pushed s xs t = xs ++ s.into t ∷ []

-- nothing is of both
abbrev pub Apart : {T U : Type 0} → Sort T → Sort U → Type 0
Apart {T} s u = (t : T) → u.of (Some (s.into t)) ≡ None

some_one : {A : Type 0} (a b : A) → Some a ≡ Some b → a ≡ b
some_one a b e = cc

none_some : {A : Type 0} (a : A) → None ≡ Some a → ⊥
none_some a e = absurd (cc)

module _ {T : Type 0} (s : Sort T) (xs : List Record) where
  -- == one is replaced
  -- what is there now was there, or is the one that was put
  pub put_found : (i : ℕ) (now : T) (k : ℕ) (x : T) → at s (put s xs i now) k ≡ Some x
      → ((k ≡ i) × (now ≡ x)) ⊎ (at s xs k ≡ Some x)
  put_found i now k x e = elim (set_at xs i (s.into now) k) [
    | inl same ↦ inr (sym (ap s.of same) ∙ e)
    | inr its ↦ inl (its.0, some_one now x (sym (s.is now) ∙ (sym (ap s.of its.1) ∙ e)))
  ]

  -- and what was there is, or that is
  pub put_stays : (i : ℕ) (now : T) (k : ℕ) (x : T) → at s xs k ≡ Some x
      → (at s (put s xs i now) k ≡ Some x) ⊎ ((k ≡ i) × (at s (put s xs i now) k ≡ Some now))
  put_stays i now k x e = elim (set_at xs i (s.into now) k) [
    | inl same ↦ inl (ap s.of same ∙ e)
    | inr its ↦ inr (its.0, ap s.of its.1 ∙ s.is now)
  ]

  -- each other stays, where one was there
  pub put_either : (i : ℕ) (old now : T) (k : ℕ) → at s xs i ≡ Some old
      → (at s (put s xs i now) k ≡ at s xs k) ⊎ ((at s xs k ≡ Some old) × (at s (put s xs i now) k ≡ Some now))
  put_either i old now k e = elim (set_at xs i (s.into now) k) [
    | inl same ↦ inl (ap s.of same)
    | inr its ↦ inr (ap (λ (j : ℕ). at s xs j) its.0 ∙ e, ap s.of its.1 ∙ s.is now)
  ]

  pub put_some : (i : ℕ) (now : T) (k : ℕ) → is_some (at s xs k) ≡ true → is_some (at s (put s xs i now) k) ≡ true
  put_some i now k h = elim (set_at xs i (s.into now) k) [
    | inl same ↦ ap (λ (o : Option T). is_some o) (ap s.of same) ∙ h
    | inr its ↦ ap (λ (o : Option T). is_some o) (ap s.of its.1 ∙ s.is now)
  ]

  pub put_finds : (i : ℕ) (old now : T) → at s xs i ≡ Some old → at s (put s xs i now) i ≡ Some now
  put_finds i old now e = ap s.of (set_there xs i (s.into old) (s.into now) (s.it _ old e)) ∙ s.is now

  -- what was put in a place is there no more once it is replaced again
  pub put_twice : (i : ℕ) (a b : T) → put s (put s xs i a) i b ≡ put s xs i b
  put_twice i a b = set_set xs i (s.into a) (s.into b)

  -- what is put where it was changes nothing
  pub put_again : (i : ℕ) (t : T) → at s xs i ≡ Some t → put s xs i t ≡ xs
  put_again i t e = set_same xs i (s.into t) (s.it _ t e)

  -- == one joins
  pub push_found : (now : T) (k : ℕ) (x : T) → at s (pushed s xs now) k ≡ Some x
      → (at s xs k ≡ Some x) ⊎ ((now ≡ x) × (k ≡ length xs))
  push_found now k x e = elim (push_at xs (s.into now) k) [
    | inl same ↦ inl (sym (ap s.of same) ∙ e)
    | inr its ↦ inr (some_one now x (sym (s.is now) ∙ (sym (ap s.of its.1) ∙ e)), its.0)
  ]

  pub push_new : (now : T) (k : ℕ) (x : T) → at s (pushed s xs now) k ≡ Some x → (at s xs k ≡ Some x) ⊎ (now ≡ x)
  push_new now k x e = elim (push_found now k x e) [ inl was ↦ inl was | inr its ↦ inr its.0 ]

  pub push_finds : (now : T) → at s (pushed s xs now) (length xs) ≡ Some now
  push_finds now = ap s.of (get_seam xs (s.into now)) ∙ s.is now

  pub push_last : (now : T) → is_some (at s (pushed s xs now) (length xs)) ≡ true
  push_last now = ap (λ (o : Option T). is_some o) (push_finds now)

  -- whichever joins
  pub push_some : (now : Record) (k : ℕ) → is_some (at s xs k) ≡ true → is_some (at s (xs ++ now ∷ []) k) ≡ true
  push_some now k h = elim (push_at xs now k) [
    | inl same ↦ ap (λ (o : Option T). is_some o) (ap s.of same) ∙ h
    | inr its ↦ absurd (let none : at s xs k ≡ None = ap s.of its.2 ∙ s.none in cc)
  ]

-- what was there stays where one joins, of the same kind or another
pub push_still : {T U : Type 0} (s : Sort T) (u : Sort U) (xs : List Record) (now : T) (k : ℕ) (x : U)
    → at u xs k ≡ Some x
    → at u (pushed s xs now) k ≡ Some x
push_still s u xs now k x e = elim (push_at xs (s.into now) k) [
  | inl same ↦ ap u.of same ∙ e
  | inr its ↦ absurd (none_some x (sym u.none ∙ (ap u.of (sym its.2) ∙ e)))
]

-- == the other kinds
module _ {T U : Type 0} (s : Sort T) (u : Sort U) (apart : Apart s u) (xs : List Record) where
  pub other_put : (i : ℕ) (old now : T) (k : ℕ) → at s xs i ≡ Some old → at u (put s xs i now) k ≡ at u xs k
  other_put i old now k e = elim (set_at xs i (s.into now) k) [
    | inl same ↦ ap u.of same
    | inr its ↦ (
        let was : at u xs k ≡ None = ap (λ (j : ℕ). at u xs j) its.0 ∙ (ap u.of (s.it _ old e) ∙ apart old) in
        ap u.of its.1 ∙ (apart now ∙ sym was))
  ]

  pub put_still : (i : ℕ) (old now : T) (k : ℕ) (x : U) → at s xs i ≡ Some old → at u xs k ≡ Some x
      → at u (put s xs i now) k ≡ Some x
  put_still i old now k x e was = other_put i old now k e ∙ was

  -- also where nothing is known of what was there
  pub put_was : (i : ℕ) (now : T) (k : ℕ) (x : U) → at u (put s xs i now) k ≡ Some x → at u xs k ≡ Some x
  put_was i now k x e = elim (set_at xs i (s.into now) k) [
    | inl same ↦ sym (ap u.of same) ∙ e
    | inr its ↦ absurd (none_some x (sym (apart now) ∙ (sym (ap u.of its.1) ∙ e)))
  ]

  pub other_push : (now : T) (k : ℕ) → at u (pushed s xs now) k ≡ at u xs k
  other_push now k = elim (push_at xs (s.into now) k) [
    | inl same ↦ ap u.of same
    | inr its ↦ ap u.of its.1 ∙ (apart now ∙ sym (ap u.of its.2 ∙ u.none))
  ]

  pub push_was : (now : T) (k : ℕ) (x : U) → at u (pushed s xs now) k ≡ Some x → at u xs k ≡ Some x
  push_was now k x e = sym (other_push now k) ∙ e

-- == the kinds
pub tcp_it : (o : Option Record) (r : TcpRecord) → tcp2_of o ≡ Some r → o ≡ Some (Tcp r)
tcp_it (Some (Tcp x)) r e = let p : x ≡ r = cc in ap (λ (y : TcpRecord). Some (Tcp y)) p
tcp_it _ r e = absurd (cc)

pub udp_it : (o : Option Record) (u : UdpRecord) → udp2_of o ≡ Some u → o ≡ Some (Udp u)
udp_it (Some (Udp x)) u e = let p : x ≡ u = cc in ap (λ (y : UdpRecord). Some (Udp y)) p
udp_it _ u e = absurd (cc)

pub lookup_it : (o : Option Record) (l : Lookup) → lookup_of o ≡ Some l → o ≡ Some (LookupRecord l)
lookup_it (Some (LookupRecord x)) l e = let p : x ≡ l = cc in ap (λ (y : Lookup). Some (LookupRecord y)) p
lookup_it _ l e = absurd (cc)

pub input_it : (o : Option Record) (bytes : List ℕ) → input_pipe_of o ≡ Some bytes → o ≡ Some (InputPipe bytes)
input_it (Some (InputPipe x)) bytes e = let p : x ≡ bytes = cc in ap (λ (y : List ℕ). Some (InputPipe y)) p
input_it _ bytes e = absurd (cc)

pub slot_it : (o : Option Record) (t : Slot) → slot_of o ≡ Some t → o ≡ Some (SlotRecord t)
slot_it (Some (SlotRecord x)) t e = let p : x ≡ t = cc in ap (λ (y : Slot). Some (SlotRecord y)) p
slot_it _ t e = absurd (cc)

pub output_it : (o : Option Record) (pipe : Contents) → output_pipe_of o ≡ Some pipe → o ≡ Some (OutputPipe pipe)
output_it (Some (OutputPipe x)) pipe e = let p : x ≡ pipe = cc in ap (λ (y : Contents). Some (OutputPipe y)) p
output_it _ pipe e = absurd (cc)

abbrev pub tcp_sort : Sort TcpRecord
tcp_sort = record { into = λ r. Tcp r; of = tcp2_of; is = λ r. refl; none = refl; it = tcp_it }

abbrev pub udp_sort : Sort UdpRecord
udp_sort = record { into = λ u. Udp u; of = udp2_of; is = λ u. refl; none = refl; it = udp_it }

abbrev pub lookup_sort : Sort Lookup
lookup_sort = record { into = λ l. LookupRecord l; of = lookup_of; is = λ l. refl; none = refl; it = lookup_it }

abbrev pub input_sort : Sort (List ℕ)
input_sort = record { into = λ bytes. InputPipe bytes; of = input_pipe_of; is = λ bytes. refl; none = refl; it = input_it }

abbrev pub output_sort : Sort Contents
output_sort = record { into = λ pipe. OutputPipe pipe; of = output_pipe_of; is = λ pipe. refl; none = refl; it = output_it }

abbrev pub slot_sort : Sort Slot
slot_sort = record { into = λ t. SlotRecord t; of = slot_of; is = λ t. refl; none = refl; it = slot_it }

-- == whatever is there
-- a place that is there stays where another is replaced, and where one more joins
pub there_put : {A : Type 0} (xs : List A) (i : ℕ) (now : A) (k : ℕ) → IsSome (slice_get xs k) → IsSome (slice_get (slice_set xs i now) k)
there_put {A = A} xs i now k h = elim (set_at xs i now k) [ inl same ↦ subst (λ (o : Option A). IsSome o) (sym same) h | inr its ↦ subst (λ (o : Option A). IsSome o) (sym its.1) refl ]

pub there_push : {A : Type 0} (xs : List A) (now : A) (k : ℕ) → IsSome (slice_get xs k) → IsSome (slice_get (xs ++ now ∷ []) k)
there_push {A = A} xs now k h = elim (push_at xs now k) [ inl same ↦ subst (λ (o : Option A). IsSome o) (sym same) h | inr its ↦ subst (λ (o : Option A). IsSome o) (sym its.1) refl ]
