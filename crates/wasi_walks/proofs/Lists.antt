-- Lists of entries, lists by place, and lists of live handles.
use Rattle.std.proofs.Common.{◌≡◌, ℕ, zero, suc, ◌+◌, ◌⊎◌, inl, inr, Bool, true, false, if◌then◌else◌, ◌==◌, List, [], ◌∷◌, ◌++◌, Option, Some, None, slice_get, length, refl, ap, append_assoc, arith, ◌∙◌}
use Rattle.std.proofs.lemmas.Bool.{eqb-true}
use Rattle.wasi_world.specs.declared.call.Entry.{Entry}
use Rattle.wasi_table.specs.Table.{Live, value_at}
use Rattle.wasi_walks.specs.Licence.{Has, marked_by, marks_in}

-- == entries
pub entry_call : (a b : Entry) → a ≡ b → a.call ≡ b.call
entry_call a b h = ap (λ (e : Entry). e.call) h

pub has_front : {A : Type 0} (es fs : List A) (e : A) → Has es e → Has (es ++ fs) e
has_front [] fs e h = absurd h
has_front (x ∷ es) fs e (inl h) = inl h
has_front (x ∷ es) fs e (inr h) = inr (has_front es fs e h)

pub has_back : {A : Type 0} (es fs : List A) (e : A) → Has fs e → Has (es ++ fs) e
has_back [] fs e h = h
has_back (x ∷ es) fs e h = inr (has_back es fs e h)

pub has_last : {A : Type 0} (es : List A) (e : A) → Has (es ++ e ∷ []) e
has_last es e = has_back es (e ∷ []) e (inl refl)

-- an item of a list that grew by one
pub has_split : {A : Type 0} (es : List A) (e x : A) → Has (es ++ e ∷ []) x → Has es x ⊎ (e ≡ x)
has_split [] e x (inl h) = inr h
has_split [] e x (inr h) = absurd h
has_split (y ∷ es) e x (inl h) = inl (inl h)
has_split (y ∷ es) e x (inr h) = elim (has_split es e x h) [ inl i ↦ inl (inr i) | inr i ↦ inr i ]

-- an item of two lists
pub has_parts : {A : Type 0} (es fs : List A) (x : A) → Has (es ++ fs) x → Has es x ⊎ Has fs x
has_parts [] fs x h = inr h
has_parts (y ∷ es) fs x (inl h) = inl (inl h)
has_parts (y ∷ es) fs x (inr h) = elim (has_parts es fs x h) [ inl i ↦ inl (inr i) | inr i ↦ inr i ]

-- an entry of a list, with what is before it and after it
pub record Cut (es : List Entry) (e : Entry) : Type 0 where
  pub front : List Entry
  pub back : List Entry
  pub is : es ≡ front ++ e ∷ back

pub cut_of : (es : List Entry) (e : Entry) → Has es e → Cut es e
cut_of [] e h = absurd h
cut_of (x ∷ es) e (inl h) = record { front = []; back = es; is = ap (λ (y : Entry). y ∷ es) h }
cut_of (x ∷ es) e (inr h) = let c = cut_of es e h in record { front = x ∷ c.front; back = c.back; is = ap (λ (ys : List Entry). x ∷ ys) c.is }

-- the cut of a list that grew
pub cut_more : (es fs front back : List Entry) (e : Entry) → es ≡ front ++ e ∷ back → es ++ fs ≡ front ++ e ∷ (back ++ fs)
cut_more es fs front back e c = ap (λ (gs : List Entry). gs ++ fs) c ∙ append_assoc front (e ∷ back) fs

pub marks_in-push : (es : List Entry) (e : Entry) → marks_in (es ++ e ∷ []) ≡ marks_in es + marked_by e.call
marks_in-push [] e = omega arith
marks_in-push (x ∷ es) e = let k = marks_in-push es e in omega arith

-- == lists by place
pub get_front : {A : Type 0} (xs ys : List A) (k : ℕ) (y : A) → slice_get xs k ≡ Some y → slice_get (xs ++ ys) k ≡ Some y
get_front [] ys k y h = absurd (cc)
get_front (x ∷ xs) ys zero y h = h
get_front (x ∷ xs) ys (suc k) y h = get_front xs ys k y h

pub get_seam : {A : Type 0} (xs : List A) (y : A) → slice_get (xs ++ y ∷ []) (length xs) ≡ Some y
get_seam [] y = refl
get_seam (x ∷ xs) y = get_seam xs y

-- == the live handles
-- what a handle stands for among those of which the last was just made
pub value_split : {K : Type 0} (live : List (Live K)) (s : Live K) (handle : ℕ) (value : K) → value_at (live ++ s ∷ []) handle ≡ Some value → (value_at live handle ≡ Some value) ⊎ ((s.handle ≡ handle) × (s.value ≡ value))
value_split {K} [] s handle value h = inr (last_if (s.handle == handle) (eqb-true s.handle handle) h)
  where
    last_if : (b : Bool) → (b ≡ true → s.handle ≡ handle) → (if b then Some s.value else None) ≡ Some value → (s.handle ≡ handle) × (s.value ≡ value)
    last_if true f e = (f refl, cc)
    last_if false f e = absurd (cc)
value_split {K} (x ∷ live) s handle value h = past_if (x.handle == handle) (value_at (live ++ s ∷ []) handle) (value_at live handle) (value_split live s handle value) h
  where
    past_if : (b : Bool) (o p : Option K) → (o ≡ Some value → (p ≡ Some value) ⊎ ((s.handle ≡ handle) × (s.value ≡ value))) → (if b then Some x.value else o) ≡ Some value → ((if b then Some x.value else p) ≡ Some value) ⊎ ((s.handle ≡ handle) × (s.value ≡ value))
    past_if true o p f e = inl e
    past_if false o p f e = f e

-- a handle that was live before the last was made stands for what it did
pub value_front : {K : Type 0} (live : List (Live K)) (s : Live K) (handle : ℕ) (value : K) → value_at live handle ≡ Some value → value_at (live ++ s ∷ []) handle ≡ Some value
value_front {K} [] s handle value e = absurd (cc)
value_front {K} (x ∷ live) s handle value e = by_test (x.handle == handle) (value_at live handle) (value_at (live ++ s ∷ []) handle) (value_front live s handle value) e
  where
    by_test : (b : Bool) (o p : Option K) → (o ≡ Some value → p ≡ Some value) → (if b then Some x.value else o) ≡ Some value → (if b then Some x.value else p) ≡ Some value
    by_test true o p f e = e
    by_test false o p f e = f e
