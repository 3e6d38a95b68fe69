-- How a text falls into lines.
use Rattle.std.proofs.Common.{◌≡◌, ◌∙◌, ap, sym, refl, ℕ, suc, ◌+◌, ◌≤◌, ◌==◌, Bool, true, false, if◌then◌else◌, cond, List, [], ◌∷◌, ◌++◌, length, take, drop, Some, None, append_assoc, append-nil, length-append, add-zero, arith}
use Rattle.std.specs.List.{position, position_from}
use Rattle.std.proofs.lemmas.Iterator.Adapters.{position_from-zero}
use Rattle.std.proofs.lemmas.List.{take_at, drop_at}
use Rattle.std.proofs.lemmas.Bool.Decides.{nat_tests}
use Rattle.world_text.specs.Lines.{lines_from, rest_from, lines_of, rest_of}

-- one text and then another: the second's first line begins with the rest of the first
pub lines-append : (front xs ys : List ℕ) → lines_from front (xs ++ ys) ≡ lines_from front xs ++ lines_from (rest_from front xs) ys
lines-append front [] ys = refl
lines-append front (x ∷ xs) ys =
    elim (x == 10) as (λ b. (if b then front ∷ lines_from [] (xs ++ ys) else lines_from (front ++ x ∷ []) (xs ++ ys)) ≡ (if b then front ∷ lines_from [] xs else lines_from (front ++ x ∷ []) xs) ++ lines_from (if b then rest_from [] xs else rest_from (front ++ x ∷ []) xs) ys)
    [ true ↦ ap (λ ls. front ∷ ls) (lines-append [] xs ys) | false ↦ lines-append (front ++ x ∷ []) xs ys ]

pub rest-append : (front xs ys : List ℕ) → rest_from front (xs ++ ys) ≡ rest_from (rest_from front xs) ys
rest-append front [] ys = refl
rest-append front (x ∷ xs) ys =
    elim (x == 10) as (λ b. (if b then rest_from [] (xs ++ ys) else rest_from (front ++ x ∷ []) (xs ++ ys)) ≡ rest_from (if b then rest_from [] xs else rest_from (front ++ x ∷ []) xs) ys)
    [ true ↦ rest-append [] xs ys | false ↦ rest-append (front ++ x ∷ []) xs ys ]

-- each line has its newline, so there are no more lines than bytes
pub count_lines : (front xs : List ℕ) → length (lines_from front xs) + length (rest_from front xs) ≤ length front + length xs
count_lines front [] = omega arith
count_lines front (x ∷ xs) =
    elim (x == 10) as (λ b. length (if b then front ∷ lines_from [] xs else lines_from (front ++ x ∷ []) xs) + length (if b then rest_from [] xs else rest_from (front ++ x ∷ []) xs) ≤ length front + suc (length xs)) [
      | true ↦ (let h = count_lines [] xs in omega arith)
      | false ↦ (let h = count_lines (front ++ x ∷ []) xs in omega (arith, length-append front (x ∷ [])))
    ]

-- The first newline of a text ends its first line.
pub record Cut (front xs : List ℕ) (n : ℕ) : Type 0 where
  pub line : List ℕ
  pub after : List ℕ
  pub is : xs ≡ line ++ 10 ∷ after
  pub at : length line ≡ n
  pub lines : lines_from front xs ≡ (front ++ line) ∷ lines_of after
  pub rest : rest_from front xs ≡ rest_of after

pub record NoCut (front xs : List ℕ) : Type 0 where
  pub lines : lines_from front xs ≡ []
  pub rest : rest_from front xs ≡ front ++ xs

abbrev is_newline : ℕ → Bool
is_newline b = b == 10

newline_is : (x : ℕ) → (x == 10) ≡ true → x ≡ 10
newline_is x h = grind (arith, nat_tests)

never : (n : ℕ) → None ≡ Some n → ⊥
never n h = cc

cut_next : (front xs : List ℕ) (x n : ℕ) → (x == 10) ≡ false → Cut (front ++ x ∷ []) xs n → Cut front (x ∷ xs) (n + 1)
cut_next front xs x n e h = record {
  line = x ∷ h.line;
  after = h.after;
  is = ap (λ l. x ∷ l) h.is;
  at = omega (arith, h.at);
  lines = rw e (h.lines ∙ ap (λ l. l ∷ lines_of h.after) (append_assoc front (x ∷ []) h.line));
  rest = rw e h.rest;
}

cut_here : (front xs : List ℕ) (x : ℕ) → (x == 10) ≡ true → Cut front (x ∷ xs) 0
cut_here front xs x e = record {
  line = [];
  after = xs;
  is = ap (λ y. y ∷ xs) (newline_is x e);
  at = refl;
  lines = rw (e, append-nil) refl;
  rest = rw e refl;
}

some_is : (a b : ℕ) → Some a ≡ Some b → a ≡ b
some_is a b h = cc

cut_byte : (j : ℕ) (front xs : List ℕ) (x n : ℕ) (b : Bool) → (x == 10) ≡ b → cond b (Some j) (position_from is_newline (j + 1) xs) ≡ Some n → ((m : ℕ) → position_from is_newline (j + 1) xs ≡ Some m → (k : ℕ) × (j + 1 + k ≡ m) × Cut (front ++ x ∷ []) xs k) → (k : ℕ) × (j + k ≡ n) × Cut front (x ∷ xs) k
cut_byte j front xs x n true e h more = (0, add-zero j ∙ some_is j n h, cut_here front xs x e)
cut_byte j front xs x n false e h more = let m = more n h in (m.0 + 1, omega (arith, m.1), cut_next front xs x m.0 e m.2)

cut_from : (j : ℕ) (front xs : List ℕ) (n : ℕ) → position_from is_newline j xs ≡ Some n → (k : ℕ) × (j + k ≡ n) × Cut front xs k
cut_from j front [] n h = absurd (never n h)
cut_from j front (x ∷ xs) n h = cut_byte j front xs x n (x == 10) refl h (λ m k. cut_from (j + 1) (front ++ x ∷ []) xs m k)

no_cut_byte : (j : ℕ) (front xs : List ℕ) (x : ℕ) (b : Bool) → (x == 10) ≡ b → cond b (Some j) (position_from is_newline (j + 1) xs) ≡ None → (position_from is_newline (j + 1) xs ≡ None → NoCut (front ++ x ∷ []) xs) → NoCut front (x ∷ xs)
no_cut_byte j front xs x true e h more = absurd (never j (sym h))
no_cut_byte j front xs x false e h more = let k = more h in record { lines = rw e k.lines; rest = rw e (k.rest ∙ append_assoc front (x ∷ []) xs) }

no_cut_from : (j : ℕ) (front xs : List ℕ) → position_from is_newline j xs ≡ None → NoCut front xs
no_cut_from j front [] h = record { lines = refl; rest = sym (append-nil front) }
no_cut_from j front (x ∷ xs) h = no_cut_byte j front xs x (x == 10) refl h (λ k. no_cut_from (j + 1) (front ++ x ∷ []) xs k)

pub cut_at : (front xs : List ℕ) (n : ℕ) → position is_newline xs ≡ Some n → Cut front xs n
cut_at front xs n h = let k = cut_from 0 front xs n (sym (position_from-zero is_newline xs) ∙ h) in let e : k.0 ≡ n = omega (arith, k.1) in rw e at k.2

pub no_cut : (front xs : List ℕ) → position is_newline xs ≡ None → NoCut front xs
no_cut front xs h = no_cut_from 0 front xs (sym (position_from-zero is_newline xs) ∙ h)

-- the pieces by number
pub cut_line : (front xs : List ℕ) (n : ℕ) (h : Cut front xs n) → take n xs ≡ h.line
cut_line front xs n h = ap (take n) h.is ∙ take_at h.line (10 ∷ h.after) n h.at

pub cut_after : (front xs : List ℕ) (n : ℕ) (h : Cut front xs n) → drop (n + 1) xs ≡ h.after
cut_after front xs n h = ap (drop (n + 1)) (h.is ∙ sym (append_assoc h.line (10 ∷ []) h.after)) ∙ drop_at (h.line ++ 10 ∷ []) h.after (n + 1) (length-append h.line (10 ∷ []) ∙ ap (λ k. k + 1) h.at)

pub cut_within : (front xs : List ℕ) (n : ℕ) → Cut front xs n → n + 1 ≤ length xs
cut_within front xs n h = omega (arith, ap length h.is, length-append h.line (10 ∷ h.after), h.at)
