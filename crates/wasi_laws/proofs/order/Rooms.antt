-- The room that a name has: whether the operation of this name may still begin.
use Rattle.std.proofs.lemmas.Bool.Decides.{nat_tests}
use Rattle.wasi_laws.proofs.Words.{Bool, Item, List, OpId, Own, ToConnect, ToWrite, Unused, Used, ap, arith, false, if◌then◌else◌, is_same, nat_lt, refl, sym, true, ℕ, ◌+◌, ◌∙◌, ◌≡◌, ◌≤◌}
use Rattle.wasi_laws.proofs.shapes.Shape.{same_side}
use Rattle.wasi_laws.proofs.order.Weights.{checks_of, if_ours, op_weight}
use Rattle.wasi_walks.proofs.walks.Moves.{Names, part_of}

-- 1 up to the line of this number: its operations may still begin
abbrev pub future : ℕ → ℕ → ℕ
future step line = if nat_lt step line then 0 else 1

-- it is no more, falls from line to line, and is spent by its own
pub future_small : (step line : ℕ) → future step line ≤ 1
future_small step line = grind (arith, nat_tests)

future_less : (step line : ℕ) → future step (line + 1) ≤ future step line
future_less step line = grind (arith, nat_tests)

future_here : (step : ℕ) → future step step ≡ 1
future_here step = grind (arith, nat_tests)

future_past : (step : ℕ) → future step (step + 1) ≡ 0
future_past step = grind (arith, nat_tests)

-- the same up to the part of this number in the line
abbrev pub parts : ℕ → ℕ → ℕ → ℕ → ℕ
parts step part line n = if nat_lt step line then 0 else (if nat_lt line step then 1 else future part n)

-- it is within its line, falls from part to part, and is spent by its own
parts_line : (step part line n : ℕ) → parts step part line n ≤ future step line
parts_line step part line n = grind (arith, nat_tests)

parts_less : (step part line n : ℕ) → parts step part line (n + 1) ≤ parts step part line n
parts_less step part line n = grind (arith, nat_tests)

parts_over : (step part line n : ℕ) → future step (line + 1) ≤ parts step part line n
parts_over step part line n = grind (arith, nat_tests)

parts_here : (step part : ℕ) → parts step part step part ≡ 1
parts_here step part = grind (arith, nat_tests)

parts_past : (step part : ℕ) → parts step part step (part + 1) ≡ 0
parts_past step part = grind (arith, nat_tests)

module _ (it : OpId) where
  abbrev pub ours : OpId → Bool
  ours op = is_same op it

  -- what a line has room for, by what it has begun
  abbrev pub room_of : ℕ → Own → ℕ
  room_of line Used = future it.step (line + 1)
  room_of line (ToConnect place) = future it.step (line + 1)
  room_of line (Names n) = parts it.step it.part line n
  room_of line _ = future it.step line

  -- there is the least once it is used
  pub less_room : (line : ℕ) (own : Own) → room_of line Used ≤ room_of line own
  less_room line Used = omega arith
  less_room line (ToConnect place) = omega arith
  less_room line Unused = future_less it.step line
  less_room line (ToWrite at bytes) = future_less it.step line
  less_room line (Names n) = parts_over it.step it.part line n

  -- a line whose parts begin has no more than one that began nothing
  pub names_within : (line n : ℕ) → room_of line (Names n) ≤ room_of line Unused
  names_within line n = parts_line it.step it.part line n

  -- an operation takes the room that its name has
  takes : (id : OpId) (items : List Item) (i : Bool) (was now : ℕ) → checks_of items ≤ 1 → now ≤ was → (id ≡ it → (was ≡ 1) × (now ≡ 0)) → op_weight ours id items i + now ≤ was
  takes id items i was now c l mine = by_test (ours id) i refl
    where
      weighs : (mine i : Bool) → ours id ≡ mine → op_weight ours id items i ≤ if_ours mine 1
      weighs true true e = rw e (omega (arith, c))
      weighs true false e = rw e (omega arith)
      weighs false true e = rw e (omega arith)
      weighs false false e = rw e (omega arith)

      by_test : (is i : Bool) → ours id ≡ is → op_weight ours id items i + now ≤ was
      by_test true i e = let w = weighs true i e in let k = mine (same_side id it e) in let a = k.0 in let b = k.1 in omega (arith, w, a, b)
      by_test false i e = let w = weighs false i e in omega (arith, w, l)

  -- the operation of a line takes that of the line
  pub takes_line : (line : ℕ) (own : Own) (id : OpId) (items : List Item) → room_of line own ≡ room_of line Unused → id.step ≡ line → checks_of items ≤ 1 → (i : Bool) → op_weight ours id items i + room_of line Used ≤ room_of line own
  takes_line line own id items r s c i =
      takes id items i (room_of line own) (room_of line Used) c (let l = future_less it.step line in omega (arith, r, l))
      (λ e. let x : line ≡ it.step = sym s ∙ ap (λ (y : OpId). y.step) e in (r ∙ (ap (λ (n : ℕ). future it.step n) x ∙ future_here it.step), ap (λ (n : ℕ). future it.step (n + 1)) x ∙ future_past it.step))

  -- and that of a part takes the part
  pub takes_part : (line n : ℕ) (own : Own) (items : List Item) → own ≡ Names n → checks_of items ≤ 1 → (i : Bool) → op_weight ours (part_of line n) items i + room_of line (Names (n + 1)) ≤ room_of line own
  takes_part line n own items o c i =
      let r : room_of line own ≡ parts it.step it.part line n = ap (room_of line) o in
      takes (part_of line n) items i (room_of line own) (room_of line (Names (n + 1))) c (let l = parts_less it.step it.part line n in omega (arith, r, l))
      (λ e. let x : line ≡ it.step = ap (λ (y : OpId). y.step) e in let y : n ≡ it.part = ap (λ (z : OpId). z.part) e in
      (r ∙ (ap (λ (m : ℕ). parts it.step it.part m n) x ∙ (ap (λ (m : ℕ). parts it.step it.part it.step m) y ∙ parts_here it.step it.part)), ap (λ (m : ℕ). parts it.step it.part m (n + 1)) x ∙ (ap (λ (m : ℕ). parts it.step it.part it.step (m + 1)) y ∙ parts_past it.step it.part)))
