-- A network socket that is written through a lent value.
use Rattle.std.specs.Prelude.{◌&&◌, option_map, cond, OnErr}
use Rattle.std.proofs.Common.{◌≡◌, ℕ, ◌==◌, Bool, true, false, Some, Result, Ok, Err, refl, sym, ap, ◌∙◌, arith}
use Rattle.std.specs.declared.cmp.Ordering.{Ordering}
use Rattle.std.specs.declared.cmp.Ordering.TheVariants.{Less, Equal, Greater}
use Rattle.std.specs.Ordering.{is_eq, nat_cmp, ordering_then}
use Rattle.std.specs.BTreeMap.{BTreeMap, get}
use Rattle.std.proofs.lemmas.Bool.{eqb-true}
use Rattle.wasi_world.specs.declared.ids.OpId.{OpId}
use Rattle.wasi_world.specs.Sides.{is_same, name_cmp}
use Rattle.wasi_net.specs.declared.socket.Socket.{Socket}
use Rattle.wasi_net.specs.Known.{Known, known_of, known_sides, Same}

-- two names that are the same are equal
pub same_name : (a b : OpId) → is_same a b ≡ true → a ≡ b
same_name a b h = by_tests (a.step == b.step) (a.part == b.part) (eqb-true a.step b.step) (eqb-true a.part b.part) h
  where
    by_tests : (x y : Bool) → (x ≡ true → a.step ≡ b.step) → (y ≡ true → a.part ≡ b.part) → (x && y) ≡ true → a ≡ b
    by_tests true true f g e =
        ap (λ (n : ℕ). let o : OpId = record { step = n; part = a.part } in o) (f refl) ∙ ap (λ (n : ℕ). let o : OpId = record { step = b.step; part = n } in o) (g refl)
    by_tests true false f g e = absurd (cc)
    by_tests false y f g e = absurd (cc)

-- a name is the same as itself
pub is_same-self : (a : OpId) → is_same a a ≡ true
is_same-self a = grind arith

-- the order of names finds the same name
is_eq-nat_cmp : (a b : ℕ) → is_eq (nat_cmp a b) ≡ (a == b)
is_eq-nat_cmp a b = grind arith

is_eq-then : (o p : Ordering) → is_eq (ordering_then o p) ≡ (is_eq o && is_eq p)
is_eq-then Less p = refl
is_eq-then Equal p = refl
is_eq-then Greater p = refl

finds_same : (a b : OpId) → is_eq (name_cmp a b) ≡ is_same a b
finds_same a b = is_eq-then (nat_cmp a.step b.step) (nat_cmp a.part b.part) ∙ rw (is_eq-nat_cmp a.step b.step, is_eq-nat_cmp a.part b.part) refl

-- where the network socket that was lent is known as before, so are all
pub lent_same : {A E : Type 0} (result : Result A E) (before after : BTreeMap OpId Socket) (place : OpId) (old now : Socket) → get name_cmp before place ≡ Some old → ((name : OpId) → get name_cmp after name ≡ cond (is_eq (name_cmp place name)) (Some now) (get name_cmp before name)) → OnErr result (known_of now ≡ known_of old) → OnErr result (Same (known_sides before) (known_sides after))
lent_same (Ok a) before after place old now was updates h = tt
lent_same (Err e) before after place old now was updates h = λ name. by_test name (is_same place name) refl
  where
    by_test : (name : OpId) (b : Bool) → is_same place name ≡ b → known_sides after name ≡ known_sides before name
    by_test name true same =
        let written : get name_cmp after name ≡ Some now = updates name ∙ rw (finds_same place name, same) refl in
        let here : known_sides after name ≡ Some (known_of now) = ap (λ o. option_map known_of o) written in
        let there : known_sides before name ≡ Some (known_of old) = ap (λ o. option_map known_of o) (ap (λ it. get name_cmp before it) (sym (same_name place name same)) ∙ was) in
        here ∙ ap (λ (k : Known). Some k) h ∙ sym there
    by_test name false other =
        let kept : get name_cmp after name ≡ get name_cmp before name = updates name ∙ rw (finds_same place name, other) refl in
        ap (λ o. option_map known_of o) kept
