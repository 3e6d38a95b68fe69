-- Trees of asks that make no network socket, and how many network sockets are closed on a walk.
use Rattle.std.proofs.Common.{◌≡◌, false, ℕ, ◌+◌, List, [], ◌∷◌, refl, ap, subst, arith}
use Rattle.wasi_world.specs.declared.call.Call.{Call}
use Rattle.wasi_world.specs.declared.call.Told.{Told}
use Rattle.wasi_world.specs.declared.call.Told.TheVariants as told
use Rattle.wasi_world.specs.declared.call.Entry.{Entry}
use Rattle.wasi_world.specs.Asks.{Asks, Give, Ask, AskWrite, bind, Left}
use Rattle.record_common.specs.Sides.{Weight, tally, makes, made_by, closed_by, made_in, closed_in}

-- == trees that make no network socket, of which each counts for so much: so much was closed before, and this holds of how much
-- there is at the end
abbrev pub Counted : {A : Type 0} → Weight → (ℕ → A → Type 0) → ℕ → Asks A → Type 0
Counted w Q n (Give a) = Q n a
Counted w Q n (Ask op call next) = ((t : Told) → makes call t ≡ false) × ((t : Told) → Counted w Q (n + tally (closed_by call) w) (next t))
Counted w Q n (AskWrite op sock bytes next) = (t : Told) → Counted w Q n (next t)

module _ (w : Weight) where
  pub counted_then : {A B : Type 0} (R : ℕ → A → Type 0) (Q : ℕ → B → Type 0) (n : ℕ) (asks : Asks A) (f : A → Asks B) → Counted w R n asks → ((k : ℕ) (a : A) → R k a → Counted w Q k (f a)) → Counted w Q n (bind asks f)
  unfolding bind
  counted_then R Q n (Give a) f h k = k n a h
  counted_then R Q n (Ask op call next) f h k = (h.0, λ t. counted_then R Q (n + tally (closed_by call) w) (next t) f (h.1 t) k)
  counted_then R Q n (AskWrite op sock bytes next) f h k = λ t. counted_then R Q n (next t) f (h t) k

  -- what was made and closed on a walk, and what is left of the tree
  pub record Walked {A : Type 0} (Q : ℕ → A → Type 0) (n : ℕ) (es : List Entry) (rest : Asks A) : Type 0 where
    pub made : made_in es w ≡ 0
    pub left : Counted w Q (n + closed_in es w) rest

  pub counted_left : {A : Type 0} (Q : ℕ → A → Type 0) (n : ℕ) (asks : Asks A) (es : List Entry) (rest : Asks A) → Counted w Q n asks → Left asks es rest → Walked Q n es rest
  counted_left Q n asks [] rest h walk = record { made = refl; left = let z : n ≡ n + 0 = omega arith in subst (λ (k : ℕ). Counted w Q k rest) z (subst (Counted w Q n) walk h) }
  counted_left Q n (Give a) (e ∷ es) rest h walk = absurd walk
  counted_left Q n (Ask op call next) (e ∷ es) rest h walk =
      let r = counted_left Q (n + tally (closed_by call) w) (next e.answer) es rest (h.1 e.answer) walk.1 in
      let m : made_by e.op e.call e.answer w ≡ 0 = rw (walk.0.1, h.0 e.answer) refl in
      let c : tally (closed_by e.call) w ≡ tally (closed_by call) w = ap (λ (c : Call). tally (closed_by c) w) walk.0.1 in
      let q = r.made in
      let z : n + tally (closed_by call) w + closed_in es w ≡ n + (tally (closed_by e.call) w + closed_in es w) = omega arith in
      record { made = omega arith; left = subst (λ (k : ℕ). Counted w Q k rest) z r.left }
  counted_left Q n (AskWrite op sock bytes next) (e ∷ es) rest h walk =
      let r = counted_left Q n (next e.answer) es rest (h e.answer) walk.2 in
      let m : made_by e.op e.call e.answer w ≡ 0 = rw walk.0.1 refl in
      let c : tally (closed_by e.call) w ≡ 0 = rw walk.0.1 refl in
      let q = r.made in
      let z : n + closed_in es w ≡ n + (tally (closed_by e.call) w + closed_in es w) = omega arith in
      record { made = omega arith; left = subst (λ (k : ℕ). Counted w Q k rest) z r.left }

  -- where the ends of two report how much was closed before, it is as much
  pub counted_once : {A : Type 0} (Q R : ℕ → A → Type 0) (p q : ℕ) → ((n m : ℕ) (a : A) → Q n a → R m a → n + p ≡ m + q) → (n m : ℕ) (asks : Asks A) → Counted w Q n asks → Counted w R m asks → n + p ≡ m + q
  counted_once Q R p q one n m (Give a) h k = one n m a h k
  counted_once Q R p q one n m (Ask op call next) h k = let e = counted_once Q R p q one (n + tally (closed_by call) w) (m + tally (closed_by call) w) (next told.Done) (h.1 told.Done) (k.1 told.Done) in omega arith
  counted_once Q R p q one n m (AskWrite op sock bytes next) h k = counted_once Q R p q one n m (next told.Done) (h told.Done) (k told.Done)
