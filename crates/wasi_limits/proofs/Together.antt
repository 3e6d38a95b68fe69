-- How trees that ask the same are put together.
use Rattle.std.proofs.Common.{◌≡◌, refl, subst}
use Rattle.wasi_world.specs.Asks.{Asks, Give, Ask, AskWrite}
unfoldable use Rattle.wasi_world.specs.Asks.{bind}
use Rattle.wasi_limits.specs.Alike.{Alike, BothGive, OneStops, OtherStops, BothAsk, BothWrite, Same, StopsAt, Stopped}

-- a tree asks the same as itself
pub itself : {A : Type 0} {S : A → Type 0} {R : A → A → Type 0} → ((a : A) → R a a) → (t : Asks A) → Alike S R t t
itself r (Give a) = BothGive a a (r a)
itself r (Ask op call next) = BothAsk op call next next (λ told. itself r (next told))
itself r (AskWrite op sock bytes next) = BothWrite op sock bytes next next (λ told. itself r (next told))

-- what is weaker
pub alike_weaker : {A : Type 0} {S T : A → Type 0} {R Q : A → A → Type 0} {t u : Asks A} → ((a : A) → S a → T a) → ((a b : A) → R a b → Q a b) → Alike S R t u → Alike T Q t u
alike_weaker s k (BothGive a b r) = BothGive a b (k a b r)
alike_weaker s k (OneStops a u h) = OneStops a u (s a h)
alike_weaker s k (OtherStops t a h) = OtherStops t a (s a h)
alike_weaker s k (BothAsk op call next more h) = BothAsk op call next more (λ told. alike_weaker s k (h told))
alike_weaker s k (BothWrite op sock bytes next more h) = BothWrite op sock bytes next more (λ told. alike_weaker s k (h told))

-- one that is stopped
pub one_stops : {A : Type 0} {S : A → Type 0} {R : A → A → Type 0} {t : Asks A} → StopsAt S t → (u : Asks A) → Alike S R t u
one_stops (Stopped a h) u = OneStops a u h

pub other_stops : {A : Type 0} {S : A → Type 0} {R : A → A → Type 0} {u : Asks A} (t : Asks A) → StopsAt S u → Alike S R t u
other_stops t (Stopped a h) = OtherStops t a h

-- one after another
pub alike_then : {A B : Type 0} {S : A → Type 0} {R : A → A → Type 0} {T : B → Type 0} {Q : B → B → Type 0} {t u : Asks A} {f g : A → Asks B}
    → Alike S R t u → ((a : A) → S a → StopsAt T (f a)) → ((a : A) → S a → StopsAt T (g a)) → ((a b : A) → R a b → Alike T Q (f a) (g b)) → Alike T Q (bind t f) (bind u g)
unfolding bind
alike_then (BothGive a b r) s o k = k a b r
alike_then {u = u} {g = g} (OneStops a asks h) s o k = one_stops (s a h) (bind asks g)
alike_then {f = f} (OtherStops asks a h) s o k = other_stops (bind asks f) (o a h)
alike_then {f = f} {g = g} (BothAsk op call next more h) s o k = BothAsk op call (λ told. bind (next told) f) (λ told. bind (more told) g) (λ told. alike_then (h told) s o k)
alike_then {f = f} {g = g} (BothWrite op sock bytes next more h) s o k = BothWrite op sock bytes (λ told. bind (next told) f) (λ told. bind (more told) g) (λ told. alike_then (h told) s o k)

-- after trees of which none is stopped
pub same_then : {A B : Type 0} {R : A → A → Type 0} {T : B → Type 0} {Q : B → B → Type 0} {t u : Asks A} {f g : A → Asks B}
    → Same R t u → ((a b : A) → R a b → Alike T Q (f a) (g b)) → Alike T Q (bind t f) (bind u g)
same_then h k = alike_then h (λ a n. absurd n) (λ a n. absurd n) k

-- after one and the same tree
pub after_both : {A B : Type 0} {T : B → Type 0} {Q : B → B → Type 0} {f g : A → Asks B} (t : Asks A) → ((a : A) → Alike T Q (f a) (g a)) → Alike T Q (bind t f) (bind t g)
after_both {A} {T = T} {Q = Q} {f = f} {g = g} t k = same_then {R = λ a b. a ≡ b} (itself (λ a. refl) t) (λ a b e. let P : A → Type 0 = λ x. Alike T Q (f a) (g x) in subst P e (k a))

-- and what it gives is made into something else
pub both_give : {A B : Type 0} {T : B → Type 0} {Q : B → B → Type 0} (f g : A → B) (t : Asks A) → ((a : A) → Q (f a) (g a)) → Alike T Q (bind t (λ a. Give (f a))) (bind t (λ a. Give (g a)))
both_give f g t k = after_both t (λ a. BothGive (f a) (g a) (k a))

pub same_give : {A B : Type 0} {R : A → A → Type 0} {T : B → Type 0} {Q : B → B → Type 0} (f g : A → B) {t u : Asks A} → Same R t u → ((a b : A) → R a b → Q (f a) (g b)) → Alike T Q (bind t (λ a. Give (f a))) (bind u (λ a. Give (g a)))
same_give f g h k = same_then h (λ a b r. BothGive (f a) (g b) (k a b r))
