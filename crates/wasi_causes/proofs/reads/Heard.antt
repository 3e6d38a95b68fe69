-- What a network socket tells along a tree of asks.
use Rattle.wasi_causes.proofs.Words.{Asks, Bool, Entry, Give, Left, List, OpId, Told, [], append_assoc, bind, false, if◌then◌else◌, subst, sym}
use Rattle.wasi_causes.proofs.Words.{true, ℕ, ◌++◌, ◌∷◌, ◌≡◌}
use Rattle.wasi_world.specs.Asks.{Ask, AskWrite}
use Rattle.wasi_world.specs.Fits.{Fits}
use Rattle.wasi_world.specs.declared.call.Call.{Call}
use Rattle.wasi_causes.specs.ToldBytes.{told_by, told_in}

module _ (side : OpId) where
  -- what it gives is so, by all the bytes that the network socket told along it
  abbrev pub Hears : {A : Type 0} → (List ℕ → A → Type 0) → Asks A → Type 0
  Hears Q (Give a) = Q [] a
  Hears Q (Ask op c next) = (told : Told) → Fits c told → Hears (λ more a. Q (told_by side c told ++ more) a) (next told)
  Hears Q (AskWrite op sock bytes next) = (told : Told) → Hears Q (next told)

  pub hears_left : {A : Type 0} (Q : List ℕ → A → Type 0) (asks : Asks A) (es : List Entry) (a : A) → Hears Q asks → Left asks es (Give a) → Q (told_in side es) a
  hears_left Q (Give x) [] a h w = let same : x ≡ a = cc in subst (Q []) same h
  hears_left Q (Give x) (e ∷ es) a h w = absurd w
  hears_left Q (Ask op c next) [] a h w = absurd (cc)
  hears_left Q (Ask op c next) (e ∷ es) a h w =
      subst (λ (x : Call). Q (told_by side x e.answer ++ told_in side es) a) (sym w.0.1) (hears_left (λ more b. Q (told_by side c e.answer ++ more) b) (next e.answer) es a (h e.answer w.0.2) w.1)
  hears_left Q (AskWrite op sock bytes next) [] a h w = absurd (cc)
  hears_left Q (AskWrite op sock bytes next) (e ∷ es) a h w =
      subst (λ (x : Call). Q (told_by side x e.answer ++ told_in side es) a) (sym w.0.1) (hears_left Q (next e.answer) es a (h e.answer) w.2)

  pub hears_weaker : {A : Type 0} (Q R : List ℕ → A → Type 0) → ((heard : List ℕ) (a : A) → Q heard a → R heard a) → (asks : Asks A) → Hears Q asks → Hears R asks
  hears_weaker Q R k (Give a) h = k [] a h
  hears_weaker Q R k (Ask op c next) h = λ told fits. hears_weaker (λ more a. Q (told_by side c told ++ more) a) (λ more a. R (told_by side c told ++ more) a) (λ heard a q. k (told_by side c told ++ heard) a q) (next told) (h told fits)
  hears_weaker Q R k (AskWrite op sock bytes next) h = λ told. hears_weaker Q R k (next told) (h told)

  pub hears_then : {A B : Type 0} (R : List ℕ → A → Type 0) (Q : List ℕ → B → Type 0) (asks : Asks A) (f : A → Asks B) → Hears R asks → ((heard : List ℕ) (a : A) → R heard a → Hears (λ more b. Q (heard ++ more) b) (f a)) → Hears Q (bind asks f)
  unfolding bind
  hears_then R Q (Give a) f h k = k [] a h
  hears_then R Q (Ask op c next) f h k = λ told fits.
      hears_then (λ more a. R (told_by side c told ++ more) a) (λ more b. Q (told_by side c told ++ more) b) (next told) f (h told fits)
      (λ heard a r. hears_weaker (λ more b. Q ((told_by side c told ++ heard) ++ more) b) (λ more b. Q (told_by side c told ++ (heard ++ more)) b) (λ more b q. subst (λ (bytes : List ℕ). Q bytes b) (append_assoc (told_by side c told) heard more) q) (f a) (k (told_by side c told ++ heard) a r))
  hears_then R Q (AskWrite op sock bytes next) f h k = λ told. hears_then R Q (next told) f (h told) k

  pub hears_given : {A B : Type 0} (R : List ℕ → A → Type 0) (Q : List ℕ → B → Type 0) (asks : Asks A) (g : A → B) → ((heard : List ℕ) (a : A) → R heard a → Q heard (g a)) → Hears R asks → Hears Q (bind asks (λ a. Give (g a)))
  unfolding bind
  hears_given R Q (Give a) g k h = k [] a h
  hears_given R Q (Ask op c next) g k h = λ told fits. hears_given (λ more a. R (told_by side c told ++ more) a) (λ more b. Q (told_by side c told ++ more) b) (next told) g (λ heard a r. k (told_by side c told ++ heard) a r) (h told fits)
  hears_given R Q (AskWrite op sock bytes next) g k h = λ told. hears_given R Q (next told) g k (h told)

  pub hears_if : {A : Type 0} (Q : List ℕ → A → Type 0) (b : Bool) (asks others : Asks A) → Hears Q asks → Hears Q others → Hears Q (if b then asks else others)
  hears_if Q true asks others h k = h
  hears_if Q false asks others h k = k
