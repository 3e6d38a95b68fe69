-- What is let write along a tree, by the entries that answer it: laws of its parts make one of the whole.
use Rattle.wasi_world.specs.declared.call.Call.TheVariants as call
use Rattle.wasi_laws.proofs.Words.{◌≡◌, ℕ, List, [], ◌∷◌, ◌++◌, sym, ap, subst, ◌∙◌, append-nil, append_assoc, length, OpId, Call, Told, Entry, Asks, Give, Ask, AskWrite, bind, Left, Fits, IsFront, Allows, IsFrontOf, taken_in, entry}
use Rattle.wasi_laws.proofs.permits.Taken.{Fronts}
use Rattle.wasi_laws.specs.Writes.{let_after}

the_entry : (e : Entry) (op : OpId) (c : Call) → e.op ≡ op → e.call ≡ c → entry op c e.answer ≡ e
the_entry e op c h k = sym (ap (λ (o : OpId). entry o e.call e.answer) h ∙ ap (λ (x : Call). entry op x e.answer) k)

module _ (side : OpId) {A : Type 0} (Q : List ℕ → List Entry → A → Type 0) where
  -- So much is let write, by the entries that come after these: at each ask what was taken is a front of it, and at the end this
  -- holds.
  abbrev pub Lets : (List Entry → List ℕ) → List Entry → Asks A → Type 0
  Lets all es (Give a) = Q (all []) es a
  Lets all es (Ask op c next) = IsFrontOf (taken_in side es) (all []) × ((told : Told) → Fits c told → Lets (λ fs. all (entry op c told ∷ fs)) (es ++ entry op c told ∷ []) (next told))
  Lets all es (AskWrite op sock bytes next) =
      let c : Call = call.Write sock (length bytes) in IsFrontOf (taken_in side es) (all []) × ((told : Told) → Fits c told → IsFront told bytes → Lets (λ fs. all (entry op c told ∷ fs)) (es ++ entry op c told ∷ []) (next told))

  -- the same bytes, said otherwise
  pub lets_same : (all more : List Entry → List ℕ) → ((fs : List Entry) → all fs ≡ more fs) → (es : List Entry) (asks : Asks A) → Lets all es asks → Lets more es asks
  lets_same all more e es (Give a) h = subst (λ (bytes : List ℕ). Q bytes es a) (e []) h
  lets_same all more e es (Ask op c next) h =
      (subst (IsFrontOf (taken_in side es)) (e []) h.0, λ told fits. let x = entry op c told in lets_same (λ fs. all (x ∷ fs)) (λ fs. more (x ∷ fs)) (λ fs. e (x ∷ fs)) (es ++ x ∷ []) (next told) (h.1 told fits))
  lets_same all more e es (AskWrite op sock bytes next) h =
      (subst (IsFrontOf (taken_in side es)) (e []) h.0, λ told fits front. let x = entry op (call.Write sock (length bytes)) told in lets_same (λ fs. all (x ∷ fs)) (λ fs. more (x ∷ fs)) (λ fs. e (x ∷ fs)) (es ++ x ∷ []) (next told) (h.1 told fits front))

  -- as much along all of it
  pub lets_all : (given : List ℕ) (es : List Entry) (asks : Asks A) → Allows (Fronts side given) (λ fs a. Q given fs a) es asks → Lets (λ fs. given) es asks
  lets_all given es (Give a) h = h
  lets_all given es (Ask op c next) h = (h.0, λ told fits. lets_all given _ (next told) (h.1 told fits))
  lets_all given es (AskWrite op sock bytes next) h = (h.0, λ told fits front. lets_all given _ (next told) (h.1 told fits front))

  -- what is left of it after these entries
  pub lets_left : (all : List Entry → List ℕ) (es : List Entry) (asks : Asks A) (fs : List Entry) (rest : Asks A) → Lets all es asks → Left asks fs rest → Lets (λ gs. all (fs ++ gs)) (es ++ fs) rest
  lets_left all es asks [] rest h w = subst (λ (x : List Entry). Lets all x rest) (sym (append-nil es)) (subst (Lets all es) w h)
  lets_left all es (Give a) (e ∷ fs) rest h w = absurd w
  lets_left all es (Ask op c next) (e ∷ fs) rest h w =
      let T : Entry → Type 0 = λ x. Lets (λ gs. all (x ∷ gs)) (es ++ x ∷ []) (next e.answer) in
      subst (λ (x : List Entry). Lets (λ gs. all (e ∷ (fs ++ gs))) x rest) (append_assoc es (e ∷ []) fs) (lets_left (λ gs. all (e ∷ gs)) (es ++ e ∷ []) (next e.answer) fs rest (subst T (the_entry e op c w.0.0 w.0.1) (h.1 e.answer w.0.2)) w.1)
  lets_left all es (AskWrite op sock bytes next) (e ∷ fs) rest h w =
      let T : Entry → Type 0 = λ x. Lets (λ gs. all (x ∷ gs)) (es ++ x ∷ []) (next e.answer) in
      subst (λ (x : List Entry). Lets (λ gs. all (e ∷ (fs ++ gs))) x rest) (append_assoc es (e ∷ []) fs) (lets_left (λ gs. all (e ∷ gs)) (es ++ e ∷ []) (next e.answer) fs rest (subst T (the_entry e op (call.Write sock (length bytes)) w.0.0 w.0.1) (h.1 e.answer w.0.2 w.1)) w.2)

  -- where the end says that what was taken is a front, so does each ask
  pub lets_front : ((bytes : List ℕ) (es : List Entry) (a : A) → Q bytes es a → IsFrontOf (taken_in side es) bytes) → (all : List Entry → List ℕ) (es : List Entry) (asks : Asks A) → Lets all es asks → IsFrontOf (taken_in side es) (all [])
  lets_front k all es (Give a) h = k (all []) es a h
  lets_front k all es (Ask op c next) h = h.0
  lets_front k all es (AskWrite op sock bytes next) h = h.0

module _ (side : OpId) {A B : Type 0} (Q : List ℕ → List Entry → B → Type 0) where
  -- what it gives is made into something else
  pub lets_given : (R : List ℕ → List Entry → A → Type 0) (g : A → B) → ((bytes : List ℕ) (fs : List Entry) (a : A) → R bytes fs a → Q bytes fs (g a)) → (all : List Entry → List ℕ) (es : List Entry) (asks : Asks A) → Lets side R all es asks → Lets side Q all es (bind asks (λ a. Give (g a)))
  unfolding bind
  lets_given R g k all es (Give a) h = k (all []) es a h
  lets_given R g k all es (Ask op c next) h = (h.0, λ told fits. lets_given R g k _ _ (next told) (h.1 told fits))
  lets_given R g k all es (AskWrite op sock bytes next) h = (h.0, λ told fits front. lets_given R g k _ _ (next told) (h.1 told fits front))

  -- one tree after another: what is let begin after the first is so once the first is answered
  pub lets_after : (Mid : List Entry → A → Type 0) (next : A → List Entry → List ℕ) (given : List ℕ) (es : List Entry) (asks : Asks A) (f : A → Asks B) → Allows (Fronts side given) Mid es asks → ((fs : List Entry) (a : A) → Mid fs a → Lets side Q (λ gs. given ++ next a gs) fs (f a))
      → Lets side Q (λ gs. given ++ let_after asks next gs) es (bind asks f)
  unfolding bind
  lets_after Mid next given es (Give a) f h k = k es a h
  lets_after Mid next given es (Ask op c more) f h k = (subst (IsFrontOf (taken_in side es)) (sym (append-nil given)) h.0, λ told fits. lets_after Mid next given _ (more told) f (h.1 told fits) k)
  lets_after Mid next given es (AskWrite op sock bytes more) f h k = (subst (IsFrontOf (taken_in side es)) (sym (append-nil given)) h.0, λ told fits front. lets_after Mid next given _ (more told) f (h.1 told fits front) k)

  -- the same where the first writes
  pub lets_writes : (Mid : List Entry → A → Type 0) (next : A → List Entry → List ℕ) (given bytes : List ℕ) (es : List Entry) (asks : Asks A) (f : A → Asks B) → Allows (Fronts side (given ++ bytes)) Mid es asks → ((fs : List Entry) (a : A) → Mid fs a → Lets side Q (λ gs. (given ++ bytes) ++ next a gs) fs (f a))
      → Lets side Q (λ gs. given ++ (bytes ++ let_after asks next gs)) es (bind asks f)
  lets_writes Mid next given bytes es asks f h k =
      lets_same side Q (λ gs. (given ++ bytes) ++ let_after asks next gs) (λ gs. given ++ (bytes ++ let_after asks next gs)) (λ gs. append_assoc given bytes (let_after asks next gs)) es (bind asks f) (lets_after Mid next (given ++ bytes) es asks f h k)
