-- What is left of a run after its first lines: the run of the others, where none of the first was answered by a trap.
use Rattle.std.proofs.Common.{◌≡◌, ◌⊎◌, ℕ, ◌+◌, Bool, true, false, if◌then◌else◌, List, [], ◌∷◌, ◌++◌, length, refl, ap, subst, ◌∙◌, append_assoc, arith, inl, inr}
use Rattle.wasi_world.specs.declared.call.Entry.{Entry}
use Rattle.wasi_world.specs.declared.outcome.WasiSocketsCtx.{WasiSocketsCtx}
use Rattle.wasi_world.specs.Asks.{Asks, Give, Ask, AskWrite, bind, Left}
use Rattle.host_store.specs.declared.machine.Machine.{Machine}
use Rattle.wasi_machine.specs.Machine.{machine_asks, run}
use Rattle.wasi_steps.specs.declared.reply.Reply.{Reply}
use Rattle.wasi_steps.specs.declared.step.Step.{Step}
use Rattle.wasi_steps.specs.Reply.{is_trap}

-- == of two trees, one after another
-- What the first gave, and how many entries it took.
record Parts {A B : Type 0} (asks : Asks A) (f : A → Asks B) (es : List Entry) (b : B) : Type 0 where
  a : A
  front : List Entry
  back : List Entry
  cut : es ≡ front ++ back
  first : Left asks front (Give a)
  last : Left (f a) back (Give b)

parts : {A B : Type 0} (asks : Asks A) (f : A → Asks B) (es : List Entry) (b : B) → Left (bind asks f) es (Give b) → Parts asks f es b
unfolding bind
parts (Give a) f es b w = record { a = a; front = []; back = es; cut = refl; first = refl; last = w }
parts (Ask op c next) f [] b w = absurd (cc)
parts (Ask op c next) f (e ∷ es) b w = let k = parts (next e.answer) f es b w.1 in record { a = k.a; front = e ∷ k.front; back = k.back; cut = ap (λ (fs : List Entry). e ∷ fs) k.cut; first = (w.0, k.first); last = k.last }
parts (AskWrite op sock bytes next) f [] b w = absurd (cc)
parts (AskWrite op sock bytes next) f (e ∷ es) b w = let k = parts (next e.answer) f es b w.2 in record { a = k.a; front = e ∷ k.front; back = k.back; cut = ap (λ (fs : List Entry). e ∷ fs) k.cut; first = (w.0, w.1, k.first); last = k.last }

same_give : {A : Type 0} (a b : A) → (let x : Asks A = Give a in x) ≡ Give b → a ≡ b
same_give a b e = cc

follows : {A B : Type 0} (asks : Asks A) (f : A → Asks B) (front back : List Entry) (a : A) (rest : Asks B) → Left asks front (Give a) → Left (bind asks f) (front ++ back) rest → Left (f a) back rest
unfolding bind
follows (Give x) f [] back a rest w v = subst (λ (y : _). Left (f y) back rest) (same_give x a w) v
follows (Give x) f (e ∷ front) back a rest w v = absurd w
follows (Ask op c next) f [] back a rest w v = absurd (cc)
follows (Ask op c next) f (e ∷ front) back a rest w v = follows (next e.answer) f front back a rest w.1 v.1
follows (AskWrite op sock bytes next) f [] back a rest w v = absurd (cc)
follows (AskWrite op sock bytes next) f (e ∷ front) back a rest w v = follows (next e.answer) f front back a rest w.2 v.2

-- nothing comes after what is given
none_after : {A : Type 0} (a : A) (es : List Entry) (rest : Asks A) → Left (Give a) es rest → es ≡ []
none_after a [] rest w = refl
none_after a (e ∷ es) rest w = absurd w

-- == of a run
-- the last reply is a trap
abbrev pub last_traps : List Reply → Bool
last_traps [] = false
last_traps (r ∷ []) = is_trap r
last_traps (r ∷ x ∷ rs) = last_traps (x ∷ rs)

pub last_push : (rs : List Reply) (r : Reply) → last_traps (rs ++ r ∷ []) ≡ is_trap r
last_push [] r = refl
last_push (x ∷ []) r = refl
last_push (x ∷ y ∷ rs) r = last_push (y ∷ rs) r

-- The run of the others, from the state that the first left.
pub record GoesOnBy (contexts : List WasiSocketsCtx) (replies : List Reply) (m : Machine) (line : ℕ) (done more : List Step) (back : List Entry) (rest : Asks (List Reply × Machine)) : Type 0 where
  pub now : ℕ
  pub is : now ≡ line + length done
  pub left : Left (run contexts replies m now more) back rest

module _ (contexts : List WasiSocketsCtx) where
  -- it stopped, or goes on
  abbrev pub Splits : List Reply → Machine → ℕ → List Step → List Step → List Entry → Asks (List Reply × Machine) → Type 0
  Splits replies m line done more back rest = (back ≡ []) ⊎ (GoesOnBy contexts replies m line done more back rest × (last_traps replies ≡ false))

  pub run_splits : (done more : List Step) (replies : List Reply) (m : Machine) (line : ℕ) (front back : List Entry) (all : List Reply) (state : Machine) (rest : Asks (List Reply × Machine)) → last_traps replies ≡ false
      → Left (run contexts replies m line done) front (Give (all, state)) → Left (run contexts replies m line (done ++ more)) (front ++ back) rest → Splits all state line done more back rest
  run_splits [] more replies m line [] back all state rest q w v =
      let start : line ≡ line + 0 = omega arith in
      let its : (replies, m) ≡ (all, state) = same_give (replies, m) (all, state) w in
      inr (record { now = line; is = start; left = subst (λ (x : List Reply × Machine). Left (run contexts x.0 x.1 line more) back rest) its v }, subst (λ (x : List Reply × Machine). last_traps x.0 ≡ false) its q)
  run_splits [] more replies m line (e ∷ front) back all state rest q w v = absurd w
  run_splits (s ∷ done) more replies m line front back all state rest q w v =
      let k = parts (machine_asks contexts m line s) _ front (all, state) w in
      by_trap k.a.0 k.a.1 (λ mid q a b. run_splits done more (replies ++ k.a.0 ∷ []) k.a.1 (line + 1) mid back all state rest q a b) (is_trap k.a.0) refl k.back k.last
      (follows (machine_asks contexts m line s) _ k.front (k.back ++ back) k.a rest k.first (subst (λ (es : List Entry). Left (run contexts replies m line (s ∷ (done ++ more))) es rest) (ap (λ (es : List Entry). es ++ back) k.cut ∙ append_assoc k.front k.back back) v))
    where
      by_trap : (r : Reply) (now : Machine)
          → ((mid : List Entry) → last_traps (replies ++ r ∷ []) ≡ false → Left (run contexts (replies ++ r ∷ []) now (line + 1) done) mid (Give (all, state)) → Left (run contexts (replies ++ r ∷ []) now (line + 1) (done ++ more)) (mid ++ back) rest → Splits all state (line + 1) done more back rest)
          → (trap : Bool) → is_trap r ≡ trap → (mid : List Entry)
          → Left (if trap then Give (replies ++ r ∷ [], now) else run contexts (replies ++ r ∷ []) now (line + 1) done) mid (Give (all, state))
          → Left (if trap then Give (replies ++ r ∷ [], now) else run contexts (replies ++ r ∷ []) now (line + 1) (done ++ more)) (mid ++ back) rest → Splits all state line (s ∷ done) more back rest
      by_trap r now again true e [] a b = inl (none_after _ back rest b)
      by_trap r now again true e (x ∷ mid) a b = absurd a
      by_trap r now again false e mid a b = elim (again mid (last_push replies r ∙ e) a b) [
        | inl stops ↦ inl stops
        | inr on ↦ inr (record { now = on.0.now; is = (let p = on.0.is in omega (arith, p)); left = on.0.left }, on.1)
      ]
