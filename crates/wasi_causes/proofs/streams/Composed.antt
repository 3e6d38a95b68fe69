-- Calls that are made of others: how the end of a part is that of the call, and what is asked of each part.
use Rattle.wasi_causes.proofs.Words.{◌≡◌, ◌+◌, ℕ, arith, List, [], ◌∷◌, ◌++◌, Option, None, refl, sym, subst, ap, inl, inr, Answered, Asks, Entry, Full, Give, Left, Machine, MissesHandle, NoSuchHandle, Reply, Standing, Step, TrapKind, WasiSocketsCtx, asks_while, bind, marks_in, step_asks}
use Rattle.std.specs.Prelude.{◌⊎◌}
use Rattle.wasi_steps.specs.declared.reply.CodeWord.{CodeWord}
use Rattle.wasi_steps.specs.declared.reply.Reply.TheVariants as reply
use Rattle.wasi_world.proofs.Walks.{left_in}
use Rattle.wasi_walks.specs.Missing.{MakesHandle}
use Rattle.wasi_causes.specs.Outcomes.{Ends, Fails, IsStreamCall, LeavesMissing, LeftFull, Replies, Traps}
use Rattle.wasi_causes.specs.Parts.{GivesNone}

pub marks_two : (es fs : List Entry) → marks_in (es ++ fs) ≡ marks_in es + marks_in fs
marks_two [] fs = omega arith
marks_two (e ∷ es) fs = let k = marks_two es fs in omega (arith, k)

-- what a part was answered, as a step of its own
pub answers_part : {A : Type 0} (contexts : List WasiSocketsCtx) (m : Machine) (line : ℕ) (s : Step) (tree : Asks (A × Machine)) (tell : A → Reply) → step_asks contexts m line s ≡ bind tree (λ done. Give (tell done.0, done.1)) → m.store.standing ≡ None
    → (es : List Entry) (given : A) (after : Machine) → Left tree es (Give (given, after)) → Answered contexts m line s es (tell given) after
unfolding bind
answers_part contexts m line s tree tell same free es given after h =
    subst (λ (o : Option Standing). Left (asks_while contexts m line s o) es (Give (tell given, after))) (sym free)
    (subst (λ (t : Asks (Reply × Machine)). Left t es (Give (tell given, after))) (sym same) (left_in (λ done. Give (tell done.0, done.1)) tree (Give (given, after)) es h))

-- What a step is that is made of parts: of its ends, its failures and of a full table nothing else is said.
pub record IsComposed (contexts : List WasiSocketsCtx) (m : Machine) (line : ℕ) (s : Step) : Type 0 where
  pub stream : IsStreamCall s
  pub makes : MakesHandle s
  pub ends : (es : List Entry) (after : Machine) → Ends m line s es after
  pub fails : (es : List Entry) (w : CodeWord) (handle : ℕ) (after : Machine) → Fails m line s es w handle after
  pub full : (es : List Entry) (after : Machine) → LeftFull contexts m line s es after

-- it is one of the two traps that a part hands on
abbrev pub HandsOn : TrapKind → Type 0
HandsOn kind = (kind ≡ NoSuchHandle) ⊎ (kind ≡ Full)

module _ (contexts : List WasiSocketsCtx) (m : Machine) (line : ℕ) (s : Step) (is : IsComposed contexts m line s) where
  -- the end of a part, which is a step of that line, is that of the call
  pub of_part : (its_line : ℕ) (p : Step) (mid : Machine) (es fs : List Entry) (r : Reply) (after : Machine) → mid.table ≡ m.table → marks_in es ≡ 0 → GivesNone r → Replies contexts mid its_line p fs r after
      → ((kind : TrapKind) → r ≡ reply.Trap kind → HandsOn kind) → (r ≡ reply.Trap NoSuchHandle → MissesHandle m s × LeavesMissing m s (es ++ fs) after) → Replies contexts m line s (es ++ fs) r after
  of_part its_line p mid es fs reply.Closed after table none gives row traps misses = (is.stream, is.ends (es ++ fs) after)
  of_part its_line p mid es fs (reply.Failed w handle) after table none gives row traps misses = ((is.stream, row.0.1), is.fails (es ++ fs) w handle after)
  of_part its_line p mid es fs (reply.Trap kind) after table none gives row traps misses = elim (traps kind refl) [
    | inl e ↦ subst (λ (k : TrapKind). Traps contexts m line s (es ++ fs) k after) (sym e) (misses (ap reply.Trap e))
    | inr e ↦ let its : Traps contexts mid its_line p fs Full after = subst (λ (k : TrapKind). Traps contexts mid its_line p fs k after) e row in subst (λ (k : TrapKind). Traps contexts m line s (es ++ fs) k after) (sym e) (is.makes, (its.1.0, let next = its.1.1 in let marks = marks_two es fs in let same : mid.table.next ≡ m.table.next = ap (λ t. t.next) table in omega (arith, next, marks, same, none)), is.full (es ++ fs) after)
  ]
  of_part its_line p mid es fs _ after table none gives row traps misses = absurd gives
