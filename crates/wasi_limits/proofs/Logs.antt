-- The logs of trees that ask the same.
use Rattle.std.proofs.Common.{refl, ap, subst, List, [], ◌∷◌, ℕ}
use Rattle.wasi_world.specs.declared.ids.OpId.{OpId}
use Rattle.wasi_world.specs.declared.call.Call.{Call}
use Rattle.wasi_world.specs.declared.call.Call.TheVariants.{Write}
use Rattle.wasi_world.specs.declared.call.Told.{Told}
use Rattle.wasi_world.specs.declared.call.Entry.{Entry}
use Rattle.wasi_world.specs.Asks.{Asks, Ask, AskWrite, IsCall, IsFront, Left}
use Rattle.std.specs.Prelude.{length}
use Rattle.wasi_limits.specs.Alike.{Alike, BothGive, OneStops, OtherStops, BothAsk, BothWrite}
use Rattle.wasi_limits.specs.Runs.{Follows, GoesOn, IsStopped}

module _ {A : Type 0} {S : A → Type 0} {R : A → A → Type 0} where
  -- an ask that both make
  asked : (op : OpId) (call : Call) (more : Told → Asks A) (e : Entry) (es : List Entry) (rest : Asks A) → IsCall op call e → Follows S R (more e.answer) es rest → Follows S R (Ask op call more) (e ∷ es) rest
  asked op call more e es rest is (GoesOn left w h) = GoesOn left (is, w) h
  asked op call more e es rest is (IsStopped front back cut a w s) = IsStopped (e ∷ front) back (ap (λ (xs : List Entry). e ∷ xs) cut) a (is, w) s

  written : (op sock : OpId) (bytes : List ℕ) (more : Told → Asks A) (e : Entry) (es : List Entry) (rest : Asks A) → IsCall op (Write sock (length bytes)) e → IsFront e.answer bytes → Follows S R (more e.answer) es rest → Follows S R (AskWrite op sock bytes more) (e ∷ es) rest
  written op sock bytes more e es rest is front (GoesOn left w h) = GoesOn left (is, front, w) h
  written op sock bytes more e es rest is front (IsStopped entries back cut a w s) = IsStopped (e ∷ entries) back (ap (λ (xs : List Entry). e ∷ xs) cut) a (is, front, w) s

  pub follows : (es : List Entry) {t u : Asks A} (rest : Asks A) → Alike S R t u → Left t es rest → Follows S R u es rest
  follows [] {u = u} rest h w = GoesOn u refl (let P : Asks A → Type 0 = λ x. Alike S R x u in subst P w h)
  follows (e ∷ es) rest (BothGive a b r) w = absurd w
  follows (e ∷ es) rest (OneStops a u s) w = absurd w
  follows (e ∷ es) rest (OtherStops t a s) w = IsStopped [] (e ∷ es) refl a refl s
  follows (e ∷ es) rest (BothAsk op call next more h) w = asked op call more e es rest w.0 (follows es rest (h e.answer) w.1)
  follows (e ∷ es) rest (BothWrite op sock bytes next more h) w = written op sock bytes more e es rest w.0 w.1 (follows es rest (h e.answer) w.2)
