-- The run of which numbers are left out is the run: it asks the same, gives the same replies but for these, and leaves the same machine.
use Rattle.std.proofs.Common.{◌≡◌, refl, sym, ap, subst, ◌∙◌, Bool, true, false, if◌then◌else◌, ℕ, ◌+◌, List, [], ◌∷◌, ◌++◌}
use Rattle.wasi_world.specs.declared.outcome.WasiSocketsCtx.{WasiSocketsCtx}
use Rattle.wasi_world.specs.Asks.{Asks, Give}
unfoldable use Rattle.wasi_world.specs.Asks.{bind}
use Rattle.host_store.specs.declared.machine.Machine.{Machine}
use Rattle.wasi_steps.specs.declared.reply.Reply.{Reply}
use Rattle.wasi_steps.specs.declared.reply.Reply.TheVariants as reply
use Rattle.wasi_steps.specs.declared.step.Step.{Step}
use Rattle.wasi_steps.specs.Reply.{is_trap}
use Rattle.wasi_machine.specs.Machine.{machine_asks, run}
use Rattle.wasi_limits.specs.Alike.{Alike, BothAsk, BothGive, BothWrite, OneStops, OtherStops, Same}
use Rattle.wasi_limits.specs.Runs.{EndsInTrap, IsRunBut, IsTcpScript, Kept, LeavesOut, LeftOut, NoReplies, SameButNumbers, SameReplies, Trapped, checks_writer_of, run_but, without_number}
use Rattle.wasi_limits.specs.Contexts.{LikeContexts}
use Rattle.wasi_limits.proofs.Runs.{runs_alike}
use Rattle.wasi_limits.proofs.Together.{after_both}
use Rattle.host_store.specs.Machine.{first_state}
use Rattle.wasi_steps.specs.Reply.{no_fields}

one_left_out : (b : Bool) (r : Reply) → LeavesOut (r ∷ []) (without_number b r ∷ [])
one_left_out true (reply.Ok fields) = LeftOut fields [] [] NoReplies
one_left_out _ r = Kept r [] [] NoReplies

more_left_out : {replies fewer more less : List Reply} → LeavesOut replies fewer → LeavesOut more less → LeavesOut (replies ++ more) (fewer ++ less)
more_left_out NoReplies k = k
more_left_out (Kept r replies fewer h) k = Kept r _ _ (more_left_out h k)
more_left_out (LeftOut fields replies fewer h) k = LeftOut fields _ _ (more_left_out h k)

if_trapped : (b : Bool) {t u : Asks (List Reply × Machine)} (replies fewer : List Reply) (r : Reply) (m : Machine) → LeavesOut replies fewer → Same IsRunBut t u
    → Same IsRunBut (if b then Give (replies ++ r ∷ [], m) else t) (if b then Give (fewer ++ r ∷ [], m) else u)
if_trapped true replies fewer r m h k = BothGive _ _ (more_left_out h (Kept r [] [] NoReplies), refl)
if_trapped false replies fewer r m h k = k

pub run_is : (c : ℕ) (contexts : List WasiSocketsCtx) (steps : List Step) (replies fewer : List Reply) (m : Machine) (line : ℕ) → LeavesOut replies fewer → Same IsRunBut (run contexts replies m line steps) (run_but c contexts fewer m line steps)
run_is c contexts [] replies fewer m line h = BothGive _ _ (h, refl)
run_is c contexts (s ∷ steps) replies fewer m line h =
    after_both (machine_asks contexts m line s) (λ done. if_trapped (is_trap done.0) replies fewer done.0 done.1 h
    (run_is c contexts steps (replies ++ done.0 ∷ []) (fewer ++ without_number (checks_writer_of c m s) done.0 ∷ []) done.1 (line + 1) (more_left_out h (one_left_out (checks_writer_of c m s) done.0))))

-- a trap that is the last of the replies with numbers left out is the last of all
pub data LastTrap : List Reply → Type 0 where
  IsLast : (front : List Reply) (r : Reply) → is_trap r ≡ true → LastTrap (front ++ r ∷ [])

one_more : (x : Reply) {replies : List Reply} → LastTrap replies → LastTrap (x ∷ replies)
one_more x (IsLast front r e) = IsLast (x ∷ front) r e

last_trap : (front : List Reply) (r : Reply) → is_trap r ≡ true → (replies fewer : List Reply) → fewer ≡ front ++ r ∷ [] → LeavesOut replies fewer → LastTrap replies
last_trap [] r e _ _ k NoReplies = absurd (cc)
last_trap [] r e _ _ k (Kept x [] [] h) = IsLast [] x (let i : x ≡ r = cc in ap is_trap i ∙ e)
last_trap [] r e _ _ k (Kept x [] (z ∷ zs) h) = elim h [ ]
last_trap [] r e _ _ k (Kept x (y ∷ ys) [] h) = elim h [ ]
last_trap [] r e _ _ k (Kept x (y ∷ ys) (z ∷ zs) h) = absurd (cc)
last_trap [] r e _ _ k (LeftOut fields replies fewer h) = absurd (let i : reply.Ok no_fields ≡ r = cc in let j : false ≡ true = ap is_trap i ∙ e in cc)
last_trap (f ∷ front) r e _ _ k NoReplies = absurd (cc)
last_trap (f ∷ front) r e _ _ k (Kept x replies fewer h) = one_more x (last_trap front r e replies fewer (cc) h)
last_trap (f ∷ front) r e _ _ k (LeftOut fields replies fewer h) = one_more (reply.Ok fields) (last_trap front r e replies fewer (cc) h)

ends_so : (replies : List Reply) (m : Machine) → LastTrap replies → EndsInTrap (replies, m)
ends_so _ m (IsLast front r e) = Trapped front r m e

trap_is : (a but : List Reply × Machine) → IsRunBut a but → EndsInTrap but → EndsInTrap a
trap_is (replies, m) _ h (Trapped front r now e) = ends_so replies m (last_trap front r e replies (front ++ r ∷ []) refl h.0)

-- what two trees have in common that ask the same as two that ask the same
module _ {A : Type 0} {S T : A → Type 0} {R Q P : A → A → Type 0} (stops : (a b : A) → R a b → S b → T a) (joins : (a b d e : A) → R a b → Q b d → R e d → P a e) where
  pub join : {t u v w : Asks A} → Same R t u → Alike S Q u v → Same R w v → Alike T P t w
  join (OneStops a u n) h k = absurd n
  join (OtherStops t a n) h k = absurd n
  join (BothGive a b r) (BothGive _ d q) (BothGive e _ g) = BothGive a e (joins a b d e r q g)
  join (BothGive a b r) (BothGive _ d q) (OneStops e v n) = absurd n
  join (BothGive a b r) (BothGive _ d q) (OtherStops w _ n) = absurd n
  join (BothGive a b r) (OneStops _ v s) k = OneStops a _ (stops a b r s)
  join h (OtherStops u d s) (BothGive e _ g) = OtherStops _ e (stops e d g s)
  join h (OtherStops u d s) (OneStops e v n) = absurd n
  join h (OtherStops u d s) (OtherStops w _ n) = absurd n
  join (BothAsk op call next more h) (BothAsk _ _ _ third k) (OneStops e _ n) = absurd n
  join (BothWrite op sock bytes next more h) (BothWrite _ _ _ _ third k) (OneStops e _ n) = absurd n
  join (BothAsk op call next more h) (BothAsk _ _ _ third k) (BothAsk _ _ fourth _ g) = BothAsk op call next fourth (λ told. join (h told) (k told) (g told))
  join (BothWrite op sock bytes next more h) (BothWrite _ _ _ _ third k) (BothWrite _ _ _ fourth _ g) = BothWrite op sock bytes next fourth (λ told. join (h told) (k told) (g told))

joined : (a b d e : List Reply × Machine) → IsRunBut a b → SameReplies b d → IsRunBut e d → SameButNumbers a e
joined a b d e h k g = record { fewer = b.0; one = h.0; another = subst (λ (x : List Reply). LeavesOut e.0 x) (sym k) g.0 }

-- so the runs themselves are alike
pub plain_alike : (c : ℕ) (contexts others : List WasiSocketsCtx) → LikeContexts c contexts others → (steps : List Step) → IsTcpScript steps → Alike EndsInTrap SameButNumbers (run contexts [] first_state 1 steps) (run others [] first_state 1 steps)
plain_alike c contexts others h steps tcp = join trap_is joined (run_is c contexts steps [] [] first_state 1 NoReplies) (runs_alike c contexts others h steps tcp) (run_is c others steps [] [] first_state 1 NoReplies)
