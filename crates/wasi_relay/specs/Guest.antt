-- What a guest does, as a tree over the replies, and the parts that it is made of.
use Rattle.std.specs.Prelude.{◌≡◌, List, [], ◌∷◌, ◌++◌}
use Rattle.wasi_steps.specs.declared.guest_call.GuestCall.{GuestCall}
use Rattle.wasi_steps.specs.declared.step.Step.{Step}
use Rattle.wasi_steps.specs.declared.step.Step.TheVariants.{Call}
use Rattle.wasi_steps.specs.declared.reply.Reply.{Reply}
use Rattle.wasi_relay.specs.declared.pair.Pair.{Pair}
use Rattle.wasi_relay.specs.declared.service.RelayEnd.{RelayEnd}

-- It makes a step, and goes on by the reply; or it is at its end, with these pairs.
pub data Guest : Type 0 where
  Do : Step → (Reply → Guest) → Guest
  Ends : RelayEnd → List Pair → Guest

-- a part of a guest, before what the guest does with what the part gives
abbrev pub Part : Type 0 → Type 0
Part A = (A → Guest) → Guest

abbrev pub give : {A : Type 0} → A → Part A
give a = λ next. next a

infixl 10 ◌>>=◌
abbrev pub ◌>>=◌ : {A B : Type 0} → Part A → (A → Part B) → Part B
part >>= more = λ next. part (λ a. more a next)

infixl 10 ◌>>◌
abbrev pub ◌>>◌ : {A B : Type 0} → Part A → Part B → Part B
part >> more = λ next. part (λ a. more next)

-- one step, which gives its reply
abbrev pub one : Step → Part Reply
one step = λ next. Do step next

-- a call of context 0
abbrev pub call : GuestCall → Part Reply
call c = one (Call 0 c)

-- == what was done of a guest
-- the steps with their replies lead through the guest to this rest
abbrev pub Leads : Guest → List Step → List Reply → Guest → Type 0
Leads guest [] [] rest = guest ≡ rest
Leads (Do step next) (s ∷ steps) (reply ∷ replies) rest = (s ≡ step) × Leads (next reply) steps replies rest
Leads _ _ _ _ = ⊥

-- the step at which memory ran out, if it did: it is the next one, and has no reply
abbrev pub IsNext : Guest → List Step → Type 0
IsNext rest [] = Unit {0}
IsNext (Do step next) (s ∷ []) = s ≡ step
IsNext _ _ = ⊥

-- The steps are the first that the guest makes, by the replies; the last may have none.
pub record Begins (guest : Guest) (steps : List Step) (replies : List Reply) : Type 0 where
  pub answered : List Step
  pub missed : List Step
  pub rest : Guest
  pub all : steps ≡ answered ++ missed
  pub leads : Leads guest answered replies rest
  pub next : IsNext rest missed
