-- What a check is told: by the rules, and where none matches by the embedder.
use Rattle.std.specs.Prelude.{◌≡◌, ◌==◌, if◌then◌else◌, List, Option, Some, None, IfSome}
use Rattle.wasi_world.specs.declared.ids.OpId.{OpId}
use Rattle.wasi_world.specs.declared.call.Call.{Call}
use Rattle.wasi_world.specs.declared.call.Call.TheVariants.{Check}
use Rattle.wasi_world.specs.declared.call.Told.{Told}
use Rattle.wasi_world.specs.declared.call.Told.TheVariants as told
use Rattle.wasi_policy.specs.declared.rule.Rule.{Rule}
use Rattle.wasi_policy.specs.declared.rule.Decision.{Decision}
use Rattle.wasi_policy.specs.Decision.{decision}
use Rattle.wasi_asking.specs.declared.asks.Asks.{Asks}
use Rattle.wasi_asking.specs.declared.asks.Question.{Question}
use Rattle.wasi_asking.specs.declared.asks.Verdict.{Verdict}
use Rattle.wasi_asking.specs.declared.asks.Verdict.TheVariants.{Yes, No, Later}
use Rattle.wasi_asking.specs.Asks.{IsTold}

-- what the rules say by themselves; nothing where none matches
abbrev pub by_rules : Decision → Option Verdict
by_rules d = if d.allow then Some Yes else if d.rule == 0 then None else Some No

-- The embedder is asked, and its answer told as `Asks::verdict` has it. Where nobody is asked, it is no.
abbrev pub Embedded : Option Asks → Question → Verdict → Option Asks → Type 0
Embedded (Some old) question verdict (Some new) = IsTold question old.most old.next old.asked.items verdict new.asked.items × (new.most ≡ old.most)
Embedded (Some old) question verdict None = ⊥
Embedded None question verdict new = (verdict ≡ No) × (new ≡ None)

abbrev pub DecidedBy : Option Verdict → Option Asks → Question → Verdict → Option Asks → Type 0
DecidedBy (Some says) old question verdict new = (verdict ≡ says) × (new ≡ old)
DecidedBy None old question verdict new = Embedded old question verdict new

abbrev pub Decided : List Rule → Option Asks → Question → Verdict → Option Asks → Type 0
Decided rules old question verdict new = DecidedBy (by_rules (decision rules question.address question.usage)) old question verdict new

-- what a check is told of a verdict; one that is allowed is handed on
abbrev pub refusal_of : Verdict → Option Told
refusal_of Yes = None
refusal_of No = Some told.No
refusal_of Later = Some told.Pending

-- A check is told by such a verdict.
pub record Judged (rules : List Rule) (old : Option Asks) (question : Question) (refusal : Option Told) (new : Option Asks) : Type 0 where
  pub verdict : Verdict
  pub decided : Decided rules old question verdict new
  pub so : refusal ≡ refusal_of verdict

-- which calls aren't handed on, and what they are told
abbrev pub Refuses : List Rule → Option Asks → OpId → Call → Option Told → Option Asks → Type 0
Refuses rules old op (Check ctx address usage) refusal new = Judged rules old (record { op = op; context = ctx; address = address; usage = usage }) refusal new
Refuses rules old op _ refusal new = (refusal ≡ None) × (new ≡ old)

-- A call is refused so, and then nothing else is asked, or it is told what the inner world says.
pub record Answered (rules : List Rule) (old : Option Asks) (op : OpId) (call : Call) (told : Told) (new : Option Asks) (Untouched : Type 0) : Type 0 where
  pub refusal : Option Told
  pub refused : Refuses rules old op call refusal new
  pub says : IfSome refusal (λ it. told ≡ it)
  pub untouched : IfSome refusal (λ it. Untouched)
