-- A world that isn't armed answers by its lists, and a code answers only a call that it fits.
use Rattle.std.proofs.Common.{◌≡◌, ℕ, ◌-◌, Bool, true, false, if◌then◌else◌, Option, Some, None, refl, arith}
use Rattle.std.proofs.lemmas.Bool.{false≢true}
use Rattle.wasi_addr.specs.declared.code.ErrorCode.{ErrorCode}
use Rattle.wasi_world.specs.declared.call.Call.{Call}
use Rattle.wasi_world.specs.declared.call.Told.TheVariants as told
use Rattle.wasi_world.specs.declared.plan.Kind.{Kind}
use Rattle.wasi_world.specs.declared.plan.Planned.TheVariants.{Code}
use Rattle.wasi_world.specs.Fits.{Fits}
use Rattle.wasi_world.specs.Kinds.{kind_of}
use Rattle.wasi_world.specs.Seen.{Plan}
use Rattle.wasi_world.specs.Script.{Offers, waiting, plan_after, next_answer}
use Rattle.world_scripted.specs.declared.arming.Arming.{Arming}
use Rattle.world_scripted.specs.Armed.{Stage, code_of_kind, code_fits, armed_after, armed_left, told_at}
use Rattle.world_scripted.proofs.Fitting.{planned_fits}

of_kind_fits : (c : Call) (code : ErrorCode) (k : Option Kind) → kind_of c ≡ k → code_of_kind code k ≡ true → Offers c → Fits c (told.Code code)
of_kind_fits c code None e h o = absurd (false≢true h)
of_kind_fits c code (Some k) e h o = planned_fits c k (Code code) (told.Code code) e h o refl

pub fitting_code : (c : Call) (code : ErrorCode) → code_fits code c ≡ true → Offers c → Fits c (told.Code code)
fitting_code c code h o = of_kind_fits c code (kind_of c) refl h o

pub unarmed_left : (armed : Arming) (left : Plan) (c : Call) → armed.nth ≡ 0 → armed_left armed left c ≡ plan_after left c
unarmed_left armed left c h = rw h refl

pub unarmed_told : (now : Stage) (c : Call) → now.armed.nth ≡ 0 → told_at now c ≡ next_answer (waiting now.left (kind_of c)) now.sides c
unarmed_told now c h = rw h refl

stays : (fits : Bool) (armed : Arming) → armed.nth ≡ 0 → (if fits then (record { nth = armed.nth - 1; code = armed.code }) else armed).nth ≡ 0
stays true armed h = rw h refl
stays false armed h = h

pub stays_unarmed : (armed : Arming) (c : Call) → armed.nth ≡ 0 → (armed_after armed c).nth ≡ 0
stays_unarmed armed c h = stays (code_fits armed.code c) armed h
