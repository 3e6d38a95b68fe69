-- A world that may be armed: the one call that is answered by a code, and how far such a world has come.
use Rattle.std.specs.Prelude.{◌≡◌, ℕ, ◌-◌, ◌==◌, ◌&&◌, Bool, true, false, if◌then◌else◌, Option, Some, None}
use Rattle.wasi_addr.specs.declared.code.ErrorCode.{ErrorCode}
use Rattle.wasi_world.specs.declared.ids.OpId.{OpId}
use Rattle.wasi_world.specs.declared.call.Call.{Call}
use Rattle.wasi_world.specs.declared.call.Entry.{Entry}
use Rattle.wasi_world.specs.declared.plan.Kind.{Kind}
use Rattle.wasi_world.specs.declared.plan.Planned.{Planned}
use Rattle.wasi_world.specs.declared.plan.Planned.TheVariants.{Code}
use Rattle.wasi_world.specs.declared.sides.Side.{Side}
use Rattle.wasi_world.specs.Seen.{Plan}
use Rattle.wasi_world.specs.Kinds.{kind_of, takes}
use Rattle.wasi_world.specs.Sides.{sides_after}
use Rattle.wasi_world.specs.Script.{waiting, plan_after, next_answer}
use Rattle.world_scripted.specs.declared.arming.Arming.{Arming}

-- whether a code may answer a call of this kind
abbrev pub code_of_kind : ErrorCode → Option Kind → Bool
code_of_kind code None = false
code_of_kind code (Some k) = takes k (Code code)

-- whether a code may answer the call
abbrev pub code_fits : ErrorCode → Call → Bool
code_fits code c = code_of_kind code (kind_of c)

-- whether the call is the one that is answered by the code
abbrev pub falls : Arming → Call → Bool
falls armed c = (armed.nth == 1) && code_fits armed.code c

-- one less of the calls that the code fits
abbrev pub armed_after : Arming → Call → Arming
armed_after armed c = if code_fits armed.code c then (record { nth = armed.nth - 1; code = armed.code }) else armed

-- the answers that are left after a call: the call that is answered by the code takes none
abbrev pub armed_left : Arming → Plan → Call → Plan
armed_left armed left c = if falls armed c then left else plan_after left c

-- How far a world has come: what is left of its answers, what is known of each network socket, and the call that it is armed for.
pub record Stage : Type 0 where
  pub left : Plan
  pub sides : OpId → Side
  pub armed : Arming

-- the answer to a call
abbrev pub told_at : Stage → Call → Planned
told_at now c = if falls now.armed c then Code now.armed.code else next_answer (waiting now.left (kind_of c)) now.sides c

-- after an entry of the log
abbrev pub stage_after : Stage → Entry → Stage
stage_after now e = record {
  left = armed_left now.armed now.left e.call;
  sides = sides_after now.sides e.op e.call e.answer;
  armed = armed_after now.armed e.call;
}
