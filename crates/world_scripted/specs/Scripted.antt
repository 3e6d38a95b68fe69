-- What is known of a scripted world: all of it.
use Rattle.std.specs.Prelude.{◌≡◌, ℕ, ◌==◌, if◌then◌else◌, Bool, true, false, Option, List, [], Some, None, Result, Ok, Err}
use Rattle.wasi_world.specs.declared.outcome.WasiSocketsCtx.{WasiSocketsCtx}
use Rattle.world_scripted.specs.declared.scripted.ScriptedWorld.{ScriptedWorld}
use Rattle.wasi_world.specs.declared.call.Entry.{Entry}
use Rattle.wasi_world.specs.Seen.{Plan, Seen}
use Rattle.wasi_world.specs.Script.{IsScripted, goes_by_plan, without_plan}
use Rattle.world_scripted.specs.Known.{known}
use Rattle.world_scripted.specs.Armed.{Stage}
use Rattle.std.proofs.Common.{refl}

-- a world that was ever armed reports no plan, because it doesn't go by it
abbrev pub seen_by : ScriptedWorld → Seen
seen_by world = record { log = Some world.log.items; ended = world.ended; closings = world.closings; faults = world.faults; plan = if world.by_plan then Some world.lists.all else None }

-- a world that reports its plan answers by it
pub goes_by_its_plan : (by_plan : Bool) (plan : Plan) (log : List Entry) → (by_plan ≡ true → IsScripted plan log) → (p : Plan) (l : List Entry) → (if by_plan then Some plan else None) ≡ Some p → Some log ≡ Some l → IsScripted p l
goes_by_its_plan true plan log h = goes_by_plan plan log (h refl)
goes_by_its_plan false plan log h = without_plan (Some log)

-- how far it has come, and the call that it is armed for
abbrev pub stage_of : ScriptedWorld → Stage
stage_of world = record { left = world.lists.left; sides = known world.sides; armed = world.armed }

-- what is known of a world once it is armed for such a call; 0 disarms
abbrev pub armed_seen : ℕ → Seen → Seen
armed_seen nth seen = record { log = seen.log; ended = seen.ended; closings = seen.closings; faults = seen.faults; plan = if nth == 0 then seen.plan else None }

-- a world that was asked nothing yet
abbrev pub at_start : Plan → Seen
at_start plan = record { log = Some []; ended = false; closings = 0; faults = 0; plan = Some plan }

-- the world of a scenario and its contexts, where it is in its grammar
abbrev pub started : Result (Plan × List WasiSocketsCtx) ℕ → Result (Seen × List WasiSocketsCtx) ℕ
started (Ok (plan, contexts)) = Ok (at_start plan, contexts)
started (Err number) = Err number
