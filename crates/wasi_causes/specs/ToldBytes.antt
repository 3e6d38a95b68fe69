-- Which bytes a network socket told along a log, and which bytes a reply hands out.
use Rattle.std.specs.Prelude.{ℕ, ⊤, if◌then◌else◌, List, [], ◌∷◌, ◌++◌}
use Rattle.wasi_world.specs.declared.ids.OpId.{OpId}
use Rattle.wasi_world.specs.declared.call.Call.{Call}
use Rattle.wasi_world.specs.declared.call.Call.TheVariants as call
use Rattle.wasi_world.specs.declared.call.Entry.{Entry}
use Rattle.wasi_world.specs.declared.call.Told.{Told}
use Rattle.wasi_world.specs.declared.call.Told.TheVariants as told
use Rattle.wasi_world.specs.Sides.{is_same}
use Rattle.wasi_steps.specs.declared.guest_call.GuestCall.TheVariants as guest
use Rattle.wasi_steps.specs.declared.guest_call.TcpCall.TheVariants as tcp_call
use Rattle.wasi_steps.specs.declared.guest_call.NameCall.TheVariants as name_call
use Rattle.wasi_steps.specs.declared.guest_call.StreamCall.TheVariants as stream_call
use Rattle.wasi_steps.specs.declared.guest_call.PollableCall.TheVariants as pollable_call
use Rattle.wasi_steps.specs.declared.reply.Field.TheVariants as field
use Rattle.wasi_steps.specs.declared.reply.Reply.{Reply}
use Rattle.wasi_steps.specs.declared.reply.Reply.TheVariants as reply
use Rattle.wasi_steps.specs.declared.step.Step.{Step}
use Rattle.wasi_steps.specs.declared.step.Step.TheVariants as step

-- what a network socket told by one call
abbrev pub told_by : OpId → Call → Told → List ℕ
told_by side (call.Read sock size) (told.Bytes bytes) = if is_same sock side then bytes else []
told_by side _ answer = []

-- what it told by these calls, in order
abbrev pub told_in : OpId → List Entry → List ℕ
told_in side [] = []
told_in side (e ∷ es) = told_by side e.call e.answer ++ told_in side es

-- the bytes that a reply hands out
abbrev pub handed_out : Reply → List ℕ
handed_out (reply.Ok (field.Bytes bytes ∷ fields)) = bytes
handed_out _ = []

-- a call of a TCP socket but for its addresses and options, a look at what may be written, a write, a drop or a turn
abbrev pub ReadsNothing : Step → Type 0
ReadsNothing (step.Call ctx (guest.Names name_call.Network)) = ⊤
ReadsNothing (step.Call ctx (guest.Tcp (tcp_call.Create family))) = ⊤
ReadsNothing (step.Call ctx (guest.Tcp (tcp_call.StartBind socket network addr))) = ⊤
ReadsNothing (step.Call ctx (guest.Tcp (tcp_call.FinishBind socket))) = ⊤
ReadsNothing (step.Call ctx (guest.Tcp (tcp_call.StartConnect socket network addr))) = ⊤
ReadsNothing (step.Call ctx (guest.Tcp (tcp_call.FinishConnect socket))) = ⊤
ReadsNothing (step.Call ctx (guest.Tcp (tcp_call.StartListen socket))) = ⊤
ReadsNothing (step.Call ctx (guest.Tcp (tcp_call.FinishListen socket))) = ⊤
ReadsNothing (step.Call ctx (guest.Tcp (tcp_call.Accept socket))) = ⊤
ReadsNothing (step.Call ctx (guest.Tcp (tcp_call.Shutdown socket how))) = ⊤
ReadsNothing (step.Call ctx (guest.Stream (stream_call.CheckWrite output))) = ⊤
ReadsNothing (step.Call ctx (guest.Stream (stream_call.Write output bytes))) = ⊤
ReadsNothing (step.Call ctx (guest.Pollable (pollable_call.Drop handle))) = ⊤
ReadsNothing step.Turn = ⊤
ReadsNothing _ = ⊥
