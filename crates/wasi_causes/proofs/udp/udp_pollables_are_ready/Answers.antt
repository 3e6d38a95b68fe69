use Rattle.wasi_steps.specs.declared.guest_call.GuestCall.TheVariants as guest
use Rattle.wasi_steps.specs.declared.guest_call.PollableCall.TheVariants as pollable_call
use Rattle.wasi_steps.specs.declared.step.Step.TheVariants as step
use Rattle.wasi_causes.proofs.tables.Steps.{while_free}
use Rattle.wasi_causes.proofs.udp.udp_pollables_are_ready.Goals as goal

pub returns : goal.returns
returns c contexts m line ctx pollable entries reply after free at w = let h = (while_free contexts m line (step.Call ctx (guest.Pollable (pollable_call.Ready pollable))) free entries reply after w).0.1 at in (h.0, h.1.0, h.1.1)
