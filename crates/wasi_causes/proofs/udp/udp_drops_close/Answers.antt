use Rattle.wasi_steps.specs.declared.guest_call.GuestCall.TheVariants as guest
use Rattle.wasi_steps.specs.declared.guest_call.PollableCall.TheVariants as pollable_call
use Rattle.wasi_steps.specs.declared.step.Step.TheVariants as step
use Rattle.wasi_steps.specs.declared.reply.Reply.TheVariants as reply
use Rattle.wasi_causes.proofs.Ending.{udp_ok}
use Rattle.wasi_causes.proofs.Words.{subst}
use Rattle.wasi_causes.proofs.tables.Steps.{its_own, while_free}
use Rattle.wasi_causes.specs.Gone.{Gone}
use Rattle.wasi_causes.proofs.udp.udp_drops_close.Goals as goal

pub returns : goal.returns
returns c = record {
  socket = λ contexts m line ctx handle place entries reply after free is under w. udp_ok contexts m line ctx handle place is under entries reply after (while_free contexts m line (step.Call ctx (guest.Pollable (pollable_call.Drop handle))) free entries reply after w);
  closed = λ contexts m line ctx handle place u fields entries after is at w. (subst (λ k. Gone m line handle k entries after) is (its_own contexts m line (step.Call ctx (guest.Pollable (pollable_call.Drop handle))) entries (reply.Ok fields) after w (λ e. cc)).1.1.1 u at).0;
  left = λ contexts m line ctx handle place u fields entries after is at w. (subst (λ k. Gone m line handle k entries after) is (its_own contexts m line (step.Call ctx (guest.Pollable (pollable_call.Drop handle))) entries (reply.Ok fields) after w (λ e. cc)).1.1.1 u at).1;
}
