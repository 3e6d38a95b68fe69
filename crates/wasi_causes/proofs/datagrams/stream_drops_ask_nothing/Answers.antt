use Rattle.wasi_causes.proofs.Words.{subst}
use Rattle.wasi_causes.proofs.datagrams.stream_drops_ask_nothing.Goals as goal
use Rattle.wasi_causes.proofs.tables.Steps.{its_own}
use Rattle.wasi_causes.specs.Gone.{Gone}
use Rattle.wasi_steps.specs.declared.reply.Reply.TheVariants as reply
use Rattle.wasi_steps.specs.declared.guest_call.GuestCall.TheVariants as guest
use Rattle.wasi_steps.specs.declared.guest_call.PollableCall.TheVariants as pollable_call
use Rattle.wasi_steps.specs.declared.step.Step.TheVariants as step

pub returns : goal.returns
returns c = record {
  incoming = λ contexts m line ctx handle place o fields entries after is at w. subst (λ k. Gone m line handle k entries after) is (its_own contexts m line (step.Call ctx (guest.Pollable (pollable_call.Drop handle))) entries (reply.Ok fields) after w (λ e. cc)).1.1.1 o at;
  outgoing = λ contexts m line ctx handle place o fields entries after is at w. subst (λ k. Gone m line handle k entries after) is (its_own contexts m line (step.Call ctx (guest.Pollable (pollable_call.Drop handle))) entries (reply.Ok fields) after w (λ e. cc)).1.1.1 o at;
}
