use Rattle.wasi_causes.proofs.readiness.subscribe_makes_a_pollable.Goals as goal
use Rattle.wasi_causes.proofs.tables.Steps.{may_be, no_failure, its_own}
use Rattle.wasi_steps.specs.declared.reply.Reply.TheVariants as reply
use Rattle.wasi_steps.specs.declared.guest_call.GuestCall.TheVariants as guest
use Rattle.wasi_steps.specs.declared.guest_call.PollableCall.TheVariants as pollable_call
use Rattle.wasi_steps.specs.declared.step.Step.TheVariants as step

pub returns : goal.returns
returns c = record {
  number = λ contexts m line ctx handle fields entries after w. (its_own contexts m line (step.Call ctx (guest.Pollable (pollable_call.Subscribe handle))) entries (reply.Ok fields) after w (λ e. cc)).1.1.number;
  marked = λ contexts m line ctx handle fields entries after w. (its_own contexts m line (step.Call ctx (guest.Pollable (pollable_call.Subscribe handle))) entries (reply.Ok fields) after w (λ e. cc)).1.1.marked;
  made = λ contexts m line ctx handle fields entries after w. (its_own contexts m line (step.Call ctx (guest.Pollable (pollable_call.Subscribe handle))) entries (reply.Ok fields) after w (λ e. cc)).1.1.made;
  never_fails = λ contexts m line ctx handle entries reply after w. no_failure line (step.Call ctx (guest.Pollable (pollable_call.Subscribe handle))) (λ word h. h) (λ h. h) reply (may_be contexts m line (step.Call ctx (guest.Pollable (pollable_call.Subscribe handle))) entries reply after w);
}
