use Rattle.wasi_causes.proofs.Words.{false, truth_fields}
use Rattle.wasi_causes.proofs.readiness.readiness_has_causes.Goals as goal
use Rattle.wasi_causes.proofs.tables.Steps.{may_be, no_failure, two_values, its_own, while_free}
use Rattle.wasi_steps.specs.declared.reply.Reply.TheVariants as reply
use Rattle.wasi_steps.specs.declared.guest_call.GuestCall.TheVariants as guest
use Rattle.wasi_steps.specs.declared.guest_call.PollableCall.TheVariants as pollable_call
use Rattle.wasi_steps.specs.declared.step.Step.TheVariants as step

pub returns : goal.returns
returns c = record {
  values = λ contexts m line ctx pollable fields entries after w. two_values m line pollable entries fields (its_own contexts m line (step.Call ctx (guest.Pollable (pollable_call.Ready pollable))) entries (reply.Ok fields) after w (λ e. cc)).1.1;
  not_ready = λ contexts m line ctx pollable entries after no connects accepts w. (its_own contexts m line (step.Call ctx (guest.Pollable (pollable_call.Ready pollable))) entries (reply.Ok (truth_fields false)) after w (λ e. cc)).1.1 no connects accepts;
  idle = λ contexts m line ctx pollable entries reply after free idle w. let h = (while_free contexts m line (step.Call ctx (guest.Pollable (pollable_call.Ready pollable))) free entries reply after w).0.0 idle in (h.0, h.1.0, h.1.1);
  plain = λ contexts m line ctx pollable entries reply after free plain w. let h = (while_free contexts m line (step.Call ctx (guest.Pollable (pollable_call.Ready pollable))) free entries reply after w).0.2 plain in (h.0, h.1.0, h.1.1);
  never_fails = λ contexts m line ctx pollable entries reply after w. no_failure line (step.Call ctx (guest.Pollable (pollable_call.Ready pollable))) (λ word h. h) (λ h. h) reply (may_be contexts m line (step.Call ctx (guest.Pollable (pollable_call.Ready pollable))) entries reply after w);
}
