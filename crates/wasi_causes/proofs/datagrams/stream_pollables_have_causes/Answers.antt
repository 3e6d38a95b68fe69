use Rattle.wasi_causes.proofs.Words.{false, refl, truth_fields}
use Rattle.wasi_causes.proofs.datagrams.stream_pollables_have_causes.Goals as goal
use Rattle.wasi_causes.proofs.tables.Steps.{its_own, while_free}
use Rattle.wasi_steps.specs.declared.reply.Reply.TheVariants as reply
use Rattle.wasi_steps.specs.declared.guest_call.GuestCall.TheVariants as guest
use Rattle.wasi_steps.specs.declared.guest_call.PollableCall.TheVariants as pollable_call
use Rattle.wasi_steps.specs.declared.step.Step.TheVariants as step

pub returns : goal.returns
returns c = record {
  outgoing = λ contexts m line ctx pollable place entries reply after free at w. let h = (while_free contexts m line (step.Call ctx (guest.Pollable (pollable_call.Ready pollable))) free entries reply after w).0.3 place at in (h.0, h.1.0, h.1.1);
  incoming = λ contexts m line ctx pollable place entries after at w. (its_own contexts m line (step.Call ctx (guest.Pollable (pollable_call.Ready pollable))) entries (reply.Ok (truth_fields false)) after w (λ e. cc)).0.4 place at refl;
}
