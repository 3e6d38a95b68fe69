use Rattle.wasi_steps.specs.declared.guest_call.GuestCall.TheVariants as guest
use Rattle.wasi_steps.specs.declared.guest_call.PollableCall.TheVariants as pollable_call
use Rattle.wasi_steps.specs.declared.step.Step.TheVariants as step
use Rattle.wasi_steps.specs.declared.reply.Reply.TheVariants as reply
use Rattle.wasi_causes.proofs.Words.{subst}
use Rattle.wasi_causes.proofs.tables.Steps.{its_own, while_free}
use Rattle.wasi_causes.specs.Gone.{Gone}
use Rattle.wasi_causes.proofs.lookups.lookups_are_watched_and_dropped.Goals as goal

pub returns : goal.returns
returns c = record {
  watched = λ contexts m line ctx pollable place entries reply after free at w. let h = (while_free contexts m line (step.Call ctx (guest.Pollable (pollable_call.Ready pollable))) free entries reply after w).0.5 place at in (h.0, h.1.0, h.1.1);
  dropped = λ contexts m line ctx handle place l fields entries after is at w. subst (λ k. Gone m line handle k entries after) is (its_own contexts m line (step.Call ctx (guest.Pollable (pollable_call.Drop handle))) entries (reply.Ok fields) after w (λ e. cc)).1.1.1 l at;
}
