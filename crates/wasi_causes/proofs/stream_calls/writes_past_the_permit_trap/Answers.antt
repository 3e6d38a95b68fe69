use Rattle.wasi_steps.specs.declared.guest_call.GuestCall.TheVariants as guest
use Rattle.wasi_steps.specs.declared.guest_call.StreamCall.TheVariants as stream_call
use Rattle.wasi_steps.specs.declared.step.Step.TheVariants as step
use Rattle.wasi_steps.specs.declared.reply.Reply.TheVariants as reply
use Rattle.wasi_world.specs.declared.outcome.TrapKind.TheVariants.{NotPermitted}
use Rattle.wasi_causes.proofs.tables.Steps.{its_own, while_free}
use Rattle.wasi_causes.proofs.stream_calls.writes_past_the_permit_trap.Goals as goal

pub returns : goal.returns
returns c = record {
  exactly = λ contexts m line ctx output bytes entries reply after free w. (while_free contexts m line (step.Call ctx (guest.Stream (stream_call.Write output bytes))) free entries reply after w).0.0;
  stays = λ contexts m line ctx output bytes entries after w. (its_own contexts m line (step.Call ctx (guest.Stream (stream_call.Write output bytes))) entries (reply.Trap NotPermitted) after w (λ e. cc)).1.1;
}
