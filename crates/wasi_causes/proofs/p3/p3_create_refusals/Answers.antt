use Rattle.wasi_causes.proofs.p3.p3_create_refusals.Goals as goal
use Rattle.wasi_causes.proofs.tables.Steps.{its_own}
use Rattle.wasi_steps.specs.declared.guest_call.GuestCall.TheVariants as guest
use Rattle.wasi_steps.specs.declared.guest_call.P3TcpCall.TheVariants as p3_tcp_call
use Rattle.wasi_steps.specs.declared.reply.Reply.TheVariants as reply
use Rattle.wasi_steps.specs.declared.step.Step.TheVariants as step
use Rattle.wasi_world.specs.declared.outcome.TrapKind.TheVariants.{Full}

pub returns : goal.returns
returns c = record {
  cause = λ contexts m line ctx family entries word after w.
      (its_own contexts m line (step.Call ctx (guest.P3Tcp (p3_tcp_call.Create family))) entries (reply.Err word) after w
      (λ e. cc)).1.1.0;
  stays = λ contexts m line ctx family entries word after w.
      (its_own contexts m line (step.Call ctx (guest.P3Tcp (p3_tcp_call.Create family))) entries (reply.Err word) after w
      (λ e. cc)).1.1.1;
  full = λ contexts m line ctx family entries after w.
      (its_own contexts m line (step.Call ctx (guest.P3Tcp (p3_tcp_call.Create family))) entries (reply.Trap Full) after w
      (λ e. cc)).1.2;
}
