use Rattle.wasi_causes.proofs.p3_listens.p3_listens.Goals as goal
use Rattle.wasi_steps.specs.declared.guest_call.GuestCall.TheVariants as guest
use Rattle.wasi_steps.specs.declared.guest_call.P3TcpCall.TheVariants as p3_tcp_call
use Rattle.wasi_steps.specs.declared.step.Step.TheVariants as step
use Rattle.wasi_steps.specs.declared.reply.Reply.TheVariants as reply
use Rattle.wasi_world.specs.declared.outcome.TrapKind.TheVariants as trap
use Rattle.wasi_causes.proofs.tables.Steps.{its_own}

pub returns : goal.returns
returns c = record {
  refused = λ contexts m line ctx handle entries word after w.
      (its_own contexts m line (step.Call ctx (guest.P3Tcp (p3_tcp_call.Listen handle))) entries (reply.Err word) after w
      (λ e. cc)).1.1;
  done = λ contexts m line ctx handle entries fields after w.
      (its_own contexts m line (step.Call ctx (guest.P3Tcp (p3_tcp_call.Listen handle))) entries (reply.Ok fields) after w
      (λ e. cc)).1.1;
  pending = λ contexts m line ctx handle entries number after w.
      (its_own contexts m line (step.Call ctx (guest.P3Tcp (p3_tcp_call.Listen handle))) entries (reply.Pending number) after w
      (λ e. cc)).1.1;
  full = λ contexts m line ctx handle entries after w.
      (its_own contexts m line (step.Call ctx (guest.P3Tcp (p3_tcp_call.Listen handle))) entries (reply.Trap trap.Full) after w
      (λ e. cc)).1.2;
}
