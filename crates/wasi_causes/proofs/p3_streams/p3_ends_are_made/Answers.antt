use Rattle.wasi_causes.proofs.p3_streams.p3_ends_are_made.Goals as goal
use Rattle.wasi_steps.specs.declared.guest_call.GuestCall.TheVariants as guest
use Rattle.wasi_steps.specs.declared.guest_call.P3TcpCall.TheVariants as p3_tcp_call
use Rattle.wasi_steps.specs.declared.step.Step.TheVariants as step
use Rattle.wasi_steps.specs.declared.reply.Reply.TheVariants as reply
use Rattle.wasi_world.specs.declared.outcome.TrapKind.TheVariants as trap
use Rattle.wasi_causes.proofs.tables.Steps.{its_own}

pub returns : goal.returns
returns c = record {
  receives = λ contexts m line ctx handle entries fields after w.
      (its_own contexts m line (step.Call ctx (guest.P3Tcp (p3_tcp_call.Receive handle))) entries (reply.Ok fields) after w
      (λ e. cc)).1.1;
  sends = λ contexts m line ctx handle entries fields after w.
      (its_own contexts m line (step.Call ctx (guest.P3Tcp (p3_tcp_call.Send handle))) entries (reply.Ok fields) after w
      (λ e. cc)).1.1;
  receive_stays = λ contexts m line ctx handle entries word after w.
      (its_own contexts m line (step.Call ctx (guest.P3Tcp (p3_tcp_call.Receive handle))) entries (reply.Err word) after w
      (λ e. cc)).1.0;
  send_stays = λ contexts m line ctx handle entries word after w.
      (its_own contexts m line (step.Call ctx (guest.P3Tcp (p3_tcp_call.Send handle))) entries (reply.Err word) after w
      (λ e. cc)).1.0;
  receive_full = λ contexts m line ctx handle entries after w.
      (its_own contexts m line (step.Call ctx (guest.P3Tcp (p3_tcp_call.Receive handle))) entries (reply.Trap trap.Full) after w
      (λ e. cc)).1.2;
  send_full = λ contexts m line ctx handle entries after w.
      (its_own contexts m line (step.Call ctx (guest.P3Tcp (p3_tcp_call.Send handle))) entries (reply.Trap trap.Full) after w
      (λ e. cc)).1.2;
}
