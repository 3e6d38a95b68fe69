use Rattle.wasi_causes.proofs.p3_listens.p3_accepts.Goals as goal
use Rattle.wasi_steps.specs.declared.guest_call.GuestCall.TheVariants as guest
use Rattle.wasi_steps.specs.declared.guest_call.P3TcpCall.TheVariants as p3_tcp_call
use Rattle.wasi_steps.specs.declared.step.Step.TheVariants as step
use Rattle.wasi_steps.specs.declared.reply.Reply.TheVariants as reply
use Rattle.wasi_world.specs.declared.outcome.TrapKind.TheVariants as trap
use Rattle.wasi_causes.proofs.Runs.{accepts_never_refused}
use Rattle.wasi_causes.proofs.tables.Steps.{its_own}

pub returns : goal.returns
returns c = record {
  gives = λ contexts m line ctx handle remaining entries fields after w.
      (its_own contexts m line (step.Call ctx (guest.P3Tcp (p3_tcp_call.Accept handle remaining))) entries (reply.Ok fields) after w
      (λ e. cc)).1.1;
  cancelled = λ contexts m line ctx handle remaining entries after w.
      (its_own contexts m line (step.Call ctx (guest.P3Tcp (p3_tcp_call.Accept handle remaining))) entries reply.Cancelled after w
      (λ e. cc)).1.1;
  refused = λ contexts m line ctx handle remaining entries word after w.
      (its_own contexts m line (step.Call ctx (guest.P3Tcp (p3_tcp_call.Accept handle remaining))) entries (reply.Err word) after w
      (λ e. cc)).1.1;
  never = λ contexts steps log replies m line ctx handle remaining entries word after ran w.
      accepts_never_refused contexts steps log replies m ran line ctx handle remaining entries word after w;
  full = λ contexts m line ctx handle remaining entries after w.
      (its_own contexts m line (step.Call ctx (guest.P3Tcp (p3_tcp_call.Accept handle remaining))) entries (reply.Trap trap.Full) after w
      (λ e. cc)).1.2;
}
