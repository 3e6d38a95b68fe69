use Rattle.wasi_steps.specs.declared.guest_call.GuestCall.TheVariants as guest
use Rattle.wasi_steps.specs.declared.guest_call.TcpCall.TheVariants as tcp_call
use Rattle.wasi_steps.specs.declared.step.Step.TheVariants as step
use Rattle.wasi_steps.specs.declared.reply.Reply.TheVariants as reply
use Rattle.wasi_causes.proofs.tables.Steps.{its_own}
use Rattle.wasi_causes.proofs.listens.accepts_take_what_was_handed_over.Goals as goal

pub returns : goal.returns
returns c = record {
  numbers = λ contexts m line ctx handle fields entries after w. (its_own contexts m line (step.Call ctx (guest.Tcp (tcp_call.Accept handle))) entries (reply.Ok fields) after w (λ e. cc)).1.1.numbers;
  takes = λ contexts m line ctx handle fields entries after holds w. (its_own contexts m line (step.Call ctx (guest.Tcp (tcp_call.Accept handle))) entries (reply.Ok fields) after w (λ e. cc)).1.1.takes holds;
}
