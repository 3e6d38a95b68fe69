use Rattle.wasi_steps.specs.declared.guest_call.GuestCall.TheVariants as guest
use Rattle.wasi_steps.specs.declared.guest_call.TcpCall.TheVariants as tcp_call
use Rattle.wasi_steps.specs.declared.step.Step.TheVariants as step
use Rattle.wasi_steps.specs.declared.reply.Reply.TheVariants as reply
use Rattle.wasi_causes.proofs.tables.Steps.{its_own}
use Rattle.wasi_causes.proofs.listens.accept_refusals.Goals as goal

pub returns : goal.returns
returns c = λ contexts m line ctx handle entries word after holds w. (its_own contexts m line (step.Call ctx (guest.Tcp (tcp_call.Accept handle))) entries (reply.Err word) after w (λ e. cc)).1.1 holds
