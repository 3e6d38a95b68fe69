use Rattle.std.proofs.Common.{refl}
use Rattle.wasi_causes.proofs.Runs.{finishes_refused_in_runs}
use Rattle.wasi_causes.proofs.tcp.finish_connect_refusals.Goals as goal
use Rattle.wasi_causes.proofs.tables.Steps.{its_own, while_free}
use Rattle.wasi_steps.specs.declared.reply.CodeWord.TheVariants as word
use Rattle.wasi_steps.specs.declared.reply.Reply.TheVariants as reply
use Rattle.wasi_steps.specs.declared.guest_call.GuestCall.TheVariants as guest
use Rattle.wasi_steps.specs.declared.guest_call.TcpCall.TheVariants as tcp_call
use Rattle.wasi_steps.specs.declared.step.Step.TheVariants as step

pub returns : goal.returns
returns c = record {
  exactly = λ contexts m line ctx handle entries reply after free w. (while_free contexts m line (step.Call ctx (guest.Tcp (tcp_call.FinishConnect handle))) free entries reply after w).0;
  not_in_progress = λ contexts m line ctx handle entries after w. (its_own contexts m line (step.Call ctx (guest.Tcp (tcp_call.FinishConnect handle))) entries (reply.Err word.NotInProgress) after w (λ e. cc)).1.1.none refl;
  cause = λ contexts m line ctx handle entries word after holds finishes w. (its_own contexts m line (step.Call ctx (guest.Tcp (tcp_call.FinishConnect handle))) entries (reply.Err word) after w (λ e. cc)).1.1.cause holds finishes;
  in_runs = λ contexts steps log replies m line ctx handle entries word after w. finishes_refused_in_runs contexts steps log replies m w line ctx handle entries word after;
}
