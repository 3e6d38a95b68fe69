use Rattle.wasi_steps.specs.declared.guest_call.GuestCall.TheVariants as guest
use Rattle.wasi_steps.specs.declared.guest_call.TcpCall.TheVariants as tcp_call
use Rattle.wasi_steps.specs.declared.step.Step.TheVariants as step
use Rattle.wasi_steps.specs.declared.reply.Reply.TheVariants as reply
use Rattle.std.proofs.Common.{◌≡◌, [], refl}
use Rattle.wasi_causes.proofs.tables.Steps.{its_own, of_answer, while_free}
use Rattle.wasi_causes.proofs.listens.finish_listen_refusals.Goals as goal

pub returns : goal.returns
returns c = record {
  asks_nothing = λ contexts m line ctx handle. of_answer contexts m line (step.Call ctx (guest.Tcp (tcp_call.FinishListen handle))) (λ es r after. es ≡ []) refl (λ es r after row. row.0.0);
  exactly = λ contexts m line ctx handle entries reply after free w. (while_free contexts m line (step.Call ctx (guest.Tcp (tcp_call.FinishListen handle))) free entries reply after w).0.1;
  no_other = λ contexts m line ctx handle entries word after w. (its_own contexts m line (step.Call ctx (guest.Tcp (tcp_call.FinishListen handle))) entries (reply.Err word) after w (λ e. cc)).1.0;
  stays = λ contexts m line ctx handle entries word after w. (its_own contexts m line (step.Call ctx (guest.Tcp (tcp_call.FinishListen handle))) entries (reply.Err word) after w (λ e. cc)).1.1;
}
