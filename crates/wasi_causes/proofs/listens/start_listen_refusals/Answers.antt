use Rattle.wasi_causes.proofs.Runs.{listens_refused_in_runs}
use Rattle.wasi_causes.proofs.listens.start_listen_refusals.Goals as goal
use Rattle.wasi_causes.proofs.tables.Steps.{its_own, while_free}
use Rattle.wasi_steps.specs.declared.reply.Reply.TheVariants as reply
use Rattle.wasi_steps.specs.declared.guest_call.GuestCall.TheVariants as guest
use Rattle.wasi_steps.specs.declared.guest_call.TcpCall.TheVariants as tcp_call
use Rattle.wasi_steps.specs.declared.step.Step.TheVariants as step

pub returns : goal.returns
returns c = record {
  exactly = λ contexts m line ctx handle entries reply after free w. (while_free contexts m line (step.Call ctx (guest.Tcp (tcp_call.StartListen handle))) free entries reply after w).0;
  cause = λ contexts m line ctx handle entries word after late w. (its_own contexts m line (step.Call ctx (guest.Tcp (tcp_call.StartListen handle))) entries (reply.Err word) after w (λ e. cc)).1.1.0 late;
  stays = λ contexts m line ctx handle entries word after w. (its_own contexts m line (step.Call ctx (guest.Tcp (tcp_call.StartListen handle))) entries (reply.Err word) after w (λ e. cc)).1.1.1;
  in_runs = λ contexts steps log replies m line ctx handle entries word after w. listens_refused_in_runs contexts steps log replies m w line ctx handle entries word after;
}
