use Rattle.wasi_causes.proofs.p3_streams.p3_reads.Goals as goal
use Rattle.wasi_steps.specs.declared.guest_call.GuestCall.TheVariants as guest
use Rattle.wasi_steps.specs.declared.guest_call.P3TcpCall.TheVariants as p3_tcp_call
use Rattle.wasi_steps.specs.declared.step.Step.TheVariants as step
use Rattle.wasi_steps.specs.declared.reply.Reply.TheVariants as reply
use Rattle.wasi_causes.proofs.streams.EndAnswers.{read_answers}
use Rattle.wasi_causes.proofs.tables.Steps.{its_own, while_free}

pub returns : goal.returns
returns c = record {
  gives = λ contexts m line ctx handle len entries fields after w.
      (its_own contexts m line (step.Call ctx (guest.P3Tcp (p3_tcp_call.Read handle len))) entries (reply.Ok fields) after w
      (λ e. cc)).1.1;
  cancelled = λ contexts m line ctx handle len entries after w.
      (its_own contexts m line (step.Call ctx (guest.P3Tcp (p3_tcp_call.Read handle len))) entries reply.Cancelled after w
      (λ e. cc)).1.1;
  dropped = λ contexts m line ctx handle len entries after w.
      (its_own contexts m line (step.Call ctx (guest.P3Tcp (p3_tcp_call.Read handle len))) entries reply.Dropped after w
      (λ e. cc)).1.1;
  stays = λ contexts m line ctx handle len entries word after w.
      (its_own contexts m line (step.Call ctx (guest.P3Tcp (p3_tcp_call.Read handle len))) entries (reply.Err word) after w
      (λ e. cc)).1.0;
  which = λ contexts m line ctx handle len end entries reply after free names w.
      read_answers contexts m line ctx handle len end names entries reply after
      (while_free contexts m line (step.Call ctx (guest.P3Tcp (p3_tcp_call.Read handle len))) free entries reply after w);
}
