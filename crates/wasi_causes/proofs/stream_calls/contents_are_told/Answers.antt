use Rattle.wasi_steps.specs.declared.guest_call.GuestCall.TheVariants as guest
use Rattle.wasi_steps.specs.declared.guest_call.PipeCall.TheVariants as pipe_call
use Rattle.wasi_steps.specs.declared.step.Step.TheVariants as step
use Rattle.wasi_steps.specs.declared.reply.Reply.TheVariants as reply
use Rattle.wasi_causes.proofs.Words.{refl}
use Rattle.wasi_causes.specs.Outcomes.{Quiet}
use Rattle.wasi_causes.proofs.streams.Read.{no_pipe}
use Rattle.wasi_causes.proofs.tables.Steps.{its_own, of_answer, while_free}
use Rattle.wasi_causes.proofs.stream_calls.contents_are_told.Goals as goal

pub returns : goal.returns
returns c = record {
  told = λ contexts m line ctx output fields entries after w. (its_own contexts m line (step.Call ctx (guest.Pipe (pipe_call.Contents output))) entries (reply.Ok fields) after w (λ e. cc)).1.1;
  exactly = λ contexts m line ctx output entries reply after free w. no_pipe contexts m line ctx output entries reply after (while_free contexts m line (step.Call ctx (guest.Pipe (pipe_call.Contents output))) free entries reply after w);
  quiet = λ contexts m line ctx output entries reply after. of_answer contexts m line (step.Call ctx (guest.Pipe (pipe_call.Contents output))) (λ es r after. Quiet m es after) (refl, refl) (λ es r after row. row.0) entries reply after;
}
