use Rattle.wasi_steps.specs.declared.guest_call.GuestCall.TheVariants as guest
use Rattle.wasi_steps.specs.declared.guest_call.StreamCall.TheVariants as stream_call
use Rattle.wasi_steps.specs.declared.step.Step.TheVariants as step
use Rattle.wasi_steps.specs.declared.reply.Reply.TheVariants as reply
use Rattle.wasi_causes.proofs.Words.{[], ◌∷◌, bytes_fields}
use Rattle.wasi_causes.proofs.tables.Steps.{its_own}
use Rattle.wasi_causes.proofs.stream_calls.reads_hand_out_what_was_told.Goals as goal

pub returns : goal.returns
returns c = record {
  told = λ contexts m line ctx input len b bytes entries after w. (its_own contexts m line (step.Call ctx (guest.Stream (stream_call.Read input len))) entries (reply.Ok (bytes_fields (b ∷ bytes))) after w (λ e. cc)).1.1;
  none = λ contexts m line ctx input len entries after w. (its_own contexts m line (step.Call ctx (guest.Stream (stream_call.Read input len))) entries (reply.Ok (bytes_fields [])) after w (λ e. cc)).1.1;
}
