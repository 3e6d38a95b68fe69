use Rattle.wasi_steps.specs.declared.guest_call.GuestCall.TheVariants as guest
use Rattle.wasi_steps.specs.declared.guest_call.StreamCall.TheVariants as stream_call
use Rattle.wasi_steps.specs.declared.step.Step.TheVariants as step
use Rattle.wasi_steps.specs.declared.reply.Reply.TheVariants as reply
use Rattle.wasi_steps.specs.Reply.{number_fields}
use Rattle.record_common.specs.Names.{own_of}
use Rattle.wasi_causes.proofs.streams.NonePermitted.{permits_none}
use Rattle.wasi_causes.proofs.tables.Steps.{its_own}
use Rattle.wasi_causes.proofs.stream_calls.permits_have_causes.Goals as goal

pub returns : goal.returns
returns c = record {
  permits = λ contexts m line ctx output n entries after w. (its_own contexts m line (step.Call ctx (guest.Stream (stream_call.CheckWrite output))) entries (reply.Ok (number_fields n)) after w (λ e. cc)).1.1;
  none =
      λ contexts m line ctx output entries after w. permits_none m (own_of line) output entries
      (its_own contexts m line (step.Call ctx (guest.Stream (stream_call.CheckWrite output))) entries (reply.Ok (number_fields 0)) after w (λ e. cc)).1.1;
}
