use Rattle.wasi_steps.specs.declared.guest_call.GuestCall.TheVariants as guest
use Rattle.wasi_steps.specs.declared.guest_call.StreamCall.TheVariants as stream_call
use Rattle.wasi_steps.specs.declared.step.Step.TheVariants as step
use Rattle.wasi_causes.proofs.tables.Steps.{while_free}
use Rattle.wasi_causes.proofs.stream_calls.skips_are_reads.Goals as goal

pub returns : goal.returns
returns c = λ contexts m line ctx input len entries reply after free w. (while_free contexts m line (step.Call ctx (guest.Stream (stream_call.Skip input len))) free entries reply after w).0 free
