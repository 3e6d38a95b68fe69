use Rattle.wasi_steps.specs.declared.guest_call.GuestCall.TheVariants as guest
use Rattle.wasi_steps.specs.declared.guest_call.StreamCall.TheVariants as stream_call
use Rattle.wasi_steps.specs.declared.step.Step.TheVariants as step
use Rattle.wasi_causes.proofs.tables.Steps.{while_free}
use Rattle.wasi_causes.proofs.blocking.calls_that_block_are_their_parts.Goals as goal

pub returns : goal.returns
returns c = record {
  read = λ contexts m line ctx input len entries reply after free w. (while_free contexts m line (step.Call ctx (guest.Stream (stream_call.BlockingRead input len))) free entries reply after w).0 free;
  skip = λ contexts m line ctx input len entries reply after free w. (while_free contexts m line (step.Call ctx (guest.Stream (stream_call.BlockingSkip input len))) free entries reply after w).0 free;
  write = λ contexts m line ctx output bytes entries reply after free w. (while_free contexts m line (step.Call ctx (guest.Stream (stream_call.BlockingWrite output bytes))) free entries reply after w).0 free;
  zeroes = λ contexts m line ctx output len entries reply after free w. (while_free contexts m line (step.Call ctx (guest.Stream (stream_call.BlockingZeroes output len))) free entries reply after w).0 free;
  flush = λ contexts m line ctx output entries reply after free w. (while_free contexts m line (step.Call ctx (guest.Stream (stream_call.BlockingFlush output))) free entries reply after w).0 free;
  splice = λ contexts m line ctx to from len entries reply after free w. (while_free contexts m line (step.Call ctx (guest.Stream (stream_call.BlockingSplice to from len))) free entries reply after w).0 free;
}
