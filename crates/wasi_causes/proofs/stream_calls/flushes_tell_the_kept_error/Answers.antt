use Rattle.wasi_steps.specs.declared.guest_call.GuestCall.TheVariants as guest
use Rattle.wasi_steps.specs.declared.guest_call.StreamCall.TheVariants as stream_call
use Rattle.wasi_steps.specs.declared.step.Step.TheVariants as step
use Rattle.wasi_steps.specs.declared.reply.Reply.TheVariants as reply
use Rattle.wasi_causes.proofs.Words.{inl, inr}
use Rattle.wasi_causes.proofs.tables.Steps.{its_own, while_free}
use Rattle.wasi_causes.proofs.stream_calls.flushes_tell_the_kept_error.Goals as goal

pub returns : goal.returns
returns c = record {
  done = λ contexts m line ctx output fields entries after w. (its_own contexts m line (step.Call ctx (guest.Stream (stream_call.Flush output))) entries (reply.Ok fields) after w (λ e. cc)).1.1;
  closed = λ contexts m line ctx output entries after w. elim (its_own contexts m line (step.Call ctx (guest.Stream (stream_call.Flush output))) entries (reply.Closed) after w (λ e. cc)).1.1 [ inl h ↦ inl (h.0, h.1.0, h.1.1) | inr h ↦ inr h ];
  failed = λ contexts m line ctx output entries word handle after w. (its_own contexts m line (step.Call ctx (guest.Stream (stream_call.Flush output))) entries (reply.Failed word handle) after w (λ e. cc)).1.1;
  plain = λ contexts m line ctx output entries reply after free w. (while_free contexts m line (step.Call ctx (guest.Stream (stream_call.Flush output))) free entries reply after w).0;
}
