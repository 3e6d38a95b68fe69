use Rattle.wasi_steps.specs.declared.guest_call.GuestCall.TheVariants as guest
use Rattle.wasi_steps.specs.declared.guest_call.StreamCall.TheVariants as stream_call
use Rattle.wasi_steps.specs.declared.step.Step.TheVariants as step
use Rattle.wasi_steps.specs.declared.reply.Reply.TheVariants as reply
use Rattle.wasi_causes.proofs.Words.{◌∷◌, bytes_fields, nothing_stands, refl}
use Rattle.wasi_machine.specs.Machine.{first_ids}
use Rattle.host_store.specs.declared.store.BlockingCall.TheVariants as blocking
use Rattle.wasi_causes.proofs.streams.Read.{ends_by_read}
use Rattle.wasi_causes.proofs.tables.Steps.{its_own, while_free}
use Rattle.wasi_causes.proofs.blocking.blocking_reads_hand_out_what_was_told.Goals as goal

pub returns : goal.returns
returns c = record {
  at_once = λ contexts m line ctx input len b bytes entries after free w. ends_by_read contexts m (first_ids line) (blocking.Read input len) ctx input len b bytes entries after ((while_free contexts m line (step.Call ctx (guest.Stream (stream_call.BlockingRead input len))) free entries (reply.Ok (bytes_fields (b ∷ bytes))) after w).0 free);
  polled = λ contexts m line input len b ids bytes entries after stands w. ends_by_read contexts (nothing_stands m) ids (blocking.Read input len) 0 input len b bytes entries after ((its_own contexts m line (step.Poll ids.line) entries (reply.Ok (bytes_fields (b ∷ bytes))) after w (λ e. cc)).0.2 0 ids (blocking.Read input len) stands refl tt);
}
