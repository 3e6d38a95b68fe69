use Rattle.wasi_steps.specs.declared.guest_call.GuestCall.TheVariants as guest
use Rattle.wasi_steps.specs.declared.guest_call.NameCall.TheVariants as name_call
use Rattle.wasi_steps.specs.declared.step.Step.TheVariants as step
use Rattle.wasi_steps.specs.declared.reply.Reply.TheVariants as reply
use Rattle.wasi_causes.proofs.Words.{refl}
use Rattle.wasi_causes.proofs.tables.Steps.{its_own, may_be, of_answer}
use Rattle.wasi_causes.specs.Outcomes.{Quiet}
use Rattle.wasi_causes.proofs.causes.errors_have_no_network_code.Goals as goal

pub returns : goal.returns
returns c = record {
  none = λ contexts m line ctx error fields entries after w. (its_own contexts m line (step.Call ctx (guest.Names (name_call.NetworkErrorCode error))) entries (reply.Ok fields) after w (λ e. cc)).1.1;
  never = λ contexts m line ctx error entries word after w. may_be contexts m line (step.Call ctx (guest.Names (name_call.NetworkErrorCode error))) entries (reply.Err word) after w;
  quiet = λ contexts m line ctx error entries reply after. of_answer contexts m line (step.Call ctx (guest.Names (name_call.NetworkErrorCode error))) (λ es r after. Quiet m es after) (refl, refl) (λ es r after row. row.0) entries reply after;
}
