use Rattle.wasi_steps.specs.declared.guest_call.GuestCall.TheVariants as guest
use Rattle.wasi_steps.specs.declared.guest_call.NameCall.TheVariants as name_call
use Rattle.wasi_steps.specs.declared.step.Step.TheVariants as step
use Rattle.wasi_steps.specs.declared.reply.Reply.TheVariants as reply
use Rattle.wasi_causes.proofs.tables.Steps.{its_own, while_free}
use Rattle.wasi_causes.proofs.lookups.resolve_refusals.Goals as goal

pub returns : goal.returns
returns c = record {
  forbidden = λ contexts m line ctx network name entries reply after free its w. ((while_free contexts m line (step.Call ctx (guest.Names (name_call.Resolve network name))) free entries reply after w).0.1 its).forbidden;
  unnamed = λ contexts m line ctx network name entries reply after free its w. ((while_free contexts m line (step.Call ctx (guest.Names (name_call.Resolve network name))) free entries reply after w).0.1 its).unnamed;
  cause = λ contexts m line ctx network name entries word after w. (its_own contexts m line (step.Call ctx (guest.Names (name_call.Resolve network name))) entries (reply.Err word) after w (λ e. cc)).1.1.0;
  stays = λ contexts m line ctx network name entries word after w. (its_own contexts m line (step.Call ctx (guest.Names (name_call.Resolve network name))) entries (reply.Err word) after w (λ e. cc)).1.1.1;
}
