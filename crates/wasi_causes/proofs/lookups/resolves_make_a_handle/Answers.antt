use Rattle.wasi_steps.specs.declared.guest_call.GuestCall.TheVariants as guest
use Rattle.wasi_steps.specs.declared.guest_call.NameCall.TheVariants as name_call
use Rattle.wasi_steps.specs.declared.step.Step.TheVariants as step
use Rattle.wasi_steps.specs.declared.reply.Reply.TheVariants as reply
use Rattle.wasi_world.specs.declared.outcome.TrapKind.TheVariants.{Full}
use Rattle.wasi_causes.proofs.tables.Steps.{its_own}
use Rattle.wasi_causes.proofs.lookups.resolves_make_a_handle.Goals as goal

pub returns : goal.returns
returns c = record {
  done = λ contexts m line ctx network name fields entries after w. (its_own contexts m line (step.Call ctx (guest.Names (name_call.Resolve network name))) entries (reply.Ok fields) after w (λ e. cc)).1.1;
  full = λ contexts m line ctx network name entries after w. (its_own contexts m line (step.Call ctx (guest.Names (name_call.Resolve network name))) entries (reply.Trap Full) after w (λ e. cc)).1.2;
}
