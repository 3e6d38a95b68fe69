use Rattle.wasi_causes.proofs.p3_lookups.p3_lookups.Goals as goal
use Rattle.wasi_steps.specs.declared.guest_call.GuestCall.TheVariants as guest
use Rattle.wasi_steps.specs.declared.guest_call.P3NameCall.TheVariants as p3_name_call
use Rattle.wasi_steps.specs.declared.step.Step.TheVariants as step
use Rattle.wasi_steps.specs.declared.reply.Reply.TheVariants as reply
use Rattle.wasi_causes.proofs.tables.Steps.{its_own, while_free}

pub returns : goal.returns
returns c = record {
  forbidden = λ contexts m line ctx name entries reply after free w.
      (while_free contexts m line (step.Call ctx (guest.P3Names (p3_name_call.Resolve name))) free entries reply after w).0.1.forbidden;
  unnamed = λ contexts m line ctx name entries reply after free w.
      (while_free contexts m line (step.Call ctx (guest.P3Names (p3_name_call.Resolve name))) free entries reply after w).0.1.unnamed;
  refused = λ contexts m line ctx name entries word after w.
      (its_own contexts m line (step.Call ctx (guest.P3Names (p3_name_call.Resolve name))) entries (reply.Err word) after w
      (λ e. cc)).1.1.0;
  stays = λ contexts m line ctx name entries word after w.
      (its_own contexts m line (step.Call ctx (guest.P3Names (p3_name_call.Resolve name))) entries (reply.Err word) after w
      (λ e. cc)).1.1.1;
  done = λ contexts m line ctx name entries fields after w.
      (its_own contexts m line (step.Call ctx (guest.P3Names (p3_name_call.Resolve name))) entries (reply.Ok fields) after w
      (λ e. cc)).1.1;
  pending = λ contexts m line ctx name entries number after w.
      (its_own contexts m line (step.Call ctx (guest.P3Names (p3_name_call.Resolve name))) entries (reply.Pending number) after w
      (λ e. cc)).1.1;
}
