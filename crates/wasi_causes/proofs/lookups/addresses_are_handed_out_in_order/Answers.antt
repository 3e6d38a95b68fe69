use Rattle.wasi_steps.specs.declared.guest_call.GuestCall.TheVariants as guest
use Rattle.wasi_steps.specs.declared.guest_call.NameCall.TheVariants as name_call
use Rattle.wasi_steps.specs.declared.step.Step.TheVariants as step
use Rattle.wasi_steps.specs.declared.reply.Reply.TheVariants as reply
use Rattle.wasi_causes.proofs.Words.{[], refl, subst, ◌≡◌}
use Rattle.wasi_causes.proofs.Runs.{runs_miss_no_lookup}
use Rattle.wasi_causes.proofs.resolving.Hands.{one_less}
use Rattle.wasi_causes.proofs.tables.Steps.{its_own, of_answer, while_free}
use Rattle.wasi_causes.specs.Outcomes.{Outcome}
use Rattle.wasi_causes.proofs.lookups.addresses_are_handed_out_in_order.Goals as goal

pub returns : goal.returns
returns c = record {
  asks_nothing = λ contexts m line ctx handle. of_answer contexts m line (step.Call ctx (guest.Names (name_call.ResolveNext handle))) (λ es r after. es ≡ []) refl (λ es r after row. row.0.quiet);
  in_progress = λ contexts m line ctx handle entries reply after free w. (while_free contexts m line (step.Call ctx (guest.Names (name_call.ResolveNext handle))) free entries reply after w).0.in_progress;
  failed = λ contexts m line ctx handle entries reply after free w. (while_free contexts m line (step.Call ctx (guest.Names (name_call.ResolveNext handle))) free entries reply after w).0.failed;
  stays = λ contexts m line ctx handle entries word after w. (its_own contexts m line (step.Call ctx (guest.Names (name_call.ResolveNext handle))) entries (reply.Err word) after w (λ e. cc)).1.1;
  over = λ contexts m line ctx handle entries reply after free w. (while_free contexts m line (step.Call ctx (guest.Names (name_call.ResolveNext handle))) free entries reply after w).0.over;
  first = λ contexts m line ctx handle a left entries reply after free is w. let row = while_free contexts m line (step.Call ctx (guest.Names (name_call.ResolveNext handle))) free entries reply after w in let said = row.0.next a left is in (said, one_less contexts m line ctx handle a left _ after is (subst (λ r. Outcome contexts m line (step.Call ctx (guest.Names (name_call.ResolveNext handle))) entries r after) said row).1.1);
  handed = λ contexts m line ctx handle fields entries after w. (its_own contexts m line (step.Call ctx (guest.Names (name_call.ResolveNext handle))) entries (reply.Ok fields) after w (λ e. cc)).1.1;
  missing = λ contexts steps log replies m handle w. runs_miss_no_lookup contexts steps log replies m w handle;
}
