use Rattle.wasi_causes.proofs.Words.{inl, inr, refl}
use Rattle.wasi_steps.specs.declared.step.Step.TheVariants as step
use Rattle.wasi_steps.specs.declared.reply.Reply.TheVariants as reply
use Rattle.wasi_causes.proofs.tables.Steps.{other_free, unheld}
use Rattle.wasi_causes.proofs.blocking.cancels_give_up_their_call.Goals as goal

pub returns : goal.returns
returns c = record {
  none = λ contexts m line n entries reply after w. (unheld contexts m line (step.Cancel n) (other_free contexts m line (step.Cancel n) refl refl) entries reply after w).0.0;
  exactly = λ contexts m line n entries reply after w. (unheld contexts m line (step.Cancel n) (other_free contexts m line (step.Cancel n) refl refl) entries reply after w).0.1;
  stays = λ contexts m line n entries after w. (unheld contexts m line (step.Cancel n) (other_free contexts m line (step.Cancel n) refl refl) entries reply.NoSuchCall after w).1.1;
  given_up = λ contexts m line n fields entries after w. elim (unheld contexts m line (step.Cancel n) (other_free contexts m line (step.Cancel n) refl refl) entries (reply.Ok fields) after w).1.1 [ inl left ↦ inl left.0 | inr beside ↦ inr beside ];
  none_stands = λ contexts m line n fields entries after w. elim (unheld contexts m line (step.Cancel n) (other_free contexts m line (step.Cancel n) refl refl) entries (reply.Ok fields) after w).1.1 [ inl left ↦ inl (left.1, left.2) | inr beside ↦ inr beside ];
}
