use Rattle.wasi_causes.proofs.Words.{inl, inr}
use Rattle.wasi_causes.proofs.Runs.{polls_trap}
use Rattle.wasi_causes.proofs.pending_calls.polls_find_their_call.Goals as goal
use Rattle.wasi_causes.proofs.tables.Steps.{its_own, itself_free, polls_exactly, unheld}
use Rattle.wasi_steps.specs.declared.reply.Reply.TheVariants as reply
use Rattle.wasi_steps.specs.declared.step.Step.TheVariants as step

pub returns : goal.returns
returns c = record {
  exactly = λ contexts m line n entries reply after w. polls_exactly contexts m line n entries reply after w;
  stays = λ contexts m line n entries after w. (its_own contexts m line (step.Poll n) entries reply.NoSuchCall after w (λ e. cc)).1.1;
  only_polls = λ contexts m line s entries after w. (its_own contexts m line s entries reply.NoSuchCall after w (λ e. cc)).1.0;
  ends = λ contexts m line n entries reply after stands w. (unheld contexts m line (step.Poll n) (itself_free contexts m line n stands) entries reply after w).0.1 stands;
  beside = λ contexts m line n entries reply after beside free w. (its_own contexts m line (step.Poll n) entries reply after w free).0.3 beside;
  refused = λ contexts m line n entries word after fits w.
      let row = its_own contexts m line (step.Poll n) entries (reply.Err word) after w (λ e. cc) in
      elim row.1.1.0 [ inl why ↦ inl (why fits) | inr beside ↦ inr (row.0.3 beside) ];
  traps = λ contexts steps log replies m line n entries kind after w. polls_trap contexts steps log replies m w line n entries kind after;
}
