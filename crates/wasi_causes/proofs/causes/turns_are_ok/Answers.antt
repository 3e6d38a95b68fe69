use Rattle.wasi_steps.specs.declared.step.Step.TheVariants as step
use Rattle.wasi_causes.proofs.Words.{refl}
use Rattle.wasi_causes.proofs.tables.Steps.{other_free, unheld}
use Rattle.wasi_causes.proofs.causes.turns_are_ok.Goals as goal

pub returns : goal.returns
returns c = record {
  ok = λ contexts m line entries reply after w. (unheld contexts m line step.Turn (other_free contexts m line step.Turn refl refl) entries reply after w).0.ok;
  asked = λ contexts m line entries reply after w. (unheld contexts m line step.Turn (other_free contexts m line step.Turn refl refl) entries reply after w).0.asked;
  handles = λ contexts m line entries reply after w. (unheld contexts m line step.Turn (other_free contexts m line step.Turn refl refl) entries reply after w).0.handles;
  lookups = λ contexts m line place l entries reply after w. (unheld contexts m line step.Turn (other_free contexts m line step.Turn refl refl) entries reply after w).0.lookups place l;
  pending = λ contexts m line entries reply after w. (unheld contexts m line step.Turn (other_free contexts m line step.Turn refl refl) entries reply after w).0.pending;
  sockets = λ contexts m line place entries reply after w. let left = (unheld contexts m line step.Turn (other_free contexts m line step.Turn refl refl) entries reply after w).0 in (left.sockets place, left.opens place);
  streams = λ contexts m line place entries reply after w. (unheld contexts m line step.Turn (other_free contexts m line step.Turn refl refl) entries reply after w).0.streams place;
  pipes = λ contexts m line place entries reply after w. (unheld contexts m line step.Turn (other_free contexts m line step.Turn refl refl) entries reply after w).0.pipes place;
}
