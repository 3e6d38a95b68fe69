use Rattle.std.specs.Prelude.{IsSomeAnd}
use Rattle.wasi_causes.proofs.Words.{Option, refl, subst}
use Rattle.wasi_causes.proofs.p3_connects.polls_of_connects.Goals as goal
use Rattle.wasi_causes.proofs.tables.Steps.{its_own, other_free, unheld}
use Rattle.wasi_causes.specs.P3Connects.{GoesOnBeside}
use Rattle.host_store.specs.declared.beside.Beside.{Beside}
use Rattle.wasi_steps.specs.declared.reply.Reply.TheVariants as reply
use Rattle.wasi_steps.specs.declared.step.Step.TheVariants as step

pub returns : goal.returns
returns c = record {
  gone = λ contexts m line n place entries reply after beside is none free w.
      (subst (λ (o : Option Beside). IsSomeAnd o (λ b. GoesOnBeside m n entries reply after b.call)) is
      ((its_own contexts m line (step.Poll n) entries reply after w free).0.3 beside).why).0 none;
  polled = λ contexts m line n place r entries reply after beside is at connects free w.
      (subst (λ (o : Option Beside). IsSomeAnd o (λ b. GoesOnBeside m n entries reply after b.call)) is
      ((its_own contexts m line (step.Poll n) entries reply after w free).0.3 beside).why).1 r at connects;
  cancelled = λ contexts m line n entries fields after beside w.
      (unheld contexts m line (step.Cancel n) (other_free contexts m line (step.Cancel n) refl refl) entries
      (reply.Ok fields) after w).0.2 beside;
}
