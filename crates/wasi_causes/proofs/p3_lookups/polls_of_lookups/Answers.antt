use Rattle.std.specs.Prelude.{IsSomeAnd}
use Rattle.wasi_causes.proofs.Words.{Option, subst}
use Rattle.wasi_causes.proofs.p3_lookups.polls_of_lookups.Goals as goal
use Rattle.wasi_causes.proofs.tables.Steps.{its_own}
use Rattle.wasi_causes.specs.P3Connects.{GoesOnBeside}
use Rattle.host_store.specs.declared.beside.Beside.{Beside}
use Rattle.wasi_steps.specs.declared.step.Step.TheVariants as step

pub returns : goal.returns
returns c = λ contexts m line n host entries reply after beside is free w.
    subst (λ (o : Option Beside). IsSomeAnd o (λ b. GoesOnBeside m n entries reply after b.call)) is
    ((its_own contexts m line (step.Poll n) entries reply after w free).0.3 beside).why
