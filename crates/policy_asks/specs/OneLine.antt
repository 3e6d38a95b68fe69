-- How a line is answered.
use Rattle.std.specs.Prelude.{◌≡◌, ℕ, List, Some, None, Result, Ok, Err}
use Rattle.world_io.specs.Io.{Writing}
use Rattle.world_io.specs.Written.{TookAll, TookPart}
use Rattle.wasi_policy.specs.declared.rule.Rule.{Rule}
use Rattle.policy_asks.specs.declared.answer.Form.{Form}
use Rattle.policy_asks.specs.declared.asking.AskError.{AskError}
use Rattle.policy_asks.specs.declared.asking.AskError.TheVariants as error
use Rattle.policy_asks.specs.declared.question.Question.{Question}
use Rattle.policy_asks.specs.Answer.{answer_line}
use Rattle.policy_asks.specs.Question.{question_in}

-- The line is this question, and the sink took the answer so.
pub record Answered (rules : List Rule) (form : Form) (line : List ℕ) (P : List ℕ → Type 0) : Type 0 where
  pub question : Question
  pub is : question_in line ≡ Some question
  pub took : P (answer_line rules form question)

abbrev pub LineEnds : List Rule → Form → ℕ → List ℕ → Writing → Writing → Result (Unit {0}) AskError → Type 0
LineEnds rules form number line k_old k_new (Ok u) = Answered rules form line (λ answer. TookAll k_old answer k_new)
LineEnds rules form number line k_old k_new (Err (error.BadLine n)) = (n ≡ number) × (question_in line ≡ None) × (k_new ≡ k_old)
LineEnds rules form number line k_old k_new (Err error.WriteFault) = Answered rules form line (λ answer. TookPart k_old answer k_new)
LineEnds rules form number line k_old k_new (Err error.Memory) = k_new ≡ k_old
LineEnds rules form number line k_old k_new (Err _) = ⊥
