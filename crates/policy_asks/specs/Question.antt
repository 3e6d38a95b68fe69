-- The grammar of questions: `USE ADDRESS`.
use Rattle.std.specs.Prelude.{ℕ, List, Option}
use Rattle.world_text.specs.Fields.{Reader, ◌>>=◌, give, give_some, whole, fields_of, address_at}
use Rattle.wasi_policy.specs.Grammar.{uses_at}
use Rattle.policy_asks.specs.declared.question.Question.{Question}

unfoldable pub question_at : Reader Question
question_at = do
  uses ← uses_at
  asked ← give_some uses
  address ← address_at
  give (record { usage = asked; address = address })

-- the question that a line is, without its newline
unfoldable pub question_in : List ℕ → Option Question
question_in line = whole (question_at (fields_of line))
