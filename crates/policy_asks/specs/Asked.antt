-- What is written for a text of questions, and where it stops.
use Rattle.std.specs.Prelude.{◌≡◌, ℕ, ◌+◌, ◌⊎◌, List, [], ◌∷◌, ◌++◌, take, length, Option, Some, None, Result, Ok, Err}
use Rattle.world_io.specs.Io.{Reading, Writing}
use Rattle.world_io.specs.Written.{TookAll, TookPart, TookFront}
use Rattle.world_text.specs.Lines.{lines_of, rest_of}
use Rattle.wasi_policy.specs.declared.rule.Rule.{Rule}
use Rattle.policy_asks.specs.declared.answer.Form.{Form}
use Rattle.policy_asks.specs.declared.asking.AskError.{AskError}
use Rattle.policy_asks.specs.declared.asking.AskError.TheVariants as error
use Rattle.policy_asks.specs.declared.question.Question.{Question}
use Rattle.policy_asks.specs.declared.read.ReadEnd.{ReadEnd}
use Rattle.policy_asks.specs.declared.read.ReadEnd.TheVariants as read
use Rattle.policy_asks.specs.Answer.{answer_line}
use Rattle.policy_asks.specs.Io.{HasReadText}
use Rattle.policy_asks.specs.Question.{question_in}

-- What is written for lines, and the number of the first that is no question, at which it stops.
pub record Answers : Type 0 where
  pub written : List ℕ
  pub bad : Option ℕ

abbrev pub answers_then : List Rule → Form → ℕ → Option Question → Answers → Answers
answers_then rules form number None more = record { written = []; bad = Some number }
answers_then rules form number (Some q) more = record { written = answer_line rules form q ++ more.written; bad = more.bad }

-- of lines, the first of which has this number
abbrev pub answers_from : List Rule → Form → ℕ → List (List ℕ) → Answers
answers_from rules form number [] = record { written = []; bad = None }
answers_from rules form number (line ∷ lines) =
    answers_then rules form number (question_in line) (answers_from rules form (number + 1) lines)

-- of the whole lines of a text
abbrev pub answers : List Rule → Form → List ℕ → Answers
answers rules form text = answers_from rules form 1 (lines_of text)

-- The number is that of a last line without its newline, where there is one.
abbrev pub IsUnfinished : List ℕ → Option ℕ → Type 0
IsUnfinished text None = rest_of text ≡ []
IsUnfinished text (Some number) = (rest_of text ≡ [] → ⊥) × (number ≡ length (lines_of text) + 1)

-- how the lines of a text end
abbrev pub LinesEnd : List Rule → Form → List ℕ → Writing → Writing → Result (Option ℕ) AskError → Type 0
LinesEnd rules form text k_old k_new (Ok unfinished) =
    ((answers rules form text).bad ≡ None) × TookAll k_old (answers rules form text).written k_new × IsUnfinished text unfinished
LinesEnd rules form text k_old k_new (Err (error.BadLine number)) =
    ((answers rules form text).bad ≡ Some number) × TookAll k_old (answers rules form text).written k_new
LinesEnd rules form text k_old k_new (Err error.WriteFault) = TookPart k_old (answers rules form text).written k_new
LinesEnd rules form text k_old k_new (Err error.Memory) = TookFront k_old (answers rules form text).written k_new
LinesEnd rules form text k_old k_new (Err _) = ⊥

-- The text was read so, and of it the bytes within the limit were answered.
pub record AskedText (limit : ℕ) (s_old s_new : Reading) (end : ReadEnd) (P : List ℕ → Type 0) : Type 0 where
  pub text : List ℕ
  pub read : HasReadText limit s_old s_new text end
  pub holds : P (take limit text)

-- every whole line of the text was answered
abbrev pub AllAnswered : List Rule → Form → Writing → Writing → List ℕ → Type 0
AllAnswered rules form k_old k_new text =
    ((answers rules form text).bad ≡ None) × TookAll k_old (answers rules form text).written k_new

-- The lines before the number were answered, and that line is no question, or is the last and has no newline.
pub record StopsAt (rules : List Rule) (form : Form) (k_old k_new : Writing) (number : ℕ) (end : ReadEnd) (text : List ℕ) : Type 0 where
  pub took : TookAll k_old (answers rules form text).written k_new
  pub because : ((answers rules form text).bad ≡ Some number)
      ⊎ (((answers rules form text).bad ≡ None) × (end ≡ read.Whole) × IsUnfinished text (Some number))

-- The reading ended in one of the ways, and this holds of the text within the limit.
pub record AskedSome (limit : ℕ) (s_old s_new : Reading) (P : ReadEnd → List ℕ → Type 0) : Type 0 where
  pub end : ReadEnd
  pub text : List ℕ
  pub read : HasReadText limit s_old s_new text end
  pub holds : P end (take limit text)

-- the cause of each end
abbrev pub AskEnds : List Rule → Form → ℕ → Reading → Reading → Writing → Writing → Result (Unit {0}) AskError → Type 0
AskEnds rules form limit s_old s_new k_old k_new (Ok u) =
    AskedText limit s_old s_new read.Whole (λ text. AllAnswered rules form k_old k_new text × (rest_of text ≡ []))
AskEnds rules form limit s_old s_new k_old k_new (Err (error.BadLine number)) =
    AskedSome limit s_old s_new (StopsAt rules form k_old k_new number)
AskEnds rules form limit s_old s_new k_old k_new (Err error.TooLong) =
    AskedText limit s_old s_new read.TooLong (AllAnswered rules form k_old k_new)
AskEnds rules form limit s_old s_new k_old k_new (Err error.ReadFault) =
    AskedText limit s_old s_new read.Fault (AllAnswered rules form k_old k_new)
AskEnds rules form limit s_old s_new k_old k_new (Err error.WriteFault) =
    AskedSome limit s_old s_new (λ end text. TookPart k_old (answers rules form text).written k_new)
AskEnds rules form limit s_old s_new k_old k_new (Err error.Memory) =
    (k_new ≡ k_old) ⊎ AskedSome limit s_old s_new (λ end text. TookFront k_old (answers rules form text).written k_new)
