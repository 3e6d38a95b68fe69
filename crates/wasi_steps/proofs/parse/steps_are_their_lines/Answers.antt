use Rattle.wasi_steps.proofs.StepLaws.{step_is, step_of_line, step_line_visible, step_line_text}
use Rattle.wasi_steps.proofs.parse.steps_are_their_lines.Goals as goal

pub returns : goal.returns
returns c = record { exactly = λ contexts line s. (step_is contexts line s, step_of_line contexts line s); visible = step_line_visible; text = step_line_text }
