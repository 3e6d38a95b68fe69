use Rattle.wasi_policy.proofs.RuleLaws.{line_exactly, line_visible, text_is}
use Rattle.wasi_policy.proofs.grammar.rules_are_read_exactly.Goals as goal

pub returns : goal.returns
returns c = record { exactly = line_exactly; visible = line_visible; text = text_is }
