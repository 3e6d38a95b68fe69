use Rattle.std.proofs.Common.{◌≡◌, IfOk, subst, List, ℕ}
use Rattle.wasi_replay.proofs.LogTexts.{pieces_are}
use Rattle.wasi_replay.proofs.text.log_text.Goals as goal

pub returns : goal.returns
returns c = subst (λ (t : List ℕ). IfOk c.write_log.result (λ text. text ≡ t)) (pieces_are c.args.contexts.now c.args.log.now) c.write_log.ensures
