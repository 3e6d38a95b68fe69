use Rattle.std.proofs.Common.{◌≡◌, ◌++◌, take}
use Rattle.wasi_replay.specs.Pieces.{entries_text}
use Rattle.wasi_embed.proofs.text.push_entries.Given as goal

abbrev pub invariant-loop-entry : goal.invariant-loop-entry
invariant-loop-entry l = l.text.items ≡ l.fn.text.items ++ entries_text (take l.entry-index l.more)
