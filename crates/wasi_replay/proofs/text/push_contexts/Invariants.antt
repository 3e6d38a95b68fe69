use Rattle.std.proofs.Common.{◌≡◌, ◌++◌, take, string_bytes}
use Rattle.wasi_replay.specs.Pieces.{contexts_text}
use Rattle.wasi_replay.proofs.text.push_contexts.Given as goal

abbrev pub invariant-loop-context : goal.invariant-loop-context
invariant-loop-context l = string_bytes l.text ≡ string_bytes l.fn.text ++ contexts_text (take l.context-index l.contexts)
