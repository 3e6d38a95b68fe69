use Rattle.std.proofs.Common.{◌≡◌, ◌++◌, take, string_bytes}
use Rattle.wasi_transcript.specs.Transcript.{calls_text}
use Rattle.wasi_transcript.proofs.exchange.push_calls.Given as goal

abbrev pub invariant-loop-call : goal.invariant-loop-call
invariant-loop-call l = string_bytes l.text ≡ string_bytes l.fn.text ++ calls_text (take l.call-index l.calls)
