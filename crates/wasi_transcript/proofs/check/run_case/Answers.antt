use Rattle.std.proofs.Common.{ap}
use Rattle.world_io.specs.Memory.{reading_of}
use Rattle.wasi_transcript.proofs.CasesHeld.{transcribed, as_planned}
use Rattle.wasi_transcript.proofs.check.run_case.Goals as goal

pub returns-then-is_whole : goal.returns-then-is_whole
returns-then-is_whole c =
    transcribed (as_planned c.args.scenario.now c.in-Planned.is c.in_ok-world.ensures) (c.is_whole.ensures.0 c.if-is_whole.true) (rw c.in_ok-script.ensures at (ap reading_of c.new-source.ensures)) c.new-sink.ensures c.into_bytes.ensures c.show_script-shown.ensures.planned (rw c.as_slice.ensures.value at c.show_script-shown.ensures.shown)
