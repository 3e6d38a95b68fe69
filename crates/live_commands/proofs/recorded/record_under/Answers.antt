use Rattle.std.proofs.Common.{◌∙◌, ap, []}
use Rattle.wasi_policy.specs.Policed.{seen_under}
use Rattle.live_commands.proofs.recorded.record_under.Goals as goal

pub record_over-requires : goal.record_over-requires
record_over-requires g c = record { silent = c.new-world.ensures ∙ ap (seen_under []) c.world.ensures }
