use Rattle.std.proofs.Common.{◌≡◌}
use Rattle.embed_flat.specs.Fields.{segments_one_by_one}
use Rattle.embed_flat.specs.Memory.{put}
use Rattle.embed_flat.proofs.block.set_segments.Given as goal

abbrev pub invariant-loop-k : goal.invariant-loop-k
invariant-loop-k l = l.block ≡ put l.initial.block l.at (segments_one_by_one l.fields l.first l.k)
