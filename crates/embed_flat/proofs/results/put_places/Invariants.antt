use Rattle.std.proofs.Common.{◌≡◌}
use Rattle.embed_flat.specs.Memory.{put}
use Rattle.embed_flat.proofs.InPlaces.{first_places}
use Rattle.embed_flat.proofs.results.put_places.Given as goal

abbrev pub invariant-loop-k : goal.invariant-loop-k
invariant-loop-k l = l.memory ≡ put l.initial.memory l.place (first_places l.fields l.k)
