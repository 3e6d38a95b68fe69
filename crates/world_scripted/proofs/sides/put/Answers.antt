use Rattle.std.proofs.Common.{Option, ap, ◌∙◌}
use Rattle.std.specs.Prelude.{unwrap_or}
use Rattle.std.specs.HashMap.{get}
use Rattle.wasi_world.specs.declared.sides.Side.{Side}
use Rattle.wasi_world.specs.Sides.{is_same, unmade}
use Rattle.world_scripted.specs.Known.{is_same_name}
use Rattle.world_scripted.proofs.Known.{known_put}
use Rattle.world_scripted.proofs.sides.put.Goals as goal

pub returns-clause-ok : goal.returns-clause-ok
returns-clause-ok c = λ other.
    ap (λ (o : Option Side). unwrap_or o unmade) (c.in_ok-insert.ensures.updates.0 (other.step, other.part))
    ∙ known_put (is_same c.args.sock other) c.args.side (get is_same_name c.args.sides.now (other.step, other.part))
