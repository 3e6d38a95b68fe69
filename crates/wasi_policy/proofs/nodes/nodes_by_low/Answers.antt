use Rattle.std.proofs.lemmas.List.{take_rest}
use Rattle.wasi_policy.proofs.NodeLaws.{more_nodes_at}
use Rattle.wasi_policy.proofs.nodes.nodes_by_low.Goals as goal

pub runs-preserved : goal.runs-preserved
runs-preserved c = more_nodes_at c.args.reaches.now _ c.runs.at c.count_alike-count.result _ c.runs.nodes.items c.add.new.nodes.items c.in_ok-cells.cells.items (take_rest c.args.reaches.now c.runs.at) c.requires.rising c.runs.invariant c.count_alike-count.ensures.some c.count_alike-count.ensures.bound c.count_alike-count.ensures.alike c.in_ok-cells.ensures.first c.in_ok-add.ensures.index c.in_ok-add.ensures.begun c.in_ok-add.ensures.added
