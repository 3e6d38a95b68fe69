use Rattle.std.proofs.Common.{rules, ◌≡◌, Some}
use Rattle.std.specs.BTreeMap.{get}
use Rattle.wasi_world.specs.Sides.{name_cmp}
use Rattle.wasi_net.proofs.Sides.{lent_same}
use Rattle.wasi_net.proofs.network.Network.write.Goals as goal

pub returns-in-Some-clause-err : goal.returns-in-Some-clause-err
returns-in-Some-clause-err g c =
    let found : get name_cmp c.args.self.now.sides c.args.sock ≡ Some c.in-Some.socket.now = search rules in
    lent_same c.write.result c.args.self.now.sides (c.get_mut.follows.lender c.write.new.self) c.args.sock c.in-Some.socket.now c.write.new.self found ((c.get_mut.follows.holds c.write.new.self).3 (search rules)).0 c.write.ensures.kept
