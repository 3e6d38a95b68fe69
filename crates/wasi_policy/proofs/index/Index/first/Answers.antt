use Rattle.std.proofs.Common.{◌≡◌, ◌<◌, ◌≤◌, ◌^◌, length, arith, ap, sym, ◌∙◌}
use Rattle.wasi_addr.specs.Address.{canonical, ip_of}
use Rattle.wasi_policy.specs.Explained.{explained_at}
use Rattle.wasi_policy.specs.Reach.{ip_number, no_rule, by_place}
use Rattle.wasi_policy.proofs.ReachLaws.{decision_is, explanation_is, same_place}
use Rattle.wasi_policy.proofs.index.Index.first.Goals as goal

pub first_in-requires : goal.first_in-requires
first_in-requires c = (c.of_family-nodes.ensures c.args.rules.now c.args.usage (c.of_use.ensures c.args.rules.now c.requires.index)).index

pub returns-clause-decides : goal.returns-clause-decides
returns-clause-decides c =
    let nodes = c.of_family-nodes.ensures c.args.rules.now c.args.usage (c.of_use.ensures c.args.rules.now c.requires.index) in
    let ip_is : c.to_canonical-ip.result ≡ canonical (ip_of c.args.address) = c.to_canonical-ip.ensures ∙ ap canonical c.ip.ensures in
    let number_is : c.ip_number-number.result ≡ ip_number (canonical (ip_of c.args.address)) = c.ip_number-number.ensures ∙ ap ip_number ip_is in
    let fits : ip_number (canonical (ip_of c.args.address)) < 2 ^ 128 = omega (arith, number_is, c.ip_number-number.type_inv) in
    let few : length c.args.rules.now ≤ no_rule = omega (arith, c.requires.few) in
    ap (by_place c.args.rules.now) (c.first_in.ensures ∙ (nodes.first c.ip_number-number.result c.port.result ∙ same_place c.args.rules.now c.args.usage c.args.address c.to_canonical-ip.result c.ip_number-number.result c.port.result ip_is c.ip_number-number.ensures c.port.ensures))
    ∙ sym (decision_is c.args.address c.args.usage fits c.args.rules.now few)

pub returns-clause-explains : goal.returns-clause-explains
returns-clause-explains c =
    let nodes = c.of_family-nodes.ensures c.args.rules.now c.args.usage (c.of_use.ensures c.args.rules.now c.requires.index) in
    let ip_is : c.to_canonical-ip.result ≡ canonical (ip_of c.args.address) = c.to_canonical-ip.ensures ∙ ap canonical c.ip.ensures in
    let number_is : c.ip_number-number.result ≡ ip_number (canonical (ip_of c.args.address)) = c.ip_number-number.ensures ∙ ap ip_number ip_is in
    let fits : ip_number (canonical (ip_of c.args.address)) < 2 ^ 128 = omega (arith, number_is, c.ip_number-number.type_inv) in
    let few : length c.args.rules.now ≤ no_rule = omega (arith, c.requires.few) in
    ap (explained_at c.args.rules.now) (c.first_in.ensures ∙ (nodes.first c.ip_number-number.result c.port.result ∙ same_place c.args.rules.now c.args.usage c.args.address c.to_canonical-ip.result c.ip_number-number.result c.port.result ip_is c.ip_number-number.ensures c.port.ensures))
    ∙ sym (explanation_is c.args.address c.args.usage fits c.args.rules.now few)
