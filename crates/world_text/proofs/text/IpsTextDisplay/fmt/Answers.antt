use Rattle.std.proofs.Common.{rules, refl, true}
use Rattle.std.proofs.Output.{has_written_append, has_written_of_eq}
use Rattle.world_text.proofs.EntryTexts.{ips_next, ips_whole}
use Rattle.world_text.proofs.text.IpsTextDisplay.fmt.Goals as goal

pub loop-addr-init : goal.loop-addr-init
loop-addr-init g c = search rules

pub loop-addr-preserved : goal.loop-addr-preserved
loop-addr-preserved g c = λ plain.
    let before = c.loop-addr.invariant plain in
    has_written_of_eq _ _ _ _ _ (ips_next c.args.self.now.0.now c.loop-addr.addr-index _ c.loop-addr-test.true) (has_written_append _ _ _ _ _ _ before (c.in_ok-write_ip.ensures before.plain (refl {a = true})))

pub returns-clause-writes : goal.returns-clause-writes
returns-clause-writes g c = λ plain ok.
    has_written_of_eq _ _ _ _ _ (ips_whole c.args.self.now.0.now c.loop-addr.addr-index c.loop-addr-test.false) (c.loop-addr.invariant plain)
