use Rattle.std.proofs.Common.{rules, ◌≡◌, ◌<◌, ◌∙◌, ap, sym, arith}
use Rattle.drawn_scripts.specs.Generate.{drawn, generated}
use Rattle.drawn_scripts.proofs.GeneratedSteps.{generated_valid, generated_lines}
use Rattle.drawn_scripts.proofs.Generated.{generated_first, generated_next, block_number, same_start, same_block}
use Rattle.drawn_scripts.proofs.generate.generate.Goals as goal

pub loop-k-preserved-then-k-eq0 : goal.loop-k-preserved-then-k-eq0
loop-k-preserved-then-k-eq0 c = record {
  text = generated_first c.args.kind c.args.seed c.loop-k.k _ _ c.if-k-eq0.true c.loop-k.invariant.text c.in_ok-push_str.ensures.bytes;
  drawn = c.loop-k.invariant.drawn ∙ ap (drawn c.args.seed) (same_start c.loop-k.k c.if-k-eq0.true);
}

pub loop-k-preserved : goal.loop-k-preserved
loop-k-preserved c =
    let later : 0 < c.loop-k.k = omega (arith, c.if-k-eq0.false) in
    let number = c.number_at-x.ensures ∙ block_number c.args.seed c.loop-k.k c.loop-k.x later c.loop-k.invariant.drawn in
    record {
      text = generated_next c.args.kind c.args.seed c.loop-k.k c.number_at-x.result _ _ later c.loop-k.invariant.text number (rw c.block_at.ensures at c.in_ok-push_line.ensures);
      drawn = number ∙ ap (drawn c.args.seed) (sym (same_block c.loop-k.k later));
    }

pub returns-clause-valid : goal.returns-clause-valid
returns-clause-valid c =
    let is : c.into_bytes.result.items ≡ generated c.args.kind c.args.seed c.args.steps = search rules in
    rw is (generated_valid c.args.kind c.args.seed c.args.steps (search rules) (search rules))

pub returns-clause-count : goal.returns-clause-count
returns-clause-count c =
    let is : c.into_bytes.result.items ≡ generated c.args.kind c.args.seed c.args.steps = search rules in
    rw is (generated_lines c.args.kind c.args.seed c.args.steps (search rules) (search rules))
