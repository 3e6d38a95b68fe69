use Rattle.std.proofs.Common.{sym, ◌∙◌, arith}
use Rattle.record_common.proofs.Hosts.{fault_wants}
use Rattle.wasi_host.proofs.PollLists.{look_skips, look_goes, look_stops, none_of, some_of, view_then}
use Rattle.wasi_host.proofs.polling.look_each.Goals.{then-is_none+in_ok-ready+in_ok-push, else-is_none}
use Rattle.wasi_host.proofs.polling.look_each.Goals as goal

pub returns-in_err-ready-clause-asked : goal.returns-in_err-ready-clause-asked
returns-in_err-ready-clause-asked g c =
    look_stops c.args.look c.args.pollables.now c.loop-pollable.pollable-index _ _ _ c.loop-pollable-test.true c.loop-pollable.invariant.reached _ c.in_err-ready.field-0.0 c.from_residual.result
    (sym c.of.ensures ∙ none_of _ _ c.is_none.ensures c.if-is_none.true) c.from_residual.ensures.1 c.in_err-ready.ensures.asked

pub returns-in_err-push-clause-asked : goal.returns-in_err-push-clause-asked
returns-in_err-push-clause-asked g c =
    fault_wants c.from_residual-in_err-push.result c.from_residual-in_err-push.ensures.1
    (look_goes c.args.look c.args.pollables.now c.loop-pollable.pollable-index _ _ _ c.loop-pollable-test.true c.loop-pollable.invariant.reached _ c.look_at.new.ids c.in_ok-ready.ready
    (sym c.of.ensures ∙ none_of _ _ c.is_none.ensures c.if-is_none.true) c.in_ok-ready.ensures.names c.in_ok-ready.ensures.asked.ok)

pub loop-pollable-preserved : goal.loop-pollable-preserved
loop-pollable-preserved g c =
    let i = c.loop-pollable.invariant in
    elim c.if-is_none.branch [
      | then-is_none+in_ok-ready+in_ok-push w ↦ record {
        reached = rw (w.view-is, w.world-is, w.ids-is, w.found-is, w.in_ok-push.ensures.ok)
            (look_goes c.args.look c.args.pollables.now c.loop-pollable.pollable-index _ _ _ c.loop-pollable-test.true i.reached _ w.look_at.new.ids w.in_ok-ready.ready
            (sym c.of.ensures ∙ none_of _ _ c.is_none.ensures w.if-is_none.true) w.in_ok-ready.ensures.names w.in_ok-ready.ensures.asked.ok);
        names = (let e = w.ids-is in let t = w.in_ok-ready.ensures.taken.one in let n = i.names in rw e (omega (arith, t, n)));
        forth = (let e = w.ids-is in let t = w.in_ok-ready.ensures.taken.forth in let f = i.forth in rw e (omega (arith, t, f)));
        line = rw w.ids-is (w.in_ok-ready.ensures.taken.line ∙ i.line);
        sides = rw (w.world-is, w.view-is) (λ k. w.in_ok-ready.ensures.sides (i.sides k));
        view = rw w.view-is (view_then i.view w.in_ok-ready.ensures.view);
        still = rw w.world-is (w.in_ok-ready.ensures.asked.ended ∙ i.still);
      }
      | else-is_none w ↦ record {
        reached = rw (w.view-is, w.world-is, w.ids-is, w.found-is)
            (look_skips c.args.look c.args.pollables.now c.loop-pollable.pollable-index _ _ _ c.loop-pollable-test.true i.reached (some_of _ _ c.is_none.ensures w.if-is_none.false).0
            (sym c.of.ensures ∙ (some_of _ _ c.is_none.ensures w.if-is_none.false).1));
        names = (let n = i.names in rw w.ids-is (omega (arith, n)));
        forth = (let f = i.forth in rw w.ids-is (omega (arith, f)));
        line = rw w.ids-is i.line;
        sides = rw (w.world-is, w.view-is) i.sides;
        view = rw w.view-is i.view;
        still = rw w.world-is i.still;
      }
    ]
