use Rattle.std.proofs.lemmas.Bool.{false≢true}
use Rattle.wasi_steps.proofs.HandleLaws.{handles_next, handles_none, handles_fewer}
use Rattle.wasi_steps.proofs.handle_list.pollables.Goals as goal

pub returns-in_default : goal.returns-in_default
returns-in_default c =
    handles_none c.args.fields.now c.loop-fields.fields c.loop-fields.handles.items c.loop-fields.invariant (λ e. false≢true (c.loop-fields-test.ensures.1 e)) (rw c.in_default.is at c.u32.ensures.read)

pub loop-fields-smaller : goal.loop-fields-smaller
loop-fields-smaller c = handles_fewer c.in-Some.handle c.loop-fields.fields c.u32.new.self (rw c.in-Some.is at c.u32.ensures.read)

pub loop-fields-preserved : goal.loop-fields-preserved
loop-fields-preserved c =
    rw c.in_ok-push.ensures.items (handles_next c.args.fields.now c.loop-fields.fields c.u32.new.self c.loop-fields.handles.items c.in-Some.handle c.loop-fields.invariant (rw c.in-Some.is at c.u32.ensures.read))
