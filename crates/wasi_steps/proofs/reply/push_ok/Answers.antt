use Rattle.wasi_steps.proofs.ReplyTexts.{field_more}
use Rattle.wasi_steps.proofs.reply.push_ok.Goals as goal

pub loop-field-preserved : goal.loop-field-preserved
loop-field-preserved c =
    field_more _ _ _ _ c.args.fields.now c.loop-field.field-index c.field-item.result c.loop-field-test.true c.field-item.is
    c.loop-field.invariant c.in_ok-push.ensures.items c.in_ok-push_field.ensures
