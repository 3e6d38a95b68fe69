use Rattle.std.proofs.Common.{sym, ◌∙◌}
use Rattle.wasi_steps.proofs.NameLaws.{utf8_is}
use Rattle.wasi_steps.proofs.name.is_name.Goals as goal

pub returns-then-is_ok : goal.returns-then-is_ok
returns-then-is_ok c =
    rw (sym (utf8_is c.args.text.now c.from_utf8.result _ _ c.from_utf8.ensures.cases) ∙ (sym c.is_ok.ensures.value ∙ c.if-is_ok.true)) c.is_unbroken.ensures

pub returns-else-is_ok : goal.returns-else-is_ok
returns-else-is_ok c =
    let none = sym (utf8_is c.args.text.now c.from_utf8.result _ _ c.from_utf8.ensures.cases) ∙ (sym c.is_ok.ensures.value ∙ c.if-is_ok.false) in
    rw none c.if-is_ok.false
