use Rattle.std.proofs.Common.{sym, ◌∙◌}
use Rattle.std.proofs.lemmas.List.{take_rest}
use Rattle.world_text.proofs.FieldsOf.{fields_of_at, fields_of_whole}
use Rattle.world_text.proofs.fields.Fields.next.Goals as goal

pub returns-in-Some-clause-first : goal.returns-in-Some-clause-first
returns-in-Some-clause-first c =
    let found = fields_of_at c.in_ok-line.line.now c.in-Some.at (sym c.space_in.ensures ∙ c.in-Some.is) in
    rw (← c.self.view_is, c.in_ok-line.was, take_rest) found

pub returns-in-None-clause-first : goal.returns-in-None-clause-first
returns-in-None-clause-first c =
    let whole = fields_of_whole c.in_ok-line.line.now (sym c.space_in.ensures ∙ c.in-None.is) in
    rw (← c.self.view_is, c.in_ok-line.was) whole
