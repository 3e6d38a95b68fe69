use Rattle.std.proofs.Common.{arith, ◌∙◌, ap, refl}
use Rattle.world_text.specs.Lines.{lines_of}
use Rattle.wasi_transcript.specs.Cases.{planned_at, case_at}
use Rattle.wasi_transcript.proofs.CasesRead.{case_whole, as_shown}
use Rattle.wasi_transcript.proofs.cases.read_case.Goals as goal

-- src/cases.rt:156:1
pub returns : goal.returns
returns c =
    let (line, titled, first, title_rest, title_less) = c.in-Some.ensures in
    let plan = c.in_ok-scenario.ensures in
    let (shown, is, found, shown_rest, shown_less) = as_shown c.read_planned.new.lines c.read_shown.new.lines c.in_ok-script.field-0 c.in-Some-2.field-0 c.in-Some-2.is c.in_ok-script.ensures in
    let rest = lines_of c.next_after.new.self in (
      record { title = c.in-Some.title.now; planned = (planned_at rest).0; shown = shown },
      record { title = refl; scenario = plan.text; script = is.script; wanted = is.wanted },
      ap case_at first ∙ case_whole line c.in-Some.title.now rest (lines_of c.read_planned.new.lines) shown (lines_of c.read_shown.new.lines) titled plan.left found,
      title_rest ∙ plan.rest ∙ shown_rest,
      omega (arith, title_less, plan.shorter, shown_less),
    )
