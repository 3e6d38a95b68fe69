use Rattle.std.proofs.Common.{◌∙◌, sym}
use Rattle.std.proofs.lemmas.Bool.{false≢true}
use Rattle.wasi_transcript.proofs.CasesHeld.{checking_start, checking_on, fails_next, as_read}
use Rattle.wasi_transcript.proofs.check.check_text.Goals as goal

pub cases-init : goal.cases-init
cases-init c = rw c.of-lines.ensures (checking_start c.args.text.now)

pub returns-in_default : goal.returns-in_default
returns-in_default c = (
  c.cases.invariant.cases,
  c.cases.lines,
  c.cases.invariant.held,
  (λ e. false≢true (sym c.cases-test.true ∙ c.is_done.ensures.1 e)),
  as_read c.cases.lines c.read_case.new.lines c.in_default.is c.in_ok-case.ensures,
)

pub returns-then-not-is : goal.returns-then-not-is
returns-then-not-is c = (
  c.cases.invariant.cases,
  c.cases.lines,
  c.cases.invariant.held,
  fails_next c.read_case.new.lines c.in-Some.case c.in_ok-came.came
      (as_read c.cases.lines c.read_case.new.lines c.in-Some.is c.in_ok-case.ensures)
      (rw (c.as_slice.ensures.value, c.as_slice-in-cases.ensures.value) at c.in_ok-came.ensures)
      (λ same. false≢true (sym c.if-not-is.true ∙ c.is.ensures.1 (rw c.as_slice-in-cases-2.ensures.value same))),
)

pub cases-preserved : goal.cases-preserved
cases-preserved c =
    checking_on c.in-Some.case c.in_ok-came.came c.cases.invariant
    (as_read c.cases.lines c.read_case.new.lines c.in-Some.is c.in_ok-case.ensures)
    (rw (c.as_slice.ensures.value, c.as_slice-in-cases.ensures.value) at c.in_ok-came.ensures)
    (rw c.as_slice-in-cases-2.ensures.value at (c.is.ensures.0 c.if-not-is.false))
    c.saturating_add-count.ensures

pub returns : goal.returns
returns c =
    let e = c.is_done.ensures.0 c.cases-test.false in
    (c.cases.invariant.cases, rw e at c.cases.invariant.held, c.cases.invariant.counted)
