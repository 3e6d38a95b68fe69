use Rattle.std.proofs.Common.{drop, refl, sym, ◌∙◌, ◌-◌}
use Rattle.wasi_world.proofs.Walks.{asks_end, asks_then}
use Rattle.host_streams.specs.Blocking.{write_rounds}
use Rattle.host_store.specs.Views.{state_of}
use Rattle.host_streams.proofs.Blocks.{call_passed, never, rounds_some, checked_some, written_some, written_fails}
use Rattle.host_streams.proofs.StreamCalls.{call_exit}
use Rattle.host_streams.proofs.blocking.+write_rounds.Goals as goal

pub returns-in_err-permit-clause-asked : goal.returns-in_err-permit-clause-asked
returns-in_err-permit-clause-asked g t c =
    rw (rounds_some c.args.ids.now c.args.to.handle (state_of c.args.view.now) c.args.rest c.args.rounds
    c.if-rounds-eq0.false) (call_passed _ _ c.from_residual.result c.from_residual.ensures.1
    c.in_err-permit.ensures.asked (λ stop. refl))

pub returns-then-permit-eq0-clause-asked : goal.returns-then-permit-eq0-clause-asked
returns-then-permit-eq0-clause-asked g t c =
    rw (
      rounds_some c.args.ids.now c.args.to.handle (state_of c.args.view.now) c.args.rest c.args.rounds
          c.if-rounds-eq0.false,
      c.block_as-then-permit-eq0.ensures.answer,
      c.block_as-then-permit-eq0.ensures.state,
      c.in_ok-permit.ensures.kept.ids,
    ) (asks_end _ c.in_ok-permit.ensures.asked.ok (rw c.if-permit-eq0.true refl))

pub returns-in_err-now-clause-asked : goal.returns-in_err-now-clause-asked
returns-in_err-now-clause-asked g t c =
    rw (rounds_some c.args.ids.now c.args.to.handle (state_of c.args.view.now) c.args.rest c.args.rounds
    c.if-rounds-eq0.false) (call_exit _ c.from_residual-in_err-now.result c.from_residual-in_err-now.ensures.1
    (record { rest = _; reached = c.in_ok-permit.ensures.asked.ok }))

pub returns-in_err-write-clause-asked : goal.returns-in_err-write-clause-asked
returns-in_err-write-clause-asked g t c =
    rw (rounds_some c.args.ids.now c.args.to.handle (state_of c.args.view.now) c.args.rest c.args.rounds
    c.if-rounds-eq0.false) (asks_then _ c.in_ok-permit.ensures.asked.ok (rw
    (checked_some c.args.ids.now c.args.to.handle (write_rounds (c.args.rounds - 1) c.args.ids.now c.args.to.handle)
    c.args.rest c.in_ok-permit.permit (state_of c.check_write.new.view) c.if-permit-eq0.false)
    (call_passed _ _ c.from_residual-in_err-write.result c.from_residual-in_err-write.ensures.1 (rw
    (c.in_ok-now.ensures.0, c.in_ok-permit.ensures.kept.ids) at c.in_err-write.ensures.asked)
    (λ stop. written_fails c.args.ids.now c.args.to.handle (write_rounds
    (c.args.rounds - 1) c.args.ids.now c.args.to.handle) (drop c.in_ok-permit.permit c.args.rest)
    (state_of c.write.new.view) stop))))

pub returns-then-is_empty-clause-asked : goal.returns-then-is_empty-clause-asked
returns-then-is_empty-clause-asked g t c =
    rw (rounds_some c.args.ids.now c.args.to.handle (state_of c.args.view.now) c.args.rest c.args.rounds
    c.if-rounds-eq0.false) (asks_then _ c.in_ok-permit.ensures.asked.ok (rw
    (checked_some c.args.ids.now c.args.to.handle (write_rounds (c.args.rounds - 1) c.args.ids.now c.args.to.handle)
    c.args.rest c.in_ok-permit.permit (state_of c.check_write.new.view) c.if-permit-eq0.false) (asks_then _ (rw
    (c.in_ok-now.ensures.0, c.in_ok-permit.ensures.kept.ids) at c.in_ok-write.ensures.asked).ok (rw
    (sym c.in_ok-now.ensures.1 ∙ c.is_empty.ensures.0 c.if-is_empty.true) (rw
    (c.in_ok-write.ensures.kept.ids, c.in_ok-permit.ensures.kept.ids) at c.finish_write.ensures.asked)))))

pub returns-clause-asked : goal.returns-clause-asked
returns-clause-asked g t c =
    rw (rounds_some c.args.ids.now c.args.to.handle (state_of c.args.view.now) c.args.rest c.args.rounds
    c.if-rounds-eq0.false) (asks_then _ c.in_ok-permit.ensures.asked.ok (rw
    (checked_some c.args.ids.now c.args.to.handle (write_rounds (c.args.rounds - 1) c.args.ids.now c.args.to.handle)
    c.args.rest c.in_ok-permit.permit (state_of c.check_write.new.view) c.if-permit-eq0.false) (asks_then _ (rw
    (c.in_ok-now.ensures.0, c.in_ok-permit.ensures.kept.ids) at c.in_ok-write.ensures.asked).ok (rw
    (written_some c.args.ids.now c.args.to.handle (write_rounds (c.args.rounds - 1) c.args.ids.now c.args.to.handle) _
    (state_of c.write.new.view) (λ e. never _ (c.is_empty.ensures.1 (c.in_ok-now.ensures.1 ∙ e)) c.if-is_empty.false))
    (rw (c.in_ok-now.ensures.1, c.in_ok-write.ensures.kept.ids, c.in_ok-permit.ensures.kept.ids) at
    c.write_rounds.ensures.asked)))))
