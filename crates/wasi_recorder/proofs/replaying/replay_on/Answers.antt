use Rattle.std.proofs.Common.{rules, Some, ap, sym, subst}
use Rattle.wasi_replay.specs.Replayed.{StandsTo}
use Rattle.wasi_recorder.proofs.Outcomes.{done_by, stopped_by}
use Rattle.wasi_recorder.proofs.ReplayCauses.{cause_by, complete_by}
use Rattle.wasi_recorder.proofs.replaying.replay_on.Goals as goal

pub returns-clause-done : goal.returns-clause-done
returns-clause-done g c =
    let ran = c.run_script-outcome in
    let log = c.entries.result.now in
    done_by c.args.contexts.now.items c.args.limit (g.S.Source.reading c.args.reader.now) (g.S.Source.reading ran.new.reader) g.R.Recorded.recorded log c.differs.result (g.K.Sink.writing c.args.writer.now) (g.K.Sink.writing c.finish.new.writer) _ _ _ _ c.bytes.result.now ran.result
    _ _ c.first_difference-differs.result (search rules) (search rules) c.first_difference-differs.ensures
    (subst (λ l. StandsTo g.R.Recorded.recorded l c.differs.result) (sym c.entries.ensures) c.differs.ensures)
    (ap (λ s. s.log) c.new-world.ensures) (ap (λ l. Some l) (sym c.entries.ensures))
    (ap (λ s. s.written) c.new-replies.ensures) c.bytes.ensures
    ran.ensures.all_read ran.ensures.ahead ran.ensures.read_fault c.finish.result c.finish.ensures

pub returns-clause-stopped : goal.returns-clause-stopped
returns-clause-stopped g c =
    let ran = c.run_script-outcome in
    let log = c.entries.result.now in
    stopped_by c.args.contexts.now.items c.args.limit (g.S.Source.reading c.args.reader.now) (g.S.Source.reading ran.new.reader) g.R.Recorded.recorded log c.differs.result (g.K.Sink.writing c.args.writer.now) (g.K.Sink.writing c.finish.new.writer) _ _ _ _ c.bytes.result.now ran.result
    _ _ c.first_difference-differs.result (search rules) (search rules) c.first_difference-differs.ensures
    (subst (λ l. StandsTo g.R.Recorded.recorded l c.differs.result) (sym c.entries.ensures) c.differs.ensures)
    (ap (λ s. s.log) c.new-world.ensures) (ap (λ l. Some l) (sym c.entries.ensures))
    (ap (λ s. s.written) c.new-replies.ensures) c.bytes.ensures
    ran.ensures.all_read ran.ensures.ahead ran.ensures.read_fault c.finish.result c.finish.ensures

pub returns-clause-cause : goal.returns-clause-cause
returns-clause-cause g c =
    let ran = c.run_script-outcome in
    cause_by c.args.contexts.now.items c.args.limit (g.S.Source.reading c.args.reader.now) (g.S.Source.reading ran.new.reader) (g.K.Sink.writing c.args.writer.now) (g.K.Sink.writing c.finish.new.writer) _ _ _ _ c.bytes.result.now ran.result c.first_difference-differs.result
    (ap (λ s. s.faults) c.new-replies.ensures) (ap (λ s. s.refused) c.new-replies.ensures)
    ran.ensures.ran ran.ensures.complete ran.ensures.bad_step ran.ensures.too_long ran.ensures.read_fault c.finish.result c.finish.ensures

pub returns-clause-complete : goal.returns-clause-complete
returns-clause-complete g c =
    let ran = c.run_script-outcome in
    complete_by c.args.contexts.now.items c.args.limit (g.S.Source.reading c.args.reader.now) (g.S.Source.reading ran.new.reader) (g.K.Sink.writing c.args.writer.now) (g.K.Sink.writing c.finish.new.writer) _ _ _ _ c.bytes.result.now ran.result c.first_difference-differs.result
    (ap (λ s. s.faults) c.new-replies.ensures) (ap (λ s. s.refused) c.new-replies.ensures)
    ran.ensures.ran ran.ensures.complete ran.ensures.bad_step ran.ensures.too_long ran.ensures.read_fault c.finish.result c.finish.ensures
