use Rattle.std.proofs.Common.{rules, Some, ap, sym, subst}
use Rattle.wasi_replay.specs.Replayed.{StandsTo}
use Rattle.wasi_recorder.proofs.Fronts.{done_front, stopped_front}
use Rattle.wasi_recorder.proofs.ReplayCauses.{front_cause, front_complete}
use Rattle.wasi_recorder.proofs.front.replay_front_on.Goals as goal

pub returns-clause-done : goal.returns-clause-done
returns-clause-done g c =
    let ran = c.run_script-outcome in
    let log = c.entries-made.result.now in
    done_front c.args.contexts.now.items c.args.limit (g.S.Source.reading c.args.reader.now) (g.S.Source.reading ran.new.reader) g.R.Recorded.recorded log c.differs-first.result (g.K.Sink.writing c.args.writer.now) (g.K.Sink.writing c.finish_front.new.writer) _ _ _ _ c.bytes.result.now ran.result
    _ _ _ c.first_difference-place.result (search rules) (search rules) c.first_difference-place.ensures c.is_at_end-at_end.ensures
    (subst (λ l. StandsTo g.R.Recorded.recorded l c.differs-first.result) (sym c.entries-made.ensures) c.differs-first.ensures)
    (ap (λ s. s.log) c.new-inner.ensures) (ap (λ l. Some l) (sym c.entries-made.ensures))
    (ap (λ s. s.written) c.new-replies.ensures) c.bytes.ensures
    ran.ensures.all_read ran.ensures.ahead ran.ensures.read_fault ran.ensures.memory c.finish_front.result c.finish_front.ensures

pub returns-clause-stopped : goal.returns-clause-stopped
returns-clause-stopped g c =
    let ran = c.run_script-outcome in
    let log = c.entries-made.result.now in
    stopped_front c.args.contexts.now.items c.args.limit (g.S.Source.reading c.args.reader.now) (g.S.Source.reading ran.new.reader) g.R.Recorded.recorded log c.differs-first.result (g.K.Sink.writing c.args.writer.now) (g.K.Sink.writing c.finish_front.new.writer) _ _ _ _ c.bytes.result.now ran.result
    _ _ _ c.first_difference-place.result (search rules) (search rules) c.first_difference-place.ensures c.is_at_end-at_end.ensures
    (subst (λ l. StandsTo g.R.Recorded.recorded l c.differs-first.result) (sym c.entries-made.ensures) c.differs-first.ensures)
    (ap (λ s. s.log) c.new-inner.ensures) (ap (λ l. Some l) (sym c.entries-made.ensures))
    (ap (λ s. s.written) c.new-replies.ensures) c.bytes.ensures
    ran.ensures.all_read ran.ensures.ahead ran.ensures.read_fault ran.ensures.memory c.finish_front.result c.finish_front.ensures

pub returns-clause-cause : goal.returns-clause-cause
returns-clause-cause g c =
    let ran = c.run_script-outcome in
    front_cause c.args.contexts.now.items c.args.limit (g.S.Source.reading c.args.reader.now) (g.S.Source.reading ran.new.reader) (g.K.Sink.writing c.args.writer.now) (g.K.Sink.writing c.finish_front.new.writer) _ _ _ _ c.bytes.result.now ran.result c.first_difference-place.result
    (ap (λ s. s.faults) c.new-replies.ensures) (ap (λ s. s.refused) c.new-replies.ensures)
    ran.ensures.ran ran.ensures.complete ran.ensures.bad_step ran.ensures.too_long ran.ensures.read_fault c.is_at_end-at_end.result c.finish_front.result c.finish_front.ensures

pub returns-clause-complete : goal.returns-clause-complete
returns-clause-complete g c =
    let ran = c.run_script-outcome in
    front_complete c.args.contexts.now.items c.args.limit (g.S.Source.reading c.args.reader.now) (g.S.Source.reading ran.new.reader) (g.K.Sink.writing c.args.writer.now) (g.K.Sink.writing c.finish_front.new.writer) _ _ _ _ c.bytes.result.now ran.result c.first_difference-place.result
    (ap (λ s. s.faults) c.new-replies.ensures) (ap (λ s. s.refused) c.new-replies.ensures)
    ran.ensures.ran ran.ensures.complete ran.ensures.bad_step ran.ensures.too_long ran.ensures.read_fault c.is_at_end-at_end.result c.finish_front.result c.finish_front.ensures
