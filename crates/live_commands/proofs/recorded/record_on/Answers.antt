use Rattle.std.proofs.Common.{◌≡◌, ◌∙◌, ap, subst, sym, refl, List, [], ◌∷◌, false}
use Rattle.wasi_world.specs.declared.outcome.WasiSocketsCtx.{WasiSocketsCtx}
use Rattle.wasi_world.specs.Contexts.{free_context}
use Rattle.wasi_world.specs.Seen.{Seen}
use Rattle.wasi_records.specs.Closing.{IsFresh}
use Rattle.wasi_run.specs.Headline.{RunsLicensed}
use Rattle.world_io.specs.Io.{Writing}
use Rattle.wasi_replay.specs.Log.{log_text}
use Rattle.wasi_replay.specs.Replayed.{seen_of}
use Rattle.recorder_commands.specs.Writing.{WritesAsItComes}
use Rattle.live_commands.proofs.recorded.record_on.Goals as goal

pub returns : goal.returns
returns g c =
    let before = c.new-world.result.noted in
    let after = c.run_script_with-outcome.new.world.noted in
    let of_inner = g.W.World.seen after.inner in
    let seen = seen_of after.log.items of_inner.ended of_inner.closings after.faults in
    let begins = seen_of before.log.items (g.W.World.seen before.inner).ended (g.W.World.seen before.inner).closings before.faults in
    let fresh : begins ≡ seen_of [] false 0 0 = c.new-world.ensures ∙ ap (λ s. seen_of [] s.ended s.closings 0) c.requires.silent in
    let R : List WasiSocketsCtx → Seen → Type 0 = λ contexts old. RunsLicensed contexts c.args.limit (g.S.Source.reading c.args.source.now) (g.S.Source.reading c.run_script_with-outcome.new.reader) (g.K.Sink.writing c.args.sink.now) (g.K.Sink.writing c.run_script_with-outcome.new.writer) old seen c.run_script_with-outcome.result in
    let W : List WasiSocketsCtx → Writing → Type 0 = λ contexts begun. WritesAsItComes (log_text contexts after.log.items) begun (g.M.Sink.writing c.finish-written.result.1) c.finish-written.result.0 in
    record {
      log = after.log.items;
      result = c.run_script_with-outcome.result;
      ran = record {
        seen = seen;
        logged = refl;
        ended = c.run_script_with-outcome.ensures.ended;
        licensed = subst (R (free_context ∷ [])) fresh (subst (λ contexts. R contexts begins) c.requires.free c.run_script_with-outcome.ensures.licensed);
        closed = c.run_script_with-outcome.ensures.closed (subst IsFresh (sym fresh) (record { log = refl; closings = refl }));
      };
      written = c.finish-written.result.0;
      wrote = subst (W (free_context ∷ [])) c.requires.begun (subst (λ contexts. W contexts g.B.Begun.begun) c.requires.contexts c.finish-written.ensures.wrote);
      no_memory = c.finish-written.ensures.no_memory;
      end_is = c.status_after.ensures;
      place_is = c.place_after.ensures;
    }
