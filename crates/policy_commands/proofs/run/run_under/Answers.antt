use Rattle.std.proofs.Common.{◌≡◌, ◌∙◌, ap, sym, subst, Some, option_map}
use Rattle.world_scripted.specs.Scripted.{seen_by}
use Rattle.wasi_world.specs.Seen.{Seen}
use Rattle.wasi_records.specs.Closing.{IsFresh}
use Rattle.wasi_run.specs.Headline.{RunsLicensed}
use Rattle.wasi_policy.specs.Policed.{merged, seen_under}
use Rattle.policy_commands.specs.Run.{at_start}
use Rattle.policy_commands.proofs.Starts.{start_is, fresh_start}
use Rattle.policy_commands.proofs.run.run_under.Goals as goal

pub returns : goal.returns
returns g c = λ plan is.
    let after = c.run_script-outcome.new.world in
    let items = c.into_entries.result.items in
    let told : (seen_by c.run_script-outcome.new.world.inner).log ≡ Some c.into_entries.result.items = ap (λ w. (seen_by w).log) (sym c.into_parts-denied.ensures.inner) ∙ c.into_entries.ensures.log in
    let logged : option_map (merged c.run_script-outcome.new.world.denied.items) (seen_by c.run_script-outcome.new.world.inner).log ≡ Some (merged c.run_script-outcome.new.world.denied.items c.into_entries.result.items) = ap (option_map (merged c.run_script-outcome.new.world.denied.items)) told in
    let begins : seen_under c.new-world.result.denied.items (seen_by c.new-world.result.inner) ≡ at_start = c.new-world.ensures ∙ start_is (seen_by c.args.world) c.requires.log c.requires.open c.requires.closings c.requires.faults in
    record {
      log = merged after.denied.items items;
      policed = c.into_parts-denied.ensures.policed items (merged after.denied.items items) told logged;
      seen = seen_under after.denied.items (seen_by after.inner);
      logged = logged;
      ended = c.run_script-outcome.ensures.ended;
      licensed = subst (λ (old : Seen). RunsLicensed c.args.contexts.now.items c.args.limit (g.S.Source.reading c.args.source.now) (g.S.Source.reading c.run_script-outcome.new.reader) (g.K.Sink.writing c.args.sink.now) (g.K.Sink.writing c.run_script-outcome.new.writer) old (seen_under after.denied.items (seen_by after.inner)) c.run_script-outcome.result) begins c.run_script-outcome.ensures.licensed;
      closed = c.run_script-outcome.ensures.closed (subst IsFresh (sym begins) fresh_start);
      scripted = c.into_entries.ensures.scripted plan (c.into_parts-denied.ensures.plan ∙ is);
    }
