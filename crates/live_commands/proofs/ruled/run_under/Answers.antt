use Rattle.std.proofs.Common.{◌≡◌, ◌∙◌, ◌⊎◌, inr, ap, subst, ℕ, List, [], ◌∷◌, length, false}
use Rattle.wasi_world.specs.declared.outcome.WasiSocketsCtx.{WasiSocketsCtx}
use Rattle.wasi_world.specs.Seen.{Seen}
use Rattle.wasi_world.specs.Contexts.{free_context}
use Rattle.wasi_net.specs.Net.{counts_of, patient_seen}
use Rattle.wasi_policy.specs.Policed.{seen_under}
use Rattle.wasi_run.specs.Script.{RanScript, Completes}
use Rattle.live_commands.proofs.ruled.run_under.Goals as goal

pub returns : goal.returns
returns g c =
    let before = c.new-world.result in
    let after = c.run_script_with.new.world in
    let begins : seen_under before.denied.items (patient_seen before.inner) ≡ counts_of false 0 0 = c.new-world.ensures ∙ ap (seen_under []) c.world-network.ensures in
    let R : List WasiSocketsCtx → Seen → Type 0 = λ contexts old. RanScript contexts c.args.setup.limit (g.S.Source.reading c.args.source.now) (g.S.Source.reading c.run_script_with.new.reader) (g.K.Sink.writing c.args.sink.now) (g.K.Sink.writing c.run_script_with.new.writer) old (seen_under after.denied.items (patient_seen after.inner)) c.run_script_with.result in
    let C : ℕ → Type 0 = λ contexts. Completes contexts c.args.setup.limit (g.S.Source.reading c.args.source.now) (g.S.Source.reading c.run_script_with.new.reader) (g.K.Sink.writing c.args.sink.now) (g.K.Sink.writing c.run_script_with.new.writer) c.run_script_with.result in
    inr (record {
      seen = seen_under after.denied.items (patient_seen after.inner);
      ran = subst (R (free_context ∷ [])) begins (subst (λ contexts. R contexts (seen_under before.denied.items (patient_seen before.inner))) c.in_ok-contexts.ensures c.run_script_with.ensures.ran);
      complete = subst C (ap length c.in_ok-contexts.ensures) c.run_script_with.ensures.complete;
      ended = c.run_script_with.ensures.ended;
    })
