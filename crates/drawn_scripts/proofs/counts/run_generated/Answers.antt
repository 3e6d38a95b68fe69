use Rattle.std.proofs.Common.{rules, ◌≡◌, ◌∙◌, length, refl, ap}
use Rattle.wasi_world.specs.Seen.{Seen}
use Rattle.world_scripted.specs.Queued.{no_answers}
use Rattle.world_scripted.specs.Scripted.{seen_by, at_start}
use Rattle.drawn_scripts.proofs.OwnErrors.{own_errors}
use Rattle.drawn_scripts.proofs.CountedRuns.{finishes, plan_kept}
use Rattle.drawn_scripts.proofs.counts.run_generated.Goals as goal

pub no_memory-requires : goal.no_memory-requires
no_memory-requires c =
    let one : length c.in_ok-contexts.contexts.items ≡ 1 = ap length c.in_ok-contexts.ensures.items in
    let limit : c.in-Ok.limit ≡ length c.in_ok-script.script.items = search rules in
    own_errors _ _ c.in_ok-script.script.items _ _ _ _ _ _ c.in-Err.error one c.in_ok-script.ensures.valid limit c.new-source.ensures c.new-sink.ensures refl c.in-Err.ensures.ran c.in-Err.ensures.complete

pub returns : goal.returns
returns c =
    let ended = c.in-Ok-AllRead.ensures in
    let limit : c.in-Ok.limit ≡ length c.in_ok-script.script.items = search rules in
    let start : seen_by c.new-world.result ≡ at_start no_answers = search rules in
    let script = c.in_ok-script.ensures.drawn in record {
      after = _;
      sink = _;
      seen = _;
      log = c.into_entries-log.result.items;
      written = c.bytes.result.now;
      ran = rw script at (finishes _ _ c.in_ok-script.script.items _ _ _ _ _ _ c.in-Ok-AllRead.field-0 c.in_ok-contexts.ensures.items limit c.new-source.ensures c.new-sink.ensures start ended.all_read ended.ahead);
      logged = c.into_entries-log.ensures.log;
      planned = c.into_entries-log.ensures.scripted no_answers (plan_kept ended.whole ∙ ap (λ (s : Seen). s.plan) start);
      wrote = search rules;
      lines = search rules;
      replies = search rules;
      entries = search rules;
      bytes = search rules;
    }
