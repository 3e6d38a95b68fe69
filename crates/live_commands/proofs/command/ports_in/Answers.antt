use Rattle.std.specs.Prelude.{string_bytes}
use Rattle.std.proofs.Common.{rules, ◌≡◌, Some, None, ap, sym, ◌∙◌}
use Rattle.world_text.specs.Fields.{number_in}
use Rattle.live_commands.specs.Commands.{ports_in}
use Rattle.live_commands.proofs.Ports.{ports_push, ports_stop, words_more, words_round}
use Rattle.live_commands.proofs.command.ports_in.Goals as goal

pub returns-in_default : goal.returns-in_default
returns-in_default c =
    let e : number_in (string_bytes c.word-item.result) 65535 ≡ None = search rules in
    sym (ap ports_in (words_round (λ w. string_bytes w) c.args.words.now c.loop-word.word-index c.word-item.result c.loop-word-test.true c.word-item.is)
    ∙ ports_stop _ _ _ _ c.loop-word.invariant e)

pub loop-word-preserved : goal.loop-word-preserved
loop-word-preserved c =
    let e : number_in (string_bytes c.word-item.result) 65535 ≡ Some c.in-Some.port = search rules in
    ap ports_in (words_more (λ w. string_bytes w) c.args.words.now c.loop-word.word-index c.word-item.result c.loop-word-test.true c.word-item.is)
    ∙ ports_push _ _ _ _ c.loop-word.invariant e ∙ ap (λ ports. Some ports) (sym c.in_ok-push.ensures.items)
