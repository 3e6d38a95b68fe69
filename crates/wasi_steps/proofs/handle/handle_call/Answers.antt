use Rattle.std.proofs.Common.{◌++◌}
use Rattle.wasi_steps.specs.Steps.{rows_of, tcp_handle_calls, udp_handle_calls, p3_handle_calls, output_handle_calls, other_handle_calls}
use Rattle.wasi_steps.proofs.StepWords.{past_words}
use Rattle.wasi_steps.proofs.SettingLaws.{◌and◌}
use Rattle.wasi_steps.proofs.handle.handle_call.Goals as goal

pub returns-else-is-9 : goal.returns-else-is-9
returns-else-is-9 c = λ old rest h.
    rw (past_words (rows_of tcp_handle_calls) (rows_of (udp_handle_calls ++ p3_handle_calls ++ output_handle_calls ++ other_handle_calls)) c.args.word.now old (c.if-is.ensures and c.if-is-2.ensures and c.if-is-3.ensures and c.if-is-4.ensures and c.if-is-5.ensures and c.if-is-6.ensures and c.if-is-7.ensures and c.if-is-8.ensures and c.if-is-9.ensures and tt)) (c.udp_handle_call.ensures old rest h)
