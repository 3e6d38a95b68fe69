use Rattle.std.proofs.Common.{◌++◌}
use Rattle.wasi_replay.specs.Calls.{rows_of_calls, memory_calls, other_calls, address_calls, number_calls, sock_calls, call_at}
use Rattle.wasi_replay.proofs.PastWords.{past_word}
use Rattle.wasi_replay.proofs.call.call.Goals as goal

pub returns-in_default-word : goal.returns-in_default-word
unfolding call_at
returns-in_default-word c =
    past_word (rows_of_calls memory_calls) (rows_of_calls (other_calls ++ address_calls ++ number_calls ++ sock_calls)) c.args.fields.now c.word.new.self c.plain_call.new.fields c.in-Some.word.now c.plain_call.result c.in-Some.ensures.read (assumption c) c.plain_call.ensures
