use Rattle.std.proofs.Common.{◌++◌}
use Rattle.wasi_replay.specs.Calls.{rows_of_calls, address_calls, number_calls, sock_calls}
use Rattle.wasi_replay.proofs.PastWords.{past_words}
use Rattle.wasi_replay.proofs.call.with_address.Goals as goal

pub returns-in_default : goal.returns-in_default
returns-in_default c =
    rw (past_words (rows_of_calls address_calls) (rows_of_calls (number_calls ++ sock_calls)) c.args.word.now c.args.fields.now (assumption c)) c.with_number.ensures
