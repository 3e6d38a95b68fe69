use Rattle.wasi_replay.specs.Calls.{rows_of_calls, number_calls, sock_calls}
use Rattle.wasi_replay.proofs.PastWords.{past_words}
use Rattle.wasi_replay.proofs.call.with_number.Goals as goal

pub returns-in_default : goal.returns-in_default
returns-in_default c =
    rw (past_words (rows_of_calls number_calls) (rows_of_calls sock_calls) c.args.word.now c.args.fields.now (assumption c)) c.on_socket.ensures
