use Rattle.wasi_steps.proofs.ReplyBack.{step_replies_differ, polled_replies_differ}
use Rattle.wasi_steps.proofs.reply.replies_are_told_apart.Goals as goal

pub returns : goal.returns
returns c = record { of_a_step = step_replies_differ; of_a_polled_call = polled_replies_differ }
