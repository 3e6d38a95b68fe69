use Rattle.wasi_tcp.proofs.Listeners.{holds_new}
use Rattle.wasi_tcp.proofs.listener.Accepting.begin.Goals as goal

pub returns-in-Idle-clause-after : goal.returns-in-Idle-clause-after
returns-in-Idle-clause-after c = rw c.new.ensures (holds_new _ _ _)
