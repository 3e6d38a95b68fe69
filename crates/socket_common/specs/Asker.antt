-- Who asks, in an operation.
use Rattle.std.specs.Prelude.{None}
use Rattle.wasi_world.specs.Operation.{LastAsk, Who}
use Rattle.socket_common.specs.declared.asker.Asker.{Asker}

-- with no remote address; `last` is asked where the operation ends with a code
abbrev pub who_of : Asker → LastAsk → Who
who_of asker last = record { id = asker.op; side = asker.side; context = asker.maker; last = last; remote = None }
