-- What a socket is in the middle of.
use Rattle.std.specs.Prelude.{Bool, true, false}
use Rattle.tcp_records.specs.declared.tcp_binding.AsyncOperation.{AsyncOperation}
use Rattle.tcp_records.specs.declared.tcp_binding.AsyncOperation.TheVariants.{Bind, Connect, Listen}
use Rattle.tcp_records.specs.declared.tcp_binding.InProgress.{InProgress}
use Rattle.tcp_records.specs.declared.tcp_binding.InProgress.TheVariants.{Nothing, Started}

-- with an operation in progress a start is refused
abbrev pub is_nothing : InProgress → Bool
is_nothing Nothing = true
is_nothing _ = false

-- only what was started is finished
abbrev pub is_bind : InProgress → Bool
is_bind (Started Bind) = true
is_bind _ = false

abbrev pub is_connect : InProgress → Bool
is_connect (Started Connect) = true
is_connect _ = false

abbrev pub is_listen : InProgress → Bool
is_listen (Started Listen) = true
is_listen _ = false

abbrev pub is_started : AsyncOperation → InProgress → Bool
is_started Bind = is_bind
is_started Connect = is_connect
is_started Listen = is_listen
