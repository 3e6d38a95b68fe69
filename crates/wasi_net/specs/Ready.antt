-- A look at one socket.
use Rattle.std.specs.Prelude.{ℕ, ℤ, pos, [], ◌∷◌, Result}
use Rattle.libc.specs.declared.types.pollfd.{pollfd}
use Rattle.wasi_looks.specs.declared.look.Readiness.{Readiness}
use Rattle.wasi_looks.specs.declared.look.Readiness.TheVariants.{Read, Write}
use Rattle.wasi_net.specs.declared.errno.Errno.{Errno}
use Rattle.wasi_net.specs.Acts.{Act}
use Rattle.wasi_net.specs.Acts as act

-- POLLIN, POLLOUT
abbrev pub events_of : Readiness → ℤ
events_of Read = pos 1
events_of Write = pos 4

-- a descriptor, with the event that is asked for
abbrev pub pollfd_of : ℤ → Readiness → pollfd
pollfd_of fd readiness = record { fd = fd; events = events_of readiness; revents = pos 0 }

-- one descriptor is looked at, and nothing is waited for
abbrev pub look : ℤ → Readiness → Result ℕ Errno → Act
look fd readiness r = act.Poll ((record { fd = fd; events = events_of readiness; revents = pos 0 }) ∷ []) (pos 0) r
