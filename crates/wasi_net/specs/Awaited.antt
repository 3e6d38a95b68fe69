-- How a line waits: once, for all that it will look at.
use Rattle.std.specs.Prelude.{◌≡◌, ◌⊎◌, ℕ, ℤ, negsuc, nat_lt, Bool, true, false, List, [], ◌∷◌, Option, Some, None, option_map, Result, Ok, Err}
use Rattle.std.specs.Option.{option_and_then}
use Rattle.libc.specs.declared.types.pollfd.{pollfd}
use Rattle.wasi_looks.specs.declared.look.Look.{Look}
use Rattle.wasi_looks.specs.declared.look.Readiness.{Readiness}
use Rattle.wasi_looks.specs.declared.look.Readiness.TheVariants.{Read, Write}
use Rattle.wasi_net.specs.declared.errno.Errno.{Errno}
use Rattle.wasi_net.specs.declared.patient.Patience.{Patience}
use Rattle.wasi_net.specs.declared.patient.Patience.TheVariants.{AtMost, Endless}
use Rattle.wasi_net.specs.declared.socket.Room.{Room}
use Rattle.wasi_net.specs.declared.socket.Room.TheVariants.{Unknown, Found}
use Rattle.wasi_net.specs.Acts.{Acts, after}
use Rattle.wasi_net.specs.Acts as act
use Rattle.wasi_net.specs.Known.{Known, Sides}
use Rattle.wasi_net.specs.Ready.{pollfd_of}

-- one that is known to have room needn't be asked
abbrev pub asked_in : ℤ → Readiness → Room → Option pollfd
asked_in fd Read room = Some (pollfd_of fd Read)
asked_in fd Write Unknown = Some (pollfd_of fd Write)
asked_in fd Write Found = None

-- what the system is asked for one look; a call on a socket that isn't open is answered at once
abbrev pub asked_of : Option Known → Readiness → Option pollfd
asked_of None readiness = None
asked_of (Some k) readiness = asked_in k.fd readiness k.room

-- and for all of them; none where one needn't wait
abbrev pub asked_by : Sides → List Look → Option (List pollfd)
asked_by sides [] = Some []
asked_by sides (look ∷ looks) =
    option_and_then (λ fd. option_map (λ fds. fd ∷ fds) (asked_by sides looks)) (asked_of (sides look.sock) look.readiness)

-- whether the system found one that may go on
abbrev pub found_some : Result ℕ Errno → Bool
found_some (Ok count) = nat_lt 0 count
found_some (Err error) = false

-- The system was asked once, for exactly these.
pub record Waited (fds : List pollfd) (timeout : ℤ) (ready : Bool) (old new : Acts) : Type 0 where
  pub answer : Result ℕ Errno
  pub asked : new ≡ after (act.Poll fds timeout answer) old
  pub told : ready ≡ found_some answer

-- where one needn't wait nothing is asked
abbrev pub WaitsFor : Option (List pollfd) → ℤ → Bool → Acts → Acts → Type 0
WaitsFor None timeout ready old new = (ready ≡ true) × (new ≡ old)
WaitsFor (Some fds) timeout ready old new = Waited fds timeout ready old new

-- how long a host waits before a line, in milliseconds; negative is without limit
abbrev pub time_of : Patience → ℤ
time_of (AtMost time) = time
time_of Endless = negsuc 0

-- The system was asked once to wait so long, for exactly these looks.
pub record WaitedFor (sides : Sides) (looks : List Look) (time : ℤ) (old new : Acts) : Type 0 where
  pub fds : List pollfd
  pub exact : asked_by sides looks ≡ Some fds
  pub answer : Result ℕ Errno
  pub asked : new ≡ after (act.Poll fds time answer) old

-- or it wasn't asked
abbrev pub MayWait : Sides → List Look → Patience → Acts → Acts → Type 0
MayWait sides looks patience old new = (new ≡ old) ⊎ WaitedFor sides looks (time_of patience) old new
