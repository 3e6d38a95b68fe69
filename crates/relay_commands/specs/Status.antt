-- The number of each status, and how a relay's end is reported.
use Rattle.std.specs.Prelude.{ℕ, Result, Ok, Err}
use Rattle.wasi_session.specs.declared.error.StepError.{StepError}
use Rattle.wasi_session.specs.declared.error.StepError.TheVariants as error
use Rattle.wasi_program.specs.declared.status.Status.TheVariants as status
use Rattle.wasi_program.specs.Status as program
use Rattle.wasi_relay.specs.declared.service.RelayEnd.{RelayEnd}
use Rattle.wasi_relay.specs.declared.service.RelayEnd.TheVariants as relay
use Rattle.relay_commands.specs.declared.status.RelayStatus.{RelayStatus}
use Rattle.relay_commands.specs.declared.status.RelayStatus.TheVariants.{Of, SetupRefused, Budget, Unserved}
use Rattle.relay_commands.specs.declared.status.Unwritten.{Unwritten}
use Rattle.relay_commands.specs.declared.status.Unwritten.TheVariants as unwritten

abbrev pub number_of : RelayStatus → ℕ
number_of (Of s) = program.number_of s
number_of SetupRefused = 18
number_of Budget = 19
number_of Unserved = 26

-- how a relay's end is reported
abbrev pub status_of : Result RelayEnd StepError → RelayStatus
status_of (Ok relay.Served) = Of status.Ok
status_of (Ok relay.Unserved) = Unserved
status_of (Ok (relay.SetupRefused code)) = SetupRefused
status_of (Ok relay.Budget) = Budget
status_of (Err error.Memory) = Of status.Memory
status_of (Err _) = Budget

-- how a relay is reported whose lines were written so: only where they were written whole as the relay ended
abbrev pub status_after : Result RelayEnd StepError → Result (Unit {0}) Unwritten → RelayStatus
status_after end (Ok done) = status_of end
status_after end (Err unwritten.Fault) = Of status.WriteFault
status_after end (Err unwritten.Memory) = Of status.Memory
