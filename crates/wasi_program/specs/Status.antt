-- The number of each status, and how a run's end is reported.
use Rattle.std.specs.Prelude.{ℕ, Result, Ok, Err}
use Rattle.wasi_run.specs.declared.run.RunEnd.{RunEnd}
use Rattle.wasi_run.specs.declared.error.RunError.{RunError}
use Rattle.wasi_run.specs.declared.error.RunError.TheVariants as error
use Rattle.wasi_program.specs.declared.status.Status.{Status}
use Rattle.wasi_program.specs.declared.status.Status.TheVariants as status

-- the number that a program ends with
abbrev pub number_of : Status → ℕ
number_of status.Ok = 0
number_of status.BadWords = 1
number_of status.BadScenario = 2
number_of status.BadStep = 3
number_of status.TooLong = 4
number_of status.ReadFault = 5
number_of status.WriteFault = 6
number_of status.Memory = 7
number_of status.ScenarioFault = 8
number_of status.NoBudget = 9
number_of status.NoWorker = 10
number_of status.SourceFault = 11
number_of status.SinkFault = 12

-- how a run's end is reported
abbrev pub status_of : Result RunEnd RunError → Status
status_of (Ok end) = status.Ok
status_of (Err error.Memory) = status.Memory
status_of (Err (error.BadStep n)) = status.BadStep
status_of (Err error.TooLong) = status.TooLong
status_of (Err error.ReadFault) = status.ReadFault
status_of (Err error.WriteFault) = status.WriteFault

-- the number of the script's bad line, else 0
abbrev pub bad_line_of : Result RunEnd RunError → ℕ
bad_line_of (Err (error.BadStep n)) = n
bad_line_of _ = 0
