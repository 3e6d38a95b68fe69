-- What a program in another language is told of a step.
use Rattle.std.specs.Prelude.{ℕ, Result, Ok, Err}
use Rattle.embed_flat.specs.declared.args.Refusal.{Refusal}
use Rattle.embed_flat.specs.declared.args.Refusal.TheVariants as refusal
use Rattle.wasi_steps.specs.declared.reply.Reply.{Reply}
use Rattle.wasi_steps.specs.declared.reply.Reply.TheVariants as reply
use Rattle.wasi_session.specs.declared.error.StepError.{StepError}
use Rattle.wasi_session.specs.declared.error.StepError.TheVariants as error
use Rattle.wasi_embed.specs.declared.status.Status.{Status}
use Rattle.wasi_embed.specs.declared.status.Status.TheVariants as status

-- the status of a step that has no reply
abbrev pub status_of : StepError → Status
status_of error.Over = status.Over
status_of error.TooMany = status.TooMany
status_of (error.NoContext n) = status.Context
status_of error.Memory = status.Memory

-- the status of a call that isn't made, since its arguments are wrong
abbrev pub refused_as : Refusal → Status
refused_as refusal.Argument = status.Argument
refused_as refusal.Bounds = status.Bounds
refused_as refusal.Room = status.Room
refused_as refusal.Memory = status.Memory

-- a step's result, with a status where it has no reply
abbrev pub told_of : Result Reply StepError → Result Reply Status
told_of (Ok r) = Ok r
told_of (Err e) = Err (status_of e)

-- the status of a reply, where `done` is that of a call that is done
abbrev pub status_in : Status → Reply → Status
status_in done (reply.Trap kind) = status.Trap
status_in done (reply.Pending line) = status.Pending
status_in done reply.Busy = status.Busy
status_in done reply.NoSuchCall = status.NoCall
status_in done _ = done

-- the status of what was told
abbrev pub status_told : Status → Result Reply Status → Status
status_told done (Ok r) = status_in done r
status_told done (Err s) = s

-- the number under which a call is pending
abbrev pub call_in : Reply → ℕ
call_in (reply.Pending line) = line
call_in _ = 0

abbrev pub call_told : Result Reply Status → ℕ
call_told (Ok r) = call_in r
call_told (Err s) = 0

-- the number of a status, as the header has it
abbrev pub number_of : Status → ℕ
number_of status.Ok = 0
number_of status.Pending = 1
number_of status.Trap = 2
number_of status.Busy = 3
number_of status.NoCall = 4
number_of status.Over = 5
number_of status.TooMany = 6
number_of status.Context = 7
number_of status.Memory = 8
number_of status.Closed = 9
number_of status.Text = 10
number_of status.Line = 11
number_of status.Room = 12
number_of status.Bounds = 13
number_of status.Argument = 14
number_of status.Rules = 15
number_of status.Misfit = 16
number_of status.NoAsk = 17
