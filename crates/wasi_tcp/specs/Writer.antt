-- The writing end of a connection as a stream: what each call asks, what it answers and what is left.
use Rattle.std.specs.Prelude.{ℕ, nat_lt, Bool, true, false, if◌then◌else◌, List, [], ◌∷◌, length, Option, Some, None, Result, Ok, Err}
use Rattle.wasi_addr.specs.declared.address.ShutdownType.TheVariants.{Send}
use Rattle.wasi_addr.specs.declared.code.ErrorCode.{ErrorCode}
use Rattle.wasi_addr.specs.declared.code.ErrorCode.TheVariants.{ConnectionBroken}
use Rattle.wasi_world.specs.declared.ids.OpId.{OpId}
use Rattle.wasi_world.specs.declared.outcome.Answer.{Answer}
use Rattle.wasi_world.specs.declared.outcome.Answer.TheVariants.{Ready, Pending}
use Rattle.wasi_world.specs.declared.outcome.TrapKind.TheVariants.{NotPermitted}
use Rattle.wasi_world.specs.Asks.{Asks, Give, bind}
use Rattle.wasi_world.specs.Operation.{End, Waits, Done, Refused}
use Rattle.wasi_world.specs.Typed.{ask_write_ready, ask_shutdown}
use Rattle.wasi_streams.specs.declared.error.StreamError.{StreamError}
use Rattle.wasi_streams.specs.declared.error.StreamError.TheVariants as stream
use Rattle.wasi_streams.specs.StreamStop.{StreamStop, Failed, Closed, Trap}
use Rattle.wasi_tcp.specs.declared.halves.TcpSendStream.{TcpSendStream}
use Rattle.wasi_tcp.specs.declared.writer.WriteError.{WriteError}
use Rattle.wasi_tcp.specs.declared.writer.WriteError.TheVariants as error
use Rattle.wasi_tcp.specs.declared.writer.WriteState.{WriteState}
use Rattle.wasi_tcp.specs.declared.writer.WriteState.TheVariants as state
use Rattle.wasi_tcp.specs.Job.{Job, new_job, job_asks, finish_asks}

-- == the kept error
-- a write that the other end broke is reported as the end
abbrev pub error_of_code : ErrorCode → WriteError
error_of_code ConnectionBroken = error.Closed
error_of_code c = error.LastOperationFailed c

abbrev pub stream_error : WriteError → StreamError
stream_error error.Closed = stream.Closed
stream_error (error.LastOperationFailed c) = stream.LastOperationFailed c

abbrev pub stop_of : WriteError → StreamStop
stop_of error.Closed = Closed
stop_of (error.LastOperationFailed c) = Failed c

-- == the look
abbrev pub ready_half : OpId → ℕ → WriteState
ready_half side permit = state.Ready (record { side = side }) permit

-- a write that ended well leaves the half ready, with no permit
abbrev pub written_by : Job → End → WriteState
written_by job Waits = state.Writing job
written_by job (Done given) = ready_half job.write.who.side 0
written_by job (Refused c given) = state.Closed (error_of_code c)

abbrev pub closed_by : Job → End → WriteState
closed_by job Waits = state.Closing job
closed_by job (Done given) = state.Closed error.Closed
closed_by job (Refused c given) = state.Closed (error_of_code c)

abbrev pub is_ready : WriteState → Bool
is_ready (state.Ready half permit) = true
is_ready (state.Writing job) = false
is_ready (state.Closing job) = false
is_ready (state.Closed e) = false

-- a job that ended is collected
abbrev pub collected : WriteState → WriteState
collected (state.Ready half permit) = state.Ready half permit
collected (state.Writing job) = written_by job job.end
collected (state.Closing job) = closed_by job job.end
collected (state.Closed e) = state.Closed e

abbrev pub look_in : OpId → WriteState → Asks (Result (Answer (Unit {0})) StreamStop × WriteState)
look_in op (state.Ready half permit) = bind (ask_write_ready op half.side) (λ answer. Give (Ok answer, state.Ready half permit))
look_in op (state.Writing job) = Give (Ok Pending, state.Writing job)
look_in op (state.Closing job) = Give (Ok Pending, state.Closing job)
look_in op (state.Closed e) = Give (Err (stop_of e), state.Closed e)

-- whether something may be written: a job that ended is collected first
abbrev pub look_asks : OpId → WriteState → Asks (Result (Answer (Unit {0})) StreamStop × WriteState)
look_asks op s = look_in op (collected s)

-- == the permit
abbrev pub with_permit : ℕ → WriteState → WriteState
with_permit most (state.Ready half permit) = state.Ready half most
with_permit most (state.Writing job) = state.Writing job
with_permit most (state.Closing job) = state.Closing job
with_permit most (state.Closed e) = state.Closed e

-- a look that is ready permits so many bytes
abbrev pub permitted : ℕ → Result (Answer (Unit {0})) StreamStop × WriteState → Result ℕ StreamStop × WriteState
permitted most (Ok (Ready done), s) = (Ok most, with_permit most s)
permitted most (Ok Pending, s) = (Ok 0, s)
permitted most (Err stop, s) = (Err stop, s)

abbrev pub check_write_asks : ℕ → OpId → WriteState → Asks (Result ℕ StreamStop × WriteState)
check_write_asks most op s = bind (look_asks op s) (λ looked. Give (permitted most looked))

-- the permit goes
abbrev pub drop_permit : WriteState → WriteState
drop_permit s = with_permit 0 s

-- == one poll of a job in progress
abbrev pub turn_asks : WriteState → Asks (Unit {0} × WriteState)
turn_asks (state.Ready half permit) = Give (tt, state.Ready half permit)
turn_asks (state.Writing job) = bind (job_asks job) (λ j. Give (tt, state.Writing j))
turn_asks (state.Closing job) = bind (job_asks job) (λ j. Give (tt, state.Closing j))
turn_asks (state.Closed e) = Give (tt, state.Closed e)

-- == a write
-- an error that the look answers is the write's
abbrev pub begun : Result (Answer (Unit {0})) StreamStop × WriteState → Result (Unit {0}) StreamStop × WriteState
begun (Ok answer, s) = (Ok tt, s)
begun (Err stop, s) = (Err stop, s)

-- the job is polled once, and then a look
abbrev pub write_on_asks : OpId → WriteState → Asks (Result (Unit {0}) StreamStop × WriteState)
write_on_asks op s = bind (turn_asks s) (λ turned. bind (look_asks op turned.1) (λ looked. Give (begun looked)))

abbrev pub write_half_asks : OpId → TcpSendStream → ℕ → List ℕ → Asks (Result (Unit {0}) StreamStop × WriteState)
write_half_asks op half permit [] = Give (Ok tt, state.Ready half permit)
write_half_asks op half permit (b ∷ bytes) =
    if nat_lt permit (length (b ∷ bytes)) then Give (Err (Trap NotPermitted), state.Ready half permit)
    else write_on_asks op (state.Writing (new_job op half.side (b ∷ bytes)))

-- a write within the permit continues in the background, and takes the permit with it
abbrev pub write_state_asks : OpId → WriteState → List ℕ → Asks (Result (Unit {0}) StreamStop × WriteState)
write_state_asks op (state.Ready half permit) bytes = write_half_asks op half permit bytes
write_state_asks op (state.Writing job) bytes = Give (Err (Trap NotPermitted), state.Writing job)
write_state_asks op (state.Closing job) bytes = Give (Err (Trap NotPermitted), state.Closing job)
write_state_asks op (state.Closed e) bytes = Give (Err (stop_of e), state.Closed e)

-- a flush only reports the kept error
abbrev pub flush_of : WriteState → Result (Unit {0}) StreamStop
flush_of (state.Ready half permit) = Ok tt
flush_of (state.Writing job) = Ok tt
flush_of (state.Closing job) = Ok tt
flush_of (state.Closed e) = Err (stop_of e)

-- == the end
-- the network socket of a job's half, unless the job gave it up
abbrev pub writing_side : Job → End → Option OpId
writing_side job Waits = Some job.write.who.side
writing_side job (Done given) = Some job.write.who.side
writing_side job (Refused c given) = None

abbrev pub closing_side : Job → End → Option OpId
closing_side job Waits = Some job.write.who.side
closing_side job (Done given) = None
closing_side job (Refused c given) = None

-- the network socket of the half, while there is one
abbrev pub writer_side : WriteState → Option OpId
writer_side (state.Ready half permit) = Some half.side
writer_side (state.Writing job) = writing_side job job.end
writer_side (state.Closing job) = closing_side job job.end
writer_side (state.Closed e) = None

-- a write that is to be the last
abbrev pub now_closing : WriteState → WriteState
now_closing (state.Ready half permit) = state.Ready half permit
now_closing (state.Writing job) = state.Closing job
now_closing (state.Closing job) = state.Closing job
now_closing (state.Closed e) = state.Closed e

-- the half is released, after a write in progress
abbrev pub writer_shutdown_asks : OpId → WriteState → Asks (Unit {0} × WriteState)
writer_shutdown_asks op (state.Ready half permit) = bind (ask_shutdown op half.side Send) (λ done. Give (done, state.Closed error.Closed))
writer_shutdown_asks op (state.Writing job) = bind (finish_asks op job) (λ finished. Give (finished.0, state.Closing finished.1))
writer_shutdown_asks op (state.Closing job) = Give (tt, state.Closing job)
writer_shutdown_asks op (state.Closed e) = Give (tt, state.Closed e)

abbrev pub side_up_asks : OpId → Option OpId → Asks (Unit {0})
side_up_asks op (Some side) = ask_shutdown op side Send
side_up_asks op None = Give tt

-- the half is released now, where there is one; a write in progress ends there
abbrev pub writer_give_up_asks : OpId → WriteState → Asks (Unit {0})
writer_give_up_asks op s = side_up_asks op (writer_side s)
