-- The pending call.
use Rattle.std.specs.Prelude.{ℕ, ◌==◌, Bool, false, if◌then◌else◌, Option, Some, None, Result, Ok, Err}
use Rattle.wasi_addr.specs.declared.code.ErrorCode.{ErrorCode}
use Rattle.wasi_world.specs.declared.ids.Ids.{Ids}
use Rattle.wasi_world.specs.declared.outcome.Answer.{Answer}
use Rattle.wasi_world.specs.declared.outcome.Answer.TheVariants.{Ready, Pending}
use Rattle.tcp_records.specs.declared.socket.TcpRecord.{TcpRecord}
use Rattle.host_store.specs.declared.store.Standing.{Standing}
use Rattle.host_store.specs.declared.store.StandingCall.{StandingCall}
use Rattle.host_store.specs.declared.store.StandingCall.TheVariants.{Bind, Listen, DropOutput, UdpCreate, UdpBind, UdpConnect, UdpConnect3, DropOutgoing, Blocking}
use Rattle.record_common.specs.Stops.{Stop, code_stop}
use Rattle.host_store.specs.Store.{Records, with_socket}

-- the number of the pending call
abbrev pub exclusive_of : Option Standing → Option ℕ
exclusive_of None = None
exclusive_of (Some s) = Some s.ids.line

-- a call of this number is pending
abbrev pub stands_as : Option Standing → ℕ → Bool
stands_as None line = false
stands_as (Some s) line = s.ids.line == line

-- the pending call under this number
abbrev pub call_of : Option Standing → ℕ → Option Standing
call_of None line = None
call_of (Some s) line = if s.ids.line == line then Some s else None

-- the number of the record that a call is on; a call that blocks is on handles
abbrev pub call_place : StandingCall → ℕ
call_place (Bind place face) = place
call_place (Listen place handle) = place
call_place (DropOutput place) = place
call_place (UdpCreate place face) = place
call_place (UdpBind place face) = place
call_place (UdpConnect place handle) = place
call_place (UdpConnect3 place) = place
call_place (DropOutgoing place) = place
call_place (Blocking call) = 0

-- nothing is pending
abbrev pub unstood : Records → Records
unstood store = record store { standing = None }

abbrev pub standing_as : Ids → StandingCall → Standing
standing_as ids call = record { ids = ids; call = call }

-- a call that is pending is kept under its line's number, with the names that it continues by
abbrev pub stood : Records → Ids → StandingCall → Answer (Unit {0}) → Answer (Unit {0}) × Records
stood store ids call (Ready done) = (Ready tt, store)
stood store ids call Pending = (Pending, record store { standing = Some (standing_as ids call) })

abbrev pub allowed_answer : Answer (Unit {0}) × Records → Result (Answer (Unit {0})) Stop × Records
allowed_answer done = (Ok done.0, done.1)

-- the answer to the guest, of a call on a record
abbrev pub call_answered : Records → Ids → StandingCall → Result (Answer (Unit {0})) ErrorCode × TcpRecord → Result (Answer (Unit {0})) Stop × Records
call_answered store ids call (Ok answer, r) = allowed_answer (stood (with_socket store (call_place call) r) ids call answer)
call_answered store ids call (Err c, r) = (Err (code_stop c), with_socket store (call_place call) r)
