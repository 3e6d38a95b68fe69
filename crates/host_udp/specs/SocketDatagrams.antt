-- Datagrams of 0.3, which stand beside other calls while they are pending. The call itself keeps its operation, and its network
-- socket stays for it, also once its handle is gone.
use Rattle.std.specs.Prelude.{◌≡◌, ℕ, Bool, true, false, not, ◌||◌, List, [], ◌∷◌, ◌++◌, Option, Some, None, option_map, Result, Ok, Err}
use Rattle.wasi_addr.specs.declared.address.IpSocketAddress.{IpSocketAddress}
use Rattle.wasi_addr.specs.declared.code.ErrorCode.{ErrorCode}
use Rattle.wasi_addr.specs.declared.code.ErrorCode.TheVariants.{InvalidState}
use Rattle.wasi_world.specs.declared.datagram.IncomingDatagram.{IncomingDatagram}
use Rattle.wasi_world.specs.declared.datagram.OutgoingDatagram.{OutgoingDatagram}
use Rattle.wasi_world.specs.declared.ids.OpId.{OpId}
use Rattle.wasi_world.specs.declared.outcome.Answer.{Answer}
use Rattle.wasi_world.specs.declared.outcome.Answer.TheVariants.{Ready, Pending}
use Rattle.wasi_world.specs.declared.outcome.Refusal.{Refusal}
use Rattle.wasi_world.specs.Asks.{Asks, Give, bind}
use Rattle.wasi_world.specs.Operation.{Operation, Item, End, Waits, Done, Refused, Datagram, poll_asks}
use Rattle.wasi_udp.specs.Receive.{receive_asks, wanting}
use Rattle.wasi_udp.specs.Send.{send_asks, at_remote}
use Rattle.wasi_udp.specs.Shape.{Socket}
use Rattle.udp_records.specs.declared.udp.OpenUdp.{OpenUdp}
use Rattle.record_common.specs.Binding.{bind_answer, left_of}
use Rattle.record_common.specs.Names.{own_of}
use Rattle.wasi_records.specs.Records.{open_at, udp2_at}
use Rattle.record_common.specs.Stops.{Code}
use Rattle.udp_records.specs.Udp.{with_udp_inner, without_udp_socket}
use Rattle.host_store.specs.declared.beside.Beside.{Beside}
use Rattle.host_store.specs.declared.beside.BesideCall.{BesideCall}
use Rattle.host_store.specs.declared.beside.BesideCall.TheVariants.{Send, Receive}
use Rattle.host_store.specs.BaseStops.{BaseStop}
use Rattle.host_store.specs.Beside.{beside_as, beside_of, beside_with, unbeside, has_datagram}
use Rattle.host_store.specs.Block.{Does, Line, Look, Call, ◌>>=◌}
use Rattle.host_store.specs.Store.{Records, with_open_udp}
use Rattle.host_udp.specs.UdpCalls.{release_udp_at}

abbrev pub held_by : List Beside → ℕ → Option OpenUdp → Bool
held_by calls place None = false
held_by calls place (Some o) = not o.dropped || has_datagram calls place

abbrev pub is_udp_held : Records → ℕ → Bool
is_udp_held store place = held_by store.beside place (open_at store.records place)

-- it goes with the last of them
abbrev pub udp_goes : OpId → ℕ → Records → Bool → Asks (Unit {0} × Records)
udp_goes op place store true = Give (tt, store)
udp_goes op place store false = release_udp_at store op place (udp2_at store.records place)

abbrev pub let_udp_go : OpId → ℕ → Records → Asks (Unit {0} × Records)
let_udp_go op place store = udp_goes op place store (is_udp_held store place)

-- the handle goes
abbrev pub without_udp_handle : Records → ℕ → Option OpenUdp → Records
without_udp_handle store place None = store
without_udp_handle store place (Some o) = with_open_udp store place (without_udp_socket o)

abbrev pub drop_udp : OpId → ℕ → Records → Asks (Unit {0} × Records)
drop_udp op place store = let_udp_go op place (without_udp_handle store place (open_at store.records place))

-- a datagram in progress goes, by the name of its line
abbrev pub drop_datagram : ℕ → ℕ → Records → Asks (Unit {0} × Records)
drop_datagram line place store = let_udp_go (own_of line) place (unbeside store line)

-- == how one begins: it is asked whether the socket is bound
abbrev pub Begun : Type 0
Begun = Result (Operation × OpenUdp) ErrorCode × OpenUdp

abbrev pub begun_on : OpenUdp → Operation × Socket → Begun
begun_on o begun = let now = with_udp_inner o begun.1 in (Ok (begun.0, now), now)

abbrev pub send_begins : OpId → OutgoingDatagram → OpenUdp → Asks Begun
send_begins op d o = bind (send_asks op o.inner d.bytes d.remote_address) (λ begun. Give (begun_on o begun))

abbrev pub receive_begins : OpId → OpenUdp → Asks Begun
receive_begins op o = bind (receive_asks op o.inner) (λ begun. Give (begun_on o begun))

-- == one poll of it: of what is sent with the remote address that the socket has now; a receive takes whatever comes
abbrev pub send_polls : OpenUdp → Operation → Asks (End × List Item)
send_polls o op = poll_asks (at_remote o.inner.remote op)

abbrev pub receive_polls : OpenUdp → Operation → Asks (End × List Item)
receive_polls o op = poll_asks (wanting None op)

-- a line that asks, and leaves the records as they were
abbrev pub asked_so : {A : Type 0} → Asks A → Unit {0} → Asks (Result A BaseStop × Unit {0})
asked_so asked none = bind asked (λ a. Give (Ok a, none))

abbrev pub polled : {A : Type 0} → Asks A → Line ErrorCode Records A
polled asked = Call {T = Unit {0}} (λ stop. stop) (λ store. tt) (λ store none. store) (asked_so asked)

-- what a receive gives
abbrev pub received_answer : End → Result (Answer IncomingDatagram) ErrorCode
received_answer Waits = Ok Pending
received_answer (Done (Datagram bytes a)) = Ok (Ready (record { bytes = bytes; remote_address = a }))
received_answer (Done given) = Err InvalidState
received_answer (Refused c given) = Err c

abbrev pub as_base : {A : Type 0} → Result A ErrorCode → Result A BaseStop
as_base (Ok a) = Ok a
as_base (Err c) = Err (Code c)

-- the first poll ended: pending, it is the last of the calls beside; else it never stood
abbrev pub begun_so : {A : Type 0} → (End → Result (Answer A) ErrorCode) → ℕ → (Operation → BesideCall) → Operation → End × List Item → Does ErrorCode Records (Answer A)
begun_so told line call op (Waits, items) store = Give (Ok Pending, record store { beside = store.beside ++ beside_as line (call (left_of op items)) ∷ [] })
begun_so told line call op (Done given, items) store = Give (as_base (told (Done given)), store)
begun_so told line call op (Refused c given, items) store = Give (as_base (told (Refused c given)), store)

-- another one: pending, it keeps its place; else it is over, and its network socket with the last that holds it
abbrev pub ends_so : {A : Type 0} → (End → Result (Answer A) ErrorCode) → ℕ → ℕ → End → Does ErrorCode Records (Answer A)
ends_so told line place ended store = bind (drop_datagram line place store) (λ done. Give (as_base (told ended), done.1))

abbrev pub polled_so : {A : Type 0} → (End → Result (Answer A) ErrorCode) → ℕ → ℕ → (Operation → BesideCall) → Operation → End × List Item → Does ErrorCode Records (Answer A)
polled_so told line place call op (Waits, items) store = Give (Ok Pending, record store { beside = beside_with store.beside line (call (left_of op items)) })
polled_so told line place call op (Done given, items) store = ends_so told line place (Done given) store
polled_so told line place call op (Refused c given, items) store = ends_so told line place (Refused c given) store

-- == calls
abbrev pub begins_so : {A : Type 0} → (End → Result (Answer A) ErrorCode) → (OpenUdp → Asks Begun) → (OpenUdp → Operation → Asks (End × List Item)) → ℕ → ℕ → (Operation → BesideCall) → Does ErrorCode Records (Answer A)
begins_so told begins polls line place call = do
  o ← Look (λ store. open_at store.records place)
  begun ← Call Code (λ store. o) (λ store now. with_open_udp store place now) begins
  ended ← polled (polls begun.1 begun.0)
  begun_so told line call begun.0 ended

abbrev pub goes_on_so : {A : Type 0} → (End → Result (Answer A) ErrorCode) → (OpenUdp → Operation → Asks (End × List Item)) → ℕ → ℕ → (Operation → BesideCall) → Operation → Does ErrorCode Records (Answer A)
goes_on_so told polls line place call op = do
  o ← Look (λ store. open_at store.records place)
  ended ← polled (polls o op)
  polled_so told line place call op ended

abbrev pub send_of : ℕ → ℕ → OutgoingDatagram → Does ErrorCode Records (Answer (Unit {0}))
send_of line place d = begins_so bind_answer (send_begins (own_of line) d) send_polls line place (Send place)

abbrev pub resend_of : ℕ → ℕ → Operation → Does ErrorCode Records (Answer (Unit {0}))
resend_of line place op = goes_on_so bind_answer send_polls line place (Send place) op

abbrev pub receive_of : ℕ → ℕ → Does ErrorCode Records (Answer IncomingDatagram)
receive_of line place = begins_so received_answer (receive_begins (own_of line)) receive_polls line place (Receive place)

abbrev pub rereceive_of : ℕ → ℕ → Operation → Does ErrorCode Records (Answer IncomingDatagram)
rereceive_of line place op = goes_on_so received_answer receive_polls line place (Receive place) op

-- == the same of what the code answers
abbrev pub datagram_in : List ℕ × IpSocketAddress → IncomingDatagram
datagram_in came = record { bytes = came.0; remote_address = came.1 }

abbrev pub datagram_told : Result (Answer (List ℕ × IpSocketAddress)) Refusal → Result (Answer IncomingDatagram) Refusal
datagram_told (Ok (Ready came)) = Ok (Ready (datagram_in came))
datagram_told (Ok Pending) = Ok Pending
datagram_told (Err why) = Err why

-- a call that is a datagram in progress
abbrev pub is_datagram : BesideCall → Bool
is_datagram (Send socket op) = true
is_datagram (Receive socket op) = true
is_datagram _ = false

abbrev pub is_datagram_in : Option Beside → Bool
is_datagram_in None = false
is_datagram_in (Some b) = is_datagram b.call

-- the send or the receive that is pending under this number is polled again
abbrev pub call_under : Records → ℕ → Option BesideCall
call_under store line = option_map (λ b. b.call) (beside_of store line)

abbrev pub ResendsOf : ℕ → ℕ → Records → (Asks (Result (Answer (Unit {0})) BaseStop × Records) → Type 0) → Type 0
ResendsOf line place store holds = (op : Operation) → call_under store line ≡ Some (Send place op) → holds (resend_of line place op store)

abbrev pub RereceivesOf : ℕ → ℕ → Records → (Asks (Result (Answer IncomingDatagram) BaseStop × Records) → Type 0) → Type 0
RereceivesOf line place store holds = (op : Operation) → call_under store line ≡ Some (Receive place op) → holds (rereceive_of line place op store)
