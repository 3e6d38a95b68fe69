-- Which of the system's calls each call on a socket makes, and what it answers for the system's answers.
use Rattle.std.specs.Prelude.{◌≡◌, ◌==◌, ◌&&◌, ◌*◌, ◌/◌, min, ℕ, ℤ, pos, Bool, true, false, List, Option, Some, None, Result, Ok, Err, take, length, if◌then◌else◌}
use Rattle.wasi_addr.specs.declared.address.IpSocketAddress.{IpSocketAddress}
use Rattle.wasi_addr.specs.declared.address.ShutdownType.{ShutdownType}
use Rattle.wasi_addr.specs.declared.address.SocketAddressFamily.{SocketAddressFamily}
use Rattle.wasi_addr.specs.declared.address.SocketAddressFamily.TheVariants as family
use Rattle.wasi_addr.specs.declared.code.ErrorCode.TheVariants.{NotSupported}
use Rattle.wasi_addr.specs.Clamp.{clamped_backlog, clamp, largest_int}
use Rattle.wasi_world.specs.declared.call.Opt.{Opt}
use Rattle.wasi_world.specs.declared.call.Opt.TheVariants as opt
use Rattle.wasi_world.specs.declared.call.Told.{Told}
use Rattle.wasi_world.specs.declared.call.Told.TheVariants.{Pending, Done, Code, Addr, Bytes, Took, Datagram, Value}
use Rattle.wasi_net.specs.declared.errno.Errno.{Errno}
use Rattle.wasi_net.specs.declared.setting.Setting.{Setting}
use Rattle.wasi_net.specs.declared.setting.Setting.TheVariants as setting
use Rattle.wasi_net.specs.declared.socket.Room.{Room}
use Rattle.wasi_net.specs.declared.socket.Room.TheVariants.{Unknown, Found}
use Rattle.wasi_net.specs.declared.socket.Stage.{Stage}
use Rattle.wasi_net.specs.declared.socket.Stage.TheVariants as stage
use Rattle.wasi_net.specs.Errno.{code_of, code_of_number, bind_code, goes_on, told_failed}
use Rattle.wasi_net.specs.Acts.{Act, Acts, Status, after}
use Rattle.wasi_net.specs.Acts as act
use Rattle.wasi_looks.specs.declared.look.Readiness.{Readiness}
use Rattle.wasi_looks.specs.declared.look.Readiness.TheVariants.{Write}
use Rattle.wasi_net.specs.Ready.{look}
use Rattle.wasi_net.specs.Storage.{Holds, bind_to, connect_to, disconnect, send_to, shut, int_in, set_to, get_of}
use Rattle.wasi_net.specs.Known.{Known, at_stage, with_room}

-- One call is made of the system, and what is told goes by its answer.
pub record Does {A : Type 0} (act : A → Act) (Tells : A → Told → Type 0) (t : Told) (old new : Acts) : Type 0 where
  pub answer : A
  pub acted : new ≡ after (act answer) old
  pub told : Tells answer t

-- no call is made
abbrev pub Refuses : Told → Told → Acts → Acts → Type 0
Refuses answer t old new = (t ≡ answer) × (new ≡ old)

-- done, or the fault's code
abbrev pub StatusTold : Status → Told → Type 0
StatusTold (Ok _) t = t ≡ Done
StatusTold (Err e) t = t ≡ Code (code_of e)

-- == addresses
-- the address that the system gave, or the code for one of an unknown family
abbrev pub IsGiven : List ℕ → Told → Type 0
IsGiven raw (Addr addr) = Holds raw addr
IsGiven raw (Code c) = c ≡ NotSupported
IsGiven raw _ = ⊥

abbrev pub AddressTold : Result (List ℕ × ℕ) Errno → Told → Type 0
AddressTold (Ok given) t = IsGiven given.0 t
AddressTold (Err e) t = t ≡ Code (code_of e)

abbrev pub BindTold : Status → Told → Type 0
BindTold (Ok _) t = t ≡ Done
BindTold (Err e) t = t ≡ Code (bind_code e)

-- SO_REUSEADDR is set, whatever the system answers, and the address is bound
abbrev pub BindDoes : ℤ → IpSocketAddress → Told → Acts → Acts → Type 0
BindDoes fd addr t old new = (r : Status) × Does (bind_to fd addr) BindTold t (after (set_to fd setting.ReuseAddress 1 r) old) new

abbrev pub UdpBindDoes : ℤ → IpSocketAddress → Told → Acts → Acts → Type 0
UdpBindDoes fd addr t old new = Does (bind_to fd addr) BindTold t old new

abbrev pub ListenDoes : ℤ → ℕ → Told → Acts → Acts → Type 0
ListenDoes fd backlog t old new = Does (act.Listen fd (pos (clamped_backlog backlog))) StatusTold t old new

abbrev pub BacklogTold : Status → Told → Type 0
BacklogTold (Ok _) t = t ≡ Done
BacklogTold (Err e) t = t ≡ Code NotSupported

abbrev pub BacklogDoes : ℤ → ℕ → Told → Acts → Acts → Type 0
BacklogDoes fd backlog t old new = Does (act.Listen fd (pos (clamped_backlog backlog))) BacklogTold t old new

-- == readiness
abbrev pub ready_told : ℕ → Told
ready_told n = if n == 0 then Pending else Done

abbrev pub ReadyTold : Result ℕ Errno → Told → Type 0
ReadyTold (Ok n) t = t ≡ ready_told n
ReadyTold (Err e) t = t ≡ Pending

abbrev pub ReadyDoes : ℤ → Readiness → Told → Acts → Acts → Type 0
ReadyDoes fd readiness t old new = Does (look fd readiness) ReadyTold t old new

-- == room for bytes
-- what a look has found
abbrev pub room_of : Told → Room
room_of Done = Found
room_of _ = Unknown

-- the system is asked only where no room is known of
abbrev pub OnRoom : Room → Known → Told → Known → Acts → Acts → Type 0
OnRoom Found k t now old new = (t ≡ Done) × (now ≡ k) × (new ≡ old)
OnRoom Unknown k t now old new = ReadyDoes k.fd Write t old new × (now ≡ with_room k (room_of t))

abbrev pub RoomDoes : Known → Told → Known → Acts → Acts → Type 0
RoomDoes k t now old new = OnRoom k.room k t now old new

-- == a connect
-- 0 is a connect that is over, and any other number the fault that ended it
abbrev pub error_told : ℕ → Told
error_told n = if n == 0 then Done else Code (code_of_number n)

abbrev pub ErrorTold : Result (List ℕ) Errno → Told → Type 0
ErrorTold (Ok value) t = t ≡ error_told (int_in value)
ErrorTold (Err e) t = t ≡ Code (code_of e)

-- a connect in progress goes on while the socket isn't ready; else its fault is asked for
abbrev pub OnReady : Bool → Known → Told → Known → Acts → Acts → Type 0
OnReady true k t now old new = (t ≡ Pending) × (now ≡ at_stage k stage.Connecting) × (new ≡ old)
OnReady false k t now old new = Does (get_of k.fd setting.Error) ErrorTold t old new × (now ≡ at_stage k stage.Open)

abbrev pub OnLook : Result ℕ Errno → Known → Told → Known → Acts → Acts → Type 0
OnLook (Ok n) k t now old new = OnReady (n == 0) k t now old new
OnLook (Err e) k t now old new = (t ≡ Pending) × (now ≡ at_stage k stage.Connecting) × (new ≡ old)

abbrev pub ConnectAsks : Known → Told → Known → Acts → Acts → Type 0
ConnectAsks k t now old new = (r : Result ℕ Errno) × OnLook r k t now (after (look k.fd Write r) old) new

abbrev pub OnConnect : Bool → Errno → Known → Told → Known → Acts → Acts → Type 0
OnConnect true e k t now old new = ConnectAsks k t now old new
OnConnect false e k t now old new = (t ≡ Code (code_of e)) × (now ≡ k) × (new ≡ old)

abbrev pub OnConnected : Status → Known → Told → Known → Acts → Acts → Type 0
OnConnected (Ok _) k t now old new = (t ≡ Done) × (now ≡ at_stage k stage.Open) × (new ≡ old)
OnConnected (Err e) k t now old new = OnConnect (goes_on e) e k t now old new

abbrev pub ConnectBegins : IpSocketAddress → Known → Told → Known → Acts → Acts → Type 0
ConnectBegins addr k t now old new = (r : Status) × OnConnected r k t now (after (connect_to k.fd addr r) old) new

abbrev pub is_progress : Stage → Bool
is_progress stage.Connecting = true
is_progress _ = false

-- what is in progress is asked for, and anything else is connected to the address
abbrev pub is_connecting : Known → Bool
is_connecting k = is_progress k.stage

abbrev pub OnConnecting : Bool → IpSocketAddress → Known → Told → Known → Acts → Acts → Type 0
OnConnecting true addr k t now old new = ConnectAsks k t now old new
OnConnecting false addr k t now old new = ConnectBegins addr k t now old new

abbrev pub ConnectDoes : IpSocketAddress → Known → Told → Known → Acts → Acts → Type 0
ConnectDoes addr k t now old new = OnConnecting (is_connecting k) addr k t now old new

-- == bytes
-- at most so many go in one call
unfoldable pub most : ℕ
most = 65536

abbrev pub ReadTold : Result (List ℕ) Errno → Told → Type 0
ReadTold (Ok bytes) t = t ≡ Bytes bytes
ReadTold (Err e) t = t ≡ told_failed e (code_of e)

abbrev pub ReadDoes : ℤ → ℕ → Told → Acts → Acts → Type 0
ReadDoes fd size t old new = Does (act.Receive fd (min size most)) ReadTold t old new

abbrev pub written_told : List ℕ → ℕ → Told
written_told bytes n = if n == 0 then Pending else Took (take n bytes)

abbrev pub WriteTold : List ℕ → Result ℕ Errno → Told → Type 0
WriteTold bytes (Ok n) t = t ≡ written_told bytes n
WriteTold bytes (Err e) t = t ≡ told_failed e (code_of e)

-- after a write of so many bytes: one that isn't taken whole found the end of the room
abbrev pub room_after : Room → ℕ → Told → Room
room_after before n (Took front) = if length front == n then before else Unknown
room_after before n _ = Unknown

abbrev pub WriteDoes : List ℕ → Known → Told → Known → Acts → Acts → Type 0
WriteDoes bytes k t now old new =
    Does (act.Send k.fd (take most bytes)) (WriteTold (take most bytes)) t old new × (now ≡ with_room k (room_after k.room (length bytes) t))

abbrev pub IsDone : Status → Told → Type 0
IsDone r t = t ≡ Done

abbrev pub ShutdownDoes : ℤ → ShutdownType → Told → Acts → Acts → Type 0
ShutdownDoes fd how t old new = Does (shut fd how) IsDone t old new

-- == options
-- the hop limit of IPv6 can't be reached
abbrev pub setting_of : SocketAddressFamily → Opt → Option Setting
setting_of _ opt.KeepAliveEnabled = Some setting.KeepAlive
setting_of _ opt.KeepAliveIdleTime = Some setting.KeepIdle
setting_of _ opt.KeepAliveInterval = Some setting.KeepInterval
setting_of _ opt.KeepAliveCount = Some setting.KeepCount
setting_of family.Ipv4 opt.HopLimit = Some setting.Ttl
setting_of family.Ipv6 opt.HopLimit = None
setting_of _ opt.ReceiveBufferSize = Some setting.ReceiveBuffer
setting_of _ opt.SendBufferSize = Some setting.SendBuffer

abbrev pub nanoseconds : ℕ
nanoseconds = 1000000000

-- one to 32767 whole seconds
abbrev pub seconds_of : ℕ → ℕ
seconds_of value = clamp 1 32767 (value / nanoseconds)

-- the system's number for a value: whole seconds for a time
abbrev pub number_of : Opt → ℕ → ℕ
number_of opt.KeepAliveEnabled value = min value 1
number_of opt.KeepAliveIdleTime value = seconds_of value
number_of opt.KeepAliveInterval value = seconds_of value
number_of opt.KeepAliveCount value = clamp 1 127 value
number_of opt.HopLimit value = min value 256
number_of opt.ReceiveBufferSize value = clamp 1 largest_int value
number_of opt.SendBufferSize value = clamp 1 largest_int value

-- the value of the system's number: nanoseconds for a time
abbrev pub value_of : Opt → ℕ → ℕ
value_of opt.KeepAliveIdleTime number = number * nanoseconds
value_of opt.KeepAliveInterval number = number * nanoseconds
value_of _ number = number

abbrev pub is_size : Opt → Bool
is_size opt.ReceiveBufferSize = true
is_size opt.SendBufferSize = true
is_size _ = false

-- a size that the system has no room for is taken as a wish
abbrev pub set_told : Opt → Errno → Told
set_told option e = if is_size option && (e.number == 105) then Done else Code (code_of e)

abbrev pub SetTold : Opt → Status → Told → Type 0
SetTold option (Ok _) t = t ≡ Done
SetTold option (Err e) t = t ≡ set_told option e

abbrev pub GetTold : Opt → Result (List ℕ) Errno → Told → Type 0
GetTold option (Ok value) t = t ≡ Value (value_of option (int_in value))
GetTold option (Err e) t = t ≡ Code (code_of e)

abbrev pub OnSetting : Option Setting → Opt → ℤ → ℕ → Told → Acts → Acts → Type 0
OnSetting (Some s) option fd value t old new = Does (set_to fd s (number_of option value)) (SetTold option) t old new
OnSetting None option fd value t old new = Refuses (Code NotSupported) t old new

abbrev pub OnGetting : Option Setting → Opt → ℤ → Told → Acts → Acts → Type 0
OnGetting (Some s) option fd t old new = Does (get_of fd s) (GetTold option) t old new
OnGetting None option fd t old new = Refuses (Code NotSupported) t old new

abbrev pub SetDoes : Known → Opt → ℕ → Told → Acts → Acts → Type 0
SetDoes k option value t old new = OnSetting (setting_of k.family option) option k.fd value t old new

abbrev pub GetDoes : Known → Opt → Told → Acts → Acts → Type 0
GetDoes k option t old new = OnGetting (setting_of k.family option) option k.fd t old new

-- == datagrams
abbrev pub udp_told : Errno → Told
udp_told e = if e.number == 115 then Done else Code (bind_code e)

abbrev pub UdpConnectTold : Status → Told → Type 0
UdpConnectTold (Ok _) t = t ≡ Done
UdpConnectTold (Err e) t = t ≡ udp_told e

-- EINVAL: the association is dissolved, and the connect made again
abbrev pub OnInvalid : Bool → Errno → ℤ → IpSocketAddress → Told → Acts → Acts → Type 0
OnInvalid true e fd addr t old new = (r : Status) × Does (connect_to fd addr) UdpConnectTold t (after (disconnect fd r) old) new
OnInvalid false e fd addr t old new = Refuses (udp_told e) t old new

abbrev pub OnUdpConnect : Status → ℤ → IpSocketAddress → Told → Acts → Acts → Type 0
OnUdpConnect (Ok _) fd addr t old new = Refuses Done t old new
OnUdpConnect (Err e) fd addr t old new = OnInvalid (e.number == 22) e fd addr t old new

abbrev pub UdpConnectDoes : ℤ → IpSocketAddress → Told → Acts → Acts → Type 0
UdpConnectDoes fd addr t old new = (r : Status) × OnUdpConnect r fd addr t (after (connect_to fd addr r) old) new

abbrev pub UdpDisconnectDoes : ℤ → Told → Acts → Acts → Type 0
UdpDisconnectDoes fd t old new = Does (disconnect fd) StatusTold t old new

abbrev pub SendTold : Result ℕ Errno → Told → Type 0
SendTold (Ok _) t = t ≡ Done
SendTold (Err e) t = t ≡ told_failed e (code_of e)

abbrev pub SendDoes : ℤ → IpSocketAddress → List ℕ → Told → Acts → Acts → Type 0
SendDoes fd addr bytes t old new = Does (λ r. send_to fd bytes addr r) SendTold t old new

-- the bytes that came, or the code for a sender of an unknown family
abbrev pub IsDatagramOf : List ℕ → Told → Type 0
IsDatagramOf bytes (Datagram given addr) = given ≡ bytes
IsDatagramOf bytes (Code c) = c ≡ NotSupported
IsDatagramOf bytes _ = ⊥

abbrev pub ReceiveTold : Result (List ℕ) Errno → Told → Type 0
ReceiveTold (Ok bytes) t = IsDatagramOf bytes t
ReceiveTold (Err e) t = t ≡ told_failed e (code_of e)

abbrev pub ReceiveDoes : ℤ → Told → Acts → Acts → Type 0
ReceiveDoes fd t old new = Does (act.ReceiveFrom fd most) ReceiveTold t old new
