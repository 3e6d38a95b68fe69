-- Why binds of 0.3 sockets are refused, and what they ask and leave. No call finishes a bind there: one that is over leaves
-- nothing in progress.
use Rattle.std.specs.Prelude.{◌≡◌, ℕ, true, false, List, [], ◌∷◌, Some}
use Rattle.wasi_addr.specs.declared.address.IpSocketAddress.{IpSocketAddress}
use Rattle.wasi_addr.specs.declared.address.SocketAddrUse.TheVariants.{TcpBind}
use Rattle.wasi_addr.specs.declared.code.ErrorCode.{ErrorCode}
use Rattle.wasi_addr.specs.declared.code.ErrorCode.TheVariants.{AccessDenied, InvalidArgument, InvalidState}
use Rattle.wasi_addr.specs.Address.{ip_of, is_of_family}
use Rattle.wasi_world.specs.declared.call.Call.TheVariants as call
use Rattle.wasi_world.specs.declared.call.Entry.{Entry}
use Rattle.wasi_world.specs.declared.call.Told.{Told}
use Rattle.wasi_world.specs.declared.call.Told.TheVariants as told
use Rattle.wasi_world.specs.declared.ids.OpId.{OpId}
use Rattle.wasi_world.specs.Operation.{Operation}
use Rattle.wasi_tcp.specs.Bind.{bind_operation}
use Rattle.wasi_tcp.specs.declared.bind.BindStage.TheVariants.{Check}
use Rattle.wasi_udp.specs.Bind.{bind_operation as udp_bind_operation}
use Rattle.wasi_udp.specs.Socket.{asker_of}
use Rattle.wasi_udp.specs.declared.bind.UdpBindStage.TheVariants as stage
use Rattle.tcp_records.specs.declared.socket.TcpRecord.{TcpRecord}
use Rattle.tcp_records.specs.declared.tcp_binding.InProgress.TheVariants.{Binding, Nothing}
use Rattle.udp_records.specs.declared.udp.OpenUdp.{OpenUdp}
use Rattle.udp_records.specs.declared.udp.UdpInProgress.TheVariants as udp
use Rattle.record_common.specs.Names.{own_of}
use Rattle.tcp_records.specs.Sockets.{with_progress}
use Rattle.udp_records.specs.Udp.{with_udp_progress}
use Rattle.host_store.specs.declared.kind.Interface.TheVariants.{P3}
use Rattle.host_store.specs.declared.machine.Machine.{Machine}
use Rattle.host_store.specs.declared.store.StandingCall.{StandingCall}
use Rattle.host_store.specs.declared.store.StandingCall.TheVariants.{Bind, UdpBind}
use Rattle.host_store.specs.Standing.{standing_as}
use Rattle.wasi_machine.specs.Machine.{first_ids}
use Rattle.wasi_steps.specs.declared.reply.CodeWord.{CodeWord}
use Rattle.wasi_walks.specs.Answered.{IsBound, IsFoundUnbound, knowing_bound, may_bind_to, putting}
use Rattle.wasi_walks.specs.Licence.{entry}
use Rattle.wasi_causes.specs.P3Udp.{OfUdp3}
use Rattle.wasi_causes.specs.Refusals.{OfTcp3, SaidBy, p3_word}
use Rattle.wasi_causes.specs.Udp.{IsUdpBound, IsUdpUnbound, putting_udp, udp_bind_entry, udp_check_entry, udp_knowing_bound}
use Rattle.wasi_causes.specs.Udp.{udp_local_entry}

-- the machine, with a call that is pending under a line's number
abbrev pub with_pending : Machine → ℕ → StandingCall → Machine
with_pending m line call =
    record m { store = record m.store { standing = Some (standing_as (first_ids line) call) } }

-- == of a TCP socket
abbrev pub check_entry : OpId → TcpRecord → IpSocketAddress → Told → Entry
check_entry own r a told = entry own (call.Check r.inner.maker a TcpBind) told

-- its operation, at its check
abbrev pub begun_bind : OpId → OpId → TcpRecord → IpSocketAddress → Operation
begun_bind own side r a = bind_operation (record { op = own; side = side; maker = r.inner.maker }) a Check

-- nothing is in progress
abbrev pub left_idle : Machine → ℕ → TcpRecord → Machine
left_idle m place r = putting m place (with_progress r Nothing)

-- The socket isn't bound, by what its network socket reported, and may be bound to this address.
pub record MayBind (r : TcpRecord) (a : IpSocketAddress) (side : OpId) (local : Told) : Type 0 where
  pub unbound : IsFoundUnbound r.inner side local
  pub address : may_bind_to r.inner.family a ≡ true

-- A bind is refused: the socket is bound, or isn't in its first state; or the address is none that it may be bound to; or
-- the check was answered no; or the bind was answered with a code.
pub data BindFails (m : Machine) (own : OpId) (place : ℕ) (r : TcpRecord) (a : IpSocketAddress) : List Entry
    → ErrorCode → Machine → Type 0 where
  IsBoundAlready : (asked : List Entry) → IsBound own r.inner asked → BindFails m own place r a asked InvalidState
      (knowing_bound m place r)
  OtherAddress : (side : OpId) (local : Told) → IsFoundUnbound r.inner side local
      → may_bind_to r.inner.family a ≡ false
      → BindFails m own place r a (entry own (call.Local side) local ∷ []) InvalidArgument m
  CheckedNo : (side : OpId) (local : Told) → MayBind r a side local → BindFails m own place r a
      (entry own (call.Local side) local ∷ check_entry own r a told.No ∷ []) AccessDenied (left_idle m place r)
  BindTold : (side : OpId) (local : Told) (c : ErrorCode) → MayBind r a side local → BindFails m own place r a
      (entry own (call.Local side) local ∷ check_entry own r a told.Yes
      ∷ entry own (call.Bind side a) (told.Code c) ∷ []) c (left_idle m place r)

abbrev pub P3BindRefusal : Machine → OpId → ℕ → IpSocketAddress → List Entry → CodeWord → Machine → Type 0
P3BindRefusal m own handle a es w after =
    OfTcp3 m handle (λ place r. SaidBy p3_word (λ c. BindFails m own place r a es c after) w)

-- The check was answered yes, and the bind done.
pub record Binds (m : Machine) (own : OpId) (place : ℕ) (r : TcpRecord) (a : IpSocketAddress) (entries : List Entry)
    (after : Machine) : Type 0 where
  pub side : OpId
  pub local : Told
  pub may : MayBind r a side local
  pub asked : entries ≡ entry own (call.Local side) local ∷ check_entry own r a told.Yes
      ∷ entry own (call.Bind side a) told.Done ∷ []
  pub left : after ≡ left_idle m place r

-- The check was answered pending: the bind is in progress, at its check, and is pending under its line's number.
pub record BindStands (m : Machine) (line place : ℕ) (r : TcpRecord) (a : IpSocketAddress) (entries : List Entry)
    (after : Machine) : Type 0 where
  pub side : OpId
  pub local : Told
  pub may : MayBind r a side local
  pub asked : entries ≡ entry (own_of line) (call.Local side) local ∷ check_entry (own_of line) r a told.Pending ∷ []
  pub left : after ≡ with_pending (putting m place (with_progress r (Binding (begun_bind (own_of line) side r a))))
      line (Bind place P3)

-- == of a UDP socket: the same
abbrev pub begun_udp_bind : OpId → OpenUdp → IpSocketAddress → Operation
begun_udp_bind own o a = udp_bind_operation (asker_of own o.inner) a stage.Check

abbrev pub left_udp_idle : Machine → ℕ → OpenUdp → Machine
left_udp_idle m place o = putting_udp m place (with_udp_progress o udp.Nothing)

pub record MayBindUdp (o : OpenUdp) (a : IpSocketAddress) (local : Told) : Type 0 where
  pub unbound : IsUdpUnbound o.inner local
  pub family : is_of_family (ip_of a) o.inner.family ≡ true

-- A bind is refused: the socket is bound, or the address is of another family, or the check was answered no, or the bind
-- was answered with a code.
pub data UdpBindFails (m : Machine) (own : OpId) (place : ℕ) (o : OpenUdp) (a : IpSocketAddress) : List Entry
    → ErrorCode → Machine → Type 0 where
  UdpIsBound : (asked : List Entry) → IsUdpBound own o.inner asked → UdpBindFails m own place o a asked InvalidState
      (udp_knowing_bound m place o)
  OtherFamily : (local : Told) → IsUdpUnbound o.inner local → is_of_family (ip_of a) o.inner.family ≡ false
      → UdpBindFails m own place o a (udp_local_entry own o.inner local ∷ []) InvalidArgument m
  UdpCheckedNo : (local : Told) → MayBindUdp o a local → UdpBindFails m own place o a
      (udp_local_entry own o.inner local ∷ udp_check_entry own o.inner a told.No ∷ []) AccessDenied
      (left_udp_idle m place o)
  UdpBindTold : (local : Told) (c : ErrorCode) → MayBindUdp o a local → UdpBindFails m own place o a
      (udp_local_entry own o.inner local ∷ udp_check_entry own o.inner a told.Yes
      ∷ udp_bind_entry own o.inner a (told.Code c) ∷ []) c (left_udp_idle m place o)

abbrev pub P3UdpBindRefusal : Machine → OpId → ℕ → IpSocketAddress → List Entry → CodeWord → Machine → Type 0
P3UdpBindRefusal m own handle a es w after =
    OfUdp3 m handle (λ place o. SaidBy p3_word (λ c. UdpBindFails m own place o a es c after) w)

pub record BindsUdp (m : Machine) (own : OpId) (place : ℕ) (o : OpenUdp) (a : IpSocketAddress) (entries : List Entry)
    (after : Machine) : Type 0 where
  pub local : Told
  pub may : MayBindUdp o a local
  pub asked : entries ≡ udp_local_entry own o.inner local ∷ udp_check_entry own o.inner a told.Yes
      ∷ udp_bind_entry own o.inner a told.Done ∷ []
  pub left : after ≡ left_udp_idle m place o

pub record UdpBindStands (m : Machine) (line place : ℕ) (o : OpenUdp) (a : IpSocketAddress) (entries : List Entry)
    (after : Machine) : Type 0 where
  pub local : Told
  pub may : MayBindUdp o a local
  pub asked : entries ≡ udp_local_entry (own_of line) o.inner local
      ∷ udp_check_entry (own_of line) o.inner a told.Pending ∷ []
  pub left : after ≡ with_pending
      (putting_udp m place (with_udp_progress o (udp.Binding (begun_udp_bind (own_of line) o a)))) line
      (UdpBind place P3)
