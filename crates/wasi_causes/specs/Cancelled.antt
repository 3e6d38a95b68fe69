-- What is left of a pending call that is given up.
use Rattle.std.specs.Prelude.{◌≡◌, ℕ, List, [], ◌∷◌, Some, None}
use Rattle.wasi_world.specs.declared.call.Call.TheVariants as call
use Rattle.wasi_world.specs.declared.call.Entry.{Entry}
use Rattle.wasi_world.specs.declared.call.Told.TheVariants as told
use Rattle.wasi_tcp.specs.Socket.{side_of}
use Rattle.wasi_udp.specs.Create.{Create}
use Rattle.tcp_records.specs.declared.tcp_binding.InProgress.TheVariants as doing
use Rattle.wasi_jobs.specs.declared.job.HostJob.TheVariants.{Datagram}
use Rattle.tcp_records.specs.declared.tcp_listening.Listening.TheVariants.{Not}
use Rattle.host_store.specs.declared.machine.Machine.{Machine}
use Rattle.tcp_records.specs.declared.socket.TcpRecord.{TcpRecord}
use Rattle.host_store.specs.declared.store.StandingCall.{StandingCall}
use Rattle.host_store.specs.declared.store.StandingCall.TheVariants.{Bind, Listen, DropOutput, UdpCreate, UdpBind, UdpConnect, UdpConnect3, DropOutgoing, Blocking}
use Rattle.udp_records.specs.declared.udp.OpenUdp.{OpenUdp}
use Rattle.udp_records.specs.declared.udp.UdpRecord.TheVariants as udp
use Rattle.udp_records.specs.declared.udp.UdpInProgress.TheVariants as udp_doing
use Rattle.host_udp.specs.UdpCancels.{without_datagrams}
use Rattle.tcp_records.specs.Listening.{with_listening}
use Rattle.wasi_records.specs.Records.{tcp2_at, udp2_at, open_at}
use Rattle.tcp_records.specs.Sockets.{with_progress}
use Rattle.udp_records.specs.Udp.{with_udp_progress}
use Rattle.host_store.specs.Store.{with_open_udp}
use Rattle.wasi_steps.specs.declared.step.Step.{Step}
use Rattle.wasi_steps.specs.declared.step.Step.TheVariants as step
use Rattle.wasi_walks.specs.Answered.{putting}
use Rattle.wasi_walks.specs.Licence.{Has, entry}
use Rattle.wasi_walks.specs.Waiting.{PendingCallsFit, nothing_stands}
use Rattle.wasi_causes.specs.GivenUp.{giving_back, listening_given_up}
use Rattle.wasi_causes.specs.Udp.{putting_udp}

abbrev pub IsCancel : Step → Type 0
IsCancel (step.Cancel n) = Unit {0}
IsCancel _ = ⊥

-- nothing was asked, and the machine is as it was, but that nothing is pending
abbrev pub OnlyUnstands : Machine → List Entry → Machine → Type 0
OnlyUnstands m es after = (es ≡ []) × (after ≡ nothing_stands m)

-- What is left of a listen: its network socket was closed, and none is left of its socket, where that one had none any more.
pub record ListenGivenUp (m : Machine) (place : ℕ) (r : TcpRecord) (es : List Entry) (after : Machine) : Type 0 where
  pub asked : es ≡ listening_given_up r.listening
  pub left : after ≡ putting (nothing_stands m) place (with_listening r Not)
  pub closed : PendingCallsFit m → side_of r.inner ≡ None

-- What is left of a create: its network socket was closed, where it is one, and its record was given back.
pub record CreateGivenUp (m : Machine) (place : ℕ) (create : Create) (es : List Entry) (after : Machine) : Type 0 where
  pub asked : PendingCallsFit m → es ≡ entry create.operation.who.id (call.Close create.operation.who.side) told.Done ∷ []
  pub left : after ≡ giving_back (nothing_stands m) place

-- What is left of the drop of an outgoing datagram stream: the stream is gone, and its datagram with it, which no turn sends any more.
pub record OutgoingGivenUp (m : Machine) (place : ℕ) (o : OpenUdp) (es : List Entry) (after : Machine) : Type 0 where
  pub quiet : es ≡ []
  pub left : after ≡ record m { store = without_datagrams place (with_open_udp (nothing_stands m).store place (record o { outgoing = None })) }
  pub job : Has after.store.jobs (Datagram place) → ⊥

-- a bind and a connect leave nothing in progress; an output that waits stays as it is, and what a call that blocks has written or begun
abbrev pub CancelsBy : Machine → List Entry → Machine → StandingCall → Type 0
CancelsBy m es after (Bind place face) = (r : TcpRecord) → tcp2_at m.store.records place ≡ Some r → (es ≡ []) × (after ≡ putting (nothing_stands m) place (with_progress r doing.Nothing))
CancelsBy m es after (Listen place handle) = (r : TcpRecord) → tcp2_at m.store.records place ≡ Some r → ListenGivenUp m place r es after
CancelsBy m es after (DropOutput place) = OnlyUnstands m es after
CancelsBy m es after (UdpCreate place face) = (create : Create) → udp2_at m.store.records place ≡ Some (udp.Creating create) → CreateGivenUp m place create es after
CancelsBy m es after (UdpBind place face) = (o : OpenUdp) → open_at m.store.records place ≡ Some o → (es ≡ []) × (after ≡ putting_udp (nothing_stands m) place (with_udp_progress o udp_doing.Nothing))
CancelsBy m es after (UdpConnect3 place) = (o : OpenUdp) → open_at m.store.records place ≡ Some o → (es ≡ []) × (after ≡ putting_udp (nothing_stands m) place (record o { connecting = None }))
CancelsBy m es after (UdpConnect place handle) = (o : OpenUdp) → open_at m.store.records place ≡ Some o → (es ≡ []) × (after ≡ putting_udp (nothing_stands m) place (record o { connecting = None }))
CancelsBy m es after (DropOutgoing place) = (o : OpenUdp) → open_at m.store.records place ≡ Some o → OutgoingGivenUp m place o es after
CancelsBy m es after (Blocking call) = OnlyUnstands m es after
