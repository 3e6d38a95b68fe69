-- What the drop of a handle asks, and what it leaves, by what the handle is of.
use Rattle.wasi_records.specs.Records.{tcp2_at, udp2_at, open_at, lookup_at}
use Rattle.tcp_records.specs.declared.slot.Slot.{Slot}
use Rattle.wasi_records.specs.Records.{slot_at}
use Rattle.host_store.specs.declared.kind.PlainInput.TheVariants as input
use Rattle.host_store.specs.declared.kind.PlainOutput.TheVariants as output
use Rattle.wasi_causes.specs.Plain.{InputPipeGone, OutputPipeGone}
use Rattle.std.specs.Prelude.{◌≡◌, ⊤, ℕ, Bool, true, List, [], Option, Some}
use Rattle.tcp_records.specs.Holding.{without_socket}
use Rattle.wasi_causes.specs.GivenUp.{IsGone, LetsGo, ListenerGoes, LooksOnce, socket_given_up, without}
use Rattle.wasi_world.specs.declared.call.Entry.{Entry}
use Rattle.lookup_records.specs.declared.name_lookup.Lookup.{Lookup}
use Rattle.udp_records.specs.declared.udp.OpenUdp.{OpenUdp}
use Rattle.udp_records.specs.declared.udp.UdpRecord.{UdpRecord}
use Rattle.udp_records.specs.declared.udp.UdpRecord.TheVariants.{Open}
use Rattle.udp_records.specs.Udp.{without_udp_socket}
use Rattle.host_store.specs.Beside.{has_datagram}
use Rattle.host_store.specs.declared.kind.Kind.{Kind}
use Rattle.host_store.specs.declared.kind.Kind.TheVariants as kind
use Rattle.host_store.specs.declared.machine.Machine.{Machine}
use Rattle.tcp_records.specs.declared.socket.TcpRecord.{TcpRecord}
use Rattle.host_store.specs.Machine.{own_of}
use Rattle.wasi_causes.specs.Lookups.{LookupGone}
use Rattle.wasi_causes.specs.Datagrams.{IncomingGone, OutgoingGone}
use Rattle.wasi_causes.specs.P3Streams.{IsLetGo, ReadEndGoes, WriteEndGoes}
use Rattle.wasi_causes.specs.Udp.{putting_udp, udp_given_up, udp_left}

-- what the drop of a handle of this kind asks, unless that is a socket's, a listener's or an end's
abbrev pub AsksOnce : ℕ → Option Kind → List Entry → Type 0
AsksOnce line (Some (kind.Tcp2 place)) es = ⊤
AsksOnce line (Some (kind.Tcp3 place)) es = ⊤
AsksOnce line (Some (kind.Udp2 place)) es = ⊤
AsksOnce line (Some (kind.Udp3 place)) es = ⊤
AsksOnce line (Some (kind.Listen3 place)) es = ⊤
AsksOnce line (Some (kind.Receive3 end)) es = ⊤
AsksOnce line (Some (kind.Send3 end)) es = ⊤
AsksOnce line (Some (kind.Output place)) es = LooksOnce (own_of line) es
AsksOnce line _ es = es ≡ []

-- what is left where the handle that was dropped is of the TCP socket of this record
abbrev pub SocketGone : Machine → ℕ → ℕ → ℕ → List Entry → Machine → Type 0
SocketGone m line handle place es after = (r : TcpRecord) → tcp2_at m.store.records place ≡ Some r → (es ≡ socket_given_up (own_of line) r) × IsGone m handle place after

-- the same of a socket of 0.3
abbrev pub Socket3Gone : Machine → ℕ → ℕ → ℕ → List Entry → Machine → Type 0
Socket3Gone m line handle place es after = (r : TcpRecord) → tcp2_at m.store.records place ≡ Some r → LetsGo m line handle place (without_socket r) es after

-- the same of a listener
abbrev pub ListenerGone : Machine → ℕ → ℕ → ℕ → List Entry → Machine → Type 0
ListenerGone m line handle place es after = (r : TcpRecord) → tcp2_at m.store.records place ≡ Some r → ListenerGoes m line handle place r es after

-- the same of a UDP socket
abbrev pub UdpGone : Machine → ℕ → ℕ → ℕ → List Entry → Machine → Type 0
UdpGone m line handle place es after = (u : UdpRecord) → udp2_at m.store.records place ≡ Some u → (es ≡ udp_given_up (own_of line) u) × (after ≡ udp_left (without m handle) place u)

-- the same of one of 0.3: while a datagram in progress holds it nothing is asked, and its record stays, without a handle
abbrev pub Udp3GoneBy : Machine → ℕ → ℕ → ℕ → List Entry → Machine → UdpRecord → Bool → Type 0
Udp3GoneBy m line handle place es after (Open o) true = (es ≡ []) × (after ≡ putting_udp (without m handle) place (without_udp_socket o))
Udp3GoneBy m line handle place es after u _ = (es ≡ udp_given_up (own_of line) u) × (after ≡ udp_left (without m handle) place u)

abbrev pub Udp3Gone : Machine → ℕ → ℕ → ℕ → List Entry → Machine → Type 0
Udp3Gone m line handle place es after = (u : UdpRecord) → udp2_at m.store.records place ≡ Some u → Udp3GoneBy m line handle place es after u (has_datagram m.store.beside place)

-- what is left where the handle that was dropped is of this kind
abbrev pub Gone : Machine → ℕ → ℕ → Option Kind → List Entry → Machine → Type 0
Gone m line handle (Some (kind.Tcp2 place)) es after = SocketGone m line handle place es after
Gone m line handle (Some (kind.Tcp3 place)) es after = Socket3Gone m line handle place es after
Gone m line handle (Some (kind.Udp2 place)) es after = UdpGone m line handle place es after
Gone m line handle (Some (kind.Udp3 place)) es after = Udp3Gone m line handle place es after
Gone m line handle (Some (kind.Listen3 place)) es after = ListenerGone m line handle place es after
Gone m line handle (Some (kind.Receive3 end)) es after = ReadEndGoes (without m handle) (own_of line) end es after
Gone m line handle (Some (kind.Send3 end)) es after = WriteEndGoes (without m handle) (own_of line) end es after
Gone m line handle (Some (kind.Result3 place)) es after = (s : Slot) → slot_at m.store.records place ≡ Some s → IsLetGo (without m handle) place after
Gone m line handle (Some (kind.Output place)) es after = ⊤
Gone m line handle (Some (kind.Incoming place)) es after = (o : OpenUdp) → open_at m.store.records place ≡ Some o → IncomingGone m handle place o es after
Gone m line handle (Some (kind.Outgoing place)) es after = (o : OpenUdp) → open_at m.store.records place ≡ Some o → OutgoingGone m handle place o es after
Gone m line handle (Some (kind.Lookup place)) es after = (l : Lookup) → lookup_at m.store.records place ≡ Some l → LookupGone m handle place es after
Gone m line handle (Some (kind.PlainInput (input.Pipe place))) es after = InputPipeGone m handle place (without m handle) after
Gone m line handle (Some (kind.PlainOutput (output.Pipe place))) es after = OutputPipeGone m handle place (without m handle) after
Gone m line handle _ es after = after ≡ without m handle
