-- What each call answers, which calls of the system it makes, and what it leaves of the sockets.
use Rattle.std.specs.Prelude.{◌≡◌, ◌⊎◌, ℤ, List, Option, Some, None, Result, Ok, Err}
use Rattle.wasi_addr.specs.declared.address.SocketAddressFamily.{SocketAddressFamily}
use Rattle.wasi_addr.specs.declared.address.SocketAddressFamily.TheVariants as family
use Rattle.wasi_addr.specs.declared.code.ErrorCode.TheVariants.{InvalidState, NotSupported}
use Rattle.wasi_world.specs.declared.ids.OpId.{OpId}
use Rattle.wasi_world.specs.declared.call.Call.{Call}
use Rattle.wasi_world.specs.declared.call.Call.TheVariants as call
use Rattle.wasi_world.specs.declared.call.Told.{Told}
use Rattle.wasi_world.specs.declared.call.Told.TheVariants as told
use Rattle.wasi_net.specs.declared.errno.Errno.{Errno}
use Rattle.wasi_net.specs.declared.hosts.Named.{Named}
use Rattle.wasi_net.specs.declared.calls.Transport.{Transport}
use Rattle.wasi_net.specs.declared.calls.Transport.TheVariants.{Tcp, Udp}
use Rattle.wasi_looks.specs.declared.look.Readiness.TheVariants as readiness
use Rattle.wasi_net.specs.declared.setting.Setting.TheVariants as setting
use Rattle.wasi_net.specs.declared.socket.Room.TheVariants.{Unknown}
use Rattle.wasi_net.specs.declared.socket.Stage.{Stage}
use Rattle.wasi_net.specs.declared.socket.Stage.TheVariants.{Open, Arrived}
use Rattle.wasi_net.specs.Errno.{code_of, accept_code, told_failed}
use Rattle.wasi_net.specs.Acts.{Acts, Status, after}
use Rattle.wasi_net.specs.Acts as act
use Rattle.wasi_net.specs.Storage.{domain_of, kind_of, disconnect, set_to}
use Rattle.wasi_net.specs.Does.{Does, Refuses, AddressTold, BindDoes, UdpBindDoes, ListenDoes, BacklogDoes, ReadyDoes, RoomDoes, ConnectDoes, ReadDoes, ShutdownDoes, SetDoes, GetDoes, UdpConnectDoes, UdpDisconnectDoes, ReceiveDoes}
use Rattle.wasi_net.specs.Allowed.{Policy, verdict}
use Rattle.wasi_net.specs.Hosts.{lookup_told}
use Rattle.wasi_net.specs.Known.{Known, at_stage, Sides, Same, With}

-- == one socket
-- what a call on a network socket reports that isn't there
abbrev pub missing : Call → Told
missing (call.Check _ _ _) = told.No
missing (call.Hand _ _) = told.Done
missing (call.Refuse _ _) = told.Done
missing (call.ReadReady _) = told.Done
missing (call.WriteReady _) = told.Done
missing (call.Shutdown _ _) = told.Done
missing (call.Close _) = told.Done
missing (call.Made _ _ _ _) = told.Done
missing _ = told.Code InvalidState

-- an arrival is open from now on
abbrev pub HandDoes : Known → Told → Known → Acts → Acts → Type 0
HandDoes k t now old new = (t ≡ told.Done) × (now ≡ at_stage k Open) × (new ≡ old)

-- the socket is as before
abbrev pub Stays : (Told → Acts → Acts → Type 0) → Known → Told → Known → Acts → Acts → Type 0
Stays D k t now old new = D t old new × (now ≡ k)

abbrev pub OnSide : Call → Known → Told → Known → Acts → Acts → Type 0
OnSide (call.Local _) k = Stays (Does (act.Local k.fd) AddressTold) k
OnSide (call.Peer _) k = Stays (Does (act.Peer k.fd) AddressTold) k
OnSide (call.Bind _ addr) k = Stays (BindDoes k.fd addr) k
OnSide (call.UdpBind _ addr) k = Stays (UdpBindDoes k.fd addr) k
OnSide (call.UdpConnect _ addr) k = Stays (UdpConnectDoes k.fd addr) k
OnSide (call.UdpDisconnect _) k = Stays (UdpDisconnectDoes k.fd) k
OnSide (call.Listen _ backlog) k = Stays (ListenDoes k.fd backlog) k
OnSide (call.SetBacklog _ backlog) k = Stays (BacklogDoes k.fd backlog) k
OnSide (call.Connect _ addr) k = ConnectDoes addr k
OnSide (call.Hand _ _) k = HandDoes k
OnSide (call.Read _ size) k = Stays (ReadDoes k.fd size) k
OnSide (call.Recv _) k = Stays (ReceiveDoes k.fd) k
OnSide (call.ReadReady _) k = Stays (ReadyDoes k.fd readiness.Read) k
OnSide (call.WriteReady _) k = RoomDoes k
OnSide (call.UdpWritable _) k = Stays (ReadyDoes k.fd readiness.Write) k
OnSide (call.Shutdown _ how) k = Stays (ShutdownDoes k.fd how) k
OnSide (call.GetOption _ option) k = Stays (GetDoes k option) k
OnSide (call.SetOption _ option value) k = Stays (SetDoes k option value) k
OnSide c k = Stays (Refuses (missing c)) k

-- == all sockets
-- the network socket that a call is on; an arrival has the name of the accept that hands it over
abbrev pub side_of : OpId → Call → Option OpId
side_of op (call.Local sock) = Some sock
side_of op (call.Peer sock) = Some sock
side_of op (call.Bind sock _) = Some sock
side_of op (call.UdpBind sock _) = Some sock
side_of op (call.UdpConnect sock _) = Some sock
side_of op (call.UdpDisconnect sock) = Some sock
side_of op (call.UdpWritable sock) = Some sock
side_of op (call.Listen sock _) = Some sock
side_of op (call.SetBacklog sock _) = Some sock
side_of op (call.Connect sock _) = Some sock
side_of op (call.Hand _ _) = Some op
side_of op (call.Read sock _) = Some sock
side_of op (call.Recv sock) = Some sock
side_of op (call.ReadReady sock) = Some sock
side_of op (call.WriteReady sock) = Some sock
side_of op (call.Shutdown sock _) = Some sock
side_of op (call.GetOption sock _) = Some sock
side_of op (call.SetOption sock _ _) = Some sock
side_of op _ = None

-- this is answered, all sockets stay, and no call of the system is made
abbrev pub TellsOnly : Told → Sides → Told → Sides → Acts → Acts → Type 0
TellsOnly answer before t now old new = (t ≡ answer) × Same before now × (new ≡ old)

-- The socket of one name answered, and the others stay.
pub record Answers (P : Known → Told → Known → Acts → Acts → Type 0) (place : OpId) (k : Known) (before : Sides) (t : Told) (now : Sides) (old new : Acts) : Type 0 where
  pub becomes : Known
  pub does : P k t becomes old new
  pub stands : With before place (Some becomes) now

-- a socket answers where it is there
abbrev pub AnswersAt : (Known → Told → Known → Acts → Acts → Type 0) → Told → OpId → Option Known → Sides → Told → Sides → Acts → Acts → Type 0
AnswersAt P absent place (Some k) before t now old new = Answers P place k before t now old new
AnswersAt P absent place None before t now old new = TellsOnly absent before t now old new

abbrev pub OnItsSide : Call → Option OpId → Sides → Told → Sides → Acts → Acts → Type 0
OnItsSide c (Some place) before t now old new = AnswersAt (OnSide c) (missing c) place (before place) before t now old new
OnItsSide c None before t now old new = TellsOnly (missing c) before t now old new

-- == what makes sockets and closes them
-- a socket of this descriptor stands under the name
abbrev pub Opens : OpId → SocketAddressFamily → ℤ → Sides → Told → Sides → Type 0
Opens op family fd before t now = (t ≡ told.Done) × With before op (Some (record { fd = fd; family = family; stage = Open; room = Unknown })) now

-- this is answered, all sockets stay, and the descriptor that was made is closed
abbrev pub ClosesMade : ℤ → Told → Sides → Told → Sides → Acts → Acts → Type 0
ClosesMade fd answer before t now old new = (t ≡ answer) × Same before now × (new ≡ after (act.Close fd) old)

-- an IPv6 socket is for IPv6 alone, or is closed
abbrev pub OnlyV6 : Status → OpId → ℤ → Sides → Told → Sides → Acts → Acts → Type 0
OnlyV6 (Ok _) op fd before t now old new = Opens op family.Ipv6 fd before t now × (new ≡ old)
OnlyV6 (Err e) op fd before t now old new = ClosesMade fd (told.Code (code_of e)) before t now old new

abbrev pub OnMade : SocketAddressFamily → OpId → ℤ → Sides → Told → Sides → Acts → Acts → Type 0
OnMade family.Ipv4 op fd before t now old new = Opens op family.Ipv4 fd before t now × (new ≡ old)
OnMade family.Ipv6 op fd before t now old new = (r : Status) × OnlyV6 r op fd before t now (after (set_to fd setting.V6Only 1 r) old) new

abbrev pub OnSocket : Result ℤ Errno → SocketAddressFamily → OpId → Sides → Told → Sides → Acts → Acts → Type 0
OnSocket (Ok fd) family op before t now old new = OnMade family op fd before t now old new
OnSocket (Err e) family op before t now old new = TellsOnly (told.Code (code_of e)) before t now old new

abbrev pub CreateAsks : Transport → SocketAddressFamily → OpId → Sides → Told → Sides → Acts → Acts → Type 0
CreateAsks transport family op before t now old new =
    (r : Result ℤ Errno) × OnSocket r family op before t now (after (act.Socket (domain_of family) (kind_of transport) r) old) new

-- none is made under a name that a socket has already
abbrev pub CreateDoes : Transport → SocketAddressFamily → OpId → Option Known → Sides → Told → Sides → Acts → Acts → Type 0
CreateDoes transport family op (Some own) before t now old new = TellsOnly (told.Code InvalidState) before t now old new
CreateDoes transport family op None before t now old new = CreateAsks transport family op before t now old new

-- an arrival stands under the name of its accept, or is closed where its sender's family is unknown
abbrev pub OnArrival : SocketAddressFamily → OpId → ℤ → Sides → Told → Sides → Acts → Acts → Type 0
OnArrival family op fd before (told.Arrived peer) now old new = With before op (Some (record { fd = fd; family = family; stage = Arrived peer; room = Unknown })) now × (new ≡ old)
OnArrival family op fd before (told.Code c) now old new = (c ≡ NotSupported) × Same before now × (new ≡ after (act.Close fd) old)
OnArrival family op fd before _ now old new = ⊥

abbrev pub OnAccept : Result ℤ Errno → SocketAddressFamily → OpId → Sides → Told → Sides → Acts → Acts → Type 0
OnAccept (Ok fd) family op before t now old new = OnArrival family op fd before t now old new
OnAccept (Err e) family op before t now old new = TellsOnly (told_failed e (accept_code e)) before t now old new

-- a socket is asked for its next arrival, which stands under the accept's own name
abbrev pub AcceptAsks : OpId → ℤ → SocketAddressFamily → Sides → Told → Sides → Acts → Acts → Type 0
AcceptAsks op fd family before t now old new = (r : Result ℤ Errno) × OnAccept r family op before t now (after (act.Accept fd r) old) new

-- what an accept tells whose name a socket has already: the arrival that it is
abbrev pub own_told : Stage → Told
own_told (Arrived peer) = told.Arrived peer
own_told _ = told.Code InvalidState

abbrev pub AcceptDoes : OpId → Option Known → Option Known → Sides → Told → Sides → Acts → Acts → Type 0
AcceptDoes op (Some own) listener before t now old new = TellsOnly (own_told own.stage) before t now old new
AcceptDoes op None (Some k) before t now old new = AcceptAsks op k.fd k.family before t now old new
AcceptDoes op None None before t now old new = TellsOnly (told.Code InvalidState) before t now old new

-- an arrival that is refused is reset
abbrev pub Resets : Option Known → Acts → Acts → Type 0
Resets (Some k) old new = (r : Status) × (new ≡ after (disconnect k.fd r) old)
Resets None old new = new ≡ old

-- a socket is closed where it is there
abbrev pub closed_after : Option Known → Acts → Acts
closed_after (Some k) acts = after (act.Close k.fd) acts
closed_after None acts = acts

-- the socket of one name is closed, and no other
abbrev pub ClosesOnly : OpId → Sides → Sides → Acts → Acts → Type 0
ClosesOnly sock before now old new = With before sock None now × (new ≡ closed_after (before sock) old)

abbrev pub RefuseDoes : OpId → Sides → Told → Sides → Acts → Acts → Type 0
RefuseDoes op before t now old new = (t ≡ told.Done) × (mid : Acts) × Resets (before op) old mid × ClosesOnly op before now mid new

abbrev pub CloseDoes : OpId → Sides → Told → Sides → Acts → Acts → Type 0
CloseDoes sock before t now old new = (t ≡ told.Done) × ClosesOnly sock before now old new

-- == out of memory
-- the descriptor that was made is closed
abbrev pub MadeUndone : SocketAddressFamily → ℤ → Acts → Acts → Type 0
MadeUndone family.Ipv4 fd old new = new ≡ after (act.Close fd) old
MadeUndone family.Ipv6 fd old new = (r : Status) × (new ≡ after (act.Close fd) (after (set_to fd setting.V6Only 1 r) old))

abbrev pub CreateUndone : Transport → SocketAddressFamily → Acts → Acts → Type 0
CreateUndone transport family old new = (fd : ℤ) × MadeUndone family fd (after (act.Socket (domain_of family) (kind_of transport) (Ok fd)) old) new

-- the arrival is closed
abbrev pub AcceptUndone : ℤ → Acts → Acts → Type 0
AcceptUndone fd old new = (made : ℤ) × (new ≡ after (act.Close made) (after (act.Accept fd (Ok made)) old))

abbrev pub AcceptUndoneAt : Option Known → Acts → Acts → Type 0
AcceptUndoneAt (Some k) old new = AcceptUndone k.fd old new
AcceptUndoneAt None old new = ⊥

-- which calls of the system were made for a call that memory ran out in
abbrev pub Undone : Sides → Call → Acts → Acts → Type 0
Undone before (call.TcpCreate _ family) old new = CreateUndone Tcp family old new
Undone before (call.UdpCreate _ family) old new = CreateUndone Udp family old new
Undone before (call.Accept sock) old new = AcceptUndoneAt (before sock) old new
Undone before _ old new = new ≡ old

-- none was made for want of memory before the call, or these
abbrev pub NoMemory : Sides → Call → Acts → Acts → Type 0
NoMemory before c old new = (new ≡ old) ⊎ Undone before c old new

-- == any call but a write and a send
abbrev pub OnNetwork : Policy → List Named → Sides → OpId → Call → Told → Sides → Acts → Acts → Type 0
OnNetwork policy names before op (call.Check _ addr usage) t now old new = TellsOnly (verdict policy addr usage) before t now old new
OnNetwork policy names before op (call.Lookup host) t now old new = TellsOnly (lookup_told names host) before t now old new
OnNetwork policy names before op (call.TcpCreate _ family) t now old new = CreateDoes Tcp family op (before op) before t now old new
OnNetwork policy names before op (call.UdpCreate _ family) t now old new = CreateDoes Udp family op (before op) before t now old new
OnNetwork policy names before op (call.Accept sock) t now old new = AcceptDoes op (before op) (before sock) before t now old new
OnNetwork policy names before op (call.Refuse _ _) t now old new = RefuseDoes op before t now old new
OnNetwork policy names before op (call.Close sock) t now old new = CloseDoes sock before t now old new
OnNetwork policy names before op (call.Made _ _ _ _) t now old new = TellsOnly told.Done before t now old new
OnNetwork policy names before op c t now old new = OnItsSide c (side_of op c) before t now old new
