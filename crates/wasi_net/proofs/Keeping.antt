-- What each call keeps of whose the open descriptors are.
use Rattle.std.proofs.Common.{◌≡◌, inl, inr, ℤ, ℕ, Bool, true, false, List, Option, Some, None, Result, Ok, Err, refl, sym, ap, subst, ◌∙◌}
use Rattle.std.specs.Prelude.{◌==◌}
use Rattle.wasi_addr.specs.declared.address.IpSocketAddress.{IpSocketAddress}
use Rattle.wasi_addr.specs.declared.address.SocketAddressFamily.{SocketAddressFamily}
use Rattle.wasi_addr.specs.declared.address.SocketAddressFamily.TheVariants as family
use Rattle.wasi_world.specs.declared.ids.OpId.{OpId}
use Rattle.wasi_world.specs.Sides.{is_same}
use Rattle.wasi_world.specs.declared.call.Call.{Call}
use Rattle.wasi_world.specs.declared.call.Call.TheVariants as call
use Rattle.wasi_world.specs.declared.call.Told.{Told}
use Rattle.wasi_world.specs.declared.call.Told.TheVariants as told
use Rattle.wasi_world.specs.declared.call.Opt.{Opt}
use Rattle.wasi_looks.specs.declared.look.Readiness.TheVariants.{Write}
use Rattle.wasi_net.specs.declared.calls.Transport.{Transport}
use Rattle.wasi_net.specs.declared.calls.Transport.TheVariants.{Tcp, Udp}
use Rattle.wasi_net.specs.declared.errno.Errno.{Errno}
use Rattle.wasi_net.specs.declared.hosts.Named.{Named}
use Rattle.wasi_net.specs.declared.setting.Setting.{Setting}
use Rattle.wasi_net.specs.declared.setting.Setting.TheVariants as setting
use Rattle.wasi_net.specs.declared.socket.Room.{Room}
use Rattle.wasi_net.specs.declared.socket.Room.TheVariants.{Unknown, Found}
use Rattle.wasi_net.specs.Acts.{Act, Acts, Status, after}
use Rattle.wasi_net.specs.Acts as act
use Rattle.wasi_net.specs.Allowed.{Policy}
use Rattle.wasi_net.specs.Errno.{goes_on}
use Rattle.wasi_net.specs.Ready.{look}
use Rattle.wasi_net.specs.Storage.{domain_of, kind_of, connect_to, disconnect, set_to}
use Rattle.wasi_net.specs.Does.{Does, ConnectAsks, OnReady, OnLook, OnConnect, OnConnected, OnConnecting, OnInvalid, OnUdpConnect, OnSetting, OnGetting, setting_of, is_connecting, OnRoom, WriteDoes, SendDoes}
use Rattle.wasi_net.specs.Known.{Known, Sides, Same, With}
use Rattle.wasi_net.specs.Answers.{OnSide, Stays, TellsOnly, AnswersAt, OnItsSide, missing, OnSocket, OnMade, OnlyV6, CreateDoes, OnArrival, OnAccept, AcceptDoes, Resets, ClosesOnly, RefuseDoes, closed_after, MadeUndone, CreateUndone, AcceptUndoneAt, Undone, NoMemory, OnNetwork}
use Rattle.wasi_net.specs.Owned.{Owned}
use Rattle.wasi_net.proofs.Sides.{same_name}
use Rattle.wasi_net.proofs.Owned.{Quiet, Hand, quiet_owned, made_hand, quiet_hand, close_hand, kept_hand, closed_owned, same_owned, stands_owned}

-- whose the open descriptors are stays
abbrev pub Keeps : Acts → Acts → Type 0
Keeps old new = (sides : Sides) → Owned sides old → Owned sides new

pub nothing_keeps : (old new : Acts) → new ≡ old → Keeps old new
nothing_keeps old new e sides h = subst (Owned sides) (sym e) h

pub does_keeps : {A : Type 0} (acts : A → Act) (Tells : A → Told → Type 0) (t : Told) (old new : Acts) → ((a : A) → Quiet (acts a)) → Does acts Tells t old new → Keeps old new
does_keeps acts Tells t old new quiet d sides h = subst (Owned sides) (sym d.acted) (quiet_owned sides (acts d.answer) old (quiet d.answer) h)

-- == a connect
ready_keeps : (b : Bool) (k : Known) (t : Told) (now : Known) (old new : Acts) → OnReady b k t now old new → (now.fd ≡ k.fd) × Keeps old new
ready_keeps true k t now old new h = (ap (λ (k : Known). k.fd) h.1, nothing_keeps old new h.2)
ready_keeps false k t now old new h = (ap (λ (k : Known). k.fd) h.1, does_keeps _ _ t old new (λ a. record { made = refl; closed = refl }) h.0)

look_keeps : (r : Result ℕ Errno) (k : Known) (t : Told) (now : Known) (old new : Acts) → OnLook r k t now old new → (now.fd ≡ k.fd) × Keeps old new
look_keeps (Ok n) k t now old new h = ready_keeps (n == 0) k t now old new h
look_keeps (Err e) k t now old new h = (ap (λ (k : Known). k.fd) h.1, nothing_keeps old new h.2)

asks_keeps : (k : Known) (t : Told) (now : Known) (old new : Acts) → ConnectAsks k t now old new → (now.fd ≡ k.fd) × Keeps old new
asks_keeps k t now old new h =
    let rest = look_keeps h.0 k t now (after (look k.fd Write h.0) old) new h.1 in
    (rest.0, λ sides o. rest.1 sides (quiet_owned sides (look k.fd Write h.0) old (record { made = refl; closed = refl }) o))

goes_keeps : (b : Bool) (e : Errno) (k : Known) (t : Told) (now : Known) (old new : Acts) → OnConnect b e k t now old new → (now.fd ≡ k.fd) × Keeps old new
goes_keeps true e k t now old new h = asks_keeps k t now old new h
goes_keeps false e k t now old new h = (ap (λ (k : Known). k.fd) h.1, nothing_keeps old new h.2)

connected_keeps : (r : Status) (k : Known) (t : Told) (now : Known) (old new : Acts) → OnConnected r k t now old new → (now.fd ≡ k.fd) × Keeps old new
connected_keeps (Ok done) k t now old new h = (ap (λ (k : Known). k.fd) h.1, nothing_keeps old new h.2)
connected_keeps (Err e) k t now old new h = goes_keeps (goes_on e) e k t now old new h

connecting_keeps : (b : Bool) (addr : IpSocketAddress) (k : Known) (t : Told) (now : Known) (old new : Acts) → OnConnecting b addr k t now old new → (now.fd ≡ k.fd) × Keeps old new
connecting_keeps true addr k t now old new h = asks_keeps k t now old new h
connecting_keeps false addr k t now old new h =
    let rest = connected_keeps h.0 k t now (after (connect_to k.fd addr h.0) old) new h.1 in
    (rest.0, λ sides o. rest.1 sides (quiet_owned sides (connect_to k.fd addr h.0) old (record { made = refl; closed = refl }) o))

-- == a UDP connect
invalid_keeps : (b : Bool) (e : Errno) (fd : ℤ) (addr : IpSocketAddress) (t : Told) (old new : Acts) → OnInvalid b e fd addr t old new → Keeps old new
invalid_keeps true e fd addr t old new h = λ sides o.
    does_keeps _ _ t (after (disconnect fd h.0) old) new (λ a. record { made = refl; closed = refl }) h.1 sides (quiet_owned sides (disconnect fd h.0) old (record { made = refl; closed = refl }) o)
invalid_keeps false e fd addr t old new h = nothing_keeps old new h.1

udp_keeps : (r : Status) (fd : ℤ) (addr : IpSocketAddress) (t : Told) (old new : Acts) → OnUdpConnect r fd addr t old new → Keeps old new
udp_keeps (Ok done) fd addr t old new h = nothing_keeps old new h.1
udp_keeps (Err e) fd addr t old new h = invalid_keeps (e.number == 22) e fd addr t old new h

-- == options
setting_keeps : (o : Option Setting) (option : Opt) (fd : ℤ) (value : ℕ) (t : Told) (old new : Acts) → OnSetting o option fd value t old new → Keeps old new
setting_keeps (Some s) option fd value t old new h = does_keeps _ _ t old new (λ a. record { made = refl; closed = refl }) h
setting_keeps None option fd value t old new h = nothing_keeps old new h.1

getting_keeps : (o : Option Setting) (option : Opt) (fd : ℤ) (t : Told) (old new : Acts) → OnGetting o option fd t old new → Keeps old new
getting_keeps (Some s) option fd t old new h = does_keeps _ _ t old new (λ a. record { made = refl; closed = refl }) h
getting_keeps None option fd t old new h = nothing_keeps old new h.1

-- == a call on one socket, which keeps its descriptor
abbrev pub KeepsIts : Known → Known → Acts → Acts → Type 0
KeepsIts k now old new = (now.fd ≡ k.fd) × Keeps old new

stays_its : (k now : Known) (old new : Acts) → now ≡ k → Keeps old new → KeepsIts k now old new
stays_its k now old new e h = (ap (λ (k : Known). k.fd) e, h)

room_keeps : (room : Room) (k : Known) (t : Told) (now : Known) (old new : Acts) → OnRoom room k t now old new → KeepsIts k now old new
room_keeps Found k t now old new h = stays_its k now old new h.1 (nothing_keeps old new h.2)
room_keeps Unknown k t now old new h = (ap (λ (k : Known). k.fd) h.1, does_keeps _ _ t old new (λ a. record { made = refl; closed = refl }) h.0)

side_keeps : (c : Call) (k : Known) (t : Told) (now : Known) (old new : Acts) → OnSide c k t now old new → KeepsIts k now old new
side_keeps (call.Local _) k t now old new h = stays_its k now old new h.1 (does_keeps _ _ t old new (λ a. record { made = refl; closed = refl }) h.0)
side_keeps (call.Peer _) k t now old new h = stays_its k now old new h.1 (does_keeps _ _ t old new (λ a. record { made = refl; closed = refl }) h.0)
side_keeps (call.Bind _ addr) k t now old new h =
    stays_its k now old new h.1
    (λ sides o. does_keeps _ _ t (after (set_to k.fd setting.ReuseAddress 1 h.0.0) old) new (λ a. record { made = refl; closed = refl }) h.0.1 sides (quiet_owned sides (set_to k.fd setting.ReuseAddress 1 h.0.0) old (record { made = refl; closed = refl }) o))
side_keeps (call.UdpBind _ addr) k t now old new h = stays_its k now old new h.1 (does_keeps _ _ t old new (λ a. record { made = refl; closed = refl }) h.0)
side_keeps (call.UdpConnect _ addr) k t now old new h =
    stays_its k now old new h.1
    (λ sides o. udp_keeps h.0.0 k.fd addr t (after (connect_to k.fd addr h.0.0) old) new h.0.1 sides (quiet_owned sides (connect_to k.fd addr h.0.0) old (record { made = refl; closed = refl }) o))
side_keeps (call.UdpDisconnect _) k t now old new h = stays_its k now old new h.1 (does_keeps _ _ t old new (λ a. record { made = refl; closed = refl }) h.0)
side_keeps (call.Listen _ backlog) k t now old new h = stays_its k now old new h.1 (does_keeps _ _ t old new (λ a. record { made = refl; closed = refl }) h.0)
side_keeps (call.SetBacklog _ backlog) k t now old new h = stays_its k now old new h.1 (does_keeps _ _ t old new (λ a. record { made = refl; closed = refl }) h.0)
side_keeps (call.Connect _ addr) k t now old new h = connecting_keeps (is_connecting k) addr k t now old new h
side_keeps (call.Hand _ _) k t now old new h = (ap (λ (k : Known). k.fd) h.1, nothing_keeps old new h.2)
side_keeps (call.Read _ size) k t now old new h = stays_its k now old new h.1 (does_keeps _ _ t old new (λ a. record { made = refl; closed = refl }) h.0)
side_keeps (call.Recv _) k t now old new h = stays_its k now old new h.1 (does_keeps _ _ t old new (λ a. record { made = refl; closed = refl }) h.0)
side_keeps (call.ReadReady _) k t now old new h = stays_its k now old new h.1 (does_keeps _ _ t old new (λ a. record { made = refl; closed = refl }) h.0)
side_keeps (call.WriteReady _) k t now old new h = room_keeps k.room k t now old new h
side_keeps (call.UdpWritable _) k t now old new h = stays_its k now old new h.1 (does_keeps _ _ t old new (λ a. record { made = refl; closed = refl }) h.0)
side_keeps (call.Shutdown _ how) k t now old new h = stays_its k now old new h.1 (does_keeps _ _ t old new (λ a. record { made = refl; closed = refl }) h.0)
side_keeps (call.GetOption _ option) k t now old new h = stays_its k now old new h.1 (getting_keeps (setting_of k.family option) option k.fd t old new h.0)
side_keeps (call.SetOption _ option value) k t now old new h = stays_its k now old new h.1 (setting_keeps (setting_of k.family option) option k.fd value t old new h.0)
side_keeps (call.Check _ _ _) k t now old new h = stays_its k now old new h.1 (nothing_keeps old new h.0.1)
side_keeps (call.Lookup _) k t now old new h = stays_its k now old new h.1 (nothing_keeps old new h.0.1)
side_keeps (call.TcpCreate _ _) k t now old new h = stays_its k now old new h.1 (nothing_keeps old new h.0.1)
side_keeps (call.UdpCreate _ _) k t now old new h = stays_its k now old new h.1 (nothing_keeps old new h.0.1)
side_keeps (call.Accept _) k t now old new h = stays_its k now old new h.1 (nothing_keeps old new h.0.1)
side_keeps (call.Refuse _ _) k t now old new h = stays_its k now old new h.1 (nothing_keeps old new h.0.1)
side_keeps (call.Write _ _) k t now old new h = stays_its k now old new h.1 (nothing_keeps old new h.0.1)
side_keeps (call.Send _ _ _) k t now old new h = stays_its k now old new h.1 (nothing_keeps old new h.0.1)
side_keeps (call.Close _) k t now old new h = stays_its k now old new h.1 (nothing_keeps old new h.0.1)
side_keeps (call.Made _ _ _ _) k t now old new h = stays_its k now old new h.1 (nothing_keeps old new h.0.1)

-- == all sockets
tells_keeps : (answer : Told) (before : Sides) (t : Told) (now : Sides) (old new : Acts) → TellsOnly answer before t now old new → Owned before old → Owned now new
tells_keeps answer before t now old new h o = same_owned before now new h.1 (nothing_keeps old new h.2 before o)

pub at_keeps : (P : Known → Told → Known → Acts → Acts → Type 0) (absent : Told) (place : OpId) (found : Option Known) (before : Sides) (t : Told) (now : Sides) (old new : Acts) → ((k becomes : Known) → P k t becomes old new → KeepsIts k becomes old new) → before place ≡ found → AnswersAt P absent place found before t now old new → Owned before old → Owned now new
at_keeps P absent place (Some k) before t now old new keeps was h o =
    let its = keeps k h.becomes h.does in
    stands_owned before now new place k h.becomes was its.0 h.stands (its.1 before o)
at_keeps P absent place None before t now old new keeps was h o = tells_keeps absent before t now old new h o

its_side_keeps : (c : Call) (o : Option OpId) (before : Sides) (t : Told) (now : Sides) (old new : Acts) → OnItsSide c o before t now old new → Owned before old → Owned now new
its_side_keeps c (Some place) before t now old new h o = at_keeps (OnSide c) (missing c) place (before place) before t now old new (λ k becomes does. side_keeps c k t becomes old new does) refl h o
its_side_keeps c None before t now old new h o = tells_keeps (missing c) before t now old new h o

-- a write and a send
pub write_keeps : (sock : OpId) (bytes : List ℕ) (absent : Told) (before : Sides) (t : Told) (now : Sides) (old new : Acts) → AnswersAt (WriteDoes bytes) absent sock (before sock) before t now old new → Owned before old → Owned now new
write_keeps sock bytes absent before t now old new h o =
    at_keeps (WriteDoes bytes) absent sock (before sock) before t now old new
    (λ k becomes does. (ap (λ (k : Known). k.fd) does.1, does_keeps _ _ t old new (λ a. record { made = refl; closed = refl }) does.0)) refl h o

pub send_keeps : (sock : OpId) (addr : IpSocketAddress) (bytes : List ℕ) (absent : Told) (before : Sides) (t : Told) (now : Sides) (old new : Acts) → AnswersAt (λ k. Stays (SendDoes k.fd addr bytes) k) absent sock (before sock) before t now old new → Owned before old → Owned now new
send_keeps sock addr bytes absent before t now old new h o =
    at_keeps (λ k. Stays (SendDoes k.fd addr bytes) k) absent sock (before sock) before t now old new
    (λ k becomes does. stays_its k becomes old new does.1 (does_keeps _ _ t old new (λ a. record { made = refl; closed = refl }) does.0)) refl h o

-- == what makes sockets
kept : (before now : Sides) (fd : ℤ) (old new : Acts) (op : OpId) (k : Known) → before op ≡ None → k.fd ≡ fd → With before op (Some k) now → new ≡ old → Hand before fd old → Owned now new
kept before now fd old new op k unused is stands e h = subst (Owned now) (sym e) (kept_hand before now fd old op k unused is stands h)

closed : (before now : Sides) (fd : ℤ) (old new : Acts) → Same before now → new ≡ after (act.Close fd) old → Hand before fd old → Owned now new
closed before now fd old new same e h = subst (Owned now) (sym e) (same_owned before now (after (act.Close fd) old) same (close_hand before fd old h))

v6_keeps : (r : Status) (op : OpId) (fd : ℤ) (before : Sides) (t : Told) (now : Sides) (old new : Acts) → before op ≡ None → OnlyV6 r op fd before t now old new → Hand before fd old → Owned now new
v6_keeps (Ok done) op fd before t now old new unused h o = kept before now fd old new op _ unused refl h.0.1 h.1 o
v6_keeps (Err e) op fd before t now old new unused h o = closed before now fd old new h.1 h.2 o

made_keeps : (family : SocketAddressFamily) (op : OpId) (fd : ℤ) (before : Sides) (t : Told) (now : Sides) (old new : Acts) → before op ≡ None → OnMade family op fd before t now old new → Hand before fd old → Owned now new
made_keeps family.Ipv4 op fd before t now old new unused h o = kept before now fd old new op _ unused refl h.0.1 h.1 o
made_keeps family.Ipv6 op fd before t now old new unused h o =
    v6_keeps h.0 op fd before t now (after (set_to fd setting.V6Only 1 h.0) old) new unused h.1 (quiet_hand before fd (set_to fd setting.V6Only 1 h.0) old (record { made = refl; closed = refl }) o)

socket_keeps : (r : Result ℤ Errno) (transport : Transport) (family : SocketAddressFamily) (op : OpId) (before : Sides) (t : Told) (now : Sides) (old new : Acts) → before op ≡ None → OnSocket r family op before t now (after (act.Socket (domain_of family) (kind_of transport) r) old) new → Owned before old → Owned now new
socket_keeps (Ok fd) transport family op before t now old new unused h o =
    made_keeps family op fd before t now (after (act.Socket (domain_of family) (kind_of transport) (Ok fd)) old) new unused h (made_hand before (act.Socket (domain_of family) (kind_of transport) (Ok fd)) fd old refl refl o)
socket_keeps (Err e) transport family op before t now old new unused h o =
    tells_keeps _ before t now (after (act.Socket (domain_of family) (kind_of transport) (Err e)) old) new h (quiet_owned before (act.Socket (domain_of family) (kind_of transport) (Err e)) old (record { made = refl; closed = refl }) o)

create_keeps : (transport : Transport) (family : SocketAddressFamily) (op : OpId) (found : Option Known) (before : Sides) (t : Told) (now : Sides) (old new : Acts) → before op ≡ found → CreateDoes transport family op found before t now old new → Owned before old → Owned now new
create_keeps transport family op (Some own) before t now old new was h o = tells_keeps _ before t now old new h o
create_keeps transport family op None before t now old new unused h o = socket_keeps h.0 transport family op before t now old new unused h.1 o

arrival_keeps : (family : SocketAddressFamily) (op : OpId) (fd : ℤ) (before : Sides) (t : Told) (now : Sides) (old new : Acts) → before op ≡ None → OnArrival family op fd before t now old new → Hand before fd old → Owned now new
arrival_keeps family op fd before (told.Arrived peer) now old new unused h o = kept before now fd old new op _ unused refl h.0 h.1 o
arrival_keeps family op fd before (told.Code c) now old new unused h o = closed before now fd old new h.1 h.2 o
arrival_keeps family op fd before told.Pending now old new unused h o = absurd h
arrival_keeps family op fd before told.Done now old new unused h o = absurd h
arrival_keeps family op fd before told.Yes now old new unused h o = absurd h
arrival_keeps family op fd before told.No now old new unused h o = absurd h
arrival_keeps family op fd before (told.Addr _) now old new unused h o = absurd h
arrival_keeps family op fd before (told.Bytes _) now old new unused h o = absurd h
arrival_keeps family op fd before (told.Took _) now old new unused h o = absurd h
arrival_keeps family op fd before (told.Datagram _ _) now old new unused h o = absurd h
arrival_keeps family op fd before (told.Value _) now old new unused h o = absurd h
arrival_keeps family op fd before (told.Names _) now old new unused h o = absurd h

accepts_keep : (r : Result ℤ Errno) (fd : ℤ) (family : SocketAddressFamily) (op : OpId) (before : Sides) (t : Told) (now : Sides) (old new : Acts) → before op ≡ None → OnAccept r family op before t now (after (act.Accept fd r) old) new → Owned before old → Owned now new
accepts_keep (Ok made) fd family op before t now old new unused h o =
    arrival_keeps family op made before t now (after (act.Accept fd (Ok made)) old) new unused h (made_hand before (act.Accept fd (Ok made)) made old refl refl o)
accepts_keep (Err e) fd family op before t now old new unused h o =
    tells_keeps _ before t now (after (act.Accept fd (Err e)) old) new h (quiet_owned before (act.Accept fd (Err e)) old (record { made = refl; closed = refl }) o)

accept_keeps : (op : OpId) (own listener : Option Known) (before : Sides) (t : Told) (now : Sides) (old new : Acts) → before op ≡ own → AcceptDoes op own listener before t now old new → Owned before old → Owned now new
accept_keeps op (Some own) listener before t now old new was h o = tells_keeps _ before t now old new h o
accept_keeps op None (Some k) before t now old new unused h o = accepts_keep h.0 k.fd k.family op before t now old new unused h.1 o
accept_keeps op None None before t now old new unused h o = tells_keeps _ before t now old new h o

-- == what closes them
gone_same : (before now : Sides) (sock : OpId) → before sock ≡ None → With before sock None now → Same before now
gone_same before now sock none gone = λ name. by_test name (is_same sock name) refl
  where
    by_test : (name : OpId) (b : Bool) → is_same sock name ≡ b → now name ≡ before name
    by_test name true same = gone name ∙ rw same refl ∙ sym (ap before (sym (same_name sock name same)) ∙ none)
    by_test name false other = gone name ∙ rw other refl

closes_found : (sock : OpId) (found : Option Known) (before now : Sides) (old new : Acts) → before sock ≡ found → With before sock None now → new ≡ closed_after found old → Owned before old → Owned now new
closes_found sock (Some k) before now old new was gone e o = subst (Owned now) (sym e) (closed_owned before now sock k old was gone o)
closes_found sock None before now old new none gone e o = same_owned before now new (gone_same before now sock none gone) (nothing_keeps old new e before o)

pub closes_keep : (sock : OpId) (before now : Sides) (old new : Acts) → ClosesOnly sock before now old new → Owned before old → Owned now new
closes_keep sock before now old new h o = closes_found sock (before sock) before now old new refl h.0 h.1 o

resets_keep : (found : Option Known) (old new : Acts) → Resets found old new → Keeps old new
resets_keep (Some k) old new h = λ sides o. subst (Owned sides) (sym h.1) (quiet_owned sides (disconnect k.fd h.0) old (record { made = refl; closed = refl }) o)
resets_keep None old new h = nothing_keeps old new h

refuse_keeps : (op : OpId) (before : Sides) (t : Told) (now : Sides) (old new : Acts) → RefuseDoes op before t now old new → Owned before old → Owned now new
refuse_keeps op before t now old new h o = closes_keep op before now h.1 new h.3 (resets_keep (before op) old h.1 h.2 before o)

-- == any call but a write and a send
pub network_keeps : (policy : Policy) (names : List Named) (before : Sides) (op : OpId) (c : Call) (t : Told) (now : Sides) (old new : Acts) → OnNetwork policy names before op c t now old new → Owned before old → Owned now new
network_keeps policy names before op (call.Check _ addr usage) t now old new h o = tells_keeps _ before t now old new h o
network_keeps policy names before op (call.Lookup host) t now old new h o = tells_keeps _ before t now old new h o
network_keeps policy names before op (call.TcpCreate _ family) t now old new h o = create_keeps Tcp family op (before op) before t now old new refl h o
network_keeps policy names before op (call.UdpCreate _ family) t now old new h o = create_keeps Udp family op (before op) before t now old new refl h o
network_keeps policy names before op (call.Accept sock) t now old new h o = accept_keeps op (before op) (before sock) before t now old new refl h o
network_keeps policy names before op (call.Refuse _ _) t now old new h o = refuse_keeps op before t now old new h o
network_keeps policy names before op (call.Close sock) t now old new h o = closes_keep sock before now old new h.1 o
network_keeps policy names before op (call.Made _ _ _ _) t now old new h o = tells_keeps _ before t now old new h o
network_keeps policy names before op (call.Local sock) t now old new h o = its_side_keeps (call.Local sock) (Some sock) before t now old new h o
network_keeps policy names before op (call.Peer sock) t now old new h o = its_side_keeps (call.Peer sock) (Some sock) before t now old new h o
network_keeps policy names before op (call.Bind sock addr) t now old new h o = its_side_keeps (call.Bind sock addr) (Some sock) before t now old new h o
network_keeps policy names before op (call.UdpBind sock addr) t now old new h o = its_side_keeps (call.UdpBind sock addr) (Some sock) before t now old new h o
network_keeps policy names before op (call.UdpConnect sock addr) t now old new h o = its_side_keeps (call.UdpConnect sock addr) (Some sock) before t now old new h o
network_keeps policy names before op (call.UdpDisconnect sock) t now old new h o = its_side_keeps (call.UdpDisconnect sock) (Some sock) before t now old new h o
network_keeps policy names before op (call.UdpWritable sock) t now old new h o = its_side_keeps (call.UdpWritable sock) (Some sock) before t now old new h o
network_keeps policy names before op (call.Listen sock backlog) t now old new h o = its_side_keeps (call.Listen sock backlog) (Some sock) before t now old new h o
network_keeps policy names before op (call.SetBacklog sock backlog) t now old new h o = its_side_keeps (call.SetBacklog sock backlog) (Some sock) before t now old new h o
network_keeps policy names before op (call.Connect sock addr) t now old new h o = its_side_keeps (call.Connect sock addr) (Some sock) before t now old new h o
network_keeps policy names before op (call.Hand sock peer) t now old new h o = its_side_keeps (call.Hand sock peer) (Some op) before t now old new h o
network_keeps policy names before op (call.Read sock size) t now old new h o = its_side_keeps (call.Read sock size) (Some sock) before t now old new h o
network_keeps policy names before op (call.Recv sock) t now old new h o = its_side_keeps (call.Recv sock) (Some sock) before t now old new h o
network_keeps policy names before op (call.ReadReady sock) t now old new h o = its_side_keeps (call.ReadReady sock) (Some sock) before t now old new h o
network_keeps policy names before op (call.WriteReady sock) t now old new h o = its_side_keeps (call.WriteReady sock) (Some sock) before t now old new h o
network_keeps policy names before op (call.Shutdown sock how) t now old new h o = its_side_keeps (call.Shutdown sock how) (Some sock) before t now old new h o
network_keeps policy names before op (call.GetOption sock option) t now old new h o = its_side_keeps (call.GetOption sock option) (Some sock) before t now old new h o
network_keeps policy names before op (call.SetOption sock option value) t now old new h o = its_side_keeps (call.SetOption sock option value) (Some sock) before t now old new h o
network_keeps policy names before op (call.Write sock bytes) t now old new h o = its_side_keeps (call.Write sock bytes) (None) before t now old new h o
network_keeps policy names before op (call.Send sock addr bytes) t now old new h o = its_side_keeps (call.Send sock addr bytes) (None) before t now old new h o

-- == out of memory
made_undone : (family : SocketAddressFamily) (fd : ℤ) (before now : Sides) (old new : Acts) → Same before now → MadeUndone family fd old new → Hand before fd old → Owned now new
made_undone family.Ipv4 fd before now old new same h o = closed before now fd old new same h o
made_undone family.Ipv6 fd before now old new same h o = closed before now fd (after (set_to fd setting.V6Only 1 h.0) old) new same h.1 (quiet_hand before fd (set_to fd setting.V6Only 1 h.0) old (record { made = refl; closed = refl }) o)

create_undone : (transport : Transport) (family : SocketAddressFamily) (before now : Sides) (old new : Acts) → Same before now → CreateUndone transport family old new → Owned before old → Owned now new
create_undone transport family before now old new same h o =
    made_undone family h.0 before now (after (act.Socket (domain_of family) (kind_of transport) (Ok h.0)) old) new same h.1 (made_hand before (act.Socket (domain_of family) (kind_of transport) (Ok h.0)) h.0 old refl refl o)

accept_undone : (found : Option Known) (before now : Sides) (old new : Acts) → Same before now → AcceptUndoneAt found old new → Owned before old → Owned now new
accept_undone (Some k) before now old new same h o =
    closed before now h.0 (after (act.Accept k.fd (Ok h.0)) old) new same h.1 (made_hand before (act.Accept k.fd (Ok h.0)) h.0 old refl refl o)
accept_undone None before now old new same h o = absurd h

pub same_keeps : (before now : Sides) (old new : Acts) → Same before now → new ≡ old → Owned before old → Owned now new
same_keeps before now old new same e o = same_owned before now new same (nothing_keeps old new e before o)

undone_keeps : (before : Sides) (c : Call) (now : Sides) (old new : Acts) → Same before now → Undone before c old new → Owned before old → Owned now new
undone_keeps before (call.TcpCreate _ family) now old new same h o = create_undone Tcp family before now old new same h o
undone_keeps before (call.UdpCreate _ family) now old new same h o = create_undone Udp family before now old new same h o
undone_keeps before (call.Accept sock) now old new same h o = accept_undone (before sock) before now old new same h o
undone_keeps before (call.Check _ _ _) now old new same h o = same_keeps before now old new same h o
undone_keeps before (call.Lookup _) now old new same h o = same_keeps before now old new same h o
undone_keeps before (call.Local _) now old new same h o = same_keeps before now old new same h o
undone_keeps before (call.Peer _) now old new same h o = same_keeps before now old new same h o
undone_keeps before (call.Bind _ _) now old new same h o = same_keeps before now old new same h o
undone_keeps before (call.UdpBind _ _) now old new same h o = same_keeps before now old new same h o
undone_keeps before (call.UdpConnect _ _) now old new same h o = same_keeps before now old new same h o
undone_keeps before (call.UdpDisconnect _) now old new same h o = same_keeps before now old new same h o
undone_keeps before (call.UdpWritable _) now old new same h o = same_keeps before now old new same h o
undone_keeps before (call.Listen _ _) now old new same h o = same_keeps before now old new same h o
undone_keeps before (call.SetBacklog _ _) now old new same h o = same_keeps before now old new same h o
undone_keeps before (call.Connect _ _) now old new same h o = same_keeps before now old new same h o
undone_keeps before (call.Hand _ _) now old new same h o = same_keeps before now old new same h o
undone_keeps before (call.Refuse _ _) now old new same h o = same_keeps before now old new same h o
undone_keeps before (call.Read _ _) now old new same h o = same_keeps before now old new same h o
undone_keeps before (call.Recv _) now old new same h o = same_keeps before now old new same h o
undone_keeps before (call.ReadReady _) now old new same h o = same_keeps before now old new same h o
undone_keeps before (call.WriteReady _) now old new same h o = same_keeps before now old new same h o
undone_keeps before (call.Write _ _) now old new same h o = same_keeps before now old new same h o
undone_keeps before (call.Send _ _ _) now old new same h o = same_keeps before now old new same h o
undone_keeps before (call.Shutdown _ _) now old new same h o = same_keeps before now old new same h o
undone_keeps before (call.GetOption _ _) now old new same h o = same_keeps before now old new same h o
undone_keeps before (call.SetOption _ _ _) now old new same h o = same_keeps before now old new same h o
undone_keeps before (call.Close _) now old new same h o = same_keeps before now old new same h o
undone_keeps before (call.Made _ _ _ _) now old new same h o = same_keeps before now old new same h o

pub no_memory_keeps : (before : Sides) (c : Call) (now : Sides) (old new : Acts) → Same before now → NoMemory before c old new → Owned before old → Owned now new
no_memory_keeps before c now old new same (inl e) o = same_keeps before now old new same e o
no_memory_keeps before c now old new same (inr undone) o = undone_keeps before c now old new same undone o
