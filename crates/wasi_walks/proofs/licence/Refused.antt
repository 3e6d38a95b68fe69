-- The definitions on logs that are not licensed.
use Rattle.wasi_walks.proofs.Words.{Call, Created, Entry, Handed, Has, IpSocketAddress, IsBindTo, IsLicensed, IsListenStep, IsMaker, IsMarkOf}
use Rattle.wasi_walks.proofs.Words.{IsTcpCreate, List, NamesSide, None, OpId, ReachesSide, SocketAddrUse, SocketAddressFamily, Some, GuestCall, Step, Told}
use Rattle.wasi_walks.proofs.Words.{WasiSocketsCtx, [], ap, arith, entry, false, inl, inr, own_of, port_of, refl, subst, true, wildcard, ℕ, ⊤, ◌++◌}
use Rattle.wasi_walks.proofs.Words.{◌∷◌, ◌≡◌}
use Rattle.wasi_walks.proofs.licence.Rows.{begins, creates, allowed, two_contexts, forbidden, local_80, bind_script}
use Rattle.wasi_walks.specs.Licence.{BeganBy, BindsAnywhere, IsDisconnect, IsUdpConnectTo, Receives, UdpCreated}
use Rattle.wasi_addr.specs.declared.code.ErrorCode.TheVariants as code
use Rattle.wasi_world.specs.declared.call.HandleKind.TheVariants as kind
use Rattle.wasi_steps.specs.declared.guest_call.TcpCall.{TcpCall}
use Rattle.wasi_steps.specs.declared.guest_call.NameCall.{NameCall}

abbrev pub local_81 : IpSocketAddress
local_81 = IpSocketAddress.Ipv4 (record { port = 81; address = (127, 0, 0, 1) })

-- what holds of each entry holds of those that a log has
abbrev pub Each : (Entry → Type 0) → List Entry → Type 0
Each P [] = ⊤
Each P (e ∷ es) = P e × Each P es

pub of_each : (P : Entry → Type 0) (es : List Entry) (e : Entry) → Each P es → Has es e → P e
of_each P [] e all h = absurd h
of_each P (x ∷ es) e all (inl h) = subst P h all.0
of_each P (x ∷ es) e all (inr h) = of_each P es e all.1 h

-- no check
abbrev NoCheck : Call → Type 0
NoCheck (Call.Check ctx addr usage) = ⊥
NoCheck _ = ⊤

-- no yes
abbrev pub NotYes : Told → Type 0
NotYes Told.Yes = ⊥
NotYes _ = ⊤

-- each check is by the third line
abbrev ChecksByThird : OpId → Call → Type 0
ChecksByThird op (Call.Check ctx addr usage) = op.step ≡ 3
ChecksByThird op _ = ⊤

-- each create is by context 0, and nothing is handed over
abbrev MadeByFirst : Call → Type 0
MadeByFirst (Call.TcpCreate ctx f) = ctx ≡ 0
MadeByFirst (Call.UdpCreate ctx f) = ctx ≡ 0
MadeByFirst (Call.Hand l p) = ⊥
MadeByFirst _ = ⊤

-- each check asks context 1
abbrev AsksSecond : Call → Type 0
AsksSecond (Call.Check ctx addr usage) = ctx ≡ 1
AsksSecond _ = ⊤

-- each check is for port 81
abbrev Asks81 : Call → Type 0
Asks81 (Call.Check ctx addr usage) = port_of addr ≡ 81
Asks81 _ = ⊤

abbrev before_create : List Entry
before_create = entry (own_of 1) (Call.Made 1 kind.Network None None) Told.Done ∷ []

abbrev create : Entry
create = entry (own_of 2) (Call.TcpCreate 0 SocketAddressFamily.Ipv4) Told.Done

abbrev bind_80 : Entry
bind_80 = entry (own_of 3) (Call.Bind (own_of 2) local_80) Told.Done

-- == the check is left out
left_out : IsLicensed allowed bind_script (begins ++ bind_80 ∷ []) [] → ⊥
left_out h = let may = h.each begins bind_80 [] refl in of_each (λ e. NoCheck e.call) begins _ (tt, (tt, (tt, (tt, tt)))) may.2.checked

-- == the check was answered no
abbrev told_no : List Entry
told_no = begins ++ entry (own_of 3) (Call.Check 0 local_80 SocketAddrUse.TcpBind) Told.No ∷ []

refused_check : IsLicensed allowed bind_script (told_no ++ bind_80 ∷ []) [] → ⊥
refused_check h = let may = h.each told_no bind_80 [] refl in of_each (λ e. NotYes e.answer) told_no _ (tt, (tt, (tt, (tt, (tt, tt))))) may.2.checked

-- == the yes is of another line
abbrev two_binds : List Step
two_binds = Step.Call 0 (GuestCall.Names NameCall.Network) ∷ Step.Call 0 (GuestCall.Tcp (TcpCall.Create SocketAddressFamily.Ipv4)) ∷ Step.Call 0 (GuestCall.Tcp (TcpCall.StartBind 2 1 local_80)) ∷ Step.Call 0 (GuestCall.Tcp (TcpCall.StartBind 2 1 local_80)) ∷ []

abbrev first_bind : List Entry
first_bind = begins
    ++ (entry (own_of 3) (Call.Check 0 local_80 SocketAddrUse.TcpBind) Told.Yes
    ∷ entry (own_of 3) (Call.Bind (own_of 2) local_80) (Told.Code code.AddressInUse)
    ∷ entry (own_of 4) (Call.Local (own_of 2)) (Told.Addr (wildcard SocketAddressFamily.Ipv4))
    ∷ [])

reused_check : IsLicensed allowed two_binds (first_bind ++ entry (own_of 4) (Call.Bind (own_of 2) local_80) Told.Done ∷ []) [] → ⊥
reused_check h =
    let may = h.each first_bind (entry (own_of 4) (Call.Bind (own_of 2) local_80) Told.Done) [] refl in
    let line = of_each (λ e. ChecksByThird e.op e.call) first_bind _ (tt, (tt, (tt, (tt, (refl, (tt, (tt, tt))))))) may.2.checked in
    cc

-- == another context than the creator is asked
abbrev asks_other : List Entry
asks_other = begins ++ entry (own_of 3) (Call.Check 1 local_80 SocketAddrUse.TcpBind) Told.Yes ∷ []

maker_is_first : (ctx : ℕ) (f : SocketAddressFamily) (side : OpId) → IsMaker asks_other ctx f side → ctx ≡ 0
maker_is_first ctx f side (Created s t h) = of_each (λ e. MadeByFirst e.call) asks_other _ (tt, (refl, (tt, (tt, (tt, tt))))) h
maker_is_first ctx f side (UdpCreated s t h) = of_each (λ e. MadeByFirst e.call) asks_other _ (tt, (refl, (tt, (tt, (tt, tt))))) h
maker_is_first ctx f side (Handed s l p t h m) = absurd (of_each (λ e. MadeByFirst e.call) asks_other _ (tt, (refl, (tt, (tt, (tt, tt))))) h)

other_context : IsLicensed two_contexts bind_script (asks_other ++ bind_80 ∷ []) [] → ⊥
other_context h =
    let may = h.each asks_other bind_80 [] refl in
    let maker = maker_is_first may.2.ctx may.2.family (own_of 2) may.2.maker in
    let asked = of_each (λ e. AsksSecond e.call) asks_other _ (tt, (tt, (tt, (tt, (refl, tt))))) may.2.checked in
    cc

-- == a handle's number is used again
abbrev created : List Entry
created = before_create ++ create ∷ []

abbrev same_number : Entry
same_number = entry (own_of 2) (Call.Made 1 kind.Tcp2 None (Some (own_of 2))) Told.Done

reused_handle : IsLicensed allowed bind_script (created ++ same_number ∷ []) [] → ⊥
reused_handle h = let may = h.each created same_number [] refl in let number = may.0 in cc

-- == another address than the line's is checked and bound
abbrev asks_81 : List Entry
asks_81 = begins ++ entry (own_of 3) (Call.Check 0 local_81 SocketAddrUse.TcpBind) Told.Yes ∷ []

abbrev bind_81 : Entry
bind_81 = entry (own_of 3) (Call.Bind (own_of 2) local_81) Told.Done

-- what holds of a line's step holds of this step
pub at_line : (P : Step → Type 0) (s x : Step) → Some s ≡ Some x → P x → P s
at_line P s x e h = let p : x ≡ s = cc in subst P p h

other_address : IsLicensed allowed bind_script (asks_81 ++ bind_81 ∷ []) [] → ⊥
other_address h =
    let may = h.each asks_81 bind_81 [] refl in
    elim may.1 [ inl by_bind ↦ bound by_bind | inr by_listen ↦ at_line BindsAnywhere (Step.Call 0 (GuestCall.Tcp (TcpCall.StartBind 2 1 local_80))) by_listen.0.origin by_listen.0.at by_listen.0.holds ]
  where
    bound : BeganBy bind_script bind_81.op (IsBindTo local_81) → ⊥
    bound b =
        let same = at_line (IsBindTo local_81) (Step.Call 0 (GuestCall.Tcp (TcpCall.StartBind 2 1 local_80))) b.origin b.at b.holds in
        let port = ap port_of same in
        omega arith

-- == another address than the line's is checked
other_check : IsLicensed allowed bind_script (asks_81 ++ bind_80 ∷ []) [] → ⊥
other_check h =
    let may = h.each asks_81 bind_80 [] refl in
    let port = of_each (λ e. Asks81 e.call) asks_81 _ (tt, (tt, (tt, (tt, (refl, tt))))) may.2.checked in
    omega arith

-- == the context may not use TCP
no_tcp : (ctx : WasiSocketsCtx) → Some (record { name = 0; ip_name_lookup = true; udp = true; tcp = false; write_limit = 0 }) ≡ Some ctx → ctx.tcp ≡ true → ⊥
no_tcp ctx e t = let p : record { name = 0; ip_name_lookup = true; udp = true; tcp = false; write_limit = 0 } ≡ ctx = cc in let q = ap (λ (c : WasiSocketsCtx). c.tcp) p in cc

forbidden_create : IsLicensed forbidden bind_script (before_create ++ create ∷ []) [] → ⊥
forbidden_create h =
    let may = h.each before_create create [] refl in
    let m = at_line (IsTcpCreate forbidden 0 SocketAddressFamily.Ipv4) (Step.Call 0 (GuestCall.Tcp (TcpCall.Create SocketAddressFamily.Ipv4))) may.origin may.at may.holds in
    no_tcp m.0.ctx m.0.at m.0.tcp

-- == a network socket that the line doesn't name
abbrev two_sockets : List Step
two_sockets = Step.Call 0 (GuestCall.Names NameCall.Network) ∷ Step.Call 0 (GuestCall.Tcp (TcpCall.Create SocketAddressFamily.Ipv4)) ∷ Step.Call 0 (GuestCall.Tcp (TcpCall.Create SocketAddressFamily.Ipv4)) ∷ Step.Call 0 (GuestCall.Tcp (TcpCall.StartBind 2 1 local_80)) ∷ []

abbrev checked_first : List Entry
checked_first = creates 0 SocketAddressFamily.Ipv4
    ++ (entry (own_of 3) (Call.TcpCreate 0 SocketAddressFamily.Ipv4) Told.Done
    ∷ entry (own_of 3) (Call.Made 3 kind.Tcp2 None (Some (own_of 3))) Told.Done
    ∷ entry (own_of 4) (Call.Local (own_of 2)) (Told.Addr (wildcard SocketAddressFamily.Ipv4))
    ∷ entry (own_of 4) (Call.Check 0 local_80 SocketAddrUse.TcpBind) Told.Yes
    ∷ [])

abbrev bind_second : Entry
bind_second = entry (own_of 4) (Call.Bind (own_of 3) local_80) Told.Done

-- the network socket of the third line is that of handle 3 alone
abbrev OnlyThird : Call → Type 0
OnlyThird (Call.Made handle k parent sock) = sock ≡ Some (own_of 3) → handle ≡ 3
OnlyThird _ = ⊤

not_named : (handle : ℕ) → Has (2 ∷ 1 ∷ []) handle → handle ≡ 3 → ⊥
not_named handle (inl a) e = cc
not_named handle (inr (inl a)) e = cc
not_named handle (inr (inr a)) e = a

not_reached : ReachesSide two_sockets checked_first (own_of 4) (own_of 3) → ⊥
not_reached (inr e) = let line = ap (λ (op : OpId). op.step) e in cc
not_reached (inl b) =
    let n = at_line (NamesSide checked_first (own_of 3)) (Step.Call 0 (GuestCall.Tcp (TcpCall.StartBind 2 1 local_80))) b.origin b.at b.holds in
    let third = of_each (λ e. OnlyThird e.call) checked_first _ ((λ e. absurd (cc)), (tt, ((λ e. absurd (second e)), (tt, ((λ e. refl), (tt, (tt, tt))))))) n.is.mark in
    not_named n.handle n.named (third refl)
  where
    second : Some (own_of 2) ≡ Some (own_of 3) → ⊥
    second e = let p : own_of 2 ≡ own_of 3 = cc in let line = ap (λ (op : OpId). op.step) p in cc

unnamed_side : IsLicensed allowed two_sockets (checked_first ++ bind_second ∷ []) [] → ⊥
unnamed_side h = let may = h.each checked_first bind_second [] refl in not_reached may.0

-- == a mark of a socket that wasn't created
-- no create
abbrev NoCreate : Call → Type 0
NoCreate (Call.TcpCreate ctx f) = ⊥
NoCreate _ = ⊤

not_created : IsLicensed allowed bind_script (before_create ++ entry (own_of 2) (Call.Made 2 kind.Tcp2 None (Some (own_of 2))) Told.Done ∷ []) [] → ⊥
not_created h =
    let may = h.each before_create (entry (own_of 2) (Call.Made 2 kind.Tcp2 None (Some (own_of 2))) Told.Done) [] refl in
    let m = at_line (IsMarkOf before_create (own_of 2) kind.Tcp2 None (Some (own_of 2))) (Step.Call 0 (GuestCall.Tcp (TcpCall.Create SocketAddressFamily.Ipv4))) may.1.origin may.1.at may.1.holds in
    of_each (λ e. NoCreate e.call) before_create _ (tt, tt) m.3.2

-- == a step that makes no datagram streams connects a UDP socket
unmade : IsLicensed allowed bind_script (begins ++ entry (own_of 3) (Call.UdpConnect (own_of 2) local_80) Told.Done ∷ []) [] → ⊥
unmade h =
    let may = h.each begins (entry (own_of 3) (Call.UdpConnect (own_of 2) local_80) Told.Done) [] refl in
    at_line (IsUdpConnectTo local_80) (Step.Call 0 (GuestCall.Tcp (TcpCall.StartBind 2 1 local_80))) may.1.origin may.1.at may.1.holds

-- == and disconnects one
undone : IsLicensed allowed bind_script (begins ++ entry (own_of 3) (Call.UdpDisconnect (own_of 2)) Told.Done ∷ []) [] → ⊥
undone h =
    let may = h.each begins (entry (own_of 3) (Call.UdpDisconnect (own_of 2)) Told.Done) [] refl in
    at_line IsDisconnect (Step.Call 0 (GuestCall.Tcp (TcpCall.StartBind 2 1 local_80))) may.1.origin may.1.at may.1.holds

-- == and receives
no_receive : IsLicensed allowed bind_script (begins ++ entry (own_of 3) (Call.Recv (own_of 2)) (Told.Datagram [] local_81) ∷ []) [] → ⊥
no_receive h =
    let may = h.each begins (entry (own_of 3) (Call.Recv (own_of 2)) (Told.Datagram [] local_81)) [] refl in
    at_line Receives (Step.Call 0 (GuestCall.Tcp (TcpCall.StartBind 2 1 local_80))) may.1.origin may.1.at may.1.holds

-- == the backlog of a network socket that doesn't listen is set
-- no listen
abbrev NoListen : Call → Type 0
NoListen (Call.Listen side backlog) = ⊥
NoListen _ = ⊤

unasked : IsLicensed allowed bind_script (begins ++ entry (own_of 3) (Call.SetBacklog (own_of 2) 128) Told.Done ∷ []) [] → ⊥
unasked h =
    let may = h.each begins (entry (own_of 3) (Call.SetBacklog (own_of 2) 128) Told.Done) [] refl in
    of_each (λ e. NoListen e.call) begins _ (tt, (tt, (tt, (tt, tt)))) may.2.told

-- == a step that isn't a listen listens
no_listen : IsLicensed allowed bind_script (begins ++ entry (own_of 3) (Call.Listen (own_of 2) 128) Told.Done ∷ []) [] → ⊥
no_listen h =
    let may = h.each begins (entry (own_of 3) (Call.Listen (own_of 2) 128) Told.Done) [] refl in
    at_line IsListenStep (Step.Call 0 (GuestCall.Tcp (TcpCall.StartBind 2 1 local_80))) may.1.origin may.1.at may.1.holds
