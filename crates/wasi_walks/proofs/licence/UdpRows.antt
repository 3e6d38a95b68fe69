-- The definitions on logs of UDP sockets: of the machine's own run, which is licensed, and others, which are not.
use Rattle.wasi_walks.proofs.Words.{BeganBy, Call, Entry, Give, Has, IsLicensed, IsMarkOf, Left, List, Machine, NamesSide, None}
use Rattle.wasi_walks.proofs.Words.{Reply, SocketAddrUse, SocketAddressFamily, Some, GuestCall, Step, Told, WasiSocketsCtx, [], ap, arith, bind, entry, false}
use Rattle.wasi_walks.proofs.Words.{first_state, inl, inr, no_fields, number_fields, own_of, polls, port_of, refl, run, true, wildcard, ⊤, ◌++◌, ◌∷◌}
use Rattle.wasi_walks.proofs.Words.{◌≡◌}
use Rattle.wasi_walks.specs.Licence.{IsUdpBindTo, IsUdpCreate, MakesTcp, UdpCreated}
use Rattle.wasi_walks.proofs.licence.Longer.{licensed}
use Rattle.wasi_walks.proofs.licence.Rows.{allowed, context, local_80}
use Rattle.wasi_walks.proofs.licence.Refused.{NotYes, of_each, at_line, local_81}
use Rattle.wasi_world.specs.declared.call.HandleKind.TheVariants as kind
use Rattle.udp_records.specs.Udp.{opened_udp}
use Rattle.host_store.specs.declared.kind.Kind.TheVariants as slot
use Rattle.wasi_records.specs.declared.records.Record.TheVariants as rec
use Rattle.wasi_steps.specs.declared.reply.CodeWord.TheVariants as word
use Rattle.wasi_udp.specs.Socket.{new_socket}
use Rattle.wasi_steps.specs.declared.guest_call.TcpCall.{TcpCall}
use Rattle.wasi_steps.specs.declared.guest_call.UdpCall.{UdpCall}
use Rattle.wasi_steps.specs.declared.guest_call.NameCall.{NameCall}

-- one that may not use UDP
abbrev no_datagrams : List WasiSocketsCtx
no_datagrams = record { name = 0; ip_name_lookup = true; udp = false; tcp = true; write_limit = 0 } ∷ []

-- == a bind
abbrev udp_script : List Step
udp_script = Step.Call 0 (GuestCall.Names NameCall.Network) ∷ Step.Call 0 (GuestCall.Udp (UdpCall.Create SocketAddressFamily.Ipv4)) ∷ Step.Call 0 (GuestCall.Udp (UdpCall.StartBind 2 1 local_80)) ∷ Step.Call 0 (GuestCall.Udp (UdpCall.FinishBind 2)) ∷ []

abbrev network : List Entry
network = entry (own_of 1) (Call.Made 1 kind.Network None None) Told.Done ∷ []

abbrev create : Entry
create = entry (own_of 2) (Call.UdpCreate 0 SocketAddressFamily.Ipv4) Told.Done

abbrev marked : Entry
marked = entry (own_of 2) (Call.Made 2 kind.Udp2 None (Some (own_of 2))) Told.Done

-- a network, and a UDP socket that the second line makes and that isn't bound
abbrev begins : List Entry
begins = network ++ (create ∷ entry (own_of 2) (Call.UdpWritable (own_of 2)) Told.Done ∷ marked ∷ entry (own_of 3) (Call.Local (own_of 2)) (Told.Addr (wildcard SocketAddressFamily.Ipv4)) ∷ [])

abbrev pub udp_log : List Entry
udp_log = begins ++ (entry (own_of 3) (Call.Check 0 local_80 SocketAddrUse.UdpBind) Told.Yes ∷ entry (own_of 3) (Call.UdpBind (own_of 2) local_80) Told.Done ∷ [])

abbrev udp_end : Machine
udp_end = record {
  table = record { next = 3; live = record { handle = 1; value = slot.Network; parent = None } ∷ record { handle = 2; value = slot.Udp2 0; parent = None } ∷ [] };
  store = record { records = rec.Udp (opened_udp (new_socket (own_of 2) 0 SocketAddressFamily.Ipv4)) ∷ []; jobs = []; standing = None; beside = []; limits = [] };
}

-- the machine makes these calls, and ends so
udp_run : Left (run allowed [] first_state 1 udp_script) udp_log (Give (Reply.Ok (number_fields 1) ∷ Reply.Ok (number_fields 2) ∷ Reply.Ok no_fields ∷ Reply.Ok no_fields ∷ [], udp_end))
unfolding bind polls
udp_run = ((refl, refl, tt), ((refl, refl, tt), ((refl, refl, tt), ((refl, refl, tt), ((refl, refl, tt), ((refl, refl, tt), ((refl, refl, tt), refl)))))))

-- the third line names the socket, where the log has its mark
names_socket : (before : List Entry) → Has before marked → BeganBy udp_script (own_of 3) (NamesSide before (own_of 2))
names_socket before h = record {
  origin = Step.Call 0 (GuestCall.Udp (UdpCall.StartBind 2 1 local_80));
  at = refl;
  holds = record { handle = 2; named = inl refl; is = record { op = own_of 2; kind = kind.Udp2; parent = None; told = Told.Done; mark = h } };
}

-- by hand
udp_licensed : IsLicensed allowed udp_script udp_log []
udp_licensed = licensed allowed udp_script udp_log (
  (refl, record { origin = Step.Call 0 (GuestCall.Names NameCall.Network); at = refl; holds = (refl, refl, refl) }),
  (
    record { origin = Step.Call 0 (GuestCall.Udp (UdpCall.Create SocketAddressFamily.Ipv4)); at = refl; holds = (record { ctx = context 0; at = refl; named = refl; udp = refl }, refl) },
    (
      inr refl,
      (
        (refl, record { origin = Step.Call 0 (GuestCall.Udp (UdpCall.Create SocketAddressFamily.Ipv4)); at = refl; holds = (refl, refl, refl, (0, SocketAddressFamily.Ipv4, inr (inl refl))) }),
        (
          inl (names_socket _ (inr (inr (inr (inl refl))))),
          (
            tt,
            (
              (
                inl (names_socket _ (inr (inr (inr (inl refl))))),
                record { origin = Step.Call 0 (GuestCall.Udp (UdpCall.StartBind 2 1 local_80)); at = refl; holds = refl },
                record { ctx = 0; family = SocketAddressFamily.Ipv4; maker = UdpCreated (own_of 2) Told.Done (inr (inl refl)); checked = inr (inr (inr (inr (inr (inl refl))))) },
                record { origin = Step.Call 0 (GuestCall.Udp (UdpCall.Create SocketAddressFamily.Ipv4)); at = refl; holds = tt },
              ),
              tt,
            ),
          ),
        ),
      ),
    ),
  ),
)

-- == the check was answered no
abbrev bind_80 : Entry
bind_80 = entry (own_of 3) (Call.UdpBind (own_of 2) local_80) Told.Done

abbrev told_no : List Entry
told_no = begins ++ entry (own_of 3) (Call.Check 0 local_80 SocketAddrUse.UdpBind) Told.No ∷ []

refused_check : IsLicensed allowed udp_script (told_no ++ bind_80 ∷ []) [] → ⊥
refused_check h = let may = h.each told_no bind_80 [] refl in of_each (λ e. NotYes e.answer) told_no _ (tt, (tt, (tt, (tt, (tt, (tt, tt)))))) may.2.checked

-- == the yes is for another use
-- each check is for a bind of a TCP socket
abbrev ChecksTcp : Call → Type 0
ChecksTcp (Call.Check ctx addr usage) = usage ≡ SocketAddrUse.TcpBind
ChecksTcp _ = ⊤

abbrev for_tcp : List Entry
for_tcp = begins ++ entry (own_of 3) (Call.Check 0 local_80 SocketAddrUse.TcpBind) Told.Yes ∷ []

other_use : IsLicensed allowed udp_script (for_tcp ++ bind_80 ∷ []) [] → ⊥
other_use h =
    let may = h.each for_tcp bind_80 [] refl in
    let same = of_each (λ e. ChecksTcp e.call) for_tcp _ (tt, (tt, (tt, (tt, (tt, (refl, tt)))))) may.2.checked in
    absurd (cc)

-- == a UDP socket is bound as a TCP socket is
abbrev tcp_script : List Step
tcp_script = Step.Call 0 (GuestCall.Names NameCall.Network) ∷ Step.Call 0 (GuestCall.Udp (UdpCall.Create SocketAddressFamily.Ipv4)) ∷ Step.Call 0 (GuestCall.Tcp (TcpCall.StartBind 2 1 local_80)) ∷ []

abbrev tcp_bind : Entry
tcp_bind = entry (own_of 3) (Call.Bind (own_of 2) local_80) Told.Done

other_kind : IsLicensed allowed tcp_script (for_tcp ++ tcp_bind ∷ []) [] → ⊥
other_kind h = let may = h.each for_tcp tcp_bind [] refl in at_line MakesTcp (Step.Call 0 (GuestCall.Udp (UdpCall.Create SocketAddressFamily.Ipv4))) may.3.origin may.3.at may.3.holds

-- == another address than the line's is checked and bound
abbrev asks_81 : List Entry
asks_81 = begins ++ entry (own_of 3) (Call.Check 0 local_81 SocketAddrUse.UdpBind) Told.Yes ∷ []

abbrev bind_81 : Entry
bind_81 = entry (own_of 3) (Call.UdpBind (own_of 2) local_81) Told.Done

other_address : IsLicensed allowed udp_script (asks_81 ++ bind_81 ∷ []) [] → ⊥
other_address h =
    let may = h.each asks_81 bind_81 [] refl in
    let same = at_line (IsUdpBindTo local_81) (Step.Call 0 (GuestCall.Udp (UdpCall.StartBind 2 1 local_80))) may.1.origin may.1.at may.1.holds in
    let port = ap port_of same in
    omega arith

-- == the context may not use UDP
no_udp : (ctx : WasiSocketsCtx) → Some (record { name = 0; ip_name_lookup = true; udp = false; tcp = true; write_limit = 0 }) ≡ Some ctx → ctx.udp ≡ true → ⊥
no_udp ctx e t = let p : record { name = 0; ip_name_lookup = true; udp = false; tcp = true; write_limit = 0 } ≡ ctx = cc in let q = ap (λ (c : WasiSocketsCtx). c.udp) p in cc

forbidden_create : IsLicensed no_datagrams udp_script (network ++ create ∷ []) [] → ⊥
forbidden_create h =
    let may = h.each network create [] refl in
    let m = at_line (IsUdpCreate no_datagrams 0 SocketAddressFamily.Ipv4) (Step.Call 0 (GuestCall.Udp (UdpCall.Create SocketAddressFamily.Ipv4))) may.origin may.at may.holds in
    no_udp m.0.ctx m.0.at m.0.udp

-- and the machine makes none there
forbidden_run : Left (run no_datagrams [] first_state 1 (Step.Call 0 (GuestCall.Names NameCall.Network) ∷ Step.Call 0 (GuestCall.Udp (UdpCall.Create SocketAddressFamily.Ipv4)) ∷ [])) network
    (Give (Reply.Ok (number_fields 1) ∷ Reply.Err word.AccessDenied ∷ [], record { table = record { next = 2; live = record { handle = 1; value = slot.Network; parent = None } ∷ [] }; store = record { records = []; jobs = []; standing = None; beside = []; limits = [] } }))
unfolding bind
forbidden_run = ((refl, refl, tt), refl)

-- == a mark of a UDP socket that wasn't created
-- no create
abbrev NoCreate : Call → Type 0
NoCreate (Call.UdpCreate ctx f) = ⊥
NoCreate _ = ⊤

not_created : IsLicensed allowed udp_script (network ++ marked ∷ []) [] → ⊥
not_created h =
    let may = h.each network marked [] refl in
    let m = at_line (IsMarkOf network (own_of 2) kind.Udp2 None (Some (own_of 2))) (Step.Call 0 (GuestCall.Udp (UdpCall.Create SocketAddressFamily.Ipv4))) may.1.origin may.1.at may.1.holds in
    of_each (λ e. NoCreate e.call) network _ (tt, tt) m.3.2
