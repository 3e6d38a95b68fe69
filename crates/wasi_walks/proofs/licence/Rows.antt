-- The definitions on logs of the machine's own runs, which are licensed.
use Rattle.wasi_walks.proofs.Words.{BeganBy, Call, Created, Entry, Give, HandleTable, Has, InProgress, IpSocketAddress, IsLicensed, Left, List, Machine}
use Rattle.wasi_walks.proofs.Words.{NamesSide, None, Option, Reply, SocketAddrUse, SocketAddressFamily, Some, Standing, StandingCall, GuestCall, Step, Told}
use Rattle.wasi_walks.proofs.Words.{WasiSocketsCtx, [], bind, bind_operation, entry, false, first_state, inl, inr, new_record, new_socket, no_fields}
use Rattle.wasi_walks.proofs.Words.{number_fields, own_of, polls, refl, run, standing_as, true, wildcard, with_progress, ℕ, ◌++◌, ◌∷◌}
use Rattle.wasi_machine.specs.Machine.{first_ids}
use Rattle.wasi_tcp.specs.declared.bind.BindStage.TheVariants.{Check}
use Rattle.wasi_walks.proofs.licence.Longer.{licensed}
use Rattle.wasi_walks.proofs.licence.Runs.{whole_licensed}
use Rattle.host_store.specs.declared.kind.Interface.TheVariants.{P2}
use Rattle.wasi_world.specs.declared.call.HandleKind.TheVariants as kind
use Rattle.wasi_steps.specs.declared.reply.CodeWord.TheVariants as word
use Rattle.host_store.specs.declared.kind.Kind.TheVariants as slot
use Rattle.wasi_records.specs.declared.records.Record.TheVariants as rec
use Rattle.wasi_steps.specs.declared.guest_call.TcpCall.{TcpCall}
use Rattle.wasi_steps.specs.declared.guest_call.NameCall.{NameCall}

-- contexts that may use all
abbrev pub context : ℕ → WasiSocketsCtx
context n = record { name = n; ip_name_lookup = true; udp = true; tcp = true; write_limit = 18446744073709551615 }

abbrev pub allowed : List WasiSocketsCtx
allowed = context 0 ∷ []

abbrev pub two_contexts : List WasiSocketsCtx
two_contexts = context 0 ∷ context 1 ∷ []

-- one that may not use TCP
abbrev pub forbidden : List WasiSocketsCtx
forbidden = record { name = 0; ip_name_lookup = true; udp = true; tcp = false; write_limit = 0 } ∷ []

abbrev pub local_80 : IpSocketAddress
local_80 = IpSocketAddress.Ipv4 (record { port = 80; address = (127, 0, 0, 1) })

-- the table with a network and a socket
abbrev pub two_handles : HandleTable
two_handles = record { next = 3; live = record { handle = 1; value = slot.Network; parent = None } ∷ record { handle = 2; value = slot.Tcp2 0; parent = None } ∷ [] }

-- the machine with these, the socket by this context, which is in the middle of this, and a call that may stand
abbrev with_socket : ℕ → SocketAddressFamily → InProgress → Option Standing → Machine
with_socket ctx f doing standing = record {
  table = two_handles;
  store = record { records = rec.Tcp (with_progress (new_record (new_socket (own_of 2) ctx f)) doing) ∷ []; jobs = []; standing = standing; beside = []; limits = record { context = ctx; most = 18446744073709551615 } ∷ [] };
}

-- == a bind
abbrev pub bind_script : List Step
bind_script = Step.Call 0 (GuestCall.Names NameCall.Network) ∷ Step.Call 0 (GuestCall.Tcp (TcpCall.Create SocketAddressFamily.Ipv4)) ∷ Step.Call 0 (GuestCall.Tcp (TcpCall.StartBind 2 1 local_80)) ∷ Step.Call 0 (GuestCall.Tcp (TcpCall.FinishBind 2)) ∷ []

-- a network, and a socket that the second line makes by this context
abbrev pub creates : ℕ → SocketAddressFamily → List Entry
creates ctx f = entry (own_of 1) (Call.Made 1 kind.Network None None) Told.Done
    ∷ entry (own_of 2) (Call.TcpCreate ctx f) Told.Done
    ∷ entry (own_of 2) (Call.Made 2 kind.Tcp2 None (Some (own_of 2))) Told.Done
    ∷ []

-- and that isn't bound
abbrev pub begins : List Entry
begins = creates 0 SocketAddressFamily.Ipv4 ++ entry (own_of 3) (Call.Local (own_of 2)) (Told.Addr (wildcard SocketAddressFamily.Ipv4)) ∷ []

abbrev pub bind_log : List Entry
bind_log = begins ++ (entry (own_of 3) (Call.Check 0 local_80 SocketAddrUse.TcpBind) Told.Yes ∷ entry (own_of 3) (Call.Bind (own_of 2) local_80) Told.Done ∷ [])

-- the machine makes these calls, and ends so
bind_run : Left (run allowed [] first_state 1 bind_script) bind_log (Give (Reply.Ok (number_fields 1) ∷ Reply.Ok (number_fields 2) ∷ Reply.Ok no_fields ∷ Reply.Ok no_fields ∷ [], with_socket 0 SocketAddressFamily.Ipv4 InProgress.Nothing None))
unfolding bind polls
bind_run = ((refl, refl, tt), ((refl, refl, tt), ((refl, refl, tt), ((refl, refl, tt), ((refl, refl, tt), ((refl, refl, tt), refl))))))

-- the third line names the socket, where the log has its mark
names_socket : (before : List Entry) → Has before (entry (own_of 2) (Call.Made 2 kind.Tcp2 None (Some (own_of 2))) Told.Done) → BeganBy bind_script (own_of 3) (NamesSide before (own_of 2))
names_socket before h = record {
  origin = Step.Call 0 (GuestCall.Tcp (TcpCall.StartBind 2 1 local_80));
  at = refl;
  holds = record { handle = 2; named = inl refl; is = record { op = own_of 2; kind = kind.Tcp2; parent = None; told = Told.Done; mark = h } };
}

-- by hand
bind_licensed : IsLicensed allowed bind_script bind_log []
bind_licensed = licensed allowed bind_script bind_log (
  (refl, record { origin = Step.Call 0 (GuestCall.Names NameCall.Network); at = refl; holds = (refl, refl, refl) }),
  (
    record { origin = Step.Call 0 (GuestCall.Tcp (TcpCall.Create SocketAddressFamily.Ipv4)); at = refl; holds = (record { ctx = context 0; at = refl; named = refl; tcp = refl }, refl) },
    (
      (refl, record { origin = Step.Call 0 (GuestCall.Tcp (TcpCall.Create SocketAddressFamily.Ipv4)); at = refl; holds = (refl, refl, refl, (0, SocketAddressFamily.Ipv4, inr (inl refl))) }),
      (
        inl (names_socket _ (inr (inr (inl refl)))),
        (
          tt,
          (
            (
              inl (names_socket _ (inr (inr (inl refl)))),
              inl (record { origin = Step.Call 0 (GuestCall.Tcp (TcpCall.StartBind 2 1 local_80)); at = refl; holds = refl }),
              record { ctx = 0; family = SocketAddressFamily.Ipv4; maker = Created (own_of 2) Told.Done (inr (inl refl)); checked = inr (inr (inr (inr (inl refl)))) },
              record { origin = Step.Call 0 (GuestCall.Tcp (TcpCall.Create SocketAddressFamily.Ipv4)); at = refl; holds = tt },
            ),
            tt,
          ),
        ),
      ),
    ),
  ),
)

-- == the creator is asked, whoever binds; and a bind whose check is pending is a pending call, with busy lines after it
abbrev local_six : IpSocketAddress
local_six = IpSocketAddress.Ipv6 (record { port = 80; flow_info = 0; address = (8193, 3512, 0, 0, 0, 0, 0, 1); scope_id = 0 })

abbrev stands_script : List Step
stands_script = Step.Call 0 (GuestCall.Names NameCall.Network) ∷ Step.Call 1 (GuestCall.Tcp (TcpCall.Create SocketAddressFamily.Ipv6)) ∷ Step.Call 0 (GuestCall.Tcp (TcpCall.StartBind 2 1 local_six)) ∷ Step.Call 0 (GuestCall.Names NameCall.Network) ∷ Step.Call 1 (GuestCall.Tcp (TcpCall.FinishBind 2)) ∷ []

abbrev stands_log : List Entry
stands_log = creates 1 SocketAddressFamily.Ipv6
    ++ (entry (own_of 3) (Call.Local (own_of 2)) (Told.Addr (wildcard SocketAddressFamily.Ipv6)) ∷ entry (own_of 3) (Call.Check 1 local_six SocketAddrUse.TcpBind) Told.Pending ∷ [])

abbrev stands_replies : List Reply
stands_replies = Reply.Ok (number_fields 1) ∷ Reply.Ok (number_fields 2) ∷ Reply.Pending 3 ∷ Reply.Busy ∷ Reply.Busy ∷ []

abbrev stands_end : Machine
stands_end = with_socket 1 SocketAddressFamily.Ipv6 (InProgress.Binding (bind_operation (record { op = own_of 3; side = own_of 2; maker = 1 }) local_six Check)) (Some (standing_as (first_ids 3) (StandingCall.Bind 0 P2)))

stands_run : Left (run two_contexts [] first_state 1 stands_script) stands_log (Give (stands_replies, stands_end))
unfolding bind polls
stands_run = ((refl, refl, tt), ((refl, refl, tt), ((refl, refl, tt), ((refl, refl, tt), ((refl, refl, tt), refl)))))

stands_licensed : IsLicensed two_contexts stands_script stands_log stands_replies
stands_licensed = whole_licensed two_contexts stands_script stands_log stands_replies stands_end refl stands_run

-- == a context that may not use TCP creates nothing
abbrev forbidden_script : List Step
forbidden_script = Step.Call 0 (GuestCall.Names NameCall.Network) ∷ Step.Call 0 (GuestCall.Tcp (TcpCall.Create SocketAddressFamily.Ipv4)) ∷ []

forbidden_run : Left (run forbidden [] first_state 1 forbidden_script) (entry (own_of 1) (Call.Made 1 kind.Network None None) Told.Done ∷ [])
    (Give (Reply.Ok (number_fields 1) ∷ Reply.Err word.AccessDenied ∷ [], record { table = record { next = 2; live = record { handle = 1; value = slot.Network; parent = None } ∷ [] }; store = record { records = []; jobs = []; standing = None; beside = []; limits = record { context = 0; most = 0 } ∷ [] } }))
unfolding bind
forbidden_run = ((refl, refl, tt), refl)
