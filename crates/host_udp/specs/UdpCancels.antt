-- How the pending calls of UDP sockets are given up.
use Rattle.std.specs.Prelude.{ℕ, Option, Some, None}
use Rattle.wasi_world.specs.Asks.{Asks, Give, bind}
use Rattle.wasi_udp.specs.Create.{create_cancel_asks}
pub use Rattle.wasi_jobs.specs.Jobs.{is_datagram_on, other_than_datagram}
use Rattle.udp_records.specs.declared.udp.OpenUdp.{OpenUdp}
use Rattle.udp_records.specs.declared.udp.UdpRecord.{UdpRecord}
use Rattle.udp_records.specs.declared.udp.UdpRecord.TheVariants as udp
use Rattle.udp_records.specs.declared.udp.UdpInProgress.TheVariants.{Nothing}
use Rattle.host_store.specs.GivingBack.{given_back}
use Rattle.host_store.specs.Store.{Records, with_udp, with_open_udp}
use Rattle.udp_records.specs.Udp.{with_udp_progress}

abbrev pub cancel_udp_bind_at : Records → ℕ → Option OpenUdp → Records
cancel_udp_bind_at store place None = store
cancel_udp_bind_at store place (Some o) = with_open_udp store place (with_udp_progress o Nothing)

-- == a create closes its network socket, and no handle is made
abbrev pub cancel_create : Records → ℕ → UdpRecord → Asks Records
cancel_create store place (udp.Creating create) = bind (create_cancel_asks create) (λ done. Give (given_back place (with_udp store place (udp.Closed create.operation.who.side))))
cancel_create store place (udp.Open o) = Give store
cancel_create store place (udp.Closed side) = Give store

abbrev pub cancel_create_at : Records → ℕ → Option UdpRecord → Asks Records
cancel_create_at store place None = Give store
cancel_create_at store place (Some u) = cancel_create store place u

-- == a connect is forgotten, and no stream is made
abbrev pub cancel_udp_connect_at : Records → ℕ → Option OpenUdp → Records
cancel_udp_connect_at store place None = store
cancel_udp_connect_at store place (Some o) = with_open_udp store place (record o { connecting = None })

-- == an outgoing datagram stream goes, and its datagram is lost
abbrev pub without_datagrams : ℕ → Records → Records
without_datagrams place store = record store { jobs = other_than_datagram place store.jobs }

abbrev pub cancel_drop_outgoing_at : Records → ℕ → Option OpenUdp → Records
cancel_drop_outgoing_at store place None = store
cancel_drop_outgoing_at store place (Some o) = without_datagrams place (with_open_udp store place (record o { outgoing = None }))
