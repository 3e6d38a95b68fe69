-- How the pending calls of TCP sockets are given up.
use Rattle.std.specs.Prelude.{ℕ, Option, Some, None}
use Rattle.wasi_world.specs.Asks.{Asks, Give, bind}
use Rattle.tcp_records.specs.declared.tcp_binding.InProgress.TheVariants as doing
pub use Rattle.wasi_jobs.specs.Jobs.{is_datagram_on, other_than_datagram}
use Rattle.tcp_records.specs.declared.tcp_listening.Listening.TheVariants.{Not}
use Rattle.tcp_records.specs.declared.socket.TcpRecord.{TcpRecord}
use Rattle.udp_records.specs.declared.udp.UdpInProgress.TheVariants.{Nothing}
use Rattle.tcp_records.specs.Listening.{give_up_asks, side_in, unclosed, with_listening}
use Rattle.host_store.specs.Store.{Records, with_socket}
use Rattle.tcp_records.specs.Sockets.{with_progress}

-- == a bind is forgotten: the socket is as it was
abbrev pub cancel_bind_at : Records → ℕ → Option TcpRecord → Records
cancel_bind_at store place None = store
cancel_bind_at store place (Some r) = with_socket store place (with_progress r doing.Nothing)

-- == a listen closes its network socket; the socket stays closed
abbrev pub listen_gone : Records → ℕ → TcpRecord → Records
listen_gone store place r = with_socket store place (with_listening r Not)

abbrev pub cancel_listen_at : Records → ℕ → Option TcpRecord → Asks Records
cancel_listen_at store place None = Give store
cancel_listen_at store place (Some r) = bind (give_up_asks r.listening) (λ done. Give (listen_gone store place r))

-- for lack of memory its network socket isn't closed, and the record keeps it
abbrev pub listen_kept : Records → ℕ → Option TcpRecord → Records
listen_kept store place None = store
listen_kept store place (Some r) = with_socket store place (with_listening r (unclosed (side_in r.listening)))
