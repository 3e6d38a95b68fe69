-- A look that begins nothing asks the same whatever names are left.
use Rattle.wasi_causes.proofs.Words.{◌≡◌, ℕ, Bool, true, false, if◌then◌else◌, not, Asks, Option, Some, None, Give, Listening, Machine, OpId, Result, Stop, TcpRecord, Watched, ap, bind, is_connect, is_nothing, kind_at, own_of, ready_asks, ready_end, ready_on, refl, watch_of, with_store}
use Rattle.wasi_world.specs.declared.ids.Ids.{Ids}
use Rattle.wasi_tcp.specs.Listener.{accept_asks, begun, has_accept}
use Rattle.wasi_tcp.specs.declared.listener.Accepting.{Accepting}
use Rattle.wasi_tcp.specs.declared.listener.Accepting.TheVariants as accepting
use Rattle.udp_records.specs.declared.datagrams.Incoming.{Incoming}
use Rattle.udp_records.specs.declared.datagrams.Receiving.{Receiving}
use Rattle.udp_records.specs.declared.datagrams.Receiving.TheVariants as receiving
use Rattle.host_store.specs.declared.kind.Watched.TheVariants as watched
use Rattle.tcp_records.specs.declared.tcp_listening.Listening.TheVariants as listening
use Rattle.udp_records.specs.declared.udp.OpenUdp.{OpenUdp}
use Rattle.wasi_udp.specs.Shape.{Socket}
use Rattle.host_udp.specs.DatagramCalls.{incoming_looked, ready_incoming_at}
use Rattle.record_common.specs.Names.{next_name}
use Rattle.tcp_records.specs.Looks.{begins_accept, socket_begins}
use Rattle.udp_records.specs.Receiving.{would_receive, has_none}
use Rattle.wasi_host.specs.Polling.{begins_at, begins_on, tcp_begins, udp_begins}
use Rattle.tcp_records.specs.Looks.{accept_looked, ready_idle, ready_listening, ready_socket_by}
use Rattle.host_store.specs.Readiness.{ready_at, ready_put}
use Rattle.udp_records.specs.Receiving.{fetch_asks, look_incoming, with_incoming}
use Rattle.wasi_records.specs.Records.{open_at, tcp2_at}
use Rattle.host_store.specs.Store.{Records}

module _ (ids : Ids) (part : ℕ) where
  abbrev other : Ids
  other = record { line = ids.line; next_part = part }

  -- == an accept
  same_begun : (side : OpId) (maker : ℕ) (a : Accepting) → not (has_accept a) ≡ false → begun side maker ids a ≡ begun side maker other a
  same_begun side maker accepting.Idle e = absurd (cc)
  same_begun side maker (accepting.Asking op) e = refl
  same_begun side maker (accepting.Arrived new peer) e = refl
  same_begun side maker (accepting.Failed c) e = refl

  same_listening : (r : TcpRecord) (l : Listening) → begins_accept l ≡ false → ready_listening ids r l ≡ ready_listening other r l
  same_listening r (listening.Accepts l) e = ap (λ (a : Accepting). bind (accept_asks (ready_end l) a) (λ done. Give (accept_looked r done))) (same_begun l.side l.maker l.accept e)
  same_listening r _ e = refl

  same_idle : (r : TcpRecord) (b : Bool) → (if b then begins_accept r.listening else false) ≡ false → ready_idle ids r b ≡ ready_idle other r b
  same_idle r true e = same_listening r r.listening e
  same_idle r false e = refl

  same_progress : (r : TcpRecord) (b : Bool) → socket_begins r ≡ false → ready_socket_by ids r b ≡ ready_socket_by other r b
  same_progress r true e = refl
  same_progress r false e = same_idle r (is_nothing r.in_progress) e

  same_socket : (store : Records) (place : ℕ) (o : Option TcpRecord) → tcp_begins o ≡ false → ready_at store (own_of ids.line) ids (watched.Socket place) place o ≡ ready_at store (own_of ids.line) other (watched.Socket place) place o
  same_socket store place None e = refl
  same_socket store place (Some r) e = ap (λ (t : Asks (Result Bool Stop × TcpRecord)). bind t (λ done. Give (ready_put store place done))) (same_progress r (is_connect r.in_progress) e)

  same_input : (store : Records) (place : ℕ) (o : Option TcpRecord) → ready_at store (own_of ids.line) ids (watched.Input place) place o ≡ ready_at store (own_of ids.line) other (watched.Input place) place o
  same_input store place None = refl
  same_input store place (Some r) = refl

  same_output : (store : Records) (place : ℕ) (o : Option TcpRecord) → ready_at store (own_of ids.line) ids (watched.Output place) place o ≡ ready_at store (own_of ids.line) other (watched.Output place) place o
  same_output store place None = refl
  same_output store place (Some r) = refl

  -- == a receive
  same_fetch : (s : Receiving) (o : OpenUdp) (inc : Incoming) → has_none s ≡ false → fetch_asks (next_name ids) s (o.inner, inc) ≡ fetch_asks (next_name other) s (o.inner, inc)
  same_fetch receiving.Nothing o inc e = absurd (cc)
  same_fetch _ o inc e = refl

  same_look : (o : OpenUdp) (inc : Option Incoming) → would_receive inc ≡ false → look_incoming ids o inc ≡ look_incoming other o inc
  same_look o None e = refl
  same_look o (Some inc) e = ap (λ (t : Asks (Socket × Incoming)). bind t (λ s. Give (with_incoming o s))) (same_fetch inc.receiving o inc e)

  same_incoming : (store : Records) (place : ℕ) (o : Option OpenUdp) → udp_begins o ≡ false → ready_incoming_at store ids place o ≡ ready_incoming_at store other place o
  same_incoming store place None e = refl
  same_incoming store place (Some o) e = ap (λ (t : Asks OpenUdp). bind t (λ now. Give (incoming_looked store place o now))) (same_look o o.incoming e)

  -- == by what is watched
  module _ (m : Machine) where
    abbrev Put : Asks (Result Bool Stop × Records) → Asks (Result Bool Stop × Machine)
    Put t = bind t (λ done. Give (with_store m done))

    by_watch : (o : Option Watched) → begins_on m.store o ≡ false → ready_on m ids o ≡ ready_on m other o
    by_watch None e = refl
    by_watch (Some watched.Plain) e = refl
    by_watch (Some (watched.Udp place)) e = refl
    by_watch (Some (watched.Outgoing place)) e = refl
    by_watch (Some (watched.Lookup place)) e = refl
    by_watch (Some (watched.Incoming place)) e = ap Put (same_incoming m.store place (open_at m.store.records place) e)
    by_watch (Some (watched.Socket place)) e = ap Put (same_socket m.store place (tcp2_at m.store.records place) e)
    by_watch (Some (watched.Input place)) e = ap Put (same_input m.store place (tcp2_at m.store.records place))
    by_watch (Some (watched.Output place)) e = ap Put (same_output m.store place (tcp2_at m.store.records place))

    pub same_asks : (p : ℕ) → begins_at m p ≡ false → ready_asks m ids p ≡ ready_asks m other p
    same_asks p e = by_watch (watch_of (kind_at m.table p)) e
