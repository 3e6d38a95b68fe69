-- A handle goes, and what it stood for.
use Rattle.std.specs.Prelude.{ℕ, Result, Ok, Err}
use Rattle.wasi_addr.specs.declared.address.ShutdownType.TheVariants.{Receive, Send}
use Rattle.wasi_world.specs.declared.ids.Ids.{Ids}
use Rattle.wasi_world.specs.declared.outcome.Answer.{Answer}
use Rattle.wasi_world.specs.declared.outcome.Answer.TheVariants.{Ready}
use Rattle.wasi_world.specs.Asks.{Asks, Give, bind}
use Rattle.tcp_records.specs.Holding.{drop_listener_asks, drop_socket_asks}
use Rattle.wasi_records.specs.Records.{tcp2_at, udp2_at, open_at, lookup_at}
use Rattle.host_store.specs.declared.kind.Kind.{Kind}
use Rattle.host_store.specs.declared.kind.Kind.TheVariants.{Tcp2, Udp2, Output, PlainInput, PlainOutput, Incoming, Outgoing, Lookup, Tcp3, Udp3, Listen3, Receive3, Send3, Result3}
use Rattle.host_store.specs.declared.machine.Machine.{Machine}
use Rattle.record_common.specs.Stops.{Stop}
use Rattle.host_store.specs.Kinds.{HandleTable, kind_at, taken_out}
pub use Rattle.record_common.specs.Names.{own_of}
use Rattle.host_udp.specs.SocketDatagrams.{drop_udp}
use Rattle.host_store.specs.Store.{Records}
use Rattle.host_tcp.specs.ConnectionEnds.{drop_end, drop_slot}
use Rattle.host_tcp.specs.Dropping.{release_at, let_go_at, drop_output_at}
use Rattle.host_udp.specs.DatagramCalls.{drop_incoming_at, drop_outgoing_at}
use Rattle.host_lookups.specs.NameLookupCalls.{drop_lookup_at}
use Rattle.host_streams.specs.PlainStreams.{drop_plain_input, drop_plain_output}
use Rattle.host_udp.specs.UdpCalls.{release_udp_at}
use Rattle.host_store.specs.Machine.{with_store}

-- == a handle goes
abbrev pub answered : {A : Type 0} → A × Machine → Result A Stop × Machine
answered done = (Ok done.0, done.1)

abbrev pub at_once : Unit {0} × Records → Answer (Unit {0}) × Records
at_once done = (Ready tt, done.1)

-- a socket releases what it has, an output waits for its writer and an outgoing datagram stream for its datagram, and the rest don't
-- wait; a lookup isn't asked about any more, and a pipe gives back its bytes
abbrev pub drop_kind : Machine → Ids → Kind → Asks (Result (Answer (Unit {0})) Stop × Machine)
drop_kind m ids (Tcp2 place) = bind (release_at m.store (own_of ids.line) place (tcp2_at m.store.records place)) (λ done. Give (answered (with_store m (at_once done))))
drop_kind m ids (Udp2 place) = bind (release_udp_at m.store (own_of ids.line) place (udp2_at m.store.records place)) (λ done. Give (answered (with_store m (at_once done))))
drop_kind m ids (Tcp3 place) = bind (let_go_at m.store place (drop_socket_asks (own_of ids.line)) (tcp2_at m.store.records place)) (λ done. Give (answered (with_store m (at_once done))))
drop_kind m ids (Udp3 place) = bind (drop_udp (own_of ids.line) place m.store) (λ done. Give (answered (with_store m (at_once done))))
drop_kind m ids (Listen3 place) = bind (let_go_at m.store place (drop_listener_asks (own_of ids.line)) (tcp2_at m.store.records place)) (λ done. Give (answered (with_store m (at_once done))))
drop_kind m ids (Output place) = bind (drop_output_at m.store ids place (tcp2_at m.store.records place)) (λ done. Give (answered (with_store m done)))
drop_kind m ids (Incoming place) = Give (answered (with_store m (at_once (drop_incoming_at m.store place (open_at m.store.records place)))))
drop_kind m ids (Outgoing place) = Give (answered (with_store m (drop_outgoing_at m.store ids place (open_at m.store.records place))))
drop_kind m ids (Lookup place) = Give (answered (with_store m (at_once (drop_lookup_at m.store place (lookup_at m.store.records place)))))
drop_kind m ids (PlainInput i) = Give (Ok (Ready tt), record m { store = drop_plain_input m.store i })
drop_kind m ids (PlainOutput o) = Give (Ok (Ready tt), record m { store = drop_plain_output m.store o })
drop_kind m ids (Receive3 end) = bind (drop_end (own_of ids.line) Receive end m.store) (λ done. Give (answered (with_store m (at_once done))))
drop_kind m ids (Send3 end) = bind (drop_end (own_of ids.line) Send end m.store) (λ done. Give (answered (with_store m (at_once done))))
drop_kind m ids (Result3 slot) = Give (Ok (Ready tt), record m { store = drop_slot slot m.store })
drop_kind m ids _ = Give (Ok (Ready tt), m)

abbrev pub drop_taken : Machine → Ids → Result Kind Stop × HandleTable → Asks (Result (Answer (Unit {0})) Stop × Machine)
drop_taken m ids (Ok kind, t) = drop_kind (record m { table = t }) ids kind
drop_taken m ids (Err stop, t) = Give (Err stop, record m { table = t })

-- the handle goes at once
abbrev pub drop_asks : Machine → Ids → ℕ → Asks (Result (Answer (Unit {0})) Stop × Machine)
drop_asks m ids this = drop_taken m ids (taken_out m.table this (kind_at m.table this))
