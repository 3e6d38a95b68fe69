-- The network sockets that a store knows.
use Rattle.std.proofs.Common.{◌≡◌, ℕ, ◌+◌, List, Some, IfSome, OnErr, Result, Ok, Err, refl, sym, ap, subst, ◌∙◌, arith}
use Rattle.std.specs.declared.alloc.AllocError.{AllocError}
use Rattle.wasi_addr.specs.declared.address.SocketAddressFamily.{SocketAddressFamily}
use Rattle.wasi_addr.specs.declared.code.ErrorCode.{ErrorCode}
use Rattle.wasi_world.specs.declared.call.Entry.{Entry}
use Rattle.wasi_world.specs.declared.ids.Ids.{Ids}
use Rattle.wasi_world.specs.declared.ids.OpId.{OpId}
use Rattle.wasi_world.specs.declared.outcome.Answer.{Answer}
use Rattle.wasi_world.specs.declared.outcome.Answer.TheVariants.{Ready, Pending}
use Rattle.wasi_world.specs.declared.outcome.Refusal.{Refusal}
use Rattle.wasi_world.specs.declared.outcome.Refusal.TheVariants as refusal
use Rattle.wasi_world.specs.declared.outcome.WasiSocketsCtx.{WasiSocketsCtx}
use Rattle.wasi_world.specs.Seen.{Seen, Passes}
use Rattle.wasi_world.specs.Asks.{Asks, Give, Reaches, AsksFor, outcome}
use Rattle.wasi_world.specs.Operation.{after}
use Rattle.wasi_tcp.specs.Shape.{Socket}
use Rattle.wasi_tcp.specs.Socket.{side_of, new_asks}
use Rattle.host_store.specs.declared.store.StandingCall.{StandingCall}
use Rattle.host_store.specs.Standing.{stood}
use Rattle.host_store.specs.Store.{Records, with_record, with_socket, with_udp}
use Rattle.tcp_records.specs.Sockets.{new_record}
use Rattle.record_common.specs.Sides.{Weight, Tally, no_socket, made_in, closed_in, MakesNone, HoldsFewer}
use Rattle.wasi_records.specs.Sides.{held_in}
use Rattle.tcp_records.specs.Sides.{Balances}
use Rattle.host_store.specs.KnownSides.{KnowsSides}
use Rattle.wasi_records.specs.Records.{tcp2_at, udp2_at}
use Rattle.tcp_records.specs.declared.socket.TcpRecord.{TcpRecord}
use Rattle.udp_records.specs.declared.udp.UdpRecord.{UdpRecord}
use Rattle.udp_records.specs.Udp.{udp_holds}
use Rattle.wasi_records.proofs.UdpLookups.{held_in-udp_swap}
use Rattle.wasi_jobs.specs.declared.job.HostJob.{HostJob}
use Rattle.record_common.proofs.SideCounts.{Calm, calm_left, knows_grown}
use Rattle.tcp_records.proofs.SideCounts.{created}
use Rattle.wasi_records.proofs.SideCounts.{held_in-append}
use Rattle.wasi_records.proofs.ConnectCounts.{held_in-swap}

pub knows_then : {s t : Seen} (es : List Entry) (a b : Records) → Passes s es t → ((w : Weight) → held_in b.records w + closed_in es w ≡ held_in a.records w + made_in es w) → KnowsSides s a → KnowsSides t b
knows_then {s} {t} es a b p h k = record { count = knows_grown s.log t.log es (held_in a.records) (held_in b.records) p.log h k.count }

pub knows_calm : {A : Type 0} (Q : A → Type 0) {asks rest : Asks A} {s t : Seen} (a b : Records) → Calm Q asks → Reaches asks rest s t → held_in b.records ≡ held_in a.records → KnowsSides s a → KnowsSides t b
knows_calm Q {asks} {rest} a b q h e k = let n = calm_left Q asks h.entries rest q h.left in knows_then h.entries a b h.passed (λ w. let m = n.made w in let c = n.closed w in let p = ap (λ (held : Tally). held w) e in omega arith) k

-- of a call, whatever it answered
pub knows_asked : {A T : Type 0} (Q : A → Type 0) {asks : Asks A} {s t : Seen} {view : T → A} (r : Result T AllocError) (a b : Records) → Calm Q asks → AsksFor asks s t view r → held_in b.records ≡ held_in a.records → KnowsSides s a → KnowsSides t b
knows_asked Q (Ok x) a b q h e k = knows_calm Q a b q h.ok e k
knows_asked Q (Err d) a b q h e k = knows_calm Q a b q h.err.reached e k

pub knows_created : (op : OpId) (ctx : WasiSocketsCtx) (family : SocketAddressFamily) {s t : Seen} (socket : Socket) (store : Records) → Reaches (new_asks op ctx family) (Give (Ok socket)) s t → side_of socket ≡ Some op → KnowsSides s store → KnowsSides t (with_record store socket)
knows_created op ctx family socket store h i k =
    let m = created op ctx family ctx.tcp h.entries (Ok socket) h.left in
    knows_then h.entries store (with_record store socket) h.passed (λ w. let made = m.made w in let closed = m.closed w in let more = held_in-append w store.records (new_record socket) in omega arith) k

pub knows_refused : (op : OpId) (ctx : WasiSocketsCtx) (family : SocketAddressFamily) {s t : Seen} (x : Refusal) (store : Records) → AsksFor (new_asks op ctx family) s t (λ (made : Result Socket ErrorCode). made) (outcome {T = Socket} (Err x)) → OnErr (outcome {T = Socket} (Err x)) (t ≡ s) → KnowsSides s store → KnowsSides t store
knows_refused op ctx family (refusal.Code c) store h e k = let m = created op ctx family ctx.tcp h.ok.entries (Err c) h.ok.left in knows_then h.ok.entries store store h.ok.passed (λ w. let made = m.made w in let closed = m.closed w in omega arith) k
knows_refused op ctx family (refusal.Memory d) store h e k = rw e k

-- records that hold as many network sockets know them as well
pub knows_same : {s : Seen} (a b : Records) → held_in b.records ≡ held_in a.records → KnowsSides s a → KnowsSides s b
knows_same {s} a b e k = record { count = subst (λ (held : Tally). IfSome s.log (λ log. (w : Weight) → closed_in log w + held w ≡ made_in log w)) (sym e) k.count }

-- a pending call holds no network socket of its own
stood_same : (store : Records) (ids : Ids) (call : StandingCall) (answer : Answer (Unit {0})) → (stood store ids call answer).1.records ≡ store.records
stood_same store ids call (Ready done) = refl
stood_same store ids call Pending = refl

pub knows_stood : {s : Seen} (store after : Records) (ids : Ids) (call : StandingCall) (answer told : Answer (Unit {0})) → (told, after) ≡ stood store ids call answer → KnowsSides s store → KnowsSides s after
knows_stood store after ids call answer told e k = knows_same store after (ap (λ (d : Answer (Unit {0}) × Records). held_in d.1.records) e ∙ ap held_in (stood_same store ids call answer)) k

-- where no network socket was made or closed
pub knows_none : {s t : Seen} (a b : Records) → MakesNone s t → held_in b.records ≡ held_in a.records → KnowsSides s a → KnowsSides t b
knows_none {s} {t} a b n e k =
    record { count = knows_grown s.log t.log n.entries (held_in a.records) (held_in b.records) n.log (λ w. let m = n.made w in let c = n.closed w in let p = ap (λ (held : Tally). held w) e in omega arith) k.count }

pub knows_polled : {s t : Seen} (store : Records) (place : ℕ) (old now : TcpRecord) → tcp2_at store.records place ≡ Some old → Balances s t no_socket old now → KnowsSides s store → KnowsSides t (with_socket store place now)
knows_polled store place old now g c k =
    knows_then c.entries store (with_socket store place now) c.passed (λ w. let p = held_in-swap w store.records place old now g in let b = c.balance w in omega arith) k

-- == the records, where one of them holds fewer
pub knows_fewer : {s t : Seen} (store : Records) (place : ℕ) (old now : UdpRecord) → udp2_at store.records place ≡ Some old → HoldsFewer s t (udp_holds old) (udp_holds now) → KnowsSides s store → KnowsSides t (with_udp store place now)
knows_fewer store place old now g c k =
    knows_then c.entries store (with_udp store place now) c.passed (λ w. let p = held_in-udp_swap w store.records place old now g in let b = c.balance w in let m = c.made w in omega arith) k

-- jobs hold no network socket
pub knows_jobs : {s : Seen} (store : Records) (jobs : List HostJob) → KnowsSides s store → KnowsSides s (record store { jobs = jobs })
knows_jobs store jobs k = record { count = k.count }
