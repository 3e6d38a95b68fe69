-- The record of what was accepted, and the network sockets that the records hold with it.
use Rattle.std.proofs.Common.{◌≡◌, ℕ, ◌+◌, List, Some, None, ap, subst, arith}
use Rattle.std.specs.Prelude.{Result, Ok, Err, IfOk}
use Rattle.std.specs.Borrow.{MutBor}
use Rattle.wasi_world.specs.declared.ids.Ids.{Ids}
use Rattle.wasi_world.specs.Seen.{Seen}
use Rattle.wasi_tcp.specs.Shape.{Socket}
use Rattle.wasi_tcp.specs.Socket.{side_of}
use Rattle.wasi_tcp.specs.Listener.{accepted_socket, accepted_state}
use Rattle.wasi_records.specs.Records.{tcp2_at, tcp2_put}
use Rattle.wasi_records.specs.declared.records.Record.{Record}
use Rattle.tcp_records.specs.declared.socket.TcpRecord.{TcpRecord}
use Rattle.tcp_records.specs.Listening.{IsAccepted, Connects, Fails, accepted_record, ids_of}
use Rattle.wasi_records.specs.Accepted.{with_accepted_in}
use Rattle.host_tcp.specs.TcpCalls.{accept_ids_at}
use Rattle.record_common.specs.Sides.{Weight, Tally, tally}
use Rattle.wasi_records.specs.Sides.{held_in}
use Rattle.tcp_records.specs.Sides.{Balances}
use Rattle.host_store.specs.KnownSides.{KnowsSides}
use Rattle.host_store.specs.Store.{Records}
use Rattle.wasi_records.proofs.SideCounts.{held_in-append}
use Rattle.host_store.proofs.KnownSides.{knows_then}
use Rattle.wasi_records.proofs.ConnectCounts.{held_in-swap}
use Rattle.wasi_records.proofs.Lookups.{found_at, none_at}

-- the network socket of what was accepted is held by its record; what is closed has none, and is not kept
held_accepted : (w : Weight) (records : List Record) (socket : Socket) → IsAccepted socket → held_in (with_accepted_in records socket).1 w ≡ held_in records w + tally (side_of socket) w
held_accepted w records _ (Connects family maker new peer) = let more = held_in-append w records (accepted_record (accepted_socket family maker (accepted_state new peer))).1 in omega arith
held_accepted w records _ (Fails family maker c) = omega arith

-- a record gave away such network sockets, and the records hold them now
pub knows_given : {s t : Seen} (store : Records) (place : ℕ) (old now : TcpRecord) (given : Tally) (records : List Record) → tcp2_at store.records place ≡ Some old → Balances s t given old now
    → ((w : Weight) → held_in records w ≡ held_in (tcp2_put store.records place now) w + given w) → KnowsSides s store → KnowsSides t (record store { records = records })
knows_given store place old now given records g c e k =
    knows_then c.entries store (record store { records = records }) c.passed (λ w. let p = held_in-swap w store.records place old now g in let b = c.balance w in let h = e w in omega arith) k

-- also where the records are in a list that was made larger
pub knows_accepted : {s t : Seen} (store : Records) (place : ℕ) (old now : TcpRecord) (socket : Socket) (roomy records : List Record) → roomy ≡ store.records → records ≡ (with_accepted_in (tcp2_put roomy place now) socket).1
    → tcp2_at store.records place ≡ Some old → IsAccepted socket → Balances s t (tally (side_of socket)) old now → KnowsSides s store → KnowsSides t (record store { records = records })
knows_accepted store place old now socket roomy records e f g a c k =
    knows_given store place old now (tally (side_of socket)) records g c held k
  where
    held : (w : Weight) → held_in records w ≡ held_in (tcp2_put store.records place now) w + tally (side_of socket) w
    held w =
        let same : held_in (tcp2_put roomy place now) w ≡ held_in (tcp2_put store.records place now) w = ap (λ (l : List Record). held_in (tcp2_put l place now) w) e in
        let all = held_accepted w (tcp2_put roomy place now) socket a in
        let put : held_in records w ≡ held_in (with_accepted_in (tcp2_put roomy place now) socket).1 w = ap (λ rs. held_in rs w) f in omega arith

-- what is in it
pub found_still : (roomy records : List Record) (i : ℕ) (x : MutBor TcpRecord) → roomy ≡ records → Some x.now ≡ tcp2_at roomy i → tcp2_at records i ≡ Some x.now
found_still roomy records i x e h = subst (λ (l : List Record). tcp2_at l i ≡ Some x.now) e (found_at roomy i x h)

pub none_still : (roomy records : List Record) (i : ℕ) → roomy ≡ records → None ≡ tcp2_at roomy i → tcp2_at records i ≡ None
none_still roomy records i e h = subst (λ (l : List Record). tcp2_at l i ≡ None) e (none_at roomy i h)

-- the names that were taken, reported at success
pub names_left : {T E : Type 0} (r : Result T E) (records : List Record) (place : ℕ) (ids now : Ids) (old : TcpRecord) → tcp2_at records place ≡ Some old → now ≡ ids_of old.listening ids → IfOk r (λ t. now ≡ accept_ids_at ids (tcp2_at records place))
names_left (Ok x) records place ids now old h e = rw h e
names_left (Err x) records place ids now old h e = tt
