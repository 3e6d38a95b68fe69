-- Listens of 0.3: what one that is done leaves, and the record of what an accept gave.
use Rattle.std.proofs.Common.{◌≡◌, ℕ, ◌+◌, List, Some, Result, Ok, Err, refl, ap, ◌∙◌, arith}
use Rattle.wasi_world.specs.declared.outcome.Answer.{Answer}
use Rattle.wasi_world.specs.declared.outcome.Answer.TheVariants.{Ready, Pending}
use Rattle.wasi_world.specs.declared.outcome.Refusal.{Refusal}
use Rattle.wasi_world.specs.declared.outcome.Refusal.TheVariants as refusal
use Rattle.wasi_world.specs.Seen.{Seen}
use Rattle.wasi_world.specs.Asks.{Asks, bind, AsksFor, outcome}
use Rattle.wasi_world.proofs.Walks.{asks_end, asks_err, reaches_in}
use Rattle.wasi_addr.specs.declared.code.ErrorCode.{ErrorCode}
use Rattle.wasi_streams.specs.declared.fault.HostError.{HostError}
use Rattle.wasi_streams.specs.declared.fault.HostError.TheVariants as error
use Rattle.wasi_tcp.specs.Shape.{Socket}
use Rattle.wasi_tcp.specs.Socket.{side_of}
use Rattle.wasi_records.specs.declared.records.Record.{Record}
use Rattle.tcp_records.specs.declared.socket.TcpRecord.{TcpRecord}
use Rattle.wasi_records.specs.Records.{tcp2_at, tcp2_pushed, tcp2_put}
use Rattle.tcp_records.specs.Sides.{Balances, given_by, holds}
use Rattle.record_common.specs.Sides.{Tally, Weight, no_socket, tally}
use Rattle.wasi_records.specs.Sides.{held_in}
use Rattle.record_common.specs.Stops.{Code}
use Rattle.tcp_records.specs.Sockets.{new_record}
use Rattle.tcp_records.proofs.ConnectCounts.{balances_as}
use Rattle.wasi_records.proofs.SideCounts.{held_in-append}
use Rattle.host_store.specs.declared.kind.Interface.TheVariants.{P3}
use Rattle.host_store.specs.BaseStops.{BaseStop, base_outcome, ends_as}
use Rattle.host_tcp.specs.Binds.{bound_as}
use Rattle.host_store.specs.Block.{after_call, give}
use Rattle.host_store.specs.KnownSides.{KnowsSides}
use Rattle.host_store.specs.Store.{Records, with_socket}
use Rattle.host_tcp.proofs.AcceptedRecords.{knows_given}

-- it holds what it held
left_holds : (answer : Answer (Unit {0})) (r : TcpRecord) → holds (bound_as P3 answer r) ≡ holds r
left_holds (Ready done) r = refl
left_holds Pending r = refl

pub left_balances : {s t : Seen} {given : Tally} {old now other : TcpRecord} (answer : Answer (Unit {0})) → other ≡ bound_as P3 answer now → Balances s t given old now → Balances s t given old other
left_balances {now} {other} answer e b = balances_as other (ap holds e ∙ left_holds answer now) b

-- what was accepted has its record, also where the records are in a list that was made larger
pub knows_kept : {s t : Seen} (store : Records) (place : ℕ) (old now : TcpRecord) (socket : Socket) (roomy : List Record) → roomy ≡ store.records → tcp2_at store.records place ≡ Some old
    → Balances s t (tally (side_of socket)) old now → KnowsSides s store → KnowsSides t (record store { records = tcp2_pushed (tcp2_put roomy place now) (new_record socket) })
knows_kept store place old now socket roomy e g c k =
    knows_given store place old now (tally (side_of socket)) (tcp2_pushed (tcp2_put roomy place now) (new_record socket)) g c held k
  where
    held : (w : Weight) → held_in (tcp2_pushed (tcp2_put roomy place now) (new_record socket)) w ≡ held_in (tcp2_put store.records place now) w + tally (side_of socket) w
    held w =
        let same : held_in (tcp2_put roomy place now) w ≡ held_in (tcp2_put store.records place now) w = ap (λ (l : List Record). held_in (tcp2_put l place now) w) e in
        let more = held_in-append w (tcp2_put roomy place now) (new_record socket) in omega arith

-- a call on the record of a number, and no more
pub settled_asked : {A : Type 0} (store : Records) (place : ℕ) (now : TcpRecord) {asks : Asks (Result A ErrorCode × TcpRecord)} {s t : Seen} (told : Result A Refusal) → AsksFor asks s t (λ (answer : Result A ErrorCode). (answer, now)) (outcome told)
    → AsksFor (bind asks (after_call Code (λ s now. with_socket s place now) give store)) s t (λ (answer : Result A BaseStop). (answer, with_socket store place now)) (base_outcome told)
settled_asked store place now (Ok value) h = asks_end _ h.ok refl
settled_asked store place now (Err (refusal.Code c)) h = asks_end _ h.ok refl
settled_asked store place now (Err (refusal.Memory e)) h = asks_err _ (reaches_in _ h.err.reached)

-- an accept that gave nothing gave no network socket away
pub none_given : (told : Result (Answer Socket) Refusal) (x : HostError ErrorCode) {s t : Seen} {old now : TcpRecord} → ends_as {T = Answer Socket} (Err x) ≡ base_outcome told → Balances s t (given_by told) old now → Balances s t no_socket old now
none_given (Ok value) (error.Code c) e b = absurd (cc)
none_given (Ok value) (error.Trap k) e b = absurd (cc)
none_given (Ok value) (error.Memory d) e b = absurd (cc)
none_given (Err x) y e b = b
