-- A TCP socket that was made, and the handle that is made for it.
use Rattle.std.specs.Prelude.{◌≡◌, ℕ, List, [], ◌∷◌, ◌++◌, length, Option, Some, None, Result, Ok, Err, IsErrAnd, slice_get, refl}
use Rattle.std.specs.declared.alloc.AllocError.{AllocError}
use Rattle.std.proofs.Common.{sym, subst}
use Rattle.wasi_addr.specs.declared.address.SocketAddressFamily.{SocketAddressFamily}
use Rattle.wasi_addr.specs.declared.code.ErrorCode.{ErrorCode}
use Rattle.wasi_world.specs.declared.outcome.Refusal.{Refusal}
use Rattle.wasi_world.specs.declared.outcome.Refusal.TheVariants as refusal
use Rattle.wasi_world.specs.declared.outcome.WasiSocketsCtx.{WasiSocketsCtx}
use Rattle.wasi_world.specs.Seen.{Seen}
use Rattle.wasi_world.specs.Asks.{AsksFor, outcome}
use Rattle.wasi_world.proofs.Walks.{asks_gives, asks_then}
use Rattle.wasi_world.specs.declared.ids.OpId.{OpId}
use Rattle.wasi_streams.specs.HostError.{of_refusal}
use Rattle.wasi_tcp.specs.Shape.{Socket}
use Rattle.wasi_tcp.specs.Socket.{side_of, new_asks}
use Rattle.wasi_records.specs.declared.records.Record.{Record}
use Rattle.wasi_records.specs.declared.records.Record.TheVariants.{Tcp}
use Rattle.wasi_records.specs.Records.{tcp2_at}
use Rattle.tcp_records.specs.Sockets.{new_record}
use Rattle.record_common.specs.Stops.{Stop, SocketError, host_outcome}
use Rattle.record_common.proofs.Hosts.{host_refused}
use Rattle.host_store.specs.declared.kind.Kind.{Kind}
use Rattle.host_store.specs.declared.kind.Kind.TheVariants.{Tcp2}
use Rattle.host_store.specs.declared.machine.Machine.{Machine}
use Rattle.host_store.specs.Kinds.{HandleTable, make_asks}
use Rattle.host_tcp.specs.Making.{MadeTcp, MakesTcp}
use Rattle.host_store.specs.Store.{Records, with_record}
use Rattle.host_tcp.specs.Creates.{same_told, code_told, made_to, create_to, created_asks}
use Rattle.host_store.specs.Machine.{side_at}

-- where none was made
pub makes_none : (own : OpId) (ctx : WasiSocketsCtx) (family : SocketAddressFamily) {s t : Seen} {old now : Records} (x : Refusal) (r : Result ℕ Refusal) → IsErrAnd r (λ y. y ≡ x) → now ≡ old
    → AsksFor (new_asks own ctx family) s t (λ (made : Result Socket ErrorCode). made) (outcome {T = Socket} (Err x)) → MakesTcp own ctx family s t old now (outcome r)
makes_none own ctx family x (Ok place) h e k = absurd h
makes_none own ctx family {s} {t} {old} {now} x (Err y) h e k = let P : Refusal → Type 0 = λ z. MakesTcp own ctx family s t old now (outcome (Err z)) in subst P (sym h) (by x k)
  where
    by : (x : Refusal) → AsksFor (new_asks own ctx family) s t (λ (made : Result Socket ErrorCode). made) (outcome {T = Socket} (Err x)) → MakesTcp own ctx family s t old now (outcome (Err x))
    by (refusal.Code c) k = record { asked = k; same = e }
    by (refusal.Memory d) k = record { asked = k; same = e }

-- the last record, which is this socket's
last_is : (l : List Record) (r : Record) → slice_get (l ++ r ∷ []) (length l) ≡ Some r
last_is [] r = refl
last_is (x ∷ l) r = last_is l r

side_made : (store : Records) (socket : Socket) → side_at (tcp2_at (with_record store socket).records (length store.records)) ≡ side_of socket
side_made store socket = rw (last_is store.records (Tcp (new_record socket))) refl

-- and the handle of a socket that was made
pub asks_made : {A : Type 0} (tells : Result ℕ Stop → A) (fails : ErrorCode → A) (kind : ℕ → Kind) (m : Machine) (own : OpId) (ctx : WasiSocketsCtx) (family : SocketAddressFamily) {place : ℕ} {side : Option OpId} {now : Records} {table : HandleTable} {s t u : Seen} {o : Result (Result ℕ Stop) AllocError}
    → MadeTcp own ctx family s t m.store now place → side ≡ side_at (tcp2_at now.records place) → AsksFor (make_asks m.table own (kind place) None side) t u (λ (made : Result ℕ Stop). (made, table)) o
    → AsksFor (create_to tells fails kind m own ctx family) s u (λ (made : Result ℕ Stop). let n : Machine = record { table = table; store = now } in (tells made, n)) o
asks_made tells fails kind m own ctx family {place} {side} {now} made e k =
    let same : side_at (tcp2_at now.records place) ≡ side_of made.socket = rw (made.record_is, made.number) (side_made m.store made.socket) in
    rw made.record_is (asks_then (made_to tells fails kind m own) made.asked.ok (asks_gives (λ (done : Result ℕ Stop × HandleTable). let n : Machine = record { table = done.1; store = with_record m.store made.socket } in (tells done.0, n)) (rw (e, same, made.number) at k)))

-- a call of 0.2 that made none
pub create_refused : (m : Machine) (own : OpId) (ctx : WasiSocketsCtx) (family : SocketAddressFamily) {s t : Seen} {now : Records} (x : Refusal) (r : Result ℕ SocketError) → IsErrAnd r (λ y. y ≡ of_refusal x) → MakesTcp own ctx family s t m.store now (outcome {T = ℕ} (Err x))
    → AsksFor (create_to same_told code_told Tcp2 m own ctx family) s t (λ (made : Result ℕ Stop). let n : Machine = record { table = m.table; store = now } in (made, n)) (host_outcome r)
create_refused m own ctx family (refusal.Code c) r h k = rw k.same (host_refused (created_asks m own) (refusal.Code c) r h k.asked (λ code. refl))
create_refused m own ctx family (refusal.Memory d) r h k = rw k.same (host_refused (created_asks m own) (refusal.Memory d) r h k.asked (λ code. refl))
