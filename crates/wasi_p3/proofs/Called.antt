-- What a call of a socket asks, by what the socket is asked, and what a create asks.
use Rattle.std.specs.Prelude.{◌≡◌, ℕ, Some, None, Result, Ok, Err, IsErrAnd, refl}
use Rattle.std.proofs.Common.{sym, subst}
use Rattle.wasi_addr.specs.declared.address.SocketAddressFamily.{SocketAddressFamily}
use Rattle.wasi_addr.specs.declared.code.ErrorCode.{ErrorCode}
use Rattle.wasi_addr.specs.declared.p3.ErrorCode.{ErrorCode as P3Code}
use Rattle.wasi_streams.specs.declared.fault.HostError.{HostError}
use Rattle.wasi_streams.specs.declared.fault.HostError.TheVariants as error
use Rattle.wasi_streams.specs.declared.fault.Fault.{Fault}
use Rattle.wasi_streams.specs.declared.fault.Fault.TheVariants as fault
use Rattle.wasi_streams.specs.HostError.{of_fault}
use Rattle.wasi_world.specs.declared.ids.OpId.{OpId}
use Rattle.wasi_world.specs.declared.outcome.Refusal.{Refusal}
use Rattle.wasi_world.specs.declared.outcome.Refusal.TheVariants as refusal
use Rattle.wasi_world.specs.declared.outcome.TrapKind.TheVariants.{NoSuchHandle}
use Rattle.wasi_world.specs.declared.outcome.WasiSocketsCtx.{WasiSocketsCtx}
use Rattle.wasi_world.specs.Seen.{Seen}
use Rattle.wasi_world.specs.Asks.{Asks, bind, AsksFor, outcome}
use Rattle.wasi_world.proofs.Walks.{asks_end, asks_err, asks_given, reaches_in, reaches_on, asks_ok}
use Rattle.tcp_records.specs.declared.socket.TcpRecord.{TcpRecord}
use Rattle.udp_records.specs.declared.udp.OpenUdp.{OpenUdp}
use Rattle.wasi_records.specs.Records.{open_at, tcp2_at}
use Rattle.record_common.specs.Stops.{Stop, Trap, fault_outcome}
use Rattle.host_store.specs.declared.kind.Kind.TheVariants.{Tcp3}
use Rattle.host_store.specs.declared.machine.Machine.{Machine}
use Rattle.host_store.specs.Block.{give, or_stop}
use Rattle.host_store.specs.Lines.{storing}
use Rattle.host_store.specs.Machine.{tcp3_at, udp3_at}
use Rattle.host_tcp.specs.Creates.{made_to}
use Rattle.host_tcp.specs.Making.{MakesTcp}
use Rattle.host_store.specs.Store.{Records, with_socket}
use Rattle.host_store.specs.Store.{with_open_udp}
use Rattle.wasi_p3.specs.Lines.{same_stop, of_tcp, of_udp}
use Rattle.wasi_p3.specs.Stops.{P3Stop, p3_stop, p3_outcome, ends_as}
use Rattle.wasi_p3.specs.Tcp.{create, code_told, handle_told}

abbrev Error : Type 0
Error = HostError P3Code

-- the last line of a block on the records, which is the last of one on the machine
abbrev called_in : {R A : Type 0} → Asks (Result A ErrorCode × R) → (R → Records) → Machine
    → Asks (Result A P3Stop × Machine)
called_in asks put m = bind (bind asks (λ done. or_stop p3_stop give done.0 (put done.1)))
    (λ done. or_stop same_stop give done.0 (storing m done.1))

pub socket_called : {R A : Type 0} {asks : Asks (Result A ErrorCode × R)} (put : R → Records) (m : Machine) {s t : Seen}
    {now : R} (told : Result A Refusal) (result : Result A Error) → ends_as result ≡ p3_outcome told
    → AsksFor asks s t (λ x. (x, now)) (outcome told) → AsksFor (called_in asks put m) s t
    (λ x. (x, storing m (put now))) (ends_as result)
socket_called {R} {A} {asks} put m {s} {t} {now} told result e k = rw e (by told k)
  where
    by : (told : Result A Refusal) → AsksFor asks s t (λ x. (x, now)) (outcome told)
        → AsksFor (called_in asks put m) s t (λ x. (x, storing m (put now))) (p3_outcome told)
    by (Ok value) k = asks_ok (reaches_on _ (reaches_on _ k.ok))
    by (Err (refusal.Code c)) k = asks_ok (reaches_on _ (reaches_on _ k.ok))
    by (Err (refusal.Memory d)) k = asks_err _ (reaches_in _ (reaches_in _ k.err.reached))

-- of a TCP socket
pub tcp_called : {A : Type 0} (m : Machine) (handle : ℕ) {place : ℕ} {r : TcpRecord} (now : TcpRecord)
    (call : TcpRecord → Asks (Result A ErrorCode × TcpRecord)) {s t : Seen} (told : Result A Refusal)
    (result : Result A Error)
    → tcp3_at m handle ≡ Some place → tcp2_at m.store.records place ≡ Some r → ends_as result ≡ p3_outcome told
    → AsksFor (call r) s t (λ x. (x, now)) (outcome told)
    → AsksFor (of_tcp handle call m) s t (λ x. (x, storing m (with_socket m.store place now))) (ends_as result)
tcp_called m handle {place} now call told result h f e k =
    rw (h, f) (socket_called (with_socket m.store place) m told result e k)

pub tcp_none : {A : Type 0} (m : Machine) (handle : ℕ) {place : ℕ}
    (call : TcpRecord → Asks (Result A ErrorCode × TcpRecord)) {s : Seen} → tcp3_at m handle ≡ Some place
    → tcp2_at m.store.records place ≡ None → AsksFor (of_tcp handle call m) s s (λ x. (x, m))
    (Ok (Err (Trap NoSuchHandle)))
unfolding bind
tcp_none m handle call h f = rw (h, f) (asks_given _ _ refl refl)

-- of a UDP socket
pub udp_called : {A : Type 0} (m : Machine) (handle : ℕ) {place : ℕ} {o : OpenUdp} (now : OpenUdp)
    (call : OpenUdp → Asks (Result A ErrorCode × OpenUdp)) {s t : Seen} (told : Result A Refusal)
    (result : Result A Error)
    → udp3_at m handle ≡ Some place → open_at m.store.records place ≡ Some o → ends_as result ≡ p3_outcome told
    → AsksFor (call o) s t (λ x. (x, now)) (outcome told)
    → AsksFor (of_udp handle call m) s t (λ x. (x, storing m (with_open_udp m.store place now))) (ends_as result)
udp_called m handle {place} now call told result h f e k =
    rw (h, f) (socket_called (with_open_udp m.store place) m told result e k)

pub udp_none : {A : Type 0} (m : Machine) (handle : ℕ) {place : ℕ}
    (call : OpenUdp → Asks (Result A ErrorCode × OpenUdp)) {s : Seen} → udp3_at m handle ≡ Some place
    → open_at m.store.records place ≡ None → AsksFor (of_udp handle call m) s s (λ x. (x, m))
    (Ok (Err (Trap NoSuchHandle)))
unfolding bind
udp_none m handle call h f = rw (h, f) (asks_given _ _ refl refl)

-- == a socket is made
-- none was
pub create_refused : (m : Machine) (own : OpId) (ctx : WasiSocketsCtx) (family : SocketAddressFamily) {s t : Seen}
    {now : Records} (told : Result ℕ Refusal) (x : Error) (r : Result ℕ Error) → IsErrAnd r (λ y. y ≡ x)
    → ends_as {T = ℕ} (Err x) ≡ p3_outcome told
    → MakesTcp own ctx family s t m.store now (outcome told)
    → AsksFor (create own ctx family m) s t (λ made. (made, storing m now)) (ends_as r)
create_refused m own ctx family told x (Ok y) h e k = absurd h
create_refused m own ctx family {s} {t} {now} told x (Err y) h e k =
    let P : Error → Type 0 =
    λ z. AsksFor (create own ctx family m) s t (λ made. (made, storing m now)) (ends_as (Err z)) in
    subst P (sym h) (by x told e k)
  where
    refused : (d : ErrorCode) → MakesTcp own ctx family s t m.store now (Ok (Err d))
        → AsksFor (create own ctx family m) s t (λ made. (made, storing m now)) (Ok (Err (p3_stop d)))
    refused d k = rw k.same (asks_end (made_to handle_told code_told Tcp3 m own) k.asked.ok refl)

    by : (x : Error) (told : Result ℕ Refusal) → ends_as {T = ℕ} (Err x) ≡ p3_outcome told
        → MakesTcp own ctx family s t m.store now (outcome told)
        → AsksFor (create own ctx family m) s t (λ made. (made, storing m now)) (ends_as (Err x))
    by (error.Code c) (Ok v) e k = absurd (cc)
    by (error.Code c) (Err (refusal.Code d)) e k = rw e (refused d k)
    by (error.Code c) (Err (refusal.Memory d)) e k = absurd (cc)
    by (error.Trap c) (Ok v) e k = absurd (cc)
    by (error.Trap c) (Err (refusal.Code d)) e k = rw e (refused d k)
    by (error.Trap c) (Err (refusal.Memory d)) e k = absurd (cc)
    by (error.Memory c) (Ok v) e k = absurd (cc)
    by (error.Memory c) (Err (refusal.Code d)) e k = absurd (cc)
    by (error.Memory c) (Err (refusal.Memory d)) e k = asks_err
        (bind k.asked.err.rest (made_to handle_told code_told Tcp3 m own))
        (reaches_in (made_to handle_told code_told Tcp3 m own) k.asked.err.reached)

-- a fault of the table, which becomes the call's error by a `?`
pub fault_told : {asks : Asks (Result ℕ P3Stop × Machine)} {s t : Seen} {n : Machine} (x : Fault) (r : Result ℕ Error)
    → IsErrAnd r (λ y. y ≡ of_fault x) → AsksFor asks s t (λ (made : Result ℕ Stop). (handle_told made, n))
    (fault_outcome {T = ℕ} (Err x)) → AsksFor asks s t (λ made. (made, n)) (ends_as r)
fault_told x (Ok y) h k = absurd h
fault_told {asks} {s} {t} {n} x (Err y) h k =
    let P : Error → Type 0 = λ z. AsksFor asks s t (λ made. (made, n)) (ends_as (Err z)) in subst P (sym h) (by x k)
  where
    by : (x : Fault) → AsksFor asks s t (λ (made : Result ℕ Stop). (handle_told made, n))
        (fault_outcome {T = ℕ} (Err x)) → AsksFor asks s t (λ made. (made, n)) (ends_as {T = ℕ} (Err (of_fault x)))
    by (fault.Trap c) k = asks_ok k.ok
    by (fault.Memory d) k = asks_err k.err.rest k.err.reached
