-- An accept: the listener's is polled, and what was taken joins the records.
use Rattle.wasi_records.specs.Records.{tcp2_put}
use Rattle.wasi_walks.proofs.Words.{Accepting, Accepts, Answer, Err, ErrorCode, Give}
use Rattle.wasi_walks.proofs.Words.{List}
use Rattle.wasi_walks.proofs.Words.{Listener, Listening, None, Ok, Option, Pending, Ready, Result, Socket, Some}
use Rattle.wasi_walks.proofs.Words.{GuestCall, Step, Stop, TcpRecord, TcpState, WasiSocketsCtx, accept_asks, accept_end, accept_ended}
use Rattle.wasi_walks.proofs.Words.{accepted_record, ap}
use Rattle.wasi_walks.proofs.Words.{kind_at}
use Rattle.wasi_walks.proofs.Words.{refl}
use Rattle.wasi_walks.proofs.Words.{subst, sym}
use Rattle.wasi_walks.proofs.Words.{with_accept, with_listening}
use Rattle.wasi_walks.proofs.Words.{ℕ, ◌∙◌, ◌≡◌}
use Rattle.tcp_records.specs.Sockets.{new_record}
use Rattle.std.specs.Prelude.{length}
use Rattle.wasi_walks.proofs.walks.Moves.{Made, Names, part_of, Here, put, Unmade, record_of, new_accept, accepting_now, faulted, joined, joined_plain, joining, joins_as, BeginsAccept, Forgets, Joins, JoinsFault, JoinsPlain, P3, Joined, Faulted}
use Rattle.wasi_walks.proofs.walks.Law.{Law, HasRecord, owning, put_put, Walks, give, and_then, move, from, found, on, await}
use Rattle.std.specs.Prelude.{not, ◌+◌}
use Rattle.wasi_walks.proofs.walks.Here.{MayBegin, after}
use Rattle.wasi_tcp.specs.Listener.{begun as accept_begun, has_accept}
use Rattle.wasi_records.specs.declared.records.Record.{Record}
use Rattle.wasi_walks.proofs.Places.{put_twice, tcp_sort}
use Rattle.wasi_steps.specs.declared.guest_call.TcpCall.{TcpCall}
use Rattle.wasi_steps.specs.declared.guest_call.P3TcpCall.{P3TcpCall}

same_accept : (h : Here) (place : ℕ) (r : TcpRecord) (l : Listener) (a : Accepting) → r.listening ≡ Accepts l → l.accept ≡ a → put h place (accepting_now r l a) ≡ put h place r
same_accept h place r l a e q = ap (λ (x : Accepting). put h place (accepting_now r l x)) (sym q) ∙ ap (λ (x : Listening). put h place (with_listening r x)) (sym e)

module _ {contexts : List WasiSocketsCtx} {line : ℕ} {origin : Step} {law : Law contexts line origin} {h : Here} {place : ℕ} (here : HasRecord h place) where
  accepting_walks : {A : Type 0} {end : A → Here} (r : TcpRecord) (l : Listener) (ends : Accepting → A) → ((now : Accepting) → Walks law (put h place (accepting_now r l now)) end (Give (ends now))) → (a : Accepting) → Walks law (put h place (accepting_now r l a)) end (accept_asks ends a)
  accepting_walks r l ends k (Accepting.Asking op) = and_then (await here (accepting_now r l (Accepting.Asking op)) (with_accept l (Accepting.Asking op)) op refl refl) (λ ended. k (accept_ended op.who ended))
  accepting_walks r l ends k s = k s

module _ {contexts : List WasiSocketsCtx} {line : ℕ} {origin : Step} {law : Law contexts line origin} {h : Here} {place : ℕ} (here : HasRecord h place) (at : h.at ≡ Some (place, line)) where
  -- an accept begins, by the next name of the line
  begins_accept_walks : {A : Type 0} {end : A → Here} (r : TcpRecord) (l : Listener) (ends : Accepting → A) (part : ℕ) → r.listening ≡ Accepts l → l.accept ≡ Accepting.Idle → h.own ≡ Names part
      → ((now : Accepting) → Walks law (record (put h place (accepting_now r l now)) { own = Names (part + 1) }) end (Give (ends now))) → Walks law (put h place r) end (accept_asks ends (new_accept (part_of line part) l))
  begins_accept_walks r l ends part e q free k =
      let new = new_accept (part_of line part) l in
      move (BeginsAccept (put h place r) place part r l at (found here r) e q free)
      (from (ap (λ (x : Here). record x { own = Names (part + 1) }) (sym (put_put h place r (accepting_now r l new)))) (accepting_walks (owning here (Names (part + 1))) r l ends k new))

module _ {contexts : List WasiSocketsCtx} {line : ℕ} {origin : Step} {law : Law contexts line origin} {h : Here} {place n : ℕ} (here : HasRecord h place) (at : h.at ≡ Some (place, n)) where
  -- a call of a listener, which may begin its accept
  pub listener_walks : {A : Type 0} {end : A → Here} (r : TcpRecord) (l : Listener) (ends : Accepting → A) (part : ℕ) (a : Accepting) → r.listening ≡ Accepts l → l.accept ≡ a → MayBegin line n part h.own (not (has_accept a))
      → ((now : Accepting) → Walks law (record (put h place (accepting_now r l now)) { own = after h.own part (not (has_accept a)) }) end (Give (ends now))) → Walks law (put h place r) end (accept_asks ends (accept_begun l.side l.maker (record { line = n; next_part = part }) a))
  listener_walks {end = end} r l ends part Accepting.Idle e q may k =
      let its = may refl in
      subst (λ (x : ℕ). Walks law (put h place r) end (accept_asks ends (new_accept (part_of x part) l))) (sym its.0) (begins_accept_walks here (at ∙ ap (λ (x : ℕ). Some (place, x)) its.0) r l ends part e q its.1 k)
  listener_walks r l ends part s e q may k = from (same_accept h place r l s e q) (accepting_walks here r l ends k s)

-- what was taken joins the records, with its streams
abbrev pub joined_if : Here → ℕ → TcpRecord → Result (Unit {0}) Stop × TcpRecord → Here
joined_if h place r (Ok done, now) = joining h (tcp2_put h.machine.store.records place r) now
joined_if h place r (Err stop, now) = put h place r

abbrev pub Took : Here → ℕ → Result (Answer Socket) ErrorCode × TcpRecord → Here
Took h place (Ok (Ready socket), r) = joined_if h place r (accepted_record socket)
Took h place (Ok Pending, r) = put h place r
Took h place (Err c, r) = put h place r

module _ {contexts : List WasiSocketsCtx} {line : ℕ} {origin : Step} {law : Law contexts line origin} {h : Here} {place : ℕ} (here : HasRecord h place) (c handle : ℕ) (is : origin ≡ Step.Call c (GuestCall.Tcp (TcpCall.Accept handle))) (of : record_of (kind_at h.machine.table handle) ≡ Some place) (unmade : h.made ≡ Unmade) where
  pub takes_walks : (r : TcpRecord) (l : Listener) (now : Accepting) → Walks law (put h place (accepting_now r l now)) (λ done. Took h place (Ok done.0, with_listening r (Accepts done.1))) (Give (accept_end l now))
  takes_walks r l (Accepting.Arrived new peer) =
      let old : TcpRecord = accepting_now r l (Accepting.Arrived new peer) in
      let idle : TcpRecord = accepting_now r l Accepting.Idle in
      move (Joins (put h place old) c handle place old (with_accept l (Accepting.Arrived new peer)) new peer is of unmade (found here old) refl refl)
      (from (ap (λ (xs : List Record). joining h xs (joined l new peer)) (sym (put_twice tcp_sort h.machine.store.records place old idle))) (give _))
  takes_walks r l (Accepting.Failed why) = let old : TcpRecord = accepting_now r l (Accepting.Failed why) in on here old _ (Forgets _ _ _ (with_accept l (Accepting.Failed why)) why (found here old) refl refl) (give _)
  takes_walks r l _ = give _

-- == an accept of 0.3: what was taken joins the records without streams, and so does the socket of a fault
abbrev pub taken_by : TcpState → ℕ → Made
taken_by (TcpState.Closed c) place = Faulted place
taken_by s place = Joined P3 place

abbrev pub taken_in : Option TcpRecord → ℕ → Made
taken_in (Some r) place = taken_by r.inner.state place
taken_in None place = Faulted place

abbrev pub TookPlain : Here → ℕ → Result (Answer Socket) ErrorCode × TcpRecord → Here
TookPlain h place (Ok (Ready socket), r) = let records = tcp2_put h.machine.store.records place r in joins_as h records (new_record socket) (taken_by socket.state (length records))
TookPlain h place (Ok Pending, r) = put h place r
TookPlain h place (Err c, r) = put h place r

module _ {contexts : List WasiSocketsCtx} {line : ℕ} {origin : Step} {law : Law contexts line origin} {h : Here} {place : ℕ} (here : HasRecord h place) (c listener remaining : ℕ) (is : origin ≡ Step.Call c (GuestCall.P3Tcp (P3TcpCall.Accept listener remaining))) (of : record_of (kind_at h.machine.table listener) ≡ Some place) (unmade : h.made ≡ Unmade) where
  pub takes_plain_walks : (r : TcpRecord) (l : Listener) (now : Accepting) → Walks law (put h place (accepting_now r l now)) (λ done. TookPlain h place (Ok done.0, with_listening r (Accepts done.1))) (Give (accept_end l now))
  takes_plain_walks r l (Accepting.Arrived new peer) =
      let old : TcpRecord = accepting_now r l (Accepting.Arrived new peer) in
      let idle : TcpRecord = accepting_now r l Accepting.Idle in
      move (JoinsPlain (put h place old) c listener remaining place old (with_accept l (Accepting.Arrived new peer)) new peer is of unmade (found here old) refl refl)
      (from (ap (λ (xs : List Record). joins_as h xs (joined_plain l new peer) (Joined P3 (length xs))) (sym (put_twice tcp_sort h.machine.store.records place old idle))) (give _))
  takes_plain_walks r l (Accepting.Failed why) =
      let old : TcpRecord = accepting_now r l (Accepting.Failed why) in
      let idle : TcpRecord = accepting_now r l Accepting.Idle in
      move (JoinsFault (put h place old) place old (with_accept l (Accepting.Failed why)) why unmade (found here old) refl refl)
      (from (ap (λ (xs : List Record). joins_as h xs (faulted l why) (Faulted (length xs))) (sym (put_twice tcp_sort h.machine.store.records place old idle))) (give _))
  takes_plain_walks r l _ = give _
