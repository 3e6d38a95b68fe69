-- What a line works on where it begins, in its midst and at its end, and what is known of handles there.
use Rattle.host_store.specs.declared.kind.PlainInput.TheVariants as plain_input
use Rattle.host_store.specs.declared.kind.PlainOutput.TheVariants as plain_output
use Rattle.wasi_walks.proofs.walks.Moves.{MakesPlain}
use Rattle.wasi_walks.proofs.Words.{GuestCall, Step}
use Rattle.wasi_walks.proofs.Words.{Answer, Ask, AskWrite, Asks, Bool, Err, ErrorCode, Full, Give, HandleTable, Input, Kind, List, Machine, None, Ok}
use Rattle.wasi_walks.proofs.Words.{OpId, Option, Output, Pending, Pollable, Ready, Records, Result, Socket, Some, Standing, Stop}
use Rattle.wasi_walks.proofs.Words.{Streams, Tcp2, TcpRecord, Trap, Watched, accept_answered, accept_at, accept_record_asks, accepted_record, ap}
use Rattle.wasi_walks.proofs.Words.{ask_made, bind, call_of, eqb-true, false, if◌then◌else◌, input_of, is_full, kept_accepted, kind_at, make_asks}
use Rattle.wasi_walks.proofs.Words.{length, name_of, output_of, place_of, refl, subst, sym, table_parent, true}
use Rattle.wasi_walks.proofs.Words.{watch_of, watched_by, with_handle, with_records, ℕ, ⊤, ◌==◌, ◌∙◌, ◌≡◌}
use Rattle.wasi_world.specs.declared.ids.Ids.{Ids}
use Rattle.wasi_walks.proofs.walks.Moves.{Interface, P2, ToListen, Own, Used, Here, put, Found, NoStartStands, record_of, udp_record_of, tcp_place, udp_place, Made, Awaited, Emptied, Numbered, Past, Unmade, Joined}
use Rattle.host_store.specs.declared.kind.Kind.TheVariants.{Listen3, Tcp3, Udp2, Udp3, PlainInput, PlainOutput, Incoming, Outgoing, Lookup}
use Rattle.host_store.specs.Kinds.{listen3_of, tcp3_of, udp3_of, udp_of, incoming_of, outgoing_of}
use Rattle.wasi_walks.proofs.Lists.{value_front}
use Rattle.wasi_walks.proofs.walks.Law.{HasRecord, Given, given_then}
use Rattle.wasi_records.specs.Records.{tcp2_at, tcp2_put}
use Rattle.wasi_records.specs.declared.records.Record.{Record}
use Rattle.wasi_walks.proofs.Places.{push_finds, tcp_sort}
use Rattle.wasi_steps.specs.declared.guest_call.PipeCall.{PipeCall}

-- a line begins, and is over
abbrev pub Starts : Machine → Own → Here
Starts m more = record { machine = m; at = None; made = Past; own = more }

abbrev pub Over : Machine → Here
Over m = record { machine = m; at = None; made = Past; own = Used }

abbrev pub OverWith : {A : Type 0} → A × Machine → Here
OverWith done = Over done.1

-- it works on the record of this place by that line's operation, and has done so
abbrev pub At : ℕ → Machine → ℕ → Own → Here
At n m place more = record { machine = m; at = Some (place, n); made = Past; own = more }

abbrev pub Put : {A : Type 0} → ℕ → Machine → ℕ → A × Records → Here
Put n m place done = At n (record m { store = done.1 }) place Used

-- with these records nothing is worked on any more
abbrev pub OverIn : {A : Type 0} → Machine → A × Records → Here
OverIn m done = Over (record m { store = done.1 })

-- it listens on the record of this place
abbrev pub Listens : ℕ → Machine → Option ℕ → ℕ → Own → Here
Listens n m marks place own = record (At n m place own) { made = ToListen n marks place }

-- and its record is that of a socket that is dropped
abbrev pub Emptying : ℕ → Machine → ℕ → Kind → Own → Here
Emptying n m place kind own = record (At n m place own) { made = Emptied kind }

-- it works on a create, whose record has no handle yet
abbrev pub Awaiting : Interface → OpId → Machine → ℕ → Here
Awaiting face side m place = record (Over m) { made = Awaited face side place }

-- a lookup or a pipe is made, whose record has the next number
abbrev pub Numbering : Machine → Here
Numbering m = record (Over m) { made = Numbered (length m.store.records) m.table.next }

pub socket_record : (k : Option Kind) (place : ℕ) → place_of k ≡ Some place → record_of k ≡ Some place
socket_record (Some (Tcp2 n)) place e = e
socket_record _ place e = absurd (cc)

pub tcp3_record : (k : Option Kind) (place : ℕ) → tcp3_of k ≡ Some place → record_of k ≡ Some place
tcp3_record (Some (Tcp3 n)) place e = e
tcp3_record _ place e = absurd (cc)

pub tcp3_kind : (k : Option Kind) (place : ℕ) → tcp3_of k ≡ Some place → k ≡ Some (Tcp3 place)
tcp3_kind (Some (Tcp3 n)) place e = cc
tcp3_kind _ place e = absurd (cc)

pub listen3_record : (k : Option Kind) (place : ℕ) → listen3_of k ≡ Some place → record_of k ≡ Some place
listen3_record (Some (Listen3 n)) place e = e
listen3_record _ place e = absurd (cc)

pub socket_kind : (k : Option Kind) (place : ℕ) → place_of k ≡ Some place → k ≡ Some (Tcp2 place)
socket_kind (Some (Tcp2 n)) place e = cc
socket_kind _ place e = absurd (cc)

pub input_record : (k : Option Kind) (place : ℕ) → input_of k ≡ Some place → record_of k ≡ Some place
input_record (Some (Input n)) place e = e
input_record _ place e = absurd (cc)

pub output_record : (k : Option Kind) (place : ℕ) → output_of k ≡ Some place → record_of k ≡ Some place
output_record (Some (Output n)) place e = e
output_record _ place e = absurd (cc)

pub there : {h : Here} {place : ℕ} {r : TcpRecord} → Found h place r → HasRecord h place
there {r} g = record { was = r; found = g }

-- the pending call under a number
pub stands_so : (o : Option Standing) (n : ℕ) (s : Standing) → call_of o n ≡ Some s → (o ≡ Some s) × (s.ids.line ≡ n)
stands_so None n s e = absurd (cc)
stands_so (Some t) n s e = by_line (t.ids.line == n) refl e
  where
    by_line : (same : Bool) → (t.ids.line == n) ≡ same → (if same then Some t else None) ≡ Some s → (Some t ≡ Some s) × (s.ids.line ≡ n)
    by_line true l q = let its : t ≡ s = cc in (q, sym (ap (λ (x : Standing). x.ids.line) its) ∙ eqb-true t.ids.line n l)
    by_line false l q = absurd (cc)

-- where nothing is pending, no start is
pub none_stands : {o : Option Standing} → o ≡ None → NoStartStands o
none_stands e = subst NoStartStands (sym e) tt

pub streams_are : (h : Here) (place : ℕ) (r : TcpRecord) (s : Streams) → r.streams ≡ Some s → put h place (record r { streams = Some s }) ≡ put h place r
streams_are h place r s e = ap (λ (o : Option Streams). put h place (record r { streams = o })) (sym e)

-- the streams of a connection are made
abbrev pub Between : Option (ℕ × ℕ) → Made → Machine → Here
Between at made m = record { machine = m; at = at; made = made; own = Used }

-- an accept looks, and has taken what was handed over
abbrev pub Watching : ℕ → Machine → ℕ → Own → Here
Watching line m place own = record { machine = m; at = Some (place, line); made = Unmade; own = own }

abbrev pub AcceptedSo : ℕ → Machine → ℕ → Result ℕ Stop × Records → Here
AcceptedSo line m place (Ok p, store) = Between None (Joined P2 p) (record m { store = store })
AcceptedSo line m place (Err why, store) = Between (Some (place, line)) Unmade (record m { store = store })

-- with these records
abbrev pub Sets : Machine → List Record → Here
Sets m records = record { machine = record m { store = record m.store { records = records } }; at = None; made = Past; own = Used }

-- a handle that is live stays so where another is made
pub make_given : (t : HandleTable) (op : OpId) (kind : Kind) (parent : Option ℕ) (sock : Option OpId) (handle : ℕ) (its : Kind) → kind_at t handle ≡ Some its → Given (λ made. kind_at made.1 handle ≡ Some its) (make_asks t op kind parent sock)
unfolding bind
make_given t op kind parent sock handle its e = by_test (is_full t)
  where
    by_test : (b : Bool) → Given (λ (made : Result ℕ Stop × HandleTable). kind_at made.1 handle ≡ Some its) (if b then Give (Err (Trap Full), t) else bind (ask_made op t.next (name_of kind) parent sock) (λ done. Give (Ok t.next, with_handle t kind parent)))
    by_test true = e
    by_test false = λ told. value_front t.live (record { handle = t.next; value = kind; parent = table_parent kind parent }) handle its e

pub watched_record : (k : Option Kind) (w : Watched) → watched_by k ≡ Some w → record_of k ≡ tcp_place w
watched_record (Some (Tcp2 n)) w e = let p : Watched.Socket n ≡ w = cc in ap tcp_place p
watched_record (Some (Udp2 n)) w e = let p : Watched.Udp n ≡ w = cc in ap tcp_place p
watched_record (Some (Input n)) w e = let p : Watched.Input n ≡ w = cc in ap tcp_place p
watched_record (Some (Output n)) w e = let p : Watched.Output n ≡ w = cc in ap tcp_place p
watched_record (Some (Incoming n)) w e = let p : Watched.Incoming n ≡ w = cc in ap tcp_place p
watched_record (Some (Outgoing n)) w e = let p : Watched.Outgoing n ≡ w = cc in ap tcp_place p
watched_record (Some (Lookup n)) w e = let p : Watched.Lookup n ≡ w = cc in ap tcp_place p
watched_record (Some (PlainInput i)) w e = let p : Watched.Plain ≡ w = cc in ap tcp_place p
watched_record (Some (PlainOutput o)) w e = let p : Watched.Plain ≡ w = cc in ap tcp_place p
watched_record _ w e = absurd (cc)

pub watch_record : (k : Option Kind) (w : Watched) → watch_of k ≡ Some w → record_of k ≡ tcp_place w
watch_record (Some (Pollable x)) w e = let p : x ≡ w = cc in ap tcp_place p
watch_record _ w e = absurd (cc)

-- the same of UDP sockets
pub udp_record : (k : Option Kind) (place : ℕ) → udp_of k ≡ Some place → udp_record_of k ≡ Some place
udp_record (Some (Udp2 n)) place e = e
udp_record _ place e = absurd (cc)

pub udp3_record : (k : Option Kind) (place : ℕ) → udp3_of k ≡ Some place → udp_record_of k ≡ Some place
udp3_record (Some (Udp3 n)) place e = e
udp3_record _ place e = absurd (cc)

pub udp3_kind : (k : Option Kind) (place : ℕ) → udp3_of k ≡ Some place → k ≡ Some (Udp3 place)
udp3_kind (Some (Udp3 n)) place e = cc
udp3_kind _ place e = absurd (cc)

pub incoming_kind : (k : Option Kind) (place : ℕ) → incoming_of k ≡ Some place → k ≡ Some (Incoming place)
incoming_kind (Some (Incoming n)) place e = let p : n ≡ place = cc in ap (λ (x : ℕ). Some (Incoming x)) p
incoming_kind _ place e = absurd (cc)

pub incoming_record : (k : Option Kind) (place : ℕ) → incoming_of k ≡ Some place → udp_record_of k ≡ Some place
incoming_record (Some (Incoming n)) place e = e
incoming_record _ place e = absurd (cc)

pub outgoing_record : (k : Option Kind) (place : ℕ) → outgoing_of k ≡ Some place → udp_record_of k ≡ Some place
outgoing_record (Some (Outgoing n)) place e = e
outgoing_record _ place e = absurd (cc)

pub watched_udp : (k : Option Kind) (w : Watched) → watched_by k ≡ Some w → udp_record_of k ≡ udp_place w
watched_udp (Some (Tcp2 n)) w e = let p : Watched.Socket n ≡ w = cc in ap udp_place p
watched_udp (Some (Udp2 n)) w e = let p : Watched.Udp n ≡ w = cc in ap udp_place p
watched_udp (Some (Input n)) w e = let p : Watched.Input n ≡ w = cc in ap udp_place p
watched_udp (Some (Output n)) w e = let p : Watched.Output n ≡ w = cc in ap udp_place p
watched_udp (Some (Incoming n)) w e = let p : Watched.Incoming n ≡ w = cc in ap udp_place p
watched_udp (Some (Outgoing n)) w e = let p : Watched.Outgoing n ≡ w = cc in ap udp_place p
watched_udp (Some (Lookup n)) w e = let p : Watched.Lookup n ≡ w = cc in ap udp_place p
watched_udp (Some (PlainInput i)) w e = let p : Watched.Plain ≡ w = cc in ap udp_place p
watched_udp (Some (PlainOutput o)) w e = let p : Watched.Plain ≡ w = cc in ap udp_place p
watched_udp _ w e = absurd (cc)

-- a lookup
pub watched_lookup : (k : Option Kind) (place : ℕ) → watched_by k ≡ Some (Watched.Lookup place) → k ≡ Some (Lookup place)
watched_lookup (Some (Lookup n)) place e = cc
watched_lookup _ place e = absurd (cc)

pub watch_udp : (k : Option Kind) (w : Watched) → watch_of k ≡ Some w → udp_record_of k ≡ udp_place w
watch_udp (Some (Pollable x)) w e = let p : x ≡ w = cc in ap udp_place p
watch_udp _ w e = absurd (cc)

pub given_any : {A : Type 0} (R : A → Type 0) → ((a : A) → R a) → (asks : Asks A) → Given R asks
given_any R k (Give a) = k a
given_any R k (Ask op c next) = λ told. given_any R k (next told)
given_any R k (AskWrite op sock bytes next) = λ told. given_any R k (next told)

-- what joined the records is there
pub record HasAt (store : Records) (p : ℕ) : Type 0 where
  pub was : TcpRecord
  pub found : tcp2_at store.records p ≡ Some was

abbrev pub JoinedSo : Result ℕ Stop × Records → Type 0
JoinedSo (Ok p, store) = HasAt store p
JoinedSo (Err why, store) = ⊤

pub joined_given : (store : Records) (ids : Ids) (place : ℕ) (o : Option TcpRecord) → Given JoinedSo (accept_at store ids place o)
joined_given store ids place None = tt
joined_given store ids place (Some r) = given_then JoinedSo (accept_answered store place) answered (accept_record_asks ids r)
  where
    kept : (records : List Record) (x : Result (Unit {0}) Stop × TcpRecord) → JoinedSo (with_records store (kept_accepted records x))
    kept records (Ok done, now) = record { was = now; found = push_finds tcp_sort records now }
    kept records (Err why, now) = tt

    answered : (done : Result (Answer Socket) ErrorCode × TcpRecord) → JoinedSo (accept_answered store place done)
    answered (Ok (Ready socket), r) = kept (tcp2_put store.records place r) (accepted_record socket)
    answered (Ok Pending, r) = tt
    answered (Err why, r) = tt

-- an input or an output of no connection
abbrev pub IsPlain : Kind → Type 0
IsPlain (PlainInput plain) = ⊤
IsPlain (PlainOutput plain) = ⊤
IsPlain _ = ⊥

pub makes_plain : (s : Step) (kind : Kind) → MakesPlain s kind → IsPlain kind
makes_plain (Step.Call ctx (GuestCall.Pipe (PipeCall.In bytes))) (PlainInput (plain_input.Pipe place)) m = tt
makes_plain (Step.Call ctx (GuestCall.Pipe (PipeCall.Out capacity))) (PlainOutput (plain_output.Pipe place)) m = tt
makes_plain (Step.Call ctx (GuestCall.Pipe PipeCall.Sink)) (PlainOutput plain_output.Sink) m = tt
makes_plain (Step.Call ctx (GuestCall.Pipe PipeCall.ClosedIn)) (PlainInput plain_input.Closed) m = tt
makes_plain (Step.Call ctx (GuestCall.Pipe PipeCall.ClosedOut)) (PlainOutput plain_output.Closed) m = tt
makes_plain _ _ m = absurd m
