-- A law of runs: what each ask must be, what holds between the asks, and that each move keeps it.
use Rattle.wasi_walks.proofs.walks.Moves.{Interface, ListenerGoes, P2, tcp_kind, Releases}
use Rattle.wasi_walks.proofs.Words.{create_to, Result, Stop, ErrorCode, Accepting, Accepts, Allows, Ask, AskWrite, Asks, Begins, Bool, Call, End, Entry, Fits, Give, InProgress}
use Rattle.wasi_walks.proofs.Words.{IsBacklogSet, Item, Kind, List, Listener, None, Not, OpId, Operation, Option, SocketAddressFamily, Some, GuestCall, Step}
use Rattle.wasi_walks.proofs.Words.{Streams, Tcp2, TcpRecord, TcpState, Told, WasiSocketsCtx, [], accept_ended, after_local, allows_then}
use Rattle.wasi_walks.proofs.Words.{allows_weaker, ap, bind, bind_progress, connect_ended, entry, false, give_up_asks, if◌then◌else◌}
use Rattle.wasi_walks.proofs.Words.{make_asks, own_of, poll_asks, refl, side_at, side_of, subst, sym, told_addr, true}
use Rattle.wasi_walks.proofs.Words.{turn_asks, with_inner, with_listening, with_progress, with_state, with_writer, ℕ, ◌++◌, ◌∷◌, ◌≡◌}
use Rattle.wasi_walks.proofs.walks.Moves.{Here, Own, put, Found, NoStart, closed_record, Past, Joined, made_so, listen_after, accepting_now, Held, BindsOn, Connects, Listens, Awaits, IsKnown, IsQuestionOf, IsOn, Move, Marks, Creates, Used, Unused}
use Rattle.wasi_records.specs.Records.{tcp2_at}
use Rattle.wasi_walks.proofs.Words.{TcpSendStream, WriteState, length, nat_lt, new_job}
use Rattle.wasi_records.specs.declared.records.Record.{Record}
use Rattle.wasi_walks.proofs.walks.Asked.{Asked, Questions, SetsBacklog, Learns, Closes, MarksOne, MarksAccepted, AsksCreate, Polls, Turns, GivesUp}
use Rattle.std.specs.Prelude.{⊤}
use Rattle.wasi_walks.proofs.Places.{put_again, put_finds, put_twice, tcp_sort}
use Rattle.wasi_steps.specs.declared.guest_call.TcpCall.{TcpCall}

-- What a law rests on is B: nothing, where it stands alone.
pub record Rests (contexts : List WasiSocketsCtx) (line : ℕ) (origin : Step) (B : List Entry → Here → Type 0) : Type 1 where
  pub P : List Entry → OpId → Call → Type 0
  pub Inv : List Entry → Here → Type 0
  pub moves : (es : List Entry) (h now : Here) → Move line origin h now → B es h → Inv es h → Inv es now
  pub asks : (es : List Entry) (h : Here) (A : Type 0) (tree : Asks A) (end : A → Here)
      → Asked contexts line origin es h A tree end → B es h → Inv es h → Allows P (λ fs a. Inv fs (end a)) es tree

abbrev pub Law : List WasiSocketsCtx → ℕ → Step → Type 1
Law contexts line origin = Rests contexts line origin (λ es h. ⊤)

-- A write begins in a call of streams, of which a line may make more than one.
pub data BeginsIn (h : Here) : Here → Type 0 where
  InCall : (place n : ℕ) (r : TcpRecord) (s : Streams) (half : TcpSendStream) (permit : ℕ) (bytes : List ℕ) → h.at ≡ Some (place, n) → Found h place r → r.streams ≡ Some s → s.writer ≡ WriteState.Ready half permit → nat_lt permit (length bytes) ≡ false → h.own ≡ Used
      → BeginsIn h (record (put h place (with_writer r s (WriteState.Writing (new_job (own_of n) half.side bytes)))) { own = Used })

-- What a law says of one. The law of what is permitted, which counts the bytes of a line's one write, says nothing of it.
pub record BeginsWrites {contexts : List WasiSocketsCtx} {line : ℕ} {origin : Step} {B : List Entry → Here → Type 0} (law : Rests contexts line origin B) : Type 0 where
  pub begins : (es : List Entry) (h now : Here) → BeginsIn h now → B es h → law.Inv es h → law.Inv es now

-- the same by what is known of it
pub begins_by : {contexts : List WasiSocketsCtx} {line : ℕ} {origin : Step} {B : List Entry → Here
    → Type 0} (law : Rests contexts line origin B)
    → ((es : List Entry) (h : Here) (place n : ℕ) (r : TcpRecord) (s : Streams) (half : TcpSendStream) (permit : ℕ) (bytes : List ℕ) → h.at ≡ Some (place, n) → Found h place r → r.streams ≡ Some s → s.writer ≡ WriteState.Ready half permit → nat_lt permit (length bytes) ≡ false → h.own ≡ Used → B es h → law.Inv es h
    → law.Inv es (record (put h place (with_writer r s (WriteState.Writing (new_job (own_of n) half.side bytes)))) { own = Used }))
    → BeginsWrites law
begins_by {B} law k = record { begins = by_case }
  where
    by_case : (es : List Entry) (h now : Here) → BeginsIn h now → B es h → law.Inv es h → law.Inv es now
    by_case es h _ (InCall place n r s half permit bytes at g e w within used) b i =
        k es h place n r s half permit bytes at g e w within used b i

-- A place that has a record.
pub record HasRecord (h : Here) (place : ℕ) : Type 0 where
  pub was : TcpRecord
  pub found : Found h place was

pub put_put : (h : Here) (place : ℕ) (r now : TcpRecord) → put (put h place r) place now ≡ put h place now
put_put h place r now =
    let f : List Record → Here = λ xs. record h { machine = record h.machine { store = record h.machine.store { records = xs } } } in
    ap f (put_twice tcp_sort h.machine.store.records place r now)

pub put_same : (h : Here) (place : ℕ) (r : TcpRecord) → Found h place r → put h place r ≡ h
put_same h place r e =
    let f : List Record → Here = λ xs. record h { machine = record h.machine { store = record h.machine.store { records = xs } } } in
    ap f (put_again tcp_sort h.machine.store.records place r e)

-- what is known of whatever the tree gives, without the log
abbrev pub Given : {A : Type 0} → (A → Type 0) → Asks A → Type 0
Given R (Give a) = R a
Given R (Ask op c next) = (told : Told) → Given R (next told)
Given R (AskWrite op sock bytes next) = (told : Told) → Given R (next told)

pub given_then : {A B : Type 0} (R : B → Type 0) (f : A → B) → ((a : A) → R (f a)) → (asks : Asks A) → Given R (bind asks (λ a. Give (f a)))
unfolding bind
given_then R f k (Give a) = k a
given_then R f k (Ask op c next) = λ told. given_then R f k (next told)
given_then R f k (AskWrite op sock bytes next) = λ told. given_then R f k (next told)

pub given_on : {A B : Type 0} (R : B → Type 0) (f : A → Asks B) → ((a : A) → Given R (f a)) → (asks : Asks A) → Given R (bind asks f)
unfolding bind
given_on R f k (Give a) = k a
given_on R f k (Ask op c next) = λ told. given_on R f k (next told)
given_on R f k (AskWrite op sock bytes next) = λ told. given_on R f k (next told)

pub given_along : {A B : Type 0} (R : A → Type 0) (S : B → Type 0) (asks : Asks A) (f : A → Asks B) → Given R asks → ((a : A) → R a → Given S (f a)) → Given S (bind asks f)
unfolding bind
given_along R S (Give a) f g k = k a g
given_along R S (Ask op c next) f g k = λ told. given_along R S (next told) f (g told) k
given_along R S (AskWrite op sock bytes next) f g k = λ told. given_along R S (next told) f (g told) k

given_too : {A : Type 0} (P : List Entry → OpId → Call → Type 0) (Q : List Entry → A → Type 0) (R : A → Type 0) (es : List Entry) (asks : Asks A) → Allows P Q es asks → Given R asks → Allows P (λ fs a. Q fs a × R a) es asks
given_too P Q R es (Give a) h g = (h, g)
given_too P Q R es (Ask op c next) h g = (h.0, λ told fits. given_too P Q R _ (next told) (h.1 told fits) (g told))
given_too P Q R es (AskWrite op sock bytes next) h g = (h.0, λ told fits front. given_too P Q R _ (next told) (h.1 told fits front) (g told))

module _ {contexts : List WasiSocketsCtx} {line : ℕ} {origin : Step} where
  -- From here on the tree's asks are as the law wants them, and what it gives leaves the line there.
  pub record Walks (law : Law contexts line origin) {A : Type 0} (h : Here) (end : A → Here) (asks : Asks A) : Type 0 where
    pub along : (es : List Entry) → law.Inv es h → Allows law.P (λ fs a. law.Inv fs (end a)) es asks

pub found : {h : Here} {place : ℕ} → HasRecord h place → (r : TcpRecord) → Found (put h place r) place r
found {h} {place} here r = put_finds tcp_sort h.machine.store.records place here.was r here.found

pub spent : {h : Here} {place : ℕ} → HasRecord h place → HasRecord (record h { own = Used }) place
spent here = record { was = here.was; found = here.found }

pub owning : {h : Here} {place : ℕ} → HasRecord h place → (own : Own) → HasRecord (record h { own = own }) place
owning here own = record { was = here.was; found = here.found }

module _ {contexts : List WasiSocketsCtx} {line : ℕ} {origin : Step} {law : Law contexts line origin} where
  -- == how walks are put together
  pub give : {A : Type 0} {end : A → Here} (a : A) → Walks law (end a) end (Give a)
  give a = record { along = λ es i. i }

  pub and_then : {A B : Type 0} {h : Here} {mid : A → Here} {end : B → Here} {asks : Asks A} {f : A → Asks B} → Walks law h mid asks → ((a : A) → Walks law (mid a) end (f a)) → Walks law h end (bind asks f)
  and_then {mid} {end} {asks} {f} w k = record { along = λ es i. allows_then law.P (λ fs a. law.Inv fs (mid a)) (λ fs b. law.Inv fs (end b)) es asks f (w.along es i) (λ fs a j. (k a).along fs j) }

  -- what is given is said otherwise in between
  pub and_so : {A B C : Type 0} {h : Here} {mid : A → Here} {end : C → Here} {asks : Asks A} (f : A → B) (g : B → Asks C) → Walks law h mid asks → ((a : A) → Walks law (mid a) end (g (f a))) → Walks law h end (bind (bind asks (λ a. Give (f a))) g)
  unfolding bind
  and_so {A} {B} {C} {h} {mid} {end} {asks} f g w k = record {
    along = λ es i.
        allows_then law.P (λ fs b. Allows law.P (λ gs c. law.Inv gs (end c)) fs (g b)) (λ gs c. law.Inv gs (end c)) es (bind asks (λ a. Give (f a))) g
        (allows_then law.P (λ fs a. law.Inv fs (mid a)) (λ fs b. Allows law.P (λ gs c. law.Inv gs (end c)) fs (g b)) es asks (λ a. Give (f a)) (w.along es i) (λ fs a j. (k a).along fs j)) (λ fs b l. l);
  }

  pub and_given : {A B : Type 0} {h : Here} {mid : A → Here} {end : B → Here} {asks : Asks A} {f : A → Asks B} (R : A → Type 0) → Given R asks → Walks law h mid asks → ((a : A) → R a → Walks law (mid a) end (f a)) → Walks law h end (bind asks f)
  and_given {mid} {end} {asks} {f} R g w k = record {
    along = λ es i. allows_then law.P (λ fs a. law.Inv fs (mid a) × R a) (λ fs b. law.Inv fs (end b)) es asks f (given_too law.P (λ fs a. law.Inv fs (mid a)) R es asks (w.along es i) g) (λ fs a j. (k a j.1).along fs j.0);
  }

  pub by_if : {A : Type 0} {h : Here} {end : A → Here} {asks others : Asks A} (b : Bool) → (b ≡ true → Walks law h end asks) → (b ≡ false → Walks law h end others) → Walks law h end (if b then asks else others)
  by_if true w v = w refl
  by_if false w v = v refl

  pub move : {A : Type 0} {h now : Here} {end : A → Here} {asks : Asks A} → Move line origin h now → Walks law now end asks → Walks law h end asks
  move {h} {now} m w = record { along = λ es i. w.along es (law.moves es h now m tt i) }

  pub gives : {A : Type 0} {h : Here} {end : A → Here} (a : A) → Move line origin h (end a) → Walks law h end (Give a)
  gives {h} {end} a m = move m (give {end = end} a)

  -- the same state, said otherwise
  pub from : {A : Type 0} {h now : Here} {end : A → Here} {asks : Asks A} → now ≡ h → Walks law now end asks → Walks law h end asks
  from {end} {asks} e w = subst (λ (x : Here). Walks law x end asks) e w

  pub ends : {A : Type 0} {h : Here} {mid end : A → Here} {asks : Asks A} → ((a : A) → mid a ≡ end a) → Walks law h mid asks → Walks law h end asks
  ends {mid} {end} {asks} e w = record { along = λ es i. allows_weaker law.P (λ fs a. law.Inv fs (mid a)) (λ fs a. law.Inv fs (end a)) (λ fs a k. subst (law.Inv fs) (e a) k) es asks (w.along es i) }

  pub mark : {h : Here} {kind : Kind} {parent : Option ℕ} {sock : Option OpId} → Marks origin h kind parent sock → Walks law h (λ made. record h { machine = record h.machine { table = made.1 } }) (make_asks h.machine.table (own_of line) kind parent sock)
  mark {h} {kind} {parent} {sock} m = record { along = λ es i. law.asks es h _ _ _ (MarksOne kind parent sock m) tt i }

  pub accept : {h : Here} (c listener place : ℕ) (r : TcpRecord) → origin ≡ Step.Call c (GuestCall.Tcp (TcpCall.Accept listener)) → h.made ≡ Joined P2 place → h.own ≡ Used → Found h place r
      → Walks law h (λ made. record h { machine = record h.machine { table = made.1 }; made = made_so place made.0 }) (make_asks h.machine.table (own_of line) (Tcp2 place) (Some listener) (side_at (tcp2_at h.machine.store.records place)))
  accept {h} c listener place r is e o g = record { along = λ es i. law.asks es h _ _ _ (MarksAccepted c listener place r is e o g) tt i }

  pub create : {T : Type 0} {h : Here} (tells : Result ℕ Stop → T) (fails : ErrorCode → T) (face : Interface) (ctx : WasiSocketsCtx) (family : SocketAddressFamily) → Creates contexts ctx family face origin → h.at ≡ None → h.own ≡ Unused → h.made ≡ Past → Walks law h (λ done. record h { machine = done.1; own = Used }) (create_to tells fails (tcp_kind face) h.machine (own_of line) ctx family)
  create {h = h} tells fails face ctx family c a o m = record { along = λ es i. law.asks es h _ _ _ (AsksCreate tells fails face ctx family c a o m) tt i }

  -- == on the record of a place, whichever it is by now
  module _ {h : Here} {place : ℕ} (here : HasRecord h place) where
    pub on : {A : Type 0} {end : A → Here} {asks : Asks A} (r now : TcpRecord) → Move line origin (put h place r) (put (put h place r) place now) → Walks law (put h place now) end asks → Walks law (put h place r) end asks
    on r now m w = move m (from (sym (put_put h place r now)) w)

    pub ask : {A : Type 0} {n : ℕ} {end : A → Here} (r : TcpRecord) {side : OpId} {c : Call} {next : Told → Asks A} → h.at ≡ Some (place, n) → IsOn r side → IsQuestionOf line origin n side c × IsKnown r c → ((told : Told) → Fits c told → Walks law (put h place r) end (next told)) → Walks law (put h place r) end (Ask (own_of n) c next)
    ask {n} r {side} {c} at o q k = record {
      along = λ es i.
          let a = law.asks es (put h place r) _ _ _ (Questions place n r side c at (found here r) o q) tt i in
          (a.0, λ told fits. (k told fits).along (es ++ entry (own_of n) c told ∷ []) (a.1 told fits));
    }

    pub set : {A : Type 0} {end : A → Here} (r : TcpRecord) {side : OpId} {backlog : ℕ} {next : Told → Asks A} → h.at ≡ Some (place, line) → r.inner.state ≡ TcpState.Listening side → IsBacklogSet backlog origin → ((told : Told) → Walks law (put h place r) end (next told)) → Walks law (put h place r) end (Ask (own_of line) (Call.SetBacklog side backlog) next)
    set r {side} {backlog} at s b k = record {
      along = λ es i.
          let a = law.asks es (put h place r) _ _ _ (SetsBacklog place r side backlog at (found here r) s b) tt i in
          (a.0, λ told fits. (k told).along (es ++ entry (own_of line) (Call.SetBacklog side backlog) told ∷ []) (a.1 told fits));
    }

    pub learn : {A : Type 0} {end : A → Here} (r : TcpRecord) {side : OpId} {next : Told → Asks A} → h.at ≡ Some (place, line) → r.inner.state ≡ TcpState.Default side → ((told : Told) → Walks law (put h place (with_inner r (after_local r.inner (told_addr told)).1)) end (next told)) → Walks law (put h place r) end (Ask (own_of line) (Call.Local side) next)
    learn r {side} at s k = record {
      along = λ es i.
          let a = law.asks es (put h place r) _ _ _ (Learns place r side at (found here r) s) tt i in (
            a.0,
            λ told fits.
                let fs : List Entry = es ++ entry (own_of line) (Call.Local side) told ∷ [] in
                (k told).along fs (subst (law.Inv fs) (put_put h place r (with_inner r (after_local r.inner (told_addr told)).1)) (a.1 told fits)),
          );
    }

    -- a poll, and what becomes of the record
    polled : (r : TcpRecord) {op : Operation} (now : End × List Item → TcpRecord) → Held (put h place r) op (λ ended. put (put h place r) place (now ended)) → Walks law (put h place r) (λ ended. put h place (now ended)) (poll_asks op)
    polled r {op} now held = ends (λ ended. put_put h place r (now ended)) (record { along = λ es i. law.asks es (put h place r) _ _ _ (Polls op _ held) tt i })

    pub poll_bind : (r : TcpRecord) (op : Operation) → NoStart h → r.in_progress ≡ InProgress.Binding op → Walks law (put h place r) (λ ended. put h place (with_progress r (bind_progress op ended))) (poll_asks op)
    poll_bind r op q e = polled r _ (BindsOn place r op q (found here r) e)

    pub connect : (r : TcpRecord) (op : Operation) → r.inner.state ≡ TcpState.Connecting op → Walks law (put h place r) (λ ended. put h place (with_inner r (with_state r.inner (connect_ended op.who ended).1))) (poll_asks op)
    connect r op e = polled r _ (Connects place r op (found here r) e)

    pub listen : (r : TcpRecord) (op : Operation) → NoStart h → r.listening ≡ Begins op → side_of r.inner ≡ None → Walks law (put h place r) (λ ended. put h place (listen_after op r ended)) (poll_asks op)
    listen r op q e c = polled r _ (Listens place r op q (found here r) e c)

    pub await : (r : TcpRecord) (l : Listener) (op : Operation) → r.listening ≡ Accepts l → l.accept ≡ Accepting.Asking op → Walks law (put h place r) (λ ended. put h place (accepting_now r l (accept_ended op.who ended))) (poll_asks op)
    await r l op e a = polled r _ (Awaits place r l op (found here r) e a)

    pub turn : (r : TcpRecord) (s : Streams) → r.streams ≡ Some s → Walks law (put h place r) (λ done. put h place (with_writer r s done.1)) (turn_asks s.writer)
    turn r s e = record {
      along = λ es i.
          allows_weaker law.P (λ fs done. law.Inv fs (put (put h place r) place (with_writer r s done.1))) (λ fs done. law.Inv fs (put h place (with_writer r s done.1)))
          (λ fs done k. subst (law.Inv fs) (put_put h place r (with_writer r s done.1)) k) es (turn_asks s.writer) (law.asks es (put h place r) _ _ _ (Turns place r s (found here r) e) tt i);
    }

    -- the record goes: its listening is released, and its network socket is closed
    pub give_up : (r : TcpRecord) → NoStart h → ListenerGoes (put h place r) place r → Walks law (put h place r) (λ done. put h place (with_listening r Not)) (give_up_asks r.listening)
    give_up r q goes = ends (λ done. put_put h place r (with_listening r Not)) (record { along = λ es i. law.asks es (put h place r) _ _ _ (GivesUp place r q goes (found here r)) tt i })

    pub close : {A : Type 0} {end : A → Here} (r : TcpRecord) {side : OpId} {next : Told → Asks A} → Releases h place → side_of r.inner ≡ Some side → ((told : Told) → Walks law (put h place (closed_record r)) end (next told)) → Walks law (put h place r) end (Ask (own_of line) (Call.Close side) next)
    close r {side} q e k = record {
      along = λ es i.
          let a = law.asks es (put h place r) _ _ _ (Closes place r side q (found here r) e) tt i in (
            a.0,
            λ told fits.
                let fs : List Entry = es ++ entry (own_of line) (Call.Close side) told ∷ [] in
                (k told).along fs (subst (law.Inv fs) (put_put h place r (closed_record r)) (a.1 told fits)),
          );
    }
