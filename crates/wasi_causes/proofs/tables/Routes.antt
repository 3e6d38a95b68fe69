-- How a call finds its record, and how a handle is made: what every step shares that does so.
use Rattle.wasi_causes.proofs.Words.{AccessDenied, Asks, Bool, Code, CodeWord, Entry, Err, ErrorCode, Full, Give, HandleTable, Input, IsDone, IsSomeAnd}
use Rattle.wasi_causes.proofs.Words.{Kind, List, Machine, NoSuchHandle, None, OfRecord, Ok, OpId, Option, Output, Records, Reply, Result, Some, Step}
use Rattle.wasi_causes.proofs.Words.{Stop, TcpRecord, Told, Trap, WasiSocketsCtx, [], ap, arith, bind, entry, false, is_full, is_nothing, make_asks}
use Rattle.wasi_causes.proofs.Words.{marks_in, marks_in-push, name_of, no_such_handle, putting, record_at, record_in, refl}
use Rattle.wasi_causes.proofs.Words.{socket_at, subst, sym, true, with_handle, with_socket, with_store, word_of_code}
use Rattle.wasi_causes.proofs.Words.{ℕ, ◌++◌, ◌+◌, ◌↔◌, ◌∙◌, ◌∷◌, ◌≡◌, ◌≢◌}
use Rattle.wasi_world.specs.declared.call.HandleKind.TheVariants as name
use Rattle.wasi_world.specs.declared.call.Call.TheVariants as call
use Rattle.wasi_world.specs.declared.call.Told.TheVariants as told
use Rattle.wasi_addr.specs.declared.p2.ErrorCode.{ErrorCode as P2Code}
use Rattle.wasi_addr.specs.declared.p2.ErrorCode.TheVariants as p2
use Rattle.record_common.specs.Stops.{StopOf}
use Rattle.wasi_steps.specs.declared.reply.CodeWord.TheVariants as word
use Rattle.wasi_steps.specs.declared.reply.Reply.TheVariants as reply
use Rattle.wasi_causes.specs.Outcomes.{IsCodeWord, FullAfter, Conflicts, Outcome}
use Rattle.wasi_causes.proofs.tables.Meets.{Rows, Meets, ends, asks, chain, widen, branch}
use Rattle.wasi_records.specs.Records.{tcp2_at}
use Rattle.wasi_records.specs.declared.records.Record.{Record}
use Rattle.wasi_walks.proofs.Places.{put_again, tcp_sort}
use Rattle.host_store.specs.Block.{Does, give, last, goes_on, or_trap, after_call, ◌>>=◌}
use Rattle.host_store.specs.Lines.{same_stop, tabling, tcp_named, in_store, asked_of, on_tcp, makes as makes_line}
use Rattle.host_store.specs.Store.{code_told}
use Rattle.wasi_p2.specs.Tcp.{make_streams}

-- the step's replies, where what it gives is reported so
abbrev pub Replied : {T : Type 0} → List WasiSocketsCtx → Machine → ℕ → Step → (T → Reply) → Rows (T × Machine)
Replied contexts m line s tell es done = Outcome contexts m line s es (tell done.0) done.1

abbrev pub Says : List WasiSocketsCtx → Machine → ℕ → Step → Rows (Reply × Machine)
Says contexts m line s es done = Outcome contexts m line s es done.0 done.1

-- == a record that is put back
pub put_store_same : (store : Records) (place : ℕ) (r : TcpRecord) → tcp2_at store.records place ≡ Some r → with_socket store place r ≡ store
put_store_same store place r at = ap (λ (rs : List Record). let left : Records = record store { records = rs } in left) (put_again tcp_sort store.records place r at)

pub put_same : (m : Machine) (place : ℕ) (r : TcpRecord) → tcp2_at m.store.records place ≡ Some r → putting m place r ≡ m
put_same m place r at = ap (λ (store : Records). let left : Machine = record m { store = store } in left) (put_store_same m.store place r at)

pub put_back : (P : Machine → Type 0) (m : Machine) (place : ℕ) (r : TcpRecord) → tcp2_at m.store.records place ≡ Some r → P m → P (putting m place r)
put_back P m place r at h = subst P (sym (put_same m place r at)) h

-- == the record that a handle names
-- The handle names this record, at this place.
pub record Names (m : Machine) (handle place : ℕ) (r : TcpRecord) : Type 0 where
  pub names : socket_at m handle ≡ Some place
  pub at : tcp2_at m.store.records place ≡ Some r

pub its : {m : Machine} {handle place : ℕ} {r : TcpRecord} → Names m handle place r → record_at m handle ≡ Some r
its {m} n = ap (record_in m) n.names ∙ n.at

pub here : {m : Machine} {handle place : ℕ} {r : TcpRecord} {P : ℕ → TcpRecord → Type 0} → Names m handle place r → P place r → OfRecord m handle P
here {place} {r} n h = record { place = place; found = r; names = n.names; at = n.at; holds = h }

pub on_number : {B : Type 0} {Row : Rows B} (m : Machine) (handle : ℕ) (on : Option ℕ → Asks B) (call : ℕ → Option TcpRecord → Asks B) → ((place : ℕ) → on (Some place) ≡ call place (tcp2_at m.store.records place))
    → (record_at m handle ≡ None → Meets Row [] (on None)) → (record_at m handle ≡ None → (place : ℕ) → Meets Row [] (call place None)) → ((place : ℕ) (r : TcpRecord) → Names m handle place r → Meets Row [] (call place (Some r)))
    → Meets Row [] (on (socket_at m handle))
on_number {B} {Row} m handle on call calls none lost rows = by_number (socket_at m handle) refl
  where
    by_place : (place : ℕ) (o : Option TcpRecord) → socket_at m handle ≡ Some place → tcp2_at m.store.records place ≡ o → Meets Row [] (call place o)
    by_place place None names at = lost (ap (record_in m) names ∙ at) place
    by_place place (Some r) names at = rows place r (record { names = names; at = at })

    by_number : (o : Option ℕ) → socket_at m handle ≡ o → Meets Row [] (on o)
    by_number None names = none (ap (record_in m) names)
    by_number (Some place) names = subst (Meets Row []) (sym (calls place)) (by_place place (tcp2_at m.store.records place) names refl)

-- a call on it, and what follows it
pub through_record : {A B : Type 0} {Row : Rows B} (m : Machine) (handle : ℕ) (on : Option ℕ → Asks B) (call : ℕ → Option TcpRecord → Asks (Result A Stop × Records)) (next : ℕ → Result A Stop × Machine → Asks B)
    → ((place : ℕ) → on (Some place) ≡ bind (call place (tcp2_at m.store.records place)) (λ done. next place (with_store m done))) → ((place : ℕ) → call place None ≡ Give (Err (Trap NoSuchHandle), m.store))
    → (record_at m handle ≡ None → Meets Row [] (on None)) → (record_at m handle ≡ None → (place : ℕ) → Meets Row [] (next place (Err (Trap NoSuchHandle), m)))
    → ((place : ℕ) (r : TcpRecord) → Names m handle place r → Meets (λ es done. Meets Row es (next place (with_store m done))) [] (call place (Some r))) → Meets Row [] (on (socket_at m handle))
through_record {A} {B} {Row} m handle on call next calls lost none missing rows =
    on_number m handle on (λ place o. bind (call place o) (λ done. next place (with_store m done))) calls none
    (λ gone place. then place (subst (Meets (λ es done. Meets Row es (next place (with_store m done))) []) (sym (lost place)) (ends (missing gone place)))) (λ place r n. then place (rows place r n))
  where
    then : (place : ℕ) {first : Asks (Result A Stop × Records)} → Meets (λ es done. Meets Row es (next place (with_store m done))) [] first → Meets Row [] (bind first (λ done. next place (with_store m done)))
    then place first = chain {Mid = λ es done. Meets Row es (next place (with_store m done))} first (λ es done k. k)

-- a call on it alone, which traps where the handle or its record isn't there
pub on_record : {A : Type 0} {Row : Rows (Result A Stop × Machine)} (m : Machine) (handle : ℕ) (on : Option ℕ → Asks (Result A Stop × Machine)) (call : ℕ → Option TcpRecord → Asks (Result A Stop × Records))
    → on None ≡ no_such_handle m → ((place : ℕ) → on (Some place) ≡ bind (call place (tcp2_at m.store.records place)) (λ done. Give (with_store m done))) → ((place : ℕ) → call place None ≡ Give (Err (Trap NoSuchHandle), m.store))
    → (record_at m handle ≡ None → Row [] (Err (Trap NoSuchHandle), m)) → ((place : ℕ) (r : TcpRecord) → Names m handle place r → Meets (λ es done. Row es (with_store m done)) [] (call place (Some r))) → Meets Row [] (on (socket_at m handle))
on_record {A} {Row} m handle on call gone calls lost missing rows =
    through_record m handle on call (λ place done. Give done) calls lost (λ none. subst (Meets Row []) (sym gone) (ends (missing none))) (λ none place. ends (missing none)) (λ place r n. widen (λ es done row. ends row) (rows place r n))

-- one that begins an operation, which is refused while another is in progress
pub on_idle : {A : Type 0} {Row : Rows (Result A Stop × Machine)} (m : Machine) (handle : ℕ) (on : Option ℕ → Asks (Result A Stop × Machine)) (call : ℕ → Option TcpRecord → Asks (Result A Stop × Records)) (by : ℕ → TcpRecord → Bool → Asks (Result A Stop × Records))
    → on None ≡ no_such_handle m → ((place : ℕ) → on (Some place) ≡ bind (call place (tcp2_at m.store.records place)) (λ done. Give (with_store m done))) → ((place : ℕ) → call place None ≡ Give (Err (Trap NoSuchHandle), m.store))
    → ((place : ℕ) (r : TcpRecord) → call place (Some r) ≡ by place r (is_nothing r.in_progress)) → ((place : ℕ) (r : TcpRecord) → by place r false ≡ Give (Err (Code p2.ConcurrencyConflict), m.store))
    → (record_at m handle ≡ None → Row [] (Err (Trap NoSuchHandle), m)) → ((place : ℕ) (r : TcpRecord) → Names m handle place r → is_nothing r.in_progress ≡ false → Row [] (Err (Code p2.ConcurrencyConflict), m))
    → ((place : ℕ) (r : TcpRecord) → Names m handle place r → is_nothing r.in_progress ≡ true → Meets (λ es done. Row es (with_store m done)) [] (by place r true)) → Meets Row [] (on (socket_at m handle))
on_idle {A} {Row} m handle on call by gone calls lost goes conflicts missing busy begun = on_record m handle on call gone calls lost missing (λ place r n. subst (Meets (λ es done. Row es (with_store m done)) []) (sym (goes place r)) (by_progress place r n (is_nothing r.in_progress) refl))
  where
    by_progress : (place : ℕ) (r : TcpRecord) → Names m handle place r → (b : Bool) → is_nothing r.in_progress ≡ b → Meets (λ es done. Row es (with_store m done)) [] (by place r b)
    by_progress place r n false e = subst (Meets (λ es done. Row es (with_store m done)) []) (sym (conflicts place r)) (ends (busy place r n e))
    by_progress place r n true e = begun place r n e

-- == a handle that is made
pub makes_room : {Row : Rows (Result ℕ Stop × HandleTable)} {es : List Entry} (t : HandleTable) (op : OpId) (made : Kind) (parent : Option ℕ) (side : Option OpId)
    → (is_full t ≡ true → Row es (Err (Trap Full), t)) → (is_full t ≡ false → Row (es ++ entry op (call.Made t.next (name_of made) parent side) told.Done ∷ []) (Ok t.next, with_handle t made parent)) → Meets Row es (make_asks t op made parent side)
unfolding bind
makes_room {Row} {es} t op made parent side full row = branch (is_full t) (λ e. ends (full e)) (λ room. asks (λ u fits. by_told room u fits))
  where
    by_told : is_full t ≡ false → (u : Told) → IsDone u → Meets Row (es ++ entry op (call.Made t.next (name_of made) parent side) u ∷ []) (Give (Ok t.next, with_handle t made parent))
    by_told room told.Done fits = ends (row room)
    by_told room _ fits = absurd fits

pub makes : {Row : Rows (Result ℕ Stop × HandleTable)} {es : List Entry} (t : HandleTable) (op : OpId) (made : Kind) (parent : Option ℕ) (side : Option OpId)
    → (is_full t ≡ true → Row es (Err (Trap Full), t)) → Row (es ++ entry op (call.Made t.next (name_of made) parent side) told.Done ∷ []) (Ok t.next, with_handle t made parent) → Meets Row es (make_asks t op made parent side)
makes t op made parent side full row = makes_room t op made parent side full (λ room. row)

-- == blocks: one lemma a kind of line
-- a look-up: what isn't found is a trap
pub finds : {C S A B : Type 0} {Row : Rows (Result B (StopOf C) × S)} {es : List Entry} {s : S} (next : A → Does C S B) (found : Option A) → (found ≡ None → Row es (Err (Trap NoSuchHandle), s))
    → ((a : A) → found ≡ Some a → Meets Row es (next a s)) → Meets Row es (or_trap next s found)
finds next None gone goes = ends (gone refl)
finds next (Some a) gone goes = goes a refl

-- a call: its stops, and what follows
pub calls : {A E T C : Type 0} {Row : Rows C} {es : List Entry} {Mid : Rows (Result A E × T)} {asks : Asks (Result A E × T)} (f : Result A E × T → Asks C) → Meets Mid es asks
    → ((fs : List Entry) (e : E) (t : T) → Mid fs (Err e, t) → Meets Row fs (f (Err e, t))) → ((fs : List Entry) (a : A) (t : T) → Mid fs (Ok a, t) → Meets Row fs (f (Ok a, t)))
    → Meets Row es (bind asks f)
calls {A} {E} {T} {C} {Row} {es} {Mid} {asks} f w stops goes = chain w by_answer
  where
    by_answer : (fs : List Entry) (done : Result A E × T) → Mid fs done → Meets Row fs (f done)
    by_answer fs (Ok a, t) m = goes fs a t m
    by_answer fs (Err e, t) m = stops fs e t m

-- a call on the record of a handle: what it answers, with the record as the call leaves it
pub on_handle : {A : Type 0} {Row : Rows (Result A Stop × Machine)} (m : Machine) (handle : ℕ) (asked : TcpRecord → Asks (Result A ErrorCode × TcpRecord))
    → (record_at m handle ≡ None → Row [] (Err (Trap NoSuchHandle), m))
    → ((place : ℕ) (r : TcpRecord) → Names m handle place r → Meets (λ es done. Row es (code_told done.0, putting m place done.1)) [] (asked r))
    → Meets Row [] (goes_on (tcp_named handle) (λ place. last (in_store (on_tcp place asked))) m)
on_handle {A} {Row} m handle asked missing rows =
    finds (λ place. last (in_store (on_tcp place asked))) (socket_at m handle) (λ none. missing (ap (record_in m) none))
    (λ place names. calls _ (on_place place names) (λ es why store row. ends row) (λ es a store row. ends row))
  where
    on_place : (place : ℕ) → socket_at m handle ≡ Some place → Meets (λ es done. Row es (done.0, record m { store = done.1 })) [] (on_tcp place asked m.store)
    on_place place names =
        finds (λ r. last (asked_of place r asked)) (tcp2_at m.store.records place) (λ none. missing (ap (record_in m) names ∙ none))
        (λ r at. calls _ (rows place r (record { names = names; at = at })) (λ es c now row. ends row) (λ es a now row. ends row))

-- the two streams of a connection, under its socket's handle; so many handles were made before
pub makes_streams : {Row : Rows (Result (ℕ × ℕ) Stop × Machine)} (now : Machine) (es : List Entry) (own : OpId) (handle place : ℕ) (side : Option OpId) (start : ℕ) → now.table.next ≡ start + marks_in es
    → ((fs : List Entry) (table : HandleTable) → is_full table ≡ true → table.next ≡ start + marks_in fs → Row fs (Err (Trap Full), record now { table = table }))
    → let one : HandleTable = with_handle now.table (Input place) (Some handle) in
    Row ((es ++ entry own (call.Made now.table.next name.Input (Some handle) side) told.Done ∷ []) ++ entry own (call.Made one.next name.Output (Some handle) side) told.Done ∷ []) (Ok (now.table.next, one.next), record now { table = with_handle one (Output place) (Some handle) })
    → Meets Row es (make_streams own handle place side now)
makes_streams {Row} now es own handle place side start count full row =
    chain {Mid = λ fs made. Meets Row fs (after_call same_stop tabling second now made)}
    (makes now.table own (Input place) (Some handle) side (λ f. ends (full es now.table f count))
    (chain {Mid = λ fs made. Meets Row fs (after_call same_stop tabling (λ output. give (now.table.next, output)) (record now { table = one }) made)}
    (makes one own (Output place) (Some handle) side (λ f. ends (full _ _ f next)) (ends row)) (λ fs made k. k)))
    (λ fs made k. k)
  where
    one : HandleTable
    one = with_handle now.table (Input place) (Some handle)

    second : ℕ → Does P2Code Machine (ℕ × ℕ)
    second input = makes_line own (Output place) (Some handle) side >>= λ output. give (input, output)

    next : now.table.next + 1 ≡ start + marks_in (es ++ entry own (call.Made now.table.next name.Input (Some handle) side) told.Done ∷ [])
    next = let p = marks_in-push es (entry own (call.Made now.table.next name.Input (Some handle) side) told.Done) in omega arith

pub full_so : (m after : Machine) (es : List Entry) → is_full after.table ≡ true → after.table ≡ m.table → marks_in es ≡ 0 → FullAfter m es after
full_so m after es full same none = (full, let next = ap (λ (t : HandleTable). t.next) same in omega (arith, next, none))

-- == one reply that comes of one thing
pub apart : {A B : Type 0} → (A → ⊥) → (B → ⊥) → A ↔ B
apart a b = (λ x. absurd (a x), λ y. absurd (b y))

-- of a record that isn't there nothing is said
pub none_has : {A : Type 0} (P : A → Type 0) (o : Option A) → o ≡ None → IsSomeAnd o P → ⊥
none_has P None e h = h
none_has P (Some x) e h = cc

-- == words
pub code_word : (c : ErrorCode) → IsCodeWord (word_of_code c)
code_word c = record { code = c; is = refl }

abbrev pub MayBeOfCode : CodeWord → Type 0
MayBeOfCode word.ConcurrencyConflict = ⊥
MayBeOfCode word.NotInProgress = ⊥
MayBeOfCode word.WouldBlock = ⊥
MayBeOfCode _ = Unit {0}

of_code : (c : ErrorCode) → MayBeOfCode (word_of_code c)
of_code AccessDenied = tt
of_code _ = tt

-- a refusal with a code isn't with one of those
pub not_of_code : (c : ErrorCode) (w : CodeWord) → (MayBeOfCode w → ⊥) → reply.Err (word_of_code c) ≢ reply.Err w
not_of_code c w none e = let same : word_of_code c ≡ w = cc in none (subst MayBeOfCode same (of_code c))

-- == starts
module _ {m : Machine} {handle place : ℕ} {r : TcpRecord} (n : Names m handle place r) where
  pub in_conflict : is_nothing r.in_progress ≡ false → Conflicts m handle (reply.Err word.ConcurrencyConflict)
  in_conflict e = (λ same. rw (its n) e, λ k. refl)

  pub no_conflict : is_nothing r.in_progress ≡ true → (said : Reply) → said ≢ reply.Err word.ConcurrencyConflict → Conflicts m handle said
  no_conflict idle said other = apart other (λ k. let busy : is_nothing r.in_progress ≡ false = rw (its n) at k in cc)

pub none_conflicts : (m : Machine) (handle : ℕ) (said : Reply) → record_at m handle ≡ None → said ≢ reply.Err word.ConcurrencyConflict → Conflicts m handle said
none_conflicts m handle said none other = apart other (none_has _ (record_at m handle) none)
