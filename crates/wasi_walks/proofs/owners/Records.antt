-- What is live of the records stays so as the records change.
use Rattle.wasi_walks.proofs.Words.{Has, Bool, Listening, false, true, Err, ErrorCode, HandleTable, Input, Kind, List, None, Ok, Result, Some, TcpRecord}
use Rattle.wasi_walks.proofs.Words.{[], ap, inl, inr, length, refl, slice_get, slice_set, subst, sym, ℕ, ◌++◌, ◌∷◌, ◌∙◌, ◌≡◌}
use Rattle.wasi_table.specs.Table.{Live}
use Rattle.wasi_udp.specs.Create.{Create}
use Rattle.host_store.specs.declared.kind.Kind.TheVariants.{Result3, Listen3, Tcp3, Udp2, Udp3}
use Rattle.lookup_records.specs.declared.name_lookup.LookupOp.{LookupOp}
use Rattle.wasi_records.specs.declared.records.Record.{Record}
use Rattle.udp_records.specs.declared.udp.OpenUdp.{OpenUdp}
use Rattle.udp_records.specs.declared.udp.UdpRecord.{UdpRecord}
use Rattle.wasi_walks.proofs.walks.Moves as walk
use Rattle.wasi_walks.proofs.walks.Moves.{Interface, P2, P3, ReleasesUdp, tcp_kind, ToListen, ListenerGoes, Emptied, Faulted, Freed, Found, FoundUdp, Held, Here, IsLeft, IsMadeUnder, IsNumbered, IsOpenUdp, Joined, Made, MakesPlain, Marked, Marks, Move, Numbered, Past, GoesOn, Plain, SameSockets, ToSend, accepting_now, faulted, joined, joined_plain, joins_as, made_so, one_stream, put, put_udp, udp_begun, with_records, without_record}
use Rattle.std.specs.Prelude.{IsSome, Option, not, ◌||◌}
use Rattle.host_store.specs.Beside.{has_datagram}
use Rattle.host_udp.specs.SocketDatagrams.{held_by, is_udp_held}
use Rattle.tcp_records.specs.Holding.{has_listener}
use Rattle.udp_records.specs.Udp.{open_of}
use Rattle.wasi_walks.proofs.owners.Names.{KeepsHeld, Names, as_none, dropped_none, socket_names, names_none, names_open, names_push, names_same, names_set, names_tcp}
use Rattle.wasi_walks.proofs.Places.{tcp_sort, udp_sort}
use Rattle.wasi_walks.proofs.owners.Owned.{HasSlot, IsOf, NoneOf, owner_of, HasStreams, made_stays, MadeSo, Owned, owned_still, NoListenerOf, HasSocket, StandsSo, none_of, one_role, no_stream_listens, listener_of, ends_listener}

abbrev pub Owns : Here → Type 0
Owns h = Owned h.machine.table h.machine.store.records × MadeSo h.machine.table h.machine.store.records h.made × StandsSo h.machine.table h.machine.store.standing

-- == records change
-- what each handle needs of its record it has still
pub stay : (h : Here) (now : List Record) → ((k : ℕ) (kind : Kind) → IsOf kind k
    → Names kind (slice_get h.machine.store.records k) → Names kind (slice_get now k)) → Owns h
    → Owned h.machine.table now × MadeSo h.machine.table now h.made × StandsSo h.machine.table h.machine.store.standing
stay h now s i = (
  owned_still h.machine.table h.machine.store.records now (λ a k l e n. s k a.value e n) i.0,
  made_stays h.machine.table h.machine.store.records now (λ k n. s k (Input k) (inr (inl refl)) n) (λ k n. s k (Tcp3 k) (inl refl) n) (λ k n. s k (Result3 k) (inl refl) n) h.made i.1,
  i.2,
)

pub put_owns : (h : Here) (place : ℕ) (r : TcpRecord) → Found h place r → (now : TcpRecord)
    → KeepsHeld r now → Owns h → Owns (put h place now)
put_owns h place r g now keeps i =
    stay h _ (λ k kind e n. names_tcp h.machine.store.records place r now g keeps k kind n) i

-- one that had no listener has none, or has one now
pub gained : (l : Listening) (was : Listening) → l ≡ was → has_listener was ≡ false → (b : Bool) → has_listener l ≡ true → b ≡ true
gained l was e none b has = absurd (let p : true ≡ false = sym has ∙ (ap has_listener e ∙ none) in cc)

-- its listener goes, of which no handle is live; or its handle goes, and what is live of it is its listener
pub record StaysFor (t : HandleTable) (r now : TcpRecord) (place : ℕ) : Type 0 where
  pub its : (a : Live Kind) → Has t.live a → IsOf a.value place → Names a.value (Some (Record.Tcp r)) → Names a.value (Some (Record.Tcp now))

pub put_live : (h : Here) (place : ℕ) (r : TcpRecord) → Found h place r → (now : TcpRecord) → StaysFor h.machine.table r now place
    → Owned h.machine.table h.machine.store.records → Owned h.machine.table (slice_set h.machine.store.records place (Record.Tcp now))
put_live h place r g now stays i =
    owned_still h.machine.table h.machine.store.records _ (λ a k l e n.
    names_set h.machine.store.records place (Record.Tcp now) k a.value (λ same was. stays.its a l (subst (IsOf a.value) same e)
    (subst (Names a.value) (tcp_sort.it _ r g) was)) n) i

-- of a socket that keeps its handle and its streams
pub without_listener : (t : HandleTable) (r now : TcpRecord) (place : ℕ) → (now.dropped ≡ r.dropped) × (IsSome r.streams → IsSome now.streams) → NoListenerOf t place → StaysFor t r now place
without_listener t r now place keeps none = record { its = λ a l e s. socket_names a.value r now keeps (λ p f. none a l (listens_to a.value p f e)) s }
  where
    listens_to : (kind : Kind) (p : ℕ) → listener_of kind ≡ Some p → IsOf kind place → listener_of kind ≡ Some place
    listens_to kind p f (inl o) = absurd (one_role kind p place f o)
    listens_to kind p f (inr (inl s)) = absurd (no_stream_listens kind p place f s)
    listens_to kind p f (inr (inr e)) = e

pub put_unlistened : (h : Here) (place : ℕ) (r : TcpRecord) → Found h place r → (now : TcpRecord) → (now.dropped ≡ r.dropped) × (IsSome r.streams → IsSome now.streams) → NoListenerOf h.machine.table place → Owns h → Owns (put h place now)
put_unlistened h place r g now keeps none i = (
  put_live h place r g now (without_listener h.machine.table r now place keeps none) i.0,
  made_stays h.machine.table h.machine.store.records _
      (λ k n. names_set h.machine.store.records place (Record.Tcp now) k (Input k) (λ same was. socket_names (Input k) r now keeps (λ p e. absurd (cc)) (subst (Names (Input k)) (tcp_sort.it _ r g) was)) n)
      (λ k n. names_set h.machine.store.records place (Record.Tcp now) k (Tcp3 k) (λ same was. socket_names (Tcp3 k) r now keeps (λ p e. absurd (cc)) (subst (Names (Tcp3 k)) (tcp_sort.it _ r g) was)) n)
      (λ k n. names_set h.machine.store.records place (Record.Tcp now) k (Result3 k) (λ same was. socket_names (Result3 k) r now keeps (λ p e. absurd (cc)) (subst (Names (Result3 k)) (tcp_sort.it _ r g) was)) n)
      h.made i.1,
  i.2,
)

pub put_dropped : (h : Here) (place : ℕ) (r : TcpRecord) → Found h place r → (now : TcpRecord) → (has_listener r.listening ≡ true → has_listener now.listening ≡ true) → h.made ≡ Emptied (Tcp3 place) → Owns h → Owns (put h place now)
put_dropped h place r g now listens made i =
    let so : MadeSo h.machine.table h.machine.store.records (Emptied (Tcp3 place)) = subst (MadeSo h.machine.table h.machine.store.records) made i.1 in (
      put_live h place r g now (record { its = λ a l e s. by_role so a l e s }) i.0,
      subst (MadeSo h.machine.table (slice_set h.machine.store.records place (Record.Tcp now))) (sym made) so,
      i.2,
    )
  where
    its_listener : (kind : Kind) → listener_of kind ≡ Some place → Names kind (Some (Record.Tcp r)) → Names kind (Some (Record.Tcp now))
    its_listener (Listen3 n) e s = listens s
    its_listener _ e s = absurd (cc)

    by_role : MadeSo h.machine.table h.machine.store.records (Emptied (Tcp3 place)) → (a : Live Kind) → Has h.machine.table.live a → IsOf a.value place → Names a.value (Some (Record.Tcp r)) → Names a.value (Some (Record.Tcp now))
    by_role so a l (inl e) s = absurd (so.0 place refl a l (inl e))
    by_role so a l (inr (inl e)) s = absurd (so.0 place refl a l (inr e))
    by_role so a l (inr (inr e)) s = its_listener a.value e s

pub put_open : (h : Here) (place : ℕ) (o : OpenUdp) → FoundUdp h place (UdpRecord.Open o) → (now : OpenUdp) → now.dropped ≡ o.dropped → Owns h
    → Owns (put_udp h place (UdpRecord.Open now))
put_open h place o g now d i = stay h _ (λ k kind e n. names_open h.machine.store.records place o now g d k kind n) i

-- one of which nothing is live is replaced
pub none_set : (h : Here) (place : ℕ) (now : Record) → NoneOf h.machine.table place
    → Owned h.machine.table h.machine.store.records
    → Owned h.machine.table (slice_set h.machine.store.records place now)
none_set h place now none i = owned_still h.machine.table h.machine.store.records _ (λ a k l e n. names_set h.machine.store.records place now k a.value (λ same was. absurd (none a l (subst (IsOf a.value) same e))) n) i

pub no_udp_streams : (h : Here) (place : ℕ) (u : UdpRecord) → FoundUdp h place u → HasStreams h.machine.store.records place → ⊥
no_udp_streams h place u g n =
    absurd (let s : Names (Input place) (Some (Record.Udp u)) = subst (Names (Input place)) (udp_sort.it _ u g) n in
    cc)

pub no_udp_socket : (h : Here) (place : ℕ) (u : UdpRecord) → FoundUdp h place u → HasSocket h.machine.store.records place → ⊥
no_udp_socket h place u g n =
    absurd (let s : Names (Tcp3 place) (Some (Record.Udp u)) = subst (Names (Tcp3 place)) (udp_sort.it _ u g) n in cc)

pub no_udp_slot : (h : Here) (place : ℕ) (u : UdpRecord) → FoundUdp h place u → HasSlot h.machine.store.records place → ⊥
no_udp_slot h place u g n =
    absurd (let s : Names (Result3 place) (Some (Record.Udp u)) = subst (Names (Result3 place)) (udp_sort.it _ u g) n in cc)

pub put_none : (h : Here) (place : ℕ) (u : UdpRecord) → FoundUdp h place u → (now : UdpRecord) → NoneOf h.machine.table place → Owns h → Owns (put_udp h place now)
put_none h place u g now none i = (
  none_set h place (Record.Udp now) none i.0,
  made_stays h.machine.table h.machine.store.records _
      (λ k n. names_set h.machine.store.records place (Record.Udp now) k (Input k)
      (λ same was. absurd (no_udp_streams h place u g was)) n)
      (λ k n. names_set h.machine.store.records place (Record.Udp now) k (Tcp3 k)
      (λ same was. absurd (no_udp_socket h place u g was)) n)
      (λ k n. names_set h.machine.store.records place (Record.Udp now) k (Result3 k)
      (λ same was. absurd (no_udp_slot h place u g was)) n) h.made i.1,
  i.2,
)

-- one whose handle was dropped, or which that doesn't hold any more
udp_emptied : (h : Here) (place : ℕ) (kind : Kind) → owner_of kind ≡ Some place → ends_listener kind ≡ Some place → h.made ≡ Emptied kind → Owns h → NoneOf h.machine.table place
udp_emptied h place kind owns ends made i =
    let so : MadeSo h.machine.table h.machine.store.records (Emptied kind) = subst (MadeSo h.machine.table h.machine.store.records) made i.1 in
    none_of h.machine.table place (so.0 place owns) (so.1 place ends)

pub udp_dropped : (h : Here) (place : ℕ) → h.made ≡ Emptied (Udp3 place) → Owns h → NoneOf h.machine.table place
udp_dropped h place made i = udp_emptied h place (Udp3 place) refl refl made i

unheld : (o : OpenUdp) (dropped datagrams : Bool) → not dropped || datagrams ≡ false → dropped ≡ true
unheld o true datagrams e = refl
unheld o false datagrams e = absurd (cc)

unheld_udp : (h : Here) (place : ℕ) (o : OpenUdp) → FoundUdp h place (UdpRecord.Open o) → is_udp_held h.machine.store place ≡ false → Owns h → NoneOf h.machine.table place
unheld_udp h place o g free i a l e =
    let its : held_by h.machine.store.beside place (Some o) ≡ false = subst (λ (u : Option UdpRecord). held_by h.machine.store.beside place (open_of u) ≡ false) g free in
    dropped_none a.value place o (unheld o o.dropped (has_datagram h.machine.store.beside place) its) e (subst (Names a.value) (udp_sort.it _ (UdpRecord.Open o) g) (i.0.there a place l e))

pub udp_released : (h : Here) (place : ℕ) (o : OpenUdp) → FoundUdp h place (UdpRecord.Open o) → ReleasesUdp h place → Owns h → NoneOf h.machine.table place
udp_released h place o g (walk.WithHandle idle made) i = udp_emptied h place (Udp2 place) refl refl made i
udp_released h place o g (walk.Unheld free) i = unheld_udp h place o g free i

-- a TCP socket that nothing holds
pub put_gone : (h : Here) (place : ℕ) (now : Record) → h.made ≡ Freed place → Owns h
    → Owned h.machine.table (slice_set h.machine.store.records place now) × MadeSo h.machine.table
    (slice_set h.machine.store.records place now) h.made × StandsSo h.machine.table h.machine.store.standing
put_gone h place now freed i =
    let none : MadeSo h.machine.table h.machine.store.records (Freed place) =
    subst (MadeSo h.machine.table h.machine.store.records) freed i.1 in (
      none_set h place now none i.0,
      subst (MadeSo h.machine.table (slice_set h.machine.store.records place now)) (sym freed) none,
      i.2,
    )

-- nothing is of a UDP socket that isn't there yet, or is closed
pub none_open : (h : Here) (place : ℕ) (u : UdpRecord) → FoundUdp h place u → open_of (Some u) ≡ None → Owns h → NoneOf h.machine.table place
none_open h place u g n i a l e =
    names_none a.value place e (as_none a.value u n
    (subst (Names a.value) (udp_sort.it _ u g) (i.0.there a place l e)))

-- nor of what was just dropped, or has no handle yet
pub left_none : (h : Here) (place : ℕ) → IsLeft h place → Owns h → NoneOf h.machine.table place
left_none h place (walk.OfTcp r freed g) i = subst (MadeSo h.machine.table h.machine.store.records) freed i.1
left_none h place (walk.OfUdp side g) i = none_open h place (UdpRecord.Closed side) g refl i
left_none h place (walk.OfLookup l made g) i =
    let so = subst (MadeSo h.machine.table h.machine.store.records) made i.1 in none_of h.machine.table place (so.0 place refl) (so.1 place refl)
left_none h place (walk.OfSlot s made g) i =
    let so = subst (MadeSo h.machine.table h.machine.store.records) made i.1 in none_of h.machine.table place (so.0 place refl) (so.1 place refl)
left_none h place (walk.OfUnnamed l made g) i = (subst (MadeSo h.machine.table h.machine.store.records) made i.1).1 refl
left_none h place (walk.OfInput bytes made g) i =
    let so = subst (MadeSo h.machine.table h.machine.store.records) made i.1 in none_of h.machine.table place (so.0 place refl) (so.1 place refl)
left_none h place (walk.OfOutput pipe made g) i =
    let so = subst (MadeSo h.machine.table h.machine.store.records) made i.1 in none_of h.machine.table place (so.0 place refl) (so.1 place refl)

pub left_made : (h : Here) (place : ℕ) → IsLeft h place → (now : List Record)
    → now ≡ slice_set h.machine.store.records place Record.Gone
    → MadeSo h.machine.table h.machine.store.records h.made → MadeSo h.machine.table now h.made
left_made h place (walk.OfTcp r freed g) now e k =
    subst (MadeSo h.machine.table now) (sym freed) (subst (MadeSo h.machine.table h.machine.store.records) freed k)
left_made h place (walk.OfUdp side g) now e k =
    subst (λ (xs : List Record). MadeSo h.machine.table xs h.made) (sym e)
    (made_stays h.machine.table h.machine.store.records _
    (λ j n. names_set h.machine.store.records place Record.Gone j (Input j)
    (λ same was. absurd (no_udp_streams h place (UdpRecord.Closed side) g was)) n)
    (λ j n. names_set h.machine.store.records place Record.Gone j (Tcp3 j)
    (λ same was. absurd (no_udp_socket h place (UdpRecord.Closed side) g was)) n)
    (λ j n. names_set h.machine.store.records place Record.Gone j (Result3 j)
    (λ same was. absurd (no_udp_slot h place (UdpRecord.Closed side) g was)) n) h.made k)
left_made h place (walk.OfLookup l made g) now e k =
    subst (MadeSo h.machine.table now) (sym made) (subst (MadeSo h.machine.table h.machine.store.records) made k)
left_made h place (walk.OfSlot s made g) now e k =
    subst (MadeSo h.machine.table now) (sym made) (subst (MadeSo h.machine.table h.machine.store.records) made k)
left_made h place (walk.OfUnnamed l made g) now e k =
    subst (MadeSo h.machine.table now) (sym made) (subst (MadeSo h.machine.table h.machine.store.records) made k)
left_made h place (walk.OfInput bytes made g) now e k =
    subst (MadeSo h.machine.table now) (sym made) (subst (MadeSo h.machine.table h.machine.store.records) made k)
left_made h place (walk.OfOutput pipe made g) now e k =
    subst (MadeSo h.machine.table now) (sym made) (subst (MadeSo h.machine.table h.machine.store.records) made k)

pub given_back_owns : (h : Here) (place : ℕ) → IsLeft h place → Owns h → Owns (without_record h place)
given_back_owns h place left i =
    (none_set h place Record.Gone (left_none h place left i) i.0, left_made h place left _ refl i.1, i.2)

-- nothing is of a record that is to join
pub past_end : (xs : List Record) → slice_get xs (length xs) ≡ None
past_end [] = refl
past_end (x ∷ xs) = past_end xs

pub none_at_end : (t : HandleTable) (records : List Record) → Owned t records → NoneOf t (length records)
none_at_end t records i a l e =
    names_none a.value (length records) e (subst (Names a.value) (past_end records) (i.there a (length records) l e))

pub push_owned : (t : HandleTable) (records : List Record) (new : Record) → Owned t records → Owned t (records ++ new ∷ [])
push_owned t records new i = owned_still t records _ (λ a k l e n. names_push records new k a.value e n) i

pub push_made : (t : HandleTable) (records : List Record) (new : Record) (made : Made) → MadeSo t records made
    → MadeSo t (records ++ new ∷ []) made
push_made t records new made k = made_stays t records _ (λ j n. names_push records new j (Input j) (inr (inl refl)) n) (λ j n. names_push records new j (Tcp3 j) (inl refl) n) (λ j n. names_push records new j (Result3 j) (inl refl) n) made k

pub same_owns : {new : LookupOp → Type 0} (h : Here) (records : List Record) → SameSockets new h.machine.store.records records → Owns h → Owns (with_records h records)
same_owns h records same i = stay h records (λ k kind e n. names_same h.machine.store.records records k kind same n) i

pub begun_owns : (h : Here) (made : Result Create ErrorCode) → Owns h → Owns (udp_begun h made)
begun_owns h (Ok create) i = (push_owned h.machine.table h.machine.store.records (Record.Udp (UdpRecord.Creating create)) i.0, push_made h.machine.table h.machine.store.records (Record.Udp (UdpRecord.Creating create)) h.made i.1, i.2)
begun_owns h (Err c) i = i
