-- What is known of the accepts, the operations and the records, under one more entry, and where a record changes.
use Rattle.wasi_walks.proofs.Words.{Accepting, Accepts, Arrived, BeganBy, Call, Connection, Created, Entry, Hand, Handed, HandedNone}
use Rattle.wasi_walks.proofs.Words.{HandleKind, HasWildcardYes, InProgress, IpSocketAddress, IsBoundSide, IsMaker, IsMarkedWith, IsSide, Item, Job, List}
use Rattle.wasi_walks.proofs.Words.{Listening, Listens, Made, MarksNoSocket, MayGoOut, NamesSide, None, Not, OpId, Operation, Option, Socket}
use Rattle.wasi_walks.proofs.Words.{SocketAddrUse, SocketAddressFamily, Some, Step, Streams, TcpRecord, Told, WriteState, [], ap}
use Rattle.wasi_walks.proofs.Words.{append_assoc, arith, entry, inl, inr, marked_by, refl, side_of}
use Rattle.wasi_walks.proofs.Words.{step_at, subst, sym, ℕ, ⊤, ◌++◌}
use Rattle.wasi_walks.proofs.Words.{◌∙◌, ◌∷◌, ◌≡◌, ◌⊎◌}
use Rattle.wasi_world.specs.declared.call.Call.TheVariants.{Accept}
use Rattle.wasi_records.specs.Records.{tcp2_at, tcp2_put, tcp2_pushed}
use Rattle.wasi_records.specs.declared.records.Record.{Record}
use Rattle.wasi_tcp.specs.declared.socket.TcpState.TheVariants.{Connected}
use Rattle.wasi_walks.proofs.Lists.{has_front, has_split}
use Rattle.wasi_walks.specs.Licence.{IsMarkedAs, MakesTcp, WriteFailed}
use Rattle.wasi_tcp.specs.declared.writer.WriteError.{WriteError}
use Rattle.wasi_world.specs.Operation.{End, Refused}
use Rattle.wasi_walks.proofs.licence.State.{NamesRecord, EndTold, ErrorTold, KnowsMaker, BindLeft, Whole, Checked, Over, ConnectLeft, Unbound, Unchecked, Allowed, ToClose, Ended, Names, WorksOn, BindIsFine, ConnectIsFine, JobIsFine, WritesOn, IsConnectedOn, StreamsAreFine, ListeningStands, accept_name, AcceptIsFine, AcceptingIsFine, ListeningIsFine, ProgressIsFine, SocketIsFine, RecordIsFine, LastAccept, AcceptLeft, Unarrived, ToCheck, AcceptingStands, name_in, OneHolds}
use Rattle.wasi_walks.proofs.walks.Moves.{KeepsBinding}
use Rattle.wasi_world.specs.declared.call.HandleKind.{HandleKind}
use Rattle.wasi_world.specs.declared.call.HandleKind.TheVariants.{Tcp2, Tcp3}
use Rattle.wasi_walks.specs.Licence.{IsTcpName}
use Rattle.wasi_walks.specs.Licence.{UdpCreated}
use Rattle.wasi_walks.proofs.Places.{push_new, put_found, put_stays, tcp_sort}

-- == one more entry
-- an accept or a hand by this name, or a mark of a socket with it
abbrev pub Touches : OpId → Call → OpId → Type 0
Touches op (Accept side) x = op ≡ x
Touches op (Hand side peer) x = op ≡ x
Touches op (Made handle Tcp2 parent (Some side)) x = side ≡ x
Touches op (Made handle Tcp3 parent (Some side)) x = side ≡ x
Touches op _ x = ⊥

-- the call touches no accept of these records
abbrev pub Spared : List Record → OpId → Call → Type 0
Spared records op c = (place : ℕ) (r : TcpRecord) (x : OpId) → tcp2_at records place ≡ Some r → accept_name r.listening ≡ Some x → Touches op c x → ⊥

op_of : (a b : Entry) → a ≡ b → a.op ≡ b.op
op_of a b e = ap (λ (x : Entry). x.op) e

call_of : (a b : Entry) → a ≡ b → a.call ≡ b.call
call_of a b e = ap (λ (x : Entry). x.call) e

touches_by : (op : OpId) (c d : Call) (x : OpId) → c ≡ d → Touches op d x → Touches op c x
touches_by op c d x e h = subst (λ (k : Call). Touches op k x) (sym e) h

-- what no hand, and no mark of a socket with the name, may break
pub handed_unless : (es : List Entry) (op : OpId) (c : Call) (told : Told) (x : OpId) → HandedNone es x → ((l : OpId) (p : IpSocketAddress) → op ≡ x → c ≡ Hand l p → ⊥) → HandedNone (es ++ entry op c told ∷ []) x
handed_unless es op c told x h n l p t i = elim (has_split es (entry op c told) (entry x (Hand l p) t) i) [
  | inl j ↦ h l p t j
  | inr e ↦ n l p (op_of (entry op c told) (entry x (Hand l p) t) e) (call_of (entry op c told) (entry x (Hand l p) t) e)
]

pub unmarked_unless : (es : List Entry) (op : OpId) (c : Call) (told : Told) (x : OpId) → MarksNoSocket es x → (marked_by c ≡ 0) → MarksNoSocket (es ++ entry op c told ∷ []) x
unmarked_unless es op c told x h n o handle name parent t is i = elim (has_split es (entry op c told) (entry o (Made handle name parent (Some x)) t) i) [
  | inl j ↦ h o handle name parent t is j
  | inr e ↦ absurd (let p = ap marked_by (call_of (entry op c told) (entry o (Made handle name parent (Some x)) t) e) in omega arith)
]

-- the mark of a TCP socket touches its network socket
pub touched : (op x : OpId) (handle : ℕ) (name : HandleKind) (parent : Option ℕ) → IsTcpName name → Touches op (Made handle name parent (Some x)) x
touched op x handle name parent (inl e) = subst (λ (k : HandleKind). Touches op (Made handle k parent (Some x)) x) (sym e) refl
touched op x handle name parent (inr e) = subst (λ (k : HandleKind). Touches op (Made handle k parent (Some x)) x) (sym e) refl

pub handed_more : (es : List Entry) (op : OpId) (c : Call) (told : Told) (x : OpId) → HandedNone es x → (Touches op c x → ⊥) → HandedNone (es ++ entry op c told ∷ []) x
handed_more es op c told x h n = handed_unless es op c told x h (λ l p o e. n (touches_by op c (Hand l p) x e o))

pub unmarked_more : (es : List Entry) (op : OpId) (c : Call) (told : Told) (x : OpId) → MarksNoSocket es x → (Touches op c x → ⊥) → MarksNoSocket (es ++ entry op c told ∷ []) x
unmarked_more es op c told x h n o handle name parent t is i = elim (has_split es (entry op c told) (entry o (Made handle name parent (Some x)) t) i) [
  | inl j ↦ h o handle name parent t is j
  | inr e ↦ n (touches_by op c (Made handle name parent (Some x)) x (call_of (entry op c told) (entry o (Made handle name parent (Some x)) t) e) (touched op x handle name parent is))
]

pub last_more : (es : List Entry) (op : OpId) (c : Call) (told : Told) (x side : OpId) (peer : IpSocketAddress) → LastAccept es x side peer → (Touches op c x → ⊥) → LastAccept (es ++ entry op c told ∷ []) x side peer
last_more es op c told x side peer h n = record {
  front = h.front;
  back = h.back ++ entry op c told ∷ [];
  cut = ap (λ (fs : List Entry). fs ++ entry op c told ∷ []) h.cut ∙ append_assoc h.front (entry x (Accept side) (Arrived peer) ∷ h.back) (entry op c told ∷ []);
  last = λ t i. elim (has_split h.back (entry op c told) (entry x (Accept side) t) i) [
    | inl j ↦ h.last t j
    | inr e ↦ n (touches_by op c (Accept side) x (call_of (entry op c told) (entry x (Accept side) t) e) (op_of (entry op c told) (entry x (Accept side) t) e))
  ];
}

pub accept_left_more : (es : List Entry) (op : OpId) (c : Call) (told : Told) (x side : OpId) (left : List Item) → AcceptLeft es x side left → (Touches op c x → ⊥) → AcceptLeft (es ++ entry op c told ∷ []) x side left
accept_left_more es op c told x side _ Unarrived n = Unarrived
accept_left_more es op c told x side _ (ToCheck peer h) n = ToCheck peer (last_more es op c told x side peer h n)

accepting_stays : (es : List Entry) (op : OpId) (c : Call) (told : Told) (side : OpId) (a : Accepting) → AcceptingStands es side a → ((x : OpId) → name_in a ≡ Some x → Touches op c x → ⊥) → AcceptingStands (es ++ entry op c told ∷ []) side a
accepting_stays es op c told side Accepting.Idle h n = tt
accepting_stays es op c told side (Accepting.Asking o) h n = record {
  handed = handed_more es op c told o.who.id h.handed (n o.who.id refl);
  marked = unmarked_more es op c told o.who.id h.marked (n o.who.id refl);
  so_far = accept_left_more es op c told o.who.id side o.left h.so_far (n o.who.id refl);
}
accepting_stays es op c told side (Accepting.Arrived new peer) h n = unmarked_more es op c told new h (n new refl)
accepting_stays es op c told side (Accepting.Failed code) h n = tt

-- what touches none of their names leaves the accepts
pub stands_more : (es : List Entry) (op : OpId) (c : Call) (told : Told) (l : Listening) → ListeningStands es l → ((x : OpId) → accept_name l ≡ Some x → Touches op c x → ⊥) → ListeningStands (es ++ entry op c told ∷ []) l
stands_more es op c told (Accepts l) h n = accepting_stays es op c told l.side l.accept h n
stands_more es op c told _ h n = tt

-- == a record that changes
-- The record's accept is the same, or gone.
pub record KeepsListening (old now : Listening) : Type 0 where
  pub stands : (es : List Entry) → ListeningStands es old → ListeningStands es now
  pub names : (x : OpId) → accept_name now ≡ Some x → accept_name old ≡ Some x

pub same_listening : (l : Listening) → KeepsListening l l
same_listening l = record { stands = λ es h. h; names = λ x e. e }

pub listening_kept : (old now : Listening) → now ≡ old → KeepsListening old now
listening_kept old now e = subst (λ (l : Listening). KeepsListening l now) e (same_listening now)

pub listening_gone : (old : Listening) → KeepsListening old Not
listening_gone old = record { stands = λ es h. tt; names = λ x e. absurd (cc) }

-- only the record of this place may have an accept of this name
abbrev pub Only : List Record → ℕ → OpId → Type 0
Only records place x = (k : ℕ) (s : TcpRecord) → tcp2_at records k ≡ Some s → accept_name s.listening ≡ Some x → k ≡ place

pub stands_put : (es : List Entry) (records : List Record) (i : ℕ) (now : TcpRecord) → ListeningStands es now.listening → ((k : ℕ) (s : TcpRecord) → tcp2_at records k ≡ Some s → ListeningStands es s.listening)
    → (k : ℕ) (s : TcpRecord) → tcp2_at (tcp2_put records i now) k ≡ Some s → ListeningStands es s.listening
stands_put es records i now f h k s e = elim (put_found tcp_sort records i now k s e) [
  | inl q ↦ subst (λ (r : TcpRecord). ListeningStands es r.listening) q.1 f
  | inr q ↦ h k s q
]

-- where the record is that which was put, or another
one_of : (records : List Record) (i : ℕ) (now : TcpRecord) → ((x : OpId) → accept_name now.listening ≡ Some x → Only records i x) → OneHolds records → (k j : ℕ) (r s : TcpRecord) (x : OpId)
    → ((k ≡ i) × (now ≡ r)) ⊎ (tcp2_at records k ≡ Some r) → ((j ≡ i) × (now ≡ s)) ⊎ (tcp2_at records j ≡ Some s) → accept_name r.listening ≡ Some x → accept_name s.listening ≡ Some x → k ≡ j
one_of records i now o h k j r s x (inl a) (inl b) n m = a.0 ∙ sym b.0
one_of records i now o h k j r s x (inl a) (inr b) n m = a.0 ∙ sym (o x (subst (λ (t : TcpRecord). accept_name t.listening ≡ Some x) (sym a.1) n) j s b m)
one_of records i now o h k j r s x (inr a) (inl b) n m = o x (subst (λ (t : TcpRecord). accept_name t.listening ≡ Some x) (sym b.1) m) k r a n ∙ sym b.0
one_of records i now o h k j r s x (inr a) (inr b) n m = h k j r s x a b n m

pub one_put : (records : List Record) (i : ℕ) (now : TcpRecord) → ((x : OpId) → accept_name now.listening ≡ Some x → Only records i x) → OneHolds records → OneHolds (tcp2_put records i now)
one_put records i now o h k j r s x a b n m = one_of records i now o h k j r s x (put_found tcp_sort records i now k r a) (put_found tcp_sort records i now j s b) n m

-- a record more, which has no accept
pub stands_push : (es : List Entry) (records : List Record) (now : TcpRecord) → ListeningStands es now.listening → ((k : ℕ) (s : TcpRecord) → tcp2_at records k ≡ Some s → ListeningStands es s.listening)
    → (k : ℕ) (s : TcpRecord) → tcp2_at (tcp2_pushed records now) k ≡ Some s → ListeningStands es s.listening
stands_push es records now f h k s e = elim (push_new tcp_sort records now k s e) [
  | inl q ↦ h k s q
  | inr q ↦ subst (λ (r : TcpRecord). ListeningStands es r.listening) q f
]

pub unnamed : (now r : TcpRecord) (x : OpId) → accept_name now.listening ≡ None → now ≡ r → accept_name r.listening ≡ Some x → ⊥
unnamed now r x none e n = let p : accept_name now.listening ≡ Some x = subst (λ (t : TcpRecord). accept_name t.listening ≡ Some x) (sym e) n in let q : None ≡ Some x = sym none ∙ p in absurd (cc)

one_among : (records : List Record) (now : TcpRecord) → accept_name now.listening ≡ None → OneHolds records → (k j : ℕ) (r s : TcpRecord) (x : OpId)
    → (tcp2_at records k ≡ Some r) ⊎ (now ≡ r) → (tcp2_at records j ≡ Some s) ⊎ (now ≡ s) → accept_name r.listening ≡ Some x → accept_name s.listening ≡ Some x → k ≡ j
one_among records now none h k j r s x (inr a) b n m = absurd (unnamed now r x none a n)
one_among records now none h k j r s x (inl a) (inr b) n m = absurd (unnamed now s x none b m)
one_among records now none h k j r s x (inl a) (inl b) n m = h k j r s x a b n m

pub one_push : (records : List Record) (now : TcpRecord) → accept_name now.listening ≡ None → OneHolds records → OneHolds (tcp2_pushed records now)
one_push records now none h k j r s x a b n m = one_among records now none h k j r s x (push_new tcp_sort records now k r a) (push_new tcp_sort records now j s b) n m

-- no record has an accept of this name
abbrev pub Free : List Record → OpId → Type 0
Free records x = (k : ℕ) (s : TcpRecord) → tcp2_at records k ≡ Some s → accept_name s.listening ≡ Some x → ⊥

-- == what more entries keep
pub side_more : (es fs : List Entry) (handle : ℕ) (side : OpId) → IsSide es handle side → IsSide (es ++ fs) handle side
side_more es fs handle side h = record { op = h.op; kind = h.kind; parent = h.parent; told = h.told; mark = has_front es fs _ h.mark }

pub marked_more : (es fs : List Entry) (handle : ℕ) (sock : Option OpId) → IsMarkedWith es handle sock → IsMarkedWith (es ++ fs) handle sock
marked_more es fs handle sock h = record { op = h.op; kind = h.kind; parent = h.parent; told = h.told; mark = has_front es fs _ h.mark }

pub marked_as_more : (es fs : List Entry) (handle : ℕ) (kind : HandleKind) → IsMarkedAs es handle kind → IsMarkedAs (es ++ fs) handle kind
marked_as_more es fs handle kind h = record { op = h.op; parent = h.parent; sock = h.sock; told = h.told; mark = has_front es fs _ h.mark }

pub names_more : (es fs : List Entry) (side : OpId) (s : Step) → NamesSide es side s → NamesSide (es ++ fs) side s
names_more es fs side s h = record { handle = h.handle; named = h.named; is = side_more es fs h.handle side h.is }

pub maker_more : (es fs : List Entry) (ctx : ℕ) (family : SocketAddressFamily) (side : OpId) → IsMaker es ctx family side → IsMaker (es ++ fs) ctx family side
maker_more es fs ctx family side (Created s t h) = Created s t (has_front es fs _ h)
maker_more es fs ctx family side (UdpCreated s t h) = UdpCreated s t (has_front es fs _ h)
maker_more es fs ctx family side (Handed s l p t h m) = Handed s l p t (has_front es fs _ h) (maker_more es fs ctx family l m)

pub names_record_more : (es fs : List Entry) (records : List Record) (handle place : ℕ) → NamesRecord es records handle place → NamesRecord (es ++ fs) records handle place
names_record_more es fs records handle place h = record { found = h.found; at = h.at; marked = marked_more es fs handle h.found.side h.marked }

pub knows_more : (es fs : List Entry) (socket : Socket) → KnowsMaker es socket → KnowsMaker (es ++ fs) socket
knows_more es fs socket h = record { maker = λ s e. maker_more es fs socket.maker socket.family s (h.maker s e) }

pub left_more : (es fs : List Entry) (op : OpId) (maker : ℕ) (addr : IpSocketAddress) (items : List Item) → BindLeft es op maker addr items → BindLeft (es ++ fs) op maker addr items
left_more es fs op maker addr items Whole = Whole
left_more es fs op maker addr items (Checked h) = Checked (has_front es fs _ h)
left_more es fs op maker addr items Over = Over

pub wildcard_more : (es fs : List Entry) (op side : OpId) (usage : SocketAddrUse) → HasWildcardYes es op side usage → HasWildcardYes (es ++ fs) op side usage
wildcard_more es fs op side usage h = record { ctx = h.ctx; family = h.family; maker = maker_more es fs h.ctx h.family side h.maker; checked = has_front es fs _ h.checked }

pub bound_more : (es fs : List Entry) (side : OpId) → IsBoundSide es side → IsBoundSide (es ++ fs) side
bound_more es fs side h = record { ctx = h.ctx; family = h.family; maker = maker_more es fs h.ctx h.family side h.maker; op = h.op; addr = h.addr; told = has_front es fs _ h.told; other = h.other }

pub listens_more : (es fs : List Entry) (side : OpId) → Listens es side → Listens (es ++ fs) side
listens_more es fs side h = record { op = h.op; backlog = h.backlog; told = has_front es fs _ h.told }

pub out_more : (es fs : List Entry) (op side : OpId) → MayGoOut es op side → MayGoOut (es ++ fs) op side
out_more es fs op side (inl h) = inl (bound_more es fs side h)
out_more es fs op side (inr h) = inr (wildcard_more es fs op side _ h)

pub connect_left_more : (es fs : List Entry) (op side : OpId) (maker : ℕ) (addr : IpSocketAddress) (items : List Item) → ConnectLeft es op side maker addr items → ConnectLeft (es ++ fs) op side maker addr items
connect_left_more es fs op side maker addr items (Unbound family h) = Unbound family (maker_more es fs maker family side h)
connect_left_more es fs op side maker addr items (Unchecked h) = Unchecked (out_more es fs op side h)
connect_left_more es fs op side maker addr items (Allowed h y) = Allowed (out_more es fs op side h) (has_front es fs _ y)
connect_left_more es fs op side maker addr items (ToClose c) = ToClose c
connect_left_more es fs op side maker addr items Ended = Ended

pub failed_more : (es fs : List Entry) (side : OpId) → WriteFailed es side → WriteFailed (es ++ fs) side
failed_more es fs side h = record { op = h.op; offered = h.offered; code = h.code; told = has_front es fs _ h.told }

pub end_more : (es fs : List Entry) (side : OpId) (e : End) → EndTold es side e → EndTold (es ++ fs) side e
end_more es fs side (Refused c given) h = failed_more es fs side h
end_more es fs side _ h = tt

error_more : (es fs : List Entry) (side : OpId) (e : WriteError) → ErrorTold es side e → ErrorTold (es ++ fs) side e
error_more es fs side (WriteError.LastOperationFailed c) h = failed_more es fs side h
error_more es fs side WriteError.Closed h = tt

-- == marks, accepts and what is handed over are calls of their own
-- any call but these
abbrev pub NoMark : Call → Type 0
NoMark (Made handle kind parent sock) = ⊥
NoMark (Accept sock) = ⊥
NoMark (Hand sock peer) = ⊥
NoMark _ = ⊤

pub no_touch : (op : OpId) (c : Call) (x : OpId) → NoMark c → Touches op c x → ⊥
no_touch op (Made handle kind parent sock) x h t = h
no_touch op (Accept sock) x h t = h
no_touch op (Hand sock peer) x h t = h
no_touch op _ x h t = t

-- == how a socket may change
-- It keeps its creator, its family and its connection, and has no network socket that it didn't have.
pub record KeepsSide (old now : Socket) : Type 0 where
  pub maker : now.maker ≡ old.maker
  pub family : now.family ≡ old.family
  pub side : (side : OpId) → side_of now ≡ Some side → side_of old ≡ Some side
  pub connected : (c : Connection) → old.state ≡ Connected c → IsConnectedOn now c.side

pub keeps_side : (socket : Socket) → KeepsSide socket socket
keeps_side socket = record { maker = refl; family = refl; side = λ s e. e; connected = λ c e. record { connection = c; state = e; same = refl } }

-- The record keeps its socket's network socket, the network socket that it was made with, its streams, and how far it
-- is with listening.
pub record KeepsRecord (old now : TcpRecord) : Type 0 where
  pub keeps : KeepsSide old.inner now.inner
  pub side : now.side ≡ old.side
  pub streams : now.streams ≡ old.streams
  pub listening : now.listening ≡ old.listening
  pub binds : KeepsBinding old.in_progress now.in_progress

-- == the records by place
-- The record of this place was made with this network socket.
pub record IsMadeWith (records : List Record) (place : ℕ) (side : Option OpId) : Type 0 where
  pub found : TcpRecord
  pub at : tcp2_at records place ≡ Some found
  pub same : found.side ≡ side

pub same_record : (a b : TcpRecord) → Some a ≡ Some b → a ≡ b
same_record a b p = cc

-- among those of which one was replaced by one that was made with the same network socket
pub made_put : (records : List Record) (i : ℕ) (old now : TcpRecord) (place : ℕ) (found : TcpRecord) → tcp2_at records i ≡ Some old → now.side ≡ old.side → tcp2_at records place ≡ Some found → IsMadeWith (tcp2_put records i now) place found.side
made_put records i old now place found g k h = elim (put_stays tcp_sort records i now place found h) [
  | inl e ↦ record { found = found; at = e; same = refl }
  | inr e ↦ (let p : found ≡ old = same_record found old (sym h ∙ (ap (tcp2_at records) e.0 ∙ g)) in record { found = now; at = e.1; same = k ∙ ap (λ (r : TcpRecord). r.side) (sym p) })
]

-- A script that has the steps of this one.
pub record Goes (steps now : List Step) : Type 0 where
  pub at : (n : ℕ) (s : Step) → step_at steps n ≡ Some s → step_at now n ≡ Some s

pub stay : (steps : List Step) → Goes steps steps
stay steps = record { at = λ n s e. e }

module _ {steps now : List Step} (goes : Goes steps now) where
  pub began_more : (op : OpId) (P : Step → Type 0) → BeganBy steps op P → BeganBy now op P
  began_more op P h = record { origin = h.origin; at = goes.at op.step h.origin h.at; holds = h.holds }

  -- == what more entries keep of the operations
  pub names_on : (es fs : List Entry) (op side : OpId) → Names steps es op side → Names now (es ++ fs) op side
  names_on es fs op side n = let b = began_more op (NamesSide es side) n in record { origin = b.origin; at = b.at; holds = names_more es fs side b.origin b.holds }

  pub works_more : (es fs : List Entry) (op side : OpId) (maker : ℕ) → WorksOn steps es op side maker → WorksOn now (es ++ fs) op side maker
  works_more es fs op side maker h = record { family = h.family; made = maker_more es fs maker h.family side h.made; named = names_on es fs op side h.named }

  pub bind_more : (es fs : List Entry) (op : Operation) → BindIsFine steps es op → BindIsFine now (es ++ fs) op
  bind_more es fs op h = record { addr = h.addr; to = began_more op.who.id _ h.to; tcp = began_more op.who.side MakesTcp h.tcp; works = works_more es fs op.who.id op.who.side op.who.context h.works; last = h.last; left = left_more es fs op.who.id op.who.context h.addr op.left h.left }

  pub connect_more : (es fs : List Entry) (op : Operation) → ConnectIsFine steps es op → ConnectIsFine now (es ++ fs) op
  connect_more es fs op h = record {
    addr = h.addr;
    to = began_more op.who.id _ h.to;
    tcp = began_more op.who.side MakesTcp h.tcp;
    works = works_more es fs op.who.id op.who.side op.who.context h.works;
    last = h.last;
    left = connect_left_more es fs op.who.id op.who.side op.who.context h.addr op.left h.left;
  }

  pub job_more : (es fs : List Entry) (side : OpId) (job : Job) → JobIsFine steps es side job → JobIsFine now (es ++ fs) side job
  job_more es fs side job h = record { named = names_on es fs job.write.who.id side h.named; on = h.on; last = h.last; left = h.left; ended = end_more es fs side job.end h.ended }

  pub writes_more : (es fs : List Entry) (side : OpId) (w : WriteState) → WritesOn steps es side w → WritesOn now (es ++ fs) side w
  writes_more es fs side (WriteState.Ready half permit) h = h
  writes_more es fs side (WriteState.Writing job) h = job_more es fs side job h
  writes_more es fs side (WriteState.Closing job) h = job_more es fs side job h
  writes_more es fs side (WriteState.Closed e) h = error_more es fs side e h

  pub accept_more : (es fs : List Entry) (side : OpId) (maker : ℕ) (op : Operation) → AcceptIsFine steps es side maker op → AcceptIsFine now (es ++ fs) side maker op
  accept_more es fs side maker op h = record { named = names_on es fs op.who.id side h.named; on = h.on; asks = h.asks; last = h.last }

  accepting_more : (es fs : List Entry) (side : OpId) (maker : ℕ) (a : Accepting) → AcceptingIsFine steps es side maker a → AcceptingIsFine now (es ++ fs) side maker a
  accepting_more es fs side maker (Accepting.Asking op) h = accept_more es fs side maker op h
  accepting_more es fs side maker (Accepting.Arrived new peer) h = record { told = h.told; hand = has_front es fs _ h.hand }
  accepting_more es fs side maker _ h = tt

  pub listening_more : (es fs : List Entry) (made : Option OpId) (l : Listening) → ListeningIsFine steps es made l → ListeningIsFine now (es ++ fs) made l
  listening_more es fs made (Accepts l) h = record { side = h.side; maker = maker_more es fs l.maker l.family l.side h.maker; accept = accepting_more es fs l.side l.maker l.accept h.accept }
  listening_more es fs made _ h = tt

  -- == and of the records
  pub socket_more : (es fs : List Entry) (socket : Socket) → SocketIsFine steps es socket → SocketIsFine now (es ++ fs) socket
  socket_more es fs socket h = record {
    knows = knows_more es fs socket h.knows;
    tcp = λ side s. began_more side MakesTcp (h.tcp side s);
    bound = λ side s b. bound_more es fs side (h.bound side s b);
    listens = λ side s. listens_more es fs side (h.listens side s);
    connect = λ op s. connect_more es fs op (h.connect op s);
  }

  progress_more : (es fs : List Entry) (doing : InProgress) → ProgressIsFine steps es doing → ProgressIsFine now (es ++ fs) doing
  progress_more es fs (InProgress.Binding op) h = bind_more es fs op h
  progress_more es fs _ h = tt

  pub streams_more : (es fs : List Entry) (socket : Socket) (streams : Streams) → StreamsAreFine steps es socket streams → StreamsAreFine now (es ++ fs) socket streams
  streams_more es fs socket streams h = record { side = h.side; connected = h.connected; reads = h.reads; writes = writes_more es fs h.side streams.writer h.writes }

  pub record_more : (es fs : List Entry) (r : TcpRecord) → RecordIsFine steps es r → RecordIsFine now (es ++ fs) r
  record_more es fs r h = record {
    socket = socket_more es fs r.inner h.socket;
    named = h.named;
    streams = λ streams e. streams_more es fs r.inner streams (h.streams streams e);
    listening = listening_more es fs r.side r.listening h.listening;
    progress = progress_more es fs r.in_progress h.progress;
  }

module _ (steps : List Step) where
  -- == a record that changes
  -- streams stay those of the socket's connection
  pub streams_kept : (es : List Entry) (old now : Socket) (streams : Streams) → KeepsSide old now → StreamsAreFine steps es old streams → StreamsAreFine steps es now streams
  streams_kept es old now streams k f =
      let c = k.connected f.connected.connection f.connected.state in
      record { side = f.side; connected = record { connection = c.connection; state = c.state; same = c.same ∙ f.connected.same }; reads = f.reads; writes = f.writes }

  progress_kept : (es : List Entry) (old now : InProgress) → KeepsBinding old now → ProgressIsFine steps es old → ProgressIsFine steps es now
  progress_kept es old now (inl e) f = subst (ProgressIsFine steps es) (sym e) f
  progress_kept es old (InProgress.Binding op) (inr k) f = absurd k.1
  progress_kept es old InProgress.Nothing (inr k) f = tt
  progress_kept es old (InProgress.Started o) (inr k) f = tt

  pub record_kept : (es : List Entry) (old now : TcpRecord) → KeepsRecord old now → SocketIsFine steps es now.inner → RecordIsFine steps es old → RecordIsFine steps es now
  record_kept es old now k f h = record {
    socket = f;
    named = λ side e. k.side ∙ h.named side (k.keeps.side side e);
    streams = λ streams e. streams_kept es old.inner now.inner streams k.keeps (h.streams streams (sym k.streams ∙ e));
    listening = rw (k.side, k.listening) h.listening;
    progress = progress_kept es old.in_progress now.in_progress k.binds h.progress;
  }

  -- A call on a record leaves one that was made with the same network socket, has no other accept, and fits the log.
  pub record LeavesRecord {A : Type 0} (old : TcpRecord) (es : List Entry) (done : A × TcpRecord) : Type 0 where
    pub side : done.1.side ≡ old.side
    pub listening : KeepsListening old.listening done.1.listening
    pub fine : RecordIsFine steps es done.1
