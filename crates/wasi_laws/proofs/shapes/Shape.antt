-- What holds of a record: its streams are those of its connection, its writer writes on by itself to that network socket alone,
-- and it listens by its socket's network socket.
use Rattle.std.proofs.lemmas.Bool.{eqb-true}
use Rattle.wasi_records.specs.Records.{tcp2_at, udp2_at}
use Rattle.lookup_records.specs.declared.name_lookup.LookupOp.{LookupOp}
use Rattle.wasi_records.specs.declared.records.Record.{Record}
use Rattle.udp_records.specs.declared.udp.UdpRecord.{UdpRecord}
use Rattle.wasi_tcp.specs.declared.halves.TcpReceiveStream.{TcpReceiveStream}
use Rattle.wasi_tcp.specs.declared.reader.ReadState.TheVariants as reading
use Rattle.wasi_tcp.specs.declared.socket.Connection.{Connection}
use Rattle.wasi_tcp.specs.declared.socket.TcpState.TheVariants as state
use Rattle.wasi_tcp.specs.declared.writer.WriteState.TheVariants as writing
use Rattle.wasi_walks.proofs.walks.Moves.{SameSockets}
use Rattle.wasi_laws.proofs.Words.{Accepts, Begins, Bool, Collects, Done, End, Found, Here, IsOn, Item, Job, Last, Lasts, LastsAfter, List, Listening, Named, None, OfReader, OfSocket, OfWriter, OpId, Option, Permits, Plain, Refused, ShutdownLast, ShutdownSend, Some, Streams, TcpRecord, TcpState, Unclosed, Waits, Write, WriteState, WriterMoves, [], ap, arith, beginning_listen, closed_by, closing_side, false, inl, inr, is_same, no_some, own_of, refl, side_in, side_of, subst, sym, then_closed, true, writer_side, writing_side, written_by, ℕ, ⊤, ◌&&◌, ◌==◌, ◌∙◌, ◌∷◌, ◌≡◌, ◌⊎◌}

pub some_same : {A : Type 0} (a b : A) → Some a ≡ Some b → a ≡ b
some_same a b e = cc

-- == whether two network sockets are the same
pub same_side : (a b : OpId) → is_same a b ≡ true → a ≡ b
same_side a b h = by_tests (a.step == b.step) (a.part == b.part) (eqb-true a.step b.step) (eqb-true a.part b.part) h
  where
    by_tests : (x y : Bool) → (x ≡ true → a.step ≡ b.step) → (y ≡ true → a.part ≡ b.part) → (x && y) ≡ true → a ≡ b
    by_tests true true f g e =
        ap (λ (n : ℕ). let o : OpId = record { step = n; part = a.part } in o) (f refl) ∙ ap (λ (n : ℕ). let o : OpId = record { step = b.step; part = n } in o) (g refl)
    by_tests true false f g e = absurd (cc)
    by_tests false y f g e = absurd (cc)

same_number : (n : ℕ) → (n == n) ≡ true
same_number n = grind arith

pub not_same : (a b : OpId) → a ≡ b → is_same a b ≡ false → ⊥
not_same a b e h =
    let p : is_same a a ≡ true = rw (same_number a.step, same_number a.part) refl in
    let q : true ≡ false = sym p ∙ (ap (λ (x : OpId). is_same a x) e ∙ h) in
    absurd (cc)

-- == what is left of a write
-- what follows its bytes: it writes nothing
abbrev pub IsOfEnd : Item → Type 0
IsOfEnd ShutdownSend = ⊤
IsOfEnd (Last c given) = ⊤
IsOfEnd _ = ⊥

abbrev pub AreOfEnd : List Item → Type 0
AreOfEnd [] = ⊤
AreOfEnd (item ∷ items) = IsOfEnd item × AreOfEnd items

abbrev pub IsOfWrite : Item → Type 0
IsOfWrite (Write bytes) = ⊤
IsOfWrite item = IsOfEnd item

-- only the first may be a write
abbrev pub AreOfWrite : List Item → Type 0
AreOfWrite [] = ⊤
AreOfWrite (item ∷ items) = IsOfWrite item × AreOfEnd items

pub end_write : (items : List Item) → AreOfEnd items → AreOfWrite items
end_write [] k = tt
end_write (ShutdownSend ∷ items) k = k
end_write (Last c given ∷ items) k = k
end_write (_ ∷ items) k = absurd k.0

left_closed : (items : List Item) → AreOfWrite items → AreOfWrite (then_closed items)
left_closed [] h = h
left_closed (Write rest ∷ items) h = (tt, (tt, tt))
left_closed (_ ∷ items) h = h

-- == a writer
-- The write is on this network socket, and one that is refused shuts its half.
pub record JobIs (at : OpId) (job : Job) : Type 0 where
  pub side : job.write.who.side ≡ at
  pub last : job.write.who.last ≡ ShutdownLast
  pub left : AreOfWrite job.write.left

abbrev pub WriterIs : OpId → WriteState → Type 0
WriterIs at (writing.Ready half permit) = half.side ≡ at
WriterIs at (writing.Writing job) = JobIs at job
WriterIs at (writing.Closing job) = JobIs at job
WriterIs at (writing.Closed e) = ⊤

written_is : (at : OpId) (job : Job) (e : End) → JobIs at job → WriterIs at (written_by job e)
written_is at job Waits k = k
written_is at job (Done given) k = k.side
written_is at job (Refused c given) k = tt

closed_is : (at : OpId) (job : Job) (e : End) → JobIs at job → WriterIs at (closed_by job e)
closed_is at job Waits k = k
closed_is at job _ k = tt

pub writer_moves : {most : ℕ} (at : OpId) (w now : WriteState) → WriterMoves most w now → WriterIs at w → WriterIs at now
writer_moves at _ _ (Collects (writing.Ready half permit)) k = k
writer_moves at _ _ (Collects (writing.Writing job)) k = written_is at job job.end k
writer_moves at _ _ (Collects (writing.Closing job)) k = closed_is at job job.end k
writer_moves at _ _ (Collects (writing.Closed e)) k = k
writer_moves at _ _ (Permits half old n fits) k = k
writer_moves at _ _ (Lasts job) k = k
writer_moves at _ _ (LastsAfter job) k = record { side = k.side; last = k.last; left = left_closed job.write.left k.left }
writer_moves at _ _ _ k = tt

-- a writer that has a network socket has that one
module _ (at x : OpId) where
  of_writing : (job : Job) (e : End) → JobIs at job → writing_side job e ≡ Some x → at ≡ x
  of_writing job (Refused c given) k w = absurd (cc)
  of_writing job _ k w = sym k.side ∙ some_same job.write.who.side x w

  of_closing : (job : Job) (e : End) → JobIs at job → closing_side job e ≡ Some x → at ≡ x
  of_closing job Waits k w = sym k.side ∙ some_same job.write.who.side x w
  of_closing job _ k w = absurd (cc)

  pub of_writer : (w : WriteState) → WriterIs at w → writer_side w ≡ Some x → at ≡ x
  of_writer (writing.Ready half permit) i w = sym i ∙ some_same half.side x w
  of_writer (writing.Writing job) i w = of_writing job job.end i w
  of_writer (writing.Closing job) i w = of_closing job job.end i w
  of_writer (writing.Closed e) i w = absurd (cc)

-- == a record
-- it has a half to write by, or a write that is in progress
abbrev pub IsUsed : WriteState → Type 0
IsUsed (writing.Closed e) = ⊥
IsUsed _ = ⊤

pub moves_used : {most : ℕ} (w now : WriteState) → WriterMoves most w now → IsUsed now → IsUsed w
moves_used _ _ (Collects (writing.Ready half permit)) u = tt
moves_used _ _ (Collects (writing.Writing job)) u = tt
moves_used _ _ (Collects (writing.Closing job)) u = tt
moves_used _ _ (Collects (writing.Closed e)) u = u
moves_used _ _ (Permits half old n fits) u = tt
moves_used _ _ (Lasts job) u = tt
moves_used _ _ (LastsAfter job) u = tt
moves_used w _ _ u = absurd u

-- The streams are of the socket's connection, whose sending half was taken where they have it.
pub record HasStreams (t : TcpState) (s : Streams) : Type 0 where
  pub connection : Connection
  pub is : t ≡ state.Connected connection
  pub taken : IsUsed s.writer → connection.send_taken ≡ true
  pub reader : (half : TcpReceiveStream) → s.reader ≡ reading.Open half → half.side ≡ connection.side
  pub writer : WriterIs connection.side s.writer

abbrev pub StreamsShape : TcpState → Option Streams → Type 0
StreamsShape t None = ⊤
StreamsShape t (Some s) = HasStreams t s

abbrev pub ListenerShape : TcpState → Listening → Type 0
ListenerShape t (Accepts l) = t ≡ state.Listening l.side
ListenerShape t (Unclosed x) = ⊥
ListenerShape t _ = ⊤

abbrev pub RecordShape : TcpRecord → Type 0
RecordShape r = StreamsShape r.inner.state r.streams × ListenerShape r.inner.state r.listening

-- a record that isn't connected has no streams
abbrev pub Unconnected : TcpState → Type 0
Unconnected t = (c : Connection) → t ≡ state.Connected c → ⊥

pub bare : (t : TcpState) (o : Option Streams) → Unconnected t → StreamsShape t o → o ≡ None
bare t None n k = refl
bare t (Some s) n k = absurd (n k.connection k.is)

pub sideless : (t : TcpState) → side_in t ≡ None → Unconnected t
sideless t e c d = let p : None ≡ Some c.side = sym e ∙ ap side_in d in absurd (cc)

-- the state of one that neither is connected nor listens changes
pub restated : (t now : TcpState) (o : Option Streams) (l : Listening) → Unconnected t → ((x : OpId) → t ≡ state.Listening x → ⊥) → StreamsShape t o × ListenerShape t l → StreamsShape now o × ListenerShape now l
restated t now o l n m k = (subst (StreamsShape now) (sym (bare t o n k.0)) tt, by_listening l k.1)
  where
    by_listening : (l : Listening) → ListenerShape t l → ListenerShape now l
    by_listening (Accepts l) h = absurd (m l.side h)
    by_listening (Unclosed x) h = h
    by_listening _ h = tt

-- whatever is on a network socket of the record is on the network socket of its socket
pub on_socket : (r : TcpRecord) (x : OpId) → RecordShape r → IsOn r x → side_of r.inner ≡ Some x
on_socket r x k (OfSocket e) = e
on_socket r x k (OfReader s half e d z) = let o = subst (StreamsShape r.inner.state) e k.0 in ap side_in o.is ∙ ap (λ (y : OpId). Some y) (sym (o.reader half d) ∙ z)
on_socket r x k (OfWriter s e d) = let o = subst (StreamsShape r.inner.state) e k.0 in ap side_in o.is ∙ ap (λ (y : OpId). Some y) (of_writer o.connection.side x s.writer o.writer d)

-- The record is as it was, as far as a law looks.
pub record Same (r now : TcpRecord) : Type 0 where
  pub side : now.side ≡ r.side
  pub streams : now.streams ≡ r.streams
  pub listening : now.listening ≡ r.listening
  pub does : now.inner.state ≡ r.inner.state
  pub doing : now.in_progress ≡ r.in_progress

abbrev pub IsBegun : Listening → Type 0
IsBegun (Begins op) = ⊤
IsBegun _ = ⊥

abbrev pub Lives : OpId → TcpRecord → Type 0
Lives x r = (r.side ≡ Some x) × ((side_of r.inner ≡ Some x) ⊎ IsBegun r.listening)

-- A record changes, and no network socket comes alive.
pub record Follows (r now : TcpRecord) : Type 0 where
  pub side : now.side ≡ r.side
  pub lives : (x : OpId) → Lives x now → Lives x r

-- another state of the same network socket, or of none
pub follows_state : (r now : TcpRecord) → now.side ≡ r.side → now.listening ≡ r.listening → ((x : OpId) → side_of now.inner ≡ Some x → side_of r.inner ≡ Some x) → Follows r now
follows_state r now s l f = record { side = s; lives = λ x v. (sym s ∙ v.0, elim v.1 [ inl p ↦ inl (f x p) | inr p ↦ inr (subst IsBegun l p) ]) }

pub follows_plain : {goes begins : Type 0} (r now : TcpRecord) → Plain goes begins r now → Follows r now
follows_plain r now p = follows_state r now p.side p.listening (λ x e. sym (ap side_in p.does) ∙ e)

pub follows_same : (r now : TcpRecord) → Same r now → Follows r now
follows_same r now s = follows_state r now s.side s.listening (λ x e. sym (ap side_in s.does) ∙ e)

-- a listen that isn't in progress
pub follows_quiet : (r now : TcpRecord) → now.side ≡ r.side → side_of now.inner ≡ side_of r.inner → (IsBegun now.listening → ⊥) → Follows r now
follows_quiet r now s d n = record { side = s; lives = λ x v. (sym s ∙ v.0, elim v.1 [ inl p ↦ inl (sym d ∙ p) | inr p ↦ absurd (n p) ]) }

-- what has no network socket any more
pub gone_lacks : (now : TcpRecord) → side_of now.inner ≡ None → (IsBegun now.listening → ⊥) → (x : OpId) → Lives x now → ⊥
gone_lacks now d n x v = elim v.1 [ inl p ↦ no_some x (sym d ∙ p) | inr p ↦ n p ]

pub follows_gone : (r now : TcpRecord) → now.side ≡ r.side → side_of now.inner ≡ None → (IsBegun now.listening → ⊥) → Follows r now
follows_gone r now s d n = record { side = s; lives = λ x v. absurd (gone_lacks now d n x v) }

-- the listen that begins has the network socket that its socket had
pub follows_begun : (line : ℕ) (h : Here) (place : ℕ) (r : TcpRecord) (side : OpId) (bound : Bool) → Found h place r → r.inner.state ≡ state.Default side → Named line h → Follows r (beginning_listen (own_of line) side r bound)
follows_begun line h place r side bound g d n = record { side = refl; lives = λ x v. (v.0, inl (ap side_in d ∙ (sym (n.named side place r g (ap side_in d)) ∙ v.0))) }

-- == where a lookup changes
-- The sockets among the records are as they were.
pub record SocketsStay (old now : List Record) : Type 0 where
  pub tcp : (k : ℕ) → tcp2_at now k ≡ tcp2_at old k
  pub udp : (k : ℕ) → udp2_at now k ≡ udp2_at old k

pub sockets_stay : {new : LookupOp → Type 0} {old now : List Record} → SameSockets new old now → SocketsStay old now
sockets_stay s = record { tcp = s.tcp; udp = s.udp }

-- == where a UDP socket is closed
-- it wasn't closed yet
abbrev pub UdpLives : UdpRecord → Type 0
UdpLives (UdpRecord.Closed side) = ⊥
UdpLives u = ⊤
