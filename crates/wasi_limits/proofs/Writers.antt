-- The calls on the streams of sockets that are alike.
use Rattle.std.proofs.Common.{◌≡◌, refl, Bool, true, false, if◌then◌else◌, ℕ, List, [], ◌∷◌, length, Option, Some, None, Result, Ok, Err}
use Rattle.std.specs.Prelude.{nat_lt}
use Rattle.wasi_addr.specs.declared.address.ShutdownType.{ShutdownType}
use Rattle.wasi_addr.specs.declared.address.ShutdownType.TheVariants.{Receive, Send, Both}
use Rattle.wasi_world.specs.declared.ids.OpId.{OpId}
use Rattle.wasi_world.specs.declared.outcome.Answer.{Answer}
use Rattle.wasi_world.specs.declared.outcome.Answer.TheVariants as answer
use Rattle.wasi_world.specs.declared.outcome.TrapKind.TheVariants.{NotPermitted}
use Rattle.wasi_world.specs.Asks.{Asks, Give}
unfoldable use Rattle.wasi_world.specs.Asks.{bind}
use Rattle.wasi_world.specs.Typed.{ask_write_ready}
use Rattle.wasi_streams.specs.StreamStop.{StreamStop, Trap}
use Rattle.wasi_tcp.specs.declared.halves.TcpSendStream.{TcpSendStream}
use Rattle.wasi_tcp.specs.declared.reader.ReadState.{ReadState}
use Rattle.wasi_tcp.specs.declared.writer.WriteState.{WriteState}
use Rattle.wasi_tcp.specs.declared.writer.WriteState.TheVariants.{Ready}
use Rattle.wasi_tcp.specs.Job.{new_job}
use Rattle.wasi_tcp.specs.Reader.{reader_ready_asks, reader_shutdown_asks}
use Rattle.wasi_tcp.specs.Writer.{look_asks, check_write_asks, permitted, write_state_asks, write_on_asks}
use Rattle.tcp_records.specs.declared.socket.Streams.{Streams}
use Rattle.tcp_records.specs.declared.socket.TcpRecord.{TcpRecord}
use Rattle.tcp_records.specs.Halves.{with_writer, reader_asks, writer_asks, writer_of, flush_asks, has_job, turn_record}
use Rattle.tcp_records.specs.Looks.{ready_reader, ready_writer, wait_writer, is_over}
use Rattle.tcp_records.specs.Releasing.{release_asks}
use Rattle.tcp_records.specs.Shutdowns.{shut_record, shut_streams, shut_receive, shut_send, with_streams}
use Rattle.wasi_limits.specs.Alike.{Alike, BothGive, OneStops, OtherStops, Same, StopsAt, Stopped}
use Rattle.wasi_limits.proofs.Like.{LikeSocket, SameSocket, OtherPermit, LikeFound, NoneFound, BothFound, With, Also, Gives, GiveOk, GiveErr, Any, Traps}
use Rattle.wasi_limits.proofs.Together.{itself, alike_then, same_then, both_give, same_give}
use Rattle.wasi_limits.proofs.Sockets.{Call, Keeps, same_with, by_permit}

-- writers that are alike
pub data LikeWriter : WriteState → WriteState → Type 0 where
  SameWriter : (w : WriteState) → LikeWriter w w
  OtherReady : (half : TcpSendStream) (p q : ℕ) → LikeWriter (Ready half p) (Ready half q)

-- what a call gives is the same as what it gives
pub gives_same : {T E X : Type 0} {P : T → T → Type 0} {R : X → X → Type 0} → ((a : T) → P a a) → ((x : X) → R x x) → (d : Result T E × X) → Gives P R d d
gives_same p r (Ok a, x) = GiveOk a a x x (p a) (r x)
gives_same p r (Err e, x) = GiveErr e x x (r x)

-- == of a writer
look_ready : (op : OpId) (half : TcpSendStream) (p q : ℕ) → Same (With LikeWriter) (look_asks op (Ready half p)) (look_asks op (Ready half q))
look_ready op half p q = both_give _ _ (ask_write_ready op half.side) (λ answer. Also _ _ _ (OtherReady half p q))

permitted_ready : (half : TcpSendStream) (most least p q : ℕ) (a : Answer (Unit {0})) → Gives Any LikeWriter (permitted most (Ok a, Ready half p)) (permitted least (Ok a, Ready half q))
permitted_ready half most least p q (answer.Ready done) = GiveOk most least _ _ tt (OtherReady half most least)
permitted_ready half most least p q answer.Pending = GiveOk 0 0 _ _ tt (OtherReady half p q)

-- the looks are of the same answer
check_ready : (op : OpId) (half : TcpSendStream) (most least p q : ℕ) → Same (Gives Any LikeWriter) (check_write_asks most op (Ready half p)) (check_write_asks least op (Ready half q))
unfolding bind
check_ready op half most least p q = both_give _ _ (ask_write_ready op half.side) (permitted_ready half most least p q)

-- any two permits that are given
permitted_any : (most least : ℕ) (d : Result (Answer (Unit {0})) StreamStop × WriteState) → Gives Any LikeWriter (permitted most d) (permitted least d)
permitted_any most least (Ok (answer.Ready done), Ready half p) = GiveOk most least _ _ tt (OtherReady half most least)
permitted_any most least (Ok (answer.Ready done), w) = GiveOk most least _ _ tt (SameWriter w)
permitted_any most least (Ok answer.Pending, w) = GiveOk 0 0 _ _ tt (SameWriter w)
permitted_any most least (Err stop, w) = GiveErr stop _ _ (SameWriter w)

check_any : (most least : ℕ) (op : OpId) (w : WriteState) → Same (Gives Any LikeWriter) (check_write_asks most op w) (check_write_asks least op w)
check_any most least op w = both_give _ _ (look_asks op w) (permitted_any most least)

-- one that is not let write is stopped
write_some : (op : OpId) (half : TcpSendStream) (p q : ℕ) (bytes : List ℕ) (a b : Bool) → Alike Traps (Gives (λ (x y : Unit {0}). x ≡ y) LikeWriter) (if a then Give (Err (Trap NotPermitted), Ready half p) else write_on_asks op (WriteState.Writing (new_job op half.side bytes))) (if b then Give (Err (Trap NotPermitted), Ready half q) else write_on_asks op (WriteState.Writing (new_job op half.side bytes)))
write_some op half p q bytes true b = OneStops _ _ tt
write_some op half p q bytes false true = OtherStops _ _ tt
write_some op half p q bytes false false = itself (gives_same (λ x. refl) SameWriter) (write_on_asks op (WriteState.Writing (new_job op half.side bytes)))

write_ready : (op : OpId) (half : TcpSendStream) (p q : ℕ) (bytes : List ℕ) → Alike Traps (Gives (λ (x y : Unit {0}). x ≡ y) LikeWriter) (write_state_asks op (Ready half p) bytes) (write_state_asks op (Ready half q) bytes)
write_ready op half p q [] = BothGive _ _ (GiveOk tt tt _ _ refl (OtherReady half p q))
write_ready op half p q (b ∷ bytes) = write_some op half p q (b ∷ bytes) (nat_lt p (length (b ∷ bytes))) (nat_lt q (length (b ∷ bytes)))

trap_given : {T : Type 0} (r : TcpRecord) (s : Streams) (a : Result T StreamStop × WriteState) → Traps a → StopsAt Traps (Give (a.0, with_writer r s a.1))
trap_given r s a t = Stopped (a.0, with_writer r s a.1) t

data LikeStreams : Streams → Streams → Type 0 where
  SameStreams : (s : Streams) → LikeStreams s s
  OtherStreams : (s : Streams) (half : TcpSendStream) (p q : ℕ) → LikeStreams (record s { writer = Ready half p }) (record s { writer = Ready half q })

-- == a shutdown of streams
shut_receive_permits : (op : OpId) (s : Streams) (half : TcpSendStream) (p q : ℕ) → Same (With LikeStreams) (shut_receive op (record s { writer = Ready half p })) (shut_receive op (record s { writer = Ready half q }))
shut_receive_permits op s half p q = both_give _ _ (reader_shutdown_asks op s.reader) (λ done. Also _ _ _ (OtherStreams (record s { reader = done.1 }) half p q))

same_streams : {A : Type 0} (x : A × Streams) → With LikeStreams x x
same_streams (a, s) = Also a s s (SameStreams s)

shut_send_permits : (op : OpId) (s : Streams) (half : TcpSendStream) (p q : ℕ) → Same (With LikeStreams) (shut_send op (record s { writer = Ready half p })) (shut_send op (record s { writer = Ready half q }))
unfolding bind
shut_send_permits op s half p q = itself same_streams (shut_send op (record s { writer = Ready half p }))

shut_send_like : {A : Type 0} (op : OpId) (a b : A × Streams) → With LikeStreams a b → Same (With LikeStreams) (shut_send op a.1) (shut_send op b.1)
shut_send_like op _ _ (Also a _ _ (SameStreams s)) = itself same_streams (shut_send op s)
shut_send_like op _ _ (Also a _ _ (OtherStreams s half p q)) = shut_send_permits op s half p q

shut_permits : (op : OpId) (how : ShutdownType) (s : Streams) (half : TcpSendStream) (p q : ℕ) → Same (With LikeStreams) (shut_streams op how (record s { writer = Ready half p })) (shut_streams op how (record s { writer = Ready half q }))
shut_permits op Receive s half p q = shut_receive_permits op s half p q
shut_permits op Send s half p q = shut_send_permits op s half p q
shut_permits op Both s half p q = same_then (shut_receive_permits op s half p q) (shut_send_like op)

-- a call of a stream that gives the same
abbrev pub KeepsStream : {T : Type 0} → ℕ → Call (Result T StreamStop) → Type 0
KeepsStream {T} c call = (r now : TcpRecord) → LikeSocket c r now → Alike Traps (Gives (λ (x y : T). x ≡ y) (LikeSocket c)) (call r) (call now)

module _ {c : ℕ} where
  -- == a call on the writer of a socket
  put_writer : {w v : WriteState} (r : TcpRecord) (s : Streams) → r.maker ≡ c → LikeWriter w v → LikeSocket c (with_writer r s w) (with_writer r s v)
  put_writer r s m (SameWriter w) = SameSocket (with_writer r s w)
  put_writer r s m (OtherReady half p q) = OtherPermit r s half p q m

  given_put : {T : Type 0} {P : T → T → Type 0} {a b : Result T StreamStop × WriteState} (r : TcpRecord) (s : Streams) → r.maker ≡ c → Gives P LikeWriter a b → Gives P (LikeSocket c) (a.0, with_writer r s a.1) (b.0, with_writer r s b.1)
  given_put r s m (GiveOk a b w v h k) = GiveOk a b _ _ h (put_writer r s m k)
  given_put r s m (GiveErr e w v k) = GiveErr e _ _ (put_writer r s m k)

  writer_some : {T : Type 0} {P : T → T → Type 0} (call other : WriteState → Asks (Result T StreamStop × WriteState)) (r : TcpRecord) (s : Streams) (w v : WriteState) → r.maker ≡ c → Alike Traps (Gives P LikeWriter) (call w) (other v)
      → Alike Traps (Gives P (LikeSocket c)) (writer_asks call (with_writer r s w)) (writer_asks other (with_writer r s v))
  writer_some call other r s w v m h = alike_then h (trap_given r s) (trap_given r s) (λ a b g. BothGive _ _ (given_put r s m g))

  -- two permits are given by what may be given to each
  pub check_keeps : (most least : ℕ) (op : OpId) (r now : TcpRecord) → LikeSocket c r now → r.maker ≡ c → Alike Traps (Gives Any (LikeSocket c)) (writer_asks (check_write_asks most op) r) (writer_asks (check_write_asks least op) now)
  check_keeps most least op r now h m = by_like h m
    where
      by_streams : (r : TcpRecord) → r.maker ≡ c → (o : Option Streams) → Alike Traps (Gives Any (LikeSocket c)) (writer_of r (check_write_asks most op) o) (writer_of r (check_write_asks least op) o)
      by_streams r m None = BothGive _ _ (GiveErr _ r r (SameSocket r))
      by_streams r m (Some s) = same_then (check_any most least op s.writer) (λ a b g. BothGive _ _ (given_put r s m g))

      by_like : {r now : TcpRecord} → LikeSocket c r now → r.maker ≡ c → Alike Traps (Gives Any (LikeSocket c)) (writer_asks (check_write_asks most op) r) (writer_asks (check_write_asks least op) now)
      by_like (SameSocket r) m = by_streams r m r.streams
      by_like (OtherPermit r s half p q e) m = same_then (check_ready op half most least p q) (λ a b g. BothGive _ _ (given_put r s e g))

  pub write_keeps : (op : OpId) (bytes : List ℕ) (r now : TcpRecord) → LikeSocket c r now → Alike Traps (Gives (λ (x y : Unit {0}). x ≡ y) (LikeSocket c)) (writer_asks (λ w. write_state_asks op w bytes) r) (writer_asks (λ w. write_state_asks op w bytes) now)
  write_keeps op bytes _ _ (SameSocket r) = itself (gives_same (λ x. refl) SameSocket) (writer_asks (λ w. write_state_asks op w bytes) r)
  write_keeps op bytes _ _ (OtherPermit r s half p q m) = writer_some (λ w. write_state_asks op w bytes) (λ w. write_state_asks op w bytes) r s (Ready half p) (Ready half q) m (write_ready op half p q bytes)

  pub flush_keeps : KeepsStream c (writer_asks flush_asks)
  flush_keeps _ _ (SameSocket r) = itself (gives_same (λ x. refl) SameSocket) (writer_asks flush_asks r)
  flush_keeps _ _ (OtherPermit r s half p q m) = writer_some flush_asks flush_asks r s (Ready half p) (Ready half q) m (BothGive _ _ (GiveOk tt tt _ _ refl (OtherReady half p q)))

  same_given : {T : Type 0} (a : Result T StreamStop) (x y : TcpRecord) → LikeSocket c x y → Gives (λ (x y : T). x ≡ y) (LikeSocket c) (a, x) (a, y)
  same_given (Ok a) x y h = GiveOk a a x y refl h
  same_given (Err e) x y h = GiveErr e x y h

  pub read_keeps : {T : Type 0} (call : ReadState → Asks (Result T StreamStop × ReadState)) → KeepsStream c (reader_asks call)
  read_keeps call _ _ (SameSocket r) = itself (gives_same (λ x. refl) SameSocket) (reader_asks call r)
  read_keeps call _ _ (OtherPermit r s half p q m) = both_give _ _ (call s.reader) (λ done. same_given done.0 _ _ (OtherPermit r (record s { reader = done.1 }) half p q m))

  -- == looks
  pub ready_reader_keeps : (op : OpId) → Keeps c (λ r. ready_reader op r r.streams)
  ready_reader_keeps op = by_permit (λ r. ready_reader op r r.streams) (λ r s half p q m. both_give _ _ (reader_ready_asks op s.reader) (λ done. Also _ _ _ (OtherPermit r (record s { reader = done.1 }) half p q m)))

  looked_put : {A B : Type 0} (f : A → B) (r : TcpRecord) (s : Streams) → r.maker ≡ c → (a b : A × WriteState) → With LikeWriter a b → With (LikeSocket c) (f a.0, with_writer r s a.1) (f b.0, with_writer r s b.1)
  looked_put f r s m _ _ (Also a w v h) = Also (f a) _ _ (put_writer r s m h)

  pub ready_writer_keeps : (op : OpId) → Keeps c (λ r. ready_writer op r r.streams)
  ready_writer_keeps op = by_permit (λ r. ready_writer op r r.streams) (λ r s half p q m. same_give _ _ (look_ready op half p q) (looked_put (λ a. Ok (is_over a)) r s m))

  -- == what goes
  -- a writer whose permit is gone is the same
  pub wait_keeps : (op : OpId) → Keeps c (λ r. wait_writer op r r.streams)
  wait_keeps op = by_permit (λ r. wait_writer op r r.streams) (λ r s half p q m. itself same_with (wait_writer op (with_writer r s (Ready half p)) (with_writer r s (Ready half p)).streams))

  pub release_keeps : (op : OpId) → Keeps c (release_asks op)
  release_keeps op = by_permit (release_asks op) (λ r s half p q m. itself same_with (release_asks op (with_writer r s (Ready half p))))

  -- == a shutdown
  put_streams : {A B : Type 0} (b : B) (r : TcpRecord) → r.maker ≡ c → (x y : A × Streams) → With LikeStreams x y → With (LikeSocket c) (b, with_streams r x.1) (b, with_streams r y.1)
  put_streams b r m _ _ (Also a _ _ (SameStreams s)) = Also b _ _ (SameSocket _)
  put_streams b r m _ _ (Also a _ _ (OtherStreams s half p q)) = Also b _ _ (OtherPermit r s half p q m)

  pub shut_keeps : (op : OpId) (how : ShutdownType) → Keeps c (λ r. shut_record op how r r.streams)
  shut_keeps op how = by_permit (λ r. shut_record op how r r.streams) (λ r s half p q m. same_give _ _ (shut_permits op how s half p q) (put_streams (Ok tt) r m))

  -- == a turn
  pub turn_keeps : (r now : TcpRecord) → LikeSocket c r now → Same (LikeSocket c) (turn_record r) (turn_record now)
  unfolding bind
  turn_keeps _ _ (SameSocket r) = itself SameSocket (turn_record r)
  turn_keeps _ _ (OtherPermit r s half p q m) = BothGive _ _ (OtherPermit r s half p q m)

  -- which of them have a job is the same
  pub same_job : {f g : Option TcpRecord} → LikeFound c f g → has_job f ≡ has_job g
  same_job NoneFound = refl
  same_job (BothFound _ _ (SameSocket r)) = refl
  same_job (BothFound _ _ (OtherPermit r s half p q m)) = refl
