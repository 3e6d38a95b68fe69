-- What was taken and what was permitted, by the network socket that a record was made with.
use Rattle.wasi_tcp.specs.declared.socket.TcpState.{TcpState}
use Rattle.wasi_tcp.specs.declared.socket.TcpState.TheVariants as state
use Rattle.wasi_tcp.specs.declared.writer.WriteState.TheVariants as writing
use Rattle.wasi_world.specs.declared.outcome.Answer.{Answer}
use Rattle.wasi_world.specs.declared.outcome.Answer.TheVariants.{Ready, Pending}
use Rattle.wasi_laws.proofs.Words.{◌≡◌, ◌⊎◌, inl, inr, ℕ, List, [], ◌∷◌, ◌++◌, Option, Some, None, sym, ap, subst, ◌∙◌, ◌<◌, Ok, Err, Result, refl, arith, ⊤, OpId, Item, End, Waits, Done, Refused, WriteState, IsFrontOf, bytes_left, Streams, TcpRecord, Entry, bind, told_ready, Write, StreamStop, Job, then_closed, written_by, closed_by, collected, look_in, look_asks, permitted, check_write_asks, Quiet, quiet_then, WriterMoves, Collects, Permits, Lasts, LastsAfter}
use Rattle.wasi_laws.proofs.shapes.Shape.{some_same, Lives}
use Rattle.wasi_records.specs.Numbered.{record_gone}
use Rattle.wasi_records.specs.Records.{tcp2_at, tcp2_of, tcp2_put, tcp2_pushed}
use Rattle.std.proofs.Common.{Bool, true, false, ◌==◌, eqb-true}
use Rattle.std.proofs.lemmas.Bool.{eq-eqb}
use Rattle.wasi_walks.proofs.GoneLists.{stays_there, was_there}
use Rattle.wasi_records.specs.declared.records.Record.{Record}
use Rattle.wasi_walks.proofs.Places.{push_new, push_still, put_finds, put_found, put_stays, tcp_sort}

-- what was taken, with what a job is still to write, is what was permitted; after a code it is the front, of any length
abbrev pub JobAgrees : List ℕ → List ℕ → List Item → End → Type 0
JobAgrees taken permitted left Waits = taken ++ bytes_left left ≡ permitted
JobAgrees taken permitted left (Done given) = taken ≡ permitted
JobAgrees taken permitted left (Refused c given) = ⊤

-- of a half that is ready all was taken
abbrev pub Agrees : List ℕ → List ℕ → WriteState → Type 0
Agrees taken permitted (writing.Ready half permit) = taken ≡ permitted
Agrees taken permitted (writing.Writing job) = JobAgrees taken permitted job.write.left job.end
Agrees taken permitted (writing.Closing job) = JobAgrees taken permitted job.write.left job.end
Agrees taken permitted (writing.Closed e) = ⊤

-- nothing was taken, and nothing permitted
abbrev pub Untouched : List ℕ → List ℕ → Type 0
Untouched taken permitted = (taken ≡ []) × (permitted ≡ [])

-- with no streams yet there is nothing
abbrev pub Agree : List ℕ → List ℕ → Option Streams → Type 0
Agree taken permitted None = Untouched taken permitted
Agree taken permitted (Some s) = Agrees taken permitted s.writer

-- the sending half isn't taken yet
abbrev pub IsFree : TcpState → Type 0
IsFree (state.Connected c) = c.send_taken ≡ false
IsFree _ = ⊤

-- and then all was taken
abbrev pub AgreeIn : List ℕ → List ℕ → TcpRecord → Type 0
AgreeIn taken permitted r = Agree taken permitted r.streams × (IsFree r.inner.state → taken ≡ permitted)

module _ (side : OpId) where
  pub record MadeWith (records : List Record) : Type 0 where
    pub place : ℕ
    pub was : TcpRecord
    pub at : tcp2_at records place ≡ Some was
    pub of : was.side ≡ Some side

  -- What was taken is a prefix of what was permitted: nothing, until a record is made with the network socket, and then as that
  -- record says, until that is given back and it is over.
  pub record Agreeing (over : Type 0) (taken permitted : List ℕ) (records : List Record) : Type 0 where
    pub front : IsFrontOf taken permitted
    pub made : Untouched taken permitted ⊎ (MadeWith records ⊎ over)
    pub lives : (i : ℕ) (r : TcpRecord) → tcp2_at records i ≡ Some r → Lives side r → AgreeIn taken permitted r

  -- where it is over says another fact
  pub agrees_over : {over now : Type 0} (taken permitted : List ℕ) (records : List Record) → (over → now) → Agreeing over taken permitted records → Agreeing now taken permitted records
  agrees_over taken permitted records f h = record { front = h.front; made = elim h.made [ inl u ↦ inl u | inr m ↦ inr (elim m [ inl w ↦ inl w | inr o ↦ inr (f o) ]) ]; lives = h.lives }

  module _ (records : List Record) (place : ℕ) (old now : TcpRecord) (g : tcp2_at records place ≡ Some old) (s : now.side ≡ old.side) where
    made_put : MadeWith records → MadeWith (tcp2_put records place now)
    made_put m = elim (put_stays tcp_sort records place now m.place m.was m.at) [
      | inl e ↦ record { place = m.place; was = m.was; at = e; of = m.of }
      | inr e ↦ record { place = m.place; was = now; at = e.1; of = s ∙ (ap (λ (r : TcpRecord). r.side) (some_same old m.was (sym g ∙ (ap (tcp2_at records) (sym e.0) ∙ m.at))) ∙ m.of) }
    ]

  module _ {over : Type 0} (records : List Record) (place : ℕ) (old now : TcpRecord) (g : tcp2_at records place ≡ Some old) (s : now.side ≡ old.side) where
    pub agrees_put : (taken permitted : List ℕ) → (Lives side now → AgreeIn taken permitted now) → Agreeing over taken permitted records → Agreeing over taken permitted (tcp2_put records place now)
    agrees_put taken permitted f h = record {
      front = h.front;
      made = elim h.made [ inl u ↦ inl u | inr m ↦ inr (elim m [ inl w ↦ inl (made_put records place old now g s w) | inr o ↦ inr o ]) ];
      lives = λ i r e. elim (put_found tcp_sort records place now i r e) [ inl p ↦ subst (λ (x : TcpRecord). Lives side x → AgreeIn taken permitted x) p.1 f | inr p ↦ h.lives i r p ];
    }

    -- the record of the network socket changes, and with it what was taken and permitted
    pub agrees_moved : (taken permitted more bytes : List ℕ) → now.side ≡ Some side → ((i : ℕ) (r : TcpRecord) → tcp2_at records i ≡ Some r → r.side ≡ Some side → i ≡ place) → IsFrontOf more bytes → AgreeIn more bytes now → Agreeing over taken permitted records → Agreeing over more bytes (tcp2_put records place now)
    agrees_moved taken permitted more bytes its one front f h = record {
      front = front;
      made = inr (inl (made_put records place old now g s (record { place = place; was = old; at = g; of = sym s ∙ its })));
      lives = λ i r e l. elim (put_found tcp_sort records place now i r e) [
        | inl p ↦ subst (λ (x : TcpRecord). AgreeIn more bytes x) p.1 f
        | inr p ↦ (let at = ap (tcp2_at (tcp2_put records place now)) (one i r p l.0) ∙ put_finds tcp_sort records place old now g in subst (λ (x : TcpRecord). AgreeIn more bytes x) (some_same now r (sym at ∙ e)) f)
      ];
    }

  -- a record more: where it is of the network socket, no other is
  pub agrees_push : {over : Type 0} (taken permitted : List ℕ) (records : List Record) (now : TcpRecord) → (now.side ≡ Some side → (i : ℕ) (r : TcpRecord) → tcp2_at records i ≡ Some r → r.side ≡ Some side → ⊥) → (now.side ≡ Some side → over → ⊥)
      → (Untouched taken permitted → AgreeIn taken permitted now) → Agreeing over taken permitted records → Agreeing over taken permitted (tcp2_pushed records now)
  agrees_push {over} taken permitted records now fresh ended f h = record {
    front = h.front;
    made = elim h.made [ inl u ↦ inl u | inr m ↦ inr (elim m [ inl w ↦ inl (record { place = w.place; was = w.was; at = push_still tcp_sort tcp_sort records now w.place w.was w.at; of = w.of }) | inr o ↦ inr o ]) ];
    lives = λ i r e l. elim (push_new tcp_sort records now i r e) [ inl p ↦ h.lives i r p l | inr p ↦ subst (λ (x : TcpRecord). AgreeIn taken permitted x) p (f (untouched (ap (λ (x : TcpRecord). x.side) p ∙ l.0) h.made)) ];
  }
    where
      untouched : now.side ≡ Some side → Untouched taken permitted ⊎ (MadeWith records ⊎ over) → Untouched taken permitted
      untouched its (inl u) = u
      untouched its (inr (inl w)) = absurd (fresh its w.place w.was w.at w.of)
      untouched its (inr (inr o)) = absurd (ended its o)

  -- the sockets of other records are the same ones
  pub agrees_beside : {over : Type 0} (taken permitted : List ℕ) (records now : List Record) → ((i : ℕ) (r : TcpRecord) → tcp2_at now i ≡ Some r → tcp2_at records i ≡ Some r) → ((i : ℕ) (r : TcpRecord) → tcp2_at records i ≡ Some r → tcp2_at now i ≡ Some r) → Agreeing over taken permitted records → Agreeing over taken permitted now
  agrees_beside taken permitted records now back there h = record {
    front = h.front;
    made = elim h.made [ inl u ↦ inl u | inr m ↦ inr (elim m [ inl w ↦ inl (record { place = w.place; was = w.was; at = there w.place w.was w.at; of = w.of }) | inr o ↦ inr o ]) ];
    lives = λ i r e l. h.lives i r (back i r e) l;
  }

  -- a record is given back: where it was that of the network socket, it is over
  pub agrees_fewer : {over : Type 0} (taken permitted : List ℕ) (records : List Record) (place : ℕ) → ((r : TcpRecord) → tcp2_at records place ≡ Some r → r.side ≡ Some side → over) → Agreeing over taken permitted records → Agreeing over taken permitted (record_gone records place)
  agrees_fewer {over} taken permitted records place ends h = record {
    front = h.front;
    made = elim h.made [ inl u ↦ inl u | inr m ↦ inr (elim m [ inl w ↦ by_place w (w.place == place) refl | inr o ↦ inr o ]) ];
    lives = λ i r e l. h.lives i r (was_there tcp2_of refl records place i r e) l;
  }
    where
      by_place : (w : MadeWith records) (b : Bool) → (w.place == place) ≡ b → MadeWith (record_gone records place) ⊎ over
      by_place w true e = inr (ends w.was (ap (tcp2_at records) (sym (eqb-true w.place place e)) ∙ w.at) w.of)
      by_place w false e = inl (record { place = w.place; was = w.was; at = stays_there tcp2_of records place w.place w.was (λ same. (let p : (w.place == place) ≡ true = eq-eqb w.place place same in cc)) w.at; of = w.of })

module _ (taken bytes : List ℕ) where
  written_agrees : (job : Job) (e : End) → job.end ≡ e → JobAgrees taken bytes job.write.left job.end → Agrees taken bytes (written_by job e)
  written_agrees job Waits p h = h
  written_agrees job (Done given) p h = subst (JobAgrees taken bytes job.write.left) p h
  written_agrees job (Refused c given) p h = tt

  closed_agrees : (job : Job) (e : End) → JobAgrees taken bytes job.write.left job.end → Agrees taken bytes (closed_by job e)
  closed_agrees job Waits h = h
  closed_agrees job _ h = tt

  pub collected_agrees : (w : WriteState) → Agrees taken bytes w → Agrees taken bytes (collected w)
  collected_agrees (writing.Ready half permit) h = h
  collected_agrees (writing.Writing job) h = written_agrees job job.end refl h
  collected_agrees (writing.Closing job) h = closed_agrees job job.end h
  collected_agrees (writing.Closed e) h = h

  -- a job that is to close its half has the same bytes to write
  bytes_closed : (items : List Item) → bytes_left (then_closed items) ≡ bytes_left items
  bytes_closed [] = refl
  bytes_closed (Write rest ∷ items) = refl
  bytes_closed (_ ∷ items) = refl

  same_bytes : (left now : List Item) (e : End) → bytes_left now ≡ bytes_left left → JobAgrees taken bytes left e → JobAgrees taken bytes now e
  same_bytes left now Waits p h = ap (λ more. taken ++ more) p ∙ h
  same_bytes left now (Done given) p h = h
  same_bytes left now (Refused c given) p h = h

  pub writer_agrees : {most : ℕ} (w now : WriteState) → WriterMoves most w now → Agrees taken bytes w → Agrees taken bytes now
  writer_agrees w _ (Collects _) h = collected_agrees w h
  writer_agrees _ _ (Permits half old n fits) h = h
  writer_agrees _ _ (Lasts job) h = h
  writer_agrees _ _ (LastsAfter job) h = same_bytes job.write.left (then_closed job.write.left) job.end (bytes_closed job.write.left) h
  writer_agrees w _ _ h = tt

  -- == a look: where it is ready all was taken
  abbrev SaysReady : Result (Answer (Unit {0})) StreamStop → Type 0
  SaysReady (Ok (Ready done)) = taken ≡ bytes
  SaysReady (Ok Pending) = ⊤
  SaysReady (Err why) = ⊤

  says_ready : (a : Answer (Unit {0})) → taken ≡ bytes → SaysReady (Ok a)
  says_ready (Ready done) h = h
  says_ready Pending h = tt

  looked : (es : List Entry) (op : OpId) (w : WriteState) → Agrees taken bytes w → Quiet (λ done. SaysReady done.0) es (look_in op w)
  unfolding bind
  looked es op (writing.Ready half permit) h = (tt, λ t fits. says_ready (told_ready t) h)
  looked es op _ h = tt

  -- == a check-write: where it permits something, all was taken
  abbrev pub SaysAll : Result ℕ StreamStop → Type 0
  SaysAll (Ok n) = 0 < n → taken ≡ bytes
  SaysAll (Err why) = ⊤

  checked : (most : ℕ) (done : Result (Answer (Unit {0})) StreamStop × WriteState) → SaysReady done.0 → SaysAll (permitted most done).0
  checked most (Ok (Ready done), now) k = λ n. k
  checked most (Ok Pending, now) k = λ n. absurd (omega (arith, n))
  checked most (Err why, now) k = tt

  pub quiet_check : (most : ℕ) (es : List Entry) (op : OpId) (w : WriteState) → Agrees taken bytes w → Quiet (λ done. SaysAll done.0) es (check_write_asks most op w)
  quiet_check most es op w h = quiet_then (λ done. SaysReady done.0) (λ done. SaysAll done.0) es (look_asks op w) _ (looked es op (collected w) (collected_agrees w h)) (λ fs done k. checked most done k)
