-- The calls of streams, of stores and of machines that are alike.
use Rattle.std.proofs.Common.{◌≡◌, refl, subst, Bool, true, false, ℕ, ◌==◌, [], ◌∷◌, ◌++◌, Option, Some, None, Result, Ok, Err}
use Rattle.std.proofs.lemmas.Bool.{eqb-true, eqb-false}
use Rattle.wasi_addr.specs.declared.code.ErrorCode.{ErrorCode}
use Rattle.wasi_world.specs.declared.ids.OpId.{OpId}
use Rattle.wasi_world.specs.Asks.{Asks, Give}
unfoldable use Rattle.wasi_world.specs.Asks.{bind}
use Rattle.wasi_streams.specs.StreamStop.{StreamStop}
use Rattle.wasi_streams.specs.StreamStop as stream
use Rattle.wasi_tcp.specs.Writer.{check_write_asks}
use Rattle.wasi_jobs.specs.declared.job.HostJob.{HostJob}
use Rattle.wasi_jobs.specs.declared.job.HostJob.TheVariants.{Write}
use Rattle.tcp_records.specs.declared.socket.TcpRecord.{TcpRecord}
use Rattle.tcp_records.specs.Halves.{begins_job, writer_asks}
use Rattle.record_common.specs.Stops.{Stop}
use Rattle.host_store.specs.declared.kind.Kind.TheVariants.{ErrorValue}
use Rattle.host_store.specs.declared.machine.Machine.{Machine}
use Rattle.host_store.specs.CallStops.{CallStop, Closed, Traps as CallTraps, Failed}
use Rattle.host_store.specs.Jobs.{noted, with_job, write_at}
use Rattle.host_store.specs.Kinds.{HandleTable}
use Rattle.host_store.specs.Limits.{check_record, most_of}
use Rattle.host_store.specs.Machine.{side_at, with_store, with_table}
use Rattle.host_store.specs.Store.{Records, stream_at, with_record_put}
use Rattle.host_streams.specs.StreamCalls.{convert_asks, converted, failed_made, stopped, stream_on, write_on}
use Rattle.wasi_limits.specs.Alike.{Alike, BothGive, Same, StopsAt, Stopped}
use Rattle.wasi_limits.proofs.Like.{LikeSocket, SameSocket, OtherPermit, LikeFound, NoneFound, BothFound, LikeStore, Stores, LikeMachine, Machines, With, Also, Gives, GiveOk, GiveErr, Traps}
use Rattle.wasi_limits.specs.Runs.{is_made_by, is_writer_of}
use Rattle.wasi_limits.proofs.Together.{itself, alike_then, same_give}
use Rattle.wasi_limits.proofs.Handles.{SameMade, Mades, make_like}
use Rattle.wasi_limits.proofs.Stores.{found_like, put_like}
use Rattle.wasi_limits.proofs.Totals.{same_most}
use Rattle.wasi_limits.proofs.Writers.{check_keeps, gives_same, same_job}

-- a call of streams, as the guest made it, traps
abbrev pub CallTrapIn : {T : Type 0} → Result T CallStop → Type 0
CallTrapIn (Ok value) = ⊥
CallTrapIn (Err (Failed code handle)) = ⊥
CallTrapIn (Err Closed) = ⊥
CallTrapIn (Err (CallTraps kind)) = Unit {0}

abbrev pub TrapsCall : {T X : Type 0} → Result T CallStop × X → Type 0
TrapsCall done = CallTrapIn done.0

-- of a writer of this context any number may be given
abbrev pub Counts : Bool → ℕ → ℕ → Type 0
Counts true a b = Unit {0}
Counts false a b = a ≡ b

module _ {T : Type 0} where
  trap_put : (store : Records) (place : ℕ) (a : Result T StreamStop × TcpRecord) → Traps a → StopsAt {A = Result T StreamStop × Records} Traps (Give (with_record_put store place a))
  trap_put store place a t = Stopped (with_record_put store place a) t

  trap_noted : (place : ℕ) (before : Option TcpRecord) (a : Result T StreamStop × Records) → Traps a → StopsAt {A = Result T StreamStop × Records} Traps (Give (noted place before a))
  trap_noted place before a t = Stopped (noted place before a) t

  -- a trap is one of the guest's call
  trap_converted : (m : Machine) (own : OpId) (handle place : ℕ) (a : Result T StreamStop × Records) → Traps a → StopsAt {A = Result T CallStop × Machine} TrapsCall (converted own handle place (with_store m a))
  unfolding bind
  trap_converted m own handle place (Ok value, store) t = absurd t
  trap_converted m own handle place (Err (stream.Failed code), store) t = absurd t
  trap_converted m own handle place (Err stream.Closed, store) t = absurd t
  trap_converted m own handle place (Err (stream.Trap kind), store) t = Stopped _ tt

module _ {c : ℕ} where
  -- a job that began
  job_like : {store other : Records} → LikeStore c store other → (job : HostJob) (a b : Bool) → a ≡ b → LikeStore c (with_job store job a) (with_job other job b)
  job_like l job true false e = absurd (cc)
  job_like l job false true e = absurd (cc)
  job_like (Stores records others jobs standing limits mosts is h k) job true true e = Stores records others (jobs ++ job ∷ []) standing limits mosts is h k
  job_like l job false false e = l

  same_begins : (a b x y : Option TcpRecord) → LikeFound c a b → LikeFound c x y → begins_job a x ≡ begins_job b y
  same_begins a b x y h k = rw (same_job h, same_job k) refl

  -- == the errors of calls that fail
  pub same_side : {f g : Option TcpRecord} → LikeFound c f g → side_at f ≡ side_at g
  same_side NoneFound = refl
  same_side (BothFound _ _ (SameSocket r)) = refl
  same_side (BothFound _ _ (OtherPermit r s half p q m)) = refl

module _ {c : ℕ} {T : Type 0} {P : T → T → Type 0} where
  given_put : {store other : Records} → LikeStore c store other → (place : ℕ) (a b : Result T StreamStop × TcpRecord) → Gives P (LikeSocket c) a b → Gives P (LikeStore c) (with_record_put store place a) (with_record_put other place b)
  given_put l place _ _ (GiveOk a b r now h k) = GiveOk a b _ _ h (put_like l place k)
  given_put l place _ _ (GiveErr e r now k) = GiveErr e _ _ (put_like l place k)

  -- a call on a stream of a record
  pub stream_like : {store other : Records} → LikeStore c store other → (place : ℕ) (call others : TcpRecord → Asks (Result T StreamStop × TcpRecord)) → ((r now : TcpRecord) → LikeSocket c r now → Alike Traps (Gives P (LikeSocket c)) (call r) (others now))
      → {f g : Option TcpRecord} → LikeFound c f g → Alike Traps (Gives P (LikeStore c)) (stream_at store place call f) (stream_at other place others g)
  stream_like l place call others k NoneFound = BothGive _ _ (GiveErr _ _ _ l)
  stream_like {store} {other} l place call others k (BothFound r now h) = alike_then (k r now h) (trap_put store place) (trap_put other place) (λ a b g. BothGive _ _ (given_put l place a b g))

  noted_like : {f g : Option TcpRecord} → LikeFound c f g → (place : ℕ) (a b : Result T StreamStop × Records) → Gives P (LikeStore c) a b → Gives P (LikeStore c) (noted place f a) (noted place g b)
  noted_like h place _ _ (GiveOk a b x y e k) = GiveOk a b _ _ e (job_like k (Write place) _ _ (same_begins _ _ _ _ h (found_like k place)))
  noted_like h place _ _ (GiveErr e x y k) = GiveErr e _ _ (job_like k (Write place) _ _ (same_begins _ _ _ _ h (found_like k place)))

  pub write_like : {store other : Records} → LikeStore c store other → (place : ℕ) (call others : TcpRecord → Asks (Result T StreamStop × TcpRecord)) → ((r now : TcpRecord) → LikeSocket c r now → Alike Traps (Gives P (LikeSocket c)) (call r) (others now))
      → {f g : Option TcpRecord} → LikeFound c f g → Alike Traps (Gives P (LikeStore c)) (write_at store place call f) (write_at other place others g)
  write_like l place call others k {f} {g} h = alike_then (stream_like l place call others k h) (trap_noted place f) (trap_noted place g) (λ a b d. BothGive _ _ (noted_like h place a b d))

module _ {c : ℕ} where
  -- the handle of an error is made alike
  failed_like : {m now : Machine} → LikeMachine c m now → (code : ErrorCode) (a b : Result ℕ Stop × HandleTable) → SameMade a b → With (LikeMachine c) (failed_made code (with_table m a)) (failed_made code (with_table now b))
  failed_like (Machines t store other all l) code _ _ (Mades made now a) = Also _ _ _ (Machines now store other a l)

  convert_like : (own : OpId) (handle place : ℕ) {m now : Machine} → LikeMachine c m now → (stop : StreamStop) → Same (With (LikeMachine c)) (convert_asks m own handle place stop) (convert_asks now own handle place stop)
  convert_like own handle place (Machines t store other all l) (stream.Failed code) = same_give _ _ (make_like t own ErrorValue (Some handle) _ _ (same_side (found_like l place)) all tt) (failed_like (Machines t store other all l) code)
  convert_like own handle place l stream.Closed = BothGive _ _ (Also _ _ _ l)
  convert_like own handle place l (stream.Trap kind) = BothGive _ _ (Also _ _ _ l)

  pub store_like : {A : Type 0} {m now : Machine} → LikeMachine c m now → (a b : A × Records) → With (LikeStore c) a b → With (LikeMachine c) (with_store m a) (with_store now b)
  store_like (Machines t store other all l) _ _ (Also a x y k) = Also a _ _ (Machines t x y all k)

module _ {c : ℕ} {T : Type 0} {P : T → T → Type 0} where
  stopped_like : (a b : CallStop × Machine) → With (LikeMachine c) a b → Gives {T = T} P (LikeMachine c) (stopped a) (stopped b)
  stopped_like _ _ (Also stop x y l) = GiveErr stop _ _ l

  converted_like : {m now : Machine} → LikeMachine c m now → (own : OpId) (handle place : ℕ) (a b : Result T StreamStop × Records) → Gives P (LikeStore c) a b → Alike TrapsCall (Gives P (LikeMachine c)) (converted own handle place (with_store m a)) (converted own handle place (with_store now b))
  converted_like (Machines t store other all l) own handle place _ _ (GiveOk a b x y e k) = BothGive _ _ (GiveOk a b _ _ e (Machines t x y all k))
  converted_like (Machines t store other all l) own handle place _ _ (GiveErr stop x y k) = same_give _ _ (convert_like own handle place (Machines t x y all k) stop) stopped_like

  -- the calls of a guest's streams
  pub stream_on_like : {m now : Machine} → LikeMachine c m now → (own : OpId) (handle : ℕ) (call others : TcpRecord → Asks (Result T StreamStop × TcpRecord)) → ((r now : TcpRecord) → LikeSocket c r now → Alike Traps (Gives P (LikeSocket c)) (call r) (others now))
      → (o : Option ℕ) → Alike TrapsCall (Gives P (LikeMachine c)) (stream_on m own handle call o) (stream_on now own handle others o)
  stream_on_like l own handle call others k None = BothGive _ _ (GiveErr _ _ _ l)
  stream_on_like (Machines t store other all l) own handle call others k (Some place) = alike_then (stream_like l place call others k (found_like l place)) (trap_converted (record { table = t; store = store }) own handle place) (trap_converted (record { table = t; store = other }) own handle place) (converted_like (Machines t store other all l) own handle place)

  pub write_on_like : {m now : Machine} → LikeMachine c m now → (own : OpId) (handle : ℕ) (call others : TcpRecord → Asks (Result T StreamStop × TcpRecord)) → ((r now : TcpRecord) → LikeSocket c r now → Alike Traps (Gives P (LikeSocket c)) (call r) (others now))
      → (o : Option ℕ) → Alike TrapsCall (Gives P (LikeMachine c)) (write_on m own handle call o) (write_on now own handle others o)
  write_on_like l own handle call others k None = BothGive _ _ (GiveErr _ _ _ l)
  write_on_like (Machines t store other all l) own handle call others k (Some place) = alike_then (write_like l place call others k (found_like l place)) (trap_converted (record { table = t; store = store }) own handle place) (trap_converted (record { table = t; store = other }) own handle place) (converted_like (Machines t store other all l) own handle place)

-- == a check
module _ {c : ℕ} where
  -- of a writer of this context any number is given; of another the same
  check_record_like : {store other : Records} → LikeStore c store other → (op : OpId) (r now : TcpRecord) → LikeSocket c r now → (b : Bool) → r.maker == c ≡ b → Alike Traps (Gives (Counts b) (LikeSocket c)) (check_record store op r) (check_record other op now)
  check_record_like {store} {other} l op r now h true e = check_keeps (most_of store r) (most_of other now) op r now h (eqb-true r.maker c e)
  check_record_like {store} {other} l op _ _ (SameSocket r) false e =
      let P : ℕ → Type 0 = λ n. Alike Traps (Gives (Counts false) (LikeSocket c)) (check_record store op r) (writer_asks (check_write_asks n op) r) in
      subst P (same_most l r (eqb-false r.maker c e)) (itself (gives_same (λ x. refl) SameSocket) (check_record store op r))
  check_record_like l op _ _ (OtherPermit r s half p q m) false e = absurd (eqb-false r.maker c e m)

  check_at_like : {store other : Records} → LikeStore c store other → (op : OpId) (place : ℕ) {f g : Option TcpRecord} → LikeFound c f g → Alike Traps (Gives (Counts (is_made_by c f)) (LikeStore c)) (stream_at store place (check_record store op) f) (stream_at other place (check_record other op) g)
  check_at_like l op place NoneFound = BothGive _ _ (GiveErr _ _ _ l)
  check_at_like {store} {other} l op place (BothFound r now h) = alike_then (check_record_like l op r now h (r.maker == c) refl) (trap_put store place) (trap_put other place) (λ a b g. BothGive _ _ (given_put l place a b g))

  pub check_on_like : {m now : Machine} → LikeMachine c m now → (own : OpId) (handle : ℕ) (o : Option ℕ) → Alike TrapsCall (Gives (Counts (is_writer_of c m o)) (LikeMachine c)) (stream_on m own handle (check_record m.store own) o) (stream_on now own handle (check_record now.store own) o)
  check_on_like l own handle None = BothGive _ _ (GiveErr _ _ _ l)
  check_on_like (Machines t store other all l) own handle (Some place) = alike_then (check_at_like l own place (found_like l place)) (trap_converted (record { table = t; store = store }) own handle place) (trap_converted (record { table = t; store = other }) own handle place) (converted_like (Machines t store other all l) own handle place)
