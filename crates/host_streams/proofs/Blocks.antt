-- The trees of calls of streams, where a number or the bytes are known to be none or some.
use Rattle.std.specs.Prelude.{◌≡◌, ℕ, zero, suc, ◌-◌, min, Bool, true, false, List, [], ◌∷◌, length, take, drop, Result, Ok, Err, IsErrAnd, refl}
use Rattle.std.specs.declared.alloc.AllocError.{AllocError}
use Rattle.std.proofs.Common.{ap, sym, subst, arith}
use Rattle.std.proofs.lemmas.Bool.{ne_eqb}
use Rattle.wasi_world.specs.declared.ids.OpId.{OpId}
use Rattle.wasi_world.specs.declared.ids.Ids.{Ids}
use Rattle.wasi_world.specs.declared.outcome.Answer.{Answer}
use Rattle.wasi_world.specs.declared.outcome.Answer.TheVariants.{Ready}
use Rattle.wasi_world.specs.Asks.{Asks, Give, bind, AsksFor}
use Rattle.wasi_world.specs.Seen.{Seen}
use Rattle.wasi_world.proofs.Walks.{reaches_all, reaches_in, asks_end, asks_err}
use Rattle.host_store.specs.declared.store.BlockingCall.TheVariants.{Read, Skip}
use Rattle.host_store.specs.declared.error.CallError.{CallError}
use Rattle.host_store.specs.declared.error.CallError.TheVariants as call
use Rattle.host_store.specs.declared.machine.Machine.{Machine}
use Rattle.host_streams.specs.Blocking.{Blocked, Again, waits_as, looked, look_asks, read_answer, skip_answer, flush_checked, last_checked, write_ended, write_rounds, round_checked, round_written, splice_count, splice_looked, splice_given, splice_written, splice_permitted, write_told}
use Rattle.wasi_streams.specs.declared.fault.Fault.{Fault}
use Rattle.wasi_streams.specs.declared.fault.Fault.TheVariants as fault
use Rattle.record_common.specs.Stops.{Stop, fault_outcome}
use Rattle.host_store.specs.CallStops.{CallStop, Closed, Failed, Traps, call_outcome, call_fault}
use Rattle.host_store.specs.Store.{Records}
use Rattle.record_common.specs.Names.{own_of}
use Rattle.host_streams.specs.StreamCalls.{splice_some, splice_read, spliced, check_asks, read_asks, write_asks}

-- == errors
call_memory : {T : Type 0} {d : AllocError} (r : Result T CallError) → IsErrAnd r (λ x. x ≡ call.Memory d) → call_outcome r ≡ Err d
call_memory (Ok x) h = absurd h
call_memory (Err x) h = ap (λ (y : CallError). call_outcome (Err y)) h

-- out of memory before the first ask
pub call_none : {A T : Type 0} {asks : Asks A} {s t : Seen} {view : Result T CallStop → A} {d : AllocError} (r : Result T CallError) → IsErrAnd r (λ x. x ≡ call.Memory d) → t ≡ s → AsksFor asks s t view (call_outcome r)
call_none {asks} {s} {t} r h e = rw (call_memory r h) (asks_err asks (rw e (reaches_all asks s)))

-- an error that is passed on by a `?`
pub call_passed : {A B T U : Type 0} {asks : Asks A} (f : A → Asks B) {s t : Seen} {view : Result T CallStop → A} {shown : Result U CallStop → B} (x : CallError) (r : Result U CallError) → IsErrAnd r (λ y. y ≡ x) → AsksFor asks s t view (call_outcome {T = T} (Err x)) → ((stop : CallStop) → f (view (Err stop)) ≡ Give (shown (Err stop))) → AsksFor (bind asks f) s t shown (call_outcome r)
call_passed f x (Ok y) h k e = absurd h
call_passed {asks} f {s} {t} {shown} (call.Failed c n) (Err y) h k e = let P : CallError → Type 0 = λ z. AsksFor (bind asks f) s t shown (call_outcome (Err z)) in subst P (sym h) (asks_end f k.ok (e (Failed c n)))
call_passed {asks} f {s} {t} {shown} call.Closed (Err y) h k e = let P : CallError → Type 0 = λ z. AsksFor (bind asks f) s t shown (call_outcome (Err z)) in subst P (sym h) (asks_end f k.ok (e Closed))
call_passed {asks} f {s} {t} {shown} (call.Trap kind) (Err y) h k e = let P : CallError → Type 0 = λ z. AsksFor (bind asks f) s t shown (call_outcome (Err z)) in subst P (sym h) (asks_end f k.ok (e (Traps kind)))
call_passed {asks} f {s} {t} {shown} (call.Memory d) (Err y) h k e =
    let P : CallError → Type 0 = λ z. AsksFor (bind asks f) s t shown (call_outcome (Err z)) in
    subst P (sym h) (asks_err (bind k.err.rest f) (reaches_in f k.err.reached))

-- the error of a call that is the end of a write
pub call_ended : {A T : Type 0} {asks : Asks A} (f : A → Asks (Blocked (Unit {0}))) {s t : Seen} {view : Result T CallStop → A} (m : Machine) (x : CallError) (r : Result (Answer (Unit {0})) CallError) → call_outcome r ≡ write_told x → AsksFor asks s t view (call_outcome {T = T} (Err x)) → ((stop : CallStop) → f (view (Err stop)) ≡ Give (write_ended stop m)) → AsksFor (bind asks f) s t (λ y. (y, m)) (call_outcome r)
call_ended f m (call.Failed c n) r h k e = rw h (asks_end f k.ok (e (Failed c n)))
call_ended f m call.Closed r h k e = rw h (asks_end f k.ok (e Closed))
call_ended f m (call.Trap kind) r h k e = rw h (asks_end f k.ok (e (Traps kind)))
call_ended f m (call.Memory d) r h k e = rw h (asks_err (bind k.err.rest f) (reaches_in f k.err.reached))

-- the error of a look at an input
pub look_failed : (m : Machine) {asks : Asks (Result Bool Stop × Records)} {store : Records} {s t : Seen} (x : Fault) (r : Result Bool CallError) → IsErrAnd r (λ y. y ≡ call_fault x) → AsksFor asks s t (λ z. (z, store)) (fault_outcome {T = Bool} (Err x))
    → AsksFor (bind asks (λ done. Give (looked m done))) s t (λ y. let after : Machine = record m { store = store } in (y, after)) (call_outcome r)
look_failed m x (Ok y) h k = absurd h
look_failed m {asks} {store} {s} {t} (fault.Trap kind) (Err y) h k =
    let P : CallError → Type 0 = λ z. AsksFor (bind asks (λ done. Give (looked m done))) s t (λ y. let after : Machine = record m { store = store } in (y, after)) (call_outcome (Err z)) in
    subst P (sym h) (asks_end _ k.ok refl)
look_failed m {asks} {store} {s} {t} (fault.Memory d) (Err y) h k =
    let P : CallError → Type 0 = λ z. AsksFor (bind asks (λ done. Give (looked m done))) s t (λ y. let after : Machine = record m { store = store } in (y, after)) (call_outcome (Err z)) in
    subst P (sym h) (asks_err (bind k.err.rest _) (reaches_in _ k.err.reached))

-- == numbers and bytes
pub never : (b : Bool) → b ≡ true → b ≡ false → ⊥
never true p q = absurd (cc)
never false p q = absurd (cc)

module _ (own : OpId) (to from : ℕ) where
  pub some_count : (m : Machine) (n : ℕ) → (n ≡ 0 → ⊥) → splice_some own to from m n ≡ bind (read_asks m own from n) (λ read. splice_read own to read)
  some_count m zero k = absurd (k refl)
  some_count m (suc n) k = refl

  pub read_some : (m : Machine) (bytes : List ℕ) → (bytes ≡ [] → ⊥) → splice_read own to (Ok bytes, m) ≡ bind (write_asks m own to bytes) (λ done. Give (spliced (length bytes) done))
  read_some m [] k = absurd (k refl)
  read_some m (b ∷ bytes) k = refl

module _ (ids : Ids) where
  pub read_none : (input len : ℕ) (bytes : List ℕ) (m : Machine) → len ≡ 0 → read_answer ids input len (Ok bytes, m) ≡ (Ok (Ready bytes), m)
  read_none input len [] m e = rw e refl
  read_none input len (b ∷ bytes) m e = refl

  pub read_waits : (input len : ℕ) (bytes : List ℕ) (m : Machine) → (len ≡ 0 → ⊥) → bytes ≡ [] → read_answer ids input len (Ok bytes, m) ≡ waits_as ids (Read input len) m
  read_waits input zero bytes m k e = absurd (k refl)
  read_waits input (suc n) bytes m k e = rw (e, ne_eqb (suc n) 0 k) refl

  pub read_gives : (input len : ℕ) (bytes : List ℕ) (m : Machine) → (bytes ≡ [] → ⊥) → read_answer ids input len (Ok bytes, m) ≡ (Ok (Ready bytes), m)
  read_gives input len [] m k = absurd (k refl)
  read_gives input len (b ∷ bytes) m k = refl

  pub skip_none : (input len n : ℕ) (m : Machine) → len ≡ 0 → skip_answer ids input len (Ok n, m) ≡ (Ok (Ready n), m)
  skip_none input len zero m e = rw e refl
  skip_none input len (suc n) m e = refl

  pub skip_waits : (input len n : ℕ) (m : Machine) → (len ≡ 0 → ⊥) → n ≡ 0 → skip_answer ids input len (Ok n, m) ≡ waits_as ids (Skip input len) m
  skip_waits input zero n m k e = absurd (k refl)
  skip_waits input (suc l) n m k e = rw (e, ne_eqb (suc l) 0 k) refl

  pub skip_gives : (input len n : ℕ) (m : Machine) → (n ≡ 0 → ⊥) → skip_answer ids input len (Ok n, m) ≡ (Ok (Ready n), m)
  skip_gives input len zero m k = absurd (k refl)
  skip_gives input len (suc n) m k = refl

  pub flush_gives : (output n : ℕ) (m : Machine) → (n ≡ 0 → ⊥) → flush_checked ids output (Ok n, m) ≡ (Ok (Ready tt), m)
  flush_gives output zero m k = absurd (k refl)
  flush_gives output (suc n) m k = refl

  pub last_gives : (output n : ℕ) (m : Machine) → (n ≡ 0 → ⊥) → last_checked ids output (Ok n, m) ≡ (Ok (Ready tt), m)
  last_gives output zero m k = absurd (k refl)
  last_gives output (suc n) m k = refl

  pub rounds_some : (output : ℕ) (m : Machine) (rest : List ℕ) (k : ℕ) → (k ≡ 0 → ⊥) → write_rounds k ids output m rest ≡ bind (check_asks m (own_of ids.line) output) (λ checked. round_checked ids output (write_rounds (k - 1) ids output) rest checked)
  rounds_some output m rest zero e = absurd (e refl)
  rounds_some output m rest (suc k) e =
      let p : k ≡ suc k - 1 = omega arith in
      ap (λ (n : ℕ). bind (check_asks m (own_of ids.line) output) (λ checked. round_checked ids output (write_rounds n ids output) rest checked)) p

  pub checked_some : (output : ℕ) (again : Again) (rest : List ℕ) (n : ℕ) (m : Machine) → (n ≡ 0 → ⊥) → round_checked ids output again rest (Ok n, m) ≡ bind (write_asks m (own_of ids.line) output (take n rest)) (λ done. round_written ids output again (drop n rest) done)
  checked_some output again rest zero m k = absurd (k refl)
  checked_some output again rest (suc n) m k = refl

  pub written_some : (output : ℕ) (again : Again) (rest : List ℕ) (m : Machine) → (rest ≡ [] → ⊥) → round_written ids output again rest (Ok tt, m) ≡ again m rest
  written_some output again [] m k = absurd (k refl)
  written_some output again (b ∷ rest) m k = refl

  pub written_fails : (output : ℕ) (again : Again) (rest : List ℕ) (m : Machine) (stop : CallStop) → round_written ids output again rest (Err stop, m) ≡ Give (Err stop, m)
  written_fails output again [] m stop = refl
  written_fails output again (b ∷ rest) m stop = refl

  pub permitted_some : (to from len n : ℕ) (m : Machine) → (n ≡ 0 → ⊥) → splice_permitted ids to from len (Ok n, m) ≡ splice_count ids to from len m (min n len)
  permitted_some to from len zero m k = absurd (k refl)
  permitted_some to from len (suc n) m k = refl

  pub counted_some : (to from len n : ℕ) (m : Machine) → (n ≡ 0 → ⊥) → splice_count ids to from len m n ≡ bind (look_asks m (own_of ids.line) from) (λ ready. splice_looked ids to from len n ready)
  counted_some to from len zero m k = absurd (k refl)
  counted_some to from len (suc n) m k = refl

  pub given_some : (to from len : ℕ) (bytes : List ℕ) (m : Machine) → (bytes ≡ [] → ⊥) → splice_given ids to from len (Ok bytes, m) ≡ bind (write_asks m (own_of ids.line) to bytes) (λ done. Give (splice_written (length bytes) done))
  given_some to from len [] m k = absurd (k refl)
  given_some to from len (b ∷ bytes) m k = refl
