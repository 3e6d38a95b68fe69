-- What a splice that doesn't block is let write: what was read, once it is read.
use Rattle.wasi_laws.proofs.permits.Law.{NotOffer}
use Rattle.std.specs.Prelude.{min}
use Rattle.wasi_world.specs.declared.outcome.TrapKind.TheVariants.{NoSuchHandle}
use Rattle.host_store.specs.CallStops.{CallStop, Traps}
use Rattle.host_store.specs.Kinds.{is_readable, is_writable, kind_at}
use Rattle.host_store.specs.Machine.{input_at, output_at}
use Rattle.host_streams.specs.StreamCalls.{check_asks, read_asks, splice_asks, splice_checked, splice_read, splice_some, splice_when, spliced}
use Rattle.wasi_walks.proofs.walks.Calls.{check_asks_walks, read_asks_walks, reaching}
use Rattle.wasi_laws.proofs.Words.{Asks, Bool, Entry, Err, Give, Has, List, Machine, Ok, OpId, Option, Result, Step, WasiSocketsCtx, [], false, if◌then◌else◌, length, own_of, refl, suc, true, zero, ℕ, ◌&&◌, ◌∷◌, ◌≡◌}
use Rattle.wasi_laws.proofs.permits.Calls.{Ends, Gives, So, along, gone, none_lets, writes_last}
use Rattle.wasi_laws.proofs.permits.Lets.{lets_after}
use Rattle.wasi_laws.specs.Writes.{let_after, let_count, let_permitted, let_read, let_splice}

module _ (contexts : List WasiSocketsCtx) (side : OpId) (line : ℕ) (origin : Step) (no_offer : NotOffer origin) (n : ℕ) (handles : List ℕ) (to from : ℕ) (writes : Has handles to) (reads : Has handles from) where
  abbrev Before : List ℕ → List Entry → Option (ℕ × ℕ) → Machine → Type 0
  Before given es at m = So contexts side line origin n handles given es at m

  abbrev Along : {A : Type 0} → List ℕ → List Entry → (List Entry → List ℕ) → Asks (A × Machine) → Type 0
  Along given es more asks = Gives contexts side line origin given es more asks

  none : (given : List ℕ) (es : List Entry) (at : Option (ℕ × ℕ)) (done : Result ℕ CallStop × Machine) → Before given es at done.1 → Along given es (λ gs. []) (Give done)
  none given es at done i = gone contexts side line origin no_offer n handles given es at done i

  spliced_same : (count : ℕ) (done : Result (Unit {0}) CallStop × Machine) → (spliced count done).1 ≡ done.1
  spliced_same count (Ok done, m) = refl
  spliced_same count (Err stop, m) = refl

  read_lets : (given : List ℕ) (es : List Entry) (at : Option (ℕ × ℕ)) (read : Result (List ℕ) CallStop × Machine) → Before given es at read.1 → Along given es (let_read side to read) (splice_read (own_of n) to read)
  read_lets given es at (Ok [], m) i = let done : Result ℕ CallStop × Machine = (Ok 0, m) in none_lets contexts side line origin given es m to (Give done) (none given es at done i)
  read_lets given es at (Ok (b ∷ bytes), m) i = writes_last contexts side line origin no_offer n handles given es at m to writes (b ∷ bytes) i (spliced (length (b ∷ bytes))) (spliced_same (length (b ∷ bytes)))
  read_lets given es at (Err stop, m) i = none given es at (Err stop, m) i

  count_lets : (given : List ℕ) (es : List Entry) (at : Option (ℕ × ℕ)) (m : Machine) (count : ℕ) → Before given es at m → Along given es (let_count side (own_of n) to from m count) (splice_some (own_of n) to from m count)
  count_lets given es at m zero i = none given es at (Ok 0, m) i
  count_lets given es at m (suc count) i =
      let now = reaching at n (input_at m from) in
      lets_after side (Ends contexts side line origin) (λ fs read. Before given fs now read.1) (let_read side to) given es (read_asks m (own_of n) from (suc count)) (λ read. splice_read (own_of n) to read)
      (along contexts side line origin no_offer given (read_asks_walks m from reads (suc count)) es i) (λ fs read j. read_lets given fs now read j)

  permit_lets : (len : ℕ) (given : List ℕ) (es : List Entry) (at : Option (ℕ × ℕ)) (checked : Result ℕ CallStop × Machine) → Before given es at checked.1 → Along given es (let_permitted (let_count side (own_of n) to from) len checked) (splice_checked (own_of n) to from len checked)
  permit_lets len given es at (Ok permit, m) i = count_lets given es at m (min permit len) i
  permit_lets len given es at (Err stop, m) i = none given es at (Err stop, m) i

  when_lets : (given : List ℕ) (es : List Entry) (at : Option (ℕ × ℕ)) (m : Machine) (len : ℕ) (writable readable : Bool) → Before given es at m
      → Along given es (λ gs. if writable && readable then let_after (check_asks m (own_of n) to) (let_permitted (let_count side (own_of n) to from) len) gs else []) (splice_when m (own_of n) to from len writable readable)
  when_lets given es at m len true true i =
      let now = reaching at n (output_at m to) in
      lets_after side (Ends contexts side line origin) (λ fs checked. Before given fs now checked.1) (let_permitted (let_count side (own_of n) to from) len) given es (check_asks m (own_of n) to) (λ checked. splice_checked (own_of n) to from len checked)
      (along contexts side line origin no_offer given (check_asks_walks m to writes) es i) (λ fs checked j. permit_lets len given fs now checked j)
  when_lets given es at m len true false i = none given es at (Err (Traps NoSuchHandle), m) i
  when_lets given es at m len false readable i = none given es at (Err (Traps NoSuchHandle), m) i

  pub splice_lets : (given : List ℕ) (es : List Entry) (at : Option (ℕ × ℕ)) (m : Machine) (len : ℕ) → Before given es at m → Along given es (let_splice side m (own_of n) to from len) (splice_asks m (own_of n) to from len)
  splice_lets given es at m len i = when_lets given es at m len (is_writable (kind_at m.table to)) (is_readable (kind_at m.table from)) i
