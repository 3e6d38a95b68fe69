-- What the calls that block are let write: a splice what was read, and a write, in rounds, as much as is permitted.
use Rattle.wasi_laws.proofs.permits.Law.{NotOffer}
use Rattle.std.specs.Prelude.{min}
use Rattle.wasi_world.specs.declared.ids.Ids.{Ids}
use Rattle.wasi_world.specs.declared.outcome.Answer.TheVariants.{Ready}
use Rattle.wasi_world.specs.declared.outcome.TrapKind.TheVariants.{NoSuchHandle, TooLong}
use Rattle.wasi_streams.specs.Streams.{zeros}
use Rattle.host_streams.specs.Blocking.{Again, Blocked, blocking_splice_asks, blocking_splice_when, blocking_write_asks, blocking_zeroes_asks, look_asks, round_checked, round_written, splice_count, splice_given, splice_looked, splice_permitted, splice_written, stops, waits_as, write_rest_asks, write_rounds, write_when, zeroes_when}
use Rattle.host_store.specs.CallStops.{CallStop, Traps}
use Rattle.host_store.specs.Kinds.{is_readable, is_writable, kind_at}
use Rattle.host_store.specs.Machine.{input_at, output_at}
use Rattle.host_streams.specs.StreamCalls.{check_asks, read_asks, write_asks}
use Rattle.host_store.specs.declared.store.BlockingCall.TheVariants.{Splice, Write}
use Rattle.wasi_walks.proofs.walks.Blocking.{finish_walks, waits_walks}
use Rattle.wasi_walks.proofs.walks.Calls.{check_asks_walks, look_asks_walks, read_asks_walks, reaching}
use Rattle.wasi_laws.proofs.Words.{Asks, Bool, Entry, Err, Give, List, Machine, Ok, OpId, Option, Result, Step, WasiSocketsCtx, [], ap, arith, drop, false, if◌then◌else◌, inl, inr, length, nat_lt, not, own_of, refl, suc, sym, take, true, zero, ℕ, ◌&&◌, ◌++◌, ◌∷◌, ◌≡◌}
use Rattle.wasi_laws.proofs.permits.Calls.{Ends, Gives, So, along, gone, none_lets, over, write_lets, writes_last}
use Rattle.wasi_laws.proofs.permits.Lets.{lets_after, lets_same, lets_writes}
use Rattle.wasi_laws.specs.Writes.{LetAgain, let_after, let_all, let_blocking_count, let_blocking_splice, let_blocking_write, let_looked, let_permitted, let_read, let_rest, let_round, let_rounds, let_write}

none_permitted : (len : ℕ) → min 0 len ≡ 0
none_permitted len = omega arith

module _ (contexts : List WasiSocketsCtx) (side : OpId) (line : ℕ) (origin : Step) (no_offer : NotOffer origin) (ids : Ids) where
  abbrev own : OpId
  own = own_of ids.line

  module _ {A : Type 0} where
    -- such bytes are let write along the tree
    abbrev Along : List ℕ → List Entry → (List Entry → List ℕ) → Asks (Blocked A) → Type 0
    Along given es more asks = Gives contexts side line origin given es more asks

  -- == a splice
  module _ (to from len : ℕ) where
    abbrev Before : List ℕ → List Entry → Option (ℕ × ℕ) → Machine → Type 0
    Before given es at m = So contexts side line origin ids.line (to ∷ from ∷ []) given es at m

    none : (given : List ℕ) (es : List Entry) (at : Option (ℕ × ℕ)) (done : Blocked ℕ) → Before given es at done.1 → Along given es (λ gs. []) (Give done)
    none given es at done i = gone contexts side line origin no_offer ids.line (to ∷ from ∷ []) given es at done i

    -- it is pending
    waits : (given : List ℕ) (es : List Entry) (at : Option (ℕ × ℕ)) (m : Machine) → Before given es at m → (let done : Blocked ℕ = waits_as ids (Splice to from len) m in Along given es (λ gs. []) (Give done))
    waits given es at m i = over contexts side line origin no_offer given (waits_walks ids {A = ℕ} m (Splice to from len) refl) es i

    written_same : (count : ℕ) (done : Result (Unit {0}) CallStop × Machine) → (splice_written count done).1 ≡ done.1
    written_same count (Ok done, m) = refl
    written_same count (Err stop, m) = refl

    read_lets : (given : List ℕ) (es : List Entry) (at : Option (ℕ × ℕ)) (read : Result (List ℕ) CallStop × Machine) → Before given es at read.1 → Along given es (let_read side to read) (splice_given ids to from len read)
    read_lets given es at (Ok [], m) i = let done : Blocked ℕ = waits_as ids (Splice to from len) m in none_lets contexts side line origin given es m to (Give done) (waits given es at m i)
    read_lets given es at (Ok (b ∷ bytes), m) i = writes_last contexts side line origin no_offer ids.line (to ∷ from ∷ []) given es at m to (inl refl) (b ∷ bytes) i (splice_written (length (b ∷ bytes))) (written_same (length (b ∷ bytes)))
    read_lets given es at (Err stop, m) i = none given es at (stops stop m) i

    looked_lets : (count : ℕ) (given : List ℕ) (es : List Entry) (at : Option (ℕ × ℕ)) (looked : Result Bool CallStop × Machine) → Before given es at looked.1 → Along given es (let_looked side own to from count looked) (splice_looked ids to from len count looked)
    looked_lets count given es at (Ok true, m) i =
        let now = reaching at ids.line (input_at m from) in
        lets_after side (Ends contexts side line origin) (λ fs read. Before given fs now read.1) (let_read side to) given es (read_asks m own from count) (λ read. splice_given ids to from len read)
        (along contexts side line origin no_offer given (read_asks_walks m from (inr (inl refl)) count) es i) (λ fs read j. read_lets given fs now read j)
    looked_lets count given es at (Ok false, m) i = waits given es at m i
    looked_lets count given es at (Err stop, m) i = none given es at (stops stop m) i

    count_lets : (given : List ℕ) (es : List Entry) (at : Option (ℕ × ℕ)) (m : Machine) (count : ℕ) → Before given es at m → Along given es (let_blocking_count side own to from m count) (splice_count ids to from len m count)
    count_lets given es at m zero i = none given es at (Ok (Ready 0), m) i
    count_lets given es at m (suc count) i =
        let now = reaching at ids.line (input_at m from) in
        lets_after side (Ends contexts side line origin) (λ fs looked. Before given fs now looked.1) (let_looked side own to from (suc count)) given es (look_asks m own from) (λ looked. splice_looked ids to from len (suc count) looked)
        (along contexts side line origin no_offer given (look_asks_walks m from (inr (inl refl))) es i) (λ fs looked j. looked_lets (suc count) given fs now looked j)

    permit_lets : (given : List ℕ) (es : List Entry) (at : Option (ℕ × ℕ)) (checked : Result ℕ CallStop × Machine) → Before given es at checked.1 → Along given es (let_permitted (let_blocking_count side own to from) len checked) (splice_permitted ids to from len checked)
    permit_lets given es at (Ok zero, m) i =
        let done : Blocked ℕ = waits_as ids (Splice to from len) m in
        lets_same side (Ends contexts side line origin) (λ gs. given ++ []) (λ gs. given ++ let_blocking_count side own to from m (min 0 len) gs) (λ gs. ap (λ (count : ℕ). given ++ let_blocking_count side own to from m count gs) (sym (none_permitted len))) es (Give done) (waits given es at m i)
    permit_lets given es at (Ok (suc n), m) i = count_lets given es at m (min (suc n) len) i
    permit_lets given es at (Err stop, m) i = none given es at (stops stop m) i

    when_lets : (given : List ℕ) (es : List Entry) (at : Option (ℕ × ℕ)) (m : Machine) (writable readable : Bool) → Before given es at m
        → Along given es (λ gs. if writable && readable then let_after (check_asks m own to) (let_permitted (let_blocking_count side own to from) len) gs else []) (blocking_splice_when m ids to from len writable readable)
    when_lets given es at m true true i =
        let now = reaching at ids.line (output_at m to) in
        lets_after side (Ends contexts side line origin) (λ fs checked. Before given fs now checked.1) (let_permitted (let_blocking_count side own to from) len) given es (check_asks m own to) (λ checked. splice_permitted ids to from len checked)
        (along contexts side line origin no_offer given (check_asks_walks m to (inl refl)) es i) (λ fs checked j. permit_lets given fs now checked j)
    when_lets given es at m true false i = none given es at (stops (Traps NoSuchHandle) m) i
    when_lets given es at m false readable i = none given es at (stops (Traps NoSuchHandle) m) i

    pub blocking_splice_lets : (given : List ℕ) (es : List Entry) (at : Option (ℕ × ℕ)) (m : Machine) → Before given es at m → Along given es (let_blocking_splice side m own to from len) (blocking_splice_asks m ids to from len)
    blocking_splice_lets given es at m i = when_lets given es at m (is_writable (kind_at m.table to)) (is_readable (kind_at m.table from)) i

  -- == a write
  module _ (output : ℕ) where
    abbrev On : List ℕ → List Entry → Option (ℕ × ℕ) → Machine → Type 0
    On given es at m = So contexts side line origin ids.line (output ∷ []) given es at m

    stopped : (given : List ℕ) (es : List Entry) (at : Option (ℕ × ℕ)) (m : Machine) (why : CallStop) → On given es at m → (let done : Blocked (Unit {0}) = stops why m in Along given es (λ gs. []) (Give done))
    stopped given es at m why i = let done : Blocked (Unit {0}) = stops why m in gone contexts side line origin no_offer ids.line (output ∷ []) given es at done i

    pends : (given : List ℕ) (es : List Entry) (at : Option (ℕ × ℕ)) (m : Machine) (rest : List ℕ) → On given es at m → (let done : Blocked (Unit {0}) = waits_as ids (Write output rest) m in Along given es (λ gs. []) (Give done))
    pends given es at m rest i = over contexts side line origin no_offer given (waits_walks ids {A = Unit {0}} m (Write output rest) refl) es i

    -- it goes on with what isn't written yet
    abbrev GoesOn : LetAgain → Again → Type 0
    GoesOn more again = (given : List ℕ) (es : List Entry) (at : Option (ℕ × ℕ)) (m : Machine) (rest : List ℕ) → On given es at m → Along given es (more m rest) (again m rest)

    rest_lets : (more : LetAgain) (again : Again) → GoesOn more again → (given : List ℕ) (es : List Entry) (at : Option (ℕ × ℕ)) (rest : List ℕ) (done : Result (Unit {0}) CallStop × Machine) → On given es at done.1 → Along given es (let_rest more rest done) (round_written ids output again rest done)
    rest_lets more again k given es at rest (Err why, m) i = stopped given es at m why i
    rest_lets more again k given es at [] (Ok done, m) i = over contexts side line origin no_offer given (finish_walks ids output m) es i
    rest_lets more again k given es at (b ∷ rest) (Ok done, m) i = k given es at m (b ∷ rest) i

    round_lets : (more : LetAgain) (again : Again) → GoesOn more again → (given : List ℕ) (es : List Entry) (at : Option (ℕ × ℕ)) (rest : List ℕ) (checked : Result ℕ CallStop × Machine) → On given es at checked.1 → Along given es (let_round side own output more rest checked) (round_checked ids output again rest checked)
    round_lets more again k given es at rest (Ok zero, m) i = pends given es at m rest i
    round_lets more again k given es at rest (Ok (suc n), m) i =
        let bytes = let_write side m output (take (suc n) rest) in
        let now = reaching at ids.line (output_at m output) in
        lets_writes side (Ends contexts side line origin) (λ fs done. On (given ++ bytes) fs now done.1) (let_rest more (drop (suc n) rest)) given bytes es (write_asks m own output (take (suc n) rest)) (λ done. round_written ids output again (drop (suc n) rest) done)
        (write_lets contexts side line origin no_offer ids.line (output ∷ []) given es at m output (inl refl) (take (suc n) rest) i) (λ fs done j. rest_lets more again k (given ++ bytes) fs now (drop (suc n) rest) done j)
    round_lets more again k given es at rest (Err why, m) i = stopped given es at m why i

    rounds_let : (rounds : ℕ) → GoesOn (let_rounds rounds side own output) (write_rounds rounds ids output)
    rounds_let zero given es at m rest i = pends given es at m rest i
    rounds_let (suc k) given es at m rest i =
        let now = reaching at ids.line (output_at m output) in
        lets_after side (Ends contexts side line origin) (λ fs checked. On given fs now checked.1) (let_round side own output (let_rounds k side own output) rest) given es (check_asks m own output) (λ checked. round_checked ids output (write_rounds k ids output) rest checked)
        (along contexts side line origin no_offer given (check_asks_walks m output (inl refl)) es i) (λ fs checked j. round_lets (let_rounds k side own output) (write_rounds k ids output) (rounds_let k) given fs now rest checked j)

    pub all_lets : (given : List ℕ) (es : List Entry) (at : Option (ℕ × ℕ)) (m : Machine) (rest : List ℕ) → On given es at m → Along given es (let_all side own output m rest) (write_rest_asks m ids output rest)
    all_lets given es at m rest i = rounds_let 4096 given es at m rest i

    write_when_lets : (given : List ℕ) (es : List Entry) (at : Option (ℕ × ℕ)) (m : Machine) (bytes : List ℕ) (writable too_long : Bool) → On given es at m
        → Along given es (λ gs. if writable && not too_long then let_all side own output m bytes gs else []) (write_when m ids output bytes writable too_long)
    write_when_lets given es at m bytes false too_long i = stopped given es at m (Traps NoSuchHandle) i
    write_when_lets given es at m bytes true true i = stopped given es at m (Traps TooLong) i
    write_when_lets given es at m bytes true false i = all_lets given es at m bytes i

    pub blocking_write_lets : (given : List ℕ) (es : List Entry) (at : Option (ℕ × ℕ)) (m : Machine) (bytes : List ℕ) → On given es at m → Along given es (let_blocking_write side m own output bytes (nat_lt 4096 (length bytes))) (blocking_write_asks m ids output bytes)
    blocking_write_lets given es at m bytes i = write_when_lets given es at m bytes (is_writable (kind_at m.table output)) (nat_lt 4096 (length bytes)) i

    zeroes_when_lets : (given : List ℕ) (es : List Entry) (at : Option (ℕ × ℕ)) (m : Machine) (len : ℕ) (writable too_long : Bool) → On given es at m
        → Along given es (λ gs. if writable && not too_long then let_all side own output m (zeros len) gs else []) (zeroes_when m ids output len writable too_long)
    zeroes_when_lets given es at m len false too_long i = stopped given es at m (Traps NoSuchHandle) i
    zeroes_when_lets given es at m len true true i = stopped given es at m (Traps TooLong) i
    zeroes_when_lets given es at m len true false i = all_lets given es at m (zeros len) i

    pub blocking_zeroes_lets : (given : List ℕ) (es : List Entry) (at : Option (ℕ × ℕ)) (m : Machine) (len : ℕ) → On given es at m → Along given es (let_blocking_write side m own output (zeros len) (nat_lt 4096 len)) (blocking_zeroes_asks m ids output len)
    blocking_zeroes_lets given es at m len i = zeroes_when_lets given es at m len (is_writable (kind_at m.table output)) (nat_lt 4096 len) i
