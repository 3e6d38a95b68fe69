-- A splice, as moves: a check of what may be written, a read of so much, and a write of what was read.
use Rattle.std.specs.Prelude.{ℕ, zero, suc, min, Bool, true, false, List, [], ◌∷◌, length, Option, Result, Ok, Err}
use Rattle.wasi_walks.proofs.Words.{Give, Has, Machine, Step, WasiSocketsCtx, is_readable, is_writable, kind_at, own_of, refl}
use Rattle.host_store.specs.CallStops.{CallStop}
use Rattle.host_streams.specs.StreamCalls.{splice_asks, splice_checked, splice_read, splice_some, splice_when, spliced}
use Rattle.wasi_walks.proofs.walks.Moves.{Leaves, Used}
use Rattle.wasi_walks.proofs.walks.Law.{BeginsWrites, Law, Walks, and_then, gives}
use Rattle.wasi_walks.proofs.walks.Calls.{Calling, check_asks_walks, read_asks_walks, write_asks_walks}
use Rattle.wasi_walks.proofs.walks.States.{OverWith}
use Rattle.wasi_walks.proofs.walks.Writes.{AsAny}

module _ {contexts : List WasiSocketsCtx} {line : ℕ} {origin : Step} {law : Law contexts line origin} (begins : BeginsWrites law) {n : ℕ} {handles : List ℕ} (to from : ℕ) (writes : Has handles to) (reads : Has handles from) where
  written_walks : {at : Option (ℕ × ℕ)} (count : ℕ) (done : Result (Unit {0}) CallStop × Machine) → Walks law (Calling n handles at Used done.1) OverWith (Give (spliced count done))
  written_walks count (Ok done, m) = gives _ (Leaves _)
  written_walks count (Err why, m) = gives _ (Leaves _)

  given_walks : {at : Option (ℕ × ℕ)} (read : Result (List ℕ) CallStop × Machine) → Walks law (Calling n handles at Used read.1) OverWith (splice_read (own_of n) to read)
  given_walks (Ok [], m) = gives _ (Leaves _)
  given_walks (Ok (b ∷ bytes), m) = and_then (write_asks_walks m to writes (b ∷ bytes) (AsAny refl begins)) (written_walks (length (b ∷ bytes)))
  given_walks (Err why, m) = gives _ (Leaves _)

  some_walks : {at : Option (ℕ × ℕ)} (m : Machine) (count : ℕ) → Walks law (Calling n handles at Used m) OverWith (splice_some (own_of n) to from m count)
  some_walks m zero = gives _ (Leaves _)
  some_walks m (suc count) = and_then (read_asks_walks m from reads (suc count)) given_walks

  checked_walks : {at : Option (ℕ × ℕ)} (len : ℕ) (checked : Result ℕ CallStop × Machine) → Walks law (Calling n handles at Used checked.1) OverWith (splice_checked (own_of n) to from len checked)
  checked_walks len (Ok permit, m) = some_walks m (min permit len)
  checked_walks len (Err why, m) = gives _ (Leaves _)

  splice_when_walks : {at : Option (ℕ × ℕ)} (m : Machine) (len : ℕ) (writable readable : Bool) → Walks law (Calling n handles at Used m) OverWith (splice_when m (own_of n) to from len writable readable)
  splice_when_walks m len true true = and_then (check_asks_walks m to writes) (checked_walks len)
  splice_when_walks m len true false = gives _ (Leaves _)
  splice_when_walks m len false readable = gives _ (Leaves _)

  pub splice_walks : {at : Option (ℕ × ℕ)} (m : Machine) (len : ℕ) → Walks law (Calling n handles at Used m) OverWith (splice_asks m (own_of n) to from len)
  splice_walks m len = splice_when_walks m len (is_writable (kind_at m.table to)) (is_readable (kind_at m.table from))
