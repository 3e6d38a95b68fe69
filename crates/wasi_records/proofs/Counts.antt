-- The totals, as records are lent, come and go.
use Rattle.std.proofs.Common.{◌≡◌, ◌≢◌, ℕ, ◌+◌, ◌-◌, ◌<◌, ◌≤◌, List, [], ◌∷◌, ◌++◌, length, Some, true, min, ap, ◌∙◌, sym, subst, arith}
use Rattle.std.specs.Prelude.{slice_set}
use Rattle.slab.specs.Slab.{Slab, get}
use Rattle.wasi_records.specs.declared.records.Record.{Record}
use Rattle.wasi_records.specs.declared.records.Record.TheVariants.{Gone}
use Rattle.wasi_records.specs.declared.record_list.NumberedRecord.{NumberedRecord}
use Rattle.wasi_records.specs.declared.totals.Totals.{Totals}
use Rattle.wasi_records.specs.Numbered.{item_at}
use Rattle.wasi_records.specs.RecordMap.{record_in, numbered, IsSound}
use Rattle.wasi_records.specs.Totals.{total_of, Adds, Moves, Leaves, IsCounted}
use Rattle.wasi_records.specs.Used.{used_in, used}
use Rattle.wasi_records.proofs.RecordMaps.{item, length_numbered, written, written_slots}
use Rattle.wasi_records.proofs.Sums.{used_put, used_gone, used_at, used_pair, used_more, item_put, item_gone, item_last}

module _ (s : Slab NumberedRecord) (keys : List (ℕ × ℕ)) (n : ℕ) (sound : IsSound s keys n) where
  abbrev items : List Record
  items = numbered (record_in s keys) n

  same_use : (context p : ℕ) → used_in context (record_in s keys p) ≡ used_in context (item_at items p)
  same_use context p = ap (used_in context) (item s keys n sound p)

  -- there is enough to take a record out
  pub leaves : (totals : Totals) (lent p : ℕ) → IsCounted totals lent items → Leaves totals (record_in s keys lent) (record_in s keys p)
  leaves totals lent p counted exact context =
      let was = counted exact context in
      let part = used_at context items p in
      let old = same_use context lent in
      let new = same_use context p in omega (arith, was, part, old, new)

  -- a record was lent instead of another
  moved : (old new : Totals) (lent p : ℕ) → IsCounted old lent items → Moves old new (record_in s keys lent) (record_in s keys p) → IsCounted new p items
  moved old new lent p counted moves exact context =
      let move = moves exact in
      let was = counted move.0 context in
      let now = move.1 context in
      let before = same_use context lent in
      let after = same_use context p in omega (arith, was, now, before, after)

  -- and whatever is written in its place
  pub counted_written : (old new : Totals) (lent p key : ℕ) (x : NumberedRecord) (w : Record) (stood : get s key ≡ Some x) → x.number ≡ p → IsCounted old lent items → Moves old new (record_in s keys lent) (record_in s keys p)
      → IsCounted new p (numbered (record_in (written_slots s keys n sound key x w stood) keys) n)
  counted_written old new lent p key x w stood named counted moves =
      let given = sound.given key x stood in
      let long = length_numbered (record_in s keys) n in
      let below : p < length items = omega (arith, given, named, long) in
      subst (IsCounted new p) (sym (written s keys n sound key x w stood p named)) (λ exact context. (let was = moved old new lent p counted moves exact context in
      let put = used_put context items p w below in
      let here = ap (used_in context) (item_put items p w below) in omega (arith, was, put, here)))

  -- a record came as the last, and was lent with it
  pub counted_pushed : (old new : Totals) (lent : ℕ) (w : Record) → IsCounted old lent items → Adds old new (λ context. used_in context (record_in s keys lent)) → IsCounted new n (items ++ w ∷ [])
  counted_pushed old new lent w counted adds exact context =
      let add = adds exact in
      let was = counted add.0 context in
      let now = add.1 context in
      let before = same_use context lent in
      let more = used_more context items w in
      let long = length_numbered (record_in s keys) n in
      let here : used_in context (item_at (items ++ w ∷ []) n) ≡ used_in context w = ap (λ (q : ℕ). used_in context (item_at (items ++ w ∷ []) q)) (sym long) ∙ ap (used_in context) (item_last items w) in
      omega (arith, was, now, before, more, here)

  -- a record went, which was lent with it
  pub counted_gone : (old new : Totals) (lent p : ℕ) → IsCounted old lent items → Moves old new (record_in s keys lent) (record_in s keys p) → IsCounted new p (slice_set items p Gone)
  counted_gone old new lent p counted moves exact context =
      let was = moved old new lent p counted moves exact context in
      let gone = used_gone context items p in
      let here = ap (used_in context) (item_gone items p) in omega (arith, was, gone, here)

  -- what another than the one that was lent counts is part of a total
  pub within : (totals : Totals) (lent p context : ℕ) → IsCounted totals lent items → totals.exact ≡ true → p ≢ lent → used_in context (record_in s keys p) ≤ total_of totals context
  within totals lent p context counted exact apart =
      let was = counted exact context in
      let pair = used_pair context items p lent apart in
      let here = same_use context p in omega (arith, was, pair, here)

  -- so it can be left out
  pub but_one : (totals : Totals) (lent p context : ℕ) → IsCounted totals lent items → totals.exact ≡ true → p ≢ lent
      → (total_of totals context - used_in context (record_in s keys p)) + used_in context (record_in s keys lent) ≡ used context items - used_in context (item_at items p)
  but_one totals lent p context counted exact apart =
      let was = counted exact context in
      let pair = used_pair context items p lent apart in
      let here = same_use context p in
      let there = same_use context lent in omega (arith, was, pair, here, there)

  -- the one that was lent and the others are all
  pub and_one : (lent context most : ℕ) → min (min (used context items - used_in context (item_at items lent)) most + used_in context (record_in s keys lent)) most ≡ min (used context items) most
  and_one lent context most =
      let part = used_at context items lent in
      let there = same_use context lent in omega (arith, part, there)
