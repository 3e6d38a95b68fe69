-- The totals of contexts, and how they change.
use Rattle.std.specs.Prelude.{◌≡◌, ℕ, ◌+◌, ◌≤◌, List, [], ◌∷◌, ◌==◌, if◌then◌else◌, true, nat_eq}
use Rattle.std.specs.HashMap.{get}
use Rattle.std.specs.Option.{unwrap_or}
use Rattle.slab.specs.Slab.{Slab}
use Rattle.wasi_records.specs.Numbered.{item_at}
use Rattle.wasi_records.specs.Used.{used, used_in}
use Rattle.wasi_records.specs.declared.records.Record.{Record}
use Rattle.wasi_records.specs.RecordMap.{record_under}
use Rattle.wasi_records.specs.declared.record_list.NumberedRecord.{NumberedRecord}
use Rattle.wasi_records.specs.declared.totals.Share.{Share}
use Rattle.wasi_records.specs.declared.totals.Totals.{Totals}

-- the total of a context, 0 where there is none
abbrev pub total_of : Totals → ℕ → ℕ
total_of totals context = unwrap_or (get nat_eq totals.by_context context) 0

-- what a share counts for a context
abbrev pub share_by : Share → ℕ → ℕ
share_by share context = if share.context == context then share.bytes else 0

-- the totals tell the same, if they are exact
abbrev pub IsSame : Totals → Totals → Type 0
IsSame old new = (new.exact ≡ old.exact) × ((context : ℕ) → total_of new context ≡ total_of old context)

-- they are exact only where they were, and then each is this much more
abbrev pub Adds : Totals → Totals → (ℕ → ℕ) → Type 0
Adds old new more = new.exact ≡ true → (old.exact ≡ true) × ((context : ℕ) → total_of new context ≡ total_of old context + more context)

-- or less
abbrev pub Takes : Totals → Totals → (ℕ → ℕ) → Type 0
Takes old new less = new.exact ≡ true → (old.exact ≡ true) × ((context : ℕ) → total_of new context + less context ≡ total_of old context)

-- they are exact only where they were, and then what this record counts for was added, and taken out what that one does
abbrev pub Moves : Totals → Totals → Record → Record → Type 0
Moves old new before next = new.exact ≡ true → (old.exact ≡ true) × ((context : ℕ) → total_of new context + used_in context next ≡ total_of old context + used_in context before)

-- where they are exact, that can be done
abbrev pub Leaves : Totals → Record → Record → Type 0
Leaves totals before next = totals.exact ≡ true → (context : ℕ) → used_in context next ≤ total_of totals context + used_in context before

-- where they are exact, they are what all records count for but the one that was lent
abbrev pub IsCounted : Totals → ℕ → List Record → Type 0
IsCounted totals lent records = totals.exact ≡ true → (context : ℕ) → total_of totals context + used_in context (item_at records lent) ≡ used context records

-- what the record that a number leads to counts for a context, unless it is left out
abbrev pub used_beside : Slab NumberedRecord → ℕ → ℕ → ℕ × ℕ → ℕ
used_beside slots place context e = if e.0 == place then 0 else used_in context (record_under slots e.1 e.0)

-- what the records of the numbers in the map count for a context, but that of this number
abbrev pub used_under : Slab NumberedRecord → ℕ → ℕ → List (ℕ × ℕ) → ℕ
used_under slots place context [] = 0
used_under slots place context (e ∷ keys) = used_beside slots place context e + used_under slots place context keys
