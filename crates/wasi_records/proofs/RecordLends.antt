-- The records, where a look-up lent one of them that is of another kind: they end as they were.
use borrow.Follows.Closed.{read_of}
use Rattle.std.specs.Prelude.{◌≡◌, ℕ, zero, suc, List, [], ◌∷◌, Option, Some, None, slice_get, slice_set}
use Rattle.std.specs.Borrow.{MutBor}
use Rattle.std.specs.Option.{ghost_name_of}
use Rattle.std.proofs.Common.{refl, ap, sym, ◌∙◌}
use Rattle.std.proofs.lemmas.List.{set-get_or}
use Rattle.wasi_records.specs.declared.records.Record.{Record}
use Rattle.wasi_records.specs.declared.records.Record.TheVariants.{Gone}
use Rattle.wasi_records.specs.Numbered.{Numbered, or_gone, item_at, with_item}

-- what is lent of them, and that they end as they were where nothing is
pub lent_or_same : {E : Type 0} (v : Numbered) (i : ℕ) (x : Record) (r : Option (MutBor E)) (put : E → Numbered) → slice_set v.items i x ≡ v.items → read_of (ghost_name_of r) put (with_item v i x) ≡ read_of (ghost_name_of r) put v
lent_or_same v i x r put e = ap (λ (l : List Record). read_of (ghost_name_of r) put (record v { items = l })) e

-- the record that is lent is put back as it was
pub item_back : (xs : List Record) (i : ℕ) (x : Record) → x ≡ item_at xs i → slice_set xs i x ≡ xs
item_back xs i x e = ap (λ (y : Record). slice_set xs i y) e ∙ set-get_or xs i Gone

-- what tells no record from nothing finds the same in the record of this number
pub seen : {T : Type 0} (pick : Option Record → Option T) (xs : List Record) (i : ℕ) (o : Option Record) → pick (Some Gone) ≡ pick None → or_gone o ≡ item_at xs i → pick o ≡ pick (slice_get xs i)
seen pick xs i o gone e = found o ∙ ap (λ (x : Record). pick (Some x)) e ∙ listed xs i
  where
    found : (o : Option Record) → pick o ≡ pick (Some (or_gone o))
    found None = sym gone
    found (Some x) = refl

    listed : (xs : List Record) (i : ℕ) → pick (Some (item_at xs i)) ≡ pick (slice_get xs i)
    listed [] i = gone
    listed (x ∷ xs) zero = refl
    listed (x ∷ xs) (suc i) = listed xs i
