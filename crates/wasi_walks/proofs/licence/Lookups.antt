-- What is known of lookups: the line of one that is in progress named its host, and its context may look names up; and the mark of
-- its handle says no network socket. So do those of the handles of pipes, sinks and closed streams.
use Rattle.wasi_walks.proofs.Places.{push_at, set_at}
use Rattle.wasi_walks.proofs.Words.{ap, sym, ◌∙◌}
use Rattle.wasi_walks.proofs.Words.{BeganBy, Entry, IsMarkedWith, Kind, List, None, Pollable, Some, Step, Watched, WasiSocketsCtx, [], slice_set}
use Rattle.wasi_walks.proofs.Words.{inl, inr, ℕ, ⊤, ◌++◌, ◌∷◌, ◌≡◌}
use Rattle.wasi_records.specs.Records.{lookup_at, lookup_of}
use Rattle.lookup_records.specs.declared.name_lookup.Lookup.{Lookup}
use Rattle.lookup_records.specs.declared.name_lookup.LookupOp.{LookupOp}
use Rattle.wasi_records.specs.declared.records.Record.{Record}
use Rattle.wasi_walks.specs.Licence.{IsLookupOf}
use Rattle.wasi_walks.proofs.walks.Moves.{SameSockets}

-- the mark of a lookup's handle says no network socket, nor does that of a stream of no connection, or that of a pollable of one of
-- these
abbrev pub NamesNone : List Entry → ℕ → Kind → Type 0
NamesNone es handle (Kind.Lookup place) = IsMarkedWith es handle None
NamesNone es handle (Kind.PlainInput plain) = IsMarkedWith es handle None
NamesNone es handle (Kind.PlainOutput plain) = IsMarkedWith es handle None
NamesNone es handle (Pollable (Watched.Lookup place)) = IsMarkedWith es handle None
NamesNone es handle (Pollable Watched.Plain) = IsMarkedWith es handle None
NamesNone es handle _ = ⊤

-- the line of the lookup named its host, and its context may look names up
abbrev pub LookupIsFine : List WasiSocketsCtx → List Step → LookupOp → Type 0
LookupIsFine contexts steps op = BeganBy steps op.id (IsLookupOf contexts op.host)

-- and so it is of each lookup in progress
abbrev pub LookupsAreFine : List WasiSocketsCtx → List Step → List Record → Type 0
LookupsAreFine contexts steps records = (place : ℕ) (op : LookupOp) → lookup_at records place ≡ Some (Lookup.InProgress op) → LookupIsFine contexts steps op

-- == a record that is no lookup leaves those that are there
-- in the place of another
lookup_of_put : (xs : List Record) (i : ℕ) (x : Record) (k : ℕ) (l : Lookup) → lookup_of (Some x) ≡ None → lookup_at (slice_set xs i x) k ≡ Some l → lookup_at xs k ≡ Some l
lookup_of_put xs i x k l n h = elim (set_at xs i x k) [
  | inl same ↦ sym (ap lookup_of same) ∙ h
  | inr its ↦ absurd (let none : None ≡ Some l = sym n ∙ (sym (ap lookup_of its.1) ∙ h) in cc)
]

-- after them
lookup_of_push : (xs : List Record) (x : Record) (k : ℕ) (l : Lookup) → lookup_of (Some x) ≡ None → lookup_at (xs ++ x ∷ []) k ≡ Some l → lookup_at xs k ≡ Some l
lookup_of_push xs x k l n h = elim (push_at xs x k) [
  | inl same ↦ sym (ap lookup_of same) ∙ h
  | inr its ↦ absurd (let none : None ≡ Some l = sym n ∙ (sym (ap lookup_of its.1) ∙ h) in cc)
]

module _ (contexts : List WasiSocketsCtx) (steps : List Step) where
  pub lookups_put : (records : List Record) (i : ℕ) (x : Record) → lookup_of (Some x) ≡ None → LookupsAreFine contexts steps records → LookupsAreFine contexts steps (slice_set records i x)
  lookups_put records i x n h place op e = h place op (lookup_of_put records i x place (Lookup.InProgress op) n e)

  pub lookups_push : (records : List Record) (x : Record) → lookup_of (Some x) ≡ None → LookupsAreFine contexts steps records → LookupsAreFine contexts steps (records ++ x ∷ [])
  lookups_push records x n h place op e = h place op (lookup_of_push records x place (Lookup.InProgress op) n e)

  -- of other records, where each that is new is fine
  pub lookups_same : (new : LookupOp → Type 0) (old now : List Record) → SameSockets new old now → ((op : LookupOp) → new op → LookupIsFine contexts steps op) → LookupsAreFine contexts steps old → LookupsAreFine contexts steps now
  lookups_same new old now s f h place op e = elim (s.looks place op e) [ inl was ↦ h place op was | inr is ↦ f op is ]
