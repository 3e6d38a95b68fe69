-- What a lookup asks is licensed, by its line where it begins and by its record later.
use Rattle.wasi_walks.proofs.Words.{Call, Entry, List, Option, None, OpId, Some, GuestCall, Step, Told, WasiSocketsCtx, [], context_in, entry, own_of, refl}
use Rattle.wasi_walks.proofs.Words.{slice_get, step_at, subst, sym, true, ℕ, ◌++◌, ◌∷◌, ◌≡◌}
use Rattle.wasi_walks.specs.Licence.{IsLookupOf, MayLookUp}
use Rattle.wasi_walks.proofs.walks.Moves.{Here, LooksUp, SameSockets, with_beside, with_records}
use Rattle.wasi_walks.proofs.licence.Besides.{CallIsFine, beside_fine, besides_begun}
use Rattle.wasi_walks.proofs.licence.Lookups.{LookupIsFine}
use Rattle.wasi_walks.proofs.licence.Line.{Licensed, elsewhere}
use Rattle.wasi_walks.proofs.licence.LookupMoves.{records_fine}
use Rattle.wasi_walks.proofs.licence.Asked.{asked_fine, spares}
use Rattle.wasi_walks.proofs.licence.States.{state_beside}
use Rattle.std.specs.Prelude.{Ok}
use Rattle.wasi_world.specs.Typed.{told_names}
use Rattle.host_store.specs.declared.beside.Beside.{Beside}
use Rattle.host_store.specs.declared.beside.BesideCall.TheVariants.{Resolve}
use Rattle.host_store.specs.Beside.{beside_as, beside_of}
use Rattle.host_lookups.specs.Resolves.{begun_lookup}
use Rattle.wasi_records.specs.Records.{lookup_at}
use Rattle.lookup_records.specs.declared.name_lookup.Lookup.{Lookup}
use Rattle.lookup_records.specs.declared.name_lookup.LookupOp.{LookupOp}
use Rattle.wasi_records.specs.declared.records.Record.{Record}
use Rattle.wasi_walks.proofs.licence.Unbound.{MayAskSo}
use Rattle.wasi_steps.specs.declared.guest_call.NameCall.{NameCall}
use Rattle.wasi_steps.specs.declared.guest_call.P3NameCall.{P3NameCall}

module _ (contexts : List WasiSocketsCtx) (steps : List Step) (line : ℕ) (origin : Step) (is_line : step_at steps line ≡ Some origin) where
  -- a context that isn't there may look no name up
  may_look : (n : ℕ) (o : Option WasiSocketsCtx) → slice_get contexts n ≡ o → (context_in o).ip_name_lookup ≡ true → MayLookUp contexts n
  may_look n None e l = absurd (cc)
  may_look n (Some ctx) e l = record { ctx = ctx; at = e; lookup = l }

  is_lookup : (host : List ℕ) (s : Step) → LooksUp contexts host s → IsLookupOf contexts host s
  is_lookup host (Step.Call n (GuestCall.Names (NameCall.Resolve network name))) l = (may_look n (slice_get contexts n) refl l.0, l.1)
  is_lookup host (Step.Call n (GuestCall.P3Names (P3NameCall.Resolve name))) l = (may_look n (slice_get contexts n) refl l.0, l.1)
  is_lookup host _ l = absurd l

  -- what it is answered is nothing to the sockets
  asked_lookup : (es : List Entry) (h : Here) (op : OpId) (host : List ℕ) (told : Told) → Licensed contexts steps line origin es h → Licensed contexts steps line origin (es ++ entry op (Call.Lookup host) told ∷ []) h
  asked_lookup es h op host told i = asked_fine contexts steps line origin is_line es h op (Call.Lookup host) told tt (spares contexts steps line origin is_line h (Call.Lookup host) tt) i

  -- it begins, and joins the records
  pub looked_up : (es : List Entry) (h : Here) (host : List ℕ) → LooksUp contexts host origin → Licensed contexts steps line origin es h
      → (let op : LookupOp = record { id = own_of line; host = host } in MayAskSo contexts steps es (own_of line) (Call.Lookup host)
      × ((told : Told) (records : List Record) → SameSockets (λ x. x ≡ op) h.machine.store.records records → Licensed contexts steps line origin (es ++ entry (own_of line) (Call.Lookup host) told ∷ []) (with_records h records)))
  looked_up es h host l i =
      let op : LookupOp = record { id = own_of line; host = host } in
      let may : LookupIsFine contexts steps op = record { origin = origin; at = is_line; holds = is_lookup host origin l } in
      (may, λ told records s. records_fine (λ x. x ≡ op) (λ x e. subst (LookupIsFine contexts steps) (sym e) may) _ h records s (asked_lookup es h (own_of line) host told i))

  -- it is asked about again
  pub looked_on : (es : List Entry) (h : Here) (place : ℕ) (op : LookupOp) → lookup_at h.machine.store.records place ≡ Some (Lookup.InProgress op) → Licensed contexts steps line origin es h
      → MayAskSo contexts steps es op.id (Call.Lookup op.host) × ((told : Told) → Licensed contexts steps line origin (es ++ entry op.id (Call.Lookup op.host) told ∷ []) h)
  looked_on es h place op g i = (i.fine.lookups place op g, λ told. asked_lookup es h op.id op.host told i)

  -- == a lookup of 0.3: it begins, and stands beside other calls while it is pending
  pub looked_up_beside : (es : List Entry) (h : Here) (host : List ℕ) → LooksUp contexts host origin → Licensed contexts steps line origin es h
      → MayAskSo contexts steps es (own_of line) (Call.Lookup host)
      × ((told : Told) → Licensed contexts steps line origin (es ++ entry (own_of line) (Call.Lookup host) told ∷ []) (with_beside h (begun_lookup h.machine.store.beside (beside_as line (Resolve host)) (Ok (told_names told)))))
  looked_up_beside es h host l i =
      let may : LookupIsFine contexts steps (record { id = own_of line; host = host }) = record { origin = origin; at = is_line; holds = is_lookup host origin l } in (
        may,
        λ told.
            let fs = es ++ entry (own_of line) (Call.Lookup host) told ∷ [] in
            let j = asked_lookup es h (own_of line) host told i in
            elsewhere fs h _ refl refl refl j (state_beside contexts steps fs h.machine _ (besides_begun contexts steps fs h.machine.store.beside (beside_as line (Resolve host)) (told_names told) may j.fine.besides) j.fine) j.names j.udp_names,
      )

  -- and it is asked about again
  pub looked_on_beside : (es : List Entry) (h : Here) (n : ℕ) (b : Beside) (host : List ℕ) → beside_of h.machine.store n ≡ Some b → b.call ≡ Resolve host → Licensed contexts steps line origin es h
      → MayAskSo contexts steps es (own_of n) (Call.Lookup host) × ((told : Told) → Licensed contexts steps line origin (es ++ entry (own_of n) (Call.Lookup host) told ∷ []) h)
  looked_on_beside es h n b host g e i =
      (subst (CallIsFine contexts steps es n) e (beside_fine contexts steps es h.machine.store.beside n b g i.fine.besides), λ told. asked_lookup es h (own_of n) host told i)
