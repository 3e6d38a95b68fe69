-- The addresses of a lookup are handed out; and the code of an error, which is none.
use Rattle.wasi_causes.proofs.Words.{Bool, Err, Give, List, Machine, NoSuchHandle, None, Ok, Option, Result, Some, Stop, Trap, WasiSocketsCtx}
use Rattle.wasi_causes.proofs.Words.{[], ap, false, inl, inr, kind_at, refl, subst, sym, true, with_store, ℕ, ◌∙◌, ◌∷◌, ◌≡◌}
use Rattle.std.specs.Prelude.{if◌then◌else◌}
use Rattle.wasi_addr.specs.declared.address.IpAddress.{IpAddress}
use Rattle.wasi_addr.specs.declared.address.IpAddress.TheVariants as ip
use Rattle.host_store.specs.Kinds.{is_error}
use Rattle.host_store.specs.Machine.{lookup_number}
use Rattle.lookup_records.specs.NameLookup.{next_of}
use Rattle.host_lookups.specs.NameLookupCalls.{next_at, next_told}
use Rattle.wasi_records.specs.Records.{lookup_at}
use Rattle.lookup_records.specs.declared.name_lookup.Lookup.{Lookup}
use Rattle.lookup_records.specs.declared.name_lookup.Lookup.TheVariants.{InProgress, Found, Failed}
use Rattle.wasi_records.specs.declared.records.Record.{Record}
use Rattle.wasi_machine.specs.Machine.{reply_of, without_code}
use Rattle.wasi_p2.specs.Lookup.{error_code_on, next_address_on}
use Rattle.wasi_steps.specs.Reply.{absent_values, found_values}
use Rattle.wasi_steps.specs.declared.reply.Field.{Field}
use Rattle.wasi_steps.specs.declared.reply.Reply.{Reply}
use Rattle.wasi_steps.specs.declared.reply.Reply.TheVariants as reply
use Rattle.wasi_steps.specs.declared.guest_call.GuestCall.TheVariants as guest
use Rattle.wasi_steps.specs.declared.guest_call.NameCall.TheVariants as name_call
use Rattle.wasi_steps.specs.declared.step.Step.TheVariants as step
use Rattle.wasi_walks.specs.Answered.{lookup_in}
use Rattle.wasi_causes.proofs.tables.Meets.{Meets, Rows, ends}
use Rattle.wasi_causes.proofs.tables.Routes.{Replied, Says, apart}
use Rattle.wasi_causes.specs.Lookups.{FirstLeft, HandsOut, NoneLeft, OfLookup, TellsNext, found_lookup, putting_lookup}
use Rattle.wasi_walks.proofs.Places.{lookup_sort, put_again, put_finds}

-- == what is replied
-- an address isn't none
not_absent : (a : IpAddress) → found_values (Some a) ≡ found_values None → ⊥
not_absent (ip.Ipv4 a) e = cc
not_absent (ip.Ipv6 a) e = cc

-- by what is left
tells : (l : Lookup) → TellsNext (Some l) [] (reply_of found_values (next_told (next_of l).0))
tells (InProgress op) = record { quiet = refl; in_progress = (λ e. refl, λ k. refl); failed = apart (λ e. cc) (λ k. cc); over = apart (λ e. cc) (λ k. cc); next = λ a left k. absurd (cc) }
tells (Found []) = record { quiet = refl; in_progress = apart (λ e. cc) (λ k. cc); failed = apart (λ e. cc) (λ k. cc); over = (λ e. refl, λ k. refl); next = λ a left k. absurd (cc) }
tells (Found (b ∷ rest)) = record {
  quiet = refl;
  in_progress = apart (λ e. cc) (λ k. cc);
  failed = apart (λ e. cc) (λ k. cc);
  over = apart (λ e. let same : found_values (Some b) ≡ found_values None = cc in not_absent b same) (λ k. cc);
  next = λ a left k. let same : b ≡ a = cc in ap (λ (x : IpAddress). reply.Ok (found_values (Some x))) same;
}
tells Failed = record { quiet = refl; in_progress = apart (λ e. cc) (λ k. cc); failed = (λ e. refl, λ k. refl); over = apart (λ e. cc) (λ k. cc); next = λ a left k. absurd (cc) }

-- and of none
tells_none : TellsNext None [] (reply.Trap NoSuchHandle)
tells_none = record { quiet = refl; in_progress = apart (λ e. cc) (λ k. cc); failed = apart (λ e. cc) (λ k. cc); over = apart (λ e. cc) (λ k. cc); next = λ a left k. absurd (cc) }

-- == what is left
-- a lookup that stays as it was
put_lookup_back : (P : Machine → Type 0) (m : Machine) (place : ℕ) (l : Lookup) → lookup_at m.store.records place ≡ Some l → P m → P (putting_lookup m place l)
put_lookup_back P m place l at h =
    let same : putting_lookup m place l ≡ m = ap (λ (rs : List Record). let left : Machine = record m { store = record m.store { records = rs } } in left) (put_again lookup_sort m.store.records place l at) in
    subst P (sym same) h

module _ (contexts : List WasiSocketsCtx) (m : Machine) (line c handle : ℕ) where
  abbrev NextRow : Rows (Result (Option IpAddress) Stop × Machine)
  NextRow = Replied contexts m line (step.Call c (guest.Names (name_call.ResolveNext handle))) (reply_of found_values)

  missing : found_lookup m handle ≡ None → NextRow [] (Err (Trap NoSuchHandle), m)
  missing none = (subst (λ (o : Option Lookup). TellsNext o [] (reply.Trap NoSuchHandle)) (sym none) tells_none, (none, (refl, refl)))

  module _ (place : ℕ) (names : lookup_number m handle ≡ Some place) where
    -- what the handle names is this
    here : (l : Lookup) → lookup_at m.store.records place ≡ Some l → TellsNext (found_lookup m handle) [] (reply_of found_values (next_told (next_of l).0))
    here l at = subst (λ (o : Option Lookup). TellsNext o [] (reply_of found_values (next_told (next_of l).0))) (sym (ap (lookup_in m) names ∙ at)) (tells l)

    told : (l : Lookup) → lookup_at m.store.records place ≡ Some l → NextRow [] (with_store m (next_at m.store place (Some l)))
    told (InProgress op) at = (here (InProgress op) at, (inl refl, put_lookup_back (λ (after : Machine). after ≡ m) m place (InProgress op) at refl))
    told (Found []) at = (here (Found []) at, ((None, refl), record { place = place; found = Found []; names = names; at = at; holds = put_lookup_back (HandsOut m place (Found []) (found_values None)) m place (Found []) at NoneLeft }))
    told (Found (a ∷ left)) at = (here (Found (a ∷ left)) at, ((Some a, refl), record { place = place; found = Found (a ∷ left); names = names; at = at; holds = FirstLeft a left }))
    told Failed at = (here Failed at, (inr refl, put_lookup_back (λ (after : Machine). after ≡ m) m place Failed at refl))

    by_place : (o : Option Lookup) → lookup_at m.store.records place ≡ o → NextRow [] (with_store m (next_at m.store place o))
    by_place None at = missing (ap (lookup_in m) names ∙ at)
    by_place (Some l) at = told l at

  by_number : (o : Option ℕ) → lookup_number m handle ≡ o → NextRow [] (next_address_on m o)
  by_number None names = missing (ap (lookup_in m) names)
  by_number (Some place) names = by_place place names (lookup_at m.store.records place) refl

  pub resolve_next : Meets (Says contexts m line (step.Call c (guest.Names (name_call.ResolveNext handle)))) [] (let done = next_address_on m (lookup_number m handle) in Give (reply_of found_values done.0, done.1))
  resolve_next = ends (by_number (lookup_number m handle) refl)

  -- == one less is left
  pub one_less : (a : IpAddress) (left : List IpAddress) (fields : List Field) (after : Machine) → found_lookup m handle ≡ Some (Found (a ∷ left)) → OfLookup m handle (λ place l. HandsOut m place l fields after) → found_lookup after handle ≡ Some (Found left)
  one_less a left fields after is on = by_hand on.found fields after on.at on.holds
    where
      named : (l : Lookup) → lookup_at m.store.records on.place ≡ Some l → l ≡ Found (a ∷ left)
      named l at = let same : found_lookup m handle ≡ Some l = ap (lookup_in m) on.names ∙ at in cc

      by_hand : (l : Lookup) (fields : List Field) (after : Machine) → lookup_at m.store.records on.place ≡ Some l → HandsOut m on.place l fields after → found_lookup after handle ≡ Some (Found left)
      by_hand _ _ _ at NoneLeft = let never = named (Found []) at in absurd (cc)
      by_hand _ _ _ at (FirstLeft b rest) =
          let same = named (Found (b ∷ rest)) at in
          let those : rest ≡ left = cc in
          ap (lookup_in (putting_lookup m on.place (Found rest))) on.names ∙ (put_finds lookup_sort m.store.records on.place (Found (b ∷ rest)) (Found rest) at ∙ ap (λ (xs : List IpAddress). Some (Found xs)) those)

-- == an error's code
module _ (contexts : List WasiSocketsCtx) (m : Machine) (line c handle : ℕ) where
  abbrev CodeSays : Reply → Type 0
  CodeSays r = Says contexts m line (step.Call c (guest.Names (name_call.NetworkErrorCode handle))) [] (r, m)

  by_error : (b : Bool) → is_error (kind_at m.table handle) ≡ b → CodeSays (reply_of absent_values (without_code (if b then Ok None else Err (Trap NoSuchHandle))))
  by_error true is = ((refl, refl), ((tt, tt), refl))
  by_error false other = ((refl, refl), (other, (refl, refl)))

  pub network_error_code : Meets (Says contexts m line (step.Call c (guest.Names (name_call.NetworkErrorCode handle)))) [] (Give (reply_of absent_values (without_code (error_code_on m handle)), m))
  network_error_code = ends (by_error (is_error (kind_at m.table handle)) refl)
