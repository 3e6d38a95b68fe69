-- A lookup of a name begins.
use Rattle.wasi_causes.proofs.Words.{Bool, Entry, Err, Give, List, Machine, None, OpId, Option, Reply, Result, Some, Stop, Told, WasiSocketsCtx}
use Rattle.wasi_causes.proofs.Words.{[], bind, context_at, false, handle_reply, inl, inr, is_network, kind_at, length, marks_in, own_of, refl, true, ℕ, ◌∷◌, ◌≡◌, ◌≢◌}
use Rattle.wasi_addr.specs.Address.{canonical}
use Rattle.wasi_addr.specs.declared.lookup.ErrorCode.TheVariants.{PermanentResolverFailure}
use Rattle.std.specs.Prelude.{if◌then◌else◌, map}
use Rattle.wasi_names.specs.Names.{found_host, name_is}
use Rattle.wasi_names.specs.declared.name.HostName.{HostName}
use Rattle.wasi_names.specs.declared.name.HostName.TheVariants.{Address, Domain}
use Rattle.wasi_world.specs.Fits.{IsNames}
use Rattle.wasi_world.specs.Typed.{told_names}
use Rattle.wasi_world.specs.declared.call.Told.TheVariants as told
use Rattle.host_store.specs.GivingBack.{given_back}
use Rattle.lookup_records.specs.NameLookup.{lookup_told}
use Rattle.host_lookups.specs.NameLookupCalls.{lookup_handle, resolve_host, resolved, with_lookup}
use Rattle.host_store.specs.declared.kind.Kind.TheVariants as kind
use Rattle.lookup_records.specs.declared.name_lookup.Lookup.{Lookup}
use Rattle.lookup_records.specs.declared.name_lookup.Lookup.TheVariants.{InProgress, Found}
use Rattle.lookup_records.specs.declared.name_lookup.LookupOp.{LookupOp}
use Rattle.wasi_p2.specs.Lookup.{resolve_asks, resolved_host}
use Rattle.wasi_steps.specs.declared.reply.CodeWord.TheVariants as word
use Rattle.wasi_steps.specs.declared.reply.Reply.TheVariants as reply
use Rattle.wasi_steps.specs.declared.guest_call.GuestCall.TheVariants as guest
use Rattle.wasi_steps.specs.declared.guest_call.NameCall.TheVariants as name_call
use Rattle.wasi_steps.specs.declared.step.Step.TheVariants as step
use Rattle.wasi_causes.proofs.tables.Meets.{Meets, Rows, asks, branch, ends, onto}
use Rattle.wasi_causes.proofs.tables.Routes.{Replied, Says, apart, full_so, makes}
use Rattle.wasi_causes.specs.Lookups.{BeginsLookup, IsItsAnswer, LookupNotAllowed, LookupToldCode, LookupToldNames, LookupToldPending, NoName, lookup_entry}
use Rattle.wasi_causes.specs.Outcomes.{Always}

module _ (contexts : List WasiSocketsCtx) (m : Machine) (line c network : ℕ) (name : List ℕ) where
  abbrev own : OpId
  own = own_of line

  abbrev ctx : WasiSocketsCtx
  ctx = context_at contexts c

  abbrev ResolveRow : Rows (Result ℕ Stop × Machine)
  ResolveRow = Replied contexts m line (step.Call c (guest.Names (name_call.Resolve network name))) handle_reply

  -- it marks none before its handle
  unmarked : (es : List Entry) (l : Lookup) → BeginsLookup own name es l → marks_in es ≡ 0
  unmarked _ _ (IsItsAnswer a is) = refl
  unmarked _ _ (LookupToldPending host is) = refl
  unmarked _ _ (LookupToldNames host names is) = refl

  module _ (may : ctx.ip_name_lookup ≡ true) (host : HostName) (is : name_is name ≡ Some host) where
    -- neither word refuses it
    allowed : (es : List Entry) (r : Reply) (after : Machine) → r ≢ reply.Err word.PermanentResolverFailure → r ≢ reply.Err word.InvalidArgument → Always contexts m line (step.Call c (guest.Names (name_call.Resolve network name))) es r after
    allowed es r after one two = (λ denied. absurd (cc), λ its. record { forbidden = apart one (λ denied. cc); unnamed = apart two (λ k. let none = k.1 in cc) })

    -- it is there, and gets its handle
    begun : (l : Lookup) (es : List Entry) → BeginsLookup own name es l → Meets ResolveRow es (lookup_handle m own network l)
    begun l es begins =
        let left : Machine = record m { store = given_back (length m.store.records) (with_lookup m.store l) } in
        onto _ (makes m.table own (kind.Lookup (length m.store.records)) (Some network) None
        (λ full. (allowed es _ left (λ e. cc) (λ e. cc), (tt, full_so m left es full refl (unmarked es l begins), record { lookup = l; full = full; begins = begins; left = refl })))
        (allowed _ _ _ (λ e. cc) (λ e. cc), ((tt, tt), record { asked = es; lookup = l; allowed = may; begins = begins; number = refl; marked = refl; left = refl })))

  -- the network was asked for a domain
  module _ (may : ctx.ip_name_lookup ≡ true) (host : List ℕ) (is : name_is name ≡ Some (Domain host)) where
    abbrev its : LookupOp
    its = record { id = own; host = host }

    by_told : (t : Told) → IsNames t → Meets ResolveRow (lookup_entry own host t ∷ []) (resolved m own network (lookup_told its (told_names t)))
    by_told told.Pending fits = begun may (Domain host) is (InProgress its) (lookup_entry own host told.Pending ∷ []) (LookupToldPending host is)
    by_told (told.Names names) fits = begun may (Domain host) is (Found (map canonical names)) (lookup_entry own host (told.Names names) ∷ []) (LookupToldNames host names is)
    by_told (told.Code code) fits = ends (allowed may (Domain host) is _ _ _ (λ e. cc) (λ e. cc), (inr (inr refl), (LookupToldCode host code may is, refl)))
    by_told _ fits = absurd fits

    asked : Meets ResolveRow [] (resolve_host m own network (Domain host))
    unfolding bind
    asked = asks (λ t fits. by_told t fits)

  -- by what the context may and what the name is
  by_name : (b : Bool) → ctx.ip_name_lookup ≡ b → (o : Option HostName) → name_is name ≡ o → Meets ResolveRow [] (resolved_host m own network (if b then found_host o else Err PermanentResolverFailure))
  by_name true may (Some (Address a)) is = begun may (Address a) is (Found (a ∷ [])) [] (IsItsAnswer a is)
  by_name true may (Some (Domain host)) is = asked may host is
  by_name true may None is = ends ((λ denied. absurd (cc), λ its. record { forbidden = apart (λ e. cc) (λ denied. cc); unnamed = (λ e. (may, is), λ k. refl) }), (inr (inl refl), (NoName may is, refl)))
  by_name false denied o is = ends ((λ e. (refl, refl), λ its. record { forbidden = (λ e. denied, λ k. refl); unnamed = apart (λ e. cc) (λ k. let allows = k.0 in cc) }), (inl refl, (LookupNotAllowed denied, refl)))

  pub resolve : Meets (Says contexts m line (step.Call c (guest.Names (name_call.Resolve network name)))) [] (bind (resolve_asks m own ctx network name) (λ done. Give (handle_reply done.0, done.1)))
  resolve =
      onto _ (branch (is_network (kind_at m.table network)) (λ its. by_name ctx.ip_name_lookup refl (name_is name) refl)
      (λ none. ends ((λ denied. (refl, refl), λ its. absurd (cc)), (none, (refl, refl)))))
