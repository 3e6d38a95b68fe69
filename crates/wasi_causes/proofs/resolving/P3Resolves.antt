-- A lookup of 0.3 begins.
use Rattle.wasi_causes.proofs.Words.{Bool, Entry, Err, Give, List, Machine, None, Ok, OpId, Option, Reply, Some, Told, WasiSocketsCtx}
use Rattle.wasi_causes.proofs.Words.{[], bind, context_at, false, inr, inl, own_of, refl, true, ℕ, ◌∷◌, ◌≡◌, ◌≢◌}
use Rattle.std.specs.Prelude.{if◌then◌else◌, map}
use Rattle.wasi_addr.specs.Address.{canonical}
use Rattle.wasi_addr.specs.declared.lookup.ErrorCode.TheVariants.{PermanentResolverFailure}
use Rattle.wasi_names.specs.Names.{found_host, name_is}
use Rattle.wasi_names.specs.declared.name.HostName.{HostName}
use Rattle.wasi_names.specs.declared.name.HostName.TheVariants.{Address, Domain}
use Rattle.wasi_world.specs.Fits.{IsNames}
use Rattle.wasi_world.specs.Typed.{told_names}
use Rattle.wasi_world.specs.declared.call.Told.TheVariants as told
use Rattle.host_store.specs.declared.beside.BesideCall.TheVariants.{Resolve}
use Rattle.host_store.specs.Beside.{beside_as, besided}
use Rattle.host_store.specs.Block.{after_call, give}
use Rattle.host_store.specs.Lines.{same_stop, storing}
use Rattle.host_lookups.specs.Resolves.{Resolved, names_told}
use Rattle.wasi_machine.specs.Machine.{lookup_reply}
use Rattle.wasi_p3.specs.Lookup as p3
use Rattle.wasi_steps.specs.declared.reply.CodeWord.TheVariants as word
use Rattle.wasi_steps.specs.declared.reply.Reply.TheVariants as reply
use Rattle.wasi_steps.specs.declared.guest_call.GuestCall.TheVariants as guest
use Rattle.wasi_steps.specs.declared.guest_call.P3NameCall.TheVariants as p3_name_call
use Rattle.wasi_steps.specs.declared.step.Step.TheVariants as step
use Rattle.wasi_causes.proofs.Beside.{found_last}
use Rattle.wasi_causes.proofs.tables.Meets.{Meets, Rows, asks, ends, onto}
use Rattle.wasi_causes.proofs.tables.Routes.{Replied, Says, apart}
use Rattle.wasi_causes.specs.Lookups.{LookupNotAllowed, LookupToldCode, NoName, lookup_entry}
use Rattle.wasi_causes.specs.Outcomes.{Always}
use Rattle.wasi_causes.specs.P3Lookups.{IsItsAnswer, LookupToldNames}

module _ (contexts : List WasiSocketsCtx) (m : Machine) (line c : ℕ) (name : List ℕ) where
  abbrev own : OpId
  own = own_of line

  abbrev ctx : WasiSocketsCtx
  ctx = context_at contexts c

  abbrev ResolveRow : Rows (Resolved × Machine)
  ResolveRow = Replied contexts m line (step.Call c (guest.P3Names (p3_name_call.Resolve name))) (lookup_reply line)

  -- neither word of a name that isn't looked up refuses it
  allowed : ctx.ip_name_lookup ≡ true → (host : HostName) → name_is name ≡ Some host → (es : List Entry) (r : Reply) (after : Machine) → r ≢ reply.Err word.PermanentResolverFailure → r ≢ reply.Err word.InvalidArgument
      → Always contexts m line (step.Call c (guest.P3Names (p3_name_call.Resolve name))) es r after
  allowed may host is es r after one two = (λ denied. absurd (cc), record { forbidden = apart one (λ denied. cc); unnamed = apart two (λ k. let none = k.1 in cc) })

  -- the network was asked for a domain
  module _ (may : ctx.ip_name_lookup ≡ true) (host : List ℕ) (is : name_is name ≡ Some (Domain host)) where
    by_told : (t : Told) → IsNames t → Meets ResolveRow (lookup_entry own host t ∷ []) (after_call same_stop storing give m (besided (beside_as line (Resolve host)) (names_told (told_names t), m.store)))
    by_told told.Pending fits =
        ends (allowed may (Domain host) is _ _ _ (λ e. cc) (λ e. cc), ((refl, found_last m.store.beside (beside_as line (Resolve host))), record { allowed = may; host = host; domain = is; asked = refl; left = refl }))
    by_told (told.Names names) fits =
        ends (allowed may (Domain host) is _ _ _ (λ e. cc) (λ e. cc), ((map canonical names, refl), record { allowed = may; addresses = map canonical names; tells = LookupToldNames host names is; values = refl; left = refl }))
    by_told (told.Code code) fits = ends (allowed may (Domain host) is _ _ _ (λ e. cc) (λ e. cc), (inr (inr refl), (LookupToldCode host code may is, refl)))
    by_told _ fits = absurd fits

    asked : Meets ResolveRow [] (p3.resolve_host line (Ok (Domain host)) m)
    unfolding bind
    asked = asks (λ t fits. by_told t fits)

  -- by what the context may and what the name is
  by_name : (b : Bool) → ctx.ip_name_lookup ≡ b → (o : Option HostName) → name_is name ≡ o → Meets ResolveRow [] (p3.resolve_host line (if b then found_host o else Err PermanentResolverFailure) m)
  by_name true may (Some (Address a)) is = ends (allowed may (Address a) is _ _ _ (λ e. cc) (λ e. cc), ((a ∷ [], refl), record { allowed = may; addresses = a ∷ []; tells = IsItsAnswer a is; values = refl; left = refl }))
  by_name true may (Some (Domain host)) is = asked may host is
  by_name true may None is = ends ((λ denied. absurd (cc), record { forbidden = apart (λ e. cc) (λ denied. cc); unnamed = (λ e. (may, is), λ k. refl) }), (inr (inl refl), (NoName may is, refl)))
  by_name false denied o is = ends ((λ e. (refl, refl), record { forbidden = (λ e. denied, λ k. refl); unnamed = apart (λ e. cc) (λ k. let allows = k.0 in cc) }), (inl refl, (LookupNotAllowed denied, refl)))

  pub p3_resolve : Meets (Says contexts m line (step.Call c (guest.P3Names (p3_name_call.Resolve name)))) [] (bind (p3.resolve line ctx name m) (λ done. Give (lookup_reply line done.0, done.1)))
  p3_resolve = onto _ (by_name ctx.ip_name_lookup refl (name_is name) refl)
