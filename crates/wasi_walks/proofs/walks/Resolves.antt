-- Lookups of 0.3, as moves: the network is asked, and the call stands beside others while it is pending.
use Rattle.std.specs.Prelude.{◌≡◌, ℕ, List, ◌++◌, ◌∷◌, [], Some, Result, Ok, Err, refl}
use Rattle.std.proofs.Common.{subst, sym}
use Rattle.wasi_addr.specs.declared.address.IpAddress.{IpAddress}
use Rattle.wasi_addr.specs.declared.lookup.ErrorCode.{ErrorCode}
use Rattle.wasi_names.specs.declared.name.HostName.{HostName}
use Rattle.wasi_names.specs.declared.name.HostName.TheVariants.{Address, Domain}
use Rattle.wasi_names.specs.Names.{host_for}
use Rattle.wasi_world.specs.declared.asks.Polled.{Polled}
use Rattle.wasi_world.specs.declared.asks.Polled.TheVariants as polled
use Rattle.wasi_world.specs.declared.call.Call.TheVariants.{Lookup}
use Rattle.wasi_world.specs.Asks.{Give, bind}
use Rattle.wasi_world.specs.Typed.{told_names}
use Rattle.record_common.specs.Names.{own_of}
use Rattle.host_store.specs.declared.beside.Beside.{Beside}
use Rattle.host_store.specs.declared.beside.BesideCall.TheVariants.{Resolve}
use Rattle.host_store.specs.declared.machine.Machine.{Machine}
use Rattle.host_store.specs.Beside.{beside_as, beside_of, beside_polled, besided}
use Rattle.host_store.specs.Block.{after_call, give as gives_all}
use Rattle.host_store.specs.Lines.{same_stop, storing}
use Rattle.host_lookups.specs.Resolves.{Resolved, begun_lookup, names_told, resolve_of, reresolve_of}
use Rattle.host_store.specs.Store.{Records}
use Rattle.wasi_machine.specs.Machine.{context_at}
use Rattle.wasi_p3.specs.Lookup.{resolve, resolve_host}
use Rattle.wasi_steps.specs.declared.guest_call.GuestCall.TheVariants as guest
use Rattle.wasi_steps.specs.declared.guest_call.P3NameCall.TheVariants as p3_name_call
use Rattle.wasi_steps.specs.declared.step.Step.{Step}
use Rattle.wasi_steps.specs.declared.step.Step.TheVariants as step
use Rattle.wasi_walks.proofs.Words.{WasiSocketsCtx, entry}
use Rattle.wasi_walks.proofs.walks.Asked.{LooksBeside, ResolvesBeside}
use Rattle.wasi_walks.proofs.walks.Law.{Law, Walks, and_then, give, gives, move}
use Rattle.wasi_walks.proofs.walks.Lookups.{allowed_host}
use Rattle.wasi_walks.proofs.walks.Moves.{EndsBeside, LooksUp, Spends, Unused, with_beside}
use Rattle.wasi_walks.proofs.walks.States.{Over, OverIn, OverWith, Starts}

module _ {contexts : List WasiSocketsCtx} {line : ℕ} {origin : Step} {law : Law contexts line origin} where
  -- == one begins
  begun_walks : (m : Machine) (host : List ℕ) (told : Polled (List IpAddress))
      → Walks law (with_beside (Over m) (begun_lookup m.store.beside (beside_as line (Resolve host)) (Ok told))) (OverIn m) (Give (besided (beside_as line (Resolve host)) (names_told told, m.store)))
  begun_walks m host polled.Pending = give _
  begun_walks m host (polled.Ready names) = give _
  begun_walks m host (polled.Code c) = give _

  resolve_of_walks : (m : Machine) (host : List ℕ) → LooksUp contexts host origin → Walks law (Over m) (OverIn m) (resolve_of line host m.store)
  unfolding bind
  resolve_of_walks m host may = record {
    along = λ es i.
        let a = law.asks es (Over m) _ _ _ (ResolvesBeside host may) tt i in
        (a.0, λ told fits. (begun_walks m host (told_names told)).along (es ++ entry (own_of line) (Lookup host) told ∷ []) (a.1 told fits));
  }

  module _ (m : Machine) (c : ℕ) (name : List ℕ) (is : origin ≡ step.Call c (guest.P3Names (p3_name_call.Resolve name))) where
    stored : (done : Resolved × Records) → Walks law (OverIn m done) OverWith (after_call same_stop storing gives_all m done)
    stored (Ok answer, store) = give _
    stored (Err stop, store) = give _

    by_host : (r : Result HostName ErrorCode) → host_for (context_at contexts c) name ≡ r → Walks law (Over m) OverWith (resolve_host line r m)
    by_host (Err why) e = give _
    by_host (Ok (Address a)) e = give _
    by_host (Ok (Domain host)) e = and_then (resolve_of_walks m host (subst (LooksUp contexts host) (sym is) (allowed_host (context_at contexts c) name host e))) stored

    pub p3_resolve_walks : Walks law (Starts m Unused) OverWith (resolve line (context_at contexts c) name m)
    p3_resolve_walks = move (Spends _ refl) (by_host (host_for (context_at contexts c) name) refl)

  -- == one that was pending is asked about again where it stands, and is over where it isn't pending any more
  pub reresolve_walks : (m : Machine) (n : ℕ) (b : Beside) (host : List ℕ) → beside_of m.store n ≡ Some b → b.call ≡ Resolve host
      → Walks law (Over m) (OverIn m) (reresolve_of n host m.store)
  unfolding bind
  reresolve_walks m n b host g e = record {
    along = λ es i.
        let a = law.asks es (Over m) _ _ _ (LooksBeside n b host g e) tt i in
        (a.0, λ told fits. (answered (told_names told)).along (es ++ entry (own_of n) (Lookup host) told ∷ []) (a.1 told fits));
  }
    where
      answered : (told : Polled (List IpAddress)) → Walks law (Over m) (OverIn m) (Give (beside_polled n (names_told told, m.store)))
      answered polled.Pending = give _
      answered (polled.Ready names) = gives _ (EndsBeside _ n)
      answered (polled.Code c) = gives _ (EndsBeside _ n)
