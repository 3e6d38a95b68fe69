-- Lookups of host names, as moves: one begins, a turn asks about it, its addresses are handed out, and it is dropped.
use Rattle.std.specs.Prelude.{◌≡◌, ⊤, ℕ, Bool, true, false, if◌then◌else◌, List, [], ◌∷◌, ◌++◌, Option, Some, None, is_some, Result, Ok, Err}
use Rattle.memory_streams.specs.Plain.{Contents}
use Rattle.wasi_addr.specs.declared.address.IpAddress.{IpAddress}
use Rattle.wasi_addr.specs.declared.lookup.ErrorCode.{ErrorCode}
use Rattle.wasi_addr.specs.declared.lookup.ErrorCode.TheVariants.{PermanentResolverFailure}
use Rattle.wasi_names.specs.declared.name.HostName.{HostName}
use Rattle.wasi_names.specs.declared.name.HostName.TheVariants.{Address, Domain}
use Rattle.wasi_names.specs.Names.{found_host, host_for, name_is}
use Rattle.wasi_walks.proofs.Words.{Asks, Ask, Call, Full, Give, HandleTable, Kind, Machine, OpId, GuestCall, Step, Stop, Told, Trap, WasiSocketsCtx}
use Rattle.wasi_walks.proofs.Words.{ap, ask_made, bind, context_at, entry, inl, inr, is_full, is_network, kind_at, make_asks, name_of, own_of, refl, subst, sym, with_handle, with_store, ◌∙◌}
use Rattle.wasi_world.specs.declared.asks.Polled.{Polled}
use Rattle.wasi_world.specs.Typed.{told_names}
use Rattle.wasi_host.specs.HandleDrops.{answered, at_once}
use Rattle.lookup_records.specs.NameLookup.{lookup_told, next_of, is_looking}
use Rattle.wasi_records.specs.Records.{turn_lookup_at}
use Rattle.host_lookups.specs.NameLookupCalls.{drop_lookup_at, looked_up, lookup_handle, next_at, resolve_host, resolved, with_lookup}
use Rattle.wasi_records.specs.Records.{lookup_at, lookup_of, lookup_put, lookup_pushed}
use Rattle.lookup_records.specs.declared.name_lookup.Lookup.{Lookup}
use Rattle.lookup_records.specs.declared.name_lookup.Lookup.TheVariants.{InProgress, Found, Failed}
use Rattle.lookup_records.specs.declared.name_lookup.LookupOp.{LookupOp}
use Rattle.host_store.specs.declared.kind.Kind.TheVariants.{Lookup as LookupHandle}
use Rattle.wasi_records.specs.declared.records.Record.{Record}
use Rattle.wasi_records.specs.declared.records.Record.TheVariants.{Lookup as LookupRecord}
use Rattle.wasi_p2.specs.Lookup.{next_address_on, resolve_asks, resolved_host}
use Rattle.wasi_walks.proofs.Lists.{get_seam}
use Rattle.wasi_walks.proofs.walks.Moves.{ALookup, Emptied, Finds, GivesBack, WhenIdle, Here, KeepsJobs, Leaves, Lists, LooksUp, Numbered, Numbers, OfLookup, OfUnnamed, SameSockets, Spends, Unused, with_records}
use Rattle.wasi_walks.proofs.walks.Asked.{Looks, Resolves}
use Rattle.wasi_walks.proofs.walks.Law.{Given, Law, Walks, and_given, by_if, give, gives, mark, move}
use Rattle.wasi_walks.proofs.walks.Jobs.{lookup_is_record, may_begin_one}
use Rattle.wasi_jobs.specs.declared.job.HostJob.TheVariants as jobs
use Rattle.std.specs.Prelude.{length, slice_get}
use Rattle.wasi_walks.proofs.walks.States.{Numbering, Over, OverWith, Sets, Starts}
use Rattle.tcp_records.specs.declared.slot.Slot.{Slot}
use Rattle.wasi_walks.proofs.Places.{slot_sort, there_push, there_put, input_sort, lookup_sort, other_push, other_put, output_sort, push_found, push_last, push_some, put_found, put_some, tcp_sort, udp_sort}
use Rattle.wasi_steps.specs.declared.guest_call.NameCall.{NameCall}

-- == the sockets are the same
same_sockets : {new : LookupOp → Type 0} (xs : List Record) → SameSockets new xs xs
same_sockets xs = record { tcp = λ k. refl; udp = λ k. refl; stays = λ k e. e; inputs = λ k e. e; outputs = λ k e. e; slots = λ k e. e; there = λ k e. e; looks = λ k op e. inl e }

-- a lookup joins the records
same_by_push : {new : LookupOp → Type 0} (xs : List Record) (l : Lookup) → ((op : LookupOp) → l ≡ InProgress op → new op) → SameSockets new xs (lookup_pushed xs l)
same_by_push xs l n = record {
  tcp = other_push lookup_sort tcp_sort (λ t. refl) xs l;
  udp = other_push lookup_sort udp_sort (λ t. refl) xs l;
  stays = push_some lookup_sort xs (Record.Lookup l);
  inputs = λ k e. ap (λ (o : Option (List ℕ)). is_some o) (other_push lookup_sort input_sort (λ t. refl) xs l k) ∙ e;
  outputs = λ k e. ap (λ (o : Option Contents). is_some o) (other_push lookup_sort output_sort (λ t. refl) xs l k) ∙ e;
  slots = λ k e. ap (λ (o : Option Slot). is_some o) (other_push lookup_sort slot_sort (λ t. refl) xs l k) ∙ e;
  there = there_push xs (Record.Lookup l);
  looks = λ k op e. elim (push_found lookup_sort xs l k (InProgress op) e) [ inl p ↦ inl p | inr p ↦ inr (n op p.0) ];
}

-- a lookup changes, and is in progress only as it was
same_by_put : {new : LookupOp → Type 0} (xs : List Record) (i : ℕ) (old l : Lookup) → lookup_at xs i ≡ Some old → ((op : LookupOp) → l ≡ InProgress op → old ≡ InProgress op) → SameSockets new xs (lookup_put xs i l)
same_by_put xs i old l at n = record {
  tcp = λ k. other_put lookup_sort tcp_sort (λ t. refl) xs i old l k at;
  udp = λ k. other_put lookup_sort udp_sort (λ t. refl) xs i old l k at;
  stays = put_some lookup_sort xs i l;
  inputs =
      λ k e. ap (λ (o : Option (List ℕ)). is_some o) (other_put lookup_sort input_sort (λ t. refl) xs i old l k at) ∙
      e;
  outputs =
      λ k e. ap (λ (o : Option Contents). is_some o) (other_put lookup_sort output_sort (λ t. refl) xs i old l k at) ∙
      e;
  slots = λ k e. ap (λ (o : Option Slot). is_some o) (other_put lookup_sort slot_sort (λ t. refl) xs i old l k at) ∙ e;
  there = there_put xs i (Record.Lookup l);
  looks = λ k op e. elim (put_found lookup_sort xs i l k (InProgress op) e) [ inl p ↦ inl (ap (lookup_at xs) p.0 ∙ (at ∙ ap (λ (x : Lookup). Some x) (n op p.1))) | inr p ↦ inl p ];
}

-- what was told leaves the same one in progress, or none
same_asked : (op : LookupOp) (told : Polled (List IpAddress)) (now : LookupOp) → lookup_told op told ≡ InProgress now → op ≡ now
same_asked op Polled.Pending now e = cc
same_asked op (Polled.Ready names) now e = absurd (cc)
same_asked op (Polled.Code c) now e = absurd (cc)

-- and so does what is handed out
next_asked : (l : Lookup) (op : LookupOp) → (next_of l).1 ≡ InProgress op → l ≡ InProgress op
next_asked (InProgress now) op e = e
next_asked (Found []) op e = absurd (cc)
next_asked (Found (a ∷ left)) op e = absurd (cc)
next_asked Failed op e = absurd (cc)

-- what may be looked up
pub allowed_host : (ctx : WasiSocketsCtx) (name host : List ℕ) → host_for ctx name ≡ Ok (Domain host) → (ctx.ip_name_lookup ≡ true) × (name_is name ≡ Some (Domain host))
allowed_host ctx name host e = by_test ctx.ip_name_lookup refl (name_is name) refl e
  where
    by_test : (b : Bool) → ctx.ip_name_lookup ≡ b → (o : Option HostName) → name_is name ≡ o → (let r : Result HostName ErrorCode = if b then found_host o else Err PermanentResolverFailure in r ≡ Ok (Domain host)) → (ctx.ip_name_lookup ≡ true) × (name_is name ≡ Some (Domain host))
    by_test true t (Some h) n e = let same : h ≡ Domain host = cc in (t, n ∙ ap (λ (x : HostName). Some x) same)
    by_test true t None n e = absurd (cc)
    by_test false t o n e = absurd (cc)

-- the records with a lookup that was begun; one that failed at once has none
abbrev begun_in : List Record → Lookup → List Record
begun_in xs Failed = xs
begun_in xs l = lookup_pushed xs l

begun_same : {new : LookupOp → Type 0} (xs : List Record) (l : Lookup) → ((op : LookupOp) → l ≡ InProgress op → new op) → SameSockets new xs (begun_in xs l)
begun_same xs Failed n = same_sockets xs
begun_same xs l n = same_by_push xs l n

-- its record is there before its handle
abbrev Recorded : Machine → Lookup → HandleTable → Here
Recorded m l t = let h : Here = with_records (Numbering m) (lookup_pushed m.store.records l) in record h { machine = record h.machine { table = t } }

-- the job that it may have is of that record
job_begins : (m : Machine) (l : Lookup) → KeepsJobs (lookup_pushed m.store.records l) m.store.jobs (with_lookup m.store l).jobs
job_begins m l =
    let records = lookup_pushed m.store.records l in
    let n = length m.store.records in
    may_begin_one records m.store.jobs (jobs.Lookup n) (is_looking l) (lookup_is_record (slice_get records n) (push_last lookup_sort m.store.records l))

-- where no handle is made the next one is the same
abbrev SameNext : HandleTable → Result ℕ Stop × HandleTable → Type 0
SameNext t (Ok handle, now) = ⊤
SameNext t (Err why, now) = now.next ≡ t.next

full_given : (t : HandleTable) (op : OpId) (kind : Kind) (parent : Option ℕ) (sock : Option OpId) → Given (SameNext t) (make_asks t op kind parent sock)
unfolding bind
full_given t op kind parent sock = by_test (is_full t)
  where
    by_test : (b : Bool) → Given (SameNext t) (if b then Give (Err (Trap Full), t) else bind (ask_made op t.next (name_of kind) parent sock) (λ done. Give (Ok t.next, with_handle t kind parent)))
    by_test true = refl
    by_test false = λ told. tt

module _ {contexts : List WasiSocketsCtx} {line : ℕ} {origin : Step} {law : Law contexts line origin} where
  -- == a lookup begins
  -- the network is asked for a host, and a record may be made of what it answers
  looks_up : {A : Type 0} {h : Here} {end : A → Here} {host : List ℕ} {next : Told → Asks A} (records : Told → List Record) → LooksUp contexts host origin → ((told : Told) → SameSockets (λ op. op ≡ record { id = own_of line; host = host }) h.machine.store.records (records told))
      → ((told : Told) → Walks law (with_records h (records told)) end (next told)) → Walks law h end (Ask (own_of line) (Call.Lookup host) next)
  looks_up {h} {host} records l s k = record {
    along = λ es i.
        let a = law.asks es h _ _ _ (Resolves host records l s) tt i in
        (a.0, λ told fits. (k told).along (es ++ entry (own_of line) (Call.Lookup host) told ∷ []) (a.1 told fits));
  }

  module _ (m : Machine) (idle : m.store.standing ≡ None) (c network : ℕ) (name : List ℕ) (is : origin ≡ Step.Call c (GuestCall.Names (NameCall.Resolve network name))) where
    -- where it has no handle it is given back
    looked_up_walks : (l : Lookup) (made : Result ℕ Stop × HandleTable) → SameNext m.table made → Walks law (Recorded m l made.1) OverWith (Give (looked_up m l made))
    looked_up_walks l (Ok handle, t) k = move (Lists _ _ (job_begins m l)) (gives _ (Leaves _))
    looked_up_walks l (Err why, t) k =
        let n : ℕ = length m.store.records in
        move (Lists _ _ (job_begins m l)) (move (GivesBack _ n (WhenIdle idle) (OfUnnamed l (ap (λ (next : ℕ). Numbered n next) (sym k)) (ap lookup_of (get_seam m.store.records (LookupRecord l))))) (gives _ (Leaves _)))

    -- its record was made, and it gets its handle
    handle_walks : (l : Lookup) → Walks law (Recorded m l m.table) OverWith (lookup_handle m (own_of line) network l)
    handle_walks l =
        and_given (SameNext m.table) (full_given m.table (own_of line) (LookupHandle (length m.store.records)) (Some network) None)
        (mark {h = Recorded m l m.table} (ALookup c network _ name is (push_last lookup_sort m.store.records l) refl)) (looked_up_walks l)

    resolved_walks : (l : Lookup) → Walks law (with_records (Numbering m) (begun_in m.store.records l)) OverWith (resolved m (own_of line) network l)
    resolved_walks Failed = gives _ (Leaves _)
    resolved_walks l = handle_walks l

    host_walks : (host : HostName) → host_for (context_at contexts c) name ≡ Ok host → Walks law (Numbering m) OverWith (resolve_host m (own_of line) network host)
    unfolding bind
    host_walks (Address a) e = move (Finds _ _ (same_by_push m.store.records (Found (a ∷ [])) (λ op e. absurd (cc)))) (handle_walks (Found (a ∷ [])))
    host_walks (Domain host) e =
        let asked : LookupOp = record { id = own_of line; host = host } in
        looks_up (λ told. begun_in m.store.records (lookup_told asked (told_names told))) (subst (LooksUp contexts host) (sym is) (allowed_host (context_at contexts c) name host e))
        (λ told. begun_same m.store.records (lookup_told asked (told_names told)) (λ op e. sym (same_asked asked (told_names told) op e))) (λ told. resolved_walks (lookup_told asked (told_names told)))

    by_host : (r : Result HostName ErrorCode) → host_for (context_at contexts c) name ≡ r → Walks law (Over m) OverWith (resolved_host m (own_of line) network r)
    by_host (Ok host) e = move (Numbers _) (host_walks host e)
    by_host (Err why) e = give _

    pub resolve_walks : Walks law (Starts m Unused) OverWith (resolve_asks m (own_of line) (context_at contexts c) network name)
    resolve_walks = move (Spends _ refl) (by_if (is_network (kind_at m.table network)) (λ yes. by_host (host_for (context_at contexts c) name) refl) (λ other. give _))

  -- == addresses are handed out
  next_walks : (m : Machine) (place : ℕ) (o : Option Lookup) → lookup_at m.store.records place ≡ o → Walks law (Starts m Unused) (λ now. Over now) (Give (with_store m (next_at m.store place o)).1)
  next_walks m place None e = gives _ (Spends _ refl)
  next_walks m place (Some l) e = move (Spends _ refl) (gives _ (Finds _ _ (same_by_put m.store.records place l (next_of l).1 e (next_asked l))))

  pub next_address_walks : (m : Machine) (o : Option ℕ) → Walks law (Starts m Unused) (λ now. Over now) (Give (next_address_on m o).1)
  next_address_walks m None = gives _ (Spends _ refl)
  next_address_walks m (Some place) = next_walks m place (lookup_at m.store.records place) refl

  -- == a turn
  looked_walks : (m : Machine) (records : List Record) (place : ℕ) (l : Lookup) → lookup_at records place ≡ Some l → Walks law (Sets m records) (Sets m) (turn_lookup_at records place (Some l))
  unfolding bind
  looked_walks m records place (InProgress op) e = record {
    along = λ es i.
        let a = law.asks es (Sets m records) _ _ _ (Looks place op e) tt i in (
          a.0,
          λ told fits.
              let now : Lookup = lookup_told op (told_names told) in
              law.moves (es ++ entry op.id (Call.Lookup op.host) told ∷ []) (Sets m records) _ (Finds _ _ (same_by_put records place (InProgress op) now e (λ x p. ap (λ (y : LookupOp). InProgress y) (same_asked op (told_names told) x p)))) tt (a.1 told fits),
        );
  }
  looked_walks m records place l e = gives _ (Finds _ _ (same_by_put records place l l e (λ op p. p)))

  pub turn_lookup_walks : (m : Machine) (records : List Record) (place : ℕ) (o : Option Lookup) → lookup_at records place ≡ o → Walks law (Sets m records) (Sets m) (turn_lookup_at records place o)
  turn_lookup_walks m records place None e = give _
  turn_lookup_walks m records place (Some l) e = looked_walks m records place l e

  -- == a drop
  pub drop_lookup_walks : (m : Machine) (place : ℕ) (o : Option Lookup) → lookup_at m.store.records place ≡ o → m.store.standing ≡ None → Walks law (record (Starts m Unused) { made = Emptied (LookupHandle place) }) OverWith (Give (answered (with_store m (at_once (drop_lookup_at m.store place o)))))
  drop_lookup_walks m place None e q = move (Spends _ refl) (gives _ (Leaves _))
  drop_lookup_walks m place (Some l) e q = move (Spends _ refl) (move (GivesBack _ place (WhenIdle q) (OfLookup l refl e)) (gives _ (Leaves _)))
