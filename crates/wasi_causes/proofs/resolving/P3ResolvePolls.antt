-- A poll of a lookup that stands beside other calls.
use Rattle.wasi_causes.proofs.Words.{◌≡◌, ℕ, true, false, List, [], ◌∷◌, Some, Result, refl, inl, inr, IsSomeAnd, Answer, Entry}
use Rattle.wasi_causes.proofs.Words.{Machine, Reply, Stop, Told, WasiSocketsCtx, bind, own_of, resumed, resumed_reply, stands_as, with_store}
use Rattle.std.specs.Prelude.{map, ◌≢◌}
use Rattle.wasi_addr.specs.Address.{canonical}
use Rattle.wasi_world.specs.Fits.{IsNames}
use Rattle.wasi_world.specs.Typed.{told_names}
use Rattle.wasi_world.specs.declared.call.Told.TheVariants as told
use Rattle.host_store.specs.declared.beside.Beside.{Beside}
use Rattle.host_store.specs.declared.beside.BesideCall.TheVariants.{Resolve}
use Rattle.wasi_host.specs.declared.pending.Outcome.{Outcome as Given}
use Rattle.host_store.specs.Beside.{beside_of, beside_polled, stands_under}
use Rattle.wasi_host.specs.Pending.{go_on_beside, resolved_on}
use Rattle.host_lookups.specs.Resolves.{names_told}
use Rattle.wasi_steps.specs.declared.reply.Reply.TheVariants as reply
use Rattle.wasi_steps.specs.declared.step.Step.TheVariants as step
use Rattle.wasi_walks.specs.Waiting.{call_over}
use Rattle.wasi_causes.proofs.Beside.{beside_call, is_beside, not_both}
use Rattle.wasi_causes.proofs.tables.Meets.{Meets, Rows, asks, ends}
use Rattle.wasi_causes.proofs.tables.Routes.{apart}
use Rattle.wasi_causes.specs.Lookups.{lookup_entry}
use Rattle.wasi_causes.specs.Outcomes.{Always, BlockedGoesOn, Outcome}
use Rattle.wasi_causes.specs.P3Connects.{BesidePolled, EndsOver, GoesOnBeside, IsBeside, IsOver, OverFound, OverUnresolved, StaysPending}
use Rattle.wasi_causes.specs.P3Lookups.{HasFailed, HasNames, LookupPolled, LooksStill}

module _ (contexts : List WasiSocketsCtx) (m : Machine) (line n : ℕ) (other : stands_as m.store.standing n ≡ false)
    (no_blocking : (es : List Entry) (r : Reply) (after : Machine) → BlockedGoesOn contexts m n es r after)
    (b : Beside) (is : beside_of m.store n ≡ Some b) (host : List ℕ) (call : b.call ≡ Resolve host) where
  abbrev GoneRow : Rows (Result (Answer Given) Stop × Machine)
  GoneRow es done = Outcome contexts m line (step.Poll n) es (resumed_reply n (resumed done).0) (resumed done).1

  on : stands_under m.store n ≡ true
  on = beside_call m n is

  beside : IsBeside m n
  beside = is_beside m n other is

  its_why : (es : List Entry) (r : Reply) (after : Machine) → LookupPolled m n host es r after → IsSomeAnd (beside_of m.store n) (λ b. GoesOnBeside m n es r after b.call)
  its_why es r after why = rw is (rw call why)

  polled_so : (es : List Entry) (r : Reply) (after : Machine) → r ≢ reply.NoSuchCall → BesidePolled m n es r after → Always contexts m line (step.Poll n) es r after
  polled_so es r after found polled = (apart found (λ none. not_both (stands_under m.store n) on none), λ stands. absurd (cc), no_blocking es r after, λ b. polled)

  -- it is over
  over : (es : List Entry) (r : Reply) → IsOver r → LookupPolled m n host es r (call_over m n) → BesidePolled m n es r (call_over m n)
  over es r ended why = record { handles = refl; exclusive = refl; ends = rw is (EndsOver r (call_over m n) ended refl); why = its_why es r (call_over m n) why }

  waits : (es : List Entry) → LookupPolled m n host es (reply.Pending n) m → BesidePolled m n es (reply.Pending n) m
  waits es why = record { handles = refl; exclusive = refl; ends = rw is (rw call (StaysPending m refl)); why = its_why es (reply.Pending n) m why }

  by_told : (t : Told) → IsNames t → GoneRow (lookup_entry (own_of n) host t ∷ []) (resolved_on (with_store m (beside_polled n (names_told (told_names t), m.store))))
  by_told told.Pending fits = (polled_so _ _ m (λ e. cc) (waits _ LooksStill), ((refl, inr (rw is refl)), (inr beside, refl, λ k. refl)))
  by_told (told.Names names) fits =
      (polled_so _ _ (call_over m n) (λ e. cc) (over _ _ (OverFound (map canonical names)) (HasNames names)), (inr (inr (inl (map canonical names, refl))), inr (beside, rw is (rw call (map canonical names, refl)))))
  by_told (told.Code c) fits = (polled_so _ _ (call_over m n) (λ e. cc) (over _ _ OverUnresolved (HasFailed c)), (inr (inr refl), (inr beside, refl)))
  by_told _ fits = absurd fits

  pub lookup_resumes : Meets GoneRow [] (go_on_beside m n (Resolve host))
  unfolding bind
  lookup_resumes = asks (λ t fits. ends (by_told t fits))
