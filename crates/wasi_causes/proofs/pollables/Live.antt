-- What waits leave pending: nothing, or a wait for what is there.
use Rattle.wasi_causes.proofs.Words.{◌≡◌, ◌≢◌, ◌∙◌, ◌==◌, ℕ, Bool, true, false, if◌then◌else◌, List, [], ◌∷◌, Option, None, Result, Ok, Err, IfSome, eqb-true, refl, sym, subst, inl, inr, Answered, Entry, Give, Left, Machine, NoSuchHandle, Reply, Standing, Stop, Trap, WasiSocketsCtx, asks_while, first_ids, kind_at, truth_reply, watch_of}
use Rattle.std.specs.Prelude.{◌⊎◌}
use Rattle.wasi_world.specs.declared.ids.Ids.{Ids}
use Rattle.host_store.specs.declared.store.BlockingCall.TheVariants as blocking
use Rattle.wasi_host.specs.declared.polling.Look.{Look}
use Rattle.wasi_host.specs.declared.polling.Look.TheVariants.{First}
use Rattle.wasi_host.specs.Polling.{Found}
use Rattle.wasi_steps.specs.declared.reply.Reply.TheVariants as reply
use Rattle.wasi_steps.specs.declared.guest_call.GuestCall.TheVariants as guest
use Rattle.wasi_steps.specs.declared.guest_call.PollableCall.TheVariants as pollable_call
use Rattle.wasi_steps.specs.declared.step.Step.TheVariants as step
use Rattle.wasi_walks.specs.Missing.{MissesOneOf, MissesWatched}
use Rattle.wasi_causes.proofs.pollables.Looks.{LookKeeps, ReadyRow, begins_there, keeps_same, keeps_then, missed_before, missed_one, ready_facts, stay_same}
use Rattle.wasi_causes.proofs.tables.Meets.{met, onto, widen}
use Rattle.wasi_causes.specs.Datagrams.{HasItsHandle}
use Rattle.wasi_causes.specs.PollableCalls.{BeginsToWait, BlocksOn, Finds, LooksAs, LooksInTurn, WaitsOn, different, is_among, not_among, waiting}
use Rattle.wasi_causes.specs.PollableCalls as on

-- what is pending is on what is there
abbrev pub StandsOn : Machine → Type 0
StandsOn m = IfSome m.store.standing (λ s. HasItsHandle m s.call)

free_so : (m : Machine) → m.store.standing ≡ None → StandsOn m
free_so m free = subst (λ (o : Option Standing). IfSome o (λ s. HasItsHandle m s.call)) (sym free) tt

-- == a look
module _ (contexts : List WasiSocketsCtx) (m : Machine) (line c p : ℕ) where
  -- as a step: what it keeps, and that it found something out, or traps
  abbrev KeptBy : Reply → Machine → Type 0
  KeptBy r after = LookKeeps m after × ((r ≡ reply.Trap NoSuchHandle) ⊎ (MissesWatched m (watch_of (kind_at m.table p)) → ⊥))

  kept_so : (es : List Entry) (done : Result Bool Stop × Machine) → ReadyRow m (first_ids line) p es done → KeptBy (truth_reply done.0) done.1
  kept_so es (Ok b, after) k = (k.1.0, inr k.1.1)
  kept_so es (Err (Trap NoSuchHandle), after) k = (subst (LookKeeps m) (sym k.1.2) (keeps_same m), inl refl)
  kept_so es (Err _, after) k = absurd k.1

  ready_kept : m.store.standing ≡ None → (es : List Entry) (r : Reply) (after : Machine) → Answered contexts m line (step.Call c (guest.Pollable (pollable_call.Ready p))) es r after → KeptBy r after
  ready_kept free es r after w =
      met {Row = λ gs done. KeptBy done.0 done.1} {a = (r, after)} (onto _ (widen kept_so (ready_facts m (first_ids line) p))) (subst (λ (o : Option Standing). Left (asks_while contexts m line (step.Call c (guest.Pollable (pollable_call.Ready p))) o) es (Give (r, after))) free w)

  pub ready_free : m.store.standing ≡ None → (es : List Entry) (r : Reply) (after : Machine) → Answered contexts m line (step.Call c (guest.Pollable (pollable_call.Ready p))) es r after → after.store.standing ≡ None
  ready_free free es r after w = (ready_kept free es r after w).0.standing ∙ free

  look_kept : m.store.standing ≡ None → {look : Look} (es : List Entry) (r : Reply) (after : Machine) → r ≢ reply.Trap NoSuchHandle → LooksAs contexts m c line p look es r after → LookKeeps m after × (MissesWatched m (watch_of (kind_at m.table p)) → ⊥)
  look_kept free _ _ _ other (on.LooksFirst es r after w) = let k = ready_kept free es r after w in (k.0, elim k.1 [ inl e ↦ absurd (other e) | inr there ↦ there ])
  look_kept free _ _ _ other (on.LooksAgain es r after none w) = let k = ready_kept free es r after w in (k.0, elim k.1 [ inl e ↦ absurd (other e) | inr there ↦ there ])
  look_kept free _ _ _ other (on.WouldBegin begins) = (keeps_same m, begins_there m (first_ids line) p (watch_of (kind_at m.table p)) begins)

-- one of a wait for several
finds_kept : (m : Machine) (ids : Ids) (p : ℕ) {look : Look} (es : List Entry) (ready : Bool) (mid : Machine) → Finds m ids p look es ready mid → LookKeeps m mid × (MissesWatched m (watch_of (kind_at m.table p)) → ⊥)
finds_kept m ids p _ _ _ (on.FindsFirst es ready after w) = let k = met {a = (Ok ready, after)} (ready_facts m ids p) w in (k.1.0, k.1.1)
finds_kept m ids p _ _ _ (on.FindsAgain es ready after none w) = let k = met {a = (Ok ready, after)} (ready_facts m ids p) w in (k.1.0, k.1.1)
finds_kept m ids p _ _ _ (on.FindsToBegin begins) = (keeps_same m, begins_there m ids p (watch_of (kind_at m.table p)) begins)

-- all of them: what each watches is there
turn_kept : {look : Look} (m : Machine) (ids : Ids) (ps : List ℕ) (es : List Entry) (found : Found) (after : Machine) → LooksInTurn look m ids ps es found after → LookKeeps m after × (MissesOneOf after ps → ⊥)
turn_kept _ _ _ _ _ _ (on.NoMore m ids) = (keeps_same m, λ none. none)
turn_kept _ _ _ _ _ _ (on.OneMore m mid after ids p others es fs ready found k looks) = with_rest (finds_kept m ids p es ready mid k) (turn_kept mid _ others fs found after looks)
  where
    with_rest : LookKeeps m mid × (MissesWatched m (watch_of (kind_at m.table p)) → ⊥) → LookKeeps mid after × (MissesOneOf after others → ⊥) → LookKeeps m after × (MissesOneOf after (p ∷ others) → ⊥)
    with_rest one rest = let all = keeps_then one.0 rest.0 in (all, λ missing. elim missing [ inl none ↦ one.1 (missed_before m after all.there all.table p none) | inr none ↦ rest.1 none ])

-- == one of them that is missed is one of the different ones
module _ (m : Machine) where
  among : (before : List ℕ) (p : ℕ) → is_among before p ≡ true → MissesWatched m (watch_of (kind_at m.table p)) → MissesOneOf m before
  among [] p e missing = absurd (cc)
  among (q ∷ before) p e missing = by (q == p) refl e (λ rest. among before p rest missing)
    where
      by : (b : Bool) → (q == p) ≡ b → (if b then true else is_among before p) ≡ true → (is_among before p ≡ true → MissesOneOf m before) → MissesOneOf m (q ∷ before)
      by true same h rest = inl (subst (λ (k : ℕ). MissesWatched m (watch_of (kind_at m.table k))) (sym (eqb-true q p same)) missing)
      by false other h rest = inr (rest h)

  others_too : (before ps : List ℕ) → MissesOneOf m ps → MissesOneOf m before ⊎ MissesOneOf m (not_among before ps)
  others_too before [] missing = absurd missing
  others_too before (p ∷ ps) missing = by (is_among before p) refl (λ rest. others_too before ps rest) (λ rest. others_too (p ∷ before) ps rest) missing
    where
      by : (b : Bool) → is_among before p ≡ b → (MissesOneOf m ps → MissesOneOf m before ⊎ MissesOneOf m (not_among before ps)) → (MissesOneOf m ps → MissesOneOf m (p ∷ before) ⊎ MissesOneOf m (not_among (p ∷ before) ps))
          → MissesOneOf m (p ∷ ps) → MissesOneOf m before ⊎ MissesOneOf m (if b then not_among before ps else p ∷ not_among (p ∷ before) ps)
      by true e same new (inl none) = inl (among before p e none)
      by true e same new (inr rest) = same rest
      by false e same new (inl none) = inr (inl none)
      by false e same new (inr rest) = elim (new rest) [
        | inl one ↦ elim one [ inl none ↦ inr (inl none) | inr none ↦ inl none ]
        | inr none ↦ inr (inr none)
      ]

  of_different : (ps : List ℕ) → MissesOneOf m ps → MissesOneOf m (different ps)
  of_different ps missing = elim (others_too [] ps missing) [ inl none ↦ absurd none | inr none ↦ none ]

-- == what they leave
-- a wait for one
pub block_live : (contexts : List WasiSocketsCtx) (c : ℕ) (ids : Ids) (m : Machine) (p : ℕ) (look : Look) (es : List Entry) (r : Reply) (after : Machine) → m.store.standing ≡ None → BlocksOn contexts m c ids p look es r after → StandsOn after
block_live contexts c ids m p look _ _ _ free (on.IsReady es after looks) = let k = look_kept contexts m ids.line c p free es _ after (λ e. cc) looks in free_so after (k.0.standing ∙ free)
block_live contexts c ids m p look _ _ _ free (on.IsUnready es after looks) =
    let k = look_kept contexts m ids.line c p free es _ after (λ e. cc) looks in
    (λ missing. k.1 (missed_before m after k.0.there k.0.table p (missed_before after (waiting after (first_ids ids.line) (blocking.Block p)) (stay_same after.store.records) refl p missing)), tt)
block_live contexts c ids m p look _ _ _ free (on.IsMissing missing looks) = free_so m free

-- a wait for several
pub list_live : (m : Machine) (ids : Ids) (ps : List ℕ) (look : Look) (es : List Entry) (r : Reply) (after : Machine) → m.store.standing ≡ None → WaitsOn m ids ps look es r after → StandsOn after
list_live m ids ps look _ _ _ free (on.SomeAreReady es found first others after looks e) = let k = turn_kept m ids (different ps) es found after looks in free_so after (k.0.standing ∙ free)
list_live m ids ps look _ _ _ free (on.NoneIsReady es found after looks e) =
    let k = turn_kept m ids (different ps) es found after looks in
    (λ missing. k.1 (of_different after ps (missed_one after (waiting after ids (blocking.Poll ps)) (stay_same after.store.records) refl ps missing)), tt)
list_live m ids ps look _ _ _ free (on.OneIsMissing before others p es found mid cut looks missing) = let k = turn_kept m ids before es found mid looks in free_so mid (k.0.standing ∙ free)

-- == the handles
pub block_keeps : (contexts : List WasiSocketsCtx) (c : ℕ) (ids : Ids) (m : Machine) (p : ℕ) (look : Look) (es : List Entry) (r : Reply) (after : Machine) → m.store.standing ≡ None → BlocksOn contexts m c ids p look es r after → after.table ≡ m.table
block_keeps contexts c ids m p look _ _ _ free (on.IsReady es after looks) = (look_kept contexts m ids.line c p free es _ after (λ e. cc) looks).0.table
block_keeps contexts c ids m p look _ _ _ free (on.IsUnready es after looks) = (look_kept contexts m ids.line c p free es _ after (λ e. cc) looks).0.table
block_keeps contexts c ids m p look _ _ _ free (on.IsMissing missing looks) = refl

pub list_keeps : (m : Machine) (ids : Ids) (ps : List ℕ) (look : Look) (es : List Entry) (r : Reply) (after : Machine) → WaitsOn m ids ps look es r after → after.table ≡ m.table
list_keeps m ids ps look _ _ _ (on.SomeAreReady es found first others after looks e) = (turn_kept m ids (different ps) es found after looks).0.table
list_keeps m ids ps look _ _ _ (on.NoneIsReady es found after looks e) = (turn_kept m ids (different ps) es found after looks).0.table
list_keeps m ids ps look _ _ _ (on.OneIsMissing before others p es found mid cut looks missing) = (turn_kept m ids before es found mid looks).0.table

pub begun_keeps : (m : Machine) (line : ℕ) (ps : List ℕ) (es : List Entry) (r : Reply) (after : Machine) → BeginsToWait m line ps es r after → after.table ≡ m.table
begun_keeps m line ps _ _ _ (on.ForNone e) = refl
begun_keeps m line ps _ _ _ (on.NoPollable some none) = refl
begun_keeps m line ps _ _ _ (on.AllPollables es r after some all k) = list_keeps m (first_ids line) ps First es r after k
