-- How waits for pollables come out, as steps and as polls continue them: what they answer, and what they leave.
use Rattle.wasi_causes.proofs.Words.{◌≡◌, ℕ, Bool, true, false, Answer, Answered, Pending, Ready, List, [], ◌∷◌, None, Result, Ok, Err, refl, sym, subst, Entry, Give, Left, Machine, NoSuchHandle, Reply, Stop, Trap, WasiSocketsCtx, first_ids, kind_at, ready_asks, truth_fields, truth_reply, watch_of, no_fields}
use Rattle.wasi_world.specs.declared.ids.Ids.{Ids}
use Rattle.host_store.specs.declared.store.BlockingCall.TheVariants as blocking
use Rattle.wasi_host.specs.declared.polling.Look.{Look}
use Rattle.wasi_host.specs.declared.polling.Look.TheVariants.{First, Later}
use Rattle.wasi_host.specs.Polling.{Found, begins_at, block_by, blocked_on, look_later, places_given, poll_by, polled_each, ready_places}
use Rattle.wasi_steps.specs.declared.reply.Reply.TheVariants as reply
use Rattle.wasi_steps.specs.declared.guest_call.GuestCall.TheVariants as guest
use Rattle.wasi_steps.specs.declared.guest_call.PollableCall.TheVariants as pollable_call
use Rattle.wasi_steps.specs.declared.step.Step.TheVariants as step
use Rattle.wasi_steps.specs.Reply.{numbers_fields}
use Rattle.wasi_walks.specs.Missing.{MissesOneOf, MissesWatched}
use Rattle.wasi_causes.proofs.pollables.InTurn.{TurnRow, each_turn}
use Rattle.wasi_causes.proofs.pollables.Looks.{LookKeeps, ReadyRow, keeps_same, ready_facts}
use Rattle.wasi_causes.proofs.streams.Composed.{answers_part}
use Rattle.wasi_causes.proofs.tables.Meets.{Meets, Rows, ends, onto, widen}
use Rattle.wasi_causes.specs.PollableCalls.{BlocksOn, IsMissing, IsReady, IsUnready, LooksAgain, LooksAs, LooksFirst, LooksInTurn, NoneIsReady, OneIsMissing, SomeAreReady, WaitsOn, WouldBegin, different, waiting}

-- == for one
module _ (contexts : List WasiSocketsCtx) (m : Machine) (c : ℕ) (ids : Ids) (p : ℕ) where
  -- It is pending, and what it waits for is there.
  pub record StandsBlocked (after : Machine) : Type 0 where
    pub mid : Machine
    pub keeps : LookKeeps m mid
    pub left : after ≡ waiting mid (first_ids ids.line) (blocking.Block p)
    pub there : MissesWatched m (watch_of (kind_at m.table p)) → ⊥

  module _ (look : Look) where
    abbrev Comes : List Entry → Reply → Machine → Type 0
    Comes es r after = m.store.standing ≡ None → BlocksOn contexts m c ids p look es r after

    abbrev pub BlockRow : Rows (Result (Answer (Unit {0})) Stop × Machine)
    BlockRow es (Ok (Ready done), after) = Comes es (reply.Ok no_fields) after × LookKeeps m after
    BlockRow es (Ok Pending, after) = Comes es (reply.Pending ids.line) after × StandsBlocked after
    BlockRow es (Err (Trap NoSuchHandle), after) = Comes es (reply.Trap NoSuchHandle) after × MissesWatched m (watch_of (kind_at m.table p)) × (es ≡ []) × (after ≡ m)
    BlockRow es (Err _, after) = ⊥

    module _ (its : (es : List Entry) (r : Reply) (after : Machine) → Answered contexts m ids.line (step.Call c (guest.Pollable (pollable_call.Ready p))) es r after → LooksAs contexts m c ids.line p look es r after) where
      did : (es : List Entry) (given : Result Bool Stop) (after : Machine) → Left (ready_asks m (first_ids ids.line) p) es (Give (given, after)) → m.store.standing ≡ None → Answered contexts m ids.line (step.Call c (guest.Pollable (pollable_call.Ready p))) es (truth_reply given) after
      did es given after w free = answers_part contexts m ids.line (step.Call c (guest.Pollable (pollable_call.Ready p))) (ready_asks m (first_ids ids.line) p) truth_reply refl free es given after w

      looked : (es : List Entry) (done : Result Bool Stop × Machine) → ReadyRow m (first_ids ids.line) p es done → BlockRow es (blocked_on (first_ids ids.line) p done)
      looked es (Ok true, after) k = (λ free. IsReady es after (its es (reply.Ok (truth_fields true)) after (did es (Ok true) after k.0 free)), k.1.0)
      looked es (Ok false, after) k = (λ free. IsUnready es after (its es (reply.Ok (truth_fields false)) after (did es (Ok false) after k.0 free)), record { mid = after; keeps = k.1.0; left = refl; there = k.1.1 })
      looked es (Err (Trap NoSuchHandle), after) k =
          (λ free. missing (did es (Err (Trap NoSuchHandle)) after k.0 free), k.1.0, k.1.1, k.1.2)
        where
          missing : Answered contexts m ids.line (step.Call c (guest.Pollable (pollable_call.Ready p))) es (reply.Trap NoSuchHandle) after → BlocksOn contexts m c ids p look es (reply.Trap NoSuchHandle) after
          missing a = subst (λ (x : Machine). BlocksOn contexts m c ids p look es (reply.Trap NoSuchHandle) x) (sym k.1.2) (subst (λ (xs : List Entry). BlocksOn contexts m c ids p look xs (reply.Trap NoSuchHandle) m) (sym k.1.1)
              (IsMissing k.1.0 (subst (λ (x : Machine). LooksAs contexts m c ids.line p look [] (reply.Trap NoSuchHandle) x) k.1.2 (subst (λ (xs : List Entry). LooksAs contexts m c ids.line p look xs (reply.Trap NoSuchHandle) after) k.1.1 (its es (reply.Trap NoSuchHandle) after a)))))
      looked es (Err _, after) k = absurd k.1

      as_ready : Meets (λ es done. BlockRow es (blocked_on (first_ids ids.line) p done)) [] (ready_asks m (first_ids ids.line) p)
      as_ready = widen looked (ready_facts m (first_ids ids.line) p)

  later : (b : Bool) → begins_at m p ≡ b → Meets (λ es done. BlockRow Later es (blocked_on (first_ids ids.line) p done)) [] (look_later m (first_ids ids.line) p b)
  later true begins = ends (λ free. IsReady [] m (WouldBegin begins), keeps_same m)
  later false none = as_ready Later (λ es r after a. LooksAgain es r after none a)

  pub blocks_on : (look : Look) → Meets (BlockRow look) [] (block_by look m (first_ids ids.line) p)
  blocks_on First = onto _ (as_ready First (λ es r after a. LooksFirst es r after a))
  blocks_on Later = onto _ (later (begins_at m p) refl)

-- == for several
module _ (look : Look) (m : Machine) (ids : Ids) (ps : List ℕ) where
  -- It is pending, and what it waits for is there.
  pub record StandsWaiting (after : Machine) : Type 0 where
    pub mid : Machine
    pub keeps : LookKeeps m mid
    pub left : after ≡ waiting mid ids (blocking.Poll ps)
    pub there : MissesOneOf mid ps → ⊥

  abbrev pub WaitRow : Rows (Result (Answer (List ℕ)) Stop × Machine)
  WaitRow es (Ok (Ready places), after) = WaitsOn m ids ps look es (reply.Ok (numbers_fields places)) after × LookKeeps m after × ((first : ℕ) × (others : List ℕ) × (places ≡ first ∷ others))
  WaitRow es (Ok Pending, after) = WaitsOn m ids ps look es (reply.Pending ids.line) after × StandsWaiting after
  WaitRow es (Err (Trap NoSuchHandle), after) = WaitsOn m ids ps look es (reply.Trap NoSuchHandle) after × MissesOneOf m ps × LookKeeps m after
  WaitRow es (Err _, after) = ⊥

  given : (es : List Entry) (found : Found) (after : Machine) → LooksInTurn look m ids (different ps) es found after → LookKeeps m after → (MissesOneOf after ps → ⊥) → (places : List ℕ) → ready_places found 0 ps ≡ places → WaitRow es (places_given ids ps after places)
  given es found after looks keeps there [] e = (NoneIsReady es found after looks e, record { mid = after; keeps = keeps; left = refl; there = there })
  given es found after looks keeps there (first ∷ others) e = (SomeAreReady es found first others after looks e, keeps, (first, others, refl))

  polled : (es : List Entry) (done : Result Found Stop × Machine) → TurnRow look m ids [] [] ps es done → WaitRow es (polled_each ids ps done)
  polled es (Ok all, after) k = subst (λ (found : Found). WaitRow es (polled_each ids ps (Ok found, after))) (sym k.all_is) (given es k.more after k.looks k.keeps (k.there (λ p among. absurd (cc))) (ready_places k.more 0 ps) refl)
  polled es (Err (Trap NoSuchHandle), after) k = (OneIsMissing k.front k.others k.one es k.found after k.cut k.looks k.misses, k.among, k.keeps)
  polled es (Err _, after) k = absurd k

  pub waits_on : Meets WaitRow [] (poll_by look m ids ps)
  waits_on = onto _ (widen polled (each_turn look ps m ids [] [] (λ p. refl)))
