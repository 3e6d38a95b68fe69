-- The calls of streams that block, as steps and as polls continue them: reads, skips, flushes, and the end of a write.
use Rattle.wasi_causes.proofs.Words.{◌≡◌, ◌==◌, ℕ, Bool, true, false, eqb-true, eqb-false, List, [], ◌∷◌, ◌++◌, None, refl, sym, subst, inl, inr, Answered, CallStop, Entry, Err, Give, Machine, MissesHandle, NoSuchHandle, Ok, Pending, Ready, Reply, Result, Step, WasiSocketsCtx, bind, bytes_reply, if◌then◌else◌, length, marks_in, number_fields, own_of, read_asks}
use Rattle.wasi_world.specs.declared.ids.Ids.{Ids}
use Rattle.host_store.specs.declared.store.BlockingCall.{BlockingCall}
use Rattle.host_store.specs.declared.store.BlockingCall.TheVariants as blocking
use Rattle.host_streams.specs.Blocking.{Blocked, blocking_read_asks, blocking_skip_asks, read_answer, read_looked, skip_answer, skip_looked}
use Rattle.host_store.specs.CallStops.{Closed, Failed, Traps as TrapsBy}
use Rattle.host_streams.specs.StreamCalls.{counted, skip_asks}
use Rattle.wasi_machine.specs.Machine.{blocked_reply_of, call_stop_reply, stream_reply_of}
use Rattle.wasi_steps.specs.declared.reply.Field.{Field}
use Rattle.wasi_steps.specs.declared.reply.Reply.TheVariants as reply
use Rattle.wasi_steps.specs.declared.guest_call.GuestCall.TheVariants as guest
use Rattle.wasi_steps.specs.declared.guest_call.StreamCall.TheVariants as stream_call
use Rattle.wasi_steps.specs.declared.step.Step.TheVariants as step
use Rattle.wasi_steps.specs.Reply.{bytes_fields}
use Rattle.wasi_walks.specs.Missing.{MissesInput, MissesStream}
use Rattle.wasi_world.proofs.Walks.{left_in}
use Rattle.wasi_causes.proofs.streams.Composed.{IsComposed, answers_part, of_part}
use Rattle.wasi_causes.proofs.streams.Facts.{ReadFacts, read_facts, read_traps}
use Rattle.wasi_causes.proofs.streams.Looks.{LookFacts, look_facts, looked_none}
use Rattle.wasi_causes.proofs.tables.Meets.{Meets, Rows, chain, ends, onto, shifted, widen}
use Rattle.wasi_causes.specs.Blocking.{AsRead, BlocksAs, GivesOf, LooksInto, NoInput, NoneCame, NotReady, waiting}
use Rattle.wasi_causes.specs.Outcomes.{LeavesMissing, Reads, Replies}
use Rattle.wasi_causes.specs.Parts.{GivesNone}

-- What the step is that does such a call or continues it: by which replies, and what is left where the call's stream isn't there.
pub record Frame (contexts : List WasiSocketsCtx) (ms : Machine) (at : ℕ) (s : Step) (m : Machine) (ids : Ids) (call : BlockingCall) : Type 0 where
  pub is : IsComposed contexts ms at s
  pub table : m.table ≡ ms.table
  pub gives : (es : List Entry) (fields : List Field) (after : Machine) → GivesOf call fields → after.table ≡ m.table → Replies contexts ms at s es (reply.Ok fields) after
  pub pends : (es : List Entry) (now : BlockingCall) (mid : Machine) → mid.table ≡ m.table → Replies contexts ms at s es (reply.Pending ids.line) (waiting mid ids now)
  pub misses : MissesStream m call → MissesHandle ms s
  pub quiet : LeavesMissing ms s [] m

-- the end of a part
pub stops_none : (why : CallStop) → GivesNone (call_stop_reply why)
stops_none Closed = tt
stops_none (Failed code handle) = tt
stops_none (TrapsBy kind) = tt

module _ (contexts : List WasiSocketsCtx) (ms : Machine) (at : ℕ) (s : Step) (m : Machine) (c : ℕ) (ids : Ids) where
  abbrev line : ℕ
  line = ids.line

  -- a call is answered so, by what its parts were
  abbrev pub BlockedRow : {A : Type 0} → BlockingCall → (A → List Field) → Rows (Blocked A)
  BlockedRow call fields es done = (m.store.standing ≡ None → BlocksAs contexts m c ids call es (blocked_reply_of fields line done.0) done.1) × Replies contexts ms at s es (blocked_reply_of fields line done.0) done.1

  -- == a read
  module _ (input len : ℕ) (f : Frame contexts ms at s m ids (blocking.Read input len)) where
    abbrev ReadRow : Rows (Blocked (List ℕ))
    ReadRow = BlockedRow (blocking.Read input len) bytes_fields

    missing_out : MissesInput m input → (es : List Entry) → es ≡ [] → (now : Machine) → now ≡ m → ReadRow es (Err (TrapsBy NoSuchHandle), now)
    missing_out missing es none now same =
        subst (λ (x : Machine). ReadRow es (Err (TrapsBy NoSuchHandle), x)) (sym same) (subst (λ (xs : List Entry). ReadRow xs (Err (TrapsBy NoSuchHandle), m)) (sym none) (λ free. NoInput missing, (f.misses missing, f.quiet)))

    -- where it isn't there nothing was asked
    left_missing : (es fs : List Entry) (after : Machine) → es ≡ [] → fs ≡ [] → after ≡ m → MissesInput m input → MissesHandle ms s × LeavesMissing ms s (es ++ fs) after
    left_missing es fs after none no_more same missing = (
      f.misses missing,
      subst (λ (x : Machine). LeavesMissing ms s (es ++ fs) x) (sym same) (subst (λ (xs : List Entry). LeavesMissing ms s (xs ++ fs) m) (sym none) (subst (λ (xs : List Entry). LeavesMissing ms s xs m) (sym no_more) f.quiet)),
    )

    module _ (es : List Entry) (looks : LooksInto m (own_of line) input true es) (unmarked : marks_in es ≡ 0) where
      did : (fs : List Entry) (given : Result (List ℕ) CallStop) (after : Machine) → ReadFacts contexts line c m input len fs (given, after) → m.store.standing ≡ None → Answered contexts m line (step.Call c (guest.Stream (stream_call.Read input len))) fs (bytes_reply given) after
      did fs given after r free = answers_part contexts m line (step.Call c (guest.Stream (stream_call.Read input len))) (read_asks m (own_of line) input len) bytes_reply refl free fs given after r.did

      read_out : (fs : List Entry) (why : CallStop) (after : Machine) → ReadFacts contexts line c m input len fs (Err why, after) → ReadRow (es ++ fs) (Err why, after)
      read_out fs why after r = (
        λ free. AsRead es fs (call_stop_reply why) after looks (did fs (Err why) after r free) (λ e. absurd (never why e)),
        of_part contexts ms at s f.is line (step.Call c (guest.Stream (stream_call.Read input len))) m es fs (call_stop_reply why) after f.table unmarked (stops_none why) r.row.1 (λ kind e. read_traps contexts line c m input fs after len kind (subst (λ (x : Reply). Replies contexts m line (step.Call c (guest.Stream (stream_call.Read input len))) fs x after) e r.row.1)) misses,
      )
        where
          never : (why : CallStop) → call_stop_reply why ≡ reply.Ok (bytes_fields []) → ⊥
          never Closed e = cc
          never (Failed code handle) e = cc
          never (TrapsBy kind) e = cc

          misses : call_stop_reply why ≡ reply.Trap NoSuchHandle → MissesHandle ms s × LeavesMissing ms s (es ++ fs) after
          misses e = let row = subst (λ (x : Reply). Replies contexts m line (step.Call c (guest.Stream (stream_call.Read input len))) fs x after) e r.row.1 in left_missing es fs after (looked_none m (own_of line) input looks row.0) row.1.0 row.1.1 row.0

      no_bytes : (fs : List Entry) (after : Machine) → ReadFacts contexts line c m input len fs (Ok [], after) → (b : Bool) → (len == 0) ≡ b → ReadRow (es ++ fs) (if b then (Ok (Ready []), after) else (Ok Pending, waiting after ids (blocking.Read input len)))
      no_bytes fs after r true e = (λ free. AsRead es fs (bytes_reply (Ok [])) after looks (did fs (Ok []) after r free) (λ same. eqb-true len 0 e), f.gives (es ++ fs) (bytes_fields []) after ([], refl) r.kept.1)
      no_bytes fs after r false e = subst (λ (x : Machine). ReadRow (es ++ fs) (Ok Pending, waiting x ids (blocking.Read input len))) (sym (same r.row.1.1)) (λ free. NoneCame es fs looks (subst (λ (x : Machine). Answered contexts m line (step.Call c (guest.Stream (stream_call.Read input len))) fs (bytes_reply (Ok [])) x) (same r.row.1.1) (did fs (Ok []) after r free)) (λ none. eqb-false len 0 e none), f.pends (es ++ fs) (blocking.Read input len) m refl)
        where
          same : Reads m line input len fs (bytes_fields []) after → after ≡ m
          same (inl k) = k.1
          same (inr k) = k.2.1

      answered : (fs : List Entry) (given : Result (List ℕ) CallStop) (after : Machine) → ReadFacts contexts line c m input len fs (given, after) → ReadRow (es ++ fs) (read_answer ids input len (given, after))
      answered fs (Ok []) after r = no_bytes fs after r (len == 0) refl
      answered fs (Ok (b ∷ bytes)) after r = (λ free. AsRead es fs (bytes_reply (Ok (b ∷ bytes))) after looks (did fs (Ok (b ∷ bytes)) after r free) (λ same. absurd (cc)), f.gives (es ++ fs) (bytes_fields (b ∷ bytes)) after (b ∷ bytes, refl) r.kept.1)
      answered fs (Err why) after r = read_out fs why after r

    looked_at : (es : List Entry) (given : Result Bool CallStop) (now : Machine) → LookFacts m (own_of line) input es (given, now) → Meets ReadRow es (read_looked ids input len (given, now))
    looked_at es (Ok true) now k = subst (λ (x : Machine). Meets ReadRow es (read_looked ids input len (Ok true, x))) (sym k.1) (onto _ (widen (λ fs done a. subst (λ (xs : List Entry). ReadRow xs (read_answer ids input len done)) (sym a.cut) (answered es k.0 k.2 a.rest done.0 done.1 a.row)) (shifted es (read_facts contexts line c m input len))))
    looked_at es (Ok false) now k = ends (subst (λ (x : Machine). ReadRow es (Ok Pending, waiting x ids (blocking.Read input len))) (sym k.1) (λ free. NotReady es k.0, f.pends es (blocking.Read input len) m refl))
    looked_at es (Err (TrapsBy NoSuchHandle)) now k = ends (missing_out k.0 es k.1 now k.2)
    looked_at es (Err _) now k = absurd k

    pub reads_on : Meets ReadRow [] (blocking_read_asks m ids input len)
    reads_on = chain (look_facts m (own_of line) input) (λ es done k. looked_at es done.0 done.1 k)

  -- == a skip
  module _ (input len : ℕ) (f : Frame contexts ms at s m ids (blocking.Skip input len)) where
    abbrev SkipRow : Rows (Blocked ℕ)
    SkipRow = BlockedRow (blocking.Skip input len) number_fields

    missing_skip : MissesInput m input → (es : List Entry) → es ≡ [] → (now : Machine) → now ≡ m → SkipRow es (Err (TrapsBy NoSuchHandle), now)
    missing_skip missing es none now same =
        subst (λ (x : Machine). SkipRow es (Err (TrapsBy NoSuchHandle), x)) (sym same) (subst (λ (xs : List Entry). SkipRow xs (Err (TrapsBy NoSuchHandle), m)) (sym none) (λ free. NoInput missing, (f.misses missing, f.quiet)))

    left_skip : (es fs : List Entry) (after : Machine) → es ≡ [] → fs ≡ [] → after ≡ m → MissesInput m input → MissesHandle ms s × LeavesMissing ms s (es ++ fs) after
    left_skip es fs after none no_more same missing = (
      f.misses missing,
      subst (λ (x : Machine). LeavesMissing ms s (es ++ fs) x) (sym same) (subst (λ (xs : List Entry). LeavesMissing ms s (xs ++ fs) m) (sym none) (subst (λ (xs : List Entry). LeavesMissing ms s xs m) (sym no_more) f.quiet)),
    )

    module _ (es : List Entry) (looks : LooksInto m (own_of line) input true es) (unmarked : marks_in es ≡ 0) where
      skips : (fs : List Entry) (given : Result (List ℕ) CallStop) (after : Machine) → ReadFacts contexts line c m input len fs (given, after) → m.store.standing ≡ None → Answered contexts m line (step.Call c (guest.Stream (stream_call.Skip input len))) fs (stream_reply_of number_fields (counted (given, after)).0) (counted (given, after)).1
      unfolding bind
      skips fs given after r free =
          answers_part contexts m line (step.Call c (guest.Stream (stream_call.Skip input len))) (skip_asks m (own_of line) input len) (stream_reply_of number_fields) refl free fs (counted (given, after)).0 (counted (given, after)).1 (left_in (λ done. Give (counted done)) (read_asks m (own_of line) input len) (Give (given, after)) fs r.did)

      skip_out : (fs : List Entry) (why : CallStop) (after : Machine) → ReadFacts contexts line c m input len fs (Err why, after) → SkipRow (es ++ fs) (Err why, after)
      skip_out fs why after r = (
        λ free. AsRead es fs (call_stop_reply why) after looks (skips fs (Err why) after r free) (λ e. absurd (never why e)),
        of_part contexts ms at s f.is line (step.Call c (guest.Stream (stream_call.Read input len))) m es fs (call_stop_reply why) after f.table unmarked (stops_none why) r.row.1 (λ kind e. read_traps contexts line c m input fs after len kind (subst (λ (x : Reply). Replies contexts m line (step.Call c (guest.Stream (stream_call.Read input len))) fs x after) e r.row.1)) misses,
      )
        where
          never : (why : CallStop) → call_stop_reply why ≡ reply.Ok (number_fields 0) → ⊥
          never Closed e = cc
          never (Failed code handle) e = cc
          never (TrapsBy kind) e = cc

          misses : call_stop_reply why ≡ reply.Trap NoSuchHandle → MissesHandle ms s × LeavesMissing ms s (es ++ fs) after
          misses e = let row = subst (λ (x : Reply). Replies contexts m line (step.Call c (guest.Stream (stream_call.Read input len))) fs x after) e r.row.1 in left_skip es fs after (looked_none m (own_of line) input looks row.0) row.1.0 row.1.1 row.0

      none_skipped : (fs : List Entry) (after : Machine) → ReadFacts contexts line c m input len fs (Ok [], after) → (b : Bool) → (len == 0) ≡ b → SkipRow (es ++ fs) (if b then (Ok (Ready 0), after) else (Ok Pending, waiting after ids (blocking.Skip input len)))
      none_skipped fs after r true e = (λ free. AsRead es fs (reply.Ok (number_fields 0)) after looks (skips fs (Ok []) after r free) (λ same. eqb-true len 0 e), f.gives (es ++ fs) (number_fields 0) after (0, refl) r.kept.1)
      none_skipped fs after r false e = subst (λ (x : Machine). SkipRow (es ++ fs) (Ok Pending, waiting x ids (blocking.Skip input len))) (sym (same r.row.1.1)) (λ free. NoneCame es fs looks (subst (λ (x : Machine). Answered contexts m line (step.Call c (guest.Stream (stream_call.Skip input len))) fs (reply.Ok (number_fields 0)) x) (same r.row.1.1) (skips fs (Ok []) after r free)) (λ none. eqb-false len 0 e none), f.pends (es ++ fs) (blocking.Skip input len) m refl)
        where
          same : Reads m line input len fs (bytes_fields []) after → after ≡ m
          same (inl k) = k.1
          same (inr k) = k.2.1

      skipped : (fs : List Entry) (given : Result (List ℕ) CallStop) (after : Machine) → ReadFacts contexts line c m input len fs (given, after) → SkipRow (es ++ fs) (skip_answer ids input len (counted (given, after)))
      skipped fs (Ok []) after r = none_skipped fs after r (len == 0) refl
      skipped fs (Ok (b ∷ bytes)) after r = (λ free. AsRead es fs (reply.Ok (number_fields (length (b ∷ bytes)))) after looks (skips fs (Ok (b ∷ bytes)) after r free) (λ same. absurd (cc)), f.gives (es ++ fs) (number_fields (length (b ∷ bytes))) after (length (b ∷ bytes), refl) r.kept.1)
      skipped fs (Err why) after r = skip_out fs why after r

    skip_at : (es : List Entry) (given : Result Bool CallStop) (now : Machine) → LookFacts m (own_of line) input es (given, now) → Meets SkipRow es (skip_looked ids input len (given, now))
    skip_at es (Ok true) now k = subst (λ (x : Machine). Meets SkipRow es (skip_looked ids input len (Ok true, x))) (sym k.1) (onto _ (onto _ (widen (λ fs done a. subst (λ (xs : List Entry). SkipRow xs (skip_answer ids input len (counted done))) (sym a.cut) (skipped es k.0 k.2 a.rest done.0 done.1 a.row)) (shifted es (read_facts contexts line c m input len)))))
    skip_at es (Ok false) now k = ends (subst (λ (x : Machine). SkipRow es (Ok Pending, waiting x ids (blocking.Skip input len))) (sym k.1) (λ free. NotReady es k.0, f.pends es (blocking.Skip input len) m refl))
    skip_at es (Err (TrapsBy NoSuchHandle)) now k = ends (missing_skip k.0 es k.1 now k.2)
    skip_at es (Err _) now k = absurd k

    pub skips_on : Meets SkipRow [] (blocking_skip_asks m ids input len)
    skips_on = chain (look_facts m (own_of line) input) (λ es done k. skip_at es done.0 done.1 k)
