-- A write in progress: each of its asks is allowed, and what it leaves may be polled on.
use Rattle.wasi_walks.proofs.Words.{Allows, Call, End, Entry, ErrorCode, FrontKeeps, Given, Item, Job, List, Nothing, OpId, Polled, ReachesSide}
use Rattle.wasi_walks.proofs.Words.{ShutdownLast, ShutdownSend, Step, Waits, WasiSocketsCtx, Who, Write, [], allows_polls, allows_then, bind, entry}
use Rattle.wasi_walks.proofs.Words.{front, inl, job_asks, job_in, last_ask, length, less_one, poll_asks, subst, suc, sym, taken_front, then_closed}
use Rattle.wasi_walks.proofs.Words.{write_front, zero, ℕ, ◌++◌, ◌∷◌, ◌≡◌}
use Rattle.wasi_world.specs.Typed.{told_taken}
use Rattle.wasi_walks.proofs.Lists.{has_last}
use Rattle.wasi_walks.proofs.Words.{Told, ⊤}
use Rattle.wasi_walks.specs.Licence.{WriteFailed}
use Rattle.wasi_walks.proofs.licence.Binds.{MayQuietly}
use Rattle.wasi_walks.proofs.licence.State.{WriteLeft, ToWrite, ToWriteAndShut, ToShut, Written, EndTold, Names, JobIsFine}
use Rattle.wasi_walks.proofs.licence.Frames.{failed_more, stay, names_on}

-- this holds where a code was told
abbrev IfCode : Polled ℕ → Type 0 → Type 0
IfCode (Polled.Code c) K = K
IfCode _ K = ⊤

module _ (contexts : List WasiSocketsCtx) (steps : List Step) where
  -- == a poll
  module _ (who : Who) (side : OpId) (on : who.side ≡ side) (last : who.last ≡ ShutdownLast) where
    -- the step that began it names its network socket, and so much is left
    abbrev Stands : List Entry → List Item → Type 0
    Stands es items = Names steps es who.id side × WriteLeft items

    abbrev StandsBefore : List Entry → Given → List Item → Type 0
    StandsBefore es given items = Stands es items

    -- and where it ended with a code it was told one
    abbrev StandsAfter : List Entry → End × List Item → Type 0
    StandsAfter es ended = Names steps es who.id side × WriteLeft ended.1 × EndTold es side ended.0

    reaches : (es : List Entry) → Names steps es who.id side → ReachesSide steps es who.id who.side
    reaches es n = inl (subst (Names steps es who.id) (sym on) n)

    -- one that ends with a code shuts its half down
    ends_last : (es : List Entry) (c : ErrorCode) (given : Given) → Names steps es who.id side → WriteFailed es side → Allows (MayQuietly contexts steps) StandsAfter es (last_ask who who.last c given)
    unfolding bind
    ends_last es c given n f = rw last (((reaches es n, tt), tt), λ t fits. (names_on (stay steps) es _ who.id side n, Written, failed_more es _ side f))

    -- a code is told by the last entry
    told_failed : (es : List Entry) (offered : ℕ) (t : Told) → IfCode (told_taken t) (WriteFailed (es ++ entry who.id (Call.Write who.side offered) t ∷ []) side)
    told_failed es offered (Told.Code c) = subst (WriteFailed (es ++ entry who.id (Call.Write who.side offered) (Told.Code c) ∷ [])) on (record { op = who.id; offered = offered; code = c; told = has_last es _ })
    told_failed es offered (Told.Took bytes) = tt
    told_failed es offered _ = tt

    -- the bytes, where these items follow
    module _ (items : List Item) (form : (rest : List ℕ) → WriteLeft (Write rest ∷ items)) (over : WriteLeft items) where
      abbrev Keeps : List Entry → Type 0
      Keeps es = Names steps es who.id side

      fine_taken : (es : List Entry) (bytes rest : List ℕ) (p : Polled ℕ) → Keeps es → IfCode p (WriteFailed es side)
          → ((skip : ℕ) → Allows (MayQuietly contexts steps) (FrontKeeps (MayQuietly contexts steps) who StandsBefore StandsAfter items) es (write_front who bytes skip))
          → Allows (MayQuietly contexts steps) (FrontKeeps (MayQuietly contexts steps) who StandsBefore StandsAfter items) es (taken_front (λ skip. write_front who bytes skip) (Write rest) p)
      fine_taken es bytes rest (Polled.Ready k) n f h = h (less_one k)
      fine_taken es bytes rest Polled.Pending n f h = (n, form rest)
      fine_taken es bytes rest (Polled.Code c) n f h = ends_last es c Nothing n f

      fine_bytes : (es : List Entry) (bytes : List ℕ) (skip : ℕ) → Keeps es → Allows (MayQuietly contexts steps) (FrontKeeps (MayQuietly contexts steps) who StandsBefore StandsAfter items) es (write_front who bytes skip)
      unfolding bind
      fine_bytes es [] skip n = (n, over)
      fine_bytes es (b ∷ bytes) (suc skip) n = fine_bytes es bytes skip n
      fine_bytes es (b ∷ bytes) zero n = (
        ((reaches es n, tt), tt),
        λ t fits front.
            let fs = es ++ entry who.id (Call.Write who.side (length (b ∷ bytes))) t ∷ [] in
            let more = names_on (stay steps) es _ who.id side n in
            fine_taken fs bytes (b ∷ bytes) _ more (told_failed es (length (b ∷ bytes)) t) (λ skip. fine_bytes fs bytes skip more),
      )

    fine_front : (es : List Entry) (item : Item) (items : List Item) → Names steps es who.id side → WriteLeft (item ∷ items)
        → Allows (MayQuietly contexts steps) (FrontKeeps (MayQuietly contexts steps) who StandsBefore StandsAfter items) es (front who item)
    unfolding bind
    fine_front es _ _ n (ToWrite rest) = fine_bytes [] ToWrite Written es rest 0 n
    fine_front es _ _ n (ToWriteAndShut rest) = fine_bytes (ShutdownSend ∷ []) ToWriteAndShut ToShut es rest 0 n
    fine_front es _ _ n ToShut = (((reaches es n, tt), tt), λ t fits. (names_on (stay steps) es _ who.id side n, Written))

    fine_poll : (items : List Item) (es : List Entry) → Names steps es who.id side → WriteLeft items → Allows (MayQuietly contexts steps) StandsAfter es (poll_asks (record { who = who; left = items }))
    fine_poll items es n l =
        allows_polls (MayQuietly contexts steps) who StandsBefore StandsAfter (λ fs given item its k. fine_front fs item its k.0 k.1) (λ fs its k. (k.0, k.1, tt)) (λ fs given k. (k.0, k.1, tt)) 64 items es (n, l)

  abbrev JobStands : OpId → List Entry → Job → Type 0
  JobStands side es job = JobIsFine steps es side job

  polled_in : (es : List Entry) (side : OpId) (job : Job) (e : End) → JobIsFine steps es side job → Allows (MayQuietly contexts steps) (JobStands side) es (job_in job e)
  polled_in es side job Waits h =
      allows_then (MayQuietly contexts steps) (λ fs ended. Names steps fs job.write.who.id side × WriteLeft ended.1 × EndTold fs side ended.0) (JobStands side) es (poll_asks job.write) _
      (fine_poll job.write.who side h.on h.last job.write.left es h.named h.left)
      (λ fs ended k. record { named = k.0; on = h.on; last = h.last; left = k.1; ended = k.2 })
  polled_in es side job _ h = h

  -- one poll of a write
  pub fine_job : (es : List Entry) (side : OpId) (job : Job) → JobIsFine steps es side job → Allows (MayQuietly contexts steps) (λ fs j. JobIsFine steps fs side j) es (job_asks job)
  fine_job es side job h = polled_in es side job job.end h

  -- == a write that is to be the last
  pub shut_after : (items : List Item) → WriteLeft items → WriteLeft (then_closed items)
  shut_after _ (ToWrite rest) = ToWriteAndShut rest
  shut_after _ (ToWriteAndShut rest) = ToWriteAndShut rest
  shut_after _ s = s
