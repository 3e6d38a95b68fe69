-- The law on two runs whose contexts differ in the limit of one.
use Rattle.std.proofs.Common.{◌≡◌, refl, ap, subst, Bool, true, false, if◌then◌else◌, ℕ, zero, suc, ◌+◌, List, [], ◌∷◌, ◌++◌, Option, Some, None}
use Rattle.wasi_world.specs.declared.outcome.WasiSocketsCtx.{WasiSocketsCtx}
use Rattle.wasi_world.specs.Asks.{Asks, Give}
unfoldable use Rattle.wasi_world.specs.Asks.{bind}
use Rattle.host_store.specs.declared.machine.Machine.{Machine}
use Rattle.host_store.specs.declared.store.Standing.{Standing}
use Rattle.host_store.specs.Machine.{first_state}
use Rattle.wasi_steps.specs.declared.reply.Reply.{Reply}
use Rattle.wasi_steps.specs.declared.reply.Reply.TheVariants as reply
use Rattle.wasi_steps.specs.declared.guest_call.GuestCall.TheVariants as guest
use Rattle.wasi_steps.specs.declared.guest_call.StreamCall.TheVariants as stream_call
use Rattle.wasi_steps.specs.declared.step.Step.{Step}
use Rattle.wasi_steps.specs.declared.step.Step.TheVariants as step
use Rattle.wasi_steps.specs.Reply.{is_trap}
use Rattle.wasi_steps.specs.Steps.{context_of}
use Rattle.wasi_machine.specs.Machine.{asks_while, context_at, context_for, context_in, is_held_up, machine_asks}
use Rattle.wasi_limits.specs.Alike.{Alike, BothGive, OneStops, OtherStops, StopsAt, Stopped}
use Rattle.wasi_limits.specs.Contexts.{LikeContext, LikeContexts, MoreContexts, NoContexts, OtherLimit}
use Rattle.wasi_limits.proofs.Like.{LikeMachine, Machines, LikeStore, Stores, NoRecords, NoLimits, LikeFound, NoneFound, BothFound, SameSocket, OtherPermit}
use Rattle.tcp_records.specs.declared.socket.TcpRecord.{TcpRecord}
use Rattle.host_store.specs.Kinds.{HandleTable, kind_at, output_of}
use Rattle.host_store.specs.Store.{Records}
use Rattle.wasi_limits.proofs.Stores.{found_like}
use Rattle.wasi_limits.specs.Runs.{is_made_by, is_writer_of, EndsInTrap, IsTcpScript, IsTcpStep, SameReplies, Trapped, checks_writer_of, run_but, without_number}
use Rattle.wasi_limits.proofs.Together.{alike_then}
use Rattle.wasi_limits.proofs.Steps.{IsTrapped, Replied, Replies, call_like, same_trap}

-- what follows a line
abbrev after_line : ℕ → List WasiSocketsCtx → Machine → List Reply → ℕ → Step → List Step → Reply × Machine → Asks (List Reply × Machine)
after_line c contexts m replies line s steps done = if is_trap done.0 then Give (replies ++ done.0 ∷ [], done.1) else run_but c contexts (replies ++ without_number (checks_writer_of c m s) done.0 ∷ []) done.1 (line + 1) steps

-- a trap ends the run
trap_ends : (replies : List Reply) (goes : Asks (List Reply × Machine)) (done : Reply × Machine) (b : Bool) → is_trap done.0 ≡ b → b ≡ true → StopsAt EndsInTrap (if b then Give (replies ++ done.0 ∷ [], done.1) else goes)
trap_ends replies goes done true e k = Stopped _ (Trapped replies done.0 done.1 e)
trap_ends replies goes done false e k = absurd (cc)

same_left : (b d : Bool) (r other : Reply) → b ≡ d → without_number b r ≡ without_number b other → without_number b r ≡ without_number d other
same_left b d r other e k = subst (λ (x : Bool). without_number b r ≡ without_number x other) e k

-- the runs of these lines, after the same replies
abbrev Goes : ℕ → List WasiSocketsCtx → List WasiSocketsCtx → ℕ → List Step → Type 0
Goes c contexts others line steps = (replies : List Reply) (m now : Machine) → LikeMachine c m now → Alike EndsInTrap SameReplies (run_but c contexts replies m line steps) (run_but c others replies now line steps)

module _ {c : ℕ} where
  -- == contexts
  same_context : (ctx : WasiSocketsCtx) → LikeContext c ctx ctx
  same_context ctx = OtherLimit ctx ctx.write_limit ctx.write_limit (λ n. refl)

  context_like : {contexts others : List WasiSocketsCtx} → LikeContexts c contexts others → (n : ℕ) → LikeContext c (context_at contexts n) (context_at others n)
  context_like NoContexts n = same_context (context_in None)
  context_like (MoreContexts ctx other contexts others h k) zero = h
  context_like (MoreContexts ctx other contexts others h k) (suc n) = context_like k n

  context_for_like : {contexts others : List WasiSocketsCtx} → LikeContexts c contexts others → (o : Option ℕ) → LikeContext c (context_for contexts o) (context_for others o)
  context_for_like h (Some n) = context_like h n
  context_for_like h None = same_context (context_in None)

  -- == a line
  busy_when : {t u : Asks (Reply × Machine)} {m now : Machine} (left_out : Bool) → LikeMachine c m now → (b d : Bool) → b ≡ d → Alike IsTrapped (Replied c left_out) t u → Alike IsTrapped (Replied c left_out) (if b then Give (reply.Busy, m) else t) (if d then Give (reply.Busy, now) else u)
  busy_when left_out l true true e h = BothGive _ _ (Replies _ _ _ _ refl l)
  busy_when left_out l false false e h = h
  busy_when left_out l true false e h = absurd (cc)
  busy_when left_out l false true e h = absurd (cc)

  -- what has to wait is the same
  same_held : {store other : Records} → LikeStore c store other → (s : Step) → is_held_up store s ≡ is_held_up other s
  same_held (Stores records others jobs standing limits mosts is h k) (step.Poll n) = refl
  same_held l _ = refl

  while_like : {contexts others : List WasiSocketsCtx} {t : HandleTable} {store other : Records} → LikeContexts c contexts others → LikeMachine c (record { table = t; store = store }) (record { table = t; store = other }) → LikeStore c store other → (line : ℕ) (s : Step) → IsTcpStep s → (o : Option Standing)
      → Alike IsTrapped (Replied c (checks_writer_of c (record { table = t; store = store }) s)) (asks_while contexts (record { table = t; store = store }) line s o) (asks_while others (record { table = t; store = other }) line s o)
  while_like h l k line s tcp None = call_like l (context_for_like h (context_of s)) line s tcp
  while_like {store = store} {other = other} h l k line s tcp (Some standing) = busy_when _ l (is_held_up store s) (is_held_up other s) (same_held k s) (call_like l (context_for_like h (context_of s)) line s tcp)

  machine_like : {contexts others : List WasiSocketsCtx} {m now : Machine} → LikeContexts c contexts others → LikeMachine c m now → (line : ℕ) (s : Step) → IsTcpStep s
      → Alike IsTrapped (Replied c (checks_writer_of c m s)) (machine_asks contexts m line s) (machine_asks others now line s)
  machine_like h (Machines t _ _ all (Stores records others jobs standing limits mosts is k g)) line s tcp = while_like h (Machines t _ _ all (Stores records others jobs standing limits mosts is k g)) (Stores records others jobs standing limits mosts is k g) line s tcp standing

  -- which checks are left out is the same of both
  same_maker : {f g : Option TcpRecord} → LikeFound c f g → is_made_by c f ≡ is_made_by c g
  same_maker NoneFound = refl
  same_maker (BothFound _ _ (SameSocket r)) = refl
  same_maker (BothFound _ _ (OtherPermit r s half p q m)) = refl

  same_writer : {store other : Records} → LikeStore c store other → (t : HandleTable) (o : Option ℕ) → is_writer_of c (record { table = t; store = store }) o ≡ is_writer_of c (record { table = t; store = other }) o
  same_writer l t None = refl
  same_writer l t (Some place) = same_maker (found_like l place)

  same_left_out : {m now : Machine} → LikeMachine c m now → (s : Step) → checks_writer_of c m s ≡ checks_writer_of c now s
  same_left_out (Machines t store other all l) (step.Call n (guest.Stream (stream_call.CheckWrite output))) = same_writer l t (output_of (kind_at t output))
  same_left_out l _ = refl

  -- == the lines after one another
  after_by : (contexts others : List WasiSocketsCtx) (line : ℕ) (steps : List Step) → Goes c contexts others (line + 1) steps → (replies more : List Reply) → replies ≡ more → (r other : Reply) (m now : Machine) → LikeMachine c m now → (front : List Reply) (b d : Bool) → is_trap r ≡ b → is_trap other ≡ d → b ≡ d
      → Alike EndsInTrap SameReplies (if b then Give (front ++ r ∷ [], m) else run_but c contexts replies m (line + 1) steps) (if d then Give (front ++ other ∷ [], now) else run_but c others more now (line + 1) steps)
  after_by contexts others line steps goes replies more e r other m now l front true d i j k = OneStops _ _ (Trapped front r m i)
  after_by contexts others line steps goes replies more e r other m now l front false true i j k = OtherStops _ _ (Trapped front other now j)
  after_by contexts others line steps goes replies more e r other m now l front false false i j k = let P : List Reply → Type 0 = λ x. Alike EndsInTrap SameReplies (run_but c contexts replies m (line + 1) steps) (run_but c others x now (line + 1) steps) in subst P e (goes replies m now l)

  after_replied : (contexts others : List WasiSocketsCtx) (line : ℕ) (s : Step) (steps : List Step) → Goes c contexts others (line + 1) steps → (replies : List Reply) (m now : Machine) → LikeMachine c m now → (a b : Reply × Machine) → Replied c (checks_writer_of c m s) a b
      → Alike EndsInTrap SameReplies (after_line c contexts m replies line s steps a) (after_line c others now replies line s steps b)
  after_replied contexts others line s steps goes replies m now l _ _ (Replies r other m' now' e l') =
      after_by contexts others line steps goes _ _ (ap (λ (x : Reply). replies ++ x ∷ []) (same_left (checks_writer_of c m s) (checks_writer_of c now s) r other (same_left_out l s) e)) r other m' now' l' replies (is_trap r) (is_trap other) refl refl (same_trap (checks_writer_of c m s) r other e)

  run_like : {contexts others : List WasiSocketsCtx} → LikeContexts c contexts others → (steps : List Step) → IsTcpScript steps → (line : ℕ) → Goes c contexts others line steps
  run_like h [] tcp line replies m now l = BothGive _ _ refl
  run_like {contexts} {others} h (s ∷ steps) tcp line replies m now l =
      alike_then (machine_like h l line s tcp.0) (λ done e. trap_ends replies _ done (is_trap done.0) refl e) (λ done e. trap_ends replies _ done (is_trap done.0) refl e)
      (after_replied contexts others line s steps (run_like h steps tcp.1 (line + 1)) replies m now l)

  first_like : LikeMachine c first_state first_state
  first_like = Machines _ _ _ tt (Stores [] [] [] None [] [] tt NoRecords NoLimits)

-- runs whose contexts differ in one limit ask the same, and reply the same, up to the first trap of either
pub runs_alike : (c : ℕ) (contexts others : List WasiSocketsCtx) → LikeContexts c contexts others → (steps : List Step) → IsTcpScript steps → Alike EndsInTrap SameReplies (run_but c contexts [] first_state 1 steps) (run_but c others [] first_state 1 steps)
runs_alike c contexts others h steps tcp = run_like h steps tcp 1 [] first_state first_state first_like
