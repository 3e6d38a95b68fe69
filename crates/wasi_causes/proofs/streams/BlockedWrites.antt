-- The calls that block on an output: a flush, the end of a write, and a write, round for round.
use Rattle.wasi_causes.proofs.Words.{◌≡◌, ◌∙◌, ℕ, arith, zero, suc, List, [], ◌∷◌, ◌++◌, None, append_assoc, append-nil, refl, sym, subst, ap, Answered, CallStop, Entry, Err, Machine, MissesHandle, NoSuchHandle, Ok, Reply, Result, Step, TrapKind, WasiSocketsCtx, check_asks, flushed_asks, length, marks_in, no_fields, number_fields, own_of, permit_reply, taken_reply, write_asks}
use Rattle.std.specs.Prelude.{◌≤◌, ◌<◌, take, drop}
use Rattle.std.proofs.Math.Nat.{min-le_left}
use Rattle.std.proofs.lemmas.List.{length-take}
use Rattle.wasi_world.specs.declared.ids.Ids.{Ids}
use Rattle.host_store.specs.declared.store.BlockingCall.{BlockingCall}
use Rattle.host_store.specs.declared.store.BlockingCall.TheVariants as blocking
use Rattle.host_streams.specs.Blocking.{Blocked, blocking_flush_asks, finish_flushed, finish_write_asks, flush_begun, flush_checked, last_check_asks, last_checked, round_checked, round_written, write_ended, write_rounds}
use Rattle.host_store.specs.CallStops.{Closed, Failed, Traps as TrapsBy}
use Rattle.wasi_machine.specs.Machine.{blocked_reply_of, call_stop_reply}
use Rattle.wasi_steps.specs.declared.reply.Reply.TheVariants as reply
use Rattle.wasi_steps.specs.declared.guest_call.GuestCall.TheVariants as guest
use Rattle.wasi_steps.specs.declared.guest_call.StreamCall.TheVariants as stream_call
use Rattle.wasi_steps.specs.declared.step.Step.TheVariants as step
use Rattle.wasi_steps.specs.Reply.{no_values}
use Rattle.wasi_walks.specs.Missing.{MissesOutput}
use Rattle.wasi_causes.proofs.streams.Blocks.{stops_none}
use Rattle.wasi_causes.proofs.streams.Composed.{HandsOn, IsComposed, answers_part, marks_two, of_part}
use Rattle.wasi_causes.proofs.streams.Facts.{CheckFacts, FlushFacts, WriteFacts, check_facts, check_traps, flush_facts, flush_traps, write_facts, write_traps}
use Rattle.wasi_causes.proofs.streams.Kept.{Kept}
use Rattle.wasi_causes.proofs.streams.Missing.{missed_output, output_is_there}
use Rattle.wasi_causes.proofs.streams.Permits.{MayWrite, fewer}
use Rattle.wasi_causes.proofs.tables.Meets.{Meets, Rows, chain, ends, onto, shifted, widen}
use Rattle.wasi_causes.specs.Blocking.{AllTaken, AnotherRound, EndsByFlush, EndsByLook, Finishes, FlushGivesNone, FlushesOn, IsFlushed, LastGivesNone, LastRound, LastWaits, LookGivesNone, LooksLast, NonePermitted, NoneTaken, NotYet, StillWrites, WritesOn, ended_reply, waiting}
use Rattle.wasi_causes.specs.Outcomes.{LeavesMissing, Quiet, Replies}

-- What the step is that does such a call or continues it, by which replies.
pub record WriteFrame (contexts : List WasiSocketsCtx) (ms : Machine) (at : ℕ) (s : Step) (ids : Ids) : Type 0 where
  pub is : IsComposed contexts ms at s
  pub gives : (es : List Entry) (after : Machine) → after.table ≡ ms.table → Replies contexts ms at s es (reply.Ok no_fields) after
  pub pends : (es : List Entry) (now : BlockingCall) (mid : Machine) → mid.table ≡ ms.table → Replies contexts ms at s es (reply.Pending ids.line) (waiting mid ids now)

module _ (contexts : List WasiSocketsCtx) (ms : Machine) (at : ℕ) (s : Step) (c : ℕ) (ids : Ids) (output : ℕ) (f : WriteFrame contexts ms at s ids) where
  abbrev line : ℕ
  line = ids.line

  -- So much was done of the call: the handles are as they were, and none was marked; and if the output isn't there, nothing was.
  pub record Ahead (front : List Entry) (m : Machine) : Type 0 where
    pub table : m.table ≡ ms.table
    pub unmarked : marks_in front ≡ 0
    pub misses : MissesOutput m output → MissesHandle ms s × LeavesMissing ms s front m

  -- what follows is answered so, and the whole call
  abbrev Row : (List Entry → Reply → Machine → Type 0) → List Entry → Rows (Blocked (Unit {0}))
  Row Comes front es done = (Comes es (blocked_reply_of no_values line done.0) done.1) × Replies contexts ms at s (front ++ es) (blocked_reply_of no_values line done.0) done.1

  module _ (m : Machine) (front : List Entry) (ahead : Ahead front m) where
    -- the end of a part
    part_out : (p : Step) (es : List Entry) (why : CallStop) (after : Machine) → Replies contexts m line p es (call_stop_reply why) after → ((kind : TrapKind) → call_stop_reply why ≡ reply.Trap kind → HandsOn kind)
        → (call_stop_reply why ≡ reply.Trap NoSuchHandle → MissesOutput m output × Quiet m es after) → Replies contexts ms at s (front ++ es) (call_stop_reply why) after
    part_out p es why after row traps misses =
        of_part contexts ms at s f.is line p m front es (call_stop_reply why) after ahead.table ahead.unmarked (stops_none why) row traps (λ e. let k = misses e in let gone = ahead.misses k.0 in (gone.0, subst (λ (x : Machine). LeavesMissing ms s (front ++ es) x) (sym k.1.1) (subst (λ (xs : List Entry). LeavesMissing ms s xs m) (sym (ap (λ (xs : List Entry). front ++ xs) k.1.0 ∙ append-nil front)) gone.1)))

    checked_out : (es : List Entry) (why : CallStop) (after : Machine) → CheckFacts contexts line c m output es (Err why, after) → Replies contexts ms at s (front ++ es) (call_stop_reply why) after
    checked_out es why after k =
        part_out (step.Call c (guest.Stream (stream_call.CheckWrite output))) es why after k.row.1 (λ kind e. check_traps contexts line c m output es after kind (subst (λ (x : Reply). Replies contexts m line (step.Call c (guest.Stream (stream_call.CheckWrite output))) es x after) e k.row.1))
        (λ e. let row = subst (λ (x : Reply). Replies contexts m line (step.Call c (guest.Stream (stream_call.CheckWrite output))) es x after) e k.row.1 in (row.0, (row.1.0, row.1.1)))

    flushed_out : (es : List Entry) (why : CallStop) (after : Machine) → FlushFacts contexts line c m output es (Err why, after) → Replies contexts ms at s (front ++ es) (call_stop_reply why) after
    flushed_out es why after k =
        part_out (step.Call c (guest.Stream (stream_call.Flush output))) es why after k.row.1 (λ kind e. flush_traps contexts line c m output es after kind (subst (λ (x : Reply). Replies contexts m line (step.Call c (guest.Stream (stream_call.Flush output))) es x after) e k.row.1))
        (λ e. let row = subst (λ (x : Reply). Replies contexts m line (step.Call c (guest.Stream (stream_call.Flush output))) es x after) e k.row.1 in (row.0, (row.1.0, row.1.1)))

    -- what was asked of each
    looks : (es : List Entry) (given : Result ℕ CallStop) (after : Machine) → CheckFacts contexts line c m output es (given, after) → m.store.standing ≡ None → Answered contexts m line (step.Call c (guest.Stream (stream_call.CheckWrite output))) es (permit_reply given) after
    looks es given after k free = answers_part contexts m line (step.Call c (guest.Stream (stream_call.CheckWrite output))) (check_asks m (own_of line) output) permit_reply refl free es given after k.did

    flushes : (es : List Entry) (given : Result (Unit {0}) CallStop) (after : Machine) → FlushFacts contexts line c m output es (given, after) → m.store.standing ≡ None → Answered contexts m line (step.Call c (guest.Stream (stream_call.Flush output))) es (taken_reply given) after
    flushes es given after k free = answers_part contexts m line (step.Call c (guest.Stream (stream_call.Flush output))) (flushed_asks m (own_of line) output) taken_reply refl free es given after k.did

    -- == a flush
    abbrev FlushRow : Rows (Blocked (Unit {0}))
    FlushRow = Row (λ es r after. m.store.standing ≡ None → FlushesOn contexts m c ids output es r after) front

    -- == the end of a write
    abbrev LastRow : Rows (Blocked (Unit {0}))
    LastRow = Row (λ es r after. m.store.standing ≡ None → LooksLast contexts m c ids output es r after) front

    -- an end of the stream has taken all
    ended_by : (why : CallStop) (es : List Entry) (after : Machine) → (Comes : List Entry → Reply → Machine → Type 0) → Comes es (ended_reply (call_stop_reply why)) after → (why ≡ Closed → after.table ≡ m.table) → Replies contexts ms at s (front ++ es) (call_stop_reply why) after → Row Comes front es (write_ended why after)
    ended_by Closed es after Comes comes table row = (comes, f.gives (front ++ es) after (table refl ∙ ahead.table))
    ended_by (Failed code handle) es after Comes comes table row = (comes, row)
    ended_by (TrapsBy kind) es after Comes comes table row = (comes, row)

    closed_table : (T : Type 0) (es : List Entry) (why : CallStop) (after : Machine) → Kept {T = T} m es (Err why, after) → why ≡ Closed → after.table ≡ m.table
    closed_table T es Closed after k e = k.1
    closed_table T es (Failed code handle) after k e = absurd (cc)
    closed_table T es (TrapsBy kind) after k e = absurd (cc)

    last_so : (es : List Entry) (given : Result ℕ CallStop) (after : Machine) → CheckFacts contexts line c m output es (given, after) → LastRow es (last_checked ids output (given, after))
    last_so es (Ok zero) after k = (λ free. LastWaits es after (looks es (Ok 0) after k free), f.pends (front ++ es) (blocking.Finish output) after (k.kept.1 ∙ ahead.table))
    last_so es (Ok (suc n)) after k = (λ free. AllTaken es n after (looks es (Ok (suc n)) after k free), f.gives (front ++ es) after (k.kept.1 ∙ ahead.table))
    last_so es (Err why) after k = ended_by why es after (λ es r after. m.store.standing ≡ None → LooksLast contexts m c ids output es r after) (λ free. LastGivesNone es (call_stop_reply why) after (looks es (Err why) after k free) (stops_none why)) (closed_table ℕ es why after k.kept) (checked_out es why after k)

    pub last_rows : Meets LastRow [] (last_check_asks m ids output)
    last_rows = onto _ (widen (λ es done k. last_so es done.0 done.1 k) (check_facts contexts line c m output))

    -- == a flush, and then such an end
    abbrev FinishRow : Rows (Blocked (Unit {0}))
    FinishRow = Row (λ es r after. m.store.standing ≡ None → Finishes contexts m c ids output es r after) front

    -- a flush that gives nothing leaves the machine as it was
    after_flush : (es : List Entry) (after : Machine) → FlushFacts contexts line c m output es (Ok tt, after) → m.store.standing ≡ None → Answered contexts m line (step.Call c (guest.Stream (stream_call.Flush output))) [] (reply.Ok no_fields) m
    after_flush es after k free = subst (λ (x : Machine). Answered contexts m line (step.Call c (guest.Stream (stream_call.Flush output))) [] (reply.Ok no_fields) x) k.row.1.1.1 (subst (λ (xs : List Entry). Answered contexts m line (step.Call c (guest.Stream (stream_call.Flush output))) xs (reply.Ok no_fields) after) k.row.1.1.0 (flushes es (Ok tt) after k free))

    finish_so : (es : List Entry) (given : Result (Unit {0}) CallStop) (after : Machine) → FlushFacts contexts line c m output es (given, after) → Meets FinishRow es (finish_flushed ids output (given, after))
    finish_so es (Ok done) after k =
        subst (λ (x : Machine). Meets FinishRow es (last_check_asks x ids output)) (sym k.row.1.1.1) (subst (λ (xs : List Entry). Meets FinishRow xs (last_check_asks m ids output)) (sym k.row.1.1.0) (widen (λ fs d row. (λ free. EndsByLook fs (blocked_reply_of no_values line d.0) d.1 (after_flush es after k free) (row.0 free), row.1)) last_rows))
    finish_so es (Err why) after k = ends (ended_by why es after (λ es r after. m.store.standing ≡ None → Finishes contexts m c ids output es r after) (λ free. EndsByFlush es (call_stop_reply why) after (flushes es (Err why) after k free) (stops_none why)) (closed_table (Unit {0}) es why after k.kept) (flushed_out es why after k))

    pub finish_rows : Meets FinishRow [] (finish_write_asks m ids output)
    finish_rows = chain (flush_facts contexts line c m output) (λ es done k. finish_so es done.0 done.1 k)

    -- == a flush
    flush_so : (es : List Entry) (given : Result ℕ CallStop) (after : Machine) → (m.store.standing ≡ None → Answered contexts m line (step.Call c (guest.Stream (stream_call.Flush output))) [] (reply.Ok no_fields) m) → CheckFacts contexts line c m output es (given, after) → FlushRow es (flush_checked ids output (given, after))
    flush_so es (Ok zero) after done k = (λ free. StillWrites es after (done free) (looks es (Ok 0) after k free), f.pends (front ++ es) (blocking.Flush output) after (k.kept.1 ∙ ahead.table))
    flush_so es (Ok (suc n)) after done k = (λ free. IsFlushed es n after (done free) (looks es (Ok (suc n)) after k free), f.gives (front ++ es) after (k.kept.1 ∙ ahead.table))
    flush_so es (Err why) after done k = (λ free. LookGivesNone es (call_stop_reply why) after (done free) (looks es (Err why) after k free) (stops_none why), checked_out es why after k)

    begun_so : (es : List Entry) (given : Result (Unit {0}) CallStop) (after : Machine) → FlushFacts contexts line c m output es (given, after) → Meets FlushRow es (flush_begun ids output (given, after))
    begun_so es (Ok done) after k =
        subst (λ (x : Machine). Meets FlushRow es (flush_begun ids output (Ok done, x))) (sym k.row.1.1.1) (subst (λ (xs : List Entry). Meets FlushRow xs (flush_begun ids output (Ok done, m))) (sym k.row.1.1.0) (onto _ (widen (λ fs d row. flush_so fs d.0 d.1 (after_flush es after k) row) (check_facts contexts line c m output))))
    begun_so es (Err why) after k = ends (λ free. FlushGivesNone es (call_stop_reply why) after (flushes es (Err why) after k free) (stops_none why), flushed_out es why after k)

    pub flush_rows : Meets FlushRow [] (blocking_flush_asks m ids output)
    flush_rows = chain (flush_facts contexts line c m output) (λ es done k. begun_so es done.0 done.1 k)

    -- == a round of a write
    module _ (n : ℕ) (es : List Entry) (mid : Machine) (k : CheckFacts contexts line c m output es (Ok n, mid)) where
      -- where something may be written, the output is there
      there : MissesOutput mid output → ⊥
      there missing = output_is_there m line output n es k.row.1.1 (missed_output m mid k.kept.1 k.kept.0.there output missing)

      checked_ahead : Ahead (front ++ es) mid
      checked_ahead = record { table = k.kept.1 ∙ ahead.table; unmarked = (let two = marks_two front es in let one = ahead.unmarked in let other = k.kept.2 in omega (arith, two, one, other)); misses = λ missing. absurd (there missing) }

      free_mid : m.store.standing ≡ None → mid.store.standing ≡ None
      free_mid free = k.kept.0.standing ∙ free

      module _ (bytes : List ℕ) (some : 0 < n) (few : length bytes ≤ n) where
        abbrev WroteFacts : Rows (Result (Unit {0}) CallStop × Machine)
        WroteFacts fs done = WriteFacts contexts line c mid output bytes fs done

        writes : (fs : List Entry) (given : Result (Unit {0}) CallStop) (after : Machine) → WroteFacts fs (given, after) → m.store.standing ≡ None → Answered contexts mid line (step.Call c (guest.Stream (stream_call.Write output bytes))) fs (taken_reply given) after
        writes fs given after w free = answers_part contexts mid line (step.Call c (guest.Stream (stream_call.Write output bytes))) (write_asks mid (own_of line) output bytes) taken_reply refl (free_mid free) fs given after w.did

        may : MayWrite mid output (length bytes)
        may = fewer mid output n (length bytes) few (k.permits some)

        wrote_out : (fs : List Entry) (why : CallStop) (after : Machine) → WroteFacts fs (Err why, after) → Replies contexts ms at s (front ++ (es ++ fs)) (call_stop_reply why) after
        wrote_out fs why after w =
            subst (λ (xs : List Entry). Replies contexts ms at s xs (call_stop_reply why) after) (append_assoc front es fs)
            (of_part contexts ms at s f.is line (step.Call c (guest.Stream (stream_call.Write output bytes))) mid (front ++ es) fs (call_stop_reply why) after checked_ahead.table checked_ahead.unmarked (stops_none why) w.row.1
            (λ kind e. write_traps contexts line c mid output fs after bytes kind (subst (λ (x : Reply). Replies contexts mid line (step.Call c (guest.Stream (stream_call.Write output bytes))) fs x after) e w.row.1) (λ is. may.0 (w.row.0.0.0 (e ∙ ap reply.Trap is))) (λ is. may.1 (w.row.0.1.0 (e ∙ ap reply.Trap is))))
            (λ e. absurd (there (subst (λ (x : Reply). Replies contexts mid line (step.Call c (guest.Stream (stream_call.Write output bytes))) fs x after) e w.row.1).0)))

        written_ahead : (fs : List Entry) (after : Machine) → WroteFacts fs (Ok tt, after) → Ahead (front ++ (es ++ fs)) after
        written_ahead fs after w = record {
          table = w.kept.1 ∙ checked_ahead.table;
          unmarked = (let two = marks_two front (es ++ fs) in let three = marks_two es fs in let one = ahead.unmarked in let other = k.kept.2 in let last = w.kept.2 in omega (arith, two, three, one, other, last));
          misses = λ missing. absurd (there (missed_output mid after w.kept.1 w.kept.0.there output missing));
        }

  -- == a write, round for round
  -- what there is to write is no more than there are rounds
  abbrev WriteRow : ℕ → Machine → List ℕ → List Entry → Rows (Blocked (Unit {0}))
  WriteRow k m rest front = Row (λ es r after. length rest ≤ k → m.store.standing ≡ None → WritesOn contexts c ids output m rest es r after) front

  few_taken : (n : ℕ) (rest : List ℕ) → length (take n rest) ≤ n
  few_taken n rest = let k = length-take n rest in let l = min-le_left n (length rest) in omega (arith, k, l)

  dropped_short : (n : ℕ) (xs : List ℕ) → length (drop n xs) ≤ length xs
  dropped_short zero xs = omega arith
  dropped_short (suc n) [] = omega arith
  dropped_short (suc n) (x ∷ xs) = let k = dropped_short n xs in omega (arith, k)

  -- each round leaves less
  less_left : (k n b : ℕ) (rest more : List ℕ) → length rest ≤ suc k → drop (suc n) rest ≡ b ∷ more → length (b ∷ more) ≤ k
  less_left k n b [] more short e = absurd (cc)
  less_left k n b (x ∷ rest) more short e =
      let left : drop n rest ≡ b ∷ more = e in
      let all : length (drop n rest) ≤ length rest = dropped_short n rest in
      let its : length (drop n rest) ≡ length (b ∷ more) = ap (λ (xs : List ℕ). length xs) left in
      omega (arith, all, its, short)

  -- how a round continues
  abbrev GoesOn : ℕ → Type 0
  GoesOn k = (m : Machine) (front : List Entry) → Ahead front m → (b : ℕ) (rest : List ℕ) → Meets (WriteRow k m (b ∷ rest) front) [] (write_rounds k ids output m (b ∷ rest))

  module _ (k : ℕ) (goes : GoesOn k) (m : Machine) (front : List Entry) (ahead : Ahead front m) (rest : List ℕ) where
    module _ (n : ℕ) (es : List Entry) (mid : Machine) (facts : CheckFacts contexts line c m output es (Ok (suc n), mid)) where
      abbrev piece : List ℕ
      piece = take (suc n) rest

      module _ (fs : List Entry) (next : Machine) (w : WriteFacts contexts line c mid output piece fs (Ok tt, next)) where
        next_ahead : Ahead (front ++ (es ++ fs)) next
        next_ahead = written_ahead m front ahead (suc n) es mid facts piece (omega arith) (few_taken (suc n) rest) fs next w

        free_next : m.store.standing ≡ None → next.store.standing ≡ None
        free_next free = w.kept.0.standing ∙ free_mid m front ahead (suc n) es mid facts free

        looked : m.store.standing ≡ None → Answered contexts m line (step.Call c (guest.Stream (stream_call.CheckWrite output))) es (reply.Ok (number_fields (suc n))) mid
        looked free = looks m front ahead es (Ok (suc n)) mid facts free

        wrote : m.store.standing ≡ None → Answered contexts mid line (step.Call c (guest.Stream (stream_call.Write output piece))) fs (reply.Ok no_fields) next
        wrote free = writes m front ahead (suc n) es mid facts piece (omega arith) (few_taken (suc n) rest) fs (Ok tt) next w free

        -- what follows, as a part of the whole
        whole : (gs : List Entry) (d : Blocked (Unit {0})) → (length rest ≤ suc k → m.store.standing ≡ None → WritesOn contexts c ids output m rest (es ++ (fs ++ gs)) (blocked_reply_of no_values line d.0) d.1) → Replies contexts ms at s ((front ++ (es ++ fs)) ++ gs) (blocked_reply_of no_values line d.0) d.1 → WriteRow (suc k) m rest front ((es ++ fs) ++ gs) d
        whole gs d comes row = (
          λ short free. subst (λ (xs : List Entry). WritesOn contexts c ids output m rest xs (blocked_reply_of no_values line d.0) d.1) (sym (append_assoc es fs gs)) (comes short free),
          subst (λ (xs : List Entry). Replies contexts ms at s xs (blocked_reply_of no_values line d.0) d.1) (append_assoc front (es ++ fs) gs) row,
        )

        by_rest : (left : List ℕ) → drop (suc n) rest ≡ left → Meets (WriteRow (suc k) m rest front) (es ++ fs) (round_written ids output (write_rounds k ids output) left (Ok tt, next))
        by_rest [] e =
            widen (λ xs d a. subst (λ (ys : List Entry). WriteRow (suc k) m rest front ys d) (sym a.cut) (whole a.rest d (λ short free. LastRound m mid next rest n es fs a.rest (blocked_reply_of no_values line d.0) d.1 (looked free) (wrote free) e (a.row.0 (free_next free))) a.row.1))
            (shifted (es ++ fs) (finish_rows next (front ++ (es ++ fs)) next_ahead))
        by_rest (b ∷ more) e =
            widen (λ xs d a. subst (λ (ys : List Entry). WriteRow (suc k) m rest front ys d) (sym a.cut) (whole a.rest d (λ short free. AnotherRound m mid next rest n b more es fs a.rest (blocked_reply_of no_values line d.0) d.1 (looked free) (wrote free) e (a.row.0 (less_left k n b rest more short e) (free_next free))) a.row.1))
            (shifted (es ++ fs) (goes next (front ++ (es ++ fs)) next_ahead b more))

      by_write : (fs : List Entry) (given : Result (Unit {0}) CallStop) (next : Machine) → WriteFacts contexts line c mid output piece fs (given, next) → Meets (WriteRow (suc k) m rest front) (es ++ fs) (round_written ids output (write_rounds k ids output) (drop (suc n) rest) (given, next))
      by_write fs (Ok done) next w = by_rest fs next w (drop (suc n) rest) refl
      by_write fs (Err why) next w = ends (
        λ short free. NoneTaken m mid rest n es fs (call_stop_reply why) next (looks m front ahead es (Ok (suc n)) mid facts free) (writes m front ahead (suc n) es mid facts piece (omega arith) (few_taken (suc n) rest) fs (Err why) next w free) (stops_none why),
        wrote_out m front ahead (suc n) es mid facts piece (omega arith) (few_taken (suc n) rest) fs why next w,
      )

    by_check : (es : List Entry) (given : Result ℕ CallStop) (mid : Machine) → CheckFacts contexts line c m output es (given, mid) → Meets (WriteRow (suc k) m rest front) es (round_checked ids output (write_rounds k ids output) rest (given, mid))
    by_check es (Ok zero) mid facts = ends (λ short free. NotYet m rest es mid (looks m front ahead es (Ok 0) mid facts free), f.pends (front ++ es) (blocking.Write output rest) mid (facts.kept.1 ∙ ahead.table))
    by_check es (Ok (suc n)) mid facts = chain (shifted es (write_facts contexts line c mid output (take (suc n) rest))) (λ xs done a. subst (λ (ys : List Entry). Meets (WriteRow (suc k) m rest front) ys (round_written ids output (write_rounds k ids output) (drop (suc n) rest) done)) (sym a.cut) (by_write n es mid facts a.rest done.0 done.1 a.row))
    by_check es (Err why) mid facts = ends (λ short free. NonePermitted m rest es (call_stop_reply why) mid (looks m front ahead es (Err why) mid facts free) (stops_none why), checked_out m front ahead es why mid facts)

    one_round : Meets (WriteRow (suc k) m rest front) [] (write_rounds (suc k) ids output m rest)
    one_round = chain (check_facts contexts line c m output) (λ es done facts. by_check es done.0 done.1 facts)

  none_goes : GoesOn 0
  none_goes m front ahead b rest = ends (λ short free. absurd (omega (arith, short)), f.pends (front ++ []) (blocking.Write output (b ∷ rest)) m ahead.table)

  pub rounds : (k : ℕ) (m : Machine) (front : List Entry) → Ahead front m → (rest : List ℕ) → Meets (WriteRow (suc k) m rest front) [] (write_rounds (suc k) ids output m rest)
  rounds zero m front ahead rest = one_round zero none_goes m front ahead rest
  rounds (suc k) m front ahead rest = one_round (suc k) (λ next before its b more. rounds k next before its (b ∷ more)) m front ahead rest
