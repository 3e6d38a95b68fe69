-- A skip, a write of zeros, and a splice.
use Rattle.wasi_causes.proofs.Words.{◌≡◌, ◌∙◌, ℕ, arith, zero, suc, min, Bool, true, false, List, [], ◌∷◌, ◌++◌, Option, None, append_assoc, refl, sym, subst, ap, inl, inr, Answered, CallStop, Entry, Err, Full, Give, Machine, MissesHandle, NoSuchHandle, NotPermitted, Ok, Reply, Result, TrapKind, WasiSocketsCtx, bind, bytes_reply, check_asks, kind_at, length, marks_in, own_of, permit_reply, read_asks, taken_reply, write_asks, streams_in, record_in}
use Rattle.std.specs.Prelude.{◌≤◌}
use Rattle.std.proofs.Math.Nat.{min-le_left}
use Rattle.wasi_streams.specs.Streams.{zeros}
use Rattle.host_store.specs.CallStops.{Closed, Failed, Traps as TrapsBy}
use Rattle.host_store.specs.Kinds.{is_readable, is_writable}
use Rattle.host_streams.specs.StreamCalls.{counted, skip_asks, splice_asks, splice_checked, splice_read, splice_some, splice_when, spliced, write_zeroes_asks}
use Rattle.wasi_machine.specs.Machine.{call_stop_reply, stream_reply_of}
use Rattle.wasi_steps.specs.declared.reply.Reply.TheVariants as reply
use Rattle.wasi_steps.specs.declared.guest_call.GuestCall.TheVariants as guest
use Rattle.wasi_steps.specs.declared.guest_call.StreamCall.TheVariants as stream_call
use Rattle.wasi_steps.specs.declared.step.Step.TheVariants as step
use Rattle.wasi_steps.specs.Reply.{no_values, number_fields}
use Rattle.wasi_walks.specs.Missing.{MissesEither, MissesInput}
use Rattle.wasi_world.specs.declared.outcome.TrapKind.TheVariants as trap
use Rattle.wasi_causes.proofs.streams.Composed.{HandsOn, IsComposed, answers_part, marks_two, of_part}
use Rattle.wasi_causes.proofs.streams.Facts.{CheckFacts, ReadFacts, WriteFacts, check_facts, check_traps, read_facts, read_traps, write_facts, write_traps}
use Rattle.wasi_causes.proofs.streams.Missing.{missed_input, missed_output, output_is_there}
use Rattle.wasi_causes.proofs.streams.Permits.{MayWrite, fewer, still_may}
use Rattle.wasi_causes.proofs.streams.Pipes.{unreadable, unwritable}
use Rattle.wasi_causes.proofs.tables.Meets.{Meets, Rows, chain, ends, onto, shifted, widen}
use Rattle.wasi_causes.proofs.tables.Routes.{Replied, Says}
use Rattle.wasi_causes.specs.Outcomes.{LeavesMissing, Quiet, Replies, Traps}
use Rattle.wasi_causes.specs.Parts.{CheckGivesNone, GivesNone, NoStream, NoneRead, NoneToRead, ReadGivesNone, Splices, Writes, spliced_reply}

-- == a skip
module _ (contexts : List WasiSocketsCtx) (m : Machine) (line c input len : ℕ) where
  abbrev SkipRow : Rows (Result ℕ CallStop × Machine)
  SkipRow = Replied contexts m line (step.Call c (guest.Stream (stream_call.Skip input len))) (stream_reply_of number_fields)

  skip_is : IsComposed contexts m line (step.Call c (guest.Stream (stream_call.Skip input len)))
  skip_is = record { stream = tt; makes = tt; ends = λ es after. tt; fails = λ es w handle after. tt; full = λ es after. tt }

  misses_so : (r : Reply) → r ≡ reply.Trap NoSuchHandle → (es : List Entry) (after : Machine) → Replies contexts m line (step.Call c (guest.Stream (stream_call.Read input len))) es r after → MissesInput m input × Quiet m es after
  misses_so r e es after row = let k = subst (λ (x : Reply). Replies contexts m line (step.Call c (guest.Stream (stream_call.Read input len))) es x after) e row in (k.0, (k.1.0, k.1.1))

  skipped_so : (es : List Entry) (given : Result (List ℕ) CallStop) (after : Machine) → ReadFacts contexts line c m input len es (given, after) → SkipRow es (counted (given, after))
  skipped_so es (Ok bytes) after k = (λ free. record { given = bytes_reply (Ok bytes); reads = answers_part contexts m line (step.Call c (guest.Stream (stream_call.Read input len))) (read_asks m (own_of line) input len) bytes_reply refl free es (Ok bytes) after k.did; counts = refl }, ((tt, tt), tt))
  skipped_so es (Err why) after k = by_stop why k
    where
      by_stop : (why : CallStop) → ReadFacts contexts line c m input len es (Err why, after) → SkipRow es (Err why, after)
      by_stop Closed k = (λ free. record { given = reply.Closed; reads = answers_part contexts m line (step.Call c (guest.Stream (stream_call.Read input len))) (read_asks m (own_of line) input len) bytes_reply refl free es (Err Closed) after k.did; counts = refl }, (tt, tt))
      by_stop (Failed code handle) k = (λ free. record { given = bytes_reply (Err (Failed code handle)); reads = answers_part contexts m line (step.Call c (guest.Stream (stream_call.Read input len))) (read_asks m (own_of line) input len) bytes_reply refl free es (Err (Failed code handle)) after k.did; counts = refl }, ((tt, k.row.1.0.1), tt))
      by_stop (TrapsBy kind) k = (
        λ free. record { given = reply.Trap kind; reads = answers_part contexts m line (step.Call c (guest.Stream (stream_call.Read input len))) (read_asks m (own_of line) input len) bytes_reply refl free es (Err (TrapsBy kind)) after k.did; counts = refl },
        of_part contexts m line (step.Call c (guest.Stream (stream_call.Skip input len))) skip_is line (step.Call c (guest.Stream (stream_call.Read input len))) m [] es (reply.Trap kind) after refl refl tt k.row.1 (λ its e. read_traps contexts line c m input es after len its (subst (λ (x : TrapKind). Traps contexts m line (step.Call c (guest.Stream (stream_call.Read input len))) es x after) (let same : kind ≡ its = cc in same) k.row.1))
            (λ e. misses_so (reply.Trap kind) e es after k.row.1),
      )

  pub skip : Meets (Says contexts m line (step.Call c (guest.Stream (stream_call.Skip input len)))) [] (bind (skip_asks m (own_of line) input len) (λ done. Give (stream_reply_of number_fields done.0, done.1)))
  skip = onto _ (onto _ (widen (λ es done k. skipped_so es done.0 done.1 k) (read_facts contexts line c m input len)))

-- == a write of zeros
module _ (contexts : List WasiSocketsCtx) (m : Machine) (line c output len : ℕ) where
  zeroed_so : (es : List Entry) (r : Reply) (after : Machine) → Replies contexts m line (step.Call c (guest.Stream (stream_call.Write output (zeros len)))) es r after → Replies contexts m line (step.Call c (guest.Stream (stream_call.WriteZeroes output len))) es r after
  zeroed_so es (reply.Ok fields) after row = (row.0, tt)
  zeroed_so es (reply.Err w) after row = absurd row.0
  zeroed_so es reply.Closed after row = (tt, tt)
  zeroed_so es (reply.Failed w handle) after row = ((tt, row.0.1), tt)
  zeroed_so es (reply.Trap trap.NoSuchHandle) after row = row
  zeroed_so es (reply.Trap trap.Full) after row = (tt, row.1, tt)
  zeroed_so es (reply.Trap trap.NotPermitted) after row = (inl tt, row.1)
  zeroed_so es (reply.Trap trap.Capacity) after row = (tt, row.1)
  zeroed_so es (reply.Trap trap.HasChildren) after row = absurd row.0
  zeroed_so es (reply.Trap trap.StreamsAlive) after row = absurd row.0
  zeroed_so es (reply.Trap trap.TooLong) after row = absurd row.0
  zeroed_so es (reply.Trap trap.EmptyList) after row = absurd row.0
  zeroed_so es (reply.Trap _) after row = absurd row
  zeroed_so es (reply.Pending n) after row = absurd row.0.0
  zeroed_so es reply.Cancelled after row = absurd row.0
  zeroed_so es reply.Dropped after row = absurd row.0
  zeroed_so es reply.Unfilled after row = absurd row.0
  zeroed_so es reply.NoSuchCall after row = elim row.0 [ inl p ↦ absurd p | inr p ↦ absurd p ]
  zeroed_so es _ after row = absurd row

  pub write_zeroes : Meets (Says contexts m line (step.Call c (guest.Stream (stream_call.WriteZeroes output len)))) [] (bind (write_zeroes_asks m (own_of line) output len) (λ done. Give (stream_reply_of no_values done.0, done.1)))
  write_zeroes =
      onto _ (widen (λ es done k. (λ free. answers_part contexts m line (step.Call c (guest.Stream (stream_call.Write output (zeros len)))) (write_asks m (own_of line) output (zeros len)) taken_reply refl free es done.0 done.1 k.did, zeroed_so es (taken_reply done.0) done.1 k.row.1))
      (write_facts contexts line c m output (zeros len)))

-- == a splice
module _ (contexts : List WasiSocketsCtx) (m : Machine) (line c to from len : ℕ) where
  abbrev SpliceRow : Rows (Result ℕ CallStop × Machine)
  SpliceRow = Replied contexts m line (step.Call c (guest.Stream (stream_call.Splice to from len))) (stream_reply_of number_fields)

  splice_is : IsComposed contexts m line (step.Call c (guest.Stream (stream_call.Splice to from len)))
  splice_is = record { stream = tt; makes = tt; ends = λ es after. tt; fails = λ es w handle after. tt; full = λ es after. tt }

  -- a handle that is that of no stream
  no_output : is_writable (kind_at m.table to) ≡ false → MissesEither m to from
  no_output other = let k = unwritable (kind_at m.table to) other in inl (ap (λ (o : Option ℕ). streams_in (record_in m o)) k.0, rw k.1 tt)

  no_input : is_readable (kind_at m.table from) ≡ false → MissesEither m to from
  no_input other = let k = unreadable (kind_at m.table from) other in inr (ap (λ (o : Option ℕ). streams_in (record_in m o)) k.0, rw k.1 tt)

  -- the end of a part
  abbrev why_reply : CallStop → Reply
  why_reply why = call_stop_reply why

  gives_none : (why : CallStop) → GivesNone (why_reply why)
  gives_none Closed = tt
  gives_none (Failed code handle) = tt
  gives_none (TrapsBy kind) = tt

  checked_out : (es : List Entry) (why : CallStop) (after : Machine) → CheckFacts contexts line c m to es (Err why, after) → SpliceRow es (Err why, after)
  checked_out es why after k = (
    λ free. CheckGivesNone es (why_reply why) after (answers_part contexts m line (step.Call c (guest.Stream (stream_call.CheckWrite to))) (check_asks m (own_of line) to) permit_reply refl free es (Err why) after k.did) (gives_none why),
    of_part contexts m line (step.Call c (guest.Stream (stream_call.Splice to from len))) splice_is line (step.Call c (guest.Stream (stream_call.CheckWrite to))) m [] es (why_reply why) after refl refl (gives_none why) k.row.1
        (λ kind e. check_traps contexts line c m to es after kind (let row = subst (λ (x : Reply). Replies contexts m line (step.Call c (guest.Stream (stream_call.CheckWrite to))) es x after) e k.row.1 in row))
        (λ e. let row = subst (λ (x : Reply). Replies contexts m line (step.Call c (guest.Stream (stream_call.CheckWrite to))) es x after) e k.row.1 in (inl row.0, λ there. (row.1.0, row.1.1))),
  )

  -- == its output was looked at
  module _ (readable : is_readable (kind_at m.table from) ≡ true) (permit : ℕ) (es : List Entry) (mid : Machine) (k : CheckFacts contexts line c m to es (Ok permit, mid)) where
    free_mid : m.store.standing ≡ None → mid.store.standing ≡ None
    free_mid free = k.kept.0.standing ∙ free

    checked : m.store.standing ≡ None → Answered contexts m line (step.Call c (guest.Stream (stream_call.CheckWrite to))) es (reply.Ok (number_fields permit)) mid
    checked free = answers_part contexts m line (step.Call c (guest.Stream (stream_call.CheckWrite to))) (check_asks m (own_of line) to) permit_reply refl free es (Ok permit) mid k.did

    -- an input that isn't there wasn't there before
    misses_before : MissesInput mid from → MissesInput m from
    misses_before = missed_input m mid k.kept.1 k.kept.0.there from

    module _ (count : ℕ) (some : min permit len ≡ suc count) where
      read_out : (fs : List Entry) (why : CallStop) (after : Machine) → ReadFacts contexts line c mid from (suc count) fs (Err why, after) → SpliceRow (es ++ fs) (Err why, after)
      read_out fs why after r = (
        λ free. ReadGivesNone es fs permit count mid (why_reply why) after (checked free) some (answers_part contexts mid line (step.Call c (guest.Stream (stream_call.Read from (suc count)))) (read_asks mid (own_of line) from (suc count)) bytes_reply refl (free_mid free) fs (Err why) after r.did) (gives_none why),
        of_part contexts m line (step.Call c (guest.Stream (stream_call.Splice to from len))) splice_is line (step.Call c (guest.Stream (stream_call.Read from (suc count)))) mid es fs (why_reply why) after k.kept.1 k.kept.2 (gives_none why) r.row.1
            (λ kind e. read_traps contexts line c mid from fs after (suc count) kind (let row = subst (λ (x : Reply). Replies contexts mid line (step.Call c (guest.Stream (stream_call.Read from (suc count)))) fs x after) e r.row.1 in row))
            (λ e. let row = subst (λ (x : Reply). Replies contexts mid line (step.Call c (guest.Stream (stream_call.Read from (suc count)))) fs x after) e r.row.1 in let missing = misses_before row.0 in (inr missing, λ there. absurd (there readable missing))),
      )

      module _ (fs : List Entry) (b : ℕ) (bytes : List ℕ) (read : Machine) (r : ReadFacts contexts line c mid from (suc count) fs (Ok (b ∷ bytes), read)) where
        was_read : m.store.standing ≡ None → Answered contexts mid line (step.Call c (guest.Stream (stream_call.Read from (suc count)))) fs (bytes_reply (Ok (b ∷ bytes))) read
        was_read free = answers_part contexts mid line (step.Call c (guest.Stream (stream_call.Read from (suc count)))) (read_asks mid (own_of line) from (suc count)) bytes_reply refl (free_mid free) fs (Ok (b ∷ bytes)) read r.did

        free_read : m.store.standing ≡ None → read.store.standing ≡ None
        free_read free = r.kept.0.standing ∙ free_mid free

        same_table : read.table ≡ m.table
        same_table = r.kept.1 ∙ k.kept.1

        no_marks : marks_in (es ++ fs) ≡ 0
        no_marks = let two = marks_two es fs in let one = k.kept.2 in let other = r.kept.2 in omega (arith, two, one, other)

        -- what was read may be written
        may : MayWrite read to (length (b ∷ bytes))
        may =
            let few = min-le_left permit len in
            let short : length (b ∷ bytes) ≤ suc count = r.short in
            fewer read to permit (length (b ∷ bytes)) (omega (arith, few, some, short)) (still_may mid read to permit r.writers (k.permits (omega (arith, few, some))))

        written : m.store.standing ≡ None → (gs : List Entry) (given : Result (Unit {0}) CallStop) (after : Machine) → WriteFacts contexts line c read to (b ∷ bytes) gs (given, after) → Splices contexts m line c to from len (es ++ (fs ++ gs)) (spliced_reply (length (b ∷ bytes)) (taken_reply given)) after
        written free gs given after w = Writes es fs gs permit count b bytes mid read (taken_reply given) after (checked free) some (was_read free) (answers_part contexts read line (step.Call c (guest.Stream (stream_call.Write to (b ∷ bytes)))) (write_asks read (own_of line) to (b ∷ bytes)) taken_reply refl (free_read free) gs given after w.did)

        write_out : (gs : List Entry) (given : Result (Unit {0}) CallStop) (after : Machine) → WriteFacts contexts line c read to (b ∷ bytes) gs (given, after) → SpliceRow (es ++ (fs ++ gs)) (spliced (length (b ∷ bytes)) (given, after))
        write_out gs (Ok done) after w = (λ free. written free gs (Ok done) after w, ((tt, tt), tt))
        write_out gs (Err why) after w = (
          λ free. subst (λ (x : Reply). Splices contexts m line c to from len (es ++ (fs ++ gs)) x after) (same_reply why) (written free gs (Err why) after w),
          subst (λ (xs : List Entry). Replies contexts m line (step.Call c (guest.Stream (stream_call.Splice to from len))) xs (why_reply why) after) (append_assoc es fs gs)
              (of_part contexts m line (step.Call c (guest.Stream (stream_call.Splice to from len))) splice_is line (step.Call c (guest.Stream (stream_call.Write to (b ∷ bytes)))) read (es ++ fs) gs (why_reply why) after same_table no_marks (gives_none why) w.row.1 traps misses),
        )
          where
            same_reply : (why : CallStop) → spliced_reply (length (b ∷ bytes)) (why_reply why) ≡ why_reply why
            same_reply Closed = refl
            same_reply (Failed code handle) = refl
            same_reply (TrapsBy kind) = refl

            traps : (kind : TrapKind) → why_reply why ≡ reply.Trap kind → HandsOn kind
            traps kind e = write_traps contexts line c read to gs after (b ∷ bytes) kind (let row = subst (λ (x : Reply). Replies contexts read line (step.Call c (guest.Stream (stream_call.Write to (b ∷ bytes)))) gs x after) e w.row.1 in row)
                (λ is. may.0 (w.row.0.0.0 (e ∙ ap reply.Trap is))) (λ is. may.1 (w.row.0.1.0 (e ∙ ap reply.Trap is)))

            misses : why_reply why ≡ reply.Trap NoSuchHandle → MissesHandle m (step.Call c (guest.Stream (stream_call.Splice to from len))) × LeavesMissing m (step.Call c (guest.Stream (stream_call.Splice to from len))) ((es ++ fs) ++ gs) after
            misses e = let row = subst (λ (x : Reply). Replies contexts read line (step.Call c (guest.Stream (stream_call.Write to (b ∷ bytes)))) gs x after) e w.row.1 in absurd (output_is_there m line to permit es k.row.1.1 (missed_output m mid k.kept.1 k.kept.0.there to (missed_output mid read r.kept.1 r.kept.0.there to row.0)))

      by_read : (fs : List Entry) (given : Result (List ℕ) CallStop) (read : Machine) → ReadFacts contexts line c mid from (suc count) fs (given, read) → Meets SpliceRow (es ++ fs) (splice_read (own_of line) to (given, read))
      by_read fs (Ok []) read r = ends (λ free. NoneRead es fs permit count mid read (checked free) some (answers_part contexts mid line (step.Call c (guest.Stream (stream_call.Read from (suc count)))) (read_asks mid (own_of line) from (suc count)) bytes_reply refl (free_mid free) fs (Ok []) read r.did), ((tt, tt), tt))
      by_read fs (Ok (b ∷ bytes)) read r = onto _ (widen (λ gs done a. subst (λ (xs : List Entry). SpliceRow xs (spliced (length (b ∷ bytes)) done)) (sym (append_assoc es fs a.rest) ∙ sym a.cut) (write_out fs b bytes read r a.rest done.0 done.1 a.row)) (shifted (es ++ fs) (write_facts contexts line c read to (b ∷ bytes))))
      by_read fs (Err why) read r = ends (read_out fs why read r)

    by_count : (count : ℕ) → min permit len ≡ count → Meets SpliceRow es (splice_some (own_of line) to from mid count)
    by_count zero none = ends (λ free. NoneToRead es permit mid (checked free) none, ((tt, tt), tt))
    by_count (suc count) some = chain (shifted es (read_facts contexts line c mid from (suc count))) (λ fs done a. subst (λ (xs : List Entry). Meets SpliceRow xs (splice_read (own_of line) to done)) (sym a.cut) (by_read count some a.rest done.0 done.1 a.row))

  by_check : is_readable (kind_at m.table from) ≡ true → (es : List Entry) (given : Result ℕ CallStop) (mid : Machine) → CheckFacts contexts line c m to es (given, mid) → Meets SpliceRow es (splice_checked (own_of line) to from len (given, mid))
  by_check readable es (Ok permit) mid k = by_count readable permit es mid k (min permit len) refl
  by_check readable es (Err why) mid k = ends (checked_out es why mid k)

  by_handles : (writes reads : Bool) → is_writable (kind_at m.table to) ≡ writes → is_readable (kind_at m.table from) ≡ reads → Meets SpliceRow [] (splice_when m (own_of line) to from len writes reads)
  by_handles true true w r = chain (check_facts contexts line c m to) (λ es done k. by_check r es done.0 done.1 k)
  by_handles true false w r = ends (λ free. NoStream (inr r), (no_input r, λ there. (refl, refl)))
  by_handles false reads w r = ends (λ free. NoStream (inl w), (no_output w, λ there. (refl, refl)))

  pub splice : Meets (Says contexts m line (step.Call c (guest.Stream (stream_call.Splice to from len)))) [] (bind (splice_asks m (own_of line) to from len) (λ done. Give (stream_reply_of number_fields done.0, done.1)))
  splice = onto _ (by_handles (is_writable (kind_at m.table to)) (is_readable (kind_at m.table from)) refl refl)
