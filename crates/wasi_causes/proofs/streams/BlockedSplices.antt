-- A splice that blocks.
use Rattle.wasi_causes.proofs.Words.{◌≡◌, ◌≢◌, ◌∙◌, ℕ, arith, zero, suc, min, Bool, true, false, List, [], ◌∷◌, ◌++◌, Option, None, append_assoc, append-nil, refl, sym, subst, ap, inl, inr, Answered, CallStop, Entry, Err, Machine, MissesHandle, NoSuchHandle, Ok, Pending, Reply, Result, Step, TrapKind, WasiSocketsCtx, bind, bytes_reply, check_asks, kind_at, length, marks_in, number_fields, own_of, permit_reply, read_asks, record_in, streams_in, taken_reply, write_asks}
use Rattle.std.specs.Prelude.{◌≤◌}
use Rattle.std.proofs.Math.Nat.{min-le_left, min-le_right, sub-add-min_cancel}
use Rattle.wasi_world.specs.declared.ids.Ids.{Ids}
use Rattle.host_store.specs.declared.store.BlockingCall.TheVariants as blocking
use Rattle.host_streams.specs.Blocking.{Blocked, blocking_splice_asks, blocking_splice_when, splice_count, splice_given, splice_looked, splice_permitted, splice_written}
use Rattle.host_store.specs.CallStops.{Closed, Failed, Traps as TrapsBy}
use Rattle.host_store.specs.Kinds.{is_readable, is_writable}
use Rattle.wasi_machine.specs.Machine.{blocked_reply_of, call_stop_reply}
use Rattle.wasi_steps.specs.declared.reply.Reply.TheVariants as reply
use Rattle.wasi_steps.specs.declared.guest_call.GuestCall.TheVariants as guest
use Rattle.wasi_steps.specs.declared.guest_call.StreamCall.TheVariants as stream_call
use Rattle.wasi_steps.specs.declared.step.Step.TheVariants as step
use Rattle.wasi_steps.specs.Reply.{bytes_fields}
use Rattle.wasi_walks.specs.Missing.{MissesEither, MissesInput}
use Rattle.wasi_causes.proofs.streams.Blocks.{Frame, stops_none}
use Rattle.wasi_causes.proofs.streams.Composed.{HandsOn, answers_part, marks_two, of_part}
use Rattle.wasi_causes.proofs.streams.Facts.{CheckFacts, ReadFacts, WriteFacts, check_facts, check_traps, read_facts, read_traps, write_facts, write_traps}
use Rattle.wasi_causes.proofs.streams.Looks.{LookFacts, look_facts}
use Rattle.wasi_causes.proofs.streams.Missing.{missed_input, missed_output, output_is_there}
use Rattle.wasi_causes.proofs.streams.Permits.{MayWrite, fewer, still_may}
use Rattle.wasi_causes.proofs.streams.Pipes.{unreadable, unwritable}
use Rattle.wasi_causes.proofs.tables.Meets.{Meets, Rows, chain, ends, onto, shifted, widen}
use Rattle.wasi_causes.specs.Blocking.{CheckGivesNone, InputIsMissing, InputWaits, LooksInto, NoRoomYet, NoStreams, NoneRead, NoneToRead, ReadGivesNone, SplicesOn, WritesRead, waiting}
use Rattle.wasi_causes.specs.Outcomes.{LeavesMissing, Reads, Replies}
use Rattle.wasi_causes.specs.Parts.{spliced_reply}

module _ (contexts : List WasiSocketsCtx) (ms : Machine) (at : ℕ) (s : Step) (m : Machine) (c : ℕ) (ids : Ids) (to from len : ℕ) (f : Frame contexts ms at s m ids (blocking.Splice to from len))
    (late : is_readable (kind_at m.table from) ≡ true → MissesInput m from → (es : List Entry) (after : Machine) → LeavesMissing ms s es after) where
  abbrev line : ℕ
  line = ids.line

  abbrev pub Row : Rows (Blocked ℕ)
  Row es done = (m.store.standing ≡ None → SplicesOn contexts m c ids to from len es (blocked_reply_of number_fields line done.0) done.1) × Replies contexts ms at s es (blocked_reply_of number_fields line done.0) done.1

  -- a handle that is that of no stream
  no_output : is_writable (kind_at m.table to) ≡ false → MissesEither m to from
  no_output other = let k = unwritable (kind_at m.table to) other in inl (ap (λ (o : Option ℕ). streams_in (record_in m o)) k.0, rw k.1 tt)

  no_input : is_readable (kind_at m.table from) ≡ false → MissesEither m to from
  no_input other = let k = unreadable (kind_at m.table from) other in inr (ap (λ (o : Option ℕ). streams_in (record_in m o)) k.0, rw k.1 tt)

  looks : (es : List Entry) (given : Result ℕ CallStop) (mid : Machine) → CheckFacts contexts line c m to es (given, mid) → m.store.standing ≡ None → Answered contexts m line (step.Call c (guest.Stream (stream_call.CheckWrite to))) es (permit_reply given) mid
  looks es given mid k free = answers_part contexts m line (step.Call c (guest.Stream (stream_call.CheckWrite to))) (check_asks m (own_of line) to) permit_reply refl free es given mid k.did

  checked_out : (es : List Entry) (why : CallStop) (after : Machine) → CheckFacts contexts line c m to es (Err why, after) → Row es (Err why, after)
  checked_out es why after k = (
    λ free. CheckGivesNone es (call_stop_reply why) after (looks es (Err why) after k free) (stops_none why),
    of_part contexts ms at s f.is line (step.Call c (guest.Stream (stream_call.CheckWrite to))) m [] es (call_stop_reply why) after f.table refl (stops_none why) k.row.1 (λ kind e. check_traps contexts line c m to es after kind (subst (λ (x : Reply). Replies contexts m line (step.Call c (guest.Stream (stream_call.CheckWrite to))) es x after) e k.row.1))
        (λ e. let row = subst (λ (x : Reply). Replies contexts m line (step.Call c (guest.Stream (stream_call.CheckWrite to))) es x after) e k.row.1 in (f.misses (inl row.0), subst (λ (x : Machine). LeavesMissing ms s es x) (sym row.1.1) (subst (λ (xs : List Entry). LeavesMissing ms s xs m) (sym row.1.0) f.quiet))),
  )

  -- == its output was looked at
  module _ (readable : is_readable (kind_at m.table from) ≡ true) (n : ℕ) (es : List Entry) (mid : Machine) (k : CheckFacts contexts line c m to es (Ok (suc n), mid)) where
    free_mid : m.store.standing ≡ None → mid.store.standing ≡ None
    free_mid free = k.kept.0.standing ∙ free

    checked : m.store.standing ≡ None → Answered contexts m line (step.Call c (guest.Stream (stream_call.CheckWrite to))) es (reply.Ok (number_fields (suc n))) mid
    checked free = looks es (Ok (suc n)) mid k free

    -- an input that isn't there wasn't there before
    lost : MissesInput mid from → (xs : List Entry) (after : Machine) → MissesHandle ms s × LeavesMissing ms s xs after
    lost none xs after = let before = missed_input m mid k.kept.1 k.kept.0.there from none in (f.misses (inr before), late readable before xs after)

    module _ (count : ℕ) (some : min (suc n) len ≡ suc count) where
      not_none : len ≢ 0
      not_none none = let less = min-le_right (suc n) len in omega (arith, less, some, none)

      module _ (ls : List Entry) (looked : LooksInto mid (own_of line) from true ls) (unmarked : marks_in ls ≡ 0) where
        front_marks : marks_in (es ++ ls) ≡ 0
        front_marks = let two = marks_two es ls in let one = k.kept.2 in omega (arith, two, one, unmarked)

        did : (fs : List Entry) (given : Result (List ℕ) CallStop) (after : Machine) → ReadFacts contexts line c mid from (suc count) fs (given, after) → m.store.standing ≡ None → Answered contexts mid line (step.Call c (guest.Stream (stream_call.Read from (suc count)))) fs (bytes_reply given) after
        did fs given after r free = answers_part contexts mid line (step.Call c (guest.Stream (stream_call.Read from (suc count)))) (read_asks mid (own_of line) from (suc count)) bytes_reply refl (free_mid free) fs given after r.did

        read_out : (fs : List Entry) (why : CallStop) (after : Machine) → ReadFacts contexts line c mid from (suc count) fs (Err why, after) → Row (es ++ (ls ++ fs)) (Err why, after)
        read_out fs why after r = (
          λ free. ReadGivesNone es ls fs n count mid (call_stop_reply why) after (checked free) some looked (did fs (Err why) after r free) (stops_none why),
          subst (λ (xs : List Entry). Replies contexts ms at s xs (call_stop_reply why) after) (append_assoc es ls fs)
              (of_part contexts ms at s f.is line (step.Call c (guest.Stream (stream_call.Read from (suc count)))) mid (es ++ ls) fs (call_stop_reply why) after (k.kept.1 ∙ f.table) front_marks (stops_none why) r.row.1 (λ kind e. read_traps contexts line c mid from fs after (suc count) kind (subst (λ (x : Reply). Replies contexts mid line (step.Call c (guest.Stream (stream_call.Read from (suc count)))) fs x after) e r.row.1))
              (λ e. lost (subst (λ (x : Reply). Replies contexts mid line (step.Call c (guest.Stream (stream_call.Read from (suc count)))) fs x after) e r.row.1).0 ((es ++ ls) ++ fs) after)),
        )

        none_read : (fs : List Entry) (after : Machine) → ReadFacts contexts line c mid from (suc count) fs (Ok [], after) → Row (es ++ (ls ++ fs)) (Ok Pending, waiting after ids (blocking.Splice to from len))
        none_read fs after r = subst (λ (x : Machine). Row (es ++ (ls ++ fs)) (Ok Pending, waiting x ids (blocking.Splice to from len))) (sym (same r.row.1.1)) (
          λ free. NoneRead es ls fs n count mid (checked free) some looked (subst (λ (x : Machine). Answered contexts mid line (step.Call c (guest.Stream (stream_call.Read from (suc count)))) fs (reply.Ok (bytes_fields [])) x) (same r.row.1.1) (did fs (Ok []) after r free)),
          f.pends (es ++ (ls ++ fs)) (blocking.Splice to from len) mid k.kept.1,
        )
          where
            same : Reads mid line from (suc count) fs (bytes_fields []) after → after ≡ mid
            same (inl x) = x.1
            same (inr x) = x.2.1

        module _ (fs : List Entry) (b : ℕ) (bytes : List ℕ) (read : Machine) (r : ReadFacts contexts line c mid from (suc count) fs (Ok (b ∷ bytes), read)) where
          free_read : m.store.standing ≡ None → read.store.standing ≡ None
          free_read free = r.kept.0.standing ∙ free_mid free

          same_table : read.table ≡ m.table
          same_table = r.kept.1 ∙ k.kept.1

          all_marks : marks_in (es ++ (ls ++ fs)) ≡ 0
          all_marks = let two = marks_two es (ls ++ fs) in let three = marks_two ls fs in let one = k.kept.2 in let other = r.kept.2 in omega (arith, two, three, one, unmarked, other)

          -- what was read may be written
          may : MayWrite read to (length (b ∷ bytes))
          may =
              let few = min-le_left (suc n) len in
              let short : length (b ∷ bytes) ≤ suc count = r.short in
              fewer read to (suc n) (length (b ∷ bytes)) (omega (arith, few, some, short)) (still_may mid read to (suc n) r.writers (k.permits (omega arith)))

          written : (gs : List Entry) (given : Result (Unit {0}) CallStop) (after : Machine) → WriteFacts contexts line c read to (b ∷ bytes) gs (given, after) → m.store.standing ≡ None → SplicesOn contexts m c ids to from len (es ++ (ls ++ (fs ++ gs))) (spliced_reply (length (b ∷ bytes)) (taken_reply given)) after
          written gs given after w free =
              WritesRead es ls fs gs n count b bytes mid read (taken_reply given) after (checked free) some looked (did fs (Ok (b ∷ bytes)) read r free) (answers_part contexts read line (step.Call c (guest.Stream (stream_call.Write to (b ∷ bytes)))) (write_asks read (own_of line) to (b ∷ bytes)) taken_reply refl (free_read free) gs given after w.did)

          write_out : (gs : List Entry) (given : Result (Unit {0}) CallStop) (after : Machine) → WriteFacts contexts line c read to (b ∷ bytes) gs (given, after) → Row (es ++ (ls ++ (fs ++ gs))) (splice_written (length (b ∷ bytes)) (given, after))
          write_out gs (Ok done) after w = (written gs (Ok done) after w, f.gives (es ++ (ls ++ (fs ++ gs))) (number_fields (length (b ∷ bytes))) after (length (b ∷ bytes), refl) (w.kept.1 ∙ same_table))
          write_out gs (Err why) after w = (
            λ free. subst (λ (x : Reply). SplicesOn contexts m c ids to from len (es ++ (ls ++ (fs ++ gs))) x after) (same_reply why) (written gs (Err why) after w free),
            subst (λ (xs : List Entry). Replies contexts ms at s xs (call_stop_reply why) after) (append_assoc es (ls ++ fs) gs ∙ ap (λ (xs : List Entry). es ++ xs) (append_assoc ls fs gs))
                (of_part contexts ms at s f.is line (step.Call c (guest.Stream (stream_call.Write to (b ∷ bytes)))) read (es ++ (ls ++ fs)) gs (call_stop_reply why) after (same_table ∙ f.table) all_marks (stops_none why) w.row.1 traps misses),
          )
            where
              same_reply : (why : CallStop) → spliced_reply (length (b ∷ bytes)) (call_stop_reply why) ≡ call_stop_reply why
              same_reply Closed = refl
              same_reply (Failed code handle) = refl
              same_reply (TrapsBy kind) = refl

              traps : (kind : TrapKind) → call_stop_reply why ≡ reply.Trap kind → HandsOn kind
              traps kind e = write_traps contexts line c read to gs after (b ∷ bytes) kind (subst (λ (x : Reply). Replies contexts read line (step.Call c (guest.Stream (stream_call.Write to (b ∷ bytes)))) gs x after) e w.row.1) (λ is. may.0 (w.row.0.0.0 (e ∙ ap reply.Trap is))) (λ is. may.1 (w.row.0.1.0 (e ∙ ap reply.Trap is)))

              misses : call_stop_reply why ≡ reply.Trap NoSuchHandle → MissesHandle ms s × LeavesMissing ms s ((es ++ (ls ++ fs)) ++ gs) after
              misses e = let row = subst (λ (x : Reply). Replies contexts read line (step.Call c (guest.Stream (stream_call.Write to (b ∷ bytes)))) gs x after) e w.row.1 in absurd (output_is_there m line to (suc n) es k.row.1.1 (missed_output m mid k.kept.1 k.kept.0.there to (missed_output mid read r.kept.1 r.kept.0.there to row.0)))

        by_read : (fs : List Entry) (given : Result (List ℕ) CallStop) (read : Machine) → ReadFacts contexts line c mid from (suc count) fs (given, read) → Meets Row (es ++ (ls ++ fs)) (splice_given ids to from len (given, read))
        by_read fs (Ok []) read r = ends (none_read fs read r)
        by_read fs (Ok (b ∷ bytes)) read r = onto _ (widen (λ xs done a. subst (λ (ys : List Entry). Row ys (splice_written (length (b ∷ bytes)) done)) (sym (append_assoc es (ls ++ fs) a.rest ∙ ap (λ (ys : List Entry). es ++ ys) (append_assoc ls fs a.rest)) ∙ sym a.cut) (write_out fs b bytes read r a.rest done.0 done.1 a.row)) (shifted (es ++ (ls ++ fs)) (write_facts contexts line c read to (b ∷ bytes))))
        by_read fs (Err why) read r = ends (read_out fs why read r)

        then_reads : Meets Row (es ++ ls) (bind (read_asks mid (own_of line) from (suc count)) (λ read. splice_given ids to from len read))
        then_reads = chain (shifted (es ++ ls) (read_facts contexts line c mid from (suc count))) (λ xs done a. subst (λ (ys : List Entry). Meets Row ys (splice_given ids to from len done)) (sym (append_assoc es ls a.rest) ∙ sym a.cut) (by_read a.rest done.0 done.1 a.row))

      by_look : (ls : List Entry) (given : Result Bool CallStop) (now : Machine) → LookFacts mid (own_of line) from ls (given, now) → Meets Row (es ++ ls) (splice_looked ids to from len (suc count) (given, now))
      by_look ls (Ok true) now l = subst (λ (x : Machine). Meets Row (es ++ ls) (splice_looked ids to from len (suc count) (Ok true, x))) (sym l.1) (then_reads ls l.0 l.2)
      by_look ls (Ok false) now l = ends (subst (λ (x : Machine). Row (es ++ ls) (Ok Pending, waiting x ids (blocking.Splice to from len))) (sym l.1) (λ free. InputWaits es ls n mid (checked free) not_none l.0, f.pends (es ++ ls) (blocking.Splice to from len) mid k.kept.1))
      by_look ls (Err (TrapsBy NoSuchHandle)) now l =
          ends (subst (λ (x : Machine). Row (es ++ ls) (Err (TrapsBy NoSuchHandle), x)) (sym l.2) (subst (λ (xs : List Entry). Row xs (Err (TrapsBy NoSuchHandle), mid)) (sym (append-nil es) ∙ sym (ap (λ (xs : List Entry). es ++ xs) l.1)) (λ free. InputIsMissing es n mid (checked free) not_none l.0, lost l.0 es mid)))
      by_look ls (Err _) now l = absurd l

    by_count : (count : ℕ) → min (suc n) len ≡ count → Meets Row es (splice_count ids to from len mid count)
    by_count zero none = ends (λ free. NoneToRead es n mid (checked free) (no_length len none), f.gives es (number_fields 0) mid (0, refl) k.kept.1)
      where
        no_length : (l : ℕ) → min (suc n) l ≡ 0 → l ≡ 0
        no_length zero e = refl
        no_length (suc l) e = absurd (let k = sub-add-min_cancel (suc n) (suc l) in omega (arith, k, e))
    by_count (suc count) some = chain (shifted es (look_facts mid (own_of line) from)) (λ xs done a. subst (λ (ys : List Entry). Meets Row ys (splice_looked ids to from len (suc count) done)) (sym a.cut) (by_look count some a.rest done.0 done.1 a.row))

  by_check : is_readable (kind_at m.table from) ≡ true → (es : List Entry) (given : Result ℕ CallStop) (mid : Machine) → CheckFacts contexts line c m to es (given, mid) → Meets Row es (splice_permitted ids to from len (given, mid))
  by_check readable es (Ok zero) mid k = ends (λ free. NoRoomYet es mid (looks es (Ok 0) mid k free), f.pends es (blocking.Splice to from len) mid k.kept.1)
  by_check readable es (Ok (suc n)) mid k = by_count readable n es mid k (min (suc n) len) refl
  by_check readable es (Err why) mid k = ends (checked_out es why mid k)

  by_handles : (writes reads : Bool) → is_writable (kind_at m.table to) ≡ writes → is_readable (kind_at m.table from) ≡ reads → Meets Row [] (blocking_splice_when m ids to from len writes reads)
  by_handles true true w r = chain (check_facts contexts line c m to) (λ es done k. by_check r es done.0 done.1 k)
  by_handles true false w r = ends (λ free. NoStreams (inr r), (f.misses (no_input r), f.quiet))
  by_handles false reads w r = ends (λ free. NoStreams (inl w), (f.misses (no_output w), f.quiet))

  pub splices_on : Meets Row [] (blocking_splice_asks m ids to from len)
  splices_on = by_handles (is_writable (kind_at m.table to)) (is_readable (kind_at m.table from)) refl refl
