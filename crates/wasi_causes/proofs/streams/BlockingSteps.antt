-- The steps of calls of streams that block.
use Rattle.wasi_causes.proofs.Words.{◌≡◌, ℕ, arith, Bool, true, false, List, [], Option, Give, Machine, WasiSocketsCtx, ap, bind, first_ids, kind_at, length, ltb-false, ltb-true, nat_lt, number_fields, record_in, refl, streams_in}
use Rattle.std.specs.Prelude.{◌≤◌, min}
use Rattle.std.proofs.Math.Nat.{min-le_left}
use Rattle.std.proofs.lemmas.List.{length-replicate}
use Rattle.wasi_streams.specs.Streams.{zeros}
use Rattle.host_store.specs.declared.store.BlockingCall.TheVariants as blocking
use Rattle.host_streams.specs.Blocking.{Blocked, blocking_flush_asks, blocking_read_asks, blocking_skip_asks, blocking_splice_asks, blocking_write_asks, blocking_zeroes_asks, write_when, zeroes_when}
use Rattle.host_store.specs.Kinds.{is_writable}
use Rattle.wasi_machine.specs.Machine.{blocked_reply_of}
use Rattle.wasi_steps.specs.Reply.{bytes_fields, no_values}
use Rattle.wasi_steps.specs.declared.guest_call.GuestCall.TheVariants as guest
use Rattle.wasi_steps.specs.declared.guest_call.StreamCall.TheVariants as stream_call
use Rattle.wasi_steps.specs.declared.step.Step.TheVariants as step
use Rattle.wasi_walks.specs.Missing.{MissesOutput}
use Rattle.wasi_causes.proofs.streams.BlockedSplices.{splices_on}
use Rattle.wasi_causes.proofs.streams.BlockedWrites.{WriteFrame, flush_rows, rounds}
use Rattle.wasi_causes.proofs.streams.Blocks.{Frame, reads_on, skips_on}
use Rattle.wasi_causes.proofs.streams.Pipes.{unwritable}
use Rattle.wasi_causes.proofs.tables.Meets.{Meets, Rows, ends, onto, widen}
use Rattle.wasi_causes.proofs.tables.Routes.{Says}
use Rattle.wasi_causes.specs.Blocking.{Begins, NoOutput, TooMany}
use Rattle.wasi_causes.specs.Outcomes.{Outcome}

module _ (contexts : List WasiSocketsCtx) (m : Machine) (line c : ℕ) where
  -- == a read, and a skip
  module _ (input len : ℕ) where
    read_frame : Frame contexts m line (step.Call c (guest.Stream (stream_call.BlockingRead input len))) m (first_ids line) (blocking.Read input len)
    read_frame = record {
      is = record { stream = tt; makes = tt; ends = λ es after. tt; fails = λ es w handle after. tt; full = λ es after. tt };
      table = refl;
      gives = λ es fields after g same. rw g.1 ((tt, tt), tt);
      pends = λ es now mid same. ((refl, refl), tt);
      misses = λ missing. missing;
      quiet = (refl, refl);
    }

    pub blocking_read : Meets (Says contexts m line (step.Call c (guest.Stream (stream_call.BlockingRead input len)))) [] (bind (blocking_read_asks m (first_ids line) input len) (λ done. Give (blocked_reply_of bytes_fields line done.0, done.1)))
    blocking_read = onto _ (reads_on contexts m line (step.Call c (guest.Stream (stream_call.BlockingRead input len))) m c (first_ids line) input len read_frame)

    skip_frame : Frame contexts m line (step.Call c (guest.Stream (stream_call.BlockingSkip input len))) m (first_ids line) (blocking.Skip input len)
    skip_frame = record {
      is = record { stream = tt; makes = tt; ends = λ es after. tt; fails = λ es w handle after. tt; full = λ es after. tt };
      table = refl;
      gives = λ es fields after g same. rw g.1 ((tt, tt), tt);
      pends = λ es now mid same. ((refl, refl), tt);
      misses = λ missing. missing;
      quiet = (refl, refl);
    }

    pub blocking_skip : Meets (Says contexts m line (step.Call c (guest.Stream (stream_call.BlockingSkip input len)))) [] (bind (blocking_skip_asks m (first_ids line) input len) (λ done. Give (blocked_reply_of number_fields line done.0, done.1)))
    blocking_skip = onto _ (skips_on contexts m line (step.Call c (guest.Stream (stream_call.BlockingSkip input len))) m c (first_ids line) input len skip_frame)

  -- == a splice
  module _ (to from len : ℕ) where
    splice_frame : Frame contexts m line (step.Call c (guest.Stream (stream_call.BlockingSplice to from len))) m (first_ids line) (blocking.Splice to from len)
    splice_frame = record {
      is = record { stream = tt; makes = tt; ends = λ es after. tt; fails = λ es w handle after. tt; full = λ es after. tt };
      table = refl;
      gives = λ es fields after g same. rw g.1 ((tt, tt), tt);
      pends = λ es now mid same. ((refl, refl), tt);
      misses = λ missing. missing;
      quiet = λ there. (refl, refl);
    }

    pub blocking_splice : Meets (Says contexts m line (step.Call c (guest.Stream (stream_call.BlockingSplice to from len)))) [] (bind (blocking_splice_asks m (first_ids line) to from len) (λ done. Give (blocked_reply_of number_fields line done.0, done.1)))
    blocking_splice = onto _ (splices_on contexts m line (step.Call c (guest.Stream (stream_call.BlockingSplice to from len))) m c (first_ids line) to from len splice_frame (λ readable missing es after there. absurd (there readable missing)))

  -- == an output
  module _ (output : ℕ) where
    no_output : is_writable (kind_at m.table output) ≡ false → MissesOutput m output
    no_output other = let k = unwritable (kind_at m.table output) other in (ap (λ (o : Option ℕ). streams_in (record_in m o)) k.0, rw k.1 tt)

    flush_frame : WriteFrame contexts m line (step.Call c (guest.Stream (stream_call.BlockingFlush output))) (first_ids line)
    flush_frame = record {
      is = record { stream = tt; makes = tt; ends = λ es after. tt; fails = λ es w handle after. tt; full = λ es after. tt };
      gives = λ es after same. (tt, tt);
      pends = λ es now mid same. ((refl, refl), tt);
    }

    pub blocking_flush : Meets (Says contexts m line (step.Call c (guest.Stream (stream_call.BlockingFlush output)))) [] (bind (blocking_flush_asks m (first_ids line) output) (λ done. Give (blocked_reply_of no_values line done.0, done.1)))
    blocking_flush = onto _ (flush_rows contexts m line (step.Call c (guest.Stream (stream_call.BlockingFlush output))) c (first_ids line) output flush_frame m [] (record { table = refl; unmarked = refl; misses = λ missing. (missing, (refl, refl)) }))

    module _ (bytes : List ℕ) where
      write_frame : WriteFrame contexts m line (step.Call c (guest.Stream (stream_call.BlockingWrite output bytes))) (first_ids line)
      write_frame = record {
        is = record { stream = tt; makes = tt; ends = λ es after. tt; fails = λ es w handle after. tt; full = λ es after. tt };
        gives = λ es after same. (tt, tt);
        pends = λ es now mid same. ((refl, refl), tt);
      }

      abbrev BytesRow : Rows (Blocked (Unit {0}))
      BytesRow es done = Outcome contexts m line (step.Call c (guest.Stream (stream_call.BlockingWrite output bytes))) es (blocked_reply_of no_values line done.0) done.1

      by_length : (writes long : Bool) → is_writable (kind_at m.table output) ≡ writes → nat_lt 4096 (length bytes) ≡ long → Meets BytesRow [] (write_when m (first_ids line) output bytes writes long)
      by_length false long w l = ends (λ free. NoOutput w, (no_output w, (refl, refl)))
      by_length true true w l = ends (λ free. TooMany w (ltb-true 4096 (length bytes) l), (tt, (refl, refl)))
      by_length true false w l =
          let few : length bytes ≤ 4096 = (let k = ltb-false 4096 (length bytes) l in omega (arith, k)) in
          widen (λ es done k. (λ free. Begins es _ done.1 w few (k.0 few free), k.1)) (rounds contexts m line (step.Call c (guest.Stream (stream_call.BlockingWrite output bytes))) c (first_ids line) output write_frame 4095 m [] (record { table = refl; unmarked = refl; misses = λ missing. (missing, (refl, refl)) }) bytes)

      pub blocking_write : Meets (Says contexts m line (step.Call c (guest.Stream (stream_call.BlockingWrite output bytes)))) [] (bind (blocking_write_asks m (first_ids line) output bytes) (λ done. Give (blocked_reply_of no_values line done.0, done.1)))
      blocking_write = onto _ (by_length (is_writable (kind_at m.table output)) (nat_lt 4096 (length bytes)) refl refl)

    module _ (len : ℕ) where
      zeroes_frame : WriteFrame contexts m line (step.Call c (guest.Stream (stream_call.BlockingZeroes output len))) (first_ids line)
      zeroes_frame = record {
        is = record { stream = tt; makes = tt; ends = λ es after. tt; fails = λ es w handle after. tt; full = λ es after. tt };
        gives = λ es after same. (tt, tt);
        pends = λ es now mid same. ((refl, refl), tt);
      }

      abbrev ZeroesRow : Rows (Blocked (Unit {0}))
      ZeroesRow es done = Outcome contexts m line (step.Call c (guest.Stream (stream_call.BlockingZeroes output len))) es (blocked_reply_of no_values line done.0) done.1

      few_zeros : len ≤ 4096 → length (zeros len) ≤ 4096
      few_zeros few = let k = length-replicate {A = ℕ} (min len 65537) 0 in let l = min-le_left len 65537 in omega (arith, k, l, few)

      by_count : (writes long : Bool) → is_writable (kind_at m.table output) ≡ writes → nat_lt 4096 len ≡ long → Meets ZeroesRow [] (zeroes_when m (first_ids line) output len writes long)
      by_count false long w l = ends (λ free. NoOutput w, (no_output w, (refl, refl)))
      by_count true true w l = ends (λ free. TooMany w (ltb-true 4096 len l), (tt, (refl, refl)))
      by_count true false w l =
          let few : len ≤ 4096 = (let k = ltb-false 4096 len l in omega (arith, k)) in
          widen (λ es done k. (λ free. Begins es _ done.1 w few (k.0 (few_zeros few) free), k.1)) (rounds contexts m line (step.Call c (guest.Stream (stream_call.BlockingZeroes output len))) c (first_ids line) output zeroes_frame 4095 m [] (record { table = refl; unmarked = refl; misses = λ missing. (missing, (refl, refl)) }) (zeros len))

      pub blocking_zeroes : Meets (Says contexts m line (step.Call c (guest.Stream (stream_call.BlockingZeroes output len)))) [] (bind (blocking_zeroes_asks m (first_ids line) output len) (λ done. Give (blocked_reply_of no_values line done.0, done.1)))
      blocking_zeroes = onto _ (by_count (is_writable (kind_at m.table output)) (nat_lt 4096 len) refl refl)
