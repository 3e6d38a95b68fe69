-- What inputs and outputs of no connection give: reads, looks at what may be written, writes and flushes.
use Rattle.wasi_walks.proofs.Places.{input_sort, output_sort, put_again}
use Rattle.wasi_causes.proofs.Words.{◌≡◌, ◌∙◌, ℕ, Bool, true, false, List, [], ◌∷◌, ◌++◌, Option, Some, None, Result, Ok, Err, refl, sym, ap, inr, length, nat_lt, IsSomeAnd, IsUnpermitted, Machine, CallStop, WasiSocketsCtx, bytes_reply, permit_reply, taken_reply, output_streams, record_in, streams_in, if◌then◌else◌, ltb-true, ltb-false, arith}
use Rattle.std.specs.Prelude.{zero, suc, take, drop, ◌<◌}
use Rattle.memory_streams.specs.Plain.{Contents, left_in, room_told}
use Rattle.wasi_streams.specs.StreamStop as stop
use Rattle.host_store.specs.declared.kind.PlainInput.{PlainInput}
use Rattle.host_store.specs.declared.kind.PlainInput.TheVariants as input
use Rattle.host_store.specs.declared.kind.PlainOutput.{PlainOutput}
use Rattle.host_store.specs.declared.kind.PlainOutput.TheVariants as output
use Rattle.host_store.specs.Kinds.{kind_at}
use Rattle.host_streams.specs.PlainStreams.{check_pipe_at, check_plain, contents_put, flush_plain, read_pipe_at, read_plain, write_pipe_at, write_plain}
use Rattle.wasi_records.specs.Records.{input_pipe_at, output_pipe_at}
use Rattle.host_streams.specs.StreamCalls.{plain_answer, plain_done, plain_input_at, plain_output_at}
use Rattle.wasi_steps.specs.declared.guest_call.GuestCall.TheVariants as guest
use Rattle.wasi_steps.specs.declared.guest_call.StreamCall.TheVariants as stream_call
use Rattle.wasi_steps.specs.declared.step.Step.TheVariants as step
use Rattle.wasi_walks.specs.Answered.{input_streams}
use Rattle.wasi_records.specs.declared.records.Record.{Record}
use Rattle.wasi_causes.proofs.tables.Meets.{Rows}
use Rattle.wasi_causes.proofs.tables.Routes.{Replied, apart, none_has}
use Rattle.wasi_causes.proofs.streams.Pipes.{plain_no_input, plain_no_output, take_none}
use Rattle.wasi_causes.specs.Plain.{containing, leaving}
use Rattle.wasi_world.specs.declared.outcome.TrapKind.TheVariants.{Capacity}

-- == what is put back
pub left_same : (m : Machine) (place : ℕ) (bytes : List ℕ) → input_pipe_at m.store.records place ≡ Some bytes → leaving m place bytes ≡ m
left_same m place bytes at = ap (λ (rs : List Record). let now : Machine = record m { store = record m.store { records = rs } } in now) (put_again input_sort m.store.records place bytes at)

pub held_same : (m : Machine) (place : ℕ) (pipe : Contents) → output_pipe_at m.store.records place ≡ Some pipe → containing m place pipe ≡ m
held_same m place pipe at = ap (λ (rs : List Record). let now : Machine = record m { store = record m.store { records = rs } } in now) (put_again output_sort m.store.records place pipe at)

-- == no connection has such a handle
pub no_input_streams : (m : Machine) (h : ℕ) (i : PlainInput) → plain_input_at m h ≡ Some i → input_streams m h ≡ None
no_input_streams m h i is = ap (λ (o : Option ℕ). streams_in (record_in m o)) (plain_no_input (kind_at m.table h) i is)

pub no_output_streams : (m : Machine) (h : ℕ) (o : PlainOutput) → plain_output_at m h ≡ Some o → output_streams m h ≡ None
no_output_streams m h o is = ap (λ (p : Option ℕ). streams_in (record_in m p)) (plain_no_output (kind_at m.table h) o is)

module _ (contexts : List WasiSocketsCtx) (m : Machine) (line c handle : ℕ) where
  -- == a read
  module _ (len : ℕ) where
    abbrev ReadRow : Rows (Result (List ℕ) CallStop × Machine)
    ReadRow = Replied contexts m line (step.Call c (guest.Stream (stream_call.Read handle len))) bytes_reply

    module _ (place : ℕ) (is : plain_input_at m handle ≡ Some (input.Pipe place)) where
      module _ (b : ℕ) (bytes : List ℕ) (at : input_pipe_at m.store.records place ≡ Some (b ∷ bytes)) where
        abbrev now_left : Machine
        now_left = leaving m place (drop len (b ∷ bytes))

        -- where none are wanted, none are taken
        untaken : (n : ℕ) → n ≡ 0 → leaving m place (drop n (b ∷ bytes)) ≡ m
        untaken n none = ap (λ (k : ℕ). leaving m place (drop k (b ∷ bytes))) none ∙ left_same m place (b ∷ bytes) at

        given : (taken : List ℕ) → take len (b ∷ bytes) ≡ taken → ReadRow [] (Ok taken, now_left)
        given [] e =
            let none : len ≡ 0 = take_none len b bytes e in
            (rw is (refl, apart (λ e. cc) (λ k. absurd (cc))), ((tt, tt), inr (record { place = place; bytes = b ∷ bytes; names = is; at = at; holds = λ e. cc }, none, (refl, untaken len none))))
        given (t ∷ taken) e = (rw is (refl, apart (λ e. cc) (λ k. absurd (cc))), ((tt, tt), inr (record { place = place; bytes = b ∷ bytes; names = is; at = at; holds = (sym e, refl, refl) })))

      by_left : (o : Option (List ℕ)) → input_pipe_at m.store.records place ≡ o → ReadRow [] (plain_done m (read_pipe_at m.store place len o))
      by_left None at = (rw is (refl, apart (λ e. cc) (λ k. absurd (cc))), ((no_input_streams m handle (input.Pipe place) is, rw is at), (refl, refl)))
      by_left (Some []) at = (rw is (refl, (λ e. at, λ k. refl)), (tt, inr (rw is at, (refl, left_same m place [] at))))
      by_left (Some (b ∷ bytes)) at = given b bytes at (take len (b ∷ bytes)) refl

    pub plain_reads : (i : PlainInput) → plain_input_at m handle ≡ Some i → ReadRow [] (plain_done m (read_plain m.store i len))
    plain_reads (input.Pipe place) is = by_left place is (input_pipe_at m.store.records place) refl
    plain_reads input.Closed is = (rw is (refl, (λ e. tt, λ k. refl)), (tt, inr (rw is tt, (refl, refl))))

  -- == a look at what may be written
  abbrev CheckRow : Rows (Result ℕ CallStop × Machine)
  CheckRow = Replied contexts m line (step.Call c (guest.Stream (stream_call.CheckWrite handle))) permit_reply

  module _ (place : ℕ) (is : plain_output_at m handle ≡ Some (output.Pipe place)) where
    module _ (pipe : Contents) (at : output_pipe_at m.store.records place ≡ Some pipe) where
      by_room : (n : ℕ) → left_in pipe ≡ n → CheckRow [] (plain_answer (room_told n), m)
      by_room zero e = (rw is ((refl, refl), (λ same. rw at e, λ k. refl)), (tt, inr (rw (is, at) e, (refl, refl))))
      by_room (suc n) e = (rw is ((refl, refl), apart (λ e. cc) (λ k. let none : left_in pipe ≡ 0 = rw at at k in absurd (cc))), ((tt, tt), inr (rw (is, at) (sym e, omega arith))))

    by_pipe : (o : Option Contents) → output_pipe_at m.store.records place ≡ o → CheckRow [] (plain_answer (check_pipe_at o), m)
    by_pipe None at = (rw is ((refl, refl), apart (λ e. cc) (none_has _ (output_pipe_at m.store.records place) at)), ((no_output_streams m handle (output.Pipe place) is, rw is at), (refl, refl)))
    by_pipe (Some pipe) at = by_room pipe at (left_in pipe) refl

  pub plain_checks : (o : PlainOutput) → plain_output_at m handle ≡ Some o → CheckRow [] (plain_answer (check_plain m.store o), m)
  plain_checks (output.Pipe place) is = by_pipe place is (output_pipe_at m.store.records place) refl
  plain_checks output.Sink is = (rw is ((refl, refl), apart (λ e. cc) (λ k. k)), ((tt, tt), inr (rw is refl)))
  plain_checks output.Closed is = (rw is ((refl, refl), (λ e. tt, λ k. refl)), (tt, inr (rw is tt, (refl, refl))))

  -- == a write
  module _ (bytes : List ℕ) where
    abbrev WriteRow : Rows (Result (Unit {0}) CallStop × Machine)
    WriteRow = Replied contexts m line (step.Call c (guest.Stream (stream_call.Write handle bytes))) taken_reply

    -- nothing is said of a connection's writer
    no_writer : (o : PlainOutput) → plain_output_at m handle ≡ Some o → IsSomeAnd (output_streams m handle) (λ s. IsUnpermitted s.writer (length bytes)) → ⊥
    no_writer o is = none_has _ (output_streams m handle) (no_output_streams m handle o is)

    module _ (place : ℕ) (is : plain_output_at m handle ≡ Some (output.Pipe place)) where
      module _ (pipe : Contents) (at : output_pipe_at m.store.records place ≡ Some pipe) where
        fits_in : (b : Bool) → nat_lt (left_in pipe) (length bytes) ≡ b → WriteRow [] (plain_done m (contents_put m.store place (if b then (Err (stop.Trap Capacity), pipe) else (Ok tt, record pipe { held = pipe.held ++ bytes }))))
        fits_in true e = ((apart (λ e. cc) (no_writer (output.Pipe place) is), (λ same. rw (is, at) (ltb-true (left_in pipe) (length bytes) e), λ k. refl), rw is (refl, apart (λ e. cc) (λ e. cc))), (tt, (refl, held_same m place pipe at)))
        fits_in false e = ((apart (λ e. cc) (no_writer (output.Pipe place) is), apart (λ e. cc) (λ k. let over : left_in pipe < length bytes = rw (is, at) at k in let within = ltb-false (left_in pipe) (length bytes) e in omega (arith, within, over)), rw is (refl, apart (λ e. cc) (λ e. cc))), (tt, rw (is, at) refl))

      into_pipe : (o : Option Contents) → output_pipe_at m.store.records place ≡ o → WriteRow [] (plain_done m (write_pipe_at m.store place bytes o))
      into_pipe None at = ((apart (λ e. cc) (no_writer (output.Pipe place) is), apart (λ e. cc) (λ k. rw (is, at) at k), rw is (refl, apart (λ e. cc) (λ e. cc))), ((no_output_streams m handle (output.Pipe place) is, rw is at), (refl, refl)))
      into_pipe (Some pipe) at = fits_in pipe at (nat_lt (left_in pipe) (length bytes)) refl

    pub plain_writes : (o : PlainOutput) → plain_output_at m handle ≡ Some o → WriteRow [] (plain_done m (write_plain m.store o bytes))
    plain_writes (output.Pipe place) is = into_pipe place is (output_pipe_at m.store.records place) refl
    plain_writes output.Sink is = ((apart (λ e. cc) (no_writer output.Sink is), apart (λ e. cc) (λ k. rw is at k), rw is (refl, apart (λ e. cc) (λ e. cc))), (tt, rw is refl))
    plain_writes output.Closed is = ((apart (λ e. cc) (no_writer output.Closed is), apart (λ e. cc) (λ k. rw is at k), rw is (refl, (λ e. refl, λ k. refl))), (tt, inr (is, (refl, refl))))

  -- == a flush
  abbrev FlushRow : Rows (Result (Unit {0}) CallStop × Machine)
  FlushRow = Replied contexts m line (step.Call c (guest.Stream (stream_call.Flush handle))) taken_reply

  pub plain_flushes : (o : PlainOutput) → plain_output_at m handle ≡ Some o → FlushRow [] (plain_answer (flush_plain o), m)
  plain_flushes (output.Pipe place) is = (rw is ((refl, refl), apart (λ e. cc) (λ e. cc)), (tt, (refl, refl)))
  plain_flushes output.Sink is = (rw is ((refl, refl), apart (λ e. cc) (λ e. cc)), (tt, (refl, refl)))
  plain_flushes output.Closed is = (rw is ((refl, refl), (λ e. refl, λ k. refl)), (tt, inr (is, (refl, refl))))
