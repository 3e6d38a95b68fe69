-- Pipes, sinks and closed streams: how they are made, and what a pipe holds.
use Rattle.wasi_causes.proofs.Words.{◌≡◌, ℕ, List, [], Option, Some, None, refl, Give, Machine, Result, Stop, WasiSocketsCtx, bind, own_of, length}
use Rattle.memory_streams.specs.Plain.{Contents}
use Rattle.host_store.specs.declared.kind.Kind.TheVariants as kind
use Rattle.host_store.specs.declared.kind.PlainInput.TheVariants as input
use Rattle.host_store.specs.declared.kind.PlainOutput.{PlainOutput}
use Rattle.host_store.specs.declared.kind.PlainOutput.TheVariants as output
use Rattle.host_streams.specs.PlainStreams.{contents_asks, contents_at, contents_on, input_pipe_asks, output_pipe_asks, plain_asks}
use Rattle.wasi_records.specs.Records.{output_pipe_at}
use Rattle.host_streams.specs.StreamCalls.{plain_output_at}
use Rattle.wasi_machine.specs.Machine.{reply_of}
use Rattle.wasi_steps.specs.declared.guest_call.GuestCall.TheVariants as guest
use Rattle.wasi_steps.specs.declared.guest_call.PipeCall.TheVariants as pipe_call
use Rattle.wasi_steps.specs.declared.step.Step.TheVariants as step
use Rattle.wasi_steps.specs.Reply.{bytes_fields, number_fields}
use Rattle.wasi_causes.proofs.tables.Meets.{Meets, ends, onto}
use Rattle.wasi_causes.proofs.tables.Routes.{Says, full_so, makes}

module _ (contexts : List WasiSocketsCtx) (m : Machine) (line c : ℕ) where
  pub pipe_in : (bytes : List ℕ) → Meets (Says contexts m line (step.Call c (guest.Pipe (pipe_call.In bytes)))) [] (bind (input_pipe_asks m (own_of line) bytes) (λ done. Give (reply_of number_fields done.0, done.1)))
  pipe_in bytes = onto _ (onto _ (makes m.table (own_of line) (kind.PlainInput (input.Pipe (length m.store.records))) None None (λ full. (tt, (tt, full_so m m [] full refl refl, (refl, refl)))) (tt, ((tt, tt), record { number = refl; marked = refl; made = refl }))))

  pub pipe_out : (capacity : ℕ) → Meets (Says contexts m line (step.Call c (guest.Pipe (pipe_call.Out capacity)))) [] (bind (output_pipe_asks m (own_of line) capacity) (λ done. Give (reply_of number_fields done.0, done.1)))
  pipe_out capacity = onto _ (onto _ (makes m.table (own_of line) (kind.PlainOutput (output.Pipe (length m.store.records))) None None (λ full. (tt, (tt, full_so m m [] full refl refl, (refl, refl)))) (tt, ((tt, tt), record { number = refl; marked = refl; made = refl }))))

  pub sink : Meets (Says contexts m line (step.Call c (guest.Pipe pipe_call.Sink))) [] (bind (plain_asks m (own_of line) (kind.PlainOutput output.Sink)) (λ done. Give (reply_of number_fields done.0, done.1)))
  sink = onto _ (onto _ (makes m.table (own_of line) (kind.PlainOutput output.Sink) None None (λ full. (tt, (tt, full_so m m [] full refl refl, (refl, refl)))) (tt, ((tt, tt), record { number = refl; marked = refl; made = refl }))))

  pub closed_in : Meets (Says contexts m line (step.Call c (guest.Pipe pipe_call.ClosedIn))) [] (bind (plain_asks m (own_of line) (kind.PlainInput input.Closed)) (λ done. Give (reply_of number_fields done.0, done.1)))
  closed_in = onto _ (onto _ (makes m.table (own_of line) (kind.PlainInput input.Closed) None None (λ full. (tt, (tt, full_so m m [] full refl refl, (refl, refl)))) (tt, ((tt, tt), record { number = refl; marked = refl; made = refl }))))

  pub closed_out : Meets (Says contexts m line (step.Call c (guest.Pipe pipe_call.ClosedOut))) [] (bind (plain_asks m (own_of line) (kind.PlainOutput output.Closed)) (λ done. Give (reply_of number_fields done.0, done.1)))
  closed_out = onto _ (onto _ (makes m.table (own_of line) (kind.PlainOutput output.Closed) None None (λ full. (tt, (tt, full_so m m [] full refl refl, (refl, refl)))) (tt, ((tt, tt), record { number = refl; marked = refl; made = refl }))))

  -- == what a pipe holds
  module _ (handle : ℕ) where
    abbrev Tells : Result (List ℕ) Stop → Type 0
    Tells told = Says contexts m line (step.Call c (guest.Pipe (pipe_call.Contents handle))) [] (reply_of bytes_fields told, m)

    by_pipe : (place : ℕ) → plain_output_at m handle ≡ Some (output.Pipe place) → (o : Option Contents) → output_pipe_at m.store.records place ≡ o → Tells (contents_at o)
    by_pipe place is None at = ((refl, refl), (rw is at, (refl, refl)))
    by_pipe place is (Some pipe) at = ((refl, refl), ((tt, tt), record { place = place; pipe = pipe; names = is; at = at; holds = refl }))

    by_output : (o : Option PlainOutput) → plain_output_at m handle ≡ o → Tells (contents_on m o)
    by_output (Some (output.Pipe place)) is = by_pipe place is (output_pipe_at m.store.records place) refl
    by_output (Some output.Sink) is = ((refl, refl), (rw is refl, (refl, refl)))
    by_output (Some output.Closed) is = ((refl, refl), (rw is refl, (refl, refl)))
    by_output None is = ((refl, refl), (rw is refl, (refl, refl)))

    pub pipe_contents : Meets (Says contexts m line (step.Call c (guest.Pipe (pipe_call.Contents handle)))) [] (Give (reply_of bytes_fields (contents_asks m handle), m))
    pipe_contents = ends (by_output (plain_output_at m handle) refl)
