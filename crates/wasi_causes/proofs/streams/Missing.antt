-- What isn't there after a call of a stream wasn't there before.
use Rattle.wasi_causes.proofs.Words.{◌≡◌, ℕ, Option, Some, None, true, refl, subst, ap, HandleTable, IsSome, List, Machine, is_some, kind_at, record_in, streams_in}
use Rattle.host_store.specs.declared.kind.PlainInput.{PlainInput}
use Rattle.host_store.specs.declared.kind.PlainInput.TheVariants as input
use Rattle.host_store.specs.declared.kind.PlainOutput.{PlainOutput}
use Rattle.host_store.specs.declared.kind.PlainOutput.TheVariants as output
use Rattle.host_store.specs.Kinds.{input_of, output_of, plain_input_of, plain_output_of}
use Rattle.host_store.specs.Machine.{input_at, output_at}
use Rattle.wasi_records.specs.Records.{input_pipe_at, output_pipe_at, tcp2_at}
use Rattle.host_streams.specs.StreamCalls.{plain_input_at, plain_output_at}
use Rattle.wasi_walks.specs.Missing.{MissesInput, MissesInputPipe, MissesOutput, MissesOutputPipe}
use Rattle.wasi_causes.proofs.streams.Kept.{PartsThere}
use Rattle.wasi_causes.proofs.tables.Routes.{none_has}
use Rattle.wasi_causes.proofs.Words.{◌∙◌, inl, inr, Entry, IsSomeAnd, output_streams, number_fields}
use Rattle.wasi_causes.specs.Outcomes.{Permitted}
use Rattle.wasi_causes.specs.Plain.{PermitsPlain}

module _ (m mid : Machine) (table : mid.table ≡ m.table) (there : PartsThere m.store.records mid.store.records) (h : ℕ) where
  none_left : {A : Type 0} (old now : Option A) → (IsSome old → IsSome now) → now ≡ None → old ≡ None
  none_left None now stays none = refl
  none_left {A} (Some x) None stays none = let k : IsSome {T = A} None = stays refl in absurd (cc)
  none_left (Some x) (Some y) stays none = absurd (cc)

  pipe_left : {A : Type 0} (old now : Option A) → (is_some old ≡ true → is_some now ≡ true) → now ≡ None → old ≡ None
  pipe_left None now stays none = refl
  pipe_left {A} (Some x) None stays none = let nothing : Option A = None in let k : is_some nothing ≡ true = stays refl in absurd (cc)
  pipe_left (Some x) (Some y) stays none = absurd (cc)

  streams_before : (o : Option ℕ) → streams_in (record_in mid o) ≡ None → streams_in (record_in m o) ≡ None
  streams_before None none = refl
  streams_before (Some place) none = none_left (streams_in (tcp2_at m.store.records place)) (streams_in (tcp2_at mid.store.records place)) (there.streams place) none

  input_before : (o : Option PlainInput) → MissesInputPipe mid o → MissesInputPipe m o
  input_before (Some (input.Pipe place)) none = pipe_left (input_pipe_at m.store.records place) (input_pipe_at mid.store.records place) (there.inputs place) none
  input_before (Some input.Closed) none = none
  input_before None none = tt

  output_before : (o : Option PlainOutput) → MissesOutputPipe mid o → MissesOutputPipe m o
  output_before (Some (output.Pipe place)) none = pipe_left (output_pipe_at m.store.records place) (output_pipe_at mid.store.records place) (there.outputs place) none
  output_before (Some output.Sink) none = none
  output_before (Some output.Closed) none = none
  output_before None none = tt

  pub missed_input : MissesInput mid h → MissesInput m h
  missed_input k = (
    streams_before (input_at m h) (subst (λ (t : HandleTable). streams_in (record_in mid (input_of (kind_at t h))) ≡ None) table k.0),
    input_before (plain_input_at m h) (subst (λ (t : HandleTable). MissesInputPipe mid (plain_input_of (kind_at t h))) table k.1),
  )

  pub missed_output : MissesOutput mid h → MissesOutput m h
  missed_output k = (
    streams_before (output_at m h) (subst (λ (t : HandleTable). streams_in (record_in mid (output_of (kind_at t h))) ≡ None) table k.0),
    output_before (plain_output_at m h) (subst (λ (t : HandleTable). MissesOutputPipe mid (plain_output_of (kind_at t h))) table k.1),
  )

-- == where something may be written, the output is there
module _ (m : Machine) (line h n : ℕ) (es : List Entry) where
  permits_plain : (o : PlainOutput) → PermitsPlain m o n → MissesOutputPipe m (Some o) → ⊥
  permits_plain (output.Pipe place) permits none = none_has _ (output_pipe_at m.store.records place) none permits
  permits_plain output.Sink permits none = none
  permits_plain output.Closed permits none = permits

  plain_there : (o : Option PlainOutput) → IsSomeAnd o (λ o. PermitsPlain m o n) → MissesOutputPipe m o → ⊥
  plain_there None permits none = permits
  plain_there (Some o) permits none = permits_plain o permits none

  pub output_is_there : Permitted m line h es (number_fields n) → MissesOutput m h → ⊥
  output_is_there (inl on) missing = let has : output_streams m h ≡ Some on.streams = ap streams_in (ap (record_in m) on.names ∙ on.at) ∙ on.has in let none = missing.0 in cc
  output_is_there (inr permits) missing = plain_there (plain_output_at m h) permits missing.1
