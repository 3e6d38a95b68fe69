-- Why nothing may be written.
use Rattle.wasi_causes.proofs.Words.{◌≡◌, ◌<◌, ◌⊎◌, inl, inr, ℕ, List, Option, Some, None, IsSomeAnd, refl, arith, min, Entry, Machine, OpId, OfStreams, Permits, Records, output_at, TcpRecord, WriteState}
use Rattle.tcp_records.specs.Used.{held_in}
use Rattle.host_store.specs.declared.kind.PlainOutput.{PlainOutput}
use Rattle.host_store.specs.declared.kind.PlainOutput.TheVariants as output
use Rattle.memory_streams.specs.Plain.{Contents, left_in}
use Rattle.wasi_records.specs.Records.{output_pipe_at}
use Rattle.host_store.specs.Limits.{left, most_of}
use Rattle.host_streams.specs.StreamCalls.{plain_output_at}
use Rattle.wasi_walks.specs.Answered as look
use Rattle.wasi_causes.specs.Plain.{PermitsPlain}
use Rattle.wasi_causes.specs.WholeLimit.{GoesOn, NoneLeft, NotReady, PermitsNone}
use Rattle.wasi_causes.proofs.streams.Routes.{more_of}

none_left : (n : ℕ) → min 65536 n ≡ 0 → n ≡ 0
none_left n e = omega (arith, e)

none_permitted : (store : Records) (r : TcpRecord) (own : OpId) (writer : WriteState) {n : ℕ} (es : List Entry) → n ≡ 0 → Permits own writer (most_of store r) n es → PermitsNone store r own writer es
none_permitted store r own writer _ e (look.GoesOn on) = GoesOn on
none_permitted store r own writer _ e (look.NotReady half permit c) = NotReady half permit c
none_permitted store r own writer _ e (look.IsReady half permit c) = NoneLeft half permit c (none_left (left store r.maker (held_in r.streams)) e)

-- a stream of no connection permits something, or is closed
plain_permits : (m : Machine) (o : PlainOutput) → PermitsPlain m o 0 → ⊥
plain_permits m (output.Pipe place) k = by_pipe (output_pipe_at m.store.records place) k
  where
    by_pipe : (o : Option Contents) → IsSomeAnd o (λ pipe. (0 ≡ left_in pipe) × (0 < 0)) → ⊥
    by_pipe None k = absurd k
    by_pipe (Some pipe) k = let never = k.1 in absurd (omega (arith, never))
plain_permits m output.Sink k = absurd (omega (arith, k))
plain_permits m output.Closed k = absurd k

-- of what gave 0
pub permits_none : (m : Machine) (own : OpId) (h : ℕ) (es : List Entry)
    → OfStreams m (output_at m h) (λ place r s. Permits own s.writer (most_of m.store r) 0 es) ⊎ IsSomeAnd (plain_output_at m h) (λ o. PermitsPlain m o 0)
    → OfStreams m (output_at m h) (λ place r s. PermitsNone m.store r own s.writer es)
permits_none m own h es k = elim k [
  | inl on ↦ more_of m (output_at m h) (λ place r s its. none_permitted m.store r own s.writer es refl its) on
  | inr of ↦ absurd (by_plain (plain_output_at m h) of)
]
  where
    by_plain : (o : Option PlainOutput) → IsSomeAnd o (λ o. PermitsPlain m o 0) → ⊥
    by_plain None k = absurd k
    by_plain (Some o) k = plain_permits m o k
