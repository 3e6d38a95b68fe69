-- The mark of an error is licensed: it is made for the line whose call of a stream failed, and its parent is a stream that this line
-- names.
use Rattle.wasi_walks.proofs.Words.{Allows, Entry, ErrorValue, Has, IsMarkOf, IsMarkedWith, List, OpId, Option, Some, GuestCall, Step, WasiSocketsCtx}
use Rattle.wasi_walks.proofs.Words.{[], ap, inl, inr, handles_of, kind_at, make_asks, own_of, refl, side_at, step_at, subst, sym, ℕ, ◌∙◌, ◌∷◌, ◌≡◌, ◌⊎◌}
use Rattle.wasi_records.specs.Records.{tcp2_at}
use Rattle.wasi_world.specs.declared.call.HandleKind.TheVariants as name
use Rattle.wasi_walks.specs.Licence.{HasFailed, InputFailed, IsErrorMark, OutputFailed, WriteFailed}
use Rattle.wasi_walks.proofs.Words.{Input, Output, WriteState}
use Rattle.wasi_tcp.specs.declared.writer.WriteError.{WriteError}
use Rattle.wasi_walks.proofs.walks.Failures.{Fails, IsFailed, ReadFails, WriteFails}
use Rattle.wasi_walks.proofs.licence.Moves.{held_side}
use Rattle.wasi_walks.proofs.walks.Moves.{Calls, OfStreams, Here, IsStreamCall, record_of}
use Rattle.wasi_walks.proofs.licence.State.{MakesCalls, WritesOn}
use Rattle.wasi_walks.proofs.licence.Line.{IsAccept, Licensed, names_record}
use Rattle.wasi_walks.proofs.licence.StreamMoves.{made_for}
use Rattle.wasi_walks.proofs.licence.UdpMarks.{mark_fine}
use Rattle.wasi_walks.proofs.licence.Unbound.{MayAskSo}
use Rattle.wasi_steps.specs.declared.guest_call.TcpCall.{TcpCall}
use Rattle.wasi_steps.specs.declared.guest_call.StreamCall.{StreamCall}
use Rattle.wasi_steps.specs.declared.guest_call.P3TcpCall.{P3TcpCall}

module _ (contexts : List WasiSocketsCtx) (steps : List Step) (line : ℕ) (origin : Step) (is_line : step_at steps line ≡ Some origin) where
  module _ (es : List Entry) (op : OpId) (handle : ℕ) (sock : Option OpId) (w : IsMarkedWith es handle sock) (f : HasFailed es op handle sock) where
    of_stream : (stream : ℕ) → stream ≡ handle → IsErrorMark es op name.ErrorValue stream (Some handle) sock
    of_stream stream e = (refl, (ap (λ (n : ℕ). Some n) (sym e), subst (λ (n : ℕ). IsMarkedWith es n sock) (sym e) w), subst (λ (n : ℕ). HasFailed es op n sock) (sym e) f)

    -- of the one stream that it names
    of_one : (stream : ℕ) → Has (stream ∷ []) handle → IsErrorMark es op name.ErrorValue stream (Some handle) sock
    of_one stream i = elim i [ inl e ↦ of_stream stream e | inr e ↦ absurd e ]

    -- or of one of two
    of_two : (to from : ℕ) → Has (to ∷ from ∷ []) handle → IsErrorMark es op name.ErrorValue to (Some handle) sock ⊎ IsErrorMark es op name.ErrorValue from (Some handle) sock
    of_two to from i = elim i [ inl e ↦ inl (of_stream to e) | inr k ↦ inr (of_one from k) ]

    error_mark : (s : Step) → IsStreamCall s → Has (handles_of s) handle → IsMarkOf es op name.ErrorValue (Some handle) sock s
    error_mark (Step.Call c (GuestCall.Stream (StreamCall.Read input len))) m i = of_one input i
    error_mark (Step.Call c (GuestCall.Stream (StreamCall.Skip input len))) m i = of_one input i
    error_mark (Step.Call c (GuestCall.Stream (StreamCall.BlockingRead input len))) m i = of_one input i
    error_mark (Step.Call c (GuestCall.Stream (StreamCall.BlockingSkip input len))) m i = of_one input i
    error_mark (Step.Call c (GuestCall.Stream (StreamCall.CheckWrite output))) m i = of_one output i
    error_mark (Step.Call c (GuestCall.Stream (StreamCall.Write output bytes))) m i = of_one output i
    error_mark (Step.Call c (GuestCall.Stream (StreamCall.WriteZeroes output len))) m i = of_one output i
    error_mark (Step.Call c (GuestCall.Stream (StreamCall.Flush output))) m i = of_one output i
    error_mark (Step.Call c (GuestCall.Stream (StreamCall.BlockingWrite output bytes))) m i = of_one output i
    error_mark (Step.Call c (GuestCall.Stream (StreamCall.BlockingZeroes output len))) m i = of_one output i
    error_mark (Step.Call c (GuestCall.Stream (StreamCall.BlockingFlush output))) m i = of_one output i
    error_mark (Step.Call c (GuestCall.Stream (StreamCall.Splice output input len))) m i = of_two output input i
    error_mark (Step.Call c (GuestCall.Stream (StreamCall.BlockingSplice output input len))) m i = of_two output input i
    error_mark _ m i = absurd m

  -- an accept is no call of a stream
  not_accept : (n : ℕ) (handles : List ℕ) → MakesCalls steps OfStreams n handles → IsAccept origin → own_of n ≡ own_of line → ⊥
  not_accept n handles b is e =
      let p : step_at steps line ≡ Some b.origin = subst (λ (o : OpId). step_at steps o.step ≡ Some b.origin) e b.at in
      let q : origin ≡ b.origin = cc in
      no_accept b.origin b.holds.0 (subst IsAccept q is)
    where
      no_accept : (s : Step) → IsStreamCall s → IsAccept s → ⊥
      no_accept (Step.Call c (GuestCall.Tcp (TcpCall.Accept listener))) m is = m
      no_accept (Step.Call c (GuestCall.P3Tcp (P3TcpCall.Accept listener remaining))) m is = m
      no_accept _ m is = is

  -- a writer that is closed with a code was told one
  told_writer : (es : List Entry) (side : OpId) (w : WriteState) → IsFailed w → WritesOn steps es side w → WriteFailed es side
  told_writer es side (WriteState.Closed (WriteError.LastOperationFailed c)) k on = on
  told_writer es side _ k on = absurd k

  -- so its stream's call failed
  has_failed : (es : List Entry) (h : Here) (n handle place : ℕ) → Fails es h.machine n handle place → Licensed contexts steps line origin es h → HasFailed es (own_of n) handle (side_at (tcp2_at h.machine.store.records place))
  has_failed es h n handle place (ReadFails k f) i = InputFailed (i.fine.handles handle (Input place) k).3 f
  has_failed es h n handle place (WriteFails k f) i =
      let r = i.fine.records place f.socket f.at in
      let s = r.streams f.streams f.there in
      OutputFailed s.side (i.fine.handles handle (Output place) k).3 (ap side_at f.at ∙ r.named s.side (held_side contexts steps line origin is_line es f.socket f.streams s)) (told_writer es s.side f.streams.writer f.failed s.writes)

  pub error_marked : (es : List Entry) (h : Here) (n handle place : ℕ) (handles : List ℕ) → h.made ≡ Calls OfStreams n handles → Has handles handle → record_of (kind_at h.machine.table handle) ≡ Some place → Fails es h.machine n handle place → Licensed contexts steps line origin es h
      → Allows (MayAskSo contexts steps) (λ fs made. Licensed contexts steps line origin fs (record h { machine = record h.machine { table = made.1 } })) es (make_asks h.machine.table (own_of n) ErrorValue (Some handle) (side_at (tcp2_at h.machine.store.records place)))
  error_marked es h n handle place handles m k e f i =
      let sock = side_at (tcp2_at h.machine.store.records place) in
      let b = made_for contexts steps line origin is_line es h OfStreams n handles m i in
      let named : Has (handles_of b.origin) handle = subst (λ (xs : List ℕ). Has xs handle) (sym b.holds.1) k in
      let r = names_record es h.machine.store.records handle place (kind_at h.machine.table handle) e (i.fine.handles handle) in
      let w : IsMarkedWith es handle sock = subst (IsMarkedWith es handle) (sym (ap side_at r.at)) r.marked in
      mark_fine contexts steps line origin is_line es h (own_of n) ErrorValue (Some handle) sock (record { origin = b.origin; at = b.at; holds = error_mark es (own_of n) handle sock w (has_failed es h n handle place f i) b.origin b.holds.0 named }) (not_accept n handles b) (λ p. elim p [ inl q ↦ cc | inr q ↦ cc ]) (λ t. (tt, tt, tt, tt)) i
