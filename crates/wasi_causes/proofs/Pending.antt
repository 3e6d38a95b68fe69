-- In a run what is pending is on handles that are live and on streams that are there: a step makes
-- datagram streams or a call of a stream pending only where it asks for the one or is the other, and while such a call is pending,
-- nothing takes its handle away.
use Rattle.wasi_walks.proofs.received.Handles.{polled_same}
use Rattle.wasi_causes.proofs.Words.{Allows, Answered, Entry, Err, ErrorCode, Give, IfSome, IsSome, IsSomeAnd, Left, List, Machine, None, Ok, Option, Reply, Result, Some}
use Rattle.wasi_causes.proofs.Words.{Standing, StandingCall, Step, TcpRecord, WasiSocketsCtx, [], ap, arith, eqb-true, first_ids, first_state, gives_more, is_some, kind_at, length, machine_asks, nothing_stands}
use Rattle.wasi_causes.proofs.Words.{own_of, poll_asks, refl, run, subst, sym, turn_asks, standing_as, stands_as, true, false, Bool, ℕ, ⊤, inl, inr, ◌≡◌, ◌⊎◌, ◌==◌, ◌∙◌}
use Rattle.std.specs.Prelude.{◌≤◌, min}
use Rattle.std.proofs.Math.Nat.{min-le_left}
use Rattle.std.proofs.lemmas.List.{length-replicate}
use Rattle.wasi_world.specs.declared.ids.Ids.{Ids}
use Rattle.wasi_streams.specs.Streams.{zeros}
use Rattle.host_store.specs.declared.store.BlockingCall.{BlockingCall}
use Rattle.host_store.specs.declared.store.BlockingCall.TheVariants as blocking
use Rattle.host_store.specs.Kinds.{tcp3_of, udp_of, input_of, is_readable, is_writable, plain_input_of}
use Rattle.host_store.specs.declared.kind.Kind.TheVariants.{PlainInput}
use Rattle.wasi_udp.specs.Create.{Create, after_create as udp_after_create}
use Rattle.wasi_walks.proofs.fits.Law.{whatever}
use Rattle.wasi_walks.proofs.fits.Polls.{Anything}
use Rattle.wasi_walks.proofs.walks.Moves.{AddsSlot, Numbers, AwaitsCreate, CallKind, CallsHandles, Empties, Frees, GoesOn, Here, IsCall, IsStreamCall, Joins, ListensFor, LooksAtPollables, OfPollables, OfStreams, Leaves, Made, Move, RecallsCall, RecallsStreams, RemembersStreams, Stands, StandsBlocking, StandsConnect, StandsDropOutgoing, StandsUdpBind, StandsUdpConnect, StandsUdpCreate, Unstands, Watches, udp_begun}
use Rattle.wasi_walks.proofs.walks.Moves.{IsUnheld, JoinsFault, JoinsPlain, RecallsListen, RemembersListen, StandsListen}
use Rattle.wasi_walks.proofs.walks.Runs.{run_ends}
use Rattle.wasi_walks.proofs.walks.Steps.{machine_walks}
use Rattle.wasi_steps.specs.Steps.{context_of}
use Rattle.wasi_steps.specs.declared.reply.Reply.TheVariants as reply
use Rattle.wasi_steps.specs.declared.guest_call.GuestCall.TheVariants as guest
use Rattle.wasi_steps.specs.declared.guest_call.UdpCall.TheVariants as udp_call
use Rattle.wasi_steps.specs.declared.guest_call.StreamCall.TheVariants as stream_call
use Rattle.wasi_steps.specs.declared.guest_call.PollableCall.TheVariants as pollable_call
use Rattle.wasi_steps.specs.declared.guest_call.P3TcpCall.TheVariants as p3_tcp_call
use Rattle.wasi_steps.specs.declared.step.Step.TheVariants as step
use Rattle.wasi_host.specs.declared.polling.Look.TheVariants.{First}
use Rattle.wasi_causes.proofs.pollables.Live.{block_live, list_live, ready_free}
use Rattle.wasi_causes.proofs.pollables.Looks.{WatchedStay, missed_before, missed_one, stay_same}
use Rattle.wasi_causes.specs.PollableCalls.{AllPollables, BeginsToWait, ForNone, NoPollable}
use Rattle.wasi_causes.proofs.streams.Kept.{PartsThere}
use Rattle.wasi_causes.proofs.Beside.{one_of_three, polled_beside}
use Rattle.wasi_causes.specs.P3Connects.{IsBeside}
use Rattle.host_store.specs.Beside.{stands_under}
use Rattle.wasi_walks.specs.Waiting.{call_over}
use Rattle.wasi_causes.proofs.streams.Live.{HasInput, begun_live, blocked_live, check_free, flush_free, free_well, read_free, skip_free, splice_free, splice_live, write_free}
use Rattle.wasi_causes.proofs.sockets.ListenLives.{listen_live}
use Rattle.wasi_causes.proofs.streams.Missing.{missed_input, missed_output}
use Rattle.wasi_causes.proofs.tables.Meets.{Meets, both, ends, met, onto, shifted, widen}
use Rattle.wasi_causes.proofs.tables.Parts.{by_left}
use Rattle.wasi_causes.proofs.tables.Steps.{Answers, IsBusy, IsHeldUp, IsItsOwn, answers}
use Rattle.wasi_causes.specs.Blocking.{BlockingCallStands, IsBlocking, SplicesOn}
use Rattle.wasi_causes.specs.Datagrams.{HasItsHandle, HasItsSocket, IsUdpStream, PendingHandleIsLive}
use Rattle.wasi_causes.specs.Outcomes.{Outcome}
use Rattle.wasi_causes.specs.Outcomes.{InputIsThere}
use Rattle.wasi_causes.proofs.Derived.{OwnedIn, its_record, streams_held}
use Rattle.wasi_causes.proofs.Fitted.{Fitted, beside_fits, first_fitted, line_fitted}
use Rattle.wasi_causes.proofs.Watching.{what_is_watched}
use Rattle.wasi_walks.proofs.Places.{udp_sort}
use Rattle.wasi_walks.proofs.fits.Datagrams.{FitBeside}
use Rattle.wasi_walks.specs.Missing.{MissesOneOf, MissesWatched}
use Rattle.wasi_records.specs.Numbered.{record_gone}
use Rattle.wasi_records.specs.Records.{input_pipe_of, output_pipe_at, output_pipe_of, tcp2_of, udp2_at}
use Rattle.udp_records.specs.Udp.{open_of}
use Rattle.wasi_records.specs.declared.records.Record.{Record}
use Rattle.udp_records.specs.declared.udp.OpenUdp.{OpenUdp}
use Rattle.udp_records.specs.declared.udp.UdpRecord.{UdpRecord}
use Rattle.host_store.specs.Beside.{beside_of}
use Rattle.host_store.specs.Kinds.{watch_of}
use Rattle.host_store.specs.declared.beside.Beside.{Beside}
use Rattle.host_store.specs.declared.beside.BesideCall.{BesideCall}
use Rattle.host_store.specs.declared.beside.BesideCall.TheVariants.{Connect, Receive, Resolve, Send}
use Rattle.wasi_causes.specs.GivenUp.{giving_back}
use Rattle.wasi_causes.specs.P3Connects.{BesideCancelled, LeavesBeside}
use Rattle.wasi_causes.specs.P3Datagrams.{DatagramOver, IsHeldNoMore, IsStillHeld}
use Rattle.wasi_causes.proofs.Words.{HandleTable, Watched, ◌∷◌, ap, suc, zero, slice_get, is_some, ◌⊎◌, ◌∙◌}
use Rattle.wasi_causes.proofs.Words.{Input, Kind, asks_while, record_in, streams_in}
use Rattle.host_streams.specs.Blocking.{blocking_splice_when}
use Rattle.wasi_records.specs.Records.{input_pipe_at, open_at, tcp2_at}
use Rattle.host_store.specs.declared.kind.PlainInput.TheVariants as plain_input
use Rattle.wasi_walks.specs.Missing.{MissesInputPipe}
use Rattle.wasi_walks.proofs.walks.OfState.{Becomes, Handles, HasHandle, HasNoRoom, NoRoom, OfError, OfLine, OfState, UdpBegun, Writing, begins_state, of_state}
use Rattle.wasi_walks.proofs.walks.Law.{InCall}
use Rattle.wasi_walks.proofs.walks.Moves.{Past, ToSend}

-- == no datagram streams, and no call that blocks, are pending
abbrev NoStreamsIn : StandingCall → Type 0
NoStreamsIn (StandingCall.UdpConnect place handle) = ⊥
NoStreamsIn (StandingCall.Listen place (Some handle)) = ⊥
NoStreamsIn (StandingCall.Blocking call) = ⊥
NoStreamsIn _ = ⊤

-- the same of what is pending, if anything is
abbrev NoStreamsStand : Option Standing → Type 0
NoStreamsStand None = ⊤
NoStreamsStand (Some s) = NoStreamsIn s.call

-- and the line makes none
abbrev MakesNone : Made → Type 0
MakesNone (Made.ToStream n handle place) = ⊥
MakesNone (Made.ToListen n (Some handle) place) = ⊥
MakesNone (Made.Calls kind n handles) = ⊥
MakesNone _ = ⊤

-- both
abbrev NoStreams : Here → Type 0
NoStreams h = NoStreamsStand h.machine.store.standing × MakesNone h.made

-- the line is a listen of 0.3
abbrev IsListen3 : Step → Type 0
IsListen3 (step.Call ctx (guest.P3Tcp (p3_tcp_call.Listen socket))) = ⊤
IsListen3 _ = ⊥

-- it is that, or one of datagram streams, or a call of a stream or on pollables
abbrev MayPend : Step → Type 0
MayPend s = IsListen3 s ⊎ (IsUdpStream s ⊎ (IsStreamCall s ⊎ LooksAtPollables s))

may_call : (kind : CallKind) (s : Step) → IsCall kind s → MayPend s
may_call OfStreams s k = inr (inr (inl k))
may_call OfPollables s k = inr (inr (inr k))

-- what goes on in a TCP record makes no streams
goes_none : (call : StandingCall) (r : TcpRecord) → GoesOn call r → NoStreamsIn call
goes_none (StandingCall.UdpConnect place handle) r k = k
goes_none (StandingCall.Listen place marks) r k = absurd k
goes_none (StandingCall.Blocking call) r k = k
goes_none _ r k = tt

-- a listen that marks no listener is that of another line than one of 0.3, and doesn't keep the handle of its socket
listens_none : (marks : Option ℕ) (s : Step) → ListensFor marks s → (MayPend s → ⊥) → (n place : ℕ) → MakesNone (Made.ToListen n marks place)
listens_none None s is plain n place = tt
listens_none (Some handle) (step.Call c (guest.P3Tcp (p3_tcp_call.Listen socket))) is plain n place = absurd (plain (inl tt))
listens_none (Some handle) _ is plain n place = absurd is

recalls_none : (marks : Option ℕ) (n place : ℕ) → NoStreamsIn (StandingCall.Listen place marks) → MakesNone (Made.ToListen n marks place)
recalls_none None n place k = tt
recalls_none (Some handle) n place k = k

stands_none : (marks : Option ℕ) (n place : ℕ) → MakesNone (Made.ToListen n marks place) → NoStreamsIn (StandingCall.Listen place marks)
stands_none None n place k = tt
stands_none (Some handle) n place k = k

-- nor a create
begun_none : (h : Here) (made : Result Create ErrorCode) → NoStreams h → NoStreams (udp_begun h made)
begun_none h (Ok create) i = i
begun_none h (Err c) i = i

module _ (contexts : List WasiSocketsCtx) (line : ℕ) (origin : Step) (plain : MayPend origin → ⊥) where
  -- each move of another line than that of streams leaves none pending
  moves_none : (h now : Here) → Move line origin h now → NoStreams h → NoStreams now
  moves_none _ _ (Leaves h) i = (i.0, tt)
  moves_none _ _ (Watches h own) i = (i.0, tt)
  moves_none _ _ (Numbers h) i = (i.0, tt)
  moves_none _ _ (AddsSlot h s) i = (i.0, tt)
  moves_none _ _ (Empties h handle kind q e none) i = (i.0, tt)
  moves_none _ _ (AwaitsCreate h place face create is g) i = (i.0, tt)
  moves_none _ _ (Joins h c handle place r l new peer is of u g e a) i = (i.0, tt)
  moves_none _ _ (JoinsPlain h c listener remaining place r l new peer is of u g e a) i = (i.0, tt)
  moves_none _ _ (JoinsFault h place r l c u g e a) i = (i.0, tt)
  moves_none _ _ (Frees h place made) i = (i.0, tt)
  moves_none _ _ (IsUnheld h place r g free) i = (i.0, tt)
  moves_none _ _ (Unstands h over) i = (tt, i.1)
  moves_none _ _ (Stands h ids call r quiet at g k) i = (goes_none call r k, i.1)
  moves_none _ _ (StandsUdpBind h ids place face o op quiet at g e) i = (tt, i.1)
  moves_none _ _ (StandsUdpCreate h ids place face create quiet made g its) i = (tt, i.1)
  moves_none _ _ (StandsDropOutgoing h ids place o quiet at g e) i = (tt, i.1)
  moves_none _ _ (RemembersStreams h c handle place remote is of o g none) i = absurd (plain (inr (inl (subst IsUdpStream (sym is) tt))))
  moves_none _ _ (RecallsStreams h ids place handle e own) i = absurd (subst NoStreamsStand e i.0)
  moves_none _ _ (StandsConnect h ids place o op quiet at past g e) i = (tt, i.1)
  moves_none _ _ (StandsUdpConnect h ids place handle o op quiet at made g e) i = absurd (subst MakesNone made i.1)
  moves_none _ _ (RemembersListen h marks place r is under g none) i = (i.0, listens_none marks origin is plain line place)
  moves_none _ _ (RecallsListen h ids place marks e) i = (i.0, recalls_none marks ids.line place (subst NoStreamsStand e i.0))
  moves_none _ _ (StandsListen h ids place marks r quiet at made g k) i = (stands_none marks ids.line place (subst MakesNone made i.1), i.1)
  moves_none _ _ (CallsHandles h kind calls quiet) i = absurd (plain (may_call kind origin calls))
  moves_none _ _ (RecallsCall h ids call e) i = absurd (subst NoStreamsStand e i.0)
  moves_none _ _ (StandsBlocking h ids call handles made its) i = absurd (subst MakesNone made i.1)
  moves_none _ _ _ i = i

  -- what is made is no call on handles
  handles_none : (h : Here) (kind : Kind) (parent : Option ℕ) (made : Made) → Handles origin h kind parent made
      → MakesNone h.made
      → MakesNone made
  handles_none h _ _ _ (OfLine kind parent sock m) i = i
  handles_none h _ _ _ (OfError n handle place handles m k e) i = i
  handles_none h _ _ _ _ i = tt

  no_room : (made : Made) → HasNoRoom made → MakesNone made
  no_room Past none = tt
  no_room (ToSend n handle reached) none = tt
  no_room _ none = absurd none

  becomes_none : (h now : Here) → Becomes contexts line origin h now → NoStreams h → NoStreams now
  becomes_none h _ (UdpBegun face ctx family r c u m) i = begun_none h (udp_after_create (own_of line) ctx.name family r) i
  becomes_none h _ (HasHandle kind parent made k) i = (i.0, handles_none h kind parent made k i.1)
  becomes_none h _ (NoRoom made none) i = (i.0, no_room made none)
  becomes_none h _ (Writing _ (InCall place n r s half permit bytes at g e w within used)) i = i
  becomes_none h _ _ i = i

  -- the law of it
  abbrev none_pending : OfState contexts line origin (λ es h. ⊤)
  none_pending = record {
    Holds = NoStreams;
    moves = λ es h now m b i. moves_none h now m i;
    becomes = λ es h now k b i. becomes_none h now k i;
    polls = λ es h op after held b i.
        whatever (λ end. NoStreams (after end)) (λ end. polled_same
        (λ t made standing. NoStreamsStand standing × MakesNone made) h op after held end i) es (poll_asks op);
    turns = λ es h place r s g e b i. whatever (λ done. NoStreams h) (λ done. i) es (turn_asks s.writer);
  }

  -- so it holds of what the line leaves
  stays_none : (m : Machine) → NoStreamsStand m.store.standing → Allows Anything (λ fs done. NoStreamsStand done.1.store.standing) [] (machine_asks contexts m line origin)
  stays_none m i = gives_more (λ fs done. NoStreamsStand done.1.store.standing × ⊤) (λ fs done. NoStreamsStand done.1.store.standing) (λ fs done k. k.0) [] (machine_asks contexts m line origin) ((machine_walks line origin {law = of_state none_pending} (begins_state none_pending) m m.store.standing refl).along [] (i, tt))

-- == of a step
of_none : (m : Machine) (o : Option Standing) → NoStreamsStand o → IfSome o (λ s. HasItsHandle m s.call)
of_none m None i = tt
of_none m (Some s) i = by_call s.call i
  where
    by_call : (call : StandingCall) → NoStreamsIn call → HasItsHandle m call
    by_call (StandingCall.UdpConnect place handle) i = absurd i
    by_call (StandingCall.Listen place (Some handle)) i = absurd i
    by_call (StandingCall.Blocking call) i = absurd i
    by_call _ i = tt

-- what is on its streams is so where these are still there
module _ (m after : Machine) (table : after.table ≡ m.table) (there : PartsThere m.store.records after.store.records) (stay : WatchedStay m.store.records after.store.records) where
  still_there : (call : BlockingCall) → HasItsHandle m (StandingCall.Blocking call) → HasItsHandle after (StandingCall.Blocking call)
  still_there (blocking.Read input len) k = (λ missing. k.0 (missed_input m after table there input missing), tt)
  still_there (blocking.Skip input len) k = (λ missing. k.0 (missed_input m after table there input missing), tt)
  still_there (blocking.Write output rest) k = (λ missing. k.0 (missed_output m after table there output missing), k.1)
  still_there (blocking.Finish output) k = (λ missing. k.0 (missed_output m after table there output missing), tt)
  still_there (blocking.Flush output) k = (λ missing. k.0 (missed_output m after table there output missing), tt)
  still_there (blocking.Block p) k = (λ missing. k.0 (missed_before m after stay table p missing), tt)
  still_there (blocking.Poll ps) k = (λ missing. k.0 (missed_one m after stay table ps missing), tt)
  still_there (blocking.Splice to from len) k = (λ missing. k.0 (elim missing [ inl none ↦ inl (missed_output m after table there to none) | inr none ↦ inr (missed_input m after table there from none) ]), tt)

  still_on : (call : StandingCall) → HasItsHandle m call → HasItsHandle after call
  still_on (StandingCall.UdpConnect place handle) k = subst (λ t. udp_of (kind_at t handle) ≡ Some place) (sym table) k
  still_on (StandingCall.Listen place (Some handle)) k = subst (λ t. tcp3_of (kind_at t handle) ≡ Some place) (sym table) k
  still_on (StandingCall.Blocking call) k = still_there call k
  still_on _ k = tt

  of_same : (o : Option Standing) → IfSome o (λ s. HasItsHandle m s.call) → IfSome o (λ s. HasItsHandle after s.call)
  of_same None k = tt
  of_same (Some s) k = still_on s.call k

  same_well : after.store.standing ≡ m.store.standing → PendingHandleIsLive m → PendingHandleIsLive after
  same_well standing well = subst (λ (o : Option Standing). IfSome o (λ s. HasItsHandle after s.call)) (sym standing) (of_same m.store.standing well)

-- a record is given back that is no socket of TCP and no pipe: what calls are on is still there, and so is what pollables watch
get_gone : (xs : List Record) (i k : ℕ) → (slice_get (record_gone xs i) k ≡ slice_get xs k) ⊎ (k ≡ i)
get_gone [] i k = inl refl
get_gone (z ∷ xs) zero zero = inr refl
get_gone (z ∷ xs) zero (suc k) = inl refl
get_gone (z ∷ xs) (suc i) zero = inl refl
get_gone (z ∷ xs) (suc i) (suc k) = elim (get_gone xs i k) [ inl e ↦ inl e | inr e ↦ inr (ap suc e) ]

udp_inputs : (records : List Record) (place : ℕ) (u : UdpRecord) → udp2_at records place ≡ Some u → (input_pipe_at records place ≡ None) × (output_pipe_at records place ≡ None)
udp_inputs records place u at = let is = udp_sort.it (slice_get records place) u at in (ap input_pipe_of is, ap output_pipe_of is)

parts_gone : (records : List Record) (place : ℕ) → tcp2_at records place ≡ None → (input_pipe_at records place ≡ None) × (output_pipe_at records place ≡ None) → PartsThere records (record_gone records place)
parts_gone records place no_tcp no_pipe = record {
  streams = λ k h. elim (get_gone records place k) [
    | inl e ↦ subst (λ (o : Option Record). IsSome (streams_in (tcp2_of o))) (sym e) h
    | inr e ↦ (let none : streams_in (tcp2_at records k) ≡ None = ap (λ (n : ℕ). streams_in (tcp2_at records n)) e ∙ ap streams_in no_tcp in absurd (cc))
  ];
  inputs = λ k h. elim (get_gone records place k) [
    | inl e ↦ subst (λ (o : Option Record). is_some (input_pipe_of o) ≡ true) (sym e) h
    | inr e ↦ (let none : input_pipe_at records k ≡ None = ap (input_pipe_at records) e ∙ no_pipe.0 in absurd (cc))
  ];
  outputs = λ k h. elim (get_gone records place k) [
    | inl e ↦ subst (λ (o : Option Record). is_some (output_pipe_of o) ≡ true) (sym e) h
    | inr e ↦ (let none : output_pipe_at records k ≡ None = ap (output_pipe_at records) e ∙ no_pipe.1 in absurd (cc))
  ];
}

-- where what each live handle is of is there
module _ (m after : Machine) (owned : OwnedIn after) (table : after.table ≡ m.table) (there : PartsThere m.store.records after.store.records) where
  watch_there : (p : ℕ) → (MissesWatched m (watch_of (kind_at m.table p)) → ⊥) → MissesWatched after (watch_of (kind_at after.table p)) → ⊥
  watch_there p k = by_watch (watch_of (kind_at m.table p)) refl k
    where
      by_watch : (o : Option Watched) → watch_of (kind_at m.table p) ≡ o → (MissesWatched m o → ⊥) → MissesWatched after (watch_of (kind_at after.table p)) → ⊥
      by_watch None e k missing = k tt
      by_watch (Some watch) e k missing = what_is_watched after owned p (let its : watch_of (kind_at after.table p) ≡ Some watch = ap (λ (t : HandleTable). watch_of (kind_at t p)) table ∙ e in rw its refl) missing

  ones_there : (ps : List ℕ) → (MissesOneOf m ps → ⊥) → MissesOneOf after ps → ⊥
  ones_there [] k missing = missing
  ones_there (p ∷ ps) k missing = elim missing [ inl one ↦ watch_there p (λ x. k (inl x)) one | inr others ↦ ones_there ps (λ x. k (inr x)) others ]

  on_there : (call : BlockingCall) → HasItsHandle m (StandingCall.Blocking call) → HasItsHandle after (StandingCall.Blocking call)
  on_there (blocking.Read input len) k = (λ missing. k.0 (missed_input m after table there input missing), tt)
  on_there (blocking.Skip input len) k = (λ missing. k.0 (missed_input m after table there input missing), tt)
  on_there (blocking.Write output rest) k = (λ missing. k.0 (missed_output m after table there output missing), k.1)
  on_there (blocking.Finish output) k = (λ missing. k.0 (missed_output m after table there output missing), tt)
  on_there (blocking.Flush output) k = (λ missing. k.0 (missed_output m after table there output missing), tt)
  on_there (blocking.Block p) k = (λ missing. watch_there p k.0 missing, tt)
  on_there (blocking.Poll ps) k = (λ missing. ones_there ps k.0 missing, tt)
  on_there (blocking.Splice to from len) k = (λ missing. k.0 (elim missing [ inl none ↦ inl (missed_output m after table there to none) | inr none ↦ inr (missed_input m after table there from none) ]), tt)

  call_there : (call : StandingCall) → HasItsHandle m call → HasItsHandle after call
  call_there (StandingCall.UdpConnect place handle) k = subst (λ t. udp_of (kind_at t handle) ≡ Some place) (sym table) k
  call_there (StandingCall.Listen place (Some handle)) k = subst (λ t. tcp3_of (kind_at t handle) ≡ Some place) (sym table) k
  call_there (StandingCall.Blocking call) k = on_there call k
  call_there _ k = tt

  of_still : (o : Option Standing) → IfSome o (λ s. HasItsHandle m s.call) → IfSome o (λ s. HasItsHandle after s.call)
  of_still None k = tt
  of_still (Some s) k = call_there s.call k

of_gone : (m after : Machine) → OwnedIn after → after.table ≡ m.table → PartsThere m.store.records after.store.records → after.store.standing ≡ m.store.standing → PendingHandleIsLive m → PendingHandleIsLive after
of_gone m after owned table there standing well = subst (λ (o : Option Standing). IfSome o (λ s. HasItsHandle after s.call)) (sym standing) (of_still m after owned table there m.store.standing well)

same_quiet : (m after : Machine) → after ≡ m → PendingHandleIsLive m → PendingHandleIsLive after
same_quiet m after same well = subst PendingHandleIsLive (sym same) well

-- what is watched stays there in a turn
turn_stays : (m after : Machine) → ((k : ℕ) → IsSome (tcp2_at m.store.records k) → IsSome (tcp2_at after.store.records k)) → ((k : ℕ) → IsSome (open_at m.store.records k) → IsSome (open_at after.store.records k))
    → ((k : ℕ) → IsSome (streams_in (tcp2_at m.store.records k)) → IsSome (streams_in (tcp2_at after.store.records k))) → WatchedStay m.store.records after.store.records
turn_stays m after sockets opens streams = record {
  sockets = λ k. none_before (tcp2_at m.store.records k) (tcp2_at after.store.records k) (sockets k);
  streams = λ k. none_before (streams_in (tcp2_at m.store.records k)) (streams_in (tcp2_at after.store.records k)) (streams k);
  opens = λ k. none_before (open_at m.store.records k) (open_at after.store.records k) (opens k);
}
  where
    none_before : {A : Type 0} (old now : Option A) → (IsSome old → IsSome now) → now ≡ None → old ≡ None
    none_before None now stays none = refl
    none_before {A} (Some x) None stays none = let k : IsSome {T = A} None = stays refl in absurd (cc)
    none_before (Some x) (Some y) stays none = absurd (cc)

few_zeros : (len : ℕ) → len ≤ 4096 → length (zeros len) ≤ 4096
few_zeros len few = let k = length-replicate {A = ℕ} (min len 65537) 0 in let l = min-le_left len 65537 in omega (arith, k, l, few)

-- each live input is there
pub inputs_are_there : (m : Machine) → OwnedIn m → (handle : ℕ) → InputIsThere m handle
inputs_are_there m i handle readable missing = by_kind (kind_at m.table handle) refl readable missing.0 missing.1
  where
    by_kind : (k : Option Kind) → kind_at m.table handle ≡ k → is_readable k ≡ true → streams_in (record_in m (input_of k)) ≡ None → MissesInputPipe m (plain_input_of k) → ⊥
    by_kind (Some (Input place)) e r none pipe = let has : IsSome (streams_in (tcp2_at m.store.records place)) = streams_held (tcp2_at m.store.records place) (its_record m i handle place (Input place) e (inr (inl refl))) in absurd (cc)
    by_kind (Some (PlainInput (plain_input.Pipe place))) e r none pipe = let has : is_some (input_pipe_at m.store.records place) ≡ true = its_record m i handle place (PlainInput (plain_input.Pipe place)) e (inl refl) in absurd (cc)
    by_kind (Some (PlainInput plain_input.Closed)) e r none pipe = pipe
    by_kind _ e r none pipe = absurd (cc)

-- a splice of no input is a trap, and all is as it was
unread : (m : Machine) (ids : Ids) (to from len : ℕ) (writes : Bool) → Meets (λ es done. done.1 ≡ m) [] (blocking_splice_when m ids to from len writes false)
unread m ids to from len true = ends refl
unread m ids to from len false = ends refl

module _ (contexts : List WasiSocketsCtx) (m : Machine) (line : ℕ) (inputs : (handle : ℕ) → InputIsThere m handle) (fitted : Fitted m) where
  -- none are pending afterwards, where none were and the step asks for none
  abbrev KeepsNone : Step → Machine → Type 0
  KeepsNone s after = (MayPend s → ⊥) × NoStreamsStand m.store.standing → NoStreamsStand after.store.standing

  -- a guest's call is its own only where nothing is pending
  nothing_pending : (s : Step) → IsSome (context_of s) → (IsHeldUp contexts m line s → ⊥) → (o : Option Standing) → m.store.standing ≡ o → m.store.standing ≡ None
  nothing_pending s guest free None e = e
  nothing_pending s guest free (Some c) e = absurd (free (rw e refl, inl guest))

  -- then a call of a guest leaves it well
  by_guest : (s : Step) (after : Machine) → IsSome (context_of s) → (MayPend s → ⊥) → (IsHeldUp contexts m line s → ⊥) → KeepsNone s after → PendingHandleIsLive after
  by_guest s after guest plain free none = of_none after after.store.standing (none (plain, subst NoStreamsStand (sym (nothing_pending s guest free m.store.standing refl)) tt))

  -- a call that blocks is continued by a poll
  module _ (n : ℕ) (es : List Entry) (r : Reply) (after : Machine) (free : IsHeldUp contexts m line (step.Poll n) → ⊥) (row : Outcome contexts m line (step.Poll n) es r after) where
    -- a call beside others is polled only where no exclusive call is pending
    none_exclusive : IsBeside m n → (o : Option Standing) → m.store.standing ≡ o → m.store.standing ≡ None
    none_exclusive beside None e = e
    none_exclusive beside (Some s) e = absurd (free (rw e refl, inr (polled_beside m n beside)))

    its_input : (call : BlockingCall) → HasItsHandle m (StandingCall.Blocking call) → HasInput (nothing_stands m) call
    its_input (blocking.Splice to from len) k = λ missing. k.0 (inr missing)
    its_input _ k = tt

    polled_blocking : (ids : Ids) (call : BlockingCall) → m.store.standing ≡ Some (standing_as ids (StandingCall.Blocking call)) → ids.line ≡ n → HasItsHandle m (StandingCall.Blocking call) → PendingHandleIsLive after
    polled_blocking ids call stands same on = blocked_live contexts 0 ids (nothing_stands m) call es r after refl on.1 (its_input call on) (row.0.2 0 ids call stands same on.1)

    -- another call is still pending
    polled_pending : r ≡ reply.Pending n → (BlockingCallStands m → ⊥) → PendingHandleIsLive m → PendingHandleIsLive after
    polled_pending is other well =
        let k = subst (λ (x : Reply). Outcome contexts m line (step.Poll n) es x after) is row in
        subst (λ (o : Option Standing). IfSome o (λ s. HasItsHandle after s.call)) (sym (k.1.1.2 other)) (by_standing m.store.standing other well k.1.1.1)
      where
        by_call : (call : StandingCall) → (IsBlocking call → ⊥) → HasItsHandle m call → after.table ≡ m.table → HasItsHandle after call
        by_call (StandingCall.UdpConnect place handle) none k table = subst (λ t. udp_of (kind_at t handle) ≡ Some place) (sym table) k
        by_call (StandingCall.Listen place (Some handle)) none k table = subst (λ t. tcp3_of (kind_at t handle) ≡ Some place) (sym table) k
        by_call (StandingCall.Blocking call) none k table = absurd (none tt)
        by_call _ none k table = tt

        by_standing : (o : Option Standing) → (IsSomeAnd o (λ s. IsBlocking s.call) → ⊥) → IfSome o (λ s. HasItsHandle m s.call) → after.table ≡ m.table → IfSome o (λ s. HasItsHandle after s.call)
        by_standing None none k table = tt
        by_standing (Some s) none k table = by_call s.call none k table

    polled_other : (BlockingCallStands m → ⊥) → stands_as m.store.standing n ≡ true → PendingHandleIsLive m → PendingHandleIsLive after
    polled_other other stands well = elim (row.0.1 stands) [ inl is ↦ polled_pending is other well | inr free ↦ free_well after free ]

    by_line : (s : Standing) → m.store.standing ≡ Some s → stands_as m.store.standing n ≡ true → s.ids.line ≡ n
    by_line s e stands = let same : (s.ids.line == n) ≡ true = ap (λ (o : Option Standing). stands_as o n) (sym e) ∙ stands in eqb-true s.ids.line n same

    polled_as : (o : Option Standing) → m.store.standing ≡ o → stands_as m.store.standing n ≡ true → PendingHandleIsLive m → PendingHandleIsLive after
    polled_as None e stands well = let same : stands_as None n ≡ true = ap (λ (o : Option Standing). stands_as o n) (sym e) ∙ stands in absurd (cc)
    polled_as (Some s) e stands well = by_call s.call refl
      where
        no_blocking : (call : StandingCall) → s.call ≡ call → (IsBlocking call → ⊥) → BlockingCallStands m → ⊥
        no_blocking call is none stands = none (subst IsBlocking is (subst (λ (o : Option Standing). IsSomeAnd o (λ s. IsBlocking s.call)) e stands))

        by_call : (call : StandingCall) → s.call ≡ call → PendingHandleIsLive after
        by_call (StandingCall.Blocking call) is =
            let its : m.store.standing ≡ Some (standing_as s.ids (StandingCall.Blocking call)) = e ∙ ap (λ (c : StandingCall). Some (standing_as s.ids c)) is in
            let on : HasItsHandle m (StandingCall.Blocking call) = subst (λ (o : Option Standing). IfSome o (λ s. HasItsHandle m s.call)) its well in
            polled_blocking s.ids call its (by_line s e stands) on
        by_call (StandingCall.Bind place face) is = polled_other (no_blocking (StandingCall.Bind place face) is (λ k. k)) stands well
        by_call (StandingCall.Listen place marks) is = polled_other (no_blocking (StandingCall.Listen place marks) is (λ k. k)) stands well
        by_call (StandingCall.DropOutput place) is = polled_other (no_blocking (StandingCall.DropOutput place) is (λ k. k)) stands well
        by_call (StandingCall.UdpCreate place face) is = polled_other (no_blocking (StandingCall.UdpCreate place face) is (λ k. k)) stands well
        by_call (StandingCall.UdpBind place face) is = polled_other (no_blocking (StandingCall.UdpBind place face) is (λ k. k)) stands well
        by_call (StandingCall.UdpConnect place handle) is = polled_other (no_blocking (StandingCall.UdpConnect place handle) is (λ k. k)) stands well
        by_call (StandingCall.UdpConnect3 place) is = polled_other (no_blocking (StandingCall.UdpConnect3 place) is (λ k. k)) stands well
        by_call (StandingCall.DropOutgoing place) is = polled_other (no_blocking (StandingCall.DropOutgoing place) is (λ k. k)) stands well

    polled_well : PendingHandleIsLive m → PendingHandleIsLive after
    polled_well well =
        one_of_three m n (λ on. polled_as m.store.standing refl on well)
        (λ off. let k = subst (λ (x : Reply). Outcome contexts m line (step.Poll n) es x after) (row.0.0.1 off) row in same_quiet m after k.1.1.1 well)
        (λ beside. free_well after ((row.0.3 beside).exclusive ∙ none_exclusive beside m.store.standing refl))

  -- what is left of a machine where a call beside others is over
  over_well : (n : ℕ) → PendingHandleIsLive m → PendingHandleIsLive (call_over m n)
  over_well n well = same_well m (call_over m n) refl (record { streams = λ k h. h; inputs = λ k h. h; outputs = λ k h. h }) (stay_same m.store.records) refl well

  -- or where its socket went with it
  module _ (n place : ℕ) (o : OpenUdp) (at : udp2_at m.store.records place ≡ Some (UdpRecord.Open o)) where
    abbrev gone : Machine
    gone = giving_back (call_over m n) place

    no_tcp : tcp2_at m.store.records place ≡ None
    no_tcp = ap tcp2_of (udp_sort.it (slice_get m.store.records place) (UdpRecord.Open o) at)

    gone_well : OwnedIn gone → PendingHandleIsLive m → PendingHandleIsLive gone
    gone_well owned well = of_gone m gone owned refl (parts_gone m.store.records place no_tcp (udp_inputs m.store.records place (UdpRecord.Open o) at)) refl well

  over_beside : (n place : ℕ) (o : OpenUdp) → udp2_at m.store.records place ≡ Some (UdpRecord.Open o) → {es : List Entry} {after : Machine} → DatagramOver m n place o es after → OwnedIn after → PendingHandleIsLive m → PendingHandleIsLive after
  over_beside n place o at (IsStillHeld held) owned well = over_well n well
  over_beside n place o at (IsHeldNoMore held) owned well = gone_well n place o at owned well

  beside_well : (n : ℕ) (es : List Entry) (after : Machine) → BesideCancelled m n es after → OwnedIn after → PendingHandleIsLive m → PendingHandleIsLive after
  beside_well n es after left owned well = by_beside (beside_of m.store n) refl left.1
    where
      by_call : (b : Beside) (call : BesideCall) → FitBeside m.store.records b.line call → LeavesBeside m n es after call → PendingHandleIsLive after
      by_call b (Connect place) fit k = subst PendingHandleIsLive (sym k.1) (over_well n well)
      by_call b (Resolve host) fit k = subst PendingHandleIsLive (sym k.1) (over_well n well)
      by_call b (Send place op) fit k = over_beside n place fit.0.was fit.0.at (k fit.0.was (ap open_of fit.0.at)) owned well
      by_call b (Receive place op) fit k = over_beside n place fit.0.was fit.0.at (k fit.0.was (ap open_of fit.0.at)) owned well

      by_beside : (o : Option Beside) → beside_of m.store n ≡ o → IsSomeAnd o (λ b. LeavesBeside m n es after b.call) → PendingHandleIsLive after
      by_beside None e k = absurd k
      by_beside (Some b) e k = by_call b b.call (beside_fits m fitted n b e).0 k

  -- a cancel leaves nothing pending, or all as it was, or the exclusive call
  cancelled_well : (n : ℕ) (es : List Entry) (r : Reply) (after : Machine) → Outcome contexts m line (step.Cancel n) es r after → OwnedIn after → PendingHandleIsLive m → PendingHandleIsLive after
  cancelled_well n es r after row owned well = by_under (stands_under m.store n) refl
    where
      by_under : (b : Bool) → stands_under m.store n ≡ b → PendingHandleIsLive after
      by_under true e =
          let k = subst (λ (x : Reply). Outcome contexts m line (step.Cancel n) es x after) (row.0.1.1 e) row in
          elim k.1.1 [
            | inl left ↦ free_well after left.1
            | inr beside ↦ beside_well n es after beside owned well
          ]
      by_under false e = let k = subst (λ (x : Reply). Outcome contexts m line (step.Cancel n) es x after) (row.0.0.1 e) row in same_quiet m after k.1.1.1 well

  -- and so does each step
  module _ (es : List Entry) (r : Reply) (after : Machine) where
    spliced_well : (c to from len : ℕ) → m.store.standing ≡ None → Answered contexts m line (step.Call c (guest.Stream (stream_call.BlockingSplice to from len))) es r after → (reads : Bool) → is_readable (kind_at m.table from) ≡ reads → SplicesOn contexts m c (first_ids line) to from len es r after → PendingHandleIsLive after
    spliced_well c to from len none w true e goes = splice_live contexts c (first_ids line) m to from len es r after none (inputs from e) goes
    spliced_well c to from len none w false e goes =
        same_quiet m after (met {Row = λ es done. done.1 ≡ m} {a = (r, after)} (onto _ (subst (λ (b : Bool). Meets (λ es done. done.1 ≡ m) [] (blocking_splice_when m (first_ids line) to from len (is_writable (kind_at m.table to)) b)) (sym e) (unread m (first_ids line) to from len (is_writable (kind_at m.table to)))))
        (subst (λ (o : Option Standing). Left (asks_while contexts m line (step.Call c (guest.Stream (stream_call.BlockingSplice to from len))) o) es (Give (r, after))) none w)) (free_well m none)

    -- a wait for several
    begun_wait : (ps : List ℕ) → m.store.standing ≡ None → BeginsToWait m line ps es r after → PendingHandleIsLive after
    begun_wait ps none goes = of_wait none goes
      where
        of_wait : {gs : List Entry} {said : Reply} {now : Machine} → m.store.standing ≡ None → BeginsToWait m line ps gs said now → PendingHandleIsLive now
        of_wait none (ForNone e) = free_well m none
        of_wait none (NoPollable some not) = free_well m none
        of_wait none (AllPollables gs said now some all k) = list_live m (first_ids line) ps First gs said now none k

    well_after : (s : Step) → (IsHeldUp contexts m line s → ⊥) → Answered contexts m line s es r after → Outcome contexts m line s es r after → KeepsNone s after → OwnedIn after → PendingHandleIsLive m → PendingHandleIsLive after
    well_after step.Turn free w row none owned well =
        same_well m after row.0.handles (record { streams = row.0.streams; inputs = λ k h. ap (λ o. is_some o) (row.0.pipes k).0 ∙ h; outputs = λ k h. ap (λ o. is_some o) (row.0.pipes k).1 ∙ h }) (turn_stays m after row.0.sockets row.0.opens row.0.streams) row.0.pending well
    well_after (step.Poll n) free w row none owned well = polled_well n es r after free row well
    well_after (step.Cancel n) free w row none owned well = cancelled_well n es r after row owned well
    well_after (step.Call c (guest.Udp (udp_call.Stream s remote))) free w row none owned well = row.0.1 (nothing_pending (step.Call c (guest.Udp (udp_call.Stream s remote))) refl free m.store.standing refl)
    well_after (step.Call c (guest.P3Tcp (p3_tcp_call.Listen s))) free w row none owned well = listen_live contexts m line c s es r after (nothing_pending (step.Call c (guest.P3Tcp (p3_tcp_call.Listen s))) refl free m.store.standing refl) row
    well_after (step.Call c (guest.Stream (stream_call.Read input len))) free w row none owned well = free_well after (read_free contexts m (nothing_pending (step.Call c (guest.Stream (stream_call.Read input len))) refl free m.store.standing refl) line c es r after input len w)
    well_after (step.Call c (guest.Stream (stream_call.CheckWrite output))) free w row none owned well = free_well after (check_free contexts m (nothing_pending (step.Call c (guest.Stream (stream_call.CheckWrite output))) refl free m.store.standing refl) line c es r after output w)
    well_after (step.Call c (guest.Stream (stream_call.Write output bytes))) free w row none owned well = free_well after (write_free contexts m (nothing_pending (step.Call c (guest.Stream (stream_call.Write output bytes))) refl free m.store.standing refl) line c es r after output bytes w)
    well_after (step.Call c (guest.Stream (stream_call.Flush output))) free w row none owned well = free_well after (flush_free contexts m (nothing_pending (step.Call c (guest.Stream (stream_call.Flush output))) refl free m.store.standing refl) line c es r after output w)
    well_after (step.Call c (guest.Stream (stream_call.Skip input len))) free w row none owned well = let none = nothing_pending (step.Call c (guest.Stream (stream_call.Skip input len))) refl free m.store.standing refl in free_well after (skip_free contexts m none line c input len es r after (row.0 none))
    well_after (step.Call c (guest.Stream (stream_call.WriteZeroes output len))) free w row none owned well = let none = nothing_pending (step.Call c (guest.Stream (stream_call.WriteZeroes output len))) refl free m.store.standing refl in free_well after (write_free contexts m none line c es r after output (zeros len) (row.0 none))
    well_after (step.Call c (guest.Stream (stream_call.Splice to from len))) free w row none owned well = let none = nothing_pending (step.Call c (guest.Stream (stream_call.Splice to from len))) refl free m.store.standing refl in free_well after (splice_free contexts m line c to from len es r after none (row.0 none))
    well_after (step.Call c (guest.Stream (stream_call.BlockingRead input len))) free w row none owned well = let none = nothing_pending (step.Call c (guest.Stream (stream_call.BlockingRead input len))) refl free m.store.standing refl in blocked_live contexts c (first_ids line) m (blocking.Read input len) es r after none tt tt (row.0 none)
    well_after (step.Call c (guest.Stream (stream_call.BlockingSkip input len))) free w row none owned well = let none = nothing_pending (step.Call c (guest.Stream (stream_call.BlockingSkip input len))) refl free m.store.standing refl in blocked_live contexts c (first_ids line) m (blocking.Skip input len) es r after none tt tt (row.0 none)
    well_after (step.Call c (guest.Stream (stream_call.BlockingWrite output bytes))) free w row none owned well = let none = nothing_pending (step.Call c (guest.Stream (stream_call.BlockingWrite output bytes))) refl free m.store.standing refl in begun_live contexts c (first_ids line) m output (length bytes) bytes es r after none (λ few. few) (row.0 none)
    well_after (step.Call c (guest.Stream (stream_call.BlockingZeroes output len))) free w row none owned well = let none = nothing_pending (step.Call c (guest.Stream (stream_call.BlockingZeroes output len))) refl free m.store.standing refl in begun_live contexts c (first_ids line) m output len (zeros len) es r after none (few_zeros len) (row.0 none)
    well_after (step.Call c (guest.Stream (stream_call.BlockingFlush output))) free w row none owned well = let none = nothing_pending (step.Call c (guest.Stream (stream_call.BlockingFlush output))) refl free m.store.standing refl in blocked_live contexts c (first_ids line) m (blocking.Flush output) es r after none tt tt (row.0 none)
    well_after (step.Call c (guest.Stream (stream_call.BlockingSplice to from len))) free w row none owned well = let none = nothing_pending (step.Call c (guest.Stream (stream_call.BlockingSplice to from len))) refl free m.store.standing refl in spliced_well c to from len none w (is_readable (kind_at m.table from)) refl (row.0 none)
    well_after (step.Call c (guest.Pollable (pollable_call.Ready p))) free w row none owned well = free_well after (ready_free contexts m line c p (nothing_pending (step.Call c (guest.Pollable (pollable_call.Ready p))) refl free m.store.standing refl) es r after w)
    well_after (step.Call c (guest.Pollable (pollable_call.Block p))) free w row none owned well = let none = nothing_pending (step.Call c (guest.Pollable (pollable_call.Block p))) refl free m.store.standing refl in block_live contexts c (first_ids line) m p First es r after none (row.0 none)
    well_after (step.Call c (guest.Pollable (pollable_call.PollList ps))) free w row none owned well = begun_wait ps (nothing_pending (step.Call c (guest.Pollable (pollable_call.PollList ps))) refl free m.store.standing refl) row.0
    well_after s free w row none owned well = by_guest s after refl (λ h. elim h [ inl k ↦ k | inr k ↦ elim k [ inl j ↦ j | inr j ↦ elim j [ inl x ↦ x | inr x ↦ x ] ] ]) free none

  -- whatever it is answered
  by_answer : (s : Step) (es : List Entry) (r : Reply) (after : Machine) → Answered contexts m line s es r after → Answers contexts m line s es r after → KeepsNone s after → OwnedIn after → PendingHandleIsLive m → PendingHandleIsLive after
  by_answer s _ _ _ w (IsBusy held) none owned well = well
  by_answer s _ _ _ w (IsItsOwn es r after free row) none owned well = well_after es r after s free w row none owned well

  -- and whatever is told
  lasts : (s : Step) → Meets (λ es done. OwnedIn done.1 → PendingHandleIsLive m → PendingHandleIsLive done.1) [] (machine_asks contexts m line s)
  lasts s = by_left (machine_asks contexts m line s) (λ es done w. by_answer s es done.0 done.1 w (answers contexts m line s es done.0 done.1 w) (λ p. met {a = done} (record { along = stays_none contexts line s p.0 m p.1 }) w))

-- == of a run
-- what is pending is well, and what each live handle is of is there, and each record and each datagram in progress fits
abbrev pub Holds : Machine → Type 0
Holds m = PendingHandleIsLive m × Fitted m

line_holds : (contexts : List WasiSocketsCtx) (line : ℕ) (s : Step) (m : Machine) (es : List Entry) → Holds m → Allows Anything (λ fs done. Holds done.1) es (machine_asks contexts m line s)
line_holds contexts line s m es h =
    (widen (λ gs done k. (k.0.row k.1.0 h.0, k.1))
    (both (shifted es (lasts contexts m line (inputs_are_there m h.1.0) h.1 s)) (record { along = line_fitted contexts line s m es h.1 }))).along

pub runs_hold : (contexts : List WasiSocketsCtx) (steps : List Step) (es : List Entry) (replies : List Reply) (m : Machine) → Left (run contexts [] first_state 1 steps) es (Give (replies, m)) → Holds m
runs_hold contexts steps es replies m w = (run_ends contexts Anything (λ line fs now. Holds now) (λ line s now fs h. line_holds contexts line s now fs h) (tt, first_fitted) steps es replies m w).1

-- so datagram streams that are pending have their handle
pub runs_keep_sockets : (m : Machine) → PendingHandleIsLive m → IfSome m.store.standing (λ s. HasItsSocket m s.call)
runs_keep_sockets m well = by_standing m.store.standing well
  where
    by_call : (call : StandingCall) → HasItsHandle m call → HasItsSocket m call
    by_call (StandingCall.UdpConnect place handle) k = k
    by_call _ k = tt

    by_standing : (o : Option Standing) → IfSome o (λ s. HasItsHandle m s.call) → IfSome o (λ s. HasItsSocket m s.call)
    by_standing None k = tt
    by_standing (Some s) k = by_call s.call k
