-- After a listen of 0.3 what is pending, if anything is, keeps the handle that the listen was asked of, which is live.
use Rattle.wasi_causes.proofs.Words.{◌≡◌, ◌∙◌, ℕ, List, None, ap, refl, subst, sym, Entry, ErrorCode, Machine, inl, inr, OpId, Reply, TcpRecord, WasiSocketsCtx, own_of}
use Rattle.wasi_causes.proofs.streams.Live.{free_well}
use Rattle.wasi_causes.specs.Datagrams.{PendingHandleIsLive}
use Rattle.wasi_causes.specs.Outcomes.{Outcome}
use Rattle.wasi_causes.specs.P3Listens.{BeganBefore, ListenFails, ListenTold, NotInFirstState, OperationGoesOn}
use Rattle.wasi_steps.specs.declared.guest_call.GuestCall.TheVariants as guest
use Rattle.wasi_steps.specs.declared.guest_call.P3TcpCall.TheVariants as p3_tcp_call
use Rattle.wasi_steps.specs.declared.reply.Reply.TheVariants as reply
use Rattle.wasi_steps.specs.declared.step.Step.TheVariants as step
use Rattle.wasi_world.specs.declared.outcome.TrapKind.TheVariants as trap

-- what a listen leaves that is refused is pending no more than before
refused_free : (m : Machine) (own : OpId) (place : ℕ) (r : TcpRecord) (es : List Entry) (c : ErrorCode) (after : Machine) → ListenFails m own place r es c after → after.store.standing ≡ m.store.standing
refused_free m own place r _ _ _ (OperationGoesOn e) = refl
refused_free m own place r _ _ _ (BeganBefore e begun) = refl
refused_free m own place r _ _ _ (NotInFirstState e first past) = refl
refused_free m own place r _ _ _ (ListenTold b polled c given items ends) = refl

module _ (contexts : List WasiSocketsCtx) (m : Machine) (line c handle : ℕ) (es : List Entry) where
  free_of : (after : Machine) → m.store.standing ≡ None → after.store.standing ≡ m.store.standing → PendingHandleIsLive after
  free_of after none same = free_well after (same ∙ none)

  pub listen_live : (r : Reply) (after : Machine) → m.store.standing ≡ None → Outcome contexts m line (step.Call c (guest.P3Tcp (p3_tcp_call.Listen handle))) es r after → PendingHandleIsLive after
  listen_live (reply.Ok fields) after none row = free_of after none (ap (λ (x : Machine). x.store.standing) row.1.1.holds.left)
  listen_live (reply.Err w) after none row =
      let k = row.1.1 in free_of after none (refused_free m (own_of line) k.place k.found es k.holds.code after k.holds.cause)
  listen_live (reply.Pending n) after none row =
      let k = row.1.1 in subst PendingHandleIsLive (sym k.holds.left) k.names
  listen_live (reply.Trap trap.NoSuchHandle) after none row = free_of after none (ap (λ (x : Machine). x.store.standing) row.1.1.1)
  listen_live (reply.Trap trap.Full) after none row = free_of after none (ap (λ (x : Machine). x.store.standing) row.1.2.holds.left)
  listen_live (reply.Trap trap.HasChildren) after none row = absurd row.1.0
  listen_live (reply.Trap trap.NotPermitted) after none row = elim row.1.0 [ inl k ↦ absurd k | inr k ↦ absurd k ]
  listen_live (reply.Trap trap.StreamsAlive) after none row = absurd row.1.0
  listen_live (reply.Trap trap.Capacity) after none row = absurd row.1.0
  listen_live (reply.Trap trap.TooLong) after none row = absurd row.1.0
  listen_live (reply.Trap trap.EmptyList) after none row = absurd row.1.0
  listen_live reply.Closed after none row = absurd row.1.0
  listen_live (reply.Failed w other) after none row = absurd row.1.0.0
  listen_live reply.Cancelled after none row = absurd row.1.0
  listen_live reply.Dropped after none row = absurd row.1.0
  listen_live reply.Unfilled after none row = absurd row.1.0
  listen_live reply.NoSuchCall after none row = elim row.1.0 [ inl k ↦ absurd k | inr k ↦ absurd k ]
  listen_live _ after none row = absurd row.1
