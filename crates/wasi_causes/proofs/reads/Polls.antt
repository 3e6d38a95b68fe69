-- While no call that blocks is pending, what is pending isn't of a stream.
use Rattle.wasi_causes.proofs.Words.{Machine, None, Option, Some, Standing, StandingCall, ap, ◌≡◌}
use Rattle.std.proofs.Common.{subst, sym}
use Rattle.std.specs.Prelude.{IsSomeAnd}
use Rattle.host_store.specs.declared.store.StandingCall.TheVariants as standing
use Rattle.wasi_causes.specs.Blocking.{BlockingCallStands, IsBlocking}
use Rattle.wasi_causes.proofs.reads.Handles.{OfNoStream}

by_call : (call : StandingCall) → (IsBlocking call → ⊥) → OfNoStream call
by_call (standing.Blocking call) n = n tt
by_call _ n = tt

pub no_stream : (m : Machine) → (BlockingCallStands m → ⊥) → (s : Standing) → m.store.standing ≡ Some s → OfNoStream s.call
no_stream m n s e = by_call s.call (λ b. n (subst (λ (o : Option Standing). IsSomeAnd o (λ x. IsBlocking x.call)) (sym e) b))
