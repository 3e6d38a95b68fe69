-- What a pending listen keeps of its record.
use Rattle.wasi_causes.proofs.Words.{IfSome, Machine, None, Option, Some, StandingCall, TcpRecord, ℕ}
use Rattle.wasi_records.specs.Records.{tcp2_at}
use Rattle.wasi_walks.specs.Waiting.{HoldsCall, IsListening, IsOfBound}

module _ (m : Machine) (place : ℕ) where
  without_bound : (o : Option TcpRecord) → IfSome o (λ r. IsListening r.inner.state r.listening × IsOfBound r.listening)
      → IfSome o (λ r. IsListening r.inner.state r.listening)
  without_bound None k = tt
  without_bound (Some r) k = k.0

  -- a listen is in progress, whether its listener gets a handle or none
  pub it_listens : (marks : Option ℕ) → HoldsCall m (StandingCall.Listen place marks)
      → IfSome (tcp2_at m.store.records place) (λ r. IsListening r.inner.state r.listening)
  it_listens None k = without_bound (tcp2_at m.store.records place) k
  it_listens (Some handle) k = k
