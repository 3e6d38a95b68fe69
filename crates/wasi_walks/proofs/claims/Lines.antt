-- The base law between the lines.
use Rattle.std.proofs.Common.{ℕ, ◌+◌, List, arith}
use Rattle.wasi_world.specs.declared.outcome.WasiSocketsCtx.{WasiSocketsCtx}
use Rattle.host_store.specs.declared.machine.Machine.{Machine}
use Rattle.host_store.specs.Machine.{first_state}
use Rattle.wasi_steps.specs.declared.step.Step.{Step}
use Rattle.udp_records.specs.Udp.{udp_side}
use Rattle.wasi_walks.proofs.walks.Here.{older_unused}
use Rattle.wasi_walks.proofs.walks.Moves.{Own, Unused}
use Rattle.wasi_walks.proofs.walks.States.{Starts, Over}
use Rattle.wasi_walks.proofs.fits.Datagrams.{Datagrams, first_datagrams}
use Rattle.wasi_walks.proofs.fits.Law.{Fit}
use Rattle.wasi_walks.proofs.fits.Lines.{first_fit, starts_fit}
use Rattle.wasi_walks.proofs.claims.Law.{Named, Base}
use Rattle.wasi_walks.proofs.owners.Owned.{Owned, StandsSo, first_owned}

-- Before the line of this number.
pub record BaseBetween (line : ℕ) (m : Machine) : Type 0 where
  pub fit : Fit (Over m)
  pub named : Named line (Starts m Unused)
  pub owned : Owned m.table m.store.records
  pub stands : StandsSo m.table m.store.standing
  pub datagrams : Datagrams (Over m)

pub first_base : BaseBetween 1 first_state
first_base = record {
  fit = first_fit;
  named = record { one = λ x i k r q e. absurd (cc); apart = λ x i r e. absurd (cc); older = λ x i r e. absurd (cc); named = λ x i r e. absurd (cc); held = λ op i r e. absurd (cc); udps = record { one = λ x i k u v e. absurd (cc); apart = λ x i k r u e. absurd (cc); older = λ i u e. absurd (cc) } };
  owned = first_owned;
  stands = tt;
  datagrams = first_datagrams;
}

starts_named : (line : ℕ) (m : Machine) (own : Own) → Named line (Starts m Unused) → Named line (Starts m own)
starts_named line m own n =
    record { one = n.one; apart = n.apart; older = λ x i r g c. older_unused line own x (n.older x i r g c); named = n.named; held = n.held; udps = record { one = n.udps.one; apart = n.udps.apart; older = λ i u g. older_unused line own (udp_side u) (n.udps.older i u g) } }

module _ (contexts : List WasiSocketsCtx) (line : ℕ) (origin : Step) (m : Machine) where
  -- the line begins
  pub base_starts : (own : Own) → BaseBetween line m → Base contexts line origin (Starts m own)
  base_starts own b = (starts_fit m own b.fit, starts_named line m own b.named, (b.owned, tt, b.stands), b.datagrams)

  -- and is over
  pub base_over : Base contexts line origin (Over m) → BaseBetween (line + 1) m
  base_over b = let n = b.1 in record { fit = b.0; named = record { one = n.one; apart = n.apart; older = λ x i r g c. (let k = n.older x i r g c in omega (arith, k)); named = n.named; held = n.held; udps = record { one = n.udps.one; apart = n.udps.apart; older = λ i u g. (let k = n.udps.older i u g in omega (arith, k)) } }; owned = b.2.0; stands = b.2.2; datagrams = b.3 }
