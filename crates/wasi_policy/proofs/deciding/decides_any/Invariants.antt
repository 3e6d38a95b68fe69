use Rattle.std.proofs.Common.{◌<◌, ℕ, get_or}
use Rattle.wasi_addr.specs.declared.address.SocketAddrUse.{SocketAddrUse}
use Rattle.wasi_policy.specs.Deciding.{NeverOf}
use Rattle.wasi_policy.proofs.deciding.decides_any.Given as goal

abbrev pub invariant-loop-usage : goal.invariant-loop-usage
invariant-loop-usage l = (k : ℕ) (d : SocketAddrUse) → k < l.usage-index → NeverOf l.policy l.line (get_or l.uses k d)
