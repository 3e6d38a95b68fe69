use Rattle.std.proofs.Common.{◌≡◌, drop}
use Rattle.wasi_host.specs.Polling.{pollables_in}
use Rattle.wasi_host.proofs.polling.test_pollables.Given as goal

-- those before the place are pollables
abbrev pub invariant-loop-pollable : goal.invariant-loop-pollable
invariant-loop-pollable l = pollables_in l.table (drop l.pollable-index l.pollables) ≡ pollables_in l.table l.pollables
