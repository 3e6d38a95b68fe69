use Rattle.std.proofs.Common.{◌≡◌, ◌++◌, drop}
use Rattle.wasi_host.specs.Polling.{ready_places}
use Rattle.wasi_host.proofs.polling.Found.ready_places.Given as goal

-- the places before this one are told
abbrev pub invariant-loop-place : goal.invariant-loop-place
invariant-loop-place l = l.places.items ++ ready_places l.self l.place (drop l.place l.pollables) ≡ ready_places l.self 0 l.pollables
