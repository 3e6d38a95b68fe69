use Rattle.std.specs.Prelude.{map, take, string_bytes, Some}
use Rattle.std.proofs.Common.{◌≡◌}
use Rattle.live_commands.specs.Commands.{ports_in}
use Rattle.live_commands.proofs.command.ports_in.Given as goal

-- the ports so far
abbrev pub invariant-loop-word : goal.invariant-loop-word
invariant-loop-word l = ports_in (map (λ w. string_bytes w) (take l.word-index l.words)) ≡ Some l.ports.items
