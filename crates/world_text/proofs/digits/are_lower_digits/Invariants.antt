use Rattle.std.proofs.Common.{◌≡◌, take}
use Rattle.std.specs.List.{list_all}
use Rattle.world_text.specs.Fields.{is_lower_digit}
use Rattle.world_text.proofs.digits.are_lower_digits.Given as goal

abbrev pub invariant-loop-byte : goal.invariant-loop-byte
invariant-loop-byte l = l.are ≡ list_all is_lower_digit (take l.byte-index l.field)
