use Rattle.std.proofs.Common.{take}
use Rattle.std.specs.Fmt.{HasWritten, IsPlainFormatter}
use Rattle.world_text.specs.EntryText.{ips_text}
use Rattle.world_text.proofs.text.IpsTextDisplay.fmt.Given as goal

abbrev pub invariant-loop-addr : goal.invariant-loop-addr
invariant-loop-addr g l = IsPlainFormatter l.initial.f → HasWritten g.W.Write.write_str_gives l.initial.f (ips_text (take l.addr-index l.addr-items)) l.f
