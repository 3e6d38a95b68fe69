-- What C holds owns what a box at the same types owns.
use mir.Syntax.{impl, tnil, dnil}
use mathlib.Core.List.{[]}
use denote.Signature.{Slot, plain}
use Rattle.std_alloc.proofs.BoxSteps.Form.{Bx}
use Rattle.std_heap.specs.contracts.Global as Heap
use Rattle.std_heap.specs.contracts.GlobalAllocator.TheImpl.{ghosts, dict}
use Rattle.std_heap.proofs.Global.TheLaws as heap
use Rattle.wasi_embed.specs.contracts.host.Host as Host
use Rattle.wasi_embed.proofs.host.Host.TheLaws as host
use Rattle.wasi_embed.specs.contracts.held.Held as Held

abbrev pub E : Bx
E = record { row = Host.the_row; laws = host.the_row_laws; al = record { row = Heap.the_row; laws = heap.the_row_laws; g = ghosts; d = dict; drops = impl [] tnil dnil } }

abbrev pub FromHeld : Slot 0
FromHeld = plain (λ _. Held.the_row)
