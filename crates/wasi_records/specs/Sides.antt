-- The network sockets that the records hold.
use Rattle.std.specs.Prelude.{◌≡◌, ◌+◌, List, [], ◌∷◌, IfSome}
use Rattle.wasi_world.specs.Seen.{Seen}
use Rattle.wasi_records.specs.declared.records.Record.{Record}
use Rattle.wasi_records.specs.declared.records.Record.TheVariants.{Tcp, Udp, Lookup, InputPipe, OutputPipe, Slot, Gone}
use Rattle.udp_records.specs.Udp.{udp_holds}
use Rattle.record_common.specs.Sides.{Tally, each, no_socket, made_in, closed_in}
use Rattle.tcp_records.specs.Sides.{holds}

abbrev pub held_by : Record → Tally
held_by (Tcp r) = holds r
held_by (Udp u) = udp_holds u
held_by (Lookup l) = no_socket
held_by (InputPipe bytes) = no_socket
held_by (OutputPipe pipe) = no_socket
held_by (Slot s) = no_socket
held_by Gone = no_socket

abbrev pub held_in : List Record → Tally
held_in [] w = 0
held_in (x ∷ rs) w = held_by x w + held_in rs w

-- As many network sockets were closed after the end mark as the log made and didn't close.
pub record ClosesAll (old new : Seen) : Type 0 where
  pub log : new.log ≡ old.log
  pub count : old.closings ≡ 0 → IfSome new.log (λ log. closed_in log each + new.closings ≡ made_in log each)
