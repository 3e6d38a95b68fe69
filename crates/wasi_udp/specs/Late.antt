-- A datagram that was for the remote address of its start, once that is another or none.
use Rattle.std.specs.Prelude.{◌≡◌, true, List, [], ◌∷◌, Option, ⊤}
use Rattle.wasi_addr.specs.declared.address.IpSocketAddress.{IpSocketAddress}
use Rattle.wasi_world.specs.declared.call.Call.{Call}
use Rattle.wasi_world.specs.declared.call.Call.TheVariants.{Send}
use Rattle.wasi_world.specs.declared.call.Entry.{Entry}
use Rattle.wasi_udp.specs.declared.send.SendStage.{SendStage}
use Rattle.wasi_udp.specs.declared.send.SendStage.TheVariants as stage
use Rattle.wasi_udp.specs.Send.{is_late}

-- where it goes was the remote address at the start, and the remote address is another now, or there is none; one that is to be
-- refused, or is over, goes nowhere
abbrev pub IsLate : SendStage → Option IpSocketAddress → Type 0
IsLate (stage.Refused c) remote = ⊤
IsLate (stage.CheckWildcard to) remote = is_late to remote ≡ true
IsLate (stage.Check to) remote = is_late to remote ≡ true
IsLate (stage.Send to) remote = is_late to remote ≡ true
IsLate stage.Over remote = ⊤

-- no datagram is sent by this call, or by any of these
abbrev pub IsNoSend : Call → Type 0
IsNoSend (Send sock a bytes) = ⊥
IsNoSend _ = ⊤

abbrev pub SendsNone : List Entry → Type 0
SendsNone [] = ⊤
SendsNone (e ∷ es) = IsNoSend e.call × SendsNone es
