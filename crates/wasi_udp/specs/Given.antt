-- A datagram that a receive gives.
use Rattle.std.specs.Prelude.{◌≡◌, ℕ, List, [], ◌∷◌}
use Rattle.wasi_addr.specs.declared.address.IpSocketAddress.{IpSocketAddress}
use Rattle.wasi_addr.specs.declared.address.SocketAddrUse.TheVariants.{UdpReceive}
use Rattle.wasi_world.specs.declared.call.Call.TheVariants.{Check}
use Rattle.wasi_world.specs.declared.call.Told.TheVariants.{Yes}
use Rattle.wasi_world.specs.declared.call.Entry.{Entry}

-- the last of these calls is the context's check of this sender, and it said yes
abbrev pub EndsInYes : ℕ → IpSocketAddress → List Entry → Type 0
EndsInYes context peer [] = ⊥
EndsInYes context peer (e ∷ []) = (e.call ≡ Check context peer UdpReceive) × (e.answer ≡ Yes)
EndsInYes context peer (e ∷ f ∷ es) = EndsInYes context peer (f ∷ es)
