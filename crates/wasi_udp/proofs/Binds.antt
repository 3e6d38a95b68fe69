-- Binds, at each of their stages.
use Rattle.std.specs.Prelude.{refl}
use Rattle.wasi_addr.specs.declared.address.IpSocketAddress.{IpSocketAddress}
use Rattle.socket_common.specs.declared.asker.Asker.{Asker}
use Rattle.wasi_udp.specs.declared.bind.UdpBindStage.{UdpBindStage}
use Rattle.wasi_udp.specs.declared.bind.UdpBindStage.TheVariants as stage
use Rattle.wasi_udp.specs.Bind.{bind_operation, IsBind, Unchecked, Checked, Ended}

pub is_bind : (asker : Asker) (a : IpSocketAddress) (s : UdpBindStage) → IsBind (bind_operation asker a s)
is_bind asker a stage.Check = record { last = refl; left = Unchecked a }
is_bind asker a stage.Bind = record { last = refl; left = Checked a }
is_bind asker a stage.Over = record { last = refl; left = Ended }
