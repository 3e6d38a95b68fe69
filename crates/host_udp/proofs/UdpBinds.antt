-- What a bind of a UDP socket that is done leaves, of each interface.
use Rattle.std.specs.Prelude.{◌≡◌, refl}
use Rattle.wasi_world.specs.declared.outcome.Answer.{Answer}
use Rattle.wasi_world.specs.declared.outcome.Answer.TheVariants.{Ready, Pending}
use Rattle.udp_records.specs.declared.udp.OpenUdp.{OpenUdp}
use Rattle.host_store.specs.declared.kind.Interface.{Interface}
use Rattle.host_store.specs.declared.kind.Interface.TheVariants.{P2, P3}
use Rattle.host_udp.specs.UdpBinds.{udp_bound_as}

-- the same of a UDP socket
pub udp_bound_side : (face : Interface) (answer : Answer (Unit {0})) (o : OpenUdp) → (udp_bound_as face answer o).inner.side ≡ o.inner.side
udp_bound_side P2 answer o = refl
udp_bound_side P3 (Ready done) o = refl
udp_bound_side P3 Pending o = refl
