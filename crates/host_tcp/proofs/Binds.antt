-- What a bind that is done leaves, of each interface.
use Rattle.std.specs.Prelude.{◌≡◌, refl}
use Rattle.wasi_world.specs.declared.outcome.Answer.{Answer}
use Rattle.wasi_world.specs.declared.outcome.Answer.TheVariants.{Ready, Pending}
use Rattle.tcp_records.specs.declared.socket.TcpRecord.{TcpRecord}
use Rattle.host_store.specs.declared.kind.Interface.{Interface}
use Rattle.host_store.specs.declared.kind.Interface.TheVariants.{P2, P3}
use Rattle.host_tcp.specs.Binds.{bound_as}

-- the socket is the same, and listens as it did
pub bound_socket : (face : Interface) (answer : Answer (Unit {0})) (r : TcpRecord) → (bound_as face answer r).inner ≡ r.inner
bound_socket P2 answer r = refl
bound_socket P3 (Ready done) r = refl
bound_socket P3 Pending r = refl

pub bound_listens : (face : Interface) (answer : Answer (Unit {0})) (r : TcpRecord) → (bound_as face answer r).listening ≡ r.listening
bound_listens P2 answer r = refl
bound_listens P3 (Ready done) r = refl
bound_listens P3 Pending r = refl
