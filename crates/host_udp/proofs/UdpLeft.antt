-- Records of UDP sockets that are given back, and their network sockets.
use Rattle.std.proofs.Common.{◌≡◌, ℕ, zero, suc, List, [], ◌∷◌, Option, Some, refl, sym, ap, ◌∙◌, arith}
use Rattle.std.specs.Prelude.{slice_set}
use Rattle.wasi_world.specs.Seen.{Seen}
use Rattle.wasi_world.specs.declared.ids.OpId.{OpId}
use Rattle.wasi_udp.specs.Create.{Create}
use Rattle.wasi_records.specs.declared.records.Record.{Record}
use Rattle.wasi_records.specs.declared.records.Record.TheVariants.{Udp}
use Rattle.udp_records.specs.declared.udp.UdpRecord.{UdpRecord}
use Rattle.udp_records.specs.declared.udp.UdpRecord.TheVariants.{Creating, Open, Closed}
use Rattle.host_store.specs.GivingBack.{given_back}
use Rattle.wasi_records.specs.Records.{udp2_at, udp2_put}
use Rattle.record_common.specs.Sides.{no_socket, one_socket, HoldsFewer}
use Rattle.host_store.specs.KnownSides.{KnowsSides}
use Rattle.host_store.specs.Store.{Records, with_udp}
use Rattle.host_udp.specs.UdpCalls.{udp_left}
use Rattle.host_store.proofs.KnownSides.{knows_then}
use Rattle.wasi_records.proofs.UdpLookups.{udp_put_same}
use Rattle.host_store.proofs.GivenBack.{held_gone, given_back_put, held_udp}

-- == UDP sockets
set_again : (rs : List Record) (i : ℕ) (x : Record) → slice_set (slice_set rs i x) i x ≡ slice_set rs i x
set_again [] i x = refl
set_again (y ∷ rs) zero x = refl
set_again (y ∷ rs) (suc i) x = ap (λ (l : List Record). y ∷ l) (set_again rs i x)

pub udp_there : (rs : List Record) (i : ℕ) (old now : UdpRecord) → udp2_at rs i ≡ Some old → udp2_at (udp2_put rs i now) i ≡ Some now
udp_there [] i old now found = absurd (cc)
udp_there (x ∷ rs) zero old now found = refl
udp_there (x ∷ rs) (suc i) old now found = udp_there rs i old now found

-- what is left where its record was put
pub left_put : (store : Records) (place : ℕ) (u : UdpRecord) → udp_left (with_udp store place u) place u ≡ udp_left store place u
left_put store place (Closed side) = given_back_put (with_udp store place (Closed side)) place (Udp (Closed side))
left_put store place (Creating create) = ap (λ (l : List Record). record store { records = l }) (set_again store.records place (Udp (Creating create)))
left_put store place (Open o) = ap (λ (l : List Record). record store { records = l }) (set_again store.records place (Udp (Open o)))

one_found : (o : Option UdpRecord) (u v : UdpRecord) → o ≡ Some u → Some v ≡ o → v ≡ u
one_found o u v found there = let same : Some v ≡ Some u = there ∙ found in cc

-- what is left where it isn't closed
pub left_same : (store : Records) (place : ℕ) (u v : UdpRecord) → udp2_at store.records place ≡ Some u → Some v ≡ udp2_at store.records place → ((side : OpId) → v ≡ Closed side → ⊥) → store ≡ udp_left store place u
left_same store place (Closed side) v found there not = absurd (not side (one_found (udp2_at store.records place) (Closed side) v found there))
left_same store place (Creating create) v found there not = ap (λ (l : List Record). record store { records = l }) (sym (udp_put_same store.records place (Creating create) found))
left_same store place (Open o) v found there not = ap (λ (l : List Record). record store { records = l }) (sym (udp_put_same store.records place (Open o) found))

-- and where it is
pub left_closed : (store : Records) (place : ℕ) (u v : UdpRecord) (side : OpId) → udp2_at store.records place ≡ Some u → Some v ≡ udp2_at store.records place → v ≡ Closed side → given_back place store ≡ udp_left store place u
left_closed store place u v side found there closed =
    let same : u ≡ Closed side = sym (one_found (udp2_at store.records place) u v found there) ∙ closed in rw same (sym (given_back_put store place (Udp (Closed side))))

-- a create that is given up closed its network socket
pub knows_cancelled : {s t : Seen} (store : Records) (place : ℕ) (create : Create) → udp2_at store.records place ≡ Some (Creating create) → HoldsFewer s t (one_socket create.operation.who.side) no_socket → KnowsSides s store → KnowsSides t (given_back place store)
knows_cancelled store place create found c k =
    knows_then c.entries store (given_back place store) c.passed (λ w. let gone = held_gone w store.records place in let held = held_udp w store.records place (Creating create) found in let b = c.balance w in let m = c.made w in omega arith) k
