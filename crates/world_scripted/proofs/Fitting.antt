-- A planned answer of a call's kind fits the call, and so does the default.
use Rattle.std.proofs.Common.{◌≡◌, ℕ, ◌≤◌, Bool, true, false, List, length, take, min, Option, Some, None, refl, ◌∙◌, arith}
use Rattle.std.specs.Prelude.{⊤}
use Rattle.std.proofs.lemmas.Bool.{false≢true, leb-true, le-leb}
use Rattle.std.proofs.Math.Nat.{le-min}
use Rattle.std.proofs.lemmas.List.{length-take}
use Rattle.wasi_addr.specs.declared.address.IpSocketAddress.{IpSocketAddress}
use Rattle.wasi_world.specs.declared.ids.OpId.{OpId}
use Rattle.wasi_world.specs.declared.call.Call.{Call}
use Rattle.wasi_world.specs.declared.call.Call.TheVariants as call
use Rattle.wasi_world.specs.declared.call.Told.{Told}
use Rattle.wasi_world.specs.declared.call.Told.TheVariants as told
use Rattle.wasi_world.specs.declared.plan.Kind.{Kind}
use Rattle.wasi_world.specs.declared.plan.Kind.TheVariants as kind
use Rattle.wasi_world.specs.declared.plan.Planned.{Planned}
use Rattle.wasi_world.specs.declared.plan.Planned.TheVariants.{Pending, Done, Bytes, Took}
use Rattle.wasi_world.specs.declared.sides.Side.{Side}
use Rattle.wasi_world.specs.Fits.{IsVerdict, IsNames, IsDone, IsDoneOrCode, IsPolled, IsReady, IsAddr, IsArrival, IsRead, IsWritten, IsDatagram, IsValue, Fits}
use Rattle.wasi_world.specs.Kinds.{kind_of, takes, is_verdict, is_names, is_done_or_code, is_polled, is_ready, is_addr, is_arrival, is_read, is_written, is_datagram, is_value}
use Rattle.wasi_world.specs.Script.{asked, offered, Offers, given, default, default_peer, as_planned}

-- an answer whose planned form is of a class is of that class
verdict_fits : (t : Told) → is_verdict (as_planned t) ≡ true → IsVerdict t
verdict_fits told.Pending h = tt
verdict_fits told.Yes h = tt
verdict_fits told.No h = tt
verdict_fits _ h = absurd (false≢true h)

names_fits : (t : Told) → is_names (as_planned t) ≡ true → IsNames t
names_fits told.Pending h = tt
names_fits (told.Names _) h = tt
names_fits (told.Code _) h = tt
names_fits _ h = absurd (false≢true h)

done_or_code_fits : (t : Told) → is_done_or_code (as_planned t) ≡ true → IsDoneOrCode t
done_or_code_fits told.Done h = tt
done_or_code_fits (told.Code _) h = tt
done_or_code_fits _ h = absurd (false≢true h)

polled_fits : (t : Told) → is_polled (as_planned t) ≡ true → IsPolled t
polled_fits told.Pending h = tt
polled_fits told.Done h = tt
polled_fits (told.Code _) h = tt
polled_fits _ h = absurd (false≢true h)

ready_fits : (t : Told) → is_ready (as_planned t) ≡ true → IsReady t
ready_fits told.Pending h = tt
ready_fits told.Done h = tt
ready_fits _ h = absurd (false≢true h)

addr_fits : (t : Told) → is_addr (as_planned t) ≡ true → IsAddr t
addr_fits (told.Addr _) h = tt
addr_fits (told.Code _) h = tt
addr_fits _ h = absurd (false≢true h)

arrival_fits : (t : Told) → is_arrival (as_planned t) ≡ true → IsArrival t
arrival_fits told.Pending h = tt
arrival_fits (told.Arrived _) h = tt
arrival_fits (told.Code _) h = tt
arrival_fits _ h = absurd (false≢true h)

datagram_fits : (t : Told) → is_datagram (as_planned t) ≡ true → IsDatagram t
datagram_fits told.Pending h = tt
datagram_fits (told.Datagram _ _) h = tt
datagram_fits (told.Code _) h = tt
datagram_fits _ h = absurd (false≢true h)

value_fits : (t : Told) → is_value (as_planned t) ≡ true → IsValue t
value_fits (told.Value _) h = tt
value_fits (told.Code _) h = tt
value_fits _ h = absurd (false≢true h)

is_done : Planned → Bool
is_done Done = true
is_done _ = false

done_fits : (t : Told) → is_done (as_planned t) ≡ true → IsDone t
unfolding is_done
done_fits told.Done h = tt
done_fits _ h = absurd (false≢true h)

-- no more bytes than a read asks for, and something and no more than a write offers
IsWithin : ℕ → ℕ → Planned → Type 0
IsWithin size count (Bytes bytes) = length bytes ≤ size
IsWithin size count (Took taken) = taken ≤ count
IsWithin size count _ = ⊤

read_fits : (size count : ℕ) (t : Told) → is_read (as_planned t) ≡ true → IsWithin size count (as_planned t) → IsRead size t
unfolding IsWithin
read_fits size count told.Pending h k = tt
read_fits size count (told.Bytes _) h k = k
read_fits size count (told.Code _) h k = tt
read_fits size count _ h k = absurd (false≢true h)

written_fits : (size count : ℕ) (t : Told) → is_written (as_planned t) ≡ true → IsWithin size count (as_planned t) → IsWritten count t
unfolding IsWithin
written_fits size count told.Pending h k = tt
written_fits size count (told.Took taken) h k = (leb-true 1 (length taken) h, k)
written_fits size count (told.Code _) h k = tt
written_fits size count _ h k = absurd (false≢true h)

-- whether a list of this kind may hold the answer; without a kind it is done alone
of_kind : Option Kind → Planned → Bool
of_kind None answer = is_done answer
of_kind (Some k) answer = takes k answer

class_fits : (c : Call) (t : Told) → of_kind (kind_of c) (as_planned t) ≡ true → IsWithin (asked c) (offered c) (as_planned t) → Fits c t
unfolding of_kind
class_fits (call.Check _ _ _) t h k = verdict_fits t h
class_fits (call.Lookup _) t h k = names_fits t h
class_fits (call.TcpCreate _ _) t h k = done_or_code_fits t h
class_fits (call.UdpCreate _ _) t h k = done_or_code_fits t h
class_fits (call.UdpWritable _) t h k = polled_fits t h
class_fits (call.Local _) t h k = addr_fits t h
class_fits (call.Peer _) t h k = addr_fits t h
class_fits (call.Bind _ _) t h k = done_or_code_fits t h
class_fits (call.UdpBind _ _) t h k = done_or_code_fits t h
class_fits (call.UdpConnect _ _) t h k = done_or_code_fits t h
class_fits (call.Listen _ _) t h k = done_or_code_fits t h
class_fits (call.SetBacklog _ _) t h k = done_or_code_fits t h
class_fits (call.Connect _ _) t h k = polled_fits t h
class_fits (call.Accept _) t h k = arrival_fits t h
class_fits (call.Hand _ _) t h k = done_fits t h
class_fits (call.Refuse _ _) t h k = done_fits t h
class_fits (call.Read _ size) t h k = read_fits size 0 t h k
class_fits (call.ReadReady _) t h k = ready_fits t h
class_fits (call.WriteReady _) t h k = ready_fits t h
class_fits (call.Write _ count) t h k = written_fits 0 count t h k
class_fits (call.Shutdown _ _) t h k = done_fits t h
class_fits (call.UdpDisconnect _) t h k = done_or_code_fits t h
class_fits (call.Send _ _ _) t h k = polled_fits t h
class_fits (call.Recv _) t h k = datagram_fits t h
class_fits (call.GetOption _ _) t h k = value_fits t h
class_fits (call.SetOption _ _ _) t h k = done_or_code_fits t h
class_fits (call.Close _) t h k = done_fits t h
class_fits (call.Made _ _ _ _) t h k = done_fits t h

answer_fits : (c : Call) (answer : Planned) (t : Told) → of_kind (kind_of c) answer ≡ true → IsWithin (asked c) (offered c) answer → as_planned t ≡ answer → Fits c t
answer_fits c answer t h k e = class_fits c t (rw e h) (rw e k)

-- what a call is given is of its kind too
pub any_bytes : (k : Kind) (bs cs : List ℕ) → takes k (Bytes bs) ≡ takes k (Bytes cs)
any_bytes kind.Read bs cs = refl
any_bytes _ bs cs = refl

bytes_of_kind : (k : Option Kind) (bs cs : List ℕ) → of_kind k (Bytes bs) ≡ true → of_kind k (Bytes cs) ≡ true
unfolding of_kind is_done
bytes_of_kind None bs cs h = h
bytes_of_kind (Some k) bs cs h = any_bytes k cs bs ∙ h

taken_of_kind : (c : Call) (count : ℕ) → Offers c → of_kind (kind_of c) (Took count) ≡ true → of_kind (kind_of c) (Took (min count (offered c))) ≡ true
unfolding of_kind is_done
taken_of_kind (call.Write _ most) count o h = le-leb 1 (min count most) (le-min (leb-true 1 count h) o)
taken_of_kind (call.Check _ _ _) count o h = h
taken_of_kind _ count o h = h

given_of_kind : (c : Call) (answer : Planned) → Offers c → of_kind (kind_of c) answer ≡ true → of_kind (kind_of c) (given c answer) ≡ true
given_of_kind c (Bytes bytes) o h = bytes_of_kind (kind_of c) bytes (take (asked c) bytes) h
given_of_kind c (Took count) o h = taken_of_kind c count o h
given_of_kind c Pending o h = h
given_of_kind c _ o h = h

given_within : (c : Call) (answer : Planned) → IsWithin (asked c) (offered c) (given c answer)
unfolding IsWithin
given_within c (Bytes bytes) = simp length-take (omega arith)
given_within c (Took count) = omega arith
given_within c _ = tt

pub planned_fits : (c : Call) (k : Kind) (answer : Planned) (t : Told) → kind_of c ≡ Some k → takes k answer ≡ true → Offers c → as_planned t ≡ given c answer → Fits c t
unfolding of_kind
planned_fits c k answer t e h o f = answer_fits c (given c answer) t (given_of_kind c answer o (rw e h)) (given_within c answer) f

-- the default of a call is of its kind
peer_of_kind : (peer : Option IpSocketAddress) → is_addr (default_peer peer) ≡ true
peer_of_kind None = refl
peer_of_kind (Some _) = refl

default_of_kind : (known : OpId → Side) (c : Call) → Offers c → of_kind (kind_of c) (default known c) ≡ true
unfolding of_kind is_done
default_of_kind known (call.Peer sock) o = peer_of_kind (known sock).peer
default_of_kind known (call.Write _ count) o = le-leb 1 count o
default_of_kind known _ o = refl

peer_within : (size count : ℕ) (peer : Option IpSocketAddress) → IsWithin size count (default_peer peer)
unfolding IsWithin
peer_within size count None = tt
peer_within size count (Some _) = tt

default_within : (known : OpId → Side) (c : Call) → IsWithin (asked c) (offered c) (default known c)
unfolding IsWithin
default_within known (call.Peer sock) = peer_within 0 0 (known sock).peer
default_within known (call.Write _ count) = omega arith
default_within known _ = tt

pub default_fits : (known : OpId → Side) (c : Call) (t : Told) → Offers c → as_planned t ≡ default known c → Fits c t
default_fits known c t o e = answer_fits c (default known c) t (default_of_kind known c o) (default_within known c) e
