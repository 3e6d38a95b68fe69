-- What a poll leaves of a TCP socket's operations, and that its record fits then.
use Rattle.wasi_walks.proofs.Words.{Bool, Done, End, Given, HoldsAccept, InProgress, IpSocketAddress, IsAcceptOn, IsConnect, IsLeftOfBind, IsLeftOfConnect}
use Rattle.wasi_walks.proofs.Words.{IsLeftOfListen, Item, List, Listener, OpId, Operation, Refused, TcpRecord, Waits, accept_ended, arrived, bind_progress}
use Rattle.wasi_walks.proofs.Words.{connect_ended, connect_first, connect_operation, false, refl, subst, true, with_progress, ℕ, ◌≡◌, HoldsConnect}
use Rattle.wasi_world.specs.Operation.{Connection}
use Rattle.wasi_tcp.specs.Listen.{IsListen}
use Rattle.wasi_tcp.specs.Connect as connect
use Rattle.wasi_walks.proofs.walks.Moves.{joined, listen_after}
use Rattle.wasi_walks.proofs.fits.Polls.{AcceptLeaves}
use Rattle.wasi_walks.proofs.fits.Records.{FitProgress, FitRecord}

-- the first stage of a connect
pub first_of : (own side : OpId) (maker : ℕ) (any a : IpSocketAddress) (b : Bool) → IsConnect (connect_operation (record { op = own; side = side; maker = maker }) any a (connect_first b))
first_of own side maker any a true = record { last = refl; left = connect.Unchecked a }
first_of own side maker any a false = record { last = refl; left = connect.Unbound any a }

-- one that was polled holds a connect
pub ended_fits : (op : Operation) (end : End × List Item) → IsConnect op → IsLeftOfConnect end.1 → HoldsConnect (connect_ended op.who end).1
ended_fits op (Waits, items) its k = record { last = its.last; left = k }
ended_fits op _ its k = tt

-- what is left of a listen
pub listened_fits : (op : Operation) (r : TcpRecord) (end : End × List Item) → IsListen op → IsLeftOfListen end.1 → FitRecord r → FitRecord (listen_after op r end)
listened_fits op r (Waits, items) its k f = (f.0, record { last = its.last; left = k }, f.2)
listened_fits op r (Done given, items) its k f = (tt, tt, tt)
listened_fits op r (Refused why given, items) its k f = (f.0, tt, f.2)

-- what is left of a bind, of the same socket
pub bound_fits : (op : Operation) (r : TcpRecord) (end : End × List Item) → r.in_progress ≡ InProgress.Binding op → IsLeftOfBind end.1 → FitRecord r → FitRecord (with_progress r (bind_progress op end))
bound_fits op r (Waits, items) e k f = let its = subst (FitProgress r.inner.state) e f.2 in (f.0, f.1, (its.0, record { last = its.1.last; left = k }))
bound_fits op r (Done given, items) e k f = (f.0, f.1, tt)
bound_fits op r (Refused why given, items) e k f = (f.0, f.1, tt)

-- what an accept gives is kept
given_fits : (side : OpId) (maker : ℕ) (given : Given) → HoldsAccept side maker (arrived given)
given_fits side maker (Connection new peer) = tt
given_fits side maker _ = tt

-- what is left of an accept
pub accepted_fits : (side : OpId) (maker : ℕ) (op : Operation) (end : End × List Item) → IsAcceptOn side maker op → AcceptLeaves end → HoldsAccept side maker (accept_ended op.who end)
accepted_fits side maker op (Waits, items) its k = record { accept = record { last = its.accept.last; left = k.0 }; of_side = its.of_side; of_maker = its.of_maker; going = k.1 }
accepted_fits side maker op (Done given, items) its k = given_fits side maker given
accepted_fits side maker op (Refused c given, items) its k = tt

-- the record of what was accepted
pub joined_fits : (l : Listener) (new : OpId) (peer : IpSocketAddress) → FitRecord (joined l new peer)
joined_fits l new peer = (tt, tt, tt)
