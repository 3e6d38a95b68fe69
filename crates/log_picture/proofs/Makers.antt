-- Who made a network socket, by an entry at a place of the log.
use Rattle.std.proofs.Common.{◌≡◌, ℕ, zero, suc, ◌<◌, sym, refl, subst, List, [], ◌∷◌, length, slice_index_or, inl, inr, arith}
use Rattle.wasi_addr.specs.declared.address.IpSocketAddress.{IpSocketAddress}
use Rattle.wasi_addr.specs.declared.address.SocketAddressFamily.{SocketAddressFamily}
use Rattle.wasi_world.specs.declared.ids.OpId.{OpId}
use Rattle.wasi_world.specs.declared.call.Call.{Call}
use Rattle.wasi_world.specs.declared.call.Call.TheVariants.{TcpCreate, UdpCreate, Hand, Local}
use Rattle.wasi_world.specs.declared.call.Entry.{Entry}
use Rattle.wasi_world.specs.declared.call.Told.TheVariants.{Addr}
use Rattle.log_picture.specs.Yes.{WasLocal}
use Rattle.wasi_walks.specs.Licence.{Has, IsMaker, Created, UdpCreated, Handed, entry}

-- what is at a place is one of them
has_at : {A : Type 0} (xs : List A) (i : ℕ) (x : A) → i < length xs → x ≡ slice_index_or xs i x → Has xs x
has_at [] i x within is = absurd (omega (arith, within))
has_at (y ∷ ys) zero x within is = inl (sym is)
has_at (y ∷ ys) (suc i) x within is = inr (has_at ys i x (omega (arith, within)) is)

-- an entry is its three parts
same_entry : (e : Entry) (side : OpId) (call : Call) → e.op ≡ side → e.call ≡ call → e ≡ entry side call e.answer
same_entry e side call op_is call_is = rw (sym op_is, sym call_is) refl

-- where the entry at a place is of this operation and this call, such an entry is there
has_call : (log : List Entry) (i : ℕ) (e : Entry) (side : OpId) (call : Call) → i < length log → e ≡ slice_index_or log i e → e.op ≡ side → e.call ≡ call → Has log (entry side call e.answer)
has_call log i e side call within at op_is call_is = subst (Has log) (same_entry e side call op_is call_is) (has_at log i e within at)

pub handed : (log : List Entry) (i : ℕ) (e : Entry) (side listener : OpId) (peer : IpSocketAddress) (ctx : ℕ) (family : SocketAddressFamily) → i < length log → e ≡ slice_index_or log i e → e.op ≡ side → e.call ≡ Hand listener peer → IsMaker log ctx family listener → IsMaker log ctx family side
handed log i e side listener peer ctx family within at op_is call_is maker =
    Handed side listener peer e.answer (has_call log i e side (Hand listener peer) within at op_is call_is) maker

pub tcp_created : (log : List Entry) (i : ℕ) (e : Entry) (side : OpId) (ctx : ℕ) (family : SocketAddressFamily) → i < length log → e ≡ slice_index_or log i e → e.op ≡ side → e.call ≡ TcpCreate ctx family → IsMaker log ctx family side
tcp_created log i e side ctx family within at op_is call_is =
    Created side e.answer (has_call log i e side (TcpCreate ctx family) within at op_is call_is)

pub udp_created : (log : List Entry) (i : ℕ) (e : Entry) (side : OpId) (ctx : ℕ) (family : SocketAddressFamily) → i < length log → e ≡ slice_index_or log i e → e.op ≡ side → e.call ≡ UdpCreate ctx family → IsMaker log ctx family side
udp_created log i e side ctx family within at op_is call_is =
    UdpCreated side e.answer (has_call log i e side (UdpCreate ctx family) within at op_is call_is)

-- where the entry at a place reports this local address, it was reported
pub was_local : (log : List Entry) (i : ℕ) (e : Entry) (side sock : OpId) (addr : IpSocketAddress) → i < length log → e ≡ slice_index_or log i e → sock ≡ side → e.call ≡ Local sock → e.answer ≡ Addr addr → WasLocal log side addr
was_local log i e side sock addr within at same call_is answer_is =
    let call : e.call ≡ Local side = rw (sym same) call_is in
    record { op = e.op; told = rw (sym answer_is) (has_call log i e e.op (Local side) within at refl call) }
