-- How a listen begins: it takes the network socket of the socket.
use Rattle.std.proofs.Common.{◌≡◌, Bool, true, false, List, [], ◌∷◌, Some, None, refl, ap, subst, arith}
use Rattle.std.specs.Prelude.{Result, Ok, Err}
use Rattle.std.specs.declared.alloc.AllocError.{AllocError}
use Rattle.wasi_addr.specs.declared.code.ErrorCode.{ErrorCode}
use Rattle.wasi_world.specs.declared.call.Entry.{Entry}
use Rattle.wasi_world.specs.declared.ids.OpId.{OpId}
use Rattle.wasi_world.specs.Seen.{Seen}
use Rattle.wasi_world.specs.Asks.{Asks, Give, Ask, AskWrite, Left, Reaches, AsksFor}
use Rattle.wasi_world.specs.Operation.{Operation}
use Rattle.wasi_tcp.specs.declared.socket.TcpState.{TcpState}
use Rattle.wasi_tcp.specs.declared.socket.TcpState.TheVariants as state
use Rattle.wasi_tcp.specs.Shape.{Socket}
use Rattle.wasi_tcp.specs.Socket.{side_of, bound_asks}
use Rattle.wasi_tcp.specs.Listen.{is_over}
use Rattle.wasi_tcp.specs.Listening.{listen_start, listen_asks}
use Rattle.tcp_records.specs.declared.tcp_listening.Listening.{Listening}
use Rattle.tcp_records.specs.declared.tcp_listening.Listening.TheVariants.{Not, Begins}
use Rattle.tcp_records.specs.declared.socket.TcpRecord.{TcpRecord}
use Rattle.tcp_records.specs.Listening.{side_in}
use Rattle.record_common.specs.Sides.{Weight, no_socket, tally}
use Rattle.tcp_records.specs.Sides.{holds, Balances}
use Rattle.tcp_records.specs.Sockets.{with_inner}
use Rattle.record_common.proofs.SideCounts.{Calm, Any, calm_then, same_tally}
use Rattle.tcp_records.proofs.SideCounts.{calm_bound, balances_walk, balances_calm, holds-same}
use Rattle.tcp_records.proofs.ListenCounts.{held_going}

-- what a whole walk gives
calm_given : {A : Type 0} (Q : A → Type 0) (asks : Asks A) (es : List Entry) (a : A) → Calm Q asks → Left asks es (Give a) → Q a
calm_given Q asks [] a h w = subst (Calm Q) w h
calm_given Q (Give b) (e ∷ es) a h w = absurd w
calm_given Q (Ask op call next) (e ∷ es) a h w = calm_given Q (next e.answer) es a (h.1 e.answer) w.1
calm_given Q (AskWrite op sock bytes next) (e ∷ es) a h w = calm_given Q (next e.answer) es a (h e.answer) w.2

-- calm asks of the socket, which keeps its network socket
pub balances_inner : {A T : Type 0} {asks : Asks A} {s t : Seen} {view : T → A} (r : TcpRecord) (socket : Socket) (o : Result T AllocError) → Calm Any asks → AsksFor asks s t view o → side_of socket ≡ side_of r.inner → Balances s t no_socket r (with_inner r socket)
balances_inner r socket o q h e = balances_calm q o h (holds-same r (with_inner r socket) e refl)

-- == the start of a listen is calm, and an operation that begins isn't over
pub calm_listen : (op : OpId) (socket : Socket) → Calm Any (listen_asks op socket)
calm_listen op socket = calm_then Any Any (bound_asks op socket) _ (calm_bound op socket) (λ b k. tt)

abbrev IsFresh : Result Operation ErrorCode × Socket → Type 0
IsFresh (Ok op, socket) = is_over op ≡ false
IsFresh (Err c, socket) = Unit {0}

fresh_start : (op : OpId) (socket : Socket) (bound : Bool) (s : TcpState) → IsFresh (listen_start op socket bound s)
fresh_start op socket true (state.Default side) = refl
fresh_start op socket false (state.Default side) = refl
fresh_start op socket bound _ = tt

fresh_listen : (op : OpId) (socket : Socket) → Calm IsFresh (listen_asks op socket)
fresh_listen op socket = calm_then Any IsFresh (bound_asks op socket) _ (calm_bound op socket) (λ b k. fresh_start op b.1 b.0 b.1.state)

-- the network socket goes from the socket to the operation
pub listen_begins : (op : OpId) (r : TcpRecord) (begun : Operation) (now : Socket) {s t : Seen} → r.listening ≡ Not → (side_of r.inner ≡ Some begun.who.side) × (side_of now ≡ None) → Reaches (listen_asks op r.inner) (Give (Ok begun, now)) s t
    → Balances s t no_socket r (record r { inner = now; listening = Begins begun })
listen_begins op r begun now {s} {t} l taken reached =
    balances_walk (calm_listen op r.inner) reached (same_tally held)
  where
    going : is_over begun ≡ false
    going = calm_given IsFresh (listen_asks op r.inner) reached.entries (Ok begun, now) (fresh_listen op r.inner) reached.left

    held : (w : Weight) → holds (record r { inner = now; listening = Begins begun }) w ≡ holds r w
    held w =
        let a : tally (side_of r.inner) w ≡ w begun.who.side = ap (λ o. tally o w) taken.0 in
        let b : tally (side_in r.listening) w ≡ 0 = ap (λ (x : Listening). tally (side_in x) w) l in
        let c : tally (side_of now) w ≡ 0 = ap (λ o. tally o w) taken.1 in
        let d = held_going w begun going in omega arith
