-- Calls of TCP sockets in which no network socket is made or closed, and the network sockets that a record holds.
use Rattle.std.proofs.Common.{◌≡◌, ℕ, ◌+◌, Bool, true, false, if◌then◌else◌, List, [], ◌∷◌, ◌++◌, Option, Some, None, Result, Ok, Err, refl, sym, ap, subst, arith}
use Rattle.std.specs.declared.alloc.AllocError.{AllocError}
use Rattle.wasi_addr.specs.declared.address.IpSocketAddress.{IpSocketAddress}
use Rattle.wasi_addr.specs.declared.address.SocketAddressFamily.{SocketAddressFamily}
use Rattle.wasi_addr.specs.declared.code.ErrorCode.{ErrorCode}
use Rattle.wasi_addr.specs.declared.code.ErrorCode.TheVariants.{AccessDenied}
use Rattle.wasi_world.specs.declared.call.Told.{Told}
use Rattle.wasi_world.specs.declared.call.Told.TheVariants as told
use Rattle.wasi_world.specs.declared.call.Entry.{Entry}
use Rattle.wasi_world.specs.declared.ids.OpId.{OpId}
use Rattle.wasi_world.specs.declared.outcome.WasiSocketsCtx.{WasiSocketsCtx}
use Rattle.wasi_world.specs.Fits.{IsDoneOrCode}
use Rattle.wasi_world.specs.Sides.{is_done}
use Rattle.wasi_world.specs.Typed.{told_done, ask_tcp_create}
use Rattle.wasi_world.specs.Seen.{Seen}
use Rattle.wasi_world.specs.Asks.{Asks, Give, bind, Left, Reaches, AsksFor}
use Rattle.wasi_world.specs.Operation.{Operation, poll_asks}
use Rattle.wasi_tcp.specs.declared.socket.TcpState.{TcpState}
use Rattle.wasi_tcp.specs.declared.socket.TcpState.TheVariants as state
use Rattle.wasi_tcp.specs.declared.socket.Connection.{Connection}
use Rattle.wasi_tcp.specs.Addresses.{local_side, local_from, local_asks, peer_known, peer_asks, remote_in, remote_asks}
use Rattle.wasi_tcp.specs.Connecting.{start_connect_in, start_connect_asks}
use Rattle.socket_common.specs.declared.asker.Asker.{Asker}
use Rattle.wasi_tcp.specs.declared.bind.BindStage.{BindStage}
use Rattle.wasi_tcp.specs.declared.bind.BindStage.TheVariants as stage
use Rattle.wasi_tcp.specs.Bind.{bind_operation, IsBind}
use Rattle.wasi_tcp.specs.Shape.{Socket}
use Rattle.wasi_tcp.specs.Socket.{side_of, after_create, ask_bound, bound_asks}
use Rattle.wasi_world.proofs.Walks.{reaches_all}
use Rattle.tcp_records.specs.declared.socket.TcpRecord.{TcpRecord}
use Rattle.tcp_records.specs.Sockets.{begin_connect_asks, tell_local_asks, tell_remote_asks}
use Rattle.record_common.specs.Sides.{Weight, Tally, no_socket, tally, made_in, closed_in}
use Rattle.tcp_records.specs.Sides.{holds, Balances}
use Rattle.record_common.proofs.SideCounts.{Calm, calm_then, Any, calm_left, made_in-append, closed_in-append, same_tally, IsCalmOperation, calm_poll, passes_then}

pub holds-same : (r s : TcpRecord) → side_of s.inner ≡ side_of r.inner → s.listening ≡ r.listening → holds s ≡ holds r
holds-same r s e l = same_tally {a = holds s} {b = holds r} (λ w. rw (e, l) refl)

-- == what calm asks make of a record's network sockets
pub balances_walk : {A : Type 0} {asks rest : Asks A} {s t : Seen} {old now : TcpRecord} → Calm Any asks → Reaches asks rest s t → holds now ≡ holds old → Balances s t no_socket old now
balances_walk {asks = asks} {rest} q h e =
    let n = calm_left Any asks h.entries rest q h.left in
    record { entries = h.entries; passed = h.passed; balance = λ w. (let m = n.made w in let c = n.closed w in let k = ap (λ (held : Tally). held w) e in omega arith) }

pub balances_calm : {A T : Type 0} {asks : Asks A} {s t : Seen} {view : T → A} {old now : TcpRecord} → Calm Any asks → (r : Result T AllocError) → AsksFor asks s t view r → holds now ≡ holds old → Balances s t no_socket old now
balances_calm q (Ok x) h e = balances_walk q h.ok e
balances_calm q (Err d) h e = balances_walk q h.err.reached e

-- no ask, and the record as it was
pub balances_none : (r : TcpRecord) (s : Seen) → Balances s s no_socket r r
balances_none r s = let done : Unit {0} = tt in balances_walk {asks = Give done} {rest = Give done} tt (reaches_all (Give done) s) refl

-- one that was begun at any time
calm_stage : (asker : Asker) (a : IpSocketAddress) (stage : BindStage) → IsCalmOperation (bind_operation asker a stage)
calm_stage asker a stage.Check = record { items = (tt, (tt, tt)); last = refl }
calm_stage asker a stage.Bind = record { items = (tt, tt); last = refl }
calm_stage asker a stage.Over = record { items = tt; last = refl }

pub calm_polled : (op : Operation) → IsBind op → Calm Any (poll_asks op)
calm_polled op h = calm_poll op (subst IsCalmOperation (sym h.is) (calm_stage h.asker h.addr h.stage))

pub calm_bound : (op : OpId) (s : Socket) → Calm Any (bound_asks op s)
unfolding bind
calm_bound op s = by_kept s.bound
  where
    by_state : (st : TcpState) → Calm Any (ask_bound op s st)
    by_state (state.Default side) = ((λ t. refl, refl), λ t. tt)
    by_state _ = tt

    by_kept : (b : Bool) → Calm Any (if b then Give (true, s) else ask_bound op s s.state)
    by_kept true = tt
    by_kept false = by_state s.state

-- == the start of a connect, and what a socket says of its addresses, are calm
calm_start_in : (op : OpId) (s : Socket) (a : IpSocketAddress) (st : TcpState) → Calm Any (start_connect_in op s a st)
calm_start_in op s a (state.Default side) = calm_then Any Any (bound_asks op s) _ (calm_bound op s) (λ b k. tt)
calm_start_in op s a _ = tt

pub calm_begin_connect : (op : OpId) (r : TcpRecord) (a : IpSocketAddress) → Calm Any (begin_connect_asks op r a)
calm_begin_connect op r a = calm_then Any Any (start_connect_asks op r.inner a) _ (calm_start_in op r.inner a r.inner.state) (λ d k. tt)

calm_local_from : (op : OpId) (s : Socket) (r : Result OpId ErrorCode) → Calm Any (local_from op s r)
unfolding bind
calm_local_from op s (Ok side) = ((λ t. refl, refl), λ t. tt)
calm_local_from op s (Err c) = tt

pub calm_tell_local : (op : OpId) (r : TcpRecord) → Calm Any (tell_local_asks op r)
calm_tell_local op r =
    calm_then Any Any (local_asks op r.inner) _ (calm_then Any Any (bound_asks op r.inner) _ (calm_bound op r.inner) (λ b k. calm_local_from op b.1 (local_side b.1 b.0))) (λ d k. tt)

calm_peer : (op : OpId) (c : Connection) (kept : Option IpSocketAddress) → Calm Any (peer_known op c kept)
unfolding bind
calm_peer op c (Some a) = tt
calm_peer op c None = ((λ t. refl, refl), λ t. tt)

calm_remote_in : (op : OpId) (st : TcpState) → Calm Any (remote_in op st)
calm_remote_in op (state.Connected c) = calm_then Any Any (peer_asks op c) _ (calm_peer op c c.peer) (λ p k. tt)
calm_remote_in op _ = tt

pub calm_tell_remote : (op : OpId) (r : TcpRecord) → Calm Any (tell_remote_asks op r)
calm_tell_remote op r = calm_then Any Any (remote_asks op r.inner) _ (calm_then Any Any (remote_in op r.inner.state) _ (calm_remote_in op r.inner.state) (λ d k. tt)) (λ d k. tt)

-- == a create makes one network socket where it gives a socket, and none where it doesn't
abbrev made_or_not : Result Socket ErrorCode → Tally
made_or_not (Ok s) = tally (side_of s)
made_or_not (Err c) = no_socket

one_made : (w : Weight) (op : OpId) (n : ℕ) (family : SocketAddressFamily) (t : Told) → IsDoneOrCode t → (if is_done t then w op else 0) ≡ made_or_not (after_create op n family (told_done t)) w
one_made w op n family told.Done h = refl
one_made w op n family (told.Code c) h = refl
one_made w op n family _ h = absurd h

pub record MadeSo (es : List Entry) (r : Result Socket ErrorCode) : Type 0 where
  pub made : (w : Weight) → made_in es w ≡ made_or_not r w
  pub closed : (w : Weight) → closed_in es w ≡ 0

pub created : (op : OpId) (ctx : WasiSocketsCtx) (family : SocketAddressFamily) (b : Bool) (es : List Entry) (r : Result Socket ErrorCode) → Left (if b then bind (ask_tcp_create op ctx.name family) (λ t. Give (after_create op ctx.name family t)) else Give (Err AccessDenied)) es (Give r) → MadeSo es r
unfolding bind
created op ctx family true [] r w = absurd (cc)
created op ctx family true (e ∷ []) r w =
    let k : after_create op ctx.name family (told_done e.answer) ≡ r = cc in
    record {
      made = λ weight. rw (w.0.0, w.0.1, ← k) (let m = one_made weight op ctx.name family e.answer w.0.2 in omega arith);
      closed = λ weight. rw w.0.1 refl;
    }
created op ctx family true (e ∷ f ∷ es) r w = absurd w.1
created op ctx family false [] r w = let k : Err AccessDenied ≡ r = cc in rw (← k) (record { made = λ weight. refl; closed = λ weight. refl })
created op ctx family false (e ∷ es) r w = absurd w

pub balances_then : {s t u : Seen} {given : Tally} {old mid now : TcpRecord} → Balances s t no_socket old mid → Balances t u given mid now → Balances s u given old now
balances_then h k = record {
  entries = h.entries ++ k.entries;
  passed = passes_then h.passed k.passed;
  balance = λ w. (let a = h.balance w in let b = k.balance w in let m = made_in-append w h.entries k.entries in let c = closed_in-append w h.entries k.entries in omega arith);
}
