-- What asks for no datagram of a network socket: the items of each operation but a receive, marks, creates, what is released, and writes.
use Rattle.wasi_walks.proofs.Words.{Accepting, Accepts, Allows, Begins, Bool, Check, End, Entry, Give, HandleTable, IpSocketAddress, IsLeftOfAccept, IsLeftOfBind, IsLeftOfConnect, IsLeftOfListen, Item, Job}
use Rattle.wasi_walks.proofs.Words.{Kind, List, Listening, Not, OpId, Option, SocketAddressFamily, Some, None, Unclosed, Waits, WasiSocketsCtx, Who, WriteState, [], allows_if, allows_then, ask_close, bind}
use Rattle.wasi_walks.proofs.Words.{false, give_up_asks, give_up_in, if◌then◌else◌, in_hand, is_full, is_over, job_asks, job_in, make_asks, new_asks, poll_asks, refuse_in, true, turn_asks, ℕ, ⊤, ◌∷◌}
use Rattle.wasi_tcp.specs.Accept as accept
use Rattle.wasi_tcp.specs.Connect as connect
use Rattle.wasi_tcp.specs.Listen as listen
use Rattle.wasi_udp.specs.Bind as udp_bind
use Rattle.socket_common.specs.Rounds.{is_going}
use Rattle.wasi_udp.specs.Create.{Create, create_cancel_asks}
use Rattle.wasi_udp.specs.Send as send
use Rattle.wasi_world.specs.Operation as item
use Rattle.wasi_walks.specs.Waiting as binding
use Rattle.wasi_addr.specs.declared.address.SocketAddrUse.TheVariants.{UdpReceive}
use Rattle.wasi_walks.proofs.received.Polls.{AreSilent, Elsewhere, IsApart, silent_poll}

module _ (side : OpId) (Held : Type 0) (Names : OpId → Type 0) (who : Who) where
  -- a bind
  pub bind_silent : (items : List Item) → IsLeftOfBind items → AreSilent side Held Names who items
  bind_silent _ (binding.Unchecked a) = (tt, (tt, tt))
  bind_silent _ (binding.Checked a) = (tt, tt)
  bind_silent _ binding.Ended = tt

  -- a connect
  pub connect_silent : (items : List Item) → IsLeftOfConnect items → AreSilent side Held Names who items
  connect_silent _ (connect.Unbound w a) = (tt, (tt, (tt, tt)))
  connect_silent _ (connect.Unchecked a) = (tt, (tt, tt))
  connect_silent _ (connect.Checked a) = (tt, tt)
  connect_silent _ (connect.ToClose c) = (tt, tt)
  connect_silent _ connect.Ended = tt

  -- a listen
  pub listen_silent : (items : List Item) → IsLeftOfListen items → AreSilent side Held Names who items
  listen_silent _ (listen.BoundBefore b) = (tt, (tt, tt))
  listen_silent _ (listen.AddressTold a b) = (tt, (tt, tt))
  listen_silent _ (listen.Unbound w b) = (tt, (tt, (tt, (tt, tt))))
  listen_silent _ (listen.BindChecked w b) = (tt, (tt, (tt, tt)))
  listen_silent _ (listen.Checked w b) = (tt, (tt, tt))
  listen_silent _ (listen.Bound b) = (tt, tt)
  listen_silent _ (listen.ToClose c) = (tt, tt)
  listen_silent _ listen.Ended = tt

  -- an accept
  pub accept_silent : (items : List Item) → IsLeftOfAccept items → AreSilent side Held Names who items
  accept_silent _ accept.Unarrived = (tt, tt)
  accept_silent _ (accept.Arrived peer) = (tt, tt)
  accept_silent _ (accept.Admitted peer) = (tt, tt)
  accept_silent _ (accept.Unwanted peer) = (tt, tt)
  accept_silent _ accept.Ended = tt

  -- a bind of a UDP socket
  pub udp_bind_silent : (items : List Item) → udp_bind.IsLeftOfBind items → AreSilent side Held Names who items
  udp_bind_silent _ (udp_bind.Unchecked a) = (tt, (tt, tt))
  udp_bind_silent _ (udp_bind.Checked a) = (tt, tt)
  udp_bind_silent _ udp_bind.Ended = tt

  -- a datagram
  pub send_silent : (items : List Item) → send.IsLeftOfSend items → AreSilent side Held Names who items
  send_silent _ (send.ToRefuse c) = (tt, tt)
  send_silent _ (send.Unbound family kept a bytes) = (tt, (tt, (tt, tt)))
  send_silent _ (send.Unchecked kept a bytes) = (tt, (tt, tt))
  send_silent _ (send.Checked kept a bytes) = (tt, tt)
  send_silent _ send.Ended = tt

  -- a connect of a UDP socket
  pub udp_connect_silent : (Held → Names who.id → ⊥) → (items : List Item) → binding.IsLeftOfUdpConnect items → AreSilent side Held Names who items
  udp_connect_silent n _ (binding.ConnectUnbound family a) = (tt, (tt, (n, (tt, tt))))
  udp_connect_silent n _ (binding.ConnectUnchecked family a) = (tt, (n, (tt, tt)))
  udp_connect_silent n _ (binding.ConnectSendChecked family a) = (n, (tt, tt))

  -- any items of another network socket, by another name
  pub apart_silent : IsApart side Held Names who → (items : List Item) → AreSilent side Held Names who items
  apart_silent n [] = tt
  apart_silent n (item.Receive wanted ∷ items) = (n, apart_silent n items)
  apart_silent n (item.CheckPeer wanted bytes a ∷ items) = (n, apart_silent n items)
  apart_silent n (Check a UdpReceive ∷ items) = ((λ x. (n x).1), apart_silent n items)
  apart_silent n (item.CheckLocal UdpReceive ∷ items) = ((λ x. (n x).1), apart_silent n items)
  apart_silent n (i ∷ items) = (tt, apart_silent n items)

module _ (side : OpId) (Held : Type 0) (Names : OpId → Type 0) where
  -- a mark
  pub made_silent : (es : List Entry) (t : HandleTable) (op : OpId) (kind : Kind) (parent : Option ℕ) (sock : Option OpId) → Allows (Elsewhere side Held Names) (λ fs made. ⊤) es (make_asks t op kind parent sock)
  unfolding bind
  made_silent es t op kind parent sock = allows_if (Elsewhere side Held Names) (λ fs made. ⊤) es (is_full t) _ _ (λ full. tt) (λ free. ((λ x. tt), λ told f. tt))

  -- a create of a TCP socket
  pub new_silent : (es : List Entry) (own : OpId) (ctx : WasiSocketsCtx) (family : SocketAddressFamily) → Allows (Elsewhere side Held Names) (λ fs made. ⊤) es (new_asks own ctx family)
  unfolding bind
  new_silent es own ctx family = allows_if (Elsewhere side Held Names) (λ fs made. ⊤) es ctx.tcp _ _ (λ may. ((λ x. tt), λ told f. tt)) (λ other. tt)

  -- a create that is given up
  pub cancelled_silent : (es : List Entry) (create : Create) → Allows (Elsewhere side Held Names) (λ fs done. ⊤) es (create_cancel_asks create)
  unfolding bind
  cancelled_silent es create = allows_if (Elsewhere side Held Names) (λ fs done. ⊤) es (is_going create.operation) _ _ (λ going. ((λ x. tt), λ told f. tt)) (λ over. tt)

  -- what is released
  pub given_up_silent : (es : List Entry) (l : Listening) → Allows (Elsewhere side Held Names) (λ fs done. ⊤) es (give_up_asks l)
  given_up_silent es Not = tt
  given_up_silent es (Begins op) = cancels (is_over op)
    where
      cancels : (over : Bool) → Allows (Elsewhere side Held Names) (λ fs done. ⊤) es (if over then Give tt else ask_close op.who.id op.who.side)
      cancels true = tt
      cancels false = ((λ x. tt), λ told f. tt)
  given_up_silent es (Accepts l) = by_accept l.accept
    where
      refuses : (who : Who) (o : Option IpSocketAddress) → Allows (Elsewhere side Held Names) (λ fs done. ⊤) es (refuse_in who o)
      refuses who None = tt
      refuses who (Some peer) = ((λ x. tt), λ told f. tt)

      by_accept : (a : Accepting) → Allows (Elsewhere side Held Names) (λ fs done. ⊤) es (give_up_in a)
      by_accept Accepting.Idle = tt
      by_accept (Accepting.Asking op) = refuses op.who (in_hand op.left)
      by_accept (Accepting.Arrived new peer) = ((λ x. tt), λ told f. tt)
      by_accept (Accepting.Failed c) = tt
  given_up_silent es (Unclosed x) = ((λ x. tt), λ told f. tt)

  -- a writer's job is on another network socket, and has another name
  abbrev pub WritesApart : WriteState → Type 0
  WritesApart (WriteState.Writing job) = IsApart side Held Names job.write.who
  WritesApart (WriteState.Closing job) = IsApart side Held Names job.write.who
  WritesApart _ = ⊤

  -- one poll of a write
  job_silent : (es : List Entry) (job : Job) (end : End) → IsApart side Held Names job.write.who → Allows (Elsewhere side Held Names) (λ fs j. ⊤) es (job_in job end)
  job_silent es job Waits n = allows_then (Elsewhere side Held Names) (λ fs ended. ⊤) (λ fs j. ⊤) es (poll_asks job.write) _ (silent_poll side Held Names job.write es (apart_silent side Held Names job.write.who n job.write.left)) (λ fs ended s. tt)
  job_silent es job _ n = tt

  -- a turn of a writer
  pub turn_silent : (es : List Entry) (w : WriteState) → WritesApart w → Allows (Elsewhere side Held Names) (λ fs done. ⊤) es (turn_asks w)
  turn_silent es (WriteState.Writing job) n = allows_then (Elsewhere side Held Names) (λ fs j. ⊤) (λ fs done. ⊤) es (job_asks job) _ (job_silent es job job.end n) (λ fs j m. tt)
  turn_silent es (WriteState.Closing job) n = allows_then (Elsewhere side Held Names) (λ fs j. ⊤) (λ fs done. ⊤) es (job_asks job) _ (job_silent es job job.end n) (λ fs j m. tt)
  turn_silent es _ n = tt
