-- What is known of a UDP socket's connect, datagram, receive and remote address, under more entries.
use Rattle.wasi_walks.proofs.Words.{Call, Entry, IpSocketAddress, Item, List, OpId, Operation, SocketAddressFamily}
use Rattle.wasi_walks.proofs.Words.{Step, Told, [], ap, append_assoc, entry, inl, inr, ℕ, ◌++◌, ◌∙◌, ◌∷◌, ◌≡◌, ◌⊎◌}
use Rattle.wasi_walks.specs.Licence.{IsBoundSide, IsRemote, MaySendOut, WasDisconnected}
use Rattle.wasi_world.specs.declared.datagram.OutgoingDatagram.{OutgoingDatagram}
use Rattle.wasi_walks.proofs.Lists.{has_front, has_split}
use Rattle.wasi_walks.proofs.licence.State.{UdpConnectLeft, ConnectUnbound, ConnectWhole, ConnectSends, ConnectChecked, UdpConnectIsFine, SendLeft, SendRefused, SendUnbound, SendUnchecked, SendChecked, SendOver, SendIsFine, ReceiveIsFine}
use Rattle.wasi_walks.proofs.licence.Frames.{Goes, began_more, bound_more, maker_more, names_on, wildcard_more}

-- the network socket is bound, or was disconnected
pub free_more : (es fs : List Entry) (side : OpId) → IsBoundSide es side ⊎ WasDisconnected es side → IsBoundSide (es ++ fs) side ⊎ WasDisconnected (es ++ fs) side
free_more es fs side (inl h) = inl (bound_more es fs side h)
free_more es fs side (inr h) = inr (record { op = h.op; told = h.told; entry_is = has_front es fs _ h.entry_is })

-- the operation may send out
pub send_out_more : (es fs : List Entry) (op side : OpId) → MaySendOut es op side → MaySendOut (es ++ fs) op side
send_out_more es fs op side (inl h) = inl (free_more es fs side h)
send_out_more es fs op side (inr h) = inr (wildcard_more es fs op side _ h)

-- the yeses of a connect
pub udp_connect_left_more : (es fs : List Entry) (op side : OpId) (maker : ℕ) (family : SocketAddressFamily) (addr : IpSocketAddress) (items : List Item) → UdpConnectLeft es op side maker family addr items → UdpConnectLeft (es ++ fs) op side maker family addr items
udp_connect_left_more es fs op side maker family addr _ ConnectUnbound = ConnectUnbound
udp_connect_left_more es fs op side maker family addr _ (ConnectWhole o) = ConnectWhole (send_out_more es fs op side o)
udp_connect_left_more es fs op side maker family addr _ (ConnectSends o y) = ConnectSends (send_out_more es fs op side o) (has_front es fs _ y)
udp_connect_left_more es fs op side maker family addr _ (ConnectChecked o y z) = ConnectChecked (send_out_more es fs op side o) (has_front es fs _ y) (has_front es fs _ z)

-- the yeses of a datagram
pub send_left_more : (es fs : List Entry) (op side : OpId) (maker : ℕ) (family : SocketAddressFamily) (d : OutgoingDatagram) (items : List Item) → SendLeft es op side maker family d items → SendLeft (es ++ fs) op side maker family d items
send_left_more es fs op side maker family d _ (SendRefused c) = SendRefused c
send_left_more es fs op side maker family d _ (SendUnbound kept addr f) = SendUnbound kept addr f
send_left_more es fs op side maker family d _ (SendUnchecked kept addr f o) = SendUnchecked kept addr f (send_out_more es fs op side o)
send_left_more es fs op side maker family d _ (SendChecked kept addr f o y) = SendChecked kept addr f (send_out_more es fs op side o) (has_front es fs _ y)
send_left_more es fs op side maker family d _ SendOver = SendOver

-- an entry that is no `peer` of the network socket leaves its remote address
pub remote_kept : (es : List Entry) (e : Entry) (side : OpId) (addr : IpSocketAddress) → ((told : Told) (op : OpId) → e ≡ entry op (Call.Peer side) told → ⊥) → IsRemote es side addr → IsRemote (es ++ e ∷ []) side addr
remote_kept es e side addr n h = record {
  ctx = h.ctx;
  family = h.family;
  maker = maker_more es (e ∷ []) h.ctx h.family side h.maker;
  told = record {
    front = h.told.front;
    op = h.told.op;
    back = h.told.back ++ e ∷ [];
    cut = ap (λ (fs : List Entry). fs ++ e ∷ []) h.told.cut ∙ append_assoc h.told.front (entry h.told.op (Call.Peer side) (Told.Addr addr) ∷ h.told.back) (e ∷ []);
    last = λ o t i. elim (has_split h.told.back e (entry o (Call.Peer side) t) i) [
      | inl j ↦ h.told.last o t j
      | inr q ↦ n t o q
    ];
  };
  other = h.other;
}

-- == what may be polled may be polled later
module _ {steps now : List Step} (goes : Goes steps now) where
  -- a connect
  pub udp_connect_more : (es fs : List Entry) (op : Operation) → UdpConnectIsFine steps es op → UdpConnectIsFine now (es ++ fs) op
  udp_connect_more es fs op h = record {
    addr = h.addr;
    to = began_more goes op.who.id _ h.to;
    udp = began_more goes op.who.side _ h.udp;
    family = h.family;
    made = maker_more es fs op.who.context h.family op.who.side h.made;
    named = names_on goes es fs op.who.id op.who.side h.named;
    last = h.last;
    left = udp_connect_left_more es fs op.who.id op.who.side op.who.context h.family h.addr op.left h.left;
  }

  -- a datagram that is sent
  pub send_more : (es fs : List Entry) (op : Operation) → SendIsFine steps es op → SendIsFine now (es ++ fs) op
  send_more es fs op h = record {
    datagram = h.datagram;
    item = began_more goes op.who.id _ h.item;
    udp = began_more goes op.who.side _ h.udp;
    family = h.family;
    made = maker_more es fs op.who.context h.family op.who.side h.made;
    named = names_on goes es fs op.who.id op.who.side h.named;
    last = h.last;
    left = send_left_more es fs op.who.id op.who.side op.who.context h.family h.datagram op.left h.left;
  }

  -- a receive
  pub receive_more : (es fs : List Entry) (op : Operation) → ReceiveIsFine steps es op → ReceiveIsFine now (es ++ fs) op
  receive_more es fs op h = record {
    began = began_more goes op.who.id _ h.began;
    family = h.family;
    made = maker_more es fs op.who.context h.family op.who.side h.made;
    named = names_on goes es fs op.who.id op.who.side h.named;
    last = h.last;
    left = h.left;
  }
