-- Late datagrams.
use Rattle.std.specs.Prelude.{◌≡◌, ℕ, true, List, [], ◌∷◌, Option, ⊤}
use Rattle.std.proofs.Common.{sym, subst}
use Rattle.wasi_addr.specs.declared.address.IpSocketAddress.{IpSocketAddress}
use Rattle.wasi_addr.specs.declared.address.SocketAddressFamily.{SocketAddressFamily}
use Rattle.wasi_addr.specs.declared.address.SocketAddrUse.{SocketAddrUse}
use Rattle.wasi_addr.specs.declared.address.SocketAddrUse.TheVariants.{UdpBind, UdpSend}
use Rattle.wasi_addr.specs.Address.{wildcard}
use Rattle.wasi_world.specs.declared.call.Told.{Told}
use Rattle.wasi_world.specs.declared.call.Entry.{Entry}
use Rattle.wasi_world.specs.declared.asks.Verdict.{Verdict}
use Rattle.wasi_world.specs.declared.asks.Verdict.TheVariants as verdict
use Rattle.wasi_world.specs.Asks.{Asks, Give, Ask, AskWrite, bind, Left}
use Rattle.wasi_world.specs.Typed.{told_verdict}
use Rattle.wasi_world.specs.Operation.{Item, Check, Send, Given, Nothing, End, polls, poll_asks, round, after, verdict_front}
use Rattle.socket_common.specs.declared.asker.Asker.{Asker}
use Rattle.wasi_udp.specs.declared.send.Destination.{Destination}
use Rattle.wasi_udp.specs.declared.send.SendStage.{SendStage}
use Rattle.wasi_udp.specs.declared.send.SendStage.TheVariants as stage
use Rattle.wasi_udp.specs.Send.{sender, send_operation, at_remote, is_late}
use Rattle.wasi_udp.specs.Late.{IsLate, IsNoSend, SendsNone}

-- whatever is answered, no datagram is sent
abbrev Silent : {A : Type 0} → Asks A → Type 0
Silent (Give a) = ⊤
Silent (Ask op call next) = IsNoSend call × ((t : Told) → Silent (next t))
Silent (AskWrite op sock bytes next) = (t : Told) → Silent (next t)

sends_none : {A : Type 0} (asks rest : Asks A) (entries : List Entry) → Silent asks → Left asks entries rest → SendsNone entries
sends_none asks rest [] s h = tt
sends_none (Give a) rest (e ∷ es) s h = absurd h
sends_none (Ask op call next) rest (e ∷ es) s h = (subst IsNoSend (sym h.0.1) s.0, sends_none (next e.answer) rest es (s.1 e.answer) h.1)
sends_none (AskWrite op sock bytes next) rest (e ∷ es) s h = (subst IsNoSend (sym h.0.1) tt, sends_none (next e.answer) rest es (s e.answer) h.2)

module _ (asker : Asker) (remote : Option IpSocketAddress) (again : List Item → Asks (End × List Item)) where
  -- after a check
  silent_after : (a : IpSocketAddress) (u : SocketAddrUse) (items : List Item) (next : Given → Asks (End × List Item)) → Silent (next Nothing) → (v : Verdict) → Silent (after again (sender asker remote) items next (verdict_front (Check a u) v))
  silent_after a u items next h verdict.Yes = h
  silent_after a u items next h verdict.No = tt
  silent_after a u items next h verdict.Pending = tt

  -- a check, and what follows it
  silent_check : (given : Given) (a : IpSocketAddress) (u : SocketAddrUse) (items : List Item) → Silent (round again (sender asker remote) Nothing items) → Silent (round again (sender asker remote) given (Check a u ∷ items))
  unfolding bind
  silent_check given a u items h = (tt, λ t. silent_after a u items (λ g. round again (sender asker remote) g items) h (told_verdict t))

  -- the send itself
  silent_send : (given : Given) (to : Destination) (bytes : List ℕ) → is_late to remote ≡ true → Silent (round again (sender asker remote) given (Send to.kept to.addr bytes ∷ []))
  unfolding bind
  silent_send given to bytes h = rw h tt

silent_poll : (asker : Asker) (family : SocketAddressFamily) (bytes : List ℕ) (s : SendStage) (remote : Option IpSocketAddress) → IsLate s remote → Silent (poll_asks (at_remote remote (send_operation asker family bytes s)))
unfolding polls bind
silent_poll asker family bytes (stage.Refused c) remote h = tt
silent_poll asker family bytes (stage.CheckWildcard to) remote h =
    let again = polls 63 (sender asker remote) in
    let send = Send to.kept to.addr bytes ∷ [] in
    silent_check asker remote again Nothing (wildcard family) UdpBind (Check to.addr UdpSend ∷ send)
    (silent_check asker remote again Nothing to.addr UdpSend send (silent_send asker remote again Nothing to bytes h))
silent_poll asker family bytes (stage.Check to) remote h =
    let again = polls 63 (sender asker remote) in
    silent_check asker remote again Nothing to.addr UdpSend (Send to.kept to.addr bytes ∷ []) (silent_send asker remote again Nothing to bytes h)
silent_poll asker family bytes (stage.Send to) remote h = silent_send asker remote (polls 63 (sender asker remote)) Nothing to bytes h
silent_poll asker family bytes stage.Over remote h = tt

pub late_sends_none : (asker : Asker) (family : SocketAddressFamily) (bytes : List ℕ) (s : SendStage) (remote : Option IpSocketAddress) (entries : List Entry) (rest : Asks (End × List Item)) → IsLate s remote → Left (poll_asks (at_remote remote (send_operation asker family bytes s))) entries rest → SendsNone entries
late_sends_none asker family bytes s remote entries rest h l = sends_none _ rest entries (silent_poll asker family bytes s remote h) l
