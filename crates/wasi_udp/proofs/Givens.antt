-- Datagrams that a receive gives.
use Rattle.std.specs.Prelude.{◌≡◌, ℕ, zero, suc, Bool, true, false, if◌then◌else◌, List, [], ◌∷◌, Option, Some, None, ⊤, refl}
use Rattle.std.proofs.Common.{sym, subst, ap}
use Rattle.wasi_addr.specs.declared.address.IpSocketAddress.{IpSocketAddress}
use Rattle.wasi_addr.specs.declared.address.SocketAddrUse.TheVariants.{UdpReceive}
use Rattle.wasi_world.specs.declared.call.Call.{Call}
use Rattle.wasi_world.specs.declared.call.Call.TheVariants as call
use Rattle.wasi_world.specs.declared.call.Told.{Told}
use Rattle.wasi_world.specs.declared.call.Told.TheVariants as told
use Rattle.wasi_world.specs.declared.call.Entry.{Entry}
use Rattle.wasi_world.specs.declared.asks.Polled.{Polled}
use Rattle.wasi_world.specs.declared.asks.Polled.TheVariants as polled
use Rattle.wasi_world.specs.Asks.{Asks, Give, Ask, AskWrite, bind, Left}
use Rattle.wasi_world.specs.Typed.{told_verdict, told_datagram}
use Rattle.wasi_world.specs.Operation.{Item, Receive, CheckPeer, Nothing, Datagram, NothingLast, Front, Goes, Again, End, Done, polls, poll_asks, round, after, received_front, receive_front, is_wanted, Who}
use Rattle.socket_common.specs.declared.asker.Asker.{Asker}
use Rattle.socket_common.specs.Asker.{who_of}
use Rattle.wasi_udp.specs.declared.receive.RecvStage.{RecvStage}
use Rattle.wasi_udp.specs.declared.receive.RecvStage.TheVariants as stage
use Rattle.wasi_udp.specs.Receive.{receive_operation}
use Rattle.wasi_udp.specs.Given.{EndsInYes}

-- the call that was made last, with its answer
abbrev Came : Type 0
Came = Option (Call × Told)

-- a datagram that is given with this answer was allowed by it, and its sender is wanted
abbrev IsAllowed : ℕ → Option IpSocketAddress → Came → End → Type 0
IsAllowed context only came (Done (Datagram bytes peer)) = (came ≡ Some (call.Check context peer UdpReceive, told.Yes)) × (is_wanted only peer ≡ true)
IsAllowed context only came _ = ⊤

-- whatever is answered, a datagram is given only with the answer that allows it
abbrev Allows : ℕ → Option IpSocketAddress → Came → Asks (End × List Item) → Type 0
Allows context only came (Give x) = IsAllowed context only came x.0
Allows context only came (Ask op c next) = (t : Told) → Allows context only (Some (c, t)) (next t)
Allows context only came (AskWrite op sock bytes next) = ⊥

abbrev ends_in : ℕ → IpSocketAddress → Came → List Entry → Type 0
ends_in context peer came [] = came ≡ Some (call.Check context peer UdpReceive, told.Yes)
ends_in context peer came (e ∷ es) = EndsInYes context peer (e ∷ es)

-- one entry more in front
one_more : (context : ℕ) (peer : IpSocketAddress) (e : Entry) (es : List Entry) → ends_in context peer (Some (e.call, e.answer)) es → EndsInYes context peer (e ∷ es)
one_more context peer e [] h =
    let same : (e.call, e.answer) ≡ (call.Check context peer UdpReceive, told.Yes) = cc in
    (ap (λ (x : Call × Told). x.0) same, ap (λ (x : Call × Told). x.1) same)
one_more context peer e (f ∷ es) h = h

allowed : (context : ℕ) (only : Option IpSocketAddress) (came : Came) (asks : Asks (End × List Item)) (entries : List Entry) (bytes : List ℕ) (peer : IpSocketAddress) (left : List Item)
    → Allows context only came asks → Left asks entries (Give (Done (Datagram bytes peer), left)) → ends_in context peer came entries × (is_wanted only peer ≡ true)
allowed context only came asks [] bytes peer left s h = let P : Asks (End × List Item) → Type 0 = Allows context only came in subst P h s
allowed context only came (Give x) (e ∷ es) bytes peer left s h = absurd h
allowed context only came (Ask op c next) (e ∷ es) bytes peer left s h =
    let P : Call → Type 0 = λ d. Allows context only (Some (d, e.answer)) (next e.answer) in
    let k : ends_in context peer (Some (e.call, e.answer)) es × (is_wanted only peer ≡ true) = allowed context only (Some (e.call, e.answer)) (next e.answer) es bytes peer left (subst P (sym h.0.1) (s e.answer)) h.1 in
    (one_more context peer e es k.0, k.1)
allowed context only came (AskWrite op sock b next) (e ∷ es) bytes peer left s h = absurd s

module _ (asker : Asker) (only : Option IpSocketAddress) (n : ℕ) (rest : (came : Came) → Allows asker.maker only came (polls n (who_of asker NothingLast) (Receive only ∷ []))) where
  abbrev who : Who
  who = who_of asker NothingLast

  abbrev next : Front → Asks (End × List Item)
  next f = after (polls n who) who [] (λ g. round (polls n who) who g []) f

  -- a yes, for a sender that is wanted or not
  after_yes : (bytes : List ℕ) (peer : IpSocketAddress) (b : Bool) → is_wanted only peer ≡ b → Allows asker.maker only (Some (call.Check asker.maker peer UdpReceive, told.Yes)) (next (if b then Goes (Datagram bytes peer) else Again (Receive only)))
  after_yes bytes peer true w = (refl, w)
  after_yes bytes peer false w = rest _

  after_check : (bytes : List ℕ) (peer : IpSocketAddress) (t : Told) → Allows asker.maker only (Some (call.Check asker.maker peer UdpReceive, t)) (next (received_front only bytes peer (told_verdict t)))
  after_check bytes peer told.Yes = after_yes bytes peer (is_wanted only peer) refl
  after_check bytes peer told.No = rest _
  after_check bytes peer _ = tt

  checks : (came : Came) (bytes : List ℕ) (peer : IpSocketAddress) → Allows asker.maker only came (round (polls n who) who Nothing (CheckPeer only bytes peer ∷ []))
  unfolding bind
  checks came bytes peer = after_check bytes peer

  after_receive : (came : Came) (p : Polled (List ℕ × IpSocketAddress)) → Allows asker.maker only came (bind (receive_front who only p) next)
  unfolding bind
  after_receive came polled.Pending = tt
  after_receive came (polled.Ready d) = after_check d.0 d.1
  after_receive came (polled.Code c) = tt

  receives : (came : Came) → Allows asker.maker only came (round (polls n who) who Nothing (Receive only ∷ []))
  unfolding bind
  receives came = λ t. after_receive _ (told_datagram t)

round_after : (asker : Asker) (only : Option IpSocketAddress) (n : ℕ) (came : Came) → Allows asker.maker only came (polls n (who_of asker NothingLast) (Receive only ∷ []))
unfolding polls
round_after asker only zero came = tt
round_after asker only (suc n) came = receives asker only n (round_after asker only n) came

gives : (asker : Asker) (only : Option IpSocketAddress) (s : RecvStage) → Allows asker.maker only None (poll_asks (receive_operation asker only s))
unfolding polls bind
gives asker only (stage.Refused c) = tt
gives asker only stage.Receive = receives asker only 63 (round_after asker only 63) None
gives asker only (stage.Check bytes peer) = checks asker only 63 (round_after asker only 63) None bytes peer
gives asker only stage.Over = tt

-- with no entry nothing would have come
some_entry : (context : ℕ) (peer : IpSocketAddress) (entries : List Entry) → ends_in context peer None entries → EndsInYes context peer entries
some_entry context peer [] h = absurd (cc)
some_entry context peer (e ∷ es) h = h

module _ (asker : Asker) (only : Option IpSocketAddress) (s : RecvStage) (entries : List Entry) (bytes : List ℕ) (peer : IpSocketAddress) (left : List Item) where
  pub given_after_yes : Left (poll_asks (receive_operation asker only s)) entries (Give (Done (Datagram bytes peer), left)) → EndsInYes asker.maker peer entries
  given_after_yes h = some_entry asker.maker peer entries (allowed asker.maker only None _ entries bytes peer left (gives asker only s) h).0

  pub given_wanted : Left (poll_asks (receive_operation asker only s)) entries (Give (Done (Datagram bytes peer), left)) → is_wanted only peer ≡ true
  given_wanted h = (allowed asker.maker only None _ entries bytes peer left (gives asker only s) h).1
