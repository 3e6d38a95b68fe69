-- What a receive asks makes no network socket and closes none.
use Rattle.std.specs.Prelude.{Bool, true, false, ℕ, zero, suc, List, [], ◌∷◌, Option, Result, if◌then◌else◌}
use Rattle.std.specs.declared.alloc.AllocError.{AllocError}
use Rattle.std.proofs.Common.{◌≡◌, refl, sym, subst}
use Rattle.wasi_addr.specs.declared.address.IpSocketAddress.{IpSocketAddress}
use Rattle.wasi_addr.specs.declared.code.ErrorCode.{ErrorCode}
use Rattle.wasi_world.specs.declared.asks.Verdict.{Verdict}
use Rattle.wasi_world.specs.declared.asks.Verdict.TheVariants as verdict
use Rattle.wasi_world.specs.declared.asks.Polled.{Polled}
use Rattle.wasi_world.specs.declared.asks.Polled.TheVariants as polled
use Rattle.wasi_world.specs.declared.ids.OpId.{OpId}
use Rattle.wasi_world.specs.Seen.{Seen}
use Rattle.wasi_world.specs.Asks.{Asks, bind, AsksFor}
use Rattle.wasi_world.specs.Typed.{told_verdict}
use Rattle.wasi_world.specs.Operation.{Nothing, Datagram, Item, Receive, CheckPeer, Who, Operation, End, LastAsk, NothingLast, Goes, Again, is_wanted, received_front, receive_front, last_ask, after, round, polls, poll_asks}
use Rattle.wasi_world.specs.declared.outcome.Answer.{Answer}
use Rattle.wasi_world.specs.declared.outcome.Refusal.{Refusal}
use Rattle.socket_common.specs.Rounds.{PollsRounds}
use Rattle.wasi_udp.specs.Receive.{datagram_of, wanting, wanted_in, receive_asks, IsReceive, IsLeftOfReceive, ToRefuse, Unreceived, Received, Ended}
use Rattle.wasi_udp.specs.Shape.{Socket}
use Rattle.wasi_udp.specs.Socket.{bound_asks}
use Rattle.udp_records.specs.declared.datagrams.Incoming.{Incoming}
use Rattle.udp_records.specs.Receiving.{receive_wants}
use Rattle.record_common.specs.Sides.{MakesNone}
use Rattle.udp_records.proofs.Receives.{receive_polled}
use Rattle.record_common.proofs.SideCounts.{Calm, Any, calm_then, none_calm}
use Rattle.udp_records.proofs.UdpCalms.{calm_bound}

-- its start
calm_begins : (op : OpId) (s : Socket) → Calm Any (receive_asks op s)
calm_begins op s = calm_then Any Any (bound_asks op s) _ (calm_bound op s) (λ b k. tt)

-- one round, where a new one is calm
module _ (who : Who) (last : who.last ≡ NothingLast) (again : List Item → Asks (End × List Item)) (anew : (only : Option IpSocketAddress) → Calm Any (again (Receive only ∷ []))) where
  -- it ends with a code
  fails : (c : ErrorCode) → Calm Any (last_ask who who.last c Nothing)
  fails c = subst (λ (l : LastAsk). Calm Any (last_ask who l c Nothing)) (sym last) tt

  -- a sender was checked
  judged : (only : Option IpSocketAddress) (bytes : List ℕ) (peer : IpSocketAddress) (v : Verdict) → Calm Any (after again who [] (λ g. round again who g []) (received_front only bytes peer v))
  judged only bytes peer verdict.Yes = by (is_wanted only peer)
    where
      by : (b : Bool) → Calm Any (after again who [] (λ g. round again who g []) (if b then Goes (Datagram bytes peer) else Again (Receive only)))
      by true = tt
      by false = anew only
  judged only bytes peer verdict.No = anew only
  judged only bytes peer verdict.Pending = tt

  -- a sender is checked
  checks : (only : Option IpSocketAddress) (bytes : List ℕ) (peer : IpSocketAddress) → Calm Any (round again who Nothing (CheckPeer only bytes peer ∷ []))
  unfolding bind
  checks only bytes peer = ((λ t. refl, refl), λ t. judged only bytes peer (told_verdict t))

  -- a datagram has come, or hasn't
  told : (only : Option IpSocketAddress) (p : Polled (List ℕ × IpSocketAddress)) → Calm Any (bind (receive_front who only p) (after again who [] (λ g. round again who g [])))
  unfolding bind
  told only polled.Pending = tt
  told only (polled.Ready d) = checks only d.0 d.1
  told only (polled.Code c) = fails c

  -- whatever is left of the receive
  calm_round : (items : List Item) → IsLeftOfReceive items → Calm Any (round again who Nothing items)
  unfolding bind
  calm_round _ (ToRefuse c) = fails c
  calm_round _ (Unreceived only) = ((λ t. refl, refl), λ t. told only _)
  calm_round _ (Received only bytes peer) = checks only bytes peer
  calm_round _ Ended = tt

-- of any number of rounds
calm_rounds : (k : ℕ) (who : Who) (items : List Item) → who.last ≡ NothingLast → IsLeftOfReceive items → Calm Any (polls k who items)
unfolding polls
calm_rounds zero who items last h = tt
calm_rounds (suc k) who items last h = calm_round who last (polls k who) (λ only. calm_rounds k who (Receive only ∷ []) last (Unreceived only)) items h

-- it is a receive still, whoever is wanted
still_receive : (only : Option IpSocketAddress) (items : List Item) → IsLeftOfReceive items → IsLeftOfReceive (wanted_in only items)
still_receive only _ (ToRefuse c) = ToRefuse c
still_receive only _ (Unreceived wanted) = Unreceived only
still_receive only _ (Received wanted bytes peer) = Received only bytes peer
still_receive only _ Ended = Ended

-- a whole poll
calm_receive : (only : Option IpSocketAddress) (op : Operation) → IsReceive op → Calm Any (poll_asks (wanting only op))
calm_receive only op h = calm_rounds 64 op.who (wanted_in only op.left) h.last (still_receive only op.left h.left)

-- == of a call, whatever it answered
-- a start
pub receive_begins_none : {T : Type 0} (op : OpId) (socket : Socket) (r : Result T AllocError) {s t : Seen} {view : T → _} → AsksFor (receive_asks op socket) s t view r → MakesNone s t
receive_begins_none op socket r h = none_calm (calm_begins op socket) r h

-- a poll
pub receive_makes_none : (inc : Incoming) (op now : Operation) (p : Result (Answer (List ℕ × IpSocketAddress)) Refusal) {s t : Seen} → IsReceive op → PollsRounds datagram_of Nothing (wanting inc.remote op) now s t p → MakesNone s t
receive_makes_none inc op now p its h = none_calm (calm_then Any Any (poll_asks (wanting inc.remote op)) _ (calm_receive inc.remote op its) (λ ended k. tt)) (receive_wants p) (receive_polled (λ made. made) inc op now p h)
