-- What is left of a create and of a bind of a UDP socket after a poll.
use Rattle.std.specs.Prelude.{◌≡◌, ⊤, ℕ, suc, List, [], ◌∷◌}
use Rattle.wasi_walks.proofs.Words.{Allows, Done, End, Entry, Item, Operation, Polled, Refused, Waits, Who, bind, poll_asks, polled_front, refl, subst, sym, told_polled}
use Rattle.wasi_world.specs.Operation.{UdpWritable, CloseLast, polls, round, after}
use Rattle.wasi_udp.specs.Create.{Create}
use Rattle.udp_records.specs.Udp.{udp_create_left, udp_side}
use Rattle.wasi_walks.proofs.fits.Polls.{Anything}
use Rattle.wasi_walks.proofs.fits.Records.{FitUdp}

-- a create that waits has its network socket to wait for
abbrev pub LeavesCreate : End × List Item → Type 0
LeavesCreate (Waits, items) = items ≡ UdpWritable ∷ []
LeavesCreate _ = ⊤

module _ (n : ℕ) (who : Who) (last : who.last ≡ CloseLast) where
  by_polled : (es : List Entry) (p : Polled (Unit {0})) → Allows Anything (λ fs end. LeavesCreate end) es (after (polls n who) who [] (λ g. round (polls n who) who g []) (polled_front UdpWritable p))
  unfolding bind
  by_polled es (Polled.Ready done) = tt
  by_polled es (Polled.Code c) = rw last (tt, λ t fits. tt)
  by_polled es Polled.Pending = refl

  pub create_leaves : (es : List Entry) → Allows Anything (λ fs end. LeavesCreate end) es (polls (suc n) who (UdpWritable ∷ []))
  unfolding polls bind
  create_leaves es = (tt, λ t fits. by_polled _ (told_polled t))

pub create_left : (op : Operation) → op.who.last ≡ CloseLast → op.left ≡ UdpWritable ∷ [] → (es : List Entry) → Allows Anything (λ fs end. LeavesCreate end) es (poll_asks op)
create_left op last left es = subst (λ (items : List Item). Allows Anything (λ fs end. LeavesCreate end) es (polls 64 op.who items)) (sym left) (create_leaves 63 op.who last es)

-- and so its record fits
pub create_fits : (create : Create) → create.operation.who.last ≡ CloseLast → (end : End × List Item) → LeavesCreate end → FitUdp (udp_create_left create end)
create_fits create last (Waits, items) k = (last, k)
create_fits create last (Done given, items) k = (tt, tt, tt, tt)
create_fits create last (Refused c given, items) k = tt

-- the record that a create leaves has its network socket
pub create_side : (create : Create) (end : End × List Item) → udp_side (udp_create_left create end) ≡ create.operation.who.side
create_side create (Waits, items) = refl
create_side create (Done given, items) = refl
create_side create (Refused c given, items) = refl
