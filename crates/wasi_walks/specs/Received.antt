-- In which order the receives on streams of a run hand out what was received on a network socket: in that of the log, and each
-- datagram once.
use Rattle.std.specs.Prelude.{◌≡◌, ℕ, ◌≤◌, ◌⊎◌, List, [], ◌∷◌, ◌++◌, length}
use Rattle.wasi_world.specs.declared.datagram.IncomingDatagram.{IncomingDatagram}
use Rattle.wasi_world.specs.declared.ids.OpId.{OpId}
use Rattle.wasi_world.specs.declared.call.Entry.{Entry}
use Rattle.wasi_steps.specs.declared.reply.Field.{Field}
use Rattle.wasi_steps.specs.declared.reply.Reply.{Reply}
use Rattle.wasi_steps.specs.declared.step.Step.{Step}
use Rattle.wasi_steps.specs.declared.guest_call.GuestCall.TheVariants as guest
use Rattle.wasi_steps.specs.declared.guest_call.UdpCall.TheVariants as udp_call
use Rattle.wasi_steps.specs.declared.step.Step.TheVariants as step
use Rattle.wasi_steps.specs.Reply.{datagram_values}
use Rattle.wasi_walks.specs.Allowed.{IsSide}
pub use Rattle.wasi_walks.specs.Allowed.{ReceivesNone, IsAllowed, InOrder, NoMore, OneMore}

-- These datagrams of the network socket are in order, up to the one place. All were received from a place on that isn't before the
-- other one, and by which the handle was marked: what was received before isn't handed out on it.
pub record InOrderSince (log : List Entry) (side : OpId) (from upto handle : ℕ) (datagrams : List IncomingDatagram) : Type 0 where
  pub front : List Entry
  pub back : List Entry
  pub cut : log ≡ front ++ back
  pub marked : IsSide front handle side
  pub start : ℕ
  pub on : from ≤ start
  pub since : length front ≤ start
  pub order : InOrder log side start datagrams upto

-- What a receive on the stream of this handle hands out: of this network socket datagrams in order, from the one place to the other,
-- received after the mark of the handle; of another one nothing is said here.
pub record HandsOutFrom (log : List Entry) (side : OpId) (from upto handle : ℕ) (fields : List Field) : Type 0 where
  pub its : OpId
  pub of_handle : IsSide log handle its
  pub datagrams : List IncomingDatagram
  pub values : fields ≡ datagram_values datagrams
  pub order : ((its ≡ side) × InOrderSince log side from upto handle datagrams) ⊎ ((its ≡ side → ⊥) × (upto ≡ from))

-- the reply to a step hands out the datagrams from the one place to the other: none, but for a receive
abbrev pub ReplyTakes : List Entry → OpId → ℕ → ℕ → Step → Reply → Type 0
ReplyTakes log side from upto (step.Call ctx (guest.Udp (udp_call.Receive handle most))) (Reply.Ok fields) = HandsOutFrom log side from upto handle fields
ReplyTakes log side from upto _ reply = upto ≡ from

-- so do the replies one after another, each to the step of its line
abbrev pub RepliesTake : List Entry → OpId → ℕ → ℕ → List Step → List Reply → Type 0
RepliesTake log side from upto steps [] = upto ≡ from
RepliesTake log side from upto [] (reply ∷ replies) = ⊥
RepliesTake log side from upto (s ∷ steps) (reply ∷ replies) = (mid : ℕ) × (ReplyTakes log side from mid s reply × RepliesTake log side mid upto steps replies)

-- All that the replies hand out of what the network socket received, on whichever of its streams: each datagram at its own place in
-- the log, after the mark of the stream's handle, and these places rise from one reply to the next, and within each.
abbrev pub HandsOutInOrder : List Entry → OpId → List Step → List Reply → Type 0
HandsOutInOrder log side steps replies = (upto : ℕ) × RepliesTake log side 0 upto steps replies
