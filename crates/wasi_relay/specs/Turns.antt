-- The turns of a relay.
use Rattle.std.specs.Prelude.{ℕ, zero, suc, ◌+◌, ◌==◌, ◌&&◌, nat_lt, not, Bool, true, false, if◌then◌else◌, List, [], ◌∷◌, ◌++◌, length, Option, Some, None, is_none, Result}
use Rattle.std.specs.Prelude as prelude
use Rattle.wasi_steps.specs.declared.guest_call.GuestCall.TheVariants as guest
use Rattle.wasi_steps.specs.declared.guest_call.TcpCall.TheVariants as tcp_call
use Rattle.wasi_steps.specs.declared.step.Step.TheVariants.{Turn}
use Rattle.wasi_steps.specs.declared.reply.CodeWord.{CodeWord}
use Rattle.wasi_steps.specs.declared.reply.CodeWord.TheVariants.{NewSocketLimit, OutOfMemory, Unknown, WouldBlock}
use Rattle.wasi_steps.specs.declared.reply.Reply.{Reply}
use Rattle.wasi_steps.specs.declared.reply.Reply.TheVariants.{Ok, Err}
use Rattle.wasi_session.specs.declared.error.StepError.{StepError}
use Rattle.wasi_relay.specs.declared.order.Order.{Order}
use Rattle.wasi_relay.specs.declared.setup.Listener.{Listener}
use Rattle.wasi_relay.specs.declared.turns.Progress.{Progress}
use Rattle.wasi_relay.specs.declared.pair.Peer.{Peer}
use Rattle.wasi_relay.specs.declared.pair.Pair.{Pair}
use Rattle.wasi_relay.specs.declared.service.RelayEnd.{RelayEnd}
use Rattle.wasi_relay.specs.declared.service.RelayEnd.TheVariants.{Served, Unserved, Budget}
use Rattle.wasi_relay.specs.Guest.{Part, give, one, call, ◌>>=◌, ◌>>◌}
use Rattle.wasi_relay.specs.Order.{family_of}
use Rattle.wasi_relay.specs.Pair.{open_pairs, first_pair}
use Rattle.wasi_relay.specs.Replies.{handle_at}
use Rattle.wasi_relay.specs.Serving.{closed, served_each}

-- Where a relay is between two turns: how many arrivals it took, the pairs of those that have one, and the arrival that waits for a
-- socket for its target.
pub record Course : Type 0 where
  pub taken : ℕ
  pub pairs : List Pair
  pub waiting : Option Peer

abbrev pub course_of : Progress → Course
course_of at = record { taken = at.taken; pairs = at.pairs.items; waiting = at.waiting }

-- == a lack of descriptors or memory
-- codes of one; that of descriptors has no code of its own in 0.2
abbrev pub is_lack : CodeWord → Bool
is_lack Unknown = true
is_lack OutOfMemory = true
is_lack NewSocketLimit = true
is_lack _ = false

abbrev pub tells_lack : Reply → Bool
tells_lack (Err code) = is_lack code
tells_lack _ = false

-- a pair is open, which gives some back once it is over
abbrev pub has_pair : Course → Bool
has_pair at = not (open_pairs at.pairs == 0)

-- == an arrival
abbrev pub begun : Order → Listener → ℕ → Part Reply
begun order listener socket = call (guest.Tcp (tcp_call.StartConnect socket listener.network order.target))

-- the course with these pairs, where no arrival waits
abbrev pub with_pairs : List Pair → Course → Course
with_pairs pairs at = record { taken = at.taken; pairs = pairs; waiting = None }

abbrev pub with_waiting : Peer → Course → Course
with_waiting client at = record { taken = at.taken; pairs = at.pairs; waiting = Some client }

abbrev pub may_wait : Course → Reply → Bool
may_wait at reply = tells_lack reply && has_pair at

-- without a socket for its target an arrival waits, where a pair may give one back; else it is closed
abbrev pub unpaired : Peer → Course → Reply → Part Course
unpaired client at reply = if may_wait at reply then give (with_waiting client at) else (closed client >> give (with_pairs at.pairs at))

-- the socket that was accepted is connected to the target, and is one more pair
abbrev pub after_create : Order → Listener → Peer → Course → Reply → Part Course
after_create order listener client at (Ok fields) = do
  begun order listener (handle_at fields 0)
  give (with_pairs (at.pairs ++ first_pair client (handle_at fields 0) ∷ []) at)
after_create order listener client at reply = unpaired client at reply

abbrev pub paired : Order → Listener → Peer → Course → Part Course
paired order listener client at = do
  reply ← call (guest.Tcp (tcp_call.Create (family_of order.target)))
  after_create order listener client at reply

abbrev pub with_taken : ℕ → Course → Course
with_taken taken at = record { taken = taken; pairs = at.pairs; waiting = at.waiting }

abbrev pub taken_lacking : Order → Course → ℕ
taken_lacking order at = if has_pair at then at.taken else order.connections

abbrev pub taken_refused : Order → Course → Reply → ℕ
taken_refused order at reply = if tells_lack reply then taken_lacking order at else (at.taken + 1)

-- would-block takes no arrival, nor does a lack while a pair is open; with none open the relay takes no more. Another refusal is an
-- arrival without a pair.
abbrev pub taken_after : Order → Course → Reply → ℕ
taken_after order at (Err WouldBlock) = at.taken
taken_after order at reply = taken_refused order at reply

abbrev pub after_accept : Order → Listener → Course → Reply → Part Course
after_accept order listener at (Ok fields) =
    paired order listener (record { socket = handle_at fields 0; input = handle_at fields 1; output = handle_at fields 2 }) (with_taken (at.taken + 1) at)
after_accept order listener at reply = give (with_taken (taken_after order at reply) at)

-- at most 16 pairs are open
abbrev pub may_accept : Order → Course → Bool
may_accept order at = nat_lt at.taken order.connections && nat_lt (open_pairs at.pairs) 16

-- an arrival that waits goes first
abbrev pub accepted_beside : Option Peer → Order → Listener → Course → Part Course
accepted_beside (Some client) order listener at = paired order listener client at
accepted_beside None order listener at = if may_accept order at then (call (guest.Tcp (tcp_call.Accept listener.socket)) >>= after_accept order listener at) else give at

abbrev pub accepted : Order → Listener → Course → Part Course
accepted order listener at = accepted_beside at.waiting order listener at

-- == a turn
abbrev pub turned : Order → Listener → Course → Part Course
turned order listener at = do
  one Turn
  new ← accepted order listener at
  pairs ← served_each new.pairs
  give (record { taken = new.taken; pairs = pairs; waiting = new.waiting })

-- == turn after turn
-- all arrivals are over
abbrev pub is_served : Order → Course → Bool
is_served order at = ((at.taken == order.connections) && (open_pairs at.pairs == 0)) && is_none at.waiting

-- how it ends then: each of the connections had a pair, or not
abbrev pub served_end : Order → Course → RelayEnd
served_end order at = if length at.pairs == order.connections then Served else Unserved

-- how it ends where no turn is left
abbrev pub last_end : Order → Course → RelayEnd
last_end order at = if is_served order at then served_end order at else Budget

-- How a relay ended, and its pairs.
pub record Finish : Type 0 where
  pub end : RelayEnd
  pub pairs : List Pair

abbrev pub finish : RelayEnd → Course → Finish
finish end at = record { end = end; pairs = at.pairs }

-- with so many turns left
abbrev pub rounds : Order → Listener → ℕ → Course → Part Finish
rounds order listener zero at = give (finish (last_end order at) at)
rounds order listener (suc left) at = if is_served order at then give (finish (served_end order at) at) else (turned order listener at >>= rounds order listener left)

abbrev pub finished : Course → Result RelayEnd StepError → Result Finish StepError
finished at (prelude.Ok end) = prelude.Ok (finish end at)
finished at (prelude.Err e) = prelude.Err e
