-- A pair's part of a turn.
use Rattle.std.specs.Prelude.{ℕ, if◌then◌else◌, List, [], ◌∷◌, ◌++◌, Option, Some, None}
use Rattle.wasi_addr.specs.declared.address.ShutdownType.TheVariants.{Both}
use Rattle.wasi_steps.specs.declared.guest_call.GuestCall.TheVariants as guest
use Rattle.wasi_steps.specs.declared.guest_call.TcpCall.TheVariants as tcp_call
use Rattle.wasi_steps.specs.declared.guest_call.PollableCall.TheVariants as pollable_call
use Rattle.wasi_steps.specs.declared.reply.CodeWord.TheVariants.{WouldBlock}
use Rattle.wasi_steps.specs.declared.reply.Reply.{Reply}
use Rattle.wasi_steps.specs.declared.reply.Reply.TheVariants.{Ok, Err}
use Rattle.wasi_relay.specs.declared.pair.DirEnd.TheVariants.{Broken}
use Rattle.wasi_relay.specs.declared.pair.Flow.{Flow}
use Rattle.wasi_relay.specs.declared.pair.Peer.{Peer}
use Rattle.wasi_relay.specs.declared.pair.Stage.{Stage}
use Rattle.wasi_relay.specs.declared.pair.Stage.TheVariants.{Connecting, Connected, Over}
use Rattle.wasi_relay.specs.declared.pair.Pair.{Pair}
use Rattle.wasi_relay.specs.Guest.{Part, give, call, ◌>>=◌, ◌>>◌}
use Rattle.wasi_relay.specs.Pair.{peer_of, has_open, ended_as, beside, at_stage, with_flows}
use Rattle.wasi_relay.specs.Replies.{handle_at}
use Rattle.wasi_relay.specs.Copying.{copied}

-- == a pair that is connecting
abbrev pub both_broken : Pair → Pair
both_broken pair = with_flows (ended_as Broken pair.up) (ended_as Broken pair.down) pair

abbrev pub after_connect : Pair → Reply → Pair
after_connect pair (Ok fields) = at_stage (Connected (record { socket = pair.target; input = handle_at fields 0; output = handle_at fields 1 })) pair
after_connect pair (Err WouldBlock) = pair
after_connect pair _ = both_broken pair

abbrev pub connected : Pair → Part Pair
connected pair = do
  reply ← call (guest.Tcp (tcp_call.FinishConnect pair.target))
  give (after_connect pair reply)

-- == a pair that is connected: up, then down
-- the pair after a turn's copying; beside a direction that broke, the other one ends in the first turn in which it writes nothing
abbrev pub after_copies : Flow → Flow → Pair → Pair
after_copies up down pair = with_flows (beside down.end pair.up.bytes up) (beside up.end pair.down.bytes down) pair

abbrev pub served_both : Peer → Pair → Part Pair
served_both target pair = do
  up ← copied pair.client target pair.up
  down ← copied target pair.client pair.down
  give (after_copies up down pair)

-- == the end of a pair
abbrev pub shut_down : Peer → Part Reply
shut_down peer = call (guest.Tcp (tcp_call.Shutdown peer.socket Both))

abbrev pub drop_all : Peer → Part Reply
drop_all peer = do
  call (guest.Pollable (pollable_call.Drop peer.input))
  call (guest.Pollable (pollable_call.Drop peer.output))
  call (guest.Pollable (pollable_call.Drop peer.socket))

abbrev pub closed : Peer → Part Reply
closed peer = do
  shut_down peer
  drop_all peer

abbrev pub closed_both : Peer → Peer → Part Reply
closed_both client target = do
  shut_down client
  shut_down target
  drop_all client
  drop_all target

-- a target without streams is only dropped
abbrev pub closed_with : Peer → ℕ → Option Peer → Part Reply
closed_with client socket (Some target) = closed_both client target
closed_with client socket None = do
  closed client
  call (guest.Pollable (pollable_call.Drop socket))

abbrev pub over : Pair → Part Pair
over pair = do
  closed_with pair.client pair.target (peer_of pair.stage)
  give (at_stage Over pair)

-- a pair that has no open direction is over at once
abbrev pub over_at_end : Pair → Part Pair
over_at_end pair = if has_open pair then give pair else over pair

abbrev pub served_at : Stage → Pair → Part Pair
served_at Connecting pair = do
  after ← connected pair
  over_at_end after
served_at (Connected target) pair = do
  after ← served_both target pair
  over_at_end after
served_at Over pair = give pair

abbrev pub served : Pair → Part Pair
served pair = served_at pair.stage pair

-- each pair in order, behind those that were served
abbrev pub served_from : List Pair → List Pair → Part (List Pair)
served_from done [] = give done
served_from done (pair ∷ pairs) = do
  after ← served pair
  served_from (done ++ after ∷ []) pairs

abbrev pub served_each : List Pair → Part (List Pair)
served_each pairs = served_from [] pairs
