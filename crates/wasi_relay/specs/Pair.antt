-- Pairs of an arrival and a target.
use Rattle.std.specs.Prelude.{ℕ, ◌+◌, ◌-◌, ◌^◌, ◌==◌, ◌&&◌, ◌||◌, if◌then◌else◌, not, min, Bool, true, false, List, count_by, Option, Some, None}
use Rattle.wasi_relay.specs.declared.pair.DirEnd.{DirEnd}
use Rattle.wasi_relay.specs.declared.pair.DirEnd.TheVariants.{Open, Clean, Broken}
use Rattle.wasi_relay.specs.declared.pair.Flow.{Flow}
use Rattle.wasi_relay.specs.declared.pair.Peer.{Peer}
use Rattle.wasi_relay.specs.declared.pair.Stage.{Stage}
use Rattle.wasi_relay.specs.declared.pair.Stage.TheVariants.{Connecting, Connected, Over}
use Rattle.wasi_relay.specs.declared.pair.Pair.{Pair}

abbrev pub is_open : DirEnd → Bool
is_open Open = true
is_open Clean = false
is_open Broken = false

abbrev pub is_broken : DirEnd → Bool
is_broken Open = false
is_broken Clean = false
is_broken Broken = true

abbrev pub stage_is_over : Stage → Bool
stage_is_over Over = true
stage_is_over Connecting = false
stage_is_over (Connected peer) = false

abbrev pub is_over : Pair → Bool
is_over pair = stage_is_over pair.stage

-- the connected target
abbrev pub peer_of : Stage → Option Peer
peer_of (Connected peer) = Some peer
peer_of Connecting = None
peer_of Over = None

abbrev pub has_open : Pair → Bool
has_open pair = is_open pair.up.end || is_open pair.down.end

-- how many pairs aren't over
abbrev pub open_pairs : List Pair → ℕ
open_pairs pairs = count_by (λ pair. not (is_over pair)) pairs

-- a direction that starts, and what a direction becomes
abbrev pub first_flow : Flow
first_flow = record { end = Open; bytes = 0 }

abbrev pub ended_as : DirEnd → Flow → Flow
ended_as end flow = record { end = end; bytes = flow.bytes }

-- beside a direction with this end, one that is open and has written no more than so many bytes breaks where that one broke
abbrev pub breaks_beside : DirEnd → ℕ → Flow → Bool
breaks_beside other before flow = (is_broken other && is_open flow.end) && (flow.bytes == before)

abbrev pub beside : DirEnd → ℕ → Flow → Flow
beside other before flow = if breaks_beside other before flow then ended_as Broken flow else flow

abbrev pub written_more : ℕ → Flow → Flow
written_more count flow = record { end = flow.end; bytes = min (flow.bytes + count) (2 ^ 64 - 1) }

-- a pair whose target begins to be connected
abbrev pub first_pair : Peer → ℕ → Pair
first_pair client target = record { client = client; target = target; stage = Connecting; up = first_flow; down = first_flow }

abbrev pub at_stage : Stage → Pair → Pair
at_stage stage pair = record { client = pair.client; target = pair.target; stage = stage; up = pair.up; down = pair.down }

abbrev pub with_flows : Flow → Flow → Pair → Pair
with_flows up down pair = record { client = pair.client; target = pair.target; stage = pair.stage; up = up; down = down }
