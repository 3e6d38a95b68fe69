-- The network sockets that a log made and closed.
use Rattle.std.specs.Prelude.{◌≡◌, ℕ, ◌+◌, Bool, false, if◌then◌else◌, List, [], ◌∷◌, ◌++◌, Option, Some, None, option_map}
use Rattle.wasi_world.specs.declared.call.Call.{Call}
use Rattle.wasi_world.specs.declared.call.Call.TheVariants.{TcpCreate, UdpCreate, Hand, Close}
use Rattle.wasi_world.specs.declared.call.Told.{Told}
use Rattle.wasi_world.specs.declared.call.Entry.{Entry}
use Rattle.wasi_world.specs.declared.ids.OpId.{OpId}
use Rattle.wasi_world.specs.Seen.{Seen, Passes}
use Rattle.wasi_world.specs.Sides.{is_done, is_same}

-- what each network socket counts for
abbrev pub Weight : Type 0
Weight = OpId → ℕ

-- network sockets, each as often as it comes: what they count for together, whatever each counts for
abbrev pub Tally : Type 0
Tally = Weight → ℕ

-- each counts for one, so that they are counted
abbrev pub each : Weight
each sock = 1

-- one network socket counts, and no other, so that it is told how often it comes
abbrev pub only : OpId → Weight
only sock other = if is_same sock other then 1 else 0

-- == network sockets
abbrev pub no_socket : Tally
no_socket w = 0

abbrev pub one_socket : OpId → Tally
one_socket sock w = w sock

abbrev pub tally : Option OpId → Tally
tally (Some sock) = one_socket sock
tally None = no_socket

abbrev pub tally_all : List OpId → Tally
tally_all [] w = 0
tally_all (sock ∷ socks) w = w sock + tally_all socks w

-- == those of a log
-- whether a call made one: a create or a hand that was answered done makes that of its operation's name
abbrev pub makes : Call → Told → Bool
makes (TcpCreate ctx family) told = is_done told
makes (UdpCreate ctx family) told = is_done told
makes (Hand sock peer) told = is_done told
makes _ told = false

abbrev pub made_by : OpId → Call → Told → Tally
made_by op c told w = if makes c told then w op else 0

abbrev pub closed_by : Call → Option OpId
closed_by (Close sock) = Some sock
closed_by _ = None

abbrev pub made_in : List Entry → Tally
made_in [] w = 0
made_in (e ∷ es) w = made_by e.op e.call e.answer w + made_in es w

abbrev pub closed_in : List Entry → Tally
closed_in [] w = 0
closed_in (e ∷ es) w = tally (closed_by e.call) w + closed_in es w

-- What was asked closed the network sockets that are no longer held, and made none.
pub record HoldsFewer (before after : Seen) (old now : Tally) : Type 0 where
  pub entries : List Entry
  pub passed : Passes before entries after
  pub made : (w : Weight) → made_in entries w ≡ 0
  pub balance : (w : Weight) → closed_in entries w + now w ≡ old w

-- What was asked made no network socket and closed none.
pub record MakesNone (before after : Seen) : Type 0 where
  pub entries : List Entry
  pub log : after.log ≡ option_map (λ log. log ++ entries) before.log
  pub made : (w : Weight) → made_in entries w ≡ 0
  pub closed : (w : Weight) → closed_in entries w ≡ 0
