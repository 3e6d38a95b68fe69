-- The answers of a world that goes by a plan: each list is used in order, over all network sockets, and then the
-- default holds.
use Rattle.std.specs.Prelude.{◌≡◌, ℕ, ◌≤◌, nat_le, if◌then◌else◌, List, [], ◌∷◌, Option, Some, None, length, take, drop, map, min, slice_set, fold, unwrap_or, is_some, ⊤}
use Rattle.std.proofs.Common.{ap, subst}
use Rattle.std.proofs.lemmas.Bool.{false≢true}
use Rattle.wasi_addr.specs.declared.address.IpSocketAddress.{IpSocketAddress}
use Rattle.wasi_addr.specs.declared.code.ErrorCode.TheVariants as code
use Rattle.wasi_world.specs.declared.ids.OpId.{OpId}
use Rattle.wasi_world.specs.declared.call.Call.{Call}
use Rattle.wasi_world.specs.declared.call.Call.TheVariants as call
use Rattle.wasi_world.specs.declared.call.Told.{Told}
use Rattle.wasi_world.specs.declared.call.Told.TheVariants as told
use Rattle.wasi_world.specs.declared.call.Entry.{Entry}
use Rattle.wasi_world.specs.declared.plan.Kind.{Kind}
use Rattle.wasi_world.specs.declared.plan.Planned.{Planned}
use Rattle.wasi_world.specs.declared.plan.Planned.TheVariants.{Pending, Done, Yes, No, Code, Addr, Arrived, Bytes, Took, Datagram, Value, Names}
use Rattle.wasi_world.specs.declared.sides.Side.{Side}
use Rattle.wasi_world.specs.Seen.{Plan, Seen}
use Rattle.wasi_world.specs.Kinds.{place, list_of, kind_of}
use Rattle.wasi_world.specs.Sides.{unmade, value_of, default_local, sides_after}

-- how many bytes a read asks for
abbrev pub asked : Call → ℕ
asked (call.Read _ size) = size
asked _ = 0

-- how many bytes a write offers
abbrev pub offered : Call → ℕ
offered (call.Write _ count) = count
offered _ = 0

-- a write offers something
abbrev pub Offers : Call → Type 0
Offers (call.Write _ count) = 1 ≤ count
Offers _ = ⊤

-- what a planned answer gives a call: a read gets a prefix of the bytes, and a write no more taken than it offers
abbrev pub given : Call → Planned → Planned
given c (Bytes bytes) = Bytes (take (asked c) bytes)
given c (Took count) = Took (min count (offered c))
given c answer = answer

-- what is left of a list after it answered a call: bytes that a read didn't ask for are the next answer
abbrev pub left_after : Call → List Planned → List Planned
left_after c [] = []
left_after c (Bytes bytes ∷ answers) = if nat_le (length bytes) (asked c) then answers else (Bytes (drop (asked c) bytes) ∷ answers)
left_after c (_ ∷ answers) = answers

-- what `peer` answers by default
abbrev pub default_peer : Option IpSocketAddress → Planned
default_peer (Some addr) = Addr addr
default_peer None = Code code.InvalidState

-- the default of each call
abbrev pub default : (OpId → Side) → Call → Planned
default sides (call.Check _ _ _) = Yes
default sides (call.Lookup _) = Code code.Other
default sides (call.TcpCreate _ _) = Done
default sides (call.UdpCreate _ _) = Done
default sides (call.UdpWritable _) = Done
default sides (call.Local sock) = Addr (default_local (sides sock))
default sides (call.Peer sock) = default_peer (sides sock).peer
default sides (call.Bind _ _) = Done
default sides (call.UdpBind _ _) = Done
default sides (call.UdpConnect _ _) = Done
default sides (call.Listen _ _) = Done
default sides (call.SetBacklog _ _) = Done
default sides (call.Connect _ _) = Done
default sides (call.Accept _) = Pending
default sides (call.Hand _ _) = Done
default sides (call.Refuse _ _) = Done
default sides (call.Read _ _) = Pending
default sides (call.ReadReady _) = Pending
default sides (call.WriteReady _) = Done
default sides (call.Write _ count) = Took count
default sides (call.Shutdown _ _) = Done
default sides (call.UdpDisconnect _) = Done
default sides (call.Send _ _ _) = Done
default sides (call.Recv _) = Pending
default sides (call.GetOption sock option) = Value (value_of (sides sock).options option)
default sides (call.SetOption _ _ _) = Done
default sides (call.Close _) = Done
default sides (call.Made _ _ _ _) = Done

-- what is left of the answers for a call; of a call that takes no kind there are none
abbrev pub waiting : Plan → Option Kind → List Planned
waiting plan None = []
waiting plan (Some k) = list_of plan k

-- what is left of all answers once those of a kind are these
abbrev pub with_waiting : Plan → Option Kind → List Planned → Plan
with_waiting plan None answers = plan
with_waiting plan (Some k) answers = slice_set plan (place k) answers

abbrev pub plan_after : Plan → Call → Plan
plan_after plan c = with_waiting plan (kind_of c) (left_after c (waiting plan (kind_of c)))

-- the next of the answers that are left, or else the default
abbrev pub next_answer : List Planned → (OpId → Side) → Call → Planned
next_answer [] sides c = default sides c
next_answer (answer ∷ _) sides c = given c answer

-- How far a world has come: what is left of its answers, and what is known of each network socket.
pub record Progress : Type 0 where
  pub left : Plan
  pub sides : OpId → Side

abbrev pub start : Plan → Progress
start plan = record { left = plan; sides = λ _. unmade }

-- the answer to a call
abbrev pub answer : Progress → Call → Planned
answer now c = next_answer (waiting now.left (kind_of c)) now.sides c

-- after an entry of the log
abbrev pub after : Progress → Entry → Progress
after now e = record { left = plan_after now.left e.call; sides = sides_after now.sides e.op e.call e.answer }

abbrev pub progress : Plan → List Entry → Progress
progress plan log = fold after (start plan) log

-- an answer as it is planned: of the bytes that a write took, their number alone
abbrev pub as_planned : Told → Planned
as_planned told.Pending = Pending
as_planned told.Done = Done
as_planned told.Yes = Yes
as_planned told.No = No
as_planned (told.Code c) = Code c
as_planned (told.Addr addr) = Addr addr
as_planned (told.Arrived addr) = Arrived addr
as_planned (told.Bytes bytes) = Bytes bytes
as_planned (told.Took bytes) = Took (length bytes)
as_planned (told.Datagram bytes addr) = Datagram bytes addr
as_planned (told.Value value) = Value value
as_planned (told.Names names) = Names names

-- the answers to the calls of a log
abbrev pub answers : Progress → List Entry → List Planned
answers now [] = []
answers now (e ∷ es) = answer now e.call ∷ answers (after now e) es

-- the answers in the log are those of the plan
abbrev pub IsScripted : Plan → List Entry → Type 0
IsScripted plan log = map (λ e. as_planned e.answer) log ≡ answers (start plan) log

-- where a world reports both its plan and its log, it answers by the plan
abbrev pub GoesByPlan : Seen → Type 0
GoesByPlan seen = (plan : Plan) (log : List Entry) → seen.plan ≡ Some plan → seen.log ≡ Some log → IsScripted plan log

-- a world that reports this plan and this log
pub goes_by_plan : (plan : Plan) (log : List Entry) → IsScripted plan log → (p : Plan) (l : List Entry) → Some plan ≡ Some p → Some log ≡ Some l → IsScripted p l
goes_by_plan plan log h p l e f =
    subst (λ (q : Plan). IsScripted q l) (ap (λ o. unwrap_or o plan) e) (subst (λ (m : List Entry). IsScripted plan m) (ap (λ o. unwrap_or o log) f) h)

-- a world that reports no plan
pub without_plan : (log : Option (List Entry)) (p : Plan) (l : List Entry) → ◌≡◌ {A = Option Plan} None (Some p) → log ≡ Some l → IsScripted p l
without_plan log p l e f = absurd (false≢true (ap is_some e))
