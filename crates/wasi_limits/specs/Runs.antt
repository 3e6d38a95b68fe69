-- Two runs whose contexts differ in the limit of one: what is the same of both, and what may differ.
use Rattle.std.specs.Prelude.{◌≡◌, ℕ, ◌+◌, ◌==◌, Bool, true, false, if◌then◌else◌, List, [], ◌∷◌, ◌++◌, Option, Some, None}
use Rattle.wasi_world.specs.declared.outcome.WasiSocketsCtx.{WasiSocketsCtx}
use Rattle.wasi_world.specs.Asks.{Asks, Give, bind, Left}
use Rattle.wasi_world.specs.declared.call.Entry.{Entry}
use Rattle.wasi_limits.specs.Alike.{Alike}
use Rattle.tcp_records.specs.declared.socket.TcpRecord.{TcpRecord}
use Rattle.wasi_records.specs.Records.{tcp2_at}
use Rattle.host_store.specs.declared.machine.Machine.{Machine}
use Rattle.host_store.specs.Machine.{output_at}
use Rattle.wasi_steps.specs.declared.reply.Field.{Field}
use Rattle.wasi_steps.specs.declared.reply.Reply.{Reply}
use Rattle.wasi_steps.specs.declared.reply.Reply.TheVariants as reply
use Rattle.wasi_steps.specs.declared.guest_call.GuestCall.TheVariants as guest
use Rattle.wasi_steps.specs.declared.guest_call.TcpCall.TheVariants as tcp_call
use Rattle.wasi_steps.specs.declared.guest_call.NameCall.TheVariants as name_call
use Rattle.wasi_steps.specs.declared.guest_call.StreamCall.TheVariants as stream_call
use Rattle.wasi_steps.specs.declared.guest_call.PollableCall.TheVariants as pollable_call
use Rattle.wasi_steps.specs.declared.step.Step.{Step}
use Rattle.wasi_steps.specs.declared.step.Step.TheVariants as step
use Rattle.wasi_steps.specs.Reply.{is_trap, no_fields}
use Rattle.wasi_machine.specs.Machine.{machine_asks}

-- the steps of a 0.2 TCP script
abbrev pub IsTcpStep : Step → Type 0
IsTcpStep (step.Call c (guest.Names name_call.Network)) = Unit {0}
IsTcpStep (step.Call c (guest.Tcp (tcp_call.Create family))) = Unit {0}
IsTcpStep (step.Call c (guest.Tcp (tcp_call.StartBind s n a))) = Unit {0}
IsTcpStep (step.Call c (guest.Tcp (tcp_call.FinishBind s))) = Unit {0}
IsTcpStep (step.Call c (guest.Tcp (tcp_call.StartConnect s n a))) = Unit {0}
IsTcpStep (step.Call c (guest.Tcp (tcp_call.FinishConnect s))) = Unit {0}
IsTcpStep (step.Call c (guest.Tcp (tcp_call.StartListen s))) = Unit {0}
IsTcpStep (step.Call c (guest.Tcp (tcp_call.FinishListen s))) = Unit {0}
IsTcpStep (step.Call c (guest.Tcp (tcp_call.Accept s))) = Unit {0}
IsTcpStep (step.Call c (guest.Tcp (tcp_call.LocalAddress s))) = Unit {0}
IsTcpStep (step.Call c (guest.Tcp (tcp_call.RemoteAddress s))) = Unit {0}
IsTcpStep (step.Call c (guest.Tcp (tcp_call.IsListening s))) = Unit {0}
IsTcpStep (step.Call c (guest.Tcp (tcp_call.AddressFamily s))) = Unit {0}
IsTcpStep (step.Call c (guest.Tcp (tcp_call.Shutdown s how))) = Unit {0}
IsTcpStep (step.Call c (guest.Stream (stream_call.Read input len))) = Unit {0}
IsTcpStep (step.Call c (guest.Stream (stream_call.CheckWrite output))) = Unit {0}
IsTcpStep (step.Call c (guest.Stream (stream_call.Write output bytes))) = Unit {0}
IsTcpStep (step.Call c (guest.Stream (stream_call.Flush output))) = Unit {0}
IsTcpStep (step.Call c (guest.Pollable (pollable_call.Subscribe h))) = Unit {0}
IsTcpStep (step.Call c (guest.Pollable (pollable_call.Ready p))) = Unit {0}
IsTcpStep (step.Call c (guest.Pollable (pollable_call.Drop h))) = Unit {0}
IsTcpStep step.Turn = Unit {0}
IsTcpStep (step.Poll n) = Unit {0}
IsTcpStep _ = ⊥

abbrev pub IsTcpScript : List Step → Type 0
IsTcpScript [] = Unit {0}
IsTcpScript (s ∷ steps) = IsTcpStep s × IsTcpScript steps

-- whether a socket was made by this context
abbrev pub is_made_by : ℕ → Option TcpRecord → Bool
is_made_by c None = false
is_made_by c (Some r) = r.maker == c

abbrev pub is_writer_of : ℕ → Machine → Option ℕ → Bool
is_writer_of c m None = false
is_writer_of c m (Some place) = is_made_by c (tcp2_at m.store.records place)

-- the line is a check-write on a writer whose maker is this context
abbrev pub checks_writer_of : ℕ → Machine → Step → Bool
checks_writer_of c m (step.Call ctx (guest.Stream (stream_call.CheckWrite output))) = is_writer_of c m (output_at m output)
checks_writer_of c m _ = false

-- what is left of a reply whose number is left out
abbrev pub without_number : Bool → Reply → Reply
without_number true (reply.Ok fields) = reply.Ok no_fields
without_number _ r = r

-- the run of the lines from this one on; the number that a check-write gives is left out of the replies where the writer's maker is
-- this context
abbrev pub run_but : ℕ → List WasiSocketsCtx → List Reply → Machine → ℕ → List Step → Asks (List Reply × Machine)
run_but c contexts replies m line [] = Give (replies, m)
run_but c contexts replies m line (s ∷ steps) =
    bind (machine_asks contexts m line s) (λ done.
    if is_trap done.0
    then Give (replies ++ done.0 ∷ [], done.1)
    else run_but c contexts (replies ++ without_number (checks_writer_of c m s) done.0 ∷ []) done.1 (line + 1) steps)

-- the last reply is a trap
pub data EndsInTrap : List Reply × Machine → Type 0 where
  Trapped : (replies : List Reply) (r : Reply) (m : Machine) → is_trap r ≡ true → EndsInTrap (replies ++ r ∷ [], m)

-- the same replies were given
abbrev pub SameReplies : List Reply × Machine → List Reply × Machine → Type 0
SameReplies done other = done.0 ≡ other.0

-- What a tree that asks the same does, where these entries are the first of what the first one asks, and this is left of it: they are
-- its first too, and what is left asks the same; or it was stopped before.
pub data Follows {A : Type 0} (Stops : A → Type 0) (Like : A → A → Type 0) (others : Asks A) (entries : List Entry) (rest : Asks A) : Type 0 where
  GoesOn : (left : Asks A) → Left others entries left → Alike Stops Like rest left → Follows Stops Like others entries rest
  IsStopped : (front back : List Entry) → entries ≡ front ++ back → (a : A) → Left others front (Give a) → Stops a → Follows Stops Like others entries rest

-- The replies are these, but that the number of some is left out.
pub data LeavesOut : List Reply → List Reply → Type 0 where
  NoReplies : LeavesOut [] []
  Kept : (r : Reply) (replies fewer : List Reply) → LeavesOut replies fewer → LeavesOut (r ∷ replies) (r ∷ fewer)
  LeftOut : (fields : List Field) (replies fewer : List Reply) → LeavesOut replies fewer → LeavesOut (reply.Ok fields ∷ replies) (reply.Ok no_fields ∷ fewer)

abbrev pub IsRunBut : List Reply × Machine → List Reply × Machine → Type 0
IsRunBut done fewer = LeavesOut done.0 fewer.0 × (done.1 ≡ fewer.1)

-- the same replies, but for numbers
pub record SameButNumbers (done other : List Reply × Machine) : Type 0 where
  pub fewer : List Reply
  pub one : LeavesOut done.0 fewer
  pub another : LeavesOut other.0 fewer
