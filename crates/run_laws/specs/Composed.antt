-- What the laws of runs say of the log and the replies of a run.
use Rattle.std.specs.Prelude.{◌≡◌, ◌⊎◌, ℕ, ◌+◌, List, [], ◌∷◌, ◌++◌, length, None, Some, IfSome, Result}
use Rattle.wasi_world.specs.declared.ids.OpId.{OpId}
use Rattle.wasi_world.specs.declared.call.Entry.{Entry}
use Rattle.wasi_world.specs.declared.outcome.WasiSocketsCtx.{WasiSocketsCtx}
use Rattle.wasi_world.specs.Seen.{Seen}
use Rattle.world_io.specs.Io.{Reading, Writing}
use Rattle.wasi_tcp.specs.Taken.{taken_in, IsFrontOf}
use Rattle.host_store.specs.declared.machine.Machine.{Machine}
use Rattle.host_store.specs.Machine.{first_state}
use Rattle.wasi_steps.specs.declared.reply.Reply.{Reply}
use Rattle.wasi_steps.specs.declared.step.Step.{Step}
use Rattle.wasi_machine.specs.Machine.{HasRun}
use Rattle.wasi_walks.specs.Licence.{IsLicensed}
use Rattle.wasi_walks.specs.Received.{HandsOutInOrder}
use Rattle.wasi_laws.specs.Opened.{AsksOpenSockets}
use Rattle.wasi_laws.specs.Order.{ChecksFirst, asked_by}
use Rattle.wasi_laws.specs.Permitted.{IsOfSteps, permitted_by}
use Rattle.wasi_laws.specs.Receivers.{ReceivesOnOne}
use Rattle.wasi_causes.specs.ReceivedApart.{NoneInBoth}
use Rattle.wasi_causes.specs.ReceivedList.{HandsOutFront, handed_out, served}
use Rattle.wasi_run.specs.declared.error.RunError.{RunError}
use Rattle.wasi_run.specs.declared.run.RunEnd.{RunEnd}
use Rattle.wasi_run.specs.Script.{RanScript}

-- the bytes that the machine lets the next step, where there is one, write to a network socket, along these first entries of it
abbrev pub permitted_next : Machine → OpId → ℕ → List Step → List Entry → List ℕ
permitted_next m side line [] entries = []
permitted_next m side line (s ∷ steps) entries = permitted_by m side line s entries

-- What a network socket took is a prefix of the bytes that the steps were let write to it.
pub record TookPermitted (contexts : List WasiSocketsCtx) (side : OpId) (steps : List Step) (log : List Entry) : Type 0 where
  pub line_by_line : IsOfSteps contexts side first_state 1 steps log
  pub front : let run = line_by_line in
      IsFrontOf (taken_in side log) (run.permitted ++ permitted_next run.after side (1 + length run.done) run.left run.entries)

-- No operation serves two: what the replies handed out on these two handles was received by different operations, each by one that
-- received nothing else on its handle.
pub record NoneServesBoth (log : List Entry) (steps : List Step) (replies : List Reply) (first second : ℕ) : Type 0 where
  pub one : HandsOutFront log steps replies first
  pub two : HandsOutFront log steps replies second
  pub apart : NoneInBoth (served one.side one.remote None one.while_live.during) (served two.side two.remote None two.while_live.during)

-- The log and the replies are those of a run of these steps, and so the laws of runs hold of them.
pub record KeepsLaws (contexts : List WasiSocketsCtx) (steps : List Step) (log : List Entry) (replies : List Reply) : Type 0 where
  pub run : HasRun contexts steps log replies
  pub licensed : IsLicensed contexts steps log replies
  pub checks_first : (op : OpId) → ChecksFirst (asked_by op log)
  pub while_open : AsksOpenSockets log
  pub taken : (side : OpId) → TookPermitted contexts side steps log
  pub on_one : ReceivesOnOne steps log
  pub in_order : (side : OpId) → HandsOutInOrder log side steps replies
  pub apart : (first second : ℕ) → (first ≡ second → ⊥)
      → (handed_out first run.done replies ≡ []) ⊎ ((handed_out second run.done replies ≡ []) ⊎ NoneServesBoth run.front run.done replies first second)
  pub handed_out : (handle : ℕ) → (handed_out handle run.done replies ≡ []) ⊎ HandsOutFront run.front run.done replies handle

-- The script ran so; and where the world reports its log, which was empty, the laws of runs hold of the steps that were done and of
-- the one met, of the log and of the replies.
pub record RunsByLaws (contexts : List WasiSocketsCtx) (limit : ℕ) (before after : Reading) (k_old k_new : Writing) (w_old w_new : Seen) (result : Result RunEnd RunError) : Type 0 where
  pub ran : RanScript contexts limit before after k_old k_new w_old w_new result
  pub composed : w_old.log ≡ Some [] → IfSome w_new.log (λ log.
      let lines = ran.over.ran in KeepsLaws contexts (lines.steps ++ lines.met) log lines.replies)
