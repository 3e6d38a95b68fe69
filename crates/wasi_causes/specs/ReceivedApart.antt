-- Two incoming streams, and the operations that received what was handed out on their handles.
use Rattle.std.specs.Prelude.{◌≡◌, ℕ, List, None}
use Rattle.wasi_world.specs.declared.call.Entry.{Entry}
use Rattle.wasi_world.specs.declared.ids.OpId.{OpId}
use Rattle.wasi_steps.specs.declared.reply.Reply.{Reply}
use Rattle.wasi_steps.specs.declared.step.Step.{Step}
use Rattle.wasi_walks.specs.Allowed.{Has}
use Rattle.wasi_causes.specs.ReceivedList.{HandsOutFront, served}

-- no operation is in both lists
abbrev pub NoneInBoth : List OpId → List OpId → Type 0
NoneInBoth ops others = (op : OpId) → Has ops op → Has others op → ⊥

-- What the replies handed out on each of the two handles is a front of what its stream received. If the two streams are of one network
-- socket, none of the operations by which the one received, while it was live, is one by which the other did.
pub record ReceivedApart (log : List Entry) (steps : List Step) (replies : List Reply) (first second : ℕ) : Type 0 where
  pub one : HandsOutFront log steps replies first
  pub two : HandsOutFront log steps replies second
  pub apart : one.side ≡ two.side → NoneInBoth (served one.side one.remote None one.while_live.during)
      (served two.side two.remote None two.while_live.during)
