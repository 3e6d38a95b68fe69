use Rattle.std.proofs.Common.{◌≡◌, Bool, ℕ, List, Some, true, false, subst}
use Rattle.wasi_world.specs.declared.call.Entry.{Entry}
use Rattle.wasi_world.specs.declared.outcome.WasiSocketsCtx.{WasiSocketsCtx}
use Rattle.host_store.specs.declared.kind.Kind.TheVariants as kind
use Rattle.host_store.specs.declared.machine.Machine.{Machine}
use Rattle.host_store.specs.Kinds.{kind_at}
use Rattle.tcp_records.specs.declared.socket.TcpRecord.{TcpRecord}
use Rattle.tcp_records.specs.declared.tcp_listening.Listening.TheVariants as listening
use Rattle.tcp_records.specs.Holding.{is_held}
use Rattle.tcp_records.specs.Listening.{with_listening}
use Rattle.wasi_records.specs.Records.{tcp2_at}
use Rattle.wasi_walks.specs.Answered.{Answered}
use Rattle.wasi_causes.specs.GivenUp.{ListenerGoesBy}
use Rattle.wasi_causes.proofs.Ending.{listener_gone, listener_ok}
use Rattle.wasi_causes.proofs.p3_listens.p3_listeners_are_dropped.Goals as goal
use Rattle.wasi_causes.proofs.tables.Steps.{its_own, while_free}
use Rattle.wasi_steps.specs.declared.guest_call.GuestCall.TheVariants as guest
use Rattle.wasi_steps.specs.declared.guest_call.PollableCall.TheVariants as pollable_call
use Rattle.wasi_steps.specs.declared.reply.Field.{Field}
use Rattle.wasi_steps.specs.declared.reply.Reply.TheVariants as reply
use Rattle.wasi_steps.specs.declared.step.Step.TheVariants as step

-- by whether something else holds the network socket
by_held : (contexts : List WasiSocketsCtx) (m : Machine) (line ctx handle place : ℕ) (r : TcpRecord) (fields : List Field) (es : List Entry) (after : Machine) (held : Bool)
    → kind_at m.table handle ≡ Some (kind.Listen3 place) → tcp2_at m.store.records place ≡ Some r → is_held (with_listening r listening.Not) ≡ held
    → Answered contexts m line (step.Call ctx (guest.Pollable (pollable_call.Drop handle))) es (reply.Ok fields) after → ListenerGoesBy m line handle place r es after held
by_held contexts m line ctx handle place r fields es after held is at e w =
    subst (ListenerGoesBy m line handle place r es after) e
    (listener_gone contexts m line ctx handle place r is at es fields after (its_own contexts m line (step.Call ctx (guest.Pollable (pollable_call.Drop handle))) es (reply.Ok fields) after w (λ e. cc)))

pub returns : goal.returns
returns c = record {
  done = λ contexts m line ctx handle place entries reply after free is under w.
      listener_ok contexts m line ctx handle place is under entries reply after
      (while_free contexts m line (step.Call ctx (guest.Pollable (pollable_call.Drop handle))) free entries reply after w);
  given_up = λ contexts m line ctx handle place r fields entries after is at e w. (by_held contexts m line ctx handle place r fields entries after false is at e w).0;
  gone = λ contexts m line ctx handle place r fields entries after is at e w. (by_held contexts m line ctx handle place r fields entries after false is at e w).1;
  kept = λ contexts m line ctx handle place r fields entries after is at e w. by_held contexts m line ctx handle place r fields entries after true is at e w;
}
