use Rattle.wasi_causes.proofs.p3_streams.p3_ends_are_dropped.Goals as goal
use Rattle.wasi_steps.specs.declared.guest_call.GuestCall.TheVariants as guest
use Rattle.wasi_steps.specs.declared.guest_call.PollableCall.TheVariants as pollable_call
use Rattle.wasi_steps.specs.declared.step.Step.TheVariants as step
use Rattle.wasi_steps.specs.declared.reply.Reply.TheVariants as reply
use Rattle.host_store.specs.declared.kind.Kind.TheVariants as kind
use Rattle.wasi_causes.proofs.Ending.{end_ok, read_end_gone, result_gone, write_end_gone}
use Rattle.wasi_causes.proofs.tables.Steps.{its_own, while_free}

pub returns : goal.returns
returns c = record {
  receives = λ contexts m line ctx handle end fields entries after is w.
      read_end_gone contexts m line ctx handle end is entries fields after (its_own contexts m line (step.Call ctx (guest.Pollable (pollable_call.Drop handle))) entries (reply.Ok fields) after w (λ e. cc));
  sends = λ contexts m line ctx handle end fields entries after is w.
      write_end_gone contexts m line ctx handle end is entries fields after (its_own contexts m line (step.Call ctx (guest.Pollable (pollable_call.Drop handle))) entries (reply.Ok fields) after w (λ e. cc));
  result = λ contexts m line ctx handle place s fields entries after is at w.
      result_gone contexts m line ctx handle place s is at entries fields after (its_own contexts m line (step.Call ctx (guest.Pollable (pollable_call.Drop handle))) entries (reply.Ok fields) after w (λ e. cc));
  receive_done = λ contexts m line ctx handle end entries reply after free is under w.
      end_ok contexts m line ctx handle (kind.Receive3 end) tt is under entries reply after
      (while_free contexts m line (step.Call ctx (guest.Pollable (pollable_call.Drop handle))) free entries reply after w);
  send_done = λ contexts m line ctx handle end entries reply after free is under w.
      end_ok contexts m line ctx handle (kind.Send3 end) tt is under entries reply after
      (while_free contexts m line (step.Call ctx (guest.Pollable (pollable_call.Drop handle))) free entries reply after w);
  result_done = λ contexts m line ctx handle place entries reply after free is under w.
      end_ok contexts m line ctx handle (kind.Result3 place) tt is under entries reply after
      (while_free contexts m line (step.Call ctx (guest.Pollable (pollable_call.Drop handle))) free entries reply after w);
}
