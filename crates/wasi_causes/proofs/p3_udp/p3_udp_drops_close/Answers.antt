use Rattle.wasi_causes.proofs.p3_udp.p3_udp_drops_close.Goals as goal
use Rattle.wasi_steps.specs.declared.guest_call.GuestCall.TheVariants as guest
use Rattle.wasi_steps.specs.declared.guest_call.PollableCall.TheVariants as pollable_call
use Rattle.wasi_steps.specs.declared.step.Step.TheVariants as step
use Rattle.wasi_steps.specs.declared.reply.Reply.TheVariants as reply
use Rattle.wasi_causes.proofs.Ending.{udp3_free, udp3_held, udp3_ok}
use Rattle.wasi_causes.proofs.tables.Steps.{its_own, while_free}

pub returns : goal.returns
returns c = record {
  done = λ contexts m line ctx handle place entries reply after free is under w.
      udp3_ok contexts m line ctx handle place is under entries reply after
      (while_free contexts m line (step.Call ctx (guest.Pollable (pollable_call.Drop handle))) free entries reply after w);
  closed = λ contexts m line ctx handle place u entries fields after is at none w.
      (udp3_free contexts m line ctx handle place u is at none entries fields after
      (its_own contexts m line (step.Call ctx (guest.Pollable (pollable_call.Drop handle))) entries (reply.Ok fields) after w (λ e. cc))).0;
  left = λ contexts m line ctx handle place u entries fields after is at none w.
      (udp3_free contexts m line ctx handle place u is at none entries fields after
      (its_own contexts m line (step.Call ctx (guest.Pollable (pollable_call.Drop handle))) entries (reply.Ok fields) after w (λ e. cc))).1;
  held = λ contexts m line ctx handle place o entries fields after is at some w.
      udp3_held contexts m line ctx handle place o is at some entries fields after
      (its_own contexts m line (step.Call ctx (guest.Pollable (pollable_call.Drop handle))) entries (reply.Ok fields) after w (λ e. cc));
}
