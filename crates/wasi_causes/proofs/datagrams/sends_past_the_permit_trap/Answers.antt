use Rattle.wasi_causes.proofs.datagrams.sends_past_the_permit_trap.Goals as goal
use Rattle.wasi_causes.proofs.tables.Steps.{its_own, while_free}
use Rattle.wasi_steps.specs.declared.reply.Reply.TheVariants as reply
use Rattle.wasi_steps.specs.declared.guest_call.GuestCall.TheVariants as guest
use Rattle.wasi_steps.specs.declared.guest_call.UdpCall.TheVariants as udp_call
use Rattle.wasi_steps.specs.declared.step.Step.TheVariants as step
use Rattle.wasi_world.specs.declared.outcome.TrapKind.TheVariants.{NotPermitted}

pub returns : goal.returns
returns c = record {
  exactly = λ contexts m line ctx outgoing datagrams entries reply after free w. (while_free contexts m line (step.Call ctx (guest.Udp (udp_call.Send outgoing datagrams))) free entries reply after w).0;
  stays = λ contexts m line ctx outgoing datagrams entries after w. (its_own contexts m line (step.Call ctx (guest.Udp (udp_call.Send outgoing datagrams))) entries (reply.Trap NotPermitted) after w (λ e. cc)).1.1;
}
