use Rattle.wasi_causes.proofs.datagrams.udp_streams_make_two_handles.Goals as goal
use Rattle.wasi_causes.proofs.tables.Steps.{its_own, while_free}
use Rattle.wasi_steps.specs.declared.reply.Reply.TheVariants as reply
use Rattle.wasi_steps.specs.declared.guest_call.GuestCall.TheVariants as guest
use Rattle.wasi_steps.specs.declared.guest_call.UdpCall.TheVariants as udp_call
use Rattle.wasi_steps.specs.declared.step.Step.TheVariants as step
use Rattle.wasi_world.specs.declared.outcome.TrapKind.TheVariants.{Full, StreamsAlive}

pub returns : goal.returns
returns c = record {
  numbers = λ contexts m line ctx handle remote fields entries after w. (its_own contexts m line (step.Call ctx (guest.Udp (udp_call.Stream handle remote))) entries (reply.Ok fields) after w (λ e. cc)).1.1.0.0;
  made = λ contexts m line ctx handle remote fields entries after w. (its_own contexts m line (step.Call ctx (guest.Udp (udp_call.Stream handle remote))) entries (reply.Ok fields) after w (λ e. cc)).1.1.0.1;
  new = λ contexts m line ctx handle remote fields entries after w. (its_own contexts m line (step.Call ctx (guest.Udp (udp_call.Stream handle remote))) entries (reply.Ok fields) after w (λ e. cc)).1.1.1.0;
  asked = λ contexts m line ctx handle remote fields entries after w. (its_own contexts m line (step.Call ctx (guest.Udp (udp_call.Stream handle remote))) entries (reply.Ok fields) after w (λ e. cc)).1.1.1.1;
  alive = λ contexts m line ctx handle remote entries reply after free w. (while_free contexts m line (step.Call ctx (guest.Udp (udp_call.Stream handle remote))) free entries reply after w).0.0;
  alive_stays = λ contexts m line ctx handle remote entries after w. (its_own contexts m line (step.Call ctx (guest.Udp (udp_call.Stream handle remote))) entries (reply.Trap StreamsAlive) after w (λ e. cc)).1.1;
  full = λ contexts m line ctx handle remote entries after w. (its_own contexts m line (step.Call ctx (guest.Udp (udp_call.Stream handle remote))) entries (reply.Trap Full) after w (λ e. cc)).1.2;
}
