use Rattle.wasi_causes.proofs.Runs.{run_socket}
use Rattle.wasi_causes.proofs.datagrams.udp_streams_wait_for_their_connect.Goals as goal
use Rattle.wasi_causes.proofs.tables.Steps.{its_own}
use Rattle.wasi_steps.specs.declared.reply.Reply.TheVariants as reply
use Rattle.wasi_steps.specs.declared.guest_call.GuestCall.TheVariants as guest
use Rattle.wasi_steps.specs.declared.guest_call.UdpCall.TheVariants as udp_call
use Rattle.wasi_steps.specs.declared.step.Step.TheVariants as step

pub returns : goal.returns
returns c = record {
  waits = λ contexts m line ctx handle remote entries number after w. (its_own contexts m line (step.Call ctx (guest.Udp (udp_call.Stream handle remote))) entries (reply.Pending number) after w (λ e. cc)).1.1.1;
  handles = λ contexts m line ctx handle remote entries number after w. (its_own contexts m line (step.Call ctx (guest.Udp (udp_call.Stream handle remote))) entries (reply.Pending number) after w (λ e. cc)).1.1.0;
  live = λ contexts steps log replies m w. run_socket contexts steps log replies m w;
}
