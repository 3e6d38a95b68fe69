use Rattle.wasi_causes.proofs.datagrams.sends_have_causes.Goals as goal
use Rattle.wasi_causes.proofs.tables.Steps.{its_own}
use Rattle.wasi_causes.proofs.udp_streams.SendAsks.{none_counted, of_outgoing, sends_ask, sends_count}
use Rattle.wasi_steps.specs.Reply.{number_fields}
use Rattle.wasi_steps.specs.declared.reply.Reply.TheVariants as reply
use Rattle.wasi_steps.specs.declared.guest_call.GuestCall.TheVariants as guest
use Rattle.wasi_steps.specs.declared.guest_call.UdpCall.TheVariants as udp_call
use Rattle.wasi_steps.specs.declared.step.Step.TheVariants as step

pub returns : goal.returns
returns c = record {
  count = λ contexts m line ctx outgoing datagrams fields entries after w. (its_own contexts m line (step.Call ctx (guest.Udp (udp_call.Send outgoing datagrams))) entries (reply.Ok fields) after w (λ e. cc)).1.1.0;
  cause = λ contexts m line ctx outgoing datagrams entries word after w. (its_own contexts m line (step.Call ctx (guest.Udp (udp_call.Send outgoing datagrams))) entries (reply.Err word) after w (λ e. cc)).1.1.0;
  spends = λ contexts m line ctx outgoing datagrams fields entries after some w. (its_own contexts m line (step.Call ctx (guest.Udp (udp_call.Send outgoing datagrams))) entries (reply.Ok fields) after w (λ e. cc)).1.1.1 some;
  spends_refused = λ contexts m line ctx outgoing datagrams entries word after w. (its_own contexts m line (step.Call ctx (guest.Udp (udp_call.Send outgoing datagrams))) entries (reply.Err word) after w (λ e. cc)).1.1.1;
  asked = λ contexts m line ctx outgoing datagrams before rest e reply after w. sends_ask m line ctx outgoing datagrams contexts before e rest reply after w;
  sent = λ contexts m line ctx outgoing datagrams fields entries after w. of_outgoing _ _ (λ place o out k. k.0) (sends_count m line ctx outgoing datagrams contexts entries (reply.Ok fields) after w);
  fewer = λ contexts m line ctx outgoing datagrams fields entries after w. of_outgoing _ _ (λ place o out k. k.1) (sends_count m line ctx outgoing datagrams contexts entries (reply.Ok fields) after w);
  none = λ contexts m line ctx outgoing datagrams entries after w. none_counted m line outgoing datagrams entries _ (sends_count m line ctx outgoing datagrams contexts entries (reply.Ok (number_fields 0)) after w);
}
