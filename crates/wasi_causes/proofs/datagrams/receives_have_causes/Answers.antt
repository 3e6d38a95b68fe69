use Rattle.wasi_causes.proofs.datagrams.receives_have_causes.Goals as goal
use Rattle.wasi_causes.proofs.tables.Steps.{its_own}
use Rattle.wasi_causes.proofs.udp_streams.From.{runs_receive_from}
use Rattle.wasi_causes.proofs.udp_streams.ReceiveAsks.{none_handed, of_incoming, receives_ask, receives_came}
use Rattle.std.specs.Prelude.{[]}
use Rattle.wasi_steps.specs.Reply.{datagram_values}
use Rattle.wasi_steps.specs.declared.reply.Reply.TheVariants as reply
use Rattle.wasi_steps.specs.declared.guest_call.GuestCall.TheVariants as guest
use Rattle.wasi_steps.specs.declared.guest_call.UdpCall.TheVariants as udp_call
use Rattle.wasi_steps.specs.declared.step.Step.TheVariants as step

pub returns : goal.returns
returns c = record {
  from = λ contexts steps log replies m line ctx incoming most fields entries after w a. runs_receive_from contexts steps log replies m w line ctx incoming most fields entries after a;
  datagrams = λ contexts m line ctx incoming most fields entries after w. (its_own contexts m line (step.Call ctx (guest.Udp (udp_call.Receive incoming most))) entries (reply.Ok fields) after w (λ e. cc)).1.1;
  cause = λ contexts m line ctx incoming most entries word after w. (its_own contexts m line (step.Call ctx (guest.Udp (udp_call.Receive incoming most))) entries (reply.Err word) after w (λ e. cc)).1.1;
  asked = λ contexts m line ctx incoming most before rest e reply after w. receives_ask m line ctx incoming most contexts before e rest reply after w;
  came = λ contexts m line ctx incoming most fields entries after w. of_incoming _ _ (λ place o inc k. k.0) (receives_came m line ctx incoming most contexts entries (reply.Ok fields) after w);
  fewer = λ contexts m line ctx incoming most fields entries after w. of_incoming _ _ (λ place o inc k. k.1) (receives_came m line ctx incoming most contexts entries (reply.Ok fields) after w);
  none = λ contexts m line ctx incoming most entries after w. none_handed m line incoming most entries after.store.records (receives_came m line ctx incoming most contexts entries (reply.Ok (datagram_values [])) after w);
}
