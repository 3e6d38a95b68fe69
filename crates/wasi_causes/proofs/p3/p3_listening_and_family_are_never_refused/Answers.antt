use Rattle.wasi_causes.proofs.p3.p3_listening_and_family_are_never_refused.Goals as goal
use Rattle.wasi_causes.proofs.tables.Steps.{may_be, of_answer}
use Rattle.wasi_steps.specs.declared.guest_call.GuestCall.TheVariants as guest
use Rattle.wasi_steps.specs.declared.guest_call.P3TcpCall.TheVariants as p3_tcp_call
use Rattle.wasi_steps.specs.declared.reply.Reply.TheVariants as reply
use Rattle.wasi_steps.specs.declared.step.Step.TheVariants as step
use Rattle.wasi_causes.proofs.Words.{refl}
use Rattle.wasi_causes.specs.Outcomes.{Quiet}

pub returns : goal.returns
returns c = record {
  listening = λ contexts m line ctx handle entries word after w. may_be contexts m line
      (step.Call ctx (guest.P3Tcp (p3_tcp_call.IsListening handle))) entries (reply.Err word) after w;
  listening_is_quiet = λ contexts m line ctx handle. of_answer contexts m line
      (step.Call ctx (guest.P3Tcp (p3_tcp_call.IsListening handle))) (λ es r after. Quiet m es after) (refl, refl)
      (λ es r after row. row.0);
  family = λ contexts m line ctx handle entries word after w. may_be contexts m line
      (step.Call ctx (guest.P3Tcp (p3_tcp_call.AddressFamily handle))) entries (reply.Err word) after w;
  family_is_quiet = λ contexts m line ctx handle. of_answer contexts m line
      (step.Call ctx (guest.P3Tcp (p3_tcp_call.AddressFamily handle))) (λ es r after. Quiet m es after) (refl, refl)
      (λ es r after row. row.0);
}
