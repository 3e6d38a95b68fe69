use Rattle.wasi_steps.specs.declared.guest_call.GuestCall.TheVariants as guest
use Rattle.wasi_steps.specs.declared.guest_call.TcpCall.TheVariants as tcp_call
use Rattle.wasi_steps.specs.declared.guest_call.UdpCall.TheVariants as udp_call
use Rattle.wasi_steps.specs.declared.guest_call.NameCall.TheVariants as name_call
use Rattle.wasi_steps.specs.declared.guest_call.P3TcpCall.TheVariants as p3_tcp_call
use Rattle.wasi_steps.specs.declared.guest_call.P3UdpCall.TheVariants as p3_udp_call
use Rattle.wasi_steps.specs.declared.guest_call.P3NameCall.TheVariants as p3_name_call
use Rattle.wasi_steps.specs.declared.step.Step.TheVariants as step
use Rattle.wasi_causes.proofs.Words.{context_at, inl, inr, refl, [], ◌≡◌, ◌⊎◌}
use Rattle.host_tcp.specs.Creates.{with_room}
use Rattle.wasi_steps.specs.declared.reply.Reply.TheVariants as said
use Rattle.wasi_causes.proofs.tables.Steps.{of_answer}
use Rattle.wasi_causes.specs.Outcomes.{Quiet}
use Rattle.wasi_causes.proofs.lookups.what_is_forbidden_asks_nothing.Goals as goal

pub returns : goal.returns
returns c = record {
  tcp = λ contexts m line ctx family entries reply after no. of_answer contexts m line (step.Call ctx (guest.Tcp (tcp_call.Create family))) (λ es r after. (es ≡ []) × (((r ≡ said.Busy) × (after ≡ m)) ⊎ (after ≡ with_room m (context_at contexts ctx)))) (refl, inl (refl, refl)) (λ es r after row. let left = row.0 no in (left.0, inr left.1)) entries reply after;
  p3_tcp = λ contexts m line ctx family entries reply after no. of_answer contexts m line (step.Call ctx (guest.P3Tcp (p3_tcp_call.Create family))) (λ es r after. Quiet m es after) (refl, refl) (λ es r after row. row.0 no) entries reply after;
  udp = λ contexts m line ctx family entries reply after no. of_answer contexts m line (step.Call ctx (guest.Udp (udp_call.Create family))) (λ es r after. Quiet m es after) (refl, refl) (λ es r after row. row.0 no) entries reply after;
  p3_udp = λ contexts m line ctx family entries reply after no. of_answer contexts m line (step.Call ctx (guest.P3Udp (p3_udp_call.Create family))) (λ es r after. Quiet m es after) (refl, refl) (λ es r after row. row.0 no) entries reply after;
  lookup = λ contexts m line ctx network name entries reply after no. of_answer contexts m line (step.Call ctx (guest.Names (name_call.Resolve network name))) (λ es r after. Quiet m es after) (refl, refl) (λ es r after row. row.0.0 no) entries reply after;
  p3_lookup = λ contexts m line ctx name entries reply after no. of_answer contexts m line (step.Call ctx (guest.P3Names (p3_name_call.Resolve name))) (λ es r after. Quiet m es after) (refl, refl) (λ es r after row. row.0.0 no) entries reply after;
}
