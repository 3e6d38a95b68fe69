use Rattle.wasi_causes.proofs.Words.{ℕ, inl, inr, subst}
use Rattle.wasi_causes.specs.P3Connects.{BesidePolled}
use Rattle.wasi_steps.specs.declared.guest_call.GuestCall.TheVariants as guest
use Rattle.wasi_steps.specs.declared.guest_call.TcpCall.TheVariants as tcp_call
use Rattle.wasi_steps.specs.declared.guest_call.PollableCall.TheVariants as pollable_call
use Rattle.wasi_steps.specs.declared.step.Step.TheVariants as step
use Rattle.wasi_steps.specs.declared.reply.Reply.TheVariants as reply
use Rattle.wasi_causes.proofs.tables.Steps.{its_own, pends_under}
use Rattle.wasi_causes.proofs.pending_calls.pending_where_told.Goals as goal

pub returns : goal.returns
returns c = record {
  step = λ contexts m line s entries number after w. (its_own contexts m line (s) entries (reply.Pending number) after w (λ e. cc)).1.0.0;
  stands = λ contexts m line s entries number after w. pends_under s number after (its_own contexts m line (s) entries (reply.Pending number) after w (λ e. cc)).1.0.1;
  told = λ contexts m line ctx handle network a entries number after w. (its_own contexts m line (step.Call ctx (guest.Tcp (tcp_call.StartBind handle network a))) entries (reply.Pending number) after w (λ e. cc)).1.1;
  listen = λ contexts m line ctx handle entries number after w. (its_own contexts m line (step.Call ctx (guest.Tcp (tcp_call.StartListen handle))) entries (reply.Pending number) after w (λ e. cc)).1.1;
  output = λ contexts m line ctx handle entries number after w. (its_own contexts m line (step.Call ctx (guest.Pollable (pollable_call.Drop handle))) entries (reply.Pending number) after w (λ e. cc)).1.1.1;
  polled = λ contexts m line n entries number after binds w.
      let row = its_own contexts m line (step.Poll n) entries (reply.Pending number) after w (λ e. cc) in
      elim row.1.1.0 [
        | inl why ↦ inl (why binds)
        | inr beside ↦ inr (subst (λ (k : ℕ). BesidePolled m n entries (reply.Pending k) after) row.1.0.0 (row.0.3 beside))
      ];
}
