use Rattle.wasi_causes.proofs.p3_streams.p3_results.Goals as goal
use Rattle.wasi_steps.specs.declared.guest_call.GuestCall.TheVariants as guest
use Rattle.wasi_steps.specs.declared.guest_call.P3TcpCall.TheVariants as p3_tcp_call
use Rattle.wasi_steps.specs.declared.step.Step.TheVariants as step
use Rattle.wasi_steps.specs.declared.reply.Reply.TheVariants as reply
use Rattle.wasi_world.specs.declared.outcome.TrapKind.TheVariants as trap
use Rattle.wasi_causes.proofs.Children.{results_have_none}
use Rattle.wasi_causes.proofs.tables.Steps.{its_own, of_answer, while_free}
use Rattle.std.specs.Prelude.{[], ◌≡◌, refl}

pub returns : goal.returns
returns c = record {
  well = λ contexts m line ctx handle entries fields after w.
      (its_own contexts m line (step.Call ctx (guest.P3Tcp (p3_tcp_call.Result handle))) entries (reply.Ok fields) after w
      (λ e. cc)).1.1;
  ill = λ contexts m line ctx handle entries word after w.
      (its_own contexts m line (step.Call ctx (guest.P3Tcp (p3_tcp_call.Result handle))) entries (reply.Err word) after w
      (λ e. cc)).1.1;
  unfilled_stays = λ contexts m line ctx handle entries after w.
      (its_own contexts m line (step.Call ctx (guest.P3Tcp (p3_tcp_call.Result handle))) entries reply.Unfilled after w
      (λ e. cc)).1.1.1;
  has_children = λ contexts m line ctx handle entries after w.
      ((its_own contexts m line (step.Call ctx (guest.P3Tcp (p3_tcp_call.Result handle))) entries (reply.Trap trap.HasChildren) after w
      (λ e. cc)).0.2 refl).0;
  never = λ contexts steps log replies m line ctx handle entries after ran w.
      results_have_none contexts steps log replies m ran line ctx handle entries after
      (its_own contexts m line (step.Call ctx (guest.P3Tcp (p3_tcp_call.Result handle))) entries (reply.Trap trap.HasChildren) after w (λ e. cc));
  unfilled = λ contexts m line ctx handle entries reply after free w.
      (while_free contexts m line (step.Call ctx (guest.P3Tcp (p3_tcp_call.Result handle))) free entries reply after w).0.1;
  quiet = λ contexts m line ctx handle entries reply after w.
      of_answer contexts m line (step.Call ctx (guest.P3Tcp (p3_tcp_call.Result handle))) (λ es r after. es ≡ []) refl (λ es r after row. row.0.0) entries reply after w;
}
