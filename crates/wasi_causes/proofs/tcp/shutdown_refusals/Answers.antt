use Rattle.wasi_steps.specs.declared.guest_call.GuestCall.TheVariants as guest
use Rattle.wasi_steps.specs.declared.guest_call.TcpCall.TheVariants as tcp_call
use Rattle.wasi_steps.specs.declared.step.Step.TheVariants as step
use Rattle.wasi_steps.specs.declared.reply.Reply.TheVariants as reply
use Rattle.host_store.specs.Machine.{socket_at}
use Rattle.wasi_causes.proofs.streams.Routes.{more_of}
use Rattle.wasi_causes.proofs.tables.Steps.{its_own, while_free}
use Rattle.wasi_causes.proofs.tcp.shutdown_refusals.Goals as goal

pub returns : goal.returns
returns c = record {
  exactly = λ contexts m line ctx handle how entries reply after free w. (while_free contexts m line (step.Call ctx (guest.Tcp (tcp_call.Shutdown handle how))) free entries reply after w).0;
  no_other = λ contexts m line ctx handle how entries word after w. (its_own contexts m line (step.Call ctx (guest.Tcp (tcp_call.Shutdown handle how))) entries (reply.Err word) after w (λ e. cc)).1.0;
  stays = λ contexts m line ctx handle how entries word after w. (its_own contexts m line (step.Call ctx (guest.Tcp (tcp_call.Shutdown handle how))) entries (reply.Err word) after w (λ e. cc)).1.1;
  asked = λ contexts m line ctx handle how fields entries after w. more_of m (socket_at m handle) (λ place r s h. h.0) (its_own contexts m line (step.Call ctx (guest.Tcp (tcp_call.Shutdown handle how))) entries (reply.Ok fields) after w (λ e. cc)).1.1;
  left = λ contexts m line ctx handle how fields entries after w. more_of m (socket_at m handle) (λ place r s h. h.1) (its_own contexts m line (step.Call ctx (guest.Tcp (tcp_call.Shutdown handle how))) entries (reply.Ok fields) after w (λ e. cc)).1.1;
}
