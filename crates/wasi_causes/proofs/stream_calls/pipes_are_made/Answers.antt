use Rattle.wasi_steps.specs.declared.guest_call.GuestCall.TheVariants as guest
use Rattle.wasi_steps.specs.declared.guest_call.PipeCall.TheVariants as pipe_call
use Rattle.wasi_steps.specs.declared.step.Step.TheVariants as step
use Rattle.wasi_steps.specs.declared.reply.Reply.TheVariants as reply
use Rattle.wasi_world.specs.declared.outcome.TrapKind.TheVariants.{Full}
use Rattle.wasi_causes.proofs.streams.Read.{full_quiet}
use Rattle.wasi_causes.proofs.tables.Steps.{its_own}
use Rattle.wasi_causes.proofs.stream_calls.pipes_are_made.Goals as goal

pub returns : goal.returns
returns c = record {
  pipe_in = λ contexts m line ctx bytes fields entries after w. (its_own contexts m line (step.Call ctx (guest.Pipe (pipe_call.In bytes))) entries (reply.Ok fields) after w (λ e. cc)).1.1;
  pipe_out = λ contexts m line ctx capacity fields entries after w. (its_own contexts m line (step.Call ctx (guest.Pipe (pipe_call.Out capacity))) entries (reply.Ok fields) after w (λ e. cc)).1.1;
  sink = λ contexts m line ctx fields entries after w. (its_own contexts m line (step.Call ctx (guest.Pipe pipe_call.Sink)) entries (reply.Ok fields) after w (λ e. cc)).1.1;
  closed_in = λ contexts m line ctx fields entries after w. (its_own contexts m line (step.Call ctx (guest.Pipe pipe_call.ClosedIn)) entries (reply.Ok fields) after w (λ e. cc)).1.1;
  closed_out = λ contexts m line ctx fields entries after w. (its_own contexts m line (step.Call ctx (guest.Pipe pipe_call.ClosedOut)) entries (reply.Ok fields) after w (λ e. cc)).1.1;
  full = λ contexts m line s entries after makes w. let h = full_quiet contexts m line s entries after makes (its_own contexts m line s entries (reply.Trap Full) after w (λ e. cc)).1 in (h.0, h.1.0, h.1.1);
}
