use Rattle.wasi_causes.proofs.causes.traps_have_causes.Goals as goal
use Rattle.wasi_causes.proofs.tables.Steps.{trap_kinds, its_own, missing_left, while_free}
use Rattle.wasi_steps.specs.declared.reply.Reply.TheVariants as reply
use Rattle.wasi_steps.specs.declared.guest_call.GuestCall.TheVariants as guest
use Rattle.wasi_steps.specs.declared.guest_call.PollableCall.TheVariants as pollable_call
use Rattle.wasi_steps.specs.declared.step.Step.TheVariants as step
use Rattle.wasi_world.specs.declared.outcome.TrapKind.TheVariants.{NoSuchHandle, HasChildren, Full, NotPermitted, StreamsAlive, Capacity, TooLong, EmptyList}

pub returns : goal.returns
returns c = record {
  kinds = λ contexts m line s entries kind after w. trap_kinds contexts m line s entries kind after (its_own contexts m line s entries (reply.Trap kind) after w (λ e. cc)).1;
  no_such_handle = λ contexts m line s entries after w. (its_own contexts m line s entries (reply.Trap NoSuchHandle) after w (λ e. cc)).1.0;
  no_such_handle_stays = λ contexts m line s entries after live there w. missing_left m s entries after live there (its_own contexts m line s entries (reply.Trap NoSuchHandle) after w (λ e. cc)).1.1;
  has_children = λ contexts m line ctx handle entries reply after free w. (while_free contexts m line (step.Call ctx (guest.Pollable (pollable_call.Drop handle))) free entries reply after w).0.0;
  has_children_stays = λ contexts m line s entries after w. (its_own contexts m line s entries (reply.Trap HasChildren) after w (λ e. cc)).1.1;
  takes_out = λ contexts m line s entries after w. (its_own contexts m line s entries (reply.Trap HasChildren) after w (λ e. cc)).1.0;
  full = λ contexts m line s entries after w. let h = (its_own contexts m line s entries (reply.Trap Full) after w (λ e. cc)).1 in (h.0, h.1.0);
  full_marks = λ contexts m line s entries after w. (its_own contexts m line s entries (reply.Trap Full) after w (λ e. cc)).1.1.1;
  streams_alive = λ contexts m line s entries after w. let h = (its_own contexts m line s entries (reply.Trap StreamsAlive) after w (λ e. cc)).1 in (h.0, h.1.0, h.1.1);
  capacity = λ contexts m line s entries after w. let h = (its_own contexts m line s entries (reply.Trap Capacity) after w (λ e. cc)).1 in (h.0, h.1.0, h.1.1);
  too_long = λ contexts m line s entries after w. let h = (its_own contexts m line s entries (reply.Trap TooLong) after w (λ e. cc)).1 in (h.0, h.1.0, h.1.1);
  empty_list = λ contexts m line s entries after w. let h = (its_own contexts m line s entries (reply.Trap EmptyList) after w (λ e. cc)).1 in (h.0, h.1.0, h.1.1);
  not_permitted = λ contexts m line s entries after w. (its_own contexts m line s entries (reply.Trap NotPermitted) after w (λ e. cc)).1.0;
}
