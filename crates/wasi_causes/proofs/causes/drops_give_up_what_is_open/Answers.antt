use Rattle.wasi_causes.proofs.Words.{◌≡◌, [], refl, value_without_it, kind_at, own_of}
use Rattle.wasi_causes.proofs.Ending.{socket_ok, gives_up, asks_nothing, leaves, takes_out, dropped_free}
use Rattle.wasi_causes.proofs.causes.drops_give_up_what_is_open.Goals as goal
use Rattle.wasi_causes.proofs.tables.Steps.{its_own, of_answer, while_free}
use Rattle.wasi_causes.specs.GivenUp.{LooksOnce, NoLook}
use Rattle.wasi_steps.specs.declared.reply.Reply.TheVariants as reply
use Rattle.wasi_steps.specs.declared.guest_call.GuestCall.TheVariants as guest
use Rattle.wasi_steps.specs.declared.guest_call.PollableCall.TheVariants as pollable_call
use Rattle.wasi_steps.specs.declared.step.Step.TheVariants as step

pub returns : goal.returns
returns c = record {
  socket = λ contexts m line ctx handle place entries reply after free is under w. socket_ok contexts m line ctx handle place is under entries reply after (while_free contexts m line (step.Call ctx (guest.Pollable (pollable_call.Drop handle))) free entries reply after w);
  given_up = λ contexts m line ctx handle r fields entries after at w. (gives_up contexts m line ctx handle r entries after (kind_at m.table handle) refl at (its_own contexts m line (step.Call ctx (guest.Pollable (pollable_call.Drop handle))) entries (reply.Ok fields) after w (λ e. cc)).1.1.1).asked;
  gone = λ contexts m line ctx handle r fields entries after at w. (gives_up contexts m line ctx handle r entries after (kind_at m.table handle) refl at (its_own contexts m line (step.Call ctx (guest.Pollable (pollable_call.Drop handle))) entries (reply.Ok fields) after w (λ e. cc)).1.1.1).gone;
  plain = λ contexts m line ctx handle kind entries reply after is plain. of_answer contexts m line (step.Call ctx (guest.Pollable (pollable_call.Drop handle))) (λ es r after. es ≡ []) refl (λ es r after row. asks_nothing contexts m line ctx handle kind plain es (rw is at row.0.1)) entries reply after;
  plain_leaves = λ contexts m line ctx handle kind entries reply after is plain dropped w. leaves contexts m line ctx handle kind is plain entries reply after dropped (its_own contexts m line (step.Call ctx (guest.Pollable (pollable_call.Drop handle))) entries reply after w (dropped_free reply dropped));
  input_pipe = λ contexts m line ctx handle place bytes fields entries after is at w. let h = its_own contexts m line (step.Call ctx (guest.Pollable (pollable_call.Drop handle))) entries (reply.Ok fields) after w (λ e. cc) in (rw is at h.0.1, rw is at h.1.1.1 bytes at);
  output_pipe = λ contexts m line ctx handle place pipe fields entries after is at w. let h = its_own contexts m line (step.Call ctx (guest.Pollable (pollable_call.Drop handle))) entries (reply.Ok fields) after w (λ e. cc) in (rw is at h.0.1, rw is at h.1.1.1 pipe at);
  output = λ contexts m line ctx handle place entries reply after is. of_answer contexts m line (step.Call ctx (guest.Pollable (pollable_call.Drop handle))) (λ es r after. LooksOnce (own_of line) es) NoLook (λ es r after row. rw is at row.0.1) entries reply after;
  table = λ contexts m line ctx handle entries reply after dropped w. takes_out contexts m line ctx handle entries reply after dropped (its_own contexts m line (step.Call ctx (guest.Pollable (pollable_call.Drop handle))) entries reply after w (dropped_free reply dropped));
  not_live = λ contexts m line ctx handle entries reply after dropped w. rw (takes_out contexts m line ctx handle entries reply after dropped (its_own contexts m line (step.Call ctx (guest.Pollable (pollable_call.Drop handle))) entries reply after w (dropped_free reply dropped))) (value_without_it m.table.live handle);
}
