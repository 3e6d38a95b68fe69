use Rattle.wasi_causes.proofs.Words.{first_ids, nothing_stands, refl}
use Rattle.host_store.specs.declared.store.BlockingCall.TheVariants as blocking
use Rattle.wasi_host.specs.declared.polling.Look.TheVariants.{First, Later}
use Rattle.wasi_steps.specs.declared.reply.Reply.TheVariants as reply
use Rattle.wasi_steps.specs.declared.guest_call.GuestCall.TheVariants as guest
use Rattle.wasi_steps.specs.declared.guest_call.PollableCall.TheVariants as pollable_call
use Rattle.wasi_steps.specs.declared.step.Step.TheVariants as step
use Rattle.wasi_causes.proofs.pollables.AsReady.{begun_stands, block_stands, cancelled_so, list_stands}
use Rattle.wasi_causes.proofs.tables.Steps.{its_own, other_free, unheld, while_free}
use Rattle.wasi_causes.proofs.waiting.pending_waits_are_for_their_pollables.Goals as goal

pub returns : goal.returns
returns c = record {
  one = λ contexts m line ctx pollable number entries after free w. block_stands contexts m ctx (first_ids line) pollable First number refl ((while_free contexts m line (step.Call ctx (guest.Pollable (pollable_call.Block pollable))) free entries (reply.Pending number) after w).0 free);
  several = λ contexts m line ctx number pollables entries after free w. begun_stands m line pollables number refl (while_free contexts m line (step.Call ctx (guest.Pollable (pollable_call.PollList pollables))) free entries (reply.Pending number) after w).0;
  one_polled = λ contexts m line pollable number ids entries after stands w.
      block_stands contexts (nothing_stands m) 0 ids pollable Later number refl ((its_own contexts m line (step.Poll ids.line) entries (reply.Pending number) after w (λ e. cc)).0.2 0 ids (blocking.Block pollable) stands refl tt);
  several_polled = λ contexts m line number pollables ids entries after stands w.
      list_stands (nothing_stands m) ids.line pollables Later number refl ((its_own contexts m line (step.Poll ids.line) entries (reply.Pending number) after w (λ e. cc)).0.2 0 ids (blocking.Poll pollables) stands refl tt);
  cancelled = λ contexts m line ids call entries reply after stands w. cancelled_so contexts m line ids call stands entries reply after (unheld contexts m line (step.Cancel ids.line) (other_free contexts m line (step.Cancel ids.line) refl refl) entries reply after w);
}
