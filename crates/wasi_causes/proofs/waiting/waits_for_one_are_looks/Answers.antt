use Rattle.wasi_causes.proofs.Words.{first_ids}
use Rattle.wasi_host.specs.declared.polling.Look.TheVariants.{First}
use Rattle.wasi_steps.specs.declared.guest_call.GuestCall.TheVariants as guest
use Rattle.wasi_steps.specs.declared.guest_call.PollableCall.TheVariants as pollable_call
use Rattle.wasi_steps.specs.declared.step.Step.TheVariants as step
use Rattle.wasi_causes.proofs.pollables.AsReady.{done_as, traps_as, waits_as}
use Rattle.wasi_causes.proofs.pollables.Live.{block_keeps}
use Rattle.wasi_causes.proofs.tables.Steps.{while_free}
use Rattle.wasi_causes.proofs.waiting.waits_for_one_are_looks.Goals as goal

pub returns : goal.returns
returns c = record {
  looks = λ contexts m line ctx pollable entries reply after free w. (while_free contexts m line (step.Call ctx (guest.Pollable (pollable_call.Block pollable))) free entries reply after w).0 free;
  ready = λ contexts m line ctx pollable entries after free w. done_as contexts m line ctx pollable free entries after w;
  unready = λ contexts m line ctx pollable entries after free w. waits_as contexts m line ctx pollable free entries after w;
  traps = λ contexts m line ctx pollable entries kind after free w. traps_as contexts m line ctx pollable free entries kind after w;
  handles = λ contexts m line ctx pollable entries reply after free w. block_keeps contexts ctx (first_ids line) m pollable First entries reply after free ((while_free contexts m line (step.Call ctx (guest.Pollable (pollable_call.Block pollable))) free entries reply after w).0 free);
}
