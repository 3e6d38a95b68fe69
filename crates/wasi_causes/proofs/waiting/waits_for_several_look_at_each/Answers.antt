use Rattle.wasi_causes.proofs.Words.{[]}
use Rattle.wasi_steps.specs.declared.guest_call.GuestCall.TheVariants as guest
use Rattle.wasi_steps.specs.declared.guest_call.PollableCall.TheVariants as pollable_call
use Rattle.wasi_steps.specs.declared.step.Step.TheVariants as step
use Rattle.wasi_causes.proofs.Runs.{lists_trap}
use Rattle.wasi_causes.proofs.pollables.AsReady.{first_so, for_none, no_pollables}
use Rattle.wasi_causes.proofs.pollables.Live.{begun_keeps}
use Rattle.wasi_causes.proofs.tables.Steps.{while_free}
use Rattle.wasi_causes.proofs.waiting.waits_for_several_look_at_each.Goals as goal

pub returns : goal.returns
returns c = record {
  none = λ contexts m line ctx entries reply after free w. for_none m line ((while_free contexts m line (step.Call ctx (guest.Pollable (pollable_call.PollList []))) free entries reply after w).0);
  no_pollable = λ contexts m line ctx pollables entries reply after free some none w. no_pollables m line pollables some none ((while_free contexts m line (step.Call ctx (guest.Pollable (pollable_call.PollList pollables))) free entries reply after w).0);
  looks = λ contexts m line ctx pollables entries reply after free w. (while_free contexts m line (step.Call ctx (guest.Pollable (pollable_call.PollList pollables))) free entries reply after w).0;
  as_ready = λ contexts m line ctx pollable entries ready after free. first_so contexts m line ctx pollable free entries ready after;
  handles = λ contexts m line ctx pollables entries reply after free w. begun_keeps m line pollables entries reply after (while_free contexts m line (step.Call ctx (guest.Pollable (pollable_call.PollList pollables))) free entries reply after w).0;
  in_runs = λ contexts steps log replies m line ctx pollables entries kind after w a. lists_trap contexts steps log replies m w line ctx pollables entries kind after a;
}
