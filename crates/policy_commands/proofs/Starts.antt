-- A world under rules that was asked nothing yet.
use Rattle.std.proofs.Common.{◌≡◌, ℕ, Bool, false, List, [], Option, Some, None, ap, ◌∙◌, refl}
use Rattle.std.specs.Prelude.{option_map}
use Rattle.wasi_world.specs.declared.call.Entry.{Entry}
use Rattle.wasi_world.specs.Seen.{Seen}
use Rattle.wasi_records.specs.Closing.{IsFresh}
use Rattle.wasi_policy.specs.Policed.{merged, seen_under}
use Rattle.policy_commands.specs.Run.{at_start}

abbrev seen_of : Option (List Entry) → Bool → ℕ → ℕ → Seen
seen_of log ended closings faults = record { log = option_map (merged []) log; ended = ended; closings = closings; faults = faults; plan = None }

pub start_is : (seen : Seen) → seen.log ≡ Some [] → seen.ended ≡ false → seen.closings ≡ 0 → seen.faults ≡ 0 → seen_under [] seen ≡ at_start
start_is seen log ended closings faults =
    ap (λ l. seen_of l seen.ended seen.closings seen.faults) log
    ∙ (ap (λ e. seen_of (Some []) e seen.closings seen.faults) ended
    ∙ (ap (λ c. seen_of (Some []) false c seen.faults) closings ∙ ap (λ f. seen_of (Some []) false 0 f) faults))

pub fresh_start : IsFresh at_start
fresh_start = record { log = refl; closings = refl }
