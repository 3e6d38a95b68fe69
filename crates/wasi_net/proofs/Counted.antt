-- One answered call, as the world counts it.
use Rattle.std.specs.Prelude.{option_map}
use Rattle.std.proofs.Common.{◌≡◌, ℕ, Bool, [], ◌∷◌, ◌++◌, None, refl, sym, ap, subst, ◌∙◌}
use Rattle.wasi_world.specs.declared.call.Entry.{Entry}
use Rattle.wasi_world.specs.Seen.{Seen, Counts, Passes}
use Rattle.wasi_net.specs.Net.{counts_of}

-- the count of faults goes by the answer, and nothing else changes
pub passes_one : (e : Entry) (ended : Bool) (closings faults now : ℕ) → Counts e.answer faults now → Passes (counts_of ended closings faults) (e ∷ []) (counts_of ended closings now)
passes_one e ended closings faults now h = record { log = refl; faults = (now, h, refl); ended = refl; closings = refl; plan = refl }

-- the same, where what is seen was asked and then counted
pub passes_seen : (e : Entry) (old mid new : Seen) → old.log ≡ None → new.log ≡ None → mid ≡ old → new ≡ record mid { faults = new.faults } → Counts e.answer mid.faults new.faults → Passes old (e ∷ []) new
passes_seen e old mid new unlogged silent kept counted h = record {
  log = silent ∙ sym (ap (λ log. option_map (λ es. es ++ e ∷ []) log) unlogged);
  faults = (new.faults, subst (λ (s : Seen). Counts e.answer s.faults new.faults) kept h, refl);
  ended = ap (λ (s : Seen). s.ended) counted ∙ ap (λ (s : Seen). s.ended) kept;
  closings = ap (λ (s : Seen). s.closings) counted ∙ ap (λ (s : Seen). s.closings) kept;
  plan = ap (λ (s : Seen). s.plan) counted ∙ ap (λ (s : Seen). s.plan) kept;
}
