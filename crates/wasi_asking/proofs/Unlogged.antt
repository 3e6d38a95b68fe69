-- One answer that a world without a log gave, and that is no code.
use Rattle.std.specs.Prelude.{option_map}
use Rattle.std.proofs.Common.{◌≡◌, [], ◌∷◌, ◌++◌, None, refl, sym, ap, subst, ◌∙◌}
use Rattle.wasi_world.specs.declared.call.Entry.{Entry}
use Rattle.wasi_world.specs.Seen.{Seen, Counts, Passes}

pub passes_unlogged : (e : Entry) (old new : Seen) → old.log ≡ None → new ≡ old → Counts e.answer old.faults old.faults → Passes old (e ∷ []) new
passes_unlogged e old new unlogged same uncounted =
    subst (λ (s : Seen). Passes old (e ∷ []) s) (sym same)
    (record {
      log = unlogged ∙ sym (ap (λ log. option_map (λ es. es ++ e ∷ []) log) unlogged);
      faults = (old.faults, uncounted, refl);
      ended = refl;
      closings = refl;
      plan = refl;
    })
