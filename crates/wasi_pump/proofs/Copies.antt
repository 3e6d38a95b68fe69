-- One piece more is copied.
use Rattle.std.proofs.Common.{◌≡◌, ◌==◌, ◌-◌, ◌+◌, ℕ, Bool, true, false, if◌then◌else◌, List, [], ◌∷◌, ◌++◌, length, refl, ap, ◌∙◌, sym, append-nil, eqb-true, arith}
use Rattle.std.specs.List.{concat}
use Rattle.std.proofs.lemmas.List.{nil_from_length}
use Rattle.wasi_writer.specs.Stream.{WriteStream, with_bytes}
use Rattle.worker_shared.proofs.Chunks.{concat_end}
use Rattle.wasi_pump.specs.Copying.{Appended, counted}

appended_if : (b : Bool) (w : WriteStream) (bytes : List ℕ) → (b ≡ true → bytes ≡ [])
    → Appended w bytes (if b then w else record w { chunks = w.chunks ++ bytes ∷ []; permit = w.permit - length bytes; flush = false; ready = false })
appended_if true w bytes none = record { chunks = sym (append-nil (concat w.chunks)) ∙ ap (λ l. concat w.chunks ++ l) (sym (none refl)); flush = λ f. f }
appended_if false w bytes none = record { chunks = concat_end w.chunks bytes; flush = λ f. refl }

-- an accepted write appends its bytes
pub appended : (w : WriteStream) (bytes : List ℕ) → Appended w bytes (with_bytes w bytes)
appended w bytes = appended_if (length bytes == 0) w bytes (λ is. nil_from_length bytes (eqb-true (length bytes) 0 is))

-- what was counted stays what is counted
pub counted_more : (n m : ℕ) → counted (counted n + m) ≡ counted (n + m)
counted_more n m = omega arith
