-- The handles of a poll-list are read exactly, and written in visible characters.
use Rattle.std.proofs.Common.{◌≡◌, ℕ, ◌<◌, List, [], ◌∷◌, ◌++◌, length, decimal, Some, None, arith}
use Rattle.std.proofs.lemmas.List.Concat.{flat_map_single}
use Rattle.world_text.specs.Fields.{number_at}
use Rattle.world_text.specs.Written.{AreVisible, number_fields}
use Rattle.world_text.proofs.UpTo.{before}
use Rattle.world_text.proofs.ReadBack.{u32_exactly}
use Rattle.world_text.proofs.Visible.{number_visible}
use Rattle.wasi_steps.specs.HandleLists.{handles_fields, IsHandle, FitsHandles, handles_at}
use Rattle.wasi_steps.proofs.LineEnds.{ReadsLast}
use Rattle.wasi_steps.proofs.UpTo.{shrinks, up_to_next, up_to_none, up_to_all, up_to_is}

-- a handle is a field
some_fields : (handle : ℕ) (rest : List (List ℕ)) → length rest < length (number_fields handle ++ rest)
some_fields handle rest = omega arith

pub handles_last : ReadsLast handles_at handles_fields FitsHandles
handles_last = record {
  only = λ handles fields rest h. rw (← flat_map_single decimal handles) (up_to_is (number_at 4294967295) number_fields IsHandle u32_exactly some_fields handles fields rest h);
  all = λ handles fits. rw (← flat_map_single decimal handles) (up_to_all (number_at 4294967295) number_fields IsHandle u32_exactly some_fields handles fits);
}

-- handles up to the end of the line, of which these were read
pub handles_next : (first fields rest : List (List ℕ)) (handles : List ℕ) (handle : ℕ) → handles_at first ≡ before handles (handles_at fields) → number_at 4294967295 fields ≡ Some (handle, rest) → handles_at first ≡ before (handles ++ handle ∷ []) (handles_at rest)
handles_next = up_to_next (number_at 4294967295) number_fields IsHandle u32_exactly some_fields

pub handles_none : (first fields : List (List ℕ)) (handles : List ℕ) → handles_at first ≡ before handles (handles_at fields) → (fields ≡ [] → ⊥) → number_at 4294967295 fields ≡ None → handles_at first ≡ None
handles_none = up_to_none (number_at 4294967295) number_fields IsHandle u32_exactly some_fields

pub handles_fewer : (handle : ℕ) (fields rest : List (List ℕ)) → number_at 4294967295 fields ≡ Some (handle, rest) → length rest < length fields
handles_fewer = shrinks (number_at 4294967295) number_fields IsHandle u32_exactly some_fields

-- == visible characters
pub handles_visible : (handles : List ℕ) → FitsHandles handles → AreVisible (handles_fields handles)
handles_visible [] fits = tt
handles_visible (handle ∷ handles) fits = (number_visible handle (let within = fits.0 in omega arith), handles_visible handles fits.1)
