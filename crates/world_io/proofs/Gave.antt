-- What a source gave, call by call.
use Rattle.std.proofs.Common.{◌≡◌, ◌∙◌, ap, sym, refl, ℕ, List, [], ◌++◌, take, Option, Some, None, append_assoc, append-nil}
use Rattle.std.specs.Prelude.{option_map}
use Rattle.wasi_world.specs.Seen.{Rose}
use Rattle.world_io.specs.Io.{Reading, Gave, GaveSome, GaveNone}

lost : (old mid new : Option (List ℕ)) (xs ys : List ℕ) → old ≡ option_map (λ w. xs ++ w) mid → mid ≡ option_map (λ w. ys ++ w) new → old ≡ option_map (λ w. (xs ++ ys) ++ w) new
lost old mid None xs ys h k = h ∙ ap (option_map (λ w. xs ++ w)) k
lost old mid (Some w) xs ys h k = h ∙ (ap (option_map (λ w. xs ++ w)) k ∙ ap Some (sym (append_assoc xs ys w)))

lost_none : (old : Option (List ℕ)) → old ≡ option_map (λ w. [] ++ w) old
lost_none None = refl
lost_none (Some w) = refl

pub gave_again : {old mid new : Reading} {xs ys : List ℕ} → Gave old xs mid → Gave mid ys new → Gave old (xs ++ ys) new
gave_again {old} {mid} {new} {xs} {ys} h k = record { left = lost old.left mid.left new.left xs ys h.left k.left }

pub gave_none : {old new : Reading} → new.left ≡ old.left → Gave old [] new
gave_none {old} {new} e = record { left = sym e ∙ lost_none new.left }

pub gave_more : {old mid new : Reading} {xs : List ℕ} {size count : ℕ} {buffer : List ℕ} → Gave old xs mid → GaveSome mid new size buffer count → Gave old (xs ++ take count buffer) new
gave_more h k = gave_again h k.gave

-- a read that gave nothing
pub gave_end : {old mid new : Reading} {xs : List ℕ} {size count : ℕ} {buffer : List ℕ} → Gave old xs mid → GaveSome mid new size buffer count → count ≡ 0 → Gave old xs new
gave_end {old} {mid} {new} {xs} {size} {count} {buffer} h k e = rw (e, append-nil) at (gave_more {size = size} {count = count} {buffer = buffer} h k)

-- a read that failed
pub gave_fault : {old mid new : Reading} {xs : List ℕ} → Gave old xs mid → GaveNone mid new → Gave old xs new
gave_fault {old} {mid} {new} {xs} h k = rw append-nil at (gave_again h (gave_none {old = mid} {new = new} k.left))

rose_after : (n m k : ℕ) → m ≡ n → Rose m k → Rose n k
rose_after n m k e h = rw e at h

pub fault_rose : (old mid new : Reading) → mid.faults ≡ old.faults → GaveNone mid new → Rose old.faults new.faults
fault_rose old mid new e k = rose_after old.faults mid.faults new.faults e k.rose
