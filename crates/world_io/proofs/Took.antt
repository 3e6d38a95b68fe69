-- What a sink took, call by call.
use Rattle.std.proofs.Common.{◌≡◌, ◌<◌, ℕ, Bool, false, List, [], ◌++◌, take, drop, Option, None, Some, is_some, option_map, refl, ap, ◌∙◌, sym, subst, ◌⊎◌, append_assoc, append-nil}
use Rattle.std.proofs.lemmas.List.{take-append-drop}
use Rattle.wasi_world.specs.Seen.{Rose}
use Rattle.world_io.specs.Io.{Writing, Took, TookSome, SameCounts, CountRose}
use Rattle.world_io.specs.Written.{TookAll, TookPart, TookFault}

grown : (a b c : Option (List ℕ)) (xs ys : List ℕ) → b ≡ option_map (λ w. w ++ xs) a → c ≡ option_map (λ w. w ++ ys) b → c ≡ option_map (λ w. w ++ (xs ++ ys)) a
grown None b c xs ys first then = then ∙ ap (λ o. option_map (λ w. w ++ ys) o) first
grown (Some w) b c xs ys first then = then ∙ ap (λ o. option_map (λ v. v ++ ys) o) first ∙ ap Some (append_assoc w xs ys)

grown_none : (a : Option (List ℕ)) → a ≡ option_map (λ w. w ++ []) a
grown_none None = refl
grown_none (Some w) = ap Some (sym (append-nil w))

pub took_again : {old mid new : Writing} {xs ys : List ℕ} → Took old xs mid → Took mid ys new → Took old (xs ++ ys) new
took_again {old} {mid} {new} {xs} {ys} first then = record { written = grown old.written mid.written new.written xs ys first.written then.written }

pub took_none : (old : Writing) → Took old [] old
took_none old = record { written = grown_none old.written }

pub same_again : {old mid new : Writing} → SameCounts old mid → SameCounts mid new → SameCounts old new
same_again first then = record { faults = then.faults ∙ first.faults; refused = then.refused ∙ first.refused }

pub same_none : (old : Writing) → SameCounts old old
same_none old = record { faults = refl; refused = refl }

pub rose_again : {old mid new : Writing} → SameCounts old mid → CountRose mid new → CountRose old new
rose_again {old} {mid} {new} same risen = let P : ℕ × ℕ → Type 0 = λ n. Rose n.0 new.faults ⊎ Rose n.1 new.refused in
    let pair : (mid.faults, mid.refused) ≡ (old.faults, old.refused) = λ i. (same.faults i, same.refused i) in record { rose = subst P pair risen.rose }

-- a call that changes what is reported of flushes, and not whether it is
pub tells_mapped : (old new : Option Bool) (b : Bool) → new ≡ option_map (λ f. b) old → is_some new ≡ is_some old
tells_mapped None new b is = ap is_some is
tells_mapped (Some f) new b is = ap is_some is

-- nothing was taken yet
pub all_none : (old : Writing) → TookAll old [] old
all_none old = record { took = took_none old; counts = same_none old; tells = refl }

pub all_again : {old mid new : Writing} {xs ys : List ℕ} → TookAll old xs mid → TookAll mid ys new → TookAll old (xs ++ ys) new
all_again first then = record { took = took_again first.took then.took; counts = same_again first.counts then.counts; tells = then.tells ∙ first.tells }

-- a write that took some
pub all_some : {old new : Writing} {piece : List ℕ} {count : ℕ} → TookSome old new piece count → 0 < count → TookAll old (take count piece) new
all_some {old} {new} some more = record {
  took = some.took;
  counts = record { faults = some.faults; refused = some.accepted more };
  tells = tells_mapped old.flushed new.flushed false some.flushed;
}

-- a fault, after some were taken
pub fault_again : {old mid new : Writing} {xs ys : List ℕ} → TookAll old xs mid → TookFault mid ys new → TookFault old (xs ++ ys) new
fault_again {xs = xs} first then = record {
  front = record {
    taken = xs ++ then.front.taken;
    rest = then.front.rest;
    split = ap (λ l. xs ++ l) then.front.split ∙ sym (append_assoc xs then.front.taken then.front.rest);
    took = took_again first.took then.front.took;
  };
  rose = rose_again first.counts then.rose;
  tells = then.tells ∙ first.tells;
}

pub part_is_fault : {old new : Writing} {bytes : List ℕ} → TookPart old bytes new → TookFault old bytes new
part_is_fault {bytes = bytes} part = record {
  front = record { taken = take part.cut bytes; rest = drop part.cut bytes; split = sym (take-append-drop part.cut bytes); took = part.took };
  rose = part.counts;
  tells = part.tells;
}
