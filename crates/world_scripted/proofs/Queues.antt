-- Lists of planned answers that are partly used.
use Rattle.std.proofs.Common.{◌≡◌, ℕ, ◌≤◌, List, [], ◌∷◌, ◌++◌, length, drop, refl, sym, ap, subst, arith}
use Rattle.std.proofs.lemmas.List.{drop-append-le}
use Rattle.wasi_world.specs.declared.plan.Planned.{Planned}
use Rattle.wasi_world.specs.declared.plan.Planned.TheVariants.{Bytes}
use Rattle.world_scripted.specs.Queued.{planned_after, without_front, HasFront}

rest_of_unused : (answer : Planned) → planned_after 0 answer ≡ answer
rest_of_unused (Bytes bytes) = refl
rest_of_unused _ = refl

front_none : (answer : Planned) → HasFront 0 (answer ∷ [])
front_none (Bytes bytes) = omega arith
front_none _ = refl

without_front_push : (front : ℕ) (answers : List Planned) (answer : Planned) → HasFront front answers → without_front front (answers ++ answer ∷ []) ≡ without_front front answers ++ answer ∷ []
without_front_push front [] answer h = rw h (ap (λ a. a ∷ []) (rest_of_unused answer))
without_front_push front (first ∷ answers) answer h = refl

front_push : (front : ℕ) (answers : List Planned) (answer : Planned) → HasFront front answers → HasFront front (answers ++ answer ∷ [])
front_push front [] answer h = subst (λ (n : ℕ). HasFront n (answer ∷ [])) (sym h) (front_none answer)
front_push front (Bytes bytes ∷ answers) answer h = h
front_push front (_ ∷ answers) answer h = h

-- one more answer, the last
pub left_push : (used front : ℕ) (answers : List Planned) (answer : Planned) → used ≤ length answers → HasFront front (drop used answers) → without_front front (drop used (answers ++ answer ∷ [])) ≡ without_front front (drop used answers) ++ answer ∷ []
left_push used front answers answer within h = rw drop-append-le (without_front_push front (drop used answers) answer h)

pub still_has_front : (used front : ℕ) (answers : List Planned) (answer : Planned) → used ≤ length answers → HasFront front (drop used answers) → HasFront front (drop used (answers ++ answer ∷ []))
still_has_front used front answers answer within h = rw drop-append-le (front_push front (drop used answers) answer h)
