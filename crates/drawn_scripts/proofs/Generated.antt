-- How a generated script continues, line by line.
use Rattle.wasi_run.proofs.Words.{◌/◌, ◌%◌, if◌then◌else◌, codes, ◌==◌, ◌≡◌, ℕ, zero, suc, ◌+◌, ◌-◌, ◌*◌, ◌<◌, Bool, true, false, List, [], ◌∷◌, ◌++◌, refl, ap, sym, ◌∙◌, append_assoc, append-nil, add-one, arith, eqb-true, eqb-false, Step}
use Rattle.drawn_scripts.specs.Generate.{block_at, call, drawn, next_drawn, step_in, generated_step, generated_steps, generated, script_line, script_text}
use Rattle.drawn_scripts.proofs.GeneratedLines.{network_line}
use Rattle.drawn_scripts.specs.declared.drawn.Drawn.{Drawn}

script_push : (steps : List Step) (s : Step) → script_text (steps ++ s ∷ []) ≡ script_text steps ++ script_line s
script_push [] s = append-nil (script_line s)
script_push (x ∷ steps) s = ap (λ more. script_line x ++ more) (script_push steps s) ∙ sym (append_assoc (script_line x) (script_text steps) (script_line s))

-- one line more
pub generated_more : (kind : Drawn) (seed k : ℕ) → generated kind seed (k + 1) ≡ generated kind seed k ++ script_line (generated_step kind seed k)
generated_more kind seed k = rw (add-one k) (script_push (generated_steps kind seed k) (generated_step kind seed k))

-- the first
pub generated_first : (kind : Drawn) (seed k : ℕ) (text now : List ℕ) → k ≡ 0 → text ≡ generated kind seed k → now ≡ text ++ codes "0 network\n" → now ≡ generated kind seed (k + 1)
generated_first kind seed k text now e so_far h =
    let line : codes "0 network\n" ≡ script_line (generated_step kind seed k) = network_line ∙ ap (λ n. script_line (generated_step kind seed n)) (sym e) in
    h ∙ ap (λ front. front ++ codes "0 network\n") so_far ∙ ap (λ more. generated kind seed k ++ more) line ∙ sym (generated_more kind seed k)

pub same_start : (k : ℕ) → k ≡ 0 → (k + 7) / 9 ≡ (k + 1 + 7) / 9
same_start k e = rw e refl

-- any other
abbrev pub step_of_block : Drawn → ℕ → ℕ → ℕ → Step
step_of_block kind k number x = step_in (block_at kind number) (2 + 3 * number) x k ((k - 1) % 9)

step_after : (kind : Drawn) (seed k : ℕ) → 0 < k → generated_step kind seed k ≡ step_of_block kind k ((k - 1) / 9) (drawn seed ((k - 1) / 9 + 1))
step_after kind seed zero h = absurd (omega arith)
step_after kind seed (suc m) h = let e : suc m - 1 ≡ m = omega arith in rw e refl

-- the number of its block
pub block_number : (seed k x : ℕ) → 0 < k → x ≡ drawn seed ((k + 7) / 9) → (if (k - 1) % 9 == 0 then next_drawn x else x) ≡ drawn seed ((k - 1) / 9 + 1)
block_number seed k x h e = by_test ((k - 1) % 9 == 0) (eqb-true ((k - 1) % 9) 0) (eqb-false ((k - 1) % 9) 0)
  where
    by_test : (b : Bool) → (b ≡ true → (k - 1) % 9 ≡ 0) → (b ≡ false → (k - 1) % 9 ≡ 0 → ⊥) → (if b then next_drawn x else x) ≡ drawn seed ((k - 1) / 9 + 1)
    by_test true f g =
        let none : (k - 1) % 9 ≡ 0 = f refl in
        let same : (k + 7) / 9 ≡ (k - 1) / 9 = omega (arith, none) in
        rw (add-one ((k - 1) / 9)) (ap next_drawn (e ∙ ap (drawn seed) same))
    by_test false f g =
        let some : (k - 1) % 9 ≡ 0 → ⊥ = g refl in
        let next : (k + 7) / 9 ≡ (k - 1) / 9 + 1 = omega (arith, some) in
        e ∙ ap (drawn seed) next

pub same_block : (k : ℕ) → 0 < k → (k + 1 + 7) / 9 ≡ (k - 1) / 9 + 1
same_block k h = omega arith

pub generated_next : (kind : Drawn) (seed k x : ℕ) (text now : List ℕ) → 0 < k → text ≡ generated kind seed k → x ≡ drawn seed ((k - 1) / 9 + 1)
    → now ≡ text ++ script_line (step_of_block kind k ((k - 1) / 9) x) → now ≡ generated kind seed (k + 1)
generated_next kind seed k x text now h so_far number e =
    let written : List ℕ = script_line (step_of_block kind k ((k - 1) / 9) x) in
    let line : written ≡ script_line (generated_step kind seed k) =
    ap (λ n. script_line (step_of_block kind k ((k - 1) / 9) n)) number ∙ ap script_line (sym (step_after kind seed k h)) in
    e ∙ ap (λ front. front ++ written) so_far ∙ ap (λ more. generated kind seed k ++ more) line ∙ sym (generated_more kind seed k)
