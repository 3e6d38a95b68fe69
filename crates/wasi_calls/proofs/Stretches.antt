-- Steps that ran one after another.
use Rattle.wasi_calls.proofs.CallWords.{◌≡◌, refl, subst, ℕ, ◌+◌, true, false, Bool, if◌then◌else◌, List, [], ◌∷◌, ◌++◌, length, append_assoc, append-nil, length-append, add-zero, arith, WasiSocketsCtx, Seen, Asks, Give, Reaches, reaches_all, reaches_on, reaches_then, Machine, Step, Reply, is_trap, machine_asks, run, KnowsSides}
use Rattle.wasi_calls.specs.Stretches.{Stretch}

-- == stretches
-- what follows a line in a run
abbrev pub next_run : List WasiSocketsCtx → List Reply → ℕ → List Step → Reply × Machine → Asks (List Reply × Machine)
next_run contexts so_far line more done =
    if is_trap done.0
    then Give (so_far ++ done.0 ∷ [], done.1)
    else run contexts (so_far ++ done.0 ∷ []) done.1 (line + 1) more

if_false : {A : Type 0} (b : Bool) (x y : A) → b ≡ false → (if b then x else y) ≡ y
if_false true x y h = cc
if_false false x y h = refl

reaches_none : (contexts : List WasiSocketsCtx) (first : Machine) (line : ℕ) (w : Seen) (so_far : List Reply) (more : List Step) → Reaches (run contexts so_far first line more) (run contexts (so_far ++ []) first (line + 0) more) w w
reaches_none contexts first line w so_far more = rw (append-nil, add-zero) (reaches_all (run contexts so_far first line more) w)

pub stretch_none : (contexts : List WasiSocketsCtx) (first : Machine) (line : ℕ) (w : Seen) → Stretch contexts first line [] [] first w w
stretch_none contexts first line w = record { reached = reaches_none contexts first line w }

-- One step was done, with this reply.
pub record Stepped (contexts : List WasiSocketsCtx) (first : Machine) (line : ℕ) (s : Step) (reply : Reply) (state : Machine) (old now : Seen) : Type 0 where
  pub asked : Reaches (machine_asks contexts first line s) (Give (reply, state)) old now
  pub sides : KnowsSides old first.store → KnowsSides now state.store

pub stretch_one : {contexts : List WasiSocketsCtx} {first state : Machine} {line : ℕ} {s : Step} {reply : Reply} {old now : Seen} → Stepped contexts first line s reply state old now → is_trap reply ≡ false → Stretch contexts first line (s ∷ []) (reply ∷ []) state old now
stretch_one {contexts} {first} {state} {line} {s} {reply} {old} {now} h e = record {
  reached = λ so_far more.
      (let P : Asks (List Reply × Machine) → Type 0 = λ rest. Reaches (run contexts so_far first line (s ∷ more)) rest old now in
      subst P (if_false (is_trap reply) (Give (so_far ++ reply ∷ [], state)) (run contexts (so_far ++ reply ∷ []) state (line + 1) more) e) (reaches_on (next_run contexts so_far line more) h.asked));
}

pub numbered : (line : ℕ) (xs ys : List Step) → line + length xs + length ys ≡ line + length (xs ++ ys)
numbered line xs ys = omega (arith, length-append xs ys)

pub stretch_then : {contexts : List WasiSocketsCtx} {first mid last : Machine} {line : ℕ} {xs ys : List Step} {rs qs : List Reply} {s t u : Seen} → Stretch contexts first line xs rs mid s t → Stretch contexts mid (line + length xs) ys qs last t u → Stretch contexts first line (xs ++ ys) (rs ++ qs) last s u
stretch_then {line = line} {xs} {ys} {rs} {qs} h k = record {
  reached = λ so_far more. rw (append_assoc xs ys more, ← append_assoc so_far rs qs, ← numbered line xs ys) (reaches_then (h.reached so_far (ys ++ more)) (k.reached (so_far ++ rs) more));
}

either_way : (b : Bool) (a : List Reply × Machine) → (if b then Give a else Give a) ≡ Give a
either_way true a = refl
either_way false a = refl

pub one_ran : {contexts : List WasiSocketsCtx} {w_old w_new : Seen} {first state : Machine} {line : ℕ} {s : Step} {reply : Reply} → Stepped contexts first line s reply state w_old w_new → (so_far : List Reply) → Reaches (run contexts so_far first line (s ∷ [])) (Give (so_far ++ reply ∷ [], state)) w_old w_new
one_ran {contexts} {w_old} {w_new} {first} {state} {line} {s} {reply} h so_far =
    let P : Asks (List Reply × Machine) → Type 0 = λ rest. Reaches (run contexts so_far first line (s ∷ [])) rest w_old w_new in
    subst P (either_way (is_trap reply) (so_far ++ reply ∷ [], state)) (reaches_on (next_run contexts so_far line []) h.asked)
