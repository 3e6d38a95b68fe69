-- What each line keeps holds along a run, and so does what each of its asks must be.
use Rattle.wasi_walks.proofs.Words.{Allows, Asks, Call, Entry, Give, Left, List, Machine, OpId, Reply, Step, WasiSocketsCtx, [], allows_at, allows_if}
use Rattle.wasi_walks.proofs.Words.{allows_then, first_state, is_trap, machine_asks, reached, run, subst, ℕ, ◌++◌, ◌+◌, ◌∷◌, ◌≡◌}

-- P is what each ask must be, and Between what holds between the lines: before the line of this number.
module _ (contexts : List WasiSocketsCtx) (P : List Entry → OpId → Call → Type 0) (Between : ℕ → List Entry → Machine → Type 0)
    (line_keeps : (line : ℕ) (s : Step) (m : Machine) (es : List Entry) → Between line es m → Allows P (λ fs done. Between (line + 1) fs done.1) es (machine_asks contexts m line s)) where
  -- it holds before some line
  abbrev pub Keeps : List Entry → List Reply × Machine → Type 0
  Keeps es done = (line : ℕ) × Between line es done.1

  pub run_keeps : (replies : List Reply) (line : ℕ) (todo : List Step) (m : Machine) (es : List Entry) → Between line es m → Allows P Keeps es (run contexts replies m line todo)
  run_keeps replies line [] m es i = (line, i)
  run_keeps replies line (s ∷ todo) m es i =
      allows_then P (λ fs done. Between (line + 1) fs done.1) Keeps es (machine_asks contexts m line s) _ (line_keeps line s m es i)
      (λ fs done k. allows_if P Keeps fs (is_trap done.0) _ _ (λ trap. (line + 1, k)) (λ on. run_keeps (replies ++ done.0 ∷ []) (line + 1) todo done.1 fs k))

  module _ (first : Between 1 [] first_state) (steps : List Step) where
    -- each entry of the log
    pub each_entry : (log : List Entry) (rest : Asks (List Reply × Machine)) → Left (run contexts [] first_state 1 steps) log rest → (before : List Entry) (e : Entry) (after : List Entry) → log ≡ before ++ e ∷ after → P before e.op e.call
    each_entry log rest w before e after cut =
        allows_at P Keeps [] (run contexts [] first_state 1 steps) rest before e after (run_keeps [] 1 steps first_state [] first) (subst (λ (es : List Entry). Left (run contexts [] first_state 1 steps) es rest) cut w)

    -- the machine that a run leaves
    pub run_ends : (log : List Entry) (replies : List Reply) (m : Machine) → Left (run contexts [] first_state 1 steps) log (Give (replies, m)) → (line : ℕ) × Between line log m
    run_ends log replies m w = reached P Keeps [] (run contexts [] first_state 1 steps) log (Give (replies, m)) (run_keeps [] 1 steps first_state [] first) w
