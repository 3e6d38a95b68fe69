-- The log of a run is that of the steps that were done, and of a prefix of the next.
use Rattle.wasi_laws.proofs.Words.{◌≡◌, ℕ, suc, ◌+◌, Bool, true, false, if◌then◌else◌, List, [], ◌∷◌, ◌++◌, length, refl, sym, ap, subst, ◌∙◌, arith, append_assoc, OpId, Entry, WasiSocketsCtx, Asks, Give, Ask, AskWrite, bind, Left, Machine, first_state, Reply, Step, is_trap, machine_asks, run, Answered, permitted_by, Then, Begun, IsOfSteps}
use Rattle.wasi_laws.specs.Permitted.{Nothing}

-- == the run
-- where a walk of one tree after another is
data Split {A B : Type 0} (asks : Asks A) (f : A → Asks B) (es : List Entry) (rest : Asks B) : Type 0 where
  Within : (mid : Asks A) → Left asks es mid → Split asks f es rest
  Past : (a : A) (fs gs : List Entry) → es ≡ fs ++ gs → Left asks fs (Give a) → Left (f a) gs rest → Split asks f es rest

split : {A B : Type 0} (asks : Asks A) (f : A → Asks B) (es : List Entry) (rest : Asks B) → Left (bind asks f) es rest → Split asks f es rest
unfolding bind
split (Give a) f es rest w = Past a [] es refl refl w
split (Ask op call next) f [] rest w = Within (Ask op call next) refl
split (Ask op call next) f (e ∷ es) rest w = elim (split (next e.answer) f es rest w.1) [
  | Within mid h ↦ Within mid (w.0, h)
  | Past a fs gs p h k ↦ Past a (e ∷ fs) gs (ap (λ more. e ∷ more) p) (w.0, h) k
]
split (AskWrite op sock bytes next) f [] rest w = Within (AskWrite op sock bytes next) refl
split (AskWrite op sock bytes next) f (e ∷ es) rest w = elim (split (next e.answer) f es rest w.2) [
  | Within mid h ↦ Within mid (w.0, w.1, h)
  | Past a fs gs p h k ↦ Past a (e ∷ fs) gs (ap (λ more. e ∷ more) p) (w.0, w.1, h) k
]

no_more : {A : Type 0} (a : A) (es : List Entry) (rest : Asks A) → Left (Give a) es rest → es ≡ []
no_more a [] rest w = refl
no_more a (e ∷ es) rest w = absurd w

module _ (contexts : List WasiSocketsCtx) (side : OpId) where
  begun_none : (m : Machine) (line : ℕ) (steps : List Step) (es : List Entry) → es ≡ [] → Begun contexts m line steps es
  begun_none m line [] es e = e
  begun_none m line (s ∷ steps) es e =
      let asks = machine_asks contexts m line s in
      let T : List Entry → Type 0 = λ fs. Left asks fs asks in
      (asks, subst T (sym e) refl)

  none_done : (m : Machine) (line : ℕ) (steps : List Step) (log : List Entry) → Begun contexts m line steps log → IsOfSteps contexts side m line steps log
  none_done m line steps log b =
      let z : line ≡ line + 0 = omega arith in
      record { done = []; left = steps; front = []; entries = log; permitted = []; after = m; all = refl; whole = refl; did = Nothing m line; begun = subst (λ (n : ℕ). Begun contexts m n steps log) z b }

  one_done : (m next : Machine) (line : ℕ) (s : Step) (steps : List Step) (log fs gs : List Entry) (r : Reply) → log ≡ fs ++ gs → Answered contexts m line s fs r next → IsOfSteps contexts side next (line + 1) steps gs → IsOfSteps contexts side m line (s ∷ steps) log
  one_done m next line s steps log fs gs r p w q =
      let z : line + 1 + length q.done ≡ line + suc (length q.done) = omega arith in
      record {
        done = s ∷ q.done;
        left = q.left;
        front = fs ++ q.front;
        entries = q.entries;
        permitted = permitted_by m side line s fs ++ q.permitted;
        after = q.after;
        all = ap (λ more. s ∷ more) q.all;
        whole = p ∙ (ap (λ more. fs ++ more) q.whole ∙ sym (append_assoc fs q.front q.entries));
        did = Then m next q.after line s q.done fs q.front r q.permitted w q.did;
        begun = subst (λ (n : ℕ). Begun contexts q.after n q.left q.entries) z q.begun;
      }

  -- after the step, by whether it was a trap
  after_step : (replies : List Reply) (done : Reply × Machine) (line : ℕ) (steps : List Step) (gs : List Entry) (rest : Asks (List Reply × Machine)) (trap : Bool)
      → (Left (run contexts (replies ++ done.0 ∷ []) done.1 (line + 1) steps) gs rest → IsOfSteps contexts side done.1 (line + 1) steps gs)
      → (let asks : Asks (List Reply × Machine) = if trap then Give (replies ++ done.0 ∷ [], done.1) else run contexts (replies ++ done.0 ∷ []) done.1 (line + 1) steps in Left asks gs rest)
      → IsOfSteps contexts side done.1 (line + 1) steps gs
  after_step replies done line steps gs rest true again k = none_done done.1 (line + 1) steps gs (begun_none done.1 (line + 1) steps gs (no_more (replies ++ done.0 ∷ [], done.1) gs rest k))
  after_step replies done line steps gs rest false again k = again k

  run_of_steps : (steps : List Step) (replies : List Reply) (m : Machine) (line : ℕ) (log : List Entry) (rest : Asks (List Reply × Machine)) → Left (run contexts replies m line steps) log rest → IsOfSteps contexts side m line steps log
  run_of_steps [] replies m line log rest w = none_done m line [] log (no_more (replies, m) log rest w)
  run_of_steps (s ∷ steps) replies m line log rest w =
      elim (split (machine_asks contexts m line s) _ log rest w) [
        | Within mid h ↦ none_done m line (s ∷ steps) log (mid, h)
        | Past done fs gs p h k ↦ one_done m done.1 line s steps log fs gs done.0 p h
            (after_step replies done line steps gs rest (is_trap done.0) (λ l. run_of_steps steps (replies ++ done.0 ∷ []) done.1 (line + 1) gs rest l) k)
      ]

  pub runs_of_steps : (steps : List Step) (log : List Entry) (rest : Asks (List Reply × Machine)) → Left (run contexts [] first_state 1 steps) log rest → IsOfSteps contexts side first_state 1 steps log
  runs_of_steps steps log rest w = run_of_steps steps [] first_state 1 log rest w
