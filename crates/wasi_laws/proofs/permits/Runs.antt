-- Along a run what a network socket took is a prefix of what was permitted; and where a check-write answers a permit, all of it.
use Rattle.wasi_steps.specs.declared.reply.Reply.TheVariants as reply
use Rattle.wasi_steps.specs.declared.guest_call.GuestCall.TheVariants as guest
use Rattle.wasi_steps.specs.declared.guest_call.StreamCall.TheVariants as stream_call
use Rattle.wasi_steps.specs.declared.step.Step.TheVariants as step
use Rattle.wasi_laws.proofs.Words.{Answered, Asks, Did, Entry, Give, IsFrontOf, Left, List, Machine, OpId, Reply, Step, Then, WasiSocketsCtx, WritesTo, [], ap, append-nil, append_assoc, arith, first_base, first_state, inl, length, machine_asks, number_fields, permitted_by, refl, subst, suc, sym, taken_in, ℕ, ◌++◌, ◌+◌, ◌<◌, ◌∙◌, ◌≡◌}
use Rattle.wasi_laws.proofs.permits.Calls.{Ends}
use Rattle.wasi_laws.proofs.permits.Checked.{all_taken}
use Rattle.wasi_laws.proofs.permits.Lets.{Lets, lets_front, lets_left}
use Rattle.wasi_laws.proofs.permits.Lines.{LetSo, line_lets, line_over}
use Rattle.wasi_laws.proofs.permits.Taken.{taken_append}
use Rattle.wasi_laws.specs.Permitted.{Nothing}

module _ (contexts : List WasiSocketsCtx) (side : OpId) where
  abbrev So : ℕ → List ℕ → List Entry → Machine → Type 0
  So line given es m = LetSo contexts side line given es m

  -- == one line
  module _ (line : ℕ) (s : Step) (given : List ℕ) (es : List Entry) (m : Machine) (i : So line given es m) (entries : List Entry) where
    abbrev all : List ℕ
    all = given ++ permitted_by m side line s entries

    -- what is left of it after these entries
    left : (rest : Asks (Reply × Machine)) → Left (machine_asks contexts m line s) entries rest → Lets side (Ends contexts side line s) (λ gs. given ++ permitted_by m side line s (entries ++ gs)) (es ++ entries) rest
    left rest w = lets_left side (Ends contexts side line s) (λ gs. given ++ permitted_by m side line s gs) es (machine_asks contexts m line s) entries rest (line_lets contexts side line given es m i s) w

    none_more : given ++ permitted_by m side line s (entries ++ []) ≡ all
    none_more = ap (λ (gs : List Entry). given ++ permitted_by m side line s gs) (append-nil entries)

    line_done : (reply : Reply) (next : Machine) → Answered contexts m line s entries reply next → So (line + 1) all (es ++ entries) next
    line_done reply next w =
        let done : Reply × Machine = (reply, next) in
        line_over contexts side line s all (es ++ entries) next (subst (λ (bytes : List ℕ). Ends contexts side line s bytes (es ++ entries) done) none_more (left (Give done) w))

    line_begun : (rest : Asks (Reply × Machine)) → Left (machine_asks contexts m line s) entries rest → IsFrontOf (taken_in side (es ++ entries)) all
    line_begun rest w =
        subst (IsFrontOf (taken_in side (es ++ entries))) none_more
        (lets_front side (Ends contexts side line s) (λ bytes fs done k. (line_over contexts side line s bytes fs done.1 k).stands.front) (λ gs. given ++ permitted_by m side line s (entries ++ gs)) (es ++ entries) rest (left rest w))

  -- == the lines that were done
  did_lets : (m : Machine) (line : ℕ) (steps : List Step) (log : List Entry) (bytes : List ℕ) (after : Machine) → Did contexts side m line steps log bytes after → (given : List ℕ) (es : List Entry) → So line given es m → So (line + length steps) (given ++ bytes) (es ++ log) after
  did_lets _ _ _ _ _ _ (Nothing m line) given es i =
      let z : line ≡ line + 0 = omega arith in
      subst (λ (n : ℕ). So n (given ++ []) (es ++ []) m) z (subst (λ (fs : List Entry). So line (given ++ []) fs m) (sym (append-nil es)) (subst (λ (xs : List ℕ). So line xs es m) (sym (append-nil given)) i))
  did_lets _ _ _ _ _ _ (Then m next after line s steps entries log reply bytes w d) given es i =
      let more = permitted_by m side line s entries in
      let f = did_lets next (line + 1) steps log bytes after d (given ++ more) (es ++ entries) (line_done line s given es m i entries reply next w) in
      let z : line + 1 + length steps ≡ line + suc (length steps) = omega arith in
      subst (λ (n : ℕ). So n (given ++ (more ++ bytes)) (es ++ (entries ++ log)) after) z
      (subst (λ (xs : List ℕ). So (line + 1 + length steps) xs (es ++ (entries ++ log)) after) (append_assoc given more bytes)
      (subst (λ (fs : List Entry). So (line + 1 + length steps) ((given ++ more) ++ bytes) fs after) (append_assoc es entries log) f))

  first_lets : So 1 [] [] first_state
  first_lets = record { base = first_base; shaped = λ place r e. absurd (cc); stands = record { front = ([], refl); made = inl (refl, refl); lives = λ i r e. absurd (cc) } }

  done_lets : (steps : List Step) (log : List Entry) (bytes : List ℕ) (after : Machine) → Did contexts side first_state 1 steps log bytes after → So (1 + length steps) bytes log after
  done_lets steps log bytes after d = did_lets first_state 1 steps log bytes after d [] [] first_lets

  pub runs_let : (steps : List Step) (log : List Entry) (bytes : List ℕ) (after : Machine) → Did contexts side first_state 1 steps log bytes after → IsFrontOf (taken_in side log) bytes
  runs_let steps log bytes after d = (done_lets steps log bytes after d).stands.front

  -- in the middle of the next one too
  pub runs_let_begun : (steps : List Step) (log : List Entry) (bytes : List ℕ) (after : Machine) (s : Step) (entries : List Entry) (rest : Asks (Reply × Machine))
      → Did contexts side first_state 1 steps log bytes after → Left (machine_asks contexts after (1 + length steps) s) entries rest → IsFrontOf (taken_in side (log ++ entries)) (bytes ++ permitted_by after side (1 + length steps) s entries)
  runs_let_begun steps log bytes after s entries rest d w = line_begun (1 + length steps) s bytes log after (done_lets steps log bytes after d) entries rest w

  pub runs_take_all : (steps : List Step) (log : List Entry) (permitted : List ℕ) (after : Machine) (ctx output n : ℕ) (entries : List Entry) (next : Machine)
      → Did contexts side first_state 1 steps log permitted after → WritesTo after output side
      → Answered contexts after (1 + length steps) (step.Call ctx (guest.Stream (stream_call.CheckWrite output))) entries (reply.Ok (number_fields n)) next → 0 < n → taken_in side (log ++ entries) ≡ permitted
  runs_take_all steps log permitted after ctx output n entries next d w walk some =
      let k = done_lets steps log permitted after d in
      taken_append side log entries ∙ all_taken contexts side (taken_in side log) permitted (1 + length steps) after ctx output n k.stands.lives k.shaped k.base.named w some entries next walk
