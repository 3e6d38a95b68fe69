-- The lines of a script, one after another: what was done, logged and written of them.
use Rattle.std.proofs.Common.{◌≡◌, ◌∙◌, ap, sym, refl, subst, ℕ, suc, ◌+◌, ◌-◌, ◌≤◌, false, List, [], ◌∷◌, ◌++◌, length, take, Option, Some, None, append_assoc, append-nil, add-zero, arith, inl, inr}
use Rattle.std.specs.Prelude.{option_map}
use Rattle.std.proofs.Math.Seq.{take-append-add}
use Rattle.std.proofs.lemmas.Bool.{cases_lt}
use Rattle.std.proofs.lemmas.List.{flat_map_more, take_all, take-append-le}
use Rattle.wasi_world.specs.declared.call.Entry.{Entry}
use Rattle.wasi_world.specs.declared.outcome.WasiSocketsCtx.{WasiSocketsCtx}
use Rattle.world_text.specs.Lines.{lines_of, rest_of, lines_from, rest_from}
use Rattle.wasi_world.specs.Seen.{Seen}
use Rattle.world_text.proofs.LinesOf.{lines-append, rest-append}
use Rattle.host_store.specs.declared.machine.Machine.{Machine}
use Rattle.wasi_run.specs.Ran.{NoTrap}
use Rattle.wasi_steps.specs.Reply.{is_trap}
use Rattle.wasi_transcript.specs.Transcript.{Exchange, exchange_text, exchanges_text, lines_in, replies_in, calls_in, IsDone, AreDone, Logged}

-- == what was done
pub done_on : (contexts : List WasiSocketsCtx) (xs : List Exchange) (x : Exchange) (mid next first : Machine) (number : ℕ) → AreDone contexts first number xs mid → IsDone contexts mid (number + length xs) x next → AreDone contexts first number (xs ++ x ∷ []) next
done_on contexts [] x mid next first number h k = (next, (let P : Machine → ℕ → Type 0 = λ m n. IsDone contexts m n x next in let z : P mid number = (let Q : ℕ → Type 0 = λ n. P mid n in subst Q (add-zero number) k) in let R : Machine → Type 0 = λ m. P m number in subst R (sym h) z), refl)
done_on contexts (y ∷ xs) x mid next first number h k =
    (h.0, h.1, done_on contexts xs x mid next h.0 (number + 1) h.2 (let e : number + suc (length xs) ≡ number + 1 + length xs = omega arith in let P : ℕ → Type 0 = λ n. IsDone contexts mid n x next in subst P e k))

pub no_trap_on : (xs : List Exchange) (x : Exchange) → NoTrap (replies_in xs) → is_trap x.reply ≡ false → NoTrap (replies_in (xs ++ x ∷ []))
no_trap_on [] x h k = (k, tt)
no_trap_on (y ∷ xs) x h k = (h.0, no_trap_on xs x h.1 k)

-- == what is listed
pub replies_on : (xs : List Exchange) (x : Exchange) → replies_in (xs ++ x ∷ []) ≡ replies_in xs ++ x.reply ∷ []
replies_on [] x = refl
replies_on (y ∷ xs) x = ap (λ rs. y.reply ∷ rs) (replies_on xs x)

pub lines_on : (xs : List Exchange) (x : Exchange) (left : List (List ℕ)) → lines_in xs ++ (x.line ∷ left) ≡ lines_in (xs ++ x ∷ []) ++ left
lines_on [] x left = refl
lines_on (y ∷ xs) x left = ap (λ ls. y.line ∷ ls) (lines_on xs x left)

pub calls_on : (xs : List Exchange) (x : Exchange) → calls_in xs ++ x.calls ≡ calls_in (xs ++ x ∷ [])
calls_on xs x = flat_map_more (λ x. x.calls) [] xs x

pub texts_on : (xs : List Exchange) (x : Exchange) → exchanges_text xs ++ exchange_text x ≡ exchanges_text (xs ++ x ∷ [])
texts_on xs x = flat_map_more exchange_text [] xs x

-- == what was logged
logged_twice : (old mid new : Option (List Entry)) (xs ys : List Entry) → mid ≡ option_map (λ log. log ++ xs) old → new ≡ option_map (λ log. log ++ ys) mid → new ≡ option_map (λ log. log ++ (xs ++ ys)) old
logged_twice None mid new xs ys h k = k ∙ ap (option_map (λ log. log ++ ys)) h
logged_twice (Some log) mid new xs ys h k = k ∙ ap (option_map (λ log. log ++ ys)) h ∙ ap Some (append_assoc log xs ys)

logged_none : (old : Option (List Entry)) → old ≡ option_map (λ log. log ++ []) old
logged_none None = refl
logged_none (Some log) = ap Some (sym (append-nil log))

pub logged_again : {old mid new : Seen} {xs ys : List Entry} → Logged old xs mid → Logged mid ys new → Logged old (xs ++ ys) new
logged_again {old} {mid} {new} {xs} {ys} h k = record { log = logged_twice old.log mid.log new.log xs ys h.log k.log; plan = k.plan ∙ h.plan }

pub logged_as : {old new : Seen} {xs ys : List Entry} → xs ≡ ys → Logged old xs new → Logged old ys new
logged_as e h = rw e at h

pub logged_nothing : (old : Seen) → Logged old [] old
logged_nothing old = record { log = logged_none old.log; plan = refl }

-- == the text that was read
-- a text with more, under a limit
pub taken_more : (limit : ℕ) (text more : List ℕ) → take limit (text ++ more) ≡ take limit text ++ take (limit - length text) more
taken_more limit text more = elim (cases_lt (length text) limit) [
  | inl short ↦
      let e : limit ≡ length text + (limit - length text) = omega arith in
      let fits : length text ≤ limit = omega arith in
      ap (λ n. take n (text ++ more)) e ∙ take-append-add text more (limit - length text) ∙ ap (λ t. t ++ take (limit - length text) more) (sym (take_all limit text fits))
  | inr long ↦
      let none : limit - length text ≡ 0 = omega arith in
      take-append-le limit text more long ∙ sym (ap (λ n. take limit text ++ take n more) none ∙ append-nil (take limit text))
]

-- what is left of the lines, and behind them, once more was read
pub lines_more : (limit : ℕ) (text more held : List ℕ) (done : List (List ℕ)) → lines_of (take limit text) ≡ done ++ lines_of held → rest_of (take limit text) ≡ rest_of held → lines_of (take limit (text ++ more)) ≡ done ++ lines_of (held ++ take (limit - length text) more)
lines_more limit text more held done h k =
    let piece = take (limit - length text) more in
    ap lines_of (taken_more limit text more) ∙ lines-append [] (take limit text) piece ∙ ap (λ ls. ls ++ lines_from (rest_of (take limit text)) piece) h ∙ ap (λ r. (done ++ lines_of held) ++ lines_from r piece) k ∙ append_assoc done (lines_of held) (lines_from (rest_of held) piece) ∙ ap (λ ls. done ++ ls) (sym (lines-append [] held piece))

pub rest_more : (limit : ℕ) (text more held : List ℕ) → rest_of (take limit text) ≡ rest_of held → rest_of (take limit (text ++ more)) ≡ rest_of (held ++ take (limit - length text) more)
rest_more limit text more held k =
    let piece = take (limit - length text) more in
    ap rest_of (taken_more limit text more) ∙ rest-append [] (take limit text) piece ∙ ap (λ r. rest_from r piece) k ∙ sym (rest-append [] held piece)
