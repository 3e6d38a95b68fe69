-- The lines that were done are the run of their steps.
use Rattle.std.proofs.Common.{◌≡◌, ◌∙◌, ap, sym, refl, subst, ℕ, ◌+◌, if◌then◌else◌, Bool, true, false, true≢false, List, [], ◌∷◌, ◌++◌, append_assoc, append-nil}
use Rattle.wasi_world.specs.declared.outcome.WasiSocketsCtx.{WasiSocketsCtx}
use Rattle.wasi_world.specs.Asks.{Asks, Give, bind, Left}
use Rattle.wasi_world.proofs.Walks.{left_then, left_in}
use Rattle.host_store.specs.declared.machine.Machine.{Machine}
use Rattle.wasi_steps.specs.declared.reply.Reply.{Reply}
use Rattle.wasi_steps.specs.declared.step.Step.{Step}
use Rattle.wasi_machine.specs.Machine.{machine_asks, run}
use Rattle.wasi_run.specs.Ran.{NoTrap, OneTrap}
use Rattle.wasi_steps.specs.Reply.{is_trap}
use Rattle.wasi_transcript.specs.Transcript.{Exchange, steps_in, replies_in, calls_in, AreDone}

-- no reply but the last is a trap
abbrev LastMayTrap : List Reply → Type 0
LastMayTrap [] = Unit {0}
LastMayTrap (r ∷ []) = Unit {0}
LastMayTrap (r ∷ s ∷ replies) = (is_trap r ≡ false) × LastMayTrap (s ∷ replies)

none_may : (replies : List Reply) → NoTrap replies → LastMayTrap replies
none_may [] h = tt
none_may (r ∷ []) h = tt
none_may (r ∷ s ∷ replies) h = (h.0, none_may (s ∷ replies) h.1)

last_may : (front : List Reply) (last : Reply) → NoTrap front → LastMayTrap (front ++ last ∷ [])
last_may [] last h = tt
last_may (r ∷ []) last h = (h.0, tt)
last_may (r ∷ s ∷ front) last h = (h.0, last_may (s ∷ front) last h.1)

one_may : (replies : List Reply) → OneTrap replies → LastMayTrap replies
one_may replies h = subst LastMayTrap (sym h.all) (last_may h.front h.last h.others)

-- what follows a reply
abbrev going_on : List WasiSocketsCtx → List Reply → ℕ → List Step → Reply × Machine → Asks (List Reply × Machine)
going_on contexts so_far number steps done =
    if is_trap done.0
    then Give (so_far ++ done.0 ∷ [], done.1)
    else run contexts (so_far ++ done.0 ∷ []) done.1 (number + 1) steps

gives : (replies : List Reply) (m last : Machine) → m ≡ last → Path (Asks (List Reply × Machine)) (Give (replies, m)) (Give (replies, last))
gives replies m last e = ap (λ s. Give (replies, s)) e

may_rest : (r : Reply) (replies : List Reply) → LastMayTrap (r ∷ replies) → LastMayTrap replies
may_rest r [] h = tt
may_rest r (s ∷ replies) h = h.1

-- the lines after one that was done
after_one : (contexts : List WasiSocketsCtx) (r : Reply) (xs : List Exchange) (so_far : List Reply) (number : ℕ) (next last : Machine) (trap : Bool) → is_trap r ≡ trap → AreDone contexts next (number + 1) xs last → LastMayTrap (r ∷ replies_in xs) → Left (run contexts (so_far ++ r ∷ []) next (number + 1) (steps_in xs)) (calls_in xs) (Give ((so_far ++ r ∷ []) ++ replies_in xs, last)) → Left (if trap then Give (so_far ++ r ∷ [], next) else run contexts (so_far ++ r ∷ []) next (number + 1) (steps_in xs)) (calls_in xs) (Give (so_far ++ r ∷ replies_in xs, last))
after_one contexts r xs so_far number next last false e h may on =
    let P : List Reply → Type 0 = λ replies. Left (run contexts (so_far ++ r ∷ []) next (number + 1) (steps_in xs)) (calls_in xs) (Give (replies, last)) in
    subst P (append_assoc so_far (r ∷ []) (replies_in xs)) on
after_one contexts r [] so_far number next last true e h may on = gives (so_far ++ r ∷ []) next last h
after_one contexts r (y ∷ ys) so_far number next last true e h may on = absurd (true≢false (sym e ∙ may.0))

ran : (contexts : List WasiSocketsCtx) (xs : List Exchange) (so_far : List Reply) (m : Machine) (number : ℕ) (last : Machine) → AreDone contexts m number xs last → LastMayTrap (replies_in xs) → Left (run contexts so_far m number (steps_in xs)) (calls_in xs) (Give (so_far ++ replies_in xs, last))
unfolding bind
ran contexts [] so_far m number last h may = ap (λ replies. Give (replies, m)) (sym (append-nil so_far)) ∙ gives (so_far ++ []) m last h
ran contexts (x ∷ xs) so_far m number last h may =
    let (next, done, more) = h in
    let asks = machine_asks contexts m number x.step in
    let f = going_on contexts so_far number (steps_in xs) in
    left_then (bind asks f) (f (x.reply, next)) (Give (so_far ++ x.reply ∷ replies_in xs, last)) x.calls (calls_in xs)
    (left_in f asks (Give (x.reply, next)) x.calls done.asked)
    (after_one contexts x.reply xs so_far number next last (is_trap x.reply) refl more may
    (ran contexts xs (so_far ++ x.reply ∷ []) next (number + 1) last more (may_rest x.reply (replies_in xs) may)))

pub ran_on : (contexts : List WasiSocketsCtx) (m : Machine) (number : ℕ) (exchanges : List Exchange) (last : Machine) (so_far : List Reply) → AreDone contexts m number exchanges last → NoTrap (replies_in exchanges) → Left (run contexts so_far m number (steps_in exchanges)) (calls_in exchanges) (Give (so_far ++ replies_in exchanges, last))
ran_on contexts m number exchanges last so_far h none = ran contexts exchanges so_far m number last h (none_may (replies_in exchanges) none)

pub ran_to_trap : (contexts : List WasiSocketsCtx) (m : Machine) (number : ℕ) (exchanges : List Exchange) (last : Machine) (so_far : List Reply) → AreDone contexts m number exchanges last → OneTrap (replies_in exchanges) → Left (run contexts so_far m number (steps_in exchanges)) (calls_in exchanges) (Give (so_far ++ replies_in exchanges, last))
ran_to_trap contexts m number exchanges last so_far h one = ran contexts exchanges so_far m number last h (one_may (replies_in exchanges) one)
