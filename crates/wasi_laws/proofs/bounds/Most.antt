-- Asks that have at most so many of a kind, whatever is answered.
use Rattle.std.specs.Prelude.{ℕ, ◌+◌, ◌≤◌, ◌≡◌, List, [], ◌∷◌, ⊤, length}
use Rattle.std.proofs.Common.{ap, arith}
use Rattle.wasi_world.specs.declared.call.Call.{Call}
use Rattle.wasi_world.specs.declared.call.Call.TheVariants as call
use Rattle.wasi_world.specs.declared.call.Told.{Told}
use Rattle.wasi_world.specs.declared.call.Entry.{Entry}
use Rattle.wasi_addr.specs.declared.code.ErrorCode.{ErrorCode}
use Rattle.wasi_world.specs.Asks.{Asks, Give, Ask, AskWrite, Left}
use Rattle.wasi_world.specs.Operation.{Who, LastAsk, NothingLast, Given, last_ask}
use Rattle.wasi_laws.specs.Bounds.{number_of}

module _ (each : Call → Told → ℕ) where
  -- whatever is answered, at most n of the calls are so: m of those after this one
  abbrev pub Most : {A : Type 0} → ℕ → Asks A → Type 0
  Most n (Give a) = ⊤
  Most n (Ask op c next) = (t : Told) → (m : ℕ) × (each c t + m ≤ n) × Most m (next t)
  Most n (AskWrite op sock bytes next) = (t : Told) → (m : ℕ) × (each (call.Write sock (length bytes)) t + m ≤ n) × Most m (next t)

  of_call : (c d : Call) (t : Told) (m k n : ℕ) → c ≡ d → each d t + m ≤ n → k ≤ m → each c t + k ≤ n
  of_call c d t m k n e h l = let f : each c t ≡ each d t = ap (λ (x : Call). each x t) e in omega (arith, f, h, l)

  pub most_in : {A : Type 0} (asks rest : Asks A) (entries : List Entry) (n : ℕ) → Most n asks → Left asks entries rest → number_of each entries ≤ n
  most_in asks rest [] n s h = omega arith
  most_in (Give a) rest (e ∷ es) n s h = absurd h
  most_in (Ask op c next) rest (e ∷ es) n s h =
      let k = s e.answer in
      of_call e.call c e.answer k.0 (number_of each es) n h.0.1 k.1 (most_in (next e.answer) rest es k.0 k.2 h.1)
  most_in (AskWrite op sock bytes next) rest (e ∷ es) n s h =
      let k = s e.answer in
      of_call e.call (call.Write sock (length bytes)) e.answer k.0 (number_of each es) n h.0.1 k.1 (most_in (next e.answer) rest es k.0 k.2 h.2)

  -- an operation that has no last ask
  pub none_last : (who : Who) (l : LastAsk) (c : ErrorCode) (given : Given) (n : ℕ) → l ≡ NothingLast → Most n (last_ask who l c given)
  none_last who NothingLast c given n e = tt
  none_last who _ c given n e = absurd (cc)
