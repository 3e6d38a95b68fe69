-- How a step continues where an exclusive call is pending.
use Rattle.wasi_calls.proofs.CallWords.{Asks, Bool, Give, List, Machine, None, Option, Reply, Some, Step, WasiSocketsCtx, ap, asks_while, false}
use Rattle.wasi_calls.proofs.CallWords.{if◌then◌else◌, is_held_up, is_some, refl, step_asks, true, ℕ, ◌&&◌, ◌≡◌}
use Rattle.host_store.specs.declared.store.Standing.{Standing}
use Rattle.wasi_steps.specs.declared.reply.Reply.TheVariants as reply

-- == where a call is pending
module _ (contexts : List WasiSocketsCtx) (m : Machine) (line : ℕ) (s : Step) where
  abbrev By : Bool → Asks (Reply × Machine)
  By b = if b then Give (reply.Busy, m) else step_asks contexts m line s

  pub held_up : (standing : Option Standing) → (is_some standing && is_held_up m.store s) ≡ true → asks_while contexts m line s standing ≡ Give (reply.Busy, m)
  held_up None e = absurd (cc)
  held_up (Some c) e = ap By e

  pub goes_on : (standing : Option Standing) → (is_some standing && is_held_up m.store s) ≡ false → asks_while contexts m line s standing ≡ step_asks contexts m line s
  goes_on None e = refl
  goes_on (Some c) e = ap By e
