-- What is known of calls that stand beside others: it stays so under more entries, and with one more, one fewer, and one in the place of
-- another.
use Rattle.std.specs.Prelude.{◌≡◌, ℕ, ◌==◌, Bool, true, false, if◌then◌else◌, not, List, [], ◌∷◌, ◌++◌, Some, Ok, refl}
use Rattle.std.proofs.Common.{eqb-true, subst, sym}
use Rattle.wasi_addr.specs.declared.address.IpAddress.{IpAddress}
use Rattle.wasi_world.specs.declared.asks.Polled.{Polled}
use Rattle.wasi_world.specs.declared.asks.Polled.TheVariants as polled
use Rattle.wasi_world.specs.declared.call.Entry.{Entry}
use Rattle.wasi_world.specs.declared.outcome.WasiSocketsCtx.{WasiSocketsCtx}
use Rattle.record_common.specs.Names.{own_of}
use Rattle.host_store.specs.declared.beside.Beside.{Beside}
use Rattle.host_store.specs.declared.beside.BesideCall.{BesideCall}
use Rattle.host_store.specs.declared.beside.BesideCall.TheVariants.{Connect, Resolve, Send, Receive}
use Rattle.host_store.specs.Beside.{beside_in, beside_with, beside_without}
use Rattle.host_lookups.specs.Resolves.{begun_lookup}
use Rattle.wasi_steps.specs.declared.step.Step.{Step}
use Rattle.wasi_walks.proofs.BesideLists.{replaced, with_replaced}
use Rattle.wasi_walks.proofs.licence.DatagramFrames.{receive_more, send_more}
use Rattle.wasi_walks.proofs.licence.Frames.{Goes, began_more}
pub use Rattle.wasi_walks.proofs.licence.State.{BesidesAreFine, CallIsFine}

module _ (contexts : List WasiSocketsCtx) {steps now : List Step} (goes : Goes steps now) (es fs : List Entry) where
  -- more entries, by more steps
  pub call_more : (line : ℕ) (call : BesideCall) → CallIsFine contexts steps es line call → CallIsFine contexts now (es ++ fs) line call
  call_more line (Connect place) h = began_more goes (own_of line) _ h
  call_more line (Resolve host) h = began_more goes (own_of line) _ h
  call_more line (Send place op) h = (h.0, send_more goes es fs op h.1)
  call_more line (Receive place op) h = (h.0, receive_more goes es fs op h.1, began_more goes (own_of line) _ h.2)

  pub besides_more : (beside : List Beside) → BesidesAreFine contexts steps es beside → BesidesAreFine contexts now (es ++ fs) beside
  besides_more [] h = tt
  besides_more (b ∷ bs) h = (call_more b.line b.call h.0, besides_more bs h.1)

module _ (contexts : List WasiSocketsCtx) (steps : List Step) (es : List Entry) where
  abbrev Fine : List Beside → Type 0
  Fine beside = BesidesAreFine contexts steps es beside

  -- one more, and one fewer
  pub besides_push : (beside : List Beside) (b : Beside) → CallIsFine contexts steps es b.line b.call → Fine beside → Fine (beside ++ b ∷ [])
  besides_push [] b f h = (f, tt)
  besides_push (x ∷ xs) b f h = (h.0, besides_push xs b f h.1)

  pub besides_without : (beside : List Beside) (gone : ℕ) → Fine beside → Fine (beside_without beside gone)
  besides_without [] gone h = tt
  besides_without (x ∷ xs) gone h = by_line (not (x.line == gone)) (besides_without xs gone h.1)
    where
      by_line : (stays : Bool) → Fine (beside_without xs gone) → Fine (if stays then x ∷ beside_without xs gone else beside_without xs gone)
      by_line true k = (h.0, k)
      by_line false k = k

  -- one in the place of another
  besides_replaced : (beside : List Beside) (n : ℕ) (call : BesideCall) → CallIsFine contexts steps es n call → Fine beside → Fine (replaced beside n call)
  unfolding replaced
  besides_replaced [] n call f h = tt
  besides_replaced (x ∷ xs) n call f h = by_line (x.line == n) (besides_replaced xs n call f h.1)
    where
      by_line : (same : Bool) → Fine (replaced xs n call) → Fine (if same then record { line = n; call = call } ∷ xs else x ∷ replaced xs n call)
      by_line true k = (f, h.1)
      by_line false k = (h.0, k)

  pub besides_with : (beside : List Beside) (n : ℕ) (call : BesideCall) → CallIsFine contexts steps es n call → Fine beside → Fine (beside_with beside n call)
  besides_with beside n call f h = subst (λ (calls : List Beside). BesidesAreFine contexts steps es calls) (sym (with_replaced beside n call)) (besides_replaced beside n call f h)

  -- a lookup began, and stands beside others while it is pending
  pub besides_begun : (beside : List Beside) (b : Beside) (told : Polled (List IpAddress)) → CallIsFine contexts steps es b.line b.call → Fine beside → Fine (begun_lookup beside b (Ok told))
  besides_begun beside b polled.Pending f h = besides_push beside b f h
  besides_begun beside b (polled.Ready names) f h = h
  besides_begun beside b (polled.Code c) f h = h

  -- the one of a number
  pub beside_fine : (beside : List Beside) (n : ℕ) (b : Beside) → beside_in beside n ≡ Some b → Fine beside → CallIsFine contexts steps es n b.call
  beside_fine [] n b e h = absurd (cc)
  beside_fine (x ∷ xs) n b e h = by_line (x.line == n) refl e (λ q. beside_fine xs n b q h.1)
    where
      by_line : (same : Bool) → (x.line == n) ≡ same → (if same then Some x else beside_in xs n) ≡ Some b → (beside_in xs n ≡ Some b → CallIsFine contexts steps es n b.call) → CallIsFine contexts steps es n b.call
      by_line true s q k = let its : x ≡ b = cc in subst (λ (y : Beside). CallIsFine contexts steps es n y.call) its (subst (λ (i : ℕ). CallIsFine contexts steps es i x.call) (eqb-true x.line n s) h.0)
      by_line false s q k = k q
