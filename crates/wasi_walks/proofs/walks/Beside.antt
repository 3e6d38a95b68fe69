-- Calls that stand beside others, as moves: one is polled where it stands, and is over where it isn't pending any more, or given up.
use Rattle.std.specs.Prelude.{◌≡◌, ℕ, List, Option, Some, None, Result, Ok, Err, refl}
use Rattle.wasi_world.specs.declared.outcome.Answer.{Answer}
use Rattle.wasi_world.specs.declared.outcome.WasiSocketsCtx.{WasiSocketsCtx}
use Rattle.wasi_world.specs.Asks.{Give, bind}
use Rattle.record_common.specs.Stops.{Stop}
use Rattle.host_store.specs.declared.beside.Beside.{Beside}
use Rattle.host_store.specs.declared.beside.BesideCall.{BesideCall}
use Rattle.host_store.specs.declared.beside.BesideCall.TheVariants.{Connect, Resolve, Send, Receive}
use Rattle.host_store.specs.declared.machine.Machine.{Machine}
use Rattle.wasi_host.specs.declared.pending.Outcome.{Outcome}
use Rattle.host_store.specs.Beside.{beside_of}
use Rattle.wasi_host.specs.Cancel.{beside_cancelled}
use Rattle.host_store.specs.Machine.{with_store}
use Rattle.wasi_host.specs.Pending.{go_on_beside, resume_beside, resumed}
use Rattle.wasi_steps.specs.declared.step.Step.{Step}
use Rattle.wasi_walks.proofs.walks.Connects.{reconnect_walks}
use Rattle.wasi_walks.proofs.walks.Law.{Law, Walks, and_then, give, gives, move}
use Rattle.wasi_walks.proofs.walks.Moves.{Spends, Unused}
use Rattle.wasi_walks.proofs.walks.Resolves.{reresolve_walks}
use Rattle.wasi_walks.proofs.walks.SocketDatagrams.{given_up_walks, rereceive_walks, resend_walks}
use Rattle.wasi_walks.proofs.walks.States.{Over, OverIn, OverWith, Starts}

module _ {contexts : List WasiSocketsCtx} {line : ℕ} {origin : Step} {law : Law contexts line origin} where
  go_on_beside_walks : (m : Machine) (n : ℕ) (b : Beside) → origin ≡ Step.Poll n → beside_of m.store n ≡ Some b → (call : BesideCall) → b.call ≡ call → Walks law (Over m) OverWith (go_on_beside m n call)
  go_on_beside_walks m n b is g (Connect place) e = and_then (reconnect_walks m n place) (λ done. give _)
  go_on_beside_walks m n b is g (Resolve host) e = and_then (reresolve_walks m n b host g e) (λ done. give _)
  go_on_beside_walks m n b is g (Send place op) e = and_then (resend_walks m n place b op is g e) (λ done. give _)
  go_on_beside_walks m n b is g (Receive place op) e = and_then (rereceive_walks m n place b op is g e) (λ done. give _)

  pub resume_beside_walks : (m : Machine) (n : ℕ) → origin ≡ Step.Poll n → (o : Option Beside) → beside_of m.store n ≡ o → Walks law (Starts m Unused) OverWith (resume_beside m n o)
  resume_beside_walks m n is None g = gives _ (Spends _ refl)
  resume_beside_walks m n is (Some b) g = move (Spends _ refl) (and_then (go_on_beside_walks m n b is g b.call refl) resumed_walks)
    where
      resumed_walks : (done : Result (Answer Outcome) Stop × Machine) → Walks law (Over done.1) OverWith (Give (resumed done))
      resumed_walks (Ok answer, now) = give _
      resumed_walks (Err why, now) = give _

  -- the socket of a connect keeps connecting
  cancelled_walks : (m : Machine) (n : ℕ) (o : Option Beside) → Walks law (Over m) (OverIn m) (beside_cancelled m.store n o)
  cancelled_walks m n None = give _
  cancelled_walks m n (Some b) = and_then (given_up_walks m n b.call) (λ done. give _)

  pub cancel_beside_walks : (m : Machine) (n : ℕ) (o : Option Beside) → Walks law (Starts m Unused) OverWith (bind (beside_cancelled m.store n o) (λ done. Give (with_store m done)))
  cancel_beside_walks m n o = move (Spends _ refl) (and_then (cancelled_walks m n o) (λ done. give _))
