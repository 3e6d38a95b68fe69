use Rattle.wasi_causes.proofs.Words.{inl, nothing_stands, refl, StandingCall}
use Rattle.host_store.specs.declared.store.BlockingCall.TheVariants as blocking
use Rattle.record_common.specs.Names.{first_ids}
use Rattle.wasi_steps.specs.declared.step.Step.TheVariants as step
use Rattle.wasi_causes.proofs.pollables.Quiet.{accepts_fit, block_first, list_first, waits_begin_none}
use Rattle.wasi_causes.proofs.tables.Steps.{own_free, unheld}
use Rattle.wasi_causes.proofs.waiting.pending_waits_would_begin_nothing.Goals as goal

pub returns : goal.returns
returns c = record {
  none = λ contexts steps log replies m ids call w stands. waits_begin_none contexts steps log replies m w ids call
      stands;
  one = λ contexts steps log replies m line ctx pollable ids entries reply after w stands a.
      block_first contexts (nothing_stands m) ctx ids pollable
      (waits_begin_none contexts steps log replies m w ids (StandingCall.Blocking (blocking.Block pollable)) stands
      pollable (inl refl))
      ((unheld contexts m line (step.Poll ids.line)
      (own_free contexts m line ids (StandingCall.Blocking (blocking.Block pollable)) stands) entries reply after a).0.2 ctx ids
      (blocking.Block pollable) stands refl tt);
  several = λ contexts steps log replies m line pollables ids entries reply after w stands a.
      list_first (nothing_stands m) (accepts_fit contexts steps log replies m w) (first_ids ids.line) pollables
      (waits_begin_none contexts steps log replies m w ids (StandingCall.Blocking (blocking.Poll pollables)) stands)
      ((unheld contexts m line (step.Poll ids.line)
      (own_free contexts m line ids (StandingCall.Blocking (blocking.Poll pollables)) stands) entries reply after a).0.2 0 ids
      (blocking.Poll pollables) stands refl tt);
}
