-- How the program ends over the network that a scenario plans.
use Rattle.std.specs.Prelude.{◌≡◌, ℕ, ◌⊎◌, true, List, [], Option, Some, None, Result, Ok, Err}
use Rattle.wasi_world.specs.declared.call.Entry.{Entry}
use Rattle.wasi_world.specs.declared.outcome.WasiSocketsCtx.{WasiSocketsCtx}
use Rattle.wasi_world.specs.Script.{IsScripted}
use Rattle.wasi_world.specs.Seen.{Plan, Seen, Rose}
use Rattle.world_io.specs.Io.{Reading, Writing}
use Rattle.world_io.specs.Written.{TookAll, TookPart}
use Rattle.world_scripted.specs.Scenario.{scenario_of}
use Rattle.world_scripted.specs.Scripted.{at_start}
use Rattle.wasi_records.specs.Closing.{HasClosedAll}
use Rattle.wasi_session.specs.declared.error.StepError.{StepError}
use Rattle.wasi_session.specs.declared.error.StepError.TheVariants as error
use Rattle.wasi_program.specs.Scenario.{ReadScenario}
use Rattle.wasi_program.specs.declared.status.Status.TheVariants as status
use Rattle.wasi_relay.specs.declared.order.Order.{Order}
use Rattle.wasi_relay.specs.declared.pair.Pair.{Pair}
use Rattle.wasi_relay.specs.declared.service.RelayEnd.{RelayEnd}
use Rattle.wasi_relay.specs.RelaySteps.{Relays}
use Rattle.relay_commands.specs.declared.status.RelayStatus.{RelayStatus}
use Rattle.relay_commands.specs.declared.status.RelayStatus.TheVariants.{Of}
use Rattle.relay_commands.specs.declared.status.Unwritten.{Unwritten}
use Rattle.relay_commands.specs.declared.status.Unwritten.TheVariants as unwritten
use Rattle.relay_commands.specs.PairLines.{pair_lines}
use Rattle.relay_commands.specs.Status.{number_of, status_after}
use Rattle.relay_commands.specs.Words.{scripted_in}

-- the lines of the pairs were written; or a front of them, and the sink counted why no more; or, out of memory, nothing
abbrev pub WritesPairs : List Pair → Writing → Writing → Result (Unit {0}) Unwritten → Type 0
WritesPairs pairs old new (Ok done) = TookAll old (pair_lines pairs) new
WritesPairs pairs old new (Err unwritten.Fault) = TookPart old (pair_lines pairs) new
WritesPairs pairs old new (Err unwritten.Memory) = new ≡ old

-- The text is a scenario in its grammar, the relay was done over its plan, and the lines of its pairs were written so.
pub record RelayedPlan (order : Order) (text : List ℕ) (contexts : List WasiSocketsCtx) (k_old k_new : Writing) (log : List Entry) (end : RelayStatus) : Type 0 where
  pub plan : Plan
  pub scenario : scenario_of text ≡ Ok (plan, contexts)
  pub seen : Seen  -- the world after it
  pub logged : seen.log ≡ Some log
  pub ended : seen.ended ≡ true
  pub closed : HasClosedAll seen
  pub scripted : IsScripted plan log
  pub ending : Result RelayEnd StepError
  pub pairs : List Pair
  pub relays : Relays order contexts (at_start plan) seen ending pairs
  pub written : Result (Unit {0}) Unwritten
  pub wrote : WritesPairs pairs k_old k_new written
  pub no_memory : ending ≡ Err error.Memory → written ≡ Err unwritten.Memory
  pub end_is : end ≡ status_after ending written

-- No relay began, for this reason: nothing was written, and there is no log.
pub record NotBegun (k_old k_new : Writing) (log : List Entry) (P : Type 0) : Type 0 where
  pub sink : k_new ≡ k_old
  pub log_is : log ≡ []
  pub because : P

-- why a text gives no plan, by how the program ends
abbrev pub NoPlanIn : List ℕ → ℕ → RelayStatus → Type 0
NoPlanIn text line (Of status.BadScenario) = scenario_of text ≡ Err line
NoPlanIn text line (Of status.Memory) = line ≡ 0
NoPlanIn text line _ = ⊥

-- The relay was done over the scenario that the text spells.
pub record RelayedText (order : Order) (text : List ℕ) (k_old k_new : Writing) (log : List Entry) (line : ℕ) (end : RelayStatus) : Type 0 where
  pub contexts : List WasiSocketsCtx
  pub relayed : RelayedPlan order text contexts k_old k_new log end
  pub line_is : line ≡ 0

-- how an order ends over the text of a scenario
abbrev pub TextEnds : Order → List ℕ → Writing → Writing → List Entry → ℕ → RelayStatus → Type 0
TextEnds order text k_old k_new log line end =
    NotBegun k_old k_new log (NoPlanIn text line end) ⊎ RelayedText order text k_old k_new log line end

-- The scenario was read whole.
pub record ReadWhole (order : Order) (c_old c_new : Reading) (k_old k_new : Writing) (log : List Entry) (line : ℕ) (end : RelayStatus) : Type 0 where
  pub text : List ℕ
  pub read : ReadScenario c_old c_new text
  pub ends : TextEnds order text k_old k_new log line end

-- why a scenario wasn't read, by how the program ends
abbrev pub NotReadSince : Reading → Reading → ℕ → RelayStatus → Type 0
NotReadSince c_old c_new line (Of status.ScenarioFault) = Rose c_old.faults c_new.faults × (line ≡ 0)
NotReadSince c_old c_new line (Of status.Memory) = line ≡ 0
NotReadSince c_old c_new line _ = ⊥

-- how an order ends
abbrev pub OrderEnds : Order → Reading → Reading → Writing → Writing → List Entry → ℕ → RelayStatus → Type 0
OrderEnds order c_old c_new k_old k_new log line end =
    NotBegun k_old k_new log (NotReadSince c_old c_new line end) ⊎ ReadWhole order c_old c_new k_old k_new log line end

-- The words ask for no relay.
pub record NoOrder (c_old c_new : Reading) (line : ℕ) (end : RelayStatus) : Type 0 where
  pub scenario : c_new ≡ c_old
  pub line_is : line ≡ 0
  pub end_is : end ≡ Of status.BadWords

-- how the words end the program
abbrev pub WordsEnd : Option Order → Reading → Reading → Writing → Writing → List Entry → ℕ → RelayStatus → Type 0
WordsEnd None c_old c_new k_old k_new log line end = NotBegun k_old k_new log (NoOrder c_old c_new line end)
WordsEnd (Some order) c_old c_new k_old k_new log line end = OrderEnds order c_old c_new k_old k_new log line end

-- The program ended with this number and line, and with its cause.
pub record RanMain (words : List (List ℕ)) (c_old c_new : Reading) (k_old k_new : Writing) (log : List Entry) (line number : ℕ) : Type 0 where
  pub end : RelayStatus
  pub number_is : number ≡ number_of end
  pub cause : WordsEnd (scripted_in words) c_old c_new k_old k_new log line end
