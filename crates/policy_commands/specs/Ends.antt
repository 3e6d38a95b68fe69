-- How the program ends, and why.
use Rattle.std.specs.Prelude.{◌≡◌, ℕ, ◌⊎◌, List, [], Option, Some, None, Result, Ok, Err}
use Rattle.wasi_world.specs.declared.call.Entry.{Entry}
use Rattle.world_io.specs.Io.{Reading, Writing}
use Rattle.wasi_world.specs.Seen.{Rose}
use Rattle.wasi_program.specs.declared.status.Status.{Status}
use Rattle.wasi_program.specs.declared.status.Status.TheVariants as status
use Rattle.wasi_program.specs.Scenario.{ReadScenario, HasBadLine}
use Rattle.wasi_policy.specs.declared.denied.Denied.{Denied}
use Rattle.wasi_policy.specs.declared.rule.Rule.{Rule}
use Rattle.wasi_policy.specs.Grammar.{rules_of}
use Rattle.policy_asks.specs.declared.answer.Form.{Form}
use Rattle.policy_asks.specs.declared.asking.AskError.{AskError}
use Rattle.policy_asks.specs.Asked.{AskEnds}
use Rattle.policy_asks.specs.Findings.{CheckEnds}
use Rattle.policy_commands.specs.declared.status.Command.{Command}
use Rattle.policy_commands.specs.declared.status.Command.TheVariants.{Run, Ask, Check}
use Rattle.policy_commands.specs.declared.status.PolicyStatus.{PolicyStatus}
use Rattle.policy_commands.specs.declared.status.PolicyStatus.TheVariants.{Of, BadRules, RulesFault}
use Rattle.policy_commands.specs.Words.{number_of, status_of_ask, bad_line_of_ask, command_in}
use Rattle.world_scripted.specs.Scenario.{scenario_of}
use Rattle.policy_commands.specs.Run.{TextRan, ScriptRan}

-- Nothing was read from the source or written to the sink, and there is no log.
pub record NothingRan (s_old s_new : Reading) (k_old k_new : Writing) (denied : List Denied) (inner : List Entry) : Type 0 where
  pub source : s_new ≡ s_old
  pub sink : k_new ≡ k_old
  pub denied_is : denied ≡ []
  pub inner_is : inner ≡ []

-- Nothing ran, for this reason.
pub record NoRun (s_old s_new : Reading) (k_old k_new : Writing) (denied : List Denied) (inner : List Entry) (P : Type 0) : Type 0 where
  pub nothing : NothingRan s_old s_new k_old k_new denied inner
  pub because : P

-- the cause of each end of `run LIMIT`, under these rules
abbrev pub RunEnds : List Rule → ℕ → Reading → Reading → Reading → Reading → Writing → Writing → List Denied → List Entry → ℕ → Status → Type 0
RunEnds rules limit c_old c_new s_old s_new k_old k_new denied inner line status.BadWords = ⊥
RunEnds rules limit c_old c_new s_old s_new k_old k_new denied inner line status.BadScenario =
    NoRun s_old s_new k_old k_new denied inner (HasBadLine c_old c_new line)
RunEnds rules limit c_old c_new s_old s_new k_old k_new denied inner line status.ScenarioFault =
    NoRun s_old s_new k_old k_new denied inner (Rose c_old.faults c_new.faults × (line ≡ 0))
RunEnds rules limit c_old c_new s_old s_new k_old k_new denied inner line status.Memory =
    NoRun s_old s_new k_old k_new denied inner (line ≡ 0) ⊎ ScriptRan rules limit c_old c_new s_old s_new k_old k_new denied inner line status.Memory
RunEnds rules limit c_old c_new s_old s_new k_old k_new denied inner line end =
    ScriptRan rules limit c_old c_new s_old s_new k_old k_new denied inner line end

-- how a text that was read as a scenario ends a run
abbrev pub StatusTextEnds : List Rule → ℕ → List ℕ → Reading → Reading → Writing → Writing → List Denied → List Entry → ℕ → Status → Type 0
StatusTextEnds rules limit text s_old s_new k_old k_new denied inner line status.BadWords = ⊥
StatusTextEnds rules limit text s_old s_new k_old k_new denied inner line status.ScenarioFault = ⊥
StatusTextEnds rules limit text s_old s_new k_old k_new denied inner line status.BadScenario =
    NothingRan s_old s_new k_old k_new denied inner × (scenario_of text ≡ Err line)
StatusTextEnds rules limit text s_old s_new k_old k_new denied inner line status.Memory =
    (NothingRan s_old s_new k_old k_new denied inner × (line ≡ 0)) ⊎ TextRan rules limit text s_old s_new k_old k_new denied inner line status.Memory
StatusTextEnds rules limit text s_old s_new k_old k_new denied inner line end =
    TextRan rules limit text s_old s_new k_old k_new denied inner line end

abbrev pub TextEnds : List Rule → ℕ → List ℕ → Reading → Reading → Writing → Writing → List Denied → List Entry → ℕ → PolicyStatus → Type 0
TextEnds rules limit text s_old s_new k_old k_new denied inner line (Of end) =
    StatusTextEnds rules limit text s_old s_new k_old k_new denied inner line end
TextEnds rules limit text s_old s_new k_old k_new denied inner line _ = ⊥

-- The questions were answered by the rules, and so the program ends so; there is no log.
pub record AsksEnd (rules : List Rule) (form : Form) (limit : ℕ) (s_old s_new : Reading) (k_old k_new : Writing) (denied : List Denied) (inner : List Entry) (line : ℕ) (end : PolicyStatus) : Type 0 where
  pub denied_is : denied ≡ []
  pub inner_is : inner ≡ []
  pub outcome : Result (Unit {0}) AskError
  pub status_is : end ≡ status_of_ask outcome
  pub line_is : line ≡ bad_line_of_ask outcome
  pub ends : AskEnds rules form limit s_old s_new k_old k_new outcome

-- What is odd about the rules was written, and so the program ends so; there is no log.
pub record FindingsEnd (rules : List Rule) (k_old k_new : Writing) (denied : List Denied) (inner : List Entry) (line : ℕ) (end : PolicyStatus) : Type 0 where
  pub denied_is : denied ≡ []
  pub inner_is : inner ≡ []
  pub outcome : Result (Unit {0}) AskError
  pub status_is : end ≡ status_of_ask outcome
  pub line_is : line ≡ 0
  pub ends : CheckEnds rules k_old k_new outcome

-- how a command ends, under these rules
abbrev pub CommandEnds : List Rule → Command → Reading → Reading → Reading → Reading → Writing → Writing → List Denied → List Entry → ℕ → PolicyStatus → Type 0
CommandEnds rules (Run limit) c_old c_new s_old s_new k_old k_new denied inner line (Of end) =
    RunEnds rules limit c_old c_new s_old s_new k_old k_new denied inner line end
CommandEnds rules (Run limit) c_old c_new s_old s_new k_old k_new denied inner line _ = ⊥
CommandEnds rules (Ask form limit) c_old c_new s_old s_new k_old k_new denied inner line end =
    (c_new ≡ c_old) × AsksEnd rules form limit s_old s_new k_old k_new denied inner line end
CommandEnds rules Check c_old c_new s_old s_new k_old k_new denied inner line end =
    (c_new ≡ c_old) × (s_new ≡ s_old) × FindingsEnd rules k_old k_new denied inner line end

-- The rules were read whole, and are in their grammar.
pub record RulesRead (r_old r_new : Reading) (rules : List Rule) : Type 0 where
  pub text : List ℕ
  pub read : ReadScenario r_old r_new text
  pub are : rules_of text ≡ Ok rules

-- The rules were read whole, and this is their first line that isn't in their grammar.
pub record HasBadRule (r_old r_new : Reading) (line : ℕ) : Type 0 where
  pub text : List ℕ
  pub read : ReadScenario r_old r_new text
  pub bad : rules_of text ≡ Err line

-- The rules were read, and the command ended so under them.
pub record RanUnderRules (command : Command) (r_old r_new c_old c_new s_old s_new : Reading) (k_old k_new : Writing) (denied : List Denied) (inner : List Entry) (line : ℕ) (end : PolicyStatus) : Type 0 where
  pub rules : List Rule
  pub read : RulesRead r_old r_new rules
  pub ends : CommandEnds rules command c_old c_new s_old s_new k_old k_new denied inner line end

-- Nothing ran, and no scenario was read, for this reason.
pub record NoRules (c_old c_new s_old s_new : Reading) (k_old k_new : Writing) (denied : List Denied) (inner : List Entry) (P : Type 0) : Type 0 where
  pub scenario : c_new ≡ c_old
  pub nothing : NothingRan s_old s_new k_old k_new denied inner
  pub because : P

-- the cause of each end of a command
abbrev pub RulesEnd : Command → Reading → Reading → Reading → Reading → Reading → Reading → Writing → Writing → List Denied → List Entry → ℕ → PolicyStatus → Type 0
RulesEnd command r_old r_new c_old c_new s_old s_new k_old k_new denied inner line BadRules =
    NoRules c_old c_new s_old s_new k_old k_new denied inner (HasBadRule r_old r_new line)
RulesEnd command r_old r_new c_old c_new s_old s_new k_old k_new denied inner line RulesFault =
    NoRules c_old c_new s_old s_new k_old k_new denied inner (Rose r_old.faults r_new.faults × (line ≡ 0))
RulesEnd command r_old r_new c_old c_new s_old s_new k_old k_new denied inner line (Of status.Memory) =
    NoRules c_old c_new s_old s_new k_old k_new denied inner (line ≡ 0)
    ⊎ RanUnderRules command r_old r_new c_old c_new s_old s_new k_old k_new denied inner line (Of status.Memory)
RulesEnd command r_old r_new c_old c_new s_old s_new k_old k_new denied inner line end =
    RanUnderRules command r_old r_new c_old c_new s_old s_new k_old k_new denied inner line end

-- the cause of each end, by what the words ask for
abbrev pub WordsEnd : Option Command → Reading → Reading → Reading → Reading → Reading → Reading → Writing → Writing → List Denied → List Entry → ℕ → PolicyStatus → Type 0
WordsEnd None r_old r_new c_old c_new s_old s_new k_old k_new denied inner line end =
    NoRules c_old c_new s_old s_new k_old k_new denied inner ((r_new ≡ r_old) × (end ≡ Of status.BadWords) × (line ≡ 0))
WordsEnd (Some command) r_old r_new c_old c_new s_old s_new k_old k_new denied inner line end =
    RulesEnd command r_old r_new c_old c_new s_old s_new k_old k_new denied inner line end

-- The program ended with this number and line, and with its cause.
pub record RanMain (words : List (List ℕ)) (r_old r_new c_old c_new s_old s_new : Reading) (k_old k_new : Writing) (denied : List Denied) (inner : List Entry) (number line : ℕ) : Type 0 where
  pub end : PolicyStatus
  pub number_is : number ≡ number_of end
  pub cause : WordsEnd (command_in words) r_old r_new c_old c_new s_old s_new k_old k_new denied inner line end
