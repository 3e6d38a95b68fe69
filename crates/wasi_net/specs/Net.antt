-- What is known of a world of the system's sockets.
use Rattle.std.specs.Prelude.{ℕ, Bool, List, None}
use Rattle.wasi_world.specs.declared.call.Call.{Call}
use Rattle.wasi_world.specs.declared.call.Told.{Told}
use Rattle.wasi_world.specs.declared.ids.OpId.{OpId}
use Rattle.wasi_world.specs.Seen.{Seen}
use Rattle.wasi_net.specs.declared.system_world.SystemWorld.{SystemWorld}
use Rattle.wasi_net.specs.declared.hosts.Named.{Named}
use Rattle.wasi_net.specs.declared.patient.PatientWorld.{PatientWorld}
use Rattle.wasi_net.specs.Acts.{Acts}
use Rattle.wasi_net.specs.Allowed.{Policy, policy_of}
use Rattle.wasi_net.specs.Answers.{OnNetwork}
use Rattle.wasi_net.specs.Known.{Sides, known_sides}

-- a world that reports its end mark, its closings and its count of faults alone
abbrev pub counts_of : Bool → ℕ → ℕ → Seen
counts_of ended closings faults = record { log = None; ended = ended; closings = closings; faults = faults; plan = None }

abbrev pub seen_by : {S : Type 0} → SystemWorld S → Seen
seen_by world = counts_of world.ended world.closings world.faults

-- which addresses may be used
abbrev pub policy_in : {S : Type 0} → SystemWorld S → Policy
policy_in world = policy_of world.network.allowed

-- the names that lookups find, with their addresses
abbrev pub names_in : {S : Type 0} → SystemWorld S → List Named
names_in world = world.network.hosts.entries.items

-- the sockets that are open
abbrev pub sides_of : {S : Type 0} → SystemWorld S → Sides
sides_of world = known_sides world.network.sides

-- what makes its calls
abbrev pub system_of : {S : Type 0} → SystemWorld S → S
system_of world = world.network.system

-- what is known of a world whose looks wait
abbrev pub patient_seen : {S : Type 0} → PatientWorld S → Seen
patient_seen patient = seen_by patient.world

abbrev pub patient_sides : {S : Type 0} → PatientWorld S → Sides
patient_sides patient = sides_of patient.world

abbrev pub patient_system : {S : Type 0} → PatientWorld S → S
patient_system patient = system_of patient.world

-- it answers a call as the world that it is round, with the same calls of the system
abbrev pub AnswersNow : {S : Type 0} → PatientWorld S → PatientWorld S → OpId → Call → Told → Acts → Acts → Type 0
AnswersNow old now op c told before after =
    OnNetwork (policy_in old.world) (names_in old.world) (patient_sides old) op c told (patient_sides now) before after
