-- What a relay does, whole.
use Rattle.std.specs.Prelude.{◌≡◌, [], List, Some, None, IfSome, Result, Ok, Err}
use Rattle.wasi_world.specs.declared.call.Entry.{Entry}
use Rattle.wasi_world.specs.declared.outcome.WasiSocketsCtx.{WasiSocketsCtx}
use Rattle.wasi_world.specs.Seen.{Seen}
use Rattle.wasi_machine.specs.Machine.{HasRun}
use Rattle.wasi_steps.specs.declared.step.Step.{Step}
use Rattle.wasi_steps.specs.declared.reply.Reply.{Reply}
use Rattle.wasi_walks.specs.Licence.{IsLicensed}
use Rattle.wasi_session.specs.declared.error.StepError.{StepError}
use Rattle.wasi_relay.specs.declared.order.Order.{Order}
use Rattle.wasi_relay.specs.declared.setup.Listener.{Listener}
use Rattle.wasi_relay.specs.declared.pair.Pair.{Pair}
use Rattle.wasi_relay.specs.declared.service.RelayEnd.{RelayEnd}
use Rattle.wasi_relay.specs.Addresses.{KeepsTo}
use Rattle.wasi_relay.specs.Copied.{AllCopied}
use Rattle.wasi_relay.specs.Guest.{Guest, Ends, Part, give, Leads, Begins, ◌>>=◌}
use Rattle.wasi_relay.specs.Setup.{setup}
use Rattle.wasi_relay.specs.Turns.{Course, Finish, finish, rounds}

-- before the first turn
abbrev pub no_course : Course
no_course = record { taken = 0; pairs = []; waiting = None }

abbrev pub after_setup : Order → Result Listener RelayEnd → Part Finish
after_setup order (Ok listener) = rounds order listener listener.turns no_course
after_setup order (Err end) = give (finish end no_course)

abbrev pub relayed : Order → Part Finish
relayed order = do
  listener ← setup order
  after_setup order listener

abbrev pub at_end : Finish → Guest
at_end done = Ends done.end done.pairs

-- the guest
abbrev pub relay_guest : Order → Guest
relay_guest order = relayed order at_end

-- the steps and replies lead the guest to its end; or they are the first of it, where memory or the numbers of steps ran out
abbrev pub IsBySteps : Order → Result RelayEnd StepError → List Pair → List Step → List Reply → Type 0
IsBySteps order (Ok end) pairs steps replies = Leads (relay_guest order) steps replies (Ends end pairs)
IsBySteps order (Err e) pairs steps replies = Begins (relay_guest order) steps replies

-- a relay that came to its end copied so between the network sockets of each pair
abbrev pub HasCopied : Result RelayEnd StepError → List Pair → List Entry → Type 0
HasCopied (Ok end) pairs log = AllCopied log pairs
HasCopied (Err e) pairs log = Unit {0}

-- A relay of this order, from one world to another, ended so, with these pairs.
pub record Relays (order : Order) (contexts : List WasiSocketsCtx) (start now : Seen) (end : Result RelayEnd StepError) (pairs : List Pair) : Type 0 where
  pub steps : List Step
  pub replies : List Reply
  pub by_steps : IsBySteps order end pairs steps replies
  -- Where the world reports its log, and it was empty, it is licensed by the steps and replies ..
  pub licensed : start.log ≡ Some [] → IfSome now.log (λ log. IsLicensed contexts steps log replies)
  -- .. and is that of a run of the steps.
  pub ran : start.log ≡ Some [] → IfSome now.log (λ log. HasRun contexts steps log replies)
  -- Each bind was to the listen address, and each connect to the target.
  pub addresses : start.log ≡ Some [] → IfSome now.log (KeepsTo order)
  -- What a pair's network sockets told to reads was copied, each way.
  pub copied : start.log ≡ Some [] → IfSome now.log (HasCopied end pairs)
  pub plan : now.plan ≡ start.plan
