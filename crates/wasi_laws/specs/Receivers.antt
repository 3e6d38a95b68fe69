-- Which operations ask network sockets for datagrams, along a log.
use Rattle.std.specs.Prelude.{◌≡◌, ◌≤◌, ◌⊎◌, List}
use Rattle.wasi_world.specs.declared.ids.OpId.{OpId}
use Rattle.wasi_world.specs.declared.call.Call.TheVariants.{Recv}
use Rattle.wasi_world.specs.declared.call.Told.{Told}
use Rattle.wasi_world.specs.declared.call.Entry.{Entry}
use Rattle.wasi_steps.specs.declared.step.Step.{Step}
use Rattle.wasi_walks.specs.Allowed.{Has, entry}
use Rattle.wasi_walks.specs.Lines.{BeganBy}
use Rattle.wasi_walks.specs.Licence.{IsReceive}

-- By this name the network socket was asked for a datagram.
pub record AsksToReceive (log : List Entry) (op side : OpId) : Type 0 where
  pub told : Told
  pub asked : Has log (entry op (Recv side) told)

-- An operation that receives has a later name of its line than the first, or is of a line of p3-udp-receive; it receives on one network
-- socket.
pub record ReceivesOnOne (steps : List Step) (log : List Entry) : Type 0 where
  pub later : (op side : OpId) → AsksToReceive log op side → (1 ≤ op.part) ⊎ BeganBy steps op IsReceive
  pub one : (op side other : OpId) → AsksToReceive log op side → AsksToReceive log op other → side ≡ other
