-- What tells one write stream from another.
use Rattle.std.specs.Prelude.{ℕ}
use Rattle.std.specs.declared.alloc.Global.{Global}
use Rattle.crossbeam_queue.specs.SegTies.{SegId}
use Rattle.wasi_writer.specs.declared.names.WriteParts.{WriteParts}

-- the names of a stream's ledgers
pub record Ledgers : Type 0 where
  pub accepted : ℕ
  pub pushed : ℕ
  pub permit : ℕ
  pub flush : ℕ
  pub ready : ℕ
  pub told : ℕ
  pub stopped : ℕ
  pub done : ℕ
  pub popped : ℕ
  pub met : ℕ
  pub hand : ℕ
  pub drained : ℕ
  pub flushed : ℕ

-- names that no ledger has to have
abbrev pub no_ledgers : Ledgers
no_ledgers = record {
  accepted = 0;
  pushed = 0;
  permit = 0;
  flush = 0;
  ready = 0;
  told = 0;
  stopped = 0;
  done = 0;
  popped = 0;
  met = 0;
  hand = 0;
  drained = 0;
  flushed = 0;
}

-- a line that none has to be
abbrev pub no_line : SegId Global
no_line = record { web = (0, 0); heap = record { memory = record { seal = tt } } }

-- the names of these parts' ledgers
abbrev pub ledgers_of : WriteParts → Ledgers
ledgers_of parts = record {
  accepted = parts.owner.accepted.name;
  pushed = parts.owner.pushed.name;
  permit = parts.owner.permit.name;
  flush = parts.owner.flush.name;
  ready = parts.owner.ready.name;
  told = parts.owner.told.name;
  stopped = parts.owner.stopped.name;
  done = parts.owner.done.name;
  popped = parts.worker.popped.name;
  met = parts.worker.met.name;
  hand = parts.worker.hand.name;
  drained = parts.worker.drained.name;
  flushed = parts.worker.flushed.name;
}
