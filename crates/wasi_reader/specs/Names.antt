-- What tells one read stream from another.
use Rattle.std.specs.Prelude.{ℕ}
use Rattle.std.specs.declared.alloc.Global.{Global}
use Rattle.crossbeam_queue.specs.SegTies.{SegId}
use Rattle.wasi_reader.specs.declared.names.ReadParts.{ReadParts}

-- the names of a stream's ledgers
pub record Ledgers : Type 0 where
  pub popped : ℕ
  pub ready : ℕ
  pub stopped : ℕ
  pub heard : ℕ
  pub pushed : ℕ
  pub stage : ℕ

-- names that no ledger has to have
abbrev pub no_ledgers : Ledgers
no_ledgers = record { popped = 0; ready = 0; stopped = 0; heard = 0; pushed = 0; stage = 0 }

-- a line that none has to be
abbrev pub no_line : SegId Global
no_line = record { web = (0, 0); heap = record { memory = record { seal = tt } } }

-- the names of these parts' ledgers
abbrev pub ledgers_of : ReadParts → Ledgers
ledgers_of parts = record {
  popped = parts.owner.popped.name;
  ready = parts.owner.ready.name;
  stopped = parts.owner.stopped.name;
  heard = parts.owner.heard.name;
  pushed = parts.worker.pushed.name;
  stage = parts.worker.stage.name;
}
