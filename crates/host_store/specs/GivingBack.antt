-- How a record goes: nothing refers to it any more, and its number is never given again.
use Rattle.std.specs.Prelude.{ℕ}
pub use Rattle.wasi_jobs.specs.Jobs.{is_on, other_jobs}
use Rattle.host_store.specs.Store.{Records}
use Rattle.wasi_records.specs.Numbered.{record_gone}

-- a record that goes takes its jobs with it
abbrev pub given_back : ℕ → Records → Records
given_back place store = record store { records = record_gone store.records place; jobs = other_jobs place store.jobs }
