-- The words that the proofs speak, passed on from the crates below.
pub use Rattle.wasi_walks.proofs.Words.{Bool, Entry, Err, Give, HasRun, List, Machine, None, Ok, Option, Reply, Result, Some, Step, WasiSocketsCtx}
pub use Rattle.wasi_walks.proofs.Words.{[], add-one, ap, append-nil, append_assoc, arith, false, first_state, if◌then◌else◌, inl, inr, length}
pub use Rattle.wasi_walks.proofs.Words.{length-append, min, refl, run, subst, suc, sym, true, zero, ℕ, ◌++◌, ◌+◌, ◌<◌, ◌==◌, ◌∙◌, ◌∷◌, ◌≡◌, ◌≤◌, ◌⊎◌}
pub use Rattle.std.proofs.Common.{length-take, take, ◌*◌, ◌-◌, ◌≢◌}
pub use Rattle.std.proofs.lemmas.Bool.{and_parts, eqb-false, eqb-true}
pub use Rattle.std.proofs.lemmas.Bool.Decides.{nat_tests}
pub use Rattle.std.proofs.lemmas.List.{drop-drop, nil_from_length, take-append-le, take-replicate, take_all}
pub use Rattle.std.specs.Prelude.{IfSome, OnOk, codes, count_by, decimal, is_ok, option_map, replicate, slice_index_or, ◌%◌, ◌/◌, ◌^◌, ◌||◌}
pub use Rattle.world_text.proofs.LinesOf.{count_lines, lines-append, rest-append}
pub use Rattle.world_text.specs.Fields.{bytes_text, is_space}
pub use Rattle.world_io.specs.Io.{CountRose, Gave, GaveNone, GaveSome, HasEnded, Reading, SameCounts, Took, Writing}
pub use Rattle.world_text.specs.Lines.{lines_from, lines_of, rest_from, rest_of}
pub use Rattle.wasi_world.specs.Seen.{Rose, Seen}
pub use Rattle.wasi_records.specs.Closing.{AsksNothing, HasClosedAll, IsFresh}
pub use Rattle.wasi_steps.specs.Steps.{IsStep, line_of, step_of}
pub use Rattle.wasi_run.proofs.LinesJoined.{lines_none, lines_then, stays_open, trap_then}
pub use Rattle.wasi_run.specs.Lines.{AllSteps, BadAfter, KeptOf, StartWith, after_lines}
pub use Rattle.wasi_run.specs.Ran.{Beyond, Counted, LinesRan, Met, Wrote, texts}
pub use Rattle.wasi_run.specs.declared.error.RunError.{RunError}
pub use Rattle.wasi_run.specs.declared.error.RunError.TheVariants.{BadStep, Memory, ReadFault, TooLong, WriteFault}
pub use Rattle.wasi_run.specs.declared.lines.LinesEnd.{LinesEnd}
