-- The words that the proofs speak, passed on from the crates below.
pub use Rattle.std.proofs.Common.{Bool, List, None, Option, Some, [], add-zero, ap, append-nil, append_assoc, arith, drop, false, if◌then◌else◌, inl}
pub use Rattle.std.proofs.Common.{inr, is_some, length, length-append, length-drop, min, refl, subst, sym, take, true, ℕ, ◌&&◌, ◌++◌, ◌+◌, ◌-◌, ◌<◌}
pub use Rattle.std.proofs.Common.{◌==◌, ◌∙◌, ◌∷◌, ◌≡◌, ◌≤◌, ◌⊎◌}
pub use Rattle.std.proofs.lemmas.List.{drop-drop, length-take, take_rest}
pub use Rattle.std.proofs.lemmas.Result.{err_from_is_err_and}
pub use Rattle.std.specs.List.{position}
pub use Rattle.std.specs.Prelude.{Err, IfOk, Ok, Result, option_map}
pub use Rattle.world_text.proofs.LinesOf.{Cut, NoCut, cut_after, cut_at, cut_line, cut_within, no_cut}
pub use Rattle.wasi_world.proofs.Walks.{asks_answered, asks_end, asks_exit, asks_given, given_answered, reaches_all, reaches_in, reaches_on}
pub use Rattle.wasi_world.proofs.Walks.{reaches_then}
pub use Rattle.wasi_world.specs.Asks.{Asks, AsksFor, Give, Reaches, Started, bind}
pub use Rattle.world_io.specs.Io.{CountRose, Gave, GaveNone, GaveSome, Reading, SameCounts, Took, TookSome, Writing}
pub use Rattle.world_text.specs.Lines.{lines_from, lines_of, rest_from, rest_of}
pub use Rattle.wasi_world.specs.Seen.{Rose, Seen}
pub use Rattle.wasi_world.specs.declared.outcome.WasiSocketsCtx.{WasiSocketsCtx}
pub use Rattle.host_store.specs.KnownSides.{KnowsSides}
pub use Rattle.host_store.specs.declared.machine.Machine.{Machine}
pub use Rattle.wasi_steps.specs.Replies.{text_of}
pub use Rattle.wasi_steps.specs.Reply.{address_values, bytes_fields, datagram_values, family_fields, is_trap, no_values, number_fields, pair_values, triple_values}
pub use Rattle.wasi_steps.specs.Reply.{received_values, truth_fields}
pub use Rattle.wasi_steps.specs.declared.reply.Reply.{Reply}
pub use Rattle.wasi_steps.specs.declared.step.Step.{Step}
pub use Rattle.wasi_machine.specs.Machine.{answer_reply, answer_reply_of, asks_while, is_guest_call, is_held_up, machine_asks, reply_of, resumed_reply, run, step_asks}
pub use Rattle.wasi_machine.specs.Machine.{stream_reply_of}
