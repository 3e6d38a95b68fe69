-- The words that the proofs speak, passed on from the crates below.
pub use Rattle.std.proofs.Common.{Bool, List, None, Option, Some, [], add-zero, ap, append-nil, append_assoc, arith, false, if◌then◌else◌}
pub use Rattle.std.proofs.Common.{is_some, length, length-append, refl, subst, sym, true, ℕ, ◌&&◌, ◌++◌, ◌+◌}
pub use Rattle.std.proofs.Common.{◌∙◌, ◌∷◌, ◌≡◌}
pub use Rattle.wasi_world.proofs.Walks.{asks_answered, asks_end, asks_exit, asks_given, given_answered, reaches_all, reaches_on}
pub use Rattle.wasi_world.proofs.Walks.{reaches_then}
pub use Rattle.wasi_world.specs.Asks.{Asks, Give, Reaches}
pub use Rattle.wasi_world.specs.Seen.{Seen}
pub use Rattle.wasi_world.specs.declared.outcome.WasiSocketsCtx.{WasiSocketsCtx}
pub use Rattle.host_store.specs.KnownSides.{KnowsSides}
pub use Rattle.host_store.specs.declared.machine.Machine.{Machine}
pub use Rattle.wasi_steps.specs.Reply.{address_values, bytes_fields, datagram_values, family_fields, is_trap, no_values, number_fields, pair_values, triple_values}
pub use Rattle.wasi_steps.specs.Reply.{received_values, truth_fields}
pub use Rattle.wasi_steps.specs.declared.reply.Reply.{Reply}
pub use Rattle.wasi_steps.specs.declared.step.Step.{Step}
pub use Rattle.wasi_machine.specs.Machine.{answer_reply, answer_reply_of, asks_while, is_held_up, machine_asks, reply_of, resumed_reply, run, step_asks}
pub use Rattle.wasi_machine.specs.Machine.{stream_reply_of}
