use Rattle.std.proofs.Common.{◌≤◌, ap, sym, subst, List, drop, length}
use Rattle.wasi_world.specs.declared.call.Entry.{Entry}
use Rattle.wasi_replay.specs.Pieces.{contexts_text, entries_text}
use Rattle.recorder_commands.specs.Writing.{GoesOn}
use Rattle.recorder_commands.proofs.Writings.{place_within, wrote_more}
use Rattle.recorder_commands.proofs.writing_world.WritingWorldWorld.call.Goals as goal

pub go_on-self-requires : goal.go_on-self-requires
go_on-self-requires g c =
    let was = c.args.self.now.noted in
    subst (λ (log : List Entry). length c.entries-from.result.now ≤ length log) (sym c.entries-log.ensures)
    (subst (λ n. n ≤ length c.call.new.self.log.items) (sym (ap length c.entries-from.ensures)) (place_within was.log.items c.call.new.self.log.items c.in_ok-told.ensures.asked.ok.entries c.in_ok-told.ensures.asked.ok.passed.log))

pub invariant_of-self-2 : goal.invariant_of-self-2
invariant_of-self-2 g c =
    let was = c.args.self.now in
    let G : List Entry → Type 0 = λ more. GoesOn (entries_text more) (g.M.Sink.writing was.log_out) (g.M.Sink.writing c.go_on-self.new.log_out) was.unwritten c.go_on-self.result in
    let went : G (drop (length was.noted.log.items) c.call.new.self.log.items) =
    subst (λ n. G (drop n c.call.new.self.log.items)) (ap length c.entries-from.ensures)
    (subst (λ (log : List Entry). G (drop (length c.entries-from.result.now) log)) c.entries-log.ensures c.go_on-self.ensures) in
    record { wrote = wrote_more g.B.Begun.begun (g.M.Sink.writing was.log_out) (g.M.Sink.writing c.go_on-self.new.log_out) (contexts_text g.B.Begun.contexts) was.noted.log.items c.call.new.self.log.items c.in_ok-told.ensures.asked.ok.entries was.unwritten c.go_on-self.result c.in_ok-told.ensures.asked.ok.passed.log was.wrote went }
