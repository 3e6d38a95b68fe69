use Rattle.recorder_commands.proofs.Writings.{wrote_all}
use Rattle.recorder_commands.proofs.writing_world.WritingWorld.finish.Goals as goal

pub returns-clause-wrote : goal.returns-clause-wrote
returns-clause-wrote g c = wrote_all g.B.Begun.begun (g.M.Sink.writing c.args.self.log_out) (g.M.Sink.writing c.end_log-written.new.log_out) g.B.Begun.contexts c.args.self.noted.log.items c.args.self.unwritten c.end_log-written.result c.args.self.wrote c.end_log-written.ensures.ends
