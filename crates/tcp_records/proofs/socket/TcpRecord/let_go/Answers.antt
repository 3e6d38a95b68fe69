use Rattle.std.proofs.Common.{refl, sym, ◌∙◌}
use Rattle.wasi_world.proofs.Walks.{asks_at, asks_exit, asks_end}
use Rattle.tcp_records.specs.Holding.{let_go_by}
use Rattle.tcp_records.proofs.socket.TcpRecord.let_go.Goals as goal

pub returns-in_err-release-clause-asked : goal.returns-in_err-release-clause-asked
returns-in_err-release-clause-asked g c = asks_at (let_go_by c.args.op c.args.self.now) (sym c.is_held.ensures ∙ c.if-is_held.false) (asks_exit _ _ c.from_residual.ensures.1 c.in_err-release.ensures.asked.err)

pub returns-clause-asked : goal.returns-clause-asked
returns-clause-asked g c = asks_at (let_go_by c.args.op c.args.self.now) (sym c.is_held.ensures ∙ c.if-is_held.false) (asks_end _ c.in_ok-release.ensures.asked.ok refl)
