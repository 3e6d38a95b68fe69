use Rattle.std.proofs.Common.{refl, sym, ◌∙◌}
use Rattle.wasi_world.specs.Operation.{NothingLast}
use Rattle.wasi_world.proofs.Walks.{reaches_on}
use Rattle.wasi_world.proofs.Polls.{done, stays, again}
use Rattle.socket_common.proofs.Turns.{round_none, round_end}
use Rattle.socket_common.specs.Asker.{who_of}
use Rattle.wasi_udp.specs.Receive.{bytes_in}
use Rattle.wasi_udp.proofs.Receives.{wanted, unwanted}
use Rattle.wasi_udp.proofs.receive.poll_check.Goals as goal

pub returns-in_err-verdict-clause-round : goal.returns-in_err-verdict-clause-round
returns-in_err-verdict-clause-round g c = rw c.requires.stage (round_none _ c.from_residual.ensures.1 c.in_err-verdict.ensures.err refl)

pub returns-in-Pending-clause-round : goal.returns-in-Pending-clause-round
returns-in-Pending-clause-round g c = rw c.requires.stage (round_end refl refl (λ n. stays n _ _ _ (reaches_on _ (rw c.in-Pending.is at c.in_ok-verdict.ensures.asked.ok))))

pub returns-in-No-clause-round : goal.returns-in-No-clause-round
returns-in-No-clause-round g c = rw c.requires.stage (round_end refl refl (λ n. again n _ _ _ (reaches_on _ (rw c.in-No.is at c.in_ok-verdict.ensures.asked.ok))))

pub returns-then-not-is_wanted-clause-round : goal.returns-then-not-is_wanted-clause-round
returns-then-not-is_wanted-clause-round g c =
    rw c.requires.stage (round_end refl refl (λ n. again n _ _ _ (unwanted (who_of c.args.asker NothingLast) c.args.only (bytes_in c.args.stage.now) c.args.peer (sym c.is_wanted.ensures ∙ c.if-not-is_wanted.true) (rw c.in-Yes.is at c.in_ok-verdict.ensures.asked.ok))))

pub returns-clause-round : goal.returns-clause-round
returns-clause-round g c =
    rw (c.requires.stage, c.take_bytes.ensures.bytes, c.take_bytes.ensures.over)
    (round_end refl refl (λ n. done n _ _ (wanted (who_of c.args.asker NothingLast) c.args.only (bytes_in c.args.stage.now) c.args.peer (sym c.is_wanted.ensures ∙ c.if-not-is_wanted.false) (rw c.in-Yes.is at c.in_ok-verdict.ensures.asked.ok))))
