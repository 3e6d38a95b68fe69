use Rattle.std.proofs.Common.{sym, ◌∙◌}
use Rattle.wasi_tcp.proofs.Listens.{listen_asked, listen_left_over}
use Rattle.wasi_tcp.proofs.listen.ListenOp.poll.Goals as goal

pub returns-clause-asked : goal.returns-clause-asked
returns-clause-asked g c =
    rw (c.settle_listen.ensures.told, c.settle_listen.ensures.socket, c.side-side.ensures, c.maker-maker.ensures.maker)
    (listen_asked _ _ c.poll_asks-polled.result (sym c.is_over.ensures ∙ c.if-is_over.false) c.poll_asks-polled.ensures.polled)

pub returns-clause-err : goal.returns-clause-err
returns-clause-err g c =
    rw (c.settle_listen.ensures.told, c.settle_listen.ensures.socket, c.side-side.ensures, c.maker-maker.ensures.maker)
    (listen_left_over _ _ c.poll_asks-polled.result c.poll_asks-polled.ensures.polled)

pub returns-then-is_over-clause-before : goal.returns-then-is_over-clause-before
returns-then-is_over-clause-before g c = c.maker-maker.ensures.listen

pub returns-then-is_over-clause-after : goal.returns-then-is_over-clause-after
returns-then-is_over-clause-after g c = c.maker-maker.ensures.listen
