use Rattle.std.proofs.Common.{sym, ◌∙◌}
use Rattle.tcp_records.proofs.ListenCounts.{none_of, listen_asked, listen_balances}
use Rattle.tcp_records.proofs.socket.TcpRecord.poll_listen.Goals as goal

pub returns-in-Begins-clause-asked : goal.returns-in-Begins-clause-asked
returns-in-Begins-clause-asked g c =
    let none = sym c.side.ensures ∙ none_of _ (sym c.is_some.ensures ∙ c.if-is_some.false) in
    rw (c.settle_listen.ensures.told, c.settle_listen.ensures.settled)
    (listen_asked c.args.self.now c.in-Begins.listen c.poll-polled.new.self c.poll-polled.new.socket c.poll-polled.result c.in-Begins.is none c.poll-polled.ensures.asked)

pub returns-in-Begins-clause-sides : goal.returns-in-Begins-clause-sides
returns-in-Begins-clause-sides g c =
    let none = sym c.side.ensures ∙ none_of _ (sym c.is_some.ensures ∙ c.if-is_some.false) in
    rw c.settle_listen.ensures.settled
    (listen_balances c.args.self.now c.in-Begins.listen c.poll-polled.new.self c.poll-polled.new.socket c.poll-polled.result c.in-Begins.is none
    c.poll-polled.ensures.before c.poll-polled.ensures.after c.poll-polled.ensures.going c.poll-polled.ensures.asked c.poll-polled.ensures.err)
