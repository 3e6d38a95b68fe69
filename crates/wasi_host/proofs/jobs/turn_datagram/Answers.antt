use Rattle.std.proofs.Common.{refl, ap, sym, ◌∙◌}
use Rattle.wasi_world.proofs.Walks.{asks_given, asks_exit, asks_end}
use Rattle.host_store.specs.Jobs.{sends_on}
use Rattle.record_common.proofs.SideCounts.{none_first}
use Rattle.wasi_records.proofs.UdpLookups.{open_found, open_put_there, not_open, held_in-open}
use Rattle.wasi_host.proofs.jobs.turn_datagram.Goals as goal

pub returns-in_default-clause-asked : goal.returns-in_default-clause-asked
returns-in_default-clause-asked g c = rw (not_open c.args.records.now.items c.args.place c.in_default.ensures.item) (asks_given _ _ refl refl)

pub returns-in_default-clause-goes_on : goal.returns-in_default-clause-goes_on
returns-in_default-clause-goes_on g c = ap sends_on c.in_default.ensures.item

pub returns-in_default-clause-none : goal.returns-in_default-clause-none
returns-in_default-clause-none g c = none_first _

pub returns-in_err-turn_outgoing-clause-asked : goal.returns-in_err-turn_outgoing-clause-asked
returns-in_err-turn_outgoing-clause-asked g c = rw (open_found c.args.records.now.items c.args.place c.in-Some.socket c.in-Some.ensures.item) (asks_exit _ _ c.from_residual.ensures.1 c.in_err-turn_outgoing.ensures.asked.err)

pub returns-in_err-turn_outgoing-clause-held : goal.returns-in_err-turn_outgoing-clause-held
returns-in_err-turn_outgoing-clause-held g c = held_in-open c.args.records.now.items c.args.place c.in-Some.socket.now c.turn_outgoing.new.self (open_found c.args.records.now.items c.args.place c.in-Some.socket c.in-Some.ensures.item) c.turn_outgoing.ensures.side

pub returns-clause-asked : goal.returns-clause-asked
returns-clause-asked g c = rw (open_found c.args.records.now.items c.args.place c.in-Some.socket c.in-Some.ensures.item) (asks_end _ c.in_ok-turn_outgoing.ensures.asked.ok refl)

pub returns-clause-goes_on : goal.returns-clause-goes_on
returns-clause-goes_on g c = c.sends.ensures ∙ ap sends_on (sym (open_put_there c.args.records.now.items c.args.place c.turn_outgoing.new.self c.in-Some.socket.now (open_found c.args.records.now.items c.args.place c.in-Some.socket c.in-Some.ensures.item)))

pub returns-clause-held : goal.returns-clause-held
returns-clause-held g c = held_in-open c.args.records.now.items c.args.place c.in-Some.socket.now c.turn_outgoing.new.self (open_found c.args.records.now.items c.args.place c.in-Some.socket c.in-Some.ensures.item) c.turn_outgoing.ensures.side
