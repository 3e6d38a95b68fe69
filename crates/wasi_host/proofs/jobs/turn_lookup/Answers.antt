use Rattle.std.proofs.Common.{refl, ap, sym, ◌∙◌}
use Rattle.wasi_world.proofs.Walks.{asks_given, asks_exit, asks_end}
use Rattle.lookup_records.specs.NameLookup.{looks_on}
use Rattle.wasi_records.proofs.NameLookups.{lookup_found, lookup_there, held_in-lookup}
use Rattle.record_common.proofs.SideCounts.{none_first}
use Rattle.wasi_host.proofs.jobs.turn_lookup.Goals as goal

pub returns-in_default-clause-asked : goal.returns-in_default-clause-asked
returns-in_default-clause-asked g c = rw (sym c.in_default.ensures.item) (asks_given _ _ refl refl)

pub returns-in_default-clause-goes_on : goal.returns-in_default-clause-goes_on
returns-in_default-clause-goes_on g c = ap looks_on c.in_default.ensures.item

pub returns-in_default-clause-none : goal.returns-in_default-clause-none
returns-in_default-clause-none g c = none_first _

pub returns-in_err-turn-clause-asked : goal.returns-in_err-turn-clause-asked
returns-in_err-turn-clause-asked g c = rw (lookup_found c.args.records.now.items c.args.place c.in-Some.lookup c.in-Some.ensures.item) (asks_exit _ _ c.from_residual.ensures.1 c.in_err-turn.ensures.asked.err)

pub returns-in_err-turn-clause-held : goal.returns-in_err-turn-clause-held
returns-in_err-turn-clause-held g c = held_in-lookup c.args.records.now.items c.args.place c.in-Some.lookup.now _ (lookup_found c.args.records.now.items c.args.place c.in-Some.lookup c.in-Some.ensures.item)

pub returns-clause-asked : goal.returns-clause-asked
returns-clause-asked g c = rw (lookup_found c.args.records.now.items c.args.place c.in-Some.lookup c.in-Some.ensures.item) (asks_end _ c.in_ok-turn.ensures.asked.ok refl)

pub returns-clause-goes_on : goal.returns-clause-goes_on
returns-clause-goes_on g c = c.is_in_progress.ensures ∙ ap looks_on (sym (lookup_there c.args.records.now.items c.args.place c.turn.new.self c.in-Some.lookup.now (lookup_found c.args.records.now.items c.args.place c.in-Some.lookup c.in-Some.ensures.item)))

pub returns-clause-held : goal.returns-clause-held
returns-clause-held g c = held_in-lookup c.args.records.now.items c.args.place c.in-Some.lookup.now _ (lookup_found c.args.records.now.items c.args.place c.in-Some.lookup c.in-Some.ensures.item)
