use Rattle.wasi_replay.proofs.Readings.{read_fits, read_numbered, few_contexts, few_entries}
use Rattle.wasi_replay.proofs.parse.parse_log.Goals as goal

pub returns-clause-fits : goal.returns-clause-fits
returns-clause-fits c = read_fits c.args.bytes.now c.in_ok-contexts.field-0.contexts.items c.in_ok-contexts.field-0.entries.items c.in_ok-contexts.ensures.ok

pub returns-clause-numbered : goal.returns-clause-numbered
returns-clause-numbered c = read_numbered c.args.bytes.now c.in_ok-contexts.field-0.contexts.items c.in_ok-contexts.field-0.entries.items c.in_ok-contexts.ensures.ok

pub returns-clause-few_contexts : goal.returns-clause-few_contexts
returns-clause-few_contexts c = few_contexts c.args.bytes.now c.in_ok-contexts.field-0.contexts.items c.in_ok-contexts.field-0.entries.items c.in_ok-contexts.ensures.ok

pub returns-clause-few_entries : goal.returns-clause-few_entries
returns-clause-few_entries c = few_entries c.args.bytes.now c.in_ok-contexts.field-0.contexts.items c.in_ok-contexts.field-0.entries.items c.in_ok-contexts.ensures.ok
