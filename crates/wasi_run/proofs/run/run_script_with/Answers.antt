use Rattle.wasi_run.proofs.Completes.{completes}
use Rattle.wasi_run.proofs.CauseLaws.{reads_all, stops_at_trap, stops_at_bad_step, stops_too_long, stops_at_read_fault, stops_at_write_fault, stops_for_memory}
use Rattle.wasi_run.proofs.Headline.{begins_run, runs_licensed, whole_at_ok, over_open, has_closed, has_closed_each}
use Rattle.wasi_run.proofs.run.run_script_with.Goals as goal

pub finish-requires : goal.finish-requires
finish-requires g c = over_open c.run_lines-result.ensures c.requires.open

pub returns-clause-ran : goal.returns-clause-ran
returns-clause-ran g c = record { stopped = _; last = _; over = rw c.as_slice.ensures.value at c.run_lines-result.ensures; quiet = c.finish.ensures.quiet }

pub returns-clause-began : goal.returns-clause-began
returns-clause-began g c = begins_run (returns-clause-ran g c)

pub returns-clause-licensed : goal.returns-clause-licensed
returns-clause-licensed g c = runs_licensed (returns-clause-ran g c)

pub returns-clause-whole : goal.returns-clause-whole
returns-clause-whole g c = whole_at_ok c.run_lines-result.result (returns-clause-ran g c)

pub returns-clause-complete : goal.returns-clause-complete
returns-clause-complete g c = completes (returns-clause-ran g c)

pub returns-clause-all_read : goal.returns-clause-all_read
returns-clause-all_read g c = λ e. reads_all (rw e at (returns-clause-ran g c))

pub returns-clause-ahead : goal.returns-clause-ahead
returns-clause-ahead g c = λ e. stops_at_trap (rw e at (returns-clause-ran g c))

pub returns-clause-bad_step : goal.returns-clause-bad_step
returns-clause-bad_step g c = λ line e. stops_at_bad_step (rw e at (returns-clause-ran g c))

pub returns-clause-too_long : goal.returns-clause-too_long
returns-clause-too_long g c = λ e. stops_too_long (rw e at (returns-clause-ran g c))

pub returns-clause-read_fault : goal.returns-clause-read_fault
returns-clause-read_fault g c = λ e. stops_at_read_fault (rw e at (returns-clause-ran g c))

pub returns-clause-write_fault : goal.returns-clause-write_fault
returns-clause-write_fault g c = λ e. stops_at_write_fault (rw e at (returns-clause-ran g c))

pub returns-clause-memory : goal.returns-clause-memory
returns-clause-memory g c = λ e. stops_for_memory (rw e at (returns-clause-ran g c))

pub returns-clause-closed : goal.returns-clause-closed
returns-clause-closed g c = has_closed c.run_lines-result.ensures c.finish.ensures.closed

pub returns-clause-each : goal.returns-clause-each
returns-clause-each g c = has_closed_each c.run_lines-result.ensures c.finish.ensures.each
