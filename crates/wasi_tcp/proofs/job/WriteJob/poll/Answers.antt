use Rattle.wasi_tcp.proofs.Jobs.{goes_on, job_ends, job_left_over, stops, on_err}
use Rattle.wasi_tcp.proofs.job.WriteJob.poll.Goals as goal
use Rattle.wasi_world.proofs.Walks.{asks_ok}

pub returns-in_err-answered-in-None-clause-asked : goal.returns-in_err-answered-in-None-clause-asked
returns-in_err-answered-in-None-clause-asked g c =
    stops _ c.from_residual.ensures.1 (job_left_over c.poll_stage.result (goes_on _ _ c.end.ensures.told c.in-None.is) c.poll_stage.ensures.polled c.poll_stage.ensures.end c.in_err-answered-in-None.ensures)

pub returns-in_err-answered-in-None-clause-err : goal.returns-in_err-answered-in-None-clause-err
returns-in_err-answered-in-None-clause-err g c =
    on_err c.from_residual.result (job_left_over c.poll_stage.result (goes_on _ _ c.end.ensures.told c.in-None.is) c.poll_stage.ensures.polled c.poll_stage.ensures.end c.in_err-answered-in-None.ensures)

pub returns-in_ok-answered-in-None-clause-asked : goal.returns-in_ok-answered-in-None-clause-asked
returns-in_ok-answered-in-None-clause-asked g c =
    asks_ok (job_ends c.poll_stage.result (goes_on _ _ c.end.ensures.told c.in-None.is) c.poll_stage.ensures.polled c.poll_stage.ensures.end c.in_ok-answered-in-None.ensures)

pub returns-in_err-answered-in-None-clause-write : goal.returns-in_err-answered-in-None-clause-write
returns-in_err-answered-in-None-clause-write g c = c.end.ensures.write

pub returns-in_ok-answered-in-None-clause-write : goal.returns-in_ok-answered-in-None-clause-write
returns-in_ok-answered-in-None-clause-write g c = c.end.ensures.write

pub returns-in-Some-clause-write : goal.returns-in-Some-clause-write
returns-in-Some-clause-write g c = c.end.ensures.write
