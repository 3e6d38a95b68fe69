use Rattle.wasi_tcp.proofs.job.WriteJob.poll_stage.Goals as goal

pub returns-in-Close-clause-polled : goal.returns-in-Close-clause-polled
returns-in-Close-clause-polled g c = rw (← c.self.view_is) (c.poll_close.ensures.polled _ _)

pub returns-in-Refused-clause-polled : goal.returns-in-Refused-clause-polled
returns-in-Refused-clause-polled g c = rw (← c.self.view_is) (c.poll_shutdown.ensures.polled _ _)
