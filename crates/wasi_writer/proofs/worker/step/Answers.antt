use Rattle.std.proofs.Common.{ap, ◌∙◌}
use Rattle.worker_shared.specs.Ends.{End}
use Rattle.wasi_writer.specs.Knows.{WorkerKnows}
use Rattle.wasi_writer.proofs.Works.{wrote, failed}
use Rattle.wasi_writer.proofs.worker.step.Goals as goal

pub returns-in_ok-write_chunk-in-Write-clause-worked : goal.returns-in_ok-write_chunk-in-Write-clause-worked
returns-in_ok-write_chunk-in-Write-clause-worked g c = λ began w. let told = c.in_ok-write_chunk-in-Write.ensures in let task = c.in-Write.ensures in wrote c.in-Write.chunk _ _ w c.requires.1 told.ok
    (ap (λ (p : End). p.chunks) told.pop ∙ ap (λ (p : End). p.chunks) task.1)
    (ap (λ (k : WorkerKnows). k.met) told.wrote ∙ ap (λ (k : WorkerKnows). k.met) task.0 ∙ c.requires.1)
    (ap (λ (k : WorkerKnows). k.flushed) told.wrote ∙ ap (λ (k : WorkerKnows). k.flushed) task.0)

pub returns-in_err-write_chunk-in-Write-clause-worked : goal.returns-in_err-write_chunk-in-Write-clause-worked
returns-in_err-write_chunk-in-Write-clause-worked g c = λ began w. let told = c.in_err-write_chunk-in-Write.ensures in let task = c.in-Write.ensures in failed c.in-Write.chunk _ _ w c.requires.1 told.err
    (ap (λ (p : End). p.chunks) told.pop ∙ ap (λ (p : End). p.chunks) task.1)
    (ap (λ (k : WorkerKnows). k.met) told.failed)
    (ap (λ (k : WorkerKnows). k.flushed) told.failed ∙ ap (λ (k : WorkerKnows). k.flushed) task.0)
