-- What a turn waits for.
use Rattle.std.specs.Prelude.{Bool, true, false, if◌then◌else◌, List, [], map, Option, Some, None}
use Rattle.std.specs.List.{list_any}
use Rattle.wasi_jobs.specs.declared.job.HostJob.{HostJob}
use Rattle.wasi_jobs.specs.declared.job.HostJob.TheVariants.{Write, Datagram, Receive, Lookup}
use Rattle.wasi_looks.specs.declared.look.Look.{Look}
use Rattle.wasi_records.specs.Records.{tcp2_at, open_at}
use Rattle.wasi_records.specs.declared.records.Record.{Record}
use Rattle.step_looks.specs.declared.outlook.Outlook.{Outlook}
use Rattle.step_looks.specs.declared.outlook.Outlook.TheVariants.{Ready}
use Rattle.step_looks.specs.Outlooks.{looks_at_all}
use Rattle.step_looks.specs.Records.{job_at, outgoing_at, receiving_at}

-- what a turn's poll of a job depends on; the network's sockets don't hold a lookup up
abbrev pub job_outlook : List Record → HostJob → Outlook
job_outlook records (Write place) = job_at (tcp2_at records place)
job_outlook records (Datagram place) = outgoing_at (open_at records place)
job_outlook records (Receive place) = receiving_at (open_at records place)
job_outlook records (Lookup place) = Ready

abbrev pub is_receive : HostJob → Bool
is_receive (Receive place) = true
is_receive _ = false

-- it waits where a receive is in progress, until one of the jobs may go on
abbrev pub jobs_looks : List Record → List HostJob → List Look
jobs_looks records jobs = if list_any is_receive jobs then looks_at_all (map (job_outlook records) jobs) else []
