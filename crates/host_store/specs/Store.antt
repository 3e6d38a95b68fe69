-- ?
use Rattle.std.specs.Prelude.{ℕ, Option, Some, None, Result, Ok, Err, List, [], slice_set}
use Rattle.wasi_addr.specs.declared.code.ErrorCode.{ErrorCode}
use Rattle.wasi_world.specs.declared.outcome.TrapKind.TheVariants.{NoSuchHandle}
use Rattle.wasi_world.specs.Asks.{Asks, Give, bind}
use Rattle.wasi_tcp.specs.Shape.{Socket}
use Rattle.tcp_records.specs.declared.socket.TcpRecord.{TcpRecord}
use Rattle.record_common.specs.Stops.{Stop, Trap, code_stop}
use Rattle.wasi_streams.specs.StreamStop.{StreamStop}
use Rattle.wasi_streams.specs.StreamStop as stream
use Rattle.wasi_jobs.specs.declared.job.HostJob.{HostJob}
use Rattle.wasi_records.specs.declared.records.Record.{Record}
use Rattle.host_store.specs.declared.beside.Beside.{Beside}
use Rattle.host_store.specs.declared.limits.Limit.{Limit}
use Rattle.host_store.specs.declared.store.Standing.{Standing}
use Rattle.wasi_records.specs.Records.{tcp2_put, tcp2_pushed, open_put, udp2_put}
use Rattle.tcp_records.specs.Sockets.{new_record}
use Rattle.udp_records.specs.declared.udp.OpenUdp.{OpenUdp}
use Rattle.udp_records.specs.declared.udp.UdpRecord.{UdpRecord}

-- == a call that leaves its socket as it was
abbrev pub code_told : {T : Type 0} → Result T ErrorCode → Result T Stop
code_told (Ok value) = Ok value
code_told (Err c) = Err (code_stop c)

pub record Records : Type 0 where
  pub records : List Record  -- by number
  pub jobs : List HostJob  -- in the order in which they began
  pub standing : Option Standing
  pub beside : List Beside  -- in the order of their lines
  pub limits : List Limit  -- of each context that room was made for a socket of

abbrev pub no_records : Records
no_records = record { records = []; jobs = []; standing = None; beside = []; limits = [] }

-- a record in place of the one of this number, by what a record it is
abbrev pub with_stored : {T : Type 0} → (T → Record) → Records → ℕ → T → Records
with_stored into store place t = record store { records = slice_set store.records place (into t) }

abbrev pub with_socket : Records → ℕ → TcpRecord → Records
with_socket store place r = record store { records = tcp2_put store.records place r }

-- == a connect
-- what a call on a record answered, and the records afterwards
abbrev pub put_back : {T : Type 0} → Records → ℕ → Result T ErrorCode × TcpRecord → Result T Stop × Records
put_back store place (Ok value, r) = (Ok value, with_socket store place r)
put_back store place (Err c, r) = (Err (code_stop c), with_socket store place r)

abbrev pub with_record_put : {T : Type 0} → Records → ℕ → T × TcpRecord → T × Records
with_record_put store place done = (done.0, with_socket store place done.1)

-- a call on a stream of a record
abbrev pub stream_at : {T : Type 0} → Records → ℕ → (TcpRecord → Asks (Result T StreamStop × TcpRecord)) → Option TcpRecord → Asks (Result T StreamStop × Records)
stream_at store place call None = Give (Err (stream.Trap NoSuchHandle), store)
stream_at store place call (Some r) = bind (call r) (λ done. Give (with_record_put store place done))

-- a network socket that was made has its record, whether or not a handle is made for it
abbrev pub with_record : Records → Socket → Records
with_record store socket = record store { records = tcp2_pushed store.records (new_record socket) }

abbrev pub with_udp : Records → ℕ → UdpRecord → Records
with_udp store place u = record store { records = udp2_put store.records place u }

abbrev pub with_open_udp : Records → ℕ → OpenUdp → Records
with_open_udp store place o = record store { records = open_put store.records place o }
