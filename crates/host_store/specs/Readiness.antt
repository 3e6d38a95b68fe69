-- Pollables: what they watch, and what a look at them asks.
use Rattle.std.specs.Prelude.{ℕ, Bool, Option, Some, None, Result, Err}
use Rattle.wasi_world.specs.declared.ids.OpId.{OpId}
use Rattle.wasi_world.specs.declared.ids.Ids.{Ids}
use Rattle.wasi_world.specs.declared.outcome.TrapKind.TheVariants.{NoSuchHandle}
use Rattle.wasi_world.specs.Asks.{Asks, Give, bind}
use Rattle.host_store.specs.declared.kind.Watched.{Watched}
use Rattle.host_store.specs.declared.kind.Watched.TheVariants as watched
use Rattle.tcp_records.specs.declared.socket.TcpRecord.{TcpRecord}
use Rattle.record_common.specs.Stops.{Stop, Trap}
use Rattle.tcp_records.specs.InProgress.{is_connect}
use Rattle.host_store.specs.Store.{Records, with_socket}
use Rattle.tcp_records.specs.Looks.{ready_reader, ready_socket, ready_writer, socket_ids}

-- == by what is watched
abbrev pub ready_record : OpId → Ids → Watched → TcpRecord → Asks (Result Bool Stop × TcpRecord)
ready_record op ids (watched.Socket place) r = ready_socket ids r
ready_record op ids (watched.Input place) r = ready_reader op r r.streams
ready_record op ids (watched.Output place) r = ready_writer op r r.streams
ready_record op ids _ r = Give (Err (Trap NoSuchHandle), r)

abbrev pub ready_put : Records → ℕ → Result Bool Stop × TcpRecord → Result Bool Stop × Records
ready_put store place done = (done.0, with_socket store place done.1)

abbrev pub ready_at : Records → OpId → Ids → Watched → ℕ → Option TcpRecord → Asks (Result Bool Stop × Records)
ready_at store op ids w place None = Give (Err (Trap NoSuchHandle), store)
ready_at store op ids w place (Some r) = bind (ready_record op ids w r) (λ done. Give (ready_put store place done))

-- an accept that begins takes one
abbrev pub ready_ids : Ids → Watched → TcpRecord → Ids
ready_ids ids (watched.Socket place) r = socket_ids r ids (is_connect r.in_progress)
ready_ids ids _ r = ids

abbrev pub ready_ids_at : Ids → Watched → Option TcpRecord → Ids
ready_ids_at ids w None = ids
ready_ids_at ids w (Some r) = ready_ids ids w r
