-- The steps of 0.3 on UDP sockets, as moves: those that are never pending.
use Rattle.std.specs.Prelude.{ℕ, List, Result, refl}
use Rattle.wasi_addr.specs.declared.code.ErrorCode.{ErrorCode}
use Rattle.wasi_world.specs.declared.call.Opt.{Opt}
use Rattle.wasi_world.specs.declared.outcome.WasiSocketsCtx.{WasiSocketsCtx}
use Rattle.wasi_world.specs.Asks.{Asks}
use Rattle.socket_common.specs.Options.{value_set}
use Rattle.wasi_udp.specs.Options.{get_option_asks, set_option_asks}
use Rattle.udp_records.specs.declared.udp.OpenUdp.{OpenUdp}
use Rattle.udp_records.specs.declared.udp.UdpRecord.TheVariants.{Open}
use Rattle.wasi_records.specs.Records.{open_at}
use Rattle.udp_records.specs.Udp.{udp_local_asks}
use Rattle.host_store.specs.declared.machine.Machine.{Machine}
use Rattle.host_store.specs.Block.{Call, last}
use Rattle.host_store.specs.Kinds.{kind_at}
use Rattle.host_store.specs.Machine.{own_of, udp3_at}
use Rattle.host_store.specs.Store.{with_open_udp}
use Rattle.wasi_p3.specs.Lines.{of_udp, on_udp, same_stop}
use Rattle.wasi_p3.specs.Stops.{p3_stop}
use Rattle.wasi_p3.specs.Udp.{disconnect, disconnect_of, get_option, local_address, set_option, staying}
use Rattle.wasi_steps.specs.declared.step.Step.{Step}
use Rattle.wasi_steps.specs.Steps.{handles_of}
use Rattle.wasi_walks.specs.Licence.{Has, IsDisconnect, IsGetOf, IsSetTo}
use Rattle.wasi_walks.proofs.walks.Moves.{FoundUdp, ReachesUdp, Spends, Unused, put_udp}
use Rattle.wasi_walks.proofs.walks.Law.{Law, Walks, give, gives, and_then, from}
use Rattle.wasi_walks.proofs.walks.Lines.{look, call}
use Rattle.wasi_walks.proofs.walks.SocketSteps.{on_named}
use Rattle.wasi_walks.proofs.walks.States.{At, OverWith, Put, Starts, udp3_record}
use Rattle.wasi_walks.proofs.walks.Udp.{disconnect_walks, get_udp_walks, opened, set_udp_walks, udp_local_walks, udp_there}
use Rattle.wasi_walks.proofs.walks.UdpLaw.{udp_put_same}

module _ {contexts : List WasiSocketsCtx} {line : ℕ} {origin : Step} {law : Law contexts line origin} where
  -- a call on the record of a number, and of a handle
  on_udp_walks : {A : Type 0} (m : Machine) (place : ℕ) (asked : OpenUdp → Asks (Result A ErrorCode × OpenUdp))
      → ((o : OpenUdp) → FoundUdp (At line m place Unused) place (Open o) → Walks law (put_udp (At line m place Unused) place (Open o)) (λ done. put_udp (At line m place Unused) place (Open done.1)) (asked o))
      → Walks law (At line m place Unused) (Put line m place) (on_udp place asked m.store)
  on_udp_walks m place asked w =
      look (λ o. last (Call p3_stop (λ store. o) (λ store now. with_open_udp store place now) asked)) (open_at m.store.records place) (gives _ (Spends _ refl))
      (λ o e. from (udp_put_same (At line m place Unused) place (Open o) (opened line m place o e)) (call _ (w o (opened line m place o e)) (λ e t. gives _ (Spends _ refl)) (λ a t. gives _ (Spends _ refl))))

  of_udp_walks : {A : Type 0} (m : Machine) (s : ℕ) (asked : OpenUdp → Asks (Result A ErrorCode × OpenUdp)) → Has (handles_of origin) s
      → ((place : ℕ) (o : OpenUdp) → FoundUdp (At line m place Unused) place (Open o) → Walks law (put_udp (At line m place Unused) place (Open o)) (λ done. put_udp (At line m place Unused) place (Open done.1)) (asked o))
      → Walks law (Starts m Unused) OverWith (of_udp s asked m)
  of_udp_walks m s asked named w =
      on_named same_stop m (udp3_at m s) (λ place e. ReachesUdp _ s place named (udp3_record (kind_at m.table s) place e)) (λ place. on_udp place asked) (λ place. on_udp_walks m place asked (w place))

  pub p3_udp_local_walks : (m : Machine) (s : ℕ) → Has (handles_of origin) s → Walks law (Starts m Unused) OverWith (local_address (own_of line) s m)
  p3_udp_local_walks m s named = of_udp_walks m s (udp_local_asks (own_of line)) named (λ place o g. udp_local_walks (udp_there g) refl o)

  pub p3_disconnect_walks : (m : Machine) (s : ℕ) → Has (handles_of origin) s → IsDisconnect origin → Walks law (Starts m Unused) OverWith (disconnect (own_of line) s m)
  p3_disconnect_walks m s named is = of_udp_walks m s (disconnect_of (own_of line)) named (λ place o g. and_then (disconnect_walks (udp_there g) refl is o o.inner.remote) (λ done. give _))

  pub p3_udp_get_walks : (m : Machine) (s : ℕ) (option : Opt) → Has (handles_of origin) s → IsGetOf option origin → Walks law (Starts m Unused) OverWith (get_option (own_of line) s option m)
  p3_udp_get_walks m s option named is =
      of_udp_walks m s (λ o. staying o (get_option_asks (own_of line) o.inner option)) named (λ place o g. and_then (get_udp_walks (udp_there g) refl o option is) (λ told. give _))

  pub p3_udp_set_walks : (m : Machine) (s : ℕ) (option : Opt) (value : ℕ) → Has (handles_of origin) s → IsSetTo option (value_set option value) origin → Walks law (Starts m Unused) OverWith (set_option (own_of line) s option value m)
  p3_udp_set_walks m s option value named is =
      of_udp_walks m s (λ o. staying o (set_option_asks (own_of line) o.inner option value)) named (λ place o g. and_then (set_udp_walks (udp_there g) refl o option value is) (λ told. give _))
