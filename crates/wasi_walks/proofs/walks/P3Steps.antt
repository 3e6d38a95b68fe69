-- The steps of 0.3 on TCP sockets, as moves: those that are never pending.
use Rattle.std.specs.Prelude.{◌≡◌, ℕ, Bool, true, false, if◌then◌else◌, List, Result, Ok, Err, refl}
use Rattle.std.proofs.Common.{ap}
use Rattle.wasi_addr.specs.declared.code.ErrorCode.{ErrorCode}
use Rattle.wasi_addr.specs.declared.code.ErrorCode.TheVariants.{InvalidArgument}
use Rattle.wasi_addr.specs.Clamp.{clamped_backlog}
use Rattle.wasi_world.specs.declared.call.Opt.{Opt}
use Rattle.wasi_world.specs.declared.outcome.WasiSocketsCtx.{WasiSocketsCtx}
use Rattle.wasi_world.specs.Asks.{Asks, Give}
use Rattle.socket_common.specs.Options.{value_set, zero_test, refused_before, set_of_side_asks, get_of_side_asks}
use Rattle.wasi_tcp.specs.Shape.{Socket}
use Rattle.wasi_tcp.specs.Options.{get_where, set_where, option_side, get_option_asks, set_option_asks, set_backlog_asks}
use Rattle.tcp_records.specs.declared.socket.TcpRecord.{TcpRecord}
use Rattle.tcp_records.specs.Sockets.{with_inner, tell_local_asks, tell_remote_asks}
use Rattle.host_store.specs.declared.machine.Machine.{Machine}
use Rattle.host_store.specs.Kinds.{kind_at}
use Rattle.host_store.specs.Machine.{own_of, tcp3_at}
use Rattle.wasi_p3.specs.Stops.{p3_stop}
use Rattle.wasi_p3.specs.Lines.{inner_call, on_tcp}
use Rattle.wasi_p3.specs.Tcp.{local_address, remote_address, get_option}
use Rattle.wasi_steps.specs.declared.step.Step.{Step}
use Rattle.wasi_steps.specs.Steps.{handles_of}
use Rattle.wasi_steps.specs.Settings.{Chosen, AnOption, TheBacklog}
use Rattle.wasi_machine.specs.Machine.{set_p3}
use Rattle.wasi_walks.specs.Licence.{Has, IsGetOf, IsSetTo, IsBacklogSet}
use Rattle.wasi_walks.proofs.walks.Moves.{Here, Unused, put}
use Rattle.wasi_walks.proofs.walks.Law.{Law, Walks, Given, given_then, give, and_then, and_given, from}
use Rattle.wasi_walks.proofs.walks.Sockets.{get_walks, set_walks, backlog_walks, local_walks, remote_walks}
use Rattle.wasi_walks.proofs.walks.SocketSteps.{on_handle, on_tcp_walks}
use Rattle.wasi_walks.proofs.walks.States.{At, OverWith, Starts, tcp3_record}

-- a socket that is asked for an option, or whose option is set, stays as it is
Stays : {A : Type 0} → Socket → Result A ErrorCode × Socket → Type 0
Stays socket done = done.1 ≡ socket

get_stays : (own_line : ℕ) (s : Socket) (option : Opt) (u : Result _ ErrorCode) → Given (Stays s) (get_where (own_of own_line) s option u)
unfolding Stays
get_stays own_line s option (Ok side) = given_then (Stays s) (λ answer. (answer, s)) (λ answer. refl) (get_of_side_asks (own_of own_line) side option)
get_stays own_line s option (Err c) = refl

set_stays : (own_line : ℕ) (s : Socket) (option : Opt) (value : ℕ) (u : Result _ ErrorCode) → Given (Stays s) (set_where (own_of own_line) s option value u)
unfolding Stays
set_stays own_line s option value (Ok side) = given_then (Stays s) (λ answer. (answer, s)) (λ answer. refl) (set_of_side_asks (own_of own_line) side option value)
set_stays own_line s option value (Err c) = refl

module _ {contexts : List WasiSocketsCtx} {line : ℕ} {origin : Step} {law : Law contexts line origin} where
  -- a call of the socket itself, which leaves it as it was
  stays_walks : {A : Type 0} (h : Here) (place : ℕ) (r : TcpRecord) (call : Socket → Asks (Result A ErrorCode × Socket)) → Given (Stays r.inner) (call r.inner)
      → Walks law (put h place r) (λ done. put h place r) (call r.inner) → Walks law (put h place r) (λ done. put h place done.1) (inner_call call r)
  unfolding Stays
  stays_walks h place r call same w = and_given (Stays r.inner) same w (λ done is. from (ap (λ (x : Socket). put h place (with_inner r x)) is) (give _))

  -- == what a socket says of itself
  pub p3_local_walks : (m : Machine) (s : ℕ) → Has (handles_of origin) s → Walks law (Starts m Unused) OverWith (local_address (own_of line) s m)
  p3_local_walks m s named =
      on_handle m s (tcp3_at m s) (tcp3_record (kind_at m.table s)) (λ place. on_tcp place (tell_local_asks (own_of line))) named
      (λ place. on_tcp_walks m place p3_stop (tell_local_asks (own_of line)) (λ r here. local_walks here refl r))

  pub p3_remote_walks : (m : Machine) (s : ℕ) → Has (handles_of origin) s → Walks law (Starts m Unused) OverWith (remote_address (own_of line) s m)
  p3_remote_walks m s named =
      on_handle m s (tcp3_at m s) (tcp3_record (kind_at m.table s)) (λ place. on_tcp place (tell_remote_asks (own_of line))) named
      (λ place. on_tcp_walks m place p3_stop (tell_remote_asks (own_of line)) (λ r here. remote_walks here refl r))

  -- == its options, and its backlog
  pub p3_get_walks : (m : Machine) (s : ℕ) (option : Opt) → Has (handles_of origin) s → IsGetOf option origin → Walks law (Starts m Unused) OverWith (get_option (own_of line) s option m)
  p3_get_walks m s option named is =
      let ask : Socket → Asks (Result ℕ ErrorCode × Socket) = λ x. get_option_asks (own_of line) x option in
      on_handle m s (tcp3_at m s) (tcp3_record (kind_at m.table s)) (λ place. on_tcp place (inner_call ask)) named
      (λ place. on_tcp_walks m place p3_stop (inner_call ask) (λ r here. stays_walks (At line m place Unused) place r ask (get_stays line r.inner option (option_side r.inner)) (get_walks here refl r option refl is)))

  pub p3_set_walks : (m : Machine) (s : ℕ) (c : Chosen) → Has (handles_of origin) s → ((option : Opt) (value : ℕ) → c ≡ AnOption option value → IsSetTo option (value_set option value) origin)
      → ((value : ℕ) → c ≡ TheBacklog value → IsBacklogSet (clamped_backlog value) origin) → Walks law (Starts m Unused) OverWith (set_p3 (own_of line) s c m)
  unfolding Stays
  p3_set_walks m s (AnOption option value) named q b =
      let ask : Socket → Asks (Result (Unit {0}) ErrorCode × Socket) = λ x. set_option_asks (own_of line) x option value in
      on_handle m s (tcp3_at m s) (tcp3_record (kind_at m.table s)) (λ place. on_tcp place (inner_call ask)) named
      (λ place. on_tcp_walks m place p3_stop (inner_call ask) (λ r here. stays_walks (At line m place Unused) place r ask (stays r.inner (refused_before (zero_test option) value)) (set_walks here refl r option value refl (q option value refl))))
    where
      stays : (x : Socket) (refused : Bool) → Given (Stays x) (if refused then Give (Err InvalidArgument, x) else set_where (own_of line) x option value (option_side x))
      stays x true = refl
      stays x false = set_stays line x option value (option_side x)
  p3_set_walks m s (TheBacklog value) named q b =
      on_handle m s (tcp3_at m s) (tcp3_record (kind_at m.table s)) (λ place. on_tcp place (inner_call (λ x. set_backlog_asks (own_of line) x value))) named
      (λ place. on_tcp_walks m place p3_stop (inner_call (λ x. set_backlog_asks (own_of line) x value)) (λ r here. and_then (backlog_walks here refl r value (b value refl)) (λ done. give _)))
