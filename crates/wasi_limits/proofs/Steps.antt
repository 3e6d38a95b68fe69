-- Each step of a 0.2 TCP script, of machines that are alike: it asks the same up to a trap, its reply is the same but for the number
-- of a check-write on a writer of this context, and the machines are alike afterwards.
use Rattle.std.proofs.Common.{◌≡◌, refl, sym, ap, subst, ◌∙◌, Bool, true, false, if◌then◌else◌, ℕ, ◌==◌, List, length, Option, Some, None, Result, Ok, Err}
use Rattle.wasi_addr.specs.declared.code.ErrorCode.{ErrorCode}
use Rattle.wasi_addr.specs.declared.address.IpSocketAddress.{IpSocketAddress}
use Rattle.wasi_addr.specs.declared.address.ShutdownType.{ShutdownType}
use Rattle.wasi_addr.specs.declared.address.SocketAddressFamily.{SocketAddressFamily}
use Rattle.wasi_world.specs.declared.ids.OpId.{OpId}
use Rattle.wasi_world.specs.declared.ids.Ids.{Ids}
use Rattle.wasi_world.specs.declared.outcome.Answer.{Answer}
use Rattle.wasi_world.specs.declared.outcome.WasiSocketsCtx.{WasiSocketsCtx}
use Rattle.wasi_world.specs.declared.outcome.TrapKind.TheVariants.{HasChildren}
use Rattle.wasi_world.specs.Asks.{Asks, Give}
unfoldable use Rattle.wasi_world.specs.Asks.{bind}
use Rattle.wasi_tcp.specs.Shape.{Socket}
use Rattle.wasi_tcp.specs.Socket.{new_asks, side_of}
use Rattle.wasi_tcp.specs.Reader.{read_state_asks}
use Rattle.wasi_tcp.specs.Writer.{write_state_asks}
use Rattle.tcp_records.specs.declared.tcp_binding.InProgress.{InProgress}
use Rattle.wasi_records.specs.declared.records.Record.TheVariants as a_record
use Rattle.tcp_records.specs.declared.socket.TcpRecord.{TcpRecord}
use Rattle.tcp_records.specs.Halves.{flush_asks, reader_asks, writer_asks}
use Rattle.tcp_records.specs.InProgress.{is_bind, is_listen}
use Rattle.record_common.specs.Names.{first_ids, own_of}
use Rattle.wasi_records.specs.Records.{tcp2_at}
use Rattle.tcp_records.specs.Sockets.{new_record}
use Rattle.record_common.specs.Stops.{Stop, Trap}
use Rattle.host_store.specs.BaseStops.{BaseStop}
use Rattle.host_store.specs.CallStops.{CallStop, Closed, Failed, Traps as CallTraps}
use Rattle.host_store.specs.Kinds.{HandleTable, has_no_child, is_network, kind_at, make_asks, plain_input_of, plain_output_of, taken_out, watch_of, watched_by, without_handle, input_of, output_of}
use Rattle.wasi_host.specs.HandleDrops.{at_once, drop_asks, drop_kind, drop_taken, answered}
use Rattle.host_tcp.specs.Creates.{create_asks, create_handle, created_asks, with_room}
use Rattle.host_store.specs.Machine.{output_at, side_at, socket_at, with_store, with_table}
use Rattle.wasi_host.specs.Pollables.{ready_asks, ready_on, subscribe_asks, subscribe_on}
use Rattle.wasi_host.specs.Turns.{turn_machine_asks}
use Rattle.wasi_addr.specs.declared.p2.ErrorCode.{ErrorCode as P2Code}
use Rattle.host_store.specs.Block.{Does, Read, after_call, give, last, or_trap, ◌>>=◌, ◌>>◌}
use Rattle.host_store.specs.Lines.{finish_connect_of, in_store, makes, on_tcp, same_stop, storing, tabling, tcp_in, told_of}
use Rattle.host_store.specs.declared.kind.Interface.TheVariants.{P2, P3}
use Rattle.tcp_records.specs.Sockets.{tell_local_asks, tell_remote_asks}
use Rattle.wasi_tcp.specs.Addresses.{is_listening as listens}
use Rattle.wasi_host.specs.Pending.{answered_on, go_on, gone_on, outcome_of, resume_asks, resume_call, resumed}
use Rattle.host_store.specs.Standing.{allowed_answer, call_of, unstood}
use Rattle.host_store.specs.Store.{Records, with_record}
use Rattle.host_streams.specs.StreamCalls.{check_asks, check_by, flush_by, flushed_asks, read_asks, read_by, write_asks, write_by}
use Rattle.host_store.specs.declared.kind.Kind.{Kind}
use Rattle.host_store.specs.declared.kind.Kind.TheVariants as kind
use Rattle.host_store.specs.declared.kind.PlainInput.{PlainInput}
use Rattle.host_store.specs.declared.kind.PlainOutput.{PlainOutput}
use Rattle.host_store.specs.declared.kind.Watched.TheVariants as watched
use Rattle.host_store.specs.declared.machine.Machine.{Machine}
use Rattle.wasi_host.specs.declared.pending.Outcome.{Outcome}
use Rattle.host_store.specs.declared.store.Standing.{Standing}
use Rattle.host_store.specs.declared.store.StandingCall.{StandingCall}
use Rattle.host_store.specs.declared.store.StandingCall.TheVariants as standing
use Rattle.wasi_p2.specs.Tcp.{accept_on, accepted_asks, accepted_handles, accepted_streams, finish_on, make_streams, network_asks, shutdown_on, socket_with_streams, start_bind_asks, start_bind_on, start_connect_asks, start_connect_on, start_listen_on}
use Rattle.wasi_steps.specs.declared.reply.Field.{Field}
use Rattle.wasi_steps.specs.declared.reply.Reply.{Reply}
use Rattle.wasi_steps.specs.declared.reply.Reply.TheVariants as reply
use Rattle.wasi_steps.specs.declared.guest_call.GuestCall.TheVariants as guest
use Rattle.wasi_steps.specs.declared.guest_call.TcpCall.TheVariants as tcp_call
use Rattle.wasi_steps.specs.declared.guest_call.NameCall.TheVariants as name_call
use Rattle.wasi_steps.specs.declared.guest_call.StreamCall.TheVariants as stream_call
use Rattle.wasi_steps.specs.declared.guest_call.PollableCall.TheVariants as pollable_call
use Rattle.wasi_steps.specs.declared.step.Step.{Step}
use Rattle.wasi_steps.specs.declared.step.Step.TheVariants as step
use Rattle.wasi_steps.specs.Reply.{family_fields, is_trap, no_fields, no_values, number_fields, truth_fields}
use Rattle.wasi_machine.specs.Machine.{asks_in, reply_of, stream_reply_of}
use Rattle.wasi_limits.specs.Alike.{Alike, BothGive, Same, StopsAt, Stopped}
use Rattle.wasi_limits.specs.Contexts.{LikeContext, OtherLimit}
use Rattle.wasi_limits.proofs.Like.{SameRecord, LikeStore, Stores, LikeMachine, Machines, With, Also, Gives, GiveOk, GiveErr, AllTcp, IsTcpKind, IsTcpCall, IsTcpStanding}
use Rattle.wasi_limits.specs.Runs.{IsTcpStep, checks_writer_of, is_writer_of, without_number}
use Rattle.wasi_limits.proofs.Together.{alike_then, same_then, after_both, same_give}
use Rattle.wasi_limits.proofs.Handles.{IsTcpFound, SameMade, Mades, all_without, found_tcp, make_like, make_same, table_like}
use Rattle.wasi_limits.proofs.Lookups.{like_length, like_more}
use Rattle.wasi_limits.proofs.Stores.{SameStores, accept_like, drop_output_like, finish_connect_like, finish_like, found_like, on_tcp_like, ready_like, rebind_like, release_like, relisten_like, same_told, shutdown_like, start_bind_like, start_connect_like, start_listen_like, turn_like}
use Rattle.wasi_limits.proofs.Streams.{Counts, TrapsCall, check_on_like, same_side, store_like, stream_on_like, write_on_like}
use Rattle.wasi_limits.proofs.Sockets.{Keeps, tell_local_keeps, tell_remote_keeps}
use Rattle.wasi_limits.proofs.Totals.{room_like}
use Rattle.wasi_limits.proofs.Writers.{flush_keeps, read_keeps, write_keeps}

-- a line's reply is a trap
abbrev pub IsTrapped : Reply × Machine → Type 0
IsTrapped done = is_trap done.0 ≡ true

-- The replies of a line are the same, but for a number that is left out; and the machines are alike.
pub data Replied (c : ℕ) (left_out : Bool) : Reply × Machine → Reply × Machine → Type 0 where
  Replies : (r other : Reply) (m now : Machine) → without_number left_out r ≡ without_number left_out other → LikeMachine c m now → Replied c left_out (r, m) (other, now)

-- what a call answers is the same, and the machines are alike
abbrev pub SameCalls : {A : Type 0} → ℕ → Asks (A × Machine) → Asks (A × Machine) → Type 0
SameCalls c asks others = Same (With (LikeMachine c)) asks others

-- a trap of a call of streams is one of its line
stream_stops : {T : Type 0} (fields : T → List Field) (a : Result T CallStop × Machine) → TrapsCall a → StopsAt {A = Reply × Machine} IsTrapped (Give (stream_reply_of fields a.0, a.1))
stream_stops fields (Ok value, m) t = absurd t
stream_stops fields (Err (Failed code handle), m) t = absurd t
stream_stops fields (Err Closed, m) t = absurd t
stream_stops fields (Err (CallTraps kind), m) t = Stopped _ refl

-- what is pending in a 0.2 TCP script
if_standing : (b : Bool) (s : Standing) → IsTcpCall s.call → IsTcpStanding (if b then Some s else None)
if_standing true s tcp = tcp
if_standing false s tcp = tt

call_tcp : (o : Option Standing) (line : ℕ) → IsTcpStanding o → IsTcpStanding (call_of o line)
call_tcp None line tcp = tt
call_tcp (Some s) line tcp = if_standing (s.ids.line == line) s tcp

-- no handle of such a script is of a stream of no connection
no_plain_input : (k : Option Kind) → IsTcpFound k → plain_input_of k ≡ None
no_plain_input (Some (kind.PlainInput i)) tcp = absurd tcp
no_plain_input _ tcp = refl

no_plain_output : (k : Option Kind) → IsTcpFound k → plain_output_of k ≡ None
no_plain_output (Some (kind.PlainOutput o)) tcp = absurd tcp
no_plain_output _ tcp = refl

-- a check's trap is one of its line too, whatever is left out
pub same_trap : (b : Bool) (r other : Reply) → without_number b r ≡ without_number b other → is_trap r ≡ is_trap other
same_trap b r other e = sym (trap_kept b r) ∙ (ap is_trap e ∙ trap_kept b other)
  where
    trap_kept : (b : Bool) (r : Reply) → is_trap (without_number b r) ≡ is_trap r
    trap_kept true (reply.Ok fields) = refl
    trap_kept _ r = refl

-- the streams of a connection are made, one after the other
abbrev both_made : ℕ → ℕ → Does P2Code Machine (ℕ × ℕ)
both_made input output = give (input, output)

abbrev output_next : OpId → ℕ → ℕ → Option OpId → ℕ → Does P2Code Machine (ℕ × ℕ)
output_next own handle place side input = makes own (kind.Output place) (Some handle) side >>= both_made input

-- the connect is done, and they are made
abbrev streams_next : OpId → ℕ → ℕ → Does P2Code Machine (ℕ × ℕ)
streams_next own handle place = Read (λ m. side_at (tcp2_at m.store.records place)) >>= λ side. make_streams own handle place side

module _ {c : ℕ} where
  -- == replies
  replied : {A : Type 0} (f : A → Reply) (a b : A × Machine) → With (LikeMachine c) a b → Replied c false (f a.0, a.1) (f b.0, b.1)
  replied f _ _ (Also a m now l) = Replies (f a) (f a) m now refl l

  reply_like : {A : Type 0} {t u : Asks (A × Machine)} (f : A → Reply) → SameCalls c t u → Alike IsTrapped (Replied c false) (bind t (λ done. Give (f done.0, done.1))) (bind u (λ done. Give (f done.0, done.1)))
  reply_like f h = same_give _ _ h (replied f)

  give_like : {m now : Machine} (r other : Reply) → r ≡ other → LikeMachine c m now → Alike IsTrapped (Replied c false) (Give (r, m)) (Give (other, now))
  give_like r other e l = BothGive _ _ (Replies r other _ _ e l)

  -- of a call of streams
  stream_replied : {T : Type 0} (fields : T → List Field) (a b : Result T CallStop × Machine) → Gives (λ (x y : T). x ≡ y) (LikeMachine c) a b → Replied c false (stream_reply_of fields a.0, a.1) (stream_reply_of fields b.0, b.1)
  stream_replied {T} fields _ _ (GiveOk a b m now e l) = Replies _ _ _ _ (ap (λ (x : T). reply.Ok (fields x)) e) l
  stream_replied fields _ _ (GiveErr stop m now l) = Replies _ _ _ _ refl l

  stream_reply_like : {T : Type 0} {t u : Asks (Result T CallStop × Machine)} (fields : T → List Field) → Alike TrapsCall (Gives (λ (x y : T). x ≡ y) (LikeMachine c)) t u → Alike IsTrapped (Replied c false) (bind t (λ done. Give (stream_reply_of fields done.0, done.1))) (bind u (λ done. Give (stream_reply_of fields done.0, done.1)))
  stream_reply_like fields h = alike_then h (stream_stops fields) (stream_stops fields) (λ a b g. BothGive _ _ (stream_replied fields a b g))

  -- a check's number is left out
  count_replied : (b : Bool) (x y : Result ℕ CallStop × Machine) → Gives (Counts b) (LikeMachine c) x y → Replied c b (stream_reply_of number_fields x.0, x.1) (stream_reply_of number_fields y.0, y.1)
  count_replied true _ _ (GiveOk a b m now e l) = Replies _ _ _ _ refl l
  count_replied false _ _ (GiveOk a b m now e l) = Replies _ _ _ _ (ap (λ (x : ℕ). reply.Ok (number_fields x)) e) l
  count_replied b _ _ (GiveErr stop m now l) = Replies _ _ _ _ refl l

  -- == sockets
  network_like : {m now : Machine} → LikeMachine c m now → (own : OpId) → SameCalls c (network_asks m own) (network_asks now own)
  network_like (Machines t store other all l) own = same_give _ _ (make_same t own kind.Network None None all tt) (table_like (Machines t store other all l))

  pushed_like : {store other : Records} → LikeStore c store other → (socket : Socket) → LikeStore c (with_record store socket) (with_record other socket)
  pushed_like (Stores records others jobs standing limits mosts is h k) socket = Stores _ _ jobs standing limits mosts is (like_more h (SameRecord (a_record.Tcp (new_record socket)))) k

  same_count : {store other : Records} → LikeStore c store other → length store.records ≡ length other.records
  same_count (Stores records others jobs standing limits mosts is h k) = like_length h

  create_handle_like : {m now : Machine} → LikeMachine c m now → (own : OpId) (socket : Socket) → SameCalls c (create_handle m own socket) (create_handle now own socket)
  create_handle_like (Machines t store other all l) own socket =
      let P : ℕ → Type 0 = λ n. Same SameMade (make_asks t own (kind.Tcp2 (length store.records)) None (side_of socket)) (make_asks t own (kind.Tcp2 n) None (side_of socket)) in
      same_give _ _ (subst P (same_count l) (make_same t own (kind.Tcp2 (length store.records)) None (side_of socket) all tt)) (table_like (Machines t (with_record store socket) (with_record other socket) all (pushed_like l socket)))

  created_like : {m now : Machine} → LikeMachine c m now → (own : OpId) (made : Result Socket ErrorCode) → SameCalls c (created_asks m own made) (created_asks now own made)
  created_like l own (Err e) = BothGive _ _ (Also _ _ _ l)
  created_like l own (Ok socket) = create_handle_like l own socket

  room_made : {m now : Machine} {ctx its : WasiSocketsCtx} → LikeMachine c m now → LikeContext c ctx its → LikeMachine c (with_room m ctx) (with_room now its)
  room_made (Machines t store other all l) k = Machines t _ _ all (room_like l k)

  create_like : {m now : Machine} {ctx its : WasiSocketsCtx} → LikeMachine c m now → LikeContext c ctx its → (own : OpId) (family : SocketAddressFamily) → SameCalls c (create_asks m own ctx family) (create_asks now own its family)
  create_like l (OtherLimit ctx a b e) own family = after_both (new_asks own ctx family) (created_like (room_made l (OtherLimit ctx a b e)) own)

  -- a call on the record of a socket
  on_like : {A : Type 0} {m now : Machine} {t u : Asks (A × Records)} → LikeMachine c m now → SameStores c t u → SameCalls c (bind t (λ done. Give (with_store m done))) (bind u (λ done. Give (with_store now done)))
  on_like l h = same_give _ _ h (store_like l)

  start_bind_on_like : {m now : Machine} → LikeMachine c m now → (ids : Ids) (a : IpSocketAddress) (o : Option ℕ) → SameCalls c (start_bind_on m ids a o) (start_bind_on now ids a o)
  start_bind_on_like l ids a None = BothGive _ _ (Also _ _ _ l)
  start_bind_on_like (Machines t store other all l) ids a (Some place) = on_like (Machines t store other all l) (start_bind_like l place ids a (found_like l place))

  start_connect_on_like : {m now : Machine} → LikeMachine c m now → (own : OpId) (a : IpSocketAddress) (o : Option ℕ) → SameCalls c (start_connect_on m own a o) (start_connect_on now own a o)
  start_connect_on_like l own a None = BothGive _ _ (Also _ _ _ l)
  start_connect_on_like (Machines t store other all l) own a (Some place) = on_like (Machines t store other all l) (start_connect_like l place own a (found_like l place))

  -- the network's handle is tested first
  if_like : {A : Type 0} {m now : Machine} {t u : Asks (Result A Stop × Machine)} → LikeMachine c m now → (b : Bool) (stop : Stop) → SameCalls c t u → SameCalls c (if b then t else Give (Err stop, m)) (if b then u else Give (Err stop, now))
  if_like l true stop h = h
  if_like l false stop h = BothGive _ _ (Also _ _ _ l)

  bind_like : {m now : Machine} → LikeMachine c m now → (ids : Ids) (s n : ℕ) (a : IpSocketAddress) → SameCalls c (start_bind_asks m ids s n a) (start_bind_asks now ids s n a)
  bind_like (Machines t store other all l) ids s n a = if_like (Machines t store other all l) (is_network (kind_at t n)) _ (start_bind_on_like (Machines t store other all l) ids a (socket_at (record { table = t; store = store }) s))

  connect_like : {m now : Machine} → LikeMachine c m now → (own : OpId) (s n : ℕ) (a : IpSocketAddress) → SameCalls c (start_connect_asks m own s n a) (start_connect_asks now own s n a)
  connect_like (Machines t store other all l) own s n a = if_like (Machines t store other all l) (is_network (kind_at t n)) _ (start_connect_on_like (Machines t store other all l) own a (socket_at (record { table = t; store = store }) s))

  finish_on_like : (is_it : InProgress → Bool) {m now : Machine} → LikeMachine c m now → (o : Option ℕ) → With (LikeMachine c) (finish_on is_it m o) (finish_on is_it now o)
  finish_on_like is_it l None = Also _ _ _ l
  finish_on_like is_it (Machines t store other all l) (Some place) = store_like (Machines t store other all l) _ _ (finish_like l place is_it (found_like l place))

  -- the last line of a block is a call on the store
  stored_like : {A : Type 0} {m now : Machine} → LikeMachine c m now → (a b : Result A Stop × Records) → With (LikeStore c) a b → SameCalls c (after_call same_stop storing give m a) (after_call same_stop storing give now b)
  stored_like (Machines t store other all l) _ _ (Also (Ok a) x y k) = BothGive _ _ (Also _ _ _ (Machines t x y all k))
  stored_like (Machines t store other all l) _ _ (Also (Err stop) x y k) = BothGive _ _ (Also _ _ _ (Machines t x y all k))

  address_like : {m now : Machine} → LikeMachine c m now → (call : TcpRecord → Asks (Result IpSocketAddress ErrorCode × TcpRecord)) → Keeps c call → (o : Option ℕ)
      → SameCalls c (or_trap (λ place. last (in_store (on_tcp place call))) m o) (or_trap (λ place. last (in_store (on_tcp place call))) now o)
  address_like l call keeps None = BothGive _ _ (Also _ _ _ l)
  address_like (Machines t store other all l) call keeps (Some place) = same_then (on_tcp_like l place call keeps) (stored_like (Machines t store other all l))

  shutdown_on_like : {m now : Machine} → LikeMachine c m now → (own : OpId) (how : ShutdownType) (o : Option ℕ) → SameCalls c (shutdown_on m own how o) (shutdown_on now own how o)
  shutdown_on_like l own how None = BothGive _ _ (Also _ _ _ l)
  shutdown_on_like (Machines t store other all l) own how (Some place) = on_like (Machines t store other all l) (shutdown_like l place own how (found_like l place))

  listen_on_like : {m now : Machine} → LikeMachine c m now → (ids : Ids) (o : Option ℕ) → SameCalls c (start_listen_on m ids o) (start_listen_on now ids o)
  listen_on_like l ids None = BothGive _ _ (Also _ _ _ l)
  listen_on_like (Machines t store other all l) ids (Some place) = on_like (Machines t store other all l) (start_listen_like l place ids (found_like l place))

  tells_same : {A : Type 0} (tells : Socket → A) {m now : Machine} → LikeMachine c m now → (o : Option ℕ) → told_of (λ r. tells r.inner) (tcp_in m o) ≡ told_of (λ r. tells r.inner) (tcp_in now o)
  tells_same tells l None = refl
  tells_same tells (Machines t store other all l) (Some place) = same_told l place tells (found_like l place)

  -- == the handles of a connection
  made_like : {m now : Machine} → LikeMachine c m now → (own : OpId) (k : Kind) (parent : Option ℕ) (side other : Option OpId) → side ≡ other → IsTcpKind k → SameCalls c (bind (make_asks m.table own k parent side) (λ made. Give (with_table m made))) (bind (make_asks now.table own k parent other) (λ made. Give (with_table now made)))
  made_like (Machines t store other all l) own k parent side its e tcp = same_give _ _ (make_like t own k parent side its e all tcp) (table_like (Machines t store other all l))

  made_table : {m now : Machine} {a b : Result ℕ Stop × HandleTable} → LikeMachine c m now → SameMade a b → With (LikeMachine c) (with_table m a) (with_table now b)
  made_table l h = table_like l _ _ h

  output_like : (input : ℕ) {m now : Machine} → LikeMachine c m now → (a b : Result ℕ Stop × HandleTable) → SameMade a b → SameCalls c (after_call same_stop tabling (both_made input) m a) (after_call same_stop tabling (both_made input) now b)
  output_like input (Machines t store other all l) _ _ (Mades (Ok output) made a) = BothGive _ _ (Also _ _ _ (Machines made store other a l))
  output_like input (Machines t store other all l) _ _ (Mades (Err stop) made a) = BothGive _ _ (Also _ _ _ (Machines made store other a l))

  input_like : (own : OpId) (handle place : ℕ) (side : Option OpId) {m now : Machine} → LikeMachine c m now → (a b : Result ℕ Stop × HandleTable) → SameMade a b
      → SameCalls c (after_call same_stop tabling (output_next own handle place side) m a) (after_call same_stop tabling (output_next own handle place side) now b)
  input_like own handle place side (Machines t store other all l) _ _ (Mades (Ok input) made a) = same_then (make_same made own (kind.Output place) (Some handle) side a tt) (output_like input (Machines made store other a l))
  input_like own handle place side (Machines t store other all l) _ _ (Mades (Err stop) made a) = BothGive _ _ (Also _ _ _ (Machines made store other a l))

  streams_by : {m now : Machine} → LikeMachine c m now → (own : OpId) (handle place : ℕ) (side : Option OpId) → SameCalls c (make_streams own handle place side m) (make_streams own handle place side now)
  streams_by (Machines t store other all l) own handle place side = same_then (make_same t own (kind.Input place) (Some handle) side all tt) (input_like own handle place side (Machines t store other all l))

  streams_like : {m now : Machine} → LikeMachine c m now → (own : OpId) (handle place : ℕ) (side its : Option OpId) → side ≡ its → SameCalls c (make_streams own handle place side m) (make_streams own handle place its now)
  streams_like {m} {now} l own handle place side its e = let P : Option OpId → Type 0 = λ s. SameCalls c (make_streams own handle place side m) (make_streams own handle place s now) in subst P e (streams_by l own handle place side)

  side_same : {m now : Machine} → LikeMachine c m now → (place : ℕ) → side_at (tcp2_at m.store.records place) ≡ side_at (tcp2_at now.store.records place)
  side_same (Machines t store other all l) place = same_side (found_like l place)

  connected_like : (own : OpId) (handle place : ℕ) {m now : Machine} → LikeMachine c m now → (a b : Result (Unit {0}) Stop × Records) → With (LikeStore c) a b
      → SameCalls c (after_call same_stop storing (λ done. streams_next own handle place) m a) (after_call same_stop storing (λ done. streams_next own handle place) now b)
  connected_like own handle place (Machines t store other all l) _ _ (Also (Ok done) x y k) = streams_like (Machines t x y all k) own handle place _ _ (side_same (Machines t x y all k) place)
  connected_like own handle place (Machines t store other all l) _ _ (Also (Err stop) x y k) = BothGive _ _ (Also _ _ _ (Machines t x y all k))

  finish_connect_on_like : {m now : Machine} → LikeMachine c m now → (own : OpId) (handle : ℕ) (o : Option ℕ)
      → SameCalls c (or_trap (λ place. in_store (finish_connect_of place) >> streams_next own handle place) m o) (or_trap (λ place. in_store (finish_connect_of place) >> streams_next own handle place) now o)
  finish_connect_on_like l own handle None = BothGive _ _ (Also _ _ _ l)
  finish_connect_on_like (Machines t store other all l) own handle (Some place) = same_then (finish_connect_like l place) (connected_like own handle place (Machines t store other all l))

  -- of an accept
  with_streams_like : (socket : ℕ) (a b : Result (ℕ × ℕ) Stop × Machine) → With (LikeMachine c) a b → With (LikeMachine c) (socket_with_streams socket a) (socket_with_streams socket b)
  with_streams_like socket _ _ (Also (Ok (input, output)) m now l) = Also _ _ _ l
  with_streams_like socket _ _ (Also (Err stop) m now l) = Also _ _ _ l

  accepted_streams_like : (own : OpId) (place : ℕ) (side : Option OpId) (a b : Result ℕ Stop × Machine) → With (LikeMachine c) a b → SameCalls c (accepted_streams own place side a) (accepted_streams own place side b)
  accepted_streams_like own place side _ _ (Also (Ok socket) m now l) = same_give _ _ (streams_like l own socket place side side refl) (with_streams_like socket)
  accepted_streams_like own place side _ _ (Also (Err stop) m now l) = BothGive _ _ (Also _ _ _ l)

  accepted_by : {m now : Machine} → LikeMachine c m now → (own : OpId) (listener place : ℕ) (side : Option OpId) → SameCalls c (accepted_handles m own listener place side) (accepted_handles now own listener place side)
  accepted_by (Machines t store other all l) own listener place side = same_then (make_same t own (kind.Tcp2 place) (Some listener) side all tt) (λ x y h. accepted_streams_like own place side _ _ (made_table (Machines t store other all l) h))

  accepted_handles_like : {m now : Machine} → LikeMachine c m now → (own : OpId) (listener place : ℕ) (side its : Option OpId) → side ≡ its → SameCalls c (accepted_handles m own listener place side) (accepted_handles now own listener place its)
  accepted_handles_like {m} {now} l own listener place side its e = let P : Option OpId → Type 0 = λ s. SameCalls c (accepted_handles m own listener place side) (accepted_handles now own listener place s) in subst P e (accepted_by l own listener place side)

  accepted_like : (own : OpId) (listener : ℕ) (a b : Result ℕ Stop × Machine) → With (LikeMachine c) a b → SameCalls c (accepted_asks own listener a) (accepted_asks own listener b)
  accepted_like own listener _ _ (Also (Ok place) m now l) = accepted_handles_like l own listener place _ _ (side_same l place)
  accepted_like own listener _ _ (Also (Err stop) m now l) = BothGive _ _ (Also _ _ _ l)

  accept_on_like : {m now : Machine} → LikeMachine c m now → (ids : Ids) (listener : ℕ) (o : Option ℕ) → SameCalls c (accept_on m ids listener o) (accept_on now ids listener o)
  accept_on_like l ids listener None = BothGive _ _ (Also _ _ _ l)
  accept_on_like (Machines t store other all l) ids listener (Some place) = same_then (accept_like l place ids (found_like l place)) (λ x y h. accepted_like (own_of ids.line) listener _ _ (store_like (Machines t store other all l) x y h))

  -- == pollables
  subscribe_on_like : {m now : Machine} → LikeMachine c m now → (own : OpId) (this : ℕ) (k : Option Kind) → IsTcpFound k → SameCalls c (subscribe_on m own this (watched_by k)) (subscribe_on now own this (watched_by k))
  subscribe_on_like l own this (Some (kind.Tcp2 place)) tcp = made_like l own (kind.Pollable (watched.Socket place)) (Some this) _ _ (side_same l place) tt
  subscribe_on_like l own this (Some (kind.Input place)) tcp = made_like l own (kind.Pollable (watched.Input place)) (Some this) _ _ (side_same l place) tt
  subscribe_on_like l own this (Some (kind.Output place)) tcp = made_like l own (kind.Pollable (watched.Output place)) (Some this) _ _ (side_same l place) tt
  subscribe_on_like l own this (Some kind.Network) tcp = BothGive _ _ (Also _ _ _ l)
  subscribe_on_like l own this (Some (kind.Pollable w)) tcp = BothGive _ _ (Also _ _ _ l)
  subscribe_on_like l own this (Some kind.ErrorValue) tcp = BothGive _ _ (Also _ _ _ l)
  subscribe_on_like l own this None tcp = BothGive _ _ (Also _ _ _ l)
  subscribe_on_like l own this (Some _) tcp = absurd tcp

  subscribe_like : {m now : Machine} → LikeMachine c m now → (own : OpId) (this : ℕ) → SameCalls c (subscribe_asks m own this) (subscribe_asks now own this)
  subscribe_like (Machines t store other all l) own this = subscribe_on_like (Machines t store other all l) own this (kind_at t this) (found_tcp t.live this all)

  ready_on_like : {m now : Machine} → LikeMachine c m now → (ids : Ids) (k : Option Kind) → IsTcpFound k → SameCalls c (ready_on m ids (watch_of k)) (ready_on now ids (watch_of k))
  ready_on_like (Machines t store other all l) ids (Some (kind.Pollable (watched.Socket place))) tcp = on_like (Machines t store other all l) (ready_like l place (own_of ids.line) ids (watched.Socket place) (found_like l place))
  ready_on_like (Machines t store other all l) ids (Some (kind.Pollable (watched.Input place))) tcp = on_like (Machines t store other all l) (ready_like l place (own_of ids.line) ids (watched.Input place) (found_like l place))
  ready_on_like (Machines t store other all l) ids (Some (kind.Pollable (watched.Output place))) tcp = on_like (Machines t store other all l) (ready_like l place (own_of ids.line) ids (watched.Output place) (found_like l place))
  ready_on_like l ids (Some (kind.Pollable _)) tcp = absurd tcp
  ready_on_like l ids _ tcp = BothGive _ _ (Also _ _ _ l)

  ready_call_like : {m now : Machine} → LikeMachine c m now → (ids : Ids) (p : ℕ) → SameCalls c (ready_asks m ids p) (ready_asks now ids p)
  ready_call_like (Machines t store other all l) ids p = ready_on_like (Machines t store other all l) ids (kind_at t p) (found_tcp t.live p all)

  -- == what goes
  at_once_like : {m now : Machine} → LikeMachine c m now → (a b : Unit {0} × Records) → With (LikeStore c) a b → With (LikeMachine c) (answered (with_store m (at_once a))) (answered (with_store now (at_once b)))
  at_once_like (Machines t store other all l) _ _ (Also a x y k) = Also _ _ _ (Machines t x y all k)

  waited_like : {m now : Machine} → LikeMachine c m now → (a b : Answer (Unit {0}) × Records) → With (LikeStore c) a b → With (LikeMachine c) (answered (with_store m a)) (answered (with_store now b))
  waited_like (Machines t store other all l) _ _ (Also a x y k) = Also _ _ _ (Machines t x y all k)

  drop_kind_like : {m now : Machine} → LikeMachine c m now → (ids : Ids) (k : Kind) → IsTcpKind k → SameCalls c (drop_kind m ids k) (drop_kind now ids k)
  drop_kind_like (Machines t store other all l) ids (kind.Tcp2 place) tcp = same_give _ _ (release_like l place (own_of ids.line) (found_like l place)) (at_once_like (Machines t store other all l))
  drop_kind_like (Machines t store other all l) ids (kind.Output place) tcp = same_give _ _ (drop_output_like l place ids (found_like l place)) (waited_like (Machines t store other all l))
  drop_kind_like l ids kind.Network tcp = BothGive _ _ (Also _ _ _ l)
  drop_kind_like l ids (kind.Input place) tcp = BothGive _ _ (Also _ _ _ l)
  drop_kind_like l ids (kind.Pollable w) tcp = BothGive _ _ (Also _ _ _ l)
  drop_kind_like l ids kind.ErrorValue tcp = BothGive _ _ (Also _ _ _ l)
  drop_kind_like l ids _ tcp = absurd tcp

  drop_when : (t : HandleTable) {store other : Records} → LikeStore c store other → AllTcp t.live → (ids : Ids) (h : ℕ) (k : Kind) → IsTcpKind k → (b : Bool)
      → SameCalls c (drop_taken (record { table = t; store = store }) ids (if b then (Ok k, without_handle t h) else (Err (Trap HasChildren), t))) (drop_taken (record { table = t; store = other }) ids (if b then (Ok k, without_handle t h) else (Err (Trap HasChildren), t)))
  drop_when t l all ids h k tcp true = drop_kind_like (Machines (without_handle t h) _ _ (all_without t.live h all) l) ids k tcp
  drop_when t l all ids h k tcp false = BothGive _ _ (Also _ _ _ (Machines t _ _ all l))

  drop_found : (t : HandleTable) {store other : Records} → LikeStore c store other → AllTcp t.live → (ids : Ids) (h : ℕ) (o : Option Kind) → IsTcpFound o
      → SameCalls c (drop_taken (record { table = t; store = store }) ids (taken_out t h o)) (drop_taken (record { table = t; store = other }) ids (taken_out t h o))
  drop_found t l all ids h None tcp = BothGive _ _ (Also _ _ _ (Machines t _ _ all l))
  drop_found t l all ids h (Some k) tcp = drop_when t l all ids h k tcp (has_no_child t h)

  drop_like : {m now : Machine} → LikeMachine c m now → (ids : Ids) (h : ℕ) → SameCalls c (drop_asks m ids h) (drop_asks now ids h)
  drop_like (Machines t store other all l) ids h = drop_found t l all ids h (kind_at t h) (found_tcp t.live h all)

  -- == a turn, and a call that goes on
  turn_machine_like : {m now : Machine} → LikeMachine c m now → SameCalls c (turn_machine_asks m) (turn_machine_asks now)
  turn_machine_like (Machines t store other all l) = on_like (Machines t store other all l) (turn_like l)

  gone_on_like : (a b : Result (Answer (Unit {0})) Stop × Machine) → With (LikeMachine c) a b → With (LikeMachine c) (gone_on a) (gone_on b)
  gone_on_like _ _ (Also (Ok answer) m now l) = Also _ _ _ l
  gone_on_like _ _ (Also (Err stop) m now l) = Also _ _ _ l

  went_on_like : {m now : Machine} → LikeMachine c m now → (a b : Result (Answer (Unit {0})) Stop × Records) → With (LikeStore c) a b → With (LikeMachine c) (gone_on (with_store m a)) (gone_on (with_store now b))
  went_on_like l a b h = gone_on_like _ _ (store_like l a b h)

  dropped_like : {m now : Machine} → LikeMachine c m now → (a b : Answer (Unit {0}) × Records) → With (LikeStore c) a b → With (LikeMachine c) (gone_on (with_store m (allowed_answer a))) (gone_on (with_store now (allowed_answer b)))
  dropped_like (Machines t store other all l) _ _ (Also a x y k) = Also _ _ _ (Machines t x y all k)

  rebound_like : {m now : Machine} → LikeMachine c m now → (a b : Result (Answer (Unit {0})) BaseStop × Records) → With (LikeStore c) a b → With (LikeMachine c) (answered_on outcome_of P2 (with_store m a)) (answered_on outcome_of P2 (with_store now b))
  rebound_like (Machines t store other all l) _ _ (Also a x y k) = Also _ _ _ (Machines t x y all k)

  go_on_like : {m now : Machine} → LikeMachine c m now → (ids : Ids) (call : StandingCall) → IsTcpCall call → SameCalls c (go_on m ids call) (go_on now ids call)
  go_on_like (Machines t store other all l) ids (standing.Bind place P2) tcp = same_give _ _ (rebind_like l place ids) (rebound_like (Machines t store other all l))
  go_on_like l ids (standing.Bind place P3) tcp = absurd tcp
  go_on_like l ids (standing.Listen place (Some handle)) tcp = absurd tcp
  go_on_like (Machines t store other all l) ids (standing.Listen place None) tcp = same_give _ _ (relisten_like l place ids (found_like l place)) (went_on_like (Machines t store other all l))
  go_on_like (Machines t store other all l) ids (standing.DropOutput place) tcp = same_give _ _ (drop_output_like l place ids (found_like l place)) (dropped_like (Machines t store other all l))
  go_on_like l ids _ tcp = absurd tcp

  resumed_like : (a b : Result (Answer Outcome) Stop × Machine) → With (LikeMachine c) a b → With (LikeMachine c) (resumed a) (resumed b)
  resumed_like _ _ (Also (Ok answer) m now l) = Also _ _ _ l
  resumed_like _ _ (Also (Err stop) m now l) = Also _ _ _ l

  unstood_like : {store other : Records} → LikeStore c store other → LikeStore c (unstood store) (unstood other)
  unstood_like (Stores records others jobs standing limits mosts is h k) = Stores records others jobs None limits mosts tt h k

  -- no call stands beside others
  resume_call_like : {m now : Machine} → LikeMachine c m now → (line : ℕ) (o : Option Standing) → IsTcpStanding o → SameCalls c (resume_call m line o) (resume_call now line o)
  resume_call_like (Machines t _ _ all (Stores records others jobs standing limits mosts is h k)) line None tcp = BothGive _ _ (Also _ _ _ (Machines t _ _ all (Stores records others jobs standing limits mosts is h k)))
  resume_call_like (Machines t store other all l) line (Some s) tcp = same_give _ _ (go_on_like (Machines t _ _ all (unstood_like l)) s.ids s.call tcp) resumed_like

  resume_like : {m now : Machine} → LikeMachine c m now → (line : ℕ) → SameCalls c (resume_asks m line) (resume_asks now line)
  resume_like (Machines t _ _ all (Stores records others jobs standing limits mosts is h k)) line = resume_call_like (Machines t _ _ all (Stores records others jobs standing limits mosts is h k)) line (call_of standing line) (call_tcp standing line is)

  -- == streams
  read_when : {m now : Machine} → LikeMachine c m now → (own : OpId) (input len : ℕ) (o : Option PlainInput) → o ≡ None → Alike TrapsCall (Gives (λ (x y : List ℕ). x ≡ y) (LikeMachine c)) (read_by m own input len o) (read_by now own input len o)
  read_when l own input len (Some plain) e = absurd (cc)
  read_when (Machines t store other all l) own input len None e = stream_on_like (Machines t store other all l) own input (reader_asks (λ r. read_state_asks own r len)) (reader_asks (λ r. read_state_asks own r len)) (read_keeps (λ r. read_state_asks own r len)) (input_of (kind_at t input))

  read_like : {m now : Machine} → LikeMachine c m now → (own : OpId) (input len : ℕ) → Alike TrapsCall (Gives (λ (x y : List ℕ). x ≡ y) (LikeMachine c)) (read_asks m own input len) (read_asks now own input len)
  read_like (Machines t store other all l) own input len = read_when (Machines t store other all l) own input len (plain_input_of (kind_at t input)) (no_plain_input (kind_at t input) (found_tcp t.live input all))

  write_when : {m now : Machine} → LikeMachine c m now → (own : OpId) (output : ℕ) (bytes : List ℕ) (o : Option PlainOutput) → o ≡ None → Alike TrapsCall (Gives (λ (x y : Unit {0}). x ≡ y) (LikeMachine c)) (write_by m own output bytes o) (write_by now own output bytes o)
  write_when l own output bytes (Some plain) e = absurd (cc)
  write_when (Machines t store other all l) own output bytes None e = write_on_like (Machines t store other all l) own output (writer_asks (λ w. write_state_asks own w bytes)) (writer_asks (λ w. write_state_asks own w bytes)) (write_keeps own bytes) (output_of (kind_at t output))

  write_like : {m now : Machine} → LikeMachine c m now → (own : OpId) (output : ℕ) (bytes : List ℕ) → Alike TrapsCall (Gives (λ (x y : Unit {0}). x ≡ y) (LikeMachine c)) (write_asks m own output bytes) (write_asks now own output bytes)
  write_like (Machines t store other all l) own output bytes = write_when (Machines t store other all l) own output bytes (plain_output_of (kind_at t output)) (no_plain_output (kind_at t output) (found_tcp t.live output all))

  flush_when : {m now : Machine} → LikeMachine c m now → (own : OpId) (output : ℕ) (o : Option PlainOutput) → o ≡ None → Alike TrapsCall (Gives (λ (x y : Unit {0}). x ≡ y) (LikeMachine c)) (flush_by m own output o) (flush_by now own output o)
  flush_when l own output (Some plain) e = absurd (cc)
  flush_when (Machines t store other all l) own output None e = stream_on_like (Machines t store other all l) own output (writer_asks flush_asks) (writer_asks flush_asks) flush_keeps (output_of (kind_at t output))

  flush_like : {m now : Machine} → LikeMachine c m now → (own : OpId) (output : ℕ) → Alike TrapsCall (Gives (λ (x y : Unit {0}). x ≡ y) (LikeMachine c)) (flushed_asks m own output) (flushed_asks now own output)
  flush_like (Machines t store other all l) own output = flush_when (Machines t store other all l) own output (plain_output_of (kind_at t output)) (no_plain_output (kind_at t output) (found_tcp t.live output all))

  check_when : {m now : Machine} → LikeMachine c m now → (own : OpId) (output : ℕ) (o : Option PlainOutput) → o ≡ None → Alike TrapsCall (Gives (Counts (is_writer_of c m (output_at m output))) (LikeMachine c)) (check_by m own output o) (check_by now own output o)
  check_when l own output (Some plain) e = absurd (cc)
  check_when (Machines t store other all l) own output None e = check_on_like (Machines t store other all l) own output (output_of (kind_at t output))

  check_like : {m now : Machine} → LikeMachine c m now → (own : OpId) (output : ℕ) → Alike TrapsCall (Gives (Counts (is_writer_of c m (output_at m output))) (LikeMachine c)) (check_asks m own output) (check_asks now own output)
  check_like (Machines t store other all l) own output = check_when (Machines t store other all l) own output (plain_output_of (kind_at t output)) (no_plain_output (kind_at t output) (found_tcp t.live output all))

  -- == each step
  finished_like : (f : Result (Unit {0}) Stop → Reply) {a b : Result (Unit {0}) Stop × Machine} → With (LikeMachine c) a b → Alike IsTrapped (Replied c false) (Give (f a.0, a.1)) (Give (f b.0, b.1))
  finished_like f h = BothGive _ _ (replied f _ _ h)

  pub call_like : {m now : Machine} {ctx its : WasiSocketsCtx} → LikeMachine c m now → LikeContext c ctx its → (line : ℕ) (s : Step) → IsTcpStep s → Alike IsTrapped (Replied c (checks_writer_of c m s)) (asks_in ctx m line s) (asks_in its now line s)
  call_like l k line (step.Call n (guest.Names name_call.Network)) tcp = reply_like _ (network_like l (own_of line))
  call_like l k line (step.Call n (guest.Tcp (tcp_call.Create family))) tcp = reply_like _ (create_like l k (own_of line) family)
  call_like l k line (step.Call n (guest.Tcp (tcp_call.StartBind s network a))) tcp = reply_like _ (bind_like l (first_ids line) s network a)
  call_like (Machines t store other all l) k line (step.Call n (guest.Tcp (tcp_call.FinishBind s))) tcp = finished_like (reply_of no_values) (finish_on_like is_bind (Machines t store other all l) (socket_at (record { table = t; store = store }) s))
  call_like l k line (step.Call n (guest.Tcp (tcp_call.StartConnect s network a))) tcp = reply_like _ (connect_like l (own_of line) s network a)
  call_like (Machines t store other all l) k line (step.Call n (guest.Tcp (tcp_call.FinishConnect s))) tcp = reply_like _ (finish_connect_on_like (Machines t store other all l) (own_of line) s (socket_at (record { table = t; store = store }) s))
  call_like (Machines t store other all l) k line (step.Call n (guest.Tcp (tcp_call.StartListen s))) tcp = reply_like _ (listen_on_like (Machines t store other all l) (first_ids line) (socket_at (record { table = t; store = store }) s))
  call_like (Machines t store other all l) k line (step.Call n (guest.Tcp (tcp_call.FinishListen s))) tcp = finished_like (reply_of no_values) (finish_on_like is_listen (Machines t store other all l) (socket_at (record { table = t; store = store }) s))
  call_like (Machines t store other all l) k line (step.Call n (guest.Tcp (tcp_call.Accept s))) tcp = reply_like _ (accept_on_like (Machines t store other all l) (first_ids line) s (socket_at (record { table = t; store = store }) s))
  call_like (Machines t store other all l) k line (step.Call n (guest.Tcp (tcp_call.LocalAddress s))) tcp = reply_like _ (address_like (Machines t store other all l) (tell_local_asks (own_of line)) (tell_local_keeps (own_of line)) (socket_at (record { table = t; store = store }) s))
  call_like (Machines t store other all l) k line (step.Call n (guest.Tcp (tcp_call.RemoteAddress s))) tcp = reply_like _ (address_like (Machines t store other all l) (tell_remote_asks (own_of line)) (tell_remote_keeps (own_of line)) (socket_at (record { table = t; store = store }) s))
  call_like (Machines t store other all l) k line (step.Call n (guest.Tcp (tcp_call.IsListening s))) tcp = give_like _ _ (ap (reply_of truth_fields) (tells_same (λ (socket : Socket). listens socket.state) (Machines t store other all l) (socket_at (record { table = t; store = store }) s))) (Machines t store other all l)
  call_like (Machines t store other all l) k line (step.Call n (guest.Tcp (tcp_call.AddressFamily s))) tcp = give_like _ _ (ap (reply_of family_fields) (tells_same (λ (socket : Socket). socket.family) (Machines t store other all l) (socket_at (record { table = t; store = store }) s))) (Machines t store other all l)
  call_like (Machines t store other all l) k line (step.Call n (guest.Tcp (tcp_call.Shutdown s how))) tcp = reply_like _ (shutdown_on_like (Machines t store other all l) (own_of line) how (socket_at (record { table = t; store = store }) s))
  call_like l k line (step.Call n (guest.Stream (stream_call.Read input len))) tcp = stream_reply_like _ (read_like l (own_of line) input len)
  call_like l k line (step.Call n (guest.Stream (stream_call.CheckWrite output))) tcp = alike_then (check_like l (own_of line) output) (stream_stops number_fields) (stream_stops number_fields) (λ a b g. BothGive _ _ (count_replied _ a b g))
  call_like l k line (step.Call n (guest.Stream (stream_call.Write output bytes))) tcp = stream_reply_like _ (write_like l (own_of line) output bytes)
  call_like l k line (step.Call n (guest.Stream (stream_call.Flush output))) tcp = stream_reply_like _ (flush_like l (own_of line) output)
  call_like l k line (step.Call n (guest.Pollable (pollable_call.Subscribe h))) tcp = reply_like _ (subscribe_like l (own_of line) h)
  call_like l k line (step.Call n (guest.Pollable (pollable_call.Ready p))) tcp = reply_like _ (ready_call_like l (first_ids line) p)
  call_like l k line (step.Call n (guest.Pollable (pollable_call.Drop h))) tcp = reply_like _ (drop_like l (first_ids line) h)
  call_like l k line step.Turn tcp = reply_like (λ (a : Unit {0}). reply.Ok no_fields) (turn_machine_like l)
  call_like l k line (step.Poll n) tcp = reply_like _ (resume_like l n)
  call_like l k line _ tcp = absurd tcp
