-- The calls on the records of stores that are alike.
use Rattle.std.proofs.Common.{◌≡◌, refl, ap, subst, Bool, true, false, if◌then◌else◌, ℕ, List, [], ◌∷◌, Option, Some, None, Result, Ok, Err}
use Rattle.wasi_addr.specs.declared.address.IpSocketAddress.{IpSocketAddress}
use Rattle.wasi_addr.specs.declared.address.ShutdownType.{ShutdownType}
use Rattle.wasi_addr.specs.declared.code.ErrorCode.{ErrorCode}
use Rattle.wasi_world.specs.declared.ids.OpId.{OpId}
use Rattle.wasi_world.specs.declared.ids.Ids.{Ids}
use Rattle.wasi_world.specs.declared.outcome.Answer.{Answer}
use Rattle.wasi_world.specs.declared.outcome.Answer.TheVariants.{Ready, Pending}
use Rattle.wasi_world.specs.Asks.{Asks, Give}
unfoldable use Rattle.wasi_world.specs.Asks.{bind}
use Rattle.wasi_tcp.specs.Shape.{Socket}
use Rattle.wasi_jobs.specs.declared.job.HostJob.{HostJob}
use Rattle.wasi_jobs.specs.declared.job.HostJob.TheVariants.{Write, Datagram, Receive, Lookup}
use Rattle.tcp_records.specs.declared.tcp_binding.InProgress.{InProgress}
use Rattle.tcp_records.specs.declared.tcp_binding.InProgress.TheVariants as doing
use Rattle.wasi_records.specs.declared.records.Record.{Record}
use Rattle.wasi_records.specs.declared.records.Record.TheVariants.{Tcp, Gone}
use Rattle.tcp_records.specs.declared.socket.TcpRecord.{TcpRecord}
use Rattle.udp_records.specs.declared.udp.OpenUdp.{OpenUdp}
use Rattle.lookup_records.specs.declared.name_lookup.Lookup.{Lookup as NameLookup}
use Rattle.udp_records.specs.Datagrams.{turn_outgoing}
use Rattle.tcp_records.specs.InProgress.{is_connect, is_nothing}
use Rattle.tcp_records.specs.Listening.{accepted_record}
use Rattle.wasi_records.specs.Accepted.{kept_accepted, with_accepted_in}
use Rattle.record_common.specs.Names.{own_of}
use Rattle.lookup_records.specs.NameLookup.{looks_on, turn_lookup}
use Rattle.wasi_records.specs.Records.{turn_lookup_at}
use Rattle.udp_records.specs.Receiving.{turn_incoming}
use Rattle.wasi_records.specs.Records.{tcp2_at, tcp2_put, tcp2_pushed, open_at, udp2_of, lookup_at, lookup_of}
use Rattle.udp_records.specs.Udp.{open_of}
use Rattle.tcp_records.specs.Sockets.{with_progress}
use Rattle.record_common.specs.Stops.{Code, Stop, code_stop}
use Rattle.host_store.specs.declared.store.StandingCall.{StandingCall}
use Rattle.host_store.specs.declared.store.StandingCall.TheVariants as standing
use Rattle.host_tcp.specs.Dropping.{drop_output_at, drop_waits, release_at, released, wait_at}
use Rattle.host_store.specs.GivingBack.{given_back, other_jobs}
use Rattle.host_store.specs.Jobs.{after_turn, is_going, jobs_with, receives_on, sends_on, turn_at, turn_datagram_at, turn_job, turn_jobs, turn_receive_at, turn_store_asks}
use Rattle.host_tcp.specs.TcpCalls.{relisten_at}
use Rattle.host_tcp.specs.Binds.{bind_told, rebind_of, rebinds}
use Rattle.host_store.specs.Lines.{keeps}
use Rattle.host_store.specs.Block.{Call, after_call, give, last, need, or_trap, ◌>>=◌, ◌>>◌}
use Rattle.host_store.specs.Lines.{asked_of, done_by, finish_connect_of, on_tcp, same_stop, told_of}
use Rattle.host_store.specs.declared.kind.Interface.TheVariants.{P2}
use Rattle.wasi_addr.specs.declared.p2.ErrorCode.TheVariants.{NotInProgress}
use Rattle.tcp_records.specs.Sockets.{poll_connect_asks}
use Rattle.host_store.specs.Readiness.{ready_at, ready_record}
use Rattle.host_store.specs.Standing.{call_answered, stood, standing_as, allowed_answer, call_place}
use Rattle.host_store.specs.Store.{Records, put_back, with_record_put, with_socket}
use Rattle.host_tcp.specs.TcpCalls.{accept_answered, accept_at, finish_at, finish_by, shutdown_at, start_bind_at, start_bind_by, start_connect_at, start_connect_by, start_listen_at, start_listen_by, with_records}
use Rattle.host_store.specs.declared.kind.Watched.{Watched}
use Rattle.host_store.specs.declared.kind.Watched.TheVariants as watched
use Rattle.wasi_limits.specs.Alike.{Alike, BothGive, Same}
use Rattle.wasi_limits.proofs.Like.{LikeSocket, SameSocket, OtherPermit, SameRecord, LikeTcp, LikeRecords, LikeFound, NoneFound, BothFound, LikeStore, Stores, IsTcpCall, With, Also}
use Rattle.wasi_limits.proofs.Together.{same_then, both_give, same_give}
use Rattle.wasi_limits.proofs.Lookups.{like_at, like_length, like_more, like_set, same_of}
use Rattle.wasi_limits.proofs.Sockets.{Keeps, accept_keeps, begin_bind_keeps, begin_connect_keeps, begin_listen_keeps, poll_bind_keeps, poll_connect_keeps, poll_listen_keeps, ready_socket_keeps}
use Rattle.wasi_limits.proofs.Writers.{ready_reader_keeps, ready_writer_keeps, release_keeps, same_job, shut_keeps, turn_keeps, wait_keeps}

-- what a call on a store answers and leaves is alike
abbrev pub SameStores : {A : Type 0} → ℕ → Asks (A × Records) → Asks (A × Records) → Type 0
SameStores c asks others = Same (With (LikeStore c)) asks others

module _ {c : ℕ} where
  -- == records that are put
  pub put_like : {store other : Records} {r now : TcpRecord} → LikeStore c store other → (place : ℕ) → LikeSocket c r now → LikeStore c (with_socket store place r) (with_socket other place now)
  put_like {r = r} {now = now} (Stores records others jobs standing limits mosts is h k) place l = Stores _ _ jobs standing limits mosts is (like_set h place (LikeTcp r now l)) k

  pub found_like : {store other : Records} → LikeStore c store other → (place : ℕ) → LikeFound c (tcp2_at store.records place) (tcp2_at other.records place)
  found_like (Stores records others jobs standing limits mosts is h k) place = like_at h place

  -- a call that is put back with its answer
  back_like : {T : Type 0} {store other : Records} {a b : Result T ErrorCode × TcpRecord} → LikeStore c store other → (place : ℕ) → With (LikeSocket c) a b → With (LikeStore c) (put_back store place a) (put_back other place b)
  back_like l place (Also (Ok a) r now h) = Also (Ok a) _ _ (put_like l place h)
  back_like l place (Also (Err e) r now h) = Also (Err (code_stop e)) _ _ (put_like l place h)

  record_like : {T : Type 0} {store other : Records} {a b : T × TcpRecord} → LikeStore c store other → (place : ℕ) → With (LikeSocket c) a b → With (LikeStore c) (with_record_put store place a) (with_record_put other place b)
  record_like l place (Also a r now h) = Also a _ _ (put_like l place h)

  stood_like : {store other : Records} → LikeStore c store other → (ids : Ids) (call : StandingCall) → IsTcpCall call → (a : Answer (Unit {0})) → With (LikeStore c) (stood store ids call a) (stood other ids call a)
  stood_like l ids call tcp (Ready done) = Also _ _ _ l
  stood_like (Stores records others jobs standing limits mosts is h k) ids call tcp Pending = Also _ _ _ (Stores records others jobs (Some (standing_as ids call)) limits mosts tcp h k)

  allowed_like : {a b : Answer (Unit {0}) × Records} → With (LikeStore c) a b → With (LikeStore c) (allowed_answer a) (allowed_answer b)
  allowed_like (Also a x y l) = Also (Ok a) x y l

  ok_like : {A E : Type 0} {a b : A × Records} → With (LikeStore c) a b → With {A = Result A E} (LikeStore c) (Ok a.0, a.1) (Ok b.0, b.1)
  ok_like (Also a x y l) = Also (Ok a) x y l

  answered_like : {store other : Records} {a b : Result (Answer (Unit {0})) ErrorCode × TcpRecord} → LikeStore c store other → (ids : Ids) (call : StandingCall) → IsTcpCall call → With (LikeSocket c) a b → With (LikeStore c) (call_answered store ids call a) (call_answered other ids call b)
  answered_like l ids call tcp (Also (Ok a) r now h) = allowed_like (stood_like (put_like l (call_place call) h) ids call tcp a)
  answered_like l ids call tcp (Also (Err e) r now h) = Also (Err (code_stop e)) _ _ (put_like l (call_place call) h)

  -- == the calls of sockets
  module _ {store other : Records} (l : LikeStore c store other) (place : ℕ) where
    -- a call that what is in progress decides
    by_progress : {B : Type 0} {T : B → Type 0} {Q : B → B → Type 0} {r now : TcpRecord} → LikeSocket c r now → (f g : InProgress → Asks B) → ((i : InProgress) → Alike T Q (f i) (g i)) → Alike T Q (f r.in_progress) (g now.in_progress)
    by_progress (SameSocket r) f g k = k r.in_progress
    by_progress (OtherPermit r s half p q m) f g k = k r.in_progress

    start_bind_by_like : (ids : Ids) (a : IpSocketAddress) (r now : TcpRecord) → LikeSocket c r now → (b : Bool) → SameStores c (start_bind_by store ids place a r b) (start_bind_by other ids place a now b)
    start_bind_by_like ids a r now h true = same_give _ _ (begin_bind_keeps (own_of ids.line) a r now h) (λ x y. answered_like l ids (standing.Bind place P2) tt)
    start_bind_by_like ids a r now h false = BothGive _ _ (Also _ _ _ l)

    pub start_bind_like : (ids : Ids) (a : IpSocketAddress) {f g : Option TcpRecord} → LikeFound c f g → SameStores c (start_bind_at store ids place a f) (start_bind_at other ids place a g)
    start_bind_like ids a NoneFound = BothGive _ _ (Also _ _ _ l)
    start_bind_like ids a (BothFound r now h) = by_progress h _ _ (λ i. start_bind_by_like ids a r now h (is_nothing i))

    -- a bind that is polled again
    told_like : (a b : Result (Answer (Unit {0})) ErrorCode × TcpRecord) → With (LikeSocket c) a b → With (LikeSocket c) (bind_told P2 a) (bind_told P2 b)
    told_like _ _ (Also (Ok answer) r now h) = Also _ _ _ h
    told_like _ _ (Also (Err e) r now h) = Also _ _ _ h

    rebound_like : (ids : Ids) (a b : Result (Answer (Unit {0})) ErrorCode × TcpRecord) → With (LikeSocket c) a b
        → SameStores c (after_call Code (λ store now. with_socket store place now) (keeps ids (standing.Bind place P2)) store a) (after_call Code (λ store now. with_socket store place now) (keeps ids (standing.Bind place P2)) other b)
    rebound_like ids _ _ (Also (Ok answer) r now h) = BothGive _ _ (ok_like (stood_like (put_like l place h) ids (standing.Bind place P2) tt answer))
    rebound_like ids _ _ (Also (Err e) r now h) = BothGive _ _ (Also _ _ _ (put_like l place h))

    pub rebind_like : (ids : Ids) → SameStores c (rebind_of P2 ids place store) (rebind_of P2 ids place other)
    rebind_like ids = by_found (found_like l place)
      where
        by_found : {f g : Option TcpRecord} → LikeFound c f g
            → SameStores c (or_trap (λ r. Call Code (λ store. r) (λ store now. with_socket store place now) (rebinds P2) >>= keeps ids (standing.Bind place P2)) store f) (or_trap (λ r. Call Code (λ store. r) (λ store now. with_socket store place now) (rebinds P2) >>= keeps ids (standing.Bind place P2)) other g)
        by_found NoneFound = BothGive _ _ (Also _ _ _ l)
        by_found (BothFound r now h) = same_then (same_give _ _ (poll_bind_keeps r now h) told_like) (rebound_like ids)

    pub relisten_like : (ids : Ids) {f g : Option TcpRecord} → LikeFound c f g → SameStores c (relisten_at store ids place f) (relisten_at other ids place g)
    relisten_like ids NoneFound = BothGive _ _ (Also _ _ _ l)
    relisten_like ids (BothFound r now h) = same_give _ _ (poll_listen_keeps r now h) (λ x y. answered_like l ids (standing.Listen place None) tt)

    -- what is finished asks nothing
    finish_by_like : (is_it : InProgress → Bool) (r now : TcpRecord) → LikeSocket c r now → (b : Bool) → With (LikeStore c) (finish_by store place r b) (finish_by other place now b)
    finish_by_like is_it _ _ (SameSocket r) true = Also _ _ _ (put_like l place (SameSocket (with_progress r doing.Nothing)))
    finish_by_like is_it _ _ (OtherPermit r s half p q m) true = Also _ _ _ (put_like l place (OtherPermit (with_progress r doing.Nothing) s half p q m))
    finish_by_like is_it r now h false = Also _ _ _ l

    pub finish_like : (is_it : InProgress → Bool) {f g : Option TcpRecord} → LikeFound c f g → With (LikeStore c) (finish_at is_it store place f) (finish_at is_it other place g)
    finish_like is_it NoneFound = Also _ _ _ l
    finish_like is_it (BothFound _ _ (SameSocket r)) = finish_by_like is_it _ _ (SameSocket r) (is_it r.in_progress)
    finish_like is_it (BothFound _ _ (OtherPermit r s half p q m)) = finish_by_like is_it _ _ (OtherPermit r s half p q m) (is_it r.in_progress)

    start_connect_by_like : (op : OpId) (a : IpSocketAddress) (r now : TcpRecord) → LikeSocket c r now → (b : Bool) → SameStores c (start_connect_by store op place a r b) (start_connect_by other op place a now b)
    start_connect_by_like op a r now h true = same_give _ _ (begin_connect_keeps op a r now h) (λ x y. back_like l place)
    start_connect_by_like op a r now h false = BothGive _ _ (Also _ _ _ l)

    pub start_connect_like : (op : OpId) (a : IpSocketAddress) {f g : Option TcpRecord} → LikeFound c f g → SameStores c (start_connect_at store op place a f) (start_connect_at other op place a g)
    start_connect_like op a NoneFound = BothGive _ _ (Also _ _ _ l)
    start_connect_like op a (BothFound r now h) = by_progress h _ _ (λ i. start_connect_by_like op a r now h (is_nothing i))

    -- what a call on the socket gives, as the last of a block
    given_like : {A E : Type 0} (seen : E → Stop) (a b : Result A E × TcpRecord) → With (LikeSocket c) a b → SameStores c (after_call seen (λ store now. with_socket store place now) give store a) (after_call seen (λ store now. with_socket store place now) give other b)
    given_like seen _ _ (Also (Ok a) r now h) = BothGive _ _ (Also _ _ _ (put_like l place h))
    given_like seen _ _ (Also (Err e) r now h) = BothGive _ _ (Also _ _ _ (put_like l place h))

    finish_connect_by_like : (r now : TcpRecord) → LikeSocket c r now → (b : Bool) → SameStores c (if b then last (done_by place r poll_connect_asks) store else Give (Err (Code NotInProgress), store)) (if b then last (done_by place now poll_connect_asks) other else Give (Err (Code NotInProgress), other))
    finish_connect_by_like r now h true = same_then (poll_connect_keeps r now h) (given_like same_stop)
    finish_connect_by_like r now h false = BothGive _ _ (Also _ _ _ l)

    pub finish_connect_like : SameStores c (finish_connect_of place store) (finish_connect_of place other)
    finish_connect_like = by_found (found_like l place)
      where
        by_found : {f g : Option TcpRecord} → LikeFound c f g
            → SameStores c (or_trap (λ r. need (is_connect r.in_progress) (Code NotInProgress) >> last (done_by place r poll_connect_asks)) store f) (or_trap (λ r. need (is_connect r.in_progress) (Code NotInProgress) >> last (done_by place r poll_connect_asks)) other g)
        by_found NoneFound = BothGive _ _ (Also _ _ _ l)
        by_found (BothFound r now h) = by_progress h (λ i. if is_connect i then last (done_by place r poll_connect_asks) store else Give (Err (Code NotInProgress), store)) (λ i. if is_connect i then last (done_by place now poll_connect_asks) other else Give (Err (Code NotInProgress), other)) (λ i. finish_connect_by_like r now h (is_connect i))

    -- a call on the socket, and no more
    pub on_tcp_like : {A : Type 0} (call : TcpRecord → Asks (Result A ErrorCode × TcpRecord)) → Keeps c call → SameStores c (on_tcp place call store) (on_tcp place call other)
    on_tcp_like {A} call keeps = by_found (found_like l place)
      where
        by_found : {f g : Option TcpRecord} → LikeFound c f g → SameStores c (or_trap (λ r. last (asked_of place r call)) store f) (or_trap (λ r. last (asked_of place r call)) other g)
        by_found NoneFound = BothGive _ _ (Also _ _ _ l)
        by_found (BothFound r now h) = same_then (keeps r now h) (given_like code_stop)

    start_listen_by_like : (ids : Ids) (r now : TcpRecord) → LikeSocket c r now → (b : Bool) → SameStores c (start_listen_by store ids place r b) (start_listen_by other ids place now b)
    start_listen_by_like ids r now h true = same_give _ _ (begin_listen_keeps (own_of ids.line) r now h) (λ x y. answered_like l ids (standing.Listen place None) tt)
    start_listen_by_like ids r now h false = BothGive _ _ (Also _ _ _ l)

    pub start_listen_like : (ids : Ids) {f g : Option TcpRecord} → LikeFound c f g → SameStores c (start_listen_at store ids place f) (start_listen_at other ids place g)
    start_listen_like ids NoneFound = BothGive _ _ (Also _ _ _ l)
    start_listen_like ids (BothFound r now h) = by_progress h _ _ (λ i. start_listen_by_like ids r now h (is_nothing i))

    pub shutdown_like : (op : OpId) (how : ShutdownType) {f g : Option TcpRecord} → LikeFound c f g → SameStores c (shutdown_at store op how place f) (shutdown_at other op how place g)
    shutdown_like op how NoneFound = BothGive _ _ (Also _ _ _ l)
    shutdown_like op how (BothFound r now h) = same_give _ _ (shut_keeps op how r now h) (λ x y k. record_like l place k)

    -- what is told of a socket is the same
    pub same_told : {A : Type 0} (tells : Socket → A) {f g : Option TcpRecord} → LikeFound c f g → told_of (λ r. tells r.inner) f ≡ told_of (λ r. tells r.inner) g
    same_told tells NoneFound = refl
    same_told tells (BothFound _ _ (SameSocket r)) = refl
    same_told tells (BothFound _ _ (OtherPermit r s half p q m)) = refl

    -- == accepts
    accepted_like : (socket : Socket) {records others : List Record} → LikeRecords c records others → With (LikeRecords c) (with_accepted_in records socket) (with_accepted_in others socket)
    accepted_like socket {records} {others} h = by_record (accepted_record socket)
      where
        by_record : (x : Result (Unit {0}) Stop × TcpRecord) → With (LikeRecords c) (kept_accepted records x) (kept_accepted others x)
        by_record (Ok done, r) = let P : ℕ → Type 0 = λ n. With (LikeRecords c) (kept_accepted records (Ok done, r)) (Ok n, tcp2_pushed others r) in subst P (like_length h) (Also _ _ _ (like_more h (SameRecord (Tcp r))))
        by_record (Err stop, r) = Also _ _ _ h

    pushed_like : {s t : Records} {a b : Result ℕ Stop × List Record} → LikeStore c s t → With (LikeRecords c) a b → With (LikeStore c) (with_records s a) (with_records t b)
    pushed_like (Stores records others jobs standing limits mosts is h k) (Also a xs ys g) = Also a _ _ (Stores xs ys jobs standing limits mosts is g k)

    put_records : {s t : Records} {r now : TcpRecord} → LikeStore c s t → LikeSocket c r now → LikeRecords c (tcp2_put s.records place r) (tcp2_put t.records place now)
    put_records (Stores records others jobs standing limits mosts is h k) g = like_set h place (LikeTcp _ _ g)

    accept_answered_like : (a b : Result (Answer Socket) ErrorCode × TcpRecord) → With (LikeSocket c) a b → With (LikeStore c) (accept_answered store place a) (accept_answered other place b)
    accept_answered_like _ _ (Also (Ok (Ready socket)) r now h) = pushed_like l (accepted_like socket (put_records l h))
    accept_answered_like _ _ (Also (Ok Pending) r now h) = Also _ _ _ (put_like l place h)
    accept_answered_like _ _ (Also (Err e) r now h) = Also _ _ _ (put_like l place h)

    pub accept_like : (ids : Ids) {f g : Option TcpRecord} → LikeFound c f g → SameStores c (accept_at store ids place f) (accept_at other ids place g)
    accept_like ids NoneFound = BothGive _ _ (Also _ _ _ l)
    accept_like ids (BothFound r now h) = same_give _ _ (accept_keeps ids r now h) accept_answered_like

    -- == readiness
    ready_record_keeps : (op : OpId) (ids : Ids) (w : Watched) → Keeps c (ready_record op ids w)
    ready_record_keeps op ids (watched.Socket n) = ready_socket_keeps ids
    ready_record_keeps op ids (watched.Input n) = ready_reader_keeps op
    ready_record_keeps op ids (watched.Output n) = ready_writer_keeps op
    ready_record_keeps op ids _ = λ r now h. BothGive _ _ (Also _ _ _ h)

    pub ready_like : (op : OpId) (ids : Ids) (w : Watched) {f g : Option TcpRecord} → LikeFound c f g → SameStores c (ready_at store op ids w place f) (ready_at other op ids w place g)
    ready_like op ids w NoneFound = BothGive _ _ (Also _ _ _ l)
    ready_like op ids w (BothFound r now h) = same_give _ _ (ready_record_keeps op ids w r now h) (λ x y k. record_like l place k)

    -- == what goes
    gone_like : {s t : Records} → LikeStore c s t → LikeStore c (given_back place s) (given_back place t)
    gone_like (Stores records others jobs standing limits mosts is h k) = Stores _ _ (other_jobs place jobs) standing limits mosts is (like_set h place (SameRecord Gone)) k

    released_like : {A B : Type 0} (b : B) (x y : A × TcpRecord) → With (LikeSocket c) x y → With (LikeStore c) (b, released store place x.1) (b, released other place y.1)
    released_like b _ _ (Also a r now h) = Also b _ _ (gone_like (put_like l place h))

    pub release_like : (op : OpId) {f g : Option TcpRecord} → LikeFound c f g → SameStores c (release_at store op place f) (release_at other op place g)
    release_like op NoneFound = BothGive _ _ (Also _ _ _ l)
    release_like op (BothFound r now h) = same_give _ _ (release_keeps op r now h) (released_like tt)

    wait_like : (op : OpId) {f g : Option TcpRecord} → LikeFound c f g → SameStores c (wait_at store op place f) (wait_at other op place g)
    wait_like op NoneFound = BothGive _ _ (Also _ _ _ l)
    wait_like op (BothFound r now h) = same_give _ _ (wait_keeps op r now h) (λ x y k. record_like l place k)

    waits_like : (ids : Ids) (a b : Answer (Unit {0}) × Records) → With (LikeStore c) a b → With (LikeStore c) (drop_waits ids place a) (drop_waits ids place b)
    waits_like ids _ _ (Also a x y k) = stood_like k ids (standing.DropOutput place) tt a

    pub drop_output_like : (ids : Ids) {f g : Option TcpRecord} → LikeFound c f g → SameStores c (drop_output_at store ids place f) (drop_output_at other ids place g)
    drop_output_like ids h = same_give _ _ (wait_like (own_of ids.line) h) (waits_like ids)

  -- == jobs
  turn_at_like : {xs ys : List Record} → LikeRecords c xs ys → (place : ℕ) {f g : Option TcpRecord} → LikeFound c f g → Same (LikeRecords c) (turn_at xs place f) (turn_at ys place g)
  turn_at_like h place NoneFound = BothGive _ _ h
  turn_at_like h place (BothFound r now k) = same_give _ _ (turn_keeps r now k) (λ x y g. like_set h place (LikeTcp x y g))

  same_open : {xs ys : List Record} → LikeRecords c xs ys → (place : ℕ) → open_at xs place ≡ open_at ys place
  same_open h place = same_of (λ o. open_of (udp2_of o)) (λ r now. refl) h place

  same_lookup : {xs ys : List Record} → LikeRecords c xs ys → (place : ℕ) → lookup_at xs place ≡ lookup_at ys place
  same_lookup h place = same_of lookup_of (λ r now. refl) h place

  turn_datagram_like : {xs ys : List Record} → LikeRecords c xs ys → (place : ℕ) (o : Option OpenUdp) → Same (LikeRecords c) (turn_datagram_at xs place o) (turn_datagram_at ys place o)
  turn_datagram_like h place None = BothGive _ _ h
  turn_datagram_like h place (Some o) = both_give _ _ (turn_outgoing o o.outgoing) (λ now. like_set h place (SameRecord _))

  turn_receive_like : {xs ys : List Record} → LikeRecords c xs ys → (place : ℕ) (o : Option OpenUdp) → Same (LikeRecords c) (turn_receive_at xs place o) (turn_receive_at ys place o)
  turn_receive_like h place None = BothGive _ _ h
  turn_receive_like h place (Some o) = both_give _ _ (turn_incoming o o.incoming) (λ now. like_set h place (SameRecord _))

  turn_lookup_like : {xs ys : List Record} → LikeRecords c xs ys → (place : ℕ) (o : Option NameLookup) → Same (LikeRecords c) (turn_lookup_at xs place o) (turn_lookup_at ys place o)
  turn_lookup_like h place None = BothGive _ _ h
  turn_lookup_like h place (Some l) = both_give _ _ (turn_lookup l) (λ now. like_set h place (SameRecord _))

  turn_job_like : {xs ys : List Record} → LikeRecords c xs ys → (job : HostJob) → Same (LikeRecords c) (turn_job xs job) (turn_job ys job)
  turn_job_like h (Write place) = turn_at_like h place (like_at h place)
  turn_job_like {xs} {ys} h (Datagram place) = let P : Option OpenUdp → Type 0 = λ o. Same (LikeRecords c) (turn_datagram_at xs place (open_at xs place)) (turn_datagram_at ys place o) in subst P (same_open h place) (turn_datagram_like h place (open_at xs place))
  turn_job_like {xs} {ys} h (Receive place) = let P : Option OpenUdp → Type 0 = λ o. Same (LikeRecords c) (turn_receive_at xs place (open_at xs place)) (turn_receive_at ys place o) in subst P (same_open h place) (turn_receive_like h place (open_at xs place))
  turn_job_like {xs} {ys} h (Lookup place) = let P : Option NameLookup → Type 0 = λ o. Same (LikeRecords c) (turn_lookup_at xs place (lookup_at xs place)) (turn_lookup_at ys place o) in subst P (same_lookup h place) (turn_lookup_like h place (lookup_at xs place))

  same_going : {xs ys : List Record} → LikeRecords c xs ys → (job : HostJob) → is_going xs job ≡ is_going ys job
  same_going h (Write place) = same_job (like_at h place)
  same_going h (Datagram place) = ap sends_on (same_open h place)
  same_going h (Receive place) = ap receives_on (same_open h place)
  same_going h (Lookup place) = ap looks_on (same_lookup h place)

  next_like : (job : HostJob) (jobs kept : List HostJob) → ((more : List HostJob) (x y : List Record) → LikeRecords c x y → Same (With (LikeRecords c)) (turn_jobs more jobs x) (turn_jobs more jobs y))
      → (x y : List Record) → LikeRecords c x y → Same (With (LikeRecords c)) (turn_jobs (jobs_with kept job (is_going x job)) jobs x) (turn_jobs (jobs_with kept job (is_going y job)) jobs y)
  next_like job jobs kept goes x y g =
      let P : Bool → Type 0 = λ b. Same (With (LikeRecords c)) (turn_jobs (jobs_with kept job (is_going x job)) jobs x) (turn_jobs (jobs_with kept job b) jobs y) in subst P (same_going g job) (goes (jobs_with kept job (is_going x job)) x y g)

  turn_jobs_like : (jobs kept : List HostJob) (x y : List Record) → LikeRecords c x y → Same (With (LikeRecords c)) (turn_jobs kept jobs x) (turn_jobs kept jobs y)
  turn_jobs_like [] kept x y h = BothGive _ _ (Also _ _ _ h)
  turn_jobs_like (job ∷ jobs) kept x y h = same_then (turn_job_like h job) (next_like job jobs kept (turn_jobs_like jobs))

  after_like : {store other : Records} → LikeStore c store other → (a b : List HostJob × List Record) → With (LikeRecords c) a b → With {A = Unit {0}} (LikeStore c) (tt, after_turn store a) (tt, after_turn other b)
  after_like (Stores records others jobs standing limits mosts is h k) _ _ (Also left x y g) = Also tt _ _ (Stores x y left standing limits mosts is g k)

  turns : {store other : Records} → LikeStore c store other → Same (With (LikeRecords c)) (turn_jobs [] store.jobs store.records) (turn_jobs [] other.jobs other.records)
  turns (Stores records others jobs standing limits mosts is h k) = turn_jobs_like jobs [] records others h

  pub turn_like : {store other : Records} → LikeStore c store other → SameStores c (turn_store_asks store) (turn_store_asks other)
  turn_like l = same_give _ _ (turns l) (after_like l)
