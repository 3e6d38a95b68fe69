-- What a socket says of itself: its addresses, whether it listens, its family, and its options and backlog, which are set too.
use Rattle.wasi_causes.proofs.Words.{◌≡◌, ◌⊎◌, inl, inr, ℕ, Bool, true, false, List, [], ◌∷◌, ◌++◌, Option, Some, None, Result, Ok, Err, refl, sym, subst, ◌<◌, ◌==◌, if◌then◌else◌, nat_le, arith, eqb-true, eqb-false, leb-true, leb-false, IpSocketAddress, ErrorCode, InvalidState, Stop, code_stop, socket_at, own_of, with_store, with_inner, inner_answered, Machine, TcpRecord, putting, knowing_bound, IsPastDefault, IsBound, LocalFails, Connects, LocalClosed, RemoteFails, RemoteDefault, RemoteListening, RemoteConnecting, RemoteClosed, RemoteTold, entry, address_reply, truth_reply, family_reply, value_reply, done_reply, set_chosen, Each, Truth, truth_fields, number_fields, Chosen, AnOption, TheBacklog, chosen, TcpSetting, usable_side, local_from, local_where, local_asks, after_peer, peer_known, still_connected, remote_in, with_state, in_socket, zero_test, value_set, refused_before, refused_after, get_where, set_where, set_option_asks, with_backlog, after_backlog, set_backlog_in, set_backlog_asks, Socket, Connection, TcpState, Give, bind, IsAddr, IsDoneOrCode, IsValue, told_addr, told_done, told_value, Entry, Told, OpId, Operation, WasiSocketsCtx}
use Rattle.wasi_addr.specs.Clamp.{clamped_backlog}
use Rattle.wasi_addr.specs.declared.code.ErrorCode.TheVariants.{NotSupported}
use Rattle.wasi_causes.proofs.sockets.Starts.{BoundRow, ItsBound, ItsFree, asked_none, bounds}
use Rattle.wasi_causes.proofs.tables.Meets.{Rows, Meets, ends, asks, chain, onto, widen, branch}
use Rattle.wasi_causes.proofs.tables.Routes.{Replied, on_number, on_handle, Says, put_back, Names, here, on_record, code_word}
use Rattle.wasi_causes.specs.Options.{GetRefusal, GetConnects, GetClosed, GetTold, ToldTooLarge, SetRefusal, ZeroBefore, SetConnects, SetClosed, ZeroAfter, SetTold, BacklogRefusal, ZeroBacklog, StillConnects, IsConnected, WasClosed, BacklogTold, GetsOption, SetsOption, SetsBacklog, KeptForListen, ToldListener}
use Rattle.wasi_causes.specs.Outcomes.{AreLike, Outcome}
use Rattle.wasi_records.specs.Records.{tcp2_at}
use Rattle.host_store.specs.Store.{code_told}
use Rattle.host_tcp.specs.Options.{get_option_at, set_option_at, set_backlog_at}
use Rattle.host_store.specs.Lines.{tcp_in, told_of}
use Rattle.host_store.specs.Store.{put_back as answer_put}
use Rattle.tcp_records.specs.Sockets.{tell_local_asks, tell_remote_asks}
use Rattle.wasi_p2.specs.Tcp.{local_address, remote_address, is_listening, address_family}
use Rattle.wasi_p2.specs.Options.{get_option_on, set_option_on, set_backlog_on}
use Rattle.wasi_causes.specs.Refusals.{NotBound, LocalTold}
use Rattle.wasi_steps.specs.declared.guest_call.GuestCall.TheVariants as guest
use Rattle.wasi_steps.specs.declared.guest_call.TcpCall.TheVariants as tcp_call
use Rattle.wasi_steps.specs.declared.step.Step.TheVariants as step
use Rattle.socket_common.specs.Options.{largest_value, value_told, option_answer}
use Rattle.wasi_tcp.specs.Addresses.{is_listening as state_listens}
use Rattle.wasi_tcp.specs.Options.{option_side}
use Rattle.wasi_tcp.specs.declared.socket.TcpState.TheVariants as state
use Rattle.wasi_world.specs.declared.call.Call.TheVariants as call
use Rattle.wasi_world.specs.declared.call.Opt.{Opt}
use Rattle.wasi_world.specs.declared.call.Told.TheVariants as told

-- a call on a socket: an address, or a code that is refused so
abbrev pub Answers : (List Entry → ErrorCode → Machine → Type 0) → Machine → ℕ → TcpRecord → Rows (Result IpSocketAddress ErrorCode × Socket)
Answers Cause m place r es (Ok a, now) = Unit {0}
Answers Cause m place r es (Err code, now) = Cause es code (putting m place (with_inner r now))

-- == the local address
module _ (m : Machine) (own : OpId) (place : ℕ) (r : TcpRecord) (there : tcp2_at m.store.records place ≡ Some r) where
  -- why it is refused, and what is left then
  abbrev pub LocalRefused : List Entry → ErrorCode → Machine → Type 0
  LocalRefused es code after = LocalFails m own place r es code after × ((after ≡ m) ⊎ (after ≡ knowing_bound m place r))

  abbrev pub LocalRow : Rows (Result IpSocketAddress ErrorCode × Socket)
  LocalRow = Answers LocalRefused m place r

  module _ (es : List Entry) (is : IsBound own r.inner es) where
    abbrev bound : Socket
    bound = record r.inner { bound = true }

    at_once : (code : ErrorCode) → IsPastDefault r.inner.state → LocalFails m own place r [] code (putting m place (with_inner r bound)) → Meets LocalRow es (Give (Err code, bound))
    at_once code past cause = ends (subst (λ (fs : List Entry). LocalRow fs (Err code, bound)) (sym (asked_none own r.inner es is past)) (cause, inr refl))

    told_local : (side : OpId) (t : Told) → usable_side r.inner.state ≡ Ok side → IsAddr t → LocalRow (es ++ entry own (call.Local side) t ∷ []) (told_addr t, bound)
    told_local side (told.Addr a) e fits = tt
    told_local side (told.Code code) e fits = (LocalTold es side code is e, inr refl)
    told_local side _ e fits = absurd fits

    in_state : (st : TcpState) → r.inner.state ≡ st → Meets LocalRow es (local_from own bound (usable_side st))
    unfolding bind
    in_state (state.Default side) e = asks (λ t fits. ends (told_local side t (rw e refl) fits))
    in_state (state.Listening side) e = asks (λ t fits. ends (told_local side t (rw e refl) fits))
    in_state (state.Connecting op) e = at_once InvalidState (rw e tt) (Connects op e)
    in_state (state.Connected connection) e = asks (λ t fits. ends (told_local connection.side t (rw e refl) fits))
    in_state (state.Closed code) e = at_once code (rw e tt) (LocalClosed code e)

  by_bound : (es : List Entry) (b : Bool × Socket) → BoundRow own r.inner es b → Meets LocalRow es (local_where own b.1 b.0)
  by_bound _ _ (ItsBound es is) = in_state es is r.inner.state refl
  by_bound _ _ (ItsFree side local free) = ends (put_back (LocalRefused (entry own (call.Local side) local ∷ []) InvalidState) m place r there (NotBound side local free, inl refl))

  pub local_row : Meets LocalRow [] (local_asks own r.inner)
  local_row = chain (bounds own r.inner) by_bound

-- == the remote address
module _ (m : Machine) (own : OpId) (place : ℕ) (r : TcpRecord) (at : tcp2_at m.store.records place ≡ Some r) where
  abbrev pub RemoteRefused : List Entry → ErrorCode → Machine → Type 0
  RemoteRefused es code after = RemoteFails own r es code × (after ≡ m)

  abbrev StateRow : Rows (Result IpSocketAddress ErrorCode × TcpState)
  StateRow es done = Answers RemoteRefused m place r es (in_socket r.inner done)

  stays : (es : List Entry) (code : ErrorCode) (st : TcpState) → r.inner.state ≡ st → RemoteFails own r es code → StateRow es (Err code, st)
  stays es code st e cause = subst (λ (s : TcpState). RemoteRefused es code (putting m place (with_inner r (with_state r.inner s)))) e (put_back (RemoteRefused es code) m place r at (cause, refl))

  module _ (connection : Connection) (e : r.inner.state ≡ state.Connected connection) where
    told_peer : (t : Told) → connection.peer ≡ None → IsAddr t → StateRow (entry own (call.Peer connection.side) t ∷ []) (still_connected (after_peer connection (told_addr t)))
    told_peer (told.Addr a) none fits = tt
    told_peer (told.Code code) none fits = stays _ code (state.Connected connection) e (RemoteTold connection code e none)
    told_peer _ none fits = absurd fits

    by_kept : (kept : Option IpSocketAddress) → connection.peer ≡ kept → Meets (λ es p. StateRow es (still_connected p)) [] (peer_known own connection kept)
    unfolding bind
    by_kept (Some a) known = ends tt
    by_kept None none = asks (λ t fits. ends (told_peer t none fits))

  pub by_state : (st : TcpState) → r.inner.state ≡ st → Meets StateRow [] (remote_in own st)
  by_state (state.Default side) e = ends (stays [] InvalidState (state.Default side) e (RemoteDefault side e))
  by_state (state.Listening side) e = ends (stays [] InvalidState (state.Listening side) e (RemoteListening side e))
  by_state (state.Connecting op) e = ends (stays [] InvalidState (state.Connecting op) e (RemoteConnecting op e))
  by_state (state.Connected connection) e = onto _ (by_kept connection e connection.peer refl)
  by_state (state.Closed code) e = ends (stays [] code (state.Closed code) e (RemoteClosed code e))

-- == the options and the backlog
module _ (own : OpId) (r : TcpRecord) where
  -- a socket that has no network socket to be asked connects, or is closed
  no_side : (P : ErrorCode → Type 0) → ((op : Operation) → r.inner.state ≡ state.Connecting op → P InvalidState) → ((c : ErrorCode) → r.inner.state ≡ state.Closed c → P c) → (code : ErrorCode) → option_side r.inner ≡ Err code → P code
  no_side P connects closed code none = by r.inner.state refl none
    where
      by : (st : TcpState) → r.inner.state ≡ st → usable_side st ≡ Err code → P code
      by (state.Default side) s e = absurd (cc)
      by (state.Listening side) s e = absurd (cc)
      by (state.Connecting op) s e = let same : InvalidState ≡ code = cc in subst P same (connects op s)
      by (state.Connected connection) s e = absurd (cc)
      by (state.Closed c) s e = let same : c ≡ code = cc in subst P same (closed c s)

  module _ (option : Opt) where
    abbrev pub GetRow : Rows (Result ℕ ErrorCode)
    GetRow es (Ok value) = GetsOption own option r (number_fields value) es
    GetRow es (Err code) = GetRefusal own option r es code

    abbrev got : OpId → Told → List Entry
    got side t = entry own (call.GetOption side option) t ∷ []

    by_size : (side : OpId) (v : ℕ) (b : Bool) → option_side r.inner ≡ Ok side → nat_le (value_told option v) (largest_value option) ≡ b → GetRow (got side (told.Value v)) (if b then Ok (value_told option v) else Err NotSupported)
    by_size side v true e size = record { side = side; value = v; has = e; asked = refl; within = leb-true _ _ size; gives = refl }
    by_size side v false e size = ToldTooLarge side v e (leb-false _ _ size)

    told_got : (side : OpId) (t : Told) → option_side r.inner ≡ Ok side → IsValue t → GetRow (got side t) (option_answer option (told_value t))
    told_got side (told.Value v) e fits = by_size side v (nat_le (value_told option v) (largest_value option)) e refl
    told_got side (told.Code code) e fits = GetTold side code e
    told_got side _ e fits = absurd fits

    pub gets_where : (o : Result OpId ErrorCode) → option_side r.inner ≡ o → Meets (λ es done. GetRow es done.0 × (done.1 ≡ r.inner)) [] (get_where own r.inner option o)
    unfolding bind
    gets_where (Ok side) e = asks (λ t fits. ends (told_got side t e fits, refl))
    gets_where (Err code) e = ends (no_side (λ c. GetRefusal own option r [] c) GetConnects GetClosed code e, refl)

  module _ (option : Opt) (value : ℕ) where
    abbrev pub SetRow : Rows (Result (Unit {0}) ErrorCode)
    SetRow es (Ok done) = SetsOption own option value r es
    SetRow es (Err code) = SetRefusal own option value r es code

    module _ (early : refused_before (zero_test option) value ≡ false) where
      told_set : (side : OpId) (t : Told) → option_side r.inner ≡ Ok side → refused_after (zero_test option) value ≡ false → IsDoneOrCode t → SetRow (entry own (call.SetOption side option (value_set option value)) t ∷ []) (told_done t)
      told_set side told.Done e late fits = record { side = side; has = e; before = early; after = late; asked = refl }
      told_set side (told.Code code) e late fits = SetTold side code early e late
      told_set side _ e late fits = absurd fits

      sets_where : (o : Result OpId ErrorCode) → option_side r.inner ≡ o → Meets (λ es done. SetRow es done.0 × (done.1 ≡ r.inner)) [] (set_where own r.inner option value o)
      sets_where (Ok side) e = onto _ (branch (refused_after (zero_test option) value) (λ late. ends (ZeroAfter side early e late, refl)) (λ late. asks (λ t fits. ends (told_set side t e late fits, refl))))
      sets_where (Err code) e = ends (no_side (λ c. SetRefusal own option value r [] c) (λ op s. SetConnects op early s) (λ c s. SetClosed c early s) code e, refl)

    pub sets : Meets (λ es done. SetRow es done.0 × (done.1 ≡ r.inner)) [] (set_option_asks own r.inner option value)
    sets = branch (refused_before (zero_test option) value) (λ zero. ends (ZeroBefore zero, refl)) (λ early. sets_where early (option_side r.inner) refl)

  -- a set of the backlog: refused, the socket is as it was
  module _ (value : ℕ) where
    abbrev pub BacklogRow : Rows (Result (Unit {0}) ErrorCode × Socket)
    BacklogRow es (Ok done, now) = (0 < value) × SetsBacklog own value r es × (now ≡ with_backlog r.inner (clamped_backlog value))
    BacklogRow es (Err code, now) = BacklogRefusal own value r es code × (now ≡ r.inner)

    module _ (some : 0 < value) where
      told_backlog : (side : OpId) (t : Told) → r.inner.state ≡ state.Listening side → IsDoneOrCode t → BacklogRow (entry own (call.SetBacklog side (clamped_backlog value)) t ∷ []) (after_backlog r.inner (clamped_backlog value) (told_done t))
      told_backlog side told.Done e fits = (some, ToldListener side e, refl)
      told_backlog side (told.Code code) e fits = (BacklogTold side code some e, refl)
      told_backlog side _ e fits = absurd fits

      keeps_in : (st : TcpState) → r.inner.state ≡ st → Meets BacklogRow [] (set_backlog_in own r.inner (clamped_backlog value) st)
      unfolding bind
      keeps_in (state.Default side) e = ends (some, KeptForListen side e, refl)
      keeps_in (state.Listening side) e = asks (λ t fits. ends (told_backlog side t e fits))
      keeps_in (state.Connecting op) e = ends (StillConnects op some e, refl)
      keeps_in (state.Connected connection) e = ends (IsConnected connection some e, refl)
      keeps_in (state.Closed code) e = ends (WasClosed code some e, refl)

    pub keeps : Meets BacklogRow [] (set_backlog_asks own r.inner value)
    keeps = branch (value == 0) (λ zero. ends (ZeroBacklog (eqb-true value 0 zero), refl)) (λ more. let some = eqb-false value 0 more in keeps_in (omega (arith, some)) r.inner.state refl)

-- == the steps
pub truth_like : (b : Bool) → AreLike (Each (Truth ∷ [])) (truth_fields b)
truth_like true = (tt, tt)
truth_like false = (tt, tt)

module _ (contexts : List WasiSocketsCtx) (m : Machine) (line c handle : ℕ) where
  abbrev own : OpId
  own = own_of line

  address_said : (Row : Rows (Result IpSocketAddress Stop × Machine)) (Cause : List Entry → ErrorCode → Machine → Type 0) (place : ℕ) (r : TcpRecord) → ((es : List Entry) (a : IpSocketAddress) (after : Machine) → Row es (Ok a, after))
      → ((es : List Entry) (code : ErrorCode) (after : Machine) → Cause es code after → Row es (Err (code_stop code), after))
      → (es : List Entry) (done : Result IpSocketAddress ErrorCode × Socket) → Answers Cause m place r es done → Row es (code_told (inner_answered r done).0, putting m place (inner_answered r done).1)
  address_said Row Cause place r told refused es (Ok a, now) h = told es a _
  address_said Row Cause place r told refused es (Err code, now) h = refused es code _ h

  pub local_address_row : Meets (Says contexts m line (step.Call c (guest.Tcp (tcp_call.LocalAddress handle)))) [] (bind (local_address own handle m) (λ done. Give (address_reply done.0, done.1)))
  local_address_row =
      onto _ (on_handle m handle (tell_local_asks own) (λ none. (tt, (none, (refl, refl))))
      (λ place r n. onto _ (widen (address_said (Replied contexts m line (step.Call c (guest.Tcp (tcp_call.LocalAddress handle))) address_reply) (LocalRefused m own place r n.at) place r (λ es a after. (tt, ((a, refl), tt)))
      (λ es code after h. (tt, (code_word code, (here n (record { code = code; is = refl; cause = h.0 }), elim h.1 [ inl same ↦ inl same | inr knows ↦ inr (here n knows) ]))))) (local_row m own place r n.at))))

  pub remote_address_row : Meets (Says contexts m line (step.Call c (guest.Tcp (tcp_call.RemoteAddress handle)))) [] (bind (remote_address own handle m) (λ done. Give (address_reply done.0, done.1)))
  remote_address_row =
      onto _ (on_handle m handle (tell_remote_asks own) (λ none. (tt, (none, (refl, refl))))
      (λ place r n. onto _ (widen (address_said (Replied contexts m line (step.Call c (guest.Tcp (tcp_call.RemoteAddress handle))) address_reply) (RemoteRefused m own place r n.at) place r (λ es a after. (tt, ((a, refl), tt)))
      (λ es code after h. (tt, (code_word code, (here n (record { code = code; is = refl; cause = h.0 }, h.1), h.1))))) (onto (in_socket r.inner) (by_state m own place r n.at r.inner.state refl)))))

  -- == what is known without asking
  abbrev listens : TcpRecord → Bool
  listens r = state_listens r.inner.state

  pub is_listens : Meets (Says contexts m line (step.Call c (guest.Tcp (tcp_call.IsListening handle)))) [] (Give (truth_reply (is_listening m handle), m))
  is_listens =
      on_number m handle (λ o. Give (truth_reply (told_of listens (tcp_in m o)), m)) (λ place o. Give (truth_reply (told_of listens o), m)) (λ place. refl) (λ none. ends ((refl, refl), (none, (refl, refl)))) (λ none place. ends ((refl, refl), (none, (refl, refl)))) (λ place r n. ends ((refl, refl), (truth_like (listens r), tt)))

  pub family : Meets (Says contexts m line (step.Call c (guest.Tcp (tcp_call.AddressFamily handle)))) [] (Give (family_reply (address_family m handle), m))
  family = on_number m handle (λ o. Give (family_reply (told_of (λ r. r.inner.family) (tcp_in m o)), m)) (λ place o. Give (family_reply (told_of (λ r. r.inner.family) o), m)) (λ place. refl) (λ none. ends ((refl, refl), (none, (refl, refl)))) (λ none place. ends ((refl, refl), (none, (refl, refl)))) (λ place r n. ends ((refl, refl), ((tt, tt), tt)))

  module _ (option : Opt) where
    got_so : (place : ℕ) (r : TcpRecord) → Names m handle place r → (es : List Entry) (done : Result ℕ ErrorCode × Socket) → GetRow own r option es done.0 × (done.1 ≡ r.inner) → Outcome contexts m line (step.Call c (guest.Tcp (tcp_call.Get handle option))) es (value_reply (code_told done.0)) m
    got_so place r n es (Ok value, now) h = (refl, ((tt, tt), here n h.0))
    got_so place r n es (Err code, now) h = (refl, (code_word code, here n (record { code = code; is = refl; cause = h.0 }, refl)))

    pub get : Meets (Says contexts m line (step.Call c (guest.Tcp (tcp_call.Get handle option)))) [] (bind (get_option_on m own option (socket_at m handle)) (λ done. Give (value_reply done.0, done.1)))
    get = onto _ (on_record m handle (get_option_on m own option) (λ place o. get_option_at m.store own option o) refl (λ place. refl) (λ place. refl) (λ none. (refl, (none, (refl, refl)))) (λ place r n. onto _ (widen (got_so place r n) (gets_where own r option (option_side r.inner) refl))))

  module _ (setting : TcpSetting) where
    abbrev Row : Rows (Result (Unit {0}) Stop × Machine)
    Row es done = Outcome contexts m line (step.Call c (guest.Tcp (tcp_call.Set handle setting))) es (done_reply done.0) done.1

    set_so : (place : ℕ) (r : TcpRecord) (n : Names m handle place r) (option : Opt) (value : ℕ) → chosen setting ≡ AnOption option value → (es : List Entry) (done : Result (Unit {0}) ErrorCode × Socket) → SetRow own r option value es done.0 × (done.1 ≡ r.inner) → Row es (code_told done.0, m)
    set_so place r n option value e es (Ok done, now) h = (tt, (tt, (refl, here n (rw e (h.0, refl)))))
    set_so place r n option value e es (Err code, now) h = (tt, (code_word code, here n (record { code = code; is = refl; cause = rw e h.0 }, refl)))

    kept_so : (place : ℕ) (r : TcpRecord) (n : Names m handle place r) (value : ℕ) → chosen setting ≡ TheBacklog value → (es : List Entry) (done : Result (Unit {0}) ErrorCode × Socket) → BacklogRow own r value es done → Row es (with_store m (answer_put m.store place (inner_answered r done)))
    kept_so place r n value e es (Ok done, now) h = (tt, (tt, (refl, here n (rw e (h.0, h.1, rw h.2 refl)))))
    kept_so place r n value e es (Err code, now) h = rw h.1 (put_back (λ (after : Machine). Row es (code_told (Err code), after)) m place r n.at (tt, (code_word code, here n (record { code = code; is = refl; cause = rw e h.0 }, refl))))

    by_chosen : (what : Chosen) → chosen setting ≡ what → Meets Row [] (set_chosen m own (socket_at m handle) what)
    by_chosen (AnOption option value) e =
        on_record m handle (set_option_on m own option value) (λ place o. set_option_at m.store own option value o) refl (λ place. refl) (λ place. refl) (λ none. (tt, (none, (refl, refl)))) (λ place r n. onto _ (widen (set_so place r n option value e) (sets own r option value)))
    by_chosen (TheBacklog value) e =
        on_record m handle (set_backlog_on m own value) (λ place o. set_backlog_at m.store own place value o) refl (λ place. refl) (λ place. refl) (λ none. (tt, (none, (refl, refl)))) (λ place r n. onto _ (widen (kept_so place r n value e) (keeps own r value)))

    pub set : Meets (Says contexts m line (step.Call c (guest.Tcp (tcp_call.Set handle setting)))) [] (bind (set_chosen m own (socket_at m handle) (chosen setting)) (λ done. Give (done_reply done.0, done.1)))
    set = onto _ (by_chosen (chosen setting) refl)
