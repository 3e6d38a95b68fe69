-- How a call finds its UDP socket; what a socket says of itself: whether it is bound, its addresses, its family and its
-- options, which are set too; and the finish of a bind.
use Rattle.wasi_causes.proofs.Words.{◌≡◌, ◌⊎◌, ◌∙◌, ◌<◌, ◌==◌, inl, inr, ℕ, Bool, true, false, not, if◌then◌else◌, nat_le, List, [], ◌∷◌, ◌++◌, Option, Some, None, Result, Ok, Err, refl, sym, subst, ap, arith, eqb-true, eqb-false, leb-true, leb-false, IpSocketAddress, ErrorCode, Stop, Trap, NoSuchHandle, Machine, Records, own_of, with_store, no_such_handle, entry, is_wildcard, address_reply, value_reply, done_reply, family_reply, number_fields, Give, bind, IsAddr, IsDoneOrCode, IsValue, told_addr, told_done, told_value, Entry, Told, OpId, Asks, WasiSocketsCtx, zero_test, refused_before, refused_after}
use Rattle.wasi_addr.specs.declared.code.ErrorCode.TheVariants.{InvalidState, NotSupported}
use Rattle.wasi_causes.proofs.udp_streams.Routes.{on_open, on_open_record, open_same}
use Rattle.wasi_causes.proofs.tables.Meets.{Rows, Meets, ends, asks, chain, onto, widen, branch}
use Rattle.wasi_causes.proofs.tables.Routes.{Replied, Says, code_word, apart, none_has}
use Rattle.wasi_causes.specs.Outcomes.{Outcome}
use Rattle.wasi_causes.specs.Udp.{OfUdp, putting_udp, IsUdpBound, UdpKnown, UdpToldBound, IsUdpUnbound, udp_local_entry, udp_knowing_bound, UdpLocalFails, UdpNotBound, UdpLocalTold, TellsUdpLocal, UdpGetFails, UdpGetTold, UdpTooLarge, GetsUdpOption, udp_set_entry, UdpSetFails, UdpZero, UdpSetTold, SetsUdpOption}
use Rattle.socket_common.specs.Options.{largest_value, value_told, option_answer}
use Rattle.host_store.specs.Machine.{udp_socket_at}
use Rattle.host_store.specs.Store.{code_told}
use Rattle.wasi_records.specs.Records.{open_at}
use Rattle.udp_records.specs.Udp.{is_udp_bound, with_udp_inner, udp_inner_answered}
use Rattle.host_udp.specs.UdpCalls.{udp_put_back, finish_udp_bind_by, finish_udp_bind_at, udp_local_at, udp_remote_at, udp_family_at, get_udp_option_at, set_udp_option_at}
use Rattle.udp_records.specs.declared.udp.OpenUdp.{OpenUdp}
use Rattle.udp_records.specs.declared.udp.UdpInProgress.{UdpInProgress}
use Rattle.wasi_p2.specs.Udp.{finish_udp_bind_on, udp_local_on, udp_remote_on, udp_family_on, get_udp_option_on, set_udp_option_on}
use Rattle.wasi_steps.specs.declared.reply.Reply.{Reply}
use Rattle.wasi_steps.specs.declared.reply.Reply.TheVariants as reply
use Rattle.wasi_steps.specs.declared.setting.UdpOption.{UdpOption}
use Rattle.wasi_steps.specs.declared.setting.UdpSetting.{UdpSetting}
use Rattle.wasi_steps.specs.declared.setting.UdpSetting.TheVariants as setting
use Rattle.wasi_steps.specs.declared.guest_call.GuestCall.TheVariants as guest
use Rattle.wasi_steps.specs.declared.guest_call.UdpCall.TheVariants as udp_call
use Rattle.wasi_steps.specs.declared.step.Step.TheVariants as step
use Rattle.wasi_steps.specs.Reply.{address_values}
use Rattle.wasi_steps.specs.Settings.{udp_opt, udp_chosen}
use Rattle.wasi_udp.specs.Options.{get_option_asks, set_option_asks}
use Rattle.wasi_udp.specs.Shape.{Socket}
use Rattle.wasi_udp.specs.Socket.{after_local, bound_asks, local_where, local_asks, remote_of}
use Rattle.wasi_walks.specs.Answered.{open_in, open_udp_at}
use Rattle.wasi_world.specs.declared.call.Call.TheVariants as call
use Rattle.wasi_world.specs.declared.call.Opt.{Opt}
use Rattle.wasi_world.specs.declared.call.Told.TheVariants as told

-- == a socket that is put back
pub put_udp_same : (m : Machine) (place : ℕ) (o : OpenUdp) → open_at m.store.records place ≡ Some o → putting_udp m place o ≡ m
put_udp_same m place o at = ap (λ (store : Records). let left : Machine = record m { store = store } in left) (open_same m.store place o at)

pub put_udp_back : (P : Machine → Type 0) (m : Machine) (place : ℕ) (o : OpenUdp) → open_at m.store.records place ≡ Some o → P m → P (putting_udp m place o)
put_udp_back P m place o at h = subst P (sym (put_udp_same m place o at)) h

-- == the socket that a handle names
-- The handle names this socket, at this place.
pub record NamesUdp (m : Machine) (handle place : ℕ) (o : OpenUdp) : Type 0 where
  pub names : udp_socket_at m handle ≡ Some place
  pub at : open_at m.store.records place ≡ Some o

pub its_udp : {m : Machine} {handle place : ℕ} {o : OpenUdp} → NamesUdp m handle place o → open_udp_at m handle ≡ Some o
its_udp {m} n = ap (open_in m) n.names ∙ n.at

pub here_udp : {m : Machine} {handle place : ℕ} {o : OpenUdp} {P : ℕ → OpenUdp → Type 0} → NamesUdp m handle place o → P place o → OfUdp m handle P
here_udp {place} {o} n h = record { place = place; found = o; names = n.names; at = n.at; holds = h }

pub on_udp : {B : Type 0} {Row : Rows B} (m : Machine) (handle : ℕ) (on : Option ℕ → Asks B) (call : ℕ → Option OpenUdp → Asks B) → ((place : ℕ) → on (Some place) ≡ call place (open_at m.store.records place))
    → (open_udp_at m handle ≡ None → Meets Row [] (on None)) → (open_udp_at m handle ≡ None → (place : ℕ) → Meets Row [] (call place None)) → ((place : ℕ) (o : OpenUdp) → NamesUdp m handle place o → Meets Row [] (call place (Some o)))
    → Meets Row [] (on (udp_socket_at m handle))
on_udp m handle on call calls none lost rows = on_open m (udp_socket_at m handle) on call calls none lost (λ place o names at. rows place o (record { names = names; at = at }))

-- a call on it, which traps where the handle or its socket isn't there
pub on_udp_record : {A : Type 0} {Row : Rows (Result A Stop × Machine)} (m : Machine) (handle : ℕ) (on : Option ℕ → Asks (Result A Stop × Machine)) (call : ℕ → Option OpenUdp → Asks (Result A Stop × Records))
    → on None ≡ no_such_handle m → ((place : ℕ) → on (Some place) ≡ bind (call place (open_at m.store.records place)) (λ done. Give (with_store m done))) → ((place : ℕ) → call place None ≡ Give (Err (Trap NoSuchHandle), m.store))
    → (open_udp_at m handle ≡ None → Row [] (Err (Trap NoSuchHandle), m)) → ((place : ℕ) (o : OpenUdp) → NamesUdp m handle place o → Meets (λ es done. Row es (with_store m done)) [] (call place (Some o))) → Meets Row [] (on (udp_socket_at m handle))
on_udp_record m handle on call gone calls lost missing rows = on_open_record m (udp_socket_at m handle) on call gone calls lost missing (λ place o names at. rows place o (record { names = names; at = at }))

-- == whether it is bound
-- It is bound, which is kept; or it is free, and stays as it was.
pub data UdpBoundRow (own : OpId) (socket : Socket) : List Entry → Bool × Socket → Type 0 where
  ItsBound : (es : List Entry) → IsUdpBound own socket es → UdpBoundRow own socket es (true, record socket { bound = true })
  ItsFree : (local : Told) → IsUdpUnbound socket local → UdpBoundRow own socket (udp_local_entry own socket local ∷ []) (false, socket)

module _ (own : OpId) (socket : Socket) where
  is_known : socket.bound ≡ true → UdpBoundRow own socket [] (true, socket)
  is_known e =
      let same = ap (λ (b : Bool). let now : Socket = record socket { bound = b } in now) e in
      subst (λ (now : Socket). UdpBoundRow own socket [] (true, now)) (sym same) (ItsBound [] (UdpKnown e))

  said : (b : IpSocketAddress) (wild : Bool) → is_wildcard socket.family b ≡ wild → socket.bound ≡ false
      → UdpBoundRow own socket (udp_local_entry own socket (told.Addr b) ∷ []) (if wild then (false, socket) else (true, record socket { bound = true }))
  said b true e unknown = ItsFree (told.Addr b) (record { unknown = unknown; free = ap not e })
  said b false e unknown = ItsBound _ (UdpToldBound (told.Addr b) (ap not e))

  told_local : (t : Told) → IsAddr t → socket.bound ≡ false → UdpBoundRow own socket (udp_local_entry own socket t ∷ []) (after_local socket (told_addr t))
  told_local (told.Addr b) fits unknown = said b (is_wildcard socket.family b) refl unknown
  told_local (told.Code c) fits unknown = ItsFree (told.Code c) (record { unknown = unknown; free = refl })
  told_local _ fits unknown = absurd fits

  pub udp_bounds : Meets (UdpBoundRow own socket) [] (bound_asks own socket)
  unfolding bind
  udp_bounds = branch socket.bound (λ e. ends (is_known e)) (λ unknown. asks (λ t fits. ends (told_local t fits unknown)))

-- == the local address
module _ (m : Machine) (own : OpId) (place : ℕ) (o : OpenUdp) (at : open_at m.store.records place ≡ Some o) where
  -- why it is refused, and what is left then
  abbrev pub UdpLocalRefused : List Entry → ErrorCode → Machine → Type 0
  UdpLocalRefused es code after = UdpLocalFails m own place o es code after × ((after ≡ m) ⊎ (after ≡ udp_knowing_bound m place o))

  abbrev pub UdpLocalRow : Rows (Result IpSocketAddress ErrorCode × Socket)
  UdpLocalRow es (Ok a, now) = TellsUdpLocal m own place o es (address_values a) (putting_udp m place (with_udp_inner o now))
  UdpLocalRow es (Err code, now) = UdpLocalRefused es code (putting_udp m place (with_udp_inner o now))

  told_again : (es : List Entry) → IsUdpBound own o.inner es → (t : Told) → IsAddr t → UdpLocalRow (es ++ udp_local_entry own o.inner t ∷ []) (told_addr t, record o.inner { bound = true })
  told_again es is (told.Addr a) fits = record { before = es; address = a; bound = is; asked = refl; gives = refl; left = refl }
  told_again es is (told.Code code) fits = (UdpLocalTold es code is, inr refl)
  told_again es is _ fits = absurd fits

  by_bound : (es : List Entry) (b : Bool × Socket) → UdpBoundRow own o.inner es b → Meets UdpLocalRow es (local_where own b.1 b.0)
  unfolding bind
  by_bound _ _ (ItsBound es is) = asks (λ t fits. ends (told_again es is t fits))
  by_bound _ _ (ItsFree local free) = ends (put_udp_back (UdpLocalRefused (udp_local_entry own o.inner local ∷ []) InvalidState) m place o at (UdpNotBound local free, inl refl))

  pub udp_local_row : Meets UdpLocalRow [] (local_asks own o.inner)
  udp_local_row = chain (udp_bounds own o.inner) by_bound

-- == the options
module _ (own : OpId) (o : OpenUdp) where
  module _ (option : Opt) where
    abbrev pub UdpGetRow : Rows (Result ℕ ErrorCode)
    UdpGetRow es (Ok value) = GetsUdpOption own option o (number_fields value) es
    UdpGetRow es (Err code) = UdpGetFails own option o es code

    abbrev got : Told → List Entry
    got t = entry own (call.GetOption o.inner.side option) t ∷ []

    by_size : (v : ℕ) (b : Bool) → nat_le (value_told option v) (largest_value option) ≡ b → UdpGetRow (got (told.Value v)) (if b then Ok (value_told option v) else Err NotSupported)
    by_size v true size = record { value = v; asked = refl; within = leb-true _ _ size; gives = refl }
    by_size v false size = UdpTooLarge v (leb-false _ _ size)

    told_got : (t : Told) → IsValue t → UdpGetRow (got t) (option_answer option (told_value t))
    told_got (told.Value v) fits = by_size v (nat_le (value_told option v) (largest_value option)) refl
    told_got (told.Code code) fits = UdpGetTold code
    told_got _ fits = absurd fits

    pub udp_gets : Meets UdpGetRow [] (get_option_asks own o.inner option)
    unfolding bind
    udp_gets = asks (λ t fits. ends (told_got t fits))

  module _ (what : UdpSetting) where
    abbrev pub UdpSetRow : Rows (Result (Unit {0}) ErrorCode)
    UdpSetRow es (Ok done) = SetsUdpOption own what o es
    UdpSetRow es (Err code) = UdpSetFails own what o es code

    abbrev its_option : Opt
    its_option = (udp_chosen what).0

    abbrev its_value : ℕ
    its_value = (udp_chosen what).1

    told_set : 0 < its_value → (t : Told) → IsDoneOrCode t → UdpSetRow (udp_set_entry own what o t ∷ []) (told_done t)
    told_set some told.Done fits = record { some = some; asked = refl }
    told_set some (told.Code code) fits = UdpSetTold code some
    told_set some _ fits = absurd fits

    -- 0 is tested once for each of them
    tests_zero : refused_before (zero_test its_option) its_value ≡ false → refused_after (zero_test its_option) its_value ≡ (its_value == 0) → Meets UdpSetRow [] (set_option_asks own o.inner its_option its_value)
    unfolding bind
    tests_zero early late =
        branch (refused_before (zero_test its_option) its_value) (λ e. absurd (cc))
        (λ e. branch (refused_after (zero_test its_option) its_value) (λ zero. ends (UdpZero (eqb-true its_value 0 (sym late ∙ zero))))
        (λ more. let some = eqb-false its_value 0 (sym late ∙ more) in asks (λ t fits. ends (told_set (omega (arith, some)) t fits))))

  pub udp_sets : (what : UdpSetting) → Meets (UdpSetRow what) [] (set_option_asks own o.inner (udp_chosen what).0 (udp_chosen what).1)
  udp_sets (setting.HopLimit n) = tests_zero (setting.HopLimit n) refl refl
  udp_sets (setting.ReceiveBufferSize n) = tests_zero (setting.ReceiveBufferSize n) refl refl
  udp_sets (setting.SendBufferSize n) = tests_zero (setting.SendBufferSize n) refl refl

bound_is : (doing : UdpInProgress) → is_udp_bound doing ≡ true → doing ≡ UdpInProgress.Bound
bound_is UdpInProgress.Bound e = refl
bound_is _ e = absurd (cc)

-- == the steps
module _ (contexts : List WasiSocketsCtx) (m : Machine) (line c handle : ℕ) where
  abbrev own : OpId
  own = own_of line

  -- == the finish of a bind
  abbrev FinishRow : Rows (Reply × Machine)
  FinishRow = Says contexts m line (step.Call c (guest.Udp (udp_call.FinishBind handle)))

  by_started : (place : ℕ) (o : OpenUdp) → NamesUdp m handle place o → (b : Bool) → is_udp_bound o.in_progress ≡ b → let given = with_store m (finish_udp_bind_by m.store place o b) in Meets FinishRow [] (Give (done_reply given.0, given.1))
  by_started place o n false e = ends ((refl, (λ same. rw (its_udp n) e, λ k. refl)), (refl, refl))
  by_started place o n true e = ends ((refl, apart (λ same. cc) (λ k. let none : is_udp_bound o.in_progress ≡ false = rw (its_udp n) at k in cc)), (tt, here_udp n (record { started = bound_is o.in_progress e; left = refl })))

  pub udp_finish_bind : let done = finish_udp_bind_on m (udp_socket_at m handle) in Meets FinishRow [] (Give (done_reply done.0, done.1))
  udp_finish_bind =
      on_udp m handle (λ o. let given = finish_udp_bind_on m o in Give (done_reply given.0, given.1)) (λ place o. let given = with_store m (finish_udp_bind_at m.store place o) in Give (done_reply given.0, given.1)) (λ place. refl) (λ none. ends (missing none)) (λ none place. ends (missing none))
      (λ place o n. by_started place o n (is_udp_bound o.in_progress) refl)
    where
      missing : open_udp_at m handle ≡ None → FinishRow [] (reply.Trap NoSuchHandle, m)
      missing none = ((refl, apart (λ same. cc) (none_has _ (open_udp_at m handle) none)), (none, (refl, refl)))

  -- == addresses
  local_said : (place : ℕ) (o : OpenUdp) (n : NamesUdp m handle place o) (es : List Entry) (done : Result IpSocketAddress ErrorCode × Socket) → UdpLocalRow m own place o n.at es done
      → Replied contexts m line (step.Call c (guest.Udp (udp_call.LocalAddress handle))) address_reply es (with_store m (udp_put_back m.store place (udp_inner_answered o done)))
  local_said place o n es (Ok a, now) h = (tt, ((a, refl), here_udp n h))
  local_said place o n es (Err code, now) h = (tt, (code_word code, (here_udp n (record { code = code; is = refl; cause = h.0 }), elim h.1 [ inl same ↦ inl same | inr knows ↦ inr (here_udp n knows) ])))

  pub udp_local_address : Meets (Says contexts m line (step.Call c (guest.Udp (udp_call.LocalAddress handle)))) [] (bind (udp_local_on m own (udp_socket_at m handle)) (λ done. Give (address_reply done.0, done.1)))
  udp_local_address =
      onto _ (on_udp_record m handle (udp_local_on m own) (λ place o. udp_local_at m.store own place o) refl (λ place. refl) (λ place. refl) (λ none. (tt, (none, (refl, refl))))
      (λ place o n. onto _ (onto _ (widen (local_said place o n) (udp_local_row m own place o n.at)))))

  abbrev RemoteRow : Rows (Reply × Machine)
  RemoteRow = Says contexts m line (step.Call c (guest.Udp (udp_call.RemoteAddress handle)))

  remote_said : (place : ℕ) (o : OpenUdp) → NamesUdp m handle place o → (kept : Option IpSocketAddress) → o.inner.remote ≡ kept → RemoteRow [] (address_reply (code_told (remote_of kept)), m)
  remote_said place o n None e = (((refl, refl), (λ same. rw (its_udp n) e, λ k. refl)), (refl, tt))
  remote_said place o n (Some a) e = (((refl, refl), apart (λ same. cc) (λ k. let none : o.inner.remote ≡ None = rw (its_udp n) at k in absurd (cc))), ((a, refl), here_udp n (record { address = a; kept = e; gives = refl })))

  pub udp_remote_address : Meets RemoteRow [] (Give (address_reply (udp_remote_on m (udp_socket_at m handle)), m))
  udp_remote_address =
      on_udp m handle (λ o. Give (address_reply (udp_remote_on m o), m)) (λ place o. Give (address_reply (udp_remote_at o), m)) (λ place. refl) (λ none. ends (missing none)) (λ none place. ends (missing none)) (λ place o n. ends (remote_said place o n o.inner.remote refl))
    where
      missing : open_udp_at m handle ≡ None → RemoteRow [] (reply.Trap NoSuchHandle, m)
      missing none = (((refl, refl), apart (λ same. cc) (none_has _ (open_udp_at m handle) none)), (none, (refl, refl)))

  pub udp_family : Meets (Says contexts m line (step.Call c (guest.Udp (udp_call.AddressFamily handle)))) [] (Give (family_reply (udp_family_on m (udp_socket_at m handle)), m))
  udp_family =
      on_udp m handle (λ o. Give (family_reply (udp_family_on m o), m)) (λ place o. Give (family_reply (udp_family_at o), m)) (λ place. refl) (λ none. ends ((refl, refl), (none, (refl, refl)))) (λ none place. ends ((refl, refl), (none, (refl, refl))))
      (λ place o n. ends ((refl, refl), ((tt, tt), here_udp n refl)))

  -- == options
  module _ (option : UdpOption) where
    got_so : (place : ℕ) (o : OpenUdp) → NamesUdp m handle place o → (es : List Entry) (done : Result ℕ ErrorCode) → UdpGetRow own o (udp_opt option) es done → Outcome contexts m line (step.Call c (guest.Udp (udp_call.Get handle option))) es (value_reply (code_told done)) m
    got_so place o n es (Ok value) h = (refl, ((tt, tt), here_udp n h))
    got_so place o n es (Err code) h = (refl, (code_word code, here_udp n (record { code = code; is = refl; cause = h })))

    pub udp_get : Meets (Says contexts m line (step.Call c (guest.Udp (udp_call.Get handle option)))) [] (bind (get_udp_option_on m own (udp_opt option) (udp_socket_at m handle)) (λ done. Give (value_reply done.0, done.1)))
    udp_get =
        onto _ (on_udp_record m handle (get_udp_option_on m own (udp_opt option)) (λ place o. get_udp_option_at m.store own (udp_opt option) o) refl (λ place. refl) (λ place. refl) (λ none. (refl, (none, (refl, refl))))
        (λ place o n. onto _ (widen (got_so place o n) (udp_gets own o (udp_opt option)))))

  module _ (what : UdpSetting) where
    set_so : (place : ℕ) (o : OpenUdp) → NamesUdp m handle place o → (es : List Entry) (done : Result (Unit {0}) ErrorCode) → UdpSetRow own o what es done → Outcome contexts m line (step.Call c (guest.Udp (udp_call.Set handle what))) es (done_reply (code_told done)) m
    set_so place o n es (Ok done) h = (refl, (tt, here_udp n h))
    set_so place o n es (Err code) h = (refl, (code_word code, here_udp n (record { code = code; is = refl; cause = h })))

    pub udp_set : Meets (Says contexts m line (step.Call c (guest.Udp (udp_call.Set handle what)))) [] (bind (set_udp_option_on m own (udp_chosen what).0 (udp_chosen what).1 (udp_socket_at m handle)) (λ done. Give (done_reply done.0, done.1)))
    udp_set =
        onto _ (on_udp_record m handle (set_udp_option_on m own (udp_chosen what).0 (udp_chosen what).1) (λ place o. set_udp_option_at m.store own (udp_chosen what).0 (udp_chosen what).1 o) refl (λ place. refl) (λ place. refl) (λ none. (refl, (none, (refl, refl))))
        (λ place o n. onto _ (widen (set_so place o n) (udp_sets own o what))))
