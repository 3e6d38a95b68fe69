-- The steps of 0.3 UDP sockets, but the create: what a socket says of itself, its options, and a disconnect.
use Rattle.wasi_causes.proofs.Words.{◌≡◌, ◌∙◌, ℕ, inl, inr, List, [], Option, Some, None, Result, Ok, Err, refl, sym, ap}
use Rattle.wasi_causes.proofs.Words.{Asks, Entry, ErrorCode, Give, IpSocketAddress, IsDoneOrCode, Machine, NoSuchHandle}
use Rattle.wasi_causes.proofs.Words.{OpId, Told, Trap, WasiSocketsCtx, bind, number_fields, own_of, p3_word, true}
use Rattle.wasi_addr.specs.declared.code.ErrorCode.TheVariants.{InvalidState}
use Rattle.wasi_causes.proofs.sockets.Udp.{UdpGetRow, UdpLocalRow, UdpSetRow, put_udp_back, udp_gets, udp_local_row}
use Rattle.wasi_causes.proofs.sockets.Udp.{udp_sets}
use Rattle.wasi_causes.proofs.tables.Meets.{Rows, Meets, asks, ends, onto, widen}
use Rattle.wasi_causes.proofs.tables.Routes.{Replied, Says, calls, finds}
use Rattle.wasi_causes.specs.MayAnswer.{IsP3Word}
use Rattle.wasi_causes.specs.P3Udp.{DisconnectFails, DisconnectTold, Disconnects, KeepsNone, OfUdp3, disconnect_entries}
use Rattle.wasi_causes.specs.Udp.{TellsUdpRemote, putting_udp}
use Rattle.host_store.specs.Block.{Call, last}
use Rattle.host_store.specs.Machine.{udp3_at}
use Rattle.host_store.specs.Store.{with_open_udp}
use Rattle.wasi_machine.specs.Machine.{p3_reply}
use Rattle.wasi_p3.specs.Lines.{in_store, of_udp, on_udp, told_of, udp_in, udp_of}
use Rattle.wasi_p3.specs.Stops.{P3Stop, p3_stop, p3_told}
use Rattle.wasi_p3.specs.Udp as p3
use Rattle.wasi_p3.specs.Udp.{disconnect_of, inner_told, staying}
use Rattle.wasi_records.specs.Records.{open_at}
use Rattle.udp_records.specs.Udp.{udp_local_asks, with_udp_inner}
use Rattle.udp_records.specs.declared.udp.OpenUdp.{OpenUdp}
use Rattle.wasi_steps.specs.Reply.{address_values, family_fields, no_values}
use Rattle.wasi_steps.specs.Settings.{udp_chosen, udp_opt}
use Rattle.wasi_steps.specs.declared.guest_call.GuestCall.TheVariants as guest
use Rattle.wasi_steps.specs.declared.guest_call.P3UdpCall.TheVariants as p3_udp_call
use Rattle.wasi_steps.specs.declared.setting.UdpOption.{UdpOption}
use Rattle.wasi_steps.specs.declared.setting.UdpSetting.{UdpSetting}
use Rattle.wasi_steps.specs.declared.step.Step.TheVariants as step
use Rattle.wasi_udp.specs.Options.{get_option_asks, set_option_asks}
use Rattle.wasi_udp.specs.Shape.{Socket}
use Rattle.wasi_udp.specs.Socket.{after_peer, disconnect_in, remote_of}
use Rattle.wasi_world.specs.Typed.{told_addr, told_done}
use Rattle.wasi_world.specs.declared.call.Told.TheVariants as told

-- == the socket that a handle names
-- The handle of a 0.3 socket names this socket, at this place.
record Names (m : Machine) (handle place : ℕ) (o : OpenUdp) : Type 0 where
  names : udp3_at m handle ≡ Some place
  at : open_at m.store.records place ≡ Some o

here : {m : Machine} {handle place : ℕ} {o : OpenUdp} {P : ℕ → OpenUdp → Type 0} → Names m handle place o → P place o
    → OfUdp3 m handle P
here {place} {o} n h = record { place = place; found = o; names = n.names; at = n.at; holds = h }

-- a call on it: what it answers, with the record as the call leaves it
on_handle : {A : Type 0} {Row : Rows (Result A P3Stop × Machine)} (m : Machine) (handle : ℕ)
    (asked : OpenUdp → Asks (Result A ErrorCode × OpenUdp))
    → (udp_of m handle ≡ None → Row [] (Err (Trap NoSuchHandle), m))
    → ((place : ℕ) (o : OpenUdp) → Names m handle place o → Meets
    (λ es done. Row es (p3_told done.0, putting_udp m place done.1)) [] (asked o)) → Meets Row []
    (of_udp handle asked m)
on_handle {A} {Row} m handle asked missing rows =
    finds (λ place. last (in_store (on_udp place asked))) (udp3_at m handle) (λ none. missing (ap (udp_in m) none))
    (λ place names. calls _ (on_place place names) (λ es why store row. ends row) (λ es a store row. ends row))
  where
    on_place : (place : ℕ) → udp3_at m handle ≡ Some place → Meets
        (λ es done. Row es (done.0, record m { store = done.1 })) [] (on_udp place asked m.store)
    on_place place names =
        finds (λ o. last (Call p3_stop (λ store. o) (λ store now. with_open_udp store place now) asked))
        (open_at m.store.records place)
        (λ none. missing (ap (udp_in m) names ∙ none))
        (λ o at. calls _ (rows place o (record { names = names; at = at })) (λ es c now row. ends row)
        (λ es a now row. ends row))

p3_code : (c : ErrorCode) → IsP3Word (p3_word c)
p3_code c = record { code = c; is = refl }

-- == a disconnect
module _ (m : Machine) (own : OpId) (place : ℕ) (o : OpenUdp) (at : open_at m.store.records place ≡ Some o) where
  abbrev DisconnectRow : Rows (Result (Unit {0}) ErrorCode × Socket)
  DisconnectRow es (Ok done, now) = Disconnects m own place o es (putting_udp m place (with_udp_inner o now))
  DisconnectRow es (Err code, now) =
      DisconnectFails m own place o es code (putting_udp m place (with_udp_inner o now))

  abbrev asked : Told → Told → List Entry
  asked done peer = disconnect_entries own o done peer

  told_both : (a : IpSocketAddress) → o.inner.remote ≡ Some a → (done : Told) → IsDoneOrCode done → (peer : Told)
      → DisconnectRow (asked done peer)
      (told_done done, after_peer (record o.inner { bound = true }) (told_addr peer))
  told_both a kept told.Done fits peer = record { kept = a; was = kept; peer = peer; asked = refl; left = refl }
  told_both a kept (told.Code c) fits peer = DisconnectTold a c peer kept
  told_both a kept _ fits peer = absurd fits

  disconnects : (kept : Option IpSocketAddress) → o.inner.remote ≡ kept → Meets DisconnectRow []
      (disconnect_in own o.inner kept)
  unfolding bind
  disconnects None e = ends (put_udp_back (λ (after : Machine). DisconnectFails m own place o [] InvalidState after) m place o
      at (KeepsNone e))
  disconnects (Some a) e = asks (λ done fits. asks (λ peer addr. ends (told_both a e done fits peer)))

-- == the steps
module _ (contexts : List WasiSocketsCtx) (m : Machine) (line c handle : ℕ) where
  abbrev own : OpId
  own = own_of line

  disconnected_so : (place : ℕ) (o : OpenUdp) (n : Names m handle place o) (es : List Entry)
      (done : Result (Unit {0}) ErrorCode × Socket) → DisconnectRow m own place o n.at es done
      → Replied contexts m line (step.Call c (guest.P3Udp (p3_udp_call.Disconnect handle))) (p3_reply no_values) es
      (p3_told (inner_told o done).0, putting_udp m place (inner_told o done).1)
  disconnected_so place o n es (Ok done, now) h = (tt, (tt, here n h))
  disconnected_so place o n es (Err code, now) h =
      (tt, (p3_code code, here n (record { code = code; is = refl; cause = h })))

  pub p3_udp_disconnect : Meets (Says contexts m line (step.Call c (guest.P3Udp (p3_udp_call.Disconnect handle)))) []
      (bind (p3.disconnect own handle m) (λ done. Give (p3_reply no_values done.0, done.1)))
  p3_udp_disconnect =
      onto _ (on_handle m handle (disconnect_of own) (λ none. (tt, (none, (refl, refl))))
      (λ place o n. onto _ (widen (disconnected_so place o n) (disconnects m own place o n.at o.inner.remote refl))))

  -- == what a socket says of itself
  local_said : (place : ℕ) (o : OpenUdp) (n : Names m handle place o) (es : List Entry)
      (done : Result IpSocketAddress ErrorCode × Socket) → UdpLocalRow m own place o n.at es done
      → Replied contexts m line (step.Call c (guest.P3Udp (p3_udp_call.LocalAddress handle))) (p3_reply address_values) es
      (p3_told (inner_told o done).0, putting_udp m place (inner_told o done).1)
  local_said place o n es (Ok a, now) h = (tt, ((a, refl), here n h))
  local_said place o n es (Err code, now) h = (
    tt,
    (
      p3_code code,
      (
        here n (record { code = code; is = refl; cause = h.0 }),
        elim h.1 [ inl same ↦ inl same | inr knows ↦ inr (here n knows) ],
      ),
    ),
  )

  pub p3_udp_local_address : Meets (Says contexts m line (step.Call c (guest.P3Udp (p3_udp_call.LocalAddress handle)))) []
      (bind (p3.local_address own handle m) (λ done. Give (p3_reply address_values done.0, done.1)))
  p3_udp_local_address =
      onto _ (on_handle m handle (udp_local_asks own) (λ none. (tt, (none, (refl, refl))))
      (λ place o n. onto _ (widen (local_said place o n) (udp_local_row m own place o n.at))))

  -- a handle that names a socket
  named : (o : OpenUdp) → udp_of m handle ≡ Some o → (found : Option ℕ) → udp3_at m handle ≡ found
      → (P : OpenUdp → Type 0) → P o → OfUdp3 m handle (λ place x. P x)
  named o e None names P h = absurd (let none : None ≡ Some o = sym (ap (udp_in m) names) ∙ e in cc)
  named o e (Some place) names P h =
      record { place = place; found = o; names = names; at = sym (ap (udp_in m) names) ∙ e; holds = h }

  pub p3_udp_remote_address : Meets (Says contexts m line (step.Call c (guest.P3Udp (p3_udp_call.RemoteAddress handle)))) []
      (Give (p3_reply address_values (p3.remote_address m handle), m))
  p3_udp_remote_address = by_found (udp_of m handle) refl
    where
      by_kept : (o : OpenUdp) → udp_of m handle ≡ Some o → (kept : Option IpSocketAddress) → o.inner.remote ≡ kept
          → Says contexts m line (step.Call c (guest.P3Udp (p3_udp_call.RemoteAddress handle))) []
          (p3_reply address_values (p3_told (remote_of kept)), m)
      by_kept o e None k = ((refl, refl), (refl, named o e (udp3_at m handle) refl (λ x. x.inner.remote ≡ None) k))
      by_kept o e (Some a) k = (
        (refl, refl),
        (
          (a, refl),
          named o e (udp3_at m handle) refl (λ x. TellsUdpRemote x (address_values a))
              (record { address = a; kept = k; gives = refl }),
        ),
      )

      by_found : (found : Option OpenUdp) → udp_of m handle ≡ found → Meets
          (Says contexts m line (step.Call c (guest.P3Udp (p3_udp_call.RemoteAddress handle)))) []
          (Give (p3_reply address_values (told_of (λ o. remote_of o.inner.remote) found), m))
      by_found None e = ends ((refl, refl), (e, (refl, refl)))
      by_found (Some o) e = ends (by_kept o e o.inner.remote refl)

  pub p3_udp_family : Meets (Says contexts m line (step.Call c (guest.P3Udp (p3_udp_call.AddressFamily handle)))) []
      (Give (p3_reply family_fields (p3.address_family m handle), m))
  p3_udp_family = by_found (udp_of m handle) refl
    where
      by_found : (found : Option OpenUdp) → udp_of m handle ≡ found → Meets
          (Says contexts m line (step.Call c (guest.P3Udp (p3_udp_call.AddressFamily handle)))) []
          (Give (p3_reply family_fields (told_of (λ o. Ok o.inner.family) found), m))
      by_found None e = ends ((refl, refl), (e, (refl, refl)))
      by_found (Some o) e = ends (
        (refl, refl),
        (
          (tt, tt),
          named o e (udp3_at m handle) refl (λ x. family_fields o.inner.family ≡ family_fields x.inner.family) refl,
        ),
      )

  -- == its options
  module _ (option : UdpOption) where
    got_so : (place : ℕ) (o : OpenUdp) → Names m handle place o → (es : List Entry) (told : Result ℕ ErrorCode)
        → UdpGetRow own o (udp_opt option) es told
        → Replied contexts m line (step.Call c (guest.P3Udp (p3_udp_call.Get handle option))) (p3_reply number_fields) es
        (p3_told told, putting_udp m place o)
    got_so place o n es (Ok value) h =
        put_udp_back (λ (after : Machine). Replied contexts m line (step.Call c (guest.P3Udp (p3_udp_call.Get handle option)))
        (p3_reply number_fields) es (Ok value, after)) m place o n.at (refl, ((tt, tt), here n h))
    got_so place o n es (Err code) h =
        put_udp_back (λ (after : Machine). Replied contexts m line (step.Call c (guest.P3Udp (p3_udp_call.Get handle option)))
        (p3_reply number_fields) es (Err (p3_stop code), after)) m place o n.at
        (refl, (p3_code code, here n (record { code = code; is = refl; cause = h })))

    pub p3_udp_get : Meets (Says contexts m line (step.Call c (guest.P3Udp (p3_udp_call.Get handle option)))) []
        (bind (p3.get_option own handle (udp_opt option) m) (λ done. Give (p3_reply number_fields done.0, done.1)))
    p3_udp_get =
        onto _ (on_handle m handle (λ o. staying o (get_option_asks own o.inner (udp_opt option)))
        (λ none. (refl, (none, (refl, refl))))
        (λ place o n. onto _ (widen (got_so place o n) (udp_gets own o (udp_opt option)))))

  module _ (what : UdpSetting) where
    set_so : (place : ℕ) (o : OpenUdp) → Names m handle place o → (es : List Entry)
        (told : Result (Unit {0}) ErrorCode) → UdpSetRow own o what es told
        → Replied contexts m line (step.Call c (guest.P3Udp (p3_udp_call.Set handle what))) (p3_reply no_values) es
        (p3_told told, putting_udp m place o)
    set_so place o n es (Ok done) h =
        put_udp_back (λ (after : Machine). Replied contexts m line (step.Call c (guest.P3Udp (p3_udp_call.Set handle what)))
        (p3_reply no_values) es (Ok done, after)) m place o n.at (refl, (tt, here n h))
    set_so place o n es (Err code) h =
        put_udp_back (λ (after : Machine). Replied contexts m line (step.Call c (guest.P3Udp (p3_udp_call.Set handle what)))
        (p3_reply no_values) es (Err (p3_stop code), after)) m place o n.at
        (refl, (p3_code code, here n (record { code = code; is = refl; cause = h })))

    pub p3_udp_set : Meets (Says contexts m line (step.Call c (guest.P3Udp (p3_udp_call.Set handle what)))) []
        (bind (p3.set_option own handle (udp_chosen what).0 (udp_chosen what).1 m)
        (λ done. Give (p3_reply no_values done.0, done.1)))
    p3_udp_set =
        onto _ (on_handle m handle (λ o. staying o (set_option_asks own o.inner (udp_chosen what).0 (udp_chosen what).1))
        (λ none. (refl, (none, (refl, refl))))
        (λ place o n. onto _ (widen (set_so place o n) (udp_sets own o what))))
