-- The steps of 0.3 sockets: a create, what a socket says of itself, and its options and backlog.
use Rattle.wasi_causes.proofs.Words.{AnOption, Asks, Chosen, Entry, Err, ErrorCode, Give, IpSocketAddress, List}
use Rattle.wasi_causes.proofs.Words.{Machine, NoSuchHandle}
use Rattle.wasi_causes.proofs.Words.{None, OfTcp3, Ok, OpId, Option, Result, Socket, SocketAddressFamily, Some}
use Rattle.wasi_causes.proofs.Words.{TcpRecord, TcpSetting, TheBacklog, Trap}
use Rattle.wasi_causes.proofs.Words.{WasiSocketsCtx, [], ap, bind, chosen, in_socket, inl, inner_answered, inr}
use Rattle.wasi_causes.proofs.Words.{number_fields, own_of, p3_word, context_at}
use Rattle.wasi_causes.proofs.Words.{putting, refl, set_backlog_asks, set_option_asks, truth_fields, ℕ, ◌∙◌, ◌≡◌}
use Rattle.wasi_causes.proofs.sockets.Makes.{creates, may_use, no_room, refused_at_once}
use Rattle.wasi_causes.proofs.sockets.Questions.{Answers, BacklogRow, GetRow, LocalRefused, RemoteRefused, SetRow}
use Rattle.wasi_causes.proofs.sockets.Questions.{by_state, gets_where, keeps, local_row, sets, truth_like}
use Rattle.wasi_causes.proofs.tables.Meets.{Rows, Meets, ends, onto, widen}
use Rattle.wasi_causes.proofs.tables.Routes.{Replied, Says, calls, finds, put_back}
use Rattle.wasi_causes.specs.MayAnswer.{IsP3Word}
use Rattle.host_store.specs.Block.{last}
use Rattle.host_store.specs.Lines.{tcp_in}
use Rattle.host_store.specs.Machine.{tcp3_at}
use Rattle.host_store.specs.declared.kind.Kind.TheVariants.{Tcp3}
use Rattle.wasi_machine.specs.Machine.{p3_reply, set_p3}
use Rattle.wasi_p3.specs.Lines.{asked_of, in_store, inner_call, of_tcp, on_tcp, tcp_of, told_of}
use Rattle.wasi_p3.specs.Stops.{P3Stop, p3_stop, p3_told}
use Rattle.wasi_p3.specs.Tcp as p3
use Rattle.wasi_records.specs.Records.{tcp2_at}
use Rattle.tcp_records.specs.Sockets.{tell_local_asks, tell_remote_asks}
use Rattle.wasi_steps.specs.Reply.{address_values, family_fields, no_values}
use Rattle.wasi_steps.specs.declared.guest_call.GuestCall.TheVariants as guest
use Rattle.wasi_steps.specs.declared.guest_call.P3TcpCall.TheVariants as p3_tcp_call
use Rattle.wasi_steps.specs.declared.step.Step.TheVariants as step
use Rattle.wasi_tcp.specs.Addresses.{is_listening as listens}
use Rattle.wasi_tcp.specs.Options.{get_option_asks, option_side}
use Rattle.wasi_world.specs.declared.call.Opt.{Opt}

-- == the record that a handle names
-- The handle of a 0.3 socket names this record, at this place.
pub record Names (m : Machine) (handle place : ℕ) (r : TcpRecord) : Type 0 where
  pub names : tcp3_at m handle ≡ Some place
  pub at : tcp2_at m.store.records place ≡ Some r

here : {m : Machine} {handle place : ℕ} {r : TcpRecord} {P : ℕ → TcpRecord → Type 0} → Names m handle place r
    → P place r → OfTcp3 m handle P
here {place} {r} n h = record { place = place; found = r; names = n.names; at = n.at; holds = h }

-- a call on it: what it answers, with the record as the call leaves it
on_handle : {A : Type 0} {Row : Rows (Result A P3Stop × Machine)} (m : Machine) (handle : ℕ)
    (asked : TcpRecord → Asks (Result A ErrorCode × TcpRecord))
    → (tcp_of m handle ≡ None → Row [] (Err (Trap NoSuchHandle), m))
    → ((place : ℕ) (r : TcpRecord) → Names m handle place r → Meets
    (λ es done. Row es (p3_told done.0, putting m place done.1)) [] (asked r)) → Meets Row []
    (of_tcp handle asked m)
on_handle {A} {Row} m handle asked missing rows =
    finds (λ place. last (in_store (on_tcp place asked))) (tcp3_at m handle) (λ none. missing (ap (tcp_in m) none))
    (λ place names. calls _ (on_place place names) (λ es why store row. ends row) (λ es a store row. ends row))
  where
    on_place : (place : ℕ) → tcp3_at m handle ≡ Some place → Meets
        (λ es done. Row es (done.0, record m { store = done.1 })) [] (on_tcp place asked m.store)
    on_place place names =
        finds (λ r. last (asked_of place r asked)) (tcp2_at m.store.records place)
        (λ none. missing (ap (tcp_in m) names ∙ none))
        (λ r at. calls _ (rows place r (record { names = names; at = at })) (λ es c now row. ends row)
        (λ es a now row. ends row))

p3_code : (c : ErrorCode) → IsP3Word (p3_word c)
p3_code c = record { code = c; is = refl }

-- == a create
pub p3_create : (contexts : List WasiSocketsCtx) (m : Machine) (line c : ℕ) (family : SocketAddressFamily)
    → let its : WasiSocketsCtx = context_at contexts c in
    Meets (Says contexts m line (step.Call c (guest.P3Tcp (p3_tcp_call.Create family)))) []
    (bind (p3.create (own_of line) its family m) (λ done. Give (p3_reply number_fields done.0, done.1)))
p3_create contexts m line c family =
    onto _ (creates contexts m line c family p3.handle_told p3.code_told Tcp3
    (λ es code k. (
      refused_at_once contexts m line c family k,
      (p3_code code, (record { code = code; is = refl; cause = k }, refl)),
    ))
    (λ es socket k none. let left = no_room contexts m line c family k none in
    (may_use contexts m line c family k, (tt, left.0, left.1)))
    (λ es fs socket k. (may_use contexts m line c family k, ((tt, tt), tt))))

module _ (contexts : List WasiSocketsCtx) (m : Machine) (line c handle : ℕ) where
  abbrev own : OpId
  own = own_of line

  -- == its addresses
  address_said : (Row : Rows (Result IpSocketAddress P3Stop × Machine))
      (Cause : List Entry → ErrorCode → Machine → Type 0) (place : ℕ) (r : TcpRecord)
      → ((es : List Entry) (a : IpSocketAddress) (after : Machine) → Row es (Ok a, after))
      → ((es : List Entry) (code : ErrorCode) (after : Machine) → Cause es code after → Row es
      (Err (p3_stop code), after))
      → (es : List Entry) (done : Result IpSocketAddress ErrorCode × Socket) → Answers Cause m place r es done → Row es
      (p3_told (inner_answered r done).0, putting m place (inner_answered r done).1)
  address_said Row Cause place r told refused es (Ok a, now) h = told es a _
  address_said Row Cause place r told refused es (Err code, now) h = refused es code _ h

  pub p3_local_address : Meets (Says contexts m line (step.Call c (guest.P3Tcp (p3_tcp_call.LocalAddress handle)))) []
      (bind (p3.local_address own handle m) (λ done. Give (p3_reply address_values done.0, done.1)))
  p3_local_address =
      onto _ (on_handle m handle (tell_local_asks own) (λ none. (tt, (none, (refl, refl))))
      (λ place r n. onto _ (widen
      (address_said (Replied contexts m line (step.Call c (guest.P3Tcp (p3_tcp_call.LocalAddress handle)))
      (p3_reply address_values)) (LocalRefused m own place r n.at) place r (λ es a after. (tt, ((a, refl), tt)))
      (λ es code after h. (
        tt,
        (
          p3_code code,
          (
            here n (record { code = code; is = refl; cause = h.0 }),
            elim h.1 [ inl same ↦ inl same | inr knows ↦ inr (here n knows) ],
          ),
        ),
      ))) (local_row m own place r n.at))))

  pub p3_remote_address : Meets (Says contexts m line (step.Call c (guest.P3Tcp (p3_tcp_call.RemoteAddress handle)))) []
      (bind (p3.remote_address own handle m) (λ done. Give (p3_reply address_values done.0, done.1)))
  p3_remote_address =
      onto _ (on_handle m handle (tell_remote_asks own) (λ none. (tt, (none, (refl, refl))))
      (λ place r n. onto _ (widen
      (address_said (Replied contexts m line (step.Call c (guest.P3Tcp (p3_tcp_call.RemoteAddress handle)))
      (p3_reply address_values)) (RemoteRefused m own place r n.at) place r (λ es a after. (tt, ((a, refl), tt)))
      (λ es code after h. (tt, (p3_code code, (here n (record { code = code; is = refl; cause = h.0 }), h.1)))))
      (onto (in_socket r.inner) (by_state m own place r n.at r.inner.state refl)))))

  -- == what is known without asking
  pub p3_is_listening : Meets (Says contexts m line (step.Call c (guest.P3Tcp (p3_tcp_call.IsListening handle)))) []
      (Give (p3_reply truth_fields (p3.is_listening m handle), m))
  p3_is_listening = by_found (tcp_of m handle) refl
    where
      by_found : (o : Option TcpRecord) → tcp_of m handle ≡ o → Meets
          (Says contexts m line (step.Call c (guest.P3Tcp (p3_tcp_call.IsListening handle)))) []
          (Give (p3_reply truth_fields (told_of (λ r. Ok (listens r.inner.state)) o), m))
      by_found None e = ends ((refl, refl), (e, (refl, refl)))
      by_found (Some r) e = ends ((refl, refl), (truth_like (listens r.inner.state), tt))

  pub p3_address_family : Meets (Says contexts m line (step.Call c (guest.P3Tcp (p3_tcp_call.AddressFamily handle)))) []
      (Give (p3_reply family_fields (p3.address_family m handle), m))
  p3_address_family = by_found (tcp_of m handle) refl
    where
      by_found : (o : Option TcpRecord) → tcp_of m handle ≡ o → Meets
          (Says contexts m line (step.Call c (guest.P3Tcp (p3_tcp_call.AddressFamily handle)))) []
          (Give (p3_reply family_fields (told_of (λ r. Ok r.inner.family) o), m))
      by_found None e = ends ((refl, refl), (e, (refl, refl)))
      by_found (Some r) e = ends ((refl, refl), ((tt, tt), tt))

  -- == its options and its backlog
  module _ (option : Opt) where
    abbrev GetSays : Rows (Result ℕ P3Stop × Machine)
    GetSays = Replied contexts m line (step.Call c (guest.P3Tcp (p3_tcp_call.Get handle option))) (p3_reply number_fields)

    got_so : (place : ℕ) (r : TcpRecord) → Names m handle place r → (es : List Entry)
        (done : Result ℕ ErrorCode × Socket) → GetRow own r option es done.0 × (done.1 ≡ r.inner) → GetSays es
        (p3_told done.0, putting m place (inner_answered r done).1)
    got_so place r n es (Ok value, now) h =
        rw h.1 (put_back (λ (after : Machine). GetSays es (Ok value, after)) m place r n.at
        (refl, ((tt, tt), here n h.0)))
    got_so place r n es (Err code, now) h =
        rw h.1 (put_back (λ (after : Machine). GetSays es (Err (p3_stop code), after)) m place r n.at
        (refl, (p3_code code, here n (record { code = code; is = refl; cause = h.0 }, refl))))

    pub p3_get : Meets (Says contexts m line (step.Call c (guest.P3Tcp (p3_tcp_call.Get handle option)))) []
        (bind (p3.get_option own handle option m) (λ done. Give (p3_reply number_fields done.0, done.1)))
    p3_get = onto _ (on_handle m handle (inner_call (λ s. get_option_asks own s option))
        (λ none. (refl, (none, (refl, refl))))
        (λ place r n. onto _ (widen (got_so place r n) (gets_where own r option (option_side r.inner) refl))))

  module _ (setting : TcpSetting) where
    abbrev Row : Rows (Result (Unit {0}) P3Stop × Machine)
    Row = Replied contexts m line (step.Call c (guest.P3Tcp (p3_tcp_call.Set handle setting))) (p3_reply no_values)

    set_so : (place : ℕ) (r : TcpRecord) (n : Names m handle place r) (option : Opt) (value : ℕ)
        → chosen setting ≡ AnOption option value → (es : List Entry) (done : Result (Unit {0}) ErrorCode × Socket)
        → SetRow own r option value es done.0 × (done.1 ≡ r.inner)
        → Row es (p3_told done.0, putting m place (inner_answered r done).1)
    set_so place r n option value e es (Ok done, now) h =
        rw h.1 (put_back (λ (after : Machine). Row es (Ok done, after)) m place r n.at
        (tt, (tt, (refl, here n (rw e (h.0, refl))))))
    set_so place r n option value e es (Err code, now) h =
        rw h.1 (put_back (λ (after : Machine). Row es (Err (p3_stop code), after)) m place r n.at
        (tt, (p3_code code, here n (record { code = code; is = refl; cause = rw e h.0 }, refl))))

    kept_so : (place : ℕ) (r : TcpRecord) (n : Names m handle place r) (value : ℕ) → chosen setting ≡ TheBacklog value
        → (es : List Entry) (done : Result (Unit {0}) ErrorCode × Socket) → BacklogRow own r value es done
        → Row es (p3_told done.0, putting m place (inner_answered r done).1)
    kept_so place r n value e es (Ok done, now) h = (tt, (tt, (refl, here n (rw e (h.0, h.1, rw h.2 refl)))))
    kept_so place r n value e es (Err code, now) h =
        rw h.1 (put_back (λ (after : Machine). Row es (Err (p3_stop code), after)) m place r n.at
        (tt, (p3_code code, here n (record { code = code; is = refl; cause = rw e h.0 }, refl))))

    by_chosen : (what : Chosen) → chosen setting ≡ what → Meets Row [] (set_p3 own handle what m)
    by_chosen (AnOption option value) e =
        on_handle m handle (inner_call (λ s. set_option_asks own s option value)) (λ none. (tt, (none, (refl, refl))))
        (λ place r n. onto _ (widen (set_so place r n option value e) (sets own r option value)))
    by_chosen (TheBacklog value) e =
        on_handle m handle (inner_call (λ s. set_backlog_asks own s value)) (λ none. (tt, (none, (refl, refl))))
        (λ place r n. onto _ (widen (kept_so place r n value e) (keeps own r value)))

    pub p3_set : Meets (Says contexts m line (step.Call c (guest.P3Tcp (p3_tcp_call.Set handle setting)))) []
        (bind (set_p3 own handle (chosen setting) m) (λ done. Give (p3_reply no_values done.0, done.1)))
    p3_set = onto _ (by_chosen (chosen setting) refl)
