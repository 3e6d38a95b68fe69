-- Connects of 0.3 UDP sockets.
use Rattle.wasi_causes.proofs.Words.{◌≡◌, ◌∙◌, ℕ, Bool, true, false, if◌then◌else◌, List, [], Some, Result}
use Rattle.wasi_causes.proofs.Words.{Ok, Err, refl, ap, Answer, Pending, Ready, Done, End, Entry, ErrorCode, Give}
use Rattle.wasi_causes.proofs.Words.{InvalidArgument, InvalidState, IpSocketAddress, Item, Machine, OpId, Operation, Refused, Waits}
use Rattle.wasi_causes.proofs.Words.{WasiSocketsCtx, bind, first_ids, own_of, p3_word}
use Rattle.std.specs.Prelude.{not}
use Rattle.wasi_addr.specs.Code.{p3_of_code}
use Rattle.wasi_causes.proofs.operations.UdpConnectEnds.{udp_connect_ends}
use Rattle.wasi_causes.proofs.sockets.Udp.{ItsBound, ItsFree, UdpBoundRow, put_udp_back, udp_bounds}
use Rattle.wasi_causes.proofs.tables.Meets.{After, Meets, Rows, branch, chain, ends, onto, shifted, widen}
use Rattle.wasi_causes.proofs.tables.Routes.{Replied, Says, calls, finds}
use Rattle.wasi_causes.specs.MayAnswer.{IsP3Word}
use Rattle.wasi_causes.specs.P3Binds.{with_pending}
use Rattle.wasi_causes.specs.P3Udp.{OfUdp3}
use Rattle.wasi_causes.specs.P3UdpConnects.{ConnectBegins, ConnectFails, ConnectPolls, ConnectsUdp, Elsewhere, FindsBound, FoundBound, FoundFree, HasStreams, PollFails, UdpConnectStands}
use Rattle.wasi_causes.specs.Udp.{putting_udp}
use Rattle.host_store.specs.BaseStops.{told_as}
use Rattle.host_store.specs.Lines.{Answered, keeps}
use Rattle.host_store.specs.Block.{Call, goes_on, last, need, ◌>>=◌, ◌>>◌}
use Rattle.host_store.specs.declared.store.StandingCall.TheVariants.{UdpConnect3}
use Rattle.host_store.specs.Machine.{udp3_at}
use Rattle.host_store.specs.Store.{with_open_udp}
use Rattle.host_udp.specs.UdpConnects.{udp_connect_of}
use Rattle.wasi_machine.specs.Machine.{p3_answer_reply}
use Rattle.wasi_p3.specs.Lines.{in_base, udp_in}
use Rattle.wasi_p3.specs.Stops.{P3Stop}
use Rattle.wasi_p3.specs.Udp as udp3
use Rattle.udp_records.specs.Datagrams.{has_streams, udp_alone_begun, udp_connect_asks, udp_reconnect_ended}
use Rattle.udp_records.specs.declared.udp.OpenUdp.{OpenUdp}
use Rattle.wasi_records.specs.Records.{open_at}
use Rattle.record_common.specs.Stops.{Code}
use Rattle.wasi_steps.specs.declared.guest_call.GuestCall.TheVariants as guest
use Rattle.wasi_steps.specs.declared.guest_call.P3UdpCall.TheVariants as p3_udp_call
use Rattle.wasi_steps.specs.declared.step.Step.TheVariants as step
use Rattle.wasi_steps.specs.Reply.{no_values}
use Rattle.wasi_udp.specs.Connect.{connect_start, is_connectable}
use Rattle.wasi_udp.specs.Shape.{Socket}
use Rattle.wasi_walks.proofs.fits.UdpFits.{begun_connect}

p3_code : (c : ErrorCode) → IsP3Word (p3_word c)
p3_code c = record { code = c; is = refl }

-- == as it is begun
module _ (m : Machine) (line place : ℕ) (o : OpenUdp) (at : open_at m.store.records place ≡ Some o) (a : IpSocketAddress) (alone : has_streams o ≡ false) where
  abbrev own : OpId
  own = own_of line

  -- it is pending, or is done, or is refused
  abbrev ToldRow : Rows (Answered × OpenUdp)
  ToldRow es (Ok Pending, now) = UdpConnectStands m line place o a es (with_pending (putting_udp m place now) line (UdpConnect3 place))
  ToldRow es (Ok (Ready done), now) = ConnectsUdp m own place o a es (putting_udp m place now)
  ToldRow es (Err code, now) = ConnectFails m own place o a es code (putting_udp m place now)

  module _ (connectable : is_connectable o.inner a ≡ true) (asked : List Entry) (bound : Bool) (now : Socket) (finds_so : FindsBound own o.inner asked bound now) where
    abbrev its : Operation
    its = connect_start own now a bound

    abbrev begins : ConnectBegins own o a
    begins = record { alone = alone; connectable = connectable; asked = asked; bound = bound; now = now; finds = finds_so }

    ended : (es : List Entry) (end : End × List Item) → After (ConnectPolls its.who its.left) asked es end → ToldRow es (udp_reconnect_ended its (record o { inner = now; connecting = Some its }) end)
    ended es (Waits, items) k = record { begins = begins; polled = k.rest; items = items; ends = k.row; asked = k.cut; left = refl }
    ended es (Done given, items) k = record { begins = begins; polled = k.rest; given = given; items = items; ends = k.row; asked = k.cut; left = refl }
    ended es (Refused code given, items) k = rw k.cut (PollFails begins k.rest code given items k.row)

    polls_so : Meets ToldRow asked (udp_alone_begun o (Ok its, now))
    polls_so = onto _ (widen ended (shifted asked (udp_connect_ends its (begun_connect own now a bound))))

  by_bound : is_connectable o.inner a ≡ true → (es : List Entry) (b : Bool × Socket) → UdpBoundRow own o.inner es b → Meets ToldRow es (udp_alone_begun o (Ok (connect_start own b.1 a b.0), b.1))
  by_bound e _ _ (ItsBound es is) = polls_so e es true _ (FoundBound es is)
  by_bound e _ _ (ItsFree local free) = polls_so e _ false _ (FoundFree local free)

  begins_so : Meets ToldRow [] (udp_connect_asks own o a)
  begins_so =
      chain {Mid = λ es begun. Meets ToldRow es (udp_alone_begun o begun)}
      (branch (is_connectable o.inner a) (λ e. onto _ (widen (by_bound e) (udp_bounds own o.inner)))
      (λ e. ends (ends (put_udp_back (λ (after : Machine). ConnectFails m own place o a [] InvalidArgument after) m place o at (Elsewhere alone e)))))
      (λ es begun k. k)

-- == the step
module _ (contexts : List WasiSocketsCtx) (m : Machine) (line c handle : ℕ) (a : IpSocketAddress) where
  abbrev Said : Rows (Result (Answer (Unit {0})) P3Stop × Machine)
  Said = Replied contexts m line (step.Call c (guest.P3Udp (p3_udp_call.Connect handle a))) (p3_answer_reply no_values line)

  module _ (place : ℕ) (names : udp3_at m handle ≡ Some place) where
    of_udp : {P : ℕ → OpenUdp → Type 0} (o : OpenUdp) → open_at m.store.records place ≡ Some o → P place o → OfUdp3 m handle P
    of_udp o at h = record { place = place; found = o; names = names; at = at; holds = h }

    kept : (o : OpenUdp) (at : open_at m.store.records place ≡ Some o) (alone : has_streams o ≡ false) (es : List Entry) (answer : Answer (Unit {0})) (now : OpenUdp) → ToldRow m line place o at a alone es (Ok answer, now)
        → Meets (λ es done. Said es (told_as p3_of_code done.0, record m { store = done.1 })) es (keeps (first_ids line) (UdpConnect3 place) answer (with_open_udp m.store place now))
    kept o at alone es Pending now h = ends (tt, ((refl, refl), of_udp o at h))
    kept o at alone es (Ready done) now h = ends (tt, (tt, of_udp o at h))

    by_streams : (o : OpenUdp) → open_at m.store.records place ≡ Some o → (live : Bool) → has_streams o ≡ live
        → Meets (λ es done. Said es (told_as p3_of_code done.0, record m { store = done.1 })) [] (if not live then goes_on (Call Code (λ store. o) (λ store now. with_open_udp store place now) (λ o. udp_connect_asks (own_of line) o a)) (keeps (first_ids line) (UdpConnect3 place)) m.store else Give (Err (Code InvalidState), m.store))
    by_streams o at true e = ends (tt, (p3_code InvalidState, of_udp o at (record { code = InvalidState; is = refl; cause = HasStreams e })))
    by_streams o at false e =
        calls _ (begins_so m line place o at a e) (λ es code now h. ends (tt, (p3_code code, of_udp o at (record { code = code; is = refl; cause = h })))) (kept o at e)

    connects_so : Meets (λ es done. Said es (told_as p3_of_code done.0, record m { store = done.1 })) [] (udp_connect_of (first_ids line) place a m.store)
    connects_so =
        finds (λ o. need (not (has_streams o)) (Code InvalidState) >> (Call Code (λ store. o) (λ store now. with_open_udp store place now) (λ o. udp_connect_asks (own_of line) o a) >>= keeps (first_ids line) (UdpConnect3 place))) (open_at m.store.records place)
        (λ none. (tt, (ap (udp_in m) names ∙ none, (refl, refl))))
        (λ o at. by_streams o at (has_streams o) refl)

  pub p3_udp_connect : Meets (Says contexts m line (step.Call c (guest.P3Udp (p3_udp_call.Connect handle a)))) [] (bind (udp3.connect_to (first_ids line) handle a m) (λ done. Give (p3_answer_reply no_values line done.0, done.1)))
  p3_udp_connect =
      onto _ (finds (λ place. last (in_base (udp_connect_of (first_ids line) place a))) (udp3_at m handle) (λ none. (tt, (ap (udp_in m) none, (refl, refl))))
      (λ place names. calls _ (connects_so place names) (λ es why store row. ends row) (λ es answer store row. ends row)))
