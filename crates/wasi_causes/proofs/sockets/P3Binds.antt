-- Binds of 0.3 sockets.
use Rattle.wasi_causes.proofs.Words.{◌≡◌, ◌∙◌, ℕ, Bool, true, false, if◌then◌else◌, List, [], ◌∷◌, Some, Result}
use Rattle.wasi_causes.proofs.Words.{Ok, Err, refl, sym, subst, ap, Answer, Pending, Ready, Entry, ErrorCode, Give, Given}
use Rattle.wasi_causes.proofs.Words.{InvalidArgument, IpSocketAddress, IsFoundUnbound, Item, Machine}
use Rattle.wasi_causes.proofs.Words.{OpId, Operation, Refused, Socket, TcpRecord, TcpState, Told, Waits}
use Rattle.wasi_causes.proofs.Words.{WasiSocketsCtx, bind, bind_allowed, bind_begun, bind_ended}
use Rattle.wasi_causes.proofs.Words.{Done, End, entry, first_ids, may_bind_to, own_of, p3_word, putting}
use Rattle.wasi_causes.proofs.Words.{with_progress}
use Rattle.wasi_addr.specs.Address.{ip_of, is_of_family}
use Rattle.wasi_addr.specs.Code.{p3_of_code}
use Rattle.wasi_causes.proofs.operations.Polls.{bind_never_waits, not_over, polled, tcp_bind_never_waits}
use Rattle.wasi_causes.proofs.sockets.Starts.{BoundRow, ItsBound, ItsFree, bounds}
use Rattle.wasi_causes.proofs.sockets.Udp.{UdpBoundRow, put_udp_back, udp_bounds}
use Rattle.wasi_causes.proofs.sockets.Udp.{ItsBound as ItsUdpBound, ItsFree as ItsUdpFree}
use Rattle.wasi_causes.proofs.tables.Meets.{After, Meets, Rows, chain, ends, onto, shifted, widen}
use Rattle.wasi_causes.proofs.tables.Routes.{Replied, Says, calls, finds, put_back}
use Rattle.wasi_causes.specs.MayAnswer.{IsP3Word}
use Rattle.wasi_causes.specs.P3Binds.{BindFails, BindStands, BindTold, Binds, BindsUdp, CheckedNo, IsBoundAlready, MayBind}
use Rattle.wasi_causes.specs.P3Binds.{MayBindUdp, OtherAddress, OtherFamily, UdpBindFails, UdpBindStands, UdpBindTold}
use Rattle.wasi_causes.specs.P3Binds.{UdpCheckedNo, UdpIsBound, begun_bind, begun_udp_bind, check_entry, with_pending}
use Rattle.wasi_causes.specs.P3Udp.{OfUdp3}
use Rattle.wasi_causes.specs.Polls.{BindToldCode, BindToldDone, CheckToldPending, GoesOn, Polled, Stays, Stops, ToldNo}
use Rattle.wasi_causes.specs.Polls.{ToldYes, UdpBindToldCode, UdpBindToldDone, WasOver}
use Rattle.wasi_causes.specs.Refusals.{OfTcp3}
use Rattle.wasi_causes.specs.Udp.{IsUdpUnbound, putting_udp, udp_bind_entry, udp_check_entry, udp_local_entry}
use Rattle.host_store.specs.BaseStops.{told_as}
use Rattle.host_store.specs.Lines.{Answered, keeps}
use Rattle.host_tcp.specs.Binds.{bind_of, bind_told, binds}
use Rattle.host_udp.specs.UdpBinds.{udp_bind_of, udp_bind_told, udp_binds}
use Rattle.host_store.specs.Block.{Call, goes_on, last}
use Rattle.host_store.specs.declared.kind.Interface.TheVariants.{P3}
use Rattle.host_store.specs.declared.store.StandingCall.TheVariants.{Bind, UdpBind}
use Rattle.host_store.specs.Lines.{tcp_in}
use Rattle.host_store.specs.Machine.{tcp3_at, udp3_at}
use Rattle.host_store.specs.Store.{with_socket}
use Rattle.host_store.specs.Store.{with_open_udp}
use Rattle.wasi_machine.specs.Machine.{p3_answer_reply}
use Rattle.wasi_p3.specs.Lines.{in_base, udp_in}
use Rattle.wasi_p3.specs.Stops.{P3Stop}
use Rattle.wasi_p3.specs.Tcp as p3
use Rattle.wasi_p3.specs.Udp as udp3
use Rattle.record_common.specs.Binding.{left_of}
use Rattle.tcp_records.specs.declared.tcp_binding.InProgress.TheVariants as doing
use Rattle.udp_records.specs.declared.udp.OpenUdp.{OpenUdp}
use Rattle.udp_records.specs.declared.udp.UdpInProgress.TheVariants as udp_doing
use Rattle.wasi_records.specs.Records.{open_at, tcp2_at}
use Rattle.record_common.specs.Stops.{Code}
use Rattle.udp_records.specs.Udp.{udp_bind_begun, udp_bind_ended, with_udp_progress}
use Rattle.wasi_steps.specs.declared.guest_call.GuestCall.TheVariants as guest
use Rattle.wasi_steps.specs.declared.guest_call.P3TcpCall.TheVariants as p3_tcp_call
use Rattle.wasi_steps.specs.declared.guest_call.P3UdpCall.TheVariants as p3_udp_call
use Rattle.wasi_steps.specs.declared.step.Step.TheVariants as step
use Rattle.wasi_steps.specs.Reply.{no_values}
use Rattle.wasi_tcp.specs.Socket.{bind_start}
use Rattle.wasi_udp.specs.Bind.{bind_start as udp_bind_start}
use Rattle.wasi_udp.specs.Shape.{Socket as UdpSocket}
use Rattle.wasi_world.specs.declared.call.Call.TheVariants as call
use Rattle.wasi_world.specs.declared.call.Told.TheVariants as told

p3_code : (c : ErrorCode) → IsP3Word (p3_word c)
p3_code c = record { code = c; is = refl }

-- == a bind of a TCP socket as it is begun
module _ (m : Machine) (line place : ℕ) (r : TcpRecord) (at : tcp2_at m.store.records place ≡ Some r) (a : IpSocketAddress) where
  abbrev own : OpId
  own = own_of line

  -- it is pending, or is done, or is refused
  abbrev ToldRow : Rows (Answered × TcpRecord)
  ToldRow es (Ok Pending, now) = BindStands m line place r a es (with_pending (putting m place now) line (Bind place P3))
  ToldRow es (Ok (Ready done), now) = Binds m own place r a es (putting m place now)
  ToldRow es (Err code, now) = BindFails m own place r a es code (putting m place now)

  -- by what the record does then
  abbrev TcpBindRow : Rows (Answered × TcpRecord)
  TcpBindRow es done = ToldRow es (bind_told P3 done)

  module _ (side : OpId) (local : Told) (free : IsFoundUnbound r.inner side local) where
    abbrev asked : Entry
    asked = entry own (call.Local side) local

    abbrev its : Operation
    its = begun_bind own side r a

    module _ (address : may_bind_to r.inner.family a ≡ true) where
      may : MayBind r a side local
      may = record { unbound = free; address = address }

      refused : (es : List Entry) (code : ErrorCode) (given : Given) (items : List Item) → Polled its.who its.left es (Refused code given, items)
          → BindFails m own place r a (asked ∷ es) code (putting m place (with_progress r doing.Nothing))
      refused _ _ _ _ (Stops _ _ _ _ (ToldNo _ _)) = CheckedNo side local may
      refused _ _ _ _ (GoesOn _ _ _ _ _ (ToldYes _ _) (Stops _ _ _ _ (BindToldCode _ code))) = BindTold side local code may
      refused _ _ _ _ (GoesOn _ _ _ _ _ (ToldYes _ _) (GoesOn _ _ _ _ _ passed row)) = absurd (not_over row)

      waits : (es : List Entry) (items : List Item) → Polled its.who its.left es (Waits, items) → (es ≡ check_entry own r a told.Pending ∷ []) × (items ≡ its.left)
      waits _ _ (Stays _ _ _ _ (CheckToldPending _ _)) = (refl, refl)
      waits _ items (GoesOn _ _ _ fs _ _ row) = absurd (tcp_bind_never_waits its.who a fs items row)

      over : (es : List Entry) (given : Given) (items : List Item) → Polled its.who its.left es (Done given, items) → es ≡ check_entry own r a told.Yes ∷ entry own (call.Bind side a) told.Done ∷ []
      over _ _ _ (GoesOn _ _ _ _ _ (ToldYes _ _) (GoesOn _ _ _ _ _ (BindToldDone _) WasOver)) = refl

      ended : (es : List Entry) (end : End × List Item) → After (Polled its.who its.left) (asked ∷ []) es end → TcpBindRow es (bind_ended its (with_progress r (doing.Binding its)) end)
      ended es (Waits, items) k =
          let w = waits k.rest items k.row in
          record {
            side = side;
            local = local;
            may = may;
            asked = k.cut ∙ ap (λ (xs : List Entry). asked ∷ xs) w.0;
            left = ap (λ (left : List Item). with_pending (putting m place (with_progress r (doing.Binding (left_of its left)))) line (Bind place P3)) w.1;
          }
      ended es (Done given, items) k = record { side = side; local = local; may = may; asked = k.cut ∙ ap (λ (xs : List Entry). asked ∷ xs) (over k.rest given items k.row); left = refl }
      ended es (Refused code given, items) k = rw k.cut (refused k.rest code given items k.row)

    tested : (b : Bool) → may_bind_to r.inner.family a ≡ b → Meets TcpBindRow (asked ∷ []) (bind_begun r (if b then Ok its else Err InvalidArgument, r.inner))
    tested true address = onto (bind_ended its (with_progress r (doing.Binding its))) (widen (ended address) (shifted (asked ∷ []) (polled its (tt, (tt, tt)))))
    tested false e = ends (put_back (λ (after : Machine). BindFails m own place r a (asked ∷ []) InvalidArgument after) m place r at (OtherAddress side local free e))

  by_bound : (es : List Entry) (b : Bool × Socket) → BoundRow own r.inner es b → Meets TcpBindRow es (bind_begun r (bind_start own b.1 a b.0, b.1))
  by_bound _ _ (ItsBound es is) = ends (IsBoundAlready es is)
  by_bound _ _ (ItsFree side local free) = subst (λ (st : TcpState). Meets TcpBindRow (asked side local free ∷ []) (bind_begun r (bind_allowed own r.inner a st, r.inner))) (sym free.open_side) (tested side local free (may_bind_to r.inner.family a) refl)

  begins : Meets ToldRow [] (binds own a r)
  begins = onto _ (chain {Mid = λ es start. Meets TcpBindRow es (bind_begun r start)} (onto _ (widen by_bound (bounds own r.inner))) (λ es start k. k))

-- == of a UDP socket: the same
module _ (m : Machine) (line place : ℕ) (o : OpenUdp) (at : open_at m.store.records place ≡ Some o) (a : IpSocketAddress) where
  abbrev the_own : OpId
  the_own = own_of line

  abbrev UdpToldRow : Rows (Answered × OpenUdp)
  UdpToldRow es (Ok Pending, now) = UdpBindStands m line place o a es (with_pending (putting_udp m place now) line (UdpBind place P3))
  UdpToldRow es (Ok (Ready done), now) = BindsUdp m the_own place o a es (putting_udp m place now)
  UdpToldRow es (Err code, now) = UdpBindFails m the_own place o a es code (putting_udp m place now)

  abbrev UdpBindRow : Rows (Answered × OpenUdp)
  UdpBindRow es done = UdpToldRow es (udp_bind_told P3 done)

  abbrev udp_its : Operation
  udp_its = begun_udp_bind the_own o a

  module _ (local : Told) (free : IsUdpUnbound o.inner local) where
    abbrev udp_asked : Entry
    udp_asked = udp_local_entry the_own o.inner local

    module _ (family : is_of_family (ip_of a) o.inner.family ≡ true) where
      udp_may : MayBindUdp o a local
      udp_may = record { unbound = free; family = family }

      udp_refused : (es : List Entry) (code : ErrorCode) (given : Given) (items : List Item) → Polled udp_its.who udp_its.left es (Refused code given, items)
          → UdpBindFails m the_own place o a (udp_asked ∷ es) code (putting_udp m place (with_udp_progress o udp_doing.Nothing))
      udp_refused _ _ _ _ (Stops _ _ _ _ (ToldNo _ _)) = UdpCheckedNo local udp_may
      udp_refused _ _ _ _ (GoesOn _ _ _ _ _ (ToldYes _ _) (Stops _ _ _ _ (UdpBindToldCode _ code))) = UdpBindTold local code udp_may
      udp_refused _ _ _ _ (GoesOn _ _ _ _ _ (ToldYes _ _) (GoesOn _ _ _ _ _ passed row)) = absurd (not_over row)

      udp_waits : (es : List Entry) (items : List Item) → Polled udp_its.who udp_its.left es (Waits, items) → (es ≡ udp_check_entry the_own o.inner a told.Pending ∷ []) × (items ≡ udp_its.left)
      udp_waits _ _ (Stays _ _ _ _ (CheckToldPending _ _)) = (refl, refl)
      udp_waits _ items (GoesOn _ _ _ fs _ _ row) = absurd (bind_never_waits udp_its.who a fs items row)

      udp_over : (es : List Entry) (given : Given) (items : List Item) → Polled udp_its.who udp_its.left es (Done given, items) → es ≡ udp_check_entry the_own o.inner a told.Yes ∷ udp_bind_entry the_own o.inner a told.Done ∷ []
      udp_over _ _ _ (GoesOn _ _ _ _ _ (ToldYes _ _) (GoesOn _ _ _ _ _ (UdpBindToldDone _) WasOver)) = refl

      udp_ended : (es : List Entry) (end : End × List Item) → After (Polled udp_its.who udp_its.left) (udp_asked ∷ []) es end → UdpBindRow es (udp_bind_ended udp_its (with_udp_progress o (udp_doing.Binding udp_its)) end)
      udp_ended es (Waits, items) k =
          let w = udp_waits k.rest items k.row in
          record {
            local = local;
            may = udp_may;
            asked = k.cut ∙ ap (λ (xs : List Entry). udp_asked ∷ xs) w.0;
            left = ap (λ (left : List Item). with_pending (putting_udp m place (with_udp_progress o (udp_doing.Binding (left_of udp_its left)))) line (UdpBind place P3)) w.1;
          }
      udp_ended es (Done given, items) k = record { local = local; may = udp_may; asked = k.cut ∙ ap (λ (xs : List Entry). udp_asked ∷ xs) (udp_over k.rest given items k.row); left = refl }
      udp_ended es (Refused code given, items) k = rw k.cut (udp_refused k.rest code given items k.row)

    udp_tested : (b : Bool) → is_of_family (ip_of a) o.inner.family ≡ b → Meets UdpBindRow (udp_asked ∷ []) (udp_bind_begun o (if b then Ok udp_its else Err InvalidArgument, o.inner))
    udp_tested true family = onto (udp_bind_ended udp_its (with_udp_progress o (udp_doing.Binding udp_its))) (widen (udp_ended family) (shifted (udp_asked ∷ []) (polled udp_its (tt, (tt, tt)))))
    udp_tested false e = ends (put_udp_back (λ (after : Machine). UdpBindFails m the_own place o a (udp_asked ∷ []) InvalidArgument after) m place o at (OtherFamily local free e))

  udp_by_bound : (es : List Entry) (b : Bool × UdpSocket) → UdpBoundRow the_own o.inner es b → Meets UdpBindRow es (udp_bind_begun o (udp_bind_start the_own b.1 a b.0, b.1))
  udp_by_bound _ _ (ItsUdpBound es is) = ends (UdpIsBound es is)
  udp_by_bound _ _ (ItsUdpFree local free) = udp_tested local free (is_of_family (ip_of a) o.inner.family) refl

  udp_begins : Meets UdpToldRow [] (udp_binds the_own a o)
  udp_begins = onto _ (chain {Mid = λ es start. Meets UdpBindRow es (udp_bind_begun o start)} (onto _ (widen udp_by_bound (udp_bounds the_own o.inner))) (λ es start k. k))

-- == the steps
module _ (contexts : List WasiSocketsCtx) (m : Machine) (line c handle : ℕ) (a : IpSocketAddress) where
  abbrev TcpSaid : Rows (Result (Answer (Unit {0})) P3Stop × Machine)
  TcpSaid = Replied contexts m line (step.Call c (guest.P3Tcp (p3_tcp_call.Bind handle a))) (p3_answer_reply no_values line)

  module _ (place : ℕ) (names : tcp3_at m handle ≡ Some place) where
    of_tcp : {P : ℕ → TcpRecord → Type 0} (r : TcpRecord) → tcp2_at m.store.records place ≡ Some r → P place r → OfTcp3 m handle P
    of_tcp r at h = record { place = place; found = r; names = names; at = at; holds = h }

    tcp_kept : (r : TcpRecord) (at : tcp2_at m.store.records place ≡ Some r) (es : List Entry) (answer : Answer (Unit {0})) (now : TcpRecord) → ToldRow m line place r at a es (Ok answer, now)
        → Meets (λ es done. TcpSaid es (told_as p3_of_code done.0, record m { store = done.1 })) es (keeps (first_ids line) (Bind place P3) answer (with_socket m.store place now))
    tcp_kept r at es Pending now h = ends (tt, ((refl, refl), of_tcp r at h))
    tcp_kept r at es (Ready done) now h = ends (tt, (tt, of_tcp r at h))

    tcp_binds : Meets (λ es done. TcpSaid es (told_as p3_of_code done.0, record m { store = done.1 })) [] (bind_of (first_ids line) place a m.store)
    tcp_binds =
        finds (λ r. goes_on (Call Code (λ store. r) (λ store now. with_socket store place now) (binds (own_of line) a)) (keeps (first_ids line) (Bind place P3))) (tcp2_at m.store.records place)
        (λ none. (tt, (ap (tcp_in m) names ∙ none, (refl, refl))))
        (λ r at. calls _ (begins m line place r at a) (λ es code now h. ends (tt, (p3_code code, of_tcp r at (record { code = code; is = refl; cause = h })))) (tcp_kept r at))

  pub p3_tcp_bind : Meets (Says contexts m line (step.Call c (guest.P3Tcp (p3_tcp_call.Bind handle a)))) [] (bind (p3.bind_to (first_ids line) handle a m) (λ done. Give (p3_answer_reply no_values line done.0, done.1)))
  p3_tcp_bind =
      onto _ (finds (λ place. last (in_base (bind_of (first_ids line) place a))) (tcp3_at m handle) (λ none. (tt, (ap (tcp_in m) none, (refl, refl))))
      (λ place names. calls _ (tcp_binds place names) (λ es why store row. ends row) (λ es answer store row. ends row)))

  -- == of a UDP socket
  abbrev UdpSaid : Rows (Result (Answer (Unit {0})) P3Stop × Machine)
  UdpSaid = Replied contexts m line (step.Call c (guest.P3Udp (p3_udp_call.Bind handle a))) (p3_answer_reply no_values line)

  module _ (place : ℕ) (names : udp3_at m handle ≡ Some place) where
    of_udp : {P : ℕ → OpenUdp → Type 0} (o : OpenUdp) → open_at m.store.records place ≡ Some o → P place o → OfUdp3 m handle P
    of_udp o at h = record { place = place; found = o; names = names; at = at; holds = h }

    udp_kept : (o : OpenUdp) (at : open_at m.store.records place ≡ Some o) (es : List Entry) (answer : Answer (Unit {0})) (now : OpenUdp) → UdpToldRow m line place o at a es (Ok answer, now)
        → Meets (λ es done. UdpSaid es (told_as p3_of_code done.0, record m { store = done.1 })) es (keeps (first_ids line) (UdpBind place P3) answer (with_open_udp m.store place now))
    udp_kept o at es Pending now h = ends (tt, ((refl, refl), of_udp o at h))
    udp_kept o at es (Ready done) now h = ends (tt, (tt, of_udp o at h))

    udp_binds_so : Meets (λ es done. UdpSaid es (told_as p3_of_code done.0, record m { store = done.1 })) [] (udp_bind_of (first_ids line) place a m.store)
    udp_binds_so =
        finds (λ o. goes_on (Call Code (λ store. o) (λ store now. with_open_udp store place now) (udp_binds (own_of line) a)) (keeps (first_ids line) (UdpBind place P3))) (open_at m.store.records place)
        (λ none. (tt, (ap (udp_in m) names ∙ none, (refl, refl))))
        (λ o at. calls _ (udp_begins m line place o at a) (λ es code now h. ends (tt, (p3_code code, of_udp o at (record { code = code; is = refl; cause = h })))) (udp_kept o at))

  pub p3_udp_bind : Meets (Says contexts m line (step.Call c (guest.P3Udp (p3_udp_call.Bind handle a)))) [] (bind (udp3.bind_to (first_ids line) handle a m) (λ done. Give (p3_answer_reply no_values line done.0, done.1)))
  p3_udp_bind =
      onto _ (finds (λ place. last (in_base (udp_bind_of (first_ids line) place a))) (udp3_at m handle) (λ none. (tt, (ap (udp_in m) none, (refl, refl))))
      (λ place names. calls _ (udp_binds_so place names) (λ es why store row. ends row) (λ es answer store row. ends row)))
