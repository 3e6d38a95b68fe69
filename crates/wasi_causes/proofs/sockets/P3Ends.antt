-- The ends of streams of 0.3, as they are made.
use Rattle.wasi_causes.proofs.Words.{◌≡◌, ◌∙◌, ◌∷◌, ◌+◌, ℕ, Bool, true, false, List, [], Option, Some, None, Result, Ok, Err, refl, ap, arith, subst, sym, length}
use Rattle.wasi_causes.proofs.Words.{Connection, Entry, ErrorCode, Full, Give, InvalidState, Machine, NoSuchHandle, OpId, Receive, Send, ShutdownType, TcpRecord, TcpState}
use Rattle.wasi_causes.proofs.Words.{Trap, WasiSocketsCtx, bind, entry, own_of, side_at, with_inner, with_state}
use Rattle.wasi_causes.proofs.tables.Meets.{Meets, Rows, chain, ends, onto}
use Rattle.wasi_causes.proofs.tables.Routes.{Replied, Says, finds, makes_room}
use Rattle.wasi_causes.specs.Outcomes.{FullAfter}
use Rattle.wasi_causes.specs.P3Streams.{HalfTaken, IsReceiving, IsSending, IsUnconnected, LacksRoomForEnd, MakesEnd, NoRoomForEnd, NoRoomForSlot, NotConnected, ReceivedBefore, SentBefore, WasClosed}
use Rattle.wasi_causes.specs.P3Streams.{end_kind, end_mark, end_name, new_end, result_mark, with_both_handles, with_end_handle, with_half}
use Rattle.wasi_causes.specs.Refusals.{OfTcp3}
use Rattle.wasi_addr.specs.Code.{p3_of_code}
use Rattle.wasi_addr.specs.declared.p3.ErrorCode.{ErrorCode as P3Code}
use Rattle.wasi_tcp.specs.Addresses.{still_connected}
use Rattle.wasi_tcp.specs.Connecting.{in_socket}
use Rattle.wasi_tcp.specs.Halves.{take_receive, take_send, taken_receive, taken_send}
use Rattle.wasi_tcp.specs.declared.halves.TcpReceiveStream.{TcpReceiveStream}
use Rattle.wasi_tcp.specs.declared.halves.TcpSendStream.{TcpSendStream}
use Rattle.host_store.specs.BaseStops.{renamed, trap_of}
use Rattle.host_store.specs.Block.{Does, Read, after_call, give, goes_on}
use Rattle.host_tcp.specs.ConnectionEnds.{take_end, take_end_in}
use Rattle.host_store.specs.Kinds.{name_of}
use Rattle.host_store.specs.Lines.{storing, tabling, tcp_in}
use Rattle.host_store.specs.Machine.{tcp3_at}
use Rattle.host_store.specs.declared.kind.ConnectionEnd.{ConnectionEnd}
use Rattle.host_store.specs.declared.kind.Kind.{Kind}
use Rattle.host_store.specs.declared.kind.Kind.TheVariants.{Receive3, Result3, Send3}
use Rattle.wasi_machine.specs.Machine.{p3_reply}
use Rattle.wasi_steps.specs.Reply.{pair_values}
use Rattle.wasi_p3.specs.Lines.{in_base}
use Rattle.wasi_p3.specs.Streams as streams3
use Rattle.wasi_p3.specs.Streams.{make_ends}
use Rattle.wasi_p3.specs.Stops.{P3Stop}
use Rattle.tcp_records.specs.Ends.{receive_taken, send_taken, take_receive_end, take_send_end}
use Rattle.wasi_records.specs.Records.{tcp2_at, tcp2_put}
use Rattle.tcp_records.specs.Slots.{StreamEnd, slot_for}
use Rattle.wasi_steps.specs.declared.guest_call.GuestCall.TheVariants as guest
use Rattle.wasi_steps.specs.declared.guest_call.P3TcpCall.TheVariants as p3_tcp_call
use Rattle.wasi_steps.specs.declared.step.Step.{Step}
use Rattle.wasi_steps.specs.declared.step.Step.TheVariants as step
use Rattle.wasi_tcp.specs.declared.socket.TcpState.TheVariants as state
use Rattle.wasi_walks.proofs.Places.{push_still, put_finds, slot_sort, tcp_sort}
use Rattle.wasi_world.specs.declared.call.Call.TheVariants as call
use Rattle.wasi_world.specs.declared.call.HandleKind.TheVariants as name
use Rattle.wasi_world.specs.declared.call.Told.TheVariants as told

-- == what comes of taking a half
-- what is left, where the state stays
stayed : (how : ShutdownType) (r : TcpRecord) (s : TcpState) (c : ErrorCode) → r.inner.state ≡ s → HalfTaken r how (Err c) r
    → HalfTaken r how (Err c) (with_inner r (with_state r.inner s))
stayed how r s c e k = subst (λ (x : TcpState). HalfTaken r how (Err c) (with_inner r (with_state r.inner x))) e k

unconnected : (how : ShutdownType) (r : TcpRecord) (s : TcpState) → r.inner.state ≡ s → IsUnconnected s → HalfTaken r how (Err InvalidState) (with_inner r (with_state r.inner s))
unconnected how r s e none = stayed how r s InvalidState e (NotConnected how (subst IsUnconnected (sym e) none))

pub receive_half_taken : (r : TcpRecord) → let done = take_receive_end r in HalfTaken r Receive done.0 done.1
receive_half_taken r = by_state r.inner.state refl
  where
    Taken : Result TcpReceiveStream ErrorCode × TcpState → Type 0
    Taken done = let left = receive_taken r (in_socket r.inner done) in HalfTaken r Receive left.0 left.1

    by_taken : (c : Connection) (b : Bool) → r.inner.state ≡ state.Connected c → c.receive_taken ≡ b → Taken (still_connected (taken_receive c b))
    by_taken c true e is = stayed Receive r (state.Connected c) InvalidState e (ReceivedBefore c e is)
    by_taken c false e is = IsReceiving c e is

    by_state : (s : TcpState) → r.inner.state ≡ s → Taken (take_receive s)
    by_state (state.Default side) e = unconnected Receive r (state.Default side) e tt
    by_state (state.Listening side) e = unconnected Receive r (state.Listening side) e tt
    by_state (state.Connecting op) e = unconnected Receive r (state.Connecting op) e tt
    by_state (state.Connected c) e = by_taken c c.receive_taken e refl
    by_state (state.Closed c) e = stayed Receive r (state.Closed c) c e (WasClosed Receive c e)

pub send_half_taken : (r : TcpRecord) → let done = take_send_end r in HalfTaken r Send done.0 done.1
send_half_taken r = by_state r.inner.state refl
  where
    Taken : Result TcpSendStream ErrorCode × TcpState → Type 0
    Taken done = let left = send_taken r (in_socket r.inner done) in HalfTaken r Send left.0 left.1

    by_taken : (c : Connection) (b : Bool) → r.inner.state ≡ state.Connected c → c.send_taken ≡ b → Taken (still_connected (taken_send c b))
    by_taken c true e is = stayed Send r (state.Connected c) InvalidState e (SentBefore c e is)
    by_taken c false e is = IsSending c e is

    by_state : (s : TcpState) → r.inner.state ≡ s → Taken (take_send s)
    by_state (state.Default side) e = unconnected Send r (state.Default side) e tt
    by_state (state.Listening side) e = unconnected Send r (state.Listening side) e tt
    by_state (state.Connecting op) e = unconnected Send r (state.Connecting op) e tt
    by_state (state.Connected c) e = by_taken c c.send_taken e refl
    by_state (state.Closed c) e = stayed Send r (state.Closed c) c e (WasClosed Send c e)

-- its network socket stays
its_side : {r : TcpRecord} {how : ShutdownType} {ended : StreamEnd} {now : TcpRecord} → HalfTaken r how ended now → now.side ≡ r.side
its_side (IsReceiving c e is) = refl
its_side (IsSending c e is) = refl
its_side (ReceivedBefore c e is) = refl
its_side (SentBefore c e is) = refl
its_side (NotConnected how none) = refl
its_side (WasClosed how c e) = refl

-- == an end of this half is made, by this step
module _ (contexts : List WasiSocketsCtx) (m : Machine) (line c handle : ℕ) (how : ShutdownType) (takes : TcpRecord → StreamEnd × TcpRecord) (kind : ConnectionEnd → Kind) (s : Step)
    (half : (r : TcpRecord) → HalfTaken r how (takes r).0 (takes r).1) (is_kind : (end : ConnectionEnd) → kind end ≡ end_kind how end) (is_name : (end : ConnectionEnd) → name_of (kind end) ≡ end_name how) where
  abbrev own : OpId
  own = own_of line

  abbrev Said : Rows (Result (ℕ × ℕ) P3Stop × Machine)
  Said = Replied contexts m line s (p3_reply pair_values)

  module _ (misses : tcp_in m (tcp3_at m handle) ≡ None → Said [] (Err (Trap NoSuchHandle), m))
      (lacks : (es : List Entry) (after : Machine) → FullAfter m es after → OfTcp3 m handle (λ place r. LacksRoomForEnd m own how handle place r es after) → Said es (Err (Trap Full), after))
      (makes : (es : List Entry) (a b : ℕ) (after : Machine) → OfTcp3 m handle (λ place r. MakesEnd m own how handle place r es (pair_values (a, b)) after) → Said es (Ok (a, b), after)) where
    module _ (place : ℕ) (names : tcp3_at m handle ≡ Some place) (r : TcpRecord) (at : tcp2_at m.store.records place ≡ Some r) where
      abbrev ended : StreamEnd
      ended = (takes r).0

      abbrev now : TcpRecord
      now = (takes r).1

      abbrev left : Machine
      left = with_half m place ended now

      abbrev slot : ℕ
      slot = length m.store.records

      of_its : {P : ℕ → TcpRecord → Type 0} → P place r → OfTcp3 m handle P
      of_its h = record { place = place; found = r; names = names; at = at; holds = h }

      side_is : side_at (tcp2_at left.store.records place) ≡ r.side
      side_is = ap side_at (push_still slot_sort tcp_sort (tcp2_put m.store.records place now) (slot_for ended) place now (put_finds tcp_sort m.store.records place r now at)) ∙ its_side (half r)

      marked : (side : Option OpId) → side ≡ r.side → name_of (end_kind how (new_end m place ended)) ≡ end_name how → Meets Said [] (make_ends own handle (end_kind how (new_end m place ended)) slot side left)
      marked side e named =
          chain {Mid = λ fs made. Meets Said fs (after_call trap_of tabling second left made)}
          (makes_room m.table own (end_kind how (new_end m place ended)) (Some handle) side
          (λ full. ends (lacks [] left (full, omega arith) (of_its (NoRoomForEnd ended now (half r) full))))
          (λ room. chain {Mid = λ fs made. Meets Said fs (after_call trap_of tabling (λ result. give (m.table.next, result)) one made)}
          (makes_room one.table own (Result3 slot) (Some handle) side
          (λ full. ends (subst (λ (fs : List Entry). Said fs (Err (Trap Full), one)) (sym first) (lacks (end_mark m own how handle r ∷ []) one (full, omega arith) (of_its (NoRoomForSlot ended now (half r) room full)))))
          (λ more. ends (subst (λ (fs : List Entry). Said fs (Ok (m.table.next, m.table.next + 1), with_both_handles m how handle place ended now)) (sym both) (makes _ _ _ _ (of_its (record { taken = ended; now = now; takes = half r; numbers = refl; asked = refl; left = refl }))))))
          (λ fs made k. k)))
          (λ fs made k. k)
        where
          one : Machine
          one = with_end_handle m how handle place ended now

          second : ℕ → Does P3Code Machine (ℕ × ℕ)
          second end = goes_on (streams3.makes own (Result3 slot) (Some handle) side) (λ result. give (end, result))

          first : entry own (call.Made m.table.next (name_of (end_kind how (new_end m place ended))) (Some handle) side) told.Done ∷ [] ≡ end_mark m own how handle r ∷ []
          first = rw named (rw e refl)

          both : entry own (call.Made m.table.next (name_of (end_kind how (new_end m place ended))) (Some handle) side) told.Done ∷ entry own (call.Made (m.table.next + 1) name.Result3 (Some handle) side) told.Done ∷ []
              ≡ end_mark m own how handle r ∷ result_mark m own handle r ∷ []
          both = rw named (rw e refl)

      named_so : Meets Said [] (make_ends own handle (kind (new_end m place ended)) slot (side_at (tcp2_at left.store.records place)) left)
      named_so =
          let same = is_kind (new_end m place ended) in
          subst (λ (k : Kind). Meets Said [] (make_ends own handle k slot (side_at (tcp2_at left.store.records place)) left)) (sym same)
          (marked (side_at (tcp2_at left.store.records place)) side_is (ap name_of (sym same) ∙ is_name (new_end m place ended)))

    abbrev after_take : ℕ → ConnectionEnd → Does P3Code Machine (ℕ × ℕ)
    after_take place end = goes_on (Read (λ m. side_at (tcp2_at m.store.records place))) (λ side. make_ends own handle (kind end) end.slot side)

    by_record : (place : ℕ) → tcp3_at m handle ≡ Some place → (o : Option TcpRecord) → tcp2_at m.store.records place ≡ o → Meets Said [] (after_call (renamed p3_of_code) storing (after_take place) m (take_end_in takes place m.store o))
    by_record place names None at = ends (misses (ap (tcp_in m) names ∙ at))
    by_record place names (Some r) at = named_so place names r at

    by_place : (place : ℕ) → tcp3_at m handle ≡ Some place → Meets Said [] (goes_on (in_base (λ store. Give (take_end takes place store))) (after_take place) m)
    unfolding bind
    by_place place names = by_record place names (tcp2_at m.store.records place) refl

    pub takes_end : Meets Said [] (streams3.take_by takes kind own handle m)
    takes_end = finds (λ place. goes_on (in_base (λ store. Give (take_end takes place store))) (after_take place)) (tcp3_at m handle) (λ none. misses (ap (tcp_in m) none)) by_place

module _ (contexts : List WasiSocketsCtx) (m : Machine) (line c handle : ℕ) where
  pub p3_receive : Meets (Says contexts m line (step.Call c (guest.P3Tcp (p3_tcp_call.Receive handle)))) [] (bind (streams3.receive (own_of line) handle m) (λ done. Give (p3_reply pair_values done.0, done.1)))
  p3_receive =
      onto _ (takes_end contexts m line c handle Receive take_receive_end Receive3 (step.Call c (guest.P3Tcp (p3_tcp_call.Receive handle))) receive_half_taken (λ end. refl) (λ end. refl)
      (λ none. (tt, (none, (refl, refl)))) (λ es after full h. (tt, (tt, full, h))) (λ es a b after h. (tt, ((tt, (tt, tt)), h))))

  pub p3_send : Meets (Says contexts m line (step.Call c (guest.P3Tcp (p3_tcp_call.Send handle)))) [] (bind (streams3.send (own_of line) handle m) (λ done. Give (p3_reply pair_values done.0, done.1)))
  p3_send =
      onto _ (takes_end contexts m line c handle Send take_send_end Send3 (step.Call c (guest.P3Tcp (p3_tcp_call.Send handle))) send_half_taken (λ end. refl) (λ end. refl)
      (λ none. (tt, (none, (refl, refl)))) (λ es after full h. (tt, (tt, full, h))) (λ es a b after h. (tt, ((tt, (tt, tt)), h))))
