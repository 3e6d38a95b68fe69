-- What a receive of datagrams asks, and that each datagram that it hands out came.
use Rattle.std.specs.Prelude.{◌≤◌, ◌-◌, min, suc, zero}
use Rattle.std.proofs.Common.{length-append}
use Rattle.std.proofs.Math.Nat.{min-le_left, min-le_right}
use Rattle.wasi_causes.proofs.Words.{Allows, Answer, Asks, Bool, Call, Done, End, Entry, Err, ErrorCode, Fits, Give, Has, IpSocketAddress, IsVerdict, Item, List, Machine, None, Nothing, NothingLast, Ok, OpId, Operation, Option, Pending, Ready, Records}
use Rattle.wasi_causes.proofs.Words.{Refused, Reply, Result, Some, Standing, Stop, Told, Waits, WasiSocketsCtx, Who, [], after, allows_keep, allows_then, ap, arith, asks_while, bind, entry, false, first_ids, if◌then◌else◌, inl, inr, length, machine_asks, poll_asks, polls, refl, round, subst, sym, told_datagram, told_verdict, true, ℕ, ⊤, ◌++◌, ◌+◌, ◌∙◌, ◌∷◌, ◌≡◌, ◌⊎◌}
use Rattle.wasi_causes.proofs.Words.{receive_front}
use Rattle.wasi_world.specs.Fits.{IsDatagram}
use Rattle.wasi_world.specs.Operation.{Again, Datagram, Goes, Receive, is_wanted, received_front}
use Rattle.wasi_world.specs.declared.call.Call.TheVariants as call
use Rattle.wasi_world.specs.declared.call.Told.TheVariants as told
use Rattle.wasi_world.specs.declared.datagram.IncomingDatagram.{IncomingDatagram}
use Rattle.wasi_world.specs.declared.ids.Ids.{Ids}
use Rattle.wasi_world.proofs.Allowed.{allows_at, allows_weaker, reached}
use Rattle.wasi_udp.specs.Receive.{receive_asks, receive_start, wanting}
use Rattle.wasi_udp.specs.Shape.{Socket}
use Rattle.host_udp.specs.DatagramCalls.{begins_receive, receive_datagrams_at, with_receive}
use Rattle.record_common.specs.Stops.{code_stop}
use Rattle.host_store.specs.Machine.{incoming_at}
use Rattle.record_common.specs.Names.{next_name}
use Rattle.udp_records.specs.Receiving.{all_received, fetch_asks, fetch_names, poll_receive_asks, receive_after, receive_all, receive_datagrams_asks, receive_left, receive_next_asks, received_told, taken}
use Rattle.wasi_records.specs.Records.{open_at}
use Rattle.udp_records.specs.declared.datagrams.Incoming.{Incoming}
use Rattle.udp_records.specs.declared.datagrams.Receiving.{Receiving}
use Rattle.wasi_records.specs.declared.records.Record.{Record}
use Rattle.udp_records.specs.declared.udp.OpenUdp.{OpenUdp}
use Rattle.wasi_p2.specs.Udp.{receive_datagrams_on}
use Rattle.wasi_machine.specs.Machine.{reply_of}
use Rattle.wasi_steps.specs.Reply.{datagram_values}
use Rattle.wasi_steps.specs.declared.reply.Reply.TheVariants as reply
use Rattle.wasi_steps.specs.declared.guest_call.GuestCall.TheVariants as guest
use Rattle.wasi_steps.specs.declared.guest_call.UdpCall.TheVariants as udp_call
use Rattle.wasi_steps.specs.declared.step.Step.TheVariants as step
use Rattle.wasi_walks.proofs.Gives.{allows_ask}
use Rattle.wasi_walks.proofs.Lists.{has_front, has_last}
use Rattle.wasi_walks.specs.Answered.{Answered}
use Rattle.wasi_causes.proofs.udp_streams.Bounds.{FoundBound, FoundFree, FoundSo, IsStill, bound_more, finds, known, still_more}
use Rattle.wasi_causes.specs.DatagramAsks.{AreHandedOut, AsksForDatagram, AsksToReceive, Came, CameInTurn, ChecksSender, HandsOutHeld, HandsOutNew, HandsOutNone, HandsOutWhatCame, IsBoundBy, IsOfReceive, ReceiveAsksIfBound, part_of, sender_check}
use Rattle.wasi_causes.specs.Datagrams.{OfIncoming}
use Rattle.wasi_causes.specs.ShortLists.{AllThatWereWanted, Dropped64, HandsOutNoMore, GivesNone, HandsOutUpTo, LastToldPending, NoRoomForMore, OneFailed, OneIsPending, ReceiveBreaks, ReceiveToldCode, ReceiveWaits, ReceivesNow, SocketIsUnbound, StillReceives, WasReceiving, drops_of, dropped_by, room_for}
use Rattle.wasi_causes.specs.Turns.{receive_of, receives_by}
use Rattle.wasi_causes.proofs.receiving.Along.{same_self}
use Rattle.wasi_causes.proofs.udp_streams.Routes.{job_there}
use Rattle.wasi_jobs.specs.declared.job.HostJob.TheVariants.{Receive as ReceiveJob}
use Rattle.wasi_world.specs.Sides.{is_same}

-- how many an operation dropped, with one entry more
dropped_sum : (own : OpId) (only : Option IpSocketAddress) (es : List Entry) (e : Entry) → dropped_by own only (es ++ e ∷ []) ≡ dropped_by own only es + (if is_same own e.op then drops_of only e.call e.answer else 0)
dropped_sum own only [] e = omega arith
dropped_sum own only (x ∷ es) e = let more = dropped_sum own only es e in omega (arith, more)

-- the room for one more
room_sum : (ds : List IncomingDatagram) (d : IncomingDatagram) → room_for (ds ++ d ∷ []) ≡ room_for ds + (length d.bytes + 1)
room_sum [] d = omega arith
room_sum (x ∷ ds) d = let more = room_sum ds d in omega (arith, more)

module _ (line : ℕ) (socket : Socket) (most : ℕ) where
  -- each ask is of a receive of the line
  abbrev May : List Entry → OpId → Call → Type 0
  May es op call = IsOfReceive line socket most es op call

  turn_more : (es fs : List Entry) (part : ℕ) (ds : List IncomingDatagram) → CameInTurn line socket es part ds → CameInTurn line socket (es ++ fs) part ds
  turn_more es fs part [] k = tt
  turn_more es fs part (d ∷ ds) k = (record { came = has_front es fs _ k.0.came; allowed = has_front es fs _ k.0.allowed }, turn_more es fs (part + 1) ds k.1)

  turn_last : (es : List Entry) (part last : ℕ) (ds : List IncomingDatagram) (x : IncomingDatagram) → CameInTurn line socket es part ds → last ≡ length ds + part → Came (part_of line last) socket es x → CameInTurn line socket es part (ds ++ x ∷ [])
  turn_last es part last [] x k e now = (subst (λ n. Came (part_of line n) socket es x) (let same : last ≡ part = omega (arith, e) in same) now, tt)
  turn_last es part last (d ∷ ds) x k e now = (k.0, turn_last es (part + 1) last ds x k.1 (omega (arith, e)) now)

  -- there are so many more names for receives
  abbrev HasNames : ℕ → ℕ → Type 0
  HasNames n part = (1 ≤ part) × (part + n ≤ min most 16 + 1)

  -- == one receive
  module _ (part : ℕ) (names : HasNames 1 part) where
    abbrev own : OpId
    own = part_of line part

    may : (es : List Entry) (c : Call) → AsksToReceive own socket es c → May es own c
    may es c asks = record {
      part = part;
      some = names.0;
      wanted = let le = min-le_left most 16 in let all = names.1 in omega (arith, le, all);
      within = let le = min-le_right most 16 in let all = names.1 in omega (arith, le, all);
      by = refl;
      asks = asks;
    }

    -- who receives
    abbrev who : Who
    who = record { id = own; side = socket.side; context = socket.maker; last = NothingLast; remote = None }

    module _ (only : Option IpSocketAddress) where
      -- it gives a datagram that came, or waits, or failed
      abbrev EndRow : List Entry → End × List Item → Type 0
      EndRow es (Done (Datagram bytes a), items) = Came own socket es (record { bytes = bytes; remote_address = a })
      EndRow es (Waits, items) = ReceiveWaits own only es
      EndRow es (Refused c given, items) = ReceiveBreaks own socket es
      EndRow es _ = ⊥

      -- so many were dropped, and one more entry drops so many more
      dropped_more : (k : ℕ) (es : List Entry) (e : Entry) → k ≤ dropped_by own only es → k ≤ dropped_by own only (es ++ e ∷ [])
      dropped_more k es e le = let sum = dropped_sum own only es e in omega (arith, le, sum)

      dropped_one : (k : ℕ) (es : List Entry) (e : Entry) → is_same own e.op ≡ true → drops_of only e.call e.answer ≡ 1 → k ≤ dropped_by own only es → suc k ≤ dropped_by own only (es ++ e ∷ [])
      dropped_one k es e same one le = let sum = dropped_sum own only es e in let by = ap (λ (b : Bool). if b then drops_of only e.call e.answer else 0) same ∙ one in omega (arith, le, sum, by)

      module _ (k : ℕ) (again : List Item → Asks (End × List Item)) (next : (es : List Entry) → IsBoundBy socket es → suc k ≤ dropped_by own only es → Allows May EndRow es (again (Receive only ∷ []))) where
        -- the check of its sender was answered
        by_check : (es : List Entry) → IsBoundBy socket es → k ≤ dropped_by own only es → (bytes : List ℕ) (a : IpSocketAddress) → Has es (entry own (call.Recv socket.side) (told.Datagram bytes a)) → (t : Told) → IsVerdict t
            → Allows May EndRow (es ++ entry own (sender_check socket a) t ∷ []) (after again who [] (λ g. round again who g []) (received_front only bytes a (told_verdict t)))
        by_check es is le bytes a came told.Yes fits = by_sender (is_wanted only a) refl
          where
            by_sender : (b : Bool) → is_wanted only a ≡ b → Allows May EndRow (es ++ entry own (sender_check socket a) told.Yes ∷ []) (after again who [] (λ g. round again who g []) (if b then Goes (Datagram bytes a) else Again (Receive only)))
            by_sender true e = record { came = has_front es _ _ came; allowed = has_last es _ }
            by_sender false e = next _ (bound_more socket es _ is) (dropped_one k es _ (same_self own) (ap (λ (b : Bool). if b then 0 else 1) e) le)
        by_check es is le bytes a came told.No fits = next _ (bound_more socket es _ is) (dropped_one k es _ (same_self own) refl le)
        by_check es is le bytes a came told.Pending fits = LastToldPending (record { front = es; last = _; cut = refl; op = refl; told = refl })
        by_check es is le bytes a came _ fits = absurd fits

        -- a datagram was asked for
        by_told : (es : List Entry) → IsBoundBy socket es → k ≤ dropped_by own only es → (t : Told) → IsDatagram t → Allows May EndRow (es ++ entry own (call.Recv socket.side) t ∷ []) (bind (receive_front who only (told_datagram t)) (after again who [] (λ g. round again who g [])))
        unfolding bind
        by_told es is le told.Pending fits = LastToldPending (record { front = es; last = _; cut = refl; op = refl; told = refl })
        by_told es is le (told.Datagram bytes a) fits = (may _ _ (ChecksSender bytes a (record { front = es; cut = refl })), λ t more. by_check _ (bound_more socket es _ is) (dropped_more k es _ le) bytes a (has_last es _) t more)
        by_told es is le (told.Code c) fits = ReceiveToldCode c (record { front = es; cut = refl })
        by_told es is le _ fits = absurd fits

        one_round : (es : List Entry) → IsBoundBy socket es → k ≤ dropped_by own only es → Allows May EndRow es (round again who Nothing (Receive only ∷ []))
        unfolding bind
        one_round es is le = (may es _ (AsksForDatagram is), λ t fits. by_told es is le t fits)

      -- with so many dropped, of 64
      rounds : (n k : ℕ) → n + k ≡ 64 → (es : List Entry) → IsBoundBy socket es → k ≤ dropped_by own only es → Allows May EndRow es (polls n who (Receive only ∷ []))
      unfolding polls
      rounds zero k e es is le = Dropped64 (omega (arith, e, le))
      rounds (suc n) k e es is le = one_round k (polls n who) (rounds n (suc k) (omega (arith, e))) es is le

      -- what is in hand came, or the receive waits, or failed
      abbrev HeldSo : List Entry → Receiving → Type 0
      HeldSo es (Receiving.Came d) = Came own socket es d
      HeldSo es (Receiving.InProgress op) = (op.who.id ≡ own) × ReceiveWaits own only es
      HeldSo es (Receiving.Failed c) = ReceiveBreaks own socket es
      HeldSo es Receiving.Nothing = ⊥

      abbrev OneRow : List Entry → Socket × Incoming → Type 0
      OneRow es s = IsStill socket es s.0 × (HeldSo es s.1.receiving × (s.1.remote ≡ only))

      ended : (es : List Entry) (op : Operation) (end : End × List Item) → op.who.id ≡ own → EndRow es end → HeldSo es (receive_left op end)
      ended es op (Waits, items) by k = (by, k)
      ended es op (Done (Datagram bytes a), items) by k = k
      ended es op (Done _, items) by k = absurd k
      ended es op (Refused c given, items) by k = k

      push : (now : Socket) (es : List Entry) (op : OpId) (call : Call) (t : Told) → Fits call t → IsStill socket es now → May es op call → IsStill socket (es ++ entry op call t ∷ []) now
      push now es op call t fits still m = still_more socket es _ now still

      -- its poll, with the socket that was found
      polled : (es : List Entry) (now : Socket) (inc : Incoming) (op : Operation) → inc.remote ≡ only → op.who.id ≡ own → IsStill socket es now → Allows May EndRow es (poll_asks (wanting only op)) → Allows May OneRow es (poll_receive_asks now inc op)
      polled es now inc op kept by still k =
          allows_then May (λ fs end. IsStill socket fs now × EndRow fs end) OneRow es _ _
          (allows_keep May May (λ fs. IsStill socket fs now) EndRow (push now) (λ fs o c m. m) es _ still (subst (λ (a : Option IpSocketAddress). Allows May EndRow es (poll_asks (wanting a op))) (sym kept) k))
          (λ fs end k. (k.0, (ended fs op end by k.1, kept)))

      found : (es : List Entry) (inc : Incoming) (b : Bool × Socket) → inc.remote ≡ only → FoundSo socket own es b → Allows May OneRow es (poll_receive_asks b.1 inc (receive_start own b.1 b.0))
      unfolding polls bind
      found es inc _ kept (FoundBound is) = polled es (known socket) inc (receive_start own (known socket) true) kept refl (inr (refl, is)) (rounds 64 0 refl es is (omega arith))
      found es inc _ kept (FoundFree local free said) = polled es socket inc (receive_start own socket false) kept refl (inl refl) (SocketIsUnbound local free said)

      -- it begins, and is polled
      one_asks : (es : List Entry) (s : Socket × Incoming) → s.1.remote ≡ only → IsStill socket es s.0 → Allows May OneRow es (fetch_asks own Receiving.Nothing s)
      one_asks es s kept still =
          allows_then May (λ fs begun. Allows May OneRow fs (poll_receive_asks begun.1 s.1 begun.0)) OneRow es (receive_asks own s.0) _
          (allows_then May (FoundSo socket own) (λ fs begun. Allows May OneRow fs (poll_receive_asks begun.1 s.1 begun.0)) es _ _
          (finds socket May own (λ fs unknown. may fs _ (ReceiveAsksIfBound unknown)) es s.0 still) (λ fs b k. found fs s.1 b kept k))
          (λ fs begun k. k)

  -- == datagrams in turn
  module _ (first : Receiving) (only : Option IpSocketAddress) where
    -- so many came in turn, and the next receive has this part
    data Turn (es : List Entry) (part : ℕ) : List IncomingDatagram → Type 0 where
      NoneYet : part ≡ 1 → Turn es part []
      NoneBefore : (ds : List IncomingDatagram) → first ≡ Receiving.Nothing → CameInTurn line socket es 1 ds → part ≡ length ds + 1 → Turn es part ds
      OneBefore : (d : IncomingDatagram) (ds : List IncomingDatagram) → first ≡ Receiving.Came d → CameInTurn line socket es 1 ds → part ≡ length ds + 1 → Turn es part (d ∷ ds)

    goes_on : (es fs : List Entry) (part : ℕ) (ds : List IncomingDatagram) → Turn es part ds → Turn (es ++ fs) part ds
    goes_on es fs part _ (NoneYet e) = NoneYet e
    goes_on es fs part _ (NoneBefore ds is k e) = NoneBefore ds is (turn_more es fs 1 ds k) e
    goes_on es fs part _ (OneBefore d ds is k e) = OneBefore d ds is (turn_more es fs 1 ds k) e

    -- they may be handed out
    abbrev Out : List Entry → List IncomingDatagram → Type 0
    Out es ds = AreHandedOut line socket first es ds

    out : (es : List Entry) (part : ℕ) (ds : List IncomingDatagram) → Turn es part ds → Out es ds
    out es part _ (NoneYet e) = HandsOutNone
    out es part _ (NoneBefore ds is k e) = HandsOutNew ds is k
    out es part _ (OneBefore d ds is k e) = HandsOutHeld d ds is k

    -- no more are handed out
    abbrev NoMore : Option OpId → List Entry → List IncomingDatagram → Type 0
    NoMore now es ds = HandsOutNoMore line socket most only first now es ds

    -- what is in hand is from before, or was taken
    abbrev InHand : List Entry → List IncomingDatagram → Receiving → Type 0
    InHand es ds r = ((ds ≡ []) × ((first ≡ r) × (es ≡ []))) ⊎ ((ds ≡ [] → ⊥) × (r ≡ Receiving.Nothing))

    not_none : (ds : List IncomingDatagram) (x : IncomingDatagram) → ds ++ x ∷ [] ≡ [] → ⊥
    not_none [] x e = absurd (cc)
    not_none (d ∷ ds) x e = absurd (cc)

    -- one more came
    adds : (before es : List Entry) (part : ℕ) (ds : List IncomingDatagram) (x : IncomingDatagram) → Turn es part ds → InHand before ds Receiving.Nothing → Came (part_of line part) socket es x → Turn es (part + 1) (ds ++ x ∷ [])
    adds before es part _ x (NoneYet e) (inl k) now = NoneBefore (x ∷ []) k.1.0 (subst (λ n. Came (part_of line n) socket es x) e now, tt) (omega (arith, e))
    adds before es part _ x (NoneYet e) (inr k) now = absurd (k.0 refl)
    adds before es part _ x (NoneBefore ds is k e) hand now = NoneBefore (ds ++ x ∷ []) is (turn_last es 1 part ds x k e now) (let more = length-append ds (x ∷ []) in omega (arith, e, more))
    adds before es part _ x (OneBefore d ds is k e) hand now = OneBefore d (ds ++ x ∷ []) is (turn_last es 1 part ds x k e now) (let more = length-append ds (x ∷ []) in omega (arith, e, more))

    -- the one from before is the first
    takes_first : (es : List Entry) (part : ℕ) (ds : List IncomingDatagram) (x : IncomingDatagram) → Turn es part ds → InHand es ds (Receiving.Came x) → Turn es part (ds ++ x ∷ [])
    takes_first es part _ x (NoneYet e) (inl k) = OneBefore x [] k.1.0 tt (omega (arith, e))
    takes_first es part _ x (NoneBefore ds is k e) (inl hand) = absurd (let same : Receiving.Nothing ≡ Receiving.Came x = sym is ∙ hand.1.0 in cc)
    takes_first es part _ x (OneBefore d ds is k e) (inl hand) = absurd (let none = hand.0 in cc)
    takes_first es part ds x turn (inr hand) = absurd (let none = hand.1 in cc)

    -- so far these came, and the socket is as it was or was found bound
    abbrev SoFar : ℕ → List IncomingDatagram → List Entry → Socket × Incoming → Type 0
    SoFar part ds es s = Turn es part ds × (IsStill socket es s.0 × (InHand es ds s.1.receiving × (s.1.remote ≡ only)))

    abbrev part_after : Receiving → ℕ → ℕ
    part_after Receiving.Nothing part = part + 1
    part_after _ part = part

    -- what was fetched is the next, or none comes
    abbrev Fetched : ℕ → List IncomingDatagram → List Entry → Receiving → Type 0
    Fetched part ds es (Receiving.Came d) = Turn es part (ds ++ d ∷ [])
    Fetched part ds es (Receiving.InProgress op) = Out es ds × NoMore (Some op.who.id) es ds
    Fetched part ds es (Receiving.Failed c) = Out es ds × (1 ≤ length ds → NoMore None es ds)
    Fetched part ds es Receiving.Nothing = ⊥

    abbrev FetchRow : ℕ → List IncomingDatagram → List Entry → Socket × Incoming → Type 0
    FetchRow part ds es t = IsStill socket es t.0 × (Fetched part ds es t.1.receiving × (t.1.remote ≡ only))

    held_so : (part : ℕ) (names : HasNames 1 part) (ds : List IncomingDatagram) (before es : List Entry) (r : Receiving) → Turn es part ds → InHand before ds Receiving.Nothing → HeldSo part names only es r → Fetched (part + 1) ds es r
    held_so part names ds before es (Receiving.Came d) turn hand k = adds before es part ds d turn hand k
    held_so part names ds before es Receiving.Nothing turn hand k = absurd k
    held_so part names ds before es (Receiving.InProgress op) turn hand k = (out es part ds turn, OneIsPending part names.0 (ap Some k.0) k.1)
    held_so part names ds before es (Receiving.Failed c) turn hand k = (out es part ds turn, λ some. OneFailed part some k)

    -- one that is in progress was so before
    was_receiving : (ds : List IncomingDatagram) (es : List Entry) (op : Operation) → InHand es ds (Receiving.InProgress op) → NoMore (Some op.who.id) es ds
    was_receiving ds es op (inl k) = WasReceiving op k.1.0 refl k.0 k.1.1
    was_receiving ds es op (inr k) = absurd (let none = k.1 in cc)

    had_failed : (ds : List IncomingDatagram) (es : List Entry) (c : ErrorCode) → InHand es ds (Receiving.Failed c) → 1 ≤ length ds → NoMore None es ds
    had_failed ds es c (inl k) some = absurd (let none = ap (λ (l : List IncomingDatagram). length l) k.0 in omega (arith, none, some))
    had_failed ds es c (inr k) some = absurd (let none = k.1 in cc)

    -- a receive begins where none is in progress and none has ended
    fetches : (ds : List IncomingDatagram) (part : ℕ) → HasNames 1 part → (es : List Entry) (s : Socket × Incoming) → s.1.remote ≡ only → (r : Receiving) → s.1.receiving ≡ r → Turn es part ds → IsStill socket es s.0 → InHand es ds r → Allows May (FetchRow (part_after r part) ds) es (fetch_asks (part_of line part) r s)
    fetches ds part names es s kept Receiving.Nothing is turn still hand =
        allows_weaker May (λ fs t. Turn fs part ds × OneRow part names only fs t) (FetchRow (part + 1) ds) (λ fs t h. (h.1.0, (held_so part names ds es fs t.1.receiving h.0 hand h.1.1.0, h.1.1.1))) es _
        (allows_keep May May (λ fs. Turn fs part ds) (OneRow part names only) (λ fs op call t fits all m. goes_on fs _ part ds all) (λ fs o c m. m) es _ turn (one_asks part names only es s kept still))
    fetches ds part names es s kept (Receiving.Came d) is turn still hand = (still, (rw is (takes_first es part ds d turn hand), kept))
    fetches ds part names es s kept (Receiving.InProgress op) is turn still hand = (still, (rw is (out es part ds turn, was_receiving ds es op hand), kept))
    fetches ds part names es s kept (Receiving.Failed c) is turn still hand = (still, (rw is (out es part ds turn, had_failed ds es c hand), kept))

    -- what has come is taken
    abbrev TakenSo : ℕ → List IncomingDatagram → List Entry → Result (Answer IncomingDatagram) ErrorCode → Receiving → Type 0
    TakenSo part ds es (Ok (Ready d)) now = Turn es part (ds ++ d ∷ []) × (now ≡ Receiving.Nothing)
    TakenSo part ds es (Ok Pending) now = Out es ds × NoMore (receives_by now) es ds
    TakenSo part ds es (Err c) now = Out es ds × (1 ≤ length ds → NoMore (receives_by now) es ds)

    takes : (part : ℕ) (ds : List IncomingDatagram) (es : List Entry) (r : Receiving) → Fetched part ds es r → TakenSo part ds es (taken r).0 (taken r).1
    takes part ds es Receiving.Nothing k = absurd k
    takes part ds es (Receiving.InProgress op) k = k
    takes part ds es (Receiving.Came d) k = (k, refl)
    takes part ds es (Receiving.Failed c) k = k

    abbrev NextRow : ℕ → List IncomingDatagram → List Entry → Result (Answer IncomingDatagram) ErrorCode × (Socket × Incoming) → Type 0
    NextRow part ds es done = TakenSo part ds es done.0 done.1.1.receiving × (IsStill socket es done.1.0 × (done.1.1.remote ≡ only))

    nexts : (ds : List IncomingDatagram) (part : ℕ) → HasNames 1 part → (es : List Entry) (s : Socket × Incoming) → SoFar part ds es s → Allows May (NextRow (part_after s.1.receiving part) ds) es (receive_next_asks (part_of line part) s)
    nexts ds part names es s k =
        let next = part_after s.1.receiving part in
        allows_then May (FetchRow next ds) (NextRow next ds) es (fetch_asks (part_of line part) s.1.receiving s) _ (fetches ds part names es s k.1.1.1 s.1.receiving refl k.0 k.1.0 k.1.1.0)
        (λ fs t h. (takes next ds fs t.1.receiving h.1.0, (h.0, h.1.1)))

    -- these are handed out
    abbrev HandRow : List Entry → Result (List IncomingDatagram) ErrorCode × (Socket × Incoming) → Type 0
    HandRow es (Ok ds, s) = Out es ds × NoMore (receives_by s.1.receiving) es ds
    HandRow es (Err c, s) = ⊤

    told_came : (ds : List IncomingDatagram) (c : ErrorCode) (es : List Entry) (s : Socket × Incoming) → Out es ds → (1 ≤ length ds → NoMore (receives_by s.1.receiving) es ds) → HandRow es (received_told ds c, s)
    told_came [] c es s k why = tt
    told_came (d ∷ ds) c es s k why = (k, why (omega arith))

    follows : (es : List Entry) (part : ℕ) (ds : List IncomingDatagram) (more : IncomingDatagram → Socket × Incoming → Asks (Result (List IncomingDatagram) ErrorCode × (Socket × Incoming)))
        → ((d : IncomingDatagram) (s : Socket × Incoming) → SoFar part (ds ++ d ∷ []) es s → Allows May HandRow es (more d s))
        → (done : Result (Answer IncomingDatagram) ErrorCode × (Socket × Incoming)) → NextRow part ds es done → Allows May HandRow es (receive_after ds more done)
    follows es part ds more again (Ok (Ready d), s) k = again d s (k.0.0, (k.1.0, (inr (not_none ds d, k.0.1), k.1.1)))
    follows es part ds more again (Ok Pending, s) k = k.0
    follows es part ds more again (Err c, s) k = told_came ds c es s k.0.0 k.0.1

    -- the names after one more
    abbrev ids_at : ℕ → Ids
    ids_at part = record { line = line; next_part = part }

    names_are : (r : Receiving) (part : ℕ) → fetch_names r (ids_at part) ≡ ids_at (part_after r part)
    names_are Receiving.Nothing part = refl
    names_are (Receiving.InProgress op) part = refl
    names_are (Receiving.Came d) part = refl
    names_are (Receiving.Failed c) part = refl

    fewer : (r : Receiving) (n part : ℕ) → HasNames (suc n) part → HasNames n (part_after r part)
    fewer Receiving.Nothing n part k = (omega arith, let all = k.1 in omega (arith, all))
    fewer (Receiving.InProgress op) n part k = (k.0, let all = k.1 in omega (arith, all))
    fewer (Receiving.Came d) n part k = (k.0, let all = k.1 in omega (arith, all))
    fewer (Receiving.Failed c) n part k = (k.0, let all = k.1 in omega (arith, all))

    one_name : (n part : ℕ) → HasNames (suc n) part → HasNames 1 part
    one_name n part k = (k.0, let all = k.1 in omega (arith, all))

    -- with so many to be received, and so much room
    abbrev Left : ℕ → ℕ → List IncomingDatagram → Type 0
    Left n room ds = (length ds + n ≡ min most 16) × (65536 ≤ room + room_for ds)

    left_after : (n room : ℕ) (ds : List IncomingDatagram) (d : IncomingDatagram) → Left (suc n) (suc room) ds → Left n (room - length d.bytes) (ds ++ d ∷ [])
    left_after n room ds d k = (let e = k.0 in let more = length-append ds (d ∷ []) in omega (arith, e, more), let le = k.1 in let more = room_sum ds d in omega (arith, le, more))

    list_asks : (n room part : ℕ) → HasNames n part → (ds : List IncomingDatagram) → Left n room ds → (s : Socket × Incoming) (es : List Entry) → SoFar part ds es s → Allows May HandRow es (receive_all n room (ids_at part) ds s)
    list_asks zero room part names ds left s es k = (out es part ds k.0, AllThatWereWanted (let e = left.0 in omega (arith, e)))
    list_asks (suc n) zero part names ds left s es k = (out es part ds k.0, NoRoomForMore (let le = left.1 in omega (arith, le)))
    list_asks (suc n) (suc room) part names ds left s es k =
        allows_then May (NextRow (part_after s.1.receiving part) ds) HandRow es (receive_next_asks (next_name (ids_at part)) s) _ (nexts ds part (one_name n part names) es s k)
        (λ fs done h. follows fs (part_after s.1.receiving part) ds _ (λ d t m. subst (λ (ids : Ids). Allows May HandRow fs (receive_all n (room - length d.bytes) ids (ds ++ d ∷ []) t)) (sym (names_are s.1.receiving part)) (list_asks n (room - length d.bytes) (part_after s.1.receiving part) (fewer s.1.receiving n part names) (ds ++ d ∷ []) (left_after n room ds d left) t fs m)) done h)

  all_asks : (inc : Incoming) → Allows May (HandRow inc.receiving inc.remote) [] (receive_all (min most 16) 65536 (first_ids line) [] (socket, inc))
  all_asks inc = list_asks inc.receiving inc.remote (min most 16) 65536 1 (omega arith, omega arith) [] (omega arith, omega arith) (socket, inc) [] (NoneYet refl, (inl refl, (inl (refl, (refl, refl)), refl)))

-- what follows of the stream of a handle
pub of_incoming : {m : Machine} {number : Option ℕ} (P Q : ℕ → OpenUdp → Incoming → Type 0) → ((place : ℕ) (o : OpenUdp) (inc : Incoming) → P place o inc → Q place o inc) → OfIncoming m number P → OfIncoming m number Q
of_incoming P Q more k = record { place = k.place; found = k.found; stream = k.stream; names = k.names; at = k.at; has = k.has; holds = more k.place k.found k.stream k.holds }

-- none is handed out
pub none_handed : (m : Machine) (line handle most : ℕ) (es : List Entry) (records : List Record) → OfIncoming m (incoming_at m handle) (λ place o inc. HandsOutWhatCame line o.inner inc (datagram_values []) es × HandsOutUpTo line o.inner most inc (receive_of (open_at records place)) (datagram_values []) es)
    → (most ≡ 0) ⊎ OfIncoming m (incoming_at m handle) (λ place o inc. GivesNone line inc (receive_of (open_at records place)) es)
none_handed m line handle most es records k = by_end (k.holds.1.datagrams) (cc) k.holds.1.ends
  where
    by_end : (ds : List IncomingDatagram) → 0 ≡ length ds → HandsOutNoMore line k.found.inner most k.stream.remote k.stream.receiving (receive_of (open_at records k.place)) es ds → (most ≡ 0) ⊎ OfIncoming m (incoming_at m handle) (λ place o inc. GivesNone line inc (receive_of (open_at records place)) es)
    by_end (d ∷ ds) none ends = absurd (omega (arith, none))
    by_end [] none (AllThatWereWanted e) = inl (omega (arith, e))
    by_end [] none (NoRoomForMore le) = absurd (omega (arith, le))
    by_end [] none (WasReceiving op is now e quiet) = inr (record { place = k.place; found = k.found; stream = k.stream; names = k.names; at = k.at; has = k.has; holds = StillReceives op is now quiet })
    by_end [] none (OneIsPending part some now waits) = inr (record { place = k.place; found = k.found; stream = k.stream; names = k.names; at = k.at; has = k.has; holds = ReceivesNow part now waits })
    by_end [] none (OneFailed part some broke) = absurd (omega (arith, some))

-- == of the step
module _ (m : Machine) (line ctx handle most : ℕ) where
  -- each ask is of a receive, of the stream's socket
  abbrev Its : List Entry → OpId → Call → Type 0
  Its es op call = OfIncoming m (incoming_at m handle) (λ place o inc. IsOfReceive line o.inner most es op call)

  -- these are handed out and no more, with these records afterwards
  abbrev Says : List Entry → Reply → Records → Type 0
  Says es (reply.Ok fields) store = OfIncoming m (incoming_at m handle) (λ place o inc. HandsOutWhatCame line o.inner inc fields es × HandsOutUpTo line o.inner most inc (receive_of (open_at store.records place)) fields es)
  Says es _ store = ⊤

  abbrev StoreRow : List Entry → Result (List IncomingDatagram) Stop × Records → Type 0
  StoreRow es done = Says es (reply_of datagram_values done.0) done.1

  abbrev MachineRow : List Entry → Result (List IncomingDatagram) Stop × Machine → Type 0
  MachineRow es done = Says es (reply_of datagram_values done.0) done.1.store

  module _ (place : ℕ) (o : OpenUdp) (names : incoming_at m handle ≡ Some place) (at : open_at m.store.records place ≡ Some o) where
    module _ (inc : Incoming) (has : o.incoming ≡ Some inc) where
      -- it is so of the stream
      of_it : (P : ℕ → OpenUdp → Incoming → Type 0) → P place o inc → OfIncoming m (incoming_at m handle) P
      of_it P k = record { place = place; found = o; stream = inc; names = names; at = at; has = has; holds = k }

      code_told : (es : List Entry) (c : ErrorCode) (store : Records) → StoreRow es (Err (code_stop c), store)
      code_told es c store = tt

      handed : (es : List Entry) (done : Result (List IncomingDatagram) ErrorCode × (Socket × Incoming)) → HandRow line o.inner most inc.receiving inc.remote es done
          → StoreRow es ((all_received o done).0, with_receive m.store place o (all_received o done).1)
      handed es (Ok ds, s) k = of_it _ (record { datagrams = ds; gives = refl; handed = k.0 }, record { datagrams = ds; gives = refl; ends = rw (job_there m.store place o (all_received o (Ok ds, s)).1 (ReceiveJob place) (begins_receive o (all_received o (Ok ds, s)).1) at) k.1 })
      handed es (Err c, s) k = code_told es c (with_receive m.store place o (all_received o (Err c, s)).1)

      received : Allows Its (λ fs done. StoreRow fs (done.0, with_receive m.store place o done.1)) [] (receive_datagrams_asks (first_ids line) most o (Some inc))
      received =
          allows_then Its (HandRow line o.inner most inc.receiving inc.remote) (λ fs done. StoreRow fs (done.0, with_receive m.store place o done.1)) [] _ _
          (allows_ask (May line o.inner most) Its (HandRow line o.inner most inc.receiving inc.remote) (λ fs op call k. of_it _ k) [] _ (all_asks line o.inner most inc)) (λ fs done k. handed fs done k)

    by_stream : (inc : Option Incoming) → o.incoming ≡ inc → Allows Its (λ fs done. StoreRow fs (done.0, with_receive m.store place o done.1)) [] (receive_datagrams_asks (first_ids line) most o inc)
    by_stream None has = tt
    by_stream (Some inc) has = received inc has

  by_socket : (place : ℕ) (names : incoming_at m handle ≡ Some place) (o : Option OpenUdp) → open_at m.store.records place ≡ o → Allows Its StoreRow [] (receive_datagrams_at m.store (first_ids line) place most o)
  by_socket place names None at = tt
  by_socket place names (Some o) at = allows_then Its (λ fs done. StoreRow fs (done.0, with_receive m.store place o done.1)) StoreRow [] (receive_datagrams_asks (first_ids line) most o o.incoming) _ (by_stream place o names at o.incoming refl) (λ fs done k. k)

  by_handle : (place : Option ℕ) → incoming_at m handle ≡ place → Allows Its MachineRow [] (receive_datagrams_on m (first_ids line) most place)
  by_handle None names = tt
  by_handle (Some place) names = allows_then Its StoreRow MachineRow [] (receive_datagrams_at m.store (first_ids line) place most (open_at m.store.records place)) _ (by_socket place names (open_at m.store.records place) refl) (λ fs done k. k)

  -- the reply, and the machine afterwards
  abbrev ReplyRow : List Entry → Reply × Machine → Type 0
  ReplyRow es done = Says es done.0 done.1.store

  by_standing : (contexts : List WasiSocketsCtx) (standing : Option Standing) → Allows Its ReplyRow [] (asks_while contexts m line (step.Call ctx (guest.Udp (udp_call.Receive handle most))) standing)
  by_standing contexts (Some s) = tt
  by_standing contexts None = allows_then Its MachineRow ReplyRow [] (receive_datagrams_on m (first_ids line) most (incoming_at m handle)) _ (by_handle (incoming_at m handle) refl) (λ fs done k. k)

  -- what it asks
  pub receives_ask : (contexts : List WasiSocketsCtx) (before : List Entry) (e : Entry) (rest : List Entry) (r : Reply) (after : Machine) → Answered contexts m line (step.Call ctx (guest.Udp (udp_call.Receive handle most))) (before ++ e ∷ rest) r after → Its before e.op e.call
  receives_ask contexts before e rest r after w = allows_at Its ReplyRow [] (machine_asks contexts m line (step.Call ctx (guest.Udp (udp_call.Receive handle most)))) (Give (r, after)) before e rest (by_standing contexts m.store.standing) w

  -- and what came
  pub receives_came : (contexts : List WasiSocketsCtx) (entries : List Entry) (r : Reply) (after : Machine) → Answered contexts m line (step.Call ctx (guest.Udp (udp_call.Receive handle most))) entries r after → Says entries r after.store
  receives_came contexts entries r after w = reached Its ReplyRow [] (machine_asks contexts m line (step.Call ctx (guest.Udp (udp_call.Receive handle most)))) entries (Give (r, after)) (by_standing contexts m.store.standing) w
