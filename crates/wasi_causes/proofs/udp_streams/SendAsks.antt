-- What a send of datagrams asks, and that each datagram that it counts was sent or waits.
use Rattle.std.specs.Prelude.{◌≤◌, suc, zero}
use Rattle.wasi_causes.proofs.Words.{Allows, Answer, Asks, Bool, Call, Check, Done, End, Entry, Err, ErrorCode, Fits, Give, IpSocketAddress, IsPolled, IsSomeAnd, IsVerdict, Item, List, Machine, None, Nothing, NothingLast, Ok, OpId, Operation, Option, Pending, Ready}
use Rattle.wasi_causes.proofs.Words.{Refused, Reply, Result, Some, Standing, Stop, Told, Trap, Records, Waits, WasiSocketsCtx, Who, [], after, allows_if, allows_keep, allows_then, ap, arith, asks_while, bind, entry, false, first_ids, if◌then◌else◌, inl, inr, is_now, length, ltb-false, ltb-true, machine_asks, nat_lt, not, number_fields, poll_asks, polls, polled_front, refl, round, send_front, subst, sym, told_polled, told_verdict, true, verdict_front, ℕ, ⊤, ◌&&◌, ◌++◌, ◌+◌, ◌∙◌, ◌∷◌, ◌≡◌, ◌⊎◌}
use Rattle.wasi_addr.proofs.SameAddresses.{same_address-self}
use Rattle.wasi_addr.specs.Address.{same_address, wildcard}
use Rattle.wasi_addr.specs.declared.address.SocketAddressFamily.{SocketAddressFamily}
use Rattle.wasi_addr.specs.declared.code.ErrorCode.TheVariants.{DatagramTooLarge, InvalidArgument}
use Rattle.wasi_addr.specs.declared.address.SocketAddrUse.{SocketAddrUse}
use Rattle.wasi_addr.specs.declared.address.SocketAddrUse.TheVariants as usages
use Rattle.wasi_world.specs.Operation.{Send}
use Rattle.wasi_world.specs.declared.call.Call.TheVariants as call
use Rattle.wasi_world.specs.declared.call.Told.TheVariants as told
use Rattle.wasi_world.specs.declared.datagram.OutgoingDatagram.{OutgoingDatagram}
use Rattle.wasi_world.specs.declared.ids.Ids.{Ids}
use Rattle.wasi_udp.specs.Send.{at_remote, is_sendable, send_asks, send_first, send_left, send_start, send_to, where_to}
use Rattle.wasi_udp.specs.Shape.{Socket}
use Rattle.wasi_udp.specs.declared.send.Destination.{Destination}
use Rattle.udp_records.specs.Datagrams.{all_sent, count_told, is_sending, one_sent, poll_send_asks, send_after, send_all, send_datagrams_asks, send_ended, send_next_asks, send_one_asks, send_permitted, send_some}
use Rattle.host_udp.specs.DatagramCalls.{begins_send, datagrams_sent, send_datagrams_at}
use Rattle.record_common.specs.Stops.{Code}
use Rattle.wasi_jobs.specs.declared.job.HostJob.TheVariants.{Datagram}
use Rattle.wasi_causes.proofs.udp_streams.Routes.{job_there}
use Rattle.wasi_causes.specs.Turns.{datagram_of, outgoing_asks_by, sends_by}
use Rattle.host_store.specs.Machine.{outgoing_at}
use Rattle.record_common.specs.Names.{names_after, next_name}
use Rattle.wasi_records.specs.Records.{open_at}
use Rattle.udp_records.specs.declared.udp.OpenUdp.{OpenUdp}
use Rattle.wasi_p2.specs.Udp.{send_datagrams_on}
use Rattle.wasi_machine.specs.Machine.{reply_of}
use Rattle.wasi_steps.specs.declared.reply.Reply.TheVariants as reply
use Rattle.wasi_steps.specs.declared.guest_call.GuestCall.TheVariants as guest
use Rattle.wasi_steps.specs.declared.guest_call.UdpCall.TheVariants as udp_call
use Rattle.wasi_steps.specs.declared.step.Step.TheVariants as step
use Rattle.wasi_walks.proofs.Gives.{allows_ask}
use Rattle.wasi_world.proofs.Allowed.{allows_at, reached}
use Rattle.wasi_causes.specs.Datagrams.{OfOutgoing}
use Rattle.udp_records.specs.declared.datagrams.Outgoing.{Outgoing}
use Rattle.udp_records.specs.declared.datagrams.Sending.{Sending}
use Rattle.wasi_walks.proofs.Lists.{has_front, has_last}
use Rattle.wasi_walks.specs.Answered.{Answered, EndsPending}
use Rattle.wasi_walks.specs.Licence.{IsItem}
use Rattle.wasi_walks.specs.Waiting.{EndsWith}
use Rattle.wasi_causes.proofs.udp_streams.Bounds.{FoundBound, FoundFree, FoundSo, IsStill, finds, known, still_more}
use Rattle.wasi_causes.proofs.udp_streams.Unsendable.{unsendable}
use Rattle.wasi_causes.specs.DatagramAsks.{AreSent, CountsSent, ChecksDestination, ChecksWildcard, IsBoundBy, IsOfSend, SendAsksIfBound, SendsIt, WasSent, AsksToSend, destination_check, part_of, send_call, wildcard_check}
use Rattle.wasi_causes.specs.ShortLists.{CannotBeSentSo, CountsAll, CountsNoMore, CountsUpTo, DestinationToldNo, IsNotSent, LastIsPending, NextIsNotSent, OneWasPending, SendToldCode, WildcardToldNo}
use Rattle.wasi_causes.specs.Udp.{IsUdpUnbound, udp_local_entry}

-- of each part there is one datagram
item_same : (n : ℕ) (x y : OutgoingDatagram) (ds : List OutgoingDatagram) → IsItem n x ds → IsItem n y ds → x ≡ y
item_same zero x y ds h k = absurd h
item_same (suc n) x y [] h k = absurd h
item_same (suc zero) x y (d ∷ ds) h k = sym h ∙ k
item_same (suc (suc n)) x y (d ∷ ds) h k = item_same (suc n) x y ds h k

-- what goes to the remote address of now is never late
never_late_to : (family : SocketAddressFamily) (remote given : Option IpSocketAddress) (to : Destination) → where_to family remote given ≡ Ok to → (to.kept && not (is_now remote to.addr)) ≡ true → ⊥
never_late_to family None None to goes late = absurd (cc)
never_late_to family (Some a) None to goes late = let same = same_address-self a in absurd (grind (arith, goes, late, same))
never_late_to family None (Some a) to goes late = by_test (is_sendable family a) goes
  where
    by_test : (b : Bool) → (if b then Ok (record { addr = a; kept = false }) else Err InvalidArgument) ≡ Ok to → ⊥
    by_test true e = absurd (grind (arith, e, late))
    by_test false e = absurd (cc)
never_late_to family (Some r) (Some a) to goes late = by_test (is_sendable family a) (same_address a r) refl goes
  where
    by_test : (b same : Bool) → same_address a r ≡ same → (if b && same then Ok (record { addr = a; kept = true }) else Err InvalidArgument) ≡ Ok to → ⊥
    by_test true true is e = absurd (grind (arith, e, late, is))
    by_test true false is e = absurd (cc)
    by_test false same is e = absurd (cc)

module _ (line : ℕ) (socket : Socket) (all : List OutgoingDatagram) where
  pub never_late : (bytes : List ℕ) (given : Option IpSocketAddress) (to : Destination) → send_to socket bytes given ≡ Ok to → (to.kept && not (is_now socket.remote to.addr)) ≡ true → ⊥
  never_late bytes given to goes late = by_test (nat_lt 65535 (length bytes)) goes
    where
      by_test : (b : Bool) → (if b then Err DatagramTooLarge else where_to socket.family socket.remote given) ≡ Ok to → ⊥
      by_test true e = absurd (cc)
      by_test false e = never_late_to socket.family socket.remote given to e late

  -- each ask is of one of the datagrams
  abbrev May : List Entry → OpId → Call → Type 0
  May es op call = IsOfSend line socket all es op call

  -- == one datagram
  module _ (part : ℕ) (d : OutgoingDatagram) (item : IsItem part d all) where
    abbrev own : OpId
    own = part_of line part

    may : (es : List Entry) (c : Call) → AsksToSend own socket d es c → May es own c
    may es c asks = record { part = part; datagram = d; item = item; by = refl; asks = asks }

    -- who sends it, while the socket has this remote address
    abbrev who : Who
    who = record { id = own; side = socket.side; context = socket.maker; last = NothingLast; remote = socket.remote }

    -- it was sent, or waits, or isn't sent
    abbrev EndRow : List Entry → End × List Item → Type 0
    EndRow es (Done given, items) = WasSent own socket d es
    EndRow es (Waits, items) = EndsPending own es
    EndRow es (Refused c given, items) = IsNotSent own socket d es

    module _ (again : List Item → Asks (End × List Item)) where
      module _ (to : Destination) (goes : send_to socket d.bytes d.remote_address ≡ Ok to) where
        -- it was answered
        answered : (es : List Entry) (t : Told) → IsPolled t → Allows May EndRow (es ++ entry own (send_call socket to d) t ∷ []) (after again who [] (λ g. round again who g []) (polled_front (Send to.kept to.addr d.bytes) (told_polled t)))
        answered es told.Done fits = record { to = to; goes = goes; told = has_last es _ }
        answered es told.Pending fits = record { front = es; last = _; cut = refl; op = refl; told = refl }
        answered es (told.Code c) fits = SendToldCode to c goes (record { front = es; cut = refl })
        answered es _ fits = absurd fits

        -- it is checked
        sends : (es : List Entry) → EndsWith (entry own (destination_check socket to) told.Yes) es → Allows May EndRow es (round again who Nothing (Send to.kept to.addr d.bytes ∷ []))
        unfolding bind
        sends es checked =
            allows_then May (λ fs f. Allows May EndRow fs (after again who [] (λ g. round again who g []) f)) EndRow es (send_front who to.kept to.addr d.bytes) _
            (allows_if May (λ fs f. Allows May EndRow fs (after again who [] (λ g. round again who g []) f)) es (to.kept && not (is_now socket.remote to.addr)) _ _ (λ late. absurd (never_late d.bytes d.remote_address to goes late)) (λ now. (may es _ (SendsIt to goes checked), λ t fits. answered es t fits)))
            (λ fs f k. k)

        -- a check was answered
        by_verdict : (es : List Entry) (a : IpSocketAddress) (usage : SocketAddrUse) (items : List Item) → let asked : Call = call.Check socket.maker a usage in
            ((EndsWith (entry own asked told.Yes) (es ++ entry own asked told.Yes ∷ []) → Allows May EndRow (es ++ entry own asked told.Yes ∷ []) (round again who Nothing items)))
            → (EndsWith (entry own asked told.No) (es ++ entry own asked told.No ∷ []) → IsNotSent own socket d (es ++ entry own asked told.No ∷ []))
            → (t : Told) → IsVerdict t → Allows May EndRow (es ++ entry own asked t ∷ []) (after again who items (λ g. round again who g items) (verdict_front (Check a usage) (told_verdict t)))
        by_verdict es a usage items next denied told.Yes fits = next (record { front = es; cut = refl })
        by_verdict es a usage items next denied told.No fits = denied (record { front = es; cut = refl })
        by_verdict es a usage items next denied told.Pending fits = record { front = es; last = _; cut = refl; op = refl; told = refl }
        by_verdict es a usage items next denied _ fits = absurd fits

        -- it may go out
        checks : (es : List Entry) → IsBoundBy socket es ⊎ EndsWith (entry own (wildcard_check socket) told.Yes) es → Allows May EndRow es (round again who Nothing (Check to.addr usages.UdpSend ∷ Send to.kept to.addr d.bytes ∷ []))
        unfolding bind
        checks es out = (may es _ (ChecksDestination to goes out), λ t fits. by_verdict es to.addr usages.UdpSend (Send to.kept to.addr d.bytes ∷ []) (λ checked. sends _ checked) (λ denied. DestinationToldNo to goes denied) t fits)

        -- the socket isn't bound
        checks_both : (es : List Entry) (local : Told) → IsUdpUnbound socket local → EndsWith (udp_local_entry own socket local) es
            → Allows May EndRow es (round again who Nothing (Check (wildcard socket.family) usages.UdpBind ∷ Check to.addr usages.UdpSend ∷ Send to.kept to.addr d.bytes ∷ []))
        unfolding bind
        checks_both es local free said = (may es _ (ChecksWildcard local free said), λ t fits. by_verdict es (wildcard socket.family) usages.UdpBind (Check to.addr usages.UdpSend ∷ Send to.kept to.addr d.bytes ∷ []) (λ checked. checks _ (inr checked)) (λ denied. WildcardToldNo denied) t fits)

      -- by where it goes, of a socket that is bound
      bound_to : (es : List Entry) → IsBoundBy socket es → (r : Result Destination ErrorCode) → send_to socket d.bytes d.remote_address ≡ r → Allows May EndRow es (round again who Nothing (send_left socket.family d.bytes (send_first r true)))
      unfolding bind
      bound_to es is (Ok to) goes = checks to goes es (inl is)
      bound_to es is (Err c) goes = CannotBeSentSo c (unsendable socket d c goes)

      -- and of one that isn't
      free_to : (es : List Entry) (local : Told) → IsUdpUnbound socket local → EndsWith (udp_local_entry own socket local) es → (r : Result Destination ErrorCode) → send_to socket d.bytes d.remote_address ≡ r
          → Allows May EndRow es (round again who Nothing (send_left socket.family d.bytes (send_first r false)))
      unfolding bind
      free_to es local free said (Ok to) goes = checks_both to goes es local free said
      free_to es local free said (Err c) goes = CannotBeSentSo c (unsendable socket d c goes)

    -- it was sent, or isn't sent yet, by what the stream does then, or isn't sent
    abbrev SentBy : List Entry → Result (Unit {0}) ErrorCode → Sending → Type 0
    SentBy es (Ok done) Sending.Nothing = WasSent own socket d es
    SentBy es (Ok done) (Sending.InProgress op) = EndsPending own es × (op.who.id ≡ own)
    SentBy es (Ok done) (Sending.Failed c) = ⊥
    SentBy es (Err c) sending = IsNotSent own socket d es

    abbrev OneRow : List Entry → Result (Unit {0}) ErrorCode × (Socket × Outgoing) → Type 0
    OneRow es done = IsStill socket es done.1.0 × SentBy es done.0 done.1.1.sending

    ended : (es : List Entry) (now : Socket) (out : Outgoing) (op : Operation) (end : End × List Item) → op.who.id ≡ own → IsStill socket es now → EndRow es end → OneRow es (send_ended op now out end)
    ended es now out op (Done given, items) by still k = (still, k)
    ended es now out op (Waits, items) by still k = (still, (k, by))
    ended es now out op (Refused c given, items) by still k = (still, k)

    push : (now : Socket) (es : List Entry) (op : OpId) (call : Call) (t : Told) → Fits call t → IsStill socket es now → May es op call → IsStill socket (es ++ entry op call t ∷ []) now
    push now es op call t fits still m = still_more socket es _ now still

    -- its poll, with the socket that was found
    polled : (es : List Entry) (now : Socket) (out : Outgoing) (op : Operation) → op.who.id ≡ own → IsStill socket es now → Allows May EndRow es (poll_asks (at_remote now.remote op)) → Allows May OneRow es (poll_send_asks now out op)
    polled es now out op by still k =
        allows_then May (λ fs end. IsStill socket fs now × EndRow fs end) OneRow es _ _
        (allows_keep May May (λ fs. IsStill socket fs now) EndRow (push now) (λ fs o c m. m) es _ still k)
        (λ fs end k. ended fs now out op end by k.0 k.1)

    found : (es : List Entry) (out : Outgoing) (b : Bool × Socket) → FoundSo socket own es b → Allows May OneRow es (poll_send_asks b.1 out (send_start own b.1 d.bytes d.remote_address b.0))
    unfolding polls
    found es out _ (FoundBound is) = polled es (known socket) out (send_start own (known socket) d.bytes d.remote_address true) refl (inr (refl, is)) (bound_to (polls 63 who) es is (send_to socket d.bytes d.remote_address) refl)
    found es out _ (FoundFree local free said) = polled es socket out (send_start own socket d.bytes d.remote_address false) refl (inl refl) (free_to (polls 63 who) es local free said (send_to socket d.bytes d.remote_address) refl)

    -- it begins, and is polled
    one_asks : (es : List Entry) (now : Socket) (out : Outgoing) → IsStill socket es now → Allows May OneRow es (send_one_asks own now out d)
    one_asks es now out still =
        allows_then May (λ fs begun. Allows May OneRow fs (poll_send_asks begun.1 out begun.0)) OneRow es (send_asks own now d.bytes d.remote_address) _
        (allows_then May (FoundSo socket own) (λ fs begun. Allows May OneRow fs (poll_send_asks begun.1 out begun.0)) es _ _
        (finds socket May own (λ fs unknown. may fs _ (SendAsksIfBound unknown)) es now still) (λ fs b k. found fs out b k))
        (λ fs begun k. k)

    -- the next of a list, with nothing in the background
    abbrev NextRow : List Entry → Result (Answer (Unit {0})) ErrorCode × (Socket × Outgoing) → Type 0
    NextRow es (Ok (Ready done), s) = IsStill socket es s.0 × SentBy es (Ok tt) s.1.sending
    NextRow es (Ok Pending, s) = ⊥
    NextRow es (Err c, s) = IsNotSent own socket d es

    next_told : (es : List Entry) (done : Result (Unit {0}) ErrorCode × (Socket × Outgoing)) → OneRow es done → NextRow es (one_sent done)
    next_told es (Ok done, s) k = k
    next_told es (Err c, s) k = k.1

    next_asks : (es : List Entry) (now : Socket) (out : Outgoing) → IsStill socket es now → Allows May NextRow es (send_next_asks own now out d Sending.Nothing)
    next_asks es now out still = allows_then May OneRow NextRow es (send_one_asks own now out d) _ (one_asks es now out still) (λ fs done k. next_told fs done k)

  -- == datagrams in turn
  -- so many were sent
  abbrev AllSent : ℕ → List Entry → Type 0
  AllSent n es = (part : ℕ) (d : OutgoingDatagram) → IsItem part d all → part ≤ n → WasSent (part_of line part) socket d es

  none_sent : (es : List Entry) → AllSent 0 es
  none_sent es zero d i le = absurd i
  none_sent es (suc part) d i le = absurd (let no : ⊥ = omega (arith, le) in no)

  sent_so : (n : ℕ) (es : List Entry) (background : Option OpId) → AllSent n es → AreSent line socket all n es background
  sent_so n es background k part d i le = inl (k part d i le)

  -- one more
  module _ (n : ℕ) (d : OutgoingDatagram) (item : IsItem (n + 1) d all) (es : List Entry) (before : AllSent n es) where
    last_part : (part : ℕ) → nat_lt n part ≡ true → part ≤ n + 1 → part ≡ n + 1
    last_part part more le = let less = ltb-true n part more in omega (arith, less, le)

    its : (part : ℕ) (x : OutgoingDatagram) → IsItem part x all → part ≡ n + 1 → d ≡ x
    its part x i e = item_same (n + 1) d x all item (subst (λ k. IsItem k x all) e i)

    more_sent : WasSent (part_of line (n + 1)) socket d es → AllSent (n + 1) es
    more_sent now part x i le = by_part (nat_lt n part) refl
      where
        by_part : (b : Bool) → nat_lt n part ≡ b → WasSent (part_of line part) socket x es
        by_part true e = let is = last_part part e le in subst (λ k. WasSent (part_of line k) socket x es) (sym is) (subst (λ (y : OutgoingDatagram). WasSent (part_of line (n + 1)) socket y es) (its part x i is) now)
        by_part false e = before part x i (ltb-false n part e)

    one_waits : (by : OpId) → by ≡ part_of line (n + 1) → EndsPending (part_of line (n + 1)) es → AreSent line socket all (n + 1) es (Some by)
    one_waits by same now part x i le = by_part (nat_lt n part) refl
      where
        by_part : (b : Bool) → nat_lt n part ≡ b → WasSent (part_of line part) socket x es ⊎ ((part ≡ n + 1) × EndsPending (part_of line part) es × (Some by ≡ Some (part_of line part)))
        by_part true e = let is = last_part part e le in inr (is, subst (λ k. EndsPending (part_of line k) es) (sym is) now, ap Some (same ∙ ap (part_of line) (sym is)))
        by_part false e = inl (before part x i (ltb-false n part e))

  -- nothing was asked before the first, and this was in the background
  module _ (first : Sending) where
    -- so many are counted, and no more
    abbrev NoMore : ℕ → List Entry → Type 0
    NoMore n es = CountsNoMore line socket first all n es

    -- where nothing is in the background each was sent; where one is, no more are sent
    abbrev SoFar : ℕ → List Entry → Sending → Type 0
    SoFar n es Sending.Nothing = AllSent n es
    SoFar n es (Sending.InProgress op) = AreSent line socket all n es (Some op.who.id) × NoMore n es
    SoFar n es (Sending.Failed c) = (n ≡ 0) × (es ≡ [])

    -- so many are counted
    abbrev CountRow : List Entry → Result ℕ ErrorCode × (Socket × Outgoing) → Type 0
    CountRow es (Ok n, s) = AreSent line socket all n es (sends_by s.1.sending) × NoMore n es
    CountRow es (Err c, s) = ⊤

    -- they are all
    counts_all : (n : ℕ) (es : List Entry) (sending : Sending) → n ≡ length all → SoFar n es sending → AreSent line socket all n es (sends_by sending) × NoMore n es
    counts_all n es Sending.Nothing is k = (sent_so n es None k, CountsAll is)
    counts_all n es (Sending.InProgress op) is k = k
    counts_all n es (Sending.Failed c) is k = (sent_so n es None (subst (λ i. AllSent i es) (sym k.0) (none_sent es)), CountsAll is)

    told_count : (n : ℕ) (c : ErrorCode) (es : List Entry) (s : Socket × Outgoing) → (1 ≤ n → AreSent line socket all n es (sends_by s.1.sending) × NoMore n es) → CountRow es (count_told n c, s)
    told_count zero c es s k = tt
    told_count (suc n) c es s k = k (omega arith)

  sent_more : (n : ℕ) (es fs : List Entry) → AllSent n es → AllSent n (es ++ fs)
  sent_more n es fs k part d i le = let it = k part d i le in record { to = it.to; goes = it.goes; told = has_front es fs _ it.told }

  abbrev ids_at : ℕ → Ids
  ids_at n = record { line = line; next_part = n + 1 }

  -- the rest of the list, where so many are counted
  abbrev IsRest : ℕ → List OutgoingDatagram → Type 0
  IsRest n rest = ((k : ℕ) (d : OutgoingDatagram) → IsItem (suc k) d rest → IsItem (suc (k + n)) d all) × (length rest + n ≡ length all)

  rest_item : (n : ℕ) (d : OutgoingDatagram) (more : List OutgoingDatagram) → IsRest n (d ∷ more) → IsItem (n + 1) d all
  rest_item n d more rest = subst (λ k. IsItem k d all) (let e : suc (0 + n) ≡ n + 1 = omega arith in e) (rest.0 0 d refl)

  rest_more : (n : ℕ) (d : OutgoingDatagram) (more : List OutgoingDatagram) → IsRest n (d ∷ more) → IsRest (n + 1) more
  rest_more n d more rest = (λ k x i. subst (λ j. IsItem (suc j) x all) (let e : suc k + n ≡ k + (n + 1) = omega arith in e) (rest.0 (suc k) x i), let e = rest.1 in omega (arith, e))

  module _ (first : Sending) where
    -- what one more leaves
    one_more : (n : ℕ) (d : OutgoingDatagram) (item : IsItem (n + 1) d all) (es : List Entry) → AllSent n es → (sending : Sending) → SentBy (n + 1) d item es (Ok tt) sending → SoFar first (n + 1) es sending
    one_more n d item es before Sending.Nothing k = more_sent n d item es before k
    one_more n d item es before (Sending.InProgress op) k = (one_waits n d item es before op.who.id k.1 k.0, LastIsPending (omega arith) k.0)
    one_more n d item es before (Sending.Failed c) k = absurd k

    -- the rest counts so, with so many counted before
    abbrev Counts : ℕ → List OutgoingDatagram → Type 0
    Counts n rest = (s : Socket × Outgoing) (es : List Entry) → IsStill socket es s.0 → SoFar first n es s.1.sending → Allows May (CountRow first) es (send_all n (ids_at n) rest s)

    list_asks : (rest : List OutgoingDatagram) (n : ℕ) → IsRest n rest → Counts n rest
    unfolding bind
    list_asks [] n rest s es still k = counts_all first n es s.1.sending (let e = rest.1 in omega (arith, e)) k
    list_asks (d ∷ more) n rest s es still k = by_sending (λ t fs now so_far. list_asks more (n + 1) (rest_more n d more rest) t fs now so_far) s.1.sending refl k
      where
        follows : Counts (n + 1) more → (fs : List Entry) (r : Result (Answer (Unit {0})) ErrorCode × (Socket × Outgoing)) → AllSent n fs → NextRow (n + 1) d (rest_item n d more rest) fs r → Allows May (CountRow first) fs (send_after n (λ t. send_all (n + 1) (names_after (ids_at n)) more t) r)
        follows again fs (Ok (Ready done), t) before k = again t fs k.0 (one_more n d (rest_item n d more rest) fs before t.1.sending k.1)
        follows again fs (Ok Pending, t) before k = absurd k
        follows again fs (Err c, t) before k = told_count first n c fs t (λ some. (sent_so n fs (sends_by t.1.sending) before, NextIsNotSent d some (rest_item n d more rest) k))

        by_sending : Counts (n + 1) more → (sending : Sending) → s.1.sending ≡ sending → SoFar first n es sending → Allows May (CountRow first) es (bind (send_next_asks (next_name (ids_at n)) s.0 s.1 d sending) (send_after n (λ t. send_all (n + 1) (names_after (ids_at n)) more t)))
        by_sending again (Sending.InProgress job) is k = rw is k
        by_sending again (Sending.Failed c) is k = told_count first n c es _ (λ some. absurd (let none = k.0 in omega (arith, none, some)))
        by_sending again Sending.Nothing is k =
            allows_then May (λ fs r. AllSent n fs × NextRow (n + 1) d (rest_item n d more rest) fs r) (CountRow first) es (send_next_asks (next_name (ids_at n)) s.0 s.1 d Sending.Nothing) _
            (allows_keep May May (AllSent n) (NextRow (n + 1) d (rest_item n d more rest)) (λ fs op call t fits before m. sent_more n fs _ before) (λ fs op call m. m) es _ k (next_asks (n + 1) d (rest_item n d more rest) es s.0 s.1 still))
            (λ fs r k. follows again fs r k.0 k.1)

  -- at first none is counted
  first_so_far : (sending : Sending) → SoFar sending 0 [] sending
  first_so_far Sending.Nothing = none_sent []
  first_so_far (Sending.InProgress op) = (sent_so 0 [] (Some op.who.id) (none_sent []), OneWasPending op refl refl refl)
  first_so_far (Sending.Failed c) = (refl, refl)

  all_asks : (out : Outgoing) → Allows May (CountRow out.sending) [] (send_all 0 (first_ids line) all (socket, out))
  all_asks out = list_asks out.sending all 0 (λ k d i. subst (λ j. IsItem (suc j) d all) (let e : k ≡ k + 0 = omega arith in e) i, omega arith) (socket, out) [] (inl refl) (first_so_far out.sending)

-- what follows of the stream of a handle
pub of_outgoing : {m : Machine} {number : Option ℕ} (P Q : ℕ → OpenUdp → Outgoing → Type 0) → ((place : ℕ) (o : OpenUdp) (out : Outgoing) → P place o out → Q place o out) → OfOutgoing m number P → OfOutgoing m number Q
of_outgoing P Q more k = record { place = k.place; found = k.found; stream = k.stream; names = k.names; at = k.at; has = k.has; holds = more k.place k.found k.stream k.holds }

-- none is counted
pub none_counted : (m : Machine) (line handle : ℕ) (ds : List OutgoingDatagram) (es : List Entry) (background : ℕ → Option OpId) → OfOutgoing m (outgoing_at m handle) (λ place o out. CountsSent line o.inner ds (number_fields 0) es (background place) × CountsUpTo line o.inner out.sending ds (number_fields 0) es)
    → (ds ≡ []) ⊎ OfOutgoing m (outgoing_at m handle) (λ place o out. (is_sending out.sending ≡ true) × (es ≡ []))
none_counted m line handle ds es background k = by_end (k.holds.1.count) (cc) k.holds.1.ends
  where
    empty : (list : List OutgoingDatagram) → 0 ≡ length list → list ≡ []
    empty [] e = refl
    empty (d ∷ list) e = absurd (omega (arith, e))

    by_end : (count : ℕ) → 0 ≡ count → CountsNoMore line k.found.inner k.stream.sending ds count es → (ds ≡ []) ⊎ OfOutgoing m (outgoing_at m handle) (λ place o out. (is_sending out.sending ≡ true) × (es ≡ []))
    by_end count none (CountsAll e) = inl (empty ds (none ∙ e))
    by_end count none (OneWasPending op is e quiet) = inr (record { place = k.place; found = k.found; stream = k.stream; names = k.names; at = k.at; has = k.has; holds = (ap is_sending is, quiet) })
    by_end count none (LastIsPending some w) = absurd (omega (arith, none, some))
    by_end count none (NextIsNotSent d some i w) = absurd (omega (arith, none, some))

-- == of the step
module _ (m : Machine) (line ctx handle : ℕ) (ds : List OutgoingDatagram) where
  -- each ask is of one of the datagrams, of the stream's socket
  abbrev Its : List Entry → OpId → Call → Type 0
  Its es op call = OfOutgoing m (outgoing_at m handle) (λ place o out. IsOfSend line o.inner ds es op call)

  -- so many were sent, with these records afterwards
  abbrev Says : List Entry → Reply → Records → Type 0
  Says es (reply.Ok fields) store = OfOutgoing m (outgoing_at m handle) (λ place o out. CountsSent line o.inner ds fields es (datagram_of (open_at store.records place)) × CountsUpTo line o.inner out.sending ds fields es)
  Says es _ store = ⊤

  abbrev StoreRow : List Entry → Result ℕ Stop × Records → Type 0
  StoreRow es done = Says es (reply_of number_fields done.0) done.1

  abbrev MachineRow : List Entry → Result ℕ Stop × Machine → Type 0
  MachineRow es done = Says es (reply_of number_fields done.0) done.1.store

  module _ (place : ℕ) (o : OpenUdp) (names : outgoing_at m handle ≡ Some place) (at : open_at m.store.records place ≡ Some o) where
    -- so many were sent, with this socket afterwards
    abbrev SocketRow : List Entry → Result ℕ Stop × OpenUdp → Type 0
    SocketRow es (Ok n, now) = IsSomeAnd o.outgoing (λ out. AreSent line o.inner ds n es (outgoing_asks_by now.outgoing) × CountsNoMore line o.inner out.sending ds n es)
    SocketRow es (Err stop, now) = ⊤

    module _ (out : Outgoing) (has : o.outgoing ≡ Some out) where
      -- it is so of the stream
      of_it : {P : ℕ → OpenUdp → Outgoing → Type 0} → P place o out → OfOutgoing m (outgoing_at m handle) P
      of_it k = record { place = place; found = o; stream = out; names = names; at = at; has = has; holds = k }

      counted : (es : List Entry) (done : Result ℕ ErrorCode × (Socket × Outgoing)) → CountRow line o.inner ds out.sending es done → SocketRow es (all_sent o done)
      counted es (Ok n, s) k = rw has k
      counted es (Err c, s) k = tt

      permitted : Allows Its SocketRow [] (send_permitted (first_ids line) o out ds)
      permitted =
          allows_if Its SocketRow [] (nat_lt out.permit (length ds)) _ _ (λ many. tt) (λ few.
          allows_then Its (CountRow line o.inner ds out.sending) SocketRow [] _ _
          (allows_ask (May line o.inner ds) Its (CountRow line o.inner ds out.sending) (λ fs op call k. of_it k) [] _ (all_asks line o.inner ds (record out { permit = 0 }))) (λ fs done k. counted fs done k))

      by_list : (list : List OutgoingDatagram) → ds ≡ list → Allows Its SocketRow [] (send_some (first_ids line) o out list)
      by_list [] is = rw has (sent_so line o.inner ds 0 [] (outgoing_asks_by (Some out)) (none_sent line o.inner ds []), CountsAll (sym (ap (λ (list : List OutgoingDatagram). length list) is)))
      by_list (d ∷ more) is = subst (λ (list : List OutgoingDatagram). Allows Its SocketRow [] (send_permitted (first_ids line) o out list)) is permitted

    by_stream : (out : Option Outgoing) → o.outgoing ≡ out → Allows Its SocketRow [] (send_datagrams_asks (first_ids line) o out ds)
    by_stream None has = tt
    by_stream (Some out) has = by_list out has ds refl

    -- the socket is put back
    put_back : (es : List Entry) (done : Result ℕ Stop × OpenUdp) → SocketRow es done → StoreRow es (datagrams_sent m.store place o done)
    put_back es (Ok n, now) k = by_out o.outgoing refl k
      where
        store : Records
        store = (datagrams_sent m.store place o (Ok n, now)).1

        there : open_at store.records place ≡ Some now
        there = job_there m.store place o now (Datagram place) (begins_send o now) at

        by_out : (out : Option Outgoing) → o.outgoing ≡ out → IsSomeAnd out (λ out. AreSent line o.inner ds n es (outgoing_asks_by now.outgoing) × CountsNoMore line o.inner out.sending ds n es) → StoreRow es (Ok n, store)
        by_out None has k = absurd k
        by_out (Some out) has k = of_it out has (record { count = n; gives = refl; sent = rw there k.0 }, record { count = n; gives = refl; ends = k.1 })
    put_back es (Err stop, now) k = by_stop stop
      where
        by_stop : (stop : Stop) → Says es (reply_of number_fields (Err stop)) (datagrams_sent m.store place o (Err stop, now)).1
        by_stop (Code c) = tt
        by_stop (Trap kind) = tt

  by_socket : (place : ℕ) (names : outgoing_at m handle ≡ Some place) (o : Option OpenUdp) → open_at m.store.records place ≡ o → Allows Its StoreRow [] (send_datagrams_at m.store (first_ids line) place ds o)
  by_socket place names None at = tt
  by_socket place names (Some o) at = allows_then Its (SocketRow place o names at) StoreRow [] (send_datagrams_asks (first_ids line) o o.outgoing ds) _ (by_stream place o names at o.outgoing refl) (λ fs done k. put_back place o names at fs done k)

  by_handle : (place : Option ℕ) → outgoing_at m handle ≡ place → Allows Its MachineRow [] (send_datagrams_on m (first_ids line) ds place)
  by_handle None names = tt
  by_handle (Some place) names = allows_then Its StoreRow MachineRow [] (send_datagrams_at m.store (first_ids line) place ds (open_at m.store.records place)) _ (by_socket place names (open_at m.store.records place) refl) (λ fs done k. k)

  -- the reply, and the machine afterwards
  abbrev ReplyRow : List Entry → Reply × Machine → Type 0
  ReplyRow es done = Says es done.0 done.1.store

  by_standing : (contexts : List WasiSocketsCtx) (standing : Option Standing) → Allows Its ReplyRow [] (asks_while contexts m line (step.Call ctx (guest.Udp (udp_call.Send handle ds))) standing)
  by_standing contexts (Some s) = tt
  by_standing contexts None = allows_then Its MachineRow ReplyRow [] (send_datagrams_on m (first_ids line) ds (outgoing_at m handle)) _ (by_handle (outgoing_at m handle) refl) (λ fs done k. k)

  -- what it asks
  pub sends_ask : (contexts : List WasiSocketsCtx) (before : List Entry) (e : Entry) (rest : List Entry) (r : Reply) (after : Machine) → Answered contexts m line (step.Call ctx (guest.Udp (udp_call.Send handle ds))) (before ++ e ∷ rest) r after → Its before e.op e.call
  sends_ask contexts before e rest r after w = allows_at Its ReplyRow [] (machine_asks contexts m line (step.Call ctx (guest.Udp (udp_call.Send handle ds)))) (Give (r, after)) before e rest (by_standing contexts m.store.standing) w

  -- and what was sent
  pub sends_count : (contexts : List WasiSocketsCtx) (entries : List Entry) (r : Reply) (after : Machine) → Answered contexts m line (step.Call ctx (guest.Udp (udp_call.Send handle ds))) entries r after → Says entries r after.store
  sends_count contexts entries r after w = reached Its ReplyRow [] (machine_asks contexts m line (step.Call ctx (guest.Udp (udp_call.Send handle ds)))) entries (Give (r, after)) (by_standing contexts m.store.standing) w
