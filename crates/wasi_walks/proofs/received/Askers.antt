-- Which operation asks for a datagram: one that is its line's own does it for the line that is done, or for the call that the line polls;
-- which calls stand beside others then; and the lines of pending calls are no receives.
use Rattle.std.specs.Prelude.{IsSome, is_some, take}
use Rattle.wasi_walks.proofs.Words.{Allows, Ask, AskWrite, Asks, BeganBy, Bool, Call, Done, End, Entry, Err, ErrorCode, ErrorValue, Give, Given, HandleTable, HoldsAccept, HoldsConnect, IsAcceptOn, Item, Kind, LastAsk, List, None, NothingLast, Ok, OpId, Operation, Option, Refused, Result, Some, SocketAddressFamily, Standing, Step, Stop, Tcp2, Waits, WasiSocketsCtx, Who, WriteState, Job, End, []}
use Rattle.wasi_walks.proofs.Words.{allows_then, allows_weaker, ap, arith, bind, create_to, give_up_asks, inl, inr, job_asks, job_in, last_ask, length, made_to, make_asks, new_asks, new_record, own_of, poll_asks, refl, side_at, standing_as, step_at, subst, sym, told_addr, told_done, true, false, turn_asks, with_writer, Socket, StandingCall, side_of, ℕ, ⊤, ◌++◌, ◌==◌, ◌∙◌, ◌∷◌, ◌≡◌, ◌⊎◌}
use Rattle.std.proofs.lemmas.Bool.{eqb-false, eqb-true}
use Rattle.wasi_tcp.specs.Connect as connect
use Rattle.wasi_tcp.specs.Halves.{write_asks}
use Rattle.wasi_tcp.specs.Listen.{IsListen}
use Rattle.wasi_udp.specs.Create.{create_cancel_asks, after_create as udp_after_create}
use Rattle.wasi_udp.specs.Receive.{wanting}
use Rattle.wasi_udp.specs.Send.{at_remote}
use Rattle.host_store.specs.declared.beside.Beside.{Beside}
use Rattle.host_store.specs.declared.beside.BesideCall.{BesideCall}
use Rattle.host_store.specs.declared.kind.Kind.TheVariants.{Listen3, Result3, Tcp3}
use Rattle.host_store.specs.Beside.{beside_as, beside_in, beside_with, beside_without}
use Rattle.udp_records.specs.declared.udp.OpenUdp.{OpenUdp}
use Rattle.udp_records.specs.declared.udp.UdpRecord.{UdpRecord}
use Rattle.wasi_walks.specs.Licence.{IsReceive}
use Rattle.wasi_walks.proofs.BesideLists.{found_has, push_other, with_other, without_at, without_other}
use Rattle.wasi_walks.proofs.Fronts.{PollLaw, polls_by}
use Rattle.wasi_walks.proofs.Gives.{allows_ask}
use Rattle.wasi_walks.proofs.fits.Datagrams.{Datagrams, FitBeside}
use Rattle.wasi_walks.proofs.fits.Records.{FitConnecting, FitListening, FitProgress, FitSending, FitUdpProgress, SendOn, UdpBindOn, UdpConnectOn}
use Rattle.wasi_walks.proofs.received.Parted.{OfPart, Parted, becomes_parted, moves_parted, polls_parted, push_parted, put_parted}
use Rattle.wasi_world.specs.declared.ids.Ids.{Ids}
use Rattle.wasi_walks.proofs.licence.Line.{Licensed, SamePair, pair_second}
use Rattle.wasi_walks.proofs.walks.Moves as walk
use Rattle.wasi_walks.proofs.walks.Moves.{Calls, Held, Here, Interface, IsQuestionOf, IsUdpQuestionOf, Made, MarksNext, Move, Past, PollsDatagram, PollsReceive, PollsSend, StartsDatagram, StartsReceive, StartsSend, ToListen, ToSend, ToStream, Used, datagram_begun, datagram_polled, made_so, receive_op, receiving_in, send_op, sending_in, tcp_kind, udp_begun, with_beside}
use Rattle.wasi_walks.proofs.walks.Asked as asking
use Rattle.wasi_walks.proofs.walks.Asked.{Asked}
use Rattle.wasi_walks.proofs.walks.Law.{BeginsWrites, Rests, begins_by}
use Rattle.wasi_walks.proofs.walks.OfState.{Becomes, GivenUp, IsClosed, Learnt, Resolved, UdpBegun, UdpGivenUp, UdpIsClosed, UdpLearnt}
use Rattle.wasi_walks.proofs.claims.Law.{Base}
use Rattle.wasi_walks.proofs.fits.UdpFits.{learnt_side}
use Rattle.wasi_walks.proofs.remotes.State.{Keeps}
use Rattle.wasi_walks.proofs.licence.State.{ToShut, ToWrite, ToWriteAndShut, WriteLeft, WritesOn, Written}
use Rattle.wasi_walks.proofs.licence.Wilds.{Wilds}
use Rattle.wasi_addr.specs.declared.address.IpAddress.{IpAddress}
use Rattle.wasi_world.specs.declared.asks.Polled.{Polled}
use Rattle.wasi_world.specs.declared.asks.Polled.TheVariants as polled
use Rattle.wasi_world.specs.Typed.{told_names}
use Rattle.record_common.specs.Binding.{left_of}
use Rattle.wasi_records.specs.Records.{tcp2_at, tcp2_pushed}
use Rattle.host_store.specs.declared.beside.BesideCall.TheVariants.{Resolve}
use Rattle.host_lookups.specs.Resolves.{begun_lookup}
use Rattle.wasi_udp.specs.Create.{Create}
use Rattle.wasi_udp.specs.Socket.{after_local as udp_after_local, after_peer}
use Rattle.wasi_walks.proofs.received.Polls.{AreSilent, Elsewhere, NoName, silent_poll}
use Rattle.wasi_walks.proofs.received.Silent.{accept_silent, bind_silent, cancelled_silent, connect_silent, given_up_silent, listen_silent, made_silent, new_silent, send_silent, udp_bind_silent, udp_connect_silent}

-- == a poll asks by the name of its operation
-- and nothing else is known
abbrev By : OpId → List Entry → OpId → Call → Type 0
By op es o c = o ≡ op

poll_by : (op : Operation) (es : List Entry) → Allows (By op.who.id) (λ fs ended. ⊤) es (poll_asks op)
unfolding bind
poll_by op es = polls_by law op.left es tt
  where
    last : (es : List Entry) (l : LastAsk) (c : ErrorCode) (given : Given) → Allows (By op.who.id) (λ fs ended. ⊤) es (last_ask op.who l c given)
    last es NothingLast c given = tt
    last es _ c given = (refl, λ t fits. tt)

    law : PollLaw (By op.who.id) op.who (λ es items. ⊤) (λ es ended. ⊤)
    law = record {
      asks = λ es i items c a k. (refl, λ told fits. tt);
      writes = λ es b bytes items k. (refl, λ told fits front. tt);
      becomes = λ es i j items b k. tt;
      drops = λ es i items spent k. tt;
      ends = λ es i items c given k. last es op.who.last c given;
      waits = λ es items k. tt;
      done = λ es given g k. tt;
    }

-- == trees that ask for no datagram
-- a call that asks for none of any network socket
abbrev Silently : List Entry → OpId → Call → Type 0
Silently es op c = (side : OpId) → Elsewhere side ⊤ NoName es op c

all_sides : {A : Type 0} (es : List Entry) (asks : Asks A) → ((side : OpId) → Allows (Elsewhere side ⊤ NoName) (λ fs a. ⊤) es asks) → Allows Silently (λ fs a. ⊤) es asks
all_sides es (Give a) k = tt
all_sides es (Ask op c next) k = (λ side. (k side).0, λ told f. all_sides _ (next told) (λ side. (k side).1 told f))
all_sides es (AskWrite op sock bytes next) k = (λ side. (k side).0, λ told f front. all_sides _ (next told) (λ side. (k side).1 told f front))

-- two numbers are the same or not
same_number : (n k : ℕ) → (n ≡ k) ⊎ (n ≡ k → ⊥)
same_number n k = by_test (n == k) refl
  where
    by_test : (b : Bool) → (n == k) ≡ b → (n ≡ k) ⊎ (n ≡ k → ⊥)
    by_test true e = inl (eqb-true n k e)
    by_test false e = inr (eqb-false n k e)

-- a step that is no receive of 0.3
abbrev pub NoReceive : Step → Type 0
NoReceive s = IsReceive s → ⊥

-- == the calls beside others, where these stood before the line
-- The call of a number is over, or it is as it was, or it is the line's own, or the line polls it.
pub data CallStays (line : ℕ) (origin : Step) (old now : List Beside) (n : ℕ) : Type 0 where
  IsOver : beside_in now n ≡ None → CallStays line origin old now n
  IsSame : beside_in now n ≡ beside_in old n → CallStays line origin old now n
  IsOwn : n ≡ line → CallStays line origin old now n
  IsPolled : origin ≡ Step.Poll n → IsSome (beside_in old n) → CallStays line origin old now n

module _ (line : ℕ) (origin : Step) (old : List Beside) where
  abbrev pub AllStay : List Beside → Type 0
  AllStay now = (n : ℕ) → CallStays line origin old now n

  stays_as : (now then : List Beside) (n : ℕ) → beside_in then n ≡ beside_in now n → CallStays line origin old now n → CallStays line origin old then n
  stays_as now then n e (IsOver over) = IsOver (e ∙ over)
  stays_as now then n e (IsSame same) = IsSame (e ∙ same)
  stays_as now then n e (IsOwn own) = IsOwn own
  stays_as now then n e (IsPolled is some) = IsPolled is some

  -- the line's own is the last
  stays_push : (now : List Beside) (call : BesideCall) → AllStay now → AllStay (now ++ beside_as line call ∷ [])
  stays_push now call k n = elim (same_number n line) [ inl e ↦ IsOwn e | inr d ↦ stays_as now _ n (push_other now (beside_as line call) n d) (k n) ]

  -- one is over
  stays_without : (now : List Beside) (gone : ℕ) → AllStay now → AllStay (beside_without now gone)
  stays_without now gone k n = elim (same_number n gone) [
    | inl e ↦ IsOver (subst (λ (x : ℕ). beside_in (beside_without now gone) x ≡ None) (sym e) (without_at now gone))
    | inr d ↦ stays_as now _ n (without_other now gone n d) (k n)
  ]

  -- the one that the line polls is replaced
  polled_stays : (now : List Beside) (at : ℕ) (b : Beside) → origin ≡ Step.Poll at → beside_in now at ≡ Some b → CallStays line origin old now at → (then : List Beside) → CallStays line origin old then at
  polled_stays now at b is e (IsOver over) then = absurd (let p : None ≡ Some b = sym over ∙ e in cc)
  polled_stays now at b is e (IsSame same) then = IsPolled is (ap (λ (o : Option Beside). is_some o) (sym same ∙ e))
  polled_stays now at b is e (IsOwn own) then = IsOwn own
  polled_stays now at b is e (IsPolled p some) then = IsPolled p some

  stays_with : (now : List Beside) (at : ℕ) (b : Beside) (call : BesideCall) → origin ≡ Step.Poll at → beside_in now at ≡ Some b → AllStay now → AllStay (beside_with now at call)
  stays_with now at b call is e k n = elim (same_number n at) [
    | inl same ↦ subst (λ (x : ℕ). CallStays line origin old (beside_with now at call) x) (sym same) (polled_stays now at b is e (k at) (beside_with now at call))
    | inr d ↦ stays_as now _ n (with_other now at call n d) (k n)
  ]

module _ (contexts : List WasiSocketsCtx) (steps : List Step) (line : ℕ) (origin : Step) (is_line : step_at steps line ≡ Some origin) (old : List Beside) where
  -- == the lines of pending calls
  abbrev pub LineQuiet : ℕ → Type 0
  LineQuiet n = BeganBy steps (own_of n) NoReceive

  abbrev pub MadeQuiet : Made → Type 0
  MadeQuiet (ToStream n handle place) = LineQuiet n
  MadeQuiet (ToSend n handle place) = LineQuiet n
  MadeQuiet (ToListen n marks place) = LineQuiet n
  MadeQuiet (Calls kind n handles) = LineQuiet n
  MadeQuiet _ = ⊤

  -- The line of the exclusive call is no receive, nor is that which works on a record.
  pub record QuietLines (h : Here) : Type 0 where
    pub stands : (s : Standing) → h.machine.store.standing ≡ Some s → LineQuiet s.ids.line
    pub at : (place n : ℕ) → h.at ≡ Some (place, n) → LineQuiet n
    pub made : MadeQuiet h.made

  -- where the line is none, and polls none
  abbrev pub IsQuiet : Type 0
  IsQuiet = NoReceive origin × ((n : ℕ) → origin ≡ Step.Poll n → LineQuiet n)

  -- All of it.
  pub record Asks3 (h : Here) : Type 0 where
    pub parted : Parted h
    pub stays : AllStay line origin old h.machine.store.beside
    pub quiet : IsQuiet → QuietLines h

  -- a datagram is asked for by an operation of a part, or by the line's own, or by that which the line polls
  abbrev pub MayRecv : List Entry → OpId → Call → Type 0
  MayRecv es op (Call.Recv side) = op.part ≡ 0 → (op.step ≡ line) ⊎ ((origin ≡ Step.Poll op.step) × IsSome (beside_in old op.step))
  MayRecv es op _ = ⊤

  by_some : (es : List Entry) (op : OpId) (c : Call) → (op.part ≡ 0 → (op.step ≡ line) ⊎ ((origin ≡ Step.Poll op.step) × IsSome (beside_in old op.step))) → MayRecv es op c
  by_some es op (Call.Recv side) k = k
  by_some es op _ k = tt

  by_none : (es : List Entry) (op : OpId) (c : Call) → Silently es op c → MayRecv es op c
  by_none es op (Call.Recv side) k = absurd (k side tt refl)
  by_none es op _ k = tt

  quietly : {A : Type 0} (es : List Entry) (asks : Asks A) → ((side : OpId) → Allows (Elsewhere side ⊤ NoName) (λ fs a. ⊤) es asks) → Allows MayRecv (λ fs a. ⊤) es asks
  quietly es asks k = allows_ask Silently MayRecv (λ fs a. ⊤) by_none es asks (all_sides es asks k)

  none : (es : List Entry) (op : Operation) → ((side : OpId) → AreSilent side ⊤ NoName op.who op.left) → Allows MayRecv (λ fs ended. ⊤) es (poll_asks op)
  none es op k = quietly es (poll_asks op) (λ side. silent_poll side ⊤ NoName op es (k side))

  named : (es : List Entry) (op : Operation) → (op.who.id.part ≡ 0 → (op.who.id.step ≡ line) ⊎ ((origin ≡ Step.Poll op.who.id.step) × IsSome (beside_in old op.who.id.step))) → Allows MayRecv (λ fs ended. ⊤) es (poll_asks op)
  named es op k = allows_ask (By op.who.id) MayRecv (λ fs ended. ⊤) (λ fs o c e. by_some fs o c (subst (λ (x : OpId). x.part ≡ 0 → (x.step ≡ line) ⊎ ((origin ≡ Step.Poll x.step) × IsSome (beside_in old x.step))) (sym e) k)) es (poll_asks op) (poll_by op es)

  -- what is asked, and where the line is then
  onto : {A : Type 0} (end : A → Here) (es : List Entry) (asks : Asks A) → ((a : A) → Asks3 (end a)) → Allows MayRecv (λ fs a. ⊤) es asks → Allows MayRecv (λ fs a. Asks3 (end a)) es asks
  onto end es asks k h = allows_weaker MayRecv (λ fs a. ⊤) (λ fs a. Asks3 (end a)) (λ fs a q. k a) es asks h

  -- == the state moves
  -- nothing but the records and what the line has begun
  moved : (h now : Here) → Parted now → now.machine.store.beside ≡ h.machine.store.beside → now.machine.store.standing ≡ h.machine.store.standing → now.at ≡ h.at → now.made ≡ h.made → Asks3 h → Asks3 now
  moved h now p b s a m i = record {
    parted = p;
    stays = subst (λ (calls : List Beside). AllStay line origin old calls) (sym b) i.stays;
    quiet = λ c. (let q = i.quiet c in record { stands = λ x e. q.stands x (sym s ∙ e); at = λ place n e. q.at place n (sym a ∙ e); made = subst MadeQuiet (sym m) q.made });
  }

  its_line : IsQuiet → LineQuiet line
  its_line c = record { origin = origin; at = is_line; holds = c.0 }

  -- the line works on a record by its own operation
  at_line : (place : ℕ) → LineQuiet line → (p n : ℕ) → SamePair place line p n → LineQuiet n
  at_line place q p n e = subst LineQuiet (pair_second place line p n e) q

  at_other : (place k : ℕ) → LineQuiet k → (p n : ℕ) → SamePair place k p n → LineQuiet n
  at_other place k q p n e = subst LineQuiet (pair_second place k p n e) q

  -- a call is pending by this line
  stands_by : (h : Here) (ids : Ids) (call : StandingCall) → LineQuiet ids.line → (s : Standing) → Some (standing_as ids call) ≡ Some s → LineQuiet s.ids.line
  stands_by h ids call q s e = let its : standing_as ids call ≡ s = cc in subst (λ (x : Standing). LineQuiet x.ids.line) its q

  moves_quiet : (h now : Here) → Move line origin h now → IsQuiet → QuietLines h → QuietLines now
  moves_quiet _ _ (walk.Reaches h handle place named e) c q = record { stands = q.stands; at = at_line place (its_line c); made = q.made }
  moves_quiet _ _ (walk.ReachesUdp h handle place named e) c q = record { stands = q.stands; at = at_line place (its_line c); made = q.made }
  moves_quiet _ _ (walk.ReachesEnd h handle place end r named e s g) c q = record { stands = q.stands; at = at_line place (its_line c); made = q.made }
  moves_quiet _ _ (walk.Leaves h) c q = record { stands = q.stands; at = λ p n e. absurd (cc); made = tt }
  moves_quiet _ _ (walk.Watches h own) c q = record { stands = q.stands; at = q.at; made = tt }
  moves_quiet _ _ (walk.AddsSlot h s) c q = record { stands = q.stands; at = q.at; made = tt }
  moves_quiet _ _ (walk.Joins h k handle place r l new peer is of u g e a) c q = record { stands = q.stands; at = λ p n e. absurd (cc); made = tt }
  moves_quiet _ _ (walk.JoinsPlain h k listener remaining place r l new peer is of u g e a) c q = record { stands = q.stands; at = λ p n e. absurd (cc); made = tt }
  moves_quiet _ _ (walk.JoinsFault h place r l k u g e a) c q = record { stands = q.stands; at = λ p n e. absurd (cc); made = tt }
  moves_quiet _ _ (walk.RemembersListen h marks place r is under g none) c q = record { stands = q.stands; at = q.at; made = its_line c }
  moves_quiet _ _ (walk.RecallsListen h ids place marks e) c q = record { stands = q.stands; at = q.at; made = q.stands _ e }
  moves_quiet _ _ (walk.StandsListen h ids place marks r quiet at made g goes) c q = record { stands = stands_by h ids (StandingCall.Listen place marks) (q.at place ids.line at); at = q.at; made = q.made }
  moves_quiet _ _ (walk.Stands h ids call r quiet at g k) c q = record { stands = stands_by h ids call (q.at _ ids.line at); at = q.at; made = q.made }
  moves_quiet _ _ (walk.Resumes h s e o) c q = record { stands = q.stands; at = at_other _ s.ids.line (q.stands s e); made = q.made }
  moves_quiet _ _ (walk.Unstands h over) c q = record { stands = λ s e. absurd (cc); at = q.at; made = q.made }
  moves_quiet _ _ (walk.StandsUdpBind h ids place face o op quiet at g e) c q = record { stands = stands_by h ids (StandingCall.UdpBind place face) (q.at place ids.line at); at = q.at; made = q.made }
  moves_quiet _ _ (walk.StandsUdpCreate h ids place face create quiet m g its) c q = record {
    stands = stands_by h ids (StandingCall.UdpCreate place face) (elim its [ inl own ↦ subst LineQuiet (sym own) (its_line c) | inr polls ↦ c.1 ids.line polls ]);
    at = q.at;
    made = q.made;
  }
  moves_quiet _ _ (walk.RemembersStreams h k handle place remote is of o g none) c q = record { stands = q.stands; at = q.at; made = its_line c }
  moves_quiet _ _ (walk.RecallsStreams h ids place handle e own) c q = record { stands = q.stands; at = q.at; made = q.stands _ e }
  moves_quiet _ _ (walk.StandsUdpConnect h ids place handle o op quiet at made g e) c q = record { stands = stands_by h ids (StandingCall.UdpConnect place handle) (q.at place ids.line at); at = q.at; made = q.made }
  moves_quiet _ _ (walk.StandsConnect h ids place o op quiet at past g e) c q = record { stands = stands_by h ids (StandingCall.UdpConnect3 place) (q.at place ids.line at); at = q.at; made = q.made }
  moves_quiet _ _ (walk.StandsDropOutgoing h ids place o quiet at g e) c q = record { stands = stands_by h ids (StandingCall.DropOutgoing place) (q.at place ids.line at); at = q.at; made = q.made }
  moves_quiet _ _ (walk.CallsHandles h kind k quiet) c q = record { stands = q.stands; at = q.at; made = its_line c }
  moves_quiet _ _ (walk.RecallsCall h ids call e) c q = record { stands = q.stands; at = q.at; made = q.stands _ e }
  moves_quiet _ _ (walk.ReachesHandle h kind n handle place handles m k e) c q = record { stands = q.stands; at = at_other place n (subst MadeQuiet m q.made); made = q.made }
  moves_quiet _ _ (walk.StandsBlocking h ids call handles m k) c q = record { stands = stands_by h ids (StandingCall.Blocking call) (subst MadeQuiet m q.made); at = q.at; made = q.made }
  moves_quiet _ _ (walk.Numbers h) c q = record { stands = q.stands; at = q.at; made = tt }
  moves_quiet _ _ (walk.AwaitsCreate h place face create is g) c q = record { stands = q.stands; at = q.at; made = tt }
  moves_quiet _ _ (walk.Empties h handle kind quiet e none) c q = record { stands = q.stands; at = q.at; made = tt }
  moves_quiet _ _ (walk.Frees h place made) c q = record { stands = q.stands; at = q.at; made = tt }
  moves_quiet _ _ (walk.IsUnheld h place r g free) c q = record { stands = q.stands; at = q.at; made = tt }
  moves_quiet _ _ (walk.DropsUdp h place o idle made g) c q = record { stands = q.stands; at = λ p n e. absurd (cc); made = q.made }
  moves_quiet _ _ _ c q = record { stands = q.stands; at = q.at; made = q.made }

  moves_stay : (h now : Here) → Move line origin h now → AllStay line origin old h.machine.store.beside → AllStay line origin old now.machine.store.beside
  moves_stay _ _ (walk.StandsBeside h place r op at g s e) k = stays_push line origin old h.machine.store.beside _ k
  moves_stay _ _ (walk.EndsBeside h n) k = stays_without line origin old h.machine.store.beside n k
  moves_stay _ _ _ k = k

  pub moves_askers : (h now : Here) → Move line origin h now → Asks3 h → Asks3 now
  moves_askers h now m i = record { parted = moves_parted contexts line origin h now m i.parted; stays = moves_stay h now m i.stays; quiet = λ c. moves_quiet h now m c (i.quiet c) }

  -- == what is asked leaves
  -- a mark
  marks : (es : List Entry) (op : OpId) (t : HandleTable) (kind : Kind) (parent : Option ℕ) (sock : Option OpId) (end : Result ℕ Stop × HandleTable → Here) → ((made : Result ℕ Stop × HandleTable) → Asks3 (end made)) → Allows MayRecv (λ fs made. Asks3 (end made)) es (make_asks t op kind parent sock)
  marks es op t kind parent sock end k = onto end es (make_asks t op kind parent sock) k (quietly es _ (λ side. made_silent side ⊤ NoName es t op kind parent sock))

  -- with another handle, the line has made this
  remade : (h : Here) (t : HandleTable) (made : Made) → (IsQuiet → MadeQuiet made) → Asks3 h → Asks3 (record h { machine = record h.machine { table = t }; made = made })
  remade h t made k i = record { parted = i.parted; stays = i.stays; quiet = λ c. (let q = i.quiet c in record { stands = q.stands; at = q.at; made = k c }) }

  marked_next : (h : Here) (n handle reached : ℕ) (kind : Kind) (place : ℕ) → MarksNext h.made n handle reached kind place → MadeQuiet h.made → LineQuiet n
  marked_next h n handle reached kind place (inl m) q = subst MadeQuiet m.1 q
  marked_next h n handle reached kind place (inr m) q = subst MadeQuiet m.1 q

  -- a handle of its own after an accept
  accepted_made : (place : ℕ) (r : Result ℕ Stop) → MadeQuiet (made_so place r)
  accepted_made place (Ok handle) = tt
  accepted_made place (Err why) = tt

  -- a socket that is created joins the records
  spent : (h : Here) → Asks3 h → Asks3 (record h { own = Used })
  spent h i = moved h _ (i.parted.0, tt) refl refl refl refl i

  creates : {T : Type 0} (tells : Result ℕ Stop → T) (fails : ErrorCode → T) (face : Interface) (es : List Entry) (h : Here) (ctx : WasiSocketsCtx) (family : SocketAddressFamily) → Asks3 h
      → Allows MayRecv (λ fs done. Asks3 (record h { machine = done.1; own = Used })) es (create_to tells fails (tcp_kind face) h.machine (own_of line) ctx family)
  creates tells fails face es h ctx family i =
      allows_then MayRecv (λ fs made. ⊤) (λ fs done. Asks3 (record h { machine = done.1; own = Used })) es (new_asks (own_of line) ctx family) (made_to tells fails (tcp_kind face) h.machine (own_of line))
      (quietly es _ (λ side. new_silent side ⊤ NoName es (own_of line) ctx family)) (λ fs made q. joins fs made)
    where
      joins : (fs : List Entry) (made : Result Socket ErrorCode) → Allows MayRecv (λ gs done. Asks3 (record h { machine = done.1; own = Used })) fs (made_to tells fails (tcp_kind face) h.machine (own_of line) made)
      joins fs (Err c) = spent h i
      joins fs (Ok socket) =
          let now : Here = record h { machine = record h.machine { store = record h.machine.store { records = tcp2_pushed h.machine.store.records (new_record socket) } }; own = Used } in
          let k : Asks3 now = moved h now (push_parted h (new_record socket) i.parted.0, tt) refl refl refl refl i in
          allows_then MayRecv (λ gs made. Asks3 (record now { machine = record now.machine { table = made.1 } })) (λ gs done. Asks3 (record h { machine = done.1; own = Used })) fs (make_asks h.machine.table (own_of line) (tcp_kind face (length h.machine.store.records)) None (side_of socket)) _
          (marks fs (own_of line) h.machine.table (tcp_kind face (length h.machine.store.records)) None (side_of socket) (λ made. record now { machine = record now.machine { table = made.1 } }) (λ made. record { parted = k.parted; stays = k.stays; quiet = λ c. (let q = k.quiet c in record { stands = q.stands; at = q.at; made = q.made }) }))
          (λ gs made l. l)

  -- one poll of what is in progress
  polls_hold : (h : Here) (op : Operation) (after : End × List Item → Here) → Held h op after → (end : End × List Item) → Asks3 h → Asks3 (after end)
  polls_hold h _ _ (walk.BindsOn place r op q g e) end i = moved h _ (polls_parted contexts line origin h _ _ (walk.BindsOn place r op q g e) end i.parted) refl refl refl refl i
  polls_hold h _ _ (walk.Connects place r op g e) end i = moved h _ (polls_parted contexts line origin h _ _ (walk.Connects place r op g e) end i.parted) refl refl refl refl i
  polls_hold h _ _ (walk.Listens place r op q g e c) end i = moved h _ (polls_parted contexts line origin h _ _ (walk.Listens place r op q g e c) end i.parted) refl refl refl refl i
  polls_hold h _ _ (walk.Awaits place r l op g e a) end i = moved h _ (polls_parted contexts line origin h _ _ (walk.Awaits place r l op g e a) end i.parted) refl refl refl refl i
  polls_hold h _ _ (walk.UdpCreates place create q g) end i = moved h _ (polls_parted contexts line origin h _ _ (walk.UdpCreates place create q g) end i.parted) refl refl refl refl i
  polls_hold h _ _ (walk.UdpBindsOn place o op q g e) end i = moved h _ (polls_parted contexts line origin h _ _ (walk.UdpBindsOn place o op q g e) end i.parted) refl refl refl refl i
  polls_hold h _ _ (walk.UdpConnectsOn place o op q g e) end i = moved h _ (polls_parted contexts line origin h _ _ (walk.UdpConnectsOn place o op q g e) end i.parted) refl refl refl refl i
  polls_hold h _ _ (walk.UdpReconnectsOn place o op q g e) end i = moved h _ (polls_parted contexts line origin h _ _ (walk.UdpReconnectsOn place o op q g e) end i.parted) refl refl refl refl i
  polls_hold h _ _ (walk.SendsOn place o out op left g e f s) end i = moved h _ (polls_parted contexts line origin h _ _ (walk.SendsOn place o out op left g e f s) end i.parted) refl refl refl refl i
  polls_hold h _ _ (walk.ReceivesOn place o inc op g e f) end i = moved h _ (polls_parted contexts line origin h _ _ (walk.ReceivesOn place o inc op g e f) end i.parted) refl refl refl refl i

  polls_ask : (es : List Entry) (h : Here) (op : Operation) (after : End × List Item → Here) → Held h op after → Base contexts line origin h → Asks3 h → Allows MayRecv (λ fs ended. ⊤) es (poll_asks op)
  polls_ask es h _ _ (walk.BindsOn place r op q g e) b i = (let its = subst (FitProgress r.inner.state) e (b.0.records place r g).2 in none es op (λ side. bind_silent side ⊤ NoName op.who op.left its.1.left))
  polls_ask es h _ _ (walk.Connects place r op g e) b i = (let its : connect.IsConnect op = subst HoldsConnect e (b.0.records place r g).0 in none es op (λ side. connect_silent side ⊤ NoName op.who op.left its.left))
  polls_ask es h _ _ (walk.Listens place r op q g e c) b i = (let its : IsListen op = subst FitListening e (b.0.records place r g).1 in none es op (λ side. listen_silent side ⊤ NoName op.who op.left its.left))
  polls_ask es h _ _ (walk.Awaits place r l op g e a) b i = (let its : IsAcceptOn l.side l.maker op = subst (HoldsAccept l.side l.maker) a (subst FitListening e (b.0.records place r g).1) in none es op (λ side. accept_silent side ⊤ NoName op.who op.left its.accept.left))
  polls_ask es h _ _ (walk.UdpCreates place create q g) b i = none es create.operation (λ side. subst (AreSilent side ⊤ NoName create.operation.who) (sym (b.0.udps place (UdpRecord.Creating create) g).1) (tt, tt))
  polls_ask es h _ _ (walk.UdpBindsOn place o op q g e) b i = (let its : UdpBindOn o.inner.side op = subst (FitUdpProgress o.inner.side) e (b.0.udps place (UdpRecord.Open o) g).0 in none es op (λ side. udp_bind_silent side ⊤ NoName op.who op.left its.bind.left))
  polls_ask es h _ _ (walk.UdpConnectsOn place o op q g e) b i = (let its : UdpConnectOn o.inner.side op = subst (FitConnecting o.inner.side) e (b.0.udps place (UdpRecord.Open o) g).1 in none es op (λ side. udp_connect_silent side ⊤ NoName op.who (λ x n. n) op.left its.connect.left))
  polls_ask es h _ _ (walk.UdpReconnectsOn place o op q g e) b i = (let its : UdpConnectOn o.inner.side op = subst (FitConnecting o.inner.side) e (b.0.udps place (UdpRecord.Open o) g).1 in none es op (λ side. udp_connect_silent side ⊤ NoName op.who (λ x n. n) op.left its.connect.left))
  polls_ask es h _ _ (walk.SendsOn place o out op left g e f s) b i =
      let its : SendOn o.inner.side op = subst (FitSending o.inner.side) (ap sending_in e ∙ ap send_op f) (b.0.udps place (UdpRecord.Open o) g).2 in
      none es (at_remote o.inner.remote op) (λ side. send_silent side ⊤ NoName (at_remote o.inner.remote op).who op.left its.send.left)
  polls_ask es h _ _ (walk.ReceivesOn place o inc op g e f) b i =
      let its : OfPart (Some op) = subst OfPart (ap receiving_in e ∙ ap receive_op f) (i.parted.0 place (UdpRecord.Open o) g) in
      named es (wanting inc.remote op) (λ z. absurd (omega (arith, its, z)))

  -- a datagram of 0.3
  begins_hold : (h : Here) (call : Operation → BesideCall) (op : Operation) (ended : End × List Item) → Asks3 h → Asks3 (record (with_beside h (datagram_begun h.machine.store.beside line call op ended)) { own = Used })
  begins_hold h call op (Waits, items) i = record { parted = (i.parted.0, tt); stays = stays_push line origin old h.machine.store.beside (call (left_of op items)) i.stays; quiet = λ c. (let q = i.quiet c in record { stands = q.stands; at = q.at; made = q.made }) }
  begins_hold h call op (Done given, items) i = record { parted = (i.parted.0, tt); stays = i.stays; quiet = λ c. (let q = i.quiet c in record { stands = q.stands; at = q.at; made = q.made }) }
  begins_hold h call op (Refused k given, items) i = record { parted = (i.parted.0, tt); stays = i.stays; quiet = λ c. (let q = i.quiet c in record { stands = q.stands; at = q.at; made = q.made }) }

  begins_ask : (es : List Entry) (h : Here) (place : ℕ) (o : OpenUdp) (call : Operation → BesideCall) (op polled : Operation) → StartsDatagram line origin h.machine.table place o call op polled → Allows MayRecv (λ fs ended. ⊤) es (poll_asks polled)
  begins_ask es h place o _ _ _ (StartsSend c s d bound is of known) = named es _ (λ z. inl refl)
  begins_ask es h place o _ _ _ (StartsReceive c s bound is of known) = named es _ (λ z. inl refl)

  polled_hold : (h : Here) (n : ℕ) (b : Beside) (call : Operation → BesideCall) (op : Operation) (ended : End × List Item) → origin ≡ Step.Poll n → beside_in h.machine.store.beside n ≡ Some b → Asks3 h → Asks3 (with_beside h (datagram_polled h.machine.store.beside n call op ended))
  polled_hold h n b call op (Waits, items) is e i = record { parted = i.parted; stays = stays_with line origin old h.machine.store.beside n b (call (left_of op items)) is e i.stays; quiet = λ c. (let q = i.quiet c in record { stands = q.stands; at = q.at; made = q.made }) }
  polled_hold h n b call op (Done given, items) is e i = record { parted = i.parted; stays = stays_without line origin old h.machine.store.beside n i.stays; quiet = λ c. (let q = i.quiet c in record { stands = q.stands; at = q.at; made = q.made }) }
  polled_hold h n b call op (Refused k given, items) is e i = record { parted = i.parted; stays = stays_without line origin old h.machine.store.beside n i.stays; quiet = λ c. (let q = i.quiet c in record { stands = q.stands; at = q.at; made = q.made }) }

  -- the line polls it
  is_polled : (now : List Beside) (n : ℕ) (b : Beside) → origin ≡ Step.Poll n → beside_in now n ≡ Some b → CallStays line origin old now n → (n ≡ line) ⊎ ((origin ≡ Step.Poll n) × IsSome (beside_in old n))
  is_polled now n b is e (IsOver over) = absurd (let p : None ≡ Some b = sym over ∙ e in cc)
  is_polled now n b is e (IsSame same) = inr (is, ap (λ (o : Option Beside). is_some o) (sym same ∙ e))
  is_polled now n b is e (IsOwn own) = inl own
  is_polled now n b is e (IsPolled p some) = inr (p, some)

  its_name : (h : Here) (n place : ℕ) (o : OpenUdp) (was : BesideCall) (call : Operation → BesideCall) (op polled : Operation) → PollsDatagram place o was call op polled → FitBeside h.machine.store.records n was → polled.who.id ≡ own_of n
  its_name h n place o _ _ _ _ (PollsSend op) f = f.0.of_line
  its_name h n place o _ _ _ _ (PollsReceive op) f = f.0.of_line

  polled_ask : (es : List Entry) (h : Here) (n : ℕ) (b : Beside) (place : ℕ) (o : OpenUdp) (call : Operation → BesideCall) (op polled : Operation) → origin ≡ Step.Poll n → beside_in h.machine.store.beside n ≡ Some b → PollsDatagram place o b.call call op polled → Datagrams h → Asks3 h → Allows MayRecv (λ fs ended. ⊤) es (poll_asks polled)
  polled_ask es h n b place o call op polled is e polls d i =
      let its = found_has h.machine.store.beside n b e in
      let name : polled.who.id ≡ own_of n = its_name h n place o b.call call op polled polls (subst (λ (k : ℕ). FitBeside h.machine.store.records k b.call) its.1 (d.besides b its.0)) in
      let same : n ≡ polled.who.id.step = ap (λ (x : OpId). x.step) (sym name) in
      named es polled (λ z. subst (λ (k : ℕ). (k ≡ line) ⊎ ((origin ≡ Step.Poll k) × IsSome (beside_in old k))) same (is_polled h.machine.store.beside n b is e (i.stays n)))

  -- a lookup of 0.3
  looked_hold : (h : Here) (call : BesideCall) (told : Polled (List IpAddress)) → Asks3 h → Asks3 (with_beside h (begun_lookup h.machine.store.beside (beside_as line call) (Ok told)))
  looked_hold h call polled.Pending i = record { parted = i.parted; stays = stays_push line origin old h.machine.store.beside call i.stays; quiet = λ c. (let q = i.quiet c in record { stands = q.stands; at = q.at; made = q.made }) }
  looked_hold h call (polled.Ready names) i = record { parted = i.parted; stays = i.stays; quiet = λ c. (let q = i.quiet c in record { stands = q.stands; at = q.at; made = q.made }) }
  looked_hold h call (polled.Code k) i = record { parted = i.parted; stays = i.stays; quiet = λ c. (let q = i.quiet c in record { stands = q.stands; at = q.at; made = q.made }) }

  -- a write's job asks for no datagram
  write_silent : (side : OpId) (who : Who) (items : List Item) → WriteLeft items → AreSilent side ⊤ NoName who items
  write_silent side who _ (ToWrite rest) = (tt, tt)
  write_silent side who _ (ToWriteAndShut rest) = (tt, (tt, tt))
  write_silent side who _ ToShut = (tt, tt)
  write_silent side who _ Written = tt

  job_ask : (es : List Entry) (job : Job) (end : End) → WriteLeft job.write.left → Allows MayRecv (λ fs j. ⊤) es (job_in job end)
  job_ask es job Waits k = allows_then MayRecv (λ fs ended. ⊤) (λ fs j. ⊤) es (poll_asks job.write) _ (none es job.write (λ side. write_silent side job.write.who job.write.left k)) (λ fs ended q. tt)
  job_ask es job _ k = tt

  turn_ask : (es : List Entry) (side : OpId) (w : WriteState) → WritesOn steps es side w → Allows MayRecv (λ fs done. ⊤) es (turn_asks w)
  turn_ask es side (WriteState.Writing job) on = allows_then MayRecv (λ fs j. ⊤) (λ fs done. ⊤) es (job_asks job) _ (job_ask es job job.end on.left) (λ fs j q. tt)
  turn_ask es side (WriteState.Closing job) on = allows_then MayRecv (λ fs j. ⊤) (λ fs done. ⊤) es (job_asks job) _ (job_ask es job job.end on.left) (λ fs j q. tt)
  turn_ask es side _ on = tt

  write_ask : (es : List Entry) (h : Here) (side : OpId) (bytes : List ℕ) → Asks3 h → Allows MayRecv (λ fs told. Asks3 (record h { own = Used })) es (write_asks (own_of line) side bytes)
  unfolding bind
  write_ask es h side bytes i = (tt, λ told f front. spent h i)

  question_ask : (es : List Entry) (n : ℕ) (side : OpId) (c : Call) → IsQuestionOf line origin n side c → MayRecv es (own_of n) c
  question_ask es n side (Call.Recv x) q = absurd q
  question_ask es n side _ q = tt

  udp_question_ask : (es : List Entry) (n : ℕ) (side : OpId) (c : Call) → IsUdpQuestionOf line origin n side c → MayRecv es (own_of n) c
  udp_question_ask es n side (Call.Recv x) q = absurd q
  udp_question_ask es n side _ q = tt

  -- the record changes
  becomes_hold : (h now : Here) → Becomes contexts line origin h now → now.machine.store.beside ≡ h.machine.store.beside → now.machine.store.standing ≡ h.machine.store.standing → now.at ≡ h.at → now.made ≡ h.made → Asks3 h → Asks3 now
  becomes_hold h now k b s a m i = moved h now (becomes_parted contexts line origin h now k i.parted) b s a m i

  begun_hold : (h : Here) (r : Result Create ErrorCode) → Parted (udp_begun h r) → Asks3 h → Asks3 (udp_begun h r)
  begun_hold h (Ok create) p i = moved h _ p refl refl refl refl i
  begun_hold h (Err c) p i = moved h _ p refl refl refl refl i

  pub askers_asks : (es : List Entry) (h : Here) (A : Type 0) (tree : Asks A) (end : A → Here)
      → Asked contexts line origin es h A tree end → Base contexts line origin h → Licensed contexts steps line origin es h → Asks3 h
      → Allows MayRecv (λ fs x. Asks3 (end x)) es tree
  askers_asks es h _ _ _ (asking.Questions place n r side c at g o q) b l i = (question_ask es n side c q.0, λ told f. i)
  askers_asks es h _ _ _ (asking.SetsBacklog place r side backlog at g s is) b l i = (tt, λ told f. i)
  askers_asks es h _ _ _ (asking.Learns place r side at g e) b l i = (tt, λ told f. becomes_hold h _ (Learnt place r side told at g e) refl refl refl refl i)
  askers_asks es h _ _ _ (asking.Closes place r side q g e) b l i = (tt, λ told f. becomes_hold h _ (IsClosed place r side q g e) refl refl refl refl i)
  askers_asks es h _ _ end (asking.MarksOne kind parent sock m) b l i = marks es _ h.machine.table kind parent sock end (λ made. remade h made.1 h.made (λ c. (i.quiet c).made) i)
  askers_asks es h _ _ _ (asking.AsksCreate tells fails face ctx family c a o past) b l i = creates tells fails face es h ctx family i
  askers_asks es h _ _ end (asking.MarksAccepted c s place r is e o g) b l i = marks es _ h.machine.table (Tcp2 place) (Some s) (side_at (tcp2_at h.machine.store.records place)) end (λ made. remade h made.1 (made_so place made.0) (λ q. accepted_made place made.0) i)
  askers_asks es h _ _ end (asking.MarksPlain c s remaining place r is e o g) b l i = marks es _ h.machine.table (Tcp3 place) (Some s) (side_at (tcp2_at h.machine.store.records place)) end (λ made. remade h made.1 Past (λ q. tt) i)
  askers_asks es h _ _ end (asking.MarksListener n handle reached place r q m g has e) b l i = marks es _ h.machine.table (Listen3 place) (Some handle) (side_at (tcp2_at h.machine.store.records place)) end (λ made. remade h made.1 Past (λ q. tt) i)
  askers_asks es h _ _ end (asking.MarksResult socket place slot r m made e g) b l i = marks es _ h.machine.table (Result3 slot) (Some socket) (side_at (tcp2_at h.machine.store.records place)) end (λ made. remade h made.1 Past (λ q. tt) i)
  askers_asks es h _ _ _ (asking.WritesOnce c handle place given end r s half permit is e f at g q x own) b l i = write_ask es h half.side (take 4294967295 given) i
  askers_asks es h _ _ _ (asking.Polls op after k) b l i = onto after es (poll_asks op) (λ end. polls_hold h op after k end i) (polls_ask es h op after k b i)
  askers_asks es h _ _ _ (asking.BeginsDatagram place o call op polled at g starts made own) b l i = onto _ es (poll_asks polled) (λ ended. begins_hold h call op ended i) (begins_ask es h place o call op polled starts)
  askers_asks es h _ _ _ (asking.PollsBeside n c place o call op polled is at g polls) b l i = onto _ es (poll_asks polled) (λ ended. polled_hold h n c call op ended is at i) (polled_ask es h n c place o call op polled is at polls b.3 i)
  askers_asks es h _ _ _ (asking.Turns place r s g e) b l i =
      let f = (l.fine.records place r g).streams s e in
      onto _ es (turn_asks s.writer) (λ done. moved h _ (put_parted h place (with_writer r s done.1) i.parted.0, i.parted.1) refl refl refl refl i) (turn_ask es f.side s.writer f.writes)
  askers_asks es h _ _ _ (asking.GivesUp place r q goes g) b l i = onto _ es (give_up_asks r.listening) (λ done. becomes_hold h _ (GivenUp place r q goes g) refl refl refl refl i) (quietly es _ (λ side. given_up_silent side ⊤ NoName es r.listening))
  askers_asks es h _ _ _ (asking.UdpQuestions place n o c at g q) b l i = (udp_question_ask es n o.inner.side c q, λ told f. i)
  askers_asks es h _ _ _ (asking.UdpDisconnects place o at g is) b l i = (tt, λ told f. becomes_hold h _ (UdpLearnt place o (record o.inner { bound = true }) g refl) refl refl refl refl i)
  askers_asks es h _ _ _ (asking.UdpLearns place part o at g) b l i = (tt, λ told f. becomes_hold h _ (UdpLearnt place o (udp_after_local o.inner (told_addr told)).1 g (learnt_side o.inner (told_addr told))) refl refl refl refl i)
  askers_asks es h _ _ _ (asking.UdpPeers place o at g) b l i = (tt, λ told f. becomes_hold h _ (UdpLearnt place o (after_peer o.inner (told_addr told)) g refl) refl refl refl refl i)
  askers_asks es h _ _ _ (asking.UdpCloses place n o q g) b l i = (tt, λ told f. becomes_hold h _ (UdpIsClosed place o q g) refl refl refl refl i)
  askers_asks es h _ _ _ (asking.UdpBegins face ctx family c may a o past) b l i = (tt, λ told f. begun_hold h (udp_after_create (own_of line) ctx.name family (told_done told)) (becomes_parted contexts line origin h _ (UdpBegun face ctx family (told_done told) c o past) i.parted) i)
  askers_asks es h _ _ end (asking.MarksUdp face place u g) b l i = marks es _ h.machine.table _ _ _ end (λ made. remade h made.1 Past (λ q. tt) i)
  askers_asks es h _ _ end (asking.MarksStream place n handle reached kind m new e) b l i = marks es _ h.machine.table _ _ _ end (λ made. remade h made.1 (ToSend n handle reached) (λ q. marked_next h n handle reached kind place m (i.quiet q).made) i)
  askers_asks es h _ _ end (asking.MarksError n handle place handles m k e f) b l i = marks es _ h.machine.table ErrorValue (Some handle) (side_at (tcp2_at h.machine.store.records place)) end (λ made. remade h made.1 h.made (λ c. (i.quiet c).made) i)
  askers_asks es h _ _ _ (asking.UdpGivesUp place create q g) b l i = onto _ es (create_cancel_asks create) (λ done. becomes_hold h _ (UdpGivenUp place create q g) refl refl refl refl i) (quietly es _ (λ side. cancelled_silent side ⊤ NoName es create))
  askers_asks es h _ _ _ (asking.Resolves host records l same) b x i = (tt, λ told f. becomes_hold h _ (Resolved host (records told) l (same told)) refl refl refl refl i)
  askers_asks es h _ _ _ (asking.Looks place op g) b l i = (tt, λ told f. i)
  askers_asks es h _ _ _ (asking.ResolvesBeside host k) b l i = (tt, λ told f. looked_hold h (Resolve host) (told_names told) i)
  askers_asks es h _ _ _ (asking.LooksBeside n call host g e) b l i = (tt, λ told f. i)

  -- the law
  unfoldable pub askers : Rests contexts line origin (λ es h. (Base contexts line origin h × Keeps es h.machine.store.records) × (Wilds line es h × Licensed contexts steps line origin es h))
  askers = record {
    P = MayRecv;
    Inv = λ es h. Asks3 h;
    moves = λ es h now m b i. moves_askers h now m i;
    asks = λ es h A tree end q b i. askers_asks es h A tree end q b.0.0 b.1.1 i;
  }

  pub begins_askers : BeginsWrites askers
  unfolding askers
  begins_askers = begins_by askers (λ es h place n r s half permit bytes at g e w within used b i. moved h _ (put_parted h place _ i.parted.0, tt) refl refl refl refl i)
