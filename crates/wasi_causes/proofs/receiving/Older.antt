-- The law that datagrams were asked for by names that were given before.
use Rattle.wasi_walks.proofs.walks.Law.{BeginsWrites, Rests, begins_by}
use Rattle.std.specs.Prelude.{length, take}
use Rattle.wasi_tcp.specs.Halves.{write_asks}
unfoldable use Rattle.wasi_causes.proofs.Words.{bind}
use Rattle.wasi_walks.proofs.walks.Asked.{BeginsDatagram, PollsBeside, MarksResult, WritesOnce}
use Rattle.wasi_walks.proofs.walks.Asked.{Asked, Questions, SetsBacklog, Learns, Closes, MarksOne, AsksCreate, MarksAccepted, MarksListener, MarksPlain, Polls, Turns, GivesUp, UdpQuestions, UdpDisconnects, UdpLearns, UdpPeers, UdpCloses, UdpBegins, MarksUdp, MarksStream, MarksError, UdpGivesUp, Resolves, Looks}
use Rattle.wasi_walks.proofs.walks.Asked.{ResolvesBeside, LooksBeside}
use Rattle.host_store.specs.declared.kind.Kind.TheVariants.{Listen3, Result3, Tcp3}
use Rattle.wasi_causes.proofs.Words.{made_to, Stop, Allows, Ask, AskWrite, Asks, Give, Call, End, Entry, Err, ErrorCode, ErrorValue, HoldsAccept, HoldsConnect, IsAcceptOn, Item, Job, Kind, List, None, Ok, OpId, Operation, Option, Result, Socket, Some, Step, Streams, Tcp2, TcpRecord, Told, Waits, WasiSocketsCtx, WriteState, [], allows_keep, allows_then, ap, arith, bind, entry, give_up_asks, has_split, inl, inr, job_asks, job_in, length, make_asks, new_asks, own_of, poll_asks, refl, side_at, side_of, subst, sym, turn_asks, ℕ, ⊤, ◌+◌, ◌++◌, ◌∙◌, ◌∷◌, ◌≡◌}
use Rattle.wasi_addr.specs.declared.address.SocketAddrUse.TheVariants.{UdpReceive}
use Rattle.wasi_tcp.specs.Connect as connect
use Rattle.wasi_tcp.specs.Listen.{IsListen}
use Rattle.wasi_udp.specs.Create.{Create, after_create as udp_after_create, create_cancel_asks}
use Rattle.wasi_udp.specs.Receive.{wanting}
use Rattle.wasi_udp.specs.Send.{at_remote}
use Rattle.wasi_world.specs.Operation.{LastAsk, NothingLast, Who, last_ask}
use Rattle.wasi_world.specs.Operation.{Given}
use Rattle.host_store.specs.Kinds.{udp_kind}
use Rattle.wasi_records.specs.Records.{tcp2_at, udp2_at}
use Rattle.udp_records.specs.Udp.{udp_side}
use Rattle.host_udp.specs.UdpCreates.{udp_side_at}
use Rattle.udp_records.specs.declared.udp.UdpRecord.{UdpRecord}
use Rattle.udp_records.specs.declared.datagrams.Incoming.{Incoming as IncomingStream}
use Rattle.udp_records.specs.declared.datagrams.Receiving.{Receiving}
use Rattle.wasi_walks.specs.Allowed.{Has}
use Rattle.wasi_walks.proofs.Words.{allows_weaker, told_done, ◌≤◌}
use Rattle.wasi_walks.proofs.Fronts.{PollLaw, polls_by}
use Rattle.wasi_walks.proofs.claims.Law.{Base}
use Rattle.wasi_walks.proofs.fits.Polls.{Anything}
use Rattle.wasi_walks.proofs.fits.Records.{FitConnecting, FitListening, FitProgress, FitSending, FitUdpProgress, SendOn, UdpBindOn, UdpConnectOn}
use Rattle.wasi_walks.proofs.received.Polls.{AreSilent, Elsewhere, NoName, Spares, silent_poll}
use Rattle.wasi_walks.proofs.received.Silent.{accept_silent, bind_silent, cancelled_silent, connect_silent, given_up_silent, listen_silent, made_silent, new_silent, send_silent, udp_bind_silent, udp_connect_silent}
use Rattle.wasi_walks.proofs.walks.Here.{IsOlder, Grows, grows_to, next_grows, older_unused, older_used}
use Rattle.wasi_walks.proofs.walks.Moves as walk
use Rattle.wasi_walks.proofs.fits.Datagrams.{DatagramOn, FitBeside}
use Rattle.wasi_records.specs.Records.{udp2_at}
use Rattle.wasi_records.specs.declared.records.Record.{Record}
use Rattle.udp_records.specs.declared.udp.OpenUdp.{OpenUdp}
use Rattle.host_store.specs.declared.beside.BesideCall.{BesideCall}
use Rattle.wasi_causes.proofs.Beside.{find_has}
use Rattle.wasi_causes.proofs.Words.{HandleTable}
use Rattle.wasi_walks.proofs.walks.Moves.{Interface, tcp_kind, Held, Here, IsQuestionOf, IsUdpQuestionOf, Move, Names, Own, ToConnect, Unused, Used, receive_op, receiving_in, send_op, sending_in, udp_begun}
use Rattle.wasi_causes.proofs.receiving.Named.{IsFirst, NamesApart, job_name, name_of_op, streams_name}
use Rattle.wasi_causes.proofs.receiving.Streams.{IsElse}

-- no question does anything to a stream
pub question_else : (line : ℕ) (origin : Step) (n : ℕ) (x : OpId) (c : Call) → IsQuestionOf line origin n x c → IsElse c
question_else line origin n x (Call.Recv y) q = absurd q
question_else line origin n x (Call.Check ctx a UdpReceive) q = absurd q
question_else line origin n x (Call.Made handle kind parent sock) q = absurd q
question_else line origin n x _ q = tt

pub udp_question_else : (line : ℕ) (origin : Step) (n : ℕ) (x : OpId) (c : Call) → IsUdpQuestionOf line origin n x c → IsElse c
udp_question_else line origin n x (Call.Recv y) q = absurd q
udp_question_else line origin n x (Call.Check ctx a UdpReceive) q = absurd q
udp_question_else line origin n x (Call.Made handle kind parent sock) q = absurd q
udp_question_else line origin n x _ q = tt

-- each `recv`, but by the first name of a line, is by a name that was given
abbrev pub AllOlder : ℕ → Own → List Entry → Type 0
AllOlder line own es = (e : Entry) (x : OpId) → Has es e → e.call ≡ Call.Recv x → 1 ≤ e.op.part → IsOlder line own e.op

-- so this ask may come
abbrev May : ℕ → Own → OpId → Call → Type 0
May line own op c = (x : OpId) → c ≡ Call.Recv x → 1 ≤ op.part → IsOlder line own op

-- with other names
pub all_grow : (line : ℕ) (own now : Own) (es : List Entry) → Grows line own now → AllOlder line own es → AllOlder line now es
all_grow line own now es g i e x h q l = g e.op (i e x h q l)

-- the names of a call
pub else_none : (line : ℕ) (own : Own) (op : OpId) (c : Call) → IsElse c → May line own op c
else_none line own op c n x e l = absurd (subst IsElse e n)

first_none : (line : ℕ) (own : Own) (op : OpId) (c : Call) → op.part ≡ 0 → May line own op c
first_none line own op c z x e l = absurd (omega (arith, z, l))

spared_none : (line : ℕ) (own : Own) (op : OpId) (c : Call) → ((side : OpId) → Spares side NoName op c) → May line own op c
spared_none line own op c k x e l = absurd ((subst (λ (d : Call). Spares x NoName op d) e (k x)) refl)

module _ (line : ℕ) (own : Own) where
  -- one entry more
  pub one_older : (es : List Entry) (op : OpId) (c : Call) (told : Told) → May line own op c → AllOlder line own es → AllOlder line own (es ++ entry op c told ∷ [])
  one_older es op c told m i e x h q l = elim (has_split es (entry op c told) e h) [
    | inl old ↦ i e x old q l
    | inr new ↦ subst (λ (d : Entry). IsOlder line own d.op) new (m x (ap (λ (d : Entry). d.call) new ∙ q) (subst (λ (d : Entry). 1 ≤ d.op.part) (sym new) l))
  ]

  -- along a tree
  along : {A : Type 0} (P : List Entry → OpId → Call → Type 0) (es : List Entry) (asks : Asks A) → ((fs : List Entry) (op : OpId) (c : Call) → P fs op c → May line own op c) → AllOlder line own es → Allows P (λ fs a. ⊤) es asks → Allows Anything (λ fs a. AllOlder line own fs) es asks
  along P es asks k i n =
      allows_weaker Anything (λ fs a. AllOlder line own fs × ⊤) (λ fs a. AllOlder line own fs) (λ fs a m. m.0) es asks
      (allows_keep P Anything (λ fs. AllOlder line own fs) (λ fs a. ⊤) (λ fs op c t fits m s. one_older fs op c t (k fs op c s) m) (λ fs op c s. tt) es asks i n)

  -- which asks no network socket for a datagram
  abbrev Nothing : List Entry → OpId → Call → Type 0
  Nothing es op c = May line own op c

  for_all : {A : Type 0} (es : List Entry) (asks : Asks A) → ((side : OpId) → Allows (Elsewhere side ⊤ NoName) (λ fs a. ⊤) es asks) → Allows Nothing (λ fs a. ⊤) es asks
  for_all es (Give a) k = tt
  for_all es (Ask op c next) k = (spared_none line own op c (λ side. (k side).0 tt), λ told f. for_all _ (next told) (λ side. (k side).1 told f))
  for_all es (AskWrite op sock bytes next) k = (spared_none line own op _ (λ side. (k side).0 tt), λ told f g. for_all _ (next told) (λ side. (k side).1 told f g))

  pub silent : {A : Type 0} (es : List Entry) (asks : Asks A) → AllOlder line own es → ((side : OpId) → Allows (Elsewhere side ⊤ NoName) (λ fs a. ⊤) es asks) → Allows Anything (λ fs a. AllOlder line own fs) es asks
  silent es asks i k = along Nothing es asks (λ fs op c m. m) i (for_all es asks k)

  -- a poll asks by its operation's name
  module _ (who : Who) where
    abbrev By : List Entry → OpId → Call → Type 0
    By es op c = op ≡ who.id

    last_by : (es : List Entry) (last : LastAsk) (c : ErrorCode) (given : Given) → Allows By (λ fs (ended : End × List Item). ⊤) es (last_ask who last c given)
    unfolding bind
    last_by es NothingLast c given = tt
    last_by es _ c given = (refl, λ t fits. tt)

    by_law : PollLaw By who (λ es items. ⊤) (λ fs ended. ⊤)
    by_law = record {
      asks = λ es i items c a k. (refl, λ told fits. tt);
      writes = λ es b bytes items k. (refl, λ told fits front. tt);
      becomes = λ es i j items b k. tt;
      drops = λ es i items spent k. tt;
      ends = λ es i items c given k. last_by es who.last c given;
      waits = λ es items k. tt;
      done = λ es given g k. tt;
    }

  poll_by : (op : Operation) (es : List Entry) → Allows (By op.who) (λ fs ended. ⊤) es (poll_asks op)
  poll_by op es = polls_by (by_law op.who) op.left es tt

  -- of a name that was given, or is a line's first
  by_older : (who : Who) → (1 ≤ who.id.part → IsOlder line own who.id) → (fs : List Entry) (op : OpId) (c : Call) → By who fs op c → May line own op c
  by_older who k fs op c e x q l = subst (IsOlder line own) (sym e) (k (subst (λ (y : OpId). 1 ≤ y.part) e l))

  pub polled : (op : Operation) (es : List Entry) → AllOlder line own es → (1 ≤ op.who.id.part → IsOlder line own op.who.id) → Allows Anything (λ fs ended. AllOlder line own fs) es (poll_asks op)
  polled op es i k = along (By op.who) es (poll_asks op) (by_older op.who k) i (poll_by op es)

  -- a writer's turn is by the first name of a line
  job_by : (es : List Entry) (job : Job) (end : End) → Allows (By job.write.who) (λ fs j. ⊤) es (job_in job end)
  job_by es job Waits = allows_then (By job.write.who) (λ fs ended. ⊤) (λ fs j. ⊤) es (poll_asks job.write) _ (poll_by job.write es) (λ fs ended k. tt)
  job_by es job _ = tt

  job_older : (es : List Entry) (job : Job) → AllOlder line own es → job.write.who.id.part ≡ 0 → Allows Anything (λ fs j. AllOlder line own fs) es (job_asks job)
  job_older es job i z = along (By job.write.who) es (job_asks job) (by_older job.write.who (λ l. absurd (omega (arith, z, l)))) i (job_by es job job.end)

  turned : (es : List Entry) (w : WriteState) → AllOlder line own es → IsFirst (job_name w) → Allows Anything (λ fs done. AllOlder line own fs) es (turn_asks w)
  turned es (WriteState.Writing job) i f = allows_then Anything (λ fs j. AllOlder line own fs) (λ fs done. AllOlder line own fs) es (job_asks job) _ (job_older es job i f) (λ fs j k. k)
  turned es (WriteState.Closing job) i f = allows_then Anything (λ fs j. AllOlder line own fs) (λ fs done. AllOlder line own fs) es (job_asks job) _ (job_older es job i f) (λ fs j k. k)
  turned es _ i f = i

-- a datagram of 0.3 is polled by the first name of its line
of_first : (op : OpId) (n : ℕ) → op ≡ own_of n → 1 ≤ op.part → ⊥
of_first op n e l = let first : op.part ≡ 0 = ap (λ (x : OpId). x.part) e in omega (arith, first, l)

pub starts_first : (line : ℕ) (origin : Step) {t : HandleTable} {place : ℕ} {o : OpenUdp} {call : Operation → BesideCall} {op polls : Operation} → walk.StartsDatagram line origin t place o call op polls → polls.who.id ≡ own_of line
starts_first line origin (walk.StartsSend c s d bound is at known) = refl
starts_first line origin (walk.StartsReceive c s bound is at known) = refl

pub polls_first : (records : List Record) {n place : ℕ} {o : OpenUdp} {was : BesideCall} {call : Operation → BesideCall} {op polls : Operation} → walk.PollsDatagram place o was call op polls → FitBeside records n was → polls.who.id ≡ own_of n
polls_first records (walk.PollsSend op) fit = fit.0.of_line
polls_first records (walk.PollsReceive op) fit = fit.0.of_line

-- and is on the network socket of its record
pub starts_side : (line : ℕ) (origin : Step) {t : HandleTable} {place : ℕ} {o : OpenUdp} {call : Operation → BesideCall} {op polls : Operation} → walk.StartsDatagram line origin t place o call op polls → polls.who.side ≡ o.inner.side
starts_side line origin (walk.StartsSend c s d bound is at known) = refl
starts_side line origin (walk.StartsReceive c s bound is at known) = refl

same_side : (records : List Record) (n place : ℕ) (op : Operation) (o : OpenUdp) → udp2_at records place ≡ Some (UdpRecord.Open o) → DatagramOn records n place op → op.who.side ≡ o.inner.side
same_side records n place op o g on = let same : on.was ≡ o = (let p : Some (UdpRecord.Open on.was) ≡ Some (UdpRecord.Open o) = sym on.at ∙ g in cc) in on.of_side ∙ ap (λ (x : OpenUdp). x.inner.side) same

pub polls_side : (records : List Record) (n : ℕ) {place : ℕ} {o : OpenUdp} {was : BesideCall} {call : Operation → BesideCall} {op polls : Operation} → walk.PollsDatagram place o was call op polls → FitBeside records n was
    → (now : OpenUdp) → udp2_at records place ≡ Some (UdpRecord.Open now) → polls.who.side ≡ now.inner.side
polls_side records n {place} (walk.PollsSend op) fit now g = same_side records n place op now g fit.0
polls_side records n {place} (walk.PollsReceive op) fit now g = same_side records n place op now g fit.0

module _ (contexts : List WasiSocketsCtx) (line : ℕ) (origin : Step) where
  -- what it rests on
  abbrev pub B : List Entry → Here → Type 0
  B es h = Base contexts line origin h × NamesApart line h.own h.machine.store.records

  abbrev pub Inv : List Entry → Here → Type 0
  Inv es h = AllOlder line h.own es

  -- the line has begun something
  used : (es : List Entry) (h : Here) → Inv es h → AllOlder line Used es
  used es h i = all_grow line h.own Used es (older_used line h.own) i

  connecting : (es : List Entry) (h : Here) (place : ℕ) → Inv es h → AllOlder line (ToConnect place) es
  connecting es h place i = all_grow line h.own (ToConnect place) es (older_used line h.own) i

  next : (es : List Entry) (h : Here) (n : ℕ) → h.own ≡ Names n → Inv es h → AllOlder line (Names (n + 1)) es
  next es h n own i = all_grow line h.own (Names (n + 1)) es (next_grows line n h.own own) i

  pub moves_older : (es : List Entry) (h now : Here) → Move line origin h now → B es h → Inv es h → Inv es now
  moves_older es _ _ (walk.Spends h e) b i = used es h i
  moves_older es _ _ (walk.SpendsNames h n e) b i = used es h i
  moves_older es _ _ (walk.Counts h e) b i = all_grow line h.own (Names 1) es (grows_to line h.own Unused (Names 1) e (older_unused line (Names 1))) i
  moves_older es _ _ (walk.BeginsConnect h place r x a bound at g d to known idle own) b i = used es h i
  moves_older es _ _ (walk.BeginsBind h place r x a at g d to own) b i = used es h i
  moves_older es _ _ (walk.BeginsWrite h place n r s half permit bytes at g e w within own) b i = used es h i
  moves_older es _ _ (walk.BeginsListen h place r x bound at g d known free none to idle own) b i = used es h i
  moves_older es _ _ (walk.BeginsAccept h place n r l at g e a own) b i = next es h n own i
  moves_older es _ _ (walk.BeginsUdpBind h place o a at g to own) b i = used es h i
  moves_older es _ _ (walk.BeginsUdpConnect h place o a bound at g to known none own) b i = connecting es h place i
  moves_older es _ _ (walk.RecallsConnect h ids place e own) b i = connecting es h place i
  moves_older es _ _ (walk.RecallsStreams h ids place handle e own) b i = connecting es h place i
  moves_older es _ _ (walk.EndsConnect h place own over) b i = used es h i
  moves_older es _ _ (walk.BeginsSend h place n o out d bound at g e is known own) b i = next es h n own i
  moves_older es _ _ (walk.BeginsReceive h place n o inc bound at g e is own) b i = next es h n own i
  moves_older es _ _ _ b i = i

  -- == polls
  quiet_poll : (es : List Entry) (h : Here) (op : Operation) → ((side : OpId) → AreSilent side ⊤ NoName op.who op.left) → Inv es h → Allows Anything (λ fs ended. AllOlder line h.own fs) es (poll_asks op)
  quiet_poll es h op n i = silent line h.own es (poll_asks op) i (λ side. silent_poll side ⊤ NoName op es (n side))

  listens : (fs : List Entry) (h : Here) (place : ℕ) (r : TcpRecord) (op : Operation) (ended : End × List Item) → AllOlder line h.own fs → Inv fs (walk.put h place (walk.listen_after op r ended))
  listens fs h place r op ended i = i

  polls_older : (es : List Entry) (h : Here) (op : Operation) (after : End × List Item → Here) → Held h op after → B es h → Inv es h → Allows Anything (λ fs ended. Inv fs (after ended)) es (poll_asks op)
  polls_older es h _ _ (walk.BindsOn place r op q g e) b i = let its = subst (FitProgress r.inner.state) e (b.0.0.records place r g).2 in
      quiet_poll es h op (λ side. bind_silent side ⊤ NoName op.who op.left its.1.left) i
  polls_older es h _ _ (walk.Connects place r op g e) b i = let its : connect.IsConnect op = subst HoldsConnect e (b.0.0.records place r g).0 in
      quiet_poll es h op (λ side. connect_silent side ⊤ NoName op.who op.left its.left) i
  polls_older es h _ _ (walk.Listens place r op q g e c) b i = let its : IsListen op = subst FitListening e (b.0.0.records place r g).1 in
      quiet_poll es h op (λ side. listen_silent side ⊤ NoName op.who op.left its.left) i
  polls_older es h _ _ (walk.Awaits place r l op g e a) b i = let its : IsAcceptOn l.side l.maker op = subst (HoldsAccept l.side l.maker) a (subst FitListening e (b.0.0.records place r g).1) in
      quiet_poll es h op (λ side. accept_silent side ⊤ NoName op.who op.left its.accept.left) i
  polls_older es h _ _ (walk.UdpCreates place create q g) b i =
      quiet_poll es h create.operation (λ side. subst (AreSilent side ⊤ NoName create.operation.who) (sym (b.0.0.udps place (UdpRecord.Creating create) g).1) (tt, tt)) i
  polls_older es h _ _ (walk.UdpBindsOn place o op q g e) b i = let its : UdpBindOn o.inner.side op = subst (FitUdpProgress o.inner.side) e (b.0.0.udps place (UdpRecord.Open o) g).0 in
      quiet_poll es h op (λ side. udp_bind_silent side ⊤ NoName op.who op.left its.bind.left) i
  polls_older es h _ _ (walk.UdpConnectsOn place o op q g e) b i = let its : UdpConnectOn o.inner.side op = subst (FitConnecting o.inner.side) e (b.0.0.udps place (UdpRecord.Open o) g).1 in
      quiet_poll es h op (λ side. udp_connect_silent side ⊤ NoName op.who (λ x n. n) op.left its.connect.left) i
  polls_older es h _ _ (walk.UdpReconnectsOn place o op q g e) b i = let its : UdpConnectOn o.inner.side op = subst (FitConnecting o.inner.side) e (b.0.0.udps place (UdpRecord.Open o) g).1 in
      quiet_poll es h op (λ side. udp_connect_silent side ⊤ NoName op.who (λ x n. n) op.left its.connect.left) i
  polls_older es h _ _ (walk.SendsOn place o out op left g e f s) b i =
      let its : SendOn o.inner.side op = subst (FitSending o.inner.side) (ap sending_in e ∙ ap send_op f) (b.0.0.udps place (UdpRecord.Open o) g).2 in
      quiet_poll es h (at_remote o.inner.remote op) (λ side. send_silent side ⊤ NoName op.who op.left its.send.left) i
  polls_older es h _ _ (walk.ReceivesOn place o inc op g e f) b i =
      polled line h.own (wanting inc.remote op) es i
      (λ l. (b.1.later place (UdpRecord.Open o) op.who.id g (ap (λ (x : Option IncomingStream). name_of_op (receiving_in x)) e ∙ ap (λ (r : Receiving). name_of_op (receive_op r)) f)).1)

  -- == what is asked
  asked : (es : List Entry) (own : Own) (op : OpId) (c : Call) (told : Told) → IsElse c → AllOlder line own es → AllOlder line own (es ++ entry op c told ∷ [])
  asked es own op c told n i = one_older line own es op c told (else_none line own op c n) i

  marks : (es : List Entry) (h : Here) (op : OpId) (kind : Kind) (parent : Option ℕ) (sock : Option OpId) → Inv es h → Allows Anything (λ fs made. AllOlder line h.own fs) es (make_asks h.machine.table op kind parent sock)
  marks es h op kind parent sock i = silent line h.own es (make_asks h.machine.table op kind parent sock) i (λ side. made_silent side ⊤ NoName es h.machine.table op kind parent sock)

  joins : {T : Type 0} (tells : Result ℕ Stop → T) (fails : ErrorCode → T) (face : Interface) (es : List Entry) (h : Here) (op : OpId) (made : Result Socket ErrorCode) → Inv es h → Allows Anything (λ fs done. AllOlder line Used fs) es (made_to tells fails (tcp_kind face) h.machine op made)
  joins tells fails face es h op (Err c) i = used es h i
  joins tells fails face es h op (Ok socket) i =
      allows_then Anything (λ fs made. AllOlder line h.own fs) (λ fs done. AllOlder line Used fs) es (make_asks h.machine.table op (tcp_kind face (length h.machine.store.records)) None (side_of socket)) _
      (marks es h op (tcp_kind face (length h.machine.store.records)) None (side_of socket) i) (λ fs made k. all_grow line h.own Used fs (older_used line h.own) k)

  begun : (es : List Entry) (h : Here) (made : Result Create ErrorCode) → AllOlder line h.own es → Inv es (udp_begun h made)
  begun es h (Ok create) i = used es h i
  begun es h (Err c) i = used es h i

  -- one write is asked
  wrote : (es : List Entry) (h : Here) (side : OpId) (bytes : List ℕ) → Inv es h → Allows Anything (λ fs x. Inv fs (record h { own = Used })) es (write_asks (own_of line) side bytes)
  unfolding bind
  wrote es h side bytes i = (tt, λ told f front. used _ h (asked es h.own (own_of line) (Call.Write side (length bytes)) told tt i))

  pub older_asks : (es : List Entry) (h : Here) (A : Type 0) (tree : Asks A) (end : A → Here)
      → Asked contexts line origin es h A tree end → B es h → Inv es h
      → Allows Anything (λ fs x. Inv fs (end x)) es tree
  older_asks es h _ _ _ (Questions place n r x c at g o q) b i = (tt, λ told f. asked es h.own (own_of n) c told (question_else line origin n x c q.0) i)
  older_asks es h _ _ _ (SetsBacklog place r x backlog at g s is) b i = (tt, λ told f. asked es h.own (own_of line) (Call.SetBacklog x backlog) told tt i)
  older_asks es h _ _ _ (Learns place r x at g e) b i = (tt, λ told f. asked es h.own (own_of line) (Call.Local x) told tt i)
  older_asks es h _ _ _ (Closes place r x q g e) b i = (tt, λ told f. asked es h.own (own_of line) (Call.Close x) told tt i)
  older_asks es h _ _ _ (MarksOne kind parent sock m) b i = marks es h (own_of line) kind parent sock i
  older_asks es h _ _ _ (AsksCreate tells fails face ctx family c a o m) b i = allows_then Anything (λ fs made. Inv fs h) (λ fs done. AllOlder line Used fs) es (new_asks (own_of line) ctx family) (made_to tells fails (tcp_kind face) h.machine (own_of line)) (silent line h.own es (new_asks (own_of line) ctx family) i (λ side. new_silent side ⊤ NoName es (own_of line) ctx family)) (λ fs made k. joins tells fails face fs h (own_of line) made k)
  older_asks es h _ _ _ (MarksAccepted c s place r is e o g) b i = marks es h (own_of line) (Tcp2 place) (Some s) _ i
  older_asks es h _ _ _ (MarksPlain c s remaining place r is e o g) b i = marks es h (own_of line) (Tcp3 place) (Some s) _ i
  older_asks es h _ _ _ (MarksListener n handle reached place r q m g has e) b i = marks es h (own_of n) (Listen3 place) (Some handle) _ i
  older_asks es h _ _ _ (MarksResult socket place slot r m made e g) b i = marks es h (own_of line) (Result3 slot) (Some socket) _ i
  older_asks es h _ _ _ (WritesOnce c handle place given end r s half permit is e f at g q w own) b i =
      wrote es h half.side (take 4294967295 given) i
  older_asks es h _ _ _ (Polls op after k) b i = polls_older es h op after k b i
  older_asks es h _ _ _ (Turns place r s g e) b i = turned line h.own es s.writer i (subst (λ (x : Option Streams). IsFirst (streams_name x)) e (b.1.writes place r g))
  older_asks es h _ _ _ (GivesUp place r q goes g) b i = silent line h.own es (give_up_asks r.listening) i (λ side. given_up_silent side ⊤ NoName es r.listening)
  older_asks es h _ _ _ (UdpQuestions place n o c at g q) b i = (tt, λ told f. asked es h.own (own_of n) c told (udp_question_else line origin n o.inner.side c q) i)
  older_asks es h _ _ _ (UdpLearns place part o at g) b i = (tt, λ told f. asked es h.own (walk.part_of line part) (Call.Local o.inner.side) told tt i)
  older_asks es h _ _ _ (UdpDisconnects place o at g is) b i = (tt, λ told f. asked es h.own (own_of line) (Call.UdpDisconnect o.inner.side) told tt i)
  older_asks es h _ _ _ (UdpPeers place o at g) b i = (tt, λ told f. asked es h.own (own_of line) (Call.Peer o.inner.side) told tt i)
  older_asks es h _ _ _ (UdpCloses place n o q g) b i = (tt, λ told f. asked es h.own (own_of n) (Call.Close o.inner.side) told tt i)
  older_asks es h _ _ _ (UdpBegins face ctx family c may a o m) b i = (tt, λ told f. begun _ h (udp_after_create (own_of line) ctx.name family (told_done told)) (asked es h.own (own_of line) (Call.UdpCreate ctx.name family) told tt i))
  older_asks es h _ _ _ (MarksUdp face place u g) b i = marks es h (udp_side u) (udp_kind face place) None (Some (udp_side u)) i
  older_asks es h _ _ _ (MarksStream place n socket reached kind next new of) b i = marks es h (own_of n) kind (Some socket) (udp_side_at (udp2_at h.machine.store.records place)) i
  older_asks es h _ _ _ (MarksError n its place handles m k e f) b i = marks es h (own_of n) ErrorValue (Some its) (side_at (tcp2_at h.machine.store.records place)) i
  older_asks es h _ _ _ (UdpGivesUp place create q g) b i = silent line h.own es (create_cancel_asks create) i (λ side. cancelled_silent side ⊤ NoName es create)
  older_asks es h _ _ _ (Resolves host records l same) b i = (tt, λ told f. asked es h.own (own_of line) (Call.Lookup host) told tt i)
  older_asks es h _ _ _ (Looks place op g) b i = (tt, λ told f. asked es h.own op.id (Call.Lookup op.host) told tt i)
  older_asks es h _ tree _ (BeginsDatagram place o call op polls at g starts m own) b i =
      allows_weaker Anything (λ fs ended. AllOlder line h.own fs) (λ fs ended. AllOlder line Used fs) (λ fs ended k. all_grow line h.own Used fs (older_used line h.own) k) es tree
      (polled line h.own polls es i (λ l. absurd (of_first polls.who.id line (starts_first line origin starts) l)))
  older_asks es h _ _ _ (PollsBeside n call place o make op polls is at g its) b i =
      let fit = find_has h.machine.store.beside n call at in
      polled line h.own polls es i (λ l. absurd (of_first polls.who.id call.line (polls_first h.machine.store.records its (b.0.3.besides call fit.0)) l))
  older_asks es h _ _ _ (ResolvesBeside host l) b i = (tt, λ told f. asked es h.own (own_of line) (Call.Lookup host) told tt i)
  older_asks es h _ _ _ (LooksBeside n call host g e) b i = (tt, λ told f. asked es h.own (own_of n) (Call.Lookup host) told tt i)

  unfoldable pub olders : Rests contexts line origin B
  olders = record {
    P = Anything;
    Inv = Inv;
    moves = λ es h now m b i. moves_older es h now m b i;
    asks = older_asks;
  }

  -- a write that begins in a call of streams
  pub begins_olders : BeginsWrites olders
  unfolding olders
  begins_olders = begins_by olders (λ es h place n r s half permit bytes at g e w within own b i. used es h i)
