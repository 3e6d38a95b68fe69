-- The reply to each step hands out only what was received on its network socket and allowed, in order.
use Rattle.wasi_walks.proofs.Words.{BeganBy, Reply, own_of, step_at, subst, sym, ⊤, Allows, Entry, Err, IsSide, List, Machine, None, Ok, OpId, Option, Result, Some, Standing, GuestCall, Step, Stop, Trap}
use Rattle.wasi_walks.proofs.Words.{WasiSocketsCtx, allows_then, asks_while, first_ids, kind_at, machine_asks, refl, ℕ, ◌≡◌}
use Rattle.wasi_world.specs.declared.datagram.IncomingDatagram.{IncomingDatagram}
use Rattle.host_udp.specs.DatagramCalls.{receive_datagrams_at}
use Rattle.record_common.specs.Stops.{Code}
use Rattle.host_store.specs.Machine.{incoming_at}
use Rattle.udp_records.specs.Receiving.{receive_datagrams_asks}
use Rattle.wasi_records.specs.Records.{open_at, udp2_at}
use Rattle.udp_records.specs.declared.udp.OpenUdp.{OpenUdp}
use Rattle.udp_records.specs.declared.udp.UdpRecord.{UdpRecord}
use Rattle.wasi_p2.specs.Udp.{receive_datagrams_on}
use Rattle.wasi_machine.specs.Machine.{reply_of}
use Rattle.wasi_steps.specs.Reply.{datagram_values}
use Rattle.wasi_steps.specs.declared.reply.Field.{Field}
use Rattle.wasi_walks.specs.Licence.{HandsAs, IsReceive, MayReply}
use Rattle.wasi_walks.proofs.Gives.{gives_all, gives_any}
use Rattle.wasi_walks.proofs.claims.Lines.{BaseBetween}
use Rattle.wasi_walks.proofs.fits.Polls.{Anything}
use Rattle.wasi_walks.proofs.licence.Line.{names_udp}
use Rattle.wasi_walks.proofs.licence.State.{NamesUdp, StateIsFine}
use Rattle.wasi_walks.proofs.remotes.State.{Keeps}
use Rattle.wasi_walks.proofs.walks.States.{incoming_record}
use Rattle.wasi_walks.proofs.walks.Udp.{open_is}
use Rattle.wasi_walks.proofs.received.Handed.{GivesUpto, Leaves}
use Rattle.wasi_walks.proofs.received.Lines.{line_later, open_leaves, side_is}
use Rattle.wasi_walks.proofs.received.State.{Late}
use Rattle.wasi_steps.specs.declared.guest_call.UdpCall.{UdpCall}
use Rattle.wasi_steps.specs.declared.guest_call.P3UdpCall.{P3UdpCall}

-- what the streams of every network socket hold was received, from the beginning on
abbrev pub Lates : List Entry → Machine → Type 0
Lates es m = (side : OpId) → Late side 0 es m.store.records

-- each line leaves it so
pub lines_later : (contexts : List WasiSocketsCtx) (line : ℕ) (s : Step) (m : Machine) (es : List Entry) → BaseBetween line m → Keeps es m.store.records → Lates es m → Allows Anything (λ fs done. Lates fs done.1) es (machine_asks contexts m line s)
lines_later contexts line s m es b k late = gives_all (λ side fs done. Late side 0 fs done.1.store.records) es (machine_asks contexts m line s) (λ side. line_later side 0 contexts line s m es b k (late side))

-- == a receive
module _ (steps : List Step) (served : List ℕ) (at ctx handle most : ℕ) where
  -- the reply that says this of a receive may be given
  abbrev Says : List Entry → Result (List IncomingDatagram) Stop → Type 0
  Says es r = MayReply steps es served at (Step.Call ctx (GuestCall.Udp (UdpCall.Receive handle most))) (reply_of datagram_values r)

  says : (es : List Entry) (side : OpId) (upto : ℕ) (r : Result (List IncomingDatagram) Stop) → IsSide es handle side → GivesUpto ⊤ side 0 es upto r → Says es r
  says es side upto (Ok ds) i g = record { side = side; of_handle = i; datagrams = ds; values = refl; upto = upto; order = g tt }
  says es side upto (Err (Code c)) i g = tt
  says es side upto (Err (Trap kind)) i g = tt

  module _ (line : ℕ) (m : Machine) (es : List Entry) (keeps : Keeps es m.store.records) (late : Lates es m) where
    -- the UDP socket of this place
    socket_says : (place : ℕ) (found : Option OpenUdp) → open_at m.store.records place ≡ found → NamesUdp es m.store.records handle place → Allows Anything (λ fs done. Says fs done.0) es (receive_datagrams_at m.store (first_ids line) place most found)
    socket_says place None e n = tt
    socket_says place (Some o) e n =
        let at : udp2_at m.store.records place ≡ Some (UdpRecord.Open o) = open_is (udp2_at m.store.records place) o e in
        let l : Late o.inner.side 0 es m.store.records = late o.inner.side in
        allows_then Anything (λ fs done. IsSide fs handle o.inner.side × Leaves ⊤ 0 fs o done.0 done.1) (λ fs done. Says fs done.0) es (receive_datagrams_asks (first_ids line) most o o.incoming) _
        (open_leaves 0 handle most line es o (keeps.udps place (UdpRecord.Open o) at) l.long (l.udps place (UdpRecord.Open o) at refl) (side_is es m.store.records handle place o n at))
        (λ fs done x. says fs o.inner.side x.1.upto done.0 x.0 x.1.gives)

    -- where the handle is of one
    handle_says : (found : Option ℕ) → ((place : ℕ) → found ≡ Some place → NamesUdp es m.store.records handle place) → Allows Anything (λ fs done. Says fs done.0) es (receive_datagrams_on m (first_ids line) most found)
    handle_says None n = tt
    handle_says (Some place) n =
        allows_then Anything (λ fs done. Says fs done.0) (λ fs done. Says fs done.0) es (receive_datagrams_at m.store (first_ids line) place most (open_at m.store.records place)) _
        (socket_says place (open_at m.store.records place) refl (n place refl)) (λ fs done k. k)

    -- a call that is made; while another is pending it is busy
    receive_says : (contexts : List WasiSocketsCtx) (standing : Option Standing) → ((place : ℕ) → incoming_at m handle ≡ Some place → NamesUdp es m.store.records handle place) → Allows Anything (λ fs done. MayReply steps fs served at (Step.Call ctx (GuestCall.Udp (UdpCall.Receive handle most))) done.0) es (asks_while contexts m line (Step.Call ctx (GuestCall.Udp (UdpCall.Receive handle most))) standing)
    receive_says contexts (Some c) n = tt
    receive_says contexts None n =
        allows_then Anything (λ fs done. Says fs done.0) (λ fs done. MayReply steps fs served at (Step.Call ctx (GuestCall.Udp (UdpCall.Receive handle most))) done.0) es (receive_datagrams_on m (first_ids line) most (incoming_at m handle)) _
        (handle_says (incoming_at m handle) n) (λ fs done k. k)

-- a line that replies to no receive of 0.3
abbrev pub IsQuietAt : List Step → Step → Type 0
IsQuietAt steps s = (IsReceive s → ⊥) × ((n : ℕ) → s ≡ Step.Poll n → BeganBy steps (own_of n) (λ (t : Step). IsReceive t → ⊥))

quiet_as : (steps : List Step) (es : List Entry) (served : List ℕ) (n : ℕ) (fields : List Field) → BeganBy steps (own_of n) (λ (t : Step). IsReceive t → ⊥) → HandsAs steps es served n (step_at steps n) fields
quiet_as steps es served n fields k = subst (λ (o : Option Step). HandsAs steps es served n o fields) (sym k.at) (so k.origin k.holds)
  where
    so : (s : Step) → (IsReceive s → ⊥) → HandsAs steps es served n (Some s) fields
    so (Step.Call ctx (GuestCall.P3Udp (P3UdpCall.Receive socket))) none = absurd (none tt)
    so _ none = tt

quiet_may : (steps : List Step) (es : List Entry) (served : List ℕ) (line n : ℕ) (r : Reply) → BeganBy steps (own_of n) (λ (t : Step). IsReceive t → ⊥) → MayReply steps es served line (Step.Poll n) r
quiet_may steps es served line n (Reply.Ok fields) k = quiet_as steps es served n fields k
quiet_may steps es served line n _ k = tt

-- the reply to a step may be given, where it is none to a receive of 0.3
pub step_replies : (contexts : List WasiSocketsCtx) (steps : List Step) (served : List ℕ) (line : ℕ) (s : Step) (m : Machine) (es : List Entry) → IsQuietAt steps s → StateIsFine contexts steps es m → Keeps es m.store.records → Lates es m
    → Allows Anything (λ fs done. MayReply steps fs served line s done.0) es (machine_asks contexts m line s)
step_replies contexts steps served line (Step.Call ctx (GuestCall.Udp (UdpCall.Receive handle most))) m es q f k late =
    receive_says steps served line ctx handle most line m es k late contexts m.store.standing (λ place e. names_udp es m.store.records handle place (kind_at m.table handle) (incoming_record (kind_at m.table handle) place e) (f.handles handle))
step_replies contexts steps served line (Step.Call ctx (GuestCall.P3Udp (P3UdpCall.Receive socket))) m es q f k late = absurd (q.0 tt)
step_replies contexts steps served line (Step.Poll n) m es q f k late =
    gives_any (λ fs done. MayReply steps fs served line (Step.Poll n) done.0) (λ fs done. quiet_may steps fs served line n done.0 (q.1 n refl)) es (machine_asks contexts m line (Step.Poll n))
step_replies contexts steps served line s m es q f k late = gives_any (λ fs done. MayReply steps fs served line s done.0) (λ fs done. tt) es (machine_asks contexts m line s)
