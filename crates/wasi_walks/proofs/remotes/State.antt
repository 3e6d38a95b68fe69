-- What is known of the records: of a UDP socket that its create was answered, that the remote address it keeps is what was reported
-- last, that its connect is of its family, and that it receives for its creator; of a TCP socket that its streams are of its network
-- socket, and write.
use Rattle.wasi_walks.proofs.Words.{Allows, Asks, Call, Done, End, Entry, Has, IsMaker, Item, Job, List, None, OpId, Operation}
use Rattle.wasi_walks.proofs.Words.{Option, ReadState, Refused, SocketAddressFamily, Some, Streams, TcpRecord, Told, Waits, Write, WriteState, []}
use Rattle.wasi_walks.proofs.Words.{allows_keep, closed_by, collected, entry, first_state, inl, inr, refl, subst, sym, then_closed, written_by, ℕ, ⊤, ◌++◌}
use Rattle.wasi_walks.proofs.Words.{◌∙◌, ◌∷◌, ◌≡◌}
use Rattle.wasi_world.specs.Operation.{Nothing}
use Rattle.wasi_records.specs.Numbered.{record_gone}
use Rattle.udp_records.specs.Udp.{udp_side}
use Rattle.wasi_records.specs.Records.{tcp2_at, tcp2_of, tcp2_put, tcp2_pushed, udp2_at, udp2_of, udp2_put, udp2_pushed}
use Rattle.wasi_walks.proofs.GoneLists.{was_there}
use Rattle.lookup_records.specs.declared.name_lookup.LookupOp.{LookupOp}
use Rattle.wasi_records.specs.declared.records.Record.{Record}
use Rattle.udp_records.specs.declared.udp.OpenUdp.{OpenUdp}
use Rattle.udp_records.specs.declared.udp.UdpRecord.{UdpRecord}
use Rattle.wasi_walks.specs.Licence.{UdpCreated}
use Rattle.wasi_walks.proofs.Lists.{has_front}
use Rattle.wasi_walks.proofs.walks.Moves.{Here, FoundUdp, SameSockets, WriterMoves, Collects, Permits, Lasts, LastsAfter, Closes, receiving_in}
use Rattle.wasi_walks.proofs.fits.Polls.{Anything}
use Rattle.wasi_walks.proofs.licence.State.{RemoteIs}
use Rattle.wasi_walks.proofs.remotes.Along.{has_more}
use Rattle.wasi_walks.proofs.remotes.Polls.{NoPeer, Unpeered, AreSilent}
use Rattle.wasi_walks.specs.Remotes.{HasRemote}
use Rattle.wasi_walks.proofs.remotes.ConnectPolls.{ConnectLeft, remote_more}
use Rattle.wasi_walks.proofs.Places.{push_found, push_new, push_was, put_found, put_was, tcp_sort, udp_sort}

-- == what is to be shown
-- the remote address that an open UDP socket keeps is what the network reported last
abbrev pub Remotes : List Entry → Here → Type 0
Remotes es h = (place : ℕ) (o : OpenUdp) → FoundUdp h place (UdpRecord.Open o) → RemoteIs es o.inner.side o.inner.remote

-- the create of the network socket was answered done
abbrev pub IsCreated : List Entry → OpId → ℕ → SocketAddressFamily → Type 0
IsCreated es side maker family = Has es (entry side (Call.UdpCreate maker family) Told.Done)

-- the create of each UDP socket that is there, or is being made
abbrev pub CreatedBy : List Entry → UdpRecord → Type 0
CreatedBy es (UdpRecord.Creating create) = IsCreated es create.operation.who.side create.operation.who.context create.family
CreatedBy es (UdpRecord.Open o) = IsCreated es o.inner.side o.inner.maker o.inner.family
CreatedBy es (UdpRecord.Closed side) = ⊤

-- the create of each UDP socket was answered done
abbrev pub Creates : List Entry → Here → Type 0
Creates es h = (place : ℕ) (u : UdpRecord) → FoundUdp h place u → CreatedBy es u

-- == receives
-- a receive in progress asks for this creator of the network socket
abbrev pub ReceivesFor : ℕ → Option Operation → Type 0
ReceivesFor maker (Some op) = op.who.context ≡ maker
ReceivesFor maker None = ⊤

-- == UDP sockets
-- a connect in progress is of this family
abbrev pub ConnectsBy : SocketAddressFamily → Option Operation → Type 0
ConnectsBy family (Some op) = ConnectLeft family Nothing op.left
ConnectsBy family None = ⊤

-- An open socket was created, keeps what was reported last, connects by a connect of its family, and receives for its creator.
pub record OpenKeeps (es : List Entry) (o : OpenUdp) : Type 0 where
  pub created : IsCreated es o.inner.side o.inner.maker o.inner.family
  pub remote : RemoteIs es o.inner.side o.inner.remote
  pub told : HasRemote es o.inner.side o.inner.family o.inner.remote
  pub connects : ConnectsBy o.inner.family o.connecting
  pub receiver : ReceivesFor o.inner.maker (receiving_in o.incoming)

-- what is known of a UDP socket
abbrev pub UdpKeeps : List Entry → UdpRecord → Type 0
UdpKeeps es (UdpRecord.Creating create) = CreatedBy es (UdpRecord.Creating create) × HasRemote es
    create.operation.who.side create.family None
UdpKeeps es (UdpRecord.Open o) = OpenKeeps es o
UdpKeeps es (UdpRecord.Closed side) = ⊤

-- == TCP sockets
-- the half that is read is of this network socket
abbrev pub ReadsBy : Option OpId → ReadState → Type 0
ReadsBy made (ReadState.Open half) = made ≡ Some half.side
ReadsBy made ReadState.Closed = ⊤

-- a write is on this network socket, and asks for no remote address
abbrev pub JobBy : Option OpId → Job → Type 0
JobBy made job = (made ≡ Some job.write.who.side) × AreSilent job.write.left

-- the half that is written is of it
abbrev pub WritesBy : Option OpId → WriteState → Type 0
WritesBy made (WriteState.Ready half permit) = made ≡ Some half.side
WritesBy made (WriteState.Writing job) = JobBy made job
WritesBy made (WriteState.Closing job) = JobBy made job
WritesBy made (WriteState.Closed e) = ⊤

-- both are
abbrev pub StreamsBy : Option OpId → Streams → Type 0
StreamsBy made s = ReadsBy made s.reader × WritesBy made s.writer

-- the streams are of the network socket that the record was made with
abbrev pub TcpKeeps : TcpRecord → Type 0
TcpKeeps r = (s : Streams) → r.streams ≡ Some s → StreamsBy r.side s

-- Each record is as it should be.
pub record Keeps (es : List Entry) (records : List Record) : Type 0 where
  pub udps : (place : ℕ) (u : UdpRecord) → udp2_at records place ≡ Some u → UdpKeeps es u
  pub tcps : (place : ℕ) (r : TcpRecord) → tcp2_at records place ≡ Some r → TcpKeeps r

-- == what it says
-- there are no records at first
pub first_keeps : (es : List Entry) → Keeps es first_state.store.records
first_keeps es = record { udps = λ place u e. absurd (cc); tcps = λ place r e. absurd (cc) }

-- of remote addresses
pub remotes_in : (es : List Entry) (h : Here) → Keeps es h.machine.store.records → Remotes es h
remotes_in es h k place o g = (k.udps place (UdpRecord.Open o) g).remote

-- of one create
created_by : (es : List Entry) (u : UdpRecord) → UdpKeeps es u → CreatedBy es u
created_by es (UdpRecord.Creating create) k = k.0
created_by es (UdpRecord.Open o) k = k.created
created_by es (UdpRecord.Closed side) k = tt

-- and what was reported last
pub told_in : (es : List Entry) (h : Here) → Keeps es h.machine.store.records → (place : ℕ) (o : OpenUdp) → FoundUdp h
    place (UdpRecord.Open o) → HasRemote es o.inner.side o.inner.family o.inner.remote
told_in es h k place o g = (k.udps place (UdpRecord.Open o) g).told

-- of the creates
pub creates_in : (es : List Entry) (h : Here) → Keeps es h.machine.store.records → Creates es h
creates_in es h k place u g = created_by es u (k.udps place u g)

-- who made it, and of which family
pub maker_of : (es : List Entry) (o : OpenUdp) → OpenKeeps es o → IsMaker es o.inner.maker o.inner.family o.inner.side
maker_of es o k = UdpCreated o.inner.side Told.Done k.created

-- == a record changes, or joins them
-- a TCP socket changes
pub put_tcp : (es : List Entry) (records : List Record) (place : ℕ) (now : TcpRecord) → TcpKeeps now → Keeps es records → Keeps es (tcp2_put records place now)
put_tcp es records place now f k = record {
  udps = λ i u e. k.udps i u (put_was tcp_sort udp_sort (λ t. refl) records place now i u e);
  tcps = λ i r e. elim (put_found tcp_sort records place now i r e) [ inl p ↦ subst TcpKeeps p.1 f | inr p ↦ k.tcps i r p ];
}

-- a TCP socket joins them
pub push_tcp : (es : List Entry) (records : List Record) (now : TcpRecord) → TcpKeeps now → Keeps es records → Keeps es (tcp2_pushed records now)
push_tcp es records now f k = record {
  udps = λ i u e. k.udps i u (push_was tcp_sort udp_sort (λ t. refl) records now i u e);
  tcps = λ i r e. elim (push_new tcp_sort records now i r e) [ inl p ↦ k.tcps i r p | inr p ↦ subst TcpKeeps p f ];
}

-- a UDP socket changes
pub put_udps : (es : List Entry) (records : List Record) (place : ℕ) (now : UdpRecord) → UdpKeeps es now → Keeps es records → Keeps es (udp2_put records place now)
put_udps es records place now f k = record {
  udps = λ i u e. elim (put_found udp_sort records place now i u e) [ inl p ↦ subst (UdpKeeps es) p.1 f | inr p ↦ k.udps i u p ];
  tcps = λ i r e. k.tcps i r (put_was udp_sort tcp_sort (λ t. refl) records place now i r e);
}

-- a UDP socket joins them
pub push_udps : (es : List Entry) (records : List Record) (now : UdpRecord) → UdpKeeps es now → Keeps es records → Keeps es (udp2_pushed records now)
push_udps es records now f k = record {
  udps = λ i u e. elim (push_found udp_sort records now i u e) [ inl p ↦ k.udps i u p | inr p ↦ subst (UdpKeeps es) p.0 f ];
  tcps = λ i r e. k.tcps i r (push_was udp_sort tcp_sort (λ t. refl) records now i r e);
}

-- the sockets among them stay the same
pub records_keep : {new : LookupOp → Type 0} (es : List Entry) (old now : List Record) → SameSockets new old now → Keeps es old → Keeps es now
records_keep es old now s k = record { udps = λ i u e. k.udps i u (sym (s.udp i) ∙ e); tcps = λ i r e. k.tcps i r (sym (s.tcp i) ∙ e) }

-- and one is given back
pub fewer_keep : (es : List Entry) (old : List Record) (place : ℕ) → Keeps es old → Keeps es (record_gone old place)
fewer_keep es old place k = record { udps = λ i u e. k.udps i u (was_there udp2_of refl old place i u e); tcps = λ i r e. k.tcps i r (was_there tcp2_of refl old place i r e) }

-- == one more entry
-- the call asks no network socket that isn't closed for its remote address
abbrev pub SparesUdp : UdpRecord → Call → Type 0
SparesUdp (UdpRecord.Creating create) c = c ≡ Call.Peer create.operation.who.side → ⊥
SparesUdp (UdpRecord.Open o) c = c ≡ Call.Peer o.inner.side → ⊥
SparesUdp (UdpRecord.Closed side) c = ⊤

abbrev pub Spares : List Record → Call → Type 0
Spares records c = (place : ℕ) (u : UdpRecord) → udp2_at records place ≡ Some u → SparesUdp u c

pub spares_none : (u : UdpRecord) (c : Call) → (c ≡ Call.Peer (udp_side u) → ⊥) → SparesUdp u c
spares_none (UdpRecord.Creating create) c n = n
spares_none (UdpRecord.Open o) c n = n
spares_none (UdpRecord.Closed side) c n = tt

-- what is known of a UDP socket, under one more entry
udp_more : (es : List Entry) (op : OpId) (c : Call) (told : Told) (u : UdpRecord) → SparesUdp u c → UdpKeeps es u →
    UdpKeeps (es ++ entry op c told ∷ []) u
udp_more es op c told (UdpRecord.Creating create) n k =
    (has_front es _ _ k.0, has_more es op c told create.operation.who.side create.family None n k.1)
udp_more es op c told (UdpRecord.Open o) n k = record {
  created = has_front es _ _ k.created;
  remote = remote_more es op c told o.inner.side o.inner.remote n k.remote;
  told = has_more es op c told o.inner.side o.inner.family o.inner.remote n k.told;
  connects = k.connects;
  receiver = k.receiver;
}
udp_more es op c told (UdpRecord.Closed side) n k = tt

-- a call that spares them keeps what is known
pub asked : (es : List Entry) (records : List Record) (op : OpId) (c : Call) (told : Told) → Spares records c → Keeps es records → Keeps (es ++ entry op c told ∷ []) records
asked es records op c told n k = record
    { udps = λ i u e. udp_more es op c told u (n i u e) (k.udps i u e); tcps = k.tcps }

-- a call that asks for no remote address spares them
pub quiet : (records : List Record) (c : Call) → NoPeer c → Spares records c
quiet records c n place u g = spares_none u c (λ e. absurd (subst NoPeer e n))

-- what asks for no remote address
pub kept : {A : Type 0} (records : List Record) (Q : List Entry → A → Type 0) (es : List Entry) (asks : Asks A) → Keeps es records → Allows Unpeered Q es asks → Allows Anything (λ fs a. Keeps fs records × Q fs a) es asks
kept records Q es asks k a = allows_keep Unpeered Anything (λ fs. Keeps fs records) Q (λ fs op c t fits m n. asked fs records op c t (quiet records c n) m) (λ fs op c n. tt) es asks k a

-- == streams
-- the same streams
some_streams : (a b : Streams) → Some a ≡ Some b → a ≡ b
some_streams a b e = cc

-- a record with these streams
pub with_these : (now : TcpRecord) (s : Streams) → now.streams ≡ Some s → StreamsBy now.side s → TcpKeeps now
with_these now s e k t f = subst (StreamsBy now.side) (some_streams s t (sym e ∙ f)) k

-- a record with none
pub with_none : (now : TcpRecord) → now.streams ≡ None → TcpKeeps now
with_none now e s f = let p : None ≡ Some s = sym e ∙ f in absurd (cc)

-- a record with the same ones
pub same_streams : (r now : TcpRecord) → now.side ≡ r.side → now.streams ≡ r.streams → TcpKeeps r → TcpKeeps now
same_streams r now p q k s e = subst (λ (x : Option OpId). StreamsBy x s) (sym p) (k s (sym q ∙ e))

-- a write that ended is collected
written : (made : Option OpId) (job : Job) (end : End) → JobBy made job → WritesBy made (written_by job end)
written made job Waits k = k
written made job (Done given) k = k.0
written made job (Refused c given) k = tt

-- a last write that ended is collected
closed : (made : Option OpId) (job : Job) (end : End) → JobBy made job → WritesBy made (closed_by job end)
closed made job Waits k = k
closed made job (Done given) k = tt
closed made job (Refused c given) k = tt

-- either of them
collects : (made : Option OpId) (w : WriteState) → WritesBy made w → WritesBy made (collected w)
collects made (WriteState.Ready half permit) k = k
collects made (WriteState.Writing job) k = written made job job.end k
collects made (WriteState.Closing job) k = closed made job job.end k
collects made (WriteState.Closed e) k = tt

-- a write that is to be the last
closing : (items : List Item) → AreSilent items → AreSilent (then_closed items)
closing [] k = tt
closing (Write rest ∷ items) k = (tt, (tt, tt))
closing (i ∷ items) k = k

-- the moves of a writer
pub writer_moves : {most : ℕ} (made : Option OpId) (old now : WriteState) → WriterMoves most old now → WritesBy made old → WritesBy made now
writer_moves made _ _ (Collects w) k = collects made w k
writer_moves made _ _ (Permits half old n fits) k = k
writer_moves made _ _ (Lasts job) k = k
writer_moves made _ _ (LastsAfter job) k = (k.0, closing job.write.left k.1)
writer_moves made _ _ (Closes w) k = tt
