-- The law of it: each move and each ask keeps what is live of the records.
use Rattle.tcp_records.specs.declared.slot.Slot.{Slot}
use Rattle.wasi_walks.proofs.PipeLists.{slot_push_same}
use Rattle.wasi_records.specs.Records.{slot_pushed}
use Rattle.wasi_walks.proofs.Words.{with_listening, without_handle, Begins, Bool, Listener, Not, Standing, false, true, End, ErrorValue, HandleTable, Input, Item, Kind, List, Network, None, OpId, Operation, Option, Output, Pollable, Some, GuestCall, Step, Tcp2, TcpRecord, WasiSocketsCtx, Watched}
use Rattle.wasi_walks.proofs.Words.{[], ap, arith, inl, inr, kind_at, length, new_record, own_of, poll_asks, refl, slice_get, subst, sym, table_parent, watched_by, with_handle, with_writer, ℕ, ⊤, ◌++◌, ◌∷◌, ◌∙◌, ◌≡◌, ◌⊎◌}
use Rattle.wasi_table.specs.Table.{Live}
use Rattle.wasi_udp.specs.Create.{after_create as udp_after_create}
use Rattle.host_store.specs.Kinds.{tcp3_of, udp_kind}
use Rattle.wasi_records.specs.Records.{tcp2_at, tcp2_put, tcp2_pushed, udp2_of}
use Rattle.host_store.specs.declared.kind.Kind.TheVariants.{Result3, Incoming, Listen3, Lookup, Outgoing, PlainInput, PlainOutput, Tcp3, Udp2, Udp3}
use Rattle.host_store.specs.declared.kind.PlainInput.TheVariants as plain_input
use Rattle.host_store.specs.declared.kind.PlainOutput.TheVariants as plain_output
use Rattle.wasi_records.specs.declared.records.Record.{Record}
use Rattle.udp_records.specs.declared.udp.OpenUdp.{OpenUdp}
use Rattle.udp_records.specs.declared.udp.UdpRecord.{UdpRecord}
use Rattle.udp_records.specs.Datagrams.{udp_connect_left, udp_reconnect_left}
use Rattle.wasi_tcp.specs.declared.listener.Accepting.TheVariants as accepting
use Rattle.wasi_walks.proofs.Lists.{get_seam}
use Rattle.wasi_walks.proofs.Slots.{one_of}
use Rattle.wasi_walks.proofs.fits.Law.{whatever}
use Rattle.wasi_walks.proofs.walks.Law.{BeginsWrites, InCall, Law}
use Rattle.wasi_walks.proofs.walks.OfState.{OfResult, Becomes, Learnt, IsClosed, GivenUp, UdpLearnt, UdpIsClosed, UdpGivenUp, UdpBegun, Resolved, StandsOn, DatagramBegan, DatagramPolled, HasHandle, NoRoom, Created, CreatedWith, Writing, Handles, OfLine, OfListener, OfPlain, OfAccepted, OfCreated, OfStream, OfError, HasNoRoom, OfState, begins_state, of_state}
use Rattle.wasi_walks.proofs.Words.{Done, Refused, Waits, new_socket}
use Rattle.wasi_walks.proofs.walks.Moves as walk
use Rattle.wasi_walks.proofs.walks.Moves.{ToResult, TakesHalf, Interface, P2, P3, tcp_kind, ToListen, ListenerGoes, Emptied, Faulted, Freed, Found, FoundUdp, Held, Here, IsLeft, IsMadeUnder, IsNumbered, IsOpenUdp, Joined, Made, MakesPlain, Marked, Marks, Move, Numbered, Past, GoesOn, Plain, SameSockets, ToSend, accepting_now, faulted, joined, joined_plain, joins_as, made_so, one_stream, put, put_udp, udp_begun, with_records, without_record}
use Rattle.std.specs.Prelude.{IsSome, is_some}
use Rattle.wasi_walks.specs.Answered.{streams_in}
use Rattle.udp_records.specs.Udp.{open_of}
use Rattle.wasi_records.specs.Records.{tcp2_of}
use Rattle.wasi_walks.proofs.owners.Names.{Names, held_udp, listens_in, socket_in, unheld_none, unless_dropped}
use Rattle.wasi_walks.proofs.Places.{slot_sort, push_finds, tcp_sort}
use Rattle.wasi_walks.proofs.owners.Owned.{NoneOf, OneOwner, parent_of, HasStreams, IsNew, MadeSo, Owned, emptied_made, made_owned, numbered_still, one_still, other_still, taken_owned, HasSocket, StandsSo, none_of, listener_of, quiet_so, stands_still}
pub use Rattle.wasi_walks.proofs.owners.Records.{Owns, StaysFor, udp_released, begun_owns, gained, given_back_owns, left_made, left_none, no_udp_socket, no_udp_streams, none_at_end, none_open, none_set, past_end, push_made, push_owned, put_dropped, put_gone, put_live, put_none, put_open, put_owns, put_unlistened, same_owns, stay, udp_dropped, without_listener}
use Rattle.wasi_walks.proofs.owners.NewHandles.{IsOther, other_fits, no_record, end_other, pollable_fits, no_pollable, owner_fits, stream_fits, listener_fits, one_of_handle, owner_there, two_fits, two_own_none, plain_fits, plain_still, is_udp, created_stays, listened_streams, listener_lost, stands_so, taken_keeps, plain_owns}
use Rattle.wasi_steps.specs.declared.guest_call.PipeCall.{PipeCall}

module _ (h : Here) (place : ℕ) (r : TcpRecord) (l : Listener) (g : Found h place r) (new : TcpRecord) where
  abbrev idled : List Record
  idled = tcp2_put h.machine.store.records place (accepting_now r l accepting.Idle)

  joins_owns : (made : Made) → (NoneOf h.machine.table (length idled) → MadeSo h.machine.table (tcp2_pushed idled new) made) → Owns h → Owns (joins_as h idled new made)
  joins_owns made makes i =
      let k = (put_owns h place r g (accepting_now r l accepting.Idle) (refl, λ s. s, λ l. refl) i).0 in
      (push_owned h.machine.table idled (Record.Tcp new) k, makes (none_at_end h.machine.table idled k), i.2)

-- a socket that its handle holds has the streams that it has
held_streams : (o : Option TcpRecord) → IsSome (socket_in o) → IsSome (streams_in o) → IsSome (streams_in (socket_in o))
held_streams None s t = absurd (cc)
held_streams (Some r) s t = by_test r.dropped s
  where
    by_test : (b : Bool) → IsSome (unless_dropped r b) → IsSome (streams_in (unless_dropped r b))
    by_test true s = absurd (cc)
    by_test false s = t

has_socket : (o : Option TcpRecord) → IsSome (streams_in o) → IsSome o
has_socket None s = absurd (cc)
has_socket (Some r) s = refl

listened_dropped : (op : Operation) (r : TcpRecord) (end : End × List Item) → (walk.listen_after op r end).dropped ≡ r.dropped
listened_dropped op r (Waits, left) = refl
listened_dropped op r (Done given, left) = refl
listened_dropped op r (Refused c given, left) = refl

-- a stream, and what is of no record, is no listener's
no_stream_role : (kind : Kind) (place other : ℕ) → (kind ≡ Input place) ⊎ (kind ≡ Output place) → listener_of kind ≡ Some other → ⊥
no_stream_role kind place other (inl e) l = absurd (let p : None ≡ Some other = ap listener_of (sym e) ∙ l in cc)
no_stream_role kind place other (inr e) l = absurd (let p : None ≡ Some other = ap listener_of (sym e) ∙ l in cc)

no_datagram_role : (kind : Kind) (place other : ℕ) → (kind ≡ Incoming place) ⊎ (kind ≡ Outgoing place) → listener_of kind ≡ Some other → ⊥
no_datagram_role kind place other (inl e) l = absurd (let p : None ≡ Some other = ap listener_of (sym e) ∙ l in cc)
no_datagram_role kind place other (inr e) l = absurd (let p : None ≡ Some other = ap listener_of (sym e) ∙ l in cc)

plain_role : (s : Step) (kind : Kind) (place : ℕ) → MakesPlain s kind → listener_of kind ≡ Some place → ⊥
plain_role (Step.Call c (GuestCall.Pipe (PipeCall.In bytes))) (PlainInput (plain_input.Pipe n)) place makes l = absurd (cc)
plain_role (Step.Call c (GuestCall.Pipe (PipeCall.Out capacity))) (PlainOutput (plain_output.Pipe n)) place makes l = absurd (cc)
plain_role (Step.Call c (GuestCall.Pipe PipeCall.ClosedIn)) (PlainInput plain_input.Closed) place makes l = absurd (cc)
plain_role (Step.Call c (GuestCall.Pipe PipeCall.Sink)) (PlainOutput plain_output.Sink) place makes l = absurd (cc)
plain_role (Step.Call c (GuestCall.Pipe PipeCall.ClosedOut)) (PlainOutput plain_output.Closed) place makes l = absurd (cc)
plain_role _ _ place makes l = absurd makes

-- a connect leaves its socket's handle
connected_held : (op : Operation) (o : OpenUdp) (end : End × List Item) → (udp_connect_left op o end).dropped ≡ o.dropped
connected_held op o (Waits, items) = refl
connected_held op o (Done given, items) = refl
connected_held op o (Refused c given, items) = refl

reconnected_held : (op : Operation) (o : OpenUdp) (end : End × List Item) → (udp_reconnect_left op o end).dropped ≡ o.dropped
reconnected_held op o (Waits, items) = refl
reconnected_held op o (Done given, items) = refl
reconnected_held op o (Refused c given, items) = refl

module _ (contexts : List WasiSocketsCtx) (line : ℕ) (origin : Step) where
  pub moves_owns : (h now : Here) → Move line origin h now → Owns h → Owns now
  moves_owns _ _ (walk.Changes h place r now g p) i = plain_owns h place r now g p i
  moves_owns _ _ (walk.ClosesReader h place r s g e) i = put_owns h place r g _ (refl, λ s. refl, λ l. l) i
  moves_owns _ _ (walk.Writes h place r s w g e m) i = put_owns h place r g _ (refl, λ s. refl, λ l. l) i
  moves_owns _ _ (walk.IsGone h place r q g e) i = put_gone h place _ q.1 i
  moves_owns _ _ (walk.Reconnects h place r c now g e s t u) i = put_owns h place r g _ (refl, λ s. s, λ l. l) i
  moves_owns _ _ (walk.Opens h place r c d g e n) i = put_owns h place r g _ (refl, λ s. refl, λ l. l) i
  moves_owns _ _ (walk.BeginsConnect h place r side a bound at g d to known idle own) i = put_owns h place r g _ (refl, λ s. s, λ l. l) i
  moves_owns _ _ (walk.BeginsBind h place r side a at g d to own) i = put_owns h place r g _ (refl, λ s. s, λ l. l) i
  moves_owns _ _ (walk.BeginsWrite h place n r s half permit bytes at g e w within own) i = put_owns h place r g _ (refl, λ s. refl, λ l. l) i
  moves_owns _ _ (walk.BeginsListen h place r side bound at g d known un none to idle own) i = put_owns h place r g _ (refl, λ s. s, gained r.listening Not none refl _) i
  moves_owns _ _ (walk.BeginsAccept h place n r l at g e a own) i = put_owns h place r g _ (refl, λ s. s, λ l. refl) i
  moves_owns _ _ (walk.Unlistens h place r op q g e c o) i = put_owns h place r g _ (refl, λ s. s, gained r.listening (Begins op) e refl _) i
  moves_owns _ _ (walk.Forgets h place r l c g e a) i = put_owns h place r g _ (refl, λ s. s, λ l. refl) i
  moves_owns _ _ (walk.CancelsBind h place r op q g e) i = put_owns h place r g _ (refl, λ s. s, λ l. l) i
  moves_owns _ _ (walk.Joins h c handle place r l new peer is of u g e a) i =
      joins_owns h place r l g (joined l new peer) (Joined P2 (length (idled h place r l g (joined l new peer)))) (λ none. (none, subst (Names (Input place)) (sym (get_seam (idled h place r l g (joined l new peer)) (Record.Tcp (joined l new peer)))) refl)) i
  moves_owns _ _ (walk.JoinsPlain h c listener remaining place r l new peer is of u g e a) i =
      joins_owns h place r l g (joined_plain l new peer) (Joined P3 (length (idled h place r l g (joined_plain l new peer)))) (λ none. (none, subst (Names (Tcp3 place)) (sym (get_seam (idled h place r l g (joined_plain l new peer)) (Record.Tcp (joined_plain l new peer)))) refl)) i
  moves_owns _ _ (walk.JoinsFault h place r l c u g e a) i =
      joins_owns h place r l g (faulted l c) (Faulted (length (idled h place r l g (faulted l c)))) (λ none. (none, subst (Names (Tcp3 place)) (sym (get_seam (idled h place r l g (faulted l c)) (Record.Tcp (faulted l c)))) refl)) i
  moves_owns _ _ (walk.Leaves h) i = (i.0, tt, i.2)
  moves_owns _ _ (walk.Watches h own) i = (i.0, tt, i.2)
  moves_owns _ _ (walk.RemembersStreams h c handle place remote is of o g none) i = (i.0, is_udp (kind_at h.machine.table handle) place of, i.2)
  moves_owns _ _ (walk.RecallsStreams h ids place handle e own) i = (i.0, subst (StandsSo h.machine.table) e i.2, i.2)
  moves_owns _ _ (walk.CallsHandles h kind calls q) i = (i.0, tt, i.2)
  moves_owns _ _ (walk.RecallsCall h ids call e) i = (i.0, tt, i.2)
  moves_owns _ _ (walk.UdpChanges h place o now g p keeps) i = put_open h place o g now p.dropped i
  moves_owns _ _ (walk.BeginsUdpBind h place o a at g to own) i = put_open h place o g _ refl i
  moves_owns _ _ (walk.BeginsUdpConnect h place o a bound at g to known none own) i = put_open h place o g _ refl i
  moves_owns _ _ (walk.BeginsSend h place n o out d bound at g e item known own) i = put_open h place o g _ refl i
  moves_owns _ _ (walk.BeginsReceive h place n o inc bound at g e is own) i = put_open h place o g _ refl i
  moves_owns _ _ (walk.CancelsUdpBind h place o op q g e) i = put_open h place o g _ refl i
  moves_owns _ _ (walk.CancelsUdpConnect h place o q g) i = put_open h place o g _ refl i
  moves_owns _ _ (walk.TakesEnd h handle place r now e g takes) i = put_owns h place r g now (taken_keeps r now takes) i
  moves_owns _ _ (walk.AddsSlot h s) i =
      let k = same_owns h (slot_pushed h.machine.store.records s) (slot_push_same {new = λ op. ⊥} h.machine.store.records s) i in
      (k.0, (none_at_end h.machine.table h.machine.store.records i.0, ap (λ (o : Option Slot). is_some o) (push_finds slot_sort h.machine.store.records s)), k.2)
  moves_owns _ _ (walk.Finds h records same) i = same_owns h records same i
  moves_owns _ _ (walk.Numbers h) i = (i.0, (omega arith, λ same. none_at_end h.machine.table h.machine.store.records i.0), i.2)
  moves_owns _ _ (walk.AwaitsCreate h place face create is g) i = (i.0, none_open h place (UdpRecord.Creating create) g refl i, i.2)
  moves_owns _ _ (walk.Empties h handle kind q e none) i = (taken_owned h.machine.table h.machine.store.records handle none i.0, emptied_made h.machine.table h.machine.store.records handle none kind e i.0, quiet_so (without_handle h.machine.table handle) h.machine.store.standing q)
  moves_owns _ _ (walk.Takes h handle q past none) i = (taken_owned h.machine.table h.machine.store.records handle none i.0, subst (MadeSo _ h.machine.store.records) (sym past) tt, quiet_so (without_handle h.machine.table handle) h.machine.store.standing q)
  moves_owns _ _ (walk.Frees h place made) i =
      let so : MadeSo h.machine.table h.machine.store.records (Emptied (Tcp2 place)) = subst (MadeSo h.machine.table h.machine.store.records) made i.1 in
      (i.0, none_of h.machine.table place (so.0 place refl) (so.1 place refl), i.2)
  moves_owns _ _ (walk.IsUnheld h place r g free) i = (i.0, λ a l e. unheld_none a.value place r free e (subst (Names a.value) (tcp_sort.it _ r g) (i.0.there a place l e)), i.2)
  moves_owns _ _ (walk.RemembersListen h marks place r is under g none) i =
      (i.0, (λ a l e. listener_lost a.value place r Not none refl e (subst (Names a.value) (tcp_sort.it _ r g) (i.0.there a place l (inr (inr e)))), under), i.2)
  moves_owns _ _ (walk.RecallsListen h ids place marks e) i = (i.0, subst (StandsSo h.machine.table) e i.2, i.2)
  moves_owns _ _ (walk.StandsListen h ids place marks r q at made g goes) i = (i.0, i.1, subst (MadeSo h.machine.table h.machine.store.records) made i.1)
  moves_owns _ _ (walk.Stands h ids call r q at g goes) i = (i.0, i.1, stands_so h.machine.table call r goes)
  moves_owns _ _ (walk.Unstands h over) i = (i.0, i.1, tt)
  moves_owns _ _ (walk.StandsUdpBind h ids place face o op q at g e) i = (i.0, i.1, tt)
  moves_owns _ _ (walk.StandsUdpCreate h ids place face create q made g its) i = (i.0, i.1, tt)
  moves_owns _ _ (walk.StandsUdpConnect h ids place handle o op q at made g e) i = (i.0, i.1, subst (MadeSo h.machine.table h.machine.store.records) made i.1)
  moves_owns _ _ (walk.StandsConnect h ids place o op q at made g e) i = (i.0, i.1, tt)
  moves_owns _ _ (walk.StandsDropOutgoing h ids place o q at g e) i = (i.0, i.1, tt)
  moves_owns _ _ (walk.StandsBlocking h ids call handles made e) i = (i.0, i.1, tt)
  moves_owns _ _ (walk.DropsUdp h place o idle made g) i = put_none h place (UdpRecord.Open o) g _ (udp_dropped h place made i) i
  moves_owns _ _ (walk.GivesBack h place idle left) i = given_back_owns h place left i
  moves_owns _ _ _ i = i

  -- == what is made
  -- The kind of a new handle fits, and what the line has made still is so.
  record IsMadeSo (h : Here) (kind : Kind) (parent : Option ℕ) (made : Made) : Type 0 where
    new : IsNew h.machine.table h.machine.store.records kind (table_parent kind parent)
    so : MadeSo (with_handle h.machine.table kind parent) h.machine.store.records made

  made_other : (h : Here) (kind : Kind) (parent : Option ℕ) → IsOther kind → Owns h → IsMadeSo h kind parent h.made
  made_other h kind parent other i = record { new = other_fits h.machine.table h.machine.store.records kind (table_parent kind parent) other; so = other_still h.machine.table h.machine.store.records kind parent h.made (λ place e. no_record kind place other e) i.1 }

  made_pollable : (h : Here) (w : Watched) (handle : ℕ) → watched_by (kind_at h.machine.table handle) ≡ Some w → Owns h → IsMadeSo h (Pollable w) (Some handle) h.made
  made_pollable h w handle by i =
      record { new = pollable_fits h.machine.table h.machine.store.records w (Some handle) (parent_of h.machine.table handle w by); so = other_still h.machine.table h.machine.store.records (Pollable w) (Some handle) h.made (no_pollable w) i.1 }

  -- the streams of a connection under its one handle
  connection_fits : (h : Here) (kind : Kind) (place handle : ℕ) → (kind ≡ Input place) ⊎ (kind ≡ Output place)
      → OneOwner h.machine.table handle place → HasStreams h.machine.store.records place
      → IsNew h.machine.table h.machine.store.records kind (table_parent kind (Some handle))
  connection_fits h kind place handle two one stays =
      two_fits h.machine.table h.machine.store.records kind (Input place) (Output place) place handle two (stream_fits h.machine.table h.machine.store.records (Input place) place handle refl (λ w e. absurd (cc)) one stays) (stream_fits h.machine.table h.machine.store.records (Output place) place handle refl (λ w e. absurd (cc)) one stays)

  -- a socket that is created, and what an accept took, are the first of their records
  first_fits : (face : Interface) (t : HandleTable) (records : List Record) (place : ℕ) → NoneOf t place → HasSocket records place
      → IsNew t records (tcp_kind face place) None
  first_fits P2 t records place none stays = owner_fits t records (Tcp2 place) place None refl (λ w e. absurd (cc)) none stays
  first_fits P3 t records place none stays = owner_fits t records (Tcp3 place) place None refl (λ w e. absurd (cc)) none stays

  -- and so is a UDP socket
  created_fits : (face : Interface) (t : HandleTable) (records : List Record) (place : ℕ) → NoneOf t place → IsSome (held_udp (open_of (udp2_of (slice_get records place))))
      → IsNew t records (udp_kind face place) None
  created_fits P2 t records place none stays = owner_fits t records (Udp2 place) place None refl (λ w e. absurd (cc)) none stays
  created_fits P3 t records place none stays = owner_fits t records (Udp3 place) place None refl (λ w e. absurd (cc)) none stays

  marks_owns : (h : Here) (kind : Kind) (parent : Option ℕ) (sock : Option OpId) → Marks origin h kind parent sock → Owns h → IsMadeSo h kind parent h.made
  marks_owns h _ parent sock (walk.ANetwork c e) i = made_other h Network None tt i
  marks_owns h kind _ _ (walk.AStream c handle place _ is two opened) i = record {
    new = connection_fits h kind place handle two (one_of_handle h.machine.table h.machine.store.records handle place (Tcp2 place) opened.socket refl i.0) (held_streams (tcp2_at h.machine.store.records place) (owner_there h.machine.table h.machine.store.records handle place (Tcp2 place) opened.socket refl i.0) opened.streams);
    so = subst (MadeSo (with_handle h.machine.table kind (Some handle)) h.machine.store.records) (sym opened.past) tt;
  }
  marks_owns h kind _ _ (walk.AnAcceptedStream c listener handle place _ r is two made own g) i =
      let k : MadeSo h.machine.table h.machine.store.records (Marked handle place) =
      subst (MadeSo h.machine.table h.machine.store.records) made i.1 in
      let one = k.0 in
      record {
        new = connection_fits h kind place handle two one k.1;
        so = subst (MadeSo (with_handle h.machine.table kind (Some handle)) h.machine.store.records) (sym made) (one_still h.machine.table h.machine.store.records kind (Some handle) handle place (two_own_none kind (Input place) (Output place) place two refl refl) one, k.1);
      }
  marks_owns h _ _ sock (walk.APollable c handle w is p e by) i = made_pollable h w handle by i
  marks_owns h _ _ sock (walk.AUdpPollable c handle w is p e by) i = made_pollable h w handle by i
  marks_owns h _ _ sock (walk.ALookup c network place name is there made) i =
      let so : MadeSo h.machine.table h.machine.store.records (Numbered place h.machine.table.next) = subst (MadeSo h.machine.table h.machine.store.records) made i.1 in
      record {
        new = owner_fits h.machine.table h.machine.store.records (Lookup place) place None refl (λ w e. absurd (cc)) (so.1 refl) there;
        so =
            subst (MadeSo (with_handle h.machine.table (Lookup place) (Some network)) h.machine.store.records)
            (sym made) (numbered_still h.machine.table h.machine.store.records (Lookup place) (Some network) place
            h.machine.table.next so);
      }
  marks_owns h kind _ _ (walk.AnEnd socket place _ end r m in_it e g is made) i = made_other h kind (Some socket) (end_other socket kind origin m) i
  marks_owns h _ _ sock (walk.ALookupPollable c handle place is e) i = made_pollable h (Watched.Lookup place) handle (ap watched_by e) i
  marks_owns h _ _ sock (walk.APlain kind makes numbered) i = record { new = plain_fits h origin kind makes numbered i; so = plain_still h origin kind makes numbered i.1 }
  marks_owns h _ _ sock (walk.APlainPollable c handle is e) i = made_pollable h Watched.Plain handle e i

  handles_owns : (h : Here) (kind : Kind) (parent : Option ℕ) (made : Made) → Handles origin h kind parent made
      → Owns h → IsMadeSo h kind parent made
  handles_owns h _ _ _ (OfLine kind parent sock m) i = marks_owns h kind parent sock m i
  handles_owns h _ _ _ (OfAccepted c s place r is e o g) i =
      let k : MadeSo h.machine.table h.machine.store.records (Joined P2 place) =
      subst (MadeSo h.machine.table h.machine.store.records) e i.1 in
      record {
        new = first_fits P2 h.machine.table h.machine.store.records place k.0 (has_socket (socket_in (tcp2_at h.machine.store.records place)) k.1);
        so = (λ a l e. elim (one_of h.machine.table (Tcp2 place) (Some s) a l) [ inl old ↦ absurd (k.0 a old (inl e)) | inr n ↦ ap (λ (x : Live Kind). x.handle) (sym n) ], k.1);
      }
  handles_owns h _ _ _ (OfPlain c s remaining place r is e o g) i =
      let k : NoneOf h.machine.table place × HasSocket h.machine.store.records place =
      elim e [ inl joined ↦ subst (MadeSo h.machine.table h.machine.store.records) joined i.1 | inr failed ↦ subst (MadeSo h.machine.table h.machine.store.records) failed i.1 ] in
      record { new = first_fits P3 h.machine.table h.machine.store.records place k.0 k.1; so = tt }
  handles_owns h _ _ _ (OfListener n handle reached place r q made g has e) i =
      let k : MadeSo h.machine.table h.machine.store.records (ToListen n (Some handle) reached) = subst (MadeSo h.machine.table h.machine.store.records) made i.1 in
      let same : reached ≡ place = (let p : Some reached ≡ Some place = sym (ap tcp3_of k.1) ∙ e in cc) in
      record {
        new =
            subst (λ (x : ℕ). IsNew h.machine.table h.machine.store.records (Listen3 x) None) same
            (listener_fits h.machine.table h.machine.store.records reached handle k.1 k.0 (ap listens_in g ∙ has) i.0);
        so = tt;
      }
  handles_owns h _ _ _ (OfResult socket place slot r is made e g) i =
      let k : MadeSo h.machine.table h.machine.store.records (ToResult slot) = subst (MadeSo h.machine.table h.machine.store.records) made i.1 in
      record { new = owner_fits h.machine.table h.machine.store.records (Result3 slot) slot None refl (λ w e. absurd (cc)) k.0 k.1; so = tt }
  handles_owns h _ _ _ (OfCreated P2 place u g) i = record {
    new = created_fits P2 h.machine.table h.machine.store.records place (subst (MadeSo h.machine.table h.machine.store.records) g.awaited i.1) (created_stays (slice_get h.machine.store.records place) u g.found g.opens);
    so = tt;
  }
  handles_owns h _ _ _ (OfCreated P3 place u g) i = record {
    new = created_fits P3 h.machine.table h.machine.store.records place (subst (MadeSo h.machine.table h.machine.store.records) g.awaited i.1) (created_stays (slice_get h.machine.store.records place) u g.found g.opens);
    so = tt;
  }
  handles_owns h _ _ _ (OfStream place n handle reached kind next new of) i =
      let t = h.machine.table in
      let records = h.machine.store.records in
      let is = is_udp (kind_at t handle) place of in
      let one = one_of_handle t records handle place (Udp2 place) is refl i.0 in
      let stays = owner_there t records handle place (Udp2 place) is refl i.0 in
      record { new = two_fits t records kind (Incoming place) (Outgoing place) place handle (one_stream h.made n handle reached kind place next) (stream_fits t records (Incoming place) place handle refl (λ w e. absurd (cc)) one stays) (stream_fits t records (Outgoing place) place handle refl (λ w e. absurd (cc)) one stays); so = tt }
  handles_owns h _ _ _ (OfError n handle place handles m k e) i = made_other h ErrorValue (Some handle) tt i

  no_room : (h : Here) (made : Made) → HasNoRoom made → Owns h → Owns (record h { made = made })
  no_room h Past none i = (i.0, tt, i.2)
  no_room h (ToSend n handle reached) none i = (i.0, tt, i.2)
  no_room h _ none i = absurd none

  -- a TCP socket's handle, of either interface
  first_owned : (face : Interface) (t : HandleTable) (records : List Record) (place : ℕ) → NoneOf t place → HasSocket records place
      → Owned t records → Owned (with_handle t (tcp_kind face place) None) records
  first_owned P2 t records place none stays i = made_owned t records (Tcp2 place) None (first_fits P2 t records place none stays) i
  first_owned P3 t records place none stays i = made_owned t records (Tcp3 place) None (first_fits P3 t records place none stays) i

  -- a listen that is pending is so still: no listener is made meanwhile
  marks_role : (h : Here) (kind : Kind) (parent : Option ℕ) (sock : Option OpId) (place : ℕ) → Marks origin h kind parent sock → listener_of kind ≡ Some place → ⊥
  marks_role h _ parent sock place (walk.ANetwork c e) l = absurd (cc)
  marks_role h kind _ _ place (walk.AStream c handle p _ is two opened) l = no_stream_role kind p place two l
  marks_role h kind _ _ place (walk.AnAcceptedStream c listener handle p _ r is two made own g) l = no_stream_role kind p place two l
  marks_role h _ _ sock place (walk.APollable c handle w is p e by) l = absurd (cc)
  marks_role h _ _ sock place (walk.AUdpPollable c handle w is p e by) l = absurd (cc)
  marks_role h _ _ sock place (walk.ALookup c network p name is there made) l = absurd (cc)
  marks_role h kind _ _ p (walk.AnEnd socket place _ end r m in_it e g is made) l = no_record kind p (end_other socket kind origin m) (inr (inr l))
  marks_role h _ _ sock place (walk.ALookupPollable c handle p is e) l = absurd (cc)
  marks_role h _ _ sock place (walk.APlain kind makes numbered) l = plain_role origin kind place makes l
  marks_role h _ _ sock place (walk.APlainPollable c handle is e) l = absurd (cc)

  handles_stand : (h : Here) (kind : Kind) (parent : Option ℕ) (made : Made) → Handles origin h kind parent made → Owns h → StandsSo (with_handle h.machine.table kind parent) h.machine.store.standing
  handles_stand h kind parent _ (OfLine _ _ sock m) i = stands_still h.machine.table h.machine.store.records kind parent (λ p l. marks_role h kind parent sock p m l) h.machine.store.standing i.2
  handles_stand h kind parent _ (OfAccepted c s place r is e o g) i = stands_still h.machine.table h.machine.store.records kind parent (λ p l. absurd (cc)) h.machine.store.standing i.2
  handles_stand h kind parent _ (OfPlain c s remaining place r is e o g) i = stands_still h.machine.table h.machine.store.records kind parent (λ p l. absurd (cc)) h.machine.store.standing i.2
  handles_stand h kind parent _ (OfResult socket place slot r is made e g) i = stands_still h.machine.table h.machine.store.records kind parent (λ p l. absurd (cc)) h.machine.store.standing i.2
  handles_stand h kind parent _ (OfListener n handle reached place r q made g has e) i = quiet_so (with_handle h.machine.table kind parent) h.machine.store.standing q
  handles_stand h kind parent _ (OfCreated P2 place u g) i = stands_still h.machine.table h.machine.store.records kind parent (λ p l. absurd (cc)) h.machine.store.standing i.2
  handles_stand h kind parent _ (OfCreated P3 place u g) i = stands_still h.machine.table h.machine.store.records kind parent (λ p l. absurd (cc)) h.machine.store.standing i.2
  handles_stand h kind parent _ (OfStream place n handle reached _ next new of) i = stands_still h.machine.table h.machine.store.records kind parent (λ p l. no_datagram_role kind place p (one_stream h.made n handle reached kind place next) l) h.machine.store.standing i.2
  handles_stand h kind parent _ (OfError n handle place handles m k e) i = stands_still h.machine.table h.machine.store.records kind parent (λ p l. absurd (cc)) h.machine.store.standing i.2

  stands_created : (face : Interface) (t : HandleTable) (records : List Record) (standing : Option Standing) → StandsSo t standing → StandsSo (with_handle t (tcp_kind face (length records)) None) standing
  stands_created P2 t records standing k = stands_still t records (Tcp2 (length records)) None (λ p l. absurd (cc)) standing k
  stands_created P3 t records standing k = stands_still t records (Tcp3 (length records)) None (λ p l. absurd (cc)) standing k

  given_up_owns : (h : Here) (place : ℕ) (r : TcpRecord) → ListenerGoes h place r → Found h place r → Owns h → Owns (put h place (with_listening r Not))
  given_up_owns h place r (walk.NoListener none) g i = put_owns h place r g _ (refl, λ s. s, gained r.listening r.listening refl none _) i
  given_up_owns h place r (walk.NotYet n marks made) g i = put_unlistened h place r g _ (refl, λ s. s) (subst (MadeSo h.machine.table h.machine.store.records) made i.1).0 i
  given_up_owns h place r (walk.NoMore made) g i = put_unlistened h place r g _ (refl, λ s. s) ((subst (MadeSo h.machine.table h.machine.store.records) made i.1).1 place refl) i
  given_up_owns h place r (walk.OfNothing made) g i = put_unlistened h place r g _ (refl, λ s. s) (λ a l e. (subst (MadeSo h.machine.table h.machine.store.records) made i.1) a l (inr (inr e))) i

  pub becomes_owns : (h now : Here) → Becomes contexts line origin h now → Owns h → Owns now
  becomes_owns h _ (Learnt place r side told at g e) i = put_owns h place r g _ (refl, λ s. s, λ l. l) i
  becomes_owns h _ (IsClosed place r side q g e) i = put_gone h place _ q.1 i
  becomes_owns h _ (GivenUp place r q goes g) i = given_up_owns h place r goes g i
  becomes_owns h _ (UdpLearnt place o socket g e) i = put_open h place o g _ refl i
  becomes_owns h _ (UdpIsClosed place o q g) i =
      put_none h place (UdpRecord.Open o) g (UdpRecord.Closed o.inner.side) (udp_released h place o g q i) i
  becomes_owns h _ (UdpGivenUp place create q g) i =
      put_none h place (UdpRecord.Creating create) g (UdpRecord.Closed create.operation.who.side)
      (none_open h place (UdpRecord.Creating create) g refl i) i
  becomes_owns h _ (UdpBegun face ctx family r c u m) i = begun_owns h (udp_after_create (own_of line) ctx.name family r) i
  becomes_owns h _ (Resolved host records l same) i = same_owns h records same i
  becomes_owns h _ (StandsOn host told) i = i
  becomes_owns h _ (DatagramBegan place o call op polled ended at g starts made own left) i = i
  becomes_owns h _ (DatagramPolled n b place o call op polled ended is at g polls left) i = i
  becomes_owns h _ (HasHandle kind parent made k) i =
      let x = handles_owns h kind parent made k i in
      (made_owned h.machine.table h.machine.store.records kind parent x.new i.0, x.so, handles_stand h kind parent made k i)
  becomes_owns h _ (NoRoom made none) i = no_room h made none i
  becomes_owns h _ (Created face ctx family c u m) i = (
    push_owned h.machine.table h.machine.store.records _ i.0,
    push_made h.machine.table h.machine.store.records _ h.made i.1,
    i.2,
  )
  becomes_owns h _ (CreatedWith face ctx family c u past) i =
      let records = h.machine.store.records in
      let new = Record.Tcp (new_record (new_socket (own_of line) ctx.name family)) in (
        first_owned face h.machine.table (records ++ new ∷ []) (length records) (none_at_end h.machine.table records i.0)
            (ap (λ (o : Option Record). is_some (socket_in (tcp2_of o))) (get_seam records new))
            (push_owned h.machine.table records new i.0),
        subst (MadeSo (with_handle h.machine.table (tcp_kind face (length records)) None) (records ++ new ∷ [])) (sym past) tt,
        stands_created face h.machine.table records h.machine.store.standing i.2,
      )
  becomes_owns h _ (Writing _ (InCall place n r s half permit bytes at g e w within used)) i = put_owns h place r g _ (refl, λ s. refl, λ l. l) i

  pub polls_owns : (h : Here) (op : Operation) (after : End × List Item → Here) → Held h op after → (end : End × List Item) → Owns h → Owns (after end)
  polls_owns h _ _ (walk.BindsOn place r op q g e) end i = put_owns h place r g _ (refl, λ s. s, λ l. l) i
  polls_owns h _ _ (walk.Connects place r op g e) end i = put_owns h place r g _ (refl, λ s. s, λ l. l) i
  polls_owns h _ _ (walk.Listens place r op q g e c) end i = put_owns h place r g _ (listened_dropped op r end, listened_streams op r end, gained r.listening (Begins op) e refl _) i
  polls_owns h _ _ (walk.Awaits place r l op g e a) end i = put_owns h place r g _ (refl, λ s. s, λ l. refl) i
  polls_owns h _ _ (walk.UdpCreates place create q g) end i = put_none h place (UdpRecord.Creating create) g _ (none_open h place (UdpRecord.Creating create) g refl i) i
  polls_owns h _ _ (walk.UdpBindsOn place o op q g e) end i = put_open h place o g _ refl i
  polls_owns h _ _ (walk.UdpConnectsOn place o op q g e) end i = put_open h place o g _ (connected_held op o end) i
  polls_owns h _ _ (walk.UdpReconnectsOn place o op q g e) end i = put_open h place o g _ (reconnected_held op o end) i
  polls_owns h _ _ (walk.SendsOn place o out op left g e s settles) end i = put_open h place o g _ refl i
  polls_owns h _ _ (walk.ReceivesOn place o inc op g e s) end i = put_open h place o g _ refl i

  abbrev pub owns_state : OfState contexts line origin (λ es h. ⊤)
  owns_state = record {
    Holds = Owns;
    moves = λ es h now m b i. moves_owns h now m i;
    becomes = λ es h now k b i. becomes_owns h now k i;
    turns = λ es h place r s g e b i. whatever (λ done. Owns (put h place (with_writer r s done.1))) (λ done. put_owns h place r g _ (refl, λ s. refl, λ l. l) i) es _;
    polls = λ es h op after held b i. whatever (λ end. Owns (after end)) (λ end. polls_owns h op after held end i) es (poll_asks op);
  }

  unfoldable pub owners : Law contexts line origin
  owners = of_state owns_state

  pub owners_begin : BeginsWrites owners
  unfolding owners
  owners_begin = begins_state owns_state
