-- Of the machines that runs lead to: what is left of a pending listen whose listener gets no handle, as in 0.2, is what one of a bound
-- socket asks.
use Rattle.wasi_records.specs.Records.{tcp2_at, tcp2_of, tcp2_put, tcp2_pushed}
use Rattle.wasi_records.specs.declared.records.Record.{Record}
use Rattle.udp_records.specs.declared.udp.UdpRecord.{UdpRecord}
use Rattle.lookup_records.specs.declared.name_lookup.LookupOp.{LookupOp}
use Rattle.wasi_udp.specs.Create.{Create, after_create as udp_after_create}
use Rattle.wasi_causes.proofs.Words.{Allows, Bool, Done, End, Entry, Err, ErrorCode, Give, Item, Kind, Left, List, Listener, Listening, Machine, None, Ok, OpId, Operation, Option}
use Rattle.wasi_causes.proofs.Words.{Refused, Reply, Result, Some, Standing, StandingCall, Step, TcpRecord, Waits, WasiSocketsCtx, [], ap, false, first_state, gives_more, inl, inr}
use Rattle.wasi_causes.proofs.Words.{machine_asks, own_of, poll_asks, refl, run, subst, sym, true, turn_asks, with_writer, eqb-true, ℕ, ⊤, ◌∙◌, ◌≡◌, ◌==◌}
use Rattle.std.proofs.lemmas.Bool.{eq-eqb}
use Rattle.wasi_causes.proofs.operations.Polls.{Keeps, bound_listen_leaves}
use Rattle.tcp_records.specs.declared.tcp_listening.Listening.TheVariants as listening
use Rattle.wasi_tcp.specs.declared.listener.Accepting.TheVariants as accepting
use Rattle.wasi_walks.proofs.fits.Law.{whatever}
use Rattle.wasi_walks.proofs.fits.Polls.{Anything}
use Rattle.wasi_walks.proofs.walks.Moves as walk
use Rattle.wasi_walks.proofs.walks.Moves.{Found, FoundUdp, GoesOn, HasListen, Held, Here, Made, Move, NoStart, NoStartIn, NoStartStands, SameSockets, ListensForHandle, beginning_listen, listen_after, put, put_udp, udp_begun, with_records}
use Rattle.wasi_walks.proofs.walks.Runs.{run_ends}
use Rattle.wasi_walks.proofs.walks.Steps.{machine_walks}
use Rattle.wasi_walks.proofs.walks.OfState.{DatagramBegan, DatagramPolled, Becomes, Created, CreatedWith, GivenUp, Handles, HasHandle, HasNoRoom, IsClosed, Learnt, NoRoom, OfError, OfLine, OfState, Resolved, StandsOn, UdpBegun}
use Rattle.wasi_walks.proofs.walks.OfState.{UdpGivenUp, UdpIsClosed, UdpLearnt, Writing, begins_state, of_state}
use Rattle.wasi_walks.proofs.walks.Law.{InCall}
use Rattle.wasi_walks.proofs.GoneLists.{stays_there, was_there}
use Rattle.wasi_records.specs.Numbered.{record_gone}
use Rattle.wasi_causes.proofs.Words.{slice_get}
use Rattle.wasi_walks.proofs.Places.{push_new, push_still, push_was, put_found, put_stays, put_still, put_was, tcp_sort, udp_sort}
use Rattle.wasi_walks.specs.Answered.{AllOf}
use Rattle.wasi_walks.specs.Waiting.{IsAskOfBound, IsOfBound}
use Rattle.wasi_walks.proofs.PipeLists.{slot_push_same}

-- == what holds
-- a listen was begun, of a bound socket
abbrev pub GoesOnBound : Listening → Type 0
GoesOnBound (listening.Begins op) = AllOf IsAskOfBound op.left
GoesOnBound _ = ⊥

pub begins_bound : (l : Listening) → GoesOnBound l → IsOfBound l
begins_bound (listening.Begins op) k = k
begins_bound _ k = absurd k

goes_on_bound : (l : Listening) → HasListen l → IsOfBound l → GoesOnBound l
goes_on_bound (listening.Begins op) has k = k
goes_on_bound _ has k = absurd has

-- The listen of this record does.
pub record ListensBound (records : List Record) (place : ℕ) : Type 0 where
  pub was : TcpRecord
  pub at : tcp2_at records place ≡ Some was
  pub goes : GoesOnBound was.listening

abbrev pub CallBound : List Record → StandingCall → Type 0
CallBound records (StandingCall.Listen place None) = ListensBound records place
CallBound records _ = ⊤

abbrev pub StandsBound : List Record → Option Standing → Type 0
StandsBound records None = ⊤
StandsBound records (Some s) = CallBound records s.call

-- and so does that of the line, if it was begun
abbrev MakesBound : List Record → Made → Type 0
MakesBound records (Made.ToListen n None place) = (r : TcpRecord) → tcp2_at records place ≡ Some r → IsOfBound r.listening
MakesBound records _ = ⊤

abbrev Bound : Here → Type 0
Bound h = StandsBound h.machine.store.records h.machine.store.standing × MakesBound h.machine.store.records h.made

-- == the records change
call_still : (old now : List Record) (call : StandingCall) → ((place : ℕ) → ListensBound old place → ListensBound now place) → CallBound old call → CallBound now call
call_still old now (StandingCall.Listen place None) f k = f place k
call_still old now (StandingCall.Listen place (Some handle)) f k = tt
call_still old now _ f k = tt

stands_still : (old now : List Record) (o : Option Standing) → ((place : ℕ) → ListensBound old place → ListensBound now place) → StandsBound old o → StandsBound now o
stands_still old now None f k = tt
stands_still old now (Some s) f k = call_still old now s.call f k

makes_still : (old now : List Record) (made : Made) → ((place : ℕ) → ((r : TcpRecord) → tcp2_at old place ≡ Some r → IsOfBound r.listening) → (r : TcpRecord) → tcp2_at now place ≡ Some r → IsOfBound r.listening) → MakesBound old made → MakesBound now made
makes_still old now (Made.ToListen n None place) f k = f place k
makes_still old now (Made.ToListen n (Some handle) place) f k = tt
makes_still old now _ f k = tt

-- where no start stands, nothing is said of what does
quiet_bound : (records : List Record) (o : Option Standing) → NoStartStands o → StandsBound records o
quiet_bound records None q = tt
quiet_bound records (Some s) q = by_call s.call q
  where
    by_call : (call : StandingCall) → NoStartIn call → CallBound records call
    by_call (StandingCall.Listen place None) q = absurd q
    by_call (StandingCall.Listen place (Some handle)) q = tt
    by_call _ q = tt

-- a TCP record changes: its listen goes on as it did, or nothing that starts is pending; and one that is begun is a bound socket's
module _ (h : Here) (place : ℕ) (r now : TcpRecord) (g : Found h place r) where
  stays : (GoesOnBound r.listening → GoesOnBound now.listening) → (k : ℕ) → ListensBound h.machine.store.records k → ListensBound (tcp2_put h.machine.store.records place now) k
  stays keeps k b = elim (put_stays tcp_sort h.machine.store.records place now k b.was b.at) [
    | inl p ↦ record { was = b.was; at = p; goes = b.goes }
    | inr p ↦ record { was = now; at = p.1; goes = keeps (let same : b.was ≡ r = (let q : Some b.was ≡ Some r = sym b.at ∙ (ap (tcp2_at h.machine.store.records) p.0 ∙ g) in cc) in subst (λ (x : TcpRecord). GoesOnBound x.listening) same b.goes) }
  ]

  makes : (IsOfBound r.listening → IsOfBound now.listening) → MakesBound h.machine.store.records h.made → MakesBound (tcp2_put h.machine.store.records place now) h.made
  makes fine = makes_still h.machine.store.records _ h.made
      (λ k all x e. elim (put_found tcp_sort h.machine.store.records place now k x e) [ inl p ↦ subst (λ (y : TcpRecord). IsOfBound y.listening) p.1 (fine (all r (ap (tcp2_at h.machine.store.records) p.0 ∙ g))) | inr p ↦ all x p ])

  put_bound : (GoesOnBound r.listening → GoesOnBound now.listening) → (IsOfBound r.listening → IsOfBound now.listening) → Bound h → Bound (put h place now)
  put_bound keeps fine i = (stands_still h.machine.store.records _ h.machine.store.standing (stays keeps) i.0, makes fine i.1)

  -- it listens as it did
  put_same : now.listening ≡ r.listening → Bound h → Bound (put h place now)
  put_same same = put_bound (subst GoesOnBound (sym same)) (subst IsOfBound (sym same))

  -- or nothing that starts is pending
  put_quiet : NoStart h → (IsOfBound r.listening → IsOfBound now.listening) → Bound h → Bound (put h place now)
  put_quiet q fine i = (quiet_bound _ h.machine.store.standing q, makes fine i.1)

  -- or no listen was in progress
  put_other : (GoesOnBound r.listening → ⊥) → IsOfBound now.listening → Bound h → Bound (put h place now)
  put_other none fine = put_bound (λ k. absurd (none k)) (λ k. fine)

-- a listener's goes on
accepts_none : (l : Listening) (its : Listener) → l ≡ listening.Accepts its → GoesOnBound l → ⊥
accepts_none l its e k = subst GoesOnBound e k

put_udp_bound : (h : Here) (place : ℕ) (u now : UdpRecord) → FoundUdp h place u → Bound h → Bound (put_udp h place now)
put_udp_bound h place u now g i = (
  stands_still h.machine.store.records _ h.machine.store.standing (λ k b. record { was = b.was; at = put_still udp_sort tcp_sort (λ t. refl) h.machine.store.records place u now k b.was g b.at; goes = b.goes }) i.0,
  makes_still h.machine.store.records _ h.made (λ k all x e. all x (put_was udp_sort tcp_sort (λ t. refl) h.machine.store.records place now k x e)) i.1,
)

-- one joins the records, which listens by nothing
push_bound : (records : List Record) (new : TcpRecord) (o : Option Standing) → StandsBound records o → StandsBound (tcp2_pushed records new) o
push_bound records new o = stands_still records (tcp2_pushed records new) o (λ k b. record { was = b.was; at = push_still tcp_sort tcp_sort records new k b.was b.at; goes = b.goes })

push_made : (records : List Record) (new : TcpRecord) (made : Made) → IsOfBound new.listening → MakesBound records made → MakesBound (tcp2_pushed records new) made
push_made records new made fine = makes_still records (tcp2_pushed records new) made (λ k all x e. elim (push_new tcp_sort records new k x e) [ inl p ↦ all x p | inr p ↦ subst (λ (y : TcpRecord). IsOfBound y.listening) p fine ])

-- other lookups, whichever
found_bound : {new : LookupOp → Type 0} (h : Here) (records : List Record) → SameSockets new h.machine.store.records records → Bound h → Bound (with_records h records)
found_bound h records same i = (
  stands_still h.machine.store.records records h.machine.store.standing (λ k b. record { was = b.was; at = same.tcp k ∙ b.at; goes = b.goes }) i.0,
  makes_still h.machine.store.records records h.made (λ k all x e. all x (sym (same.tcp k) ∙ e)) i.1,
)

begun_bound : (h : Here) (made : Result Create ErrorCode) → Bound h → Bound (udp_begun h made)
begun_bound h (Ok create) i = (
  stands_still h.machine.store.records _ h.machine.store.standing (λ k b. record { was = b.was; at = push_still udp_sort tcp_sort h.machine.store.records (UdpRecord.Creating create) k b.was b.at; goes = b.goes }) i.0,
  makes_still h.machine.store.records _ h.made (λ k all x e. all x (push_was udp_sort tcp_sort (λ t. refl) h.machine.store.records (UdpRecord.Creating create) k x e)) i.1,
)
begun_bound h (Err c) i = i

-- == moves
-- what goes on in a TCP record is no listen
goes_bound : (records : List Record) (call : StandingCall) (r : TcpRecord) → GoesOn call r → CallBound records call
goes_bound records (StandingCall.Listen place None) r k = absurd k
goes_bound records (StandingCall.Listen place (Some handle)) r k = tt
goes_bound records _ r k = tt

-- a listen of a bound socket begins so; one of another marks a listener, so that nothing is said of it
begins_so : (own side : OpId) (r : TcpRecord) → IsOfBound (beginning_listen own side r true).listening
begins_so own side r = (tt, (tt, tt))

begins_other : (records : List Record) (made : Made) → ListensForHandle made → MakesBound records made
begins_other records (Made.ToListen n (Some handle) place) k = tt
begins_other records (Made.ToListen n None place) k = absurd k
begins_other records _ k = tt

remembered : (records : List Record) (n : ℕ) (marks : Option ℕ) (place : ℕ) → ((r : TcpRecord) → tcp2_at records place ≡ Some r → IsOfBound r.listening) → MakesBound records (Made.ToListen n marks place)
remembered records n None place k = k
remembered records n (Some handle) place k = tt

module _ (h : Here) (place : ℕ) (r : TcpRecord) (g : Found h place r) where
  its : (x : TcpRecord) → tcp2_at h.machine.store.records place ≡ Some x → r ≡ x
  its x e = let p : Some r ≡ Some x = sym g ∙ e in cc

  none_begun : r.listening ≡ listening.Not → (x : TcpRecord) → tcp2_at h.machine.store.records place ≡ Some x → IsOfBound x.listening
  none_begun e x at = subst (λ (y : TcpRecord). IsOfBound y.listening) (its x at) (subst IsOfBound (sym e) tt)

  stands_listen : (n : ℕ) (marks : Option ℕ) → HasListen r.listening → MakesBound h.machine.store.records (Made.ToListen n marks place) → CallBound h.machine.store.records (StandingCall.Listen place marks)
  stands_listen n None has k = record { was = r; at = g; goes = goes_on_bound r.listening has (k r g) }
  stands_listen n (Some handle) has k = tt

recalled : (records : List Record) (n : ℕ) (marks : Option ℕ) (place : ℕ) → CallBound records (StandingCall.Listen place marks) → MakesBound records (Made.ToListen n marks place)
recalled records n None place k = λ x at. let same : k.was ≡ x = (let p : Some k.was ≡ Some x = sym k.at ∙ at in cc) in subst (λ (y : TcpRecord). IsOfBound y.listening) same (begins_bound k.was.listening k.goes)
recalled records n (Some handle) place k = tt

-- a record is given back, while nothing is pending, or one of a closed UDP socket
back_bound : (h : Here) (place : ℕ) → walk.GoesBack h place → StandsBound h.machine.store.records h.machine.store.standing → StandsBound (record_gone h.machine.store.records place) h.machine.store.standing
back_bound h place (walk.WhenIdle idle) i = subst (StandsBound _) (sym idle) tt
back_bound h place (walk.WhenClosed side g) i =
    stands_still h.machine.store.records _ h.machine.store.standing (λ k b. record { was = b.was; at = stays_there tcp2_of h.machine.store.records place k b.was (other k b) b.at; goes = b.goes }) i
  where
    other : (k : ℕ) → ListensBound h.machine.store.records k → k ≡ place → ⊥
    other k b same =
        let none : tcp2_at h.machine.store.records place ≡ None = ap tcp2_of (udp_sort.it (slice_get h.machine.store.records place) (UdpRecord.Closed side) g) in
        let some : tcp2_at h.machine.store.records place ≡ Some b.was = ap (tcp2_at h.machine.store.records) (sym same) ∙ b.at in
        absurd (cc)

module _ (contexts : List WasiSocketsCtx) (line : ℕ) (origin : Step) where
  -- a listen begins, where none was
  listens_begin : (h : Here) (place : ℕ) (r : TcpRecord) (side : OpId) (bound : Bool) → Found h place r → (bound ≡ false → ListensForHandle h.made) → r.listening ≡ listening.Not → Bound h → Bound (put h place (beginning_listen (own_of line) side r bound))
  listens_begin h place r side true g free none i = put_other h place r _ g (subst GoesOnBound none) (begins_so (own_of line) side r) i
  listens_begin h place r side false g free none i =
      (stands_still h.machine.store.records _ h.machine.store.standing (stays h place r _ g (λ k. absurd (subst GoesOnBound none k))) i.0, begins_other _ h.made (free refl))

  moves_bound : (h now : Here) → Move line origin h now → Bound h → Bound now
  moves_bound _ _ (walk.Changes h place r now g p) i = put_same h place r now g p.listening i
  moves_bound _ _ (walk.ClosesReader h place r s g e) i = put_same h place r _ g refl i
  moves_bound _ _ (walk.Writes h place r s w g e m) i = put_same h place r _ g refl i
  moves_bound _ _ (walk.IsGone h place r q g e) i = put_quiet h place r _ g q.0 (λ k. tt) i
  moves_bound _ _ (walk.Reconnects h place r c now g e s t u) i = put_same h place r _ g refl i
  moves_bound _ _ (walk.Opens h place r c d g e n) i = put_same h place r _ g refl i
  moves_bound _ _ (walk.TakesEnd h handle place r _ of g (walk.OfReceive c e free)) i = put_same h place r _ g refl i
  moves_bound _ _ (walk.TakesEnd h handle place r _ of g (walk.OfSend c e free)) i = put_same h place r _ g refl i
  moves_bound _ _ (walk.AddsSlot h s) i = ((found_bound {new = λ op. ⊥} h _ (slot_push_same h.machine.store.records s) i).0, tt)
  moves_bound _ _ (walk.BeginsConnect h place r side a bound at g d to known idle own) i = put_same h place r _ g refl i
  moves_bound _ _ (walk.BeginsBind h place r side a at g d to own) i = put_same h place r _ g refl i
  moves_bound _ _ (walk.BeginsWrite h place n r s half permit bytes at g e w within own) i = put_same h place r _ g refl i
  moves_bound _ _ (walk.BeginsListen h place r side bound at g d known free none to idle own) i = listens_begin h place r side bound g (λ e. (free e).1) none i
  moves_bound _ _ (walk.BeginsAccept h place n r l at g e a own) i = put_other h place r _ g (accepts_none r.listening l e) tt i
  moves_bound _ _ (walk.Unlistens h place r op q g e c o) i = put_quiet h place r _ g q (λ k. tt) i
  moves_bound _ _ (walk.Forgets h place r l c g e a) i = put_other h place r _ g (accepts_none r.listening l e) tt i
  moves_bound _ _ (walk.CancelsBind h place r op q g e) i = put_same h place r _ g refl i
  moves_bound _ _ (walk.UdpChanges h place o now g p keeps) i = put_udp_bound h place (UdpRecord.Open o) _ g i
  moves_bound _ _ (walk.BeginsUdpBind h place o a at g to own) i = put_udp_bound h place (UdpRecord.Open o) _ g i
  moves_bound _ _ (walk.BeginsUdpConnect h place o a bound at g to known none own) i = put_udp_bound h place (UdpRecord.Open o) _ g i
  moves_bound _ _ (walk.BeginsSend h place n o out d bound at g e item known own) i = put_udp_bound h place (UdpRecord.Open o) _ g i
  moves_bound _ _ (walk.BeginsReceive h place n o inc bound at g e is own) i = put_udp_bound h place (UdpRecord.Open o) _ g i
  moves_bound _ _ (walk.CancelsUdpBind h place o op q g e) i = put_udp_bound h place (UdpRecord.Open o) _ g i
  moves_bound _ _ (walk.CancelsUdpConnect h place o q g) i = put_udp_bound h place (UdpRecord.Open o) _ g i
  moves_bound _ _ (walk.Joins h c handle place r l new peer is of u g e a) i =
      let idle = walk.accepting_now r l accepting.Idle in (push_bound (tcp2_put h.machine.store.records place idle) (walk.joined l new peer) h.machine.store.standing (put_other h place r idle g (accepts_none r.listening l e) tt i).0, tt)
  moves_bound _ _ (walk.JoinsPlain h c listener remaining place r l new peer is of u g e a) i =
      let idle = walk.accepting_now r l accepting.Idle in (push_bound (tcp2_put h.machine.store.records place idle) (walk.joined_plain l new peer) h.machine.store.standing (put_other h place r idle g (accepts_none r.listening l e) tt i).0, tt)
  moves_bound _ _ (walk.JoinsFault h place r l c u g e a) i =
      let idle = walk.accepting_now r l accepting.Idle in (push_bound (tcp2_put h.machine.store.records place idle) (walk.faulted l c) h.machine.store.standing (put_other h place r idle g (accepts_none r.listening l e) tt i).0, tt)
  moves_bound _ _ (walk.Finds h records same) i = found_bound h records same i
  moves_bound _ _ (walk.Leaves h) i = (i.0, tt)
  moves_bound _ _ (walk.Watches h own) i = (i.0, tt)
  moves_bound _ _ (walk.Numbers h) i = (i.0, tt)
  moves_bound _ _ (walk.Frees h place made) i = (i.0, tt)
  moves_bound _ _ (walk.IsUnheld h place r g free) i = (i.0, tt)
  moves_bound _ _ (walk.Empties h handle kind q e none) i = (i.0, tt)
  moves_bound _ _ (walk.AwaitsCreate h place face create is g) i = (i.0, tt)
  moves_bound _ _ (walk.CallsHandles h kind calls quiet) i = (i.0, tt)
  moves_bound _ _ (walk.RecallsCall h ids call e) i = (i.0, tt)
  moves_bound _ _ (walk.RemembersStreams h c handle place remote is of o g none) i = (i.0, tt)
  moves_bound _ _ (walk.RecallsStreams h ids place handle e own) i = (i.0, tt)
  moves_bound _ _ (walk.RemembersListen h marks place r is under g none) i = (i.0, remembered h.machine.store.records line marks place (none_begun h place r g none))
  moves_bound _ _ (walk.RecallsListen h ids place marks e) i = (i.0, recalled h.machine.store.records ids.line marks place (subst (StandsBound h.machine.store.records) e i.0))
  moves_bound _ _ (walk.StandsListen h ids place marks r quiet at made g k) i = (stands_listen h place r g ids.line marks k (subst (MakesBound h.machine.store.records) made i.1), i.1)
  moves_bound _ _ (walk.Unstands h over) i = (tt, i.1)
  moves_bound _ _ (walk.Stands h ids call r quiet at g k) i = (goes_bound h.machine.store.records call r k, i.1)
  moves_bound _ _ (walk.StandsUdpBind h ids place face o op quiet at g e) i = (tt, i.1)
  moves_bound _ _ (walk.StandsUdpCreate h ids place face create quiet made g its) i = (tt, i.1)
  moves_bound _ _ (walk.StandsConnect h ids place o op quiet at past g e) i = (tt, i.1)
  moves_bound _ _ (walk.StandsUdpConnect h ids place handle o op quiet at made g e) i = (tt, i.1)
  moves_bound _ _ (walk.StandsDropOutgoing h ids place o quiet at g e) i = (tt, i.1)
  moves_bound _ _ (walk.StandsBlocking h ids call handles made its) i = (tt, i.1)
  moves_bound _ _ (walk.GivesBack h place idle left) i =
      (back_bound h place idle i.0, makes_still h.machine.store.records _ h.made (λ k all x e. all x (was_there tcp2_of refl h.machine.store.records place k x e)) i.1)
  moves_bound _ _ (walk.DropsUdp h place o idle made g) i = put_udp_bound h place (UdpRecord.Open o) _ g i
  moves_bound _ _ _ i = i

  -- == polls
  module _ (es : List Entry) (h : Here) (place : ℕ) (r : TcpRecord) (op : Operation) (q : NoStart h) (g : Found h place r) (e : r.listening ≡ listening.Begins op) where
    -- what is left of a listen
    left_bound : (end : End × List Item) → Keeps IsAskOfBound end → IsOfBound (listen_after op r end).listening
    left_bound (Waits, items) k = k.0
    left_bound (Done given, items) k = tt
    left_bound (Refused c given, items) k = tt

    abbrev MakesSo : Made → Type 0
    MakesSo made = Allows Anything (λ fs end. MakesBound (tcp2_put h.machine.store.records place (listen_after op r end)) made) es (poll_asks op)

    -- of the record that the line listens on
    by_place : (n k : ℕ) (b : Bool) → (k == place) ≡ b → MakesBound h.machine.store.records (Made.ToListen n None k) → MakesSo (Made.ToListen n None k)
    by_place n k true same all =
        let is : k ≡ place = eqb-true k place same in
        let bound : AllOf IsAskOfBound op.left = subst IsOfBound e (all r (ap (tcp2_at h.machine.store.records) is ∙ g)) in
        gives_more (λ fs end. Keeps IsAskOfBound end) (λ fs end. MakesBound (tcp2_put h.machine.store.records place (listen_after op r end)) (Made.ToListen n None k))
        (λ fs end keeps x at. elim (put_found tcp_sort h.machine.store.records place (listen_after op r end) k x at) [ inl p ↦ subst (λ (y : TcpRecord). IsOfBound y.listening) p.1 (left_bound end keeps) | inr p ↦ all x p ]) es (poll_asks op) (bound_listen_leaves op bound es)
    by_place n k false other all =
        whatever (λ end. MakesBound (tcp2_put h.machine.store.records place (listen_after op r end)) (Made.ToListen n None k))
        (λ end x at. elim (put_found tcp_sort h.machine.store.records place (listen_after op r end) k x at) [ inl p ↦ absurd (let same : (k == place) ≡ true = eq-eqb k place p.0 in cc) | inr p ↦ all x p ]) es (poll_asks op)

    by_made : (made : Made) → MakesBound h.machine.store.records made → MakesSo made
    by_made (Made.ToListen n None k) all = by_place n k (k == place) refl all
    by_made (Made.ToListen n (Some handle) k) all = whatever (λ end. ⊤) (λ end. tt) es (poll_asks op)
    by_made _ all = whatever (λ end. ⊤) (λ end. tt) es (poll_asks op)

    listens_on : Bound h → Allows Anything (λ fs end. Bound (put h place (listen_after op r end))) es (poll_asks op)
    listens_on i =
        gives_more (λ fs end. MakesBound (tcp2_put h.machine.store.records place (listen_after op r end)) h.made) (λ fs end. Bound (put h place (listen_after op r end)))
        (λ fs end k. (quiet_bound _ h.machine.store.standing q, k)) es (poll_asks op) (by_made h.made i.1)

  polls_bound : (es : List Entry) (h : Here) (op : Operation) (after : End × List Item → Here) → Held h op after → Bound h → Allows Anything (λ fs end. Bound (after end)) es (poll_asks op)
  polls_bound es h _ _ (walk.BindsOn place r op q g e) i = whatever _ (λ end. put_same h place r _ g refl i) es (poll_asks op)
  polls_bound es h _ _ (walk.Connects place r op g e) i = whatever _ (λ end. put_same h place r _ g refl i) es (poll_asks op)
  polls_bound es h _ _ (walk.Listens place r op q g e c) i = listens_on es h place r op q g e i
  polls_bound es h _ _ (walk.Awaits place r l op g e a) i = whatever _ (λ end. put_other h place r _ g (accepts_none r.listening l e) tt i) es (poll_asks op)
  polls_bound es h _ _ (walk.UdpCreates place create q g) i = whatever _ (λ end. put_udp_bound h place (UdpRecord.Creating create) _ g i) es (poll_asks create.operation)
  polls_bound es h _ _ (walk.UdpBindsOn place o op q g e) i = whatever _ (λ end. put_udp_bound h place (UdpRecord.Open o) _ g i) es (poll_asks op)
  polls_bound es h _ _ (walk.UdpConnectsOn place o op q g e) i = whatever _ (λ end. put_udp_bound h place (UdpRecord.Open o) _ g i) es (poll_asks op)
  polls_bound es h _ _ (walk.UdpReconnectsOn place o op q g e) i = whatever _ (λ end. put_udp_bound h place (UdpRecord.Open o) _ g i) es (poll_asks op)
  polls_bound es h op _ (walk.SendsOn place o out its left g e s settles) i = whatever _ (λ end. put_udp_bound h place (UdpRecord.Open o) _ g i) es (poll_asks op)
  polls_bound es h op _ (walk.ReceivesOn place o inc its g e s) i = whatever _ (λ end. put_udp_bound h place (UdpRecord.Open o) _ g i) es (poll_asks op)

  -- == what is asked
  handles_bound : (records : List Record) (h : Here) (kind : Kind) (parent : Option ℕ) (made : Made) → Handles origin h kind parent made → MakesBound records h.made → MakesBound records made
  handles_bound records h _ _ _ (OfLine kind parent sock m) i = i
  handles_bound records h _ _ _ (OfError n handle place handles m k e) i = i
  handles_bound records h _ _ _ _ i = tt

  no_room : (records : List Record) (made : Made) → HasNoRoom made → MakesBound records made
  no_room records (Made.ToListen n None place) none = absurd none
  no_room records (Made.ToListen n (Some handle) place) none = tt
  no_room records _ none = tt

  -- a socket is created
  created : (h : Here) (new : TcpRecord) → IsOfBound new.listening → Bound h → StandsBound (tcp2_pushed h.machine.store.records new) h.machine.store.standing × MakesBound (tcp2_pushed h.machine.store.records new) h.made
  created h new fine i = (push_bound h.machine.store.records new h.machine.store.standing i.0, push_made h.machine.store.records new h.made fine i.1)

  becomes_bound : (h now : Here) → Becomes contexts line origin h now → Bound h → Bound now
  becomes_bound h _ (Learnt place r side told at g e) i = put_same h place r _ g refl i
  becomes_bound h _ (IsClosed place r side q g e) i = put_quiet h place r _ g q.0 (λ k. tt) i
  becomes_bound h _ (GivenUp place r q goes g) i = put_quiet h place r _ g q (λ k. tt) i
  becomes_bound h _ (UdpLearnt place o socket g e) i = put_udp_bound h place (UdpRecord.Open o) _ g i
  becomes_bound h _ (UdpIsClosed place o q g) i = put_udp_bound h place (UdpRecord.Open o) _ g i
  becomes_bound h _ (UdpGivenUp place create q g) i = put_udp_bound h place (UdpRecord.Creating create) _ g i
  becomes_bound h _ (UdpBegun face ctx family r c u m) i = begun_bound h (udp_after_create (own_of line) ctx.name family r) i
  becomes_bound h _ (Resolved host records l same) i = found_bound h records same i
  becomes_bound h _ (StandsOn host told) i = i
  becomes_bound h _ (DatagramBegan place o call op polled ended at g starts m own left) i = i
  becomes_bound h _ (DatagramPolled n b place o call op polled ended is at g polls left) i = i
  becomes_bound h _ (HasHandle kind parent made k) i = (i.0, handles_bound h.machine.store.records h kind parent made k i.1)
  becomes_bound h _ (NoRoom made none) i = (i.0, no_room h.machine.store.records made none)
  becomes_bound h _ (Created face ctx family c u m) i = created h _ tt i
  becomes_bound h _ (CreatedWith face ctx family c u m) i = created h _ tt i
  becomes_bound h _ (Writing _ (InCall place n r s half permit bytes at g e w within used)) i = put_same h place r _ g refl i

  abbrev bound_state : OfState contexts line origin (λ es h. ⊤)
  bound_state = record {
    Holds = Bound;
    moves = λ es h now m b i. moves_bound h now m i;
    becomes = λ es h now k b i. becomes_bound h now k i;
    polls = λ es h op after held b i. polls_bound es h op after held i;
    turns = λ es h place r s g e b i.
        whatever (λ done. Bound (put h place (with_writer r s done.1))) (λ done. put_same h place r _ g refl i) es (turn_asks s.writer);
  }

  line_bound : (m : Machine) (es : List Entry) → StandsBound m.store.records m.store.standing → Allows Anything (λ fs done. StandsBound done.1.store.records done.1.store.standing) es (machine_asks contexts m line origin)
  line_bound m es i =
      gives_more (λ fs done. StandsBound done.1.store.records done.1.store.standing × ⊤) (λ fs done. StandsBound done.1.store.records done.1.store.standing) (λ fs done k. k.0) es (machine_asks contexts m line origin)
      ((machine_walks line origin {law = of_state bound_state} (begins_state bound_state) m m.store.standing refl).along es (i, tt))

-- == of a run
pub runs_listen_bound : (contexts : List WasiSocketsCtx) (steps : List Step) (es : List Entry) (replies : List Reply) (m : Machine) → Left (run contexts [] first_state 1 steps) es (Give (replies, m)) → StandsBound m.store.records m.store.standing
runs_listen_bound contexts steps es replies m w =
    (run_ends contexts Anything (λ line fs now. StandsBound now.store.records now.store.standing) (λ line s now fs i. line_bound contexts line s now fs i) tt steps es replies m w).1
