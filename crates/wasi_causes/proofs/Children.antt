-- Of the machines that runs lead to: what is made under a handle is under one that pollables watch, a stream or a socket of 0.2, and so
-- nothing is under another.
use Rattle.wasi_causes.proofs.Words.{Allows, End, Entry, Err, ErrorCode, Give, HandleTable, Input, Item, Kind, Left, List, Machine, None, Ok, Operation, Option, Output, Pollable, Reply, Result, Some, Step, Tcp2, WasiSocketsCtx, []}
use Rattle.wasi_causes.proofs.Words.{Bool, IsSome, ap, arith, false, first_state, if◌then◌else◌, inl, inr, kind_at, machine_asks, own_of, poll_asks, refl, run, subst, sym, table_parent, true, turn_asks, value_split, value_without, watched_by, with_handle, with_writer, without_handle, ℕ, ⊤, ◌<◌, ◌∙◌, ◌∷◌, ◌≡◌}
use Rattle.std.proofs.lemmas.Bool.{eqb-true}
use Rattle.host_store.specs.Kinds.{udp_kind, udp_of}
use Rattle.wasi_causes.proofs.Words.{ErrorValue, OpId, Watched, gives_more, length}
use Rattle.wasi_causes.proofs.Words.{HasChildren}
use Rattle.wasi_causes.proofs.sockets.P3Results.{its_kind}
use Rattle.wasi_causes.specs.Outcomes.{Outcome}
use Rattle.host_store.specs.Machine.{result3_at}
use Rattle.wasi_steps.specs.declared.guest_call.GuestCall.TheVariants as guest
use Rattle.wasi_steps.specs.declared.guest_call.P3TcpCall.TheVariants as p3_tcp_call
use Rattle.wasi_steps.specs.declared.reply.Reply.TheVariants as reply
use Rattle.wasi_steps.specs.declared.step.Step.TheVariants as step
use Rattle.host_store.specs.declared.kind.ConnectionEnd.{ConnectionEnd}
use Rattle.wasi_walks.proofs.walks.Here.{end_in}
use Rattle.host_store.specs.declared.kind.Kind.TheVariants.{Incoming, Listen3, Lookup, Outgoing, Receive3, Result3, Send3, Tcp3, Udp2}
use Rattle.wasi_table.specs.Table.{Live, children_of, is_child}
use Rattle.wasi_udp.specs.Create.{Create, after_create as udp_after_create}
use Rattle.wasi_walks.proofs.fits.Law.{whatever}
use Rattle.wasi_walks.proofs.fits.Polls.{Anything}
use Rattle.wasi_walks.proofs.Slots.{has_without, new_slot, one_of}
use Rattle.wasi_walks.proofs.walks.Law.{InCall}
use Rattle.wasi_walks.proofs.walks.Moves as walk
use Rattle.wasi_walks.proofs.walks.Moves.{Held, Here, Interface, Made, Marks, Move, P2, P3, Past, put, tcp_kind, udp_begun}
use Rattle.wasi_walks.proofs.walks.OfState.{Becomes, CreatedWith, Handles, HasHandle, HasNoRoom, NoRoom, UdpBegun, begins_state, of_state}
use Rattle.wasi_walks.proofs.walks.OfState.{OfAccepted, OfCreated, OfError, OfLine, OfListener, OfPlain, OfResult, OfState, OfStream, Writing}
use Rattle.wasi_walks.proofs.walks.Runs.{run_ends}
use Rattle.wasi_walks.proofs.walks.Steps.{machine_walks}
use Rattle.wasi_walks.specs.Licence.{Has}

-- == what holds of a table
-- each handle has a number of before
abbrev AreOlder : HandleTable → Type 0
AreOlder t = (k : ℕ) (kind : Kind) → kind_at t k ≡ Some kind → k < t.next

-- the handle is of before, and what it stands for, if it is live, is watched by pollables
pub record IsAbove (t : HandleTable) (p : ℕ) : Type 0 where
  pub older : p < t.next
  pub watched : (kind : Kind) → kind_at t p ≡ Some kind → IsSome (watched_by (Some kind))

abbrev Parents : HandleTable → Type 0
Parents t = (a : Live Kind) (p : ℕ) → Has t.live a → a.parent ≡ Some p → IsAbove t p

-- an accepted socket's streams are to be made under it
abbrev MadeAbove : HandleTable → Made → Type 0
MadeAbove t (Made.Marked handle place) = IsAbove t handle
MadeAbove t _ = ⊤

abbrev pub Above : Here → Type 0
Above h = AreOlder h.machine.table × Parents h.machine.table × MadeAbove h.machine.table h.made

-- == a handle less
without_above : (t : HandleTable) (handle p : ℕ) → IsAbove t p → IsAbove (without_handle t handle) p
without_above t handle p i = record { older = i.older; watched = λ kind e. i.watched kind (value_without t.live handle p kind e) }

without : (t : HandleTable) (handle : ℕ) → AreOlder t × Parents t → AreOlder (without_handle t handle) × Parents (without_handle t handle)
without t handle i = (λ k kind e. i.0 k kind (value_without t.live handle k kind e), λ a p l e. without_above t handle p (i.1 a p (has_without t.live handle a l) e))

-- == a handle more
module _ (t : HandleTable) (kind : Kind) (parent : Option ℕ) where
  abbrev more : HandleTable
  more = with_handle t kind parent

  more_above : (p : ℕ) → IsAbove t p → IsAbove more p
  more_above p i = record {
    older = (let l = i.older in omega (arith, l));
    watched = λ k e. elim (value_split t.live (new_slot t kind parent) p k e) [ inl was ↦ i.watched k was | inr new ↦ (let l = i.older in let n = new.0 in absurd (omega (arith, l, n))) ];
  }

  more_older : AreOlder t → AreOlder more
  more_older i k its e = elim (value_split t.live (new_slot t kind parent) k its e) [ inl was ↦ (let l = i k its was in omega (arith, l)) | inr new ↦ (let n = new.0 in omega (arith, n)) ]

  more_parents : ((p : ℕ) → table_parent kind parent ≡ Some p → IsAbove t p) → Parents t → Parents more
  more_parents new i a p l e = elim (one_of t kind parent a l) [
    | inl was ↦ more_above p (i a p was e)
    | inr is ↦ more_above p (new p (ap (λ (s : Live Kind). s.parent) is ∙ e))
  ]

  made_more : (made : Made) → MadeAbove t made → MadeAbove more made
  made_more (Made.Marked handle place) i = more_above handle i
  made_more _ i = tt

  -- the new one, which is a socket's of 0.2
  itself : (place : ℕ) → kind ≡ Tcp2 place → AreOlder t → IsAbove more t.next
  itself place is i = record {
    older = omega arith;
    watched = λ k e. elim (value_split t.live (new_slot t kind parent) t.next k e) [
      | inl was ↦ absurd (let l = i t.next k was in omega (arith, l))
      | inr new ↦ subst (λ (x : Kind). IsSome (watched_by (Some x))) (sym is ∙ new.1) refl
    ];
  }

-- one that pollables watch
known : (t : HandleTable) (p : ℕ) (kind : Kind) → kind_at t p ≡ Some kind → IsSome (watched_by (Some kind)) → AreOlder t → IsAbove t p
known t p kind e w i = record { older = i p kind e; watched = λ k f. let both : Some kind ≡ Some k = sym e ∙ f in let same : kind ≡ k = cc in subst (λ (x : Kind). IsSome (watched_by (Some x))) same w }

watched_above : (t : HandleTable) (p : ℕ) → IsSome (watched_by (kind_at t p)) → AreOlder t → IsAbove t p
watched_above t p w i = by_kind (kind_at t p) refl w
  where
    by_kind : (o : Option Kind) → kind_at t p ≡ o → IsSome (watched_by o) → IsAbove t p
    by_kind None e s = absurd (cc)
    by_kind (Some kind) e s = known t p kind e s i

udp_above : (t : HandleTable) (p place : ℕ) → udp_of (kind_at t p) ≡ Some place → AreOlder t → IsAbove t p
udp_above t p place u i = by_kind (kind_at t p) refl u
  where
    by_kind : (o : Option Kind) → kind_at t p ≡ o → udp_of o ≡ Some place → IsAbove t p
    by_kind (Some (Udp2 n)) e s = known t p (Udp2 n) e refl i
    by_kind _ e s = absurd (cc)

module _ (contexts : List WasiSocketsCtx) (line : ℕ) (origin : Step) where
  moves_above : (h now : Here) → Move line origin h now → Above h → Above now
  moves_above _ _ (walk.Empties h handle kind q e none) i = let k = without h.machine.table handle (i.0, i.1) in (k.0, k.1, tt)
  moves_above _ _ (walk.Takes h handle q made none) i = let k = without h.machine.table handle (i.0, i.1) in (k.0, k.1, subst (λ (x : Made). MadeAbove (without_handle h.machine.table handle) x) (sym made) tt)
  moves_above _ _ (walk.Leaves h) i = (i.0, i.1, tt)
  moves_above _ _ (walk.Watches h own) i = (i.0, i.1, tt)
  moves_above _ _ (walk.Numbers h) i = (i.0, i.1, tt)
  moves_above _ _ (walk.AddsSlot h s) i = (i.0, i.1, tt)
  moves_above _ _ (walk.Joins h c handle place r l new peer is of u g e a) i = (i.0, i.1, tt)
  moves_above _ _ (walk.JoinsPlain h c listener remaining place r l new peer is of u g e a) i = (i.0, i.1, tt)
  moves_above _ _ (walk.JoinsFault h place r l c u g e a) i = (i.0, i.1, tt)
  moves_above _ _ (walk.Frees h place made) i = (i.0, i.1, tt)
  moves_above _ _ (walk.IsUnheld h place r g free) i = (i.0, i.1, tt)
  moves_above _ _ (walk.AwaitsCreate h place face create is g) i = (i.0, i.1, tt)
  moves_above _ _ (walk.CallsHandles h kind calls quiet) i = (i.0, i.1, tt)
  moves_above _ _ (walk.RecallsCall h ids call e) i = (i.0, i.1, tt)
  moves_above _ _ (walk.RemembersStreams h c handle place remote is of o g none) i = (i.0, i.1, tt)
  moves_above _ _ (walk.RecallsStreams h ids place handle e own) i = (i.0, i.1, tt)
  moves_above _ _ (walk.RemembersListen h marks place r is under g none) i = (i.0, i.1, tt)
  moves_above _ _ (walk.RecallsListen h ids place marks e) i = (i.0, i.1, tt)
  moves_above _ _ _ i = i

  polls_above : (h : Here) (op : Operation) (after : End × List Item → Here) → Held h op after → (end : End × List Item) → Above h → Above (after end)
  polls_above h _ _ (walk.BindsOn place r op q g e) end i = i
  polls_above h _ _ _ end i = i

  -- == what is made
  -- only streams and pollables are under a handle
  under_it : (kind : Kind) (handle p : ℕ) → table_parent kind (Some handle) ≡ Some p → handle ≡ p
  under_it (Input n) handle p e = cc
  under_it (Output n) handle p e = cc
  under_it (Incoming n) handle p e = cc
  under_it (Outgoing n) handle p e = cc
  under_it (Pollable w) handle p e = cc
  under_it _ handle p e = absurd (cc)

  none_under : (kind : Kind) (p : ℕ) → table_parent kind None ≡ Some p → ⊥
  none_under (Input n) p e = cc
  none_under (Output n) p e = cc
  none_under (Incoming n) p e = cc
  none_under (Outgoing n) p e = cc
  none_under (Pollable w) p e = cc
  none_under _ p e = cc

  no_end_under : (kind : Kind) (end : ConnectionEnd) (parent : Option ℕ) (p : ℕ) → end_in kind ≡ Some end → table_parent kind parent ≡ Some p → ⊥
  no_end_under (Receive3 its) end parent p is e = cc
  no_end_under (Send3 its) end parent p is e = cc
  no_end_under _ end parent p is e = absurd (cc)

  at_it : (h : Here) (kind : Kind) (handle p : ℕ) → table_parent kind (Some handle) ≡ Some p → IsAbove h.machine.table handle → IsAbove h.machine.table p
  at_it h kind handle p e k = subst (IsAbove h.machine.table) (under_it kind handle p e) k

  watched_so : (h : Here) (handle : ℕ) (w : Watched) → watched_by (kind_at h.machine.table handle) ≡ Some w → Above h → IsAbove h.machine.table handle
  watched_so h handle w e i = watched_above h.machine.table handle (rw e refl) i.0

  marks_above : (h : Here) (kind : Kind) (parent : Option ℕ) (sock : Option OpId) → Marks origin h kind parent sock → Above h → (p : ℕ) → table_parent kind parent ≡ Some p → IsAbove h.machine.table p
  marks_above h _ _ _ (walk.ANetwork c is) i p e = absurd (cc)
  marks_above h kind _ _ (walk.AStream c handle place _ is k opened) i p e = at_it h kind handle p e (known h.machine.table handle (Tcp2 place) opened.socket refl i.0)
  marks_above h kind _ _ (walk.AnAcceptedStream c listener handle place _ r is k made own g) i p e = at_it h kind handle p e (subst (MadeAbove h.machine.table) made i.2)
  marks_above h kind _ _ (walk.APollable c handle w is at of watched) i p e = at_it h kind handle p e (watched_so h handle w watched i)
  marks_above h kind _ _ (walk.AUdpPollable c handle w is at of watched) i p e = at_it h kind handle p e (watched_so h handle w watched i)
  marks_above h _ _ _ (walk.ALookup c network place name is some made) i p e = absurd (cc)
  marks_above h kind _ _ (walk.ALookupPollable c handle place is of) i p e = at_it h kind handle p e (known h.machine.table handle (Lookup place) of refl i.0)
  marks_above h kind _ _ (walk.APlain _ makes numbered) i p e = absurd (none_under kind p e)
  marks_above h kind _ _ (walk.APlainPollable c handle is watched) i p e = at_it h kind handle p e (watched_so h handle Watched.Plain watched i)
  marks_above h kind parent _ (walk.AnEnd socket place _ end r m in_it g f is made) i p e = absurd (no_end_under kind end parent p in_it e)

  udp_alone : (face : Interface) (place p : ℕ) → table_parent (udp_kind face place) None ≡ Some p → ⊥
  udp_alone P2 place p e = cc
  udp_alone P3 place p e = cc

  handles_above : (h : Here) (kind : Kind) (parent : Option ℕ) (made : Made) → Handles origin h kind parent made → Above h → Above (record h { machine = record h.machine { table = with_handle h.machine.table kind parent }; made = made })
  handles_above h _ _ _ (OfLine kind parent sock m) i = (more_older h.machine.table kind parent i.0, more_parents h.machine.table kind parent (marks_above h kind parent sock m i) i.1, made_more h.machine.table kind parent h.made i.2)
  handles_above h _ _ _ (OfAccepted c s place r is e o g) i =
      (more_older h.machine.table (Tcp2 place) (Some s) i.0, more_parents h.machine.table (Tcp2 place) (Some s) (λ p e. absurd (cc)) i.1, itself h.machine.table (Tcp2 place) (Some s) place refl i.0)
  handles_above h _ _ _ (OfPlain c s remaining place r is e o g) i = (more_older h.machine.table (Tcp3 place) (Some s) i.0, more_parents h.machine.table (Tcp3 place) (Some s) (λ p e. absurd (cc)) i.1, tt)
  handles_above h _ _ _ (OfListener n handle reached place r q m g has e) i = (more_older h.machine.table (Listen3 place) (Some handle) i.0, more_parents h.machine.table (Listen3 place) (Some handle) (λ p e. absurd (cc)) i.1, tt)
  handles_above h _ _ _ (OfResult socket place slot r m made e g) i = (more_older h.machine.table (Result3 slot) (Some socket) i.0, more_parents h.machine.table (Result3 slot) (Some socket) (λ p e. absurd (cc)) i.1, tt)
  handles_above h _ _ _ (OfCreated face place u g) i = (more_older h.machine.table (udp_kind face place) None i.0, more_parents h.machine.table (udp_kind face place) None (λ p e. absurd (udp_alone face place p e)) i.1, tt)
  handles_above h _ _ _ (OfStream place n handle reached kind next new of) i =
      (more_older h.machine.table kind (Some handle) i.0, more_parents h.machine.table kind (Some handle) (λ p e. at_it h kind handle p e (udp_above h.machine.table handle place of i.0)) i.1, tt)
  handles_above h _ _ _ (OfError n handle place handles m k e) i =
      (more_older h.machine.table ErrorValue (Some handle) i.0, more_parents h.machine.table ErrorValue (Some handle) (λ p e. absurd (cc)) i.1, made_more h.machine.table ErrorValue (Some handle) h.made i.2)

  no_room : (t : HandleTable) (made : Made) → HasNoRoom made → MadeAbove t made
  no_room t Past none = tt
  no_room t (Made.ToSend n handle reached) none = tt
  no_room t _ none = absurd none

  begun_above : (h : Here) (made : Result Create ErrorCode) → Above h → Above (udp_begun h made)
  begun_above h (Ok create) i = i
  begun_above h (Err c) i = i

  tcp_alone : (face : Interface) (place p : ℕ) → table_parent (tcp_kind face place) None ≡ Some p → ⊥
  tcp_alone P2 place p e = cc
  tcp_alone P3 place p e = cc

  becomes_above : (h now : Here) → Becomes contexts line origin h now → Above h → Above now
  becomes_above h _ (UdpBegun face ctx family r c u m) i = begun_above h (udp_after_create (own_of line) ctx.name family r) i
  becomes_above h _ (HasHandle kind parent made k) i = handles_above h kind parent made k i
  becomes_above h _ (NoRoom made none) i = (i.0, i.1, no_room h.machine.table made none)
  becomes_above h _ (CreatedWith face ctx family c u m) i =
      let kind = tcp_kind face (length h.machine.store.records) in
      (more_older h.machine.table kind None i.0, more_parents h.machine.table kind None (λ p e. absurd (tcp_alone face (length h.machine.store.records) p e)) i.1, made_more h.machine.table kind None h.made i.2)
  becomes_above h _ (Writing _ (InCall place n r s half permit bytes at g e w within used)) i = i
  becomes_above h _ _ i = i

  abbrev above_state : OfState contexts line origin (λ es h. ⊤)
  above_state = record {
    Holds = Above;
    moves = λ es h now m b i. moves_above h now m i;
    becomes = λ es h now k b i. becomes_above h now k i;
    polls = λ es h op after held b i. whatever (λ end. Above (after end)) (λ end. polls_above h op after held end i) es (poll_asks op);
    turns = λ es h place r s g e b i. whatever (λ done. Above (put h place (with_writer r s done.1))) (λ done. i) es (turn_asks s.writer);
  }

  line_above : (m : Machine) (es : List Entry) → AreOlder m.table × Parents m.table → Allows Anything (λ fs done. AreOlder done.1.table × Parents done.1.table) es (machine_asks contexts m line origin)
  line_above m es i =
      let walks = machine_walks line origin {law = of_state above_state} (begins_state above_state) m m.store.standing refl in
      gives_more (λ fs done. AreOlder done.1.table × Parents done.1.table × ⊤) (λ fs done. AreOlder done.1.table × Parents done.1.table) (λ fs done k. (k.0, k.1)) es (machine_asks contexts m line origin) (walks.along es (i.0, i.1, tt))

-- == of a run
no_children : (live : List (Live Kind)) (handle : ℕ) → ((a : Live Kind) → Has live a → a.parent ≡ Some handle → ⊥) → children_of live handle ≡ []
no_children [] handle none = refl
no_children (s ∷ live) handle none = by_test s.parent refl (no_children live handle (λ a l. none a (inr l)))
  where
    by_child : (b : Bool) (rest : List ℕ) → (b ≡ true → ⊥) → rest ≡ [] → (if b then s.handle ∷ rest else rest) ≡ []
    by_child true rest not e = absurd (not refl)
    by_child false rest not e = e

    by_test : (o : Option ℕ) → s.parent ≡ o → children_of live handle ≡ [] → (if is_child s.parent handle then s.handle ∷ children_of live handle else children_of live handle) ≡ []
    by_test None is e = rw is e
    by_test (Some p) is e = by_child (is_child s.parent handle) (children_of live handle) (λ same. none s (inl refl) (is ∙ ap (λ (n : ℕ). Some n) (sym (eqb-true handle p (ap (λ (o : Option ℕ). is_child o handle) (sym is) ∙ same))))) e

pub childless : (contexts : List WasiSocketsCtx) (steps : List Step) (es : List Entry) (replies : List Reply) (m : Machine)
    → Left (run contexts [] first_state 1 steps) es (Give (replies, m))
    → (handle : ℕ) (kind : Kind) → kind_at m.table handle ≡ Some kind → watched_by (Some kind) ≡ None → children_of m.table.live handle ≡ []
childless contexts steps es replies m w handle kind is none =
    let between = (run_ends contexts Anything (λ line fs now. AreOlder now.table × Parents now.table) (λ line s now fs i. line_above contexts line s now fs i) (λ k kind e. absurd (cc), λ a p l e. absurd l) steps es replies m w).1 in
    no_children m.table.live handle (λ a l e. let some : IsSome (watched_by (Some kind)) = (between.1 a handle l e).watched kind is in let never : IsSome {T = Watched} None = rw none at some in absurd (cc))

-- so the take of a result doesn't find any
pub results_have_none : (contexts : List WasiSocketsCtx) (steps : List Step) (es : List Entry) (replies : List Reply) (m : Machine)
    → Left (run contexts [] first_state 1 steps) es (Give (replies, m))
    → (line c handle : ℕ) (fs : List Entry) (after : Machine) → Outcome contexts m line (step.Call c (guest.P3Tcp (p3_tcp_call.Result handle))) fs (reply.Trap HasChildren) after → ⊥
results_have_none contexts steps es replies m w line c handle fs after row = by_number (result3_at m handle) refl (row.0.2 refl).1
  where
    by_number : (o : Option ℕ) → result3_at m handle ≡ o → IsSome o → ⊥
    by_number None names some = absurd (cc)
    by_number (Some place) names some = (row.0.2 refl).0.children (childless contexts steps es replies m w handle (Result3 place) (its_kind (kind_at m.table handle) place names) refl)
