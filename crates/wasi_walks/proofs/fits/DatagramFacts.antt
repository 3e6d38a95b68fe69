-- What follows of live handles, of the exclusive call and of datagrams of 0.3 in progress: which UDP sockets have their handles, and which
-- have datagrams or streams.
use Rattle.std.specs.Prelude.{◌≡◌, ◌||◌, ℕ, ◌==◌, Bool, true, false, not, ⊤, List, Option, Some, None, IsSome, is_some, refl}
use Rattle.std.proofs.Common.{ap, eqb-true, inl, inr, subst, sym, ◌∙◌}
use Rattle.wasi_table.specs.Table.{Live}
use Rattle.wasi_records.specs.declared.records.Record.{Record}
use Rattle.tcp_records.specs.declared.socket.TcpRecord.{TcpRecord}
use Rattle.udp_records.specs.declared.udp.OpenUdp.{OpenUdp}
use Rattle.udp_records.specs.declared.udp.UdpRecord.{UdpRecord}
use Rattle.udp_records.specs.Udp.{open_of}
use Rattle.wasi_records.specs.Records.{tcp2_at, udp2_at, udp2_of}
use Rattle.host_store.specs.declared.beside.Beside.{Beside}
use Rattle.host_store.specs.declared.beside.BesideCall.{BesideCall}
use Rattle.host_store.specs.declared.beside.BesideCall.TheVariants.{Connect, Resolve, Send, Receive}
use Rattle.host_store.specs.declared.kind.ConnectionEnd.{ConnectionEnd}
use Rattle.host_store.specs.declared.kind.Kind.{Kind}
use Rattle.host_store.specs.declared.kind.Kind.TheVariants.{Incoming, Input, Listen3, Lookup, Outgoing, Output, PlainInput, PlainOutput, Result3, Tcp2, Tcp3, Udp2, Udp3}
use Rattle.host_store.specs.declared.kind.PlainInput.TheVariants as plain_input
use Rattle.host_store.specs.declared.kind.PlainOutput.TheVariants as plain_output
use Rattle.host_store.specs.declared.store.StandingCall.{StandingCall}
use Rattle.host_store.specs.Beside.{beside_of}
use Rattle.host_store.specs.Kinds.{HandleTable, kind_at}
use Rattle.host_store.specs.Beside.{has_datagram, is_datagram_of}
use Rattle.host_udp.specs.SocketDatagrams.{held_by, is_udp_held}
use Rattle.host_store.specs.Standing.{call_place}
use Rattle.wasi_walks.specs.Licence.{Has}
use Rattle.wasi_walks.proofs.Places.{input_sort, lookup_sort, output_sort, slot_sort, tcp_sort, udp_sort}
use Rattle.wasi_walks.proofs.Slots.{slot_of}
use Rattle.wasi_walks.proofs.fits.Besides.{found_beside, none_of_it}
use Rattle.wasi_walks.proofs.fits.Datagrams.{CallHeld, Datagrams, FitBeside, IsHeldUdp}
use Rattle.wasi_walks.proofs.owners.Kinds.{IsOf}
use Rattle.wasi_walks.proofs.owners.Names.{Names, unless_gone}
use Rattle.wasi_walks.proofs.owners.Owned.{Owned, names_live, tcp_names, udp_names}
use Rattle.wasi_walks.proofs.walks.Moves as walk
use Rattle.wasi_walks.proofs.walks.Moves.{FoundUdp, Here, IsLeft, IsOfHandle, record_of, udp_record_of}
use Rattle.wasi_walks.proofs.walks.States.{IsPlain}

-- == what is no UDP socket that has lost its handle
pub tcp_held : (records : List Record) (place : ℕ) (r : TcpRecord) → tcp2_at records place ≡ Some r → IsHeldUdp records place
tcp_held records place r g o e = absurd (let q : udp2_of (Some (Record.Tcp r)) ≡ Some (UdpRecord.Open o) = sym (ap udp2_of (tcp_sort.it _ r g)) ∙ e in cc)

pub open_held : (records : List Record) (place : ℕ) (o : OpenUdp) → udp2_at records place ≡ Some (UdpRecord.Open o) → o.dropped ≡ false → IsHeldUdp records place
open_held records place o g free x e = let same : Some o ≡ Some x = ap open_of (sym g ∙ e) in subst (λ (y : Option OpenUdp). dropped_in y ≡ false) same free
  where
    dropped_in : Option OpenUdp → Bool
    dropped_in None = false
    dropped_in (Some y) = y.dropped

-- what a live handle is of
has_its_handle : (o : OpenUdp) (dropped : Bool) → IsSome (unless_gone o dropped) → dropped ≡ false
has_its_handle o true s = absurd (cc)
has_its_handle o false s = refl

open_named : (kind : Kind) (place : ℕ) (x : OpenUdp) → IsOf kind place → Names kind (Some (Record.Udp (UdpRecord.Open x))) → x.dropped ≡ false
open_named (Udp2 p) place x e s = has_its_handle x x.dropped s
open_named (Udp3 p) place x e s = has_its_handle x x.dropped s
open_named (Incoming p) place x e s = has_its_handle x x.dropped s
open_named (Outgoing p) place x e s = has_its_handle x x.dropped s
open_named (Tcp2 p) place x e s = absurd (cc)
open_named (Tcp3 p) place x e s = absurd (cc)
open_named (Input p) place x e s = absurd (cc)
open_named (Output p) place x e s = absurd (cc)
open_named (Listen3 p) place x e s = absurd (cc)
open_named (Lookup p) place x e s = absurd (cc)
open_named (Result3 p) place x e s = absurd (cc)
open_named (PlainInput (plain_input.Pipe p)) place x e s = absurd (cc)
open_named (PlainOutput (plain_output.Pipe p)) place x e s = absurd (cc)
open_named _ place x (inl e) s = absurd (cc)
open_named _ place x (inr (inl e)) s = absurd (cc)
open_named _ place x (inr (inr e)) s = absurd (cc)

module _ (t : HandleTable) (records : List Record) (i : Owned t records) where
  live_held : (a : Live Kind) (place : ℕ) → Has t.live a → IsOf a.value place → IsHeldUdp records place
  live_held a place l e o g = open_named a.value place o e (subst (Names a.value) (udp_sort.it _ (UdpRecord.Open o) g) (i.there a place l e))

  pub reaches : (handle place : ℕ) → record_of (kind_at t handle) ≡ Some place → IsHeldUdp records place
  reaches handle place e = by_kind (kind_at t handle) refl e
    where
      by_kind : (o : Option Kind) → kind_at t handle ≡ o → record_of o ≡ Some place → IsHeldUdp records place
      by_kind None k is = absurd (cc)
      by_kind (Some kind) k is = let a = names_live t records i handle place kind k (tcp_names kind place is) in live_held a.0 place a.1.0 a.1.1

  pub reaches_udp : (handle place : ℕ) → udp_record_of (kind_at t handle) ≡ Some place → IsHeldUdp records place
  reaches_udp handle place e = by_kind (kind_at t handle) refl e
    where
      by_kind : (o : Option Kind) → kind_at t handle ≡ o → udp_record_of o ≡ Some place → IsHeldUdp records place
      by_kind None k is = absurd (cc)
      by_kind (Some kind) k is = let a = names_live t records i handle place kind k (udp_names kind place is) in live_held a.0 place a.1.0 a.1.1

pub resumes_held : (records : List Record) (call : StandingCall) → IsOfHandle call → CallHeld records call → IsHeldUdp records (call_place call)
resumes_held records (StandingCall.DropOutgoing place) h k = open_held records place k.was k.at k.held
resumes_held records (StandingCall.UdpCreate place face) h k = absurd h
resumes_held records (StandingCall.Blocking call) h k = absurd h
resumes_held records (StandingCall.Bind place face) h k = k
resumes_held records (StandingCall.Listen place marks) h k = k
resumes_held records (StandingCall.DropOutput place) h k = k
resumes_held records (StandingCall.UdpBind place face) h k = k
resumes_held records (StandingCall.UdpConnect place handle) h k = k
resumes_held records (StandingCall.UdpConnect3 place) h k = k

pub stands_held : (records : List Record) (call : StandingCall) (r : TcpRecord) → tcp2_at records (call_place call) ≡ Some r → walk.GoesOn call r → CallHeld records call
stands_held records (StandingCall.Bind place face) r g k = tcp_held records place r g
stands_held records (StandingCall.DropOutput place) r g k = tcp_held records place r g
stands_held records (StandingCall.Listen place marks) r g k = absurd k
stands_held records (StandingCall.UdpCreate place face) r g k = absurd k
stands_held records (StandingCall.UdpBind place face) r g k = absurd k
stands_held records (StandingCall.UdpConnect place handle) r g k = absurd k
stands_held records (StandingCall.UdpConnect3 place) r g k = absurd k
stands_held records (StandingCall.DropOutgoing place) r g k = absurd k
stands_held records (StandingCall.Blocking call) r g k = absurd k

-- == a UDP socket that nothing holds
parts : (dropped datagrams : Bool) → not dropped || datagrams ≡ false → (dropped ≡ true) × (datagrams ≡ false)
parts true datagrams e = (refl, e)
parts false datagrams e = absurd (cc)

pub unheld_parts : (h : Here) (place : ℕ) (o : OpenUdp) → FoundUdp h place (UdpRecord.Open o) → is_udp_held h.machine.store place ≡ false → (o.dropped ≡ true) × (has_datagram h.machine.store.beside place ≡ false)
unheld_parts h place o g free =
    parts o.dropped (has_datagram h.machine.store.beside place) (subst (λ (u : Option UdpRecord). held_by h.machine.store.beside place (open_of u) ≡ false) g free)

-- nothing is left there
pub no_open_left : (h : Here) (place : ℕ) → IsLeft h place → (o : OpenUdp) → FoundUdp h place (UdpRecord.Open o) → ⊥
no_open_left h place (walk.OfTcp r made g) o e = absurd (let q : udp2_of (Some (Record.Tcp r)) ≡ Some (UdpRecord.Open o) = sym (ap udp2_of (tcp_sort.it _ r g)) ∙ e in cc)
no_open_left h place (walk.OfUdp side g) o e = absurd (let q : open_of (Some (UdpRecord.Closed side)) ≡ Some o = ap open_of (sym g ∙ e) in cc)
no_open_left h place (walk.OfLookup l made g) o e = absurd (let q : udp2_of (Some (lookup_sort.into l)) ≡ Some (UdpRecord.Open o) = sym (ap udp2_of (lookup_sort.it _ l g)) ∙ e in cc)
no_open_left h place (walk.OfUnnamed l made g) o e = absurd (let q : udp2_of (Some (lookup_sort.into l)) ≡ Some (UdpRecord.Open o) = sym (ap udp2_of (lookup_sort.it _ l g)) ∙ e in cc)
no_open_left h place (walk.OfInput bytes made g) o e = absurd (let q : udp2_of (Some (input_sort.into bytes)) ≡ Some (UdpRecord.Open o) = sym (ap udp2_of (input_sort.it _ bytes g)) ∙ e in cc)
no_open_left h place (walk.OfOutput pipe made g) o e = absurd (let q : udp2_of (Some (output_sort.into pipe)) ≡ Some (UdpRecord.Open o) = sym (ap udp2_of (output_sort.it _ pipe g)) ∙ e in cc)
no_open_left h place (walk.OfSlot s made g) o e = absurd (let q : udp2_of (Some (slot_sort.into s)) ≡ Some (UdpRecord.Open o) = sym (ap udp2_of (slot_sort.it _ s g)) ∙ e in cc)

-- == a handle of a UDP socket
abbrev pub IsUdpSocket : Kind → Type 0
IsUdpSocket (Udp2 place) = ⊤
IsUdpSocket (Udp3 place) = ⊤
IsUdpSocket _ = ⊥

pub plain_none : (kind : Kind) → IsPlain kind → IsUdpSocket kind → ⊥
plain_none (PlainInput plain) p is = is
plain_none (PlainOutput plain) p is = is
plain_none _ p is = absurd p

pub end_none : (kind : Kind) (end : ConnectionEnd) → walk.end_in kind ≡ Some end → IsUdpSocket kind → ⊥
end_none (Udp2 place) end e is = absurd (cc)
end_none (Udp3 place) end e is = absurd (cc)
end_none _ end e is = is

-- == whether a call is a datagram of a socket
pub other_place : (p place : ℕ) → (p ≡ place → ⊥) → (p == place) ≡ false
other_place p place other = by_test (p == place) refl
  where
    by_test : (b : Bool) → (p == place) ≡ b → (p == place) ≡ false
    by_test true e = absurd (other (eqb-true p place e))
    by_test false e = e

-- none is of one that isn't open
pub not_of : (records : List Record) (place line : ℕ) → ((o : OpenUdp) → udp2_at records place ≡ Some (UdpRecord.Open o) → ⊥) → (call : BesideCall) → FitBeside records line call → is_datagram_of place call ≡ false
not_of records place line none (Send p op) f = other_place p place (λ same. none f.0.was (ap (udp2_at records) (sym same) ∙ f.0.at))
not_of records place line none (Receive p op) f = other_place p place (λ same. none f.0.was (ap (udp2_at records) (sym same) ∙ f.0.at))
not_of records place line none (Connect p) f = refl
not_of records place line none (Resolve host) f = refl

-- == a socket of 0.3 has no datagram streams
module _ (h : Here) (i : Datagrams h) (place : ℕ) (o : OpenUdp) (g : FoundUdp h place (UdpRecord.Open o)) where
  -- whose handle is live
  pub handle_streamless : (s : ℕ) → kind_at h.machine.table s ≡ Some (Udp3 place) → is_some o.incoming ≡ true → ⊥
  handle_streamless s at some = let slot = slot_of h.machine.table.live s (Udp3 place) at in (i.streams place o g some).handle slot.slot slot.live_one slot.value

  -- or of which a datagram is in progress
  pub datagram_streamless : (n : ℕ) (b : Beside) → beside_of h.machine.store n ≡ Some b → is_datagram_of place b.call ≡ true → is_some o.incoming ≡ true → ⊥
  datagram_streamless n b at is some = absurd (let none : is_datagram_of place b.call ≡ false = none_of_it h.machine.store.beside place b (i.streams place o g some).none (found_beside h.machine.store.beside n b at).0 in cc)
