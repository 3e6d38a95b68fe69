-- What a handle says of its record: that it is of the kind that the handle is of, and what else the handle needs of it.
use Rattle.std.proofs.Common.{◌≡◌, inl, inr, ℕ, List, [], ◌∷◌, ◌++◌, Option, Some, None, ap, refl, subst, sym, slice_get, slice_set, ◌∙◌}
use Rattle.std.specs.Prelude.{Bool, true, false, is_some, not, ◌||◌, IsSome, ⊤}
use Rattle.tcp_records.specs.Holding.{has_end, has_listener, is_held}
use Rattle.host_store.specs.declared.kind.Kind.{Kind}
use Rattle.host_store.specs.declared.kind.Kind.TheVariants.{Listen3, Tcp2, Tcp3, Udp2, Udp3, Input, Output, Incoming, Outgoing, Lookup, PlainInput, PlainOutput, Result3}
use Rattle.wasi_records.specs.Records.{slot_of}
use Rattle.host_store.specs.declared.kind.PlainInput.TheVariants as plain_input
use Rattle.host_store.specs.declared.kind.PlainOutput.TheVariants as plain_output
use Rattle.wasi_records.specs.Records.{tcp2_of, udp2_of, lookup_of, input_pipe_of, output_pipe_of}
use Rattle.udp_records.specs.Udp.{open_of}
use Rattle.lookup_records.specs.declared.name_lookup.LookupOp.{LookupOp}
use Rattle.wasi_records.specs.declared.records.Record.{Record}
use Rattle.tcp_records.specs.declared.socket.TcpRecord.{TcpRecord}
use Rattle.udp_records.specs.declared.udp.OpenUdp.{OpenUdp}
use Rattle.udp_records.specs.declared.udp.UdpRecord.{UdpRecord}
use Rattle.wasi_walks.specs.Answered.{streams_in}
use Rattle.wasi_walks.proofs.walks.Moves.{IsRecord, SameSockets}
use Rattle.wasi_walks.proofs.owners.Kinds.{IsOf, listener_of}
use Rattle.wasi_walks.proofs.Places.{push_at, set_at, tcp_sort, udp_sort}

-- a record that its socket's handle holds still
abbrev pub unless_dropped : TcpRecord → Bool → Option TcpRecord
unless_dropped r true = None
unless_dropped r false = Some r

abbrev pub socket_in : Option TcpRecord → Option TcpRecord
socket_in None = None
socket_in (Some r) = unless_dropped r r.dropped

-- one that has a listener
abbrev pub listens_in : Option TcpRecord → Bool
listens_in None = false
listens_in (Some r) = has_listener r.listening

-- the same of a UDP socket
abbrev pub unless_gone : OpenUdp → Bool → Option OpenUdp
unless_gone o true = None
unless_gone o false = Some o

abbrev pub held_udp : Option OpenUdp → Option OpenUdp
held_udp None = None
held_udp (Some o) = unless_gone o o.dropped

-- A socket's handle wasn't dropped; an input and an output of a connection are of a socket that has its streams, a listener is of
-- one that listens, and what is of a UDP socket is of an open one.
abbrev pub Names : Kind → Option Record → Type 0
Names (Tcp2 place) o = IsSome (socket_in (tcp2_of o))
Names (Tcp3 place) o = IsSome (socket_in (tcp2_of o))
Names (Input place) o = IsSome (streams_in (socket_in (tcp2_of o)))
Names (Output place) o = IsSome (streams_in (socket_in (tcp2_of o)))
Names (Listen3 place) o = listens_in (tcp2_of o) ≡ true
Names (Udp2 place) o = IsSome (held_udp (open_of (udp2_of o)))
Names (Udp3 place) o = IsSome (held_udp (open_of (udp2_of o)))
Names (Incoming place) o = IsSome (held_udp (open_of (udp2_of o)))
Names (Outgoing place) o = IsSome (held_udp (open_of (udp2_of o)))
Names (Lookup place) o = IsSome (lookup_of o)
Names (Result3 place) o = IsSome (slot_of o)
Names (PlainInput (plain_input.Pipe place)) o = IsSome (input_pipe_of o)
Names (PlainOutput (plain_output.Pipe place)) o = IsSome (output_pipe_of o)
Names _ o = ⊤

-- == one is replaced
-- it has its handle as before, and its streams and its listener where it had them
abbrev pub KeepsHeld : TcpRecord → TcpRecord → Type 0
KeepsHeld r now = (now.dropped ≡ r.dropped) × (IsSome r.streams → IsSome now.streams) × (has_listener r.listening ≡ true → has_listener now.listening ≡ true)

held_still : (r now : TcpRecord) (was is : Bool) → is ≡ was → IsSome (unless_dropped r was) → IsSome (unless_dropped now is)
held_still r now true is e s = absurd (cc)
held_still r now false is e s = subst (λ (b : Bool). IsSome (unless_dropped now b)) (sym e) refl

streams_still : (r now : TcpRecord) (was is : Bool) → is ≡ was → (IsSome r.streams → IsSome now.streams) → IsSome (streams_in (unless_dropped r was)) → IsSome (streams_in (unless_dropped now is))
streams_still r now true is e keeps s = absurd (cc)
streams_still r now false is e keeps s = subst (λ (b : Bool). IsSome (streams_in (unless_dropped now b))) (sym e) (keeps s)

-- a handle that is no listener's
pub socket_names : (kind : Kind) (r now : TcpRecord) → (now.dropped ≡ r.dropped) × (IsSome r.streams → IsSome now.streams) → ((place : ℕ) → listener_of kind ≡ Some place → ⊥)
    → Names kind (Some (Record.Tcp r)) → Names kind (Some (Record.Tcp now))
socket_names (Tcp2 place) r now keeps other s = held_still r now r.dropped now.dropped keeps.0 s
socket_names (Tcp3 place) r now keeps other s = held_still r now r.dropped now.dropped keeps.0 s
socket_names (Input place) r now keeps other s = streams_still r now r.dropped now.dropped keeps.0 keeps.1 s
socket_names (Output place) r now keeps other s = streams_still r now r.dropped now.dropped keeps.0 keeps.1 s
socket_names (Listen3 place) r now keeps other s = absurd (other place refl)
socket_names (PlainInput (plain_input.Pipe place)) r now keeps other s = s
socket_names (PlainInput plain_input.Closed) r now keeps other s = s
socket_names (PlainOutput (plain_output.Pipe place)) r now keeps other s = s
socket_names (PlainOutput plain_output.Sink) r now keeps other s = s
socket_names (PlainOutput plain_output.Closed) r now keeps other s = s
socket_names _ r now keeps other s = s

tcp_names : (kind : Kind) (r now : TcpRecord) → KeepsHeld r now → Names kind (Some (Record.Tcp r)) → Names kind (Some (Record.Tcp now))
tcp_names (Listen3 place) r now keeps s = keeps.2 s
tcp_names (Tcp2 place) r now keeps s = socket_names (Tcp2 place) r now (keeps.0, keeps.1) (λ p e. absurd (cc)) s
tcp_names (Tcp3 place) r now keeps s = socket_names (Tcp3 place) r now (keeps.0, keeps.1) (λ p e. absurd (cc)) s
tcp_names (Input place) r now keeps s = socket_names (Input place) r now (keeps.0, keeps.1) (λ p e. absurd (cc)) s
tcp_names (Output place) r now keeps s = socket_names (Output place) r now (keeps.0, keeps.1) (λ p e. absurd (cc)) s
tcp_names (PlainInput (plain_input.Pipe place)) r now keeps s = s
tcp_names (PlainInput plain_input.Closed) r now keeps s = s
tcp_names (PlainOutput (plain_output.Pipe place)) r now keeps s = s
tcp_names (PlainOutput plain_output.Sink) r now keeps s = s
tcp_names (PlainOutput plain_output.Closed) r now keeps s = s
tcp_names _ r now keeps s = s

udp_still : (o now : OpenUdp) (was is : Bool) → is ≡ was → IsSome (unless_gone o was) → IsSome (unless_gone now is)
udp_still o now true is e s = absurd (cc)
udp_still o now false is e s = subst (λ (b : Bool). IsSome (unless_gone now b)) (sym e) refl

open_names : (kind : Kind) (o now : OpenUdp) → now.dropped ≡ o.dropped → Names kind (Some (Record.Udp (UdpRecord.Open o)))
    → Names kind (Some (Record.Udp (UdpRecord.Open now)))
open_names (Udp2 place) o now e s = udp_still o now o.dropped now.dropped e s
open_names (Udp3 place) o now e s = udp_still o now o.dropped now.dropped e s
open_names (Incoming place) o now e s = udp_still o now o.dropped now.dropped e s
open_names (Outgoing place) o now e s = udp_still o now o.dropped now.dropped e s
open_names (PlainInput (plain_input.Pipe place)) o now e s = s
open_names (PlainInput plain_input.Closed) o now e s = s
open_names (PlainOutput (plain_output.Pipe place)) o now e s = s
open_names (PlainOutput plain_output.Sink) o now e s = s
open_names (PlainOutput plain_output.Closed) o now e s = s
open_names _ o now e s = s

-- where it keeps what this handle needs of it
pub names_set : (xs : List Record) (i : ℕ) (now : Record) (k : ℕ) (kind : Kind)
    → (k ≡ i → Names kind (slice_get xs i) → Names kind (Some now)) → Names kind (slice_get xs k)
    → Names kind (slice_get (slice_set xs i now) k)
names_set xs i now k kind keeps s = elim (set_at xs i now k) [
  | inl same ↦ subst (Names kind) (sym same) s
  | inr its ↦ subst (Names kind) (sym its.1) (keeps its.0 (subst (λ (j : ℕ). Names kind (slice_get xs j)) its.0 s))
]

pub names_tcp : (xs : List Record) (i : ℕ) (r now : TcpRecord) → tcp2_of (slice_get xs i) ≡ Some r
    → KeepsHeld r now → (k : ℕ) (kind : Kind) → Names kind (slice_get xs k)
    → Names kind (slice_get (slice_set xs i (Record.Tcp now)) k)
names_tcp xs i r now g keeps k kind s =
    names_set xs i (Record.Tcp now) k kind (λ same was. tcp_names kind r now keeps
    (subst (Names kind) (tcp_sort.it _ r g) was)) s

pub names_open : (xs : List Record) (i : ℕ) (o now : OpenUdp) → udp2_of (slice_get xs i) ≡ Some (UdpRecord.Open o)
    → now.dropped ≡ o.dropped → (k : ℕ) (kind : Kind) → Names kind (slice_get xs k)
    → Names kind (slice_get (slice_set xs i (Record.Udp (UdpRecord.Open now))) k)
names_open xs i o now g e k kind s =
    names_set xs i (Record.Udp (UdpRecord.Open now)) k kind
    (λ same was. open_names kind o now e (subst (Names kind) (udp_sort.it _ (UdpRecord.Open o) g) was)) s

-- == nothing is of a record that isn't there
pub names_none : (kind : Kind) (place : ℕ) → IsOf kind place → Names kind None → ⊥
names_none (Tcp2 p) place e s = absurd (cc)
names_none (Tcp3 p) place e s = absurd (cc)
names_none (Input p) place e s = absurd (cc)
names_none (Output p) place e s = absurd (cc)
names_none (Udp2 p) place e s = absurd (cc)
names_none (Udp3 p) place e s = absurd (cc)
names_none (Incoming p) place e s = absurd (cc)
names_none (Outgoing p) place e s = absurd (cc)
names_none (Lookup p) place e s = absurd (cc)
names_none (Result3 p) place e s = absurd (cc)
names_none (PlainInput (plain_input.Pipe p)) place e s = absurd (cc)
names_none (PlainOutput (plain_output.Pipe p)) place e s = absurd (cc)
names_none (Listen3 p) place e s = absurd (cc)
names_none _ place (inl e) s = absurd (cc)
names_none _ place (inr (inl e)) s = absurd (cc)
names_none _ place (inr (inr e)) s = absurd (cc)

-- nor is a UDP socket's that isn't open
pub names_push : (xs : List Record) (now : Record) (k : ℕ) (kind : Kind) → IsOf kind k → Names kind (slice_get xs k)
    → Names kind (slice_get (xs ++ now ∷ []) k)
names_push xs now k kind e s =
    elim (push_at xs now k) [
      | inl same ↦ subst (Names kind) (sym same) s
      | inr its ↦ absurd
          (names_none kind k e (subst (Names kind) its.2 s))
    ]

-- == the sockets stay the same, and lookups and pipes stay such
pub names_same : {new : LookupOp → Type 0} (old now : List Record) (k : ℕ) (kind : Kind) → SameSockets new old now
    → Names kind (slice_get old k) → Names kind (slice_get now k)
names_same old now k (Tcp2 p) same s = subst (λ (o : Option TcpRecord). IsSome (socket_in o)) (sym (same.tcp k)) s
names_same old now k (Tcp3 p) same s = subst (λ (o : Option TcpRecord). IsSome (socket_in o)) (sym (same.tcp k)) s
names_same old now k (Input p) same s = subst (λ (o : Option TcpRecord). IsSome (streams_in (socket_in o))) (sym (same.tcp k)) s
names_same old now k (Output p) same s = subst (λ (o : Option TcpRecord). IsSome (streams_in (socket_in o))) (sym (same.tcp k)) s
names_same old now k (Listen3 p) same s = subst (λ (o : Option TcpRecord). listens_in o ≡ true) (sym (same.tcp k)) s
names_same old now k (Udp2 p) same s = subst (λ (o : Option UdpRecord). IsSome (held_udp (open_of o))) (sym (same.udp k)) s
names_same old now k (Udp3 p) same s = subst (λ (o : Option UdpRecord). IsSome (held_udp (open_of o))) (sym (same.udp k)) s
names_same old now k (Incoming p) same s = subst (λ (o : Option UdpRecord). IsSome (held_udp (open_of o))) (sym (same.udp k)) s
names_same old now k (Outgoing p) same s = subst (λ (o : Option UdpRecord). IsSome (held_udp (open_of o))) (sym (same.udp k)) s
names_same old now k (Lookup p) same s = same.stays k s
names_same old now k (Result3 p) same s = same.slots k s
names_same old now k (PlainInput (plain_input.Pipe p)) same s = same.inputs k s
names_same old now k (PlainOutput (plain_output.Pipe p)) same s = same.outputs k s
names_same old now k (PlainInput plain_input.Closed) same s = tt
names_same old now k (PlainOutput plain_output.Sink) same s = tt
names_same old now k (PlainOutput plain_output.Closed) same s = tt
names_same old now k _ same s = tt

-- a UDP socket that isn't open is as nothing, and so is what is given back
pub as_none : (kind : Kind) (u : UdpRecord) → open_of (Some u) ≡ None → Names kind (Some (Record.Udp u))
    → Names kind None
as_none (Udp2 p) u e n = subst (λ (o : Option OpenUdp). IsSome (held_udp o)) e n
as_none (Udp3 p) u e n = subst (λ (o : Option OpenUdp). IsSome (held_udp o)) e n
as_none (Incoming p) u e n = subst (λ (o : Option OpenUdp). IsSome (held_udp o)) e n
as_none (Outgoing p) u e n = subst (λ (o : Option OpenUdp). IsSome (held_udp o)) e n
as_none (PlainInput (plain_input.Pipe p)) u e n = n
as_none (PlainInput plain_input.Closed) u e n = n
as_none (PlainOutput (plain_output.Pipe p)) u e n = n
as_none (PlainOutput plain_output.Sink) u e n = n
as_none (PlainOutput plain_output.Closed) u e n = n
as_none _ u e n = n

gone_none : (kind : Kind) → Names kind (Some Record.Gone) → Names kind None
gone_none (PlainInput (plain_input.Pipe p)) n = n
gone_none (PlainInput plain_input.Closed) n = n
gone_none (PlainOutput (plain_output.Pipe p)) n = n
gone_none (PlainOutput plain_output.Sink) n = n
gone_none (PlainOutput plain_output.Closed) n = n
gone_none _ n = n

-- == what a handle is of is there
pub names_record : (kind : Kind) (place : ℕ) (o : Option Record) → IsOf kind place → Names kind o → IsRecord o
names_record kind place None e s = names_none kind place e s
names_record kind place (Some Record.Gone) e s = names_none kind place e (gone_none kind s)
names_record kind place _ e s = tt

-- == of a TCP socket that nothing holds nothing is live
not_held : (dropped ends listens : Bool) → not dropped || (ends || listens) ≡ false → (dropped ≡ true) × (listens ≡ false)
not_held true false false e = (refl, refl)
not_held true true listens e = absurd (cc)
not_held true false true e = absurd (cc)
not_held false ends listens e = absurd (cc)

none_dropped : (r : TcpRecord) → r.dropped ≡ true → unless_dropped r r.dropped ≡ None
none_dropped r e = ap (unless_dropped r) e

pub unheld_none : (kind : Kind) (place : ℕ) (r : TcpRecord) → is_held r ≡ false → IsOf kind place → Names kind (Some (Record.Tcp r)) → ⊥
unheld_none kind place r free e s = by_kind kind e s
  where
    parts : (r.dropped ≡ true) × (has_listener r.listening ≡ false)
    parts = not_held r.dropped (has_end r.streams) (has_listener r.listening) free

    gone : unless_dropped r r.dropped ≡ None
    gone = none_dropped r parts.0

    no_socket : IsSome (unless_dropped r r.dropped) → ⊥
    no_socket s = absurd (let p : false ≡ true = sym (ap (λ (o : Option TcpRecord). is_some o) gone) ∙ s in cc)

    no_streams : IsSome (streams_in (unless_dropped r r.dropped)) → ⊥
    no_streams s = absurd (let p : false ≡ true = sym (ap (λ (o : Option TcpRecord). is_some (streams_in o)) gone) ∙ s in cc)

    no_listens : has_listener r.listening ≡ true → ⊥
    no_listens s = absurd (let p : false ≡ true = sym parts.1 ∙ s in cc)

    by_kind : (k : Kind) → IsOf k place → Names k (Some (Record.Tcp r)) → ⊥
    by_kind (Tcp2 p) e s = no_socket s
    by_kind (Tcp3 p) e s = no_socket s
    by_kind (Input p) e s = no_streams s
    by_kind (Output p) e s = no_streams s
    by_kind (Listen3 p) e s = no_listens s
    by_kind (Udp2 p) e s = absurd (cc)
    by_kind (Udp3 p) e s = absurd (cc)
    by_kind (Incoming p) e s = absurd (cc)
    by_kind (Outgoing p) e s = absurd (cc)
    by_kind (Lookup p) e s = absurd (cc)
    by_kind (Result3 p) e s = absurd (cc)
    by_kind (PlainInput (plain_input.Pipe p)) e s = absurd (cc)
    by_kind (PlainOutput (plain_output.Pipe p)) e s = absurd (cc)
    by_kind _ (inl e) s = absurd (cc)
    by_kind _ (inr (inl e)) s = absurd (cc)
    by_kind _ (inr (inr e)) s = absurd (cc)

-- nor is anything of a UDP socket that its handle doesn't hold
gone_udp : (o : OpenUdp) → o.dropped ≡ true → IsSome (unless_gone o o.dropped) → ⊥
gone_udp o e s = absurd (let p : IsSome (unless_gone o true) = subst (λ (b : Bool). IsSome (unless_gone o b)) e s in cc)

pub dropped_none : (kind : Kind) (place : ℕ) (o : OpenUdp) → o.dropped ≡ true → IsOf kind place → Names kind (Some (Record.Udp (UdpRecord.Open o))) → ⊥
dropped_none (Udp2 p) place o d e s = gone_udp o d s
dropped_none (Udp3 p) place o d e s = gone_udp o d s
dropped_none (Incoming p) place o d e s = gone_udp o d s
dropped_none (Outgoing p) place o d e s = gone_udp o d s
dropped_none (Tcp2 p) place o d e s = absurd (cc)
dropped_none (Tcp3 p) place o d e s = absurd (cc)
dropped_none (Input p) place o d e s = absurd (cc)
dropped_none (Output p) place o d e s = absurd (cc)
dropped_none (Listen3 p) place o d e s = absurd (cc)
dropped_none (Lookup p) place o d e s = absurd (cc)
dropped_none (Result3 p) place o d e s = absurd (cc)
dropped_none (PlainInput (plain_input.Pipe p)) place o d e s = absurd (cc)
dropped_none (PlainOutput (plain_output.Pipe p)) place o d e s = absurd (cc)
dropped_none _ place o d (inl e) s = absurd (cc)
dropped_none _ place o d (inr (inl e)) s = absurd (cc)
dropped_none _ place o d (inr (inr e)) s = absurd (cc)
