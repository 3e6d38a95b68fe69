-- A create is licensed, and so are the marks of handles; and what they make fits.
use Rattle.wasi_walks.proofs.licence.Ends.{end_handle, end_mark, end_no_accept, end_no_tcp}
use Rattle.std.specs.Prelude.{is_some}
use Rattle.wasi_walks.proofs.walks.Moves.{AnEnd}
use Rattle.wasi_walks.proofs.walks.States.{IsPlain, makes_plain}
use Rattle.wasi_walks.proofs.walks.Moves.{P2, P3, Interface, tcp_kind, record_of}
use Rattle.wasi_walks.proofs.Words.{made_to, handle_to, Stop, Allows, BeganBy, Call, Created, Entry, Err, ErrorCode, HandleKind, Has, Input, IsDoneOrCode, IsMaker}
use Rattle.wasi_walks.proofs.Words.{IsMarkOf, IsMarkedWith, IsSide, IsTcpCreate, Kind, List, MarksNoSocket, MayUseTcp, Network, None, Ok}
use Rattle.wasi_walks.proofs.Words.{OpId, Option, Output, Pollable, Result, Socket, SocketAddressFamily, Some, GuestCall, Step, Tcp2, TcpRecord, TcpState, Told}
use Rattle.wasi_walks.proofs.Words.{WasiSocketsCtx, [], after_create, allows_if, allows_then, ap, bind, context_in}
use Rattle.wasi_walks.proofs.Words.{entry, inl, inr, is_full, kind_at, length, make_asks, name_of, new_asks, new_record, new_socket, own_of, place_in}
use Rattle.wasi_walks.proofs.Words.{refl, side_at, side_in, slice_get, step_at, subst, sym, told_done, true, with_record, ℕ, ⊤, ◌++◌, ◌∙◌, ◌∷◌, ◌≡◌, ◌⊎◌}
use Rattle.wasi_walks.proofs.claims.Law.{Named, fresh}
use Rattle.wasi_walks.proofs.walks.Here.{Faulted, IsToCome}
use Rattle.wasi_walks.proofs.walks.Moves.{Own, Used, Unused, Marks, ANetwork, AStream, ALookup, ALookupPollable, APlain, APlainPollable, MakesPlain, Here, Found, Joined, Marked, made_so, APollable, AUdpPollable, tcp_place, udp_place, FoundUdp, AnAcceptedStream, Creates, Past}
use Rattle.wasi_walks.proofs.Lists.{has_last, has_split, has_front}
use Rattle.wasi_walks.specs.Licence.{IsTcpName, MakesTcp}
use Rattle.wasi_walks.proofs.licence.State.{accept_name, NamesRecord, NamesUdp, HandleIsFine, NamesItsOwn, SocketIsFine}
use Rattle.wasi_walks.proofs.licence.Frames.{Touches, Spared, handed_unless, stay, same_record, names_on}
use Rattle.wasi_walks.proofs.licence.States.{state_made, state_push}
use Rattle.wasi_walks.proofs.licence.Line.{IsAccept, AcceptsFor, names_record, names_udp, NotMarked, MakingStands, MadeSocket, Licensed, elsewhere, some_same, no_listen, spent}
use Rattle.wasi_walks.proofs.licence.Asked.{listens_on, joined_on}
use Rattle.wasi_walks.proofs.licence.Binds.{MayQuietly}
use Rattle.wasi_world.specs.declared.call.HandleKind.TheVariants as name
use Rattle.wasi_records.specs.Records.{tcp2_at, udp2_at}
use Rattle.udp_records.specs.Udp.{udp_side}
use Rattle.host_udp.specs.UdpCreates.{udp_side_at}
use Rattle.host_store.specs.declared.kind.PlainInput.TheVariants as plain_input
use Rattle.host_store.specs.declared.kind.PlainOutput.TheVariants as plain_output
use Rattle.host_store.specs.Kinds.{watched_by}
use Rattle.host_store.specs.declared.kind.Watched.{Watched}
use Rattle.udp_records.specs.declared.udp.UdpRecord.{UdpRecord}
use Rattle.wasi_records.specs.declared.records.Record.{Record}
use Rattle.wasi_walks.proofs.Places.{push_finds, push_new, tcp_sort}
use Rattle.wasi_walks.proofs.licence.Unbound.{MayAskSo}
use Rattle.wasi_steps.specs.declared.guest_call.TcpCall.{TcpCall}
use Rattle.wasi_steps.specs.declared.guest_call.NameCall.{NameCall}
use Rattle.wasi_steps.specs.declared.guest_call.PipeCall.{PipeCall}
use Rattle.wasi_steps.specs.declared.guest_call.PollableCall.{PollableCall}
use Rattle.wasi_steps.specs.declared.guest_call.P3TcpCall.{P3TcpCall}

not_used : Used ≡ Unused → ⊥
not_used e = absurd (cc)

module _ (contexts : List WasiSocketsCtx) (steps : List Step) (line : ℕ) (origin : Step) (is_line : step_at steps line ≡ Some origin) where
  -- == marks
  pub unmarked_made : (es : List Entry) (op : OpId) (n : ℕ) (k : HandleKind) (parent : Option ℕ) (sock : Option OpId) (t : Told) (x : OpId) → MarksNoSocket es x → (IsTcpName k → sock ≡ Some x → ⊥) → MarksNoSocket (es ++ entry op (Call.Made n k parent sock) t ∷ []) x
  unmarked_made es op n k parent sock t x m f o handle its above u is i = elim (has_split es (entry op (Call.Made n k parent sock) t) (entry o (Call.Made handle its above (Some x)) u) i) [
    | inl j ↦ m o handle its above u is j
    | inr e ↦ (let p = ap (λ (y : Entry). y.call) e in let a : its ≡ k = cc in let b : sock ≡ Some x = cc in f (subst IsTcpName a is) b)
  ]

  -- a mark, and what its handle stands for
  pub made_fine : (es : List Entry) (h : Here) (kind : Kind) (parent : Option ℕ) (sock : Option OpId) → BeganBy steps (own_of line) (IsMarkOf es (own_of line) (name_of kind) parent sock)
      → Spared h.machine.store.records (own_of line) (Call.Made h.machine.table.next (name_of kind) parent sock)
      → (IsAccept origin → (h.own ≡ Unused) ⊎ NotMarked h.made → ⊥)
      → ((x : OpId) → IsToCome line h.own x ⊎ ((face : Interface) × ((p : ℕ) × (h.made ≡ Joined face p))) → IsTcpName (name_of kind) → sock ≡ Some x → ⊥)
      → ((t : Told) → NamesItsOwn (es ++ entry (own_of line) (Call.Made h.machine.table.next (name_of kind) parent sock) t ∷ []) h.machine.store.records h.machine.table.next kind) → Licensed contexts steps line origin es h
      → Allows (MayAskSo contexts steps) (λ fs made. Licensed contexts steps line origin fs (record h { machine = record h.machine { table = made.1 } })) es (make_asks h.machine.table (own_of line) kind parent sock)
  unfolding bind
  made_fine es h kind parent sock o sp un ms f i =
      allows_if (MayAskSo contexts steps) (λ fs made. Licensed contexts steps line origin fs (record h { machine = record h.machine { table = made.1 } })) es (is_full h.machine.table) _ _ (λ full. elsewhere es h (record h { machine = record h.machine { table = h.machine.table } }) refl refl refl i i.fine i.names i.udp_names)
      (λ room. (
        (i.fine.count, o),
        λ told fits.
            let c = Call.Made h.machine.table.next (name_of kind) parent sock in
            let e = entry (own_of line) c told in
            record {
              fine = state_made contexts steps es h.machine (own_of line) parent sock told kind sp (f told) i.fine;
              names = λ k n r a g side d. names_on (stay steps) es _ (own_of n) side (i.names k n r a g side d);
              udp_names = λ k n u a g. names_on (stay steps) es _ (own_of n) (udp_side u) (i.udp_names k n u a g);
              listens = listens_on contexts steps line origin is_line es h (own_of line) c told (λ k q op g d p. absurd (cc)) i;
              new = λ x t. (handed_unless es (own_of line) c told x (i.new x t).0 (λ l p o d. absurd (cc)), unmarked_made es (own_of line) h.machine.table.next (name_of kind) parent sock told x (i.new x t).1 (ms x (inl t)));
              unmade = λ d is. absurd (un is d);
              joined = λ face p d. (let j = i.joined face p d in let k = joined_on contexts steps line origin is_line es h e face p j (unmarked_made es (own_of line) h.machine.table.next (name_of kind) parent sock told j.new j.fresh (ms j.new (inr (face, (p, d))))) in record { new = k.new; on = k.on; peer = k.peer; listener = k.listener; by = k.by; side = k.side; of_listener = k.of_listener; handed = k.handed; fresh = k.fresh });
              faulted = i.faulted;
              marked = λ handle p d r g. (let k = i.marked handle p d r g in record { above = k.above; told = k.told; mark = has_front es _ _ k.mark });
              making = i.making;
            },
      ))

  pub socket_touch : (op x : OpId) (n : ℕ) (k : HandleKind) (parent : Option ℕ) (sock : Option OpId) → Touches op (Call.Made n k parent sock) x → IsTcpName k
  socket_touch op x n name.Tcp2 parent (Some s) t = inl refl
  socket_touch op x n name.Tcp2 parent None t = absurd t
  socket_touch op x n name.Tcp3 parent (Some s) t = inr refl
  socket_touch op x n name.Tcp3 parent None t = absurd t
  socket_touch op x n _ parent sock t = absurd t

  -- of a handle that is no socket's
  pub other_fine : (es : List Entry) (h : Here) (kind : Kind) (parent : Option ℕ) (sock : Option OpId) → BeganBy steps (own_of line) (IsMarkOf es (own_of line) (name_of kind) parent sock) → (IsTcpName (name_of kind) → ⊥)
      → (IsAccept origin → (h.own ≡ Unused) ⊎ NotMarked h.made → ⊥)
      → ((t : Told) → NamesItsOwn (es ++ entry (own_of line) (Call.Made h.machine.table.next (name_of kind) parent sock) t ∷ []) h.machine.store.records h.machine.table.next kind) → Licensed contexts steps line origin es h
      → Allows (MayAskSo contexts steps) (λ fs made. Licensed contexts steps line origin fs (record h { machine = record h.machine { table = made.1 } })) es (make_asks h.machine.table (own_of line) kind parent sock)
  other_fine es h kind parent sock o none un f i = made_fine es h kind parent sock o (λ k r x e n t. none (socket_touch (own_of line) x h.machine.table.next (name_of kind) parent sock t)) un (λ x p a. absurd (none a)) f i

  abbrev pub OneOfTwo : Kind → ℕ → Type 0
  OneOfTwo kind place = (kind ≡ Input place) ⊎ (kind ≡ Output place)

  stream_name : (kind : Kind) (place : ℕ) → OneOfTwo kind place → (name_of kind ≡ name.Input) ⊎ (name_of kind ≡ name.Output)
  stream_name kind place (inl e) = inl (ap name_of e)
  stream_name kind place (inr e) = inr (ap name_of e)

  no_socket : (k : HandleKind) → (k ≡ name.Input) ⊎ (k ≡ name.Output) → IsTcpName k → ⊥
  no_socket k (inl e) (inl p) = absurd (cc)
  no_socket k (inl e) (inr p) = absurd (cc)
  no_socket k (inr e) (inl p) = absurd (cc)
  no_socket k (inr e) (inr p) = absurd (cc)

  stream_handle : (fs : List Entry) (records : List Record) (handle place : ℕ) (kind : Kind) → OneOfTwo kind place → NamesRecord fs records handle place → NamesItsOwn fs records handle kind
  stream_handle fs records handle place kind (inl e) n = subst (NamesItsOwn fs records handle) (sym e) (n, tt, tt, tt)
  stream_handle fs records handle place kind (inr e) n = subst (NamesItsOwn fs records handle) (sym e) (n, tt, tt, tt)

  -- the new handle names the record
  pub new_names : (es : List Entry) (h : Here) (n place : ℕ) (kind : HandleKind) (parent : Option ℕ) (r : TcpRecord) (t : Told) → Found h place r → (let sock = side_at (tcp2_at h.machine.store.records place) in NamesRecord (es ++ entry (own_of line) (Call.Made n kind parent sock) t ∷ []) h.machine.store.records n place)
  new_names es h n place kind parent r t g =
      let sock = side_at (tcp2_at h.machine.store.records place) in
      let e = entry (own_of line) (Call.Made n kind parent sock) t in
      record { found = r; at = g; marked = record { op = own_of line; kind = kind; parent = parent; told = t; mark = subst (λ (o : Option OpId). Has (es ++ e ∷ []) (entry (own_of line) (Call.Made n kind parent o) t)) (ap side_at g) (has_last es e) } }

  -- the same of a UDP socket
  new_udp_names : (es : List Entry) (h : Here) (n place : ℕ) (kind : HandleKind) (parent : Option ℕ) (u : UdpRecord) (t : Told) → FoundUdp h place u
      → (let sock = udp_side_at (udp2_at h.machine.store.records place) in NamesUdp (es ++ entry (own_of line) (Call.Made n kind parent sock) t ∷ []) h.machine.store.records n place)
  new_udp_names es h n place kind parent u t g =
      let sock = udp_side_at (udp2_at h.machine.store.records place) in
      let e = entry (own_of line) (Call.Made n kind parent sock) t in
      record { found = u; at = g; marked = record { op = own_of line; kind = kind; parent = parent; told = t; mark = subst (λ (o : Option OpId). Has (es ++ e ∷ []) (entry (own_of line) (Call.Made n kind parent o) t)) (ap udp_side_at g) (has_last es e) } }

  pollable_handle : (fs : List Entry) (records : List Record) (handle : ℕ) (w : Watched) → tcp_place w ≡ Some (place_in w) → NamesRecord fs records handle (place_in w) → NamesItsOwn fs records handle (Pollable w)
  pollable_handle fs records handle (Watched.Udp place) p n = absurd (cc)
  pollable_handle fs records handle (Watched.Incoming place) p n = absurd (cc)
  pollable_handle fs records handle (Watched.Outgoing place) p n = absurd (cc)
  pollable_handle fs records handle (Watched.Lookup place) p n = absurd (cc)
  pollable_handle fs records handle Watched.Plain p n = absurd (cc)
  pollable_handle fs records handle (Watched.Socket place) p n = (n, tt, tt, tt)
  pollable_handle fs records handle (Watched.Input place) p n = (n, tt, tt, tt)
  pollable_handle fs records handle (Watched.Output place) p n = (n, tt, tt, tt)

  udp_pollable_handle : (fs : List Entry) (records : List Record) (handle : ℕ) (w : Watched) → udp_place w ≡ Some (place_in w) → NamesUdp fs records handle (place_in w) → NamesItsOwn fs records handle (Pollable w)
  udp_pollable_handle fs records handle (Watched.Udp place) p n = (tt, n, tt, tt)
  udp_pollable_handle fs records handle (Watched.Incoming place) p n = (tt, n, tt, tt)
  udp_pollable_handle fs records handle (Watched.Outgoing place) p n = (tt, n, tt, tt)
  udp_pollable_handle fs records handle (Watched.Socket place) p n = absurd (cc)
  udp_pollable_handle fs records handle (Watched.Input place) p n = absurd (cc)
  udp_pollable_handle fs records handle (Watched.Output place) p n = absurd (cc)
  udp_pollable_handle fs records handle (Watched.Lookup place) p n = absurd (cc)
  udp_pollable_handle fs records handle Watched.Plain p n = absurd (cc)

  -- the new handle is of no network socket
  marks_none : (es : List Entry) (n : ℕ) (kind : HandleKind) (parent : Option ℕ) (t : Told) → IsMarkedWith (es ++ entry (own_of line) (Call.Made n kind parent None) t ∷ []) n None
  marks_none es n kind parent t = record { op = own_of line; kind = kind; parent = parent; told = t; mark = has_last es _ }

  not_accept : (s : Step) → (IsAccept s → ⊥) → origin ≡ s → IsAccept origin → (h : Here) → (h.own ≡ Unused) ⊎ NotMarked h.made → ⊥
  not_accept s n e is h u = n (subst IsAccept e is)

  plain_no_accept : (s : Step) (kind : Kind) → MakesPlain s kind → IsAccept s → ⊥
  plain_no_accept (Step.Call c (GuestCall.Tcp (TcpCall.Accept listener))) kind m is = m
  plain_no_accept (Step.Call c (GuestCall.P3Tcp (P3TcpCall.Accept listener remaining))) kind m is = m
  plain_no_accept _ kind m is = is

  plain_mark : (es : List Entry) (op : OpId) (s : Step) (kind : Kind) → MakesPlain s kind → IsMarkOf es op (name_of kind) None None s
  plain_mark es op (Step.Call c (GuestCall.Pipe (PipeCall.In bytes))) (Kind.PlainInput (plain_input.Pipe place)) m = (refl, refl, refl)
  plain_mark es op (Step.Call c (GuestCall.Pipe (PipeCall.Out capacity))) (Kind.PlainOutput (plain_output.Pipe place)) m = (refl, refl, refl)
  plain_mark es op (Step.Call c (GuestCall.Pipe PipeCall.Sink)) (Kind.PlainOutput plain_output.Sink) m = (refl, refl, refl)
  plain_mark es op (Step.Call c (GuestCall.Pipe PipeCall.ClosedIn)) (Kind.PlainInput plain_input.Closed) m = (refl, refl, refl)
  plain_mark es op (Step.Call c (GuestCall.Pipe PipeCall.ClosedOut)) (Kind.PlainOutput plain_output.Closed) m = (refl, refl, refl)
  plain_mark es op _ _ m = absurd m

  plain_name : (kind : Kind) → IsPlain kind → IsTcpName (name_of kind) → ⊥
  plain_name (Kind.PlainInput plain) m e = elim e [ inl q ↦ cc | inr q ↦ cc ]
  plain_name (Kind.PlainOutput plain) m e = elim e [ inl q ↦ cc | inr q ↦ cc ]
  plain_name _ m e = m

  plain_handle : (fs : List Entry) (records : List Record) (handle : ℕ) (kind : Kind) → IsPlain kind → IsMarkedWith fs handle None → NamesItsOwn fs records handle kind
  plain_handle fs records handle (Kind.PlainInput plain) m w = (tt, tt, w, tt)
  plain_handle fs records handle (Kind.PlainOutput plain) m w = (tt, tt, w, tt)
  plain_handle fs records handle _ m w = absurd m

  plain_named : (es : List Entry) (records : List Record) (handle : ℕ) (k : Option Kind) → watched_by k ≡ Some Watched.Plain → ((kind : Kind) → k ≡ Some kind → HandleIsFine es records handle kind) → IsMarkedWith es handle None
  plain_named es records handle (Some (Kind.PlainInput plain)) e f = (f (Kind.PlainInput plain) refl).2
  plain_named es records handle (Some (Kind.PlainOutput plain)) e f = (f (Kind.PlainOutput plain) refl).2
  plain_named es records handle _ e f = absurd (cc)

  used_marked : (h : Here) (handle place : ℕ) → h.own ≡ Used → h.made ≡ Marked handle place → (h.own ≡ Unused) ⊎ NotMarked h.made → ⊥
  used_marked h handle place o m (inl u) = absurd (let p : Used ≡ Unused = sym o ∙ u in cc)
  used_marked h handle place o m (inr n) = subst NotMarked m n

  pub marked_fine : (es : List Entry) (h : Here) (kind : Kind) (parent : Option ℕ) (sock : Option OpId) → Marks origin h kind parent sock → Licensed contexts steps line origin es h
      → Allows (MayAskSo contexts steps) (λ fs made. Licensed contexts steps line origin fs (record h { machine = record h.machine { table = made.1 } })) es (make_asks h.machine.table (own_of line) kind parent sock)
  marked_fine es h _ _ _ (ANetwork c e) i =
      other_fine es h Network None None (record { origin = origin; at = is_line; holds = subst (IsMarkOf es (own_of line) name.Network None None) (sym e) (refl, refl, refl) }) (λ p. elim p [ inl e ↦ cc | inr e ↦ cc ]) (λ is. not_accept (Step.Call c (GuestCall.Names NameCall.Network)) (λ none. none) e is h) (λ t. (tt, tt, tt, tt)) i
  marked_fine es h kind _ _ (AStream c handle place _ is which e) i =
      let sock = side_at (tcp2_at h.machine.store.records place) in
      let n = names_record es h.machine.store.records handle place (kind_at h.machine.table handle) (ap record_of e.socket) (i.fine.handles handle) in
      let w : IsMarkedWith es handle sock = subst (IsMarkedWith es handle) (sym (ap side_at n.at)) n.marked in
      other_fine es h kind (Some handle) sock (record { origin = origin; at = is_line; holds = subst (IsMarkOf es (own_of line) (name_of kind) (Some handle) sock) (sym is) (stream_name kind place which, (refl, w)) })
      (no_socket (name_of kind) (stream_name kind place which)) (λ p. not_accept (Step.Call c (GuestCall.Tcp (TcpCall.FinishConnect handle))) (λ none. none) is p h)
      (λ t. stream_handle _ h.machine.store.records h.machine.table.next place kind which (new_names es h h.machine.table.next place (name_of kind) (Some handle) n.found t n.at)) i
  marked_fine es h kind _ _ (AnAcceptedStream c listener handle place _ r is which m o g) i =
      let sock = side_at (tcp2_at h.machine.store.records place) in
      let k = i.marked handle place m r g in
      other_fine es h kind (Some handle) sock
      (record { origin = origin; at = is_line; holds = subst (IsMarkOf es (own_of line) (name_of kind) (Some handle) sock) (sym is) (inr (record { stream = stream_name kind place which; socket = handle; under = refl; above = k.above; told = k.told; marked = subst (λ (x : Option OpId). Has es (entry (own_of line) (Call.Made handle name.Tcp2 k.above x) k.told)) (sym (ap side_at g)) k.mark })) })
      (no_socket (name_of kind) (stream_name kind place which)) (λ p. used_marked h handle place o m)
      (λ t. stream_handle _ h.machine.store.records h.machine.table.next place kind which (new_names es h h.machine.table.next place (name_of kind) (Some handle) r t g)) i
  marked_fine es h _ _ _ (APollable c handle w is p e by) i =
      let place = place_in w in
      let sock = side_at (tcp2_at h.machine.store.records place) in
      let n = names_record es h.machine.store.records handle place (kind_at h.machine.table handle) e (i.fine.handles handle) in
      let k : IsMarkedWith es handle sock = subst (IsMarkedWith es handle) (sym (ap side_at n.at)) n.marked in
      other_fine es h (Pollable w) (Some handle) sock (record { origin = origin; at = is_line; holds = subst (IsMarkOf es (own_of line) name.Pollable (Some handle) sock) (sym is) (refl, (refl, k)) }) (λ p. elim p [ inl e ↦ cc | inr e ↦ cc ]) (λ p. not_accept (Step.Call c (GuestCall.Pollable (PollableCall.Subscribe handle))) (λ none. none) is p h)
      (λ t. pollable_handle _ h.machine.store.records h.machine.table.next w p (new_names es h h.machine.table.next place name.Pollable (Some handle) n.found t n.at)) i
  marked_fine es h _ _ _ (AUdpPollable c handle w is p e by) i =
      let place = place_in w in
      let sock = udp_side_at (udp2_at h.machine.store.records place) in
      let n = names_udp es h.machine.store.records handle place (kind_at h.machine.table handle) e (i.fine.handles handle) in
      let k : IsMarkedWith es handle sock = subst (IsMarkedWith es handle) (sym (ap udp_side_at n.at)) n.marked in
      other_fine es h (Pollable w) (Some handle) sock (record { origin = origin; at = is_line; holds = subst (IsMarkOf es (own_of line) name.Pollable (Some handle) sock) (sym is) (refl, (refl, k)) }) (λ p. elim p [ inl e ↦ cc | inr e ↦ cc ])
      (λ p. not_accept (Step.Call c (GuestCall.Pollable (PollableCall.Subscribe handle))) (λ none. none) is p h)
      (λ t. udp_pollable_handle _ h.machine.store.records h.machine.table.next w p (new_udp_names es h h.machine.table.next place name.Pollable (Some handle) n.found t n.at)) i
  marked_fine es h _ _ _ (ALookup c network place host e there made) i =
      other_fine es h (Kind.Lookup place) (Some network) None (record { origin = origin; at = is_line; holds = subst (IsMarkOf es (own_of line) name.Lookup (Some network) None) (sym e) (refl, refl, refl) }) (λ p. elim p [ inl e ↦ cc | inr e ↦ cc ]) (λ p. not_accept (Step.Call c (GuestCall.Names (NameCall.Resolve network host))) (λ none. none) e p h)
      (λ t. (tt, tt, marks_none es h.machine.table.next name.Lookup (Some network) t, tt)) i
  marked_fine es h _ _ _ (ALookupPollable c handle place is e) i =
      let k : IsMarkedWith es handle None = (i.fine.handles handle (Kind.Lookup place) e).2 in
      other_fine es h (Pollable (Watched.Lookup place)) (Some handle) None (record { origin = origin; at = is_line; holds = subst (IsMarkOf es (own_of line) name.Pollable (Some handle) None) (sym is) (refl, (refl, k)) }) (λ p. elim p [ inl e ↦ cc | inr e ↦ cc ]) (λ p. not_accept (Step.Call c (GuestCall.Pollable (PollableCall.Subscribe handle))) (λ none. none) is p h)
      (λ t. (tt, tt, marks_none es h.machine.table.next name.Pollable (Some handle) t, tt)) i
  marked_fine es h kind _ _ (AnEnd socket place _ end r m in_it e g is made) i =
      let sock = side_at (tcp2_at h.machine.store.records place) in
      let n = names_record es h.machine.store.records socket place (kind_at h.machine.table socket) (ap record_of e) (i.fine.handles socket) in
      let w : IsMarkedWith es socket sock = subst (IsMarkedWith es socket) (sym (ap side_at n.at)) n.marked in
      other_fine es h kind (Some socket) sock (record { origin = origin; at = is_line; holds = end_mark es (own_of line) socket kind sock w origin m }) (end_no_tcp socket kind origin m) (λ a u. end_no_accept socket kind origin m a)
      (λ t. let k = new_names es h h.machine.table.next place (name_of kind) (Some socket) r t g in
      end_handle _ h.machine.store.records h.machine.table.next place socket kind end origin m in_it is (record { there = ap (λ (o : Option Record). is_some o) (tcp_sort.it _ r g); marked = λ q d. subst (IsMarkedWith _ h.machine.table.next) (ap (λ (y : TcpRecord). y.side) (same_record k.found q (sym k.at ∙ d))) k.marked })) i
  marked_fine es h kind _ _ (APlain _ m numbered) i =
      let p = makes_plain origin kind m in
      other_fine es h kind None None (record { origin = origin; at = is_line; holds = plain_mark es (own_of line) origin kind m }) (plain_name kind p) (λ is u. plain_no_accept origin kind m is)
      (λ t. plain_handle _ h.machine.store.records h.machine.table.next kind p (marks_none es h.machine.table.next (name_of kind) None t)) i
  marked_fine es h _ _ _ (APlainPollable c handle is e) i =
      let k : IsMarkedWith es handle None = plain_named es h.machine.store.records handle (kind_at h.machine.table handle) e (i.fine.handles handle) in
      other_fine es h (Pollable Watched.Plain) (Some handle) None (record { origin = origin; at = is_line; holds = subst (IsMarkOf es (own_of line) name.Pollable (Some handle) None) (sym is) (refl, (refl, k)) }) (λ p. elim p [ inl e ↦ cc | inr e ↦ cc ]) (λ p. not_accept (Step.Call c (GuestCall.Pollable (PollableCall.Subscribe handle))) (λ none. none) is p h)
      (λ t. (tt, tt, marks_none es h.machine.table.next name.Pollable (Some handle) t, tt)) i

  -- the mark of what was accepted
  pub accepted_fine : (es : List Entry) (h : Here) (c s place : ℕ) (r : TcpRecord) → origin ≡ Step.Call c (GuestCall.Tcp (TcpCall.Accept s)) → h.made ≡ Joined P2 place → h.own ≡ Used → Found h place r → Named line h → Licensed contexts steps line origin es h
      → Allows (MayAskSo contexts steps) (λ fs made. Licensed contexts steps line origin fs (record h { machine = record h.machine { table = made.1 }; made = made_so place made.0 })) es (make_asks h.machine.table (own_of line) (Tcp2 place) (Some s) (side_at (tcp2_at h.machine.store.records place)))
  unfolding bind
  accepted_fine es h c s place r is e o g b i =
      let j = i.joined P2 place e in
      let n = h.machine.table.next in
      let sock = side_at (tcp2_at h.machine.store.records place) in
      let its : sock ≡ Some j.new = ap side_at g ∙ j.side r g in
      let same : j.listener ≡ s = sym (subst (AcceptsFor P2 j.listener) is j.by) in
      let past : Used ≡ h.own = sym o in
      allows_if (MayAskSo contexts steps) (λ fs made. Licensed contexts steps line origin fs (record h { machine = record h.machine { table = made.1 }; made = made_so place made.0 })) es (is_full h.machine.table) _ _
      (λ full. record { fine = i.fine; names = i.names; udp_names = i.udp_names; listens = i.listens; new = i.new; unmade = λ u. absurd (elim u [ inl p ↦ not_used (past ∙ p) | inr p ↦ p ]); joined = λ face p d. absurd (cc); faulted = λ p d. absurd (cc); marked = λ a p d. absurd (cc); making = tt })
      (λ room. (
        (i.fine.count, record { origin = origin; at = is_line; holds = subst (IsMarkOf es (own_of line) name.Tcp2 (Some s) sock) (sym is) (inl (record { first = i.unmade (inr (subst NotMarked (sym e) tt)) (subst IsAccept (sym is) tt); socket = refl; under = refl; accept = j.new; side = its; on = j.on; of_listener = subst (λ (x : ℕ). IsSide es x j.on) same j.of_listener; peer = j.peer; told = j.handed.told; handed = j.handed.hand; fresh = j.fresh })) }),
        λ told fits.
            let k = Call.Made n name.Tcp2 (Some s) sock in
            record {
              fine = state_made contexts steps es h.machine (own_of line) (Some s) sock told (Tcp2 place)
                  (λ p q x d m t. apart_there j.new p q x d m (subst (λ (y : Option OpId). Touches (own_of line) (Call.Made n name.Tcp2 (Some s) y) x) its t) (j.side r g)) (new_names es h n place name.Tcp2 (Some s) r told g, tt, tt, tt) i.fine;
              names = λ p m q a d side x. names_on (stay steps) es _ (own_of m) side (i.names p m q a d side x);
              udp_names = λ p m u a d. names_on (stay steps) es _ (own_of m) (udp_side u) (i.udp_names p m u a d);
              listens = listens_on contexts steps line origin is_line es h (own_of line) k told (λ p q op d m x. absurd (cc)) i;
              new = λ x t. absurd (subst (λ (own : Own). IsToCome line own x) o t);
              unmade = λ u. absurd (elim u [ inl p ↦ not_used (past ∙ p) | inr p ↦ p ]);
              joined = λ face p d. absurd (cc);
              faulted = λ p d. absurd (cc);
              marked = λ a p d q m. made_there told a p q d m;
              making = tt;
            },
      ))
    where
      apart_there : (new : OpId) (p : ℕ) (q : TcpRecord) (x : OpId) → Found h p q → accept_name q.listening ≡ Some x → new ≡ x → r.side ≡ Some new → ⊥
      apart_there new p q x d m t v =
          let w : accept_name q.listening ≡ Some new = m ∙ ap (λ (y : OpId). Some y) (sym t) in
          let at : place ≡ p = b.one new place p r q g d (inl v) (inr w) in
          let same : r ≡ q = same_record r q (sym g ∙ (ap (tcp2_at h.machine.store.records) at ∙ d)) in
          b.apart new place r g v (ap (λ (y : TcpRecord). accept_name y.listening) same ∙ w)

      made_there : (told : Told) (a p : ℕ) (q : TcpRecord) → Marked h.machine.table.next place ≡ Marked a p → Found h p q → MadeSocket line (es ++ entry (own_of line) (Call.Made h.machine.table.next name.Tcp2 (Some s) (side_at (tcp2_at h.machine.store.records place))) told ∷ []) a q.side
      made_there told a p q d m =
          let n : h.machine.table.next ≡ a = cc in let at : place ≡ p = cc in
          let same : r ≡ q = same_record r q (sym g ∙ (ap (tcp2_at h.machine.store.records) at ∙ m)) in
          let e = entry (own_of line) (Call.Made h.machine.table.next name.Tcp2 (Some s) (side_at (tcp2_at h.machine.store.records place))) told in
          let sides : side_at (tcp2_at h.machine.store.records place) ≡ q.side = ap side_at g ∙ ap (λ (y : TcpRecord). y.side) same in
          record { above = Some s; told = told; mark = subst (λ (x : ℕ). Has (es ++ e ∷ []) (entry (own_of line) (Call.Made x name.Tcp2 (Some s) q.side) told)) n (subst (λ (x : Option OpId). Has (es ++ e ∷ []) (entry (own_of line) (Call.Made h.machine.table.next name.Tcp2 (Some s) x) told)) sides (has_last es e)) }

module _ (contexts : List WasiSocketsCtx) (steps : List Step) (line : ℕ) (origin : Step) (is_line : step_at steps line ≡ Some origin) where
  -- == a socket that is created
  may_use : (n : ℕ) (o : Option WasiSocketsCtx) → slice_get contexts n ≡ o → (context_in o).tcp ≡ true → MayUseTcp contexts n (context_in o).name
  may_use n None e t = absurd (cc)
  may_use n (Some ctx) e t = record { ctx = ctx; at = e; named = refl; tcp = t }

  may_create : (ctx : WasiSocketsCtx) (family : SocketAddressFamily) (face : Interface) (s : Step) → Creates contexts ctx family face s → ctx.tcp ≡ true → IsTcpCreate contexts ctx.name family s
  may_create ctx family face (Step.Call n (GuestCall.Tcp (TcpCall.Create f))) c t =
      let T : WasiSocketsCtx → Type 0 = λ x. x.tcp ≡ true → MayUseTcp contexts n x.name in
      (subst T c.0 (may_use n (slice_get contexts n) refl) t, c.1)
  may_create ctx family face (Step.Call n (GuestCall.P3Tcp (P3TcpCall.Create f))) c t =
      let T : WasiSocketsCtx → Type 0 = λ x. x.tcp ≡ true → MayUseTcp contexts n x.name in
      (subst T c.0 (may_use n (slice_get contexts n) refl) t, c.1)
  may_create ctx family face _ c t = absurd c

  abbrev pub CreatedIsFine : ℕ → SocketAddressFamily → List Entry → Result Socket ErrorCode → Type 0
  CreatedIsFine maker family es (Ok socket) = Has es (entry (own_of line) (Call.TcpCreate maker family) Told.Done) × (socket ≡ new_socket (own_of line) maker family)
  CreatedIsFine maker family es (Err c) = ⊤

  fine_told : (es : List Entry) (maker : ℕ) (family : SocketAddressFamily) (t : Told) → IsDoneOrCode t → CreatedIsFine maker family (es ++ entry (own_of line) (Call.TcpCreate maker family) t ∷ []) (after_create (own_of line) maker family (told_done t))
  fine_told es maker family Told.Done fits = (has_last es _, refl)
  fine_told es maker family (Told.Code c) fits = tt
  fine_told es maker family _ fits = absurd fits

  pub new_fine : (face : Interface) (es : List Entry) (ctx : WasiSocketsCtx) (family : SocketAddressFamily) → Creates contexts ctx family face origin → Allows (MayQuietly contexts steps) (CreatedIsFine ctx.name family) es (new_asks (own_of line) ctx family)
  unfolding bind
  new_fine face es ctx family c =
      allows_if (MayQuietly contexts steps) (CreatedIsFine ctx.name family) es ctx.tcp _ _ (λ t. (((record { origin = origin; at = is_line; holds = may_create ctx family face origin c t }, tt), tt), λ u fits. fine_told es ctx.name family u fits)) (λ t. tt)

  created_mark : (face : Interface) (place : ℕ) (es : List Entry) (maker : ℕ) (family : SocketAddressFamily) (ctx : WasiSocketsCtx) (its : SocketAddressFamily) (s : Step) → Creates contexts ctx its face s → Has es (entry (own_of line) (Call.TcpCreate maker family) Told.Done) → IsMarkOf es (own_of line) (name_of (tcp_kind face place)) None (Some (own_of line)) s
  created_mark face place es maker family ctx its (Step.Call n (GuestCall.Tcp (TcpCall.Create f))) c k = (ap (λ (f : Interface). name_of (tcp_kind f place)) c.2, refl, refl, (maker, family, k))
  created_mark face place es maker family ctx its (Step.Call n (GuestCall.P3Tcp (P3TcpCall.Create f))) c k = (ap (λ (f : Interface). name_of (tcp_kind f place)) c.2, refl, refl, (maker, family, k))
  created_mark face place es maker family ctx its _ c k = absurd c

  maker_is : (es : List Entry) (maker : ℕ) (family : SocketAddressFamily) (side : OpId) → Some (own_of line) ≡ Some side → IsMaker es maker family (own_of line) → IsMaker es maker family side
  maker_is es maker family side e i = subst (IsMaker es maker family) (sym (some_same side (own_of line) e)) i

  makes_tcp : (face : Interface) (ctx : WasiSocketsCtx) (family : SocketAddressFamily) (s : Step) → Creates contexts ctx family face s → MakesTcp s
  makes_tcp face ctx family (Step.Call n (GuestCall.Tcp (TcpCall.Create f))) c = tt
  makes_tcp face ctx family (Step.Call n (GuestCall.P3Tcp (P3TcpCall.Create f))) c = tt
  makes_tcp face ctx family _ c = c

  creates_only : (face : Interface) (ctx : WasiSocketsCtx) (family : SocketAddressFamily) → Creates contexts ctx family face origin → IsAccept origin → ⊥
  creates_only face ctx family k is = no_accept origin k is
    where
      no_accept : (s : Step) → Creates contexts ctx family face s → IsAccept s → ⊥
      no_accept (Step.Call n (GuestCall.Tcp (TcpCall.Accept listener))) k is = k
      no_accept (Step.Call n (GuestCall.P3Tcp (P3TcpCall.Accept listener remaining))) k is = k
      no_accept _ k is = is

  -- the handle of a TCP socket, of either interface, names its record
  socket_handle : (face : Interface) (fs : List Entry) (records : List Record) (handle place : ℕ) → NamesRecord fs records handle place → NamesItsOwn fs records handle (tcp_kind face place)
  socket_handle P2 fs records handle place n = (n, tt, tt, tt)
  socket_handle P3 fs records handle place n = (n, tt, tt, tt)

  -- the mark of a TCP socket, of either interface, touches its network socket alone
  its_own : (face : Interface) (place n : ℕ) (parent : Option ℕ) (side x : OpId) → Touches (own_of line) (Call.Made n (name_of (tcp_kind face place)) parent (Some side)) x → side ≡ x
  its_own P2 place n parent side x t = t
  its_own P3 place n parent side x t = t

  pub joins : {T : Type 0} (tells : Result ℕ Stop → T) (fails : ErrorCode → T) (face : Interface) (es : List Entry) (h : Here) (ctx : WasiSocketsCtx) (family : SocketAddressFamily) (made : Result Socket ErrorCode) → Creates contexts ctx family face origin → h.at ≡ None → h.own ≡ Unused → h.made ≡ Past → CreatedIsFine ctx.name family es made → Named line h → Licensed contexts steps line origin es h
      → Allows (MayAskSo contexts steps) (λ fs done. Licensed contexts steps line origin fs (record h { machine = done.1; own = Used })) es (made_to tells fails (tcp_kind face) h.machine (own_of line) made)
  joins tells fails face es h ctx family (Err x) c nowhere u past k b i = spent es h i
  joins tells fails face es h ctx family (Ok socket) c nowhere u past k b i =
      let own = own_of line in
      let now = new_socket own ctx.name family in
      let next : Here = record h { machine = record h.machine { store = with_record h.machine.store now }; own = Used } in
      let made_it : SocketIsFine steps es now = record {
        knows = record { maker = λ side e. maker_is es ctx.name family side e (Created own Told.Done k.0) };
        tcp = λ side e. subst (λ (o : OpId). BeganBy steps o MakesTcp) (sym (some_same side own (default_side own side e))) (record { origin = origin; at = is_line; holds = makes_tcp face ctx family origin c });
        bound = λ side e b. absurd (cc);
        listens = λ side e. absurd (cc);
        connect = λ op e. absurd (cc);
      } in
      let j : Licensed contexts steps line origin es next = record {
        fine = state_push contexts steps es h.machine now made_it i.fine;
        names = λ p n r a e. absurd (no_place p n (sym nowhere ∙ a));
        udp_names = λ p n u a e. absurd (no_place p n (sym nowhere ∙ a));
        listens = λ p q op d m. elim (push_new tcp_sort h.machine.store.records (new_record now) p q d) [ inl v ↦ i.listens p q op v m | inr v ↦ absurd (no_listen op (ap (λ (y : TcpRecord). y.listening) v ∙ m)) ];
        new = λ x t. absurd t;
        unmade = λ e is. absurd (creates_only face ctx family c is);
        joined = λ face p e. absurd (not_joined face p (sym past ∙ e));
        faulted = λ p e. absurd (not_faulted p (sym past ∙ e));
        marked = λ a p e q d. elim (push_new tcp_sort h.machine.store.records (new_record now) p q d) [ inl v ↦ i.marked a p e q v | inr v ↦ absurd (not_marked a p (sym past ∙ e)) ];
        making = subst (MakingStands steps) (sym past) tt;
      } in
      subst (λ (s : Socket). Allows (MayAskSo contexts steps) (λ fs done. Licensed contexts steps line origin fs (record h { machine = done.1; own = Used })) es (handle_to tells (tcp_kind face) h.machine own s)) (sym k.1)
      (allows_then (MayAskSo contexts steps) (λ fs made. Licensed contexts steps line origin fs (record next { machine = record next.machine { table = made.1 } })) (λ fs done. Licensed contexts steps line origin fs (record h { machine = done.1; own = Used })) es
      (make_asks h.machine.table own (tcp_kind face (length h.machine.store.records)) None (Some own)) _
      (made_fine contexts steps line origin is_line es next (tcp_kind face (length h.machine.store.records)) None (Some own) (record { origin = origin; at = is_line; holds = created_mark face (length h.machine.store.records) es ctx.name family ctx family origin c k.0 })
      (λ p r x e n t. elim (push_new tcp_sort h.machine.store.records (new_record now) p r e) [ inl v ↦ fresh contexts line origin h u b x (of_line x (its_own face (length h.machine.store.records) h.machine.table.next None own x t)) p r v (inr n) | inr v ↦ no_name x (ap (λ (y : TcpRecord). accept_name y.listening) v ∙ n) ])
      (λ is w. creates_only face ctx family c is) (λ x w p q. elim w [ inl d ↦ absurd d | inr d ↦ not_joined d.0 d.1.0 (sym past ∙ d.1.1) ])
      (λ t. socket_handle face _ _ h.machine.table.next (length h.machine.store.records) (record { found = new_record now; at = push_finds tcp_sort h.machine.store.records (new_record now); marked = record { op = own; kind = name_of (tcp_kind face (length h.machine.store.records)); parent = None; told = t; mark = has_last es _ } })) j) (λ fs made l. l))
    where
      default_side : (a b : OpId) → TcpState.Default a ≡ TcpState.Default b → Some a ≡ Some b
      default_side a b e = ap side_in e

      no_name : (x : OpId) → None ≡ Some x → ⊥
      no_name x e = absurd (cc)

      no_place : (p n : ℕ) → (let x : Option (ℕ × ℕ) = Some (p, n) in None ≡ x) → ⊥
      no_place p n e = absurd (cc)

      of_line : (x : OpId) → own_of line ≡ x → x.step ≡ line
      of_line x t = ap (λ (o : OpId). o.step) (sym t)

      not_marked : (a p : ℕ) → Past ≡ Marked a p → ⊥
      not_marked a p e = absurd (cc)

      not_joined : (face : Interface) (p : ℕ) → Past ≡ Joined face p → ⊥
      not_joined face p e = absurd (cc)

      not_faulted : (p : ℕ) → Past ≡ Faulted p → ⊥
      not_faulted p e = absurd (cc)
