-- That the state fits the log, under one more entry, and where the state changes.
use Rattle.wasi_walks.proofs.Words.{Call, Entry, Kind, List, Machine, Made, None, OpId, Option, Socket, Some, Standing, Step, TcpRecord}
use Rattle.wasi_walks.proofs.Words.{Told, WasiSocketsCtx, [], arith, entry, inl, inr, marked_by, new_record, refl, subst, table_parent, with_handle}
use Rattle.wasi_walks.proofs.Words.{with_record, with_socket, without_handle, ℕ, ◌++◌, ◌∷◌, ◌≡◌}
use Rattle.wasi_table.proofs.Tables.{value_without}
use Rattle.wasi_records.specs.Records.{tcp2_at, tcp2_pushed, udp2_at, udp2_pushed}
use Rattle.host_store.specs.Kinds.{name_of}
use Rattle.udp_records.specs.Udp.{udp_side}
use Rattle.wasi_walks.specs.Licence.{IsMarkedAs}
use Rattle.host_tcp.specs.Creates.{with_room}
use Rattle.host_store.specs.Store.{with_udp}
use Rattle.host_store.specs.declared.beside.Beside.{Beside}
use Rattle.wasi_jobs.specs.declared.job.HostJob.{HostJob}
use Rattle.wasi_records.specs.declared.records.Record.TheVariants.{Tcp, Udp}
use Rattle.udp_records.specs.declared.udp.UdpRecord.{UdpRecord}
use Rattle.wasi_walks.proofs.Lists.{has_last, marks_in-push, value_split}
use Rattle.wasi_walks.proofs.licence.Besides.{BesidesAreFine, besides_more}
use Rattle.wasi_walks.proofs.licence.Lookups.{lookups_put, lookups_push}
use Rattle.wasi_walks.proofs.licence.State.{HandleIsFine, NamesItsOwn, ListeningStands, accept_name, SocketIsFine, RecordIsFine, UdpIsFine, StandingIsFine, StateIsFine}
use Rattle.wasi_walks.proofs.licence.Frames.{Spared, stands_more, KeepsListening, Only, stands_put, one_put, stands_push, one_push, stay, record_more}
use Rattle.wasi_walks.proofs.licence.UdpFrames.{sides_put, sides_push, sides_put_udp, sides_push_udp, handle_more, handle_kept, standing_more, standing_kept, udp_more}
use Rattle.wasi_walks.proofs.Places.{push_found, push_new, push_was, put_found, put_was, tcp_sort, udp_sort}

module _ (contexts : List WasiSocketsCtx) (steps : List Step) where
  -- == the state
  -- an ask that is no mark, and that touches no accept, keeps the state
  pub state_spared : (es : List Entry) (m : Machine) (op : OpId) (c : Call) (told : Told) → marked_by c ≡ 0 → Spared m.store.records op c → StateIsFine contexts steps es m → StateIsFine contexts steps (es ++ entry op c told ∷ []) m
  state_spared es m op c told z q h = record {
    count = let p = marks_in-push es (entry op c told) in let k = h.count in omega arith;
    handles = λ handle kind e. handle_more es _ m.store.records handle kind (h.handles handle kind e);
    records = λ place r e. record_more (stay steps) es _ r (h.records place r e);
    udp = λ place u e. udp_more (stay steps) es _ u (h.udp place u e);
    lookups = h.lookups;
    besides = besides_more contexts (stay steps) es _ m.store.beside h.besides;
    standing = λ s e. standing_more (stay steps) es _ m.store.records s (h.standing s e);
    accepts = λ place r e. stands_more es op c told r.listening (h.accepts place r e) (λ x n. q place r x e n);
    one = h.one;
  }

  -- a mark, and the handle that it makes
  pub state_made : (es : List Entry) (m : Machine) (op : OpId) (parent : Option ℕ) (sock : Option OpId) (told : Told) (kind : Kind) → Spared m.store.records op (Made m.table.next (name_of kind) parent sock)
      → NamesItsOwn (es ++ entry op (Made m.table.next (name_of kind) parent sock) told ∷ []) m.store.records m.table.next kind
      → StateIsFine contexts steps es m → StateIsFine contexts steps (es ++ entry op (Made m.table.next (name_of kind) parent sock) told ∷ []) (record m { table = with_handle m.table kind parent })
  state_made es m op parent sock told kind q f h = record {
    count = let p = marks_in-push es (entry op (Made m.table.next (name_of kind) parent sock) told) in let k = h.count in omega arith;
    handles = λ handle x e. elim (value_split m.table.live (record { handle = m.table.next; value = kind; parent = table_parent kind parent }) handle x e) [
      | inl g ↦ handle_more es _ m.store.records handle x (h.handles handle x g)
      | inr g ↦ (
          let e = entry op (Made m.table.next (name_of kind) parent sock) told in
          let fs = es ++ e ∷ [] in
          let marked : IsMarkedAs fs m.table.next (name_of kind) = record { op = op; parent = parent; sock = sock; told = told; mark = has_last es e } in
          subst (HandleIsFine fs m.store.records handle) g.1 (subst (λ (n : ℕ). HandleIsFine fs m.store.records n kind) g.0 (f.0, f.1, f.2, marked, f.3)))
    ];
    records = λ place r e. record_more (stay steps) es _ r (h.records place r e);
    udp = λ place u e. udp_more (stay steps) es _ u (h.udp place u e);
    lookups = h.lookups;
    besides = besides_more contexts (stay steps) es _ m.store.beside h.besides;
    standing = λ s e. standing_more (stay steps) es _ m.store.records s (h.standing s e);
    accepts = λ place r e. stands_more es op _ told r.listening (h.accepts place r e) (λ x n. q place r x e n);
    one = h.one;
  }

  -- a handle goes
  pub state_taken : (es : List Entry) (m : Machine) (gone : ℕ) → StateIsFine contexts steps es m → StateIsFine contexts steps es (record m { table = without_handle m.table gone })
  state_taken es m gone h = record {
    count = h.count;
    handles = λ handle kind e. h.handles handle kind (value_without m.table.live gone handle kind e);
    records = h.records;
    udp = h.udp;
    lookups = h.lookups;
    besides = h.besides;
    standing = h.standing;
    accepts = h.accepts;
    one = h.one;
  }

  -- one record changes, and its accept may be another
  pub state_renewed : (es : List Entry) (m : Machine) (place : ℕ) (old now : TcpRecord) → tcp2_at m.store.records place ≡ Some old → now.side ≡ old.side → RecordIsFine steps es now
      → ListeningStands es now.listening → ((x : OpId) → accept_name now.listening ≡ Some x → Only m.store.records place x)
      → StateIsFine contexts steps es m → StateIsFine contexts steps es (record m { store = with_socket m.store place now })
  state_renewed es m place old now g k f a o h = record {
    count = h.count;
    handles = λ handle x e. handle_kept es m.store.records _ (sides_put m.store.records place old now g k) handle x (h.handles handle x e);
    records = λ i r e. elim (put_found tcp_sort m.store.records place now i r e) [
      | inl q ↦ subst (RecordIsFine steps es) q.1 f
      | inr q ↦ h.records i r q
    ];
    udp = λ i u e. h.udp i u (put_was tcp_sort udp_sort (λ t. refl) m.store.records place now i u e);
    lookups = lookups_put contexts steps m.store.records place (Tcp now) refl h.lookups;
    besides = h.besides;
    standing = λ s e. standing_kept es m.store.records _ (sides_put m.store.records place old now g k) s (h.standing s e);
    accepts = stands_put es m.store.records place now a h.accepts;
    one = one_put m.store.records place now o h.one;
  }

  -- one record changes
  pub state_put : (es : List Entry) (m : Machine) (place : ℕ) (old now : TcpRecord) → tcp2_at m.store.records place ≡ Some old → now.side ≡ old.side → KeepsListening old.listening now.listening → RecordIsFine steps es now → StateIsFine contexts steps es m
      → StateIsFine contexts steps es (record m { store = with_socket m.store place now })
  state_put es m place old now g k l f h = state_renewed es m place old now g k f (l.stands es (h.accepts place old g)) (λ x n i s e o. h.one i place s old x e g o (l.names x n)) h

  -- a record more, which has no accept
  pub state_joined : (es : List Entry) (m : Machine) (now : TcpRecord) → RecordIsFine steps es now → ListeningStands es now.listening → accept_name now.listening ≡ None → StateIsFine contexts steps es m
      → StateIsFine contexts steps es (record m { store = record m.store { records = tcp2_pushed m.store.records now } })
  state_joined es m now f a n h = record {
    count = h.count;
    handles = λ handle x e. handle_kept es m.store.records _ (sides_push m.store.records now) handle x (h.handles handle x e);
    records = λ i r e. elim (push_new tcp_sort m.store.records now i r e) [
      | inl q ↦ h.records i r q
      | inr q ↦ subst (RecordIsFine steps es) q f
    ];
    udp = λ i u e. h.udp i u (push_was tcp_sort udp_sort (λ t. refl) m.store.records now i u e);
    lookups = lookups_push contexts steps m.store.records (Tcp now) refl h.lookups;
    besides = h.besides;
    standing = λ s e. standing_kept es m.store.records _ (sides_push m.store.records now) s (h.standing s e);
    accepts = stands_push es m.store.records now a h.accepts;
    one = one_push m.store.records now n h.one;
  }

  pub state_push : (es : List Entry) (m : Machine) (socket : Socket) → SocketIsFine steps es socket → StateIsFine contexts steps es m → StateIsFine contexts steps es (record m { store = with_record m.store socket })
  state_push es m socket f h = state_joined es m (new_record socket) (record { socket = f; named = λ side p. p; streams = λ streams p. absurd (cc); listening = tt; progress = tt }) tt refl h

  -- a UDP socket changes
  pub state_put_udp : (es : List Entry) (m : Machine) (place : ℕ) (old now : UdpRecord) → udp2_at m.store.records place ≡ Some old → udp_side now ≡ udp_side old → UdpIsFine steps es now → StateIsFine contexts steps es m → StateIsFine contexts steps es (record m { store = with_udp m.store place now })
  state_put_udp es m place old now g k f h = record {
    count = h.count;
    handles = λ handle x e. handle_kept es m.store.records _ (sides_put_udp m.store.records place old now g k) handle x (h.handles handle x e);
    records = λ i r e. h.records i r (put_was udp_sort tcp_sort (λ t. refl) m.store.records place now i r e);
    udp = λ i u e. elim (put_found udp_sort m.store.records place now i u e) [
      | inl q ↦ subst (UdpIsFine steps es) q.1 f
      | inr q ↦ h.udp i u q
    ];
    lookups = lookups_put contexts steps m.store.records place (Udp now) refl h.lookups;
    besides = h.besides;
    standing = λ s e. standing_kept es m.store.records _ (sides_put_udp m.store.records place old now g k) s (h.standing s e);
    accepts = λ i r e. h.accepts i r (put_was udp_sort tcp_sort (λ t. refl) m.store.records place now i r e);
    one = λ i j r s x a b. h.one i j r s x (put_was udp_sort tcp_sort (λ t. refl) m.store.records place now i r a) (put_was udp_sort tcp_sort (λ t. refl) m.store.records place now j s b);
  }

  -- there is one more
  pub state_joined_udp : (es : List Entry) (m : Machine) (now : UdpRecord) → UdpIsFine steps es now → StateIsFine contexts steps es m → StateIsFine contexts steps es (record m { store = record m.store { records = udp2_pushed m.store.records now } })
  state_joined_udp es m now f h = record {
    count = h.count;
    handles = λ handle x e. handle_kept es m.store.records _ (sides_push_udp m.store.records now) handle x (h.handles handle x e);
    records = λ i r e. h.records i r (push_was udp_sort tcp_sort (λ t. refl) m.store.records now i r e);
    udp = λ i u e. elim (push_found udp_sort m.store.records now i u e) [
      | inl q ↦ h.udp i u q
      | inr q ↦ subst (UdpIsFine steps es) q.0 f
    ];
    lookups = lookups_push contexts steps m.store.records (Udp now) refl h.lookups;
    besides = h.besides;
    standing = λ s e. standing_kept es m.store.records _ (sides_push_udp m.store.records now) s (h.standing s e);
    accepts = λ i r e. h.accepts i r (push_was udp_sort tcp_sort (λ t. refl) m.store.records now i r e);
    one = λ i j r s x a b. h.one i j r s x (push_was udp_sort tcp_sort (λ t. refl) m.store.records now i r a) (push_was udp_sort tcp_sort (λ t. refl) m.store.records now j s b);
  }

  -- a call is pending
  pub state_stands : (es : List Entry) (m : Machine) (c : Standing) → StandingIsFine steps es m.store.records c → StateIsFine contexts steps es m → StateIsFine contexts steps es (record m { store = record m.store { standing = Some c } })
  state_stands es m c f h = record {
    count = h.count;
    handles = h.handles;
    records = h.records;
    udp = h.udp;
    lookups = h.lookups;
    besides = h.besides;
    standing = λ d e. subst (StandingIsFine steps es m.store.records) (same c d e) f;
    accepts = h.accepts;
    one = h.one;
  }
    where
      same : (a b : Standing) → Some a ≡ Some b → a ≡ b
      same a b p = cc

  -- none is pending
  pub state_unstands : (es : List Entry) (m : Machine) → StateIsFine contexts steps es m → StateIsFine contexts steps es (record m { store = record m.store { standing = None } })
  state_unstands es m h = record { count = h.count; handles = h.handles; records = h.records; udp = h.udp; lookups = h.lookups; besides = h.besides; standing = λ d e. absurd (cc); accepts = h.accepts; one = h.one }

  -- other calls stand beside others
  pub state_beside : (es : List Entry) (m : Machine) (beside : List Beside) → BesidesAreFine contexts steps es beside → StateIsFine contexts steps es m → StateIsFine contexts steps es (record m { store = record m.store { beside = beside } })
  state_beside es m beside f h = record { count = h.count; handles = h.handles; records = h.records; udp = h.udp; lookups = h.lookups; besides = f; standing = h.standing; accepts = h.accepts; one = h.one }

  -- nor is a limit that is kept
  pub state_room : (es : List Entry) (m : Machine) (ctx : WasiSocketsCtx) → StateIsFine contexts steps es m → StateIsFine contexts steps es (with_room m ctx)
  state_room es m ctx h = record { count = h.count; handles = h.handles; records = h.records; udp = h.udp; lookups = h.lookups; besides = h.besides; standing = h.standing; accepts = h.accepts; one = h.one }

  -- which writes are in progress is nothing to it
  pub state_jobs : (es : List Entry) (m : Machine) (jobs : List HostJob) → StateIsFine contexts steps es m → StateIsFine contexts steps es (record m { store = record m.store { jobs = jobs } })
  state_jobs es m jobs h = record { count = h.count; handles = h.handles; records = h.records; udp = h.udp; lookups = h.lookups; besides = h.besides; standing = h.standing; accepts = h.accepts; one = h.one }
