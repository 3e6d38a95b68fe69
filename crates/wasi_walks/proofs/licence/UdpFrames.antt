-- What is known of the UDP sockets under more entries; and what handles and the pending call name, where the records change.
use Rattle.wasi_walks.proofs.walks.Here.{end_place}
use Rattle.std.specs.Prelude.{is_some, true, false, slice_get, IsSome}
use Rattle.wasi_walks.proofs.Words.{length, BeganBy, Entry, IpSocketAddress, IsMarkedWith, Item, Kind, List, None, OpId, Operation, Option, Pollable, Some}
use Rattle.wasi_walks.proofs.Words.{SocketAddressFamily, Standing, Step, TcpRecord, Watched, ap, call_place, inl, inr, own_of, refl, subst, sym, ℕ, ◌++◌}
use Rattle.wasi_walks.proofs.Words.{◌∙◌, ◌≡◌}
use Rattle.wasi_walks.proofs.Lists.{has_front}
use Rattle.wasi_walks.proofs.walks.Moves.{MakesUdpFor, record_of, udp_record_of, sending_in, receiving_in}
use Rattle.wasi_walks.proofs.licence.Lookups.{NamesNone}
use Rattle.wasi_walks.proofs.licence.State.{NamesEndIf, NamesIf, NamesUdp, NamesUdpIf, HandleIsFine, UdpBindLeft, UdpUnchecked, UdpChecked, UdpOver, Names, UdpMade, UdpBindIsFine, UdpProgressIsFine, UdpIsFine, LineNames, OfTcp, OfUdp, IfOp, StreamsStand, CreateStands, StandingIsFine}
use Rattle.wasi_walks.proofs.licence.DatagramFrames.{free_more, udp_connect_more, send_more, receive_more}
use Rattle.host_store.specs.declared.store.StandingCall.{StandingCall}
use Rattle.wasi_walks.proofs.licence.Frames.{Goes, began_more, marked_as_more, marked_more, names_on, works_more, IsMadeWith, made_put, names_record_more}
use Rattle.wasi_records.specs.Records.{tcp2_at, tcp2_put, tcp2_pushed, udp2_at, udp2_put, udp2_pushed}
use Rattle.host_store.specs.Kinds.{name_of}
use Rattle.udp_records.specs.Udp.{udp_side}
use Rattle.wasi_records.specs.declared.records.Record.{Record}
use Rattle.wasi_records.specs.declared.records.Record.TheVariants.{Tcp, Udp}
use Rattle.wasi_walks.proofs.owners.Records.{past_end}
use Rattle.udp_records.specs.declared.udp.UdpRecord.{UdpRecord}
use Rattle.udp_records.specs.declared.udp.UdpInProgress.{UdpInProgress}
use Rattle.wasi_walks.proofs.Places.{push_was, push_found, put_was, put_found, there_push, there_put, push_still, put_stays, put_still, tcp_sort, udp_sort}

-- what holds of an operation, where there is one, goes over to what follows from it
pub if_op : {P Q : Operation → Type 0} → ((op : Operation) → P op → Q op) → (o : Option Operation) → IfOp P o → IfOp Q o
if_op f (Some op) h = f op h
if_op f None h = tt

pub same_udp : (a b : UdpRecord) → Some a ≡ Some b → a ≡ b
same_udp a b e = cc

-- == the records by place
-- The UDP socket of this place has this network socket.
pub record IsUdpOf (records : List Record) (place : ℕ) (side : OpId) : Type 0 where
  pub found : UdpRecord
  pub at : udp2_at records place ≡ Some found
  pub same : udp_side found ≡ side

-- Each record is still there, of the network socket that it was made with; and where something was, a record was there before.
pub record KeepsSides (old now : List Record) : Type 0 where
  pub tcp : (place : ℕ) (r : TcpRecord) → tcp2_at old place ≡ Some r → IsMadeWith now place r.side
  pub udp : (place : ℕ) (u : UdpRecord) → udp2_at old place ≡ Some u → IsUdpOf now place (udp_side u)
  pub there : (place : ℕ) → IsSome (slice_get old place) → IsSome (slice_get now place)
  pub was : (place : ℕ) (r : TcpRecord) → IsSome (slice_get old place) → tcp2_at now place ≡ Some r → IsMadeWith old place r.side

-- one is replaced by one of the same network socket
pub sides_put : (records : List Record) (i : ℕ) (old now : TcpRecord) → tcp2_at records i ≡ Some old → now.side ≡ old.side → KeepsSides records (tcp2_put records i now)
sides_put records i old now g k = record {
  tcp = λ place r e. made_put records i old now place r g k e;
  udp = λ place u e. record { found = u; at = put_still tcp_sort udp_sort (λ t. refl) records i old now place u g e; same = refl };
  there = there_put records i (Tcp now);
  was = λ place r h e. elim (put_found tcp_sort records i now place r e) [
    | inl p ↦ record { found = old; at = ap (tcp2_at records) p.0 ∙ g; same = sym k ∙ ap (λ (x : TcpRecord). x.side) p.1 }
    | inr p ↦ record { found = r; at = p; same = refl }
  ];
}

pub sides_put_udp : (records : List Record) (i : ℕ) (old now : UdpRecord) → udp2_at records i ≡ Some old → udp_side now ≡ udp_side old → KeepsSides records (udp2_put records i now)
sides_put_udp records i old now g k = record {
  tcp = λ place r e. record { found = r; at = put_still udp_sort tcp_sort (λ t. refl) records i old now place r g e; same = refl };
  udp = λ place u e. elim (put_stays udp_sort records i now place u e) [
    | inl p ↦ record { found = u; at = p; same = refl }
    | inr p ↦ record { found = now; at = p.1; same = k ∙ ap udp_side (same_udp old u (sym g ∙ (ap (udp2_at records) (sym p.0) ∙ e))) }
  ];
  there = there_put records i (Udp now);
  was = λ place r h e. record { found = r; at = put_was udp_sort tcp_sort (λ t. refl) records i now place r e; same = refl };
}

-- past the end nothing is
past_none : (records : List Record) (place : ℕ) → place ≡ length records → IsSome (slice_get records place) → ⊥
past_none records place e h = let p : false ≡ true = sym (ap (λ (o : Option Record). is_some o) (ap (slice_get records) e ∙ past_end records)) ∙ h in absurd (cc)

-- there is one more
pub sides_push : (records : List Record) (now : TcpRecord) → KeepsSides records (tcp2_pushed records now)
sides_push records now = record {
  tcp = λ place r e. record { found = r; at = push_still tcp_sort tcp_sort records now place r e; same = refl };
  udp = λ place u e. record { found = u; at = push_still tcp_sort udp_sort records now place u e; same = refl };
  there = there_push records (Tcp now);
  was = λ place r h e. elim (push_found tcp_sort records now place r e) [ inl p ↦ record { found = r; at = p; same = refl } | inr p ↦ absurd (past_none records place p.1 h) ];
}

pub sides_push_udp : (records : List Record) (now : UdpRecord) → KeepsSides records (udp2_pushed records now)
sides_push_udp records now = record {
  tcp = λ place r e. record { found = r; at = push_still udp_sort tcp_sort records now place r e; same = refl };
  udp = λ place u e. record { found = u; at = push_still udp_sort udp_sort records now place u e; same = refl };
  there = there_push records (Udp now);
  was = λ place r h e. record { found = r; at = push_was udp_sort tcp_sort (λ t. refl) records now place r e; same = refl };
}

-- == what a handle stands for
names_udp_more : (es fs : List Entry) (records : List Record) (handle place : ℕ) → NamesUdp es records handle place → NamesUdp (es ++ fs) records handle place
names_udp_more es fs records handle place h = record { found = h.found; at = h.at; marked = marked_more es fs handle (Some (udp_side h.found)) h.marked }

tcp_more : (es fs : List Entry) (records : List Record) (handle : ℕ) (o : Option ℕ) → NamesIf es records handle o → NamesIf (es ++ fs) records handle o
tcp_more es fs records handle (Some place) h = names_record_more es fs records handle place h
tcp_more es fs records handle None h = tt

udp_if_more : (es fs : List Entry) (records : List Record) (handle : ℕ) (o : Option ℕ) → NamesUdpIf es records handle o → NamesUdpIf (es ++ fs) records handle o
udp_if_more es fs records handle (Some place) h = names_udp_more es fs records handle place h
udp_if_more es fs records handle None h = tt

none_more : (es fs : List Entry) (handle : ℕ) (kind : Kind) → NamesNone es handle kind → NamesNone (es ++ fs) handle kind
none_more es fs handle (Kind.Lookup place) h = marked_more es fs handle None h
none_more es fs handle (Kind.PlainInput plain) h = marked_more es fs handle None h
none_more es fs handle (Kind.PlainOutput plain) h = marked_more es fs handle None h
none_more es fs handle (Pollable (Watched.Lookup place)) h = marked_more es fs handle None h
none_more es fs handle (Pollable Watched.Plain) h = marked_more es fs handle None h
none_more es fs handle _ h = tt

end_more : (es fs : List Entry) (records : List Record) (handle : ℕ) (o : Option ℕ) → NamesEndIf es records handle o → NamesEndIf (es ++ fs) records handle o
end_more es fs records handle (Some place) h = record { there = h.there; marked = λ r e. marked_more es fs handle r.side (h.marked r e) }
end_more es fs records handle None h = tt

pub handle_more : (es fs : List Entry) (records : List Record) (handle : ℕ) (kind : Kind) → HandleIsFine es records handle kind → HandleIsFine (es ++ fs) records handle kind
handle_more es fs records handle kind h = (tcp_more es fs records handle (record_of (Some kind)) h.0, udp_if_more es fs records handle (udp_record_of (Some kind)) h.1, none_more es fs handle kind h.2, marked_as_more es fs handle (name_of kind) h.3, end_more es fs records handle (end_place kind) h.4)

module _ (es : List Entry) (old now : List Record) (k : KeepsSides old now) where
  tcp_kept : (handle : ℕ) (o : Option ℕ) → NamesIf es old handle o → NamesIf es now handle o
  tcp_kept handle (Some place) h = let m = k.tcp place h.found h.at in record { found = m.found; at = m.at; marked = subst (IsMarkedWith es handle) (sym m.same) h.marked }
  tcp_kept handle None h = tt

  udp_kept : (handle : ℕ) (o : Option ℕ) → NamesUdpIf es old handle o → NamesUdpIf es now handle o
  udp_kept handle (Some place) h = let m = k.udp place h.found h.at in record { found = m.found; at = m.at; marked = subst (λ (s : OpId). IsMarkedWith es handle (Some s)) (sym m.same) h.marked }
  udp_kept handle None h = tt

  end_kept : (handle : ℕ) (o : Option ℕ) → NamesEndIf es old handle o → NamesEndIf es now handle o
  end_kept handle (Some place) h = record { there = k.there place h.there; marked = λ r e. (let m = k.was place r h.there e in subst (IsMarkedWith es handle) m.same (h.marked m.found m.at)) }
  end_kept handle None h = tt

  pub handle_kept : (handle : ℕ) (kind : Kind) → HandleIsFine es old handle kind → HandleIsFine es now handle kind
  handle_kept handle kind h = (tcp_kept handle (record_of (Some kind)) h.0, udp_kept handle (udp_record_of (Some kind)) h.1, h.2, h.3, end_kept handle (end_place kind) h.4)

-- == the pending call
create_kept : (steps : List Step) (old now : List Record) → KeepsSides old now → (call : StandingCall) → CreateStands steps old call → CreateStands steps now call
create_kept steps old now k (StandingCall.UdpCreate place face) h = let m = k.udp place h.found h.at in record { found = m.found; at = m.at; made = subst (λ (s : OpId). BeganBy steps s (MakesUdpFor face)) (sym m.same) h.made }
create_kept steps old now k (StandingCall.DropOutput place) h = tcp_still (tcp2_at old place) refl h
  where
    tcp_still : (o : Option TcpRecord) → tcp2_at old place ≡ o → IsSome o → IsSome (tcp2_at now place)
    tcp_still None e some = absurd (cc)
    tcp_still (Some r) e some = ap (λ (o : Option TcpRecord). is_some o) (k.tcp place r e).at
create_kept steps old now k _ h = tt

module _ {steps : List Step} (es : List Entry) (old now : List Record) (k : KeepsSides old now) where
  line_kept : (line place : ℕ) → LineNames steps es old line place → LineNames steps es now line place
  line_kept line place (OfTcp r e n) = let m = k.tcp place r e in OfTcp m.found m.at (λ side s. n side (sym m.same ∙ s))
  line_kept line place (OfUdp u e n) = let m = k.udp place u e in OfUdp m.found m.at (subst (Names steps es (own_of line)) (sym m.same) n)

  pub standing_kept : (s : Standing) → StandingIsFine steps es old s → StandingIsFine steps es now s
  standing_kept s h = (λ o. line_kept s.ids.line (call_place s.call) (h.0 o), h.1, create_kept steps old now k s.call h.2)

module _ {steps now : List Step} (goes : Goes steps now) where
  line_more : (es fs : List Entry) (records : List Record) (line place : ℕ) → LineNames steps es records line place → LineNames now (es ++ fs) records line place
  line_more es fs records line place (OfTcp r e n) = OfTcp r e (λ side s. names_on goes es fs (own_of line) side (n side s))
  line_more es fs records line place (OfUdp u e n) = OfUdp u e (names_on goes es fs (own_of line) (udp_side u) n)

  streams_more : (line : ℕ) (call : StandingCall) → StreamsStand steps line call → StreamsStand now line call
  streams_more line (StandingCall.UdpConnect place handle) h = began_more goes (own_of line) _ h
  streams_more line (StandingCall.Blocking call) h = began_more goes (own_of line) _ h
  streams_more line (StandingCall.Listen place marks) h = began_more goes (own_of line) _ h
  streams_more line _ h = tt

  create_more : (records : List Record) (call : StandingCall) → CreateStands steps records call → CreateStands now records call
  create_more records (StandingCall.UdpCreate place face) h = record { found = h.found; at = h.at; made = began_more goes (udp_side h.found) _ h.made }
  create_more records (StandingCall.DropOutput place) h = h
  create_more records _ h = tt

  pub standing_more : (es fs : List Entry) (records : List Record) (s : Standing) → StandingIsFine steps es records s → StandingIsFine now (es ++ fs) records s
  standing_more es fs records s h = (λ o. line_more es fs records s.ids.line (call_place s.call) (h.0 o), streams_more s.ids.line s.call h.1, create_more records s.call h.2)

  -- == UDP sockets
  pub udp_made_more : (es fs : List Entry) (side : OpId) (maker : ℕ) (family : SocketAddressFamily) → UdpMade steps es side maker family → UdpMade now (es ++ fs) side maker family
  udp_made_more es fs side maker family h = record { by = began_more goes side _ h.by; created = has_front es fs _ h.created }

  udp_left_more : (es fs : List Entry) (op : OpId) (maker : ℕ) (addr : IpSocketAddress) (items : List Item) → UdpBindLeft es op maker addr items → UdpBindLeft (es ++ fs) op maker addr items
  udp_left_more es fs op maker addr _ UdpUnchecked = UdpUnchecked
  udp_left_more es fs op maker addr _ (UdpChecked y) = UdpChecked (has_front es fs _ y)
  udp_left_more es fs op maker addr _ UdpOver = UdpOver

  pub udp_bind_more : (es fs : List Entry) (op : Operation) → UdpBindIsFine steps es op → UdpBindIsFine now (es ++ fs) op
  udp_bind_more es fs op h = record {
    addr = h.addr;
    to = began_more goes op.who.id _ h.to;
    udp = began_more goes op.who.side _ h.udp;
    works = works_more goes es fs op.who.id op.who.side op.who.context h.works;
    last = h.last;
    left = udp_left_more es fs op.who.id op.who.context h.addr op.left h.left;
  }

  udp_progress_more : (es fs : List Entry) (doing : UdpInProgress) → UdpProgressIsFine steps es doing → UdpProgressIsFine now (es ++ fs) doing
  udp_progress_more es fs (UdpInProgress.Binding op) h = udp_bind_more es fs op h
  udp_progress_more es fs _ h = tt

  pub udp_more : (es fs : List Entry) (u : UdpRecord) → UdpIsFine steps es u → UdpIsFine now (es ++ fs) u
  udp_more es fs (UdpRecord.Creating create) h = record { made = udp_made_more es fs create.operation.who.side create.operation.who.context create.family h.made; own = h.own; last = h.last; left = h.left }
  udp_more es fs (UdpRecord.Open o) h = record {
    made = udp_made_more es fs o.inner.side o.inner.maker o.inner.family h.made;
    bound = λ b. free_more es fs o.inner.side (h.bound b);
    progress = udp_progress_more es fs o.in_progress h.progress;
    connecting = if_op (λ op. udp_connect_more goes es fs op) o.connecting h.connecting;
    sending = if_op (λ op. send_more goes es fs op) (sending_in o.outgoing) h.sending;
    receiving = if_op (λ op. receive_more goes es fs op) (receiving_in o.incoming) h.receiving;
  }
  udp_more es fs (UdpRecord.Closed side) h = record { maker = h.maker; family = h.family; made = udp_made_more es fs side h.maker h.family h.made }
