-- The ends of a 0.3 connection: a line reaches the record by an end's handle, a half is taken, a slot joins the records, the two
-- handles are marked, and a write is offered once.
use Rattle.wasi_walks.proofs.Words.{Entry, Has, IsMarkOf, IsMarkedWith, Kind, List, OpId, Option}
use Rattle.wasi_walks.proofs.Words.{Some, GuestCall, Step, TcpRecord, WasiSocketsCtx, ap, handles_of, inl, inr}
use Rattle.wasi_walks.proofs.Words.{kind_at, length, name_of, refl, step_at, subst, sym, ℕ, ◌∙◌, ◌≡◌}
use Rattle.wasi_walks.specs.Licence.{IsTcpName}
use Rattle.wasi_records.specs.Records.{tcp2_at, udp2_at}
use Rattle.wasi_records.specs.Records.{slot_pushed}
use Rattle.wasi_records.specs.declared.records.Record.{Record}
use Rattle.tcp_records.specs.declared.slot.Slot.{Slot}
use Rattle.host_store.specs.declared.kind.ConnectionEnd.{ConnectionEnd}
use Rattle.host_store.specs.declared.kind.Kind.TheVariants.{Receive3, Send3}
use Rattle.wasi_world.specs.declared.call.HandleKind.TheVariants as name
use Rattle.wasi_walks.proofs.PipeLists.{slot_push_same}
use Rattle.wasi_walks.proofs.walks.Here.{IsEndAt, MakesEnd, MakesEnds, end_in, end_of}
use Rattle.wasi_walks.proofs.walks.Moves.{Found, Here, ToResult, with_records}
use Rattle.wasi_walks.proofs.licence.State.{HandleIsFine, NamesEnd, NamesEndIf, NamesItsOwn}
use Rattle.wasi_walks.proofs.licence.Line.{IsAccept, Licensed, NamesMade, NamesTcpHere, NamesUdpHere, elsewhere, pair_first, pair_second, remade}
use Rattle.wasi_walks.proofs.licence.LookupMoves.{records_fine}
use Rattle.wasi_walks.proofs.licence.UdpMoves.{not_both}
use Rattle.wasi_steps.specs.declared.guest_call.TcpCall.{TcpCall}
use Rattle.wasi_steps.specs.declared.guest_call.P3TcpCall.{P3TcpCall}

-- == what an end's handle says
names_end : (es : List Entry) (records : List Record) (handle place : ℕ) (k : Option Kind) (end : ConnectionEnd) → end_of k ≡ Some end → end.socket ≡ Some place → ((kind : Kind) → k ≡ Some kind → HandleIsFine es records handle kind) → NamesEnd es records handle place
names_end es records handle place (Some (Receive3 x)) end e s h = let p : x ≡ end = cc in subst (NamesEndIf es records handle) (ap (λ (y : ConnectionEnd). y.socket) p ∙ s) (h (Receive3 x) refl).4
names_end es records handle place (Some (Send3 x)) end e s h = let p : x ≡ end = cc in subst (NamesEndIf es records handle) (ap (λ (y : ConnectionEnd). y.socket) p ∙ s) (h (Send3 x) refl).4
names_end es records handle place _ end e s h = absurd (cc)

end_if : (es : List Entry) (records : List Record) (handle place : ℕ) (end : ConnectionEnd) → IsEndAt place end → NamesEnd es records handle place → NamesEndIf es records handle end.socket
end_if es records handle place end (inl s) n = subst (NamesEndIf es records handle) (sym s) n
end_if es records handle place end (inr s) n = subst (NamesEndIf es records handle) (sym s) tt

pub end_handle : (es : List Entry) (records : List Record) (handle place socket : ℕ) (kind : Kind) (end : ConnectionEnd) (s : Step) → MakesEnd socket kind s → end_in kind ≡ Some end → IsEndAt place end → NamesEnd es records handle place → NamesItsOwn es records handle kind
end_handle es records handle place socket (Receive3 x) end s m e is n = let p : end ≡ x = cc in (tt, tt, tt, end_if es records handle place x (subst (IsEndAt place) p is) n)
end_handle es records handle place socket (Send3 x) end s m e is n = let p : end ≡ x = cc in (tt, tt, tt, end_if es records handle place x (subst (IsEndAt place) p is) n)
end_handle es records handle place socket _ end s m e is n = absurd m

-- == its mark, and that of its slot
pub end_mark : (es : List Entry) (op : OpId) (socket : ℕ) (kind : Kind) (sock : Option OpId) → IsMarkedWith es socket sock → (s : Step) → MakesEnd socket kind s → IsMarkOf es op (name_of kind) (Some socket) sock s
end_mark es op socket (Receive3 end) sock w (Step.Call c (GuestCall.P3Tcp (P3TcpCall.Receive s))) e = (inl refl, (ap (λ (n : ℕ). Some n) (sym e), subst (λ (n : ℕ). IsMarkedWith es n sock) (sym e) w))
end_mark es op socket (Send3 end) sock w (Step.Call c (GuestCall.P3Tcp (P3TcpCall.Send s))) e = (inl refl, (ap (λ (n : ℕ). Some n) (sym e), subst (λ (n : ℕ). IsMarkedWith es n sock) (sym e) w))
end_mark es op socket _ sock w _ e = absurd e

pub result_mark : (es : List Entry) (op : OpId) (socket : ℕ) (sock : Option OpId) → IsMarkedWith es socket sock → (s : Step) → MakesEnds socket s → IsMarkOf es op name.Result3 (Some socket) sock s
result_mark es op socket sock w (Step.Call c (GuestCall.P3Tcp (P3TcpCall.Receive s))) e = (inr refl, (ap (λ (n : ℕ). Some n) (sym e), subst (λ (n : ℕ). IsMarkedWith es n sock) (sym e) w))
result_mark es op socket sock w (Step.Call c (GuestCall.P3Tcp (P3TcpCall.Send s))) e = (inr refl, (ap (λ (n : ℕ). Some n) (sym e), subst (λ (n : ℕ). IsMarkedWith es n sock) (sym e) w))
result_mark es op socket sock w _ e = absurd e

-- neither is an accept's, nor of a TCP socket
pub end_no_accept : (socket : ℕ) (kind : Kind) (s : Step) → MakesEnd socket kind s → IsAccept s → ⊥
end_no_accept socket (Receive3 end) (Step.Call c (GuestCall.Tcp (TcpCall.Accept listener))) m is = m
end_no_accept socket (Receive3 end) (Step.Call c (GuestCall.P3Tcp (P3TcpCall.Accept listener remaining))) m is = m
end_no_accept socket (Receive3 end) _ m is = is
end_no_accept socket (Send3 end) (Step.Call c (GuestCall.Tcp (TcpCall.Accept listener))) m is = m
end_no_accept socket (Send3 end) (Step.Call c (GuestCall.P3Tcp (P3TcpCall.Accept listener remaining))) m is = m
end_no_accept socket (Send3 end) _ m is = is
end_no_accept socket _ s m is = absurd m

pub ends_no_accept : (socket : ℕ) (s : Step) → MakesEnds socket s → IsAccept s → ⊥
ends_no_accept socket (Step.Call c (GuestCall.Tcp (TcpCall.Accept listener))) m is = m
ends_no_accept socket (Step.Call c (GuestCall.P3Tcp (P3TcpCall.Accept listener remaining))) m is = m
ends_no_accept socket _ m is = is

pub end_no_tcp : (socket : ℕ) (kind : Kind) (s : Step) → MakesEnd socket kind s → IsTcpName (name_of kind) → ⊥
end_no_tcp socket (Receive3 end) s m (inl p) = absurd (cc)
end_no_tcp socket (Receive3 end) s m (inr p) = absurd (cc)
end_no_tcp socket (Send3 end) s m (inl p) = absurd (cc)
end_no_tcp socket (Send3 end) s m (inr p) = absurd (cc)
end_no_tcp socket _ s m p = absurd m

pub result_no_tcp : IsTcpName name.Result3 → ⊥
result_no_tcp (inl p) = absurd (cc)
result_no_tcp (inr p) = absurd (cc)

module _ (contexts : List WasiSocketsCtx) (steps : List Step) (line : ℕ) (origin : Step) (is_line : step_at steps line ≡ Some origin) where
  -- == moves
  -- the record of an end's socket is reached by the end's handle
  pub reaches_end : (es : List Entry) (h : Here) (handle place : ℕ) (end : ConnectionEnd) (r : TcpRecord) → Has (handles_of origin) handle → end_of (kind_at h.machine.table handle) ≡ Some end → end.socket ≡ Some place → Found h place r → Licensed contexts steps line origin es h → Licensed contexts steps line origin es (record h { at = Some (place, line) })
  reaches_end es h handle place end r named e s g i = elsewhere es h _ refl refl refl i i.fine tcp udp
    where
      its : (q : TcpRecord) → Found h place q → NamesMade steps line es q
      its q d side m =
          let w : IsMarkedWith es handle (Some side) = subst (IsMarkedWith es handle) m ((names_end es h.machine.store.records handle place (kind_at h.machine.table handle) end e s (i.fine.handles handle)).marked q d) in
          record { origin = origin; at = is_line; holds = record { handle = handle; named = named; is = record { op = w.op; kind = w.kind; parent = w.parent; told = w.told; mark = w.mark } } }

      tcp : NamesTcpHere steps es (record h { at = Some (place, line) })
      tcp k n q a d = let p = pair_first place line k n a in subst (λ (x : ℕ). NamesMade steps x es q) (pair_second place line k n a) (its q (ap (tcp2_at h.machine.store.records) p ∙ d))

      udp : NamesUdpHere steps es (record h { at = Some (place, line) })
      udp k n u a d = absurd (not_both h.machine.store.records place r u g (ap (udp2_at h.machine.store.records) (pair_first place line k n a) ∙ d))

  -- its slot joins the records
  pub adds_slot : (es : List Entry) (h : Here) (s : Slot) → Licensed contexts steps line origin es h → Licensed contexts steps line origin es (record (with_records h (slot_pushed h.machine.store.records s)) { made = ToResult (length h.machine.store.records) })
  adds_slot es h s i = remade es (with_records h (slot_pushed h.machine.store.records s)) (ToResult (length h.machine.store.records)) tt tt (records_fine (λ op. ⊥) (λ op e. absurd e) es h (slot_pushed h.machine.store.records s) (slot_push_same h.machine.store.records s) i)
