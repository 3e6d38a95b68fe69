-- What a line asks of the ends of a 0.3 connection is licensed: the mark of a result slot's handle, and a write that is offered once.
use Rattle.wasi_walks.proofs.Words.{Allows, Entry, IsMarkedWith, List, Some, Step, Streams, TcpRecord, TcpSendStream, WasiSocketsCtx, WriteState, allows_weaker, ap, bind}
use Rattle.wasi_walks.proofs.Words.{inl, kind_at, make_asks, own_of, side_at, step_at, subst, sym, writer_side, ℕ, ◌≡◌}
use Rattle.wasi_tcp.specs.Halves.{write_asks}
use Rattle.wasi_records.specs.Records.{tcp2_at}
use Rattle.host_store.specs.declared.kind.Kind.TheVariants.{Result3, Tcp3}
use Rattle.wasi_walks.proofs.walks.Here.{MakesEnds}
use Rattle.wasi_walks.proofs.walks.Moves.{Found, Here, OfWriter, Past, Used, record_of}
use Rattle.wasi_walks.proofs.licence.Line.{Licensed, names_record, remade, spent}
use Rattle.wasi_walks.proofs.licence.Asked.{asked_fine, names_on_side, spares}
use Rattle.wasi_walks.proofs.licence.Marks.{other_fine}
use Rattle.wasi_walks.proofs.licence.Ends.{ends_no_accept, result_mark, result_no_tcp}
use Rattle.wasi_walks.proofs.licence.Unbound.{MayAskSo}

module _ (contexts : List WasiSocketsCtx) (steps : List Step) (line : ℕ) (origin : Step) (is_line : step_at steps line ≡ Some origin) where
  pub result_marked : (es : List Entry) (h : Here) (socket place slot : ℕ) → MakesEnds socket origin → kind_at h.machine.table socket ≡ Some (Tcp3 place) → Licensed contexts steps line origin es h
      → Allows (MayAskSo contexts steps) (λ fs made. Licensed contexts steps line origin fs (record h { machine = record h.machine { table = made.1 }; made = Past })) es (make_asks h.machine.table (own_of line) (Result3 slot) (Some socket) (side_at (tcp2_at h.machine.store.records place)))
  result_marked es h socket place slot m e i =
      let sock = side_at (tcp2_at h.machine.store.records place) in
      let n = names_record es h.machine.store.records socket place (kind_at h.machine.table socket) (ap record_of e) (i.fine.handles socket) in
      let w : IsMarkedWith es socket sock = subst (IsMarkedWith es socket) (sym (ap side_at n.at)) n.marked in
      allows_weaker (MayAskSo contexts steps) (λ fs made. Licensed contexts steps line origin fs (record h { machine = record h.machine { table = made.1 } })) _
      (λ fs made k. remade fs (record h { machine = record h.machine { table = made.1 } }) Past tt tt k) es _
      (other_fine contexts steps line origin is_line es h (Result3 slot) (Some socket) sock (record { origin = origin; at = is_line; holds = result_mark es (own_of line) socket sock w origin m }) result_no_tcp (λ a u. ends_no_accept socket origin m a) (λ t. (tt, tt, tt, tt)) i)

  pub written_once : (es : List Entry) (h : Here) (place : ℕ) (bytes : List ℕ) (r : TcpRecord) (s : Streams) (half : TcpSendStream) (permit : ℕ) → h.at ≡ Some (place, line) → Found h place r → r.streams ≡ Some s → s.writer ≡ WriteState.Ready half permit → Licensed contexts steps line origin es h
      → Allows (MayAskSo contexts steps) (λ fs told. Licensed contexts steps line origin fs (record h { own = Used })) es (write_asks (own_of line) half.side bytes)
  unfolding bind
  written_once es h place bytes r s half permit at g e w i = (inl (names_on_side contexts steps line origin is_line es h place line r half.side at g (OfWriter s e (ap writer_side w)) i), λ told fits front. spent _ h (asked_fine contexts steps line origin is_line es h (own_of line) _ told tt (spares contexts steps line origin is_line h _ tt) i))
