-- What the other writers of a context leave, as one of its writers changes.
use Rattle.std.proofs.Common.{◌≡◌, ℕ, zero, suc, ◌-◌, ◌<◌, ◌≤◌, cond, List, [], ◌∷◌, length, Some, Bool, refl, ap, ◌∙◌, sym, arith}
use Rattle.std.proofs.lemmas.Bool.{eq-eqb}
use Rattle.wasi_records.specs.Numbered.{item_at}
use Rattle.wasi_records.specs.Records.{tcp2_at, tcp2_put}
use Rattle.tcp_records.specs.Used.{held_in, used_by}
use Rattle.wasi_records.specs.Used.{used_in, used}
use Rattle.wasi_records.proofs.Sums.{used_put}
use Rattle.wasi_records.specs.declared.records.Record.{Record}
use Rattle.wasi_records.specs.declared.records.Record.TheVariants.{Tcp}
use Rattle.tcp_records.specs.declared.socket.TcpRecord.{TcpRecord}
use Rattle.tcp_records.specs.declared.socket.Streams.{Streams}
use Rattle.wasi_tcp.specs.declared.writer.WriteState.{WriteState}
use Rattle.wasi_tcp.specs.Bounds.{held}
use Rattle.host_store.specs.Limits.{limit_in, limit_or, left, most_of}
use Rattle.tcp_records.specs.Halves.{with_writer}
use Rattle.wasi_walks.proofs.walks.Here.{Here, Found, put}

-- a record that is found is in the list
pub in_list : (rs : List Record) (place : ℕ) (r : TcpRecord) → tcp2_at rs place ≡ Some r → (place < length rs) × (item_at rs place ≡ Tcp r)
in_list [] place r e = absurd (cc)
in_list (Tcp s ∷ rs) zero r e = (omega arith, ap Tcp (let same : s ≡ r = cc in same))
in_list (x ∷ rs) zero r e = absurd (cc)
in_list (x ∷ rs) (suc place) r e = let later = in_list rs place r e in (let l = later.0 in omega (arith, l), later.1)

-- what it counts for its maker
counts_whole : (r : TcpRecord) → used_by r.maker r ≡ held_in r.streams
counts_whole r = ap (λ (b : Bool). cond b (held_in r.streams) 0) (eq-eqb r.maker r.maker refl)

-- another state of a record of the same maker: the others hold as much as before
pub others_same : (rs : List Record) (place : ℕ) (r now : TcpRecord) → tcp2_at rs place ≡ Some r → now.maker ≡ r.maker → used r.maker (tcp2_put rs place now) - held_in now.streams ≡ used r.maker rs - held_in r.streams
others_same rs place r now e same =
    let it = in_list rs place r e in
    let put = used_put r.maker rs place (Tcp now) it.0 in
    let was : used_in r.maker (item_at rs place) ≡ held_in r.streams = ap (used_in r.maker) it.1 ∙ counts_whole r in
    let is : used_by r.maker now ≡ held_in now.streams = ap (λ (c : ℕ). used_by c now) (sym same) ∙ counts_whole now in
    omega (arith, put, was, is)

-- what may be permitted to a writer is left to it, whatever it is
pub may_permit : (h : Here) (place : ℕ) (r : TcpRecord) → Found h place r → (s : Streams) (w : WriteState) → most_of h.machine.store r ≤ left (put h place (with_writer r s w)).machine.store r.maker (held w)
may_permit h place r g s w =
    let same = others_same h.machine.store.records place r (with_writer r s w) g refl in
    let limit = limit_or (limit_in h.machine.store.limits r.maker) in
    omega (arith, same)
