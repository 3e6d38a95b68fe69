-- The network sockets that the records hold, where a TCP socket is replaced or comes.
use Rattle.std.proofs.Common.{◌≡◌, ℕ, zero, suc, ◌+◌, List, [], ◌∷◌, Some, refl, sym, ap, ◌∙◌, arith}
use Rattle.wasi_tcp.specs.Socket.{side_of}
use Rattle.wasi_records.specs.Records.{tcp2_put, tcp2_at, tcp2_pushed}
use Rattle.wasi_records.specs.declared.records.Record.{Record}
use Rattle.wasi_records.specs.declared.records.Record.TheVariants.{Tcp, Udp, Lookup, InputPipe, OutputPipe, Slot as SlotRecord, Gone}
use Rattle.tcp_records.specs.declared.socket.TcpRecord.{TcpRecord}
use Rattle.record_common.specs.Sides.{Weight, Tally}
use Rattle.tcp_records.specs.Sides.{holds}
use Rattle.wasi_records.specs.Sides.{held_in, held_by}
use Rattle.record_common.proofs.SideCounts.{same_tally}
use Rattle.tcp_records.proofs.SideCounts.{holds-same}

-- == a record that is replaced holds the same network sockets
same_in : (w : Weight) (rs : List Record) (i : ℕ) (r s : TcpRecord) → tcp2_at rs i ≡ Some r → holds s w ≡ holds r w → held_in (tcp2_put rs i s) w ≡ held_in rs w
same_in w [] i r s h e = refl
same_in w (Tcp x ∷ rs) zero r s h e = let k : x ≡ r = cc in ap (λ n. n + held_in rs w) (e ∙ ap (λ (y : TcpRecord). holds y w) (sym k))
same_in w (Udp u ∷ rs) zero r s h e = absurd (cc)
same_in w (Lookup l ∷ rs) zero r s h e = absurd (cc)
same_in w (InputPipe b ∷ rs) zero r s h e = absurd (cc)
same_in w (OutputPipe p ∷ rs) zero r s h e = absurd (cc)
same_in w (SlotRecord x ∷ rs) zero r s h e = absurd (cc)
same_in w (Gone ∷ rs) zero r s h e = absurd (cc)
same_in w (x ∷ rs) (suc i) r s h e = ap (λ n. held_by x w + n) (same_in w rs i r s h e)

pub held_in-same : (rs : List Record) (i : ℕ) (r s : TcpRecord) → tcp2_at rs i ≡ Some r → holds s ≡ holds r → held_in (tcp2_put rs i s) ≡ held_in rs
held_in-same rs i r s h e = same_tally (λ w. same_in w rs i r s h (ap (λ (held : Tally). held w) e))

pub held_in-set : (rs : List Record) (i : ℕ) (r s : TcpRecord) → tcp2_at rs i ≡ Some r → side_of s.inner ≡ side_of r.inner → s.listening ≡ r.listening → held_in (tcp2_put rs i s) ≡ held_in rs
held_in-set rs i r s h e l = held_in-same rs i r s h (holds-same r s e l)

pub held_in-append : (w : Weight) (rs : List Record) (r : TcpRecord) → held_in (tcp2_pushed rs r) w ≡ held_in rs w + holds r w
held_in-append w [] r = omega arith
held_in-append w (x ∷ rs) r = let h = held_in-append w rs r in omega arith
