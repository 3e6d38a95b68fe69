-- The network sockets of the records, where a TCP socket was polled.
use Rattle.std.proofs.Common.{◌≡◌, ℕ, zero, suc, ◌+◌, List, [], ◌∷◌, Some, ap, arith}
use Rattle.wasi_records.specs.Records.{tcp2_at, tcp2_put}
use Rattle.wasi_records.specs.declared.records.Record.{Record}
use Rattle.wasi_records.specs.declared.records.Record.TheVariants.{Tcp, Udp, Lookup, InputPipe, OutputPipe, Slot as SlotRecord, Gone}
use Rattle.tcp_records.specs.declared.socket.TcpRecord.{TcpRecord}
use Rattle.record_common.specs.Sides.{Weight}
use Rattle.tcp_records.specs.Sides.{holds}
use Rattle.wasi_records.specs.Sides.{held_in}

-- == the records, where one of them was polled
pub held_in-swap : (w : Weight) (rs : List Record) (i : ℕ) (old now : TcpRecord) → tcp2_at rs i ≡ Some old → held_in (tcp2_put rs i now) w + holds old w ≡ held_in rs w + holds now w
held_in-swap w [] i old now h = absurd (cc)
held_in-swap w (Tcp x ∷ rs) zero old now h = let k : x ≡ old = cc in let p = ap (λ (r : TcpRecord). holds r w) k in omega arith
held_in-swap w (Udp u ∷ rs) zero r s h = absurd (cc)
held_in-swap w (Lookup l ∷ rs) zero r s h = absurd (cc)
held_in-swap w (InputPipe b ∷ rs) zero r s h = absurd (cc)
held_in-swap w (OutputPipe p ∷ rs) zero r s h = absurd (cc)
held_in-swap w (SlotRecord x ∷ rs) zero r s h = absurd (cc)
held_in-swap w (Gone ∷ rs) zero r s h = absurd (cc)
held_in-swap w (x ∷ rs) (suc i) old now h = let p = held_in-swap w rs i old now h in omega arith
