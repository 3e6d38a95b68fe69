-- Look-ups in the store.
use Rattle.std.proofs.Common.{◌≡◌, ℕ, zero, suc, List, [], ◌∷◌, Some, None, refl, sym, ap}
use Rattle.wasi_records.specs.declared.records.Record.{Record}
use Rattle.wasi_records.specs.declared.records.Record.TheVariants.{Tcp, Udp, Lookup, InputPipe, OutputPipe, Slot as SlotRecord, Gone}
use Rattle.tcp_records.specs.declared.socket.TcpRecord.{TcpRecord}
use Rattle.wasi_records.specs.Records.{tcp2_at, tcp2_put}
use Rattle.std.specs.Borrow.{Bor, MutBor}

-- what is lent, by its number
pub found_at : (xs : List Record) (i : ℕ) (x : MutBor TcpRecord) → Some x.now ≡ tcp2_at xs i → tcp2_at xs i ≡ Some x.now
found_at xs i x h = sym h

pub none_at : (xs : List Record) (i : ℕ) → None ≡ tcp2_at xs i → tcp2_at xs i ≡ None
none_at xs i h = sym h

-- and it is given back as it was
pub set_back : (xs : List Record) (i : ℕ) (x : MutBor TcpRecord) → Some x.now ≡ tcp2_at xs i → tcp2_put xs i x.now ≡ xs
set_back xs i x h = put_same xs i x.now (sym h)
  where
    put_same : (ys : List Record) (k : ℕ) (r : TcpRecord) → tcp2_at ys k ≡ Some r → tcp2_put ys k r ≡ ys
    put_same [] k r e = absurd (cc)
    put_same (Tcp y ∷ ys) zero r e = cc
    put_same (Udp u ∷ ys) zero r e = absurd (cc)
    put_same (Lookup l ∷ ys) zero r e = absurd (cc)
    put_same (InputPipe b ∷ ys) zero r e = absurd (cc)
    put_same (OutputPipe p ∷ ys) zero r e = absurd (cc)
    put_same (SlotRecord s ∷ ys) zero r e = absurd (cc)
    put_same (Gone ∷ ys) zero r e = absurd (cc)
    put_same (y ∷ ys) (suc k) r e = ap (λ (l : List Record). y ∷ l) (put_same ys k r e)

-- what was put is there
pub set_there : (xs : List Record) (i : ℕ) (now old : TcpRecord) → tcp2_at xs i ≡ Some old → tcp2_at (tcp2_put xs i now) i ≡ Some now
set_there [] i now old h = absurd (cc)
set_there (x ∷ xs) zero now old h = refl
set_there (x ∷ xs) (suc i) now old h = set_there xs i now old h

-- and what is lent to be read
pub got_at : (xs : List Record) (i : ℕ) (x : Bor TcpRecord) → Some x.now ≡ tcp2_at xs i → tcp2_at xs i ≡ Some x.now
got_at xs i x h = sym h

pub not_got : (xs : List Record) (i : ℕ) → None ≡ tcp2_at xs i → tcp2_at xs i ≡ None
not_got xs i h = sym h
