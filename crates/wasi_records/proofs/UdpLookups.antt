-- Look-ups of UDP sockets in the store, and the network sockets of the records where one of them is replaced.
use Rattle.std.specs.Borrow.{Bor, MutBor}
use Rattle.std.proofs.Common.{◌≡◌, ℕ, zero, suc, ◌+◌, List, [], ◌∷◌, Option, Some, None, refl, sym, ap, arith}
use Rattle.wasi_records.specs.declared.records.Record.{Record}
use Rattle.wasi_records.specs.declared.records.Record.TheVariants.{Tcp, Udp, Lookup, InputPipe, OutputPipe, Slot as SlotRecord, Gone}
use Rattle.udp_records.specs.declared.udp.OpenUdp.{OpenUdp}
use Rattle.udp_records.specs.declared.udp.UdpRecord.{UdpRecord}
use Rattle.udp_records.specs.declared.udp.UdpRecord.TheVariants.{Creating, Open, Closed}
use Rattle.wasi_records.specs.Records.{udp2_at, udp2_put, udp2_pushed, open_at, open_put}
use Rattle.udp_records.specs.Udp.{open_of}
use Rattle.record_common.specs.Sides.{Weight}
use Rattle.wasi_records.specs.Sides.{held_in}
use Rattle.udp_records.specs.Udp.{udp_holds}
use Rattle.record_common.proofs.SideCounts.{same_tally}

-- == what is lent, by its number
pub udp_at : (xs : List Record) (i : ℕ) (x : MutBor UdpRecord) → Some x.now ≡ udp2_at xs i → udp2_at xs i ≡ Some x.now
udp_at xs i x h = sym h

pub no_udp : (xs : List Record) (i : ℕ) → None ≡ udp2_at xs i → udp2_at xs i ≡ None
no_udp xs i h = sym h

pub open_found : (xs : List Record) (i : ℕ) (x : MutBor OpenUdp) → Some x.now ≡ open_at xs i → open_at xs i ≡ Some x.now
open_found xs i x h = sym h

pub open_got : (xs : List Record) (i : ℕ) (x : Bor OpenUdp) → Some x.now ≡ open_at xs i → open_at xs i ≡ Some x.now
open_got xs i x h = sym h

pub not_open : (xs : List Record) (i : ℕ) → None ≡ open_at xs i → open_at xs i ≡ None
not_open xs i h = sym h

-- an open socket is a UDP socket
open_is : (u : Option UdpRecord) (o : OpenUdp) → open_of u ≡ Some o → u ≡ Some (Open o)
open_is None o h = absurd (cc)
open_is (Some (Creating create)) o h = absurd (cc)
open_is (Some (Open x)) o h = cc
open_is (Some (Closed side)) o h = absurd (cc)

pub open_there : (xs : List Record) (i : ℕ) (o : OpenUdp) → open_at xs i ≡ Some o → udp2_at xs i ≡ Some (Open o)
open_there xs i o h = open_is (udp2_at xs i) o h

-- == and it is given back as it was
pub udp_put_same : (xs : List Record) (i : ℕ) (u : UdpRecord) → udp2_at xs i ≡ Some u → udp2_put xs i u ≡ xs
udp_put_same [] i u h = absurd (cc)
udp_put_same (Tcp r ∷ xs) zero u h = absurd (cc)
udp_put_same (Lookup l ∷ xs) zero u h = absurd (cc)
udp_put_same (InputPipe b ∷ xs) zero u h = absurd (cc)
udp_put_same (OutputPipe p ∷ xs) zero u h = absurd (cc)
udp_put_same (SlotRecord s ∷ xs) zero u h = absurd (cc)
udp_put_same (Gone ∷ xs) zero u h = absurd (cc)
udp_put_same (Udp x ∷ xs) zero u h = cc
udp_put_same (x ∷ xs) (suc i) u h = ap (λ (l : List Record). x ∷ l) (udp_put_same xs i u h)

pub open_back : (xs : List Record) (i : ℕ) (x : MutBor OpenUdp) → Some x.now ≡ open_at xs i → open_put xs i x.now ≡ xs
open_back xs i x h = udp_put_same xs i (Open x.now) (open_there xs i x.now (sym h))

-- == and what it became is there
pub open_put_there : (xs : List Record) (i : ℕ) (now old : OpenUdp) → open_at xs i ≡ Some old → open_at (open_put xs i now) i ≡ Some now
open_put_there [] i now old h = absurd (cc)
open_put_there (x ∷ xs) zero now old h = refl
open_put_there (x ∷ xs) (suc i) now old h = open_put_there xs i now old h

-- == the network sockets of the records
pub held_in-udp_swap : (w : Weight) (rs : List Record) (i : ℕ) (old now : UdpRecord) → udp2_at rs i ≡ Some old → held_in (udp2_put rs i now) w + udp_holds old w ≡ held_in rs w + udp_holds now w
held_in-udp_swap w [] i old now h = absurd (cc)
held_in-udp_swap w (Tcp r ∷ rs) zero old now h = absurd (cc)
held_in-udp_swap w (Lookup l ∷ rs) zero old now h = absurd (cc)
held_in-udp_swap w (InputPipe b ∷ rs) zero old now h = absurd (cc)
held_in-udp_swap w (OutputPipe p ∷ rs) zero old now h = absurd (cc)
held_in-udp_swap w (SlotRecord s ∷ rs) zero old now h = absurd (cc)
held_in-udp_swap w (Gone ∷ rs) zero old now h = absurd (cc)
held_in-udp_swap w (Udp u ∷ rs) zero old now h = let k : u ≡ old = cc in let p = ap (λ (y : UdpRecord). udp_holds y w) k in omega arith
held_in-udp_swap w (x ∷ rs) (suc i) old now h = let p = held_in-udp_swap w rs i old now h in omega arith

-- an open socket holds its own, whatever it is in the middle of
open_in : (w : Weight) (rs : List Record) (i : ℕ) (old now : OpenUdp) → open_at rs i ≡ Some old → now.inner.side ≡ old.inner.side → held_in (open_put rs i now) w ≡ held_in rs w
open_in w rs i old now h same =
    let side : w now.inner.side ≡ w old.inner.side = ap w same in
    let p = held_in-udp_swap w rs i (Open old) (Open now) (open_there rs i old h) in omega arith

pub held_in-open : (rs : List Record) (i : ℕ) (old now : OpenUdp) → open_at rs i ≡ Some old → now.inner.side ≡ old.inner.side → held_in (open_put rs i now) ≡ held_in rs
held_in-open rs i old now h same = same_tally (λ w. open_in w rs i old now h same)

pub held_in-udp_more : (w : Weight) (rs : List Record) (u : UdpRecord) → held_in (udp2_pushed rs u) w ≡ held_in rs w + udp_holds u w
held_in-udp_more w [] u = omega arith
held_in-udp_more w (x ∷ rs) u = let h = held_in-udp_more w rs u in omega arith
