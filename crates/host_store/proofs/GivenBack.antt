-- Records that are given back: what they hold, and what their places hold then.
use Rattle.std.proofs.Common.{◌≡◌, ℕ, zero, suc, ◌+◌, List, [], ◌∷◌, Some, refl, ap, arith}
use Rattle.std.specs.Prelude.{slice_set}
use Rattle.wasi_records.specs.declared.records.Record.{Record}
use Rattle.wasi_records.specs.declared.records.Record.TheVariants.{Udp}
use Rattle.udp_records.specs.declared.udp.UdpRecord.{UdpRecord}
use Rattle.udp_records.specs.declared.udp.UdpRecord.TheVariants.{Closed}
use Rattle.wasi_records.specs.Numbered.{record_gone, item_at}
use Rattle.host_store.specs.GivingBack.{given_back}
use Rattle.wasi_records.specs.Records.{udp2_at}
use Rattle.record_common.specs.Sides.{Weight, Tally, no_socket}
use Rattle.wasi_records.specs.Sides.{held_by, held_in}
use Rattle.host_store.specs.Store.{Records}
use Rattle.udp_records.specs.Udp.{udp_holds, udp_side}
use Rattle.record_common.proofs.SideCounts.{same_tally}
use Rattle.wasi_records.proofs.UdpLookups.{held_in-udp_swap}

-- what is left of a record that goes holds none
pub held_gone : (w : Weight) (rs : List Record) (i : ℕ) → held_in (record_gone rs i) w + held_by (item_at rs i) w ≡ held_in rs w
held_gone w [] i = refl
held_gone w (x ∷ rs) zero = omega arith
held_gone w (x ∷ rs) (suc i) = let later = held_gone w rs i in omega arith

still_in : (w : Weight) (rs : List Record) (i : ℕ) → held_by (item_at rs i) w ≡ 0 → held_in (record_gone rs i) w ≡ held_in rs w
still_in w rs i none = let all = held_gone w rs i in omega arith

pub held_still : (rs : List Record) (i : ℕ) → held_by (item_at rs i) ≡ no_socket → held_in (record_gone rs i) ≡ held_in rs
held_still rs i none = same_tally (λ w. still_in w rs i (ap (λ (held : Tally). held w) none))

-- nothing is left of a record, whatever came in its place before
pub gone_put : (rs : List Record) (i : ℕ) (x : Record) → record_gone (slice_set rs i x) i ≡ record_gone rs i
gone_put [] i x = refl
gone_put (y ∷ rs) zero x = refl
gone_put (y ∷ rs) (suc i) x = ap (λ (l : List Record). y ∷ l) (gone_put rs i x)

pub given_back_put : (store : Records) (i : ℕ) (x : Record) → given_back i (record store { records = slice_set store.records i x }) ≡ given_back i store
given_back_put store i x = ap (λ (l : List Record). record (given_back i store) { records = l }) (gone_put store.records i x)

-- a record that holds none was put
pub put_none : (rs : List Record) (i : ℕ) (x : Record) → held_by x ≡ no_socket → held_by (item_at (slice_set rs i x) i) ≡ no_socket
put_none [] i x none = refl
put_none (y ∷ rs) zero x none = none
put_none (y ∷ rs) (suc i) x none = put_none rs i x none

-- what a record holds, where one that holds none came in its place
was_held : (w : Weight) (rs : List Record) (i : ℕ) (x : Record) (n : ℕ) → held_by x ≡ no_socket → held_in (slice_set rs i x) w + n ≡ held_in rs w → held_by (item_at rs i) w ≡ n
was_held w rs i x n none swapped =
    let before = held_gone w rs i in
    let after = held_gone w (slice_set rs i x) i in
    let now = ap (λ (held : Tally). held w) (put_none rs i x none) in
    let same : held_in (record_gone (slice_set rs i x) i) w ≡ held_in (record_gone rs i) w = ap (λ rs. held_in rs w) (gone_put rs i x) in omega arith

none_was : (w : Weight) (rs : List Record) (i : ℕ) (x : Record) → held_by x ≡ no_socket → held_in (slice_set rs i x) ≡ held_in rs → held_by (item_at rs i) w ≡ 0
none_was w rs i x none same = was_held w rs i x 0 none (let s = ap (λ (held : Tally). held w) same in omega arith)

pub was_none : (rs : List Record) (i : ℕ) (x : Record) → held_by x ≡ no_socket → held_in (slice_set rs i x) ≡ held_in rs → held_by (item_at rs i) ≡ no_socket
was_none rs i x none same = same_tally (λ w. none_was w rs i x none same)

pub held_udp : (w : Weight) (rs : List Record) (i : ℕ) (u : UdpRecord) → udp2_at rs i ≡ Some u → held_by (item_at rs i) w ≡ udp_holds u w
held_udp w rs i u found =
    let swap = held_in-udp_swap w rs i u (Closed (udp_side u)) found in was_held w rs i (Udp (Closed (udp_side u))) (udp_holds u w) refl (omega (arith, swap))

pub udp_held : (rs : List Record) (i : ℕ) (u : UdpRecord) → udp2_at rs i ≡ Some u → held_by (item_at rs i) ≡ udp_holds u
udp_held rs i u found = same_tally (λ w. held_udp w rs i u found)
