-- The closings after the end mark.
use Rattle.std.proofs.Common.{append-nil, ◌≡◌, ◌∙◌, ap, sym, ℕ, ◌+◌, ◌<◌, ◌≤◌, ◌^◌, List, [], ◌∷◌, ◌++◌, length, length-append, append_assoc, Option, Some, None, inl, inr, true, subst, refl, arith}
use Rattle.std.specs.Prelude.{IfSome}
use Rattle.wasi_world.specs.declared.ids.OpId.{OpId}
use Rattle.wasi_world.specs.declared.call.Entry.{Entry}
use Rattle.wasi_world.specs.Closings.{Named, NoneNamed}
use Rattle.wasi_world.specs.Seen.{Seen}
use Rattle.wasi_tcp.specs.Socket.{side_of}
use Rattle.wasi_records.specs.declared.records.Record.{Record}
use Rattle.wasi_records.specs.declared.records.Record.TheVariants.{Tcp, Udp, Lookup, InputPipe, OutputPipe, Slot as SlotRecord, Gone}
use Rattle.udp_records.specs.declared.udp.UdpRecord.{UdpRecord}
use Rattle.udp_records.specs.declared.udp.UdpRecord.TheVariants.{Creating, Open, Closed}
use Rattle.record_common.specs.Sides.{Weight, Tally, each, only, no_socket, one_socket, tally, tally_all, made_in, closed_in}
use Rattle.wasi_records.specs.Sides.{held_by, held_in, ClosesAll}
use Rattle.wasi_records.specs.Closing.{AsksNothing, NamesThese, ClosesMore, ClosesSides, HasClosedEach}
use Rattle.tcp_records.specs.Listening.{side_in}
use Rattle.udp_records.specs.Udp.{udp_holds}
use Rattle.record_common.proofs.SideCounts.{same_tally}

pub quiet_again : {old mid new : Seen} → AsksNothing old mid → AsksNothing mid new → AsksNothing old new
quiet_again h k = record { log = k.log ∙ h.log; faults = k.faults ∙ h.faults; plan = k.plan ∙ h.plan }

-- == names
total-append : (w : Weight) (xs ys : List OpId) → tally_all (xs ++ ys) w ≡ tally_all xs w + tally_all ys w
total-append w [] ys = omega arith
total-append w (x ∷ xs) ys = let h = total-append w xs ys in omega arith

pub names_same : (o : Option (List OpId)) → NamesThese o no_socket o
names_same None = tt
names_same (Some names) = λ w. omega arith

pub names_one : (old new : Option (List OpId)) (sock : OpId) → Named old sock new → NamesThese old (one_socket sock) new
names_one None None sock h = tt
names_one None (Some new) sock (inl h) = absurd (cc)
names_one None (Some new) sock (inr h) = absurd (cc)
names_one (Some old) None sock h = tt
names_one (Some old) (Some new) sock (inl h) = absurd (cc)
names_one (Some old) (Some new) sock (inr h) =
    let same : new ≡ old ++ sock ∷ [] = cc in λ w. (let sum = total-append w old (sock ∷ []) in let all = ap (λ names. tally_all names w) same in omega arith)

pub names_then : (old mid new : Option (List OpId)) (a b : Tally) → NamesThese old a mid → NamesThese mid b new → NamesThese old (λ w. a w + b w) new
names_then None None None a b h k = tt
names_then None None (Some new) a b h k = absurd k
names_then None (Some mid) new a b h k = absurd h
names_then (Some old) None None a b h k = tt
names_then (Some old) None (Some new) a b h k = absurd k
names_then (Some old) (Some mid) None a b h k = tt
names_then (Some old) (Some mid) (Some new) a b h k = λ w. (let p = h w in let q = k w in omega arith)

-- == the network sockets of some records
held_in-append : (w : Weight) (xs ys : List Record) → held_in (xs ++ ys) w ≡ held_in xs w + held_in ys w
held_in-append w [] ys = omega arith
held_in-append w (x ∷ xs) ys = let h = held_in-append w xs ys in omega arith

some_or_none : (o : Option OpId) → tally o each ≤ 1
some_or_none None = omega arith
some_or_none (Some side) = omega arith

few_udp : (u : UdpRecord) → udp_holds u each ≤ 2
few_udp (Creating create) = omega arith
few_udp (Open o) = omega arith
few_udp (Closed side) = omega arith

-- a record holds two at most
few_by : (x : Record) → held_by x each ≤ 2
few_by (Tcp r) = let k = some_or_none (side_of r.inner) in let l = some_or_none (side_in r.listening) in omega arith
few_by (Udp u) = few_udp u
few_by (Lookup l) = omega arith
few_by (InputPipe bytes) = omega arith
few_by (OutputPipe pipe) = omega arith
few_by (SlotRecord s) = omega arith
few_by Gone = omega arith

few_held : (xs : List Record) → held_in xs each ≤ length xs + length xs
few_held [] = omega arith
few_held (x ∷ xs) = let h = few_held xs in let k = few_by x in omega arith

-- == closings
closes_more : {old mid new : Seen} {a b : Tally} → ClosesSides old mid a → ClosesMore mid new b → a each + b each < 2 ^ 64 → ClosesSides old new (λ w. a w + b w)
closes_more {old} {mid} {new} {a} {b} h d f = record {
  quiet = quiet_again h.quiet d.quiet;
  ended = d.ended;
  counted = λ z. (let e = h.counted z in d.counted (omega (arith, e, f)) ∙ ap (λ m. m + b each) e);
}

-- the network sockets of the first of these records were closed, and the rest is left
pub record ClosedFirst (old mid : Seen) (named now : Option (List OpId)) (all rest : List Record) : Type 0 where
  pub done : List Record
  pub split : all ≡ done ++ rest
  pub closed : ClosesSides old mid (held_in done)
  pub names : NamesThese named (held_in done) now

pub none_closed : (s : Seen) (named : Option (List OpId)) (all : List Record) → s.ended ≡ true → ClosedFirst s s named named all all
none_closed s named all ended = record {
  done = [];
  split = refl;
  closed = record { quiet = record { log = refl; faults = refl; plan = refl }; ended = ended; counted = λ z. z };
  names = names_same named;
}

pub next_closed : {old mid new : Seen} (named before now : Option (List OpId)) (all left rest : List Record) (x : Record) → length all < 2 ^ 63 → left ≡ x ∷ rest → ClosedFirst old mid named before all left → ClosesMore mid new (held_by x) → NamesThese before (held_by x) now → ClosedFirst old new named now all rest
next_closed {old} {mid} {new} named before now all left rest x short next c d names =
    let few = few_held c.done in
    let p = few_by x in
    let split : all ≡ c.done ++ x ∷ rest = c.split ∙ ap (λ (l : List Record). c.done ++ l) next in
    let long = ap length split ∙ length-append c.done (x ∷ rest) in
    let one : (w : Weight) → held_in c.done w + held_by x w ≡ held_in (c.done ++ x ∷ []) w = λ w. (let h = held_in-append w c.done (x ∷ []) in omega arith) in
    record {
      done = c.done ++ x ∷ [];
      split = split ∙ sym (append_assoc c.done (x ∷ []) rest);
      closed = subst (ClosesSides old new) (same_tally one) (closes_more c.closed d (omega (arith, few, p, long, short)));
      names = subst (λ socks. NamesThese named socks now) (same_tally one) (names_then named before now (held_in c.done) (held_by x) c.names names);
    }

-- all were closed
pub all_closed : {old mid : Seen} (named now : Option (List OpId)) (all : List Record) → ClosedFirst old mid named now all [] → ClosesSides old mid (held_in all) × NamesThese named (held_in all) now
all_closed {old} {mid} named now all c =
    let whole : c.done ≡ all = sym (c.split ∙ append-nil c.done) in
    (subst (λ (rs : List Record). ClosesSides old mid (held_in rs)) whole c.closed, subst (λ (rs : List Record). NamesThese named (held_in rs) now) whole c.names)

-- nothing is made where nothing is in the log
pub empty_known : (log : Option (List Entry)) (held : Tally) → IfSome log (λ log. log ≡ []) → held ≡ no_socket → IfSome log (λ log. (w : Weight) → closed_in log w + held w ≡ made_in log w)
empty_known None held h z = tt
empty_known (Some log) held h z = rw h (λ w. let none = ap (λ (t : Tally). t w) z in omega (arith, none))

-- == what is known at the end
all_named : (old new : Option (List OpId)) (socks : Tally) → NamesThese old socks new → NoneNamed old → IfSome new (λ names. (w : Weight) → tally_all names w ≡ socks w)
all_named old None socks h fresh = tt
all_named None (Some new) socks h fresh = absurd h
all_named (Some old) (Some new) socks h (inl none) = absurd (cc)
all_named (Some old) (Some new) socks h (inr some) = let empty : old ≡ [] = cc in λ w. (let before : tally_all old w ≡ 0 = ap (λ names. tally_all names w) empty in let k = h w in omega arith)

module _ (held : Tally) where
  abbrev Known : List Entry → Type 0
  Known log = (w : Weight) → closed_in log w + held w ≡ made_in log w

  all_counted : (log : Option (List Entry)) (count : ℕ) → IfSome log Known → count ≡ held each → IfSome log (λ log. closed_in log each + count ≡ made_in log each)
  all_counted None count known is = tt
  all_counted (Some log) count known is = let k = known each in omega arith

  each_named : (log : Option (List Entry)) (names : Option (List OpId)) → IfSome log Known → IfSome names (λ names. (w : Weight) → tally_all names w ≡ held w) → IfSome log (λ log. IfSome names (λ names. (sock : OpId) → closed_in log (only sock) + tally_all names (only sock) ≡ made_in log (only sock)))
  each_named None names known these = tt
  each_named (Some log) None known these = tt
  each_named (Some log) (Some names) known these = λ sock. (let k = known (only sock) in let n = these (only sock) in omega arith)

  -- all that were held were closed
  pub closes_all : {old marked new : Seen} → marked.log ≡ old.log → marked.closings ≡ old.closings → ClosesSides marked new held → IfSome old.log Known → ClosesAll old new
  closes_all {old} {marked} {new} log closings h known =
      let same : new.log ≡ old.log = h.quiet.log ∙ log in
      record {
        log = same;
        count = λ z. all_counted new.log new.closings (subst (λ log. IfSome log Known) (sym same) known) (h.counted (closings ∙ z));
      }

  pub closes_each : (old : Seen) {marked new : Seen} (start named : Option (List OpId)) → marked.log ≡ old.log → NoneNamed start → ClosesSides marked new held → NamesThese start held named → IfSome old.log Known → HasClosedEach new named
  closes_each old {marked} {new} start named log none h these known =
      record { named = each_named new.log named (subst (λ log. IfSome log Known) (sym (h.quiet.log ∙ log)) known) (all_named start named held these none) }
