-- A call of a stream that blocks leaves pending what was, unless it is pending itself.
use Rattle.wasi_causes.proofs.Words.{◌≡◌, ◌∙◌, ◌==◌, ℕ, zero, suc, Bool, true, false, if◌then◌else◌, List, [], ◌∷◌, Result, Ok, Err, Pending, Ready, refl, ap, ⊤, CallStop, Entry, Machine, length, own_of}
use Rattle.std.specs.Prelude.{drop, min, take}
use Rattle.wasi_world.specs.declared.ids.Ids.{Ids}
use Rattle.host_store.specs.declared.store.BlockingCall.TheVariants as blocking
use Rattle.host_streams.specs.Blocking.{Again, Blocked, waits_as, blocking_flush_asks, blocking_read_asks, blocking_skip_asks, blocking_splice_asks, blocking_splice_when, finish_flushed, finish_write_asks, flush_begun, flush_checked, last_check_asks, last_checked, read_answer, read_looked, round_checked, round_written, skip_answer, skip_looked, splice_count, splice_given, splice_looked, splice_permitted, splice_written, write_ended, write_rounds}
use Rattle.host_store.specs.CallStops.{Closed, Failed, Traps as TrapsBy}
use Rattle.host_store.specs.Kinds.{is_readable, is_writable}
use Rattle.host_streams.specs.StreamCalls.{counted}
use Rattle.wasi_causes.proofs.Words.{kind_at, NoSuchHandle}
use Rattle.wasi_causes.proofs.streams.Kept.{Kept, checks_keep, flushes_keep, reads_keep, writes_keep}
use Rattle.wasi_causes.proofs.streams.Looks.{LookFacts, look_facts}
use Rattle.wasi_causes.proofs.tables.Meets.{Meets, Rows, chain, ends, onto, shifted, widen}

-- the same is pending as in this machine
abbrev Same : Machine → Machine → Type 0
Same m now = now.store.standing ≡ m.store.standing

abbrev pub Settled : {A : Type 0} → Machine → Rows (Blocked A)
Settled m es (Ok Pending, after) = ⊤
Settled m es (Ok (Ready value), after) = Same m after
Settled m es (Err why, after) = Same m after

same_of : {T : Type 0} (m mid : Machine) → Same m mid → (es : List Entry) (given : Result T CallStop) (after : Machine) → Kept mid es (given, after) → Same m after
same_of m mid before es (Ok value) after k = k.0.standing ∙ before
same_of m mid before es (Err Closed) after k = k.0.standing ∙ before
same_of m mid before es (Err (Failed code handle)) after k = k.standing ∙ before
same_of m mid before es (Err (TrapsBy kind)) after k = k.standing ∙ before

module _ (m : Machine) (ids : Ids) where
  -- a look leaves the machine
  look_same : (mid : Machine) → Same m mid → (h : ℕ) (es : List Entry) (given : Result Bool CallStop) (now : Machine) → LookFacts mid (own_of ids.line) h es (given, now) → Same m now
  look_same mid before h es (Ok b) now k = ap (λ (x : Machine). x.store.standing) k.1 ∙ before
  look_same mid before h es (Err (TrapsBy NoSuchHandle)) now k = ap (λ (x : Machine). x.store.standing) k.2 ∙ before
  look_same mid before h es (Err _) now k = absurd k

  -- == a read, and a skip
  module _ (input len : ℕ) where
    read_settled : (es : List Entry) (given : Result (List ℕ) CallStop) (after : Machine) → Same m after → Settled m es (read_answer ids input len (given, after))
    read_settled es (Ok []) after same = by_zero (len == 0)
      where
        by_zero : (b : Bool) → Settled {A = List ℕ} m es (if b then (Ok (Ready []), after) else waits_as ids (blocking.Read input len) after)
        by_zero true = same
        by_zero false = tt
    read_settled es (Ok (b ∷ bytes)) after same = same
    read_settled es (Err why) after same = same

    skip_settled : (es : List Entry) (given : Result (List ℕ) CallStop) (after : Machine) → Same m after → Settled m es (skip_answer ids input len (counted (given, after)))
    skip_settled es (Ok []) after same = by_zero (len == 0)
      where
        by_zero : (b : Bool) → Settled {A = ℕ} m es (if b then (Ok (Ready 0), after) else waits_as ids (blocking.Skip input len) after)
        by_zero true = same
        by_zero false = tt
    skip_settled es (Ok (b ∷ bytes)) after same = same
    skip_settled es (Err why) after same = same

    read_looks : (es : List Entry) (given : Result Bool CallStop) (now : Machine) → Same m now → Meets (Settled m) es (read_looked ids input len (given, now))
    read_looks es (Ok true) now same = onto _ (widen (λ fs done a. read_settled fs done.0 done.1 (same_of m now same a.rest done.0 done.1 a.row)) (shifted es (reads_keep now (own_of ids.line) input len)))
    read_looks es (Ok false) now same = ends tt
    read_looks es (Err why) now same = ends same

    skip_looks : (es : List Entry) (given : Result Bool CallStop) (now : Machine) → Same m now → Meets (Settled m) es (skip_looked ids input len (given, now))
    skip_looks es (Ok true) now same = onto _ (onto _ (widen (λ fs done a. skip_settled fs done.0 done.1 (same_of m now same a.rest done.0 done.1 a.row)) (shifted es (reads_keep now (own_of ids.line) input len))))
    skip_looks es (Ok false) now same = ends tt
    skip_looks es (Err why) now same = ends same

    pub reads_settle : Meets (Settled m) [] (blocking_read_asks m ids input len)
    reads_settle = chain (look_facts m (own_of ids.line) input) (λ es done k. read_looks es done.0 done.1 (look_same m refl input es done.0 done.1 k))

    pub skips_settle : Meets (Settled m) [] (blocking_skip_asks m ids input len)
    skips_settle = chain (look_facts m (own_of ids.line) input) (λ es done k. skip_looks es done.0 done.1 (look_same m refl input es done.0 done.1 k))

  -- == on an output
  module _ (output : ℕ) where
    ended_settled : (es : List Entry) (why : CallStop) (after : Machine) → Same m after → Settled m es (write_ended why after)
    ended_settled es Closed after same = same
    ended_settled es (Failed code handle) after same = same
    ended_settled es (TrapsBy kind) after same = same

    last_settled : (es : List Entry) (given : Result ℕ CallStop) (after : Machine) → Same m after → Settled m es (last_checked ids output (given, after))
    last_settled es (Ok zero) after same = tt
    last_settled es (Ok (suc n)) after same = same
    last_settled es (Err why) after same = ended_settled es why after same

    lasts_from : (es : List Entry) (mid : Machine) → Same m mid → Meets (Settled m) es (last_check_asks mid ids output)
    lasts_from es mid before = onto _ (widen (λ fs done a. last_settled fs done.0 done.1 (same_of m mid before a.rest done.0 done.1 a.row)) (shifted es (checks_keep mid (own_of ids.line) output)))

    pub lasts_settle : Meets (Settled m) [] (last_check_asks m ids output)
    lasts_settle = lasts_from [] m refl

    finish_settled : (es : List Entry) (given : Result (Unit {0}) CallStop) (after : Machine) → Same m after → Meets (Settled m) es (finish_flushed ids output (given, after))
    finish_settled es (Ok done) after same = lasts_from es after same
    finish_settled es (Err why) after same = ends (ended_settled es why after same)

    finishes_from : (es : List Entry) (mid : Machine) → Same m mid → Meets (Settled m) es (finish_write_asks mid ids output)
    finishes_from es mid before = chain (shifted es (flushes_keep mid (own_of ids.line) output)) (λ fs done a. finish_settled fs done.0 done.1 (same_of m mid before a.rest done.0 done.1 a.row))

    flush_settled : (es : List Entry) (given : Result ℕ CallStop) (after : Machine) → Same m after → Settled m es (flush_checked ids output (given, after))
    flush_settled es (Ok zero) after same = tt
    flush_settled es (Ok (suc n)) after same = same
    flush_settled es (Err why) after same = same

    begun_settled : (es : List Entry) (given : Result (Unit {0}) CallStop) (after : Machine) → Same m after → Meets (Settled m) es (flush_begun ids output (given, after))
    begun_settled es (Ok done) after same = onto _ (widen (λ fs d a. flush_settled fs d.0 d.1 (same_of m after same a.rest d.0 d.1 a.row)) (shifted es (checks_keep after (own_of ids.line) output)))
    begun_settled es (Err why) after same = ends same

    pub flushes_settle : Meets (Settled m) [] (blocking_flush_asks m ids output)
    flushes_settle = chain (flushes_keep m (own_of ids.line) output) (λ es done k. begun_settled es done.0 done.1 (same_of m m refl es done.0 done.1 k))

    -- each round
    abbrev Rounds : Again → Type 0
    Rounds again = (mid : Machine) → Same m mid → (rest : List ℕ) (es : List Entry) → Meets (Settled m) es (again mid rest)

    module _ (again : Again) (goes : Rounds again) where
      by_rest : (es : List Entry) (left : List ℕ) (given : Result (Unit {0}) CallStop) (after : Machine) → Same m after → Meets (Settled m) es (round_written ids output again left (given, after))
      by_rest es left (Err why) after same = ends same
      by_rest es [] (Ok done) after same = finishes_from es after same
      by_rest es (b ∷ more) (Ok done) after same = goes after same (b ∷ more) es

      by_check : (es : List Entry) (rest : List ℕ) (given : Result ℕ CallStop) (mid : Machine) → Same m mid → Meets (Settled m) es (round_checked ids output again rest (given, mid))
      by_check es rest (Ok zero) mid same = ends tt
      by_check es rest (Ok (suc n)) mid same = chain (shifted es (writes_keep mid (own_of ids.line) output (take (suc n) rest))) (λ fs done a. by_rest fs (drop (suc n) rest) done.0 done.1 (same_of m mid same a.rest done.0 done.1 a.row))
      by_check es rest (Err why) mid same = ends same

    pub rounds_settle : (k : ℕ) → Rounds (write_rounds k ids output)
    rounds_settle zero mid before rest es = ends tt
    rounds_settle (suc k) mid before rest es = chain (shifted es (checks_keep mid (own_of ids.line) output)) (λ fs done a. by_check (write_rounds k ids output) (rounds_settle k) fs rest done.0 done.1 (same_of m mid before a.rest done.0 done.1 a.row))

  -- == a splice
  module _ (to from len : ℕ) where
    written_settled : (n : ℕ) (es : List Entry) (given : Result (Unit {0}) CallStop) (after : Machine) → Same m after → Settled m es (splice_written n (given, after))
    written_settled n es (Ok done) after same = same
    written_settled n es (Err why) after same = same

    given_settled : (es : List Entry) (given : Result (List ℕ) CallStop) (after : Machine) → Same m after → Meets (Settled m) es (splice_given ids to from len (given, after))
    given_settled es (Ok []) after same = ends tt
    given_settled es (Ok (b ∷ bytes)) after same = onto _ (widen (λ fs done a. written_settled (length (b ∷ bytes)) fs done.0 done.1 (same_of m after same a.rest done.0 done.1 a.row)) (shifted es (writes_keep after (own_of ids.line) to (b ∷ bytes))))
    given_settled es (Err why) after same = ends same

    splice_looks : (count : ℕ) (es : List Entry) (given : Result Bool CallStop) (now : Machine) → Same m now → Meets (Settled m) es (splice_looked ids to from len count (given, now))
    splice_looks count es (Ok true) now same = chain (shifted es (reads_keep now (own_of ids.line) from count)) (λ fs done a. given_settled fs done.0 done.1 (same_of m now same a.rest done.0 done.1 a.row))
    splice_looks count es (Ok false) now same = ends tt
    splice_looks count es (Err why) now same = ends same

    counts : (count : ℕ) (es : List Entry) (mid : Machine) → Same m mid → Meets (Settled m) es (splice_count ids to from len mid count)
    counts zero es mid same = ends same
    counts (suc count) es mid same = chain (shifted es (look_facts mid (own_of ids.line) from)) (λ fs done a. splice_looks (suc count) fs done.0 done.1 (look_same mid same from a.rest done.0 done.1 a.row))

    permitted_settled : (es : List Entry) (given : Result ℕ CallStop) (mid : Machine) → Same m mid → Meets (Settled m) es (splice_permitted ids to from len (given, mid))
    permitted_settled es (Ok zero) mid same = ends tt
    permitted_settled es (Ok (suc n)) mid same = counts (min (suc n) len) es mid same
    permitted_settled es (Err why) mid same = ends same

    by_handles : (writes reads : Bool) → Meets (Settled m) [] (blocking_splice_when m ids to from len writes reads)
    by_handles true true = chain (checks_keep m (own_of ids.line) to) (λ es done k. permitted_settled es done.0 done.1 (same_of m m refl es done.0 done.1 k))
    by_handles true false = ends refl
    by_handles false reads = ends refl

    pub splices_settle : Meets (Settled m) [] (blocking_splice_asks m ids to from len)
    splices_settle = by_handles (is_writable (kind_at m.table to)) (is_readable (kind_at m.table from))
