-- The end mark, and the closings after it.
use Rattle.std.specs.Prelude.{◌≡◌, ℕ, ◌+◌, ◌<◌, ◌^◌, List, [], ◌++◌, true, Option, Some, None, IfSome}
use Rattle.wasi_world.specs.declared.ids.OpId.{OpId}
use Rattle.wasi_world.specs.Seen.{Seen}
use Rattle.record_common.specs.Sides.{Tally, Weight, each, only, made_in, closed_in, tally_all}

-- From old on nothing was asked: the end mark and closings are no entries.
pub record AsksNothing (old new : Seen) : Type 0 where
  pub log : new.log ≡ old.log
  pub faults : new.faults ≡ old.faults
  pub plan : new.plan ≡ old.plan

-- The names that are known at the end, if any, are those before and these besides.
abbrev pub NamesThese : Option (List OpId) → Tally → Option (List OpId) → Type 0
NamesThese (Some old) socks (Some new) = (w : Weight) → tally_all new w ≡ tally_all old w + socks w
NamesThese None socks (Some new) = ⊥
NamesThese _ socks None = Unit {0}

-- After the end mark so many network sockets were closed, the first of all, and nothing else was done.
pub record ClosesSides (old new : Seen) (socks : Tally) : Type 0 where
  pub quiet : AsksNothing old new
  pub ended : new.ended ≡ true
  pub counted : old.closings ≡ 0 → new.closings ≡ socks each

-- So many more were closed after the end mark, as far as they can be counted, and nothing else was done.
pub record ClosesMore (old new : Seen) (socks : Tally) : Type 0 where
  pub quiet : AsksNothing old new
  pub ended : new.ended ≡ true
  pub counted : old.closings + socks each < 2 ^ 64 → new.closings ≡ old.closings + socks each

-- No call is in the log, where it is reported, and no closing was counted.
pub record IsFresh (seen : Seen) : Type 0 where
  pub log : IfSome seen.log (λ log. log ≡ [])
  pub closings : seen.closings ≡ 0

-- As many network sockets were closed after the end mark as the log made and didn't close, where it is reported.
pub record HasClosedAll (seen : Seen) : Type 0 where
  pub count : IfSome seen.log (λ log. closed_in log each + seen.closings ≡ made_in log each)

-- The names that were closed after the end mark, where they are kept, are just those that the log made and didn't close, each
-- as often: where each was made once, each is closed once.
pub record HasClosedEach (seen : Seen) (closed : Option (List OpId)) : Type 0 where
  pub named : IfSome seen.log (λ log. IfSome closed (λ names. (sock : OpId) → closed_in log (only sock) + tally_all names (only sock) ≡ made_in log (only sock)))
