-- Pairs that are served one after another, where those that are over are passed.
use Rattle.std.proofs.Common.{◌≡◌, ℕ, ◌+◌, ◌<◌, List, [], ◌∷◌, ◌++◌, length, get_or, set, drop, filter, refl, sym, ap, ◌∙◌, Result, Ok, Err, Bool, true, false, arith, subst, append_assoc, append-nil}
use Rattle.std.proofs.lemmas.List.{drop_more, length-append}
use Rattle.std.specs.Result.{IsErr}
use Rattle.wasi_world.specs.Seen.{Seen}
use Rattle.wasi_session.specs.declared.error.StepError.{StepError}
use Rattle.wasi_session.specs.State.{State}
use Rattle.wasi_relay.specs.declared.pair.Pair.{Pair}
use Rattle.wasi_relay.specs.declared.pair.Stage.{Stage}
use Rattle.wasi_relay.specs.declared.pair.Stage.TheVariants.{Connecting, Connected, Over}
use Rattle.wasi_relay.specs.declared.pair.Peer.{Peer}
use Rattle.wasi_relay.specs.Guest.{Guest, Part, give, ◌>>=◌}
use Rattle.wasi_relay.specs.Went.{Stands, Went, given}
use Rattle.wasi_relay.specs.Pair.{is_over, stage_is_over}
use Rattle.wasi_relay.specs.OpenPairs.{open_from, open_places, is_open_at}
use Rattle.wasi_relay.specs.Serving.{served, served_at, served_both, served_each, served_from, connected, over_at_end}
use Rattle.wasi_relay.proofs.OpenPairs.{one_more, StayOver, over_more, over_join, keeps}

-- == one pair, by its stage
pub at_connecting : {s t : State} (stage : Stage) (pair : Pair) (result : Result Pair StepError) → stage ≡ Connecting → Went (connected pair >>= over_at_end) s t result → Went (served_at stage pair) s t result
at_connecting stage pair result e h = rw e h

pub at_connected : {s t : State} (stage : Stage) (peer : Peer) (pair : Pair) (result : Result Pair StepError) → stage ≡ Connected peer → Went (served_both peer pair >>= over_at_end) s t result → Went (served_at stage pair) s t result
at_connected stage peer pair result e h = rw e h

-- == those that are over
gives_it : (stage : Stage) (pair : Pair) → stage_is_over stage ≡ true → served_at stage pair ≡ give pair
gives_it Over pair e = refl
gives_it Connecting pair e = absurd (cc)
gives_it (Connected peer) pair e = absurd (cc)

passed : (done : List Pair) (pair : Pair) (pairs : List Pair) → is_over pair ≡ true → served_from done (pair ∷ pairs) ≡ served_from (done ++ pair ∷ []) pairs
passed done pair pairs e = ap (λ (part : Part Pair). part >>= λ after. served_from (done ++ after ∷ []) pairs) (gives_it pair.stage pair e)

skips : (done : List Pair) (pair : Pair) (pairs : List Pair) → is_over pair ≡ true → open_from (length done) (pair ∷ pairs) ≡ open_from (length (done ++ pair ∷ [])) pairs
skips done pair pairs over = rw over (ap (λ n. open_from n pairs) (sym (one_more done pair)))

-- Behind those that are passed there is the first that isn't over.
record Reached (done pairs : List Pair) (place : ℕ) (rest : List ℕ) : Type 0 where
  skipped : List Pair
  pair : Pair
  later : List Pair
  are : pairs ≡ skipped ++ pair ∷ later
  there : place ≡ length (done ++ skipped)
  still : is_over pair ≡ false
  others : rest ≡ open_from (place + 1) later
  parts : served_from done pairs ≡ served_from (done ++ skipped) (pair ∷ later)

behind : (done : List Pair) (pair : Pair) (pairs : List Pair) (place : ℕ) (rest : List ℕ) → is_over pair ≡ true → Reached (done ++ pair ∷ []) pairs place rest → Reached done (pair ∷ pairs) place rest
behind done pair pairs place rest over r =
    let seam : (done ++ pair ∷ []) ++ r.skipped ≡ done ++ pair ∷ r.skipped = append_assoc done (pair ∷ []) r.skipped in
    record {
      skipped = pair ∷ r.skipped;
      pair = r.pair;
      later = r.later;
      are = ap (λ (ps : List Pair). pair ∷ ps) r.are;
      there = r.there ∙ ap length seam;
      still = r.still;
      others = r.others;
      parts = passed done pair pairs over ∙ r.parts ∙ ap (λ (ps : List Pair). served_from ps (r.pair ∷ r.later)) seam;
    }

here : (done : List Pair) (pair : Pair) (pairs : List Pair) (place : ℕ) (rest : List ℕ) → is_over pair ≡ false → place ∷ rest ≡ open_from (length done) (pair ∷ pairs) → Reached done (pair ∷ pairs) place rest
here done pair pairs place rest still e =
    let both : place ∷ rest ≡ length done ∷ open_from (length done + 1) pairs = e ∙ rw still refl in
    let same : place ≡ length done = cc in
    let others : rest ≡ open_from (length done + 1) pairs = cc in
    record {
      skipped = [];
      pair = pair;
      later = pairs;
      are = refl;
      there = same ∙ ap length (sym (append-nil done));
      still = still;
      others = others ∙ ap (λ n. open_from (n + 1) pairs) (sym same);
      parts = ap (λ (ps : List Pair). served_from ps (pair ∷ pairs)) (sym (append-nil done));
    }

reach : (done pairs : List Pair) (place : ℕ) (rest : List ℕ) → place ∷ rest ≡ open_from (length done) pairs → Reached done pairs place rest
reach done [] place rest e = absurd (cc)
reach done (pair ∷ pairs) place rest e = by_test (is_over pair) refl (λ over. reach (done ++ pair ∷ []) pairs place rest (e ∙ skips done pair pairs over))
  where
    by_test : (b : Bool) → is_over pair ≡ b → (is_over pair ≡ true → Reached (done ++ pair ∷ []) pairs place rest) → Reached done (pair ∷ pairs) place rest
    by_test true over on = behind done pair pairs place rest over (on over)
    by_test false still on = here done pair pairs place rest still e

-- none is left
pass_all : (done pairs : List Pair) → [] ≡ open_from (length done) pairs → served_from done pairs ≡ give (done ++ pairs)
pass_all done [] e = ap give (sym (append-nil done))
pass_all done (pair ∷ pairs) e = by_test (is_over pair) refl (λ over. pass_all (done ++ pair ∷ []) pairs (e ∙ skips done pair pairs over))
  where
    by_test : (b : Bool) → is_over pair ≡ b → (is_over pair ≡ true → served_from (done ++ pair ∷ []) pairs ≡ give ((done ++ pair ∷ []) ++ pairs)) → served_from done (pair ∷ pairs) ≡ give (done ++ pair ∷ pairs)
    by_test true over on = passed done pair pairs over ∙ on over ∙ ap give (append_assoc done (pair ∷ []) pairs)
    by_test false still on = absurd (let both : [] ≡ length done ∷ open_from (length done + 1) pairs = e ∙ rw still refl in cc)

-- == at the place behind a front
get_or_push_left : (front : List Pair) (pair : Pair) (later : List Pair) (d : Pair) → get_or (front ++ pair ∷ later) (length front) d ≡ pair
get_or_push_left [] pair later d = refl
get_or_push_left (x ∷ front) pair later d = get_or_push_left front pair later d

set_there : (front : List Pair) (pair after : Pair) (later : List Pair) → set (front ++ pair ∷ later) (length front) after ≡ (front ++ after ∷ []) ++ later
set_there [] pair after later = refl
set_there (x ∷ front) pair after later = ap (λ (ps : List Pair). x ∷ ps) (set_there front pair after later)

-- == each in order
-- Those of a front are served, and of the others these places aren't over.
pub record EachServed (before now : List Pair) (left : List ℕ) (old s : State) : Type 0 where
  pub done : List Pair
  pub of : List Pair
  pub pairs : List Pair
  pub are : now ≡ done ++ pairs
  pub were : before ≡ of ++ pairs
  pub over : StayOver of done
  pub places : left ≡ open_from (length done) pairs
  pub goes : (guest : Guest) (start : Seen) (next : List Pair → Guest) → Stands guest (served_each before next) start old → Stands guest (served_from done pairs next) start s
  pub contexts : s.contexts ≡ old.contexts

pub each_first : {s : State} (pairs : List Pair) (places : List ℕ) → places ≡ open_places pairs → EachServed pairs pairs places s s
each_first pairs places e = record { done = []; of = []; pairs = pairs; are = refl; were = refl; over = tt; places = e; goes = λ guest start next h. h; contexts = refl }

pub each_keeps : {before now : List Pair} {left : List ℕ} {old s : State} → EachServed before now left old s → filter (is_open_at now) (open_places before) ≡ open_places now
each_keeps {before} {now} each = keeps before now (rw (each.are, each.were) (over_join each.of each.done each.pairs each.over))

pub each_last : {before now : List Pair} {left : List ℕ} {old s : State} → left ≡ [] → EachServed before now left old s → Went (served_each before) old s (Ok now)
each_last {before} {now} {left} {old} {s} none each = record {
  goes = λ guest start next st. subst (λ (part : Part (List Pair)). Stands guest (part next) start s) (pass_all each.done each.pairs (sym none ∙ each.places) ∙ ap give (sym each.are)) (each.goes guest start next st);
  contexts = each.contexts;
}

-- The first of these places, where a pair stands that isn't over.
pub record AtPlace (before now : List Pair) (place : ℕ) (rest : List ℕ) (old s : State) : Type 0 where
  front : List Pair
  of : List Pair
  pair : Pair
  later : List Pair
  are : now ≡ front ++ pair ∷ later
  were : before ≡ of ++ pair ∷ later
  there : place ≡ length front
  still : is_over pair ≡ false
  over : StayOver of front
  others : rest ≡ open_from (place + 1) later
  goes : (guest : Guest) (start : Seen) (next : List Pair → Guest) → Stands guest (served_each before next) start old → Stands guest ((served pair >>= λ after. served_from (front ++ after ∷ []) later) next) start s
  contexts : s.contexts ≡ old.contexts

at_place : {before now : List Pair} {place : ℕ} {rest : List ℕ} {old s : State} → EachServed before now (place ∷ rest) old s → AtPlace before now place rest old s
at_place {before} {now} {place} {rest} {old} {s} each =
    let r : Reached each.done each.pairs place rest = reach each.done each.pairs place rest each.places in
    record {
      front = each.done ++ r.skipped;
      of = each.of ++ r.skipped;
      pair = r.pair;
      later = r.later;
      are = each.are ∙ ap (λ (ps : List Pair). each.done ++ ps) r.are ∙ sym (append_assoc each.done r.skipped (r.pair ∷ r.later));
      were = each.were ∙ ap (λ (ps : List Pair). each.of ++ ps) r.are ∙ sym (append_assoc each.of r.skipped (r.pair ∷ r.later));
      there = r.there;
      still = r.still;
      over = over_join each.of each.done r.skipped each.over;
      others = r.others;
      goes = λ guest start next st. subst (λ (part : Part (List Pair)). Stands guest (part next) start s) r.parts (each.goes guest start next st);
      contexts = each.contexts;
    }

module _ {before now : List Pair} {place : ℕ} {rest : List ℕ} {old s : State} (at : AtPlace before now place rest old s) where
  is_within : place < length now
  is_within =
      let n : length now ≡ length at.front + length (at.pair ∷ at.later) = ap length at.are ∙ length-append at.front (at.pair ∷ at.later) in
      let t : place ≡ length at.front = at.there in
      omega (arith, n, t)

  pub it_is : (d : Pair) → get_or now place d ≡ at.pair
  it_is d = ap (λ (ps : List Pair). get_or ps place d) at.are ∙ ap (λ n. get_or (at.front ++ at.pair ∷ at.later) n d) at.there ∙ get_or_push_left at.front at.pair at.later d

  put_there : (after : Pair) → set now place after ≡ (at.front ++ after ∷ []) ++ at.later
  put_there after = ap (λ (ps : List Pair). set ps place after) at.are ∙ ap (λ n. set (at.front ++ at.pair ∷ at.later) n after) at.there ∙ set_there at.front at.pair after at.later

  pub each_next : {t : State} (after : Pair) → Went (served at.pair) s t (Ok after) → EachServed before (set now place after) rest old t
  each_next {t} after went = record {
    done = at.front ++ after ∷ [];
    of = at.of ++ at.pair ∷ [];
    pairs = at.later;
    are = put_there after;
    were = at.were ∙ sym (append_assoc at.of (at.pair ∷ []) at.later);
    over = over_more at.of at.front at.pair after at.still at.over;
    places = at.others ∙ ap (λ n. open_from n at.later) (ap (λ n. n + 1) at.there ∙ sym (one_more at.front after));
    goes = λ guest start next st. went.goes guest start (λ a. served_from (at.front ++ a ∷ []) at.later next) (at.goes guest start next st);
    contexts = rw went.contexts at.contexts;
  }

  pub each_stops : {T : Type 0} {t : State} {error : StepError} (pairs : List Pair) (result : Result T StepError) → IsErr result → Went (served at.pair) s t (Err error) → Went (served_each before) old t (given pairs result)
  each_stops pairs (Ok done) is went = absurd (cc)
  each_stops pairs (Err err) is went = record {
    goes = λ guest start next st. went.goes guest start (λ a. served_from (at.front ++ a ∷ []) at.later next) (at.goes guest start next st);
    contexts = rw went.contexts at.contexts;
  }

-- at one of the places
pub reached : {before now : List Pair} {old s : State} (places : List ℕ) (k : ℕ) → k < length places → EachServed before now (drop k places) old s → AtPlace before now (get_or places k 0) (drop (k + 1) places) old s
reached {before} {now} {old} {s} places k h each = at_place (subst (λ left. EachServed before now left old s) (drop_more places k 0 h) each)

pub within : {before now : List Pair} {old s : State} (places : List ℕ) (k : ℕ) → k < length places → EachServed before now (drop k places) old s → get_or places k 0 < length now
within places k h each = is_within (reached places k h each)
