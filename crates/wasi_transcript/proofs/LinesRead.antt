-- How a reader goes from one line of a source to the next.
use Rattle.std.proofs.Common.{◌≡◌, ◌∙◌, ap, sym, refl, ℕ, ◌+◌, ◌-◌, ◌≤◌, false, List, [], ◌++◌, length, take, Ok, Err, append-nil, append_assoc, length-append, add-zero, arith}
use Rattle.std.proofs.Math.Seq.{take-append-add, take-nil}
use Rattle.std.proofs.lemmas.List.{take_all}
use Rattle.std.specs.declared.alloc.AllocError.{AllocError}
use Rattle.world_io.specs.Io.{Reading, Gave}
use Rattle.world_text.specs.Lines.{lines_of, rest_of, lines_from, rest_from}
use Rattle.world_text.proofs.LinesOf.{lines-append, rest-append}
use Rattle.world_io.proofs.Gave.{gave_again, gave_none}
use Rattle.wasi_transcript.specs.declared.lines.Piece.TheVariants as piece
use Rattle.wasi_transcript.specs.Reading.{Held, with_more, Reads, TakesLine, ReadsPiece}

-- Since the reading of a line began these bytes were read, and the line so far is a prefix of what is to be given.
pub record Going (s_old s_now : Reading) (old now : Held) (front : List ℕ) : Type 0 where
  pub more : List ℕ
  pub gave : Gave s_old more s_now
  pub taken : now.taken ≡ old.taken + length more
  pub limit : now.limit ≡ old.limit
  pub faults : s_now.faults ≡ s_old.faults
  pub lines : lines_of (with_more old more) ≡ lines_from front now.held
  pub rest : rest_of (with_more old more) ≡ rest_from front now.held
  pub fits : length now.held ≤ length (with_more old more)

nothing_more : (old : Held) → with_more old [] ≡ old.held
nothing_more old = ap (λ t. old.held ++ t) (take-nil (old.limit - old.taken)) ∙ append-nil old.held

pub going_start : (s : Reading) (old : Held) → Going s s old old []
going_start s old = record {
  more = [];
  gave = gave_none {old = s} {new = s} refl;
  taken = sym (add-zero old.taken);
  limit = refl;
  faults = refl;
  lines = ap lines_of (nothing_more old);
  rest = ap rest_of (nothing_more old);
  fits = (let e = ap length (nothing_more old) in omega (arith, e));
}

module _ {s_old s_now : Reading} {old now mid : Held} {front line : List ℕ} where
  -- no newline was held
  pub going_front : Going s_old s_now old now front → mid.limit ≡ now.limit → mid.taken ≡ now.taken → TakesLine now mid front line false → Going s_old s_now old mid line
  going_front h l t k = record {
    more = h.more;
    gave = h.gave;
    taken = t ∙ h.taken;
    limit = l ∙ h.limit;
    faults = h.faults;
    lines = h.lines ∙ k.0 ∙ ap (lines_from line) (sym k.2);
    rest = h.rest ∙ k.1 ∙ ap (rest_from line) (sym k.2);
    fits = (let e = ap length k.2 in omega (arith, e));
  }

-- the bytes after one more read
more_is : (old : Held) (xs ys : List ℕ) → old.taken + length xs ≤ old.limit → with_more old (xs ++ ys) ≡ with_more old xs ++ take (old.limit - (old.taken + length xs)) ys
more_is old xs ys h =
    let left = old.limit - (old.taken + length xs) in
    let e : old.limit - old.taken ≡ length xs + left = omega arith in
    let all : length xs ≤ old.limit - old.taken = omega arith in
    ap (λ t. old.held ++ t) (ap (λ n. take n (xs ++ ys)) e ∙ take-append-add xs ys left ∙ ap (λ t. t ++ take left ys) (sym (take_all (old.limit - old.taken) xs all)))
    ∙ sym (append_assoc old.held (take (old.limit - old.taken) xs) (take left ys))

module _ {s_old s_now : Reading} {old now : Held} {front : List ℕ} where
  -- nothing is held, and the line so far is what follows the last newline
  no_lines : (h : Going s_old s_now old now front) → now.held ≡ [] → lines_of (with_more old h.more) ≡ []
  no_lines h none = h.lines ∙ ap (lines_from front) none

  rest_is : (h : Going s_old s_now old now front) → now.held ≡ [] → rest_of (with_more old h.more) ≡ front
  rest_is h none = h.rest ∙ ap (rest_from front) none

module _ {s_old s_now s_new : Reading} {old now new : Held} {front : List ℕ} where
  -- one more read
  pub going_on : Going s_old s_now old now front → now.held ≡ [] → now.taken ≤ now.limit → ReadsPiece s_now s_new now new (Ok piece.Some) → Going s_old s_new old new front
  going_on h none room k =
      let bytes = with_more old h.more in
      let piece = take (old.limit - (old.taken + length h.more)) k.more in
      let at : now.limit - now.taken ≡ old.limit - (old.taken + length h.more) = omega (arith, h.limit, h.taken) in
      let held : new.held ≡ piece = k.found.0 ∙ ap (λ n. take n k.more) at in
      let all = more_is old h.more k.more (omega (arith, room, h.limit, h.taken)) in record {
        more = h.more ++ k.more;
        gave = gave_again h.gave k.gave;
        taken = omega (arith, k.taken, h.taken, length-append h.more k.more);
        limit = k.limit ∙ h.limit;
        faults = k.found.2 ∙ h.faults;
        lines = ap lines_of all ∙ lines-append [] bytes piece ∙ ap (λ ls. ls ++ lines_from (rest_of bytes) piece) (no_lines h none) ∙ ap (λ r. lines_from r piece) (rest_is h none) ∙ ap (lines_from front) (sym held);
        rest = ap rest_of all ∙ rest-append [] bytes piece ∙ ap (λ r. rest_from r piece) (rest_is h none) ∙ ap (rest_from front) (sym held);
        fits = (let e = ap length held in let f = ap length all in omega (arith, e, f, length-append bytes piece));
      }

  -- memory ran out
  pub starved_reading : (e : AllocError) → Going s_old s_now old now front → ReadsPiece s_now s_new now new (Err e) → Reads s_old s_new old new front (Err e)
  starved_reading e h k = record {
    more = h.more ++ k.more;
    gave = gave_again h.gave k.gave;
    taken = omega (arith, k.taken, h.taken, length-append h.more k.more);
    limit = k.limit ∙ h.limit;
    within = k.within;
    found = tt;
  }
