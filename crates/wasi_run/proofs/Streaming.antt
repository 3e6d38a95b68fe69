-- The script so far, piece by piece.
use Rattle.wasi_run.proofs.Words.{◌≡◌, ◌≢◌, ◌∙◌, ap, sym, refl, ℕ, zero, suc, ◌+◌, ◌-◌, ◌<◌, ◌≤◌, ◌==◌, Bool, true, false, if◌then◌else◌, min, List, [], ◌∷◌, ◌++◌, length, take, Result, Ok, Err, length-append, length-take, arith, take_all, take-append-le, nil_from_length, nat_tests, WasiSocketsCtx, Seen, Reading, Writing, Gave, GaveSome, GaveNone, Machine, LinesEnd, RunError, BadStep, TooLong, ReadFault, first_state, lines_of, rest_of, lines_from, rest_from, after_lines, KeptOf, LinesRan, lines_then, lines_none, trap_then, lines-append, rest-append, count_lines}
use Rattle.std.proofs.Math.Seq.{take-append-add}
use Rattle.std.proofs.lemmas.List.{take-take, take_min}
use Rattle.wasi_run.specs.declared.lines.LinesEnd.TheVariants as lines
use Rattle.wasi_run.specs.declared.run.RunEnd.{RunEnd}
use Rattle.wasi_run.specs.declared.run.RunEnd.TheVariants as end
use Rattle.wasi_run.specs.Script.{Answers, RanOver}
use Rattle.world_io.proofs.Gave.{gave_again, gave_none, gave_end, gave_fault, fault_rose}

-- All whole lines of what was read were done, and the unfinished one is kept.
pub record Streaming (contexts : List WasiSocketsCtx) (limit : ℕ) (before now : Reading) (k_old k_now : Writing) (w_old w_now : Seen) (machine : Machine) (number taken : ℕ) (kept : List ℕ) : Type 0 where
  pub text : List ℕ
  pub gave : Gave before text now
  pub faults : now.faults ≡ before.faults
  pub ran : LinesRan contexts w_old w_now k_old k_now first_state 1 (lines_of (take limit text)) (Ok lines.AllDone) machine
  pub line : kept ≡ rest_of (take limit text)
  pub count : number ≡ length (lines_of (take limit text))
  pub so_far : taken ≡ length text
  pub within : taken ≤ limit + 1

-- what the code's piece has room for
more_fits : (limit len room count : ℕ) (text buffer piece : List ℕ) → room ≡ min (limit + 1 - len) 4096 → len ≡ length text → len < limit + 1 → count ≤ length (take room piece) → length (text ++ take count buffer) ≤ limit + 1
more_fits limit len room count text buffer piece e l h k = omega (arith, length-append text (take count buffer), length-take count buffer, length-take room piece, e, l, h, k)

has_room : (limit len room : ℕ) (piece : List ℕ) → room ≡ min (limit + 1 - len) 4096 → len < limit + 1 → length piece ≡ 4096 → 0 < length (take room piece)
has_room limit len room piece e h l = omega (arith, length-take room piece, e, h, l)

take_nil : (n : ℕ) → take {A = ℕ} n [] ≡ []
take_nil zero = refl
take_nil (suc n) = refl

pub stream_start : (contexts : List WasiSocketsCtx) (limit : ℕ) (reader : Reading) (k : Writing) (w : Seen) (first : Machine) (number : ℕ) → first ≡ first_state → number ≡ 0 → Streaming contexts limit reader reader k k w w first number 0 []
stream_start contexts limit reader k w first number e z = record {
  text = [];
  gave = gave_none {old = reader} {new = reader} refl;
  faults = refl;
  ran = rw (take_nil limit, e) (lines_none contexts w k first_state 1);
  line = rw (take_nil limit) refl;
  count = rw (take_nil limit) z;
  so_far = refl;
  within = omega arith;
}

pub few : {contexts : List WasiSocketsCtx} {limit : ℕ} {before now : Reading} {k_old k_now : Writing} {w_old w_now : Seen} {machine : Machine} {number taken : ℕ} {kept : List ℕ} → Streaming contexts limit before now k_old k_now w_old w_now machine number taken kept → number + length kept ≤ taken
few {limit} s = omega (arith, s.count, ap length s.line, count_lines [] (take limit s.text), length-take limit s.text, s.so_far)

-- the code's piece
pub piece_is : (taken limit count within : ℕ) (buffer rest : List ℕ) (size : ℕ) → within ≡ min count (limit - taken) → count ≤ size → length buffer ≡ size → take within (buffer ++ rest) ≡ take (limit - taken) (take count buffer)
piece_is taken limit count within buffer rest size e h l =
    let f : within ≤ length buffer = omega (arith, e, h, l) in
    let m : min (limit - taken) (length (take count buffer)) ≡ within = omega (arith, e, h, l, length-take count buffer) in
    take-append-le within buffer rest f ∙ (sym (take-take within count buffer (omega (arith, e))) ∙ (ap (λ n. take n (take count buffer)) (sym m) ∙ take_min (limit - taken) (take count buffer)))

more_text : (limit : ℕ) (text bytes : List ℕ) → length text ≤ limit → take limit (text ++ bytes) ≡ text ++ take (limit - length text) bytes
more_text limit text bytes h = let e : limit ≡ length text + (limit - length text) = omega arith in ap (λ n. take n (text ++ bytes)) e ∙ take-append-add text bytes (limit - length text)

more_lines : (limit : ℕ) (text bytes : List ℕ) → length text ≤ limit → lines_of (take limit (text ++ bytes)) ≡ lines_of (take limit text) ++ lines_from (rest_of (take limit text)) (take (limit - length text) bytes)
more_lines limit text bytes h =
    ap lines_of (more_text limit text bytes h) ∙ (lines-append [] text (take (limit - length text) bytes) ∙ ap (λ t. lines_of t ++ lines_from (rest_of t) (take (limit - length text) bytes)) (sym (take_all limit text h)))

more_rest : (limit : ℕ) (text bytes : List ℕ) → length text ≤ limit → rest_of (take limit (text ++ bytes)) ≡ rest_from (rest_of (take limit text)) (take (limit - length text) bytes)
more_rest limit text bytes h =
    ap rest_of (more_text limit text bytes h) ∙ (rest-append [] text (take (limit - length text) bytes) ∙ ap (λ t. rest_from (rest_of t) (take (limit - length text) bytes)) (sym (take_all limit text h)))

lines_are : {contexts : List WasiSocketsCtx} {limit : ℕ} {before now : Reading} {k_old k_now : Writing} {w_old w_now : Seen} {machine : Machine} {number taken : ℕ} {kept : List ℕ} (bytes within : List ℕ) → (s : Streaming contexts limit before now k_old k_now w_old w_now machine number taken kept) → within ≡ take (limit - taken) bytes → lines_from kept within ≡ lines_from (rest_of (take limit s.text)) (take (limit - length s.text) bytes)
lines_are {limit} {kept = kept} bytes within s e = ap (lines_from kept) e ∙ (ap (λ n. lines_from kept (take (limit - n) bytes)) s.so_far ∙ ap (λ f. lines_from f (take (limit - length s.text) bytes)) s.line)

number_next : (number n : ℕ) → number ≡ n → number + 1 ≡ 1 + n
number_next number n e = omega (arith, e)

text_within : {contexts : List WasiSocketsCtx} {limit : ℕ} {before now : Reading} {k_old k_now : Writing} {w_old w_now : Seen} {machine : Machine} {number taken : ℕ} {kept : List ℕ} → taken ≤ limit → (s : Streaming contexts limit before now k_old k_now w_old w_now machine number taken kept) → length s.text ≤ limit
text_within h s = omega (arith, h, s.so_far)

-- the piece in the text's own terms
at_text : {contexts : List WasiSocketsCtx} {limit : ℕ} {before now : Reading} {k_old k_now k_new : Writing} {w_old w_now w_new : Seen} {machine last : Machine} {number taken : ℕ} {kept : List ℕ} {outcome : Result LinesEnd RunError} (bytes within : List ℕ) → (s : Streaming contexts limit before now k_old k_now w_old w_now machine number taken kept) → within ≡ take (limit - taken) bytes → LinesRan contexts w_now w_new k_now k_new machine (number + 1) (lines_from kept within) outcome last → LinesRan contexts w_now w_new k_now k_new machine (1 + length (lines_of (take limit s.text))) (lines_from (rest_of (take limit s.text)) (take (limit - length s.text) bytes)) outcome last
at_text bytes within s e k = rw (lines_are bytes within s e, number_next _ _ s.count) at k

-- the text with a piece more
ran_more : {contexts : List WasiSocketsCtx} {limit : ℕ} {before now : Reading} {k_old k_now k_new : Writing} {w_old w_now w_new : Seen} {machine last : Machine} {number taken : ℕ} {kept : List ℕ} {outcome : Result LinesEnd RunError} (bytes within : List ℕ) → taken ≤ limit → (s : Streaming contexts limit before now k_old k_now w_old w_now machine number taken kept) → within ≡ take (limit - taken) bytes → LinesRan contexts w_now w_new k_now k_new machine (number + 1) (lines_from kept within) outcome last → LinesRan contexts w_old w_new k_old k_new first_state 1 (lines_of (take limit (s.text ++ bytes))) outcome last
ran_more {limit} bytes within h s e k = rw (more_lines limit s.text bytes (text_within h s)) (lines_then s.ran (at_text bytes within s e k))

trap_more : {contexts : List WasiSocketsCtx} {limit : ℕ} {before now : Reading} {k_old k_now k_new : Writing} {w_old w_now w_new : Seen} {machine last : Machine} {number taken : ℕ} {kept : List ℕ} (bytes within : List ℕ) → taken ≤ limit → (s : Streaming contexts limit before now k_old k_now w_old w_now machine number taken kept) → within ≡ take (limit - taken) bytes → LinesRan contexts w_now w_new k_now k_new machine (number + 1) (lines_from kept within) (Ok lines.Trapped) last → (r : LinesRan contexts w_old w_new k_old k_new first_state 1 (lines_of (take limit (s.text ++ bytes))) (Ok lines.Trapped) last) × (length (lines_of (take limit s.text)) < length r.steps)
trap_more {limit} bytes within h s e k = rw (more_lines limit s.text bytes (text_within h s)) (trap_then s.ran (at_text bytes within s e k))

rest_are : {contexts : List WasiSocketsCtx} {limit : ℕ} {before now : Reading} {k_old k_now : Writing} {w_old w_now : Seen} {machine : Machine} {number taken : ℕ} {kept : List ℕ} (bytes within : List ℕ) → (s : Streaming contexts limit before now k_old k_now w_old w_now machine number taken kept) → within ≡ take (limit - taken) bytes → rest_from kept within ≡ rest_from (rest_of (take limit s.text)) (take (limit - length s.text) bytes)
rest_are {limit} {kept = kept} bytes within s e = ap (rest_from kept) e ∙ (ap (λ n. rest_from kept (take (limit - n) bytes)) s.so_far ∙ ap (λ f. rest_from f (take (limit - length s.text) bytes)) s.line)

-- past the lines that a text has, at most the bytes of the next piece but one are left
after_any : (n : ℕ) (bytes : List ℕ) → length (after_lines n bytes) ≤ length bytes
after_any zero bytes = omega arith
after_any (suc n) [] = omega arith
after_any (suc n) (b ∷ bytes) =
    elim (b == 10) as (λ c. length (if c then after_lines n bytes else after_lines (suc n) bytes) ≤ suc (length bytes))
    [ true ↦ (let h = after_any n bytes in omega arith) | false ↦ (let h = after_any (suc n) bytes in omega arith) ]

after_one : (n : ℕ) (bytes : List ℕ) → length (after_lines (suc n) bytes) ≤ length bytes - 1
after_one n [] = omega arith
after_one n (b ∷ bytes) =
    elim (b == 10) as (λ c. length (if c then after_lines n bytes else after_lines (suc n) bytes) ≤ suc (length bytes) - 1)
    [ true ↦ (let h = after_any n bytes in omega arith) | false ↦ (let h = after_one n bytes in omega arith) ]

after_byte : (front text bytes : List ℕ) (n x : ℕ) (b : Bool) → (x == 10) ≡ b → length (if b then front ∷ lines_from [] text else lines_from (front ++ x ∷ []) text) < suc n → (length (lines_of text) < n → length (after_lines n (text ++ bytes)) ≤ length bytes - 1) → (length (lines_from (front ++ x ∷ []) text) < suc n → length (after_lines (suc n) (text ++ bytes)) ≤ length bytes - 1) → length (if b then after_lines n (text ++ bytes) else after_lines (suc n) (text ++ bytes)) ≤ length bytes - 1
after_byte front text bytes n x true e h p q = p (omega arith)
after_byte front text bytes n x false e h p q = q h

after_more : (front text bytes : List ℕ) (n : ℕ) → length (lines_from front text) < n → length (after_lines n (text ++ bytes)) ≤ length bytes - 1
after_more front [] bytes zero h = absurd (omega arith)
after_more front [] bytes (suc n) h = after_one n bytes
after_more front (x ∷ text) bytes zero h = absurd (omega arith)
after_more front (x ∷ text) bytes (suc n) h = after_byte front text bytes n x (x == 10) refl h (λ k. after_more [] text bytes n k) (λ k. after_more (front ++ x ∷ []) text bytes (suc n) k)

all_text : {contexts : List WasiSocketsCtx} {limit : ℕ} {before now : Reading} {k_old k_now : Writing} {w_old w_now : Seen} {machine : Machine} {number taken : ℕ} {kept : List ℕ} → taken ≤ limit → (s : Streaming contexts limit before now k_old k_now w_old w_now machine number taken kept) → take limit s.text ≡ s.text
all_text {limit} h s = take_all limit s.text (text_within h s)

few_bytes : (limit taken room count : ℕ) (buffer piece : List ℕ) → room ≡ min (limit + 1 - taken) 4096 → count ≤ length (take room piece) → length (take count buffer) - 1 ≤ 4095
few_bytes limit taken room count buffer piece q f = omega (arith, length-take count buffer, length-take room piece, q, f)

-- == one piece more
module _ {contexts : List WasiSocketsCtx} {limit : ℕ} {before now new : Reading} {k_old k_now k_new : Writing} {w_old w_now w_new : Seen} {machine last : Machine} {number taken room count : ℕ} {kept buffer : List ℕ} (within piece : List ℕ) where
  pub over_error : {e : RunError} → taken ≤ limit → room ≡ min (limit + 1 - taken) 4096 → Streaming contexts limit before now k_old k_now w_old w_now machine number taken kept → GaveSome now new (length (take room piece)) buffer count → within ≡ take (limit - taken) (take count buffer) → LinesRan contexts w_now w_new k_now k_new machine (number + 1) (lines_from kept within) (Err e) last → RanOver contexts limit before new k_old k_new w_old w_new last (Err e)
  over_error {e} h q s g i k = record {
    text = s.text ++ take count buffer;
    gave = gave_again s.gave g.gave;
    within = more_fits limit taken room count s.text buffer piece q s.so_far (omega arith) g.fits;
    outcome = Err e;
    ran = ran_more (take count buffer) within h s i k;
    answer = refl;
    ahead = λ t. absurd (cc);
  }

  pub over_trap : taken ≤ limit → room ≡ min (limit + 1 - taken) 4096 → Streaming contexts limit before now k_old k_now w_old w_now machine number taken kept → GaveSome now new (length (take room piece)) buffer count → within ≡ take (limit - taken) (take count buffer) → LinesRan contexts w_now w_new k_now k_new machine (number + 1) (lines_from kept within) (Ok lines.Trapped) last → RanOver contexts limit before new k_old k_new w_old w_new last (Ok end.Trapped)
  over_trap h q s g i k =
      let r = trap_more (take count buffer) within h s i k in
      record {
        text = s.text ++ take count buffer;
        gave = gave_again s.gave g.gave;
        within = more_fits limit taken room count s.text buffer piece q s.so_far (omega arith) g.fits;
        outcome = Ok lines.Trapped;
        ran = r.0;
        answer = tt;
        ahead = λ t. (let f = few_bytes limit taken room count buffer piece q g.fits in let d = after_more [] s.text (take count buffer) (length r.0.steps) (rw (all_text h s) at r.1) in omega arith);
      }

  pub stream_on : {number' : ℕ} {kept' : List ℕ} → taken ≤ limit → room ≡ min (limit + 1 - taken) 4096 → length buffer ≡ length (take room piece) → Streaming contexts limit before now k_old k_now w_old w_now machine number taken kept → GaveSome now new (length (take room piece)) buffer count → within ≡ take (limit - taken) (take count buffer) → LinesRan contexts w_now w_new k_now k_new machine (number + 1) (lines_from kept within) (Ok lines.AllDone) last → KeptOf number kept within number' kept' → Streaming contexts limit before new k_old k_new w_old w_new last number' (taken + count) kept'
  stream_on h q b s g i k o =
      let m = more_fits limit taken room count s.text buffer piece q s.so_far (omega arith) g.fits in
      let l : length (s.text ++ take count buffer) ≡ taken + count = omega (arith, length-append s.text (take count buffer), length-take count buffer, g.fits, b, s.so_far) in
      record {
        text = s.text ++ take count buffer;
        gave = gave_again s.gave g.gave;
        faults = g.faults ∙ s.faults;
        ran = ran_more (take count buffer) within h s i k;
        line = o.rest ∙ (rest_are (take count buffer) within s i ∙ sym (more_rest limit s.text (take count buffer) (text_within h s)));
        count = omega (arith, o.count, s.count, ap length (lines_are (take count buffer) within s i), ap length (more_lines limit s.text (take count buffer) (text_within h s)), length-append (lines_of (take limit s.text)) (lines_from (rest_of (take limit s.text)) (take (limit - length s.text) (take count buffer))));
        so_far = sym l;
        within = omega (arith, m, l);
      }

-- == no piece more
module _ {contexts : List WasiSocketsCtx} {limit : ℕ} {before now new : Reading} {k_old k_now : Writing} {w_old w_now : Seen} {machine : Machine} {number taken : ℕ} {kept : List ℕ} where
  -- all lines that were read were done, and no more bytes came
  done_over : {result : Result RunEnd RunError} → (s : Streaming contexts limit before now k_old k_now w_old w_now machine number taken kept) → Gave before s.text new → Answers limit s.text before new (Ok lines.AllDone) result → (result ≡ Ok end.Trapped → ⊥) → RanOver contexts limit before new k_old k_now w_old w_now machine result
  done_over s gave answer other = record {
    text = s.text;
    gave = gave;
    within = omega (arith, s.within, s.so_far);
    outcome = Ok lines.AllDone;
    ran = s.ran;
    answer = answer;
    ahead = λ t. absurd (other t);
  }

  pub over_fault : Streaming contexts limit before now k_old k_now w_old w_now machine number taken kept → GaveNone now new → RanOver contexts limit before new k_old k_now w_old w_now machine (Err ReadFault)
  over_fault s g = done_over s (gave_fault s.gave g) (fault_rose before now new s.faults g) (λ t. cc)

  module _ {room count : ℕ} {buffer : List ℕ} (piece : List ℕ) where
    pub over_read : taken ≤ limit → room ≡ min (limit + 1 - taken) 4096 → length piece ≡ 4096 → Streaming contexts limit before now k_old k_now w_old w_now machine number taken kept → GaveSome now new (length (take room piece)) buffer count → count ≡ 0 → kept ≡ [] → RanOver contexts limit before new k_old k_now w_old w_now machine (Ok end.AllRead)
    over_read h q b s g z n =
        done_over s (gave_end s.gave g z) (g.nothing (has_room limit taken room piece q (omega arith) b) z, text_within h s, ap rest_of (sym (all_text h s)) ∙ (sym s.line ∙ n)) (λ t. cc)

    pub over_cut : taken ≤ limit → room ≡ min (limit + 1 - taken) 4096 → length piece ≡ 4096 → Streaming contexts limit before now k_old k_now w_old w_now machine number taken kept → GaveSome now new (length (take room piece)) buffer count → count ≡ 0 → kept ≢ [] → RanOver contexts limit before new k_old k_now w_old w_now machine (Err (BadStep (number + 1)))
    over_cut h q b s g z n =
        done_over s (gave_end s.gave g z) (g.nothing (has_room limit taken room piece q (omega arith) b) z, text_within h s, (λ r. n (s.line ∙ (ap rest_of (all_text h s) ∙ r))), ap (λ k. k + 1) (s.count ∙ ap (λ t. length (lines_of t)) (all_text h s)))
        (λ t. cc)

module _ {contexts : List WasiSocketsCtx} {limit : ℕ} {before now : Reading} {k_old k_now : Writing} {w_old w_now : Seen} {machine : Machine} {number taken : ℕ} {kept : List ℕ} where
  pub over_long : limit < taken → Streaming contexts limit before now k_old k_now w_old w_now machine number taken kept → RanOver contexts limit before now k_old k_now w_old w_now machine (Err TooLong)
  over_long h s = done_over s s.gave (omega (arith, h, s.within, s.so_far)) (λ t. cc)

pub piece_numbers : {contexts : List WasiSocketsCtx} {limit : ℕ} {before now : Reading} {k_old k_now : Writing} {w_old w_now : Seen} {machine : Machine} {number taken : ℕ} {kept : List ℕ} (count within most : ℕ) (bytes : List ℕ) → limit < most → taken ≤ limit → Streaming contexts limit before now k_old k_now w_old w_now machine number taken kept → within ≡ min count (limit - taken) → number + length (take within bytes) < most
piece_numbers count within most bytes m h s e = let f = few s in omega (arith, f, h, e, m, length-take within bytes)

is_zero : (n : ℕ) → true ≡ (n == 0) → n ≡ 0
is_zero n e = grind (arith, nat_tests)

isnt_zero : (n : ℕ) → false ≡ (n == 0) → 0 < n
isnt_zero n e = grind (arith, nat_tests)

pub empty_is : (n : ℕ) (xs : List ℕ) → true ≡ (n == 0) → n ≡ length xs → xs ≡ []
empty_is n xs e l = let z = is_zero n e in nil_from_length xs (sym l ∙ z)

pub not_empty : (n : ℕ) (xs : List ℕ) → false ≡ (n == 0) → n ≡ length xs → 0 < length xs
not_empty n xs e l = let z = isnt_zero n e in omega (arith, l)

pub some_byte : (xs : List ℕ) → 0 < length xs → xs ≢ []
some_byte xs h e = let l = ap length e in omega arith
