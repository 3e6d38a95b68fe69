-- The lines of a log, a line at a time.
use Rattle.std.specs.Prelude.{◌&&◌, nat_le, IfSome}
use Rattle.std.proofs.Common.{◌≡◌, ℕ, zero, suc, min, ◌+◌, ◌-◌, ◌^◌, ◌<◌, ◌≤◌, ◌==◌, length, take, drop, length-drop, true, false, Ok, Err, ap, arith, List, [], Option, Some, None, refl, sym, ◌∙◌}
use Rattle.std.specs.List.{position}
use Rattle.std.proofs.lemmas.List.{drop-drop, take_rest, length-take}
use Rattle.std.proofs.lemmas.Bool.Decides.{nat_tests}
use Rattle.world_text.specs.Lines.{lines_of, rest_of}
use Rattle.world_text.proofs.LinesOf.{Cut, NoCut, cut_at, no_cut, cut_line, cut_after, cut_within}
use Rattle.wasi_replay.specs.declared.parse.LogError.{LogError}
use Rattle.wasi_replay.specs.declared.parse.LogError.TheVariants.{BadLog, Memory}
use Rattle.wasi_replay.specs.Log.{SoFar, start, with_line, next_lines, with_lines, is_whole, if_whole, log_within}
use Rattle.wasi_replay.specs.Parsed.{bad_line}

-- The lines before a place of the text are read: this is the number of the next line, and this is what they say.
pub record ReadTo (text : List ℕ) (at number : ℕ) (log : SoFar) : Type 0 where
  pub within : at ≤ length text
  pub read : with_lines 1 start (lines_of text) ≡ with_lines number log (lines_of (drop at text))
  pub rest : rest_of text ≡ rest_of (drop at text)
  pub count : number + length (lines_of (drop at text)) ≡ length (lines_of text) + 1
  pub few : number ≤ at + 1
  pub fewer : length log.contexts < number

-- the bytes after so many: a line and more
module _ (text : List ℕ) (at number end : ℕ) (log : SoFar) (read : ReadTo text at number log) (found : Some end ≡ position (λ b. b == 10) (take (length text - at) (drop at text))) where
  cut : Cut [] (drop at text) end
  cut = cut_at [] (drop at text) end (ap (position (λ b. b == 10)) (sym (take_rest text at)) ∙ sym found)

  line_is : take ((at + end) - at) (drop at text) ≡ cut.line
  line_is = let same : (at + end) - at ≡ end = omega arith in rw same (cut_line [] (drop at text) end cut)

  after_is : drop (at + (end + 1)) text ≡ cut.after
  after_is = sym (drop-drop (end + 1) at text) ∙ cut_after [] (drop at text) end cut

  here : with_lines 1 start (lines_of text) ≡ next_lines number (with_line log (take ((at + end) - at) (drop at text))) (λ next. with_lines (number + 1) next (lines_of (drop (at + (end + 1)) text)))
  here = rw (line_is, after_is) (read.read ∙ ap (with_lines number log) cut.lines)

  pub number_fits : (most : ℕ) (bytes : List ℕ) → text ≡ take most bytes → most + 1 < 2 ^ 32 → number + 1 < 2 ^ 32
  number_fits most bytes first h = omega (arith, read.few, cut_within [] (drop at text) end cut, length-drop at text, ap length first, length-take most bytes)

  pub bad_next : with_line log (take ((at + end) - at) (drop at text)) ≡ None → with_lines 1 start (lines_of text) ≡ Err number
  bad_next h = here ∙ ap (λ o. next_lines number o (λ next. with_lines (number + 1) next (lines_of (drop (at + (end + 1)) text)))) h

  -- a context's number fits
  pub context_fits : (most : ℕ) (bytes : List ℕ) → text ≡ take most bytes → most + 1 < 2 ^ 32 → length log.contexts < 2 ^ 32
  context_fits most bytes first h = omega (arith, number_fits most bytes first h, read.fewer)

  pub read_next : (more : SoFar) → with_line log (take ((at + end) - at) (drop at text)) ≡ Some more → length more.contexts ≤ length log.contexts + 1 → ReadTo text (at + (end + 1)) (number + 1) more
  read_next more h few = record {
    within = omega (arith, cut_within [] (drop at text) end cut, length-drop at text, read.within);
    read = here ∙ ap (λ o. next_lines number o (λ next. with_lines (number + 1) next (lines_of (drop (at + (end + 1)) text)))) h;
    rest = read.rest ∙ (cut.rest ∙ ap rest_of (sym after_is));
    count = rw after_is (omega (arith, read.count, ap length cut.lines));
    few = omega (arith, read.few);
    fewer = omega (arith, few, read.fewer);
  }

-- the tests at the end of the lines
both : (rest total most : ℕ) → rest ≡ 0 → total ≤ most → ((rest == 0) && nat_le total most) ≡ true
both rest total most e h = grind (arith, nat_tests)

not_both : (rest total most : ℕ) → (rest ≡ 0 → most < total) → ((rest == 0) && nat_le total most) ≡ false
not_both zero total most h = let more : most < total = h refl in grind (arith, nat_tests)
not_both (suc rest) total most h = grind (arith, nat_tests)

-- what the first bytes of a text spell
module _ (most : ℕ) (bytes text : List ℕ) (first : text ≡ take most bytes) where
  -- a line that isn't in the grammar
  bad_text : (number : ℕ) → with_lines 1 start (lines_of text) ≡ Err number → log_within most bytes ≡ Err number
  unfolding log_within
  bad_text number h = rw (← first, h) refl

  read_text : (log : SoFar) → with_lines 1 start (lines_of text) ≡ Ok log → log_within most bytes ≡ if_whole (is_whole most bytes) (length (lines_of text)) (Ok log)
  unfolding log_within
  read_text log h = rw (← first, h) refl

  size : length text ≡ min most (length bytes)
  size = ap length first ∙ length-take most bytes

  whole_is : is_whole most bytes ≡ ((length (rest_of text) == 0) && nat_le (length bytes) most)
  whole_is = rw first refl

-- the exit at a line: it isn't in the grammar, or memory ran out
pub bad_line_exit : (most : ℕ) (bytes text : List ℕ) (number : ℕ) (e : LogError) (next : Option SoFar) → text ≡ take most bytes → (next ≡ None → with_lines 1 start (lines_of text) ≡ Err number) → IfSome (bad_line e) (λ n. (n ≡ number) × (next ≡ None)) → IfSome (bad_line e) (λ n. log_within most bytes ≡ Err n)
bad_line_exit most bytes text number (BadLog n) next first bad h = rw h.0 (bad_text most bytes text first number (bad h.1))
bad_line_exit most bytes text number (Memory e) next first bad h = tt

-- the bytes after so many have no newline
module _ (most : ℕ) (bytes text : List ℕ) (first : text ≡ take most bytes) (at number : ℕ) (log : SoFar) (read : ReadTo text at number log) (found : None ≡ position (λ b. b == 10) (take (length text - at) (drop at text))) where
  over : NoCut [] (drop at text)
  over = no_cut [] (drop at text) (ap (position (λ b. b == 10)) (sym (take_rest text at)) ∙ sym found)

  left_over : length (rest_of text) ≡ length text - at
  left_over = ap length (read.rest ∙ over.rest) ∙ length-drop at text

  last : number ≡ length (lines_of text) + 1
  last = omega (arith, read.count, ap length over.lines)

  at_end : log_within most bytes ≡ if_whole (is_whole most bytes) (length (lines_of text)) (Ok log)
  at_end = read_text most bytes text first log (read.read ∙ ap (with_lines number log) over.lines)

  whole : length bytes ≤ at → is_whole most bytes ≡ true
  whole h = whole_is most bytes text first ∙ both (length (rest_of text)) (length bytes) most (omega (arith, left_over, size most bytes text first, read.within)) (omega (arith, size most bytes text first, read.within))

  not_whole : at < length bytes → is_whole most bytes ≡ false
  not_whole h = whole_is most bytes text first ∙ not_both (length (rest_of text)) (length bytes) most (λ e. omega (arith, left_over, size most bytes text first, read.within))

  pub whole_text : length bytes ≤ at → log.ended ≡ true → log_within most bytes ≡ Ok (log.contexts, log.entries)
  whole_text h ended = at_end ∙ rw (whole h, ended) refl

  -- the text ends before the line `end`
  pub no_end : length bytes ≤ at → log.ended ≡ false → log_within most bytes ≡ Err number
  no_end h ended = at_end ∙ rw (whole h, ended, last) refl

  pub more_text : at < length bytes → log_within most bytes ≡ Err number
  more_text h = at_end ∙ rw (not_whole h, last) refl
