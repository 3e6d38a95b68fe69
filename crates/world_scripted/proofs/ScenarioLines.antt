-- The words of a scenario's line.
use Rattle.std.specs.Prelude.{◌&&◌, nat_le, IfSome}
use Rattle.std.proofs.Common.{◌≡◌, ℕ, zero, suc, min, ◌+◌, ◌-◌, ◌^◌, ◌<◌, ◌≤◌, ◌==◌, length, take, drop, length-drop, true, false, Ok, Err, ap, arith, List, [], ◌∷◌, ◌++◌, bytes_eq, Option, Some, None, refl, sym, ◌∙◌}
use Rattle.std.specs.List.{AllByRecursion, position}
use Rattle.std.proofs.lemmas.List.{drop-drop, take_rest, length-take}
use Rattle.std.proofs.lemmas.Bool.Decides.{nat_tests}
use Rattle.std.proofs.lemmas.Bool.{false_from_ne_true}
use Rattle.std.proofs.lemmas.Slice.Eq.{bytes_eq-Decides}
use Rattle.wasi_world.specs.declared.outcome.WasiSocketsCtx.{WasiSocketsCtx}
use Rattle.wasi_world.specs.declared.plan.Planned.{Planned}
use Rattle.world_text.specs.Fields.{Reader, Row, Reads, after_word, read_then, word_at}
use Rattle.world_text.specs.Lines.{lines_of, rest_of}
use Rattle.world_scripted.specs.Queued.{Listed}
use Rattle.world_scripted.specs.Scenario.{long_answers, short_answers, answer_at, Setup, setup, no_setup, with_line, next_lines, with_lines, is_whole, if_whole, setup_within, bad_line}
use Rattle.wasi_world.specs.Contexts.{AreNumbered}
use Rattle.world_scripted.specs.declared.scenario.ScenarioError.{ScenarioError}
use Rattle.world_scripted.specs.declared.scenario.ScenarioError.TheVariants.{BadScenario, Memory}
use Rattle.world_text.proofs.LinesOf.{Cut, NoCut, cut_at, no_cut, cut_line, cut_after, cut_within}

-- a word that isn't one of the first rows'
other_words : {A : Type 0} (first rows : List (Row A)) (word : List ℕ) (fields : List (List ℕ)) → AllByRecursion (λ r. word ≡ r.word → ⊥) first → after_word (first ++ rows) word fields ≡ after_word rows word fields
other_words [] rows word fields others = refl
other_words (r ∷ first) rows word fields others =
    rw (false_from_ne_true (bytes_eq r.word word) (λ same. others.0 (sym ((bytes_eq-Decides r.word word).0 same)))) (other_words first rows word fields others.1)

reads_same : {A : Type 0} (read other : Reader A) (old fields : List (List ℕ)) (result : Option A) (new : List (List ℕ)) → read old ≡ other fields → Reads other fields result new → Reads read old result new
reads_same read other old fields None new e h = e ∙ h
reads_same read other old fields (Some value) new e h = e ∙ h

-- a word that isn't one of the long answers' is one of the short answers', if any
pub short_answer_of : (old fields : List (List ℕ)) (word : List ℕ) (result : Option Planned) (new : List (List ℕ)) → word_at old ≡ Some (word, fields) → AllByRecursion (λ r. word ≡ r.word → ⊥) long_answers → Reads (after_word short_answers word) fields result new → Reads answer_at old result new
unfolding answer_at read_then
short_answer_of old fields word result new e others h =
    reads_same answer_at (after_word short_answers word) old fields result new (rw e (other_words long_answers short_answers word fields others)) h

-- The lines before a place of the text are read: this is the number of the next line, and these are the lists and the contexts.
pub record ReadTo (text : List ℕ) (at number : ℕ) (lists : Listed) (contexts : List WasiSocketsCtx) : Type 0 where
  pub within : at ≤ length text
  pub plan : with_lines 1 no_setup (lines_of text) ≡ with_lines number (setup lists.all contexts) (lines_of (drop at text))
  pub rest : rest_of text ≡ rest_of (drop at text)
  pub count : number + length (lines_of (drop at text)) ≡ length (lines_of text) + 1
  pub few : number ≤ at + 1
  pub fresh : lists.left ≡ lists.all
  pub numbered : AreNumbered contexts
  pub fewer : length contexts < number

-- the bytes after so many: a line and more
module _ (text : List ℕ) (at number end : ℕ) (lists : Listed) (contexts : List WasiSocketsCtx) (read : ReadTo text at number lists contexts) (found : Some end ≡ position (λ b. b == 10) (take (length text - at) (drop at text))) where
  cut : Cut [] (drop at text) end
  cut = cut_at [] (drop at text) end (ap (position (λ b. b == 10)) (sym (take_rest text at)) ∙ sym found)

  line_is : take ((at + end) - at) (drop at text) ≡ cut.line
  line_is = let same : (at + end) - at ≡ end = omega arith in rw same (cut_line [] (drop at text) end cut)

  after_is : drop (at + (end + 1)) text ≡ cut.after
  after_is = sym (drop-drop (end + 1) at text) ∙ cut_after [] (drop at text) end cut

  here : with_lines 1 no_setup (lines_of text) ≡ next_lines number (with_line (setup lists.all contexts) (take ((at + end) - at) (drop at text))) (λ next. with_lines (number + 1) next (lines_of (drop (at + (end + 1)) text)))
  here = rw (line_is, after_is) (read.plan ∙ ap (with_lines number (setup lists.all contexts)) cut.lines)

  pub number_fits : (most : ℕ) (bytes : List ℕ) → text ≡ take most bytes → most + 1 < 2 ^ 32 → number + 1 < 2 ^ 32
  number_fits most bytes first h = omega (arith, read.few, cut_within [] (drop at text) end cut, length-drop at text, ap length first, length-take most bytes)

  pub bad_next : with_line (setup lists.all contexts) (take ((at + end) - at) (drop at text)) ≡ None → with_lines 1 no_setup (lines_of text) ≡ Err number
  bad_next h = here ∙ ap (λ o. next_lines number o (λ next. with_lines (number + 1) next (lines_of (drop (at + (end + 1)) text)))) h

  -- a context's number fits
  pub context_fits : (most : ℕ) (bytes : List ℕ) → text ≡ take most bytes → most + 1 < 2 ^ 32 → length contexts < 2 ^ 32
  context_fits most bytes first h = omega (arith, number_fits most bytes first h, read.fewer)

  pub read_next : (new : Listed) (more : List WasiSocketsCtx) → with_line (setup lists.all contexts) (take ((at + end) - at) (drop at text)) ≡ Some (setup new.all more) → (lists.left ≡ lists.all → new.left ≡ new.all) → (AreNumbered contexts → AreNumbered more) → length more ≤ length contexts + 1 → ReadTo text (at + (end + 1)) (number + 1) new more
  read_next new more h fresh numbered few = record {
    within = omega (arith, cut_within [] (drop at text) end cut, length-drop at text, read.within);
    plan = here ∙ ap (λ o. next_lines number o (λ next. with_lines (number + 1) next (lines_of (drop (at + (end + 1)) text)))) h;
    rest = read.rest ∙ (cut.rest ∙ ap rest_of (sym after_is));
    count = rw after_is (omega (arith, read.count, ap length cut.lines));
    few = omega (arith, read.few);
    fresh = fresh read.fresh;
    numbered = numbered read.numbered;
    fewer = omega (arith, few, read.fewer);
  }

-- the tests at the end of the lines
both : (rest total most : ℕ) → rest ≡ 0 → total ≤ most → ((rest == 0) && nat_le total most) ≡ true
both rest total most e h = grind (arith, nat_tests)

not_both : (rest total most : ℕ) → (rest ≡ 0 → most < total) → ((rest == 0) && nat_le total most) ≡ false
not_both zero total most h = let more : most < total = h refl in grind (arith, nat_tests)
not_both (suc rest) total most h = grind (arith, nat_tests)

-- what the first bytes of a text spell
module _ (most : ℕ) (bytes text : List ℕ) (first : text ≡ take most bytes) where
  -- a line that isn't in the grammar
  bad_text : (number : ℕ) → with_lines 1 no_setup (lines_of text) ≡ Err number → setup_within most bytes ≡ Err number
  unfolding setup_within
  bad_text number h = rw (← first, h) refl

  read_text : (given : Setup) → with_lines 1 no_setup (lines_of text) ≡ Ok given → setup_within most bytes ≡ if_whole (is_whole most bytes) (length (lines_of text)) (Ok given)
  unfolding setup_within
  read_text given h = rw (← first, h) refl

  size : length text ≡ min most (length bytes)
  size = ap length first ∙ length-take most bytes

  whole_is : is_whole most bytes ≡ ((length (rest_of text) == 0) && nat_le (length bytes) most)
  whole_is = rw first refl

-- the exit at a line: it isn't in the grammar, or memory ran out
pub bad_line_exit : (most : ℕ) (bytes text : List ℕ) (number : ℕ) (e : ScenarioError) (next : Option Setup) → text ≡ take most bytes → (next ≡ None → with_lines 1 no_setup (lines_of text) ≡ Err number) → IfSome (bad_line e) (λ n. (n ≡ number) × (next ≡ None)) → IfSome (bad_line e) (λ n. setup_within most bytes ≡ Err n)
bad_line_exit most bytes text number (BadScenario n) next first bad h = rw h.0 (bad_text most bytes text first number (bad h.1))
bad_line_exit most bytes text number (Memory e) next first bad h = tt

-- the bytes after so many have no newline
module _ (most : ℕ) (bytes text : List ℕ) (first : text ≡ take most bytes) (at number : ℕ) (lists : Listed) (contexts : List WasiSocketsCtx) (read : ReadTo text at number lists contexts) (found : None ≡ position (λ b. b == 10) (take (length text - at) (drop at text))) where
  over : NoCut [] (drop at text)
  over = no_cut [] (drop at text) (ap (position (λ b. b == 10)) (sym (take_rest text at)) ∙ sym found)

  left_over : length (rest_of text) ≡ length text - at
  left_over = ap length (read.rest ∙ over.rest) ∙ length-drop at text

  last : number ≡ length (lines_of text) + 1
  last = omega (arith, read.count, ap length over.lines)

  at_end : setup_within most bytes ≡ if_whole (is_whole most bytes) (length (lines_of text)) (Ok (setup lists.all contexts))
  at_end = read_text most bytes text first (setup lists.all contexts) (read.plan ∙ ap (with_lines number (setup lists.all contexts)) over.lines)

  whole : length bytes ≤ at → is_whole most bytes ≡ true
  whole h = whole_is most bytes text first ∙ both (length (rest_of text)) (length bytes) most (omega (arith, left_over, size most bytes text first, read.within)) (omega (arith, size most bytes text first, read.within))

  not_whole : at < length bytes → is_whole most bytes ≡ false
  not_whole h = whole_is most bytes text first ∙ not_both (length (rest_of text)) (length bytes) most (λ e. omega (arith, left_over, size most bytes text first, read.within))

  pub whole_text : length bytes ≤ at → setup_within most bytes ≡ Ok (setup lists.all contexts)
  whole_text h = at_end ∙ rw (whole h) refl

  pub more_text : at < length bytes → setup_within most bytes ≡ Err number
  more_text h = at_end ∙ rw (not_whole h, last) refl
