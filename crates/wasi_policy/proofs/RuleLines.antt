-- The lines of rules.
use Rattle.std.specs.Prelude.{◌&&◌, nat_le, IfSome}
use Rattle.std.proofs.Common.{◌≡◌, ℕ, zero, suc, min, ◌+◌, ◌-◌, ◌^◌, ◌<◌, ◌≤◌, ◌==◌, length, take, drop, length-drop, true, false, Ok, Err, ap, arith, List, [], Option, Some, None, refl, sym, ◌∙◌}
use Rattle.std.specs.List.{position}
use Rattle.std.proofs.lemmas.List.{drop-drop, take_rest, length-take}
use Rattle.std.proofs.lemmas.Bool.Decides.{nat_tests}
use Rattle.world_text.specs.Lines.{lines_of, rest_of}
use Rattle.world_text.proofs.LinesOf.{Cut, NoCut, cut_at, no_cut, cut_line, cut_after, cut_within}
use Rattle.wasi_policy.specs.declared.rule.Rule.{Rule}
use Rattle.wasi_policy.specs.declared.parse.RulesError.{RulesError}
use Rattle.wasi_policy.specs.declared.parse.RulesError.TheVariants.{BadRules, Memory}
use Rattle.wasi_policy.specs.Grammar.{with_rule, next_rules, with_rules, is_whole, if_whole, rules_within}
use Rattle.wasi_policy.specs.Parsed.{bad_line}

-- The lines before a place of the text are read: this is the number of the next line, and these are the rules.
pub record ReadTo (text : List ℕ) (at number : ℕ) (rules : List Rule) : Type 0 where
  pub within : at ≤ length text
  pub read : with_rules 1 [] (lines_of text) ≡ with_rules number rules (lines_of (drop at text))
  pub rest : rest_of text ≡ rest_of (drop at text)
  pub count : number + length (lines_of (drop at text)) ≡ length (lines_of text) + 1
  pub few : number ≤ at + 1
  pub fewer : length rules < number

-- the bytes after so many: a line and more
module _ (text : List ℕ) (at number end : ℕ) (rules : List Rule) (read : ReadTo text at number rules) (found : Some end ≡ position (λ b. b == 10) (take (length text - at) (drop at text))) where
  cut : Cut [] (drop at text) end
  cut = cut_at [] (drop at text) end (ap (position (λ b. b == 10)) (sym (take_rest text at)) ∙ sym found)

  line_is : take ((at + end) - at) (drop at text) ≡ cut.line
  line_is = let same : (at + end) - at ≡ end = omega arith in rw same (cut_line [] (drop at text) end cut)

  after_is : drop (at + (end + 1)) text ≡ cut.after
  after_is = sym (drop-drop (end + 1) at text) ∙ cut_after [] (drop at text) end cut

  here : with_rules 1 [] (lines_of text) ≡ next_rules number (with_rule rules (take ((at + end) - at) (drop at text))) (λ next. with_rules (number + 1) next (lines_of (drop (at + (end + 1)) text)))
  here = rw (line_is, after_is) (read.read ∙ ap (with_rules number rules) cut.lines)

  pub number_fits : (most : ℕ) (bytes : List ℕ) → text ≡ take most bytes → most + 1 < 2 ^ 32 → number + 1 < 2 ^ 32
  number_fits most bytes first h = omega (arith, read.few, cut_within [] (drop at text) end cut, length-drop at text, ap length first, length-take most bytes)

  pub bad_next : with_rule rules (take ((at + end) - at) (drop at text)) ≡ None → with_rules 1 [] (lines_of text) ≡ Err number
  bad_next h = here ∙ ap (λ o. next_rules number o (λ next. with_rules (number + 1) next (lines_of (drop (at + (end + 1)) text)))) h

  pub read_next : (more : List Rule) → with_rule rules (take ((at + end) - at) (drop at text)) ≡ Some more → length more ≡ length rules + 1 → ReadTo text (at + (end + 1)) (number + 1) more
  read_next more h longer = record {
    within = omega (arith, cut_within [] (drop at text) end cut, length-drop at text, read.within);
    read = here ∙ ap (λ o. next_rules number o (λ next. with_rules (number + 1) next (lines_of (drop (at + (end + 1)) text)))) h;
    rest = read.rest ∙ (cut.rest ∙ ap rest_of (sym after_is));
    count = rw after_is (omega (arith, read.count, ap length cut.lines));
    few = omega (arith, read.few);
    fewer = omega (arith, longer, read.fewer);
  }

-- the tests at the end of the lines
both : (rest total most : ℕ) → rest ≡ 0 → total ≤ most → ((rest == 0) && nat_le total most) ≡ true
both rest total most e h = grind (arith, nat_tests)

not_both : (rest total most : ℕ) → (rest ≡ 0 → most < total) → ((rest == 0) && nat_le total most) ≡ false
not_both zero total most h = let more : most < total = h refl in grind (arith, nat_tests)
not_both (suc rest) total most h = grind (arith, nat_tests)

-- what the first bytes of a text spell
module _ (most : ℕ) (bytes text : List ℕ) (first : text ≡ take most bytes) where
  -- a line that isn't in the grammar
  bad_text : (number : ℕ) → with_rules 1 [] (lines_of text) ≡ Err number → rules_within most bytes ≡ Err number
  unfolding rules_within
  bad_text number h = rw (← first, h) refl

  read_text : (rules : List Rule) → with_rules 1 [] (lines_of text) ≡ Ok rules → rules_within most bytes ≡ if_whole (is_whole most bytes) (length (lines_of text)) (Ok rules)
  unfolding rules_within
  read_text rules h = rw (← first, h) refl

  size : length text ≡ min most (length bytes)
  size = ap length first ∙ length-take most bytes

  whole_is : is_whole most bytes ≡ ((length (rest_of text) == 0) && nat_le (length bytes) most)
  whole_is = rw first refl

-- the exit at a line: it isn't in the grammar, or memory ran out
pub bad_line_exit : (most : ℕ) (bytes text : List ℕ) (number : ℕ) (e : RulesError) (next : Option (List Rule)) → text ≡ take most bytes → (next ≡ None → with_rules 1 [] (lines_of text) ≡ Err number) → IfSome (bad_line e) (λ n. (n ≡ number) × (next ≡ None)) → IfSome (bad_line e) (λ n. rules_within most bytes ≡ Err n)
bad_line_exit most bytes text number (BadRules n) next first bad h = rw h.0 (bad_text most bytes text first number (bad h.1))
bad_line_exit most bytes text number (Memory e) next first bad h = tt

-- the bytes after so many have no newline
module _ (most : ℕ) (bytes text : List ℕ) (first : text ≡ take most bytes) (at number : ℕ) (rules : List Rule) (read : ReadTo text at number rules) (found : None ≡ position (λ b. b == 10) (take (length text - at) (drop at text))) where
  over : NoCut [] (drop at text)
  over = no_cut [] (drop at text) (ap (position (λ b. b == 10)) (sym (take_rest text at)) ∙ sym found)

  left_over : length (rest_of text) ≡ length text - at
  left_over = ap length (read.rest ∙ over.rest) ∙ length-drop at text

  last : number ≡ length (lines_of text) + 1
  last = omega (arith, read.count, ap length over.lines)

  at_end : rules_within most bytes ≡ if_whole (is_whole most bytes) (length (lines_of text)) (Ok rules)
  at_end = read_text most bytes text first rules (read.read ∙ ap (with_rules number rules) over.lines)

  whole : length bytes ≤ at → is_whole most bytes ≡ true
  whole h = whole_is most bytes text first ∙ both (length (rest_of text)) (length bytes) most (omega (arith, left_over, size most bytes text first, read.within)) (omega (arith, size most bytes text first, read.within))

  not_whole : at < length bytes → is_whole most bytes ≡ false
  not_whole h = whole_is most bytes text first ∙ not_both (length (rest_of text)) (length bytes) most (λ e. omega (arith, left_over, size most bytes text first, read.within))

  pub whole_text : length bytes ≤ at → rules_within most bytes ≡ Ok rules
  whole_text h = at_end ∙ rw (whole h) refl

  pub more_text : at < length bytes → rules_within most bytes ≡ Err number
  more_text h = at_end ∙ rw (not_whole h, last) refl

  -- there are fewer rules than bytes
  pub few_rules : most + 1 < 2 ^ 32 → length rules < 2 ^ 32
  few_rules h = omega (arith, read.few, read.fewer, read.within, size most bytes text first)
