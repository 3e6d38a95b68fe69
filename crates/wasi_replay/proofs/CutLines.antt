-- The whole lines of a text that was cut, a line at a time.
use Rattle.std.proofs.Common.{◌≡◌, ℕ, ◌+◌, ◌-◌, ◌≤◌, ◌==◌, List, [], length, take, drop, length-drop, Some, None, ap, sym, ◌∙◌, arith}
use Rattle.std.specs.List.{position}
use Rattle.std.proofs.lemmas.List.{drop-drop, take_rest}
use Rattle.world_text.specs.Lines.{rest_of}
use Rattle.world_text.proofs.LinesOf.{Cut, NoCut, cut_at, no_cut, cut_after, cut_within}
use Rattle.wasi_replay.specs.Cut.{whole_lines}

module _ (text : List ℕ) (at : ℕ) (within : at ≤ length text) (rest : rest_of text ≡ rest_of (drop at text)) where
  module _ (end : ℕ) (found : Some end ≡ position (λ b. b == 10) (take (length text - at) (drop at text))) where
    cut : Cut [] (drop at text) end
    cut = cut_at [] (drop at text) end (ap (position (λ b. b == 10)) (sym (take_rest text at)) ∙ sym found)

    after_is : drop (at + (end + 1)) text ≡ cut.after
    after_is = sym (drop-drop (end + 1) at text) ∙ cut_after [] (drop at text) end cut

    -- one line more
    pub next_line : (at + (end + 1) ≤ length text) × (rest_of text ≡ rest_of (drop (at + (end + 1)) text))
    next_line = (omega (arith, cut_within [] (drop at text) end cut, length-drop at text, within), rest ∙ (cut.rest ∙ ap rest_of (sym after_is)))

  -- no line more
  pub last_line : None ≡ position (λ b. b == 10) (take (length text - at) (drop at text)) → take at text ≡ whole_lines text
  last_line found =
      let none = no_cut [] (drop at text) (ap (position (λ b. b == 10)) (sym (take_rest text at)) ∙ sym found) in
      let count : at ≡ length text - length (rest_of text) = omega (arith, within, ap length (rest ∙ none.rest), length-drop at text) in
      ap (λ n. take n text) count
