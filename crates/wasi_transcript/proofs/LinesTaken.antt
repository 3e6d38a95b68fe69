-- A line that is taken from the bytes that are held.
use Rattle.std.proofs.Common.{◌≡◌, ◌∙◌, ap, sym, ℕ, ◌+◌, ◌-◌, ◌<◌, ◌==◌, List, [], ◌∷◌, ◌++◌, length, take, drop, Some, None, arith, length-drop}
use Rattle.std.proofs.Math.Seq.{drop-length}
use Rattle.std.specs.List.{position}
use Rattle.std.proofs.lemmas.List.{drop-drop, take_rest}
use Rattle.world_text.specs.Lines.{lines_of, rest_of, lines_from, rest_from}
use Rattle.world_text.proofs.LinesOf.{Cut, cut_at, no_cut, cut_line, cut_after, cut_within}

-- nothing is behind the last byte
pub nothing_after : (n : ℕ) (piece : List ℕ) → n ≡ length piece → drop n piece ≡ []
nothing_after n piece e = ap (λ k. drop k piece) e ∙ drop-length piece

-- the bytes from start on, as the code has them
abbrev pub held_of : List ℕ → ℕ → List ℕ
held_of piece start = take (length piece - start) (drop start piece)

module _ (front piece : List ℕ) (start : ℕ) where
  cut_found : (end : ℕ) → Some end ≡ position (λ b. b == 10) (held_of piece start) → Cut front (drop start piece) end
  cut_found end h = cut_at front (drop start piece) end (ap (position (λ b. b == 10)) (sym (take_rest piece start)) ∙ sym h)

  after_is : (end : ℕ) → Cut front (drop start piece) end → drop (start + (end + 1)) piece ≡ drop (end + 1) (drop start piece)
  after_is end cut = sym (drop-drop (end + 1) start piece)

  -- up to the newline
  pub takes_whole : (end : ℕ) (line : List ℕ) → Some end ≡ position (λ b. b == 10) (held_of piece start) → line ≡ front ++ take end (held_of piece start) → (lines_from front (drop start piece) ≡ line ∷ lines_of (drop (start + (end + 1)) piece)) × (rest_from front (drop start piece) ≡ rest_of (drop (start + (end + 1)) piece)) × (length (drop (start + (end + 1)) piece) < length (drop start piece))
  takes_whole end line h is =
      let cut = cut_found end h in
      let after = after_is end cut ∙ cut_after front (drop start piece) end cut in
      let taken : line ≡ front ++ cut.line = is ∙ ap (λ l. front ++ l) (ap (take end) (take_rest piece start) ∙ cut_line front (drop start piece) end cut) in
      let within = cut_within front (drop start piece) end cut in (
        cut.lines ∙ ap (λ l. l ∷ lines_of cut.after) (sym taken) ∙ ap (λ t. line ∷ lines_of t) (sym after),
        cut.rest ∙ ap rest_of (sym after),
        omega (arith, within, ap length (after_is end cut), length-drop (end + 1) (drop start piece)),
      )

  -- no newline
  pub takes_front : (line : List ℕ) → None ≡ position (λ b. b == 10) (held_of piece start) → line ≡ front ++ held_of piece start → (lines_from front (drop start piece) ≡ []) × (rest_from front (drop start piece) ≡ line)
  takes_front line h is =
      let none = no_cut front (drop start piece) (ap (position (λ b. b == 10)) (sym (take_rest piece start)) ∙ sym h) in
      (none.lines, none.rest ∙ sym (is ∙ ap (λ l. front ++ l) (take_rest piece start)))

module _ (text : List ℕ) (end : ℕ) where
  rest_after : Some end ≡ position (λ b. b == 10) text → (cut : Cut [] text end) → cut.after ≡ held_of text (end + 1)
  rest_after h cut = sym (cut_after [] text end cut) ∙ sym (take_rest text (end + 1))

  -- the first line of a text
  pub line_taken : Some end ≡ position (λ b. b == 10) text → lines_of text ≡ take end text ∷ lines_of (held_of text (end + 1))
  line_taken h =
      let cut = cut_at [] text end (sym h) in
      cut.lines ∙ ap (λ l. l ∷ lines_of cut.after) (sym (cut_line [] text end cut)) ∙ ap (λ t. take end text ∷ lines_of t) (rest_after h cut)

  pub rest_taken : Some end ≡ position (λ b. b == 10) text → rest_of text ≡ rest_of (held_of text (end + 1))
  rest_taken h = let cut = cut_at [] text end (sym h) in cut.rest ∙ ap rest_of (rest_after h cut)

-- a text without a newline has no line
pub no_line : (text : List ℕ) → None ≡ position (λ b. b == 10) text → lines_of text ≡ []
no_line text h = (no_cut [] text (sym h)).lines
