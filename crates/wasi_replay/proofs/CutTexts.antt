-- What the text of a log is read as that was cut.
use Rattle.std.specs.Prelude.{codes, map}
use Rattle.std.specs.List.{AllByRecursion}
use Rattle.std.proofs.Common.{◌≡◌, ℕ, ◌-◌, List, [], ◌∷◌, ◌++◌, append-nil, append_assoc, take, length, length-append, ap, sym, subst, ◌∙◌, refl, arith}
use Rattle.std.proofs.lemmas.Grind.{flat_map-append}
use Rattle.std.proofs.Math.Seq.{take-append_seam}
use Rattle.wasi_world.specs.declared.call.Entry.{Entry}
use Rattle.wasi_world.specs.declared.outcome.WasiSocketsCtx.{WasiSocketsCtx}
use Rattle.world_text.specs.Lines.{rest_of, rest_from}
use Rattle.world_text.specs.Written.{IsVisible}
use Rattle.world_text.proofs.LinesOf.{rest-append}
use Rattle.wasi_replay.specs.Cut.{whole_lines, IsInOneLine, completed}
use Rattle.wasi_replay.specs.Log.{context_line, entry_line, text_of_lines, log_text, IsLog}
use Rattle.wasi_replay.specs.Pieces.{contexts_text, entries_text}
use Rattle.wasi_replay.proofs.LogLaws.{contexts_visible, entries_visible}
use Rattle.wasi_replay.proofs.LogTexts.{contexts_text_is, entries_text_is, pieces_are}
use Rattle.wasi_replay.proofs.TextLines.{lines_are}

-- whole lines and then a part of one
whole_part : (text part : List ℕ) → rest_of text ≡ [] → IsInOneLine part → whole_lines (text ++ part) ≡ text
whole_part text part whole one =
    let rest : rest_of (text ++ part) ≡ part = rest-append [] text part ∙ (ap (λ front. rest_from front part) whole ∙ one) in
    let count : length (text ++ part) - length (rest_of (text ++ part)) ≡ length text = omega (arith, length-append text part, ap length rest) in
    ap (λ n. take n (text ++ part)) count ∙ take-append_seam text part

module _ (contexts : List WasiSocketsCtx) (log : List Entry) (is : IsLog contexts log) where
  lines : List (List ℕ)
  lines = map context_line contexts ++ map entry_line log

  visible : AllByRecursion IsVisible lines
  unfolding lines
  visible = contexts_visible contexts (map entry_line log) is.limits (subst (AllByRecursion IsVisible) (append-nil (map entry_line log)) (entries_visible log [] is.entries tt))

  text_is : contexts_text contexts ++ entries_text log ≡ text_of_lines lines
  unfolding lines
  text_is =
      ap (λ t. t ++ entries_text log) (contexts_text_is contexts)
      ∙ (ap (λ t. text_of_lines (map context_line contexts) ++ t) (entries_text_is log)
      ∙ sym (flat_map-append (λ text. text ++ 10 ∷ []) (map context_line contexts) (map entry_line log)))

  pub cut_text : (part : List ℕ) → IsInOneLine part → completed (contexts_text contexts ++ entries_text log ++ part) ≡ log_text contexts log
  cut_text part one =
      let whole : rest_of (contexts_text contexts ++ entries_text log) ≡ [] = ap rest_of text_is ∙ (lines_are lines visible).1 in
      ap (λ t. t ++ codes "end\n") (whole_part (contexts_text contexts ++ entries_text log) part whole one) ∙ pieces_are contexts log
