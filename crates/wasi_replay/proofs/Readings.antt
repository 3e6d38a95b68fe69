-- What is known of a log that was read.
use Rattle.std.specs.Prelude.{codes, map}
use Rattle.std.specs.List.{list_all, AllByRecursion}
use Rattle.std.proofs.Common.{◌≡◌, ℕ, ◌+◌, ◌<◌, ◌≤◌, Bool, true, List, [], ◌∷◌, ◌++◌, length, Result, Ok, arith, ap, refl, length-append}
use Rattle.std.proofs.lemmas.List.{length-map}
use Rattle.wasi_world.specs.Contexts.{AreNumbered}
use Rattle.wasi_world.specs.declared.call.Entry.{Entry}
use Rattle.wasi_world.specs.declared.outcome.WasiSocketsCtx.{WasiSocketsCtx}
use Rattle.wasi_replay.specs.Recorded.{fits_entry}
use Rattle.wasi_replay.specs.Log.{IsEntry, IsLog, log_of, log_text, log_lines, text_of_lines, context_line, entry_line}
use Rattle.wasi_replay.proofs.Fitting.{entry_decides}
use Rattle.wasi_replay.proofs.LogLaws.{read_is}

all_fit : (log : List Entry) → AllByRecursion IsEntry log → list_all fits_entry log ≡ true
all_fit [] all = refl
all_fit (e ∷ log) all = rw ((entry_decides e).1 all.0.fitting) (all_fit log all.1)

-- each line takes a byte at least
lines_within : (lines : List (List ℕ)) → length lines ≤ length (text_of_lines lines)
lines_within [] = omega arith
lines_within (line ∷ lines) = omega (arith, lines_within lines, length-append (line ++ 10 ∷ []) (text_of_lines lines), length-append line (10 ∷ []))

module _ (text : List ℕ) (contexts : List WasiSocketsCtx) (log : List Entry) (read : log_of text ≡ Ok (contexts, log)) where
  pub read_fits : list_all fits_entry log ≡ true
  read_fits = all_fit log (read_is 4294967294 text contexts log read).2.entries

  pub read_numbered : AreNumbered contexts
  read_numbered = (read_is 4294967294 text contexts log read).2.numbered

  count : length contexts + length log ≤ 4294967294
  count =
      let is = read_is 4294967294 text contexts log read in
      omega (arith, ap length is.0, is.1, lines_within (log_lines contexts log), length-append (map context_line contexts) (map entry_line log ++ codes "end" ∷ []), length-append (map entry_line log) (codes "end" ∷ []), length-map contexts context_line, length-map log entry_line)

  pub few_contexts : length contexts < 4294967296
  few_contexts = omega (arith, count)

  pub few_entries : length log < 4294967295
  few_entries = omega (arith, count)
