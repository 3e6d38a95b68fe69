-- The lines of a piece, the first of which began before it.
use Rattle.wasi_run.proofs.LineWords.{◌≡◌, ◌∙◌, ap, sym, refl, ℕ, ◌+◌, ◌-◌, ◌≤◌, ◌==◌, List, [], ◌∷◌, ◌++◌, length, take, drop, Some, None, Result, Ok, Err, append-nil, add-zero, arith, position, take_rest, WasiSocketsCtx, Seen, Writing, Machine, lines_of, rest_of, lines_from, rest_from, Cut, NoCut, cut_at, no_cut, cut_line, cut_after, cut_within}
use Rattle.wasi_run.specs.declared.lines.LinesEnd.{LinesEnd}
use Rattle.wasi_run.specs.declared.lines.LinesEnd.TheVariants as lines
use Rattle.wasi_run.specs.declared.error.RunError.{RunError}
use Rattle.wasi_run.specs.declared.error.RunError.TheVariants.{Memory}
use Rattle.wasi_run.specs.Lines.{LeftAt, KeptOf}
use Rattle.wasi_run.specs.Ran.{LinesRan}
use Rattle.wasi_run.proofs.LinesJoined.{lines_then, lines_none, lines_ahead, IsOver}
use Rattle.wasi_run.proofs.OneLine.{none_done}

pub piece_cut : (front piece : List ℕ) (end : ℕ) → Some end ≡ position (λ b. b == 10) piece → Cut front piece end
piece_cut front piece end h = cut_at front piece end (sym h)

pub piece_whole : (front piece : List ℕ) → None ≡ position (λ b. b == 10) piece → NoCut front piece
piece_whole front piece h = no_cut front piece (sym h)

-- memory ran out after the lines
pub starved : {contexts : List WasiSocketsCtx} {w_old w_new : Seen} {k_old k_new : Writing} {first last : Machine} {line : ℕ} {ls : List (List ℕ)} → LinesRan contexts w_old w_new k_old k_new first line ls (Ok lines.AllDone) last → LinesRan contexts w_old w_new k_old k_new first line ls (Err Memory) last
starved {contexts} {w_new = w_new} {k_new = k_new} {last = last} {line = line} {ls = ls} h = rw append-nil at (lines_then h (none_done contexts w_new k_new last last (line + length ls) [] refl))

-- the first line of a piece, and then the others
piece_lines : (front piece : List ℕ) (end : ℕ) → Cut front piece end → lines_from front piece ≡ (front ++ take end piece) ∷ lines_of (drop (end + 1) piece)
piece_lines front piece end cut =
    cut.lines ∙ (ap (λ l. (front ++ l) ∷ lines_of cut.after) (sym (cut_line front piece end cut)) ∙ ap (λ t. (front ++ take end piece) ∷ lines_of t) (sym (cut_after front piece end cut)))

piece_rest : (front piece : List ℕ) (end : ℕ) → Cut front piece end → rest_from front piece ≡ rest_of (drop (end + 1) piece)
piece_rest front piece end cut = cut.rest ∙ ap rest_of (sym (cut_after front piece end cut))

module _ {contexts : List WasiSocketsCtx} {w_old w_new : Seen} {k_old k_new : Writing} {first last : Machine} {line end : ℕ} {front piece : List ℕ} {outcome : Result LinesEnd RunError} where
  pub piece_over : Cut front piece end → IsOver outcome → LinesRan contexts w_old w_new k_old k_new first line ((front ++ take end piece) ∷ []) outcome last → LinesRan contexts w_old w_new k_old k_new first line (lines_from front piece) outcome last
  piece_over cut o h = rw (piece_lines front piece end cut) (lines_ahead (lines_of (drop (end + 1) piece)) o h)

module _ {contexts : List WasiSocketsCtx} {w_old w_mid w_new : Seen} {k_old k_mid k_new : Writing} {first mid last : Machine} {line line' end : ℕ} {front piece : List ℕ} {outcome : Result LinesEnd RunError} where
  pub piece_then : Cut front piece end → LinesRan contexts w_old w_mid k_old k_mid first line ((front ++ take end piece) ∷ []) (Ok lines.AllDone) mid → line' ≡ line + 1 → LinesRan contexts w_mid w_new k_mid k_new mid line' (lines_of (drop (end + 1) piece)) outcome last → LinesRan contexts w_old w_new k_old k_new first line (lines_from front piece) outcome last
  piece_then cut h e k = rw (piece_lines front piece end cut) (lines_then h (rw e at k))

pub piece_none : (contexts : List WasiSocketsCtx) (w : Seen) (k : Writing) (first : Machine) (line : ℕ) (front piece : List ℕ) → NoCut front piece → LinesRan contexts w w k k first line (lines_from front piece) (Ok lines.AllDone) first
piece_none contexts w k first line front piece none = rw none.lines (lines_none contexts w k first line)

pub kept_none : (number : ℕ) (front piece kept : List ℕ) → NoCut front piece → kept ≡ front ++ piece → KeptOf number front piece number kept
kept_none number front piece kept none e = record { rest = e ∙ sym none.rest; count = sym (ap (λ ls. number + length ls) none.lines ∙ add-zero number) }

pub kept_some : (number_old number_mid number : ℕ) (front piece kept : List ℕ) (end at : ℕ) → Cut front piece end → number_mid ≡ number_old + 1 → LeftAt number_mid (end + 1) piece number at → kept ≡ take (length piece - at) (drop at piece) → KeptOf number_old front piece number kept
kept_some number_old number_mid number front piece kept end at cut n l e = record {
  rest = e ∙ (take_rest piece at ∙ (l.left ∙ sym (piece_rest front piece end cut)));
  count = omega (arith, n, l.count, ap length (piece_lines front piece end cut));
}

-- the place behind the first line lies within the piece
pub first_within : (front piece : List ℕ) (end : ℕ) → Some end ≡ position (λ b. b == 10) piece → end + 1 ≤ length piece
first_within front piece end h = cut_within front piece end (piece_cut front piece end h)
