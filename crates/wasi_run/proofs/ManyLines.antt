-- The lines of some bytes, one after another.
use Rattle.wasi_run.proofs.LineWords.{◌≡◌, ◌∙◌, ap, sym, refl, ℕ, ◌+◌, ◌-◌, ◌≤◌, ◌==◌, List, [], ◌∷◌, ◌++◌, length, take, drop, Some, None, Ok, Result, append_assoc, append-nil, length-append, length-drop, add-zero, arith, ◌<◌, drop-drop, take_rest, position, WasiSocketsCtx, Seen, Writing, Machine, lines_of, rest_of, Cut, NoCut, cut_at, no_cut, cut_line, cut_after, cut_within}
use Rattle.wasi_run.specs.declared.lines.LinesEnd.{LinesEnd}
use Rattle.wasi_run.specs.declared.lines.LinesEnd.TheVariants as lines
use Rattle.wasi_run.specs.declared.error.RunError.{RunError}
use Rattle.wasi_run.specs.Lines.{LeftAt}
use Rattle.wasi_run.specs.Ran.{LinesRan}
use Rattle.wasi_run.proofs.LinesJoined.{lines_then, lines_none, lines_ahead, IsOver}

-- Of the bytes from start on, the lines up to a place were done.
pub record Going (contexts : List WasiSocketsCtx) (w_old w_new : Seen) (k_old k_new : Writing) (first now : Machine) (start : ℕ) (bytes : List ℕ) (number_old number at : ℕ) : Type 0 where
  pub within : at ≤ length bytes
  pub done : List (List ℕ)
  pub ran : LinesRan contexts w_old w_new k_old k_new first (number_old + 1) done (Ok lines.AllDone) now
  pub all : lines_of (drop start bytes) ≡ done ++ lines_of (drop at bytes)
  pub rest : rest_of (drop start bytes) ≡ rest_of (drop at bytes)
  pub count : number ≡ number_old + length done
  pub few : length done + start ≤ at

pub going_start : (contexts : List WasiSocketsCtx) (w : Seen) (k : Writing) (first : Machine) (start : ℕ) (bytes : List ℕ) (number : ℕ) → start ≤ length bytes → Going contexts w w k k first first start bytes number number start
going_start contexts w k first start bytes number h = record {
  within = h;
  done = [];
  ran = lines_none contexts w k first (number + 1);
  all = refl;
  rest = refl;
  count = sym (add-zero number);
  few = omega arith;
}

-- the code's next newline
pub found : (at end : ℕ) (bytes : List ℕ) → Some end ≡ position (λ b. b == 10) (take (length bytes - at) (drop at bytes)) → Cut [] (drop at bytes) end
found at end bytes h = cut_at [] (drop at bytes) end (ap (position (λ b. b == 10)) (sym (take_rest bytes at)) ∙ sym h)

pub found_none : (at : ℕ) (bytes : List ℕ) → None ≡ position (λ b. b == 10) (take (length bytes - at) (drop at bytes)) → NoCut [] (drop at bytes)
found_none at bytes h = no_cut [] (drop at bytes) (ap (position (λ b. b == 10)) (sym (take_rest bytes at)) ∙ sym h)

-- the code's line
line_is : (at end : ℕ) (bytes : List ℕ) (cut : Cut [] (drop at bytes) end) → take (at + end - at) (drop at bytes) ≡ cut.line
line_is at end bytes cut = let e : at + end - at ≡ end = omega arith in ap (λ n. take n (drop at bytes)) e ∙ cut_line [] (drop at bytes) end cut

next_place : (at end : ℕ) (bytes : List ℕ) (cut : Cut [] (drop at bytes) end) → cut.after ≡ drop (at + (end + 1)) bytes
next_place at end bytes cut = sym (cut_after [] (drop at bytes) end cut) ∙ drop-drop (end + 1) at bytes

next_within : (at end : ℕ) (bytes : List ℕ) → at ≤ length bytes → Cut [] (drop at bytes) end → at + (end + 1) ≤ length bytes
next_within at end bytes h cut = let k = cut_within [] (drop at bytes) end cut in omega (arith, k, length-drop at bytes)

next_all : (start at end : ℕ) (bytes : List ℕ) (done : List (List ℕ)) (cut : Cut [] (drop at bytes) end) → lines_of (drop start bytes) ≡ done ++ lines_of (drop at bytes) → lines_of (drop start bytes) ≡ (done ++ cut.line ∷ []) ++ lines_of (drop (at + (end + 1)) bytes)
next_all start at end bytes done cut h =
    h ∙ ap (λ ls. done ++ ls) (cut.lines ∙ ap (λ t. cut.line ∷ lines_of t) (next_place at end bytes cut)) ∙ sym (append_assoc done (cut.line ∷ []) (lines_of (drop (at + (end + 1)) bytes)))

number_is : (number_old number : ℕ) (done : List (List ℕ)) → number ≡ number_old + length done → number + 1 ≡ number_old + 1 + length done
number_is number_old number done h = omega (arith, h)

module _ {contexts : List WasiSocketsCtx} {w_old w_mid w_new : Seen} {k_old k_mid k_new : Writing} {first now last : Machine} {start number_old number at end : ℕ} {bytes : List ℕ} {outcome : Result LinesEnd RunError} where
  -- one line more, however it ended
  ran_on : (h : Going contexts w_old w_mid k_old k_mid first now start bytes number_old number at) (cut : Cut [] (drop at bytes) end) → LinesRan contexts w_mid w_new k_mid k_new now (number + 1) (take (at + end - at) (drop at bytes) ∷ []) outcome last → LinesRan contexts w_old w_new k_old k_new first (number_old + 1) (h.done ++ cut.line ∷ []) outcome last
  ran_on h cut k = lines_then h.ran (rw (line_is at end bytes cut, number_is number_old number h.done h.count) at k)

  pub going_over : Going contexts w_old w_mid k_old k_mid first now start bytes number_old number at → Cut [] (drop at bytes) end → IsOver outcome → LinesRan contexts w_mid w_new k_mid k_new now (number + 1) (take (at + end - at) (drop at bytes) ∷ []) outcome last → LinesRan contexts w_old w_new k_old k_new first (number_old + 1) (lines_of (drop start bytes)) outcome last
  going_over h cut o k = rw (next_all start at end bytes h.done cut h.all) (lines_ahead (lines_of (drop (at + (end + 1)) bytes)) o (ran_on h cut k))

module _ {contexts : List WasiSocketsCtx} {w_old w_mid w_new : Seen} {k_old k_mid k_new : Writing} {first now last : Machine} {start number_old number number' at end : ℕ} {bytes : List ℕ} where
  pub going_on : Going contexts w_old w_mid k_old k_mid first now start bytes number_old number at → Cut [] (drop at bytes) end → LinesRan contexts w_mid w_new k_mid k_new now (number + 1) (take (at + end - at) (drop at bytes) ∷ []) (Ok lines.AllDone) last → number' ≡ number + 1 → Going contexts w_old w_new k_old k_new first last start bytes number_old number' (at + (end + 1))
  going_on h cut k e = record {
    within = next_within at end bytes h.within cut;
    done = h.done ++ cut.line ∷ [];
    ran = ran_on h cut k;
    all = next_all start at end bytes h.done cut h.all;
    rest = h.rest ∙ (cut.rest ∙ ap rest_of (next_place at end bytes cut));
    count = omega (arith, e, h.count, length-append h.done (cut.line ∷ []));
    few = omega (arith, h.few, length-append h.done (cut.line ∷ []));
  }

module _ {contexts : List WasiSocketsCtx} {w_old w_mid : Seen} {k_old k_mid : Writing} {first now : Machine} {start number_old number at : ℕ} {bytes : List ℕ} where
  pub going_all : Going contexts w_old w_mid k_old k_mid first now start bytes number_old number at → NoCut [] (drop at bytes) → LinesRan contexts w_old w_mid k_old k_mid first (number_old + 1) (lines_of (drop start bytes)) (Ok lines.AllDone) now
  going_all h none = rw (h.all, none.lines, append-nil) h.ran

  pub going_left : Going contexts w_old w_mid k_old k_mid first now start bytes number_old number at → NoCut [] (drop at bytes) → LeftAt number_old start bytes number at
  going_left h none = record {
    within = h.within;
    left = sym (h.rest ∙ none.rest);
    count = h.count ∙ ap (λ ls. number_old + length ls) (sym (h.all ∙ (ap (λ ls. h.done ++ ls) none.lines ∙ append-nil h.done)));
  }

  -- the next line's number fits
  pub going_fits : Going contexts w_old w_mid k_old k_mid first now start bytes number_old number at → (end most : ℕ) → Cut [] (drop at bytes) end → number_old + length bytes < most + start → number + 1 < most
  going_fits h end most cut f = let k = next_within at end bytes h.within cut in omega (arith, k, f, h.count, h.few)
