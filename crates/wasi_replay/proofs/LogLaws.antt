-- A log is read exactly as it is written.
use Rattle.std.specs.Prelude.{IfSome, slice_get, codes, ◌↔◌}
use Rattle.std.proofs.Common.{◌≡◌, ℕ, suc, ◌+◌, ◌≤◌, ◌==◌, nat_le, Bool, true, false, cond, List, [], ◌∷◌, ◌++◌, length, take, map, Option, Some, None, Result, Ok, Err, append-nil, append_assoc, ap, sym, ◌∙◌, refl, arith, subst}
use Rattle.std.specs.List.{AllByRecursion}
use Rattle.std.proofs.lemmas.Bool.{and_parts, false≢true}
use Rattle.std.proofs.lemmas.Bool.Decides.{nat_tests}
use Rattle.std.proofs.lemmas.List.{map-append, take_all}
use Rattle.wasi_world.specs.Contexts.{AreNumbered}
use Rattle.wasi_world.specs.declared.call.Entry.{Entry}
use Rattle.wasi_world.specs.declared.outcome.WasiSocketsCtx.{WasiSocketsCtx}
use Rattle.world_scripted.proofs.ContextLines.{numbered_and}
use Rattle.world_text.specs.Lines.{lines_of, rest_of}
use Rattle.world_text.specs.Written.{IsVisible}
use Rattle.wasi_replay.specs.declared.line.Line.{Line}
use Rattle.wasi_replay.specs.declared.line.Line.TheVariants as line
use Rattle.wasi_replay.specs.Log.{IsEntry, entry_line, context_line, line_in, SoFar, so_far, start, add_read, with_line, next_lines, with_lines, is_whole, if_whole, log_within, log_lines, text_of_lines, log_text, HasLimit, IsLog}
use Rattle.wasi_replay.proofs.LineLaws.{IsNamed, line_is, line_written, line_visible}
use Rattle.wasi_replay.proofs.TextLines.{lines_are, text_is}

-- == what was read is written so
abbrev end_of : Bool → List (List ℕ)
end_of true = codes "end" ∷ []
end_of false = []

-- the lines that say it
abbrev said : SoFar → List (List ℕ)
said log = map context_line log.contexts ++ (map entry_line log.entries ++ end_of log.ended)

record IsSoFar (log : SoFar) : Type 0 where
  pub numbered : AreNumbered log.contexts
  pub limits : AllByRecursion HasLimit log.contexts
  pub entries : AllByRecursion IsEntry log.entries
  pub some : log.contexts ≡ [] → (log.entries ≡ []) × (log.ended ≡ false)

-- It is so after one more line, and is said by it too.
abbrev Grows : SoFar → List ℕ → SoFar → Type 0
Grows log text next = IsSoFar next × (said next ≡ said log ++ text ∷ [])

not_zero : (n : ℕ) → (suc n == 0) ≡ false
not_zero n = grind (arith, nat_tests)

nothing : {A : Type 0} (xs : List A) → (length xs == 0) ≡ true → xs ≡ []
nothing [] h = refl
nothing (x ∷ xs) h = absurd (false≢true (sym (not_zero (length xs)) ∙ h))

some_items : {A : Type 0} (x : A) (xs : List A) → x ∷ xs ≡ [] → ⊥
some_items x xs h = cc

something : {A : Type 0} (xs : List A) → (length xs == 0) ≡ false → xs ≡ [] → ⊥
something [] h e = false≢true (sym h)
something (x ∷ xs) h e = some_items x xs e

all_and : (es : List Entry) (e : Entry) → AllByRecursion IsEntry es → IsEntry e → AllByRecursion IsEntry (es ++ e ∷ [])
all_and [] e all last = (last, tt)
all_and (f ∷ es) e all last = (all.0, all_and es e all.1 last)

limits_and : (contexts : List WasiSocketsCtx) (context : WasiSocketsCtx) → AllByRecursion HasLimit contexts → HasLimit context → AllByRecursion HasLimit (contexts ++ context ∷ [])
limits_and [] context all last = (last, tt)
limits_and (c ∷ contexts) context all last = (all.0, limits_and contexts context all.1 last)

not_empty : {A : Type 0} (xs : List A) (x : A) → xs ++ x ∷ [] ≡ [] → ⊥
not_empty [] x h = cc
not_empty (y ∷ xs) x h = cc

-- the lines of contexts, of entries and of the end, with one more
one_context : (lines : List (List ℕ)) (text : List ℕ) → (lines ++ text ∷ []) ++ [] ≡ (lines ++ []) ++ text ∷ []
one_context lines text = append-nil (lines ++ text ∷ []) ∙ ap (λ l. l ++ text ∷ []) (sym (append-nil lines))

one_entry : (lines entries : List (List ℕ)) (text : List ℕ) → lines ++ ((entries ++ text ∷ []) ++ []) ≡ (lines ++ (entries ++ [])) ++ text ∷ []
one_entry lines entries text =
    ap (λ l. lines ++ l) (append-nil (entries ++ text ∷ [])) ∙ (sym (append_assoc lines entries (text ∷ [])) ∙ ap (λ l. (lines ++ l) ++ text ∷ []) (sym (append-nil entries)))

one_end : (lines entries : List (List ℕ)) (text : List ℕ) → lines ++ (entries ++ text ∷ []) ≡ (lines ++ (entries ++ [])) ++ text ∷ []
one_end lines entries text = sym (append_assoc lines entries (text ∷ [])) ∙ ap (λ l. (lines ++ l) ++ text ∷ []) (sym (append-nil entries))

first_context : (contexts : List WasiSocketsCtx) (context : WasiSocketsCtx) → IsSoFar (so_far contexts [] false) → IsNamed (length contexts) context → Grows (so_far contexts [] false) (context_line context) (so_far (contexts ++ context ∷ []) [] false)
first_context contexts context is named = (
  record { numbered = numbered_and contexts context named.0 is.numbered; limits = limits_and contexts context is.limits named.1; entries = tt; some = λ none. absurd (not_empty contexts context none) },
  ap (λ l. l ++ []) (map-append context_line contexts (context ∷ [])) ∙ one_context (map context_line contexts) (context_line context),
)

context_grows : (contexts : List WasiSocketsCtx) (entries : List Entry) (context : WasiSocketsCtx) → entries ≡ [] → IsSoFar (so_far contexts entries false) → IsNamed (length contexts) context → Grows (so_far contexts entries false) (context_line context) (so_far (contexts ++ context ∷ []) entries false)
context_grows contexts [] context none is named = first_context contexts context is named
context_grows contexts (e ∷ entries) context none is named = absurd (some_items e entries none)

context_by : (contexts : List WasiSocketsCtx) (entries : List Entry) (context : WasiSocketsCtx) (text : List ℕ) (next : SoFar) (none : Bool) → (length entries == 0) ≡ none → IsSoFar (so_far contexts entries false) → text ≡ context_line context → IsNamed (length contexts) context → cond none (Some (so_far (contexts ++ context ∷ []) entries false)) None ≡ Some next → Grows (so_far contexts entries false) text next
context_by contexts entries context text next true e is written named h =
    let same : next ≡ so_far (contexts ++ context ∷ []) entries false = cc in
    rw (same, written) (context_grows contexts entries context (nothing entries e) is named)
context_by contexts entries context text next false e is written named h = cc

entry_grows : (contexts : List WasiSocketsCtx) (entries : List Entry) (e : Entry) (text : List ℕ) (next : SoFar) (none : Bool) → (length contexts == 0) ≡ none → IsSoFar (so_far contexts entries false) → text ≡ entry_line e → IsEntry e → cond none None (Some (so_far contexts (entries ++ e ∷ []) false)) ≡ Some next → Grows (so_far contexts entries false) text next
entry_grows contexts entries e text next true h is written fits same = cc
entry_grows contexts entries e text next false h is written fits k =
    let same : next ≡ so_far contexts (entries ++ e ∷ []) false = cc in
    rw (same, written) (
      record { numbered = is.numbered; limits = is.limits; entries = all_and entries e is.entries fits; some = λ none. absurd (something contexts h none) },
      ap (λ l. map context_line contexts ++ (l ++ [])) (map-append entry_line entries (e ∷ [])) ∙ one_entry (map context_line contexts) (map entry_line entries) (entry_line e),
    )

end_grows : (contexts : List WasiSocketsCtx) (entries : List Entry) (text : List ℕ) (next : SoFar) (none : Bool) → (length contexts == 0) ≡ none → IsSoFar (so_far contexts entries false) → text ≡ codes "end" → cond none None (Some (so_far contexts entries true)) ≡ Some next → Grows (so_far contexts entries false) text next
end_grows contexts entries text next true h is written same = cc
end_grows contexts entries text next false h is written k =
    let same : next ≡ so_far contexts entries true = cc in
    rw (same, written) (
      record { numbered = is.numbered; limits = is.limits; entries = is.entries; some = λ none. absurd (something contexts h none) },
      one_end (map context_line contexts) (map entry_line entries) (codes "end"),
    )

added : (contexts : List WasiSocketsCtx) (entries : List Entry) (text : List ℕ) (next : SoFar) (found : Option Line) → line_in (length contexts) text ≡ found → IsSoFar (so_far contexts entries false) → add_read (so_far contexts entries false) found ≡ Some next → Grows (so_far contexts entries false) text next
added contexts entries text next None e is h = cc
added contexts entries text next (Some (line.Context context)) e is h =
    let it = line_is (length contexts) text (line.Context context) e in
    context_by contexts entries context text next (length entries == 0) refl is it.0 it.1 h
added contexts entries text next (Some (line.Entry f)) e is h =
    let it = line_is (length contexts) text (line.Entry f) e in
    entry_grows contexts entries f text next (length contexts == 0) refl is it.0 it.1 h
added contexts entries text next (Some line.End) e is h =
    let it = line_is (length contexts) text line.End e in
    end_grows contexts entries text next (length contexts == 0) refl is it.0 h

line_grows : (contexts : List WasiSocketsCtx) (entries : List Entry) (ended : Bool) (text : List ℕ) (next : SoFar) → IsSoFar (so_far contexts entries ended) → with_line (so_far contexts entries ended) text ≡ Some next → Grows (so_far contexts entries ended) text next
line_grows contexts entries true text next is h = cc
line_grows contexts entries false text next is h = added contexts entries text next (line_in (length contexts) text) refl is h

line_then : (number : ℕ) (log last : SoFar) (text : List ℕ) (lines : List (List ℕ)) (next : Option SoFar) → with_line log text ≡ next → IsSoFar log → next_lines number next (λ more. with_lines (number + 1) more lines) ≡ Ok last → ((more : SoFar) → IsSoFar more → with_lines (number + 1) more lines ≡ Ok last → IsSoFar last × (said last ≡ said more ++ lines)) → IsSoFar last × (said last ≡ said log ++ text ∷ lines)
line_then number log last text lines None e is h again = cc
line_then number log last text lines (Some next) e is h again =
    let one = line_grows log.contexts log.entries log.ended text next is e in
    let more = again next one.0 h in
    (more.0, more.1 ∙ (ap (λ front. front ++ lines) one.1 ∙ append_assoc (said log) (text ∷ []) lines))

lines_grow : (number : ℕ) (log last : SoFar) (lines : List (List ℕ)) → IsSoFar log → with_lines number log lines ≡ Ok last → IsSoFar last × (said last ≡ said log ++ lines)
lines_grow number log last [] is h = let same : last ≡ log = cc in rw same (is, sym (append-nil (said log)))
lines_grow number log last (text ∷ lines) is h = line_then number log last text lines (with_line log text) refl is h (λ more so e. lines_grow (number + 1) more last lines so e)

starts : IsSoFar start
starts = record { numbered = λ i. tt; limits = tt; entries = tt; some = λ none. (refl, refl) }

-- a whole text that ends
ended_is : (last : SoFar) (lines : ℕ) (contexts : List WasiSocketsCtx) (log : List Entry) (b : Bool) → last.ended ≡ b → ◌≡◌ {A = Result (List WasiSocketsCtx × List Entry) ℕ} (cond b (Ok (last.contexts, last.entries)) (Err (lines + 1))) (Ok (contexts, log)) → last ≡ so_far contexts log true
ended_is last lines contexts log false is h = cc
ended_is last lines contexts log true is h =
    let same : ◌≡◌ {A = List WasiSocketsCtx × List Entry} (last.contexts, last.entries) (contexts, log) = cc in
    ap (λ c. so_far c last.entries last.ended) (ap (λ (p : List WasiSocketsCtx × List Entry). p.0) same)
    ∙ (ap (λ l. so_far contexts l last.ended) (ap (λ (p : List WasiSocketsCtx × List Entry). p.1) same) ∙ ap (so_far contexts log) is)

read_by : (lines : ℕ) (contexts : List WasiSocketsCtx) (log : List Entry) (whole : Bool) (found : Result SoFar ℕ) → if_whole whole lines found ≡ Ok (contexts, log) → (whole ≡ true) × (found ≡ Ok (so_far contexts log true))
read_by lines contexts log whole (Err n) h = cc
read_by lines contexts log false (Ok last) h = cc
read_by lines contexts log true (Ok last) h = (refl, ap (λ (l : SoFar). Ok l) (ended_is last lines contexts log last.ended refl h))

no_bytes : (rest : List ℕ) → (length rest == 0) ≡ true → rest ≡ []
no_bytes rest h = nothing rest h

short_enough : (n most : ℕ) → nat_le n most ≡ true → n ≤ most
short_enough n most h = grind (arith, nat_tests)

pub read_is : (most : ℕ) (text : List ℕ) (contexts : List WasiSocketsCtx) (log : List Entry) → log_within most text ≡ Ok (contexts, log) → (text ≡ log_text contexts log) × (length text ≤ most) × IsLog contexts log
unfolding log_within
read_is most text contexts log h =
    let is = read_by (length (lines_of (take most text))) contexts log (is_whole most text) (with_lines 1 start (lines_of (take most text))) h in
    let parts = and_parts _ _ is.0 in
    let short = short_enough (length text) most parts.1 in
    let all : take most text ≡ text = take_all most text short in
    let grown = lines_grow 1 start (so_far contexts log true) (lines_of (take most text)) starts is.1 in
    let lines : log_lines contexts log ≡ lines_of text = rw all at grown.1 in (
      text_is text (rw all at (no_bytes _ parts.0)) ∙ ap text_of_lines (sym lines),
      short,
      record {
        some = λ none. (let ends = (grown.0.some none).1 in cc);
        numbered = grown.0.numbered;
        limits = grown.0.limits;
        entries = grown.0.entries;
      },
    )

-- == and what is written so is read
each_at : {A : Type 0} (P : ℕ → A → Type 0) (xs : List A) (x : A) (ys : List A) → ((i : ℕ) → IfSome (slice_get (xs ++ x ∷ ys) i) (P i)) → P (length xs) x
each_at P [] x ys each = each 0
each_at P (y ∷ xs) x ys each = each_at (λ i. P (suc i)) xs x ys (λ i. each (suc i))

context_read : (contexts : List WasiSocketsCtx) (context : WasiSocketsCtx) → IsNamed (length contexts) context → with_line (so_far contexts [] false) (context_line context) ≡ Some (so_far (contexts ++ context ∷ []) [] false)
context_read contexts context named = ap (add_read (so_far contexts [] false)) (line_written (length contexts) (line.Context context) named)

contexts_read : (number : ℕ) (before contexts : List WasiSocketsCtx) (lines : List (List ℕ)) → AreNumbered (before ++ contexts) → AllByRecursion HasLimit contexts → (m : ℕ) × (with_lines number (so_far before [] false) (map context_line contexts ++ lines) ≡ with_lines m (so_far (before ++ contexts) [] false) lines)
contexts_read number before [] lines numbered limits = (number, ap (λ all. with_lines number (so_far all [] false) lines) (sym (append-nil before)))
contexts_read number before (context ∷ contexts) lines numbered limits =
    let named = each_at (λ i (c : WasiSocketsCtx). c.name ≡ i) before context contexts numbered in
    let same = append_assoc before (context ∷ []) contexts in
    let more = contexts_read (number + 1) (before ++ context ∷ []) contexts lines (subst AreNumbered (sym same) numbered) limits.1 in
    (more.0, ap (λ next. next_lines number next (λ log. with_lines (number + 1) log (map context_line contexts ++ lines))) (context_read before context (named, limits.0)) ∙ (more.1 ∙ ap (λ all. with_lines more.0 (so_far all [] false) lines) same))

some_length : {A : Type 0} (xs : List A) → (xs ≡ [] → ⊥) → (length xs == 0) ≡ false
some_length [] some = absurd (some refl)
some_length (x ∷ xs) some = not_zero (length xs)

entry_read : (contexts : List WasiSocketsCtx) (entries : List Entry) (e : Entry) → (contexts ≡ [] → ⊥) → IsEntry e → with_line (so_far contexts entries false) (entry_line e) ≡ Some (so_far contexts (entries ++ e ∷ []) false)
entry_read contexts entries e some fits =
    ap (add_read (so_far contexts entries false)) (line_written (length contexts) (line.Entry e) fits)
    ∙ ap (λ b. cond b None (Some (so_far contexts (entries ++ e ∷ []) false))) (some_length contexts some)

entries_read : (number : ℕ) (contexts : List WasiSocketsCtx) (before entries : List Entry) (lines : List (List ℕ)) → (contexts ≡ [] → ⊥) → AllByRecursion IsEntry entries → (m : ℕ) × (with_lines number (so_far contexts before false) (map entry_line entries ++ lines) ≡ with_lines m (so_far contexts (before ++ entries) false) lines)
entries_read number contexts before [] lines some fits = (number, ap (λ all. with_lines number (so_far contexts all false) lines) (sym (append-nil before)))
entries_read number contexts before (e ∷ entries) lines some fits =
    let more = entries_read (number + 1) contexts (before ++ e ∷ []) entries lines some fits.1 in
    (more.0, ap (λ next. next_lines number next (λ log. with_lines (number + 1) log (map entry_line entries ++ lines))) (entry_read contexts before e some fits.0) ∙ (more.1 ∙ ap (λ all. with_lines more.0 (so_far contexts all false) lines) (append_assoc before (e ∷ []) entries)))

end_read : (number : ℕ) (contexts : List WasiSocketsCtx) (entries : List Entry) → (contexts ≡ [] → ⊥) → with_lines number (so_far contexts entries false) (codes "end" ∷ []) ≡ Ok (so_far contexts entries true)
end_read number contexts entries some =
    ap (λ next. next_lines number next (λ log. with_lines (number + 1) log []))
    (ap (add_read (so_far contexts entries false)) (line_written (length contexts) line.End tt)
    ∙ ap (λ b. cond b None (Some (so_far contexts entries true))) (some_length contexts some))

all_lines : (contexts : List WasiSocketsCtx) (log : List Entry) → IsLog contexts log → with_lines 1 start (log_lines contexts log) ≡ Ok (so_far contexts log true)
all_lines contexts log is =
    let first = contexts_read 1 [] contexts (map entry_line log ++ codes "end" ∷ []) is.numbered is.limits in
    let second = entries_read first.0 contexts [] log (codes "end" ∷ []) is.some is.entries in
    first.1 ∙ (second.1 ∙ end_read second.0 contexts log is.some)

pub contexts_visible : (contexts : List WasiSocketsCtx) (more : List (List ℕ)) → AllByRecursion HasLimit contexts → AllByRecursion IsVisible more → AllByRecursion IsVisible (map context_line contexts ++ more)
contexts_visible [] more limits h = h
contexts_visible (context ∷ contexts) more limits h = (line_visible context.name (line.Context context) (refl, limits.0), contexts_visible contexts more limits.1 h)

pub entries_visible : (log : List Entry) (more : List (List ℕ)) → AllByRecursion IsEntry log → AllByRecursion IsVisible more → AllByRecursion IsVisible (map entry_line log ++ more)
entries_visible [] more fits h = h
entries_visible (e ∷ log) more fits h = (line_visible 0 (line.Entry e) fits.0, entries_visible log more fits.1 h)

lines_visible : (contexts : List WasiSocketsCtx) (log : List Entry) → AllByRecursion HasLimit contexts → AllByRecursion IsEntry log → AllByRecursion IsVisible (log_lines contexts log)
lines_visible contexts log limits fits = contexts_visible contexts _ limits (entries_visible log (codes "end" ∷ []) fits (refl, tt))

short : (n most : ℕ) → n ≤ most → nat_le n most ≡ true
short n most h = grind (arith, nat_tests)

within : (most : ℕ) (text : List ℕ) (lines : List (List ℕ)) (contexts : List WasiSocketsCtx) (log : List Entry) → take most text ≡ text → lines_of text ≡ lines → rest_of text ≡ [] → nat_le (length text) most ≡ true → with_lines 1 start lines ≡ Ok (so_far contexts log true) → log_within most text ≡ Ok (contexts, log)
unfolding log_within
within most text lines contexts log all are rest fits read = rw (all, are, rest, fits, read) refl

pub written_is : (most : ℕ) (contexts : List WasiSocketsCtx) (log : List Entry) → IsLog contexts log → length (log_text contexts log) ≤ most → log_within most (log_text contexts log) ≡ Ok (contexts, log)
written_is most contexts log is fits =
    let lines = lines_are (log_lines contexts log) (lines_visible contexts log is.limits is.entries) in
    within most (log_text contexts log) (log_lines contexts log) contexts log (take_all most (log_text contexts log) fits) lines.0 lines.1 (short (length (log_text contexts log)) most fits) (all_lines contexts log is)

pub log_exactly : (most : ℕ) (text : List ℕ) (contexts : List WasiSocketsCtx) (log : List Entry) → (log_within most text ≡ Ok (contexts, log)) ↔ ((text ≡ log_text contexts log) × (length text ≤ most) × IsLog contexts log)
log_exactly most text contexts log = (read_is most text contexts log, λ h. subst (λ t. log_within most t ≡ Ok (contexts, log)) (sym h.0) (written_is most contexts log h.2 (subst (λ t. length t ≤ most) h.0 h.1)))
