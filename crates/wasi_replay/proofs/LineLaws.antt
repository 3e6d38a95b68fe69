-- Each line of a log is read exactly as it is written.
use Rattle.std.specs.Prelude.{codes, ◌↔◌}
use Rattle.std.proofs.Common.{◌≡◌, ℕ, ◌<◌, ◌≤◌, Bool, true, false, cond, List, [], ◌∷◌, ◌++◌, bytes_eq, Option, Some, None, decimal, arith, ap, sym, ◌∙◌, refl, IsTrue, append-nil, subst}
use Rattle.std.specs.List.{list_all}
use Rattle.std.specs.Str.Parse.{AllDigits}
use Rattle.std.proofs.lemmas.Fmt.{decimal_is_IsNumeral}
use Rattle.std.proofs.lemmas.Slice.Eq.{bytes_eq-Decides}
use Rattle.std.proofs.lemmas.Str.Parse.{digit_from_value}
use Rattle.wasi_world.specs.declared.call.Entry.{Entry}
use Rattle.wasi_world.specs.declared.outcome.WasiSocketsCtx.{WasiSocketsCtx}
use Rattle.world_scripted.specs.Scenario.{yes_or_no, yes_or_no_at}
use Rattle.world_text.specs.Fields.{whole, fields_of, line_with, number_at}
use Rattle.world_text.specs.Written.{ReadsExactly, number_fields, AreVisible, IsVisible, is_visible}
use Rattle.world_text.proofs.Exactly.{All, Only, exactly, all_give, only_give, only_some, all_then, only_then, all_last, number_exactly}
use Rattle.world_text.proofs.ReadBack.{word_exactly}
use Rattle.world_text.proofs.Visible.{visible_utf8, number_visible, fields_of_line, line_of_fields, visible_line}
use Rattle.world_text.proofs.Words.{only_word}
use Rattle.wasi_replay.specs.Arguments.{sock_fields}
use Rattle.wasi_replay.specs.Calls.{call_fields, told_fields}
use Rattle.wasi_replay.specs.Recorded.{fits_entry, FitsEntry}
use Rattle.wasi_replay.specs.declared.line.Line.{Line}
use Rattle.wasi_replay.specs.declared.line.Line.TheVariants as line
use Rattle.wasi_replay.specs.Log.{equals_word, equals_at, if_fits, entry_at, entry_in, entry_fields, entry_line, IsEntry, allowed_text, allowed_at, context_word, context_at, context_in, context_fields, context_line, HasLimit, line_or, line_in, line_text}
use Rattle.wasi_replay.proofs.Fitting.{entry_decides}
use Rattle.wasi_replay.proofs.Ends.{ReadsLast, lastly, last_some, last_then, last_alone, only_next, both_visible}
use Rattle.wasi_replay.proofs.ArgumentLaws.{sock_exactly, sock_visible}
use Rattle.wasi_replay.proofs.CallLaws.{call_exactly, call_visible, told_last, told_visible}

whole_is : {A : Type 0} (found : Option (A × List (List ℕ))) (value : A) → whole found ≡ Some value → found ≡ Some (value, [])
whole_is None value h = cc
whole_is (Some (other, [])) value h = cc
whole_is (Some (other, field ∷ rest)) value h = cc

-- == entries
equals_exactly : ReadsExactly equals_at (λ u. codes "=" ∷ []) (λ u. Unit {0})
unfolding equals_at
equals_exactly = exactly
    (only_then _ word_exactly (λ word utf8. only_word (λ word taken u. Unit {0} × (word ∷ taken ≡ codes "=" ∷ [])) equals_word word (only_give tt (tt, refl), tt)))
    (λ u fits. all_last _ word_exactly (visible_utf8 _ refl) all_give)

fitting_is : (fits : Bool) (e f : Entry) → fits_entry e ≡ fits → cond fits (Some e) None ≡ Some f → (e ≡ f) × FitsEntry e
fitting_is true e f fits h = (cc, (entry_decides e).0 fits)
fitting_is false e f fits h = cc

fitting : (e : Entry) → FitsEntry e → if_fits e ≡ Some e
fitting e fits = rw ((entry_decides e).1 fits) refl

entry_last : ReadsLast entry_at entry_fields IsEntry
unfolding entry_at
entry_last = lastly
    (only_then _ sock_exactly (λ op fo. only_then _ call_exactly (λ call fc. only_then _ equals_exactly (λ u fu. only_next _ told_last (λ told ft.
    only_some _ (λ f h.
    let is = fitting_is (fits_entry (record { op = op; call = call; answer = told })) (record { op = op; call = call; answer = told }) f refl h in
    rw (← is.0) (record { op = fo; call = fc; answer = ft; fitting = is.1 }, ap (λ last. sock_fields op ++ (call_fields call ++ codes "=" ∷ last)) (append-nil (told_fields told)))))))))
    (λ e fits. last_then _ sock_exactly fits.op (last_then _ call_exactly fits.call (last_then _ equals_exactly tt (last_alone _ told_last fits.answer (last_some _ (fitting e fits.fitting))))))

entry_visible : (e : Entry) → IsEntry e → AreVisible (entry_fields e)
entry_visible e fits =
    both_visible (sock_fields e.op) (call_fields e.call ++ codes "=" ∷ told_fields e.answer) (sock_visible e.op fits.op)
    (both_visible (call_fields e.call) (codes "=" ∷ told_fields e.answer) (call_visible e.call fits.call) (refl, told_visible e.answer fits.answer))

some_fields : (e : Entry) → entry_fields e ≡ [] → ⊥
some_fields e h = cc

entry_is : (text : List ℕ) (e : Entry) → entry_in text ≡ Some e → (text ≡ entry_line e) × IsEntry e
unfolding entry_in
entry_is text e h =
    let found = entry_last.only e (fields_of text) [] (whole_is (entry_at (fields_of text)) e h) in
    (line_of_fields text (entry_fields e) (found.1 ∙ append-nil (entry_fields e)), found.0)

entry_written : (e : Entry) → IsEntry e → entry_in (entry_line e) ≡ Some e
unfolding entry_in
entry_written e fits = ap whole (ap entry_at (fields_of_line (entry_fields e) (some_fields e) (entry_visible e fits)) ∙ entry_last.all e fits)

pub entry_exactly : (text : List ℕ) (e : Entry) → (entry_in text ≡ Some e) ↔ ((text ≡ entry_line e) × IsEntry e)
entry_exactly text e = (entry_is text e, λ h. rw h.0 (entry_written e h.1))

-- == contexts
allowed_all : (b : Bool) → All yes_or_no_at b (allowed_text b ∷ [])
unfolding yes_or_no_at
allowed_all true = all_last _ word_exactly (visible_utf8 _ refl) all_give
allowed_all false = all_last _ word_exactly (visible_utf8 _ refl) all_give

allowed_exactly : ReadsExactly yes_or_no_at (λ b. allowed_text b ∷ []) (λ b. Unit {0})
unfolding yes_or_no_at
allowed_exactly = exactly
    (only_then _ word_exactly (λ word utf8. only_word (λ word taken b. Unit {0} × (word ∷ taken ≡ allowed_text b ∷ [])) yes_or_no word (only_give true (tt, refl), (only_give false (tt, refl), tt))))
    (λ b u. allowed_all b)

abbrev limit_exactly : ReadsExactly (number_at 18446744073709551615) number_fields (λ n. n ≤ 18446744073709551615)
limit_exactly = number_exactly 18446744073709551615 (omega arith)

abbrev pub IsNamed : ℕ → WasiSocketsCtx → Type 0
IsNamed number context = (context.name ≡ number) × HasLimit context

fields_only : (number : ℕ) → Only (allowed_at number) (λ taken context. IsNamed number context × (codes "context" ∷ taken ≡ context_fields context))
unfolding allowed_at
fields_only number = only_then _ allowed_exactly (λ tcp ft. only_then _ allowed_exactly (λ udp fu. only_then _ allowed_exactly (λ lookup fl. only_then _ limit_exactly (λ limit fits. only_give _ ((refl, fits), refl)))))

fields_all : (context : WasiSocketsCtx) → HasLimit context → All (allowed_at context.name) context (allowed_text context.tcp ∷ allowed_text context.udp ∷ allowed_text context.ip_name_lookup ∷ decimal context.write_limit ∷ [])
unfolding allowed_at
fields_all context fits = all_then _ allowed_exactly tt (all_then _ allowed_exactly tt (all_then _ allowed_exactly tt (all_then _ limit_exactly fits all_give)))

context_all : (number : ℕ) (context : WasiSocketsCtx) → IsNamed number context → All (context_at number) context (context_fields context)
unfolding context_at
context_all number context named = rw (← named.0) (all_then _ word_exactly (visible_utf8 _ refl) (fields_all context named.1))

context_exactly : (number : ℕ) → ReadsExactly (context_at number) context_fields (IsNamed number)
unfolding context_at
context_exactly number = exactly
    (only_then _ word_exactly (λ word utf8. only_word (λ word taken context. IsNamed number context × (word ∷ taken ≡ context_fields context)) (context_word number) word (fields_only number, tt)))
    (context_all number)

allowed_visible : (b : Bool) → IsTrue (list_all is_visible (allowed_text b))
allowed_visible true = refl
allowed_visible false = refl

context_visible : (context : WasiSocketsCtx) → HasLimit context → AreVisible (context_fields context)
context_visible context fits = (refl, (allowed_visible context.tcp, (allowed_visible context.udp, (allowed_visible context.ip_name_lookup, (number_visible context.write_limit (omega (arith, fits)), tt)))))

some_context : (context : WasiSocketsCtx) → context_fields context ≡ [] → ⊥
some_context context h = cc

context_is : (number : ℕ) (text : List ℕ) (context : WasiSocketsCtx) → context_in number text ≡ Some context → (text ≡ context_line context) × IsNamed number context
unfolding context_in
context_is number text context h =
    let found = (context_exactly number).only context (fields_of text) [] (whole_is (context_at number (fields_of text)) context h) in
    (line_of_fields text (context_fields context) (found.1 ∙ append-nil (context_fields context)), found.0)

context_written : (number : ℕ) (context : WasiSocketsCtx) → IsNamed number context → context_in number (context_line context) ≡ Some context
unfolding context_in
context_written number context named =
    ap whole (ap (context_at number) (fields_of_line (context_fields context) (some_context context) (context_visible context named.1) ∙ sym (append-nil (context_fields context))) ∙ (context_exactly number).all context [] named)

-- == lines
-- what a line is, where so many contexts came before it
abbrev pub IsLine : ℕ → Line → Type 0
IsLine number (line.Context context) = IsNamed number context
IsLine number (line.Entry e) = IsEntry e
IsLine number line.End = Unit {0}

line_by : (number : ℕ) (text : List ℕ) (l : Line) (same : Bool) (context : Option WasiSocketsCtx) (e : Option Entry) → bytes_eq text (codes "end") ≡ same → context_in number text ≡ context → entry_in text ≡ e → cond same (Some line.End) (line_or context e) ≡ Some l → (text ≡ line_text l) × IsLine number l
line_by number text l true context e is hc he h = let same : l ≡ line.End = cc in rw same ((bytes_eq-Decides text (codes "end")).0 is, tt)
line_by number text l false (Some context) e is hc he h = let same : l ≡ line.Context context = cc in rw same (context_is number text context hc)
line_by number text l false None (Some e) is hc he h = let same : l ≡ line.Entry e = cc in rw same (entry_is text e he)
line_by number text l false None None is hc he h = cc

pub line_is : (number : ℕ) (text : List ℕ) (l : Line) → line_in number text ≡ Some l → (text ≡ line_text l) × IsLine number l
unfolding line_in
line_is number text l h = line_by number text l (bytes_eq text (codes "end")) (context_in number text) (entry_in text) refl refl refl h

-- the fields of lines differ
abbrev first_of : List (List ℕ) → List ℕ
first_of [] = []
first_of (field ∷ fields) = field

differs : (field : List ℕ) (more : List (List ℕ)) (same : Bool) → bytes_eq (line_with (field ∷ more)) (codes "end") ≡ same → AreVisible (field ∷ more) → (field ≡ codes "end" → ⊥) → same ≡ false
differs field more false e visible other = refl
differs field more true e visible other =
    let is : line_with (field ∷ more) ≡ codes "end" = (bytes_eq-Decides _ _).0 e in
    absurd (other (ap first_of (sym (fields_of_line (field ∷ more) (λ h. cc) visible) ∙ ap fields_of is)))

not_end : (field : List ℕ) (more : List (List ℕ)) → AreVisible (field ∷ more) → (field ≡ codes "end" → ⊥) → bytes_eq (line_with (field ∷ more)) (codes "end") ≡ false
not_end field more visible other = differs field more (bytes_eq (line_with (field ∷ more)) (codes "end")) refl visible other

-- a number's first character is a digit
not_word : (n b : ℕ) (word : List ℕ) → n ≤ 4294967295 → 57 < b → decimal n ≡ b ∷ word → ⊥
not_word n b word small letter same =
    let digits : AllDigits 10 (b ∷ word) = subst (λ ds. AllDigits 10 ds) same (decimal_is_IsNumeral n (omega arith)).0.1 in
    let bounds = digit_from_value b digits.0 in
    omega (arith, bounds.1)

no_context_of : (number : ℕ) (e : Entry) → IsEntry e → (found : Option WasiSocketsCtx) → context_in number (entry_line e) ≡ found → found ≡ None
no_context_of number e fits None h = refl
no_context_of number e fits (Some context) h =
    let is = context_is number (entry_line e) context h in
    let same = sym (fields_of_line (entry_fields e) (some_fields e) (entry_visible e fits)) ∙ (ap fields_of is.0 ∙ fields_of_line (context_fields context) (some_context context) (context_visible context is.1.1)) in
    absurd (not_word e.op.step 99 _ fits.op.0 (omega arith) (ap first_of same))

line_found : (number : ℕ) (text : List ℕ) (same : Bool) (context : Option WasiSocketsCtx) (e : Option Entry) → bytes_eq text (codes "end") ≡ same → context_in number text ≡ context → entry_in text ≡ e → line_in number text ≡ cond same (Some line.End) (line_or context e)
unfolding line_in
line_found number text same context e h k l = rw (h, k, l) refl

pub line_written : (number : ℕ) (l : Line) → IsLine number l → line_in number (line_text l) ≡ Some l
line_written number (line.Context context) named =
    line_found number (context_line context) false (Some context) (entry_in (context_line context)) (not_end (codes "context") (allowed_text context.tcp ∷ allowed_text context.udp ∷ allowed_text context.ip_name_lookup ∷ decimal context.write_limit ∷ []) (context_visible context named.1) (λ h. cc)) (context_written number context named) refl
line_written number (line.Entry e) fits =
    line_found number (entry_line e) false None (Some e) (not_end (decimal e.op.step) (decimal e.op.part ∷ (call_fields e.call ++ codes "=" ∷ told_fields e.answer)) (entry_visible e fits) (not_word e.op.step 101 _ fits.op.0 (omega arith))) (no_context_of number e fits (context_in number (entry_line e)) refl) (entry_written e fits)
line_written number line.End u = line_found number (codes "end") true (context_in number (codes "end")) (entry_in (codes "end")) refl refl refl

-- no newline is in a line
pub line_visible : (number : ℕ) (l : Line) → IsLine number l → IsVisible (line_text l)
line_visible number (line.Context context) named = visible_line (context_fields context) (context_visible context named.1)
line_visible number (line.Entry e) fits = visible_line (entry_fields e) (entry_visible e fits)
line_visible number line.End u = refl
