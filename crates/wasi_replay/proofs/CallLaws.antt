-- Each call and each answer of a log is read exactly as it is written.
use Rattle.std.proofs.Common.{◌≡◌, ℕ, true, List, [], ◌∷◌, ◌++◌, refl, sym, subst, IsTrue}
use Rattle.std.specs.List.{AllByRecursion, list_all}
use Rattle.wasi_world.specs.declared.call.Call.{Call}
use Rattle.wasi_world.specs.declared.call.Call.TheVariants as call
use Rattle.wasi_world.specs.declared.call.Told.{Told}
use Rattle.wasi_world.specs.declared.call.Told.TheVariants as told
use Rattle.world_text.specs.Fields.{after_word}
use Rattle.world_text.specs.Written.{ReadsExactly, AreVisible, is_visible}
use Rattle.world_text.proofs.Exactly.{All, Only, exactly, only_then, all_then}
use Rattle.world_text.proofs.ReadBack.{word_exactly}
use Rattle.world_text.proofs.Visible.{visible_utf8}
use Rattle.world_text.proofs.Words.{only_word}
use Rattle.wasi_replay.specs.Arguments.{Values, FitsValues, values_fields, made, Written, fields_of_written, row_of}
use Rattle.wasi_replay.specs.Calls.{call_signature, call_fields, FitsCall, calls, rows_of_calls, call_at, told_signature, told_fields, FitsTold, memory_answers, plain_answers, rows_of_answers, told_at}
use Rattle.wasi_replay.proofs.Ends.{ReadsLast, lastly, Last, last_then}
use Rattle.wasi_replay.proofs.ArgumentLaws.{all_go_on, ends_last, values_only, values_all, values_last, values_visible}

-- what is written so, with numbers within their widths, and with this word
abbrev IsSo : List ℕ → List (List ℕ) → Written → Type 0
IsSo word taken w = FitsValues w.kinds w.values × (word ∷ taken ≡ fields_of_written w)

-- == calls
-- what a form's maker makes of any values is written with its word and these values
abbrev IsMadeCall : Call → Type 0
IsMadeCall c = let is = call_signature c in (values : Values is.written.kinds) → (call_signature (made is.written.kinds is.makes values)).written ≡ record is.written { values = values }

calls_made : AllByRecursion IsMadeCall calls
calls_made = search

abbrev ReadsCall : List ℕ → List (List ℕ) → Call → Type 0
ReadsCall word taken c = IsSo word taken (call_signature c).written

call_row_only : (c : Call) → IsMadeCall c → Only (row_of (call_signature c)).reads (ReadsCall (row_of (call_signature c)).word)
call_row_only c is =
    let it = call_signature c in
    values_only it.written.kinds it.makes (λ values fits. subst (IsSo it.written.word (values_fields it.written.kinds values)) (sym (is values)) (fits, refl))

call_rows_only : (forms : List Call) → AllByRecursion IsMadeCall forms → AllByRecursion (λ r. Only r.reads (ReadsCall r.word)) (rows_of_calls forms)
call_rows_only [] made = tt
call_rows_only (c ∷ forms) made = (call_row_only c made.0, call_rows_only forms made.1)

-- each call is made by its maker of its own values, its word's row is its own, and more may follow it
abbrev IsReadCall : Call → Type 0
IsReadCall c = let is = call_signature c in (made is.written.kinds is.makes is.written.values ≡ c) × (after_word (rows_of_calls calls) is.written.word ≡ (row_of is).reads) × (all_go_on is.written.kinds ≡ true) × IsTrue (list_all is_visible is.written.word)

call_is_read : (c : Call) → IsReadCall c
call_is_read (call.Lookup host) = (refl, refl, refl, refl)
call_is_read _ = (refl, refl, refl, refl)

call_all : (c : Call) → FitsCall c → All call_at c (call_fields c)
unfolding call_at
call_all c fits =
    let it = call_signature c in
    let is = call_is_read c in
    all_then _ word_exactly (visible_utf8 it.written.word is.3)
    (rw is.1 (subst (λ d. All (row_of it).reads d (values_fields it.written.kinds it.written.values)) is.0 (values_all it.written.kinds it.makes it.written.values is.2 fits)))

pub call_exactly : ReadsExactly call_at call_fields FitsCall
unfolding call_at
call_exactly = exactly (only_then _ word_exactly (λ word utf8. only_word ReadsCall (rows_of_calls calls) word (call_rows_only calls calls_made))) call_all

pub call_visible : (c : Call) → FitsCall c → AreVisible (call_fields c)
call_visible c fits = ((call_is_read c).3, values_visible (call_signature c).written.kinds (call_signature c).written.values fits)

-- == answers
abbrev IsMadeTold : Told → Type 0
IsMadeTold t = let is = told_signature t in (values : Values is.written.kinds) → (told_signature (made is.written.kinds is.makes values)).written ≡ record is.written { values = values }

answers_made : AllByRecursion IsMadeTold (memory_answers ++ plain_answers)
answers_made = search

abbrev ReadsTold : List ℕ → List (List ℕ) → Told → Type 0
ReadsTold word taken t = IsSo word taken (told_signature t).written

told_row_only : (t : Told) → IsMadeTold t → Only (row_of (told_signature t)).reads (ReadsTold (row_of (told_signature t)).word)
told_row_only t is =
    let it = told_signature t in
    values_only it.written.kinds it.makes (λ values fits. subst (IsSo it.written.word (values_fields it.written.kinds values)) (sym (is values)) (fits, refl))

told_rows_only : (forms : List Told) → AllByRecursion IsMadeTold forms → AllByRecursion (λ r. Only r.reads (ReadsTold r.word)) (rows_of_answers forms)
told_rows_only [] made = tt
told_rows_only (t ∷ forms) made = (told_row_only t made.0, told_rows_only forms made.1)

abbrev IsReadTold : Told → Type 0
IsReadTold t = let is = told_signature t in (made is.written.kinds is.makes is.written.values ≡ t) × (after_word (rows_of_answers (memory_answers ++ plain_answers)) is.written.word ≡ (row_of is).reads) × (ends_last is.written.kinds ≡ true) × IsTrue (list_all is_visible is.written.word)

told_is_read : (t : Told) → IsReadTold t
told_is_read told.Pending = (refl, refl, refl, refl)
told_is_read _ = (refl, refl, refl, refl)

told_all : (t : Told) → FitsTold t → Last told_at t (told_fields t)
unfolding told_at
told_all t fits =
    let it = told_signature t in
    let is = told_is_read t in
    last_then _ word_exactly (visible_utf8 it.written.word is.3)
    (rw is.1 (subst (λ d. Last (row_of it).reads d (values_fields it.written.kinds it.written.values)) is.0 (values_last it.written.kinds it.makes it.written.values is.2 fits)))

pub told_last : ReadsLast told_at told_fields FitsTold
unfolding told_at
told_last = lastly (only_then _ word_exactly (λ word utf8. only_word ReadsTold (rows_of_answers (memory_answers ++ plain_answers)) word (told_rows_only (memory_answers ++ plain_answers) answers_made))) told_all

pub told_visible : (t : Told) → FitsTold t → AreVisible (told_fields t)
told_visible t fits = ((told_is_read t).3, values_visible (told_signature t).written.kinds (told_signature t).written.values fits)
