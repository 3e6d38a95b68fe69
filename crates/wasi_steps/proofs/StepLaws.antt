-- Each step is read from exactly its line.
use Rattle.std.proofs.Common.{◌≡◌, ℕ, ◌<◌, ◌≤◌, List, [], ◌∷◌, ◌++◌, ◌&&◌, slice_index, decimal, Option, Some, None, refl, arith, inl, inr, Bool, true, false, ◌||◌, cond, nat_lt, IsTrue, append-nil, append_assoc, ap, sym, subst, ◌∙◌}
use Rattle.world_text.specs.Fields.{Row, read_then, give, give_some, after_word, whole, has_no_space, fields_of, line_with, field_at, number_in, word_at, BeginsPlain}
use Rattle.std.specs.Prelude.{IfSome, codes}
use Rattle.std.specs.List.{AllByRecursion, list_all, list_any}
use Rattle.std.proofs.lemmas.Bool.{ltb-true, lt-ltb, and_parts}
use Rattle.std.proofs.lemmas.List.Folds.{list_all-append}
use Rattle.world_text.specs.Written.{ReadsExactly, AreVisible, IsVisible, is_visible}
use Rattle.world_text.proofs.FieldsOf.{no_spaces, fields_of_joined}
use Rattle.world_text.proofs.Numbers.{number_in_is, number_in_decimal, begins_otherwise}
use Rattle.world_text.proofs.ReadBack.{u32_exactly, family_exactly, address_exactly, bytes_exactly, word_exactly}
use Rattle.world_text.proofs.Visible.{visible_utf8, visible_no_space, visible_line, number_visible, family_visible, address_visible, bytes_visible, line_of_fields}
use Rattle.world_text.proofs.Exactly.{All, Only, exactly, number_exactly, all_give, only_give, only_some, only_then, all_last}
use Rattle.world_text.proofs.Words.{only_word}
use Rattle.wasi_addr.specs.declared.address.ShutdownType.{ShutdownType}
use Rattle.wasi_addr.specs.declared.address.ShutdownType.TheVariants.{Receive, Send, Both}
use Rattle.wasi_steps.specs.declared.guest_call.GuestCall.{GuestCall}
use Rattle.wasi_steps.specs.declared.guest_call.GuestCall.TheVariants as guest
use Rattle.wasi_steps.specs.declared.guest_call.TcpCall.TheVariants as tcp_call
use Rattle.wasi_steps.specs.declared.guest_call.UdpCall.TheVariants as udp_call
use Rattle.wasi_steps.specs.declared.guest_call.NameCall.TheVariants as name_call
use Rattle.wasi_steps.specs.declared.guest_call.StreamCall.TheVariants as stream_call
use Rattle.wasi_steps.specs.declared.guest_call.PipeCall.TheVariants as pipe_call
use Rattle.wasi_steps.specs.declared.guest_call.PollableCall.TheVariants as pollable_call
use Rattle.wasi_steps.specs.declared.guest_call.P3TcpCall.TheVariants as p3_tcp_call
use Rattle.wasi_steps.specs.declared.guest_call.P3UdpCall.TheVariants as p3_udp_call
use Rattle.wasi_steps.specs.declared.guest_call.P3NameCall.TheVariants as p3_name_call
use Rattle.wasi_steps.specs.declared.step.Step.{Step}
use Rattle.wasi_steps.specs.declared.step.Step.TheVariants as step
use Rattle.wasi_steps.specs.Arguments.{Kind, ALine, ACount, ACapacity, AFamily, ASocketAddress, AnOption, ASetting, AUdpOption, AUdpSetting, AHalf, AllBytes, ARemote, SomeDatagrams, ADatagram, SomePollables, AName, Value, value_at, value_fields, FitsValue, Values, values_fields, FitsValues, shutdown_fields, shutdown_words, shutdown_at}
use Rattle.wasi_steps.specs.Names.{IsText}
use Rattle.wasi_steps.specs.Steps.{Takes, made, values_at, Written, fields_of_written, Signature, call_signature, turn_signature, poll_signature, cancel_signature, written_of, context_fields, context_of, is_of_a_name, takes_a_name, fields_of_step, line_of, IsStep, row_by, rows_of, IsRead, call_is_read, guest_calls, bare_signatures, bare_rows, call_at, guest_call_at, after_first, step_reader, step_of}
use Rattle.wasi_steps.proofs.LineEnds.{ReadsLast, Last, last_of, lastly, last_give, last_then, last_alone, only_next, both_visible}
use Rattle.wasi_steps.proofs.DatagramLaws.{remote_last, remote_visible, datagram_exactly, datagram_visible, datagrams_last, datagrams_visible}
use Rattle.wasi_steps.proofs.HandleLaws.{handles_last, handles_visible}
use Rattle.wasi_steps.proofs.NameLaws.{name_last, visible_text, name_text, text_both}
use Rattle.wasi_steps.proofs.SettingLaws.{◌and◌, u64_exactly, option_exactly, option_visible, setting_exactly, setting_visible, udp_option_exactly, udp_option_visible, udp_setting_exactly, udp_setting_visible}

-- the word of what is shut down is read exactly
shutdown_all : (how : ShutdownType) → All shutdown_at how (shutdown_fields how)
unfolding shutdown_at
shutdown_all Receive = all_last _ word_exactly (visible_utf8 _ refl) all_give
shutdown_all _ = all_last _ word_exactly (visible_utf8 _ refl) all_give

shutdown_exactly : ReadsExactly shutdown_at shutdown_fields (λ how. Unit {0})
unfolding shutdown_at
shutdown_exactly = exactly
    (only_then _ word_exactly (λ word utf8. only_word (λ word taken how. Unit {0} × (word ∷ taken ≡ shutdown_fields how)) shutdown_words word
    (only_give Receive (tt, refl) and only_give Send (tt, refl) and only_give Both (tt, refl) and tt)))
    (λ how u. shutdown_all how)

-- == arguments
-- whether more fields may follow an argument: none may follow an address or none, datagrams, handles or a name, which end the line
goes_on : Kind → Bool
goes_on ARemote = false
goes_on SomeDatagrams = false
goes_on SomePollables = false
goes_on AName = false
goes_on _ = true

kind_exactly : (kind : Kind) → goes_on kind ≡ true → ReadsExactly (value_at kind) (value_fields kind) (FitsValue kind)
unfolding goes_on
kind_exactly ACount more = u64_exactly
kind_exactly ACapacity more = number_exactly 65536 (omega arith)
kind_exactly AFamily more = family_exactly
kind_exactly ASocketAddress more = address_exactly
kind_exactly AnOption more = option_exactly
kind_exactly ASetting more = setting_exactly
kind_exactly AUdpOption more = udp_option_exactly
kind_exactly AUdpSetting more = udp_setting_exactly
kind_exactly AHalf more = shutdown_exactly
kind_exactly AllBytes more = bytes_exactly
kind_exactly ADatagram more = datagram_exactly
kind_exactly ARemote more = absurd (cc)
kind_exactly SomeDatagrams more = absurd (cc)
kind_exactly SomePollables more = absurd (cc)
kind_exactly AName more = absurd (cc)
kind_exactly _ more = u32_exactly

kind_last : (kind : Kind) → ReadsLast (value_at kind) (value_fields kind) (FitsValue kind)
unfolding goes_on
kind_last ARemote = remote_last
kind_last SomeDatagrams = datagrams_last
kind_last SomePollables = handles_last
kind_last AName = name_last
kind_last ACount = last_of u64_exactly
kind_last ACapacity = last_of (number_exactly 65536 (omega arith))
kind_last kind = last_of (kind_exactly kind refl)

-- of some arguments only the last may end the line
ends_last : List Kind → Bool
ends_last [] = true
ends_last (kind ∷ []) = true
ends_last (kind ∷ next ∷ kinds) = goes_on kind && ends_last (next ∷ kinds)

all_end_last : (call : GuestCall) → ends_last (call_signature call).written.kinds ≡ true
unfolding ends_last goes_on
all_end_last (guest.Tcp (tcp_call.Create _)) = refl
all_end_last (guest.Udp (udp_call.Create _)) = refl
all_end_last (guest.Names name_call.Network) = refl
all_end_last (guest.Stream (stream_call.Flush _)) = refl
all_end_last (guest.Pipe pipe_call.Sink) = refl
all_end_last (guest.Pollable (pollable_call.Ready _)) = refl
all_end_last (guest.P3Tcp (p3_tcp_call.Create _)) = refl
all_end_last (guest.P3Udp (p3_udp_call.Create _)) = refl
all_end_last (guest.P3Names (p3_name_call.Resolve _)) = refl
all_end_last _ = refl

values_only : {A : Type 0} (kinds : List Kind) (makes : Takes A kinds) {Q : List (List ℕ) → A → Type 0} → ((values : Values kinds) → FitsValues kinds values → Q (values_fields kinds values) (made kinds makes values)) → Only (values_at kinds makes) Q
values_only [] s q = only_give s (q tt tt)
values_only (kind ∷ kinds) makes q = only_next _ (kind_last kind) (λ value fits. values_only kinds (makes value) (λ values more. q (value, values) (fits, more)))

values_last : {A : Type 0} (kinds : List Kind) (makes : Takes A kinds) (values : Values kinds) → ends_last kinds ≡ true → FitsValues kinds values → Last (values_at kinds makes) (made kinds makes values) (values_fields kinds values)
unfolding ends_last
values_last [] s values ends fits = last_give
values_last (kind ∷ []) makes values ends fits = last_alone _ (kind_last kind) fits.0 last_give
values_last (kind ∷ next ∷ kinds) makes values ends fits =
    let both = and_parts (goes_on kind) _ ends in
    last_then _ (kind_exactly kind both.0) fits.0 (values_last (next ∷ kinds) (makes values.0) values.1 both.1 fits.1)

-- == rows
-- what a maker makes of any values is written with its word and these values
abbrev IsMade : {A : Type 0} → (A → Written) → Signature A → Type 0
IsMade written is = (values : Values is.written.kinds) → written (made is.written.kinds is.makes values) ≡ record is.written { values = values }

-- what a row reads is written so, with arguments that fit
abbrev IsReadAs : {A : Type 0} → (A → Written) → List ℕ → List (List ℕ) → A → Type 0
IsReadAs written word taken x = FitsValues (written x).kinds (written x).values × (word ∷ taken ≡ fields_of_written (written x))

as_written : Written → List ℕ → List (List ℕ) → Type 0
as_written w word taken = FitsValues w.kinds w.values × (word ∷ taken ≡ fields_of_written w)

row_only : {A : Type 0} (written : A → Written) (is : Signature A) → IsMade written is → Only (row_by is).reads (IsReadAs written is.written.word)
unfolding as_written
row_only written is same = values_only is.written.kinds is.makes (λ values fits.
    subst (λ w. as_written w is.written.word (values_fields is.written.kinds values)) (sym (same values)) (fits, refl))

-- each of these reads exactly its line, where nothing follows it
reads_last : {A : Type 0} (rows : List (Row A)) (is : Signature A) (x : A) → IsRead rows is x → ends_last is.written.kinds ≡ true
    → FitsValues is.written.kinds is.written.values → Last (after_word rows is.written.word) x (values_fields is.written.kinds is.written.values)
reads_last rows is x read ends fits =
    rw read.1 (subst (λ t. Last (row_by is).reads t (values_fields is.written.kinds is.written.values)) read.0
    (values_last is.written.kinds is.makes is.written.values ends fits))

-- == calls
abbrev call_written : GuestCall → Written
call_written call = (call_signature call).written

abbrev FitsCall : GuestCall → Type 0
FitsCall call = FitsValues (call_written call).kinds (call_written call).values

all_made : AllByRecursion (λ call. IsMade call_written (call_signature call)) guest_calls
all_made = search

calls_only : (calls : List GuestCall) → AllByRecursion (λ call. IsMade call_written (call_signature call)) calls
    → AllByRecursion (λ r. Only r.reads (IsReadAs call_written r.word)) (rows_of calls)
calls_only [] all = tt
calls_only (call ∷ calls) all = row_only call_written (call_signature call) all.0 and calls_only calls all.1

visible_call : (call : GuestCall) → IsTrue (list_all is_visible (call_written call).word)
visible_call call = grind arith

call_exactly : ReadsLast call_at (λ call. fields_of_written (call_written call)) FitsCall
unfolding call_at
call_exactly = lastly
    (only_then _ word_exactly (λ word utf8. only_word (IsReadAs call_written) (rows_of guest_calls) word (calls_only guest_calls all_made)))
    (λ call fits. last_then _ word_exactly (visible_utf8 _ (visible_call call))
    (reads_last (rows_of guest_calls) (call_signature call) call (call_is_read call) (all_end_last call) fits))

-- == steps
-- a context is one of so many
abbrev IsContext : ℕ → Option ℕ → Type 0
IsContext contexts context = IfSome context (λ c. c < contexts) × IfSome context (λ c. c ≤ 4294967295)

-- what is read behind a context, or behind none, is a step of it
abbrev ReadsStep : ℕ → Option ℕ → List (List ℕ) → Step → Type 0
ReadsStep contexts context taken s = IsStep contexts s × (context_fields context taken ≡ fields_of_step s)

guest_only : (contexts c : ℕ) (below : Bool) → nat_lt c contexts ≡ below → c ≤ 4294967295
    → Only (cond below (read_then call_at (λ call. give (step.Call c call))) (give_some None)) (ReadsStep contexts (Some c))
guest_only contexts c true e width = only_next _ call_exactly (λ call fits.
    only_give (step.Call c call) (record { context = ltb-true _ _ e; width = width; arguments = fits }, rw append-nil refl))
guest_only contexts c false e width = only_some None (λ s h. cc)

turn_only : (contexts : ℕ) → Only (row_by turn_signature).reads (λ taken s. ReadsStep contexts None (turn_signature.written.word ∷ taken) s)
turn_only contexts = only_give step.Turn (record { context = tt; width = tt; arguments = tt }, refl)

poll_only : (contexts : ℕ) → Only (row_by (poll_signature 0)).reads (λ taken s. ReadsStep contexts None (codes "poll" ∷ taken) s)
poll_only contexts = values_only (ALine ∷ []) step.Poll (λ values fits. (record { context = tt; width = tt; arguments = fits }, refl))

cancel_only : (contexts : ℕ) → Only (row_by (cancel_signature 0)).reads (λ taken s. ReadsStep contexts None (codes "cancel" ∷ taken) s)
cancel_only contexts = values_only (ALine ∷ []) step.Cancel (λ values fits. (record { context = tt; width = tt; arguments = fits }, refl))

first_only : (contexts : ℕ) (first : List ℕ) (number : Option ℕ) → number_in first 4294967295 ≡ number
    → Only (after_first contexts first number) (λ taken s. ReadsStep contexts None (first ∷ taken) s)
unfolding guest_call_at
first_only contexts first (Some c) e = let is = number_in_is first 4294967295 c e in rw is.0 (guest_only contexts c (nat_lt c contexts) refl is.1)
first_only contexts first None e = only_word (λ word taken s. ReadsStep contexts None (word ∷ taken) s) bare_rows first
    (turn_only contexts and poll_only contexts and cancel_only contexts and tt)

-- a word that begins with a letter is no number
letter_begins : (b : ℕ) (word : List ℕ) → 57 < b → BeginsPlain (b ∷ word) → ⊥
letter_begins b word letter (inl e) = let first : b ≡ 48 = ap (λ w. slice_index w 0) e in omega arith
letter_begins b word letter (inr r) = omega arith

no_number : (b : ℕ) (word : List ℕ) → 57 < b → number_in (b ∷ word) 4294967295 ≡ None
no_number b word letter = begins_otherwise (b ∷ word) 4294967295 (omega arith) (letter_begins b word letter)

-- what follows a context is read after it
guest_all : (contexts c : ℕ) (call : GuestCall) → IsContext contexts (Some c) → FitsCall call
    → Last (step_reader contexts) (step.Call c call) (decimal c ∷ fields_of_written (call_written call))
unfolding step_reader guest_call_at
guest_all contexts c call is fits =
    last_then _ word_exactly (visible_utf8 (decimal c) (number_visible c (let width = is.1 in omega arith)))
    (rw (number_in_decimal (decimal c) 4294967295 c (omega arith) refl is.1) (rw (lt-ltb c contexts is.0)
    (rw append-nil at (last_alone (λ call. give (step.Call c call)) call_exactly fits last_give))))

-- and what follows the word of a step that no context makes
bare_all : (contexts : ℕ) (is : Signature Step) (s : Step) → IsRead bare_rows is s → ends_last is.written.kinds ≡ true
    → number_in is.written.word 4294967295 ≡ None → IsTrue (list_all is_visible is.written.word)
    → FitsValues is.written.kinds is.written.values → Last (step_reader contexts) s (fields_of_written is.written)
unfolding step_reader
bare_all contexts is s read ends other visible fits =
    last_then _ word_exactly (visible_utf8 is.written.word visible) (rw other (reads_last bare_rows is s read ends fits))

step_all : (contexts : ℕ) (s : Step) → IsStep contexts s → Last (step_reader contexts) s (fields_of_step s)
unfolding ends_last goes_on
step_all contexts (step.Call c call) is = guest_all contexts c call (is.context, is.width) is.arguments
step_all contexts step.Turn is = bare_all contexts turn_signature step.Turn (refl, refl) refl (no_number _ _ (omega arith)) (grind arith) is.arguments
step_all contexts (step.Poll line) is = bare_all contexts (poll_signature line) (step.Poll line) (refl, refl) refl (no_number _ _ (omega arith)) (grind arith) is.arguments
step_all contexts (step.Cancel line) is = bare_all contexts (cancel_signature line) (step.Cancel line) (refl, refl) refl (no_number _ _ (omega arith)) (grind arith) is.arguments

visible_word : (s : Step) → IsTrue (list_all is_visible (written_of s).word)
visible_word (step.Call c call) = visible_call call
visible_word step.Turn = grind arith
visible_word (step.Poll line) = grind arith
visible_word (step.Cancel line) = grind arith

pub step_exactly : (contexts : ℕ) → ReadsLast (step_reader contexts) fields_of_step (IsStep contexts)
unfolding step_reader
step_exactly contexts = lastly
    (only_then _ word_exactly (λ first utf8. first_only contexts first (number_in first 4294967295) refl))
    (step_all contexts)

-- == visible characters
shutdown_visible : (how : ShutdownType) → AreVisible (shutdown_fields how)
shutdown_visible Receive = refl and tt
shutdown_visible _ = refl and tt

value_visible : (kind : Kind) (value : Value kind) → is_of_a_name kind ≡ false → FitsValue kind value → AreVisible (value_fields kind value)
value_visible AFamily family other fits = family_visible family
value_visible ASocketAddress a other fits = address_visible a fits
value_visible AnOption option other fits = option_visible option
value_visible ASetting setting other fits = setting_visible setting fits
value_visible AUdpOption option other fits = udp_option_visible option
value_visible AUdpSetting setting other fits = udp_setting_visible setting fits
value_visible AHalf how other fits = shutdown_visible how
value_visible AllBytes bytes other fits = bytes_visible bytes fits
value_visible ARemote remote other fits = remote_visible remote fits
value_visible SomeDatagrams datagrams other fits = datagrams_visible datagrams fits
value_visible ADatagram datagram other fits = datagram_visible datagram fits
value_visible SomePollables handles other fits = handles_visible handles fits
value_visible AName name other fits = absurd (cc)
value_visible _ n other fits = number_visible n (omega arith) and tt

neither : (first more : Bool) → (first || more) ≡ false → (first ≡ false) × (more ≡ false)
neither true more h = absurd (cc)
neither false more h = (refl, h)

values_visible : (kinds : List Kind) (values : Values kinds) → list_any is_of_a_name kinds ≡ false → FitsValues kinds values → AreVisible (values_fields kinds values)
values_visible [] values others fits = tt
values_visible (kind ∷ kinds) values others fits =
    let both = neither (is_of_a_name kind) _ others in
    both_visible (value_fields kind values.0) (values_fields kinds values.1) (value_visible kind values.0 both.0 fits.0) (values_visible kinds values.1 both.1 fits.1)

context_visible : (contexts : ℕ) (context : Option ℕ) → IsContext contexts context → AreVisible (context_fields context [])
context_visible contexts None is = tt
context_visible contexts (Some c) is = number_visible c (let width = is.1 in omega arith) and tt

-- a step's fields are its context's, its word, and those of its arguments
in_context : (context : Option ℕ) (fields : List (List ℕ)) → context_fields context fields ≡ context_fields context [] ++ fields
in_context None fields = refl
in_context (Some c) fields = refl

step_front : Step → List (List ℕ)
step_front s = context_fields (context_of s) [] ++ (written_of s).word ∷ []

step_fields : (s : Step) → fields_of_step s ≡ step_front s ++ values_fields (written_of s).kinds (written_of s).values
unfolding step_front
step_fields s = in_context (context_of s) _ ∙ sym (append_assoc (context_fields (context_of s) []) ((written_of s).word ∷ []) _)

front_visible : {contexts : ℕ} (s : Step) → IsStep contexts s → AreVisible (step_front s)
unfolding step_front
front_visible {contexts} s is =
    both_visible (context_fields (context_of s) []) ((written_of s).word ∷ []) (context_visible contexts (context_of s) (is.context, is.width)) (visible_word s and tt)

step_visible : {contexts : ℕ} (s : Step) → IsStep contexts s → takes_a_name s ≡ false → AreVisible (fields_of_step s)
step_visible s is others =
    rw (step_fields s) (both_visible (step_front s) _ (front_visible s is) (values_visible (written_of s).kinds (written_of s).values others is.arguments))

-- == spaces
-- no argument has a space in a field
value_no_space : (kind : Kind) (value : Value kind) → FitsValue kind value → list_all has_no_space (value_fields kind value) ≡ true
value_no_space AName name fits = no_spaces name
value_no_space kind value fits = visible_no_space (value_fields kind value) (value_visible kind value refl fits)

values_no_space : (kinds : List Kind) (values : Values kinds) → FitsValues kinds values → list_all has_no_space (values_fields kinds values) ≡ true
values_no_space [] values fits = refl
values_no_space (kind ∷ kinds) values fits =
    list_all-append has_no_space (value_fields kind values.0) (values_fields kinds values.1)
    ∙ rw (value_no_space kind values.0 fits.0, values_no_space kinds values.1 fits.1) refl

step_no_space : {contexts : ℕ} (s : Step) → IsStep contexts s → list_all has_no_space (fields_of_step s) ≡ true
step_no_space s is =
    let values = values_no_space (written_of s).kinds (written_of s).values is.arguments in
    rw (step_fields s) (list_all-append has_no_space (step_front s) _ ∙ rw (visible_no_space (step_front s) (front_visible s is), values) refl)

-- == text
value_text : (kind : Kind) (value : Value kind) → FitsValue kind value → IsText (line_with (value_fields kind value))
value_text AName name fits = name_text name fits
value_text kind value fits = visible_text _ (visible_line (value_fields kind value) (value_visible kind value refl fits))

values_text : (kinds : List Kind) (values : Values kinds) → FitsValues kinds values → IsText (line_with (values_fields kinds values))
values_text [] values fits = visible_text [] refl
values_text (kind ∷ kinds) values fits = text_both (value_fields kind values.0) (values_fields kinds values.1) (value_text kind values.0 fits.0) (values_text kinds values.1 fits.1)

step_text : {contexts : ℕ} (s : Step) → IsStep contexts s → IsText (line_of s)
step_text s is =
    rw (step_fields s)
    (text_both (step_front s) _ (visible_text _ (visible_line (step_front s) (front_visible s is))) (values_text (written_of s).kinds (written_of s).values is.arguments))

-- == lines
no_step : (contexts : ℕ) → step_reader contexts [] ≡ None
unfolding step_reader read_then word_at field_at
no_step contexts = refl

whole_is : (read : Option (Step × List (List ℕ))) (s : Step) → whole read ≡ Some s → ◌≡◌ {A = Option (Step × List (List ℕ))} read (Some (s, []))
whole_is None s h = cc
whole_is (Some (t, [])) s h = let same : t ≡ s = cc in ap (λ t. Some (t, [])) same
whole_is (Some (t, field ∷ rest)) s h = cc

pub step_is : (contexts : ℕ) (line : List ℕ) (s : Step) → step_of contexts line ≡ Some s → (line ≡ line_of s) × IsStep contexts s
unfolding step_of
step_is contexts line s h =
    let read = (step_exactly contexts).only s (fields_of line) [] (whole_is _ s h) in
    (line_of_fields line (fields_of_step s) (read.1 ∙ append-nil (fields_of_step s)), read.0)

fields_of_spaceless : (fields : List (List ℕ)) → (fields ≡ [] → ⊥) → list_all has_no_space fields ≡ true → fields_of (line_with fields) ≡ fields
fields_of_spaceless [] some h = absurd (some refl)
fields_of_spaceless (field ∷ more) some h = fields_of_joined field more h

pub step_of_line : (contexts : ℕ) (line : List ℕ) (s : Step) → (line ≡ line_of s) × IsStep contexts s → step_of contexts line ≡ Some s
unfolding step_of
step_of_line contexts line s h =
    let read = (step_exactly contexts).all s h.1 in
    let some : fields_of_step s ≡ [] → ⊥ = λ none. let first = rw none at read in cc (no_step contexts) in
    rw (ap fields_of h.0, fields_of_spaceless (fields_of_step s) some (step_no_space s h.1), read)

-- a step's line is visible characters and spaces alone, where it has no name
pub step_line_visible : (contexts : ℕ) (line : List ℕ) (s : Step) → step_of contexts line ≡ Some s → takes_a_name s ≡ false → IsVisible line
step_line_visible contexts line s h others =
    let is = step_is contexts line s h in
    rw is.0 (visible_line (fields_of_step s) (step_visible s is.1 others))

-- and in each step's line, which is text, no line ends
pub step_line_text : (contexts : ℕ) (line : List ℕ) (s : Step) → step_of contexts line ≡ Some s → IsText line
step_line_text contexts line s h =
    let is = step_is contexts line s h in
    rw is.0 (step_text s is.1)
