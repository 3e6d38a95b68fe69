-- Each argument of a call or of an answer is read exactly as it is written.
use Rattle.std.specs.Prelude.{codes}
use Rattle.std.proofs.Common.{append-nil, ◌≡◌, ℕ, ◌≤◌, ◌&&◌, Bool, true, false, cond, List, [], ◌∷◌, ◌++◌, bytes_eq, flat_map, decimal, Option, Some, None, refl, arith, ap, sym, subst, IsTrue, IsUtf8}
use Rattle.std.specs.List.{AllByRecursion, list_all}
use Rattle.std.specs.Str.Parse.{AllDigits}
use Rattle.std.proofs.lemmas.Bool.{and_parts, false_from_ne_true}
use Rattle.std.proofs.lemmas.Fmt.{decimal_is_IsNumeral}
use Rattle.std.proofs.lemmas.Slice.Eq.{bytes_eq-Decides}
use Rattle.std.proofs.lemmas.Str.Parse.{digit_from_value}
use Rattle.wasi_addr.specs.declared.address.IpAddress.{IpAddress}
use Rattle.wasi_addr.specs.declared.address.IpAddress.TheVariants as ip
use Rattle.wasi_addr.specs.declared.address.ShutdownType.{ShutdownType}
use Rattle.wasi_addr.specs.declared.address.ShutdownType.TheVariants.{Receive, Send, Both}
use Rattle.wasi_addr.specs.declared.address.SocketAddrUse.{SocketAddrUse}
use Rattle.wasi_addr.specs.declared.address.SocketAddrUse.TheVariants as usage
use Rattle.wasi_world.specs.declared.call.HandleKind.{HandleKind}
use Rattle.wasi_world.specs.declared.call.HandleKind.TheVariants as handle_kind
use Rattle.wasi_world.specs.declared.call.Opt.{Opt}
use Rattle.wasi_world.specs.declared.call.Opt.TheVariants as opt
use Rattle.wasi_world.specs.declared.ids.OpId.{OpId}
use Rattle.world_text.specs.EntryText.{use_text, half_text, option_text, handle_kind_text}
use Rattle.world_text.specs.Fields.{read_then, give, give_some, number_in, number_at}
use Rattle.world_text.specs.Written.{ReadsExactly, AreVisible, is_visible, ip_fields, number_fields, FitsIp}
use Rattle.world_text.proofs.Exactly.{All, Only, exactly, all_give, only_give, all_some, only_some, all_then, only_then, all_last, only_last, field_exactly, number_exactly}
use Rattle.world_text.proofs.Numbers.{number_in_is, number_in_decimal}
use Rattle.world_text.proofs.ReadBack.{u32_exactly, family_exactly, address_exactly, code_exactly, bytes_exactly, word_exactly, named_is}
use Rattle.world_text.proofs.Visible.{visible_utf8, number_visible, family_visible, address_visible, code_visible, bytes_visible}
use Rattle.world_text.proofs.Words.{only_word}
use Rattle.wasi_replay.specs.declared.fields.TheConstants.{USES, OPTIONS, HANDLE_KINDS}
use Rattle.wasi_replay.specs.Arguments.{use_in, use_at, option_in, option_at, handle_kind_in, handle_kind_at, half_words, half_at, IsHalf, sock_at, sock_fields, FitsSock, maybe_handle_at, maybe_handle_fields, FitsMaybeHandle, sock_from, sock_or_none, maybe_sock_at, maybe_sock_fields, FitsMaybeSock, Kind, ASock, ANumber, AValue, AFamily, AnAddress, AUse, AHalf, AnOption, SomeBytes, AHandleKind, AParent, AMaybeSock, ACode, SomeIps, Value, value_at, value_fields, FitsValue, Values, values_fields, FitsValues, Takes, made, values_at}
use Rattle.wasi_replay.proofs.Ends.{ReadsLast, last_of, Last, last_give, last_then, last_alone, only_next, both_visible}
use Rattle.wasi_replay.proofs.NameLists.{names_last}

-- == words
use_in_text : (asked : SocketAddrUse) → use_in (use_text asked) ≡ Some asked
unfolding use_in
use_in_text usage.TcpBind = refl
use_in_text _ = refl

use_in_is : (field : List ℕ) (asked : SocketAddrUse) → use_in field ≡ Some asked → use_text asked ≡ field
unfolding use_in
use_in_is field asked h = named_is use_text USES field asked h

use_exactly : ReadsExactly use_at (λ asked. use_text asked ∷ []) (λ asked. Unit {0})
unfolding use_at
use_exactly = exactly
    (only_then _ field_exactly (λ field u. only_some _ (λ asked h. (tt, ap (λ f. f ∷ []) (sym (use_in_is field asked h))))))
    (λ asked fits. all_then _ field_exactly tt (all_some _ (use_in_text asked)))

option_in_text : (option : Opt) → option_in (option_text option) ≡ Some option
unfolding option_in
option_in_text opt.KeepAliveEnabled = refl
option_in_text _ = refl

option_in_is : (field : List ℕ) (option : Opt) → option_in field ≡ Some option → option_text option ≡ field
unfolding option_in
option_in_is field option h = named_is option_text OPTIONS field option h

option_exactly : ReadsExactly option_at (λ option. option_text option ∷ []) (λ option. Unit {0})
unfolding option_at
option_exactly = exactly
    (only_then _ field_exactly (λ field u. only_some _ (λ option h. (tt, ap (λ f. f ∷ []) (sym (option_in_is field option h))))))
    (λ option fits. all_then _ field_exactly tt (all_some _ (option_in_text option)))

handle_kind_in_text : (kind : HandleKind) → handle_kind_in (handle_kind_text kind) ≡ Some kind
unfolding handle_kind_in
handle_kind_in_text handle_kind.Network = refl
handle_kind_in_text _ = refl

handle_kind_in_is : (field : List ℕ) (kind : HandleKind) → handle_kind_in field ≡ Some kind → handle_kind_text kind ≡ field
unfolding handle_kind_in
handle_kind_in_is field kind h = named_is handle_kind_text HANDLE_KINDS field kind h

handle_kind_exactly : ReadsExactly handle_kind_at (λ kind. handle_kind_text kind ∷ []) (λ kind. Unit {0})
unfolding handle_kind_at
handle_kind_exactly = exactly
    (only_then _ field_exactly (λ field u. only_some _ (λ kind h. (tt, ap (λ f. f ∷ []) (sym (handle_kind_in_is field kind h))))))
    (λ kind fits. all_then _ field_exactly tt (all_some _ (handle_kind_in_text kind)))

half_all : (how : ShutdownType) → IsHalf how → All half_at how (half_text how ∷ [])
unfolding half_at
half_all Receive half = all_last _ word_exactly (visible_utf8 _ refl) all_give
half_all Send half = all_last _ word_exactly (visible_utf8 _ refl) all_give
half_all Both half = absurd half

half_exactly : ReadsExactly half_at (λ how. half_text how ∷ []) IsHalf
unfolding half_at
half_exactly = exactly
    (only_then _ word_exactly (λ word utf8. only_word (λ word taken how. IsHalf how × (word ∷ taken ≡ half_text how ∷ [])) half_words word
    (only_give Receive (tt, refl), (only_give Send (tt, refl), tt))))
    half_all

-- == names
u64_exactly : ReadsExactly (number_at 18446744073709551615) number_fields (λ n. n ≤ 18446744073709551615)
u64_exactly = number_exactly 18446744073709551615 (omega arith)

pub sock_exactly : ReadsExactly sock_at sock_fields FitsSock
unfolding sock_at
sock_exactly = exactly
    (only_then _ u32_exactly (λ step fs. only_then _ u64_exactly (λ part fp. only_give _ ((fs, fp), refl))))
    (λ sock fits. all_then _ u32_exactly fits.0 (all_then _ u64_exactly fits.1 all_give))

-- a number is digits alone
not_dash : (n : ℕ) → n ≤ 4294967295 → bytes_eq (decimal n) (codes "-") ≡ false
not_dash n small = false_from_ne_true (bytes_eq (decimal n) (codes "-")) (λ e.
    let same : decimal n ≡ codes "-" = (bytes_eq-Decides (decimal n) (codes "-")).0 e in
    let digits : AllDigits 10 (codes "-") = subst (λ ds. AllDigits 10 ds) same (decimal_is_IsNumeral n (omega arith)).0.1 in
    let bounds = digit_from_value 45 digits.0 in
    omega (arith, bounds.0))

decimal_utf8 : (n : ℕ) → n ≤ 4294967295 → IsUtf8 (decimal n)
decimal_utf8 n small = visible_utf8 (decimal n) (number_visible n (omega arith))

handle_found : (word : List ℕ) (found : Option ℕ) → number_in word 4294967295 ≡ found → Only (read_then (give_some found) (λ handle. give (Some handle))) (λ taken handle. FitsMaybeHandle handle × (word ∷ taken ≡ maybe_handle_fields handle))
unfolding read_then give_some
handle_found word None e = record { holds = λ value fields rest h. cc }
handle_found word (Some n) e =
    let is = number_in_is word 4294967295 n e in
    record { holds = λ value fields rest h. (only_give (Some n) {Q = λ taken handle. FitsMaybeHandle handle × (word ∷ taken ≡ maybe_handle_fields handle)} (is.1, ap (λ w. w ∷ []) is.0)).holds value fields rest h }

handle_by : (word : List ℕ) (dash : Bool) → bytes_eq word (codes "-") ≡ dash → Only (cond dash (give None) (read_then (give_some (number_in word 4294967295)) (λ handle. give (Some handle)))) (λ taken handle. FitsMaybeHandle handle × (word ∷ taken ≡ maybe_handle_fields handle))
handle_by word true e = only_give None (tt, ap (λ w. w ∷ []) ((bytes_eq-Decides word (codes "-")).0 e))
handle_by word false e = handle_found word (number_in word 4294967295) refl

handle_all : (handle : Option ℕ) → FitsMaybeHandle handle → All maybe_handle_at handle (maybe_handle_fields handle)
unfolding maybe_handle_at read_then give_some give
handle_all None fits = all_last _ word_exactly (visible_utf8 _ refl) all_give
handle_all (Some n) fits = all_last _ word_exactly (decimal_utf8 n fits) (record { given = λ rest. rw (not_dash n fits, number_in_decimal (decimal n) 4294967295 n (omega arith) refl fits) refl })

maybe_handle_exactly : ReadsExactly maybe_handle_at maybe_handle_fields FitsMaybeHandle
unfolding maybe_handle_at
maybe_handle_exactly = exactly (only_then _ word_exactly (λ word utf8. handle_by word (bytes_eq word (codes "-")) refl)) handle_all

part_only : (word : List ℕ) (n : ℕ) → number_in word 4294967295 ≡ Some n → Only (sock_from n) (λ taken sock. FitsMaybeSock sock × (word ∷ taken ≡ maybe_sock_fields sock))
part_only word n e =
    let is = number_in_is word 4294967295 n e in
    only_last (λ part. Some (record { step = n; part = part })) u64_exactly (λ part fits. ((is.1, fits), ap (λ w. w ∷ decimal part ∷ []) is.0))

sock_found : (word : List ℕ) (found : Option ℕ) → number_in word 4294967295 ≡ found → Only (read_then (give_some found) sock_from) (λ taken sock. FitsMaybeSock sock × (word ∷ taken ≡ maybe_sock_fields sock))
unfolding read_then give_some
sock_found word None e = record { holds = λ value fields rest h. cc }
sock_found word (Some n) e = record { holds = λ value fields rest h. (part_only word n e).holds value fields rest h }

sock_by : (word : List ℕ) (dash : Bool) → bytes_eq word (codes "-") ≡ dash → Only (cond dash (give None) (read_then (give_some (number_in word 4294967295)) sock_from)) (λ taken sock. FitsMaybeSock sock × (word ∷ taken ≡ maybe_sock_fields sock))
sock_by word true e = only_give None (tt, ap (λ w. w ∷ []) ((bytes_eq-Decides word (codes "-")).0 e))
sock_by word false e = sock_found word (number_in word 4294967295) refl

part_all : (sock : OpId) → FitsSock sock → All (sock_from sock.step) (Some sock) (decimal sock.part ∷ [])
part_all sock fits = all_last _ u64_exactly fits.1 all_give

step_all : (sock : OpId) → FitsSock sock → All (sock_or_none (decimal sock.step)) (Some sock) (decimal sock.part ∷ [])
unfolding read_then give_some
step_all sock fits = record { given = λ rest. rw (not_dash sock.step fits.0, number_in_decimal (decimal sock.step) 4294967295 sock.step (omega arith) refl fits.0) ((part_all sock fits).given rest) }

sock_all : (sock : Option OpId) → FitsMaybeSock sock → All maybe_sock_at sock (maybe_sock_fields sock)
unfolding maybe_sock_at
sock_all None fits = all_last _ word_exactly (visible_utf8 _ refl) all_give
sock_all (Some sock) fits = all_then _ word_exactly (decimal_utf8 sock.step fits.0) (step_all sock fits)

maybe_sock_exactly : ReadsExactly maybe_sock_at maybe_sock_fields FitsMaybeSock
unfolding maybe_sock_at
maybe_sock_exactly = exactly (only_then _ word_exactly (λ word utf8. sock_by word (bytes_eq word (codes "-")) refl)) sock_all

-- == arguments
-- whether more fields may follow it: none may follow addresses up to the end of the line
abbrev pub goes_on : Kind → Bool
goes_on SomeIps = false
goes_on _ = true

kind_exactly : (kind : Kind) → goes_on kind ≡ true → ReadsExactly (value_at kind) (value_fields kind) (FitsValue kind)
kind_exactly ASock more = sock_exactly
kind_exactly ANumber more = u32_exactly
kind_exactly AValue more = u64_exactly
kind_exactly AFamily more = family_exactly
kind_exactly AnAddress more = address_exactly
kind_exactly AUse more = use_exactly
kind_exactly AHalf more = half_exactly
kind_exactly AnOption more = option_exactly
kind_exactly SomeBytes more = bytes_exactly
kind_exactly AHandleKind more = handle_kind_exactly
kind_exactly AParent more = maybe_handle_exactly
kind_exactly AMaybeSock more = maybe_sock_exactly
kind_exactly ACode more = code_exactly
kind_exactly SomeIps more = absurd (cc)

kind_last : (kind : Kind) → ReadsLast (value_at kind) (value_fields kind) (FitsValue kind)
kind_last SomeIps = names_last
kind_last kind = last_of (kind_exactly kind refl)

-- whether more fields may follow all of them
abbrev pub all_go_on : List Kind → Bool
all_go_on [] = true
all_go_on (kind ∷ kinds) = goes_on kind && all_go_on kinds

-- only the last may end the line
abbrev pub ends_last : List Kind → Bool
ends_last [] = true
ends_last (kind ∷ []) = true
ends_last (kind ∷ next ∷ kinds) = goes_on kind && ends_last (next ∷ kinds)

pub values_only : {A : Type 0} (kinds : List Kind) (makes : Takes A kinds) {Q : List (List ℕ) → A → Type 0} → ((values : Values kinds) → FitsValues kinds values → Q (values_fields kinds values) (made kinds makes values)) → Only (values_at kinds makes) Q
values_only [] a q = only_give a (q tt tt)
values_only (kind ∷ kinds) makes q = only_next _ (kind_last kind) (λ value fits. values_only kinds (makes value) (λ values more. q (value, values) (fits, more)))

pub values_all : {A : Type 0} (kinds : List Kind) (makes : Takes A kinds) (values : Values kinds) → all_go_on kinds ≡ true → FitsValues kinds values → All (values_at kinds makes) (made kinds makes values) (values_fields kinds values)
values_all [] a values go fits = all_give
values_all (kind ∷ kinds) makes values go fits =
    let both = and_parts (goes_on kind) _ go in
    all_then _ (kind_exactly kind both.0) fits.0 (values_all kinds (makes values.0) values.1 both.1 fits.1)

alone : {A : Type 0} (kind : Kind) (makes : Value kind → A) (value : Value kind) → FitsValue kind value → Last (read_then (value_at kind) (λ v. give (makes v))) (makes value) (value_fields kind value ++ [])
alone kind makes value fits = rw append-nil (last_alone _ (kind_last kind) fits last_give)

pub values_last : {A : Type 0} (kinds : List Kind) (makes : Takes A kinds) (values : Values kinds) → ends_last kinds ≡ true → FitsValues kinds values → Last (values_at kinds makes) (made kinds makes values) (values_fields kinds values)
values_last [] a values ends fits = last_give
values_last (kind ∷ []) makes values ends fits = alone kind makes values.0 fits.0
values_last (kind ∷ next ∷ kinds) makes values ends fits =
    let both = and_parts (goes_on kind) _ ends in
    last_then _ (kind_exactly kind both.0) fits.0 (values_last (next ∷ kinds) (makes values.0) values.1 both.1 fits.1)

-- == visible characters
use_visible : (asked : SocketAddrUse) → IsTrue (list_all is_visible (use_text asked))
use_visible usage.TcpBind = refl
use_visible _ = refl

option_visible : (option : Opt) → IsTrue (list_all is_visible (option_text option))
option_visible opt.KeepAliveEnabled = refl
option_visible _ = refl

handle_kind_visible : (kind : HandleKind) → IsTrue (list_all is_visible (handle_kind_text kind))
handle_kind_visible handle_kind.Network = refl
handle_kind_visible _ = refl

half_visible : (how : ShutdownType) → IsTrue (list_all is_visible (half_text how))
half_visible Receive = refl
half_visible _ = refl

small : (n : ℕ) → n ≤ 18446744073709551615 → IsTrue (list_all is_visible (decimal n))
small n fits = number_visible n (omega arith)

pub sock_visible : (sock : OpId) → FitsSock sock → AreVisible (sock_fields sock)
sock_visible sock fits = (small sock.step (omega (arith, fits.0)), (small sock.part fits.1, tt))

ip_visible : (a : IpAddress) → FitsIp a → AreVisible (ip_fields a)
ip_visible (ip.Ipv4 (a, b, c, d)) fits =
    (small 4 (omega arith), (small a (omega (arith, fits.0)), (small b (omega (arith, fits.1)), (small c (omega (arith, fits.2)), (small d (omega (arith, fits.3)), tt)))))
ip_visible (ip.Ipv6 (a, b, c, d, e, f, g, h)) fits =
    let segment = λ (n : ℕ) (k : n ≤ 65535). small n (omega arith) in
    (small 6 (omega arith), (segment a fits.0, (segment b fits.1, (segment c fits.2, (segment d fits.3, (segment e fits.4, (segment f fits.5, (segment g fits.6, (segment h fits.7, tt)))))))))

ips_visible : (addresses : List IpAddress) → AllByRecursion FitsIp addresses → AreVisible (flat_map ip_fields addresses)
ips_visible [] fits = tt
ips_visible (a ∷ addresses) fits = both_visible (ip_fields a) _ (ip_visible a fits.0) (ips_visible addresses fits.1)

parent_visible : (handle : Option ℕ) → FitsMaybeHandle handle → AreVisible (maybe_handle_fields handle)
parent_visible None fits = (refl, tt)
parent_visible (Some n) fits = (small n (omega arith), tt)

maybe_sock_visible : (sock : Option OpId) → FitsMaybeSock sock → AreVisible (maybe_sock_fields sock)
maybe_sock_visible None fits = (refl, tt)
maybe_sock_visible (Some sock) fits = sock_visible sock fits

value_visible : (kind : Kind) (value : Value kind) → FitsValue kind value → AreVisible (value_fields kind value)
value_visible ASock sock fits = sock_visible sock fits
value_visible ANumber n fits = (small n (omega arith), tt)
value_visible AValue n fits = (small n fits, tt)
value_visible AFamily family fits = family_visible family
value_visible AnAddress a fits = address_visible a fits
value_visible AUse asked fits = (use_visible asked, tt)
value_visible AHalf how fits = (half_visible how, tt)
value_visible AnOption option fits = (option_visible option, tt)
value_visible SomeBytes bytes fits = bytes_visible bytes fits
value_visible AHandleKind kind fits = (handle_kind_visible kind, tt)
value_visible AParent handle fits = parent_visible handle fits
value_visible AMaybeSock sock fits = maybe_sock_visible sock fits
value_visible ACode code fits = code_visible code
value_visible SomeIps addresses fits = ips_visible addresses fits

pub values_visible : (kinds : List Kind) (values : Values kinds) → FitsValues kinds values → AreVisible (values_fields kinds values)
values_visible [] values fits = tt
values_visible (kind ∷ kinds) values fits =
    both_visible (value_fields kind values.0) (values_fields kinds values.1) (value_visible kind values.0 fits.0) (values_visible kinds values.1 fits.1)
