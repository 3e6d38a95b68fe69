-- What fields can be is read exactly.
use Rattle.std.proofs.Common.{◌≡◌, ℕ, ◌≤◌, Bool, true, false, cond, List, [], ◌∷◌, ◌++◌, map, bytes_eq, Option, Some, None, decimal, arith, ap, sym, refl, inl, inr, IsUtf8, find}
use Rattle.std.specs.Str.{is_utf8}
use Rattle.std.proofs.lemmas.Str.{IsUtf8-from_is_utf8, is_utf8-from_IsUtf8}
use Rattle.std.proofs.lemmas.Slice.Eq.{bytes_eq-Decides}
use Rattle.world_text.specs.declared.fields.TheConstants.{CODES}
use Rattle.world_text.proofs.BytesBack.{bytes_in_is, bytes_in_text}
use Rattle.std.specs.List.{list_all}
use Rattle.std.proofs.lemmas.Bool.{cases_eq, and_parts}
use Rattle.std.proofs.lemmas.Bool.Decides.{nat_tests}
use Rattle.wasi_addr.specs.declared.code.ErrorCode.{ErrorCode}
use Rattle.wasi_addr.specs.declared.code.ErrorCode.TheVariants as base
use Rattle.wasi_addr.specs.declared.address.SocketAddressFamily.{SocketAddressFamily}
use Rattle.wasi_addr.specs.declared.address.SocketAddressFamily.TheVariants as family
use Rattle.wasi_addr.specs.declared.address.IpAddress.{IpAddress}
use Rattle.wasi_addr.specs.declared.address.IpAddress.TheVariants as ip
use Rattle.wasi_addr.specs.declared.address.IpSocketAddress.{IpSocketAddress}
use Rattle.wasi_addr.specs.declared.address.IpSocketAddress.TheVariants as socket
use Rattle.world_text.specs.Fields.{read_then, give_some, word_at, number_at, family_of, family_at, ipv4_at, ipv6_at, ip_of_family, ip_at, address_of_family, address_at, named, code_text, code_in, code_at, bytes_at}
use Rattle.world_text.specs.Written.{ReadsExactly, AreBytes, number_fields, family_number, family_fields, code_fields, bytes_fields, ipv4_numbers, ipv6_numbers, ip_fields, address_fields, FitsIpv4, FitsIpv6, FitsIp, FitsAddress}
use Rattle.world_text.proofs.Exactly.{All, Only, exactly, all_give, only_give, all_some, only_some, all_then, only_then, field_exactly, number_exactly}

byte_exactly : ReadsExactly (number_at 255) number_fields (λ n. n ≤ 255)
byte_exactly = number_exactly 255 (omega arith)

segment_exactly : ReadsExactly (number_at 65535) number_fields (λ n. n ≤ 65535)
segment_exactly = number_exactly 65535 (omega arith)

pub u32_exactly : ReadsExactly (number_at 4294967295) number_fields (λ n. n ≤ 4294967295)
u32_exactly = number_exactly 4294967295 (omega arith)

family_number_is : (n : ℕ) (f : SocketAddressFamily) → family_of n ≡ Some f → n ≡ family_number f
family_number_is n f h =
    elim (cases_eq n 4) [
      | inl four ↦
          let is : family_of 4 ≡ Some f = rw four at h in
          let same : f ≡ family.Ipv4 = cc in
          rw (four, same)
      | inr no_four ↦
          elim (cases_eq n 6) [
            | inl six ↦
                let is : family_of 6 ≡ Some f = rw six at h in
                let same : f ≡ family.Ipv6 = cc in
                rw (six, same)
            | inr no_six ↦
                let none : family_of n ≡ None = grind (arith, nat_tests) in
                cc
          ]
    ]

family_is : (n : ℕ) (f : SocketAddressFamily) → family_of n ≡ Some f → Unit {0} × (decimal n ∷ [] ≡ family_fields f)
family_is n f h = (tt, ap (λ m. decimal m ∷ []) (family_number_is n f h))

family_all : (f : SocketAddressFamily) → All (read_then (number_at 6) (λ n. give_some (family_of n))) f (family_fields f)
family_all family.Ipv4 = all_then _ (number_exactly 6 (omega arith)) (omega arith) (all_some _ refl)
family_all family.Ipv6 = all_then _ (number_exactly 6 (omega arith)) (omega arith) (all_some _ refl)

pub family_exactly : ReadsExactly family_at family_fields (λ f. Unit {0})
unfolding family_at
family_exactly = exactly
    (only_then _ (number_exactly 6 (omega arith)) (λ n fits. only_some _ (family_is n)))
    (λ f fits. family_all f)

ipv4_exactly : ReadsExactly ipv4_at (λ a. map decimal (ipv4_numbers a)) FitsIpv4
unfolding ipv4_at
ipv4_exactly = exactly
    (only_then _ byte_exactly (λ a fa. only_then _ byte_exactly (λ b fb. only_then _ byte_exactly (λ c fc. only_then _ byte_exactly (λ d fd.
    only_give _ ((fa, fb, fc, fd), refl))))))
    (λ v fits. all_then _ byte_exactly fits.0 (all_then _ byte_exactly fits.1 (all_then _ byte_exactly fits.2 (all_then _ byte_exactly fits.3 all_give))))

ipv6_exactly : ReadsExactly ipv6_at (λ a. map decimal (ipv6_numbers a)) FitsIpv6
unfolding ipv6_at
ipv6_exactly = exactly
    (only_then _ segment_exactly (λ a fa. only_then _ segment_exactly (λ b fb. only_then _ segment_exactly (λ c fc. only_then _ segment_exactly (λ d fd.
    only_then _ segment_exactly (λ e fe. only_then _ segment_exactly (λ f ff. only_then _ segment_exactly (λ g fg. only_then _ segment_exactly (λ h fh.
    only_give _ ((fa, fb, fc, fd, fe, ff, fg, fh), refl))))))))))
    (λ v fits. all_then _ segment_exactly fits.0 (all_then _ segment_exactly fits.1 (all_then _ segment_exactly fits.2 (all_then _ segment_exactly fits.3
    (all_then _ segment_exactly fits.4 (all_then _ segment_exactly fits.5 (all_then _ segment_exactly fits.6 (all_then _ segment_exactly fits.7 all_give))))))))

ip_only : (f : SocketAddressFamily) → Only (ip_of_family f) (λ taken v. FitsIp v × (family_fields f ++ taken ≡ ip_fields v))
ip_only family.Ipv4 = only_then _ ipv4_exactly (λ a fits. only_give _ (fits, refl))
ip_only family.Ipv6 = only_then _ ipv6_exactly (λ a fits. only_give _ (fits, refl))

ip_all : (v : IpAddress) → FitsIp v → All (read_then family_at ip_of_family) v (ip_fields v)
ip_all (ip.Ipv4 a) fits = all_then _ {value = family.Ipv4} family_exactly tt (all_then _ ipv4_exactly fits all_give)
ip_all (ip.Ipv6 a) fits = all_then _ {value = family.Ipv6} family_exactly tt (all_then _ ipv6_exactly fits all_give)

pub ip_exactly : ReadsExactly ip_at ip_fields FitsIp
unfolding ip_at
ip_exactly = exactly (only_then _ family_exactly (λ f fits. ip_only f)) ip_all

address_only : (f : SocketAddressFamily) → Only (address_of_family f) (λ taken v. FitsAddress v × (family_fields f ++ taken ≡ address_fields v))
address_only family.Ipv4 =
    only_then _ ipv4_exactly (λ a fa. only_then _ segment_exactly (λ port fp. only_give _ ((fa, fp), refl)))
address_only family.Ipv6 =
    only_then _ ipv6_exactly (λ a fa. only_then _ segment_exactly (λ port fp. only_then _ u32_exactly (λ flow ff. only_then _ u32_exactly (λ scope fs.
    only_give _ ((fa, fp, ff, fs), refl)))))

address_all : (v : IpSocketAddress) → FitsAddress v → All (read_then family_at address_of_family) v (address_fields v)
address_all (socket.Ipv4 a) fits =
    all_then _ {value = family.Ipv4} family_exactly tt (all_then _ ipv4_exactly fits.0 (all_then _ segment_exactly fits.1 all_give))
address_all (socket.Ipv6 a) fits =
    all_then _ {value = family.Ipv6} family_exactly tt (all_then _ ipv6_exactly fits.0 (all_then _ segment_exactly fits.1
    (all_then _ u32_exactly fits.2 (all_then _ u32_exactly fits.3 all_give))))

pub address_exactly : ReadsExactly address_at address_fields FitsAddress
unfolding address_at
address_exactly = exactly (only_then _ family_exactly (λ f fits. address_only f)) address_all

first_passes : {A : Type 0} (test : A → Bool) (passed : Bool) (b a : A) (rest : Option A) → test b ≡ passed → (rest ≡ Some a → test a ≡ true) → cond passed (Some b) rest ≡ Some a → test a ≡ true
first_passes test true b a rest e more h = let same : b ≡ a = cc in rw (← same) e
first_passes test false b a rest e more h = more h

first_of_all : {A : Type 0} (test passes : A → Bool) (passed : Bool) (b a : A) (rest : Option A) → passes b ≡ true → (rest ≡ Some a → passes a ≡ true) → cond passed (Some b) rest ≡ Some a → passes a ≡ true
first_of_all test passes true b a rest e more h = let same : b ≡ a = cc in rw (← same) e
first_of_all test passes false b a rest e more h = more h

found_passes : {A : Type 0} (test : A → Bool) (all : List A) (a : A) → find test all ≡ Some a → test a ≡ true
found_passes test [] a h = cc
found_passes test (b ∷ all) a h = first_passes test (test b) b a (find test all) refl (found_passes test all a) h

-- what has a name is found by it alone
pub named_is : {A : Type 0} (name_of : A → List ℕ) (all : List A) (name : List ℕ) (a : A) → named name_of all name ≡ Some a → name_of a ≡ name
named_is name_of all name a h = (bytes_eq-Decides _ _).0 (found_passes (λ a. bytes_eq (name_of a) name) all a h)

found_of_all : {A : Type 0} (test passes : A → Bool) (all : List A) (a : A) → find test all ≡ Some a → list_all passes all ≡ true → passes a ≡ true
found_of_all test passes [] a h k = cc
found_of_all test passes (b ∷ all) a h k =
    let both = and_parts (passes b) _ k in
    first_of_all test passes (test b) b a (find test all) both.0 (λ e. found_of_all test passes all a e both.1) h

-- and passes what all of them pass
pub named_passes : {A : Type 0} (name_of : A → List ℕ) (passes : A → Bool) (all : List A) (name : List ℕ) (a : A) → named name_of all name ≡ Some a → list_all passes all ≡ true → passes a ≡ true
named_passes name_of passes all name a h k = found_of_all (λ a. bytes_eq (name_of a) name) passes all a h k

code_in_text : (code : ErrorCode) → code_in (code_text code) ≡ Some code
unfolding code_in
code_in_text base.AccessDenied = refl
code_in_text base.NotSupported = refl
code_in_text base.InvalidArgument = refl
code_in_text base.OutOfMemory = refl
code_in_text base.Timeout = refl
code_in_text base.InvalidState = refl
code_in_text base.AddressNotBindable = refl
code_in_text base.AddressInUse = refl
code_in_text base.RemoteUnreachable = refl
code_in_text base.ConnectionRefused = refl
code_in_text base.ConnectionBroken = refl
code_in_text base.ConnectionReset = refl
code_in_text base.ConnectionAborted = refl
code_in_text base.DatagramTooLarge = refl
code_in_text base.Other = refl

code_in_is : (field : List ℕ) (code : ErrorCode) → code_in field ≡ Some code → code_text code ≡ field
unfolding code_in
code_in_is field code h = named_is code_text CODES field code h

pub code_exactly : ReadsExactly code_at code_fields (λ code. Unit {0})
unfolding code_at
code_exactly = exactly
    (only_then _ field_exactly (λ field u. only_some _ (λ code h. (tt, ap (λ f. f ∷ []) (sym (code_in_is field code h))))))
    (λ code fits. all_then _ field_exactly tt (all_some _ (code_in_text code)))

pub bytes_exactly : ReadsExactly bytes_at bytes_fields AreBytes
unfolding bytes_at
bytes_exactly = exactly
    (only_then _ field_exactly (λ field u. only_some _ (λ bytes h. let is = bytes_in_is field bytes h in (is.0, ap (λ f. f ∷ []) is.1))))
    (λ bytes are. all_then _ field_exactly tt (all_some _ (bytes_in_text bytes are)))

text_of_utf8 : (utf8 : Bool) (field word : List ℕ) → cond utf8 (Some field) None ≡ Some word → (utf8 ≡ true) × (field ≡ word)
text_of_utf8 true field word h = (refl, cc)
text_of_utf8 false field word h = cc

pub word_exactly : ReadsExactly word_at (λ word. word ∷ []) IsUtf8
unfolding word_at
word_exactly = exactly
    (only_then _ field_exactly (λ field u. only_some _ (λ word h.
    let is = text_of_utf8 (is_utf8 field) field word h in
    (rw is.1 at (IsUtf8-from_is_utf8 field is.0), ap (λ f. f ∷ []) is.1))))
    (λ word utf8. all_then _ field_exactly tt (all_some _ (rw (is_utf8-from_IsUtf8 word utf8))))
