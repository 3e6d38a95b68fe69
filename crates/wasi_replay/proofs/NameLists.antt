-- Addresses that are read up to the end of a line are read exactly.
use Rattle.std.proofs.Common.{◌≡◌, ℕ, zero, suc, ◌≤◌, List, [], ◌∷◌, ◌++◌, length, flat_map, Some, refl, ap, arith, subst, ◌∙◌}
use Rattle.std.specs.List.{AllByRecursion}
use Rattle.wasi_addr.specs.declared.address.IpAddress.{IpAddress}
use Rattle.wasi_addr.specs.declared.address.IpAddress.TheVariants as ip
use Rattle.world_text.specs.Fields.{give, read_then, up_to, ip_at, names_at}
use Rattle.world_text.specs.Written.{ip_fields, FitsIp}
use Rattle.world_text.proofs.Exactly.{Only, only_then, same_found}
use Rattle.world_text.proofs.ReadBack.{ip_exactly}
use Rattle.wasi_replay.proofs.Ends.{ReadsLast, only_made}

abbrev AreIps : List (List ℕ) → List IpAddress → Type 0
AreIps taken addresses = AllByRecursion FitsIp addresses × (taken ≡ flat_map ip_fields addresses)

-- what is read is written so
first_only : (n : ℕ) → Only (up_to ip_at n) AreIps → Only (read_then ip_at (λ a. read_then (up_to ip_at n) (λ more. give (a ∷ more)))) AreIps
first_only n others = only_then _ ip_exactly (λ a fits. only_made (λ more. a ∷ more) others (λ more taken is. ((fits, is.0), ap (λ fields. ip_fields a ++ fields) is.1)))

only_at : (n : ℕ) (addresses : List IpAddress) (fields rest : List (List ℕ)) → up_to ip_at n fields ≡ Some (addresses, rest) → (taken : List (List ℕ)) × (fields ≡ taken ++ rest) × AreIps taken addresses
only_at n addresses [] rest h =
    let same = same_found [] addresses [] rest h in
    ([], same.1, subst (λ a. AreIps [] a) same.0 (tt, refl))
only_at zero addresses (field ∷ fields) rest h = cc
only_at (suc n) addresses (field ∷ fields) rest h = (first_only n (record { holds = λ a fs left e. only_at n a fs left e })).holds addresses (field ∷ fields) rest h

-- and what is written so is read
one_more : (n : ℕ) (a : IpAddress) (addresses : List IpAddress) → FitsIp a → up_to ip_at n (flat_map ip_fields addresses) ≡ Some (addresses, []) → read_then ip_at (λ b. read_then (up_to ip_at n) (λ more. give (b ∷ more))) (ip_fields a ++ flat_map ip_fields addresses) ≡ Some (a ∷ addresses, [])
unfolding read_then give
one_more n a addresses fits h = rw (ip_exactly.all a (flat_map ip_fields addresses) fits, h) refl

all_at : (n : ℕ) (addresses : List IpAddress) → length addresses ≤ n → AllByRecursion FitsIp addresses → up_to ip_at n (flat_map ip_fields addresses) ≡ Some (addresses, [])
all_at n [] few fits = refl
all_at zero (a ∷ addresses) few fits = absurd (omega arith)
all_at (suc n) (ip.Ipv4 a ∷ addresses) few fits = one_more n (ip.Ipv4 a) addresses fits.0 (all_at n addresses (omega arith) fits.1)
all_at (suc n) (ip.Ipv6 a ∷ addresses) few fits = one_more n (ip.Ipv6 a) addresses fits.0 (all_at n addresses (omega arith) fits.1)

-- each has a field at least
enough : (addresses : List IpAddress) → length addresses ≤ length (flat_map ip_fields addresses)
enough [] = omega arith
enough (ip.Ipv4 a ∷ addresses) = let more = enough addresses in omega arith
enough (ip.Ipv6 a ∷ addresses) = let more = enough addresses in omega arith

pub names_last : ReadsLast names_at (λ addresses. flat_map ip_fields addresses) (AllByRecursion FitsIp)
names_last = record {
  only = λ addresses fields rest h. let is = only_at (length fields) addresses fields rest h in (is.2.0, is.1 ∙ ap (λ taken. taken ++ rest) is.2.1);
  all = λ addresses fits. all_at (length (flat_map ip_fields addresses)) addresses (enough addresses) fits;
}
