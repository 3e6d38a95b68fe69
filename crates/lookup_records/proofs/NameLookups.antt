-- What is asked of a lookup, and the addresses that it found.
use Rattle.std.proofs.Common.{◌≡◌, ℕ, zero, suc, ◌<◌, List, [], ◌∷◌, ap, refl, map, length, slice_set, get_or, arith}
use Rattle.wasi_addr.specs.Address.{canonical}
use Rattle.wasi_addr.specs.declared.address.IpAddress.{IpAddress}
use Rattle.wasi_world.specs.declared.ids.OpId.{OpId}
use Rattle.wasi_world.specs.Typed.{ask_lookup}
use Rattle.record_common.proofs.SideCounts.{Calm, Any}

-- no network socket is made or closed
pub calm_lookup : (op : OpId) (host : List ℕ) → Calm Any (ask_lookup op host)
calm_lookup op host = ((λ t. refl, refl), λ t. tt)

-- == addresses that were found
-- the first so many in their canonical form, and the others as they are
abbrev pub converted : ℕ → List IpAddress → List IpAddress
converted zero xs = xs
converted (suc n) [] = []
converted (suc n) (x ∷ xs) = canonical x ∷ converted n xs

pub converted_all : (xs : List IpAddress) → converted (length xs) xs ≡ map canonical xs
converted_all [] = refl
converted_all (x ∷ xs) = ap (λ (l : List IpAddress). canonical x ∷ l) (converted_all xs)

pub length_converted : (n : ℕ) (xs : List IpAddress) → length (converted n xs) ≡ length xs
length_converted zero xs = refl
length_converted (suc n) [] = refl
length_converted (suc n) (x ∷ xs) = ap suc (length_converted n xs)

pub converted_next : (n : ℕ) (xs : List IpAddress) (d : IpAddress) → n < length xs → slice_set (converted n xs) n (canonical (get_or (converted n xs) n d)) ≡ converted (suc n) xs
converted_next n [] d l = absurd (omega (arith, l))
converted_next zero (x ∷ xs) d l = refl
converted_next (suc n) (x ∷ xs) d l = ap (λ (l : List IpAddress). canonical x ∷ l) (converted_next n xs d (omega (arith, l)))
