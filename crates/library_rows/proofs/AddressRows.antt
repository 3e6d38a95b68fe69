-- Rows of the tests on addresses, of the clamps and of the codes, computed on the definitions that the code equals.
use Rattle.std.specs.Prelude.{◌≡◌, refl, ℕ, Bool, true, false, List, [], ◌∷◌, map}
use Rattle.wasi_addr.specs.declared.address.SocketAddressFamily.TheVariants as family
use Rattle.wasi_addr.specs.declared.address.IpAddress.{IpAddress}
use Rattle.wasi_addr.specs.declared.address.IpAddress.TheVariants.{Ipv4, Ipv6}
use Rattle.wasi_addr.specs.declared.address.IpSocketAddress.{IpSocketAddress}
use Rattle.wasi_addr.specs.declared.address.IpSocketAddress.TheVariants as socket
use Rattle.wasi_addr.specs.Address.{canonical, is_deprecated, is_of_family, is_remote, is_unicast, is_wildcard, wildcard}
use Rattle.wasi_addr.specs.declared.code.ErrorCode.TheVariants as base
use Rattle.wasi_addr.specs.declared.lookup.ErrorCode.TheVariants as lookup
use Rattle.wasi_addr.specs.declared.p2.ErrorCode.TheVariants as p2
use Rattle.wasi_addr.specs.declared.p3.ErrorCode.TheVariants as p3
use Rattle.wasi_addr.specs.Code.{p2_of_code, p3_of_code, p2_of_lookup}
use Rattle.wasi_addr.specs.Clamp.{clamped_keep_alive_time, clamped_keep_alive_count, clamped_backlog, clamped_buffer_size, halved_buffer_size}

-- == addresses, as they are written
abbrev v4 : ℕ → ℕ → ℕ → ℕ → IpAddress
v4 a b c d = Ipv4 (a, b, c, d)

-- ::a:b
abbrev last : ℕ → ℕ → IpAddress
last a b = Ipv6 (0, 0, 0, 0, 0, 0, a, b)

-- ::ffff:a:b, an IPv4 address in IPv6
abbrev mapped : ℕ → ℕ → IpAddress
mapped a b = Ipv6 (0, 0, 0, 0, 0, 65535, a, b)

-- a::
abbrev first : ℕ → IpAddress
first a = Ipv6 (a, 0, 0, 0, 0, 0, 0, 0)

-- with a port
abbrev at : IpAddress → ℕ → IpSocketAddress
at (Ipv4 a) port = socket.Ipv4 (record { port = port; address = a })
at (Ipv6 a) port = socket.Ipv6 (record { port = port; flow_info = 0; address = a; scope_id = 0 })

-- what the five tests say: is it deprecated, of IPv4, of IPv6, unicast, and remote at port 80
abbrev tested : IpAddress → List Bool
tested a = is_deprecated a ∷ is_of_family a family.Ipv4 ∷ is_of_family a family.Ipv6 ∷ is_unicast a ∷ is_remote (at a 80) ∷ []

abbrev addresses : List IpAddress
addresses =
    v4 0 0 0 0 ∷ v4 223 255 255 255 ∷ v4 224 0 0 0 ∷ v4 239 255 255 255 ∷ v4 240 0 0 0 ∷ v4 255 255 255 254 ∷ v4 255 255 255 255 ∷
    last 0 0 ∷ last 0 1 ∷ last 0 2 ∷ last 258 772 ∷ Ipv6 (0, 0, 0, 0, 0, 1, 0, 0) ∷ mapped 0 0 ∷ mapped 57344 1 ∷ mapped 258 772 ∷
    first 65279 ∷ first 65280 ∷ []

the_tests_hold_at_their_ends : map tested addresses ≡
    (false ∷ true ∷ false ∷ true ∷ false ∷ []) ∷
    (false ∷ true ∷ false ∷ true ∷ true ∷ []) ∷
    (false ∷ true ∷ false ∷ false ∷ true ∷ []) ∷
    (false ∷ true ∷ false ∷ false ∷ true ∷ []) ∷
    (false ∷ true ∷ false ∷ true ∷ true ∷ []) ∷
    (false ∷ true ∷ false ∷ true ∷ true ∷ []) ∷
    (false ∷ true ∷ false ∷ false ∷ true ∷ []) ∷
    (false ∷ false ∷ true ∷ true ∷ false ∷ []) ∷
    (false ∷ false ∷ true ∷ true ∷ true ∷ []) ∷
    (true ∷ false ∷ false ∷ true ∷ true ∷ []) ∷
    (true ∷ false ∷ false ∷ true ∷ true ∷ []) ∷
    (false ∷ false ∷ true ∷ true ∷ true ∷ []) ∷
    (false ∷ false ∷ false ∷ true ∷ false ∷ []) ∷
    (false ∷ false ∷ false ∷ false ∷ true ∷ []) ∷
    (false ∷ false ∷ false ∷ true ∷ true ∷ []) ∷
    (false ∷ false ∷ true ∷ true ∷ true ∷ []) ∷
    (false ∷ false ∷ true ∷ false ∷ true ∷ []) ∷ []
the_tests_hold_at_their_ends = refl

-- 127.0.0.1 at ports 0 and 80, and an IPv4 address of zeros in IPv6 at port 80
remote_wants_an_address_and_a_port : map is_remote (at (v4 127 0 0 1) 0 ∷ at (v4 127 0 0 1) 80 ∷ at (mapped 0 0) 80 ∷ []) ≡ false ∷ true ∷ false ∷ []
remote_wants_an_address_and_a_port = refl

a_mapped_address_is_ipv4 : map canonical (mapped 49152 513 ∷ last 0 1 ∷ v4 192 0 2 1 ∷ []) ≡ v4 192 0 2 1 ∷ last 0 1 ∷ v4 192 0 2 1 ∷ []
a_mapped_address_is_ipv4 = refl

-- == wildcards
the_wildcards_are_zeros : wildcard family.Ipv4 ∷ wildcard family.Ipv6 ∷ [] ≡ at (v4 0 0 0 0) 0 ∷ at (last 0 0) 0 ∷ []
the_wildcards_are_zeros = refl

-- the last has a scope
abbrev nearly_wildcards : List IpSocketAddress
nearly_wildcards =
    at (v4 0 0 0 0) 0 ∷ at (v4 0 0 0 0) 1 ∷ at (v4 0 0 0 1) 0 ∷ at (last 0 0) 0 ∷ at (last 0 0) 1 ∷ at (last 0 1) 0 ∷
    socket.Ipv6 (record { port = 0; flow_info = 0; address = (0, 0, 0, 0, 0, 0, 0, 0); scope_id = 1 }) ∷ []

a_wildcard_is_all_zeros_of_ipv4 : map (is_wildcard family.Ipv4) nearly_wildcards ≡ true ∷ false ∷ false ∷ false ∷ false ∷ false ∷ false ∷ []
a_wildcard_is_all_zeros_of_ipv4 = refl

a_wildcard_is_all_zeros_of_ipv6 : map (is_wildcard family.Ipv6) nearly_wildcards ≡ false ∷ false ∷ false ∷ true ∷ false ∷ false ∷ false ∷ []
a_wildcard_is_all_zeros_of_ipv6 = refl

-- == clamps at their ends
times_are_clamped : map clamped_keep_alive_time (0 ∷ 999999999 ∷ 1000000000 ∷ 1000000001 ∷ 32766999999999 ∷ 32767000000000 ∷ 32767000000001 ∷ 18446744073709551615 ∷ [])
    ≡ 1000000000 ∷ 1000000000 ∷ 1000000000 ∷ 1000000001 ∷ 32766999999999 ∷ 32767000000000 ∷ 32767000000000 ∷ 32767000000000 ∷ []
times_are_clamped = refl

counts_are_clamped : map clamped_keep_alive_count (0 ∷ 1 ∷ 2 ∷ 127 ∷ 128 ∷ 4294967295 ∷ []) ≡ 1 ∷ 1 ∷ 2 ∷ 127 ∷ 127 ∷ 127 ∷ []
counts_are_clamped = refl

backlogs_are_clamped : map clamped_backlog (0 ∷ 1 ∷ 2147483646 ∷ 2147483647 ∷ 2147483648 ∷ 18446744073709551615 ∷ [])
    ≡ 1 ∷ 1 ∷ 2147483646 ∷ 2147483647 ∷ 2147483647 ∷ 2147483647 ∷ []
backlogs_are_clamped = refl

sizes_are_clamped : map clamped_buffer_size (0 ∷ 1 ∷ 2147483647 ∷ 2147483648 ∷ 18446744073709551615 ∷ []) ≡ 1 ∷ 1 ∷ 2147483647 ∷ 2147483647 ∷ 2147483647 ∷ []
sizes_are_clamped = refl

sizes_are_halved : map halved_buffer_size (0 ∷ 1 ∷ 2 ∷ 8192 ∷ 18446744073709551615 ∷ []) ≡ 0 ∷ 0 ∷ 1 ∷ 4096 ∷ 9223372036854775807 ∷ []
sizes_are_halved = refl

-- == codes that 0.2 or 0.3 doesn't have
codes_keep_their_names : map p2_of_code (base.ConnectionReset ∷ base.ConnectionBroken ∷ base.Other ∷ []) ≡ p2.ConnectionReset ∷ p2.Unknown ∷ p2.Unknown ∷ []
codes_keep_their_names = refl

codes_of_the_third_keep_their_names : map p3_of_code (base.ConnectionReset ∷ base.ConnectionBroken ∷ base.Other ∷ []) ≡ p3.ConnectionReset ∷ p3.ConnectionBroken ∷ p3.Other ∷ []
codes_of_the_third_keep_their_names = refl

codes_of_lookups_keep_their_names : map p2_of_lookup (lookup.NameUnresolvable ∷ lookup.Other ∷ []) ≡ p2.NameUnresolvable ∷ p2.Unknown ∷ []
codes_of_lookups_keep_their_names = refl
