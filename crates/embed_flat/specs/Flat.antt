-- Arguments as the canonical ABI lifts them from numbers: of a number of 32 bits the low ones where the type has fewer, a truth value from any
-- but 0, of a variant its case and then what it carries.
use Rattle.std.specs.Prelude.{ℕ, ◌+◌, ◌%◌, ◌==◌, nat_lt, Bool, not, if◌then◌else◌, List, Option, Some, None, Result, Ok, Err, slice_get}
use Rattle.wasi_addr.specs.declared.address.IpSocketAddress.{IpSocketAddress}
use Rattle.wasi_addr.specs.declared.address.IpSocketAddress.TheVariants as socket
use Rattle.wasi_addr.specs.declared.address.Ipv4SocketAddress.{Ipv4SocketAddress}
use Rattle.wasi_addr.specs.declared.address.Ipv6SocketAddress.{Ipv6SocketAddress}
use Rattle.wasi_addr.specs.declared.address.SocketAddressFamily.{SocketAddressFamily}
use Rattle.wasi_addr.specs.declared.address.SocketAddressFamily.TheVariants as family
use Rattle.embed_flat.specs.declared.args.Refusal.{Refusal}
use Rattle.embed_flat.specs.declared.args.Refusal.TheVariants as refusal

abbrev pub and_then : {A B : Type 0} → Result A Refusal → (A → Result B Refusal) → Result B Refusal
and_then (Ok a) f = f a
and_then (Err e) f = Err e

-- == numbers
abbrev pub u64_told : Option ℕ → Result ℕ Refusal
u64_told None = Err refusal.Argument
u64_told (Some n) = Ok n

abbrev pub u64_at : List ℕ → ℕ → Result ℕ Refusal
u64_at numbers k = u64_told (slice_get numbers k)

abbrev pub u32_of : ℕ → Result ℕ Refusal
u32_of n = if nat_lt 4294967295 n then Err refusal.Argument else Ok n

abbrev pub u32_at : List ℕ → ℕ → Result ℕ Refusal
u32_at numbers k = and_then (u64_at numbers k) u32_of

abbrev pub u16_at : List ℕ → ℕ → Result ℕ Refusal
u16_at numbers k = and_then (u32_at numbers k) (λ n. Ok (n % 65536))

abbrev pub u8_at : List ℕ → ℕ → Result ℕ Refusal
u8_at numbers k = and_then (u32_at numbers k) (λ n. Ok (n % 256))

abbrev pub truth_at : List ℕ → ℕ → Result Bool Refusal
truth_at numbers k = and_then (u32_at numbers k) (λ n. Ok (not (n == 0)))

-- == addresses
abbrev pub family_of : ℕ → Result SocketAddressFamily Refusal
family_of n = if n == 0 then Ok family.Ipv4 else if n == 1 then Ok family.Ipv6 else Err refusal.Argument

abbrev pub family_at : List ℕ → ℕ → Result SocketAddressFamily Refusal
family_at numbers k = and_then (u64_at numbers k) family_of

-- its port and its four bytes
abbrev pub ipv4_at : List ℕ → ℕ → Result Ipv4SocketAddress Refusal
ipv4_at numbers k =
    and_then (u16_at numbers k) (λ port.
    and_then (u8_at numbers (k + 1)) (λ a. and_then (u8_at numbers (k + 2)) (λ b. and_then (u8_at numbers (k + 3)) (λ c. and_then (u8_at numbers (k + 4)) (λ d.
    Ok (record { port = port; address = (a, b, c, d) }))))))

-- its port, its flow info, its eight segments and its scope
abbrev pub ipv6_at : List ℕ → ℕ → Result Ipv6SocketAddress Refusal
ipv6_at numbers k =
    and_then (u16_at numbers k) (λ port. and_then (u32_at numbers (k + 1)) (λ flow.
    and_then (u16_at numbers (k + 2)) (λ a. and_then (u16_at numbers (k + 3)) (λ b. and_then (u16_at numbers (k + 4)) (λ c. and_then (u16_at numbers (k + 5)) (λ d.
    and_then (u16_at numbers (k + 6)) (λ e. and_then (u16_at numbers (k + 7)) (λ f. and_then (u16_at numbers (k + 8)) (λ g. and_then (u16_at numbers (k + 9)) (λ h.
    and_then (u32_at numbers (k + 10)) (λ scope.
    Ok (record { port = port; flow_info = flow; address = (a, b, c, d, e, f, g, h); scope_id = scope }))))))))))))

abbrev pub address_of : SocketAddressFamily → List ℕ → ℕ → Result IpSocketAddress Refusal
address_of family.Ipv4 numbers k = and_then (ipv4_at numbers k) (λ a. Ok (socket.Ipv4 a))
address_of family.Ipv6 numbers k = and_then (ipv6_at numbers k) (λ a. Ok (socket.Ipv6 a))

abbrev pub address_at : List ℕ → ℕ → Result IpSocketAddress Refusal
address_at numbers k = and_then (family_at numbers k) (λ f. address_of f numbers (k + 1))

abbrev pub maybe_of : ℕ → List ℕ → ℕ → Result (Option IpSocketAddress) Refusal
maybe_of n numbers k = if n == 0 then Ok None else if n == 1 then and_then (address_at numbers k) (λ a. Ok (Some a)) else Err refusal.Argument

abbrev pub maybe_address_at : List ℕ → ℕ → Result (Option IpSocketAddress) Refusal
maybe_address_at numbers k = and_then (u64_at numbers k) (λ n. maybe_of n numbers (k + 1))
