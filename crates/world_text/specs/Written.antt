-- How values are written as fields, and that exactly these are read.
use Rattle.std.specs.Prelude.{◌≡◌, ℕ, ◌<◌, ◌≤◌, Bool, ◌&&◌, ◌||◌, nat_le, List, [], ◌∷◌, ◌++◌, map, decimal, slice_index, Some, IsTrue}
use Rattle.std.specs.List.{list_all, AllByRecursion}
use Rattle.wasi_addr.specs.declared.code.ErrorCode.{ErrorCode}
use Rattle.wasi_addr.specs.declared.address.SocketAddressFamily.{SocketAddressFamily}
use Rattle.wasi_addr.specs.declared.address.SocketAddressFamily.TheVariants as family
use Rattle.wasi_addr.specs.declared.address.IpAddress.{IpAddress}
use Rattle.wasi_addr.specs.declared.address.IpAddress.TheVariants as ip
use Rattle.wasi_addr.specs.declared.address.IpSocketAddress.{IpSocketAddress}
use Rattle.wasi_addr.specs.declared.address.IpSocketAddress.TheVariants as socket
use Rattle.world_text.specs.Fields.{is_space, Reader, code_text, bytes_text}

-- What is read is written so, and what is written so is read, whatever follows it.
pub record ReadsExactly {A : Type 0} (read : Reader A) (written : A → List (List ℕ)) (Fits : A → Type 0) : Type 0 where
  pub only : (value : A) (fields rest : List (List ℕ)) → read fields ≡ Some (value, rest) → Fits value × (fields ≡ written value ++ rest)
  pub all : (value : A) (rest : List (List ℕ)) → Fits value → read (written value ++ rest) ≡ Some (value, rest)

-- the numbers that an address is written as
abbrev pub family_number : SocketAddressFamily → ℕ
family_number family.Ipv4 = 4
family_number family.Ipv6 = 6

abbrev pub ipv4_numbers : ℕ × ℕ × ℕ × ℕ → List ℕ
ipv4_numbers (a, b, c, d) = a ∷ b ∷ c ∷ d ∷ []

abbrev pub ipv6_numbers : ℕ × ℕ × ℕ × ℕ × ℕ × ℕ × ℕ × ℕ → List ℕ
ipv6_numbers (a, b, c, d, e, f, g, h) = a ∷ b ∷ c ∷ d ∷ e ∷ f ∷ g ∷ h ∷ []

abbrev pub ip_numbers : IpAddress → List ℕ
ip_numbers (ip.Ipv4 a) = 4 ∷ ipv4_numbers a
ip_numbers (ip.Ipv6 a) = 6 ∷ ipv6_numbers a

abbrev pub address_numbers : IpSocketAddress → List ℕ
address_numbers (socket.Ipv4 a) = 4 ∷ ipv4_numbers a.address ++ a.port ∷ []
address_numbers (socket.Ipv6 a) = 6 ∷ ipv6_numbers a.address ++ a.port ∷ a.flow_info ∷ a.scope_id ∷ []

-- the fields that values are written as
abbrev pub number_fields : ℕ → List (List ℕ)
number_fields n = decimal n ∷ []

abbrev pub family_fields : SocketAddressFamily → List (List ℕ)
family_fields f = decimal (family_number f) ∷ []

abbrev pub ip_fields : IpAddress → List (List ℕ)
ip_fields a = map decimal (ip_numbers a)

abbrev pub address_fields : IpSocketAddress → List (List ℕ)
address_fields a = map decimal (address_numbers a)

abbrev pub code_fields : ErrorCode → List (List ℕ)
code_fields code = code_text code ∷ []

abbrev pub bytes_fields : List ℕ → List (List ℕ)
bytes_fields bytes = bytes_text bytes ∷ []

-- what values of these types are
abbrev pub AreBytes : List ℕ → Type 0
AreBytes bytes = (i : ℕ) → slice_index bytes i < 256

abbrev pub FitsIpv4 : ℕ × ℕ × ℕ × ℕ → Type 0
FitsIpv4 (a, b, c, d) = (a ≤ 255) × (b ≤ 255) × (c ≤ 255) × (d ≤ 255)

abbrev pub FitsIpv6 : ℕ × ℕ × ℕ × ℕ × ℕ × ℕ × ℕ × ℕ → Type 0
FitsIpv6 (a, b, c, d, e, f, g, h) =
    (a ≤ 65535) × (b ≤ 65535) × (c ≤ 65535) × (d ≤ 65535) × (e ≤ 65535) × (f ≤ 65535) × (g ≤ 65535) × (h ≤ 65535)

abbrev pub FitsIp : IpAddress → Type 0
FitsIp (ip.Ipv4 a) = FitsIpv4 a
FitsIp (ip.Ipv6 a) = FitsIpv6 a

abbrev pub FitsAddress : IpSocketAddress → Type 0
FitsAddress (socket.Ipv4 a) = FitsIpv4 a.address × (a.port ≤ 65535)
FitsAddress (socket.Ipv6 a) = FitsIpv6 a.address × (a.port ≤ 65535) × (a.flow_info ≤ 4294967295) × (a.scope_id ≤ 4294967295)

-- a field of visible ASCII characters alone
abbrev pub is_visible : ℕ → Bool
is_visible b = nat_le 33 b && nat_le b 126

abbrev pub AreVisible : List (List ℕ) → Type 0
AreVisible fields = AllByRecursion (λ field. IsTrue (list_all is_visible field)) fields

-- a line of such fields alone: no tab, no return and nothing beyond ASCII is in it
abbrev pub IsVisible : List ℕ → Type 0
IsVisible line = IsTrue (list_all (λ b. is_visible b || is_space b) line)
