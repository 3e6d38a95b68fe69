-- Converting to std and back gives the same address, and so does converting from std and back.
use Rattle.std.proofs.Common.{◌≡◌, ℕ, List, [], ◌∷◌, length, slice_index, refl, ap}
use Rattle.std.specs.declared.net.ip_addr.IpAddr.{IpAddr}
use Rattle.std.specs.declared.net.ip_addr.IpAddr.TheVariants as std_ip
use Rattle.std.specs.declared.net.socket_addr.SocketAddr.{SocketAddr}
use Rattle.std.specs.declared.net.socket_addr.SocketAddr.TheVariants as std_socket
use Rattle.std.specs.Net.Addr.{IsIpv4Addr, IsIpv6Addr}
use Rattle.std.specs.Net.Socket.{IsSocketAddrV4, IsSocketAddrV6, IsSocketAddr}
use Rattle.wasi_addr.specs.declared.address.IpAddress.{IpAddress}
use Rattle.wasi_addr.specs.declared.address.IpAddress.TheVariants as ip
use Rattle.wasi_addr.specs.declared.address.IpSocketAddress.{IpSocketAddress}
use Rattle.wasi_addr.specs.declared.address.IpSocketAddress.TheVariants as socket
use Rattle.wasi_addr.specs.Conversion.{AreInverse, IsIpAddr, ipv4_to_std, ipv4_from_std, ipv6_to_std, ipv6_from_std, ip_to_std, ip_from_std, ipv4_socket_to_std, ipv4_socket_from_std, ipv6_socket_to_std, ipv6_socket_from_std, socket_to_std, socket_from_std}

-- a list of four is its elements by place
four_places : (xs : List ℕ) → length xs ≡ 4 → slice_index xs 0 ∷ slice_index xs 1 ∷ slice_index xs 2 ∷ slice_index xs 3 ∷ [] ≡ xs
four_places (_ ∷ _ ∷ _ ∷ _ ∷ []) four = refl
four_places _ four = cc

-- a list of eight is its elements by place
eight_places : (xs : List ℕ) → length xs ≡ 8 → slice_index xs 0 ∷ slice_index xs 1 ∷ slice_index xs 2 ∷ slice_index xs 3 ∷ slice_index xs 4 ∷ slice_index xs 5 ∷ slice_index xs 6 ∷ slice_index xs 7 ∷ [] ≡ xs
eight_places (_ ∷ _ ∷ _ ∷ _ ∷ _ ∷ _ ∷ _ ∷ _ ∷ []) eight = refl
eight_places _ eight = cc

-- the conversions of bare addresses are inverse
pub ipv4_inverse : AreInverse ipv4_to_std ipv4_from_std IsIpv4Addr
ipv4_inverse = record { back = λ a. refl; forth = λ b is. λ i. record { octets = four_places b.octets is.0 i } }

pub ipv6_inverse : AreInverse ipv6_to_std ipv6_from_std IsIpv6Addr
ipv6_inverse = record { back = λ a. refl; forth = λ b is. λ i. record { segments = eight_places b.segments is.0 i } }

ip_back : (a : IpAddress) → ip_from_std (ip_to_std a) ≡ a
ip_back (ip.Ipv4 a) = refl
ip_back (ip.Ipv6 a) = refl

ip_forth : (b : IpAddr) → IsIpAddr b → ip_to_std (ip_from_std b) ≡ b
ip_forth (std_ip.V4 b) is = ap std_ip.V4 (ipv4_inverse.forth b is)
ip_forth (std_ip.V6 b) is = ap std_ip.V6 (ipv6_inverse.forth b is)

pub ip_inverse : AreInverse ip_to_std ip_from_std IsIpAddr
ip_inverse = record { back = ip_back; forth = ip_forth }

-- the conversions of addresses with ports are inverse
pub ipv4_socket_inverse : AreInverse ipv4_socket_to_std ipv4_socket_from_std IsSocketAddrV4
ipv4_socket_inverse = record { back = λ a. refl; forth = λ b is. λ i. record b { ip = ipv4_inverse.forth b.ip is.0 i } }

pub ipv6_socket_inverse : AreInverse ipv6_socket_to_std ipv6_socket_from_std IsSocketAddrV6
ipv6_socket_inverse = record { back = λ a. refl; forth = λ b is. λ i. record b { ip = ipv6_inverse.forth b.ip is.0 i } }

socket_back : (a : IpSocketAddress) → socket_from_std (socket_to_std a) ≡ a
socket_back (socket.Ipv4 a) = refl
socket_back (socket.Ipv6 a) = refl

socket_forth : (b : SocketAddr) → IsSocketAddr b → socket_to_std (socket_from_std b) ≡ b
socket_forth (std_socket.V4 b) is = ap std_socket.V4 (ipv4_socket_inverse.forth b is)
socket_forth (std_socket.V6 b) is = ap std_socket.V6 (ipv6_socket_inverse.forth b is)

pub socket_inverse : AreInverse socket_to_std socket_from_std IsSocketAddr
socket_inverse = record { back = socket_back; forth = socket_forth }
