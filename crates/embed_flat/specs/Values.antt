-- Addresses and datagrams as values of the interface's types.
use Rattle.std.specs.Prelude.{ℕ, Option, Some, None}
use Rattle.wasi_addr.specs.declared.address.IpAddress.{IpAddress}
use Rattle.wasi_addr.specs.declared.address.IpAddress.TheVariants as ip
use Rattle.wasi_addr.specs.declared.address.IpSocketAddress.{IpSocketAddress}
use Rattle.wasi_addr.specs.declared.address.IpSocketAddress.TheVariants as socket
use Rattle.wasi_addr.specs.declared.address.SocketAddressFamily.{SocketAddressFamily}
use Rattle.wasi_addr.specs.declared.address.SocketAddressFamily.TheVariants as family
use Rattle.wasi_world.specs.declared.datagram.IncomingDatagram.{IncomingDatagram}
use Rattle.embed_flat.specs.Abi.{Value}
use Rattle.embed_flat.specs.Wit.{option, ipv4_address, ipv6_address, ip_address, ip_socket_address, incoming_datagram}

abbrev pub ipv4_value : ℕ × ℕ × ℕ × ℕ → Value ipv4_address
ipv4_value (a, b, c, d) = (a, (b, (c, (d, tt))))

abbrev pub ipv6_value : ℕ × ℕ × ℕ × ℕ × ℕ × ℕ × ℕ × ℕ → Value ipv6_address
ipv6_value (a, b, c, d, e, f, g, h) = (a, (b, (c, (d, (e, (f, (g, (h, tt))))))))

abbrev pub ip_value : IpAddress → Value ip_address
ip_value (ip.Ipv4 a) = (0, ipv4_value a)
ip_value (ip.Ipv6 a) = (1, ipv6_value a)

abbrev pub found_value : Option IpAddress → Value (option ip_address)
found_value None = (0, tt)
found_value (Some a) = (1, ip_value a)

abbrev pub address_value : IpSocketAddress → Value ip_socket_address
address_value (socket.Ipv4 a) = (0, (a.port, (ipv4_value a.address, tt)))
address_value (socket.Ipv6 a) = (1, (a.port, (a.flow_info, (ipv6_value a.address, (a.scope_id, tt)))))

abbrev pub remote_value : Option IpSocketAddress → Value (option ip_socket_address)
remote_value None = (0, tt)
remote_value (Some a) = (1, address_value a)

-- its bytes lie at this place
abbrev pub datagram_value : IncomingDatagram → ℕ → Value incoming_datagram
datagram_value d place = ((place, d.bytes), (address_value d.remote_address, tt))

-- the case of a family
abbrev pub family_case : SocketAddressFamily → ℕ
family_case family.Ipv4 = 0
family_case family.Ipv6 = 1
