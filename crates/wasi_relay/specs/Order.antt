-- What a relay is asked for.
use Rattle.wasi_addr.specs.declared.address.IpSocketAddress.{IpSocketAddress}
use Rattle.wasi_addr.specs.declared.address.IpSocketAddress.TheVariants as address
use Rattle.wasi_addr.specs.declared.address.SocketAddressFamily.{SocketAddressFamily}
use Rattle.wasi_addr.specs.declared.address.SocketAddressFamily.TheVariants.{Ipv4, Ipv6}

abbrev pub family_of : IpSocketAddress → SocketAddressFamily
family_of (address.Ipv4 a) = Ipv4
family_of (address.Ipv6 a) = Ipv6
