-- Whether a socket is bound, by the local address that the network reports.
use Rattle.std.specs.Prelude.{Bool, false, not, Result, Ok, Err}
use Rattle.wasi_addr.specs.declared.address.IpSocketAddress.{IpSocketAddress}
use Rattle.wasi_addr.specs.declared.address.SocketAddressFamily.{SocketAddressFamily}
use Rattle.wasi_addr.specs.declared.code.ErrorCode.{ErrorCode}
use Rattle.wasi_addr.specs.Address.{is_wildcard}

-- any address but the family's wildcard says that it is; a code says that it isn't
abbrev pub tells_bound : SocketAddressFamily → Result IpSocketAddress ErrorCode → Bool
tells_bound family (Ok a) = not (is_wildcard family a)
tells_bound family (Err c) = false
