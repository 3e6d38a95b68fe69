use Rattle.wasi_addr.proofs.Conversions.{ipv4_inverse, ipv6_inverse, ip_inverse, ipv4_socket_inverse, ipv6_socket_inverse, socket_inverse}
use Rattle.wasi_addr.proofs.convert.conversions_are_inverse.Goals as goal

pub returns : goal.returns
returns c = record {
  ipv4 = ipv4_inverse;
  ipv6 = ipv6_inverse;
  ip = ip_inverse;
  ipv4_socket = ipv4_socket_inverse;
  ipv6_socket = ipv6_socket_inverse;
  socket = socket_inverse;
}
