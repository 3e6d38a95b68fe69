-- An index of rules: the nodes of each use and family.
use Rattle.std.specs.Prelude.{◌≡◌, ℕ, List}
use Rattle.wasi_addr.specs.declared.address.SocketAddressFamily.{SocketAddressFamily}
use Rattle.wasi_addr.specs.declared.address.SocketAddressFamily.TheVariants as family
use Rattle.wasi_addr.specs.declared.address.SocketAddrUse.{SocketAddrUse}
use Rattle.wasi_addr.specs.declared.address.SocketAddrUse.TheVariants as usage
use Rattle.wasi_policy.specs.declared.index.Index.{Index}
use Rattle.wasi_policy.specs.declared.index.UseNodes.{UseNodes}
use Rattle.wasi_policy.specs.declared.node.Node.{Node}
use Rattle.wasi_policy.specs.declared.rule.Rule.{Rule}
use Rattle.wasi_policy.specs.Reach.{reaches_from, first_of}
use Rattle.wasi_policy.specs.Nodes.{at_nodes, IsIndex}

-- The nodes have the first of the rules that match, for each address of the family.
pub record AreNodesOf (rules : List Rule) (asked : SocketAddrUse) (family : SocketAddressFamily) (nodes : List Node) : Type 0 where
  pub index : IsIndex nodes
  pub first : (number port : ℕ) → at_nodes nodes number port ≡ first_of (reaches_from 0 rules asked family) number port

pub record AreUseNodesOf (rules : List Rule) (asked : SocketAddrUse) (nodes : UseNodes) : Type 0 where
  pub ipv4 : AreNodesOf rules asked family.Ipv4 nodes.ipv4.items
  pub ipv6 : AreNodesOf rules asked family.Ipv6 nodes.ipv6.items

pub record IsIndexOf (rules : List Rule) (index : Index) : Type 0 where
  pub tcp_bind : AreUseNodesOf rules usage.TcpBind index.tcp_bind
  pub tcp_listen : AreUseNodesOf rules usage.TcpListen index.tcp_listen
  pub tcp_accept : AreUseNodesOf rules usage.TcpAccept index.tcp_accept
  pub tcp_connect : AreUseNodesOf rules usage.TcpConnect index.tcp_connect
  pub udp_bind : AreUseNodesOf rules usage.UdpBind index.udp_bind
  pub udp_send : AreUseNodesOf rules usage.UdpSend index.udp_send
  pub udp_receive : AreUseNodesOf rules usage.UdpReceive index.udp_receive
