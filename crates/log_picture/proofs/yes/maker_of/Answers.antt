use Rattle.std.proofs.Common.{rules, ◌-◌}
use Rattle.log_picture.proofs.Makers.{handed, tcp_created, udp_created}
use Rattle.log_picture.proofs.yes.maker_of.Goals as goal

pub loop-place-preserved-in-Hand : goal.loop-place-preserved-in-Hand
loop-place-preserved-in-Hand c =
    λ ctx family maker. c.loop-place.invariant ctx family (handed c.args.log.now (c.loop-place.place - 1) c.in_ok-entry.entry.now c.loop-place.side c.in-Hand.sock c.in-Hand.peer ctx family (search rules) c.in_ok-entry.ensures.lookup.1 (search rules) c.in-Hand.is maker)

pub returns-in-TcpCreate : goal.returns-in-TcpCreate
returns-in-TcpCreate c =
    c.loop-place.invariant c.in-TcpCreate.ctx c.in-TcpCreate.family (tcp_created c.args.log.now (c.loop-place.place - 1) c.in_ok-entry.entry.now c.loop-place.side c.in-TcpCreate.ctx c.in-TcpCreate.family (search rules) c.in_ok-entry.ensures.lookup.1 (search rules) c.in-TcpCreate.is)

pub returns-in-UdpCreate : goal.returns-in-UdpCreate
returns-in-UdpCreate c =
    c.loop-place.invariant c.in-UdpCreate.ctx c.in-UdpCreate.family (udp_created c.args.log.now (c.loop-place.place - 1) c.in_ok-entry.entry.now c.loop-place.side c.in-UdpCreate.ctx c.in-UdpCreate.family (search rules) c.in_ok-entry.ensures.lookup.1 (search rules) c.in-UdpCreate.is)
