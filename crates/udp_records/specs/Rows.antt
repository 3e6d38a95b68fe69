-- The types of UDP sockets' records as the logic holds them, for the clauses on what a `&mut` lends.
use denote.RattleType.{RattleType}
use Rattle.udp_records.specs.contracts.udp.UdpRecord as datagrams
use Rattle.udp_records.specs.contracts.udp.OpenUdp as opened

abbrev pub udp_row : RattleType
udp_row = datagrams.the_row

abbrev pub open_row : RattleType
open_row = opened.the_row
