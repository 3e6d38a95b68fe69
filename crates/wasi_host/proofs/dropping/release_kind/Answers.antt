use Rattle.std.proofs.Common.{refl}
use Rattle.wasi_world.proofs.Walks.{asks_end}
use Rattle.record_common.proofs.Hosts.{fault_exit}
use Rattle.wasi_host.proofs.dropping.release_kind.Goals as goal

pub returns-in_err-tcp_release-in-Tcp2-clause-asked : goal.returns-in_err-tcp_release-in-Tcp2-clause-asked
returns-in_err-tcp_release-in-Tcp2-clause-asked g c = rw c.in-Tcp2.is (fault_exit _ c.from_residual.result c.from_residual.ensures.1 (rw c.own.ensures at c.in_err-tcp_release-in-Tcp2.ensures.asked).err)

pub returns-in_err-answer-in-Output-clause-asked : goal.returns-in_err-answer-in-Output-clause-asked
returns-in_err-answer-in-Output-clause-asked g c = rw c.in-Output.is (fault_exit _ c.from_residual-in_err-answer-in-Output.result c.from_residual-in_err-answer-in-Output.ensures.1 c.in_err-answer-in-Output.ensures.asked.err)

pub returns-in_ok-tcp_release-in-Tcp2-clause-asked : goal.returns-in_ok-tcp_release-in-Tcp2-clause-asked
returns-in_ok-tcp_release-in-Tcp2-clause-asked g c = rw c.in-Tcp2.is (asks_end _ (rw c.own.ensures at c.in_ok-tcp_release-in-Tcp2.ensures.asked).ok refl)

pub returns-in_err-tcp_drop-in-Tcp3-clause-asked : goal.returns-in_err-tcp_drop-in-Tcp3-clause-asked
returns-in_err-tcp_drop-in-Tcp3-clause-asked g c = rw c.in-Tcp3.is (fault_exit _ c.from_residual-in_err-tcp_drop-in-Tcp3.result c.from_residual-in_err-tcp_drop-in-Tcp3.ensures.1 (rw c.own-in-Tcp3.ensures at c.in_err-tcp_drop-in-Tcp3.ensures.asked).err)

pub returns-in_ok-tcp_drop-in-Tcp3-clause-asked : goal.returns-in_ok-tcp_drop-in-Tcp3-clause-asked
returns-in_ok-tcp_drop-in-Tcp3-clause-asked g c = rw c.in-Tcp3.is (asks_end _ (rw c.own-in-Tcp3.ensures at c.in_ok-tcp_drop-in-Tcp3.ensures.asked).ok refl)

pub returns-in_ok-answer-in-Output-clause-asked : goal.returns-in_ok-answer-in-Output-clause-asked
returns-in_ok-answer-in-Output-clause-asked g c = rw c.in-Output.is (asks_end _ c.in_ok-answer-in-Output.ensures.asked.ok refl)

pub returns-in_err-release_udp-in-Udp2-clause-asked : goal.returns-in_err-release_udp-in-Udp2-clause-asked
returns-in_err-release_udp-in-Udp2-clause-asked g c = rw c.in-Udp2.is (fault_exit _ c.from_residual-in_err-release_udp-in-Udp2.result c.from_residual-in_err-release_udp-in-Udp2.ensures.1 (rw c.own-in-Udp2.ensures at c.in_err-release_udp-in-Udp2.ensures.asked).err)

pub returns-in_ok-release_udp-in-Udp2-clause-asked : goal.returns-in_ok-release_udp-in-Udp2-clause-asked
returns-in_ok-release_udp-in-Udp2-clause-asked g c = rw c.in-Udp2.is (asks_end _ (rw c.own-in-Udp2.ensures at c.in_ok-release_udp-in-Udp2.ensures.asked).ok refl)

pub returns-in_err-drop_udp-in-Udp3-clause-asked : goal.returns-in_err-drop_udp-in-Udp3-clause-asked
returns-in_err-drop_udp-in-Udp3-clause-asked g c = rw c.in-Udp3.is (fault_exit _ c.from_residual-in_err-drop_udp-in-Udp3.result c.from_residual-in_err-drop_udp-in-Udp3.ensures.1 (rw c.own-in-Udp3.ensures at c.in_err-drop_udp-in-Udp3.ensures.asked).err)

pub returns-in_ok-drop_udp-in-Udp3-clause-asked : goal.returns-in_ok-drop_udp-in-Udp3-clause-asked
returns-in_ok-drop_udp-in-Udp3-clause-asked g c = rw c.in-Udp3.is (asks_end _ (rw c.own-in-Udp3.ensures at c.in_ok-drop_udp-in-Udp3.ensures.asked).ok refl)

pub returns-in_err-drop_listener-in-Listen3-clause-asked : goal.returns-in_err-drop_listener-in-Listen3-clause-asked
returns-in_err-drop_listener-in-Listen3-clause-asked g c = rw c.in-Listen3.is (fault_exit _ c.from_residual-in_err-drop_listener-in-Listen3.result c.from_residual-in_err-drop_listener-in-Listen3.ensures.1 (rw c.own-in-Listen3.ensures at c.in_err-drop_listener-in-Listen3.ensures.asked).err)

pub returns-in_ok-drop_listener-in-Listen3-clause-asked : goal.returns-in_ok-drop_listener-in-Listen3-clause-asked
returns-in_ok-drop_listener-in-Listen3-clause-asked g c = rw c.in-Listen3.is (asks_end _ (rw c.own-in-Listen3.ensures at c.in_ok-drop_listener-in-Listen3.ensures.asked).ok refl)

pub returns-in_err-drop_end-in-Receive3-clause-asked : goal.returns-in_err-drop_end-in-Receive3-clause-asked
returns-in_err-drop_end-in-Receive3-clause-asked g c = rw c.in-Receive3.is (fault_exit _ c.from_residual-in_err-drop_end-in-Receive3.result c.from_residual-in_err-drop_end-in-Receive3.ensures.1 (rw c.own-in-Receive3.ensures at c.in_err-drop_end-in-Receive3.ensures.asked).err)

pub returns-in_ok-drop_end-in-Receive3-clause-asked : goal.returns-in_ok-drop_end-in-Receive3-clause-asked
returns-in_ok-drop_end-in-Receive3-clause-asked g c = rw c.in-Receive3.is (asks_end _ (rw c.own-in-Receive3.ensures at c.in_ok-drop_end-in-Receive3.ensures.asked).ok refl)

pub returns-in_err-drop_end-in-Send3-clause-asked : goal.returns-in_err-drop_end-in-Send3-clause-asked
returns-in_err-drop_end-in-Send3-clause-asked g c = rw c.in-Send3.is (fault_exit _ c.from_residual-in_err-drop_end-in-Send3.result c.from_residual-in_err-drop_end-in-Send3.ensures.1 (rw c.own-in-Send3.ensures at c.in_err-drop_end-in-Send3.ensures.asked).err)

pub returns-in_ok-drop_end-in-Send3-clause-asked : goal.returns-in_ok-drop_end-in-Send3-clause-asked
returns-in_ok-drop_end-in-Send3-clause-asked g c = rw c.in-Send3.is (asks_end _ (rw c.own-in-Send3.ensures at c.in_ok-drop_end-in-Send3.ensures.asked).ok refl)
