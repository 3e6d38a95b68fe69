use Rattle.std.proofs.Common.{refl}
use Rattle.wasi_world.proofs.Walks.{asks_at, asks_exit, asks_end}
use Rattle.udp_records.specs.Udp.{close_udp_asks}
use Rattle.udp_records.proofs.UdpPolls.{is_open, open_closes, holds_as_before}
use Rattle.udp_records.proofs.udp.UdpRecord.close.Goals as goal

pub returns-in_err-close-clause-asked : goal.returns-in_err-close-clause-asked
returns-in_err-close-clause-asked g c =
    asks_at (close_udp_asks c.args.op) (is_open c.args.self.now c.in-Some.open.now c.in-Some.ensures)
    (asks_exit _ _ c.from_residual.ensures.1 (rw c.side-side.ensures at c.in_err-close.ensures.asked).err)

pub returns-clause-asked : goal.returns-clause-asked
returns-clause-asked g c =
    rw c.side-side.ensures
    (asks_at (close_udp_asks c.args.op) (is_open c.args.self.now c.in-Some.open.now c.in-Some.ensures)
    (asks_end _ (rw c.side-side.ensures at c.in_ok-close.ensures.asked).ok refl))

pub returns-clause-held : goal.returns-clause-held
returns-clause-held g c = rw (is_open c.args.self.now c.in-Some.open.now c.in-Some.ensures) (open_closes c.args.op _ (rw c.side-side.ensures at c.in_ok-close.ensures.asked).ok)

pub returns-in_err-close-clause-held : goal.returns-in_err-close-clause-held
returns-in_err-close-clause-held g c = holds_as_before _ c.in_err-close.ensures.err
