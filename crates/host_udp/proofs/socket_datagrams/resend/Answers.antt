use Rattle.std.proofs.Common.{◌≡◌, refl}
use Rattle.wasi_world.specs.Operation.{Done, Nothing, Refused}
use Rattle.wasi_world.proofs.Walks.{asks_err, reaches_in}
use Rattle.record_common.specs.Binding.{bind_answer}
use Rattle.udp_records.proofs.DatagramSends.{send_makes_none}
use Rattle.host_store.specs.declared.beside.BesideCall.TheVariants.{Connect, Send}
use Rattle.host_store.specs.Beside.{beside_with}
use Rattle.host_udp.specs.SocketDatagrams.{send_polls}
use Rattle.host_store.specs.Store.{Records}
use Rattle.host_store.proofs.KnownSides.{knows_none}
use Rattle.host_udp.proofs.SocketDatagrams.{again_over, again_short, again_waits, same_send}
use Rattle.host_store.specs.declared.store.Store.TheView.{view}
use Rattle.host_udp.proofs.socket_datagrams.resend.Goals as goal

pub returns-in_ok-drop_datagram-in-Ok-Ready-clause-asked : goal.returns-in_ok-drop_datagram-in-Ok-Ready-clause-asked
returns-in_ok-drop_datagram-in-Ok-Ready-clause-asked g c = λ op its.
    let store : Records = view c.store.inside in
    let same : op ≡ c.in-Some-Send.send = same_send c.replace.result _ c.args.place _ op c.in-Some-Send.send c.in-Some-Send.field-0 c.in-Some-Send.is c.in-Some-Send.field-0-is c.replace.ensures.before (rw (← c.store.view_is) at its) in
    let told = rw (c.into_inner-send.ensures.send, c.in-Ok-Ready.field-0-is) at (c.in-Ok-Ready.ensures.polled c.into_inner-send.ensures.going) in
    rw (← c.store.view_is, ← c.in-Some.ensures.item, same)
    (again_over bind_answer c.args.line c.args.place (Send c.args.place) c.in-Some-Send.send store (send_polls c.in-Some.socket.now c.in-Some-Send.send) (Done Nothing) c.poll.new.self.left c.replace.new.self (Connect c.args.place) c.drop_datagram.new.store tt c.replace.ensures.calls told.ended c.in_ok-drop_datagram-in-Ok-Ready.ensures.asked.ok)

pub returns-in_err-drop_datagram-in-Ok-Ready-clause-asked : goal.returns-in_err-drop_datagram-in-Ok-Ready-clause-asked
returns-in_err-drop_datagram-in-Ok-Ready-clause-asked g c = λ op its.
    let store : Records = view c.store.inside in
    let same : op ≡ c.in-Some-Send.send = same_send c.replace.result _ c.args.place _ op c.in-Some-Send.send c.in-Some-Send.field-0 c.in-Some-Send.is c.in-Some-Send.field-0-is c.replace.ensures.before (rw (← c.store.view_is) at its) in
    let told = rw (c.into_inner-send.ensures.send, c.in-Ok-Ready.field-0-is) at (c.in-Ok-Ready.ensures.polled c.into_inner-send.ensures.going) in
    rw (← c.store.view_is, ← c.in-Some.ensures.item, same)
    (again_short bind_answer c.args.line c.args.place (Send c.args.place) c.in-Some-Send.send store (send_polls c.in-Some.socket.now c.in-Some-Send.send) (Done Nothing) c.poll.new.self.left c.replace.new.self (Connect c.args.place) c.from_residual.result c.from_residual.ensures.1 tt c.replace.ensures.calls told.ended c.in_err-drop_datagram-in-Ok-Ready.ensures.asked.err)

pub returns-in_ok-drop_datagram-in-Err-Code-clause-asked : goal.returns-in_ok-drop_datagram-in-Err-Code-clause-asked
returns-in_ok-drop_datagram-in-Err-Code-clause-asked g c = λ op its.
    let store : Records = view c.store.inside in
    let same : op ≡ c.in-Some-Send.send = same_send c.replace.result _ c.args.place _ op c.in-Some-Send.send c.in-Some-Send.field-0 c.in-Some-Send.is c.in-Some-Send.field-0-is c.replace.ensures.before (rw (← c.store.view_is) at its) in
    let told = rw (c.into_inner-send.ensures.send, c.in-Err-Code.field-0-is) at (c.in-Err-Code.ensures.polled c.into_inner-send.ensures.going) in
    rw (← c.store.view_is, ← c.in-Some.ensures.item, same)
    (again_over bind_answer c.args.line c.args.place (Send c.args.place) c.in-Some-Send.send store (send_polls c.in-Some.socket.now c.in-Some-Send.send) (Refused c.in-Err-Code.code Nothing) c.poll.new.self.left c.replace.new.self (Connect c.args.place) c.drop_datagram-in-Err-Code.new.store tt c.replace.ensures.calls told.ended c.in_ok-drop_datagram-in-Err-Code.ensures.asked.ok)

pub returns-in_err-drop_datagram-in-Err-Code-clause-asked : goal.returns-in_err-drop_datagram-in-Err-Code-clause-asked
returns-in_err-drop_datagram-in-Err-Code-clause-asked g c = λ op its.
    let store : Records = view c.store.inside in
    let same : op ≡ c.in-Some-Send.send = same_send c.replace.result _ c.args.place _ op c.in-Some-Send.send c.in-Some-Send.field-0 c.in-Some-Send.is c.in-Some-Send.field-0-is c.replace.ensures.before (rw (← c.store.view_is) at its) in
    let told = rw (c.into_inner-send.ensures.send, c.in-Err-Code.field-0-is) at (c.in-Err-Code.ensures.polled c.into_inner-send.ensures.going) in
    rw (← c.store.view_is, ← c.in-Some.ensures.item, same)
    (again_short bind_answer c.args.line c.args.place (Send c.args.place) c.in-Some-Send.send store (send_polls c.in-Some.socket.now c.in-Some-Send.send) (Refused c.in-Err-Code.code Nothing) c.poll.new.self.left c.replace.new.self (Connect c.args.place) c.from_residual-in_err-drop_datagram-in-Err-Code.result c.from_residual-in_err-drop_datagram-in-Err-Code.ensures.1 tt c.replace.ensures.calls told.ended c.in_err-drop_datagram-in-Err-Code.ensures.asked.err)

pub returns-in-Ok-Pending-clause-asked : goal.returns-in-Ok-Pending-clause-asked
returns-in-Ok-Pending-clause-asked g c = λ op its.
    let store : Records = view c.store.inside in
    let same : op ≡ c.in-Some-Send.send = same_send c.replace.result _ c.args.place _ op c.in-Some-Send.send c.in-Some-Send.field-0 c.in-Some-Send.is c.in-Some-Send.field-0-is c.replace.ensures.before (rw (← c.store.view_is) at its) in
    let told = rw (c.into_inner-send.ensures.send, c.in-Ok-Pending.field-0-is) at (c.in-Ok-Pending.ensures.polled c.into_inner-send.ensures.going) in
    rw (← c.store.view_is, ← c.in-Some.ensures.item, same, c.put_send.ensures)
    (again_waits bind_answer c.args.line c.args.place (Send c.args.place) c.in-Some-Send.send store (send_polls c.in-Some.socket.now c.in-Some-Send.send) c.poll.new.self.left c.replace.new.self (beside_with c.replace.new.self c.args.line (Send c.args.place c.poll.new.self)) (Connect c.args.place) c.replace.ensures.calls (let who = rw c.into_inner-send.ensures.send at c.poll.ensures.who in rw (← who) refl) told.ended)

pub returns-in-Err-Memory-clause-asked : goal.returns-in-Err-Memory-clause-asked
returns-in-Err-Memory-clause-asked g c = λ op its.
    let store : Records = view c.store.inside in
    let same : op ≡ c.in-Some-Send.send = same_send c.replace.result _ c.args.place _ op c.in-Some-Send.send c.in-Some-Send.field-0 c.in-Some-Send.is c.in-Some-Send.field-0-is c.replace.ensures.before (rw (← c.store.view_is) at its) in
    let told = rw (c.into_inner-send.ensures.send, c.in-Err-Memory.field-0-is) at (c.in-Err-Memory.ensures.polled c.into_inner-send.ensures.going) in
    rw (← c.store.view_is, ← c.in-Some.ensures.item, same)
    (asks_err _ (reaches_in _ (reaches_in _ told.ended)))

pub returns-in_ok-drop_datagram-in-Ok-Ready-clause-sides : goal.returns-in_ok-drop_datagram-in-Ok-Ready-clause-sides
returns-in_ok-drop_datagram-in-Ok-Ready-clause-sides g c = λ k. c.drop_datagram.ensures.sides (knows_none _ _ (send_makes_none c.in-Some.socket.now.inner c.into_inner-send.result c.poll.new.self c.poll.result c.poll.ensures.before (c.poll.ensures.polled c.into_inner-send.ensures.going)) refl (rw (← c.store.view_is) at k))

pub returns-in_err-drop_datagram-in-Ok-Ready-clause-sides : goal.returns-in_err-drop_datagram-in-Ok-Ready-clause-sides
returns-in_err-drop_datagram-in-Ok-Ready-clause-sides g c = λ k. c.drop_datagram.ensures.sides (knows_none _ _ (send_makes_none c.in-Some.socket.now.inner c.into_inner-send.result c.poll.new.self c.poll.result c.poll.ensures.before (c.poll.ensures.polled c.into_inner-send.ensures.going)) refl (rw (← c.store.view_is) at k))

pub returns-in_ok-drop_datagram-in-Err-Code-clause-sides : goal.returns-in_ok-drop_datagram-in-Err-Code-clause-sides
returns-in_ok-drop_datagram-in-Err-Code-clause-sides g c = λ k. c.drop_datagram-in-Err-Code.ensures.sides (knows_none _ _ (send_makes_none c.in-Some.socket.now.inner c.into_inner-send.result c.poll.new.self c.poll.result c.poll.ensures.before (c.poll.ensures.polled c.into_inner-send.ensures.going)) refl (rw (← c.store.view_is) at k))

pub returns-in_err-drop_datagram-in-Err-Code-clause-sides : goal.returns-in_err-drop_datagram-in-Err-Code-clause-sides
returns-in_err-drop_datagram-in-Err-Code-clause-sides g c = λ k. c.drop_datagram-in-Err-Code.ensures.sides (knows_none _ _ (send_makes_none c.in-Some.socket.now.inner c.into_inner-send.result c.poll.new.self c.poll.result c.poll.ensures.before (c.poll.ensures.polled c.into_inner-send.ensures.going)) refl (rw (← c.store.view_is) at k))

pub returns-in-Ok-Pending-clause-sides : goal.returns-in-Ok-Pending-clause-sides
returns-in-Ok-Pending-clause-sides g c = λ k. rw c.put_send.ensures (knows_none _ _ (send_makes_none c.in-Some.socket.now.inner c.into_inner-send.result c.poll.new.self c.poll.result c.poll.ensures.before (c.poll.ensures.polled c.into_inner-send.ensures.going)) refl (rw (← c.store.view_is) at k))

pub returns-in-Err-Memory-clause-sides : goal.returns-in-Err-Memory-clause-sides
returns-in-Err-Memory-clause-sides g c = λ k. rw c.put_send-in-Err-Memory.ensures (knows_none _ _ (send_makes_none c.in-Some.socket.now.inner c.into_inner-send.result c.poll.new.self c.poll.result c.poll.ensures.before (c.poll.ensures.polled c.into_inner-send.ensures.going)) refl (rw (← c.store.view_is) at k))
