use Rattle.drawn_scripts.specs.Generate.{bytes_of, call, udp_block}
use Rattle.wasi_run.proofs.Words.{◌+◌}
use Rattle.drawn_scripts.proofs.GeneratedLines.{at_place, cancel_line, datagram_front, datagram_line, drop_line, pieces, pushed, receive_line, subscribe_line, udp_create3_line, udp_create_line, written}
use Rattle.wasi_steps.specs.declared.guest_call.GuestCall.TheVariants as guest
use Rattle.wasi_steps.specs.declared.guest_call.PollableCall.TheVariants as pollable_call
use Rattle.drawn_scripts.proofs.drawn.push_udp.Goals as goal

pub returns-in-0 : goal.returns-in-0
returns-in-0 c = at_place c.push_str.result _ _ (udp_block c.args.socket c.args.x c.args.before) (call (guest.Pollable (pollable_call.Drop c.args.socket))) c.args.place 0 c.in-0.is (pushed c.push_str.result _ _ _ _ c.push_str.ensures.bytes udp_create3_line)

pub returns-in_ok-write-in-1 : goal.returns-in_ok-write-in-1
returns-in_ok-write-in-1 c = at_place c.push_bytes.result _ _ (udp_block c.args.socket c.args.x c.args.before) (call (guest.Pollable (pollable_call.Drop c.args.socket))) c.args.place 1 c.in-1.is (rw (← c.port_of-port.ensures) (pieces c.push_bytes.result _ _ _ (datagram_front c.args.socket c.port_of-port.result) _ _ c.in_ok-write-in-1.ensures.bytes c.push_bytes.ensures (datagram_line c.args.socket c.port_of-port.result (bytes_of c.args.x))))

pub returns-in-2 : goal.returns-in-2
returns-in-2 c = at_place c.push_named.result _ _ (udp_block c.args.socket c.args.x c.args.before) (call (guest.Pollable (pollable_call.Drop c.args.socket))) c.args.place 2 c.in-2.is (written c.push_named.result _ _ _ _ c.push_named.ensures (receive_line c.args.socket))

pub returns-in-3 : goal.returns-in-3
returns-in-3 c = at_place c.write-in-3.result _ _ (udp_block c.args.socket c.args.x c.args.before) (call (guest.Pollable (pollable_call.Drop c.args.socket))) c.args.place 3 c.in-3.is (written c.write-in-3.result _ _ _ _ c.write-in-3.ensures.bytes (cancel_line c.args.before))

pub returns-in-4 : goal.returns-in-4
returns-in-4 c = at_place c.push_str-in-4.result _ _ (udp_block c.args.socket c.args.x c.args.before) (call (guest.Pollable (pollable_call.Drop c.args.socket))) c.args.place 4 c.in-4.is (pushed c.push_str-in-4.result _ _ _ _ c.push_str-in-4.ensures.bytes udp_create_line)

pub returns-in-5 : goal.returns-in-5
returns-in-5 c = at_place c.push_named-in-5.result _ _ (udp_block c.args.socket c.args.x c.args.before) (call (guest.Pollable (pollable_call.Drop c.args.socket))) c.args.place 5 c.in-5.is (written c.push_named-in-5.result _ _ _ _ c.push_named-in-5.ensures (subscribe_line (c.args.socket + 1)))

pub returns-in-6 : goal.returns-in-6
returns-in-6 c = at_place c.push_named-in-6.result _ _ (udp_block c.args.socket c.args.x c.args.before) (call (guest.Pollable (pollable_call.Drop c.args.socket))) c.args.place 6 c.in-6.is (written c.push_named-in-6.result _ _ _ _ c.push_named-in-6.ensures (drop_line (c.args.socket + 2)))

pub returns-in-7 : goal.returns-in-7
returns-in-7 c = at_place c.push_named-in-7.result _ _ (udp_block c.args.socket c.args.x c.args.before) (call (guest.Pollable (pollable_call.Drop c.args.socket))) c.args.place 7 c.in-7.is (written c.push_named-in-7.result _ _ _ _ c.push_named-in-7.ensures (drop_line (c.args.socket + 1)))

pub returns-in-8 : goal.returns-in-8
returns-in-8 c = at_place c.push_named-in-8.result _ _ (udp_block c.args.socket c.args.x c.args.before) (call (guest.Pollable (pollable_call.Drop c.args.socket))) c.args.place 8 c.in-8.is (written c.push_named-in-8.result _ _ _ _ c.push_named-in-8.ensures (drop_line c.args.socket))
