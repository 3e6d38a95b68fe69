use Rattle.std.proofs.lemmas.Bool.{false≢true}
use Rattle.wasi_steps.proofs.DatagramLaws.{datagrams_next, datagrams_none, datagrams_fewer}
use Rattle.wasi_steps.proofs.datagram.datagrams.Goals as goal

pub returns-in_default : goal.returns-in_default
returns-in_default c =
    datagrams_none c.args.fields.now c.loop-alloc.fields c.loop-alloc.datagrams.items c.loop-alloc.invariant (λ e. false≢true (c.loop-alloc-test.ensures.1 e)) (rw c.in_default.is at c.in_ok-next.ensures)

pub loop-alloc-smaller : goal.loop-alloc-smaller
loop-alloc-smaller c = datagrams_fewer c.in-Some.next c.loop-alloc.fields c.datagram.new.fields (rw c.in-Some.is at c.in_ok-next.ensures)

pub loop-alloc-preserved : goal.loop-alloc-preserved
loop-alloc-preserved c =
    rw c.in_ok-push.ensures.items (datagrams_next c.args.fields.now c.loop-alloc.fields c.datagram.new.fields c.loop-alloc.datagrams.items c.in-Some.next c.loop-alloc.invariant (rw c.in-Some.is at c.in_ok-next.ensures))
