use Rattle.std.proofs.Common.{sym, ◌∙◌}
use Rattle.wasi_steps.proofs.Received.{none_yet, one_more, no_more}
use Rattle.wasi_steps.proofs.fields.IncomingDatagramsIntoFields.into_fields.Goals as goal

pub loop-datagram-init : goal.loop-datagram-init
loop-datagram-init c =
    none_yet c.args.self _ _ _ c.in_ok-fields.ensures.items c.into_iter-datagram-iterator.ensures.into_iter_gives.0 c.into_vec-datagrams.ensures (c.len.ensures ∙ c.into_vec-datagrams.result.ok.0)

pub loop-datagram-preserved : goal.loop-datagram-preserved
loop-datagram-preserved c =
    one_more _ _ _ c.in-Some.datagram _ _ c.loop-datagram.invariant c.in-Some.ensures.steps.0 c.in_ok-push_datagram.ensures

pub returns : goal.returns
returns c = c.from_vec.ensures ∙ no_more _ _ _ c.loop-datagram.invariant (sym c.loop-datagram.datagram-iterator.rest.ok.0 ∙ c.in-None.ensures.steps.0)
