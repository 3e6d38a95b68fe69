use Rattle.std.proofs.Common.{◌<◌, ◌^◌, ap, arith, length}
use Rattle.std.specs.Map.Iter.{deref_pair}
use Rattle.std.proofs.lemmas.Map.Iter.{rest_more}
use Rattle.wasi_records.specs.RecordMap.{record_under, records_of}
use Rattle.wasi_records.proofs.Closings.{next_closed}
use Rattle.wasi_records.proofs.HeldMaps.{length_records_of}
use Rattle.wasi_records.proofs.closing.close_live.Goals as goal

pub loop-number-preserved : goal.loop-number-preserved
loop-number-preserved g c =
    let all = records_of c.args.slots.now c.args.keys.now in
    let same = length_records_of c.args.slots.now c.args.keys.now in
    let fits = c.iter-number-items.ensures.fits in
    let short : length all < 2 ^ 63 = omega (arith, same, fits) in
    let next = rest_more deref_pair c.loop-number.number-iterator c.next.new.self c.next.result (c.in-Some.number, c.in-Some.slot) c.in-Some.is c.next.ensures.steps in (
      tt,
      tt,
      next_closed _ _ _ all (records_of c.args.slots.now c.loop-number.number-iterator) (records_of c.args.slots.now c.next.new.self) (record_under c.args.slots.now c.in-Some.slot.now c.in-Some.number.now) short (ap (records_of c.args.slots.now) next) c.loop-number.invariant.2 c.close_in.ensures.counted c.close_in.ensures.named,
    )
