-- One number more stands right behind those before.
use Rattle.std.proofs.Common.{◌≤◌, ◌<◌, length, refl, arith, ◌∙◌}
use Rattle.embed_flat.proofs.InPlaces.{places_step, places_stored}
use Rattle.embed_flat.proofs.results.put_places.Goals as goal

pub loop-k-preserved : goal.loop-k-preserved
loop-k-preserved c =
    let below : c.loop-k.k < length c.args.fields.now = omega arith in
    let inside : c.args.place ≤ length c.args.memory.now = omega (arith, c.requires) in
    places_step c.args.memory.now c.put.new.memory c.args.fields.now c.args.place c.loop-k.k below inside
    (rw (c.put.ensures.memory, c.loop-k.invariant, c.to_le_bytes.ensures, c.number_at-number.ensures) refl)

pub returns : goal.returns
returns c =
    let all : length c.args.fields.now ≤ c.loop-k.k = omega arith in
    c.loop-k.invariant ∙ places_stored c.args.memory.now c.args.fields.now c.args.place c.loop-k.k all
