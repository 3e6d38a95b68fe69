-- Each shape's list is the one of its value.
use Rattle.std.proofs.Common.{◌∙◌, ap}
use Rattle.embed_flat.specs.Abi.{AList, U8, with_lists}
use Rattle.embed_flat.proofs.InPlaces.{bytes_stored}
use Rattle.embed_flat.proofs.results.put_list.Goals as goal

pub returns-in-Datagrams : goal.returns-in-Datagrams
returns-in-Datagrams c = rw c.in-Datagrams.is c.put_datagrams.ensures

pub returns-in-StreamBytes : goal.returns-in-StreamBytes
returns-in-StreamBytes c = rw c.in-StreamBytes.is
    (c.put.ensures.memory ∙ (bytes_stored c.args.memory.now c.bytes_at.result.now c.args.place c.put.ensures.bytes
    ∙ ap (λ bytes. with_lists (AList U8) (c.args.place, bytes) c.args.memory.now) c.bytes_at.ensures))

pub returns-in-Places : goal.returns-in-Places
returns-in-Places c = rw c.in-Places.is c.put_places.ensures
