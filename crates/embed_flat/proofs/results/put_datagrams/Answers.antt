-- The datagram's block is its bytes, and its data lies behind it.
use Rattle.std.proofs.Common.{◌≡◌, ◌+◌, ◌∙◌, ap, length, drop}
use Rattle.embed_flat.specs.Abi.{bytes_of}
use Rattle.embed_flat.specs.Fields.{number_in, data_in, address_in}
use Rattle.embed_flat.specs.Wit.{ip_socket_address}
use Rattle.embed_flat.proofs.InPlaces.{datagram_block, datagram_stored}
use Rattle.embed_flat.proofs.results.put_datagrams.Goals as goal

pub returns : goal.returns
returns c =
    let some : number_in c.args.fields.now 0 ≡ 0 → ⊥ = λ e. c.if-number_at-eq0.false (c.number_at.ensures ∙ e) in
    let bytes : c.data_at-data.result.now ≡ data_in (drop 1 c.args.fields.now) = c.data_at-data.ensures ∙ ap data_in c.rest_of-datagram.ensures in
    let part : c.copy_from_slice.new.self ≡ bytes_of ip_socket_address (address_in (drop 1 c.args.fields.now)) =
    c.copy_from_slice.ensures.after ∙ (c.address_block.ensures ∙ ap (λ fs. bytes_of ip_socket_address (address_in fs)) c.rest_of-datagram.ensures) in
    let one = datagram_block (c.args.place + 40) (length c.data_at-data.result.now) (data_in (drop 1 c.args.fields.now)) c.copy_from_slice.new.self
    (address_in (drop 1 c.args.fields.now)) (ap length bytes) part in
    rw (c.put-2.ensures.memory, c.put.ensures.memory, c.list_block-one.ensures)
    (datagram_stored c.args.memory.now _ c.data_at-data.result.now c.args.fields.now c.args.place some one bytes c.put-2.ensures.bytes)
