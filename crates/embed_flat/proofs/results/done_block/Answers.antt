-- Each shape's block is the bytes of its value.
use Rattle.std.proofs.Common.{ap, length, refl}
use Rattle.embed_flat.proofs.Done.{truth_bytes, byte_bytes, wide_bytes, stream_wide_bytes, word_bytes, pair_bytes, bytes_list, places_list, datagrams_list}
use Rattle.embed_flat.proofs.results.done_block.Goals as goal

pub returns-in-Truth : goal.returns-in-Truth
returns-in-Truth c = rw (c.in-Truth.is, c.number_block.ensures, c.truth_of.ensures, c.number_at-number.ensures) (truth_bytes _)

pub returns-in-Byte : goal.returns-in-Byte
returns-in-Byte c = rw (c.in-Byte.is, c.number_block-in-Byte.ensures, c.number_at-number.ensures) (byte_bytes _)

pub returns-in-Word : goal.returns-in-Word
returns-in-Word c = rw c.in-Word.is (word_bytes _ c.args.fields.now c.words_block.ensures)

pub returns-in-Pair : goal.returns-in-Pair
returns-in-Pair c = rw c.in-Pair.is (pair_bytes _ c.args.fields.now c.words_block-in-Pair.ensures)

pub returns-in-Triple : goal.returns-in-Triple
returns-in-Triple c = rw c.in-Triple.is c.words_block-in-Triple.ensures

pub returns-in-Wide : goal.returns-in-Wide
returns-in-Wide c = rw (c.in-Wide.is, c.number_block-in-Wide.ensures, c.number_at-number.ensures) (wide_bytes _)

pub returns-in-StreamWide : goal.returns-in-StreamWide
returns-in-StreamWide c = rw (c.in-StreamWide.is, c.number_block-in-StreamWide.ensures, c.number_at-number.ensures) (stream_wide_bytes _)

pub returns-in-Address : goal.returns-in-Address
returns-in-Address c = rw c.in-Address.is c.bound_block.ensures

pub returns-in-MaybeIp : goal.returns-in-MaybeIp
returns-in-MaybeIp c = rw c.in-MaybeIp.is c.found_block.ensures

pub returns-in-Datagrams : goal.returns-in-Datagrams
returns-in-Datagrams c = rw (c.in-Datagrams.is, c.list_block.ensures) (datagrams_list c.args.place c.count_of.result c.args.fields.now (rw c.number_at-number.ensures at c.count_of.ensures))

pub returns-in-StreamBytes : goal.returns-in-StreamBytes
returns-in-StreamBytes c = rw (c.in-StreamBytes.is, c.list_block-in-StreamBytes.ensures) (bytes_list c.args.place _ _ (ap length c.bytes_at.ensures))

pub returns-in-Places : goal.returns-in-Places
returns-in-Places c = rw (c.in-Places.is, c.list_block-in-Places.ensures) (places_list c.args.place c.args.fields.now)

pub returns-in-Unit : goal.returns-in-Unit
returns-in-Unit c = rw c.in-Unit.is refl

pub returns-in-StreamUnit : goal.returns-in-StreamUnit
returns-in-StreamUnit c = rw c.in-StreamUnit.is refl

pub returns-in-MaybeCode : goal.returns-in-MaybeCode
returns-in-MaybeCode c = rw c.in-MaybeCode.is refl
