-- Datagrams, as the fields of a reply tell them one after another.
use Rattle.std.proofs.Common.{◌≡◌, ℕ, List, [], ◌∷◌, ◌++◌, length, flat_map, refl, append-nil, append_assoc, arith}
use Rattle.wasi_world.specs.declared.datagram.IncomingDatagram.{IncomingDatagram}
use Rattle.wasi_steps.specs.declared.reply.Field.{Field}
use Rattle.wasi_steps.specs.declared.reply.Field.TheVariants.{Number}
use Rattle.wasi_steps.specs.Reply.{received_values, datagram_values}

-- their number, and none of them
pub none_yet : (all items left : List IncomingDatagram) (fields : List Field) {n : ℕ} → fields ≡ Number n ∷ [] → left ≡ items → items ≡ all → n ≡ length items → fields ++ flat_map received_values left ≡ datagram_values all
none_yet all items left fields first same are count = rw (first, count, same, are) refl

-- one datagram more
pub one_more : (told old new : List Field) (d : IncomingDatagram) (left rest : List IncomingDatagram) → old ++ flat_map received_values left ≡ told → left ≡ d ∷ rest → new ≡ old ++ received_values d → new ++ flat_map received_values rest ≡ told
one_more told old new d left rest had front added =
    rw (added, append_assoc old (received_values d) (flat_map received_values rest)) (rw front at had)

pub no_more : (told fields : List Field) (left : List IncomingDatagram) → fields ++ flat_map received_values left ≡ told → length left ≡ 0 → fields ≡ told
no_more told fields [] had none = rw append-nil at had
no_more told fields (d ∷ left) had none = absurd (omega arith)
