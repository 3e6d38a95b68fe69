use Rattle.std.proofs.Common.{refl}
use Rattle.embed_flat.proofs.LiftedBack.{address_back, remote_back}
use Rattle.embed_flat.proofs.args.addresses_are_lifted_back.Goals as goal

pub returns : goal.returns
returns c = record { address = address_back; remote = remote_back; none = refl }
