use Rattle.wasi_udp.proofs.Givens.{given_after_yes, given_wanted}
use Rattle.wasi_udp.proofs.laws.datagrams_are_given_after_a_yes.Goals as goal

pub returns : goal.returns
returns c = record { yes = given_after_yes; wanted = given_wanted }
