use Rattle.wasi_addr.proofs.SameAddresses.{is_wildcard_exact, same_address_exact}
use Rattle.wasi_addr.proofs.validity.address_tests_are_exact.Goals as goal

pub returns : goal.returns
returns c = record { wildcard = is_wildcard_exact; same = same_address_exact }
