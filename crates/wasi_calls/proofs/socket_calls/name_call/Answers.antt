use Rattle.wasi_calls.proofs.CallWords.{asks_answered, given_answered}
use Rattle.wasi_calls.proofs.CallWords.{number_fields, reply_of}
use Rattle.wasi_steps.specs.Reply.{absent_values, found_values}
use Rattle.wasi_calls.proofs.socket_calls.name_call.Goals as goal

pub returns-in-Network-clause-asked : goal.returns-in-Network-clause-asked
returns-in-Network-clause-asked g c = rw c.in-Network.is (asks_answered (reply_of number_fields) _ _ c.instance_network-made.ensures.asked c.reply_of.ensures)

pub returns-in-Resolve-clause-asked : goal.returns-in-Resolve-clause-asked
returns-in-Resolve-clause-asked g c = rw c.in-Resolve.is (asks_answered (reply_of number_fields) _ _ c.resolve_addresses-made.ensures.asked c.reply_of-in-Resolve.ensures)

pub returns-in-ResolveNext-clause-asked : goal.returns-in-ResolveNext-clause-asked
returns-in-ResolveNext-clause-asked g c = rw (c.in-ResolveNext.is, c.resolve_next_address-told.ensures.state) (given_answered (reply_of found_values) _ _ _ c.resolve_next_address-told.ensures.answer c.reply_of-in-ResolveNext.ensures)

pub returns-in-NetworkErrorCode-clause-asked : goal.returns-in-NetworkErrorCode-clause-asked
returns-in-NetworkErrorCode-clause-asked g c = rw c.in-NetworkErrorCode.is (given_answered (reply_of absent_values) _ _ _ (rw c.network_error_code-told.ensures at c.without_code.ensures) c.reply_of-in-NetworkErrorCode.ensures)
