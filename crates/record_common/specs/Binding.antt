-- What is left of an operation that was polled, and what a bind answers.
use Rattle.std.specs.Prelude.{List, Result, Ok, Err}
use Rattle.wasi_addr.specs.declared.code.ErrorCode.{ErrorCode}
use Rattle.wasi_world.specs.declared.outcome.Answer.{Answer}
use Rattle.wasi_world.specs.declared.outcome.Answer.TheVariants.{Ready, Pending}
use Rattle.wasi_world.specs.Operation.{Operation, Item, End, Waits, Done, Refused}

-- what is left of an operation
abbrev pub left_of : Operation → List Item → Operation
left_of op items = record { who = op.who; left = items }

abbrev pub bind_answer : End → Result (Answer (Unit {0})) ErrorCode
bind_answer Waits = Ok Pending
bind_answer (Done given) = Ok (Ready tt)
bind_answer (Refused c given) = Err c
