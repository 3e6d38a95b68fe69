-- Accepts, at each of their stages.
use Rattle.std.specs.Prelude.{refl}
use Rattle.socket_common.specs.declared.asker.Asker.{Asker}
use Rattle.wasi_tcp.specs.declared.accept.AcceptStage.{AcceptStage}
use Rattle.wasi_tcp.specs.declared.accept.AcceptStage.TheVariants as stage
use Rattle.wasi_tcp.specs.Accept.{accept_operation, IsAccept, Unarrived, Arrived, Admitted, Unwanted, Ended}

pub is_accept : (asker : Asker) (s : AcceptStage) → IsAccept (accept_operation asker s)
is_accept asker stage.Accept = record { last = refl; left = Unarrived }
is_accept asker (stage.Check peer) = record { last = refl; left = Arrived peer }
is_accept asker (stage.Hand peer) = record { last = refl; left = Admitted peer }
is_accept asker (stage.Refuse peer) = record { last = refl; left = Unwanted peer }
is_accept asker stage.Over = record { last = refl; left = Ended }
