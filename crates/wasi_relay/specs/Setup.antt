-- The setup of a relay, which makes its listener.
use Rattle.std.specs.Prelude.{ℕ, zero, suc, ◌==◌, if◌then◌else◌, Result, Ok, Err}
use Rattle.wasi_steps.specs.declared.guest_call.GuestCall.{GuestCall}
use Rattle.wasi_steps.specs.declared.guest_call.GuestCall.TheVariants as guest
use Rattle.wasi_steps.specs.declared.guest_call.TcpCall.TheVariants as tcp_call
use Rattle.wasi_steps.specs.declared.guest_call.NameCall.TheVariants as name_call
use Rattle.wasi_steps.specs.declared.step.Step.TheVariants.{Turn, Poll}
use Rattle.wasi_steps.specs.declared.reply.Reply.{Reply}
use Rattle.wasi_steps.specs.declared.reply.Reply.TheVariants as replied
use Rattle.wasi_session.specs.declared.error.StepError.{StepError}
use Rattle.wasi_relay.specs.declared.order.Order.{Order}
use Rattle.wasi_relay.specs.declared.setup.Listener.{Listener}
use Rattle.wasi_relay.specs.declared.setup.Stop.{Stop}
use Rattle.wasi_relay.specs.declared.setup.Stop.TheVariants.{Ended, Step}
use Rattle.wasi_relay.specs.declared.service.RelayEnd.{RelayEnd}
use Rattle.wasi_relay.specs.declared.service.RelayEnd.TheVariants.{Budget, SetupRefused}
use Rattle.wasi_relay.specs.Guest.{Part, give, one, call}
use Rattle.wasi_relay.specs.Order.{family_of}
use Rattle.wasi_relay.specs.Replies.{handle_at}

-- a part of the setup gives something, or the relay ends in it
abbrev pub Setup : Type 0 → Type 0
Setup A = Part (Result A RelayEnd)

abbrev pub or_end : {A B : Type 0} → (A → Setup B) → Result A RelayEnd → Setup B
or_end more (Ok a) = more a
or_end more (Err end) = give (Err end)

infixl 10 ◌>>=◌
abbrev pub ◌>>=◌ : {A B : Type 0} → Setup A → (A → Setup B) → Setup B
part >>= more = λ next. part (λ given. or_end more given next)

-- The handle that a call gave, 0 where it gives none, and how many turns are left.
pub record Settled : Type 0 where
  pub handle : ℕ
  pub left : ℕ

abbrev pub handle_in : Reply → ℕ
handle_in (replied.Ok fields) = handle_at fields 0
handle_in _ = 0

abbrev pub with_left : ℕ → ℕ → Settled
with_left left handle = record { handle = handle; left = left }

-- after each turn, the relay ends where no turn is left
abbrev pub at_turns_end : ℕ → Reply → Result Settled RelayEnd
at_turns_end left reply = if left == 0 then Err Budget else Ok (with_left left (handle_in reply))

abbrev pub after_poll : Setup Settled → ℕ → Reply → Setup Settled
after_poll again left (replied.Err code) = give (Err (SetupRefused code))
after_poll again left (replied.Pending line) = again
after_poll again left reply = give (at_turns_end left reply)

-- a call that is pending is polled once in each turn
abbrev pub polled : ℕ → ℕ → Setup Settled
polled line zero = give (Err Budget)
polled line (suc left) = λ next. one Turn (λ turned. one (Poll line) (λ reply. after_poll (polled line left) left reply next))

abbrev pub after_call : ℕ → Reply → Setup Settled
after_call left (replied.Err code) = give (Err (SetupRefused code))
after_call left (replied.Pending line) = polled line left
after_call left reply = give (Ok (with_left left (handle_in reply)))

abbrev pub settled : ℕ → GuestCall → Setup Settled
settled left c = λ next. call c (λ reply. after_call left reply next)

abbrev pub setup : Order → Setup Listener
setup order = do
  network ← settled order.turns (guest.Names name_call.Network)
  socket ← settled network.left (guest.Tcp (tcp_call.Create (family_of order.listen)))
  bound ← settled socket.left (guest.Tcp (tcp_call.StartBind socket.handle network.handle order.listen))
  named ← settled bound.left (guest.Tcp (tcp_call.FinishBind socket.handle))
  begun ← settled named.left (guest.Tcp (tcp_call.StartListen socket.handle))
  listens ← settled begun.left (guest.Tcp (tcp_call.FinishListen socket.handle))
  give (Ok (record { network = network.handle; socket = socket.handle; turns = listens.left }))

-- an end of the relay is something that the setup gives
abbrev pub outcome : {A B : Type 0} → (A → B) → Result A Stop → Result (Result B RelayEnd) StepError
outcome view (Ok a) = Ok (Ok (view a))
outcome view (Err (Ended end)) = Ok (Err end)
outcome view (Err (Step e)) = Err e

abbrev pub stop_end : Stop → Result RelayEnd StepError
stop_end (Ended end) = Ok end
stop_end (Step e) = Err e

abbrev pub as_is : {A : Type 0} → A → A
as_is a = a
