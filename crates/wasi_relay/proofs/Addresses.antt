-- The addresses that a relay's network is asked for.
use Rattle.std.proofs.Common.{◌≡◌, ◌∙◌, ℕ, zero, suc, sym, List, [], ◌∷◌, Option, Some, None, IfSome, ◌⊎◌, inl, inr, slice_get}
use Rattle.wasi_addr.specs.declared.address.IpSocketAddress.{IpSocketAddress}
use Rattle.wasi_world.specs.declared.outcome.WasiSocketsCtx.{WasiSocketsCtx}
use Rattle.wasi_world.specs.declared.ids.OpId.{OpId}
use Rattle.wasi_world.specs.declared.call.Entry.{Entry}
use Rattle.wasi_steps.specs.declared.guest_call.GuestCall.TheVariants as guest
use Rattle.wasi_steps.specs.declared.guest_call.TcpCall.TheVariants as tcp_call
use Rattle.wasi_steps.specs.declared.guest_call.P3TcpCall.TheVariants as p3_tcp_call
use Rattle.wasi_steps.specs.declared.step.Step.{Step}
use Rattle.wasi_steps.specs.declared.step.Step.TheVariants.{Call}
use Rattle.wasi_steps.specs.declared.reply.Reply.{Reply}
use Rattle.wasi_walks.specs.Licence.{IsLicensed, BeganBy, step_at, IsBindTo, IsConnectTo, BindsAnywhere}
use Rattle.wasi_relay.specs.declared.order.Order.{Order}
use Rattle.wasi_relay.specs.Addresses.{KeepsTo}
use Rattle.wasi_relay.proofs.Making.{MayMake, AllMade}

made_at : (order : Order) (steps : List Step) (place : ℕ) (s : Step) → AllMade order steps → slice_get steps place ≡ Some s → MayMake order s
made_at order [] place s h e = absurd (cc)
made_at order (x ∷ steps) zero s h e = let same : x ≡ s = cc in rw (← same) h.0
made_at order (x ∷ steps) (suc place) s h e = made_at order steps place s h.1 e

origin_made : (order : Order) (steps : List Step) (line : ℕ) (s : Step) → AllMade order steps → step_at steps line ≡ Some s → MayMake order s
origin_made order steps zero s h e = absurd (cc)
origin_made order steps (suc place) s h e = made_at order steps place s h e

binds_to : (order : Order) (addr : IpSocketAddress) (s : Step) → MayMake order s → IsBindTo addr s → addr ≡ order.listen
binds_to order addr (Call c (guest.Tcp (tcp_call.StartBind socket network a))) m h = sym h ∙ m
binds_to order addr (Call c (guest.P3Tcp (p3_tcp_call.Bind socket a))) m h = absurd m
binds_to order addr _ m h = absurd h

connects_to : (order : Order) (addr : IpSocketAddress) (s : Step) → MayMake order s → IsConnectTo addr s → addr ≡ order.target
connects_to order addr (Call c (guest.Tcp (tcp_call.StartConnect socket network a))) m h = sym h ∙ m
connects_to order addr (Call c (guest.P3Tcp (p3_tcp_call.Connect socket a))) m h = absurd m
connects_to order addr _ m h = absurd h

anywhere : (order : Order) (s : Step) → MayMake order s → BindsAnywhere s → ⊥
anywhere order (Call c (guest.P3Tcp (p3_tcp_call.Listen socket))) m h = m
anywhere order _ m h = absurd h

module _ (order : Order) (steps : List Step) (made : AllMade order steps) where
  began : {P : Step → Type 0} {op : OpId} (b : BeganBy steps op P) → MayMake order b.origin
  began {op = op} b = origin_made order steps op.step b.origin made b.at

  bound : (addr : IpSocketAddress) (op : OpId) {R : Type 0} → BeganBy steps op (IsBindTo addr) ⊎ (BeganBy steps op BindsAnywhere × R) → addr ≡ order.listen
  bound addr op (inl b) = binds_to order addr b.origin (began b) b.holds
  bound addr op (inr b) = absurd (anywhere order b.0.origin (began b.0) b.0.holds)

  pub keeps_to : (contexts : List WasiSocketsCtx) (log : List Entry) (replies : List Reply) → IsLicensed contexts steps log replies → KeepsTo order log
  keeps_to contexts log replies h = record {
    binds = λ before after op sock addr told cut. bound addr op (h.each before _ after cut).1;
    connects = λ before after op sock addr told cut.
        (let b : BeganBy steps op (IsConnectTo addr) = (h.each before _ after cut).1 in
        connects_to order addr b.origin (began b) b.holds);
  }

  pub keeps_in : (contexts : List WasiSocketsCtx) (log : Option (List Entry)) (replies : List Reply) → IfSome log (λ l. IsLicensed contexts steps l replies) → IfSome log (KeepsTo order)
  keeps_in contexts (Some log) replies h = keeps_to contexts log replies h
  keeps_in contexts None replies h = tt
