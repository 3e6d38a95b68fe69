-- What may be asked by what was told so far may be asked by the licence, in a log that is licensed so far.
use Rattle.std.specs.Prelude.{◌≡◌, true, false, List, []}
use Rattle.std.proofs.Common.{ap, inl, inr, sym, ◌∙◌}
use Rattle.wasi_addr.specs.declared.address.SocketAddressFamily.{SocketAddressFamily}
use Rattle.wasi_addr.specs.Address.{is_wildcard}
use Rattle.wasi_world.specs.declared.call.Call.{Call}
use Rattle.wasi_world.specs.declared.call.Call.TheVariants.{Listen}
use Rattle.wasi_world.specs.declared.call.Entry.{Entry}
use Rattle.wasi_world.specs.declared.ids.OpId.{OpId}
use Rattle.wasi_world.specs.declared.outcome.WasiSocketsCtx.{WasiSocketsCtx}
use Rattle.wasi_walks.proofs.Words.{Allows, Ask, AskWrite, Asks, Give}
use Rattle.wasi_steps.specs.declared.step.Step.{Step}
use Rattle.wasi_walks.specs.Licence.{IsBoundSide, MayAsk, entry}
use Rattle.wasi_walks.proofs.licence.Longer.{EachMayCome, licensed, may_come}
use Rattle.wasi_walks.proofs.licence.Meanings.{one_maker}
use Rattle.wasi_walks.proofs.licence.Unbound.{IsUnbound, MayAskSo}

module _ (contexts : List WasiSocketsCtx) (steps : List Step) where
  -- the network socket has one family, so none that was told was bound
  not_bound : (es : List Entry) (side : OpId) → EachMayCome contexts steps [] es → IsUnbound es side → IsBoundSide es side → ⊥
  not_bound es side each u b =
      let same : u.family ≡ b.family = (one_maker contexts steps es (licensed contexts steps es each) u.ctx b.ctx u.family b.family side u.maker b.maker).1 in
      absurd (let p : true ≡ false = sym (u.wild b.op b.addr b.told) ∙ (ap (λ (f : SocketAddressFamily). is_wildcard f b.addr) same ∙ b.other) in cc)

  is_allowed : (es : List Entry) (op : OpId) (c : Call) → EachMayCome contexts steps [] es → MayAskSo contexts steps es op c → MayAsk contexts steps es op c
  is_allowed es op (Listen sock backlog) each (reach, by, inl bound, tcp) = (reach, by, inl bound, tcp)
  is_allowed es op (Listen sock backlog) each (reach, by, inr free, tcp) = (reach, by, inr (not_bound es sock each free.0, free.1, free.2), tcp)
  is_allowed es op _ each may = may

  -- of what is asked after a log that is licensed
  pub allowed : {A : Type 0} (Q : List Entry → A → Type 0) (es : List Entry) (asks : Asks A) → EachMayCome contexts steps [] es → Allows (MayAskSo contexts steps) Q es asks → Allows (MayAsk contexts steps) Q es asks
  allowed Q es (Give a) each k = k
  allowed Q es (Ask op c next) each k = let may = is_allowed es op c each k.0 in (may, λ told fits. allowed Q _ (next told) (may_come contexts steps es (entry op c told) each may) (k.1 told fits))
  allowed Q es (AskWrite op sock bytes next) each k = (k.0, λ told fits front. allowed Q _ (next told) (may_come contexts steps es _ each k.0) (k.1 told fits front))
