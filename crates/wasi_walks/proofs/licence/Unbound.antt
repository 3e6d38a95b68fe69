-- A network socket that isn't bound, as the log has it: no other address was told of it than the wildcard. What may be asked is said
-- by that; in a log that is licensed so far it is what the licence says.
use Rattle.std.specs.Prelude.{◌≡◌, ◌⊎◌, ℕ, true, List, [], ◌∷◌, ◌++◌}
use Rattle.std.proofs.Common.{ap, inl, inr}
use Rattle.wasi_addr.specs.declared.address.IpSocketAddress.{IpSocketAddress}
use Rattle.wasi_addr.specs.declared.address.SocketAddressFamily.{SocketAddressFamily}
use Rattle.wasi_addr.specs.declared.address.SocketAddrUse.TheVariants.{TcpBind, TcpListen}
use Rattle.wasi_addr.specs.Address.{is_wildcard}
use Rattle.wasi_world.specs.declared.call.Call.{Call}
use Rattle.wasi_world.specs.declared.call.Call.TheVariants.{Listen, Local}
use Rattle.wasi_world.specs.declared.call.Entry.{Entry}
use Rattle.wasi_world.specs.declared.call.Told.{Told}
use Rattle.wasi_world.specs.declared.call.Told.TheVariants.{Addr}
use Rattle.wasi_world.specs.declared.ids.OpId.{OpId}
use Rattle.wasi_world.specs.declared.outcome.WasiSocketsCtx.{WasiSocketsCtx}
use Rattle.wasi_steps.specs.declared.step.Step.{Step}
use Rattle.wasi_walks.specs.Licence.{BeganBy, Has, HasWildcardYes, HasYes, IsBoundSide, IsLastLocal, IsListenStep, IsMaker, MakesTcp, MayAsk, ReachesSide, entry}
use Rattle.wasi_walks.proofs.Lists.{has_split}

-- no other address was told of it than the wildcard of this family
abbrev pub OnlyWild : List Entry → OpId → SocketAddressFamily → Type 0
OnlyWild es side family = (op : OpId) (a : IpSocketAddress) → Has es (entry op (Local side) (Addr a)) → is_wildcard family a ≡ true

-- which is its own
pub record IsUnbound (es : List Entry) (side : OpId) : Type 0 where
  pub ctx : ℕ
  pub family : SocketAddressFamily
  pub maker : IsMaker es ctx family side
  pub wild : OnlyWild es side family

-- a call that doesn't ask for it leaves that so
pub wild_more : (es : List Entry) (op : OpId) (c : Call) (t : Told) (side : OpId) (family : SocketAddressFamily) → (c ≡ Local side → ⊥) → OnlyWild es side family → OnlyWild (es ++ entry op c t ∷ []) side family
wild_more es op c t side family n w o a h = elim (has_split es (entry op c t) (entry o (Local side) (Addr a)) h) [ inl old ↦ w o a old | inr e ↦ absurd (n (ap (λ (x : Entry). x.call) e)) ]

-- == what may be asked
abbrev pub MayListenSo : List Entry → OpId → OpId → Type 0
MayListenSo before op side =
    (IsBoundSide before side × ((addr : IpSocketAddress) × IsLastLocal before side addr × HasYes before before op side addr TcpListen))
    ⊎ (IsUnbound before side × HasWildcardYes before op side TcpBind × HasWildcardYes before op side TcpListen)

abbrev pub MayAskSo : List WasiSocketsCtx → List Step → List Entry → OpId → Call → Type 0
MayAskSo contexts steps before op (Listen sock backlog) = ReachesSide steps before op sock × BeganBy steps op IsListenStep × MayListenSo before op sock × BeganBy steps sock MakesTcp
MayAskSo contexts steps before op c = MayAsk contexts steps before op c
