-- Contexts that differ in the limit of one.
use Rattle.std.specs.Prelude.{◌≡◌, ℕ, List, [], ◌∷◌}
use Rattle.wasi_world.specs.declared.outcome.WasiSocketsCtx.{WasiSocketsCtx}

-- the same number, unless it is of this context
abbrev pub SameBut : ℕ → ℕ → ℕ → ℕ → Type 0
SameBut c context a b = (context ≡ c → ⊥) → a ≡ b

-- the same context, but for its limit where this is its number
pub data LikeContext (c : ℕ) : WasiSocketsCtx → WasiSocketsCtx → Type 0 where
  OtherLimit : (ctx : WasiSocketsCtx) (a b : ℕ) → SameBut c ctx.name a b → LikeContext c (record ctx { write_limit = a }) (record ctx { write_limit = b })

-- pair by pair
pub data LikeContexts (c : ℕ) : List WasiSocketsCtx → List WasiSocketsCtx → Type 0 where
  NoContexts : LikeContexts c [] []
  MoreContexts : (ctx other : WasiSocketsCtx) (contexts others : List WasiSocketsCtx) → LikeContext c ctx other → LikeContexts c contexts others → LikeContexts c (ctx ∷ contexts) (other ∷ others)
