-- What is used and what is left of limits, of stores that are alike: the same for any other context.
use Rattle.std.proofs.Common.{◌≡◌, refl, sym, ap, ◌∙◌, Bool, true, false, if◌then◌else◌, ℕ, ◌==◌, List, [], ◌∷◌, ◌++◌, Option, Some, None}
use Rattle.std.proofs.lemmas.Bool.{eqb-true, ne_eqb}
use Rattle.wasi_world.specs.declared.outcome.WasiSocketsCtx.{WasiSocketsCtx}
use Rattle.wasi_records.specs.declared.records.Record.{Record}
use Rattle.tcp_records.specs.declared.socket.TcpRecord.{TcpRecord}
use Rattle.wasi_records.specs.Used.{used, used_in}
use Rattle.host_store.specs.declared.limits.Limit.{Limit}
use Rattle.host_store.specs.Limits.{limit_in, most_of, with_limit, with_limit_by}
use Rattle.host_store.specs.Store.{Records}
use Rattle.wasi_limits.specs.Contexts.{SameBut, LikeContext, OtherLimit}
use Rattle.wasi_limits.proofs.Like.{SameSocket, OtherPermit, LikeRecord, SameRecord, LikeTcp, LikeRecords, NoRecords, MoreRecords, LikeLimits, NoLimits, MoreLimits, LikeStore, Stores}

-- whether a limit is kept is the same
data LikeKept : Option ℕ → Option ℕ → Type 0 where
  NoneKept : LikeKept None None
  BothKept : (a b : ℕ) → LikeKept (Some a) (Some b)

if_kept : (a b : ℕ) (x y : Option ℕ) → LikeKept x y → (t : Bool) → LikeKept (if t then Some a else x) (if t then Some b else y)
if_kept a b x y h true = BothKept a b
if_kept a b x y h false = h

module _ {c : ℕ} where
  -- == what is used
  if_other : (a d : ℕ) → a ≡ c → (d ≡ c → ⊥) → (x y : ℕ) → (if a == d then x else 0) ≡ (if a == d then y else 0)
  if_other a d m n x y = let e : (a == d) ≡ false = ne_eqb a d (λ k. n (sym k ∙ m)) in rw e refl

  same_in : (d : ℕ) → (d ≡ c → ⊥) → {x y : Record} → LikeRecord c x y → used_in d x ≡ used_in d y
  same_in d n (SameRecord x) = refl
  same_in d n (LikeTcp _ _ (SameSocket r)) = refl
  same_in d n (LikeTcp _ _ (OtherPermit r s half p q m)) = if_other r.maker d m n p q

  pub same_used : (d : ℕ) → (d ≡ c → ⊥) → {xs ys : List Record} → LikeRecords c xs ys → used d xs ≡ used d ys
  same_used d n NoRecords = refl
  same_used d n (MoreRecords x y xs ys h k) = rw (same_in d n h, same_used d n k) refl

  -- == limits
  if_limit : (d context a b : ℕ) (x y : Option ℕ) → (d ≡ c → ⊥) → SameBut c context a b → x ≡ y → (t : Bool) → context == d ≡ t → (if t then Some a else x) ≡ (if t then Some b else y)
  if_limit d context a b x y n e k true h = ap Some (e (λ m. n (sym (eqb-true context d h) ∙ m)))
  if_limit d context a b x y n e k false h = k

  pub same_limit : (d : ℕ) → (d ≡ c → ⊥) → {xs ys : List Limit} → LikeLimits c xs ys → limit_in xs d ≡ limit_in ys d
  same_limit d n NoLimits = refl
  same_limit d n (MoreLimits context a b xs ys e k) = if_limit d context a b (limit_in xs d) (limit_in ys d) n e (same_limit d n k) (context == d) refl

  pub same_most : {store other : Records} → LikeStore c store other → (r : TcpRecord) → (r.maker ≡ c → ⊥) → most_of store r ≡ most_of other r
  same_most (Stores records others jobs standing limits mosts is h k) r n = rw (same_limit r.maker n k, same_used r.maker n h) refl

  -- a limit that is kept from now on
  more_limits : {xs ys : List Limit} {context a b : ℕ} → LikeLimits c xs ys → SameBut c context a b → LikeLimits c (xs ++ record { context = context; most = a } ∷ []) (ys ++ record { context = context; most = b } ∷ [])
  more_limits {context = context} {a = a} {b = b} NoLimits e = MoreLimits context a b [] [] e NoLimits
  more_limits (MoreLimits context a b xs ys e k) g = MoreLimits context a b _ _ e (more_limits k g)

  kept_like : (d : ℕ) {xs ys : List Limit} → LikeLimits c xs ys → LikeKept (limit_in xs d) (limit_in ys d)
  kept_like d NoLimits = NoneKept
  kept_like d (MoreLimits context a b xs ys e k) = if_kept a b (limit_in xs d) (limit_in ys d) (kept_like d k) (context == d)

  with_by_like : {xs ys : List Limit} → LikeLimits c xs ys → (ctx : WasiSocketsCtx) (a b : ℕ) → SameBut c ctx.name a b → {x y : Option ℕ} → LikeKept x y → LikeLimits c (with_limit_by xs (record ctx { write_limit = a }) x) (with_limit_by ys (record ctx { write_limit = b }) y)
  with_by_like h ctx a b e NoneKept = more_limits h e
  with_by_like h ctx a b e (BothKept x y) = h

  -- room is made for a socket of a context
  pub room_like : {store other : Records} {ctx now : WasiSocketsCtx} → LikeStore c store other → LikeContext c ctx now → LikeStore c (with_limit store ctx) (with_limit other now)
  room_like (Stores records others jobs standing limits mosts is h k) (OtherLimit ctx a b e) = Stores records others jobs standing _ _ is h (with_by_like k ctx a b e (kept_like ctx.name k))
