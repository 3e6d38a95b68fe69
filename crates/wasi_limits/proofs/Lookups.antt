-- What is found in stores that are alike, and put there.
use Rattle.std.proofs.Common.{◌≡◌, refl, ap, ℕ, zero, suc, List, [], ◌∷◌, ◌++◌, length, Option, Some, None, slice_get, slice_set}
use Rattle.wasi_records.specs.declared.records.Record.{Record}
use Rattle.wasi_records.specs.declared.records.Record.TheVariants.{Tcp}
use Rattle.tcp_records.specs.declared.socket.TcpRecord.{TcpRecord}
use Rattle.wasi_records.specs.Records.{tcp2_at, tcp2_of}
use Rattle.wasi_limits.proofs.Like.{SameSocket, LikeRecord, SameRecord, LikeTcp, LikeRecords, NoRecords, MoreRecords, LikeFound, NoneFound, BothFound}

module _ {c : ℕ} where
  pub like_same : (xs : List Record) → LikeRecords c xs xs
  like_same [] = NoRecords
  like_same (x ∷ xs) = MoreRecords x x xs xs (SameRecord x) (like_same xs)

  pub like_length : {xs ys : List Record} → LikeRecords c xs ys → length xs ≡ length ys
  like_length NoRecords = refl
  like_length (MoreRecords x y xs ys h k) = ap suc (like_length k)

  pub like_set : {xs ys : List Record} {x y : Record} → LikeRecords c xs ys → (place : ℕ) → LikeRecord c x y → LikeRecords c (slice_set xs place x) (slice_set ys place y)
  like_set NoRecords place h = NoRecords
  like_set {x = x} {y = y} (MoreRecords a b xs ys g k) zero h = MoreRecords x y xs ys h k
  like_set (MoreRecords a b xs ys g k) (suc place) h = MoreRecords a b _ _ g (like_set k place h)

  pub like_more : {xs ys : List Record} {x y : Record} → LikeRecords c xs ys → LikeRecord c x y → LikeRecords c (xs ++ x ∷ []) (ys ++ y ∷ [])
  like_more {x = x} {y = y} NoRecords h = MoreRecords x y [] [] h NoRecords
  like_more (MoreRecords a b xs ys g k) h = MoreRecords a b _ _ g (like_more k h)

  same_found : (o : Option TcpRecord) → LikeFound c o o
  same_found None = NoneFound
  same_found (Some r) = BothFound r r (SameSocket r)

  like_tcp : {x y : Record} → LikeRecord c x y → LikeFound c (tcp2_of (Some x)) (tcp2_of (Some y))
  like_tcp (SameRecord x) = same_found (tcp2_of (Some x))
  like_tcp (LikeTcp r now h) = BothFound r now h

  pub like_at : {xs ys : List Record} → LikeRecords c xs ys → (place : ℕ) → LikeFound c (tcp2_at xs place) (tcp2_at ys place)
  like_at NoRecords place = NoneFound
  like_at (MoreRecords x y xs ys h k) zero = like_tcp h
  like_at (MoreRecords x y xs ys h k) (suc place) = like_at k place

  -- what is no TCP socket is the same
  pub same_of : {A : Type 0} (of : Option Record → Option A) → ((r now : TcpRecord) → of (Some (Tcp r)) ≡ of (Some (Tcp now))) → {xs ys : List Record} → LikeRecords c xs ys → (place : ℕ) → of (slice_get xs place) ≡ of (slice_get ys place)
  same_of of e NoRecords place = refl
  same_of of e (MoreRecords x y xs ys (SameRecord z) k) zero = refl
  same_of of e (MoreRecords x y xs ys (LikeTcp r now h) k) zero = e r now
  same_of of e (MoreRecords x y xs ys h k) (suc place) = same_of of e k place
