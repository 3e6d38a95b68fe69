-- The handles of a 0.2 TCP script: one that is made, found or dropped.
use Rattle.std.proofs.Common.{◌≡◌, Bool, true, false, if◌then◌else◌, ℕ, ◌==◌, List, [], ◌∷◌, ◌++◌, Option, Some, None, Result, Ok, Err}
use Rattle.wasi_world.specs.declared.ids.OpId.{OpId}
use Rattle.wasi_world.specs.declared.outcome.TrapKind.TheVariants.{Full}
use Rattle.wasi_world.specs.Asks.{Give}
unfoldable use Rattle.wasi_world.specs.Asks.{bind}
use Rattle.wasi_world.specs.Typed.{ask_made}
use Rattle.wasi_table.specs.Table.{Live, is_full, value_at, without}
use Rattle.record_common.specs.Stops.{Stop, Trap}
use Rattle.host_store.specs.declared.kind.Kind.{Kind}
use Rattle.host_store.specs.declared.machine.Machine.{Machine}
use Rattle.host_store.specs.Kinds.{HandleTable, make_asks, name_of, with_handle}
use Rattle.host_store.specs.Machine.{with_table}
use Rattle.wasi_limits.specs.Alike.{BothGive, Same}
use Rattle.wasi_limits.proofs.Like.{AllTcp, IsTcpKind, LikeMachine, Machines, With, Also}
use Rattle.wasi_limits.proofs.Together.{both_give}

pub all_more : (live : List (Live Kind)) (l : Live Kind) → AllTcp live → IsTcpKind l.value → AllTcp (live ++ l ∷ [])
all_more [] l a k = (k, tt)
all_more (x ∷ live) l a k = (a.0, all_more live l a.1 k)

if_without : (b : Bool) (x : Live Kind) (live : List (Live Kind)) → IsTcpKind x.value → AllTcp live → AllTcp (if b then live else x ∷ live)
if_without true x live k a = a
if_without false x live k a = (k, a)

pub all_without : (live : List (Live Kind)) (h : ℕ) → AllTcp live → AllTcp (without live h)
all_without [] h a = tt
all_without (x ∷ live) h a = if_without (x.handle == h) x (without live h) a.0 (all_without live h a.1)

-- what a handle names
abbrev pub IsTcpFound : Option Kind → Type 0
IsTcpFound None = Unit {0}
IsTcpFound (Some kind) = IsTcpKind kind

if_found : (b : Bool) (kind : Kind) (o : Option Kind) → IsTcpKind kind → IsTcpFound o → IsTcpFound (if b then Some kind else o)
if_found true kind o k f = k
if_found false kind o k f = f

pub found_tcp : (live : List (Live Kind)) (h : ℕ) → AllTcp live → IsTcpFound (value_at live h)
found_tcp [] h a = tt
found_tcp (x ∷ live) h a = if_found (x.handle == h) x.value (value_at live h) a.0 (found_tcp live h a.1)

-- a handle that is made, or not for want of room
pub data SameMade : Result ℕ Stop × HandleTable → Result ℕ Stop × HandleTable → Type 0 where
  Mades : (answer : Result ℕ Stop) (t : HandleTable) → AllTcp t.live → SameMade (answer, t) (answer, t)

make_when : (t : HandleTable) (op : OpId) (kind : Kind) (parent : Option ℕ) (side : Option OpId) → AllTcp t.live → IsTcpKind kind → (b : Bool)
    → Same SameMade (if b then Give (Err (Trap Full), t) else bind (ask_made op t.next (name_of kind) parent side) (λ done. Give (Ok t.next, with_handle t kind parent))) (if b then Give (Err (Trap Full), t) else bind (ask_made op t.next (name_of kind) parent side) (λ done. Give (Ok t.next, with_handle t kind parent)))
make_when t op kind parent side a k true = BothGive _ _ (Mades _ t a)
make_when t op kind parent side a k false = both_give _ _ (ask_made op t.next (name_of kind) parent side) (λ done. Mades _ _ (all_more t.live _ a k))

pub make_same : (t : HandleTable) (op : OpId) (kind : Kind) (parent : Option ℕ) (side : Option OpId) → AllTcp t.live → IsTcpKind kind → Same SameMade (make_asks t op kind parent side) (make_asks t op kind parent side)
make_same t op kind parent side a k = make_when t op kind parent side a k (is_full t)

-- of network sockets that are the same
pub make_like : (t : HandleTable) (op : OpId) (kind : Kind) (parent : Option ℕ) (side other : Option OpId) → side ≡ other → AllTcp t.live → IsTcpKind kind → Same SameMade (make_asks t op kind parent side) (make_asks t op kind parent other)
make_like t op kind parent side other e a k = rw (← e) (make_same t op kind parent side a k)

module _ {c : ℕ} where
  pub table_like : {m now : Machine} → LikeMachine c m now → (a b : Result ℕ Stop × HandleTable) → SameMade a b → With (LikeMachine c) (with_table m a) (with_table now b)
  table_like (Machines t store other all l) _ _ (Mades answer made a) = Also answer _ _ (Machines made store other a l)
