-- What two machines have in common whose contexts differ in the limit of one: all but the permits of that one's writers.
use Rattle.std.specs.Prelude.{◌≡◌, ℕ, List, [], ◌∷◌, Option, Some, None, Result, Ok, Err}
use Rattle.wasi_streams.specs.StreamStop.{StreamStop, Failed, Closed, Trap}
use Rattle.wasi_tcp.specs.declared.halves.TcpSendStream.{TcpSendStream}
use Rattle.wasi_tcp.specs.declared.writer.WriteState.TheVariants.{Ready}
use Rattle.wasi_jobs.specs.declared.job.HostJob.{HostJob}
use Rattle.wasi_records.specs.declared.records.Record.{Record}
use Rattle.wasi_records.specs.declared.records.Record.TheVariants.{Tcp}
use Rattle.tcp_records.specs.declared.socket.Streams.{Streams}
use Rattle.tcp_records.specs.declared.socket.TcpRecord.{TcpRecord}
use Rattle.tcp_records.specs.Halves.{with_writer}
use Rattle.host_store.specs.declared.machine.Machine.{Machine}
use Rattle.host_store.specs.declared.limits.Limit.{Limit}
use Rattle.wasi_table.specs.Table.{Live}
use Rattle.host_store.specs.declared.kind.Interface.TheVariants.{P2}
use Rattle.host_store.specs.declared.kind.Kind.{Kind}
use Rattle.host_store.specs.declared.kind.Watched.{Watched}
use Rattle.host_store.specs.declared.store.Standing.{Standing}
use Rattle.host_store.specs.declared.store.StandingCall.{StandingCall}
use Rattle.host_store.specs.Kinds.{HandleTable}
use Rattle.host_store.specs.Store.{Records}
use Rattle.wasi_limits.specs.Contexts.{SameBut}

-- the same but for the permit of a writer that this context's limit is for
pub data LikeSocket (c : ℕ) : TcpRecord → TcpRecord → Type 0 where
  SameSocket : (r : TcpRecord) → LikeSocket c r r
  OtherPermit : (r : TcpRecord) (s : Streams) (half : TcpSendStream) (p q : ℕ) → r.maker ≡ c → LikeSocket c (with_writer r s (Ready half p)) (with_writer r s (Ready half q))

pub data LikeRecord (c : ℕ) : Record → Record → Type 0 where
  SameRecord : (x : Record) → LikeRecord c x x
  LikeTcp : (r now : TcpRecord) → LikeSocket c r now → LikeRecord c (Tcp r) (Tcp now)

pub data LikeRecords (c : ℕ) : List Record → List Record → Type 0 where
  NoRecords : LikeRecords c [] []
  MoreRecords : (x y : Record) (xs ys : List Record) → LikeRecord c x y → LikeRecords c xs ys → LikeRecords c (x ∷ xs) (y ∷ ys)

pub data LikeLimits (c : ℕ) : List Limit → List Limit → Type 0 where
  NoLimits : LikeLimits c [] []
  MoreLimits : (context a b : ℕ) (xs ys : List Limit) → SameBut c context a b → LikeLimits c xs ys → LikeLimits c (record { context = context; most = a } ∷ xs) (record { context = context; most = b } ∷ ys)

-- == what a 0.2 TCP script makes
abbrev pub IsTcpWatched : Watched → Type 0
IsTcpWatched (Watched.Socket place) = Unit {0}
IsTcpWatched (Watched.Input place) = Unit {0}
IsTcpWatched (Watched.Output place) = Unit {0}
IsTcpWatched _ = ⊥

abbrev pub IsTcpKind : Kind → Type 0
IsTcpKind Kind.Network = Unit {0}
IsTcpKind (Kind.Tcp2 place) = Unit {0}
IsTcpKind (Kind.Input place) = Unit {0}
IsTcpKind (Kind.Output place) = Unit {0}
IsTcpKind (Kind.Pollable w) = IsTcpWatched w
IsTcpKind Kind.ErrorValue = Unit {0}
IsTcpKind _ = ⊥

abbrev pub AllTcp : List (Live Kind) → Type 0
AllTcp [] = Unit {0}
AllTcp (l ∷ ls) = IsTcpKind l.value × AllTcp ls

abbrev pub IsTcpCall : StandingCall → Type 0
IsTcpCall (StandingCall.Bind place P2) = Unit {0}
IsTcpCall (StandingCall.Listen place None) = Unit {0}
IsTcpCall (StandingCall.DropOutput place) = Unit {0}
IsTcpCall _ = ⊥

abbrev pub IsTcpStanding : Option Standing → Type 0
IsTcpStanding None = Unit {0}
IsTcpStanding (Some s) = IsTcpCall s.call

-- == the state
pub data LikeStore (c : ℕ) : Records → Records → Type 0 where
  Stores : (records others : List Record) (jobs : List HostJob) (standing : Option Standing) (limits mosts : List Limit) → IsTcpStanding standing → LikeRecords c records others → LikeLimits c limits mosts
      → LikeStore c (record { records = records; jobs = jobs; standing = standing; beside = []; limits = limits }) (record { records = others; jobs = jobs; standing = standing; beside = []; limits = mosts })

pub data LikeMachine (c : ℕ) : Machine → Machine → Type 0 where
  Machines : (t : HandleTable) (store other : Records) → AllTcp t.live → LikeStore c store other → LikeMachine c (record { table = t; store = store }) (record { table = t; store = other })

-- the sockets of a number
pub data LikeFound (c : ℕ) : Option TcpRecord → Option TcpRecord → Type 0 where
  NoneFound : LikeFound c None None
  BothFound : (r now : TcpRecord) → LikeSocket c r now → LikeFound c (Some r) (Some now)

-- what is given is the same, and what is left is alike
pub data With {A X : Type 0} (Like : X → X → Type 0) : A × X → A × X → Type 0 where
  Also : (a : A) (x y : X) → Like x y → With Like (a, x) (a, y)

-- What both calls of a stream give is alike, or they fail in the same way; and what is left is alike.
pub data Gives {T E X : Type 0} (LikeValue : T → T → Type 0) (Like : X → X → Type 0) : Result T E × X → Result T E × X → Type 0 where
  GiveOk : (a b : T) (x y : X) → LikeValue a b → Like x y → Gives LikeValue Like (Ok a, x) (Ok b, y)
  GiveErr : (e : E) (x y : X) → Like x y → Gives LikeValue Like (Err e, x) (Err e, y)

-- of a number anything may be
abbrev pub Any : {T : Type 0} → T → T → Type 0
Any a b = Unit {0}

-- a call of a stream traps
abbrev pub TrapIn : {T : Type 0} → Result T StreamStop → Type 0
TrapIn (Ok value) = ⊥
TrapIn (Err (Failed code)) = ⊥
TrapIn (Err Closed) = ⊥
TrapIn (Err (Trap kind)) = Unit {0}

abbrev pub Traps : {T X : Type 0} → Result T StreamStop × X → Type 0
Traps done = TrapIn done.0
