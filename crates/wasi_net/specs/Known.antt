-- What is known of the network's sockets.
use Rattle.std.specs.Prelude.{◌≡◌, ℤ, if◌then◌else◌, Option, None, option_map}
use Rattle.std.specs.BTreeMap.{BTreeMap, get}
use Rattle.wasi_addr.specs.declared.address.SocketAddressFamily.{SocketAddressFamily}
use Rattle.wasi_world.specs.declared.ids.OpId.{OpId}
use Rattle.wasi_world.specs.Sides.{is_same, name_cmp}
use Rattle.wasi_net.specs.declared.socket.Socket.{Socket}
use Rattle.wasi_net.specs.declared.socket.Stage.{Stage}
use Rattle.wasi_net.specs.declared.socket.Room.{Room}

-- an open socket: its descriptor's number, its family, how far it has come, and whether it is known to have room for bytes
pub record Known : Type 0 where
  pub fd : ℤ
  pub family : SocketAddressFamily
  pub stage : Stage
  pub room : Room

abbrev pub known_of : Socket → Known
known_of socket = record { fd = socket.descriptor.number; family = socket.family; stage = socket.stage; room = socket.room }

-- it has come so far
abbrev pub at_stage : Known → Stage → Known
at_stage k stage = record k { stage = stage }

-- so much is known of its room
abbrev pub with_room : Known → Room → Known
with_room k room = record k { room = room }

-- the sockets that are open, by the names of their network sockets
abbrev pub Sides : Type 0
Sides = OpId → Option Known

abbrev pub known_sides : BTreeMap OpId Socket → Sides
known_sides sides name = option_map known_of (get name_cmp sides name)

-- none is open
abbrev pub IsUnused : Sides → Type 0
IsUnused sides = (name : OpId) → sides name ≡ None

-- all are as before
abbrev pub Same : Sides → Sides → Type 0
Same before now = (name : OpId) → now name ≡ before name

-- that of one name is so, and all others are as before
abbrev pub With : Sides → OpId → Option Known → Sides → Type 0
With before place k now = (name : OpId) → now name ≡ (if is_same place name then k else before name)
