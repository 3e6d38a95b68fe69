-- How a poll of an operation comes out, by what was left of it: one table for all whose items are asked in turn.
use Rattle.std.specs.Prelude.{◌≡◌, ℕ, List, [], ◌∷◌, ◌++◌}
use Rattle.wasi_addr.specs.declared.address.IpSocketAddress.{IpSocketAddress}
use Rattle.wasi_addr.specs.declared.address.ShutdownType.TheVariants.{Send}
use Rattle.wasi_addr.specs.declared.address.SocketAddrUse.{SocketAddrUse}
use Rattle.wasi_addr.specs.declared.code.ErrorCode.{ErrorCode}
use Rattle.wasi_addr.specs.declared.code.ErrorCode.TheVariants.{AccessDenied}
use Rattle.wasi_world.specs.declared.call.Call.TheVariants as call
use Rattle.wasi_world.specs.declared.call.Entry.{Entry}
use Rattle.wasi_world.specs.declared.call.Told.{Told}
use Rattle.wasi_world.specs.declared.call.Told.TheVariants as told
use Rattle.wasi_world.specs.Operation.{Nothing, Item, Check, CheckLocal, Bind, Connect, Listen, UdpWritable, UdpBind, LastAsk, NothingLast, CloseLast, ShutdownLast, Who, End, Waits, Done, Refused}
use Rattle.wasi_walks.specs.Licence.{Has, entry}

abbrev pub check_entry : Who → IpSocketAddress → SocketAddrUse → Told → Entry
check_entry who a usage answer = entry who.id (call.Check who.context a usage) answer

abbrev pub local_entry : Who → Told → Entry
local_entry who answer = entry who.id (call.Local who.side) answer

-- An item is done with, and the next one follows: what was asked and answered.
pub data Passes (who : Who) : Item → List Entry → Type 0 where
  ToldYes : (a : IpSocketAddress) (usage : SocketAddrUse) → Passes who (Check a usage) (check_entry who a usage told.Yes ∷ [])
  LocalToldYes : (a : IpSocketAddress) (usage : SocketAddrUse) → Passes who (CheckLocal usage) (local_entry who (told.Addr a) ∷ check_entry who a usage told.Yes ∷ [])
  BindToldDone : (a : IpSocketAddress) → Passes who (Bind a) (entry who.id (call.Bind who.side a) told.Done ∷ [])
  ConnectToldDone : (a : IpSocketAddress) → Passes who (Connect a) (entry who.id (call.Connect who.side a) told.Done ∷ [])
  WritableToldDone : Passes who UdpWritable (entry who.id (call.UdpWritable who.side) told.Done ∷ [])
  UdpBindToldDone : (a : IpSocketAddress) → Passes who (UdpBind a) (entry who.id (call.UdpBind who.side a) told.Done ∷ [])
  ListenToldDone : (backlog : ℕ) → Passes who (Listen backlog) (entry who.id (call.Listen who.side backlog) told.Done ∷ [])

-- An item was answered pending, and is asked again in this form.
pub data Holds (who : Who) : Item → List Entry → Item → Type 0 where
  CheckToldPending : (a : IpSocketAddress) (usage : SocketAddrUse) → Holds who (Check a usage) (check_entry who a usage told.Pending ∷ []) (Check a usage)
  LocalToldPending : (a : IpSocketAddress) (usage : SocketAddrUse) → Holds who (CheckLocal usage) (local_entry who (told.Addr a) ∷ check_entry who a usage told.Pending ∷ []) (Check a usage)
  WritableToldPending : Holds who UdpWritable (entry who.id (call.UdpWritable who.side) told.Pending ∷ []) UdpWritable
  ConnectToldPending : (a : IpSocketAddress) → Holds who (Connect a) (entry who.id (call.Connect who.side a) told.Pending ∷ []) (Connect a)

-- An item ends the operation with this code.
pub data Breaks (who : Who) : Item → List Entry → ErrorCode → Type 0 where
  ToldNo : (a : IpSocketAddress) (usage : SocketAddrUse) → Breaks who (Check a usage) (check_entry who a usage told.No ∷ []) AccessDenied
  LocalToldNo : (a : IpSocketAddress) (usage : SocketAddrUse) → Breaks who (CheckLocal usage) (local_entry who (told.Addr a) ∷ check_entry who a usage told.No ∷ []) AccessDenied
  LocalToldCode : (usage : SocketAddrUse) (c : ErrorCode) → Breaks who (CheckLocal usage) (local_entry who (told.Code c) ∷ []) c
  BindToldCode : (a : IpSocketAddress) (c : ErrorCode) → Breaks who (Bind a) (entry who.id (call.Bind who.side a) (told.Code c) ∷ []) c
  ConnectToldCode : (a : IpSocketAddress) (c : ErrorCode) → Breaks who (Connect a) (entry who.id (call.Connect who.side a) (told.Code c) ∷ []) c
  WritableToldCode : (c : ErrorCode) → Breaks who UdpWritable (entry who.id (call.UdpWritable who.side) (told.Code c) ∷ []) c
  UdpBindToldCode : (a : IpSocketAddress) (c : ErrorCode) → Breaks who (UdpBind a) (entry who.id (call.UdpBind who.side a) (told.Code c) ∷ []) c
  ListenToldCode : (backlog : ℕ) (c : ErrorCode) → Breaks who (Listen backlog) (entry who.id (call.Listen who.side backlog) (told.Code c) ∷ []) c

-- == a poll
-- what is asked last where the operation ends with a code
abbrev pub last_entries : Who → LastAsk → List Entry
last_entries who NothingLast = []
last_entries who CloseLast = entry who.id (call.Close who.side) told.Done ∷ []
last_entries who ShutdownLast = entry who.id (call.Shutdown who.side Send) told.Done ∷ []

-- A poll, by what was left: nothing was; or the front item is done with and the rest is polled; or it waits, or ends it all.
pub data Polled (who : Who) : List Item → List Entry → End × List Item → Type 0 where
  WasOver : Polled who [] [] (Done Nothing, [])
  GoesOn : (item : Item) (items : List Item) (es fs : List Entry) (end : End × List Item) → Passes who item es → Polled who items fs end → Polled who (item ∷ items) (es ++ fs) end
  Stays : (item now : Item) (items : List Item) (es : List Entry) → Holds who item es now → Polled who (item ∷ items) es (Waits, now ∷ items)
  Stops : (item : Item) (items : List Item) (es : List Entry) (c : ErrorCode) → Breaks who item es c → Polled who (item ∷ items) (es ++ last_entries who who.last) (Refused c Nothing, [])

-- How a poll that was refused ended: an item that was left broke it, and then came the last ask.
pub record Broken (who : Who) (left : List Item) (es : List Entry) (c : ErrorCode) : Type 0 where
  pub item : Item
  pub its : Has left item
  pub front : List Entry
  pub last : List Entry
  pub cut : es ≡ front ++ (last ++ last_entries who who.last)
  pub broke : Breaks who item last c
