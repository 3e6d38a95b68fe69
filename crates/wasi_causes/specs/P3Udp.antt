-- Why the calls of 0.3 UDP sockets are refused, and what they give and leave.
use Rattle.std.specs.Prelude.{◌≡◌, ℕ, true, List, [], ◌∷◌, Some, None}
use Rattle.wasi_addr.specs.declared.address.IpSocketAddress.{IpSocketAddress}
use Rattle.wasi_addr.specs.declared.address.SocketAddressFamily.{SocketAddressFamily}
use Rattle.wasi_addr.specs.declared.code.ErrorCode.{ErrorCode}
use Rattle.wasi_addr.specs.declared.code.ErrorCode.TheVariants.{InvalidState}
use Rattle.wasi_world.specs.declared.call.Call.TheVariants as call
use Rattle.wasi_world.specs.declared.call.Entry.{Entry}
use Rattle.wasi_world.specs.declared.call.Opt.{Opt}
use Rattle.wasi_world.specs.declared.call.Told.{Told}
use Rattle.wasi_world.specs.declared.call.Told.TheVariants as told
use Rattle.wasi_world.specs.declared.ids.OpId.{OpId}
use Rattle.wasi_world.specs.declared.outcome.WasiSocketsCtx.{WasiSocketsCtx}
use Rattle.wasi_world.specs.Typed.{told_addr}
use Rattle.wasi_udp.specs.Socket.{after_peer}
use Rattle.udp_records.specs.declared.udp.OpenUdp.{OpenUdp}
use Rattle.wasi_records.specs.Records.{open_at}
use Rattle.udp_records.specs.Udp.{with_udp_inner}
use Rattle.host_store.specs.declared.machine.Machine.{Machine}
use Rattle.host_store.specs.Machine.{udp3_at}
use Rattle.wasi_steps.specs.declared.reply.CodeWord.{CodeWord}
use Rattle.wasi_steps.specs.declared.setting.UdpSetting.{UdpSetting}
use Rattle.wasi_walks.specs.Licence.{entry}
use Rattle.wasi_causes.specs.Refusals.{SaidBy, p3_word}
use Rattle.wasi_causes.specs.Udp.{UdpCreateFails, UdpGetFails, UdpLocalFails, UdpSetFails, putting_udp, udp_knowing_bound}

-- == the 0.3 socket that a handle names
-- The handle names a record, at this place, of which this holds.
pub record OfUdp3 (m : Machine) (handle : ℕ) (P : ℕ → OpenUdp → Type 0) : Type 0 where
  pub place : ℕ
  pub found : OpenUdp
  pub names : udp3_at m handle ≡ Some place
  pub at : open_at m.store.records place ≡ Some found
  pub holds : P place found

-- the machine is as it was, but that the handle's socket is known to be bound
abbrev pub KnowsUdp3Bound : Machine → ℕ → Machine → Type 0
KnowsUdp3Bound m handle after = OfUdp3 m handle (λ place o. after ≡ udp_knowing_bound m place o)

-- == refusals, by the words of 0.3
abbrev pub P3UdpCreateRefusal : Machine → OpId → WasiSocketsCtx → SocketAddressFamily → List Entry → CodeWord → Machine
    → Type 0
P3UdpCreateRefusal m own ctx family es w after = SaidBy p3_word (λ c. UdpCreateFails m own ctx family es c after) w

abbrev pub P3UdpLocalRefusal : Machine → OpId → ℕ → List Entry → CodeWord → Machine → Type 0
P3UdpLocalRefusal m own handle es w after =
    OfUdp3 m handle (λ place o. SaidBy p3_word (λ c. UdpLocalFails m own place o es c after) w)

abbrev pub P3UdpGetRefusal : Machine → OpId → ℕ → Opt → List Entry → CodeWord → Type 0
P3UdpGetRefusal m own handle option es w =
    OfUdp3 m handle (λ place o. SaidBy p3_word (UdpGetFails own option o es) w)

abbrev pub P3UdpSetRefusal : Machine → OpId → ℕ → UdpSetting → List Entry → CodeWord → Type 0
P3UdpSetRefusal m own handle setting es w =
    OfUdp3 m handle (λ place o. SaidBy p3_word (UdpSetFails own setting o es) w)

-- == a disconnect
abbrev pub disconnect_entries : OpId → OpenUdp → Told → Told → List Entry
disconnect_entries own o done peer =
    entry own (call.UdpDisconnect o.inner.side) done ∷ entry own (call.Peer o.inner.side) peer ∷ []

-- the socket is bound, and its remote address is what its network socket reported
abbrev pub disconnected_by : Machine → ℕ → OpenUdp → Told → Machine
disconnected_by m place o peer =
    putting_udp m place (with_udp_inner o (after_peer (record o.inner { bound = true }) (told_addr peer)))

-- A disconnect is refused: the socket keeps no remote address, and nothing is asked; or the network returned a code, and
-- was asked for the remote address then.
pub data DisconnectFails (m : Machine) (own : OpId) (place : ℕ) (o : OpenUdp) : List Entry → ErrorCode → Machine
    → Type 0 where
  KeepsNone : o.inner.remote ≡ None → DisconnectFails m own place o [] InvalidState m
  DisconnectTold : (a : IpSocketAddress) (c : ErrorCode) (peer : Told) → o.inner.remote ≡ Some a
      → DisconnectFails m own place o (disconnect_entries own o (told.Code c) peer) c (disconnected_by m place o peer)

abbrev pub P3DisconnectRefusal : Machine → OpId → ℕ → List Entry → CodeWord → Machine → Type 0
P3DisconnectRefusal m own handle es w after =
    OfUdp3 m handle (λ place o. SaidBy p3_word (λ c. DisconnectFails m own place o es c after) w)

-- The socket kept a remote address, its network socket was disconnected, and was asked for its remote address then.
pub record Disconnects (m : Machine) (own : OpId) (place : ℕ) (o : OpenUdp) (entries : List Entry) (after : Machine)
    : Type 0 where
  pub kept : IpSocketAddress
  pub was : o.inner.remote ≡ Some kept
  pub peer : Told
  pub asked : entries ≡ disconnect_entries own o told.Done peer
  pub left : after ≡ disconnected_by m place o peer
