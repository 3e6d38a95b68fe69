-- Which address a new incoming datagram stream keeps.
use Rattle.std.specs.Prelude.{◌≡◌, ◌⊎◌, ℕ, if◌then◌else◌, List, [], ◌∷◌, ◌++◌, Option, Some, None, IsSome}
use Rattle.wasi_addr.specs.Address.{is_wildcard}
use Rattle.wasi_addr.specs.declared.address.IpSocketAddress.{IpSocketAddress}
use Rattle.wasi_addr.specs.declared.address.SocketAddressFamily.{SocketAddressFamily}
use Rattle.wasi_world.specs.declared.call.Entry.{Entry}
use Rattle.wasi_world.specs.declared.call.Told.{Told}
use Rattle.wasi_world.specs.declared.call.Told.TheVariants as told
use Rattle.wasi_world.specs.declared.ids.OpId.{OpId}
use Rattle.udp_records.specs.declared.datagrams.Receiving.TheVariants as receiving
use Rattle.udp_records.specs.declared.datagrams.Sending.TheVariants as sending
use Rattle.udp_records.specs.declared.udp.OpenUdp.{OpenUdp}
use Rattle.wasi_records.specs.Records.{open_at}
use Rattle.host_store.specs.declared.machine.Machine.{Machine}
use Rattle.wasi_causes.specs.StreamCauses.{both_marks, peer_entry}

-- the remote address that the network reported: none where it reported a code or the wildcard
abbrev pub reported : SocketAddressFamily → Told → Option IpSocketAddress
reported family (told.Addr a) = if is_wildcard family a then None else Some a
reported family _ = None

-- Both streams of the UDP socket at this place are new: nothing is received or sent on them, nothing may be sent yet,
-- and the incoming one keeps this address, which is the socket's remote address.
pub record AreNew (m : Machine) (place : ℕ) (kept : Option IpSocketAddress) : Type 0 where
  pub found : OpenUdp
  pub at : open_at m.store.records place ≡ Some found
  pub incoming : found.incoming ≡ Some (record { remote = kept; receiving = receiving.Nothing })
  pub outgoing : found.outgoing ≡ Some (record { permit = 0; sending = sending.Nothing })
  pub socket : found.inner.remote ≡ kept

-- The address is kept by streams that were asked for with this address or none: the last call before the marks asked
-- for the remote address, and it is what was reported; or the streams were asked for without one, the socket had none,
-- and none is kept.
pub data IsKept (m : Machine) (own : OpId) (handle : ℕ) (o : OpenUdp) (remote : Option IpSocketAddress)
    (entries : List Entry) : Option IpSocketAddress → Type 0 where
  KeepsReported : (before : List Entry) (peer : Told) → IsSome remote ⊎ IsSome o.inner.remote
      → entries ≡ (before ++ peer_entry own o peer ∷ []) ++ both_marks own m.table.next handle o
      → IsKept m own handle o remote entries (reported o.inner.family peer)
  KeepsNone : remote ≡ None → o.inner.remote ≡ None → IsKept m own handle o remote entries None

-- The streams that were made are new, and keep such an address.
pub record NewStreamsKeep (m : Machine) (own : OpId) (handle place : ℕ) (o : OpenUdp) (remote : Option IpSocketAddress)
    (entries : List Entry) (after : Machine) : Type 0 where
  pub kept : Option IpSocketAddress
  pub is : IsKept m own handle o remote entries kept
  pub new : AreNew after place kept
