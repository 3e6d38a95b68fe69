-- Which datagrams can't be sent, by what their line says and by the socket, and why a send is refused.
use Rattle.std.specs.Prelude.{◌≡◌, ◌<◌, ◌≤◌, false, ◌&&◌, List, [], ◌∷◌, length, Option, Some, None}
use Rattle.wasi_addr.specs.Address.{ip_of, is_of_family, is_remote, same_address}
use Rattle.wasi_addr.specs.declared.address.IpSocketAddress.{IpSocketAddress}
use Rattle.wasi_addr.specs.declared.address.SocketAddressFamily.{SocketAddressFamily}
use Rattle.wasi_addr.specs.declared.code.ErrorCode.{ErrorCode}
use Rattle.wasi_addr.specs.declared.code.ErrorCode.TheVariants.{AccessDenied, DatagramTooLarge, InvalidArgument}
use Rattle.wasi_world.specs.declared.call.Entry.{Entry}
use Rattle.wasi_world.specs.declared.call.Told.TheVariants as told
use Rattle.wasi_world.specs.declared.datagram.OutgoingDatagram.{OutgoingDatagram}
use Rattle.udp_records.specs.declared.datagrams.Sending.{Sending}
use Rattle.udp_records.specs.declared.datagrams.Sending.TheVariants as sending
use Rattle.wasi_steps.specs.declared.reply.CodeWord.{CodeWord}
use Rattle.wasi_walks.specs.Answered.{word_of_code}
use Rattle.wasi_walks.specs.Waiting.{EndsWith}

-- A datagram of a socket of this family, with this remote address or none, can't be sent: it has more than 65,535
-- bytes; or it is for no address, and the socket has no remote address; or its address is unspecified, has the port 0
-- or is of the other family; or it isn't the socket's remote address.
pub data IsUnsendable (family : SocketAddressFamily) (remote : Option IpSocketAddress) (d : OutgoingDatagram)
    : ErrorCode → Type 0 where
  IsTooLarge : 65535 < length d.bytes → IsUnsendable family remote d DatagramTooLarge
  HasNoAddress : length d.bytes ≤ 65535 → d.remote_address ≡ None → remote ≡ None
      → IsUnsendable family remote d InvalidArgument
  HasWrongAddress : length d.bytes ≤ 65535 → (a : IpSocketAddress) → d.remote_address ≡ Some a
      → (is_remote a && is_of_family (ip_of a) family) ≡ false → IsUnsendable family remote d InvalidArgument
  IsNotForRemote : length d.bytes ≤ 65535 → (a r : IpSocketAddress) → d.remote_address ≡ Some a → remote ≡ Some r
      → same_address a r ≡ false → IsUnsendable family remote d InvalidArgument

-- A send of these datagrams is refused with the code, after these entries: one in the background failed with it before;
-- or the first can't be sent; or the last entry is a no, or tells the code.
pub data IsRefusedSend (family : SocketAddressFamily) (remote : Option IpSocketAddress) (before : Sending)
    (entries : List Entry) : List OutgoingDatagram → ErrorCode → Type 0 where
  OneFailedBefore : (ds : List OutgoingDatagram) (c : ErrorCode) → before ≡ sending.Failed c → entries ≡ []
      → IsRefusedSend family remote before entries ds c
  FirstIsUnsendable : (d : OutgoingDatagram) (ds : List OutgoingDatagram) (c : ErrorCode)
      → IsUnsendable family remote d c → IsRefusedSend family remote before entries (d ∷ ds) c
  FirstIsDenied : (d : OutgoingDatagram) (ds : List OutgoingDatagram) (e : Entry) → EndsWith e entries
      → e.answer ≡ told.No → IsRefusedSend family remote before entries (d ∷ ds) AccessDenied
  FirstIsTold : (d : OutgoingDatagram) (ds : List OutgoingDatagram) (e : Entry) (c : ErrorCode) → EndsWith e entries
      → e.answer ≡ told.Code c → IsRefusedSend family remote before entries (d ∷ ds) c

-- The refusal of a send has the word of such a code.
pub record RefusesSend (family : SocketAddressFamily) (remote : Option IpSocketAddress) (before : Sending)
    (datagrams : List OutgoingDatagram) (entries : List Entry) (word : CodeWord) : Type 0 where
  pub code : ErrorCode
  pub why : IsRefusedSend family remote before entries datagrams code
  pub word_is : word ≡ word_of_code code
