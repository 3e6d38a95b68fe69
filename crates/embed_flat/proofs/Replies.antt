-- What replies tell, as values.
use Rattle.std.specs.Prelude.{ℕ, ◌≡◌, ◌+◌, Bool, true, false, if◌then◌else◌, List, [], ◌∷◌, Option, Some, None, slice_get}
use Rattle.std.proofs.Common.{refl, ap}
use Rattle.wasi_addr.specs.declared.address.IpAddress.{IpAddress}
use Rattle.wasi_addr.specs.declared.address.IpAddress.TheVariants as ip
use Rattle.wasi_addr.specs.declared.address.IpSocketAddress.{IpSocketAddress}
use Rattle.wasi_addr.specs.declared.address.IpSocketAddress.TheVariants as socket
use Rattle.wasi_addr.specs.declared.address.SocketAddressFamily.{SocketAddressFamily}
use Rattle.wasi_addr.specs.declared.address.SocketAddressFamily.TheVariants as family
use Rattle.wasi_addr.specs.declared.p2.ErrorCode.{ErrorCode}
use Rattle.wasi_addr.specs.declared.p2.ErrorCode.TheVariants as p2
use Rattle.wasi_world.specs.declared.datagram.IncomingDatagram.{IncomingDatagram}
use Rattle.wasi_steps.specs.Reply.{address_values, found_values, datagram_values, numbers_fields, truth_fields, family_fields, word_of_p2}
use Rattle.wasi_steps.specs.Replies.{code_text}
use Rattle.wasi_steps.specs.declared.reply.Reply.TheVariants as reply
use Rattle.embed_flat.specs.declared.shape.Shape.TheVariants as shape
use Rattle.embed_flat.specs.Abi.{Truth, U32, AList}
use Rattle.embed_flat.specs.Answers.{code_value, done_answer, done, plain, returned}
use Rattle.embed_flat.specs.Fields.{numbers_in}
use Rattle.embed_flat.specs.Values.{address_value, found_value, datagram_value, family_case}
use Rattle.embed_flat.specs.Wit.{option, error_code, error_code_names, ip_address, ip_socket_address, incoming_datagram}

pub address_told : (a : IpSocketAddress) (place : ℕ) → done_answer shape.Address (address_values a) place ≡ done ip_socket_address error_code (address_value a)
address_told (socket.Ipv4 a) place = refl
address_told (socket.Ipv6 a) place = refl

pub found_told : (a : Option IpAddress) (place : ℕ) → done_answer shape.MaybeIp (found_values a) place ≡ done (option ip_address) error_code (found_value a)
found_told None place = refl
found_told (Some (ip.Ipv4 a)) place = refl
found_told (Some (ip.Ipv6 a)) place = refl

sent : (a : IpSocketAddress) (bytes : List ℕ) (place : ℕ)
    → done_answer shape.Datagrams (datagram_values (record { bytes = bytes; remote_address = a } ∷ [])) place
    ≡ done (AList incoming_datagram) error_code (place, ((place + 40, bytes), (address_value a, tt)) ∷ [])
sent (socket.Ipv4 a) bytes place = refl
sent (socket.Ipv6 a) bytes place = refl

pub one_told : (d : IncomingDatagram) (place : ℕ) → done_answer shape.Datagrams (datagram_values (d ∷ [])) place
    ≡ done (AList incoming_datagram) error_code (place, datagram_value d (place + 40) ∷ [])
one_told d place = sent d.remote_address d.bytes place

numbers_told : (ns : List ℕ) → numbers_in (numbers_fields ns) ≡ ns
numbers_told [] = refl
numbers_told (n ∷ ns) = ap (λ ms. n ∷ ms) (numbers_told ns)

pub places_told : (ns : List ℕ) (place : ℕ) → done_answer shape.Places (numbers_fields ns) place ≡ plain (AList U32) (place, ns)
places_told ns place = ap (λ ms. plain (AList U32) (place, ms)) (numbers_told ns)

pub truth_told : (b : Bool) (place : ℕ) → done_answer shape.Truth (truth_fields b) place ≡ done Truth error_code b
truth_told true place = refl
truth_told false place = refl

pub truth_returned : (b : Bool) → returned shape.Flat (reply.Ok (truth_fields b)) ≡ (if b then 1 else 0)
truth_returned true = refl
truth_returned false = refl

pub family_told : (f : SocketAddressFamily) → returned shape.Family (reply.Ok (family_fields f)) ≡ family_case f
family_told family.Ipv4 = refl
family_told family.Ipv6 = refl

pub code_told : (code : ErrorCode) → slice_get error_code_names (code_value (word_of_p2 code)).0 ≡ Some (code_text (word_of_p2 code))
code_told p2.Unknown = refl
code_told p2.AccessDenied = refl
code_told p2.NotSupported = refl
code_told p2.InvalidArgument = refl
code_told p2.OutOfMemory = refl
code_told p2.Timeout = refl
code_told p2.ConcurrencyConflict = refl
code_told p2.NotInProgress = refl
code_told p2.WouldBlock = refl
code_told p2.InvalidState = refl
code_told p2.NewSocketLimit = refl
code_told p2.AddressNotBindable = refl
code_told p2.AddressInUse = refl
code_told p2.RemoteUnreachable = refl
code_told p2.ConnectionRefused = refl
code_told p2.ConnectionReset = refl
code_told p2.ConnectionAborted = refl
code_told p2.DatagramTooLarge = refl
code_told p2.NameUnresolvable = refl
code_told p2.TemporaryResolverFailure = refl
code_told p2.PermanentResolverFailure = refl
