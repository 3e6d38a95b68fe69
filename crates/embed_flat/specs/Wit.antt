-- The types of wasi:sockets and wasi:io 0.2 that their calls give.
use Rattle.std.specs.Prelude.{ℕ, List, [], ◌∷◌, codes}
use Rattle.embed_flat.specs.Abi.{Wit, U8, U16, U32, AList, ARecord, AnEnum, AVariant, end, ◌◂◌, nothing}

abbrev pub option : Wit → Wit
option t = AVariant (nothing ◂ t ◂ end)

abbrev pub outcome : Wit → Wit → Wit
outcome done error = AVariant (done ◂ error ◂ end)

-- a handle is passed as its number
abbrev pub handle : Wit
handle = U32

abbrev pub pair : Wit
pair = ARecord (handle ◂ handle ◂ end)

abbrev pub triple : Wit
triple = ARecord (handle ◂ handle ◂ handle ◂ end)

-- == wasi:sockets/network
-- the cases of error-code, in their order
abbrev pub error_code_names : List (List ℕ)
error_code_names = codes "unknown" ∷ codes "access-denied" ∷ codes "not-supported" ∷ codes "invalid-argument" ∷ codes "out-of-memory" ∷ codes "timeout"
    ∷ codes "concurrency-conflict" ∷ codes "not-in-progress" ∷ codes "would-block" ∷ codes "invalid-state" ∷ codes "new-socket-limit"
    ∷ codes "address-not-bindable" ∷ codes "address-in-use" ∷ codes "remote-unreachable" ∷ codes "connection-refused" ∷ codes "connection-reset"
    ∷ codes "connection-aborted" ∷ codes "datagram-too-large" ∷ codes "name-unresolvable" ∷ codes "temporary-resolver-failure"
    ∷ codes "permanent-resolver-failure" ∷ []

abbrev pub error_code : Wit
error_code = AnEnum 21

abbrev pub ip_address_family : Wit
ip_address_family = AnEnum 2

abbrev pub ipv4_address : Wit
ipv4_address = ARecord (U8 ◂ U8 ◂ U8 ◂ U8 ◂ end)

abbrev pub ipv6_address : Wit
ipv6_address = ARecord (U16 ◂ U16 ◂ U16 ◂ U16 ◂ U16 ◂ U16 ◂ U16 ◂ U16 ◂ end)

abbrev pub ip_address : Wit
ip_address = AVariant (ipv4_address ◂ ipv6_address ◂ end)

-- its port and its address
abbrev pub ipv4_socket_address : Wit
ipv4_socket_address = ARecord (U16 ◂ ipv4_address ◂ end)

-- its port, its flow info, its address and its scope
abbrev pub ipv6_socket_address : Wit
ipv6_socket_address = ARecord (U16 ◂ U32 ◂ ipv6_address ◂ U32 ◂ end)

abbrev pub ip_socket_address : Wit
ip_socket_address = AVariant (ipv4_socket_address ◂ ipv6_socket_address ◂ end)

-- == wasi:sockets/udp
-- its data and its remote address
abbrev pub incoming_datagram : Wit
incoming_datagram = ARecord (AList U8 ◂ ip_socket_address ◂ end)

-- its data and its remote address, where it has one
abbrev pub outgoing_datagram : Wit
outgoing_datagram = ARecord (AList U8 ◂ option ip_socket_address ◂ end)

-- == wasi:sockets/tcp
-- receive, send and both
abbrev pub shutdown_type : Wit
shutdown_type = AnEnum 3

-- == wasi:io/streams
-- last-operation-failed with an error, and closed
abbrev pub stream_error : Wit
stream_error = AVariant (handle ◂ nothing ◂ end)
