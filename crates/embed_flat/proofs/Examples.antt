-- Worked by hand from the canonical ABI.
use Rattle.std.specs.Prelude.{◌≡◌, ℕ, [], ◌∷◌, refl}
use Rattle.std.specs.Int.{byte_at}
use Rattle.embed_flat.specs.Abi.{U32, U64, AList, ARecord, end, ◌◂◌, nothing, size, alignment, bytes_of, stored}
use Rattle.embed_flat.specs.Wit.{option, outcome, error_code, ip_address, ip_socket_address, incoming_datagram, stream_error}

sizes : (size (outcome (ARecord (U32 ◂ U32 ◂ end)) error_code) ≡ 12) × (size ip_socket_address ≡ 32) × (alignment ip_socket_address ≡ 4) × (size (outcome ip_socket_address error_code) ≡ 36)
    × (size (option U64) ≡ 16) × (size (outcome (option ip_address) error_code) ≡ 22) × (size incoming_datagram ≡ 40) × (size (outcome U64 stream_error) ≡ 16) × (size (outcome nothing stream_error) ≡ 12) × (size (outcome nothing error_code) ≡ 2)
sizes = (refl, refl, refl, refl, refl, refl, refl, refl, refl, refl)

pair : bytes_of (outcome (ARecord (U32 ◂ U32 ◂ end)) error_code) (0, (258, (7, tt))) ≡ 0 ∷ 0 ∷ 0 ∷ 0 ∷ 2 ∷ 1 ∷ 0 ∷ 0 ∷ 7 ∷ 0 ∷ 0 ∷ 0 ∷ []
pair = refl

code : bytes_of (outcome (ARecord (U32 ◂ U32 ◂ end)) error_code) (1, (20, refl)) ≡ 1 ∷ 0 ∷ 0 ∷ 0 ∷ 20 ∷ 0 ∷ 0 ∷ 0 ∷ 0 ∷ 0 ∷ 0 ∷ 0 ∷ []
code = refl

some : bytes_of (option U64) (1, 258) ≡ 1 ∷ 0 ∷ 0 ∷ 0 ∷ 0 ∷ 0 ∷ 0 ∷ 0 ∷ 2 ∷ 1 ∷ 0 ∷ 0 ∷ 0 ∷ 0 ∷ 0 ∷ 0 ∷ []
some = refl

symbolic : (n : ℕ) → bytes_of (option U32) (1, n) ≡ 1 ∷ 0 ∷ 0 ∷ 0 ∷ byte_at 0 n ∷ byte_at 1 n ∷ byte_at 2 n ∷ byte_at 3 n ∷ []
symbolic n = refl

-- port 80, flow info 1, ::1 with 0x0102 first, scope 2
ipv6 : bytes_of ip_socket_address (1, (80, (1, ((258, (0, (0, (0, (0, (0, (0, (1, tt)))))))), (2, tt)))))
    ≡ 1 ∷ 0 ∷ 0 ∷ 0 ∷ 80 ∷ 0 ∷ 0 ∷ 0 ∷ 1 ∷ 0 ∷ 0 ∷ 0 ∷ 2 ∷ 1 ∷ 0 ∷ 0 ∷ 0 ∷ 0 ∷ 0 ∷ 0 ∷ 0 ∷ 0 ∷ 0 ∷ 0 ∷ 0 ∷ 0 ∷ 1 ∷ 0 ∷ 2 ∷ 0 ∷ 0 ∷ 0 ∷ []
ipv6 = refl

list : stored (AList U32) (8, (1 ∷ 2 ∷ [])) 0 (9 ∷ 9 ∷ 9 ∷ 9 ∷ 9 ∷ 9 ∷ 9 ∷ 9 ∷ 9 ∷ 9 ∷ 9 ∷ 9 ∷ 9 ∷ 9 ∷ 9 ∷ 9 ∷ 9 ∷ [])
    ≡ 8 ∷ 0 ∷ 0 ∷ 0 ∷ 2 ∷ 0 ∷ 0 ∷ 0 ∷ 1 ∷ 0 ∷ 0 ∷ 0 ∷ 2 ∷ 0 ∷ 0 ∷ 0 ∷ 9 ∷ []
list = refl
