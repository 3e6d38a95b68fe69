-- The functions of wasi:sockets and wasi:io 0.2, by their numbers here.
use Rattle.std.specs.Prelude.{ℕ, nat_lt, if◌then◌else◌, List, [], ◌∷◌, Option, Some, None}
use Rattle.embed_flat.specs.declared.shape.Shape.{Shape}
use Rattle.embed_flat.specs.declared.shape.Shape.TheVariants as shape
use Rattle.embed_flat.specs.Abi.{Wit, Wits, Truth, U8, U32, U64, AList, end, ◌◂◌, nothing, flat_count, flat_fields}
use Rattle.embed_flat.specs.Answers.{result_type}
use Rattle.embed_flat.specs.Wit.{option, outcome, handle, pair, triple, error_code, stream_error, ip_address_family, shutdown_type, ip_address, ip_socket_address, incoming_datagram, outgoing_datagram}

-- a function of an interface: its number here, its parameters, the resource of a method first, and its result
pub record Import : Type 0 where
  pub op : ℕ
  pub params : Wits
  pub gives : Wit

abbrev pub import : ℕ → Wits → Wit → Import
import op params gives = record { op = op; params = params; gives = gives }

-- what lies in memory: a result of more than one number, at a place that is passed behind the parameters
abbrev pub stored_type : Wit → Wit
stored_type gives = if nat_lt 1 (flat_count gives) then gives else nothing

abbrev pub lowered : Import → ℕ × ℕ × Wit
lowered i = (i.op, flat_fields i.params, stored_type i.gives)

abbrev pub row_seen : ℕ × Shape × ℕ → ℕ × ℕ × Wit
row_seen row = (row.0, row.2, result_type row.1)

abbrev pub shape_in : Option (ℕ × Shape × ℕ) → Shape
shape_in None = shape.Flat
shape_in (Some row) = row.1

abbrev pub place_in : Option (ℕ × Shape × ℕ) → ℕ
place_in None = 0
place_in (Some row) = row.2

abbrev pub imports : List Import
imports =
    import 0 end (handle)
    ∷ import 1 (ip_address_family ◂ end) (outcome handle error_code)
    ∷ import 2 (ip_address_family ◂ end) (outcome handle error_code)
    ∷ import 10 (handle ◂ handle ◂ ip_socket_address ◂ end) (outcome nothing error_code)
    ∷ import 11 (handle ◂ end) (outcome nothing error_code)
    ∷ import 12 (handle ◂ handle ◂ ip_socket_address ◂ end) (outcome nothing error_code)
    ∷ import 13 (handle ◂ end) (outcome pair error_code)
    ∷ import 14 (handle ◂ end) (outcome nothing error_code)
    ∷ import 15 (handle ◂ end) (outcome nothing error_code)
    ∷ import 16 (handle ◂ end) (outcome triple error_code)
    ∷ import 17 (handle ◂ end) (outcome ip_socket_address error_code)
    ∷ import 18 (handle ◂ end) (outcome ip_socket_address error_code)
    ∷ import 19 (handle ◂ end) (Truth)
    ∷ import 20 (handle ◂ end) (ip_address_family)
    ∷ import 21 (handle ◂ shutdown_type ◂ end) (outcome nothing error_code)
    ∷ import 30 (handle ◂ end) (outcome Truth error_code)
    ∷ import 31 (handle ◂ end) (outcome U64 error_code)
    ∷ import 32 (handle ◂ end) (outcome U64 error_code)
    ∷ import 33 (handle ◂ end) (outcome U32 error_code)
    ∷ import 34 (handle ◂ end) (outcome U8 error_code)
    ∷ import 35 (handle ◂ end) (outcome U64 error_code)
    ∷ import 36 (handle ◂ end) (outcome U64 error_code)
    ∷ import 40 (handle ◂ Truth ◂ end) (outcome nothing error_code)
    ∷ import 41 (handle ◂ U64 ◂ end) (outcome nothing error_code)
    ∷ import 42 (handle ◂ U64 ◂ end) (outcome nothing error_code)
    ∷ import 43 (handle ◂ U32 ◂ end) (outcome nothing error_code)
    ∷ import 44 (handle ◂ U8 ◂ end) (outcome nothing error_code)
    ∷ import 45 (handle ◂ U64 ◂ end) (outcome nothing error_code)
    ∷ import 46 (handle ◂ U64 ◂ end) (outcome nothing error_code)
    ∷ import 47 (handle ◂ U64 ◂ end) (outcome nothing error_code)
    ∷ import 50 (handle ◂ handle ◂ ip_socket_address ◂ end) (outcome nothing error_code)
    ∷ import 51 (handle ◂ end) (outcome nothing error_code)
    ∷ import 52 (handle ◂ option ip_socket_address ◂ end) (outcome pair error_code)
    ∷ import 53 (handle ◂ end) (outcome ip_socket_address error_code)
    ∷ import 54 (handle ◂ end) (outcome ip_socket_address error_code)
    ∷ import 55 (handle ◂ end) (ip_address_family)
    ∷ import 56 (handle ◂ U64 ◂ end) (outcome (AList incoming_datagram) error_code)
    ∷ import 57 (handle ◂ end) (outcome U64 error_code)
    ∷ import 58 (handle ◂ AList outgoing_datagram ◂ end) (outcome U64 error_code)
    ∷ import 60 (handle ◂ end) (outcome U8 error_code)
    ∷ import 61 (handle ◂ end) (outcome U64 error_code)
    ∷ import 62 (handle ◂ end) (outcome U64 error_code)
    ∷ import 65 (handle ◂ U8 ◂ end) (outcome nothing error_code)
    ∷ import 66 (handle ◂ U64 ◂ end) (outcome nothing error_code)
    ∷ import 67 (handle ◂ U64 ◂ end) (outcome nothing error_code)
    ∷ import 70 (handle ◂ AList U8 ◂ end) (outcome handle error_code)
    ∷ import 71 (handle ◂ end) (outcome (option ip_address) error_code)
    ∷ import 80 (handle ◂ end) (handle)
    ∷ import 81 (handle ◂ end) (Truth)
    ∷ import 82 (handle ◂ end) (nothing)
    ∷ import 83 (AList handle ◂ end) (AList U32)
    ∷ import 84 (handle ◂ end) (nothing)
    ∷ import 85 (handle ◂ end) (option error_code)
    ∷ import 90 (handle ◂ U64 ◂ end) (outcome (AList U8) stream_error)
    ∷ import 91 (handle ◂ U64 ◂ end) (outcome (AList U8) stream_error)
    ∷ import 92 (handle ◂ U64 ◂ end) (outcome U64 stream_error)
    ∷ import 93 (handle ◂ U64 ◂ end) (outcome U64 stream_error)
    ∷ import 94 (handle ◂ end) (outcome U64 stream_error)
    ∷ import 95 (handle ◂ AList U8 ◂ end) (outcome nothing stream_error)
    ∷ import 96 (handle ◂ AList U8 ◂ end) (outcome nothing stream_error)
    ∷ import 97 (handle ◂ end) (outcome nothing stream_error)
    ∷ import 98 (handle ◂ end) (outcome nothing stream_error)
    ∷ import 99 (handle ◂ U64 ◂ end) (outcome nothing stream_error)
    ∷ import 100 (handle ◂ U64 ◂ end) (outcome nothing stream_error)
    ∷ import 101 (handle ◂ handle ◂ U64 ◂ end) (outcome U64 stream_error)
    ∷ import 102 (handle ◂ handle ◂ U64 ◂ end) (outcome U64 stream_error)
    ∷ []
