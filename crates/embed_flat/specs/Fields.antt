-- The values of the interface's types that fields of a reply tell.
use Rattle.std.specs.Prelude.{ℕ, zero, suc, ◌+◌, ◌++◌, ◌==◌, if◌then◌else◌, List, [], ◌∷◌, Option, Some, None, map, slice_get, drop}
use Rattle.wasi_steps.specs.declared.reply.Field.{Field}
use Rattle.wasi_steps.specs.declared.reply.Field.TheVariants as field
use Rattle.embed_flat.specs.Abi.{Value, size}
use Rattle.embed_flat.specs.Memory.{low_bytes}
use Rattle.embed_flat.specs.Wit.{option, triple, ipv4_address, ipv6_address, ip_address, ip_socket_address, incoming_datagram}

-- `true` is 1, and what is no number is 0
abbrev pub number_of : Field → ℕ
number_of (field.Number n) = n
number_of field.True = 1
number_of _ = 0

abbrev pub number_told : Option Field → ℕ
number_told None = 0
number_told (Some f) = number_of f

abbrev pub number_in : List Field → ℕ → ℕ
number_in fields k = number_told (slice_get fields k)

abbrev pub bytes_told : Option Field → List ℕ
bytes_told (Some (field.Bytes bytes)) = bytes
bytes_told _ = []

abbrev pub bytes_in : List Field → ℕ → List ℕ
bytes_in fields k = bytes_told (slice_get fields k)

abbrev pub numbers_in : List Field → List ℕ
numbers_in fields = map number_of fields

abbrev pub ipv4_in : List Field → ℕ → Value ipv4_address
ipv4_in fields k = (number_in fields k, (number_in fields (k + 1), (number_in fields (k + 2), (number_in fields (k + 3), tt))))

abbrev pub ipv6_in : List Field → ℕ → Value ipv6_address
ipv6_in fields k = (
  number_in fields k,
  (
    number_in fields (k + 1),
    (
      number_in fields (k + 2),
      (
        number_in fields (k + 3),
        (number_in fields (k + 4), (number_in fields (k + 5), (number_in fields (k + 6), (number_in fields (k + 7), tt)))),
      ),
    ),
  ),
)

abbrev pub words_in : List Field → Value triple
words_in fields = (number_in fields 0, (number_in fields 1, (number_in fields 2, tt)))

-- its family, its parts, its port and, of IPv6, its flow info and its scope
abbrev pub address_in : List Field → Value ip_socket_address
address_in fields = if number_in fields 0 == 4
    then (0, (number_in fields 5, (ipv4_in fields 1, tt)))
    else (1, (number_in fields 9, (number_in fields 10, (ipv6_in fields 1, (number_in fields 11, tt)))))

-- its family and its parts, or neither family: none
abbrev pub found_in : List Field → Value (option ip_address)
found_in fields = if number_in fields 0 == 4 then (1, (0, ipv4_in fields 1))
    else if number_in fields 0 == 6 then (1, (1, ipv6_in fields 1))
    else (0, tt)

-- who sent a datagram, and then its bytes
abbrev pub data_in : List Field → List ℕ
data_in fields = bytes_in fields (if number_in fields 0 == 4 then 6 else 12)

-- how many came, which is one at most, and it. Its bytes lie behind it
abbrev pub datagrams_in : List Field → ℕ → List (Value incoming_datagram)
datagrams_in fields place = if number_in fields 0 == 0 then []
    else ((place + size incoming_datagram, data_in (drop 1 fields)), (address_in (drop 1 fields), tt)) ∷ []

-- so many numbers, of one byte each and of two
abbrev pub bytes_one_by_one : List Field → ℕ → ℕ → List ℕ
bytes_one_by_one fields first zero = []
bytes_one_by_one fields first (suc k) = bytes_one_by_one fields first k ++ low_bytes 1 (number_in fields (first + k))

abbrev pub segments_one_by_one : List Field → ℕ → ℕ → List ℕ
segments_one_by_one fields first zero = []
segments_one_by_one fields first (suc k) = segments_one_by_one fields first k ++ low_bytes 2 (number_in fields (first + k))
