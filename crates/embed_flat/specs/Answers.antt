-- Which value of the interface's types a call's answer is.
use Rattle.std.specs.Prelude.{◌≡◌, ℕ, ◌+◌, ◌*◌, ◌≤◌, ◌⊎◌, ◌/◌, ◌==◌, nat_lt, nat_le, Bool, true, false, ◌&&◌, ◌||◌, not, if◌then◌else◌, List, length, drop, Option, Some, None, refl}
use Rattle.wasi_steps.specs.declared.reply.CodeWord.{CodeWord}
use Rattle.wasi_steps.specs.declared.reply.CodeWord.TheVariants as word
use Rattle.wasi_steps.specs.declared.reply.Field.{Field}
use Rattle.wasi_steps.specs.declared.reply.Reply.{Reply}
use Rattle.wasi_steps.specs.declared.reply.Reply.TheVariants as reply
use Rattle.embed_flat.specs.declared.shape.Shape.{Shape}
use Rattle.embed_flat.specs.declared.shape.Shape.TheVariants as shape
use Rattle.embed_flat.specs.declared.results.Lists.{Lists}
use Rattle.embed_flat.specs.Abi.{Wit, Value, Truth, U8, U32, U64, AList, end, ◌◂◌, nothing, size, payload_place, stored}
use Rattle.embed_flat.specs.Wit.{option, outcome, pair, triple, error_code, ip_address, ip_socket_address, incoming_datagram, stream_error}
use Rattle.embed_flat.specs.Fields.{number_in, bytes_in, numbers_in, words_in, address_in, found_in, data_in, datagrams_in}

-- == codes
-- the case of a code in 0.2's error-code. The two that 0.2 lacks have the nearest one's
abbrev pub code_value : CodeWord → Value error_code
code_value word.Unknown = (0, refl)
code_value word.AccessDenied = (1, refl)
code_value word.NotSupported = (2, refl)
code_value word.InvalidArgument = (3, refl)
code_value word.OutOfMemory = (4, refl)
code_value word.Timeout = (5, refl)
code_value word.ConcurrencyConflict = (6, refl)
code_value word.NotInProgress = (7, refl)
code_value word.WouldBlock = (8, refl)
code_value word.InvalidState = (9, refl)
code_value word.NewSocketLimit = (10, refl)
code_value word.AddressNotBindable = (11, refl)
code_value word.AddressInUse = (12, refl)
code_value word.RemoteUnreachable = (13, refl)
code_value word.ConnectionRefused = (14, refl)
code_value word.ConnectionReset = (15, refl)
code_value word.ConnectionAborted = (16, refl)
code_value word.DatagramTooLarge = (17, refl)
code_value word.NameUnresolvable = (18, refl)
code_value word.TemporaryResolverFailure = (19, refl)
code_value word.PermanentResolverFailure = (20, refl)
code_value word.Other = (0, refl)
code_value word.ConnectionBroken = (15, refl)

-- == shapes
-- what a call of this shape gives where it is done
abbrev pub done_type : Shape → Wit
done_type shape.Flat = nothing
done_type shape.Family = nothing
done_type shape.Unit = nothing
done_type shape.Truth = Truth
done_type shape.Byte = U8
done_type shape.Word = U32
done_type shape.Pair = pair
done_type shape.Triple = triple
done_type shape.Wide = U64
done_type shape.Address = ip_socket_address
done_type shape.MaybeIp = option ip_address
done_type shape.Datagrams = AList incoming_datagram
done_type shape.StreamUnit = nothing
done_type shape.StreamBytes = AList U8
done_type shape.StreamWide = U64
done_type shape.Places = AList U32
done_type shape.MaybeCode = option error_code

-- whether it may give an error-code
abbrev pub has_code : Shape → Bool
has_code shape.Flat = false
has_code shape.Family = false
has_code shape.StreamUnit = false
has_code shape.StreamBytes = false
has_code shape.StreamWide = false
has_code shape.Places = false
has_code shape.MaybeCode = false
has_code _ = true

-- whether it may give a stream-error
abbrev pub has_stream_error : Shape → Bool
has_stream_error shape.StreamUnit = true
has_stream_error shape.StreamBytes = true
has_stream_error shape.StreamWide = true
has_stream_error _ = false

-- the type of what a call of this shape gives, where that isn't a number alone
abbrev pub result_type : Shape → Wit
result_type s = if has_code s then outcome (done_type s) error_code
    else if has_stream_error s then outcome (done_type s) stream_error
    else done_type s

-- where what it has besides its case lies in it
abbrev pub payload_in : Shape → ℕ
payload_in s = if has_code s then payload_place (done_type s ◂ error_code ◂ end)
    else if has_stream_error s then payload_place (done_type s ◂ stream_error ◂ end)
    else 1

-- == answers
-- a value of one of the interface's types
pub record Answer : Type 0 where
  pub wit : Wit
  pub value : Value wit

abbrev pub plain : (t : Wit) → Value t → Answer
plain t v = record { wit = t; value = v }

abbrev pub done : (t e : Wit) → Value t → Answer
done t e v = plain (outcome t e) (0, v)

abbrev pub failed : (t e : Wit) → Value e → Answer
failed t e v = plain (outcome t e) (1, v)

-- of a call that is done, by its fields; its list lies at this place
abbrev pub done_answer : Shape → List Field → ℕ → Answer
done_answer shape.Flat fields place = plain nothing tt
done_answer shape.Family fields place = plain nothing tt
done_answer shape.Unit fields place = done nothing error_code tt
done_answer shape.Truth fields place = done Truth error_code (nat_lt 0 (number_in fields 0))
done_answer shape.Byte fields place = done U8 error_code (number_in fields 0)
done_answer shape.Word fields place = done U32 error_code (number_in fields 0)
done_answer shape.Pair fields place = done pair error_code (number_in fields 0, (number_in fields 1, tt))
done_answer shape.Triple fields place = done triple error_code (words_in fields)
done_answer shape.Wide fields place = done U64 error_code (number_in fields 0)
done_answer shape.Address fields place = done ip_socket_address error_code (address_in fields)
done_answer shape.MaybeIp fields place = done (option ip_address) error_code (found_in fields)
done_answer shape.Datagrams fields place = done (AList incoming_datagram) error_code (place, datagrams_in fields place)
done_answer shape.StreamUnit fields place = done nothing stream_error tt
done_answer shape.StreamBytes fields place = done (AList U8) stream_error (place, bytes_in fields 0)
done_answer shape.StreamWide fields place = done U64 stream_error (number_in fields 0)
done_answer shape.Places fields place = plain (AList U32) (place, numbers_in fields)
done_answer shape.MaybeCode fields place = plain (option error_code) (0, tt)

abbrev pub code_answer : Shape → CodeWord → Option Answer
code_answer s code = if has_code s then Some (failed (done_type s) error_code (code_value code)) else None

abbrev pub stream_answer : Shape → Value stream_error → Option Answer
stream_answer s error = if has_stream_error s then Some (failed (done_type s) stream_error error) else None

-- closed, or the handle of what went wrong
abbrev pub stream_error_value : Option ℕ → Value stream_error
stream_error_value None = (1, tt)
stream_error_value (Some handle) = (0, handle)

-- the answer of a reply to a call of this shape: none where the reply is no result, or is one of another shape
abbrev pub answer_of : Shape → Reply → ℕ → Option Answer
answer_of s (reply.Ok fields) place = Some (done_answer s fields place)
answer_of s (reply.Err code) place = code_answer s code
answer_of s reply.Closed place = stream_answer s (stream_error_value None)
answer_of s (reply.Failed code handle) place = stream_answer s (stream_error_value (Some handle))
answer_of s _ place = None

-- the number that a call returns, of those that return one: of a family its case
abbrev pub returned : Shape → Reply → ℕ
returned shape.Flat (reply.Ok fields) = number_in fields 0
returned shape.Family (reply.Ok fields) = if number_in fields 0 == 6 then 1 else 0
returned _ _ = 0

-- == what is written
-- whether it gives a list
abbrev pub has_list : Shape → Bool
has_list shape.Datagrams = true
has_list shape.StreamBytes = true
has_list shape.Places = true
has_list _ = false

-- whether the list takes no more than so many bytes
abbrev pub has_room : Shape → List Field → ℕ → Bool
has_room shape.Datagrams fields room = (number_in fields 0 == 0) || nat_le (size incoming_datagram + length (data_in (drop 1 fields))) room
has_room shape.StreamBytes fields room = nat_le (length (bytes_in fields 0)) room
has_room shape.Places fields room = nat_le (length fields) (room / size U32)
has_room _ fields room = true

-- the same as a fact: a list of this shape that begins at a place ends within the memory
abbrev pub HasRoom : Shape → List Field → ℕ → List ℕ → Type 0
HasRoom shape.Datagrams fields place memory = ((number_in fields 0 == 0) ≡ true) ⊎ (place + (40 + length (data_in (drop 1 fields))) ≤ length memory)
HasRoom shape.StreamBytes fields place memory = place + length (bytes_in fields 0) ≤ length memory
HasRoom shape.Places fields place memory = place + 4 * length fields ≤ length memory
HasRoom _ fields place memory = Unit {0}

-- whether there is room within the memory for the list, and it is enough
abbrev pub list_fits : Shape → List Field → List ℕ → Lists → Bool
list_fits s fields memory lists = not (has_list s) || (nat_le (lists.place + lists.room) (length memory) && has_room s fields lists.room)

-- whether the result lies within the memory
abbrev pub result_fits : Shape → List ℕ → ℕ → Bool
result_fits s memory at = nat_le (at + size (result_type s)) (length memory)

-- whether all that there is to write is written
abbrev pub is_written : Shape → Reply → List ℕ → ℕ → Lists → Bool
is_written s (reply.Ok fields) memory at lists = list_fits s fields memory lists && result_fits s memory at
is_written s (reply.Err code) memory at lists = has_code s && result_fits s memory at
is_written s reply.Closed memory at lists = has_stream_error s && result_fits s memory at
is_written s (reply.Failed code handle) memory at lists = has_stream_error s && result_fits s memory at
is_written s _ memory at lists = true

-- a memory once an answer was stored at a place of it
abbrev pub with_answer : Option Answer → ℕ → List ℕ → List ℕ
with_answer None at memory = memory
with_answer (Some it) at memory = stored it.wit it.value at memory
