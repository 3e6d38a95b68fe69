-- The blocks of errors are the bytes of their values.
use Rattle.std.specs.Prelude.{ℕ, ◌≡◌, ◌+◌, List, take, Some, None, IfSome}
use Rattle.std.proofs.Common.{refl}
use Rattle.wasi_steps.specs.declared.reply.CodeWord.{CodeWord}
use Rattle.embed_flat.specs.declared.shape.Shape.{Shape}
use Rattle.embed_flat.specs.declared.shape.Shape.TheVariants as shape
use Rattle.embed_flat.specs.Abi.{bytes_of, size, padding}
use Rattle.embed_flat.specs.Answers.{Answer, code_answer, code_value, stream_answer, stream_error_value, payload_in}
use Rattle.embed_flat.specs.Memory.{put, low_bytes}

-- the block begins with the bytes of the answer
abbrev pub IsBlockOf : List ℕ → Answer → Type 0
IsBlockOf block it = take (size it.wit) block ≡ bytes_of it.wit it.value

pub code_bytes : (s : Shape) (code : CodeWord) → IfSome (code_answer s code) (IsBlockOf (put (put (padding 40) 0 (low_bytes 1 1)) (payload_in s) (low_bytes 1 (code_value code).0)))
code_bytes shape.Flat code = tt
code_bytes shape.Family code = tt
code_bytes shape.StreamUnit code = tt
code_bytes shape.StreamBytes code = tt
code_bytes shape.StreamWide code = tt
code_bytes shape.Places code = tt
code_bytes shape.MaybeCode code = tt
code_bytes shape.Unit code = refl
code_bytes shape.Truth code = refl
code_bytes shape.Byte code = refl
code_bytes shape.Word code = refl
code_bytes shape.Pair code = refl
code_bytes shape.Triple code = refl
code_bytes shape.Wide code = refl
code_bytes shape.Address code = refl
code_bytes shape.MaybeIp code = refl
code_bytes shape.Datagrams code = refl

pub failed_bytes : (s : Shape) (handle : ℕ) → IfSome (stream_answer s (stream_error_value (Some handle))) (IsBlockOf (put (put (padding 40) 0 (low_bytes 1 1)) (payload_in s + 4) (low_bytes 4 handle)))
failed_bytes shape.StreamUnit handle = refl
failed_bytes shape.StreamBytes handle = refl
failed_bytes shape.StreamWide handle = refl
failed_bytes _ handle = tt

pub closed_bytes : (s : Shape) → IfSome (stream_answer s (stream_error_value None)) (IsBlockOf (put (put (padding 40) 0 (low_bytes 1 1)) (payload_in s) (low_bytes 1 1)))
closed_bytes shape.StreamUnit = refl
closed_bytes shape.StreamBytes = refl
closed_bytes shape.StreamWide = refl
closed_bytes _ = tt
