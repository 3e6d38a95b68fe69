-- What an answer that fits is, once it is decoded.
use Rattle.std.proofs.Common.{ℕ}
use Rattle.wasi_world.specs.declared.call.Told.{Told}
use Rattle.wasi_world.specs.declared.call.Told.TheVariants.{Pending, Done, Yes, No, Code, Addr, Arrived, Bytes, Took, Datagram, Value, Names}
use Rattle.wasi_world.specs.Fits.{IsRead}
use Rattle.wasi_world.specs.Typed.{told_bytes, IsReadOf}

pub read_within : (size : ℕ) (told : Told) → IsRead size told → IsReadOf size (told_bytes told)
read_within size Pending h = tt
read_within size (Bytes bytes) h = h
read_within size (Code c) h = tt
read_within size Done h = tt
read_within size Yes h = tt
read_within size No h = tt
read_within size (Addr a) h = tt
read_within size (Arrived a) h = tt
read_within size (Took bytes) h = tt
read_within size (Datagram bytes a) h = tt
read_within size (Value v) h = tt
read_within size (Names names) h = tt
