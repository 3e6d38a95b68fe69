use Rattle.std.proofs.Common.{refl}
use Rattle.wasi_streams.proofs.Streams.{stream_none}
use Rattle.wasi_streams.proofs.stream.OutputStream.write_zeroes.Goals as goal

pub returns-in_err-bytes : goal.returns-in_err-bytes
returns-in_err-bytes g c = record { asked = stream_none c.from_residual.result c.from_residual.ensures.1 refl }
