use Rattle.std.proofs.Common.{sym}
use Rattle.wasi_names.proofs.Readings.{text_is, no_text_is}
use Rattle.wasi_names.proofs.name.read_name_bytes.Goals as goal

pub returns-in-Ok : goal.returns-in-Ok
returns-in-Ok c = rw (text_is c.args.name.now c.in-Ok.name.now c.in-Ok.ensures.cases.0 c.in-Ok.ensures.cases.1) c.read_name.ensures

pub returns-in-Err : goal.returns-in-Err
returns-in-Err c = sym (no_text_is c.args.name.now c.in-Err.ensures.cases.0)
