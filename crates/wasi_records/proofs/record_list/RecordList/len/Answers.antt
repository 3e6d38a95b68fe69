use Rattle.std.proofs.Common.{sym}
use Rattle.wasi_records.proofs.RecordMaps.{length_numbered}
use Rattle.wasi_records.proofs.record_list.RecordList.len.Goals as goal

pub returns : goal.returns
returns c = rw (← c.self.view_is) (sym (length_numbered _ _))
