-- The types of records as the logic holds them, for the clauses on what a `&mut` lends.
use denote.RattleType.{RattleType}
use Rattle.wasi_records.specs.contracts.records.Record as rec
use Rattle.wasi_records.specs.contracts.record_list.RecordList as numbered

abbrev pub record_row : RattleType
record_row = rec.the_row

abbrev pub records_row : RattleType
records_row = numbered.the_row
