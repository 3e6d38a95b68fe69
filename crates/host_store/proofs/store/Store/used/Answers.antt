use Rattle.std.proofs.Common.{min, ap, ◌∙◌}
use Rattle.wasi_records.specs.Used.{used}
use Rattle.host_store.specs.Store.{Records}
use Rattle.host_store.proofs.store.Store.used.Goals as goal

pub returns : goal.returns
returns c = c.used.ensures ∙ ap (λ (s : Records). min (used c.args.ctx s.records) 18446744073709551615) c.self.view_is
