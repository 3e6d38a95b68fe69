use Rattle.std.proofs.Common.{◌≡◌, ◌==◌, length, Some, slice_get, refl}
use Rattle.std.proofs.lemmas.Option.{slice_get_read}
use Rattle.host_store.specs.declared.beside.Beside.{Beside}
use Rattle.host_store.proofs.BesidePlaces.{found_at}
use Rattle.host_store.proofs.beside.BesideList.replace.Goals as goal

pub returns-in_default-clause-before : goal.returns-in_default-clause-before
returns-in_default-clause-before c = rw (← found_at (λ (b : Beside). b.line == c.args.line) c.args.self.now, ← c.place_of.ensures.found, c.in_default.is) refl

pub returns-clause-before : goal.returns-clause-before
returns-clause-before c =
    let its : slice_get c.args.self.now c.in-Some.place ≡ Some c.replace-before.result = slice_get_read c.args.self.now (length c.args.self.now) c.in-Some.place c.replace-before.result refl (rw c.in-Some.is at c.place_of.ensures.bound) (rw (c.replace-before.ensures.value, ← c.self.view_is) c.index_mut.ensures.value) in
    rw (← found_at (λ (b : Beside). b.line == c.args.line) c.args.self.now, ← c.place_of.ensures.found, c.in-Some.is, its) refl
