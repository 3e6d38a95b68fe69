use Rattle.std.proofs.Common.{◌≡◌, ◌∙◌, ap, subst, min, take, drop, length}
use Rattle.wasi_spawn.specs.Handles.{started_with}
use Rattle.wasi_reader.specs.Stream.{ReadStream, IsCut}
use Rattle.wasi_reader.proofs.Handed.{stream_of, owned_cut, is_cut}
use Rattle.wasi_reader.proofs.stream.AsyncReadStream.cut.Goals as goal

pub invariant_of-self-2 : goal.invariant_of-self-2
invariant_of-self-2 g c = owned_cut _ _ _ _ _ _ _ _ c.self.invariant c.in_ok-split_to.ensures.front c.in_ok-split_to.ensures.rest

pub returns-clause-ok : goal.returns-clause-ok
returns-clause-ok g c = let began = g.S.Source.reading (started_with c.self.inside.handle).source in
    let F : ReadStream → Type 0 = λ s. IsCut s c.args.size c.in_ok-split_to.field-0 (stream_of began c.self.inside.pop c.self.inside.keys c.split_to.new.self c.self.inside.closed) in
    let count : c.min-count.result ≡ min c.args.size (length c.self.inside.rest) = c.min-count.ensures ∙ ap (λ n. min c.args.size n) c.len.ensures.value in
    subst F c.self.view_is (is_cut _ _ _ _ _ began c.args.size _ _ c.self.invariant
    (c.in_ok-split_to.ensures.front ∙ ap (λ n. take n c.self.inside.rest) count)
    (c.in_ok-split_to.ensures.rest ∙ ap (λ n. drop n c.self.inside.rest) count))
