use Rattle.std.proofs.Common.{sym, subst}
use Rattle.std.proofs.Math.Logic.{∥∥₁_map}
use Rattle.wasi_embed.specs.HasDid.{state_of}
use Rattle.wasi_embed.specs.Stepped.{DidStep}
use Rattle.wasi_embed.proofs.Steps.{did_after, did_told}
use Rattle.wasi_embed.proofs.opened.Open.step.Goals as goal

pub invariant_of-self : goal.invariant_of-self
invariant_of-self c = record { did = ∥∥₁_map c.args.self.now.did (did_after c.args.self.now.kept c.step.new.self c.step.result c.args.step c.step.ensures.kind c.step.ensures.did) }

pub returns : goal.returns
returns c =
    let did = did_told c.args.self.now.kept c.step.new.self c.args.step c.step.result c.step.ensures.refused c.step.ensures.why c.step.ensures.over c.step.ensures.did c.step.ensures.contexts in
    subst (λ told. DidStep (state_of c.args.self.now.kept) (state_of c.step.new.self) c.args.step told) (sym c.told_of.ensures) did
