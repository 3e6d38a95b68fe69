use Rattle.std.proofs.Common.{refl, ◌∙◌}
use Rattle.std.proofs.lemmas.Bool.{false≢true}
use Rattle.world_text.specs.Fields.{read_then, give}
use Rattle.wasi_steps.proofs.DatagramLaws.{remote_at_none, remote_at_some}
use Rattle.wasi_steps.proofs.datagram.remote.Goals as goal

pub returns-then-is_done : goal.returns-then-is_done
returns-then-is_done c = let end = c.if-is_done.ensures.0 refl in rw end (remote_at_none _ refl)

pub returns-in_err-socket_address : goal.returns-in_err-socket_address
unfolding read_then give
returns-in_err-socket_address c =
    rw c.from_residual.ensures (remote_at_some c.args.fields.now (λ e. false≢true (c.if-is_done.ensures.1 e)) ∙ rw c.in_err-socket_address.ensures.read refl)

pub returns : goal.returns
unfolding read_then give
returns c = remote_at_some c.args.fields.now (λ e. false≢true (c.if-is_done.ensures.1 e)) ∙ rw c.in_ok-socket_address.ensures.read refl
