use Rattle.wasi_world.proofs.Walks.{asks_ok}
use Rattle.host_store.specs.declared.kind.Kind.TheVariants.{Tcp3}
use Rattle.host_store.specs.Views.{state_of}
use Rattle.host_tcp.proofs.TcpHandles.{asks_made}
use Rattle.wasi_p3.specs.Tcp.{code_told, handle_told}
use Rattle.wasi_p3.proofs.Called.{create_refused, fault_told}
use Rattle.wasi_p3.proofs.tcp.create.Goals as goal

pub returns-in_err-place-clause-asked : goal.returns-in_err-place-clause-asked
returns-in_err-place-clause-asked g c =
    create_refused (state_of c.args.view.now) _ c.args.view.now.ctx.now c.args.family c.make_tcp.result _
    c.from_residual.result c.from_residual.ensures.1 c.in_err-place.ensures.told
    (rw c.own-own.ensures at c.make_tcp.ensures.made)

pub returns-in_err-handle-clause-asked : goal.returns-in_err-handle-clause-asked
returns-in_err-handle-clause-asked g c =
    fault_told _ c.from_residual-in_err-handle.result c.from_residual-in_err-handle.ensures.1
    (asks_made handle_told code_told Tcp3 (state_of c.args.view.now) _ c.args.view.now.ctx.now c.args.family
    (rw (c.own-own.ensures, c.in_ok-place.ensures.ok) at c.make_tcp.ensures.made) c.side-side.ensures
    (rw c.own-own.ensures at c.in_err-handle.ensures.asked))

pub returns-clause-asked : goal.returns-clause-asked
returns-clause-asked g c =
    asks_ok (asks_made handle_told code_told Tcp3 (state_of c.args.view.now) _ c.args.view.now.ctx.now c.args.family
    (rw (c.own-own.ensures, c.in_ok-place.ensures.ok) at c.make_tcp.ensures.made) c.side-side.ensures
    (rw c.own-own.ensures at c.in_ok-handle.ensures.asked)).ok
