use Rattle.std.proofs.Common.{ℕ}
use Rattle.wasi_addr.specs.declared.address.SocketAddressFamily.{SocketAddressFamily}
use Rattle.wasi_walks.specs.Licence.{IsMaker}
use Rattle.log_picture.proofs.yes.maker_of.Given as goal

-- whoever made the network socket that is looked for now made the one that was asked about
abbrev pub invariant-loop-place : goal.invariant-loop-place
invariant-loop-place l = (ctx : ℕ) → (family : SocketAddressFamily) → IsMaker l.log ctx family l.side → IsMaker l.log ctx family l.fn.side
