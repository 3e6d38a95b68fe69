use Rattle.wasi_causes.proofs.marks.handles_that_are_given_are_marked.Goals as goal
use Rattle.wasi_causes.proofs.sockets.NewHandles.{accept_gives, create_gives, finish_gives}

pub returns : goal.returns
returns c = record {
  created = λ contexts m line ctx family fields entries after a. create_gives contexts m line ctx family entries fields after a;
  connected = λ contexts m line ctx socket fields entries after a. finish_gives contexts m line ctx socket entries fields after a;
  accepted = λ contexts m line ctx listener fields entries after a. accept_gives contexts m line ctx listener entries fields after a;
}
