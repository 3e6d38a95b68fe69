use Rattle.wasi_causes.proofs.datagrams.sends_are_refused_by_their_line.Goals as goal
use Rattle.wasi_causes.proofs.udp_streams.SendRefusals.{refused_by_line, send_refusals}

pub returns : goal.returns
returns c = record {
  refused = λ contexts m line ctx outgoing place o out d more c entries reply after free names at has none few cannot w. refused_by_line contexts m line ctx outgoing place o out d more c cannot free names at has none few entries reply after w;
  only = λ contexts m line ctx outgoing datagrams entries word after w. send_refusals contexts m line ctx outgoing datagrams entries word after w;
}
