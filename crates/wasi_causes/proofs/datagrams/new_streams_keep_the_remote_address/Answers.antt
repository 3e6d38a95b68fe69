use Rattle.wasi_causes.proofs.datagrams.new_streams_keep_the_remote_address.Goals as goal
use Rattle.wasi_causes.proofs.udp_streams.Kept.{streams_keep}

pub returns : goal.returns
returns c = record { kept = λ contexts m line ctx handle remote fields entries after w. streams_keep contexts m line ctx handle remote fields entries after w }
