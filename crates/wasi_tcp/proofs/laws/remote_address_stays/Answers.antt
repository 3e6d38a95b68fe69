use Rattle.wasi_tcp.proofs.RemoteAddresses.{peer_told, peer_stays, peer_answered}
use Rattle.wasi_tcp.proofs.laws.remote_address_stays.Goals as goal

pub returns : goal.returns
returns c = record { told = peer_told; stays = peer_stays; answered = peer_answered }
