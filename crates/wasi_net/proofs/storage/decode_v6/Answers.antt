use Rattle.std.proofs.Common.{sym, subst, ap, ◌∙◌, arith}
use Rattle.std.specs.Net.Addr.{segments_of, HasPrefix}
use Rattle.std.specs.Net.SockAddr.{sockaddr}
use Rattle.std.proofs.lemmas.Int.{ints}
use Rattle.std.proofs.NetLemmas.SockAddrs.{HasPrefix-sockaddr_in6}
use Rattle.wasi_net.proofs.storage.decode_v6.Goals as goal

pub returns : goal.returns
returns c =
    let made = c.new.ensures in
    subst (λ a. HasPrefix c.args.raw.now (sockaddr a)) (sym c.from_std.ensures.given_back)
    (HasPrefix-sockaddr_in6 c.args.raw.now _ (omega arith) c.fits-raw (omega (arith, ints))
    (made.port ∙ c.from_be_bytes-port.ensures)
    (made.flowinfo ∙ c.from_ne_bytes-flow_info.ensures)
    (ap (λ ip. ip.segments) made.ip ∙ c.from_octets-ip.ensures ∙ ap segments_of c.copy_from_slice.ensures.after)
    (made.scope_id ∙ c.from_ne_bytes-scope_id.ensures))
