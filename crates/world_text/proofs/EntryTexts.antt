-- The text of addresses, an address at a time.
use Rattle.std.proofs.Common.{◌≡◌, ℕ, ◌+◌, ◌≤◌, ◌<◌, List, [], ◌++◌, length, take, get_or, codes, ap, sym, ◌∙◌}
use Rattle.std.proofs.lemmas.List.{flat_map_more, take_more, take_all}
use Rattle.wasi_addr.specs.declared.address.IpAddress.{IpAddress}
use Rattle.world_text.specs.EntryText.{ip_text, ips_text}

-- one address more
pub ips_next : (addresses : List IpAddress) (i : ℕ) (d : IpAddress) → i < length addresses → ips_text (take i addresses) ++ (codes " " ++ ip_text (get_or addresses i d)) ≡ ips_text (take (i + 1) addresses)
ips_next addresses i d at =
    flat_map_more (λ a. codes " " ++ ip_text a) [] (take i addresses) (get_or addresses i d) ∙ ap ips_text (sym (take_more addresses i d at))

-- after the last
pub ips_whole : (addresses : List IpAddress) (i : ℕ) → length addresses ≤ i → ips_text (take i addresses) ≡ ips_text addresses
ips_whole addresses i past = ap ips_text (take_all i addresses past)
