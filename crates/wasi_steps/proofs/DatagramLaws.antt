-- The arguments of the steps of datagrams are read exactly, and written in visible characters.
use Rattle.std.proofs.Common.{◌≡◌, ℕ, ◌<◌, List, [], ◌∷◌, ◌++◌, length, Option, Some, None, refl, ap, ◌∙◌, arith, append-nil, ◌+◌}
use Rattle.std.proofs.lemmas.List.{length-append}
use Rattle.wasi_addr.specs.declared.address.IpSocketAddress.{IpSocketAddress}
use Rattle.wasi_addr.specs.declared.address.IpSocketAddress.TheVariants as socket
use Rattle.wasi_world.specs.declared.datagram.OutgoingDatagram.{OutgoingDatagram}
use Rattle.world_text.specs.Written.{ReadsExactly, AreVisible, address_fields}
use Rattle.world_text.proofs.UpTo.{before}
use Rattle.world_text.proofs.ReadBack.{word_exactly, address_exactly, bytes_exactly}
use Rattle.world_text.proofs.Visible.{visible_utf8, address_visible, bytes_visible}
use Rattle.world_text.proofs.Exactly.{All, exactly, all_give, only_give, all_then, only_then, all_last, only_last, same_found}
use Rattle.world_text.proofs.Words.{only_word}
use Rattle.wasi_steps.specs.Datagrams.{remote_fields, FitsRemote, some_address_at, remote_at, destination_fields, destination_words, destination_at, datagram_fields, FitsDatagram, datagram_at, datagrams_fields, FitsDatagrams, datagrams_at}
use Rattle.wasi_steps.proofs.LineEnds.{IsWrittenSo, ReadsLast, both_visible}
use Rattle.wasi_steps.proofs.UpTo.{shrinks, up_to_next, up_to_none, up_to_all, up_to_is}

-- == an address, or none
-- an address begins with a field
address_begins : (a : IpSocketAddress) (fields : List (List ℕ)) → remote_at (remote_fields (Some a) ++ fields) ≡ some_address_at (remote_fields (Some a) ++ fields)
unfolding remote_at
address_begins (socket.Ipv4 a) fields = refl
address_begins (socket.Ipv6 a) fields = refl

some_address_all : (a : IpSocketAddress) → FitsRemote (Some a) → All some_address_at (Some a) (remote_fields (Some a))
some_address_all a fits = all_last _ address_exactly fits all_give

pub remote_at_some : (fields : List (List ℕ)) → (fields ≡ [] → ⊥) → remote_at fields ≡ some_address_at fields
unfolding remote_at
remote_at_some [] some = absurd (some refl)
remote_at_some (field ∷ fields) some = refl

pub remote_at_none : (fields : List (List ℕ)) → fields ≡ [] → remote_at fields ≡ Some (None, [])
unfolding remote_at
remote_at_none [] none = refl
remote_at_none (field ∷ fields) none = cc

remote_only : IsWrittenSo remote_at remote_fields FitsRemote
unfolding remote_at
remote_only remote [] rest h =
    let same = same_found None remote [] rest h in
    (rw (← same.0) tt, rw (← same.0) same.1)
remote_only remote (field ∷ fields) rest h =
    let is = (only_last Some {Q = λ taken r. FitsRemote r × (taken ≡ remote_fields r)} address_exactly (λ a fits. (fits, refl))).holds remote (field ∷ fields) rest h in
    (is.2.0, is.1 ∙ ap (λ taken. taken ++ rest) is.2.1)

remote_all : (remote : Option IpSocketAddress) → FitsRemote remote → remote_at (remote_fields remote) ≡ Some (remote, [])
unfolding remote_at
remote_all None fits = refl
remote_all (Some a) fits = rw append-nil at (address_begins a [] ∙ (some_address_all a fits).given [])

pub remote_last : ReadsLast remote_at remote_fields FitsRemote
remote_last = record { only = remote_only; all = remote_all }

-- == datagrams
destination_all : (remote : Option IpSocketAddress) → FitsRemote remote → All destination_at remote (destination_fields remote)
unfolding destination_at
destination_all None fits = all_last _ word_exactly (visible_utf8 _ refl) all_give
destination_all (Some a) fits = all_then _ word_exactly (visible_utf8 _ refl) (some_address_all a fits)

destination_exactly : ReadsExactly destination_at destination_fields FitsRemote
unfolding destination_at
destination_exactly = exactly
    (only_then _ word_exactly (λ word utf8. only_word (λ word taken r. FitsRemote r × (word ∷ taken ≡ destination_fields r)) destination_words word
    (only_last Some address_exactly (λ a fits. (fits, refl)), (only_give None (tt, refl), tt))))
    destination_all

pub datagram_exactly : ReadsExactly datagram_at datagram_fields FitsDatagram
unfolding datagram_at
datagram_exactly = exactly
    (only_then _ destination_exactly (λ remote fits. only_then _ bytes_exactly (λ bytes are. only_give _ ((fits, are), refl))))
    (λ d fits. all_then _ destination_exactly fits.0 (all_last _ bytes_exactly fits.1 all_give))

-- a datagram has a field at least
some_more : (remote : Option IpSocketAddress) (last rest : List (List ℕ)) → length rest < length ((destination_fields remote ++ last) ++ rest)
some_more None last rest = let more : length (last ++ rest) ≡ length last + length rest = length-append last rest in omega arith
some_more (Some a) last rest = let more : length ((address_fields a ++ last) ++ rest) ≡ length (address_fields a ++ last) + length rest = length-append (address_fields a ++ last) rest in omega arith

some_fields : (d : OutgoingDatagram) (rest : List (List ℕ)) → length rest < length (datagram_fields d ++ rest)
some_fields d rest = some_more d.remote_address _ rest

pub datagrams_last : ReadsLast datagrams_at datagrams_fields FitsDatagrams
datagrams_last = record {
  only = up_to_is datagram_at datagram_fields FitsDatagram datagram_exactly some_fields;
  all = up_to_all datagram_at datagram_fields FitsDatagram datagram_exactly some_fields;
}

-- datagrams up to the end of the line, of which these were read
pub datagrams_next : (first fields rest : List (List ℕ)) (ds : List OutgoingDatagram) (d : OutgoingDatagram) → datagrams_at first ≡ before ds (datagrams_at fields) → datagram_at fields ≡ Some (d, rest) → datagrams_at first ≡ before (ds ++ d ∷ []) (datagrams_at rest)
datagrams_next = up_to_next datagram_at datagram_fields FitsDatagram datagram_exactly some_fields

pub datagrams_none : (first fields : List (List ℕ)) (ds : List OutgoingDatagram) → datagrams_at first ≡ before ds (datagrams_at fields) → (fields ≡ [] → ⊥) → datagram_at fields ≡ None → datagrams_at first ≡ None
datagrams_none = up_to_none datagram_at datagram_fields FitsDatagram datagram_exactly some_fields

pub datagrams_fewer : (d : OutgoingDatagram) (fields rest : List (List ℕ)) → datagram_at fields ≡ Some (d, rest) → length rest < length fields
datagrams_fewer = shrinks datagram_at datagram_fields FitsDatagram datagram_exactly some_fields

-- == visible characters
pub remote_visible : (remote : Option IpSocketAddress) → FitsRemote remote → AreVisible (remote_fields remote)
remote_visible None fits = tt
remote_visible (Some a) fits = address_visible a fits

destination_visible : (remote : Option IpSocketAddress) → FitsRemote remote → AreVisible (destination_fields remote)
destination_visible None fits = (refl, tt)
destination_visible (Some a) fits = (refl, address_visible a fits)

pub datagram_visible : (d : OutgoingDatagram) → FitsDatagram d → AreVisible (datagram_fields d)
datagram_visible d fits = both_visible (destination_fields d.remote_address) _ (destination_visible d.remote_address fits.0) (bytes_visible d.bytes fits.1)

pub datagrams_visible : (ds : List OutgoingDatagram) → FitsDatagrams ds → AreVisible (datagrams_fields ds)
datagrams_visible [] fits = tt
datagrams_visible (d ∷ ds) fits =
    both_visible (datagram_fields d) (datagrams_fields ds) (datagram_visible d fits.0) (datagrams_visible ds fits.1)
