-- The connect of datagram streams that is done: what it asked and what it gave.
use Rattle.std.specs.Prelude.{suc}
use Rattle.wasi_causes.proofs.Words.{Asks, Check, Done, End, Entry, Given, IpSocketAddress, IsDoneOrCode, IsVerdict, Item, List, OpId, Told, UdpConnect, Who, [], after, bind, entry}
use Rattle.wasi_causes.proofs.Words.{poll_asks, polls, refl, round, told_addr, told_done, told_verdict, verdict_front, ℕ, ⊤, ◌∷◌, ◌≡◌}
use Rattle.wasi_addr.specs.declared.address.SocketAddrUse.TheVariants as usages
use Rattle.wasi_world.specs.Operation.{Remote, peer_front, remote_told}
use Rattle.wasi_world.specs.declared.call.Call.TheVariants as call
use Rattle.wasi_world.specs.declared.call.Told.TheVariants as told
use Rattle.udp_records.specs.declared.udp.OpenUdp.{OpenUdp}
use Rattle.wasi_causes.proofs.tables.Meets.{Meets, Rows, asks, ends}
use Rattle.wasi_causes.specs.StreamCauses.{connect_entries, its_connect, peer_entry}

module _ (own : OpId) (o : OpenUdp) (a : IpSocketAddress) where
  -- it asked all that it asks, and gave the remote address that was reported
  pub record Connected (es : List Entry) (given : Given) : Type 0 where
    pub peer : Told
    pub asked : es ≡ connect_entries own o a peer
    pub gives : given ≡ Remote (remote_told o.inner.family (told_addr peer))

  abbrev pub ConnectedRow : Rows (End × List Item)
  ConnectedRow es (Done given, items) = Connected es given
  ConnectedRow es _ = ⊤

  -- who asks
  abbrev who : Who
  who = (its_connect own o a).who

  -- what is left after the first check, and after both
  abbrev last : List Item
  last = UdpConnect o.inner.family a ∷ []

  abbrev rest : List Item
  rest = Check a usages.UdpReceive ∷ last

  abbrev check : Told → Entry
  check t = entry own (call.Check o.inner.maker a usages.UdpSend) t

  abbrev second : Told → Entry
  second t = entry own (call.Check o.inner.maker a usages.UdpReceive) t

  module _ (again : List Item → Asks (End × List Item)) where
    -- the connect was answered, and the remote address was asked for
    answered : (t peer : Told) → IsDoneOrCode t
        → Meets ConnectedRow (check told.Yes ∷ second told.Yes ∷ entry own (call.UdpConnect o.inner.side a) t ∷ peer_entry own o peer ∷ []) (after again who [] (λ g. round again who g []) (peer_front (told_done t) (remote_told o.inner.family (told_addr peer))))
    answered told.Done peer fits = ends (record { peer = peer; asked = refl; gives = refl })
    answered (told.Code c) peer fits = ends tt
    answered _ peer fits = absurd fits

    -- the second check was
    checked : (t : Told) → IsVerdict t → Meets ConnectedRow (check told.Yes ∷ second t ∷ []) (after again who last (λ g. round again who g last) (verdict_front (Check a usages.UdpReceive) (told_verdict t)))
    unfolding bind
    checked told.Yes fits = asks (λ t fits. asks (λ u more. answered t u fits))
    checked told.No fits = ends tt
    checked told.Pending fits = ends tt
    checked _ fits = absurd fits

    -- the first was
    begins : (t : Told) → IsVerdict t → Meets ConnectedRow (check t ∷ []) (after again who rest (λ g. round again who g rest) (verdict_front (Check a usages.UdpSend) (told_verdict t)))
    unfolding bind
    begins told.Yes fits = asks (λ t fits. checked t fits)
    begins told.No fits = ends tt
    begins told.Pending fits = ends tt
    begins _ fits = absurd fits

  -- a poll is one round
  rounds : (n : ℕ) → Meets ConnectedRow [] (polls (suc n) who (its_connect own o a).left)
  unfolding polls bind
  rounds n = asks (λ t fits. begins (polls n who) t fits)

  pub connects_so : Meets ConnectedRow [] (poll_asks (its_connect own o a))
  connects_so = rounds 63
