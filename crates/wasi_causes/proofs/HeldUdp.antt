-- A UDP socket of 0.3 is let go by what held it.
use Rattle.wasi_causes.proofs.Words.{◌≡◌, ◌∷◌, ℕ, Bool, true, false, [], Option, Some, Machine, OpId, bind, entry, refl, subst, sym}
use Rattle.wasi_world.specs.declared.call.Call.TheVariants as call
use Rattle.wasi_world.specs.declared.call.Told.TheVariants as told
use Rattle.wasi_records.specs.declared.records.Record.{Record}
use Rattle.udp_records.specs.declared.udp.OpenUdp.{OpenUdp}
use Rattle.udp_records.specs.declared.udp.UdpRecord.{UdpRecord}
use Rattle.udp_records.specs.declared.udp.UdpRecord.TheVariants as udp
use Rattle.record_common.specs.Names.{own_of}
use Rattle.wasi_records.specs.Records.{open_at, udp2_at}
use Rattle.host_udp.specs.SocketDatagrams.{drop_datagram, is_udp_held, udp_goes}
use Rattle.host_udp.specs.UdpCalls.{release_udp_at}
use Rattle.wasi_walks.proofs.walks.Udp.{open_is}
use Rattle.wasi_walks.specs.Waiting.{call_over}
use Rattle.wasi_causes.proofs.GivenBack.{put_gone}
use Rattle.wasi_causes.proofs.tables.Meets.{Meets, asks, ends, told_so, widen}
use Rattle.wasi_causes.specs.GivenUp.{giving_back}
use Rattle.wasi_causes.specs.P3Datagrams.{DatagramOver, IsHeldNoMore, IsStillHeld}

-- nothing holds it: its network socket is closed, and nothing is left of its record
pub closes : (m : Machine) (own : OpId) (place : ℕ) (o : OpenUdp) → udp2_at m.store.records place ≡ Some (udp.Open o)
    → Meets (λ es done. (es ≡ entry own (call.Close o.inner.side) told.Done ∷ []) × (record m { store = done.1 } ≡ giving_back m place)) [] (release_udp_at m.store own place (udp2_at m.store.records place))
unfolding bind
closes m own place o at =
    subst (λ (x : Option UdpRecord). Meets (λ es done. (es ≡ entry own (call.Close o.inner.side) told.Done ∷ []) × (record m { store = done.1 } ≡ giving_back m place)) [] (release_udp_at m.store own place x)) (sym at)
    (asks (λ t fits. ends (told_so own [] (call.Close o.inner.side) t fits, put_gone m place (Record.Udp (udp.Closed o.inner.side)))))

-- a datagram in progress is over
module _ (m : Machine) (n place : ℕ) (o : OpenUdp) (at : open_at m.store.records place ≡ Some o) where
  by_held : (held : Bool) → is_udp_held (call_over m n).store place ≡ held → Meets (λ es done. DatagramOver m n place o es (record m { store = done.1 })) [] (udp_goes (own_of n) place (call_over m n).store held)
  by_held true e = ends (IsStillHeld e)
  by_held false e = widen (λ es done k. rw (k.0, k.1) (IsHeldNoMore e)) (closes (call_over m n) (own_of n) place o (open_is (udp2_at m.store.records place) o at))

  pub datagram_over : Meets (λ es done. DatagramOver m n place o es (record m { store = done.1 })) [] (drop_datagram n place m.store)
  datagram_over = by_held (is_udp_held (call_over m n).store place) refl
