-- The exclusive call where a UDP socket is closed, and where one that is closed is given back: it is of none of these.
use Rattle.std.specs.Prelude.{◌≡◌, ℕ, true, false, List, Some, refl}
use Rattle.std.proofs.Common.{ap, inl, inr, sym, ◌∙◌}
use Rattle.wasi_records.specs.declared.records.Record.{Record}
use Rattle.tcp_records.specs.declared.socket.TcpRecord.{TcpRecord}
use Rattle.udp_records.specs.declared.udp.OpenUdp.{OpenUdp}
use Rattle.udp_records.specs.declared.udp.UdpRecord.{UdpRecord}
use Rattle.wasi_records.specs.Numbered.{record_gone}
use Rattle.wasi_records.specs.Records.{tcp2_at, tcp2_of, udp2_at, udp2_of, udp2_put}
use Rattle.host_store.specs.declared.store.StandingCall.{StandingCall}
use Rattle.host_udp.specs.SocketDatagrams.{is_udp_held}
use Rattle.wasi_world.specs.declared.ids.OpId.{OpId}
use Rattle.wasi_walks.proofs.GoneLists.{stays_there}
use Rattle.wasi_walks.proofs.Places.{put_stays, put_still, tcp_sort, udp_sort}
use Rattle.wasi_walks.proofs.fits.DatagramFacts.{unheld_parts}
use Rattle.wasi_walks.proofs.fits.Datagrams.{CallHeld, IsHeldUdp}
use Rattle.wasi_walks.proofs.fits.Records.{FitCall}
use Rattle.wasi_walks.proofs.fits.UdpFits.{no_open, same_udp}
use Rattle.wasi_walks.proofs.walks.Moves.{FoundUdp, Here}

-- a UDP socket that is closed is given back, of which no call is
module _ (records : List Record) (place : ℕ) (side : OpId) (g : udp2_at records place ≡ Some (UdpRecord.Closed side)) where
  tcp_stays : (n : ℕ) (r : TcpRecord) → tcp2_at records n ≡ Some r → tcp2_at (record_gone records place) n ≡ Some r
  tcp_stays n r e = stays_there tcp2_of records place n r (λ same. absurd (let q : tcp2_of (Some (Record.Udp (UdpRecord.Closed side))) ≡ Some r = sym (ap tcp2_of (udp_sort.it _ (UdpRecord.Closed side) g)) ∙ (ap (tcp2_at records) (sym same) ∙ e) in cc)) e

  udp_stays : (n : ℕ) (u : UdpRecord) → (u ≡ UdpRecord.Closed side → ⊥) → udp2_at records n ≡ Some u → udp2_at (record_gone records place) n ≡ Some u
  udp_stays n u other e = stays_there udp2_of records place n u (λ same. other (same_udp u (UdpRecord.Closed side) (sym e ∙ (ap (udp2_at records) same ∙ g)))) e

  pub fewer_call : (call : StandingCall) → FitCall records call → FitCall (record_gone records place) call
  fewer_call (StandingCall.Bind n face) b = record { was = b.was; at = tcp_stays n b.was b.at; goes = b.goes }
  fewer_call (StandingCall.Listen n marks) b = record { was = b.was; at = tcp_stays n b.was b.at; goes = b.goes }
  fewer_call (StandingCall.UdpCreate n face) b = record { was = b.was; at = udp_stays n (UdpRecord.Creating b.was) (λ e. absurd (cc)) b.at }
  fewer_call (StandingCall.UdpBind n face) b = record { was = b.was; at = udp_stays n (UdpRecord.Open b.was) (λ e. absurd (cc)) b.at; op = b.op; goes = b.goes }
  fewer_call (StandingCall.UdpConnect n handle) b = record { was = b.was; at = udp_stays n (UdpRecord.Open b.was) (λ e. absurd (cc)) b.at; op = b.op; goes = b.goes }
  fewer_call (StandingCall.UdpConnect3 n) b = record { was = b.was; at = udp_stays n (UdpRecord.Open b.was) (λ e. absurd (cc)) b.at; op = b.op; goes = b.goes }
  fewer_call (StandingCall.DropOutput n) b = tt
  fewer_call (StandingCall.DropOutgoing n) b = tt
  fewer_call (StandingCall.Blocking call) b = tt

-- a UDP socket is closed that nothing holds, so that no exclusive call is on it
module _ (h : Here) (place : ℕ) (o : OpenUdp) (g : FoundUdp h place (UdpRecord.Open o)) (free : is_udp_held h.machine.store place ≡ false) where
  pub closed_call : (call : StandingCall) → CallHeld h.machine.store.records call → FitCall h.machine.store.records call → FitCall (udp2_put h.machine.store.records place (UdpRecord.Closed o.inner.side)) call
  closed_call call k b = by_call call k b
    where
      records : List Record
      records = h.machine.store.records

      now : UdpRecord
      now = UdpRecord.Closed o.inner.side

      lost : o.dropped ≡ false → ⊥
      lost f = absurd (let q : o.dropped ≡ true = (unheld_parts h place o g free).0 in cc)

      open_stays : (n : ℕ) (x : OpenUdp) → IsHeldUdp records n → udp2_at records n ≡ Some (UdpRecord.Open x) → udp2_at (udp2_put records place now) n ≡ Some (UdpRecord.Open x)
      open_stays n x held e = elim (put_stays udp_sort records place now n (UdpRecord.Open x) e) [ inl p ↦ p | inr p ↦ absurd (lost (held o (ap (udp2_at records) p.0 ∙ g))) ]

      by_call : (call : StandingCall) → CallHeld records call → FitCall records call → FitCall (udp2_put records place now) call
      by_call (StandingCall.Bind n face) k b = record { was = b.was; at = put_still udp_sort tcp_sort (λ t. refl) records place (UdpRecord.Open o) now n b.was g b.at; goes = b.goes }
      by_call (StandingCall.Listen n marks) k b = record { was = b.was; at = put_still udp_sort tcp_sort (λ t. refl) records place (UdpRecord.Open o) now n b.was g b.at; goes = b.goes }
      by_call (StandingCall.UdpCreate n face) k b = elim (put_stays udp_sort records place now n (UdpRecord.Creating b.was) b.at) [
        | inl p ↦ record { was = b.was; at = p }
        | inr p ↦ absurd (no_open b.was o (same_udp (UdpRecord.Creating b.was) (UdpRecord.Open o) (sym b.at ∙ (ap (udp2_at records) p.0 ∙ g))))
      ]
      by_call (StandingCall.UdpBind n face) k b = record { was = b.was; at = open_stays n b.was k b.at; op = b.op; goes = b.goes }
      by_call (StandingCall.UdpConnect n handle) k b = record { was = b.was; at = open_stays n b.was k b.at; op = b.op; goes = b.goes }
      by_call (StandingCall.UdpConnect3 n) k b = record { was = b.was; at = open_stays n b.was k b.at; op = b.op; goes = b.goes }
      by_call (StandingCall.DropOutput n) k b = tt
      by_call (StandingCall.DropOutgoing n) k b = tt
      by_call (StandingCall.Blocking call) k b = tt
