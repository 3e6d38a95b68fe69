-- A small log: of two datagrams the first was refused, so the second alone may be handed out, at its own place.
use Rattle.wasi_walks.proofs.Words.{ap, Call, Entry, IpSocketAddress, List, OpId, SocketAddressFamily, Told, [], arith, entry, inl, refl, ℕ, ◌++◌, ◌∷◌, ◌≡◌}
use Rattle.wasi_addr.specs.declared.address.SocketAddrUse.TheVariants.{UdpReceive}
use Rattle.wasi_world.specs.declared.datagram.IncomingDatagram.{IncomingDatagram}
use Rattle.wasi_walks.specs.Licence.{UdpCreated}
use Rattle.wasi_walks.specs.Received.{InOrder, IsAllowed, ReceivesNone, NoMore, OneMore}

module _ (family : SocketAddressFamily) (a b : IpSocketAddress) where
  abbrev pub made : OpId
  made = record { step = 1; part = 0 }

  abbrev pub line : OpId
  line = record { step = 4; part = 1 }

  abbrev pub refused : List Entry
  refused = entry made (Call.UdpCreate 7 family) Told.Done ∷ entry line (Call.Recv made) (Told.Datagram (1 ∷ []) a) ∷ entry line (Call.Check 7 a UdpReceive) Told.No ∷ []

  abbrev pub log : List Entry
  log = refused ++ entry line (Call.Recv made) (Told.Datagram (2 ∷ []) b) ∷ entry line (Call.Check 7 b UdpReceive) Told.Yes ∷ []

  abbrev pub second : IncomingDatagram
  second = record { bytes = 2 ∷ []; remote_address = b }

  -- it is handed out from the beginning on, up to the place past its yes
  pub handed : InOrder log made 0 (second ∷ []) 5
  handed = OneMore 0 5 5 second [] (record { op = line; ctx = 7; family = family; maker = UdpCreated made Told.Done (inl refl); front = refused; between = []; back = []; cut = refl; alone = tt; late = omega arith; past = omega arith }) (NoMore 5)

  abbrev pub first : IncomingDatagram
  first = record { bytes = 1 ∷ []; remote_address = a }

  -- it is told, and a yes about its sender
  abbrev told : OpId → Entry
  told op = entry op (Call.Recv made) (Told.Datagram (1 ∷ []) a)

  abbrev yes_of : OpId → ℕ → Entry
  yes_of op ctx = entry op (Call.Check ctx a UdpReceive) Told.Yes

  -- the first one isn't, even where both are from one sender: another one was asked for before the yes
  pub not_first : (upto : ℕ) → IsAllowed log made 0 upto first → ⊥
  not_first upto k = by_front k.front k.between k.cut k.alone
    where
      -- entries with different answers are different
      answers : (x y : Entry) → x ≡ y → x.answer ≡ y.answer
      answers x y e = ap (λ (z : Entry). z.answer) e

      heads : (x y : Entry) (xs ys : List Entry) → x ∷ xs ≡ y ∷ ys → x.answer ≡ y.answer
      heads x y xs ys e = answers x y (cc)

      tails : (x y : Entry) (xs ys : List Entry) → x ∷ xs ≡ y ∷ ys → xs ≡ ys
      tails x y xs ys e = cc

      by_front : (before between : List Entry) → log ≡ before ++ told k.op ∷ (between ++ yes_of k.op k.ctx ∷ k.back) → ReceivesNone made between → ⊥
      by_front [] between c n = let p : Told.Done ≡ Told.Datagram (1 ∷ []) a = heads _ _ _ _ c in absurd (cc)
      by_front (x ∷ []) [] c n = let p : Told.No ≡ Told.Yes = heads _ _ _ _ (tails _ _ _ _ (tails _ _ _ _ c)) in absurd (cc)
      by_front (x ∷ []) (y ∷ []) c n = let p : Told.Datagram (2 ∷ []) b ≡ Told.Yes = heads _ _ _ _ (tails _ _ _ _ (tails _ _ _ _ (tails _ _ _ _ c))) in absurd (cc)
      by_front (x ∷ []) (y ∷ z ∷ zs) c n = n.1.0 (calls z _ _ (tails _ _ _ _ (tails _ _ _ _ (tails _ _ _ _ c))))
        where
          calls : (z : Entry) (xs ys : List Entry) → entry line (Call.Recv made) (Told.Datagram (2 ∷ []) b) ∷ xs ≡ z ∷ ys → z.call ≡ Call.Recv made
          calls z xs ys e = let p : z ≡ entry line (Call.Recv made) (Told.Datagram (2 ∷ []) b) = cc in ap (λ (w : Entry). w.call) p
      by_front (x ∷ y ∷ []) between c n = let p : Told.No ≡ Told.Datagram (1 ∷ []) a = heads _ _ _ _ (tails _ _ _ _ (tails _ _ _ _ c)) in absurd (cc)
      by_front (x ∷ y ∷ z ∷ []) between c n = let p : Told.Datagram (2 ∷ []) b ≡ Told.Datagram (1 ∷ []) a = heads _ _ _ _ (tails _ _ _ _ (tails _ _ _ _ (tails _ _ _ _ c))) in absurd (cc)
      by_front (x ∷ y ∷ z ∷ w ∷ []) between c n = let p : Told.Yes ≡ Told.Datagram (1 ∷ []) a = heads _ _ _ _ (tails _ _ _ _ (tails _ _ _ _ (tails _ _ _ _ (tails _ _ _ _ c)))) in absurd (cc)
      by_front (x ∷ y ∷ z ∷ w ∷ v ∷ vs) between c n = none_left vs (tails _ _ _ _ (tails _ _ _ _ (tails _ _ _ _ (tails _ _ _ _ (tails _ _ _ _ c)))))
        where
          none_left : (us : List Entry) → [] ≡ us ++ told k.op ∷ (between ++ yes_of k.op k.ctx ∷ k.back) → ⊥
          none_left [] e = absurd (cc)
          none_left (u ∷ us) e = absurd (cc)
