-- Whether the socket of a datagram stream is bound, where it may be known to be by what was asked before.
use Rattle.wasi_causes.proofs.Words.{Allows, Bool, Call, Entry, IpSocketAddress, IsAddr, List, OpId, Told, [], allows_if, ap, bind, false, inl, inr, is_wildcard, if◌then◌else◌, not, refl, subst, sym, told_addr, true, ◌++◌, ◌∷◌, ◌≡◌, ◌⊎◌}
use Rattle.wasi_world.specs.declared.call.Call.TheVariants as call
use Rattle.wasi_world.specs.declared.call.Told.TheVariants as told
use Rattle.wasi_udp.specs.Shape.{Socket}
use Rattle.wasi_udp.specs.Socket.{after_local, bound_asks}
use Rattle.wasi_walks.proofs.Lists.{has_front, has_last}
use Rattle.wasi_walks.specs.Waiting.{EndsWith}
use Rattle.wasi_causes.specs.DatagramAsks.{IsBoundBy, KnownBound, SaidBound}
use Rattle.wasi_causes.specs.Udp.{IsUdpUnbound, udp_local_entry}

module _ (socket : Socket) where
  -- the socket, known to be bound
  abbrev pub known : Socket
  known = record socket { bound = true }

  -- what is bound after these entries is so after more
  pub bound_more : (es fs : List Entry) → IsBoundBy socket es → IsBoundBy socket (es ++ fs)
  bound_more es fs (KnownBound e) = KnownBound e
  bound_more es fs (SaidBound op local says its) = SaidBound op local says (has_front es fs _ its)

  -- the socket is as it was, or was found bound
  abbrev pub IsStill : List Entry → Socket → Type 0
  IsStill es now = (now ≡ socket) ⊎ ((now ≡ known) × IsBoundBy socket es)

  pub still_more : (es fs : List Entry) (now : Socket) → IsStill es now → IsStill (es ++ fs) now
  still_more es fs now (inl same) = inl same
  still_more es fs now (inr k) = inr (k.0, bound_more es fs k.1)

  -- how it is found by this operation
  pub data FoundSo (own : OpId) (es : List Entry) : Bool × Socket → Type 0 where
    FoundBound : IsBoundBy socket es → FoundSo own es (true, known)
    FoundFree : (local : Told) → IsUdpUnbound socket local → EndsWith (udp_local_entry own socket local) es → FoundSo own es (false, socket)

  module _ (P : List Entry → OpId → Call → Type 0) (own : OpId) (may : (es : List Entry) → socket.bound ≡ false → P es own (call.Local socket.side)) (es : List Entry) where
    -- its local address
    said : (a : IpSocketAddress) (wild : Bool) → is_wildcard socket.family a ≡ wild → socket.bound ≡ false
        → FoundSo own (es ++ udp_local_entry own socket (told.Addr a) ∷ []) (if wild then (false, socket) else (true, known))
    said a true e unknown = FoundFree (told.Addr a) (record { unknown = unknown; free = ap not e }) (record { front = es; cut = refl })
    said a false e unknown = FoundBound (SaidBound own (told.Addr a) (ap not e) (has_last es _))

    told_local : (t : Told) → IsAddr t → socket.bound ≡ false → FoundSo own (es ++ udp_local_entry own socket t ∷ []) (after_local socket (told_addr t))
    told_local (told.Addr a) fits unknown = said a (is_wildcard socket.family a) refl unknown
    told_local (told.Code c) fits unknown = FoundFree (told.Code c) (record { unknown = unknown; free = refl }) (record { front = es; cut = refl })
    told_local _ fits unknown = absurd fits

    was_known : socket.bound ≡ true → FoundSo own es (true, socket)
    was_known e = subst (λ (now : Socket). FoundSo own es (true, now)) (sym (ap (λ (b : Bool). let now : Socket = record socket { bound = b } in now) e)) (FoundBound (KnownBound e))

    of_socket : Allows P (FoundSo own) es (bound_asks own socket)
    unfolding bind
    of_socket = allows_if P (FoundSo own) es socket.bound _ _ (λ e. was_known e) (λ unknown. (may es unknown, λ t fits. told_local t fits unknown))

    -- how it is found, once it is as it was or was found bound
    pub finds : (now : Socket) → IsStill es now → Allows P (FoundSo own) es (bound_asks own now)
    finds now (inl same) = rw same of_socket
    finds now (inr k) = rw k.0 (FoundBound k.1)
