-- Which datagrams can't be sent: the rule of the machine and what the line says agree.
use Rattle.std.specs.Prelude.{◌<◌, ◌≤◌}
use Rattle.wasi_causes.proofs.Words.{Bool, Err}
use Rattle.wasi_causes.proofs.Words.{ErrorCode, InvalidArgument, IpSocketAddress}
use Rattle.wasi_causes.proofs.Words.{None, Ok, Option}
use Rattle.wasi_causes.proofs.Words.{Result, Some, SocketAddressFamily}
use Rattle.wasi_causes.proofs.Words.{ap, arith, false, if◌then◌else◌}
use Rattle.wasi_causes.proofs.Words.{length, ltb-false, ltb-true, nat_lt}
use Rattle.wasi_causes.proofs.Words.{refl, subst, true, ℕ, ◌&&◌}
use Rattle.wasi_causes.proofs.Words.{◌<◌, ◌∙◌, ◌≡◌}
use Rattle.wasi_addr.specs.Address.{same_address}
use Rattle.wasi_addr.specs.declared.code.ErrorCode.TheVariants.{DatagramTooLarge}
use Rattle.wasi_world.specs.declared.datagram.OutgoingDatagram.{OutgoingDatagram}
use Rattle.wasi_udp.specs.Send.{is_sendable, send_to, where_to}
use Rattle.wasi_udp.specs.Shape.{Socket}
use Rattle.wasi_udp.specs.declared.send.Destination.{Destination}
use Rattle.wasi_causes.specs.Unsendable.{HasNoAddress, HasWrongAddress, IsNotForRemote, IsTooLarge, IsUnsendable}

-- where it goes, by a test
abbrev goes_to : IpSocketAddress → Bool → Bool → Result Destination ErrorCode
goes_to a kept b = if b then Ok (record { addr = a; kept = kept }) else Err InvalidArgument

-- of one that isn't too large
where_so : (family : SocketAddressFamily) (d : OutgoingDatagram) → length d.bytes ≤ 65535
    → (remote given : Option IpSocketAddress) → d.remote_address ≡ given → (c : ErrorCode)
    → where_to family remote given ≡ Err c → IsUnsendable family remote d c
where_so family d few None None is c e = let same : InvalidArgument ≡ c = cc in subst (IsUnsendable family None d) same (HasNoAddress few is refl)
where_so family d few (Some r) None is c e = absurd (cc)
where_so family d few None (Some a) is c e = by_test (is_sendable family a) refl e
  where
    by_test : (b : Bool) → is_sendable family a ≡ b → goes_to a false b ≡ Err c → IsUnsendable family None d c
    by_test true s e = absurd (cc)
    by_test false s e = let same : InvalidArgument ≡ c = cc in subst (IsUnsendable family None d) same (HasWrongAddress few a is s)
where_so family d few (Some r) (Some a) is c e = by_test (is_sendable family a) (same_address a r) refl refl e
  where
    by_test : (b t : Bool) → is_sendable family a ≡ b → same_address a r ≡ t → goes_to a true (b && t) ≡ Err c
        → IsUnsendable family (Some r) d c
    by_test true true s t e = absurd (cc)
    by_test true false s t e = let same : InvalidArgument ≡ c = cc in subst (IsUnsendable family (Some r) d) same (IsNotForRemote few a r is refl t)
    by_test false t s u e = let same : InvalidArgument ≡ c = cc in subst (IsUnsendable family (Some r) d) same (HasWrongAddress few a is s)

-- what the machine refuses is unsendable
pub unsendable : (socket : Socket) (d : OutgoingDatagram) (c : ErrorCode)
    → send_to socket d.bytes d.remote_address ≡ Err c → IsUnsendable socket.family socket.remote d c
unsendable socket d c e = by_length (nat_lt 65535 (length d.bytes)) refl e
  where
    by_length : (b : Bool) → nat_lt 65535 (length d.bytes) ≡ b
        → (if b then Err DatagramTooLarge else where_to socket.family socket.remote d.remote_address) ≡ Err c
        → IsUnsendable socket.family socket.remote d c
    by_length true many e = let same : DatagramTooLarge ≡ c = cc in subst (IsUnsendable socket.family socket.remote d) same (IsTooLarge (ltb-true _ _ many))
    by_length false few e = where_so socket.family d (ltb-false _ _ few) socket.remote d.remote_address refl c e

-- and what is unsendable is refused by the machine
not_many : (n : ℕ) → n ≤ 65535 → nat_lt 65535 n ≡ false
not_many n few = by_test (nat_lt 65535 n) refl
  where
    by_test : (b : Bool) → nat_lt 65535 n ≡ b → nat_lt 65535 n ≡ false
    by_test true e = absurd (let more = ltb-true _ _ e in omega (arith, more, few))
    by_test false e = e

many : (n : ℕ) → 65535 < n → nat_lt 65535 n ≡ true
many n more = by_test (nat_lt 65535 n) refl
  where
    by_test : (b : Bool) → nat_lt 65535 n ≡ b → nat_lt 65535 n ≡ true
    by_test true e = e
    by_test false e = absurd (let few = ltb-false _ _ e in omega (arith, more, few))

no_place : (family : SocketAddressFamily) (remote : Option IpSocketAddress) (a : IpSocketAddress)
    → is_sendable family a ≡ false → where_to family remote (Some a) ≡ Err InvalidArgument
no_place family None a e = ap (goes_to a false) e
no_place family (Some r) a e = ap (λ (b : Bool). goes_to a true (b && same_address a r)) e

and_false : (b : Bool) → (b && false) ≡ false
and_false true = refl
and_false false = refl

other_place : (family : SocketAddressFamily) (r a : IpSocketAddress) → same_address a r ≡ false
    → where_to family (Some r) (Some a) ≡ Err InvalidArgument
other_place family r a e = ap (goes_to a true) (ap (λ (t : Bool). is_sendable family a && t) e ∙ and_false (is_sendable family a))

module _ (socket : Socket) (d : OutgoingDatagram) where
  of_few : length d.bytes ≤ 65535 → (given : Option IpSocketAddress) → d.remote_address ≡ given
      → (remote : Option IpSocketAddress) → socket.remote ≡ remote → (c : ErrorCode)
      → where_to socket.family remote given ≡ Err c → send_to socket d.bytes d.remote_address ≡ Err c
  of_few few given is remote has c e =
      ap (λ (b : Bool). if b then Err DatagramTooLarge else where_to socket.family socket.remote d.remote_address) (not_many (length d.bytes) few)
      ∙ (ap (λ (o : Option IpSocketAddress). where_to socket.family o d.remote_address) has ∙ (ap (λ (o : Option IpSocketAddress). where_to socket.family remote o) is ∙ e))

  pub refused_so : (c : ErrorCode) → IsUnsendable socket.family socket.remote d c
      → send_to socket d.bytes d.remote_address ≡ Err c
  refused_so _ (IsTooLarge more) = ap (λ (b : Bool). if b then Err DatagramTooLarge else where_to socket.family socket.remote d.remote_address) (many (length d.bytes) more)
  refused_so _ (HasNoAddress few is has) = of_few few None is None has InvalidArgument refl
  refused_so _ (HasWrongAddress few a is wrong) = of_few few (Some a) is socket.remote refl InvalidArgument (no_place socket.family socket.remote a wrong)
  refused_so _ (IsNotForRemote few a r is has other) = of_few few (Some a) is (Some r) has InvalidArgument (other_place socket.family r a other)
