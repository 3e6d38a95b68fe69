-- The definitions on a small machine, which asks an open socket and closes it, and on small logs that don't.
use Rattle.wasi_addr.specs.declared.address.SocketAddressFamily.TheVariants as family
use Rattle.wasi_addr.specs.declared.code.ErrorCode.TheVariants as code
use Rattle.wasi_world.specs.declared.call.Call.TheVariants as call
use Rattle.wasi_world.specs.declared.call.Told.TheVariants as told
use Rattle.wasi_laws.specs.Opened.{UdpCreated}
use Rattle.wasi_laws.proofs.Words.{⊤, ℕ, inl, inr, List, [], ◌∷◌, refl, ap, OpId, Told, Entry, Asks, Ask, Give, Allows, own_of, Has, entry, socket_of, IsMade, Created, HandedOver, IsOpen, IsAskedOpen, AsksOpenSockets}

-- line 1 makes the socket
abbrev side : OpId
side = own_of 1

abbrev made : Entry
made = entry side (call.TcpCreate 0 family.Ipv4) told.Done

abbrev refused : Entry
refused = entry side (call.TcpCreate 0 family.Ipv4) (told.Code code.Other)

abbrev asked : ℕ → Entry
asked line = entry (own_of line) (call.Local side) (told.Code code.Other)

abbrev closed : ℕ → Entry
closed line = entry (own_of line) (call.Close side) told.Done

-- == a machine that asks a socket and closes it, while it is open
asks_and_closes : Asks (Unit {0})
asks_and_closes = Ask (own_of 2) (call.Local side) (λ t. Ask (own_of 3) (call.Close side) (λ u. Give tt))

open_in : (before : List Entry) → Has before made → ((op : OpId) (t : Told) → Has before (entry op (call.Close side) t) → ⊥) → IsOpen before side
open_in before h none = record { made = Created 0 family.Ipv4 h; unclosed = λ c. none c.op c.told c.closed }

good : Allows (λ es op c. IsAskedOpen es (socket_of c)) (λ es done. ⊤) (made ∷ []) asks_and_closes
unfolding asks_and_closes
good = (open_in (made ∷ []) (inl refl) first, λ t fits. (open_in (made ∷ entry (own_of 2) (call.Local side) t ∷ []) (inl refl) (second t), λ u fits. tt))
  where
    first : (op : OpId) (t : Told) → Has (made ∷ []) (entry op (call.Close side) t) → ⊥
    first op t (inl h) = absurd (let k = ap (λ (x : Entry). x.call) h in cc)
    first op t (inr h) = h

    second : (u : Told) (op : OpId) (t : Told) → Has (made ∷ entry (own_of 2) (call.Local side) u ∷ []) (entry op (call.Close side) t) → ⊥
    second u op t (inl h) = absurd (let k = ap (λ (x : Entry). x.call) h in cc)
    second u op t (inr (inl h)) = absurd (let k = ap (λ (x : Entry). x.call) h in cc)
    second u op t (inr (inr h)) = h

-- == what isn't asked of an open one
-- a second close
closed_twice : AsksOpenSockets (made ∷ closed 2 ∷ closed 3 ∷ []) → ⊥
closed_twice h = (h.each (made ∷ closed 2 ∷ []) (closed 3) [] refl).unclosed (record { op = own_of 2; told = told.Done; closed = inr (inl refl) })

-- a question after the close
asked_after : AsksOpenSockets (made ∷ closed 2 ∷ asked 3 ∷ []) → ⊥
asked_after h = (h.each (made ∷ closed 2 ∷ []) (asked 3) [] refl).unclosed (record { op = own_of 2; told = told.Done; closed = inr (inl refl) })

-- a close of what wasn't made
never_made : AsksOpenSockets (closed 2 ∷ []) → ⊥
never_made h = by_making (h.each [] (closed 2) [] refl).made
  where
    by_making : IsMade [] side → ⊥
    by_making (Created ctx f m) = absurd m
    by_making (UdpCreated ctx f m) = absurd m
    by_making (HandedOver listener peer t m) = absurd m

-- a create that was refused makes none
refused_create : AsksOpenSockets (refused ∷ asked 2 ∷ []) → ⊥
refused_create h = by_making (h.each (refused ∷ []) (asked 2) [] refl).made
  where
    by_making : IsMade (refused ∷ []) side → ⊥
    by_making (Created ctx f (inl m)) = absurd (let k = ap (λ (x : Entry). x.answer) m in cc)
    by_making (Created ctx f (inr m)) = absurd m
    by_making (UdpCreated ctx f (inl m)) = absurd (let k = ap (λ (x : Entry). x.call) m in cc)
    by_making (UdpCreated ctx f (inr m)) = absurd m
    by_making (HandedOver listener peer t (inl m)) = absurd (let k = ap (λ (x : Entry). x.call) m in cc)
    by_making (HandedOver listener peer t (inr m)) = absurd m
