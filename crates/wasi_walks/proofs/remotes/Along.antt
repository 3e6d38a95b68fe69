-- Which remote address a UDP socket has, as the log grows.
use Rattle.wasi_walks.proofs.Words.{Bool, Call, Entry, IpSocketAddress, List, None, OpId, Option, SocketAddressFamily}
use Rattle.wasi_walks.proofs.Words.{Told, [], ap, entry, false, if◌then◌else◌, refl, sym, told_addr, true, ℕ, ◌++◌, ◌∙◌}
use Rattle.wasi_walks.proofs.Words.{◌∷◌, ◌≡◌}
use Rattle.std.proofs.lemmas.Bool.{eqb-true, eq-eqb}
use Rattle.std.specs.Prelude.{◌==◌, ◌&&◌}
use Rattle.wasi_world.specs.Operation.{remote_told}
use Rattle.wasi_world.specs.Sides.{is_same}
use Rattle.wasi_walks.proofs.Lists.{cut_more}
use Rattle.wasi_walks.specs.Remotes.{HasRemote, remote_after, then_remote}

-- == the same network socket
pub same_self : (a : OpId) → is_same a a ≡ true
same_self a = rw (eq-eqb a.step a.step refl, eq-eqb a.part a.part refl) refl

pub same_true : (a b : OpId) → is_same a b ≡ true → a ≡ b
same_true a b e = by_steps (a.step == b.step) refl e
  where
    by_parts : a.step ≡ b.step → (t : Bool) → (a.part == b.part) ≡ t → t ≡ true → a ≡ b
    by_parts s true p e = let q : a.part ≡ b.part = eqb-true a.part b.part p in ap
        (λ (x : ℕ). let y : OpId = record { step = x; part = a.part } in y) s ∙ ap
        (λ (x : ℕ). let y : OpId = record { step = b.step; part = x } in y) q
    by_parts s false p e = absurd (cc)

    by_steps : (t : Bool) → (a.step == b.step) ≡ t → (t && (a.part == b.part)) ≡ true → a ≡ b
    by_steps true p e = by_parts (eqb-true a.step b.step p) (a.part == b.part) refl e
    by_steps false p e = absurd (cc)

-- == one more entry
after_push : (family : SocketAddressFamily) (side : OpId) (remote : Option IpSocketAddress) (es : List Entry)
    (e : Entry)
    → remote_after family side remote (es ++ e ∷ []) ≡ then_remote family side (remote_after family side remote es)
    e.call e.answer
after_push family side remote [] e = refl
after_push family side remote (x ∷ es) e = after_push family side (then_remote family side remote x.call x.answer) es e

-- any but a `peer` of it
spared : (family : SocketAddressFamily) (side : OpId) (remote : Option IpSocketAddress) (c : Call) (told : Told) →
    (c ≡ Call.Peer side → ⊥) → then_remote family side remote c told ≡ remote
spared family side remote (Call.Peer sock) told n = by_same (is_same sock side) refl
  where
    by_same : (b : Bool) → is_same sock side ≡ b → (if b then remote_told family (told_addr told) else remote) ≡ remote
    by_same true e = absurd (n (ap (λ (x : OpId). Call.Peer x) (same_true sock side e)))
    by_same false e = refl
spared family side remote _ told n = refl

reported : (family : SocketAddressFamily) (side : OpId) (remote : Option IpSocketAddress) (told : Told) → then_remote
    family side remote (Call.Peer side) told ≡ remote_told family (told_addr told)
reported family side remote told = ap (λ (b : Bool). if b then remote_told family (told_addr told) else remote)
    (same_self side)

-- == what a socket has
pub has_more : (es : List Entry) (op : OpId) (c : Call) (told : Told) (side : OpId) (family : SocketAddressFamily)
    (remote : Option IpSocketAddress) → (c ≡ Call.Peer side → ⊥) → HasRemote es side family remote → HasRemote
    (es ++ entry op c told ∷ []) side family remote
has_more es op c told side family remote n h = record {
  front = h.front;
  maker = h.maker;
  later = h.later ++ entry op c told ∷ [];
  cut = cut_more es _ h.front h.later _ h.cut;
  is = h.is ∙ (sym (spared family side (remote_after family side None h.later) c told n) ∙ sym
      (after_push family side None h.later (entry op c told)));
}

pub has_told : (es : List Entry) (op : OpId) (told : Told) (side : OpId) (family : SocketAddressFamily)
    (any : Option IpSocketAddress) → HasRemote es side family any
    → HasRemote (es ++ entry op (Call.Peer side) told ∷ []) side family (remote_told family (told_addr told))
has_told es op told side family any h = record {
  front = h.front;
  maker = h.maker;
  later = h.later ++ entry op (Call.Peer side) told ∷ [];
  cut = cut_more es _ h.front h.later _ h.cut;
  is = sym (reported family side (remote_after family side None h.later) told) ∙ sym
      (after_push family side None h.later (entry op (Call.Peer side) told));
}

pub has_made : (es : List Entry) (side : OpId) (maker : ℕ) (family : SocketAddressFamily) → HasRemote
    (es ++ entry side (Call.UdpCreate maker family) Told.Done ∷ []) side family None
has_made es side maker family = record { front = es; maker = maker; later = []; cut = refl; is = refl }
