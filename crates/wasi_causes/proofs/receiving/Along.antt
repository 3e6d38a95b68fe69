-- What a stream received, along a log that grows: what each kind of entry does to it.
use Rattle.wasi_causes.proofs.Words.{Allows, Asks, IfSome, allows_keep, told_verdict, Verdict, Bool, Call, Entry, IpSocketAddress, List, None, OpId, Option, Some, Told, [], ap, append-nil, append_assoc, entry, false, if◌then◌else◌, refl, subst, sym, true, inl, inr, ℕ, ⊤, ◌&&◌, ◌++◌, ◌∙◌, ◌∷◌, ◌≡◌, ◌⊎◌, arith, marked_by}
use Rattle.wasi_addr.specs.Address.{same_address}
use Rattle.wasi_addr.specs.declared.address.SocketAddrUse.TheVariants.{UdpReceive}
use Rattle.wasi_addr.proofs.SameAddresses.{same_address-self}
use Rattle.wasi_world.specs.declared.datagram.IncomingDatagram.{IncomingDatagram}
use Rattle.wasi_world.specs.declared.call.HandleKind.TheVariants.{Incoming}
use Rattle.wasi_world.specs.Operation.{is_wanted}
use Rattle.wasi_world.specs.Sides.{is_same}
use Rattle.wasi_walks.specs.Allowed.{Has}
use Rattle.wasi_walks.proofs.Lists.{cut_more, has_back, has_front, has_split}
use Rattle.wasi_world.specs.declared.asks.Verdict.TheVariants.{Pending}
use Rattle.wasi_walks.proofs.fits.Polls.{Anything}
use Rattle.wasi_walks.proofs.licence.State.{RemoteIs}
use Rattle.wasi_walks.proofs.Words.{allows_weaker}
use Rattle.wasi_walks.proofs.received.Polls.{Elsewhere, Spares}
pub use Rattle.wasi_walks.proofs.remotes.Along.{same_self, same_true}
use Rattle.wasi_causes.proofs.receiving.Unmarked.{Unmarked, both_so}
use Rattle.wasi_causes.specs.ReceivedList.{AreApart, AsksNoMore, EachByItsOwn, InHand, LastRemote, MarkedBefore, NoneIsReplaced, in_hand_or, left_in_hand, received, received_at, received_if, served, served_at, served_if, still_in_hand, then_in_hand, told_by, unless_answered, verdict_on}

-- == lists
has_or : {A : Type 0} (xs ys : List A) (x : A) → Has (xs ++ ys) x → Has xs x ⊎ Has ys x
has_or [] ys x h = inr h
has_or (y ∷ xs) ys x (inl h) = inl (inl h)
has_or (y ∷ xs) ys x (inr h) = elim (has_or xs ys x h) [ inl i ↦ inl (inr i) | inr i ↦ inr i ]

-- one, or none
abbrev IsOneOrNone : List OpId → Type 0
IsOneOrNone [] = ⊤
IsOneOrNone (x ∷ []) = ⊤
IsOneOrNone (x ∷ y ∷ xs) = ⊥

-- == names
pub same_false : (a b : OpId) → (a ≡ b → ⊥) → is_same a b ≡ false
same_false a b n = by_test (is_same a b) refl
  where
    by_test : (t : Bool) → is_same a b ≡ t → is_same a b ≡ false
    by_test true e = absurd (n (same_true a b e))
    by_test false e = e

-- == entries one after another
module _ (side : OpId) where
  pub left_more : (hand : Option InHand) (es fs : List Entry) → left_in_hand side hand (es ++ fs) ≡ left_in_hand side (left_in_hand side hand es) fs
  left_more hand [] fs = refl
  left_more hand (e ∷ es) fs = left_more (then_in_hand side hand e) es fs

  pub received_more : (kept : Option IpSocketAddress) (hand : Option InHand) (es fs : List Entry) → received side kept hand (es ++ fs) ≡ received side kept hand es ++ received side kept (left_in_hand side hand es) fs
  received_more kept hand [] fs = refl
  received_more kept hand (e ∷ es) fs =
      ap (λ (ds : List IncomingDatagram). received_at kept hand e ++ ds) (received_more kept (then_in_hand side hand e) es fs)
      ∙ sym (append_assoc (received_at kept hand e) (received side kept (then_in_hand side hand e) es) (received side kept (left_in_hand side (then_in_hand side hand e) es) fs))

  pub none_replaced_more : (hand : Option InHand) (es fs : List Entry) → NoneIsReplaced side hand es → NoneIsReplaced side (left_in_hand side hand es) fs → NoneIsReplaced side hand (es ++ fs)
  none_replaced_more hand [] fs k l = l
  none_replaced_more hand (e ∷ es) fs k l = (k.0, none_replaced_more (then_in_hand side hand e) es fs k.1 l)

-- what a receive has in hand, by its name
abbrev pub holding : OpId → List ℕ → IpSocketAddress → InHand
holding op bytes a = record { op = op; datagram = record { bytes = bytes; remote_address = a } }

-- the operation of what is in hand has this name
abbrev pub HandName : Option InHand → OpId → Type 0
HandName None op = ⊥
HandName (Some d) op = d.op ≡ op

-- == one entry
-- What an entry does: nothing.
pub record IsQuiet (side : OpId) (kept : Option IpSocketAddress) (hand : Option InHand) (e : Entry) : Type 0 where
  pub stays : then_in_hand side hand e ≡ hand
  pub none : received_at kept hand e ≡ []
  pub untold : told_by side e.op e.call e.answer ≡ None
  pub serves : served_at kept hand e ≡ []

-- where it tells the network socket nothing, and nothing of what is in hand
quiet_so : (side : OpId) (kept : Option IpSocketAddress) (hand : Option InHand) (e : Entry) → told_by side e.op e.call e.answer ≡ None → ((d : InHand) → hand ≡ Some d → verdict_on d e.op e.call e.answer ≡ Pending) → IsQuiet side kept hand e
quiet_so side kept None e none still = record { stays = ap (λ (o : Option InHand). in_hand_or o None) none; none = refl; untold = none; serves = refl }
quiet_so side kept (Some d) e none still =
    let pending : verdict_on d e.op e.call e.answer ≡ Pending = still d refl in
    record {
      stays = ap (λ (o : Option InHand). in_hand_or o (still_in_hand (Some d) e)) none ∙ ap (λ (v : Verdict). unless_answered d v) pending;
      none = ap (λ (v : Verdict). received_if kept d.datagram v) pending;
      untold = none;
      serves = ap (λ (v : Verdict). served_if kept d v) pending;
    }

module _ (side : OpId) where
  other_told : (op x : OpId) (bytes : List ℕ) (a : IpSocketAddress) → (x ≡ side → ⊥) → told_by side op (Call.Recv x) (Told.Datagram bytes a) ≡ None
  other_told op x bytes a n = ap (λ (b : Bool). if b then Some (holding op bytes a) else None) (same_false side x (λ e. n (sym e)))

  other_checked : (d : InHand) (op : OpId) (ctx : ℕ) (a : IpSocketAddress) (t : Told) → (d.op ≡ op → ⊥) → verdict_on d op (Call.Check ctx a UdpReceive) t ≡ Pending
  other_checked d op ctx a t n = ap (λ (b : Bool). if b && same_address d.datagram.remote_address a then told_verdict t else Pending) (same_false d.op op n)

  -- of another network socket, or about the sender of something else
  pub quiet : (kept : Option IpSocketAddress) (hand : Option InHand) (op : OpId) (c : Call) (t : Told) → Spares side (HandName hand) op c → IsQuiet side kept hand (entry op c t)
  quiet kept hand op (Call.Recv x) (Told.Datagram bytes a) n = quiet_so side kept hand _ (other_told op x bytes a n) (λ d e. refl)
  quiet kept hand op (Call.Recv x) t n = quiet_so side kept hand _ refl (λ d e. refl)
  quiet kept hand op (Call.Check ctx a UdpReceive) t n = quiet_so side kept hand _ refl (λ d e. other_checked d op ctx a t (subst (λ (o : Option InHand). HandName o op → ⊥) e n))
  quiet kept hand op c t n = quiet_so side kept hand _ refl (λ d e. refl)

  -- the network socket is asked, and tells no datagram
  abbrev pub NoDatagram : Told → Type 0
  NoDatagram (Told.Datagram bytes a) = ⊥
  NoDatagram _ = ⊤

  pub told_none : (kept : Option IpSocketAddress) (hand : Option InHand) (op : OpId) (t : Told) → NoDatagram t → IsQuiet side kept hand (entry op (Call.Recv side) t)
  told_none kept hand op (Told.Datagram bytes a) n = absurd n
  told_none kept hand op t n = quiet_so side kept hand _ refl (λ d e. refl)

  -- it tells one, where nothing was in hand
  pub told_one : (op : OpId) (bytes : List ℕ) (a : IpSocketAddress) → then_in_hand side None (entry op (Call.Recv side) (Told.Datagram bytes a)) ≡ Some (holding op bytes a)
  told_one op bytes a = ap (λ (b : Bool). in_hand_or (if b then Some (holding op bytes a) else None) None) (same_self side)

  -- about the sender of what is in hand
  pub checked : (op : OpId) (bytes : List ℕ) (a : IpSocketAddress) (ctx : ℕ) (t : Told) → verdict_on (holding op bytes a) op (Call.Check ctx a UdpReceive) t ≡ told_verdict t
  checked op bytes a ctx t = ap (λ (b : Bool). if b && same_address a a then told_verdict t else Pending) (same_self op) ∙ ap (λ (b : Bool). if b then told_verdict t else Pending) (same_address-self a)

-- where nothing is in hand, any may be told
pub free : (o : Option InHand) → IfSome o (λ d. let none : Option InHand = None in none ≡ None)
free None = tt
free (Some d) = refl

-- == of one stream alone
-- the mark of an incoming stream of the network socket
abbrev pub MarksStream : OpId → Call → Type 0
MarksStream side (Call.Made handle Incoming parent (Some x)) = x ≡ side
MarksStream side _ = ⊥

-- These entries come after the mark of an incoming stream, and the front comes before it. No other stream of the network socket is marked
-- among them, and it is asked for datagrams by operations alone that hadn't asked it in the front.
pub record IsOfOne (side : OpId) (front entries : List Entry) : Type 0 where
  pub alone : (e : Entry) → Has entries e → MarksStream side e.call → ⊥
  pub begun : (e : Entry) → Has entries e → e.call ≡ Call.Recv side → AsksNoMore side front e.op

-- any call but such a mark
abbrev pub MarksNoStream : OpId → Call → Type 0
MarksNoStream side (Call.Made handle Incoming parent (Some x)) = x ≡ side → ⊥
MarksNoStream side _ = ⊤

-- a call that is no mark
pub unmarked : (side : OpId) (c : Call) → marked_by c ≡ 0 → MarksNoStream side c
unmarked side (Call.Made handle kind parent sock) e = absurd (omega (arith, e))
unmarked side _ e = tt

-- more entries, of which one is new
module _ {side : OpId} {front later : List Entry} where
  pub one_more : (e : Entry) → IsOfOne side front later → MarksNoStream side e.call → (e.call ≡ Call.Recv side → AsksNoMore side front e.op) → IsOfOne side front (later ++ e ∷ [])
  one_more e k none new = record {
    alone = λ d h m. elim (has_split later e d h) [ inl old ↦ k.alone d old m | inr it ↦ not_it e.call none (subst (λ (x : Entry). MarksStream side x.call) (sym it) m) ];
    begun = λ d h q. elim (has_split later e d h) [
      | inl old ↦ k.begun d old q
      | inr it ↦ subst (λ (x : Entry). AsksNoMore side front x.op) it (new (ap (λ (x : Entry). x.call) it ∙ q))
    ];
  }
    where
      not_it : (c : Call) → MarksNoStream side c → MarksStream side c → ⊥
      not_it (Call.Made handle Incoming parent (Some x)) none m = none m
      not_it _ none m = absurd m

-- == of one handle
-- What the stream of the handle received since its mark, on its network socket and from the address that it keeps, and what is in hand.
-- The address was reported last where the handle was marked. Nothing was received by the operation of this name, if there is one.
pub record Along (handle : ℕ) (side : OpId) (kept : Option IpSocketAddress) (es : List Entry) (list : List IncomingDatagram) (hand : Option InHand) (name : Option OpId) : Type 0 where
  pub later : List Entry
  pub marked : MarkedBefore es handle side later
  pub reported : RemoteIs marked.front side kept
  pub exactly : LastRemote marked.front side kept
  pub all : received side kept None later ≡ list
  pub left : left_in_hand side None later ≡ hand
  pub one : NoneIsReplaced side None later
  pub each : EachByItsOwn side kept None later
  pub free : IfSome name (λ x. Has (served side kept None later) x → ⊥)
  pub mine : IsOfOne side marked.front later
  pub new : IfSome name (λ x. AsksNoMore side marked.front x)

-- == by operations
-- of entries one after another
pub asks_more : (side : OpId) (es fs : List Entry) (x : OpId) → AsksNoMore side es x → AsksNoMore side fs x → AsksNoMore side (es ++ fs) x
asks_more side [] fs x k l = l
asks_more side (e ∷ es) fs x k l = (k.0, asks_more side es fs x k.1 l)

-- The network socket is asked by the operation of this name.
pub record AsksIt (side : OpId) (es : List Entry) (x : OpId) : Type 0 where
  pub asked : Entry
  pub has : Has es asked
  pub by : asked.op ≡ x
  pub on : asked.call ≡ Call.Recv side

module _ (side : OpId) (kept : Option IpSocketAddress) where
  pub served_more : (hand : Option InHand) (es fs : List Entry) → served side kept hand (es ++ fs) ≡ served side kept hand es ++ served side kept (left_in_hand side hand es) fs
  served_more hand [] fs = refl
  served_more hand (e ∷ es) fs =
      ap (λ (xs : List OpId). served_at kept hand e ++ xs) (served_more (then_in_hand side hand e) es fs)
      ∙ sym (append_assoc (served_at kept hand e) (served side kept (then_in_hand side hand e) es) (served side kept (left_in_hand side (then_in_hand side hand e) es) fs))

  -- one more, which doesn't ask for an operation that received one
  pub each_more : (hand : Option InHand) (es : List Entry) (e : Entry) → EachByItsOwn side kept hand es → (e.call ≡ Call.Recv side → left_in_hand side hand es ≡ None) → ((x : OpId) → Has (served side kept hand es) x → e.op ≡ x → e.call ≡ Call.Recv side → ⊥)
      → EachByItsOwn side kept hand (es ++ e ∷ [])
  each_more hand [] e k may not = (may, (λ op h. tt), tt)
  each_more hand (d ∷ es) e k may not = (
    k.0,
    (λ op h. asks_more side es (e ∷ []) op (k.1 op h) (not op (has_front (served_at kept hand d) (served side kept (then_in_hand side hand d) es) op h), tt)),
    each_more (then_in_hand side hand d) es e k.2 may (λ x h. not x (has_back (served_at kept hand d) (served side kept (then_in_hand side hand d) es) x h)),
  )

  -- what received one was told it
  in_or : (t s : Option InHand) (x : OpId) → HandName (in_hand_or t s) x → HandName t x ⊎ HandName s x
  in_or (Some d) s x h = inl h
  in_or None s x h = inr h

  answered_was : (d : InHand) (v : Verdict) (x : OpId) → HandName (unless_answered d v) x → d.op ≡ x
  answered_was d Pending x h = h
  answered_was d _ x h = absurd h

  still_was : (hand : Option InHand) (e : Entry) (x : OpId) → HandName (still_in_hand hand e) x → HandName hand x
  still_was None e x h = h
  still_was (Some d) e x h = answered_was d (verdict_on d e.op e.call e.answer) x h

  told_by_it : (op : OpId) (c : Call) (t : Told) (x : OpId) → HandName (told_by side op c t) x → (op ≡ x) × (c ≡ Call.Recv side)
  told_by_it op (Call.Recv y) (Told.Datagram bytes a) x h = by_test (is_same side y) refl h
    where
      by_test : (b : Bool) → is_same side y ≡ b → HandName (if b then Some (holding op bytes a) else None) x → (op ≡ x) × (Call.Recv y ≡ Call.Recv side)
      by_test true e h = (h, ap (λ (z : OpId). Call.Recv z) (sym (same_true side y e)))
      by_test false e h = absurd h
  told_by_it op _ _ x h = absurd h

  by_bool : (b : Bool) (op x : OpId) → Has (if b then op ∷ [] else []) x → op ≡ x
  by_bool true op x (inl h) = h
  by_bool true op x (inr h) = absurd h
  by_bool false op x h = absurd h

  served_was : (hand : Option InHand) (e : Entry) (x : OpId) → Has (served_at kept hand e) x → HandName hand x
  served_was None e x h = absurd h
  served_was (Some d) e x h = by_verdict (verdict_on d e.op e.call e.answer) h
    where
      by_verdict : (v : Verdict) → Has (served_if kept d v) x → d.op ≡ x
      by_verdict Verdict.Yes h = by_bool (is_wanted kept d.datagram.remote_address) d.op x h
      by_verdict _ h = absurd h

  pub served_none : (hand : Option InHand) (es : List Entry) (x : OpId) → (HandName hand x → ⊥) → AsksNoMore side es x → Has (served side kept hand es) x → ⊥
  served_none hand [] x n k h = h
  served_none hand (e ∷ es) x n k h = elim (has_or (served_at kept hand e) (served side kept (then_in_hand side hand e) es) x h) [
    | inl here ↦ n (served_was hand e x here)
    | inr later ↦ served_none (then_in_hand side hand e) es x (λ m. elim (in_or (told_by side e.op e.call e.answer) (still_in_hand hand e) x m) [
      | inl new ↦ (let t = told_by_it e.op e.call e.answer x new in k.0 t.0 t.1)
      | inr was ↦ n (still_was hand e x was)
    ]) k.1 later
  ]

  -- it was asked
  pub served_asked : (hand : Option InHand) (es : List Entry) (x : OpId) → Has (served side kept hand es) x → HandName hand x ⊎ AsksIt side es x
  served_asked hand [] x h = absurd h
  served_asked hand (e ∷ es) x h = elim (has_or (served_at kept hand e) (served side kept (then_in_hand side hand e) es) x h) [
    | inl here ↦ inl (served_was hand e x here)
    | inr later ↦ elim (served_asked (then_in_hand side hand e) es x later) [
      | inl m ↦ elim (in_or (told_by side e.op e.call e.answer) (still_in_hand hand e) x m) [
        | inl new ↦ (let t = told_by_it e.op e.call e.answer x new in inr (record { asked = e; has = inl refl; by = t.0; on = t.1 }))
        | inr was ↦ inl (still_was hand e x was)
      ]
      | inr a ↦ inr (record { asked = a.asked; has = inr a.has; by = a.by; on = a.on })
    ]
  ]

  -- so no operation received two
  none_left : (hand : Option InHand) (e : Entry) (x : OpId) → Has (served_at kept hand e) x → HandName (then_in_hand side hand e) x → ⊥
  none_left None e x h m = absurd h
  none_left (Some d) e x h m = by_call e.call e.answer h m
    where
      over : (v : Verdict) → Has (served_if kept d v) x → HandName (unless_answered d v) x → ⊥
      over Verdict.Yes h m = m
      over _ h m = absurd h

      by_call : (c : Call) (t : Told) → Has (served_if kept d (verdict_on d e.op c t)) x → HandName (in_hand_or (told_by side e.op c t) (unless_answered d (verdict_on d e.op c t))) x → ⊥
      by_call (Call.Check ctx a UdpReceive) t h m = over (verdict_on d e.op (Call.Check ctx a UdpReceive) t) h m
      by_call _ t h m = absurd h

  one_only : (xs : List OpId) (ys : List OpId) → IsOneOrNone xs → AreApart ys → ((x : OpId) → Has xs x → Has ys x → ⊥) → AreApart (xs ++ ys)
  one_only [] ys o k n = k
  one_only (x ∷ []) ys o k n = ((λ h. n x (inl refl) h), k)
  one_only (x ∷ y ∷ xs) ys o k n = absurd o

  is_one : (hand : Option InHand) (e : Entry) → IsOneOrNone (served_at kept hand e)
  is_one None e = tt
  is_one (Some d) e = by_verdict (verdict_on d e.op e.call e.answer)
    where
      by_test : (b : Bool) → IsOneOrNone (if b then d.op ∷ [] else [])
      by_test true = tt
      by_test false = tt

      by_verdict : (v : Verdict) → IsOneOrNone (served_if kept d v)
      by_verdict Verdict.Yes = by_test (is_wanted kept d.datagram.remote_address)
      by_verdict _ = tt

  pub are_apart : (hand : Option InHand) (es : List Entry) → EachByItsOwn side kept hand es → AreApart (served side kept hand es)
  are_apart hand [] k = tt
  are_apart hand (e ∷ es) k = one_only (served_at kept hand e) (served side kept (then_in_hand side hand e) es) (is_one hand e) (are_apart (then_in_hand side hand e) es k.2) (λ x h l. served_none (then_in_hand side hand e) es x (none_left hand e x h) (k.1 x h) l)

module _ (handle : ℕ) (side : OpId) (kept : Option IpSocketAddress) where
  -- the network socket is asked by the operation of this name, where nothing is in hand
  abbrev pub AsksByIt : Option InHand → Option OpId → Entry → Type 0
  AsksByIt hand name e = e.call ≡ Call.Recv side → (hand ≡ None) × (name ≡ Some e.op)

  -- the operation of the one name, if there is one, is that of the other, and receives nothing here
  abbrev pub StaysFree : Option InHand → Option OpId → Option OpId → Entry → Type 0
  StaysFree hand name named e = IfSome named (λ x. (name ≡ Some x) × (Has (served_at kept hand e) x → ⊥))

  not_it : (later : List Entry) (name : Option OpId) (x : OpId) → name ≡ Some x → IfSome name (λ y. Has (served side kept None later) y → ⊥) → Has (served side kept None later) x → ⊥
  not_it later name x e k h = (subst (λ (o : Option OpId). IfSome o (λ y. Has (served side kept None later) y → ⊥)) e k) h

  still_free : (later : List Entry) (hand : Option InHand) (name named : Option OpId) (e : Entry) → left_in_hand side None later ≡ hand → IfSome name (λ y. Has (served side kept None later) y → ⊥) → StaysFree hand name named e → IfSome named (λ x. Has (served side kept None (later ++ e ∷ [])) x → ⊥)
  still_free later hand name None e left k s = tt
  still_free later hand name (Some x) e left k s = λ h. elim (has_or (served side kept None later) (served_at kept hand e ++ []) x
      (subst (λ (o : Option InHand). Has (served side kept None later ++ (served_at kept o e ++ [])) x) left (subst (λ (xs : List OpId). Has xs x) (served_more side kept None later (e ∷ [])) h))) [
        | inl was ↦ not_it later name x s.0 k was
        | inr new ↦ s.1 (subst (λ (xs : List OpId). Has xs x) (append-nil (served_at kept hand e)) new)
      ]

  -- one more entry
  pub along_more : (es : List Entry) (e : Entry) (list now : List IncomingDatagram) (hand held : Option InHand) (name named : Option OpId) → Along handle side kept es list hand name → IfSome (told_by side e.op e.call e.answer) (λ d. hand ≡ None) → then_in_hand side hand e ≡ held → list ++ received_at kept hand e ≡ now → AsksByIt hand name e → StaysFree hand name named e → MarksNoStream side e.call → Along handle side kept (es ++ e ∷ []) now held named
  along_more es e list now hand held name named k free stays gives asks serves none =
      let m = k.marked in
      record {
        later = k.later ++ e ∷ [];
        marked = record { front = m.front; op = m.op; parent = m.parent; told = m.told; cut = cut_more es (e ∷ []) m.front k.later _ m.cut };
        reported = k.reported;
        exactly = k.exactly;
        all = received_more side kept None k.later (e ∷ []) ∙ (ap (λ (ds : List IncomingDatagram). ds ++ received side kept (left_in_hand side None k.later) (e ∷ [])) k.all ∙ (ap (λ (o : Option InHand). list ++ received side kept o (e ∷ [])) k.left ∙ (ap (λ (ds : List IncomingDatagram). list ++ ds) (append-nil (received_at kept hand e)) ∙ gives)));
        one = none_replaced_more side None k.later (e ∷ []) k.one (subst (λ (o : Option InHand). NoneIsReplaced side o (e ∷ [])) (sym k.left) (free, tt));
        left = left_more side None k.later (e ∷ []) ∙ (ap (λ (o : Option InHand). then_in_hand side o e) k.left ∙ stays);
        each = each_more side kept None k.later e k.each (λ q. k.left ∙ (asks q).0) (λ x h same q. not_it k.later name x ((asks q).1 ∙ ap (λ (y : OpId). Some y) same) k.free h);
        free = still_free k.later hand name named e k.left k.free serves;
        mine = one_more e k.mine none (λ q. subst (λ (o : Option OpId). IfSome o (λ x. AsksNoMore side m.front x)) (asks q).1 k.new);
        new = still_new named serves;
      }
    where
      still_new : (named : Option OpId) → StaysFree hand name named e → IfSome named (λ x. AsksNoMore side k.marked.front x)
      still_new None s = tt
      still_new (Some x) s = subst (λ (o : Option OpId). IfSome o (λ y. AsksNoMore side k.marked.front y)) s.0 k.new

  -- a name that asked for nothing here
  pub along_named : (es : List Entry) (list : List IncomingDatagram) (hand : Option InHand) (name : Option OpId) (x : OpId) → ((e : Entry) → Has es e → e.op ≡ x → e.call ≡ Call.Recv side → ⊥) → Along handle side kept es list hand name → Along handle side kept es list hand (Some x)
  along_named es list hand name x n k = record {
    later = k.later;
    marked = k.marked;
    reported = k.reported;
    exactly = k.exactly;
    all = k.all;
    left = k.left;
    one = k.one;
    each = k.each;
    free = served_none side kept None k.later x (λ m. m) (asks_none k.later (λ e h. n e (subst (λ (xs : List Entry). Has xs e) (sym k.marked.cut) (has_back k.marked.front _ e (inr h)))));
    mine = k.mine;
    new = asks_none k.marked.front (λ e h. n e (subst (λ (xs : List Entry). Has xs e) (sym k.marked.cut) (has_front k.marked.front _ e h)));
  }
    where
      asks_none : (fs : List Entry) → ((e : Entry) → Has fs e → e.op ≡ x → e.call ≡ Call.Recv side → ⊥) → AsksNoMore side fs x
      asks_none [] n = tt
      asks_none (e ∷ fs) n = (n e (inl refl), asks_none fs (λ d h. n d (inr h)))

  -- one that does nothing
  nothing_served : (hand : Option InHand) (name : Option OpId) (e : Entry) → served_at kept hand e ≡ [] → StaysFree hand name name e
  nothing_served hand None e none = tt
  nothing_served hand (Some x) e none = (refl, λ h. subst (λ (xs : List OpId). Has xs x) none h)

  pub along_quiet : (es : List Entry) (e : Entry) (list : List IncomingDatagram) (hand : Option InHand) (name : Option OpId) → IsQuiet side kept hand e → AsksByIt hand name e → MarksNoStream side e.call → Along handle side kept es list hand name → Along handle side kept (es ++ e ∷ []) list hand name
  along_quiet es e list hand name q asks none k = along_more es e list list hand hand name name k (subst (λ (o : Option InHand). IfSome o (λ d. hand ≡ None)) (sym q.untold) tt) q.stays (ap (λ (ds : List IncomingDatagram). list ++ ds) q.none ∙ append-nil list) asks (nothing_served hand name e q.serves) none

  -- one that doesn't ask the network socket
  pub asks_other : (hand : Option InHand) (name : Option OpId) (Names : OpId → Type 0) (op : OpId) (c : Call) (t : Told) → Spares side Names op c → AsksByIt hand name (entry op c t)
  asks_other hand name Names op c t n q = absurd ((subst (λ (d : Call). Spares side Names op d) q n) refl)

  -- along a tree that does nothing to it, and marks nothing
  abbrev Silently : Option InHand → List Entry → OpId → Call → Type 0
  Silently hand fs op c = Elsewhere side ⊤ (HandName hand) fs op c × Unmarked fs op c

  pub along_silent : {A : Type 0} (es : List Entry) (asks : Asks A) (list : List IncomingDatagram) (hand : Option InHand) (name : Option OpId) → Along handle side kept es list hand name → Allows (Elsewhere side ⊤ (HandName hand)) (λ fs a. ⊤) es asks → Allows Unmarked (λ fs a. ⊤) es asks
      → Allows Anything (λ fs a. Along handle side kept fs list hand name) es asks
  along_silent es asks list hand name k n u =
      allows_weaker Anything (λ fs a. Along handle side kept fs list hand name × ⊤) (λ fs a. Along handle side kept fs list hand name) (λ fs a m. m.0) es asks
      (allows_keep (Silently hand) Anything (λ fs. Along handle side kept fs list hand name) (λ fs a. ⊤)
      (λ fs op c t fits m s. along_quiet fs (entry op c t) list hand name (quiet side kept hand op c t (s.0 tt)) (asks_other hand name (HandName hand) op c t (s.0 tt)) (unmarked side c s.1) m) (λ fs op c s. tt) es asks k
      (both_so (Elsewhere side ⊤ (HandName hand)) Unmarked (λ fs a. ⊤) (λ fs a. ⊤) es asks n u))
