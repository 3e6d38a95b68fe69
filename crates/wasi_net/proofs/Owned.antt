-- Each descriptor that is made is kept under one name or closed, and none is closed twice.
use Rattle.std.specs.Prelude.{option_map, ⊤}
use Rattle.std.proofs.Common.{◌≡◌, ◌⊎◌, inl, inr, ℤ, Bool, true, false, List, ◌∷◌, Option, Some, None, refl, sym, ap, subst, ◌∙◌}
use Rattle.wasi_world.specs.declared.ids.OpId.{OpId}
use Rattle.wasi_world.specs.Sides.{is_same}
use Rattle.wasi_net.specs.Acts.{Act, Acts, after}
use Rattle.wasi_net.specs.Acts as act
use Rattle.wasi_net.specs.Known.{Known, Sides, Same, With}
use Rattle.wasi_net.specs.Owned.{made_by, closed_by, IsOpen, IsFree, GivesFree, IsTaken, ClosesOpen, Has, AreOwned, Owned}
use Rattle.wasi_net.proofs.Sides.{same_name, is_same-self}

-- == what is None
none_some : {A : Type 0} (o : Option A) (x : A) → o ≡ None → o ≡ Some x → ⊥
none_some None x h e = absurd (cc)
none_some (Some y) x h e = absurd (cc)

some_same : {A : Type 0} (x y : A) → Some x ≡ Some y → x ≡ y
some_same x y h = cc

taken_none : (o : Option ℤ) (acts : List Act) → o ≡ None → IsTaken o acts
taken_none None acts h = tt
taken_none (Some fd) acts h = absurd (cc)

-- == sockets with the same descriptors
abbrev fd_of : Option Known → Option ℤ
fd_of o = option_map (λ k. k.fd) o

abbrev pub SameFds : Sides → Sides → Type 0
SameFds before now = (name : OpId) → fd_of (now name) ≡ fd_of (before name)

record Stands (o : Option Known) (fd : ℤ) : Type 0 where
  known : Known
  stands : o ≡ Some known
  is : known.fd ≡ fd

of_fd : (o : Option Known) (fd : ℤ) → fd_of o ≡ Some fd → Stands o fd
of_fd None fd h = absurd (none_some None fd refl h)
of_fd (Some k) fd h = record { known = k; stands = refl; is = some_same k.fd fd h }

pub fds_owned : (before now : Sides) (acts : Acts) → SameFds before now → Owned before acts → Owned now acts
fds_owned before now None same h = tt
fds_owned before now (Some acts) same h = λ free.
    let o : AreOwned before acts = h free in
    let was : (name : OpId) (k : Known) → now name ≡ Some k → Stands (before name) k.fd = λ name k s. of_fd (before name) k.fd (sym (same name) ∙ ap fd_of s) in
    let is : (name : OpId) (k : Known) → before name ≡ Some k → Stands (now name) k.fd = λ name k s. of_fd (now name) k.fd (same name ∙ ap fd_of s) in
    record {
      apart = λ a b k m sa sb e. let x = was a k sa in let y = was b m sb in o.apart a b x.known y.known x.stands y.stands (x.is ∙ e ∙ sym y.is);
      opened = λ name k s. let x = was name k s in subst (λ fd. IsOpen fd acts) x.is (o.opened name x.known x.stands);
      theirs = λ fd opened. let has = o.theirs fd opened in let x = is has.name has.known has.stands in record { name = has.name; known = x.known; stands = x.stands; is = x.is ∙ has.is };
      once = o.once;
    }

pub same_owned : (before now : Sides) (acts : Acts) → Same before now → Owned before acts → Owned now acts
same_owned before now acts same h = fds_owned before now acts (λ name. ap fd_of (same name)) h

-- the socket of one name is as before, but for its stage
pub stands_owned : (before now : Sides) (acts : Acts) (place : OpId) (k becomes : Known) → before place ≡ Some k → becomes.fd ≡ k.fd → With before place (Some becomes) now → Owned before acts → Owned now acts
stands_owned before now acts place k becomes was fd stands h = fds_owned before now acts (λ name. by_test name (is_same place name) refl) h
  where
    by_test : (name : OpId) (b : Bool) → is_same place name ≡ b → fd_of (now name) ≡ fd_of (before name)
    by_test name true same =
        let here : now name ≡ Some becomes = stands name ∙ rw same refl in
        let there : before name ≡ Some k = ap before (sym (same_name place name same)) ∙ was in
        ap fd_of here ∙ ap (λ (fd : ℤ). Some fd) fd ∙ sym (ap fd_of there)
    by_test name false other = ap fd_of (stands name ∙ rw other refl)

-- == what neither makes a descriptor nor closes one
pub record Quiet (a : Act) : Type 0 where
  pub made : made_by a ≡ None
  pub closed : closed_by a ≡ None

quiet_open : (a : Act) (acts : List Act) (fd : ℤ) → Quiet a → IsOpen fd acts → IsOpen fd (a ∷ acts)
quiet_open a acts fd q opened = inr ((λ e. none_some (closed_by a) fd q.closed e, opened))

open_quiet : (a : Act) (acts : List Act) (fd : ℤ) → Quiet a → IsOpen fd (a ∷ acts) → IsOpen fd acts
open_quiet a acts fd q (inl made) = absurd (none_some (made_by a) fd q.made made)
open_quiet a acts fd q (inr opened) = opened.1

pub quiet_owned : (sides : Sides) (a : Act) (acts : Acts) → Quiet a → Owned sides acts → Owned sides (after a acts)
quiet_owned sides a None q h = tt
quiet_owned sides a (Some acts) q h = λ free.
    let o : AreOwned sides acts = h free.1 in
    record {
      apart = o.apart;
      opened = λ name k s. quiet_open a acts k.fd q (o.opened name k s);
      theirs = λ fd opened. o.theirs fd (open_quiet a acts fd q opened);
      once = (taken_none (closed_by a) acts q.closed, o.once);
    }

-- == a descriptor that was made, and isn't kept or closed yet
pub record InHand (sides : Sides) (fd : ℤ) (acts : List Act) : Type 0 where
  apart : (a b : OpId) (k m : Known) → sides a ≡ Some k → sides b ≡ Some m → k.fd ≡ m.fd → a ≡ b
  hand : IsOpen fd acts
  opened : (name : OpId) (k : Known) → sides name ≡ Some k → IsOpen k.fd acts
  other : (name : OpId) (k : Known) → sides name ≡ Some k → k.fd ≡ fd → ⊥
  theirs : (it : ℤ) → IsOpen it acts → (it ≡ fd) ⊎ Has sides it
  once : ClosesOpen acts

abbrev pub Hand : Sides → ℤ → Acts → Type 0
Hand sides fd None = ⊤
Hand sides fd (Some acts) = GivesFree acts → InHand sides fd acts

-- it was made just now
pub made_hand : (sides : Sides) (a : Act) (fd : ℤ) (acts : Acts) → made_by a ≡ Some fd → closed_by a ≡ None → Owned sides acts → Hand sides fd (after a acts)
made_hand sides a fd None made quiet h = tt
made_hand sides a fd (Some acts) made quiet h = λ free.
    let o : AreOwned sides acts = h free.1 in
    let fresh : IsOpen fd acts → ⊥ = subst (λ it. IsFree it acts) made free.0 in
    record {
      apart = o.apart;
      hand = inl made;
      opened = λ name k s. inr ((λ e. none_some (closed_by a) k.fd quiet e, o.opened name k s));
      other = λ name k s e. fresh (subst (λ it. IsOpen it acts) e (o.opened name k s));
      theirs = theirs o;
      once = (taken_none (closed_by a) acts quiet, o.once);
    }
  where
    theirs : AreOwned sides acts → (it : ℤ) → IsOpen it (a ∷ acts) → (it ≡ fd) ⊎ Has sides it
    theirs o it (inl e) = inl (some_same it fd (sym e ∙ made))
    theirs o it (inr opened) = inr (o.theirs it opened.1)

pub quiet_hand : (sides : Sides) (fd : ℤ) (a : Act) (acts : Acts) → Quiet a → Hand sides fd acts → Hand sides fd (after a acts)
quiet_hand sides fd a None q h = tt
quiet_hand sides fd a (Some acts) q h = λ free.
    let o : InHand sides fd acts = h free.1 in
    record {
      apart = o.apart;
      hand = quiet_open a acts fd q o.hand;
      opened = λ name k s. quiet_open a acts k.fd q (o.opened name k s);
      other = o.other;
      theirs = λ it opened. o.theirs it (open_quiet a acts it q opened);
      once = (taken_none (closed_by a) acts q.closed, o.once);
    }

-- it is closed
pub close_hand : (sides : Sides) (fd : ℤ) (acts : Acts) → Hand sides fd acts → Owned sides (after (act.Close fd) acts)
close_hand sides fd None h = tt
close_hand sides fd (Some acts) h = λ free.
    let o : InHand sides fd acts = h free.1 in
    record {
      apart = o.apart;
      opened = λ name k s. inr ((λ e. o.other name k s (sym (some_same fd k.fd e)), o.opened name k s));
      theirs = theirs o;
      once = (o.hand, o.once);
    }
  where
    is : (it : ℤ) → (Some fd ≡ Some it → ⊥) → (it ≡ fd) ⊎ Has sides it → Has sides it
    is it other (inl e) = absurd (other (ap (λ (x : ℤ). Some x) (sym e)))
    is it other (inr has) = has

    theirs : InHand sides fd acts → (it : ℤ) → IsOpen it (act.Close fd ∷ acts) → Has sides it
    theirs o it (inl e) = absurd (cc)
    theirs o it (inr opened) = is it opened.0 (o.theirs it opened.1)

-- it is kept under a name that no socket has
pub kept_hand : (before now : Sides) (fd : ℤ) (acts : Acts) (op : OpId) (k : Known) → before op ≡ None → k.fd ≡ fd → With before op (Some k) now → Hand before fd acts → Owned now acts
kept_hand before now fd None op k unused is stands h = tt
kept_hand before now fd (Some acts) op k unused is stands h = λ free.
    let o : InHand before fd acts = h free in
    record {
      apart = λ a b m n sa sb e. apart o a b m n (cases a m sa) (cases b n sb) e;
      opened = λ name m s. opened o name m (cases name m s);
      theirs = λ it opened. theirs o it (o.theirs it opened);
      once = o.once;
    }
  where
    Case : OpId → Known → Type 0
    Case name m = ((op ≡ name) × (m.fd ≡ fd)) ⊎ (before name ≡ Some m)

    by_test : (name : OpId) (m : Known) (b : Bool) → is_same op name ≡ b → now name ≡ Some m → Case name m
    by_test name m true same s =
        let here : Some k ≡ Some m = sym (stands name ∙ rw same refl) ∙ s in
        inl ((same_name op name same, ap (λ (k : Known). k.fd) (sym (some_same k m here)) ∙ is))
    by_test name m false other s = inr (sym (stands name ∙ rw other refl) ∙ s)

    cases : (name : OpId) (m : Known) → now name ≡ Some m → Case name m
    cases name m s = by_test name m (is_same op name) refl s

    apart : InHand before fd acts → (a b : OpId) (m n : Known) → Case a m → Case b n → m.fd ≡ n.fd → a ≡ b
    apart o a b m n (inl x) (inl y) e = sym x.0 ∙ y.0
    apart o a b m n (inl x) (inr y) e = absurd (o.other b n y (sym e ∙ x.1))
    apart o a b m n (inr x) (inl y) e = absurd (o.other a m x (e ∙ y.1))
    apart o a b m n (inr x) (inr y) e = o.apart a b m n x y e

    opened : InHand before fd acts → (name : OpId) (m : Known) → Case name m → IsOpen m.fd acts
    opened o name m (inl x) = subst (λ it. IsOpen it acts) (sym x.1) o.hand
    opened o name m (inr x) = o.opened name m x

    stays : (name : OpId) (m : Known) (b : Bool) → is_same op name ≡ b → before name ≡ Some m → now name ≡ Some m
    stays name m true same s = absurd (none_some (before op) m unused (ap before (same_name op name same) ∙ s))
    stays name m false other s = stands name ∙ rw other refl ∙ s

    own : now op ≡ Some k
    own = stands op ∙ rw (is_same-self op) refl

    theirs : InHand before fd acts → (it : ℤ) → (it ≡ fd) ⊎ Has before it → Has now it
    theirs o it (inl e) = record { name = op; known = k; stands = own; is = is ∙ sym e }
    theirs o it (inr has) = record { name = has.name; known = has.known; stands = stays has.name has.known (is_same op has.name) refl has.stands; is = has.is }

-- == a socket that is closed
pub closed_owned : (before now : Sides) (sock : OpId) (k : Known) (acts : Acts) → before sock ≡ Some k → With before sock None now → Owned before acts → Owned now (after (act.Close k.fd) acts)
closed_owned before now sock k None was gone h = tt
closed_owned before now sock k (Some acts) was gone h = λ free.
    let o : AreOwned before acts = h free.1 in
    record {
      apart = λ a b m n sa sb e. o.apart a b m n (stood a m sa) (stood b n sb) e;
      opened = λ name m s. inr ((λ e. unlike name m s (o.apart sock name k m was (stood name m s) (some_same k.fd m.fd e)), o.opened name m (stood name m s)));
      theirs = theirs o;
      once = (o.opened sock k was, o.once);
    }
  where
    none : now sock ≡ None
    none = gone sock ∙ rw (is_same-self sock) refl

    unlike : (name : OpId) (m : Known) → now name ≡ Some m → sock ≡ name → ⊥
    unlike name m s e = none_some (now name) m (ap now (sym e) ∙ none) s

    by_test : (name : OpId) (m : Known) (b : Bool) → is_same sock name ≡ b → now name ≡ Some m → before name ≡ Some m
    by_test name m true same s = absurd (unlike name m s (same_name sock name same))
    by_test name m false other s = sym (gone name ∙ rw other refl) ∙ s

    stood : (name : OpId) (m : Known) → now name ≡ Some m → before name ≡ Some m
    stood name m s = by_test name m (is_same sock name) refl s

    stays : (name : OpId) (m : Known) (b : Bool) → is_same sock name ≡ b → (Some k.fd ≡ Some m.fd → ⊥) → before name ≡ Some m → now name ≡ Some m
    stays name m true same other s = absurd (other (ap (λ (o : Option Known). fd_of o) (sym was ∙ ap before (same_name sock name same) ∙ s)))
    stays name m false differs other s = gone name ∙ rw differs refl ∙ s

    theirs : AreOwned before acts → (it : ℤ) → IsOpen it (act.Close k.fd ∷ acts) → Has now it
    theirs o it (inl e) = absurd (cc)
    theirs o it (inr opened) =
        let has = o.theirs it opened.1 in
        record { name = has.name; known = has.known; stands = stays has.name has.known (is_same sock has.name) refl (λ e. opened.0 (e ∙ ap (λ (x : ℤ). Some x) has.is)) has.stands; is = has.is }
