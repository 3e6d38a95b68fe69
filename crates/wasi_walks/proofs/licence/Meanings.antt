-- In a licensed log a handle has one network socket, and a network socket one creator and one family.
use Rattle.wasi_walks.proofs.Words.{BeganBy, Call, Created, Entry, Hand, Handed, Has, IpSocketAddress, IsLicensed, IsMaker, IsSide, IsTcpCreate, List}
use Rattle.wasi_walks.proofs.Words.{MayAsk, NamesSide, OpId, Option, Reply, SocketAddressFamily, GuestCall, Step, TcpCreate, Told, WasiSocketsCtx, [], ap, arith, entry}
use Rattle.wasi_walks.proofs.Words.{handles_of, inl, inr, marked_by, marks_in, refl, subst, sym, ℕ, ◌++◌, ◌∙◌, ◌∷◌, ◌≡◌, ◌⊎◌}
use Rattle.wasi_walks.specs.Licence.{IsMarkedWith, IsUdpCreate, MayUseUdp, UdpCreated}
use Rattle.wasi_world.specs.declared.call.Call.TheVariants.{UdpCreate}
use Rattle.wasi_walks.proofs.Lists.{entry_call, Cut, cut_of}
use Rattle.wasi_steps.specs.declared.guest_call.TcpCall.{TcpCall}
use Rattle.wasi_steps.specs.declared.guest_call.UdpCall.{UdpCall}
use Rattle.wasi_steps.specs.declared.guest_call.P3TcpCall.{P3TcpCall}
use Rattle.wasi_steps.specs.declared.guest_call.P3UdpCall.{P3UdpCall}

-- where a list is cut twice, the cuts are one or each holds the other's entry in front of it
same_or_before : (f g : List Entry) (x y : Entry) (b d : List Entry) → f ++ x ∷ b ≡ g ++ y ∷ d → (x ≡ y) ⊎ (Has g x ⊎ Has f y)
same_or_before [] [] x y b d e = inl (cc)
same_or_before [] (z ∷ g) x y b d e = inr (inl (inl (cc)))
same_or_before (z ∷ f) [] x y b d e = inr (inr (inl (cc)))
same_or_before (z ∷ f) (w ∷ g) x y b d e = elim (same_or_before f g x y b d (cc)) [ inl p ↦ inl p | inr p ↦ elim p [ inl q ↦ inr (inl (inr q)) | inr q ↦ inr (inr (inr q)) ] ]

-- marks of one number are one
abbrev IsMark : Call → Type 0
IsMark c = marked_by c ≡ 1

same_mark : (f g : List Entry) (x y : Entry) (b d : List Entry) → f ++ x ∷ b ≡ g ++ y ∷ d → IsMark x.call → IsMark y.call → marks_in f ≡ marks_in g → x ≡ y
same_mark [] [] x y b d e i j m = cc
same_mark [] (z ∷ g) x y b d e i j m = let p : x ≡ z = cc in let q = subst (λ (w : Entry). IsMark w.call) p i in absurd (omega arith)
same_mark (z ∷ f) [] x y b d e i j m = let p : y ≡ z = cc in let q = subst (λ (w : Entry). IsMark w.call) p j in absurd (omega arith)
same_mark (z ∷ f) (w ∷ g) x y b d e i j m =
    let p : z ≡ w = cc in
    let q = ap (λ (u : Entry). marked_by u.call) p in
    same_mark f g x y b d (cc) i j (omega arith)

pub one_mark : (contexts : List WasiSocketsCtx) (steps : List Step) (log : List Entry) (replies : List Reply) → IsLicensed contexts steps log replies → (handle : ℕ) (a b : Option OpId) → IsMarkedWith log handle a → IsMarkedWith log handle b → a ≡ b
one_mark contexts steps log replies h handle a b x y =
    let c = cut_of log _ x.mark in
    let d = cut_of log _ y.mark in
    let p = (h.each c.front _ c.back c.is).0 in
    let q = (h.each d.front _ d.back d.is).0 in
    let e = same_mark c.front d.front _ _ c.back d.back (sym c.is ∙ d.is) refl refl (omega arith) in
    let f = entry_call _ _ e in
    cc

module _ (contexts : List WasiSocketsCtx) (steps : List Step) (log : List Entry) {replies : List Reply} (h : IsLicensed contexts steps log replies) where
  may_at : (e : Entry) (c : Cut log e) → MayAsk contexts steps c.front e.op e.call
  may_at e c = h.each c.front e c.back c.is

  -- == one network socket
  pub one_side : (handle : ℕ) (s t : OpId) → IsSide log handle s → IsSide log handle t → s ≡ t
  one_side handle s t a b =
      let c = cut_of log _ a.mark in
      let d = cut_of log _ b.mark in
      let p = (may_at _ c).0 in
      let q = (may_at _ d).0 in
      let e = same_mark c.front d.front _ _ c.back d.back (sym c.is ∙ d.is) refl refl (omega arith) in
      let f = entry_call _ _ e in
      cc

  -- == one creator
  -- what holds of the step that an operation began by holds of it however it is found
  same_origin : (op : OpId) (P Q : Step → Type 0) (a : BeganBy steps op P) → BeganBy steps op Q → Q a.origin
  same_origin op P Q a b = let p = a.at in let q = b.at in let e : b.origin ≡ a.origin = cc in subst Q e b.holds

  created_by : (side : OpId) (ctx : ℕ) (family : SocketAddressFamily) (t : Told) → Has log (entry side (TcpCreate ctx family) t) → BeganBy steps side (IsTcpCreate contexts ctx family)
  created_by side ctx family t i = may_at _ (cut_of log _ i)

  one_create : (s : Step) (c d : ℕ) (f g : SocketAddressFamily) → IsTcpCreate contexts c f s → IsTcpCreate contexts d g s → (c ≡ d) × (f ≡ g)
  one_create (Step.Call ctx (GuestCall.Tcp (TcpCall.Create family))) c d f g a b =
      let p = a.0.at in
      let q = b.0.at in
      let e : a.0.ctx ≡ b.0.ctx = cc in
      let n = ap (λ (x : WasiSocketsCtx). x.name) e in
      (sym a.0.named ∙ (n ∙ b.0.named), sym a.1 ∙ b.1)
  one_create (Step.Call ctx (GuestCall.P3Tcp (P3TcpCall.Create family))) c d f g a b =
      let p = a.0.at in
      let q = b.0.at in
      let e : a.0.ctx ≡ b.0.ctx = cc in
      let n = ap (λ (x : WasiSocketsCtx). x.name) e in
      (sym a.0.named ∙ (n ∙ b.0.named), sym a.1 ∙ b.1)
  one_create _ c d f g a b = absurd a

  -- a create names no listener
  names_none : (s : Step) (c : ℕ) (f : SocketAddressFamily) (handle : ℕ) → IsTcpCreate contexts c f s → Has (handles_of s) handle → ⊥
  names_none (Step.Call ctx (GuestCall.Tcp (TcpCall.Create family))) c f handle a i = i
  names_none (Step.Call ctx (GuestCall.P3Tcp (P3TcpCall.Create family))) c f handle a i = i
  names_none _ c f handle a i = absurd a

  -- the same of a UDP socket
  udp_created_by : (side : OpId) (ctx : ℕ) (family : SocketAddressFamily) (t : Told) → Has log (entry side (UdpCreate ctx family) t) → BeganBy steps side (IsUdpCreate contexts ctx family)
  udp_created_by side ctx family t i = may_at _ (cut_of log _ i)

  -- a context that may use UDP has one name
  one_user : (n c d : ℕ) → MayUseUdp contexts n c → MayUseUdp contexts n d → c ≡ d
  one_user n c d a b =
      let p = a.at in
      let q = b.at in
      let e : a.ctx ≡ b.ctx = cc in
      sym a.named ∙ (ap (λ (x : WasiSocketsCtx). x.name) e ∙ b.named)

  one_udp_create : (s : Step) (c d : ℕ) (f g : SocketAddressFamily) → IsUdpCreate contexts c f s → IsUdpCreate contexts d g s → (c ≡ d) × (f ≡ g)
  one_udp_create (Step.Call ctx (GuestCall.Udp (UdpCall.Create family))) c d f g a b = (one_user ctx c d a.0 b.0, sym a.1 ∙ b.1)
  one_udp_create (Step.Call ctx (GuestCall.P3Udp (P3UdpCall.Create family))) c d f g a b = (one_user ctx c d a.0 b.0, sym a.1 ∙ b.1)
  one_udp_create _ c d f g a b = absurd a

  udp_names_none : (s : Step) (c : ℕ) (f : SocketAddressFamily) (handle : ℕ) → IsUdpCreate contexts c f s → Has (handles_of s) handle → ⊥
  udp_names_none (Step.Call ctx (GuestCall.Udp (UdpCall.Create family))) c f handle a i = i
  udp_names_none (Step.Call ctx (GuestCall.P3Udp (P3UdpCall.Create family))) c f handle a i = i
  udp_names_none _ c f handle a i = absurd a

  -- a step makes a TCP socket or a UDP socket
  one_kind : (s : Step) (c d : ℕ) (f g : SocketAddressFamily) → IsTcpCreate contexts c f s → IsUdpCreate contexts d g s → ⊥
  one_kind (Step.Call ctx (GuestCall.Tcp (TcpCall.Create family))) c d f g a b = b
  one_kind (Step.Call ctx (GuestCall.P3Tcp (P3TcpCall.Create family))) c d f g a b = b
  one_kind _ c d f g a b = a

  kinds_apart : (c d : ℕ) (f g : SocketAddressFamily) (side : OpId) (t u : Told) → Has log (entry side (TcpCreate c f) t) → Has log (entry side (UdpCreate d g) u) → ⊥
  kinds_apart c d f g side t u i j =
      let a = created_by side c f t i in
      one_kind a.origin c d f g a.holds (same_origin side (IsTcpCreate contexts c f) (IsUdpCreate contexts d g) a (udp_created_by side d g u j))

  hands_own : (op l : OpId) (ctx : ℕ) (family : SocketAddressFamily) (peer : IpSocketAddress) (t u : Told) → Has log (entry op (TcpCreate ctx family) t) → Has log (entry op (Hand l peer) u) → op ≡ l
  hands_own op l ctx family peer t u i j =
      let c = cut_of log _ j in
      let o = created_by op ctx family t i in
      elim (may_at _ c).0 [
        | inl r ↦ absurd (let n = same_origin op (IsTcpCreate contexts ctx family) (NamesSide c.front l) o r in names_none o.origin ctx family n.handle o.holds n.named)
        | inr e ↦ e
      ]

  udp_hands_own : (op l : OpId) (ctx : ℕ) (family : SocketAddressFamily) (peer : IpSocketAddress) (t u : Told) → Has log (entry op (UdpCreate ctx family) t) → Has log (entry op (Hand l peer) u) → op ≡ l
  udp_hands_own op l ctx family peer t u i j =
      let c = cut_of log _ j in
      let o = udp_created_by op ctx family t i in
      elim (may_at _ c).0 [
        | inl r ↦ absurd (let n = same_origin op (IsUdpCreate contexts ctx family) (NamesSide c.front l) o r in udp_names_none o.origin ctx family n.handle o.holds n.named)
        | inr e ↦ e
      ]

  one_hand : (op l m : OpId) (p q : IpSocketAddress) (t u : Told) → Has log (entry op (Hand l p) t) → Has log (entry op (Hand m q) u) → l ≡ m
  one_hand op l m p q t u i j =
      let c = cut_of log _ i in
      let d = cut_of log _ j in
      let a = may_at _ c in
      let b = may_at _ d in
      elim (same_or_before c.front d.front _ _ c.back d.back (sym c.is ∙ d.is)) [
        | inl e ↦ (let f = entry_call _ _ e in cc)
        | inr e ↦ elim e [ inl x ↦ absurd (b.2 l p t x) | inr x ↦ absurd (a.2 m q u x) ]
      ]

  created_once : (c d : ℕ) (f g : SocketAddressFamily) (s : OpId) (t : Told) → Has log (entry s (TcpCreate c f) t) → IsMaker log d g s → (c ≡ d) × (f ≡ g)
  created_once c d f g side t i (Created s u j) =
      let a = created_by side c f t i in
      let b = created_by side d g u j in
      one_create a.origin c d f g a.holds (same_origin side (IsTcpCreate contexts c f) (IsTcpCreate contexts d g) a b)
  created_once c d f g side t i (UdpCreated s u j) = absurd (kinds_apart c d f g side t u i j)
  created_once c d f g side t i (Handed s l p u j m) =
      let e = hands_own side l c f p t u i j in
      created_once c d f g l t (subst (λ (o : OpId). Has log (entry o (TcpCreate c f) t)) e i) m

  udp_created_once : (c d : ℕ) (f g : SocketAddressFamily) (s : OpId) (t : Told) → Has log (entry s (UdpCreate c f) t) → IsMaker log d g s → (c ≡ d) × (f ≡ g)
  udp_created_once c d f g side t i (Created s u j) = absurd (kinds_apart d c g f side u t j i)
  udp_created_once c d f g side t i (UdpCreated s u j) =
      let a = udp_created_by side c f t i in
      let b = udp_created_by side d g u j in
      one_udp_create a.origin c d f g a.holds (same_origin side (IsUdpCreate contexts c f) (IsUdpCreate contexts d g) a b)
  udp_created_once c d f g side t i (Handed s l p u j m) =
      let e = udp_hands_own side l c f p t u i j in
      udp_created_once c d f g l t (subst (λ (o : OpId). Has log (entry o (UdpCreate c f) t)) e i) m

  pub one_maker : (c d : ℕ) (f g : SocketAddressFamily) (side : OpId) → IsMaker log c f side → IsMaker log d g side → (c ≡ d) × (f ≡ g)
  one_maker c d f g side (Created s t i) m = created_once c d f g side t i m
  one_maker c d f g side (UdpCreated s t i) m = udp_created_once c d f g side t i m
  one_maker c d f g side (Handed s l p t i k) (UdpCreated v u j) = let e = udp_created_once d c g f side u j (Handed side l p t i k) in (sym e.0, sym e.1)
  one_maker c d f g side (Handed s l p t i k) (Created v u j) = let e = created_once d c g f side u j (Handed side l p t i k) in (sym e.0, sym e.1)
  one_maker c d f g side (Handed s l p t i k) (Handed v m q u j n) = one_maker c d f g l k (subst (IsMaker log d g) (sym (one_hand side l m p q t u i j)) n)
