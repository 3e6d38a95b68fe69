-- The marks of 0.3's listens and accepts are licensed: that of a listener, and that of a socket that was accepted, or of a fault.
use Rattle.wasi_walks.proofs.Words.{Allows, Call, Entry, Has, IsMarkOf, IsMarkedWith, IsSide, Kind, List, None, OpId, Option}
use Rattle.wasi_walks.proofs.Words.{Some, GuestCall, Step, TcpRecord, Told, WasiSocketsCtx, [], allows_weaker, ap, entry, inl, inr, kind_at, make_asks}
use Rattle.wasi_walks.proofs.Words.{own_of, refl, side_at, step_at, subst, sym, ℕ, ◌++◌, ◌∙◌, ◌∷◌, ◌≡◌, ◌⊎◌}
use Rattle.wasi_walks.specs.Licence.{IsTcpName}
use Rattle.wasi_walks.proofs.Lists.{has_last}
use Rattle.wasi_walks.proofs.claims.Law.{Named}
use Rattle.wasi_walks.proofs.walks.Here.{IsToCome}
use Rattle.wasi_walks.proofs.walks.Moves.{Faulted, Found, Here, Joined, ListensFor, Own, P3, Past, ToListen, Unused, Used, record_of}
use Rattle.wasi_walks.proofs.licence.State.{MakesListener, accept_name}
use Rattle.wasi_walks.proofs.licence.Frames.{Spared, Touches, same_record}
use Rattle.wasi_walks.proofs.licence.Line.{AcceptsFor, IsAccept, Licensed, MakingStands, NotMarked, names_record, remade}
use Rattle.wasi_walks.proofs.licence.Marks.{made_fine, new_names}
use Rattle.wasi_walks.proofs.licence.UdpMarks.{mark_fine}
use Rattle.wasi_walks.proofs.licence.Unbound.{MayAskSo}
use Rattle.host_store.specs.Kinds.{tcp3_of}
use Rattle.host_store.specs.declared.kind.Kind.TheVariants.{Listen3, Tcp3}
use Rattle.wasi_records.specs.Records.{tcp2_at}
use Rattle.wasi_world.specs.declared.call.HandleKind.TheVariants as name
use Rattle.wasi_steps.specs.declared.guest_call.TcpCall.{TcpCall}
use Rattle.wasi_steps.specs.declared.guest_call.P3TcpCall.{P3TcpCall}

module _ (contexts : List WasiSocketsCtx) (steps : List Step) (line : ℕ) (origin : Step) (is_line : step_at steps line ≡ Some origin) where
  -- == a listener
  listener_mark : (es : List Entry) (op : OpId) (handle : ℕ) (sock : Option OpId) → IsMarkedWith es handle sock → (s : Step) → ListensFor (Some handle) s → IsMarkOf es op name.Listen3 (Some handle) sock s
  listener_mark es op handle sock w (Step.Call c (GuestCall.P3Tcp (P3TcpCall.Listen socket))) e = (refl, (ap (λ (n : ℕ). Some n) (sym e), subst (λ (n : ℕ). IsMarkedWith es n sock) (sym e) w))
  listener_mark es op handle sock w _ e = absurd e

  -- an accept is no listen
  no_listen : (n handle : ℕ) → MakesListener steps n (Some handle) → IsAccept origin → own_of n ≡ own_of line → ⊥
  no_listen n handle b is e =
      let p : step_at steps line ≡ Some b.origin = subst (λ (o : OpId). step_at steps o.step ≡ Some b.origin) e b.at in
      let q : origin ≡ b.origin = cc in
      no_accept b.origin b.holds (subst IsAccept q is)
    where
      no_accept : (s : Step) → ListensFor (Some handle) s → IsAccept s → ⊥
      no_accept (Step.Call c (GuestCall.Tcp (TcpCall.Accept listener))) m is = m
      no_accept (Step.Call c (GuestCall.P3Tcp (P3TcpCall.Accept listener remaining))) m is = m
      no_accept _ m is = is

  no_tcp : IsTcpName name.Listen3 → ⊥
  no_tcp (inl p) = absurd (cc)
  no_tcp (inr p) = absurd (cc)

  of_tcp : (k : Option Kind) (p : ℕ) → tcp3_of k ≡ Some p → record_of k ≡ Some p
  of_tcp (Some (Tcp3 q)) p d = d
  of_tcp _ p d = absurd (cc)

  pub listener_marked : (es : List Entry) (h : Here) (n handle reached place : ℕ) → h.made ≡ ToListen n (Some handle) reached → tcp3_of (kind_at h.machine.table handle) ≡ Some place → Licensed contexts steps line origin es h
      → Allows (MayAskSo contexts steps) (λ fs made. Licensed contexts steps line origin fs (record h { machine = record h.machine { table = made.1 }; made = Past })) es (make_asks h.machine.table (own_of n) (Listen3 place) (Some handle) (side_at (tcp2_at h.machine.store.records place)))
  listener_marked es h n handle reached place m e i =
      let sock = side_at (tcp2_at h.machine.store.records place) in
      let b : MakesListener steps n (Some handle) = subst (MakingStands steps) m i.making in
      let k = names_record es h.machine.store.records handle place (kind_at h.machine.table handle) (of_tcp (kind_at h.machine.table handle) place e) (i.fine.handles handle) in
      let w : IsMarkedWith es handle sock = subst (IsMarkedWith es handle) (sym (ap side_at k.at)) k.marked in
      allows_weaker (MayAskSo contexts steps) (λ fs made. Licensed contexts steps line origin fs (record h { machine = record h.machine { table = made.1 } })) (λ fs made. Licensed contexts steps line origin fs (record h { machine = record h.machine { table = made.1 }; made = Past }))
      (λ fs made k. remade fs (record h { machine = record h.machine { table = made.1 } }) Past tt tt k) es _
      (mark_fine contexts steps line origin is_line es h (own_of n) (Listen3 place) (Some handle) sock (record { origin = b.origin; at = b.at; holds = listener_mark es (own_of n) handle sock w b.origin b.holds }) (no_listen n handle b) no_tcp
      (λ t. (record { found = k.found; at = k.at; marked = record { op = own_of n; kind = name.Listen3; parent = Some handle; told = t; mark = marked_of t k.found k.at } }, tt, tt, tt)) i)
    where
      marked_of : (t : Told) (r : TcpRecord) → tcp2_at h.machine.store.records place ≡ Some r
          → (let sock = side_at (tcp2_at h.machine.store.records place) in let e = entry (own_of n) (Call.Made h.machine.table.next name.Listen3 (Some handle) sock) t in Has (es ++ e ∷ []) (entry (own_of n) (Call.Made h.machine.table.next name.Listen3 (Some handle) r.side) t))
      marked_of t r d =
          let sock = side_at (tcp2_at h.machine.store.records place) in
          let e = entry (own_of n) (Call.Made h.machine.table.next name.Listen3 (Some handle) sock) t in
          subst (λ (o : Option OpId). Has (es ++ e ∷ []) (entry (own_of n) (Call.Made h.machine.table.next name.Listen3 (Some handle) o) t)) (ap side_at d) (has_last es e)

  -- == a socket that was accepted, and that of a fault
  abbrev Mark : Here → Option ℕ → Option OpId → Call
  Mark h parent sock = Call.Made h.machine.table.next name.Tcp3 parent sock

  -- what its mark says, and that it is the name of no accept
  abbrev Says : List Entry → Here → ℕ → ℕ → ℕ → ℕ → Type 0
  Says es h c s remaining place = (let sock = side_at (tcp2_at h.machine.store.records place) in IsMarkOf es (own_of line) name.Tcp3 (Some s) sock (Step.Call c (GuestCall.P3Tcp (P3TcpCall.Accept s remaining))) × Spared h.machine.store.records (own_of line) (Mark h (Some s) sock))

  pub plain_marked : (es : List Entry) (h : Here) (c s remaining place : ℕ) (r : TcpRecord) → origin ≡ Step.Call c (GuestCall.P3Tcp (P3TcpCall.Accept s remaining)) → (h.made ≡ Joined P3 place) ⊎ (h.made ≡ Faulted place) → h.own ≡ Used → Found h place r → Named line h → Licensed contexts steps line origin es h
      → Allows (MayAskSo contexts steps) (λ fs made. Licensed contexts steps line origin fs (record h { machine = record h.machine { table = made.1 }; made = Past })) es (make_asks h.machine.table (own_of line) (Tcp3 place) (Some s) (side_at (tcp2_at h.machine.store.records place)))
  plain_marked es h c s remaining place r is either o g b i =
      let sock = side_at (tcp2_at h.machine.store.records place) in
      let says = so either in
      made_fine contexts steps line origin is_line es (record h { made = Past }) (Tcp3 place) (Some s) sock (record { origin = origin; at = is_line; holds = subst (IsMarkOf es (own_of line) name.Tcp3 (Some s) sock) (sym is) says.0 }) says.1
      (λ a u. elim u [ inl p ↦ (let q : Used ≡ Unused = sym o ∙ p in absurd (cc)) | inr p ↦ p ])
      (λ x t a d. elim t [ inl to ↦ subst (λ (own : Own). IsToCome line own x) o to | inr p ↦ (let q : Past ≡ Joined p.0 p.1.0 = p.1.1 in absurd (cc)) ])
      (λ t. (new_names contexts steps line origin is_line es h h.machine.table.next place name.Tcp3 (Some s) r t g, tt, tt, tt))
      (remade es h Past tt tt i)
    where
      apart_there : (new : OpId) (p : ℕ) (q : TcpRecord) (x : OpId) → Found h p q → accept_name q.listening ≡ Some x → new ≡ x → r.side ≡ Some new → ⊥
      apart_there new p q x d m t v =
          let w : accept_name q.listening ≡ Some new = m ∙ ap (λ (y : OpId). Some y) (sym t) in
          let at : place ≡ p = b.one new place p r q g d (inl v) (inr w) in
          let same : r ≡ q = same_record r q (sym g ∙ (ap (tcp2_at h.machine.store.records) at ∙ d)) in
          b.apart new place r g v (ap (λ (y : TcpRecord). accept_name y.listening) same ∙ w)

      so : (h.made ≡ Joined P3 place) ⊎ (h.made ≡ Faulted place) → Says es h c s remaining place
      so (inl e) =
          let j = i.joined P3 place e in
          let sock = side_at (tcp2_at h.machine.store.records place) in
          let its : sock ≡ Some j.new = ap side_at g ∙ j.side r g in
          let same : j.listener ≡ s = sym (subst (AcceptsFor P3 j.listener) is j.by) in (
            inl (record { first = i.unmade (inr (subst NotMarked (sym e) tt)) (subst IsAccept (sym is) tt); socket = refl; under = refl; accept = j.new; side = its; on = j.on; of_listener = subst (λ (x : ℕ). IsSide es x j.on) same j.of_listener; peer = j.peer; told = j.handed.told; handed = j.handed.hand; fresh = j.fresh }),
            λ p q x d m t. apart_there j.new p q x d m (subst (λ (y : Option OpId). Touches (own_of line) (Mark h (Some s) y) x) its t) (j.side r g),
          )
      so (inr e) =
          let none : side_at (tcp2_at h.machine.store.records place) ≡ None = ap side_at g ∙ i.faulted place e r g in
          (inr (refl, refl, none), λ p q x d m t. subst (λ (y : Option OpId). Touches (own_of line) (Mark h (Some s) y) x) none t)
