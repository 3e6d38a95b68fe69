-- Of a TCP socket that isn't bound no other local address was told than the wildcard: how that stays as the state moves, and where
-- something is asked.
use Rattle.wasi_records.specs.Records.{slot_pushed}
use Rattle.wasi_walks.proofs.PipeLists.{slot_push_same}
use Rattle.wasi_walks.proofs.Words.{allows_keep, Allows, Asks, Call, Entry, Has, List, OpId}
use Rattle.wasi_walks.proofs.Words.{Some, Step, TcpRecord, TcpState, Told, WasiSocketsCtx, [], ap, entry, false, inl, inr, gone}
use Rattle.wasi_walks.proofs.Words.{◌+◌}
use Rattle.wasi_walks.proofs.Words.{refl, subst, sym, ℕ, ◌++◌, ◌∙◌, ◌∷◌, ◌≡◌}
use Rattle.wasi_records.specs.Records.{tcp2_at, tcp2_of, tcp2_pushed}
use Rattle.lookup_records.specs.declared.name_lookup.LookupOp.{LookupOp}
use Rattle.wasi_records.specs.declared.records.Record.{Record}
use Rattle.udp_records.specs.Udp.{without_udp_socket}
use Rattle.udp_records.specs.declared.udp.UdpRecord.{UdpRecord}
use Rattle.wasi_walks.proofs.GoneLists.{was_there}
use Rattle.wasi_walks.proofs.Lists.{has_split}
use Rattle.wasi_walks.proofs.Places.{push_new, put_found, put_was, tcp_sort, udp_sort}
use Rattle.wasi_walks.proofs.fits.Polls.{Anything}
use Rattle.wasi_walks.proofs.walks.Here.{Grows, IsOlder, grows_to, next_grows, older_unused, older_used}
use Rattle.wasi_walks.proofs.walks.Moves as walk
use Rattle.wasi_walks.proofs.walks.Moves.{Found, Here, Move, Names, Own, SameSockets, ToConnect, Unused, Used, accepting_now, put, put_udp, with_records}
use Rattle.wasi_walks.proofs.licence.Binds.{MayQuietly, NoLocal}
use Rattle.wasi_walks.proofs.licence.Unbound.{OnlyWild, wild_more}

-- its own
abbrev pub WildIn : List Entry → TcpRecord → Type 0
WildIn es r = (side : OpId) → r.inner.state ≡ TcpState.Default side → r.inner.bound ≡ false → OnlyWild es side r.inner.family

-- Each record's is, and no network socket was asked whose name isn't given yet.
pub record Wilds (line : ℕ) (es : List Entry) (h : Here) : Type 0 where
  pub wild : (place : ℕ) (r : TcpRecord) → Found h place r → WildIn es r
  pub older : (x op : OpId) (t : Told) → Has es (entry op (Call.Local x) t) → IsOlder line h.own x

-- where the one isn't bound, the other wasn't
abbrev pub KeepsWild : TcpRecord → TcpRecord → Type 0
KeepsWild r now = (side : OpId) → now.inner.state ≡ TcpState.Default side → now.inner.bound ≡ false → (r.inner.state ≡ TcpState.Default side) × (r.inner.bound ≡ false) × (now.inner.family ≡ r.inner.family)

pub wild_kept : (es : List Entry) (r now : TcpRecord) → KeepsWild r now → WildIn es r → WildIn es now
wild_kept es r now k w side s b = let q = k side s b in subst (OnlyWild es side) (sym q.2) (w side q.0 q.1)

same : (r : TcpRecord) → KeepsWild r r
same r side s b = (s, b, refl)

-- any but a call for a local address
abbrev pub Unlocal : List Entry → OpId → Call → Type 0
Unlocal es op c = NoLocal c

module _ {line : ℕ} where
  -- == moves
  -- what the line has begun changes
  pub own_wild : {es : List Entry} {h : Here} (own : Own) → Grows line h.own own → Wilds line es h → Wilds line es (record h { own = own })
  own_wild own l w = record { wild = w.wild; older = λ x op t e. l x (w.older x op t e) }

  pub spent_wild : {es : List Entry} {h : Here} → Wilds line es h → Wilds line es (record h { own = Used })
  spent_wild {h = h} w = own_wild Used (older_used line h.own) w

  -- a record changes
  pub put_wild_to : {es : List Entry} (h : Here) (place : ℕ) (r now : TcpRecord) → WildIn es now → Wilds line es h → Wilds line es (put h place now)
  put_wild_to {es = es} h place r now f w = record {
    wild = λ k q g. elim (put_found tcp_sort h.machine.store.records place now k q g) [ inl p ↦ subst (WildIn es) p.1 f | inr p ↦ w.wild k q p ];
    older = w.older;
  }

  pub put_wild : {es : List Entry} (h : Here) (place : ℕ) (r now : TcpRecord) → Found h place r → KeepsWild r now → Wilds line es h → Wilds line es (put h place now)
  put_wild {es = es} h place r now g k w = put_wild_to h place r now (wild_kept es r now k (w.wild place r g)) w

  pub put_udp_wild : {es : List Entry} (h : Here) (place : ℕ) (now : UdpRecord) → Wilds line es h → Wilds line es (put_udp h place now)
  put_udp_wild h place now w = record { wild = λ k q g. w.wild k q (put_was udp_sort tcp_sort (λ t. refl) h.machine.store.records place now k q g); older = w.older }

  -- a record more, which is bound or has no network socket
  joins_wild : {es : List Entry} (h : Here) (now : TcpRecord) → WildIn es now → Wilds line es h → (k : ℕ) (q : TcpRecord) → tcp2_at (tcp2_pushed h.machine.store.records now) k ≡ Some q → WildIn es q
  joins_wild {es = es} h now f w k q g = elim (push_new tcp_sort h.machine.store.records now k q g) [ inl p ↦ w.wild k q p | inr p ↦ subst (WildIn es) p f ]

  -- other records with the same sockets
  pub records_wild : {new : LookupOp → Type 0} {es : List Entry} (h : Here) (records : List Record) → SameSockets new h.machine.store.records records → Wilds line es h → Wilds line es (with_records h records)
  records_wild h records s w = record { wild = λ k q g. w.wild k q (sym (s.tcp k) ∙ g); older = w.older }

  pub moves_wild : (origin : Step) (es : List Entry) (h now : Here) → Move line origin h now → Wilds line es h → Wilds line es now
  moves_wild origin es _ _ (walk.Spends h e) w = spent_wild w
  moves_wild origin es _ _ (walk.SpendsNames h n e) w = spent_wild w
  moves_wild origin es _ _ (walk.EndsConnect h place e over) w = spent_wild w
  moves_wild origin es _ _ (walk.RecallsStreams h ids place handle e own) w = record { wild = w.wild; older = λ x op t e. older_used line h.own x (w.older x op t e) }
  moves_wild origin es _ _ (walk.RecallsConnect h ids place e own) w = own_wild (ToConnect place) (older_used line h.own) w
  moves_wild origin es _ _ (walk.Counts h e) w = own_wild (Names 1) (grows_to line h.own Unused (Names 1) e (older_unused line (Names 1))) w
  moves_wild origin es _ _ (walk.Changes h place r now g p) w = put_wild h place r now g (λ side s b. (sym p.does ∙ s, p.stays b, p.family)) w
  moves_wild origin es _ _ (walk.ClosesReader h place r s g e) w = put_wild h place r _ g (same r) w
  moves_wild origin es _ _ (walk.Writes h place r s x g e m) w = put_wild h place r _ g (same r) w
  moves_wild origin es _ _ (walk.IsGone h place r q g e) w = put_wild h place r (gone r r.inner) g (λ side s b. (s, b, refl)) w
  moves_wild origin es _ _ (walk.Reconnects h place r c now g e s t u) w = put_wild h place r _ g (λ side s b. absurd (cc)) w
  moves_wild origin es _ _ (walk.Opens h place r c d g e n) w = put_wild h place r _ g (λ side s b. absurd (cc)) w
  moves_wild origin es _ _ (walk.BeginsConnect h place r side a bound at g d to known idle own) w = spent_wild (put_wild h place r _ g (λ side s b. absurd (cc)) w)
  moves_wild origin es _ _ (walk.BeginsBind h place r side a at g d to own) w = spent_wild (put_wild h place r _ g (same r) w)
  moves_wild origin es _ _ (walk.BeginsWrite h place n r s half permit bytes at g e x within own) w = spent_wild (put_wild h place r _ g (same r) w)
  moves_wild origin es _ _ (walk.BeginsListen h place r side bound at g d known un none to idle own) w = spent_wild (put_wild h place r _ g (λ side s b. absurd (cc)) w)
  moves_wild origin es _ _ (walk.Unlistens h place r op q g e c o) w = put_wild h place r _ g (same r) w
  moves_wild origin es _ _ (walk.Forgets h place r l c g e a) w = put_wild h place r _ g (same r) w
  moves_wild origin es _ _ (walk.Joins h c handle place r l new peer is of u g e a) w =
      let j = joins_wild {es = es} (put h place (accepting_now r l _)) (walk.joined l new peer) (λ side s b. absurd (cc)) (put_wild h place r _ g (same r) w) in record { wild = j; older = w.older }
  moves_wild origin es _ _ (walk.JoinsPlain h c listener remaining place r l new peer is of u g e a) w =
      let j = joins_wild {es = es} (put h place (accepting_now r l _)) (walk.joined_plain l new peer) (λ side s b. absurd (cc)) (put_wild h place r _ g (same r) w) in record { wild = j; older = w.older }
  moves_wild origin es _ _ (walk.JoinsFault h place r l c u g e a) w =
      let j = joins_wild {es = es} (put h place (accepting_now r l _)) (walk.faulted l c) (λ side s b. absurd (cc)) (put_wild h place r _ g (same r) w) in record { wild = j; older = w.older }
  moves_wild origin es _ _ (walk.BeginsAccept h place n r l at g e a o) w = own_wild (Names (n + 1)) (next_grows line n h.own o) (put_wild h place r _ g (same r) w)
  moves_wild origin es _ _ (walk.UdpChanges h place o now g p keeps) w = put_udp_wild h place _ w
  moves_wild origin es _ _ (walk.BeginsUdpBind h place o a at g to own) w = spent_wild (put_udp_wild h place _ w)
  moves_wild origin es _ _ (walk.BeginsUdpConnect h place o a bound at g to known none own) w = own_wild (ToConnect place) (older_used line h.own) (put_udp_wild h place _ w)
  moves_wild origin es _ _ (walk.BeginsSend h place n o out d bound at g e is known own) w = own_wild (Names (n + 1)) (next_grows line n h.own own) (put_udp_wild h place _ w)
  moves_wild origin es _ _ (walk.BeginsReceive h place n o inc bound at g e is own) w = own_wild (Names (n + 1)) (next_grows line n h.own own) (put_udp_wild h place _ w)
  moves_wild origin es _ _ (walk.CancelsBind h place r op q g e) w = put_wild h place r _ g (same r) w
  moves_wild origin es _ _ (walk.CancelsUdpBind h place o op q g e) w = put_udp_wild h place _ w
  moves_wild origin es _ _ (walk.CancelsUdpConnect h place o q g) w = put_udp_wild h place _ w
  moves_wild origin es _ _ (walk.TakesEnd h handle place r _ of g (walk.OfReceive c e free)) w = put_wild h place r _ g (λ side s b. absurd (cc)) w
  moves_wild origin es _ _ (walk.TakesEnd h handle place r _ of g (walk.OfSend c e free)) w = put_wild h place r _ g (λ side s b. absurd (cc)) w
  moves_wild origin es _ _ (walk.AddsSlot h s) w = let k = records_wild {new = λ op. ⊥} h (slot_pushed h.machine.store.records s) (slot_push_same h.machine.store.records s) w in record { wild = k.wild; older = k.older }
  moves_wild origin es _ _ (walk.Finds h records s) w = records_wild h records s w
  moves_wild origin es _ _ (walk.DropsUdp h place o idle made g) w = (let k = put_udp_wild h place (UdpRecord.Open (without_udp_socket o)) w in record { wild = k.wild; older = k.older })
  moves_wild origin es _ _ (walk.GivesBack h place idle left) w = record { wild = λ k q g. w.wild k q (was_there tcp2_of refl h.machine.store.records place k q g); older = w.older }
  moves_wild origin es _ _ _ w = record { wild = w.wild; older = w.older }

  -- == what is asked
  -- one call, which isn't for the local address of a socket that isn't bound
  pub asked_wild : (es : List Entry) (h : Here) (op : OpId) (c : Call) (told : Told) → ((k : ℕ) (q : TcpRecord) (side : OpId) → Found h k q → q.inner.state ≡ TcpState.Default side → q.inner.bound ≡ false → c ≡ Call.Local side → ⊥) → ((x : OpId) → c ≡ Call.Local x → IsOlder line h.own x)
      → Wilds line es h → Wilds line (es ++ entry op c told ∷ []) h
  asked_wild es h op c told n o w = record {
    wild = λ k q g side s b. wild_more es op c told side q.inner.family (n k q side g s b) (w.wild k q g side s b);
    older = λ x at t e. elim (has_split es (entry op c told) (entry at (Call.Local x) t) e) [ inl old ↦ w.older x at t old | inr new ↦ o x (let p : c ≡ Call.Local x = ap (λ (y : Entry). y.call) new in p) ];
  }

  -- one for no local address
  pub quiet_wild : (es : List Entry) (h : Here) (op : OpId) (c : Call) (told : Told) → NoLocal c → Wilds line es h → Wilds line (es ++ entry op c told ∷ []) h
  quiet_wild es h op c told n w = asked_wild es h op c told (λ k q side g s b e. subst NoLocal e n) (λ x e. absurd (subst NoLocal e n)) w

  pub kept_wild : {A : Type 0} (h : Here) (Q : List Entry → A → Type 0) (es : List Entry) (asks : Asks A) → Wilds line es h → Allows Unlocal Q es asks → Allows Anything (λ fs a. Wilds line fs h × Q fs a) es asks
  kept_wild h Q es asks w a = allows_keep Unlocal Anything (λ fs. Wilds line fs h) Q (λ fs op c t f k n. quiet_wild fs h op c t n k) (λ fs op c n. tt) es asks w a

  -- what is allowed quietly
  pub quietly_wild : {A : Type 0} (contexts : List WasiSocketsCtx) (steps : List Step) (h : Here) (Q : List Entry → A → Type 0) (es : List Entry) (asks : Asks A) → Wilds line es h → Allows (MayQuietly contexts steps) Q es asks → Allows Anything (λ fs a. Wilds line fs h × Q fs a) es asks
  quietly_wild contexts steps h Q es asks w a = allows_keep (MayQuietly contexts steps) Anything (λ fs. Wilds line fs h) Q (λ fs op c t f k m. quiet_wild fs h op c t m.1 k) (λ fs op c m. tt) es asks w a
