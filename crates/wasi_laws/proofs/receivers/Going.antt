-- The receives in progress: which of them stay, and what is known of their names while a log grows.
use Rattle.wasi_world.specs.declared.call.Call.TheVariants as call
use Rattle.std.specs.Prelude.{◌==◌, if◌then◌else◌, Bool, true, false}
use Rattle.std.proofs.Common.{eqb-true}
use Rattle.host_store.specs.Beside.{beside_in, beside_with, beside_without}
use Rattle.host_store.specs.declared.beside.Beside.{Beside}
use Rattle.host_store.specs.declared.beside.BesideCall.{BesideCall}
use Rattle.host_store.specs.declared.beside.BesideCall.TheVariants as beside_call
use Rattle.wasi_walks.proofs.BesideLists.{with_at, with_other, without_at, without_other}
use Rattle.wasi_records.specs.Numbered.{record_gone}
use Rattle.wasi_records.specs.Records.{tcp2_put, tcp2_pushed, udp2_at, udp2_of, udp2_put, udp2_pushed}
use Rattle.wasi_records.specs.declared.records.Record.{Record}
use Rattle.udp_records.specs.declared.udp.UdpRecord.{UdpRecord}
use Rattle.wasi_walks.proofs.GoneLists.{was_there}
use Rattle.wasi_walks.proofs.Places.{push_found, push_was, put_found, put_was, tcp_sort, udp_sort}
use Rattle.wasi_walks.proofs.walks.Here.{Grows, IsOlder}
use Rattle.wasi_walks.proofs.walks.Later.{GivesLater}
use Rattle.wasi_walks.proofs.walks.Moves.{KeepsOp, receiving_in}
use Rattle.wasi_laws.specs.Receivers.{AsksToReceive}
use Rattle.wasi_laws.proofs.Words.{arith, own_of, Call, Entry, List, None, OpId, Operation, Option, Own, Some, TcpRecord, Told, Who, [], ap, entry, has_split, inl, inr, refl, subst, sym, ℕ, ⊤, ◌++◌, ◌∙◌, ◌∷◌, ◌≡◌, ◌≤◌, ◌⊎◌}
use Rattle.wasi_laws.proofs.asks.Fronts.{NoRecv}
use Rattle.wasi_laws.proofs.shapes.Shape.{SocketsStay}

-- == among the records
-- who asks, where a receive is in progress
abbrev pub who_of : Option Operation → Option Who
who_of None = None
who_of (Some op) = Some op.who

abbrev pub receiver : UdpRecord → Option Who
receiver (UdpRecord.Open o) = who_of (receiving_in o.incoming)
receiver u = None

-- A UDP socket receives by this.
pub record Going (records : List Record) (w : Who) : Type 0 where
  pub place : ℕ
  pub socket : UdpRecord
  pub at : udp2_at records place ≡ Some socket
  pub receives : receiver socket ≡ Some w

-- its receive is as it was, or is over
abbrev pub GoesOrEnds : UdpRecord → UdpRecord → Type 0
GoesOrEnds old now = (receiver now ≡ receiver old) ⊎ (receiver now ≡ None)

pub goes_or_ends : (old now : Option Operation) → KeepsOp old now → (who_of now ≡ who_of old) ⊎ (who_of now ≡ None)
goes_or_ends old now (inl e) = inl (ap who_of e)
goes_or_ends old now (inr e) = inr (ap who_of e)

no_who : (o : Option Who) (w : Who) → o ≡ None → o ≡ Some w → ⊥
no_who o w n e = let k : None ≡ Some w = sym n ∙ e in absurd (cc)

pub one_who : (o : Option Who) (v w : Who) → o ≡ Some v → o ≡ Some w → v ≡ w
one_who o v w e f = let k : Some v ≡ Some w = sym e ∙ f in cc

-- what is in progress after a change was before it
module _ (records : List Record) (w : Who) where
  pub of_tcp : (place : ℕ) (now : TcpRecord) → Going (tcp2_put records place now) w → Going records w
  of_tcp place now g = record { place = g.place; socket = g.socket; at = put_was tcp_sort udp_sort (λ t. refl) records place now g.place g.socket g.at; receives = g.receives }

  pub of_more_tcp : (now : TcpRecord) → Going (tcp2_pushed records now) w → Going records w
  of_more_tcp now g = record { place = g.place; socket = g.socket; at = push_was tcp_sort udp_sort (λ t. refl) records now g.place g.socket g.at; receives = g.receives }

  pub of_udp : (place : ℕ) (old now : UdpRecord) → udp2_at records place ≡ Some old → GoesOrEnds old now → Going (udp2_put records place now) w → Going records w
  of_udp place old now at keeps g = elim (put_found udp_sort records place now g.place g.socket g.at) [
    | inl p ↦ elim keeps [
      | inl same ↦ record { place = place; socket = old; at = at; receives = sym same ∙ (ap receiver p.1 ∙ g.receives) }
      | inr none ↦ absurd (no_who (receiver now) w none (ap receiver p.1 ∙ g.receives))
    ]
    | inr p ↦ record { place = g.place; socket = g.socket; at = p; receives = g.receives }
  ]

  pub of_more_udp : (now : UdpRecord) → receiver now ≡ None → Going (udp2_pushed records now) w → Going records w
  of_more_udp now none g = elim (push_found udp_sort records now g.place g.socket g.at) [
    | inl p ↦ record { place = g.place; socket = g.socket; at = p; receives = g.receives }
    | inr p ↦ absurd (no_who (receiver now) w none (ap receiver p.0 ∙ g.receives))
  ]

  pub of_same : (now : List Record) → SocketsStay records now → Going now w → Going records w
  of_same now s g = record { place = g.place; socket = g.socket; at = sym (s.udp g.place) ∙ g.at; receives = g.receives }

  pub of_fewer : (place : ℕ) → Going (record_gone records place) w → Going records w
  of_fewer place g = record { place = g.place; socket = g.socket; at = was_there udp2_of refl records place g.place g.socket g.at; receives = g.receives }

-- the one that begins, or one that was in progress
begun_or : (records : List Record) (place : ℕ) (now : UdpRecord) (w v : Who) → receiver now ≡ Some w → Going (udp2_put records place now) v → (w ≡ v) ⊎ Going records v
begun_or records place now w v is g = elim (put_found udp_sort records place now g.place g.socket g.at) [
  | inl p ↦ inl (one_who (receiver now) w v is (ap receiver p.1 ∙ g.receives))
  | inr p ↦ inr (record { place = g.place; socket = g.socket; at = p; receives = g.receives })
]

-- == along a log
-- one entry more
asked_before : (es : List Entry) (op : OpId) (c : Call) (t : Told) (x side : OpId) → AsksToReceive (es ++ entry op c t ∷ []) x side → AsksToReceive es x side ⊎ ((op ≡ x) × (c ≡ call.Recv side))
asked_before es op c t x side a = elim (has_split es (entry op c t) (entry x (call.Recv side) a.told) a.asked) [
  | inl old ↦ inl (record { told = a.told; asked = old })
  | inr e ↦ inr (ap (λ (k : Entry). k.op) e, ap (λ (k : Entry). k.call) e)
]

-- == of calls beside others
-- a receive of 0.3 that a call keeps, by its network socket
abbrev pub receive_side : BesideCall → Option OpId
receive_side (beside_call.Receive place op) = Some op.who.side
receive_side _ = None

abbrev side_of_call : Option Beside → Option OpId
side_of_call None = None
side_of_call (Some b) = receive_side b.call

-- the call of this number receives on this network socket
abbrev pub ReceivesBeside : List Beside → ℕ → OpId → Type 0
ReceivesBeside calls n x = side_of_call (beside_in calls n) ≡ Some x

-- one of these, or one more
abbrev pub OneMore : (ℕ → OpId → Type 0) → ℕ → OpId → ℕ → OpId → Type 0
OneMore calls line side n x = ((n ≡ line) × (x ≡ side)) ⊎ calls n x

one_side : (o : Option OpId) (x y : OpId) → o ≡ Some x → o ≡ Some y → x ≡ y
one_side o x y e f = let k : Some x ≡ Some y = sym e ∙ f in cc

pub no_side : (o : Option OpId) (x : OpId) → o ≡ None → o ≡ Some x → ⊥
no_side o x e f = let k : None ≡ Some x = sym e ∙ f in absurd (cc)

pub beside_receives : (calls : List Beside) (n : ℕ) (b : Beside) (x : OpId) → beside_in calls n ≡ Some b → receive_side b.call ≡ Some x → ReceivesBeside calls n x
beside_receives calls n b x e r = ap side_of_call e ∙ r

pub beside_one : (calls : List Beside) (n : ℕ) (x y : OpId) → ReceivesBeside calls n x → ReceivesBeside calls n y → x ≡ y
beside_one calls n x y r s = one_side (side_of_call (beside_in calls n)) x y r s

not_same : (m n : ℕ) → (m == n) ≡ false → m ≡ n → ⊥
not_same m n e s = absurd (let p : (n == n) ≡ false = subst (λ (k : ℕ). (k == n) ≡ false) s e in let q : (n == n) ≡ true = grind arith in let z : true ≡ false = sym q ∙ p in cc)

-- one is over
pub beside_fewer : (calls : List Beside) (n m : ℕ) (x : OpId) → ReceivesBeside (beside_without calls n) m x → ReceivesBeside calls m x
beside_fewer calls n m x r = by_number (m == n) refl
  where
    by_number : (same : Bool) → (m == n) ≡ same → ReceivesBeside calls m x
    by_number true e = let at : m ≡ n = eqb-true m n e in absurd (no_side (side_of_call (beside_in (beside_without calls n) m)) x (ap (λ (k : ℕ). side_of_call (beside_in (beside_without calls n) k)) at ∙ ap side_of_call (without_at calls n)) r)
    by_number false e = ap side_of_call (sym (without_other calls n m (not_same m n e))) ∙ r

-- another call is in the place of one, which receives on the same socket, if it does
pub beside_changed : (calls : List Beside) (n : ℕ) (call : BesideCall) → ((y : OpId) → receive_side call ≡ Some y → ReceivesBeside calls n y) → (m : ℕ) (x : OpId) → ReceivesBeside (beside_with calls n call) m x → ReceivesBeside calls m x
beside_changed calls n call its m x r = by_number (m == n) refl
  where
    by_found : (o : Option Beside) → beside_in (beside_with calls n call) n ≡ o → side_of_call o ≡ Some x → ReceivesBeside calls n x
    by_found None e s = absurd (cc)
    by_found (Some b) e s = its x (ap receive_side (sym (with_at calls n call b e)) ∙ s)

    by_number : (same : Bool) → (m == n) ≡ same → ReceivesBeside calls m x
    by_number true e = let at : m ≡ n = eqb-true m n e in subst (λ (k : ℕ). ReceivesBeside calls k x) (sym at) (by_found (beside_in (beside_with calls n call) n) refl (subst (λ (k : ℕ). ReceivesBeside (beside_with calls n call) k x) at r))
    by_number false e = ap side_of_call (sym (with_other calls n call m (not_same m n e))) ∙ r

-- one more, which may receive
pub beside_more : (calls : List Beside) (b : Beside) (m : ℕ) (x : OpId) → ReceivesBeside (calls ++ b ∷ []) m x → ReceivesBeside calls m x ⊎ ((m ≡ b.line) × (receive_side b.call ≡ Some x))
beside_more [] b m x r = by_number (b.line == m) refl r
  where
    by_number : (same : Bool) → (b.line == m) ≡ same → side_of_call (if same then Some b else None) ≡ Some x → ReceivesBeside [] m x ⊎ ((m ≡ b.line) × (receive_side b.call ≡ Some x))
    by_number true e s = inr (sym (eqb-true b.line m e), s)
    by_number false e s = absurd (cc)
beside_more (c ∷ calls) b m x r = by_number (c.line == m) r (λ s. beside_more calls b m x s)
  where
    by_number : (same : Bool) → side_of_call (if same then Some c else beside_in (calls ++ b ∷ []) m) ≡ Some x → (ReceivesBeside (calls ++ b ∷ []) m x → ReceivesBeside calls m x ⊎ ((m ≡ b.line) × (receive_side b.call ≡ Some x)))
        → (side_of_call (if same then Some c else beside_in calls m) ≡ Some x) ⊎ ((m ≡ b.line) × (receive_side b.call ≡ Some x))
    by_number true s k = inl s
    by_number false s k = k s

-- Names of receives in progress are apart, were given, and aren't a line's first, but for those of calls beside others, which have
-- their lines' own; of the line of such a call R holds. What was asked by one of them was asked of its own network socket.
pub record Receivers (R : ℕ → Type 0) (line : ℕ) (own : Own) (es : List Entry) (records : List Record) (calls : ℕ → OpId → Type 0) : Type 0 where
  pub beside_older : (n : ℕ) (x : OpId) → calls n x → IsOlder line own (own_of n)
  pub beside_same : (n : ℕ) (x y : OpId) → calls n x → calls n y → x ≡ y
  pub beside_began : (n : ℕ) (x : OpId) → calls n x → R n
  pub beside_its : (n : ℕ) (x side : OpId) → calls n x → AsksToReceive es (own_of n) side → side ≡ x
  pub gives : GivesLater own
  pub names : (w : Who) → Going records w → (1 ≤ w.id.part) × IsOlder line own w.id
  pub apart : (v w : Who) → Going records v → Going records w → v.id ≡ w.id → v.side ≡ w.side
  pub older : (op side : OpId) → AsksToReceive es op side → IsOlder line own op
  pub its : (op side : OpId) (w : Who) → AsksToReceive es op side → Going records w → w.id ≡ op → side ≡ w.side

-- this may be asked: a receive by a later name, or of a line of which R holds, on the network socket that was asked before, where one was
abbrev pub MayReceive : (ℕ → Type 0) → List Entry → OpId → Call → Type 0
MayReceive R es op (call.Recv side) = ((1 ≤ op.part) ⊎ R op.step) × ((other : OpId) → AsksToReceive es op other → side ≡ other)
MayReceive R es op _ = ⊤

pub may_quietly : (R : ℕ → Type 0) (es : List Entry) (op : OpId) (c : Call) → NoRecv c → MayReceive R es op c
may_quietly R es op (call.Recv side) n = absurd n
may_quietly R es op _ n = tt

same_side : (a b : OpId) → call.Recv a ≡ call.Recv b → a ≡ b
same_side a b e = cc

-- a later name of a line is no first one
no_first : (id : OpId) (n : ℕ) → id ≡ own_of n → 1 ≤ id.part → ⊥
no_first id n e l = let z : id.part ≡ 0 = ap (λ (x : OpId). x.part) e in absurd (omega (arith, z, l))

module _ (R : ℕ → Type 0) (line : ℕ) (own : Own) (es : List Entry) (records : List Record) (calls : ℕ → OpId → Type 0) where
  -- no receive begins
  pub going_on : (now : List Record) → ((w : Who) → Going now w → Going records w) → Receivers R line own es records calls → Receivers R line own es now calls
  going_on now k i = record {
    beside_older = i.beside_older;
    beside_same = i.beside_same;
    beside_began = i.beside_began;
    beside_its = i.beside_its;
    gives = i.gives;
    names = λ w g. i.names w (k w g);
    apart = λ v w g h e. i.apart v w (k v g) (k w h) e;
    older = i.older;
    its = λ op side w a g e. i.its op side w a (k w g) e;
  }

  -- the line gives more names
  pub gives_more : (now : Own) → Grows line own now → GivesLater now → Receivers R line own es records calls → Receivers R line now es records calls
  gives_more now l later i = record {
    beside_older = λ n x r. l (own_of n) (i.beside_older n x r);
    beside_same = i.beside_same;
    beside_began = i.beside_began;
    beside_its = i.beside_its;
    gives = later;
    names = λ w g. ((i.names w g).0, l w.id (i.names w g).1);
    apart = i.apart;
    older = λ op side a. l op (i.older op side a);
    its = i.its;
  }

  -- a receive begins, by a name that wasn't given before
  pub receive_begins : (place : ℕ) (now : UdpRecord) (w : Who) (next : Own) → receiver now ≡ Some w → 1 ≤ w.id.part → (IsOlder line own w.id → ⊥) → IsOlder line next w.id → Grows line own next → GivesLater next → Receivers R line own es records calls
      → Receivers R line next es (udp2_put records place now) calls
  receive_begins place now w next is part new given l later i = record {
    beside_older = λ n x r. l (own_of n) (i.beside_older n x r);
    beside_same = i.beside_same;
    beside_began = i.beside_began;
    beside_its = i.beside_its;
    gives = later;
    names = λ v g. elim (begun_or records place now w v is g) [
      | inl e ↦ subst (λ (x : Who). (1 ≤ x.id.part) × IsOlder line next x.id) e (part, given)
      | inr h ↦ ((i.names v h).0, l v.id (i.names v h).1)
    ];
    apart = λ u v g h e. elim (begun_or records place now w u is g) [
      | inl a ↦ elim (begun_or records place now w v is h) [
        | inl b ↦ ap (λ (x : Who). x.side) (sym a ∙ b)
        | inr k ↦ absurd (not_it v k (ap (λ (x : Who). x.id) a ∙ e))
      ]
      | inr j ↦ elim (begun_or records place now w v is h) [
        | inl b ↦ absurd (not_it u j (ap (λ (x : Who). x.id) b ∙ sym e))
        | inr k ↦ i.apart u v j k e
      ]
    ];
    older = λ op side a. l op (i.older op side a);
    its = λ op side v a g e. elim (begun_or records place now w v is g) [
      | inl b ↦ absurd (new (subst (IsOlder line own) (sym (ap (λ (x : Who). x.id) b ∙ e)) (i.older op side a)))
      | inr h ↦ i.its op side v a h e
    ];
  }
    where
      not_it : (v : Who) → Going records v → w.id ≡ v.id → ⊥
      not_it v g e = new (subst (IsOlder line own) (sym e) (i.names v g).1)

  -- another call
  pub asked_else : (op : OpId) (c : Call) (t : Told) → NoRecv c → Receivers R line own es records calls → Receivers R line own (es ++ entry op c t ∷ []) records calls
  asked_else op c t n i = record {
    beside_older = i.beside_older;
    beside_same = i.beside_same;
    beside_began = i.beside_began;
    beside_its = λ m x side r a. i.beside_its m x side r (before (own_of m) side a);
    gives = i.gives;
    names = i.names;
    apart = i.apart;
    older = λ x side a. i.older x side (before x side a);
    its = λ x side w a g e. i.its x side w (before x side a) g e;
  }
    where
      before : (x side : OpId) → AsksToReceive (es ++ entry op c t ∷ []) x side → AsksToReceive es x side
      before x side a = elim (asked_before es op c t x side a) [ inl old ↦ old | inr new ↦ absurd (subst NoRecv new.1 n) ]

  -- a receive in progress asks
  pub may_receive : (w : Who) → Going records w → Receivers R line own es records calls → MayReceive R es w.id (call.Recv w.side)
  may_receive w g i = (inl (i.names w g).0, λ other a. sym (i.its w.id other w a g refl))

  pub asked_by_it : (w : Who) (t : Told) → Going records w → Receivers R line own es records calls → Receivers R line own (es ++ entry w.id (call.Recv w.side) t ∷ []) records calls
  asked_by_it w t g i = record {
    beside_older = i.beside_older;
    beside_same = i.beside_same;
    beside_began = i.beside_began;
    beside_its = λ m x side r a. elim (asked_before es w.id (call.Recv w.side) t (own_of m) side a) [ inl old ↦ i.beside_its m x side r old | inr new ↦ absurd (no_first w.id m new.0 (i.names w g).0) ];
    gives = i.gives;
    names = i.names;
    apart = i.apart;
    older = λ x side a. elim (asked_before es w.id (call.Recv w.side) t x side a) [ inl old ↦ i.older x side old | inr new ↦ subst (IsOlder line own) new.0 (i.names w g).1 ];
    its = λ x side v a h e. elim (asked_before es w.id (call.Recv w.side) t x side a) [
      | inl old ↦ i.its x side v old h e
      | inr new ↦ sym (same_side w.side side new.1) ∙ i.apart w v g h (new.0 ∙ sym e)
    ];
  }

  -- a receive of a call asks
  pub may_beside : (n : ℕ) (x : OpId) → calls n x → Receivers R line own es records calls → MayReceive R es (own_of n) (call.Recv x)
  may_beside n x r i = (inr (i.beside_began n x r), λ other a. sym (i.beside_its n x other r a))

  pub asked_beside : (n : ℕ) (x : OpId) (t : Told) → calls n x → Receivers R line own es records calls → Receivers R line own (es ++ entry (own_of n) (call.Recv x) t ∷ []) records calls
  asked_beside n x t r i = record {
    beside_older = i.beside_older;
    beside_same = i.beside_same;
    beside_began = i.beside_began;
    beside_its = λ m y side s a. elim (asked_before es (own_of n) (call.Recv x) t (own_of m) side a) [
      | inl old ↦ i.beside_its m y side s old
      | inr new ↦ sym (same_side x side new.1) ∙ i.beside_same m x y (subst (λ (k : ℕ). calls k x) (ap (λ (o : OpId). o.step) new.0) r) s
    ];
    gives = i.gives;
    names = i.names;
    apart = i.apart;
    older = λ op side a. elim (asked_before es (own_of n) (call.Recv x) t op side a) [ inl old ↦ i.older op side old | inr new ↦ subst (IsOlder line own) new.0 (i.beside_older n x r) ];
    its = λ op side w a g e. elim (asked_before es (own_of n) (call.Recv x) t op side a) [ inl old ↦ i.its op side w old g e | inr new ↦ absurd (no_first w.id n (e ∙ sym new.0) (i.names w g).0) ];
  }

  -- other calls stand beside others, which receive only where they did
  pub going_beside : (now : ℕ → OpId → Type 0) → ((n : ℕ) (x : OpId) → now n x → calls n x) → Receivers R line own es records calls → Receivers R line own es records now
  going_beside now k i = record {
    beside_older = λ n x r. i.beside_older n x (k n x r);
    beside_same = λ n x y r s. i.beside_same n x y (k n x r) (k n y s);
    beside_began = λ n x r. i.beside_began n x (k n x r);
    beside_its = λ n x side r a. i.beside_its n x side (k n x r) a;
    gives = i.gives;
    names = i.names;
    apart = i.apart;
    older = i.older;
    its = i.its;
  }

  -- a receive of the line is a call's, whose name wasn't given before
  pub beside_begins : (side : OpId) (next : Own) → R line → (IsOlder line own (own_of line) → ⊥) → IsOlder line next (own_of line) → Grows line own next → GivesLater next → Receivers R line own es records calls → Receivers R line next es records (OneMore calls line side)
  beside_begins side next its new given l later i = record {
    beside_began = λ n x r. elim r [ inl e ↦ subst R (sym e.0) its | inr old ↦ i.beside_began n x old ];
    beside_older = λ n x r. elim r [ inl e ↦ subst (λ (k : ℕ). IsOlder line next (own_of k)) (sym e.0) given | inr old ↦ l (own_of n) (i.beside_older n x old) ];
    beside_same = λ n x y r s. elim r [
      | inl e ↦ elim s [ inl f ↦ e.1 ∙ sym f.1 | inr old ↦ absurd (new (subst (λ (k : ℕ). IsOlder line own (own_of k)) e.0 (i.beside_older n y old))) ]
      | inr old ↦ elim s [ inl f ↦ absurd (new (subst (λ (k : ℕ). IsOlder line own (own_of k)) f.0 (i.beside_older n x old))) | inr more ↦ i.beside_same n x y old more ]
    ];
    beside_its = λ n x at r a. elim r [ inl e ↦ absurd (new (subst (λ (k : ℕ). IsOlder line own (own_of k)) e.0 (i.older (own_of n) at a))) | inr old ↦ i.beside_its n x at old a ];
    gives = later;
    names = λ w g. ((i.names w g).0, l w.id (i.names w g).1);
    apart = i.apart;
    older = λ op at a. l op (i.older op at a);
    its = i.its;
  }
