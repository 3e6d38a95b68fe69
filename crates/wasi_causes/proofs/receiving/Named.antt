-- The names of operations: a receive in progress has a name of its own, which isn't a line's first one; a connect of a UDP socket and a
-- write have the first one of their line.
use Rattle.wasi_causes.proofs.Words.{Done, End, Given, Item, List, None, OpId, Operation, Option, Refused, Some, Streams, TcpRecord, Waits, WriteState, ap, collected, inl, inr, refl, subst, sym, ℕ, ⊤, ◌∙◌, ◌≡◌, ◌⊎◌}
use Rattle.wasi_walks.proofs.Words.{closed_by, written_by, ◌≤◌}
use Rattle.wasi_world.specs.Operation as item
use Rattle.udp_records.specs.Receiving.{receive_left}
use Rattle.wasi_records.specs.Numbered.{record_gone}
use Rattle.wasi_records.specs.Records.{tcp2_at, tcp2_of, tcp2_put, tcp2_pushed, udp2_at, udp2_of, udp2_put, udp2_pushed}
use Rattle.lookup_records.specs.declared.name_lookup.LookupOp.{LookupOp}
use Rattle.wasi_records.specs.declared.records.Record.{Record}
use Rattle.udp_records.specs.declared.udp.UdpRecord.{UdpRecord}
use Rattle.wasi_walks.proofs.GoneLists.{was_there}
use Rattle.wasi_walks.proofs.walks.Here.{Grows, IsOlder}
pub use Rattle.wasi_walks.proofs.walks.Later.{GivesLater}
use Rattle.wasi_walks.proofs.walks.Moves.{Collects, Closes, KeepsOp, Lasts, LastsAfter, Own, Permits, SameSockets, WriterMoves, receive_op, receiving_in}
use Rattle.wasi_walks.proofs.Places.{push_found, push_new, push_was, put_found, put_was, tcp_sort, udp_sort}

-- == of a record
abbrev pub name_of_op : Option Operation → Option OpId
name_of_op (Some op) = Some op.who.id
name_of_op None = None

abbrev pub receive_name : UdpRecord → Option OpId
receive_name (UdpRecord.Open o) = name_of_op (receiving_in o.incoming)
receive_name u = None

abbrev pub connect_name : UdpRecord → Option OpId
connect_name (UdpRecord.Open o) = name_of_op o.connecting
connect_name u = None

abbrev pub job_name : WriteState → Option OpId
job_name (WriteState.Writing job) = Some job.write.who.id
job_name (WriteState.Closing job) = Some job.write.who.id
job_name _ = None

abbrev pub streams_name : Option Streams → Option OpId
streams_name (Some s) = job_name s.writer
streams_name None = None

-- it is the first name of a line
abbrev pub IsFirst : Option OpId → Type 0
IsFirst (Some x) = x.part ≡ 0
IsFirst None = ⊤

-- == of all of them
pub record NamesApart (line : ℕ) (own : Own) (records : List Record) : Type 0 where
  pub later : (k : ℕ) (u : UdpRecord) (x : OpId) → udp2_at records k ≡ Some u → receive_name u ≡ Some x → (1 ≤ x.part) × IsOlder line own x
  pub apart : (i k : ℕ) (u v : UdpRecord) (x : OpId) → udp2_at records i ≡ Some u → udp2_at records k ≡ Some v → receive_name u ≡ Some x → receive_name v ≡ Some x → i ≡ k
  pub connects : (k : ℕ) (u : UdpRecord) → udp2_at records k ≡ Some u → IsFirst (connect_name u)
  pub writes : (k : ℕ) (r : TcpRecord) → tcp2_at records k ≡ Some r → IsFirst (streams_name r.streams)
  pub gives : GivesLater own

module _ (line : ℕ) where
  -- what the line has begun changes
  pub owns_apart : (own now : Own) (records : List Record) → Grows line own now → GivesLater now → NamesApart line own records → NamesApart line now records
  owns_apart own now records l g i = record { later = λ k u x e r. ((i.later k u x e r).0, l x (i.later k u x e r).1); apart = i.apart; connects = i.connects; writes = i.writes; gives = g }

  module _ (own : Own) (records : List Record) where
    -- a TCP socket changes, or joins them
    pub put_tcp : (place : ℕ) (now : TcpRecord) → IsFirst (streams_name now.streams) → NamesApart line own records → NamesApart line own (tcp2_put records place now)
    put_tcp place now f i = record {
      later = λ k u x e r. i.later k u x (put_was tcp_sort udp_sort (λ t. refl) records place now k u e) r;
      apart = λ a b u v x e g r s. i.apart a b u v x (put_was tcp_sort udp_sort (λ t. refl) records place now a u e) (put_was tcp_sort udp_sort (λ t. refl) records place now b v g) r s;
      connects = λ k u e. i.connects k u (put_was tcp_sort udp_sort (λ t. refl) records place now k u e);
      writes = λ k r e. elim (put_found tcp_sort records place now k r e) [ inl p ↦ subst (λ (q : TcpRecord). IsFirst (streams_name q.streams)) p.1 f | inr p ↦ i.writes k r p ];
      gives = i.gives;
    }

    pub push_tcp : (now : TcpRecord) → IsFirst (streams_name now.streams) → NamesApart line own records → NamesApart line own (tcp2_pushed records now)
    push_tcp now f i = record {
      later = λ k u x e r. i.later k u x (push_was tcp_sort udp_sort (λ t. refl) records now k u e) r;
      apart = λ a b u v x e g r s. i.apart a b u v x (push_was tcp_sort udp_sort (λ t. refl) records now a u e) (push_was tcp_sort udp_sort (λ t. refl) records now b v g) r s;
      connects = λ k u e. i.connects k u (push_was tcp_sort udp_sort (λ t. refl) records now k u e);
      writes = λ k r e. elim (push_new tcp_sort records now k r e) [ inl p ↦ i.writes k r p | inr p ↦ subst (λ (q : TcpRecord). IsFirst (streams_name q.streams)) p f ];
      gives = i.gives;
    }

    -- a UDP socket changes: its receive has the name that it had, or is over
    module _ (place : ℕ) (old now : UdpRecord) (at : udp2_at records place ≡ Some old) (names : (receive_name now ≡ receive_name old) ⊎ (receive_name now ≡ None)) (i : NamesApart line own records) where
      -- it had the name before
      had : (k : ℕ) (u : UdpRecord) (x : OpId) → udp2_at (udp2_put records place now) k ≡ Some u → receive_name u ≡ Some x → (v : UdpRecord) × ((udp2_at records k ≡ Some v) × (receive_name v ≡ Some x))
      had k u x e r = elim (put_found udp_sort records place now k u e) [
        | inl p ↦ elim names [
          | inl same ↦ (old, (ap (udp2_at records) p.0 ∙ at, sym same ∙ (ap receive_name p.1 ∙ r)))
          | inr none ↦ absurd (let q : None ≡ Some x = sym none ∙ (ap receive_name p.1 ∙ r) in cc)
        ]
        | inr p ↦ (u, (p, r))
      ]

      pub put_udps : IsFirst (connect_name now) → NamesApart line own (udp2_put records place now)
      put_udps f = record {
        later = λ k u x e r. (let h = had k u x e r in i.later k h.0 x h.1.0 h.1.1);
        apart = λ a b u v x e g r s. (let h = had a u x e r in let j = had b v x g s in i.apart a b h.0 j.0 x h.1.0 j.1.0 h.1.1 j.1.1);
        connects = λ k u e. elim (put_found udp_sort records place now k u e) [ inl p ↦ subst (λ (v : UdpRecord). IsFirst (connect_name v)) p.1 f | inr p ↦ i.connects k u p ];
        writes = λ k r e. i.writes k r (put_was udp_sort tcp_sort (λ t. refl) records place now k r e);
        gives = i.gives;
      }

    -- a receive begins, by a name that was never given
    pub begins_apart : (place : ℕ) (now : UdpRecord) (x : OpId) (next : Own) → receive_name now ≡ Some x → IsFirst (connect_name now) → 1 ≤ x.part → (IsOlder line own x → ⊥) → IsOlder line next x → Grows line own next → GivesLater next
        → NamesApart line own records → NamesApart line next (udp2_put records place now)
    begins_apart place now x next its f part new given l g i = record {
      later = λ k u y e r. elim (put_found udp_sort records place now k u e) [
        | inl p ↦ (let q : x ≡ y = same y (ap receive_name p.1 ∙ r) in subst (λ (z : OpId). (1 ≤ z.part) × IsOlder line next z) q (part, given))
        | inr p ↦ (let b = i.later k u y p r in (b.0, l y b.1))
      ];
      apart = λ a b u v y e h r s. elim (put_found udp_sort records place now a u e) [
        | inl p ↦ elim (put_found udp_sort records place now b v h) [ inl q ↦ p.0 ∙ sym q.0 | inr q ↦ absurd (new (subst (IsOlder line own) (sym (same y (ap receive_name p.1 ∙ r))) (i.later b v y q s).1)) ]
        | inr p ↦ elim (put_found udp_sort records place now b v h) [ inl q ↦ absurd (new (subst (IsOlder line own) (sym (same y (ap receive_name q.1 ∙ s))) (i.later a u y p r).1)) | inr q ↦ i.apart a b u v y p q r s ]
      ];
      connects = λ k u e. elim (put_found udp_sort records place now k u e) [ inl p ↦ subst (λ (v : UdpRecord). IsFirst (connect_name v)) p.1 f | inr p ↦ i.connects k u p ];
      writes = λ k r e. i.writes k r (put_was udp_sort tcp_sort (λ t. refl) records place now k r e);
      gives = g;
    }
      where
        same : (y : OpId) → receive_name now ≡ Some y → x ≡ y
        same y e = let q : Some x ≡ Some y = sym its ∙ e in cc

    -- a UDP socket joins them, which does nothing yet
    pub push_udps : (now : UdpRecord) → receive_name now ≡ None → IsFirst (connect_name now) → NamesApart line own records → NamesApart line own (udp2_pushed records now)
    push_udps now none f i = record {
      later = λ k u x e r. elim (push_found udp_sort records now k u e) [ inl p ↦ i.later k u x p r | inr p ↦ absurd (no_name u x p.0 r) ];
      apart = λ a b u v x e g r s. elim (push_found udp_sort records now a u e) [
        | inl p ↦ elim (push_found udp_sort records now b v g) [ inl q ↦ i.apart a b u v x p q r s | inr q ↦ absurd (no_name v x q.0 s) ]
        | inr p ↦ absurd (no_name u x p.0 r)
      ];
      connects = λ k u e. elim (push_found udp_sort records now k u e) [ inl p ↦ i.connects k u p | inr p ↦ subst (λ (v : UdpRecord). IsFirst (connect_name v)) p.0 f ];
      writes = λ k r e. i.writes k r (push_was udp_sort tcp_sort (λ t. refl) records now k r e);
      gives = i.gives;
    }
      where
        no_name : (u : UdpRecord) (x : OpId) → now ≡ u → receive_name u ≡ Some x → ⊥
        no_name u x e r = let q : None ≡ Some x = sym none ∙ (ap receive_name e ∙ r) in absurd (cc)

    -- the sockets among them stay the same
    pub same_apart : {new : LookupOp → Type 0} (now : List Record) → SameSockets new records now → NamesApart line own records → NamesApart line own now
    same_apart now s i = record {
      later = λ k u x e r. i.later k u x (sym (s.udp k) ∙ e) r;
      apart = λ a b u v x e g r t. i.apart a b u v x (sym (s.udp a) ∙ e) (sym (s.udp b) ∙ g) r t;
      connects = λ k u e. i.connects k u (sym (s.udp k) ∙ e);
      writes = λ k r e. i.writes k r (sym (s.tcp k) ∙ e);
      gives = i.gives;
    }

    -- one is given back
    pub fewer_apart : (place : ℕ) → NamesApart line own records → NamesApart line own (record_gone records place)
    fewer_apart place i = record {
      later = λ k u x e r. i.later k u x (was_there udp2_of refl records place k u e) r;
      apart = λ a b u v x e g r t. i.apart a b u v x (was_there udp2_of refl records place a u e) (was_there udp2_of refl records place b v g) r t;
      connects = λ k u e. i.connects k u (was_there udp2_of refl records place k u e);
      writes = λ k r e. i.writes k r (was_there tcp2_of refl records place k r e);
      gives = i.gives;
    }

-- == names that stay
-- of a receive that is as it was, or is over
pub kept_name : (old now : Option Operation) → KeepsOp old now → (name_of_op now ≡ name_of_op old) ⊎ (name_of_op now ≡ None)
kept_name old now (inl e) = inl (ap name_of_op e)
kept_name old now (inr e) = inr (ap name_of_op e)

-- of one that is polled
pub polled_name : (op : Operation) (ended : End × List Item) → (name_of_op (receive_op (receive_left op ended)) ≡ Some op.who.id) ⊎ (name_of_op (receive_op (receive_left op ended)) ≡ None)
polled_name op (Waits, items) = inl refl
polled_name op (Done given, items) = inr (by_given given)
  where
    by_given : (given : Given) → name_of_op (receive_op (receive_left op (Done given, items))) ≡ None
    by_given (item.Datagram bytes a) = refl
    by_given _ = refl
polled_name op (Refused c given, items) = inr refl

-- of a write
pub collected_first : (w : WriteState) → IsFirst (job_name w) → IsFirst (job_name (collected w))
collected_first (WriteState.Ready half permit) f = f
collected_first (WriteState.Writing job) f = by_end job.end
  where
    by_end : (end : End) → IsFirst (job_name (written_by job end))
    by_end Waits = f
    by_end (Done given) = tt
    by_end (Refused c given) = tt
collected_first (WriteState.Closing job) f = by_end job.end
  where
    by_end : (end : End) → IsFirst (job_name (closed_by job end))
    by_end Waits = f
    by_end (Done given) = tt
    by_end (Refused c given) = tt
collected_first (WriteState.Closed e) f = f

pub moves_first : {most : ℕ} (old now : WriteState) → WriterMoves most old now → IsFirst (job_name old) → IsFirst (job_name now)
moves_first _ _ (Collects w) f = collected_first w f
moves_first _ _ (Permits half old n fits) f = f
moves_first _ _ (Lasts job) f = f
moves_first _ _ (LastsAfter job) f = f
moves_first _ _ (Closes w) f = tt
